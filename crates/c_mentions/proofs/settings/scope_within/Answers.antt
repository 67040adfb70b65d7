use Rattle.std.proofs.Common.{◌≡◌, ◌++◌, ◌∷◌, [], length, sym, subst, arith}
use Rattle.c_mentions.specs.Settings.{IsChain, with_scope}
use Rattle.c_mentions.proofs.Chains.{chain_more}
use Rattle.c_mentions.proofs.settings.scope_within.Goals as goal

pub returns-in_ok-push-in-Some-clause-chain : goal.returns-in_ok-push-in-Some-clause-chain
returns-in_ok-push-in-Some-clause-chain c = λ around h.
    let old = c.args.scopes.now.items in
    let place : length old ≡ c.in_ok-scope-in-Some.scope = omega (arith, c.in_ok-scope-in-Some.ensures, c.len.ensures, c.args.scopes.now.ok) in
    let k = chain_more old c.in-Some.number c.args.outer around h in
    subst (λ o. IsChain c.push.new.self.items c.in_ok-scope-in-Some.scope (with_scope o around)) (sym c.in-Some.is)
    (subst (λ l. IsChain l c.in_ok-scope-in-Some.scope (c.in-Some.number ∷ around)) (sym c.in_ok-push-in-Some.ensures.items)
    (subst (λ n. IsChain (old ++ (record { number = c.in-Some.number; outer = c.args.outer }) ∷ []) n (c.in-Some.number ∷ around)) place k))
