use Rattle.std.proofs.Common.{ℕ, List, [], ◌∷◌, ◌++◌, sym, ap, ◌∙◌, append_assoc}
use Rattle.name_chains.proofs.Scoped.{chain_on, chain_ends, chain_missing}
use Rattle.name_chains.proofs.scopes.scopes_from.Goals as goal

pub loop-here-preserved : goal.loop-here-preserved
loop-here-preserved c = λ chain h.
    let k = c.loop-here.invariant chain h in
    let here = c.in-Some.here in
    let m = chain_on c.args.scopes.now c.loop-here.at here k.0 (sym c.in-Some.ensures) c.if-here-at.false k.1 in
    (m.0, m.1, k.2 ∙ (ap (λ (l : List ℕ). c.loop-here.list.items ++ l) m.2 ∙ (sym (append_assoc c.loop-here.list.items (here.number ∷ []) m.0) ∙ ap (λ (l : List ℕ). l ++ m.0) (sym c.in_ok-push.ensures.items))))

pub returns-then-here-at : goal.returns-then-here-at
returns-then-here-at c = λ chain h.
    let k = c.loop-here.invariant chain h in
    let here = c.in-Some.here in
    c.in_ok-push.ensures.items ∙ sym (k.2 ∙ ap (λ (l : List ℕ). c.loop-here.list.items ++ l) (chain_ends c.args.scopes.now c.loop-here.at here k.0 (sym c.in-Some.ensures) c.if-here-at.true k.1))

pub returns : goal.returns
returns c = λ chain h.
    let k = c.loop-here.invariant chain h in
    absurd (chain_missing c.args.scopes.now c.loop-here.at k.0 (sym c.scope_at.ensures ∙ c.in_default.is) k.1)
