use Rattle.std.proofs.Common.{◌≡◌, ◌+◌, ◌-◌, Option, Some, None, refl, ap, subst, ◌∙◌, arith}
use Rattle.pta_base.specs.declared.kind.Kind.{Kind}
use Rattle.c_grammar.specs.Notes.{noted}
use Rattle.c_grammar.specs.Refusals.{refusal}
use Rattle.c_grammar.specs.Productions.{p_cast}
use Rattle.c_grammar.specs.Reads.{State, Walks, first, second}
use Rattle.c_parser.specs.declared.reader.Own.{Own}
use Rattle.c_parser.specs.Parse.{state}
use Rattle.c_parser.specs.Levels.{nested}
use Rattle.c_parser.specs.Leads.{Kept, kept, Rises}
use Rattle.c_parser.proofs.Chains.{chained_parts, clean, begins, chain_room, opens_chain, chain_refused, outside_is}
use Rattle.c_parser.proofs.reader.open_levels.Goals as goal

pub nested_within-requires-clause-from : goal.nested_within-requires-clause-from
nested_within-requires-clause-from c = (chained_parts c.args.outermost c.args.depth c.requires.chained).0

pub nested_within-requires-clause-to : goal.nested_within-requires-clause-to
nested_within-requires-clause-to c = let p = chained_parts c.args.outermost c.args.depth c.requires.chained in omega (arith, p.1)

pub overflow_add-result : goal.overflow_add-result
overflow_add-result c = let p = chained_parts c.args.outermost c.args.depth c.requires.chained in omega (arith, p.2, c.nested_within.ensures.few)

pub returns-in-Some : goal.returns-in-Some
returns-in-Some c = λ scopes nodes sees.
    let i = c.args.input in
    let s = state c.args.ahead.place scopes nodes c.args.own.now in
    let q = c.args.outermost in
    let p = chained_parts q c.args.depth c.requires.chained in
    let a = sees.0 in
    let b = sees.1 in
    let e : refusal p_cast (first i.text.now i.tokens.now s) (second i.text.now i.tokens.now s) ≡ Some c.in-Some.kind = cc in
    chain_refused i.text.now i.tokens.now q c.args.depth (c.args.depth + nested (p_cast - q) p_cast) s c.in-Some.kind p.0 p.1 refl (chain_room q c.args.depth p.0 p.1 p.2) e

pub returns : goal.returns
returns c = λ scopes nodes sees y z w h.
    let i = c.args.input in
    let s = state c.args.ahead.place scopes nodes c.args.own.now in
    let q = c.args.outermost in
    let p = chained_parts q c.args.depth c.requires.chained in
    let a = sees.0 in
    let b = sees.1 in
    let e : ◌≡◌ {A = Option Kind} (refusal p_cast (first i.text.now i.tokens.now s) (second i.text.now i.tokens.now s)) None = cc in
    let deep : c.args.depth + c.nested_within.result ≡ c.args.depth + nested (p_cast - q) p_cast = ap (λ n. c.args.depth + n) c.nested_within.ensures.is in
    let begun : state c.args.ahead.place scopes nodes c.replace.new.dest ≡ clean s = begins c.args.ahead.place scopes nodes c.args.own.now c.replace.new.dest
    (ap (λ (o : Own). o.children.items) c.replace.ensures.after ∙ c.new.ensures.items) (ap (λ (o : Own). noted o.notes) c.replace.ensures.after ∙ c.new-2.ensures) in
    let walks = subst (λ (x : State). Walks i.text.now i.tokens.now p_cast 0 (c.args.depth + c.nested_within.result) x y) begun w in
    let own : kept (Some c.replace.result) ≡ Some (s.children, s.notes) = ap (λ (o : Own). kept (Some o)) c.replace.ensures.value in
    let rises = subst (λ n. Rises i.text.now i.tokens.now n p_cast (c.args.depth + c.nested_within.result) c.args.ahead.place (kept (Some c.replace.result)) y z) (outside_is q p_cast p.0 (omega (arith, p.1)) (omega arith)) h in
    opens_chain i.text.now i.tokens.now q c.args.depth (c.args.depth + c.nested_within.result) s y z p.0 p.1 deep (omega (arith, p.2, c.nested_within.ensures.few)) e walks
    (subst (λ (k : Kept). Rises i.text.now i.tokens.now (p_cast - q) p_cast (c.args.depth + c.nested_within.result) c.args.ahead.place k y z) own rises)
