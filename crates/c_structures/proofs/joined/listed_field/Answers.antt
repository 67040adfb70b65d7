use Rattle.std.proofs.Common.{◌≡◌, ◌++◌, ℕ, List, Option, Some, sym, ap, ◌∙◌, subst}
use Rattle.c_inits.specs.Made.{Part}
use Rattle.c_senses.specs.Sense.{sense_in}
use Rattle.c_senses.specs.Tags.{earlier_parts}
use Rattle.c_results.specs.Standing.{senses_made}
use Rattle.tree_reads.specs.Sources.{source_in}
use Rattle.c_structures.specs.Before.{SaysEarlier, parts_before}
use Rattle.c_structures.proofs.Preceding.{earlier_some}
use Rattle.c_structures.proofs.joined.listed_field.Goals as goal

pub returns-in_default-found-clause-lists : goal.returns-in_default-found-clause-lists
returns-in_default-found-clause-lists c = c.found.ensures.lists c.args.results.now c.requires.lists

pub returns-in_default-moved-clause-lists : goal.returns-in_default-moved-clause-lists
returns-in_default-moved-clause-lists c = c.found.ensures.lists c.args.results.now c.requires.lists

pub returns-then-kept-clause-lists : goal.returns-then-kept-clause-lists
returns-then-kept-clause-lists c =
    c.keep-kept.ensures c.args.syntax.now c.args.results.now (c.in-Ok.ensures.open (c.in-Some-found.ensures.open c.args.results.now c.requires.lists)) (c.found.ensures.lists c.args.results.now c.requires.lists)

pub returns-else-kept-clause-lists : goal.returns-else-kept-clause-lists
returns-else-kept-clause-lists c =
    c.keep-kept.ensures c.args.syntax.now c.args.results.now (c.in-Ok.ensures.open (c.in-Some-found.ensures.open c.args.results.now c.requires.lists)) (c.found.ensures.lists c.args.results.now c.requires.lists)

pub returns-then-kept-clause-row : goal.returns-then-kept-clause-row
returns-then-kept-clause-row c = λ w uses k flexible.
    let s = source_in c.args.syntax.now uses in
    let sense = sense_in (senses_made c.args.unit.now c.args.results.now) in
    let own = c.in-Some.member in
    let begun : SaysEarlier c.in-Ok.before (parts_before w s sense (Some c.in-Some.list) c.in-Some-found.begun.member ++ parts_before w s sense (Some c.in-Some-found.begun.member) c.args.at)
    = c.in-Ok.ensures.earlier (c.in-Some-found.ensures.open c.args.results.now c.requires.lists) c.args.unit.now w uses in
    let same : c.in-Some-found.begun.member ≡ own = c.in-Some-found.ensures.member in
    let said : SaysEarlier c.in-Ok.before (parts_before w s sense (Some c.in-Some.list) own ++ parts_before w s sense (Some own) c.args.at)
    = subst (λ (m : ℕ). SaysEarlier c.in-Ok.before (parts_before w s sense (Some c.in-Some.list) m ++ parts_before w s sense (Some m) c.args.at)) same begun in
    let parts : earlier_parts w s sense c.args.at ≡ parts_before w s sense (Some c.in-Some.list) own ++ parts_before w s sense (Some own) c.args.at
    = earlier_some w s sense c.args.at own c.in-Some.ensures.0
    ∙ ap (λ (o : Option ℕ). parts_before w s sense o own ++ parts_before w s sense (Some own) c.args.at) c.in-Some.ensures.1 in
    c.field_row-made.ensures.row w uses k flexible (subst (λ (ps : List Part). SaysEarlier c.in-Ok.before ps) (sym parts) said)
