use Rattle.std.proofs.Common.{◌≡◌, ℕ, List, [], Option, Some, sym, subst}
use Rattle.c_inits.specs.Made.{Part}
use Rattle.c_senses.specs.Sense.{sense_in}
use Rattle.c_senses.specs.Tree.{parent_of}
use Rattle.c_results.specs.Standing.{senses_made}
use Rattle.tree_reads.specs.Sources.{source_in}
use Rattle.c_structures.specs.Named.{SaysNames}
use Rattle.c_structures.specs.Before.{SaysEarlier, parts_before}
use Rattle.c_structures.proofs.Preceding.{earlier_some, earlier_none}
use Rattle.c_structures.proofs.earlier.members_before.Goals as goal

pub returns-in_default : goal.returns-in_default
returns-in_default c = λ u w uses.
    let s = source_in c.args.syntax.now uses in
    let sense = sense_in (senses_made u c.args.results.now) in
    subst (λ (ps : List Part). SaysEarlier c.both.result ps) (sym (earlier_none w s sense c.args.at (sym c.in_default.ensures.parent)))
    (c.both.ensures [] [] c.new.ensures c.new-in_default.ensures)

pub returns : goal.returns
returns c = λ u w uses.
    let s = source_in c.args.syntax.now uses in
    let sense = sense_in (senses_made u c.args.results.now) in
    let up : parent_of s c.args.at ≡ Some c.in-Some.member = sym c.in-Some.ensures.parent in
    let whole = subst (λ (o : Option ℕ). SaysNames c.in_ok-whole.whole (parts_before w s sense o c.in-Some.member)) c.parent_of-2.ensures.parent (c.in_ok-whole.ensures u w uses) in
    let part = c.in_ok-part.ensures u w uses in
    let both = c.both-2.ensures (parts_before w s sense (parent_of s c.in-Some.member) c.in-Some.member) (parts_before w s sense (Some c.in-Some.member) c.args.at) whole part in
    subst (λ (ps : List Part). SaysEarlier c.both-2.result ps) (sym (earlier_some w s sense c.args.at c.in-Some.member up)) both
