use Rattle.std.proofs.Common.{List, ℕ, sym, ap, ◌∙◌, subst}
use Rattle.c_senses.specs.Tree.{children_at}
use Rattle.c_senses.specs.Sense.{sense_in}
use Rattle.c_senses.specs.Tags.{members_among}
use Rattle.c_results.specs.Standing.{senses_made}
use Rattle.tree_reads.specs.Sources.{source_read, source_in}
use Rattle.c_structures.specs.Named.{SaysNames}
use Rattle.c_structures.specs.Before.{Covers, ascends, parts_below}
use Rattle.c_structures.proofs.Preceding.{says_both}
use Rattle.c_structures.proofs.lists.moved.Goals as goal

pub returns-clause-earlier : goal.returns-clause-earlier
returns-clause-earlier c = λ open_list u w uses.
    let s = source_in c.args.syntax.now uses in
    let results = c.args.results.now in
    let sense = sense_in (senses_made u results) in
    let list = children_at (source_read c.args.syntax.now) c.args.list in
    let own = children_at (source_read c.args.syntax.now) c.args.before.member in
    let whole_covers : Covers results c.children_of.result.now c.args.before.whole = subst (λ (ns : List ℕ). Covers results ns c.args.before.whole) (sym c.children_of.ensures) open_list.whole in
    let part_covers : Covers results c.children_of-2.result.now c.args.before.part = subst (λ (ns : List ℕ). Covers results ns c.args.before.part) (sym c.children_of-2.ensures) open_list.part in
    let whole_below = c.in_ok-whole.ensures.below whole_covers (ap ascends c.children_of.ensures ∙ open_list.whole_ascends) in
    let part_below = c.in_ok-part.ensures.below part_covers (ap ascends c.children_of-2.ensures ∙ open_list.part_ascends) in
    let whole : SaysNames c.in_ok-whole.whole.names (parts_below w s sense list c.args.before.member)
    = subst (λ (ns : List ℕ). SaysNames c.in_ok-whole.whole.names (parts_below w s sense ns c.args.before.member)) c.children_of.ensures
    (subst (λ (ns : List ℕ). SaysNames c.in_ok-whole.whole.names (members_among w s sense ns)) whole_below ((c.in_ok-whole.ensures.covers whole_covers).names u w s)) in
    let part : SaysNames c.in_ok-part.part.names (parts_below w s sense own c.args.at)
    = subst (λ (ns : List ℕ). SaysNames c.in_ok-part.part.names (parts_below w s sense ns c.args.at)) c.children_of-2.ensures
    (subst (λ (ns : List ℕ). SaysNames c.in_ok-part.part.names (members_among w s sense ns)) part_below ((c.in_ok-part.ensures.covers part_covers).names u w s)) in
    says_both (record { whole = c.in_ok-whole.whole; member = c.args.before.member; part = c.in_ok-part.part }) (parts_below w s sense list c.args.before.member) (parts_below w s sense own c.args.at) whole part
