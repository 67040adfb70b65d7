use Rattle.std.proofs.Common.{sym, subst, refl, Option}
use Rattle.c_types.specs.Trees.{Ctype}
use Rattle.c_senses.specs.Sense.{sense_in}
use Rattle.c_results.specs.Standing.{senses_made, TypeSeen}
use Rattle.c_results.specs.Parts.{type_in}
use Rattle.tree_reads.specs.Sources.{source_read}
use Rattle.c_structures.proofs.Gathering.{untagged_some, untagged_none}
use Rattle.c_structures.proofs.members.untagged_type.Goals as goal

pub returns-in-Some-clause-seen : goal.returns-in-Some-clause-seen
returns-in-Some-clause-seen c = λ u w.
    let s = source_read c.args.syntax.now in
    let sense = sense_in (senses_made u c.args.results.now) in
    subst (λ (o : Option Ctype). TypeSeen u c.type_at.result o) (sym (untagged_some w s sense c.args.specs c.in-Some.node (type_in (sense c.in-Some.node)) (c.in-Some.ensures w sense) refl)) (c.type_at.ensures.seen u)

pub returns-in-None-clause-seen : goal.returns-in-None-clause-seen
returns-in-None-clause-seen c = λ u w.
    let sense = sense_in (senses_made u c.args.results.now) in
    untagged_none w (source_read c.args.syntax.now) sense c.args.specs (c.in-None.ensures w sense)
