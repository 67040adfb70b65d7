use Rattle.std.proofs.Common.{refl}
use Rattle.core_tree.specs.declared.node.Unit.{Unit}
use Rattle.carried_trees.specs.carried_types.Terms.{tag_type}
use Rattle.carried_trees.proofs.carried_types.Widening.{wider_added}
use Rattle.carried_trees.proofs.Extending.{wider_extends, table_filled}
use Rattle.carried_trees.proofs.tags.complete_in.Goals as goal

pub returns-in-Ok-clause-extends : goal.returns-in-Ok-clause-extends
returns-in-Ok-clause-extends c =
    let old = c.args.unit.now in
    let new : Unit = record old { types = c.complete_tags.new.types } in
    wider_extends old new c.type_count-count.ensures.made
    (wider_added (tag_type old.types c.args.tags.now) c.args.walked.now old.types new.types c.complete_tags.ensures.added) c.requires.ready refl refl

pub returns-in-Err-clause-extends : goal.returns-in-Err-clause-extends
returns-in-Err-clause-extends c =
    let old = c.args.unit.now in
    let new : Unit = record old { types = c.complete_tags.new.types } in
    wider_extends old new c.type_count-count.ensures.made
    (wider_added (tag_type old.types c.args.tags.now) c.args.walked.now old.types new.types c.complete_tags.ensures.added) c.requires.ready refl refl

pub returns-in-Ok-clause-filled : goal.returns-in-Ok-clause-filled
returns-in-Ok-clause-filled c = λ members are all.
    let old = c.args.unit.now in
    let new : Unit = record old { types = c.complete_tags.new.types } in
    table_filled (tag_type old.types c.args.tags.now) c.args.walked.now members are old new c.complete_tags.ensures.added (c.in-Ok.ensures.complete all)
