use Rattle.std.proofs.Common.{refl}
use Rattle.core_tree.specs.declared.node.Unit.{Unit}
use Rattle.carried_trees.proofs.Extending.{wider_extends, same_parts}
use Rattle.carried_trees.proofs.tags.open_in.Goals as goal

pub returns-in-Ok-clause-extends : goal.returns-in-Ok-clause-extends
returns-in-Ok-clause-extends c =
    let old = c.args.unit.now in
    let new : Unit = record old { types = c.open_tag.new.types } in
    wider_extends old new c.type_count-count.ensures.made c.open_tag.ensures.wider c.requires.ready refl refl

pub returns-in-Ok-clause-parts : goal.returns-in-Ok-clause-parts
returns-in-Ok-clause-parts c =
    let old = c.args.unit.now in
    let new : Unit = record old { types = c.open_tag.new.types } in
    same_parts old new c.type_count-count.ensures.made c.open_tag.ensures.wider c.open_tag.ensures.completed

pub returns-in-Err-clause-extends : goal.returns-in-Err-clause-extends
returns-in-Err-clause-extends c =
    let old = c.args.unit.now in
    let new : Unit = record old { types = c.open_tag.new.types } in
    wider_extends old new c.type_count-count.ensures.made c.open_tag.ensures.wider c.requires.ready refl refl

pub returns-in-Err-clause-parts : goal.returns-in-Err-clause-parts
returns-in-Err-clause-parts c =
    let old = c.args.unit.now in
    let new : Unit = record old { types = c.open_tag.new.types } in
    same_parts old new c.type_count-count.ensures.made c.open_tag.ensures.wider c.open_tag.ensures.completed
