use Rattle.std.proofs.Common.{refl, ap}
use Rattle.c_types.specs.Table.{TagMembers, members_among}
use Rattle.core_tree.specs.declared.node.Unit.{Unit}
use Rattle.std.proofs.Common.{List}
use Rattle.core_nodes.proofs.Growing.{type_builds}
use Rattle.carried_trees.proofs.carrying.add_types.Goals as goal

pub returns-in-Ok-clause-builds : goal.returns-in-Ok-clause-builds
returns-in-Ok-clause-builds c =
    let old = c.args.unit.now in
    let new : Unit = record old { types = c.carried_types.new.types } in
    let grown = c.carried_types.ensures.grown in
    type_builds old new c.requires.ready refl grown.types grown.terms grown.tags c.type_count-count.ensures.made (λ tag. ap (λ (cs : List TagMembers). members_among cs tag) grown.completed) grown.extents refl grown.once

pub returns-in-Err-clause-builds : goal.returns-in-Err-clause-builds
returns-in-Err-clause-builds c =
    let old = c.args.unit.now in
    let new : Unit = record old { types = c.carried_types.new.types } in
    let grown = c.carried_types.ensures.grown in
    type_builds old new c.requires.ready refl grown.types grown.terms grown.tags c.type_count-count.ensures.made (λ tag. ap (λ (cs : List TagMembers). members_among cs tag) grown.completed) grown.extents refl grown.once
