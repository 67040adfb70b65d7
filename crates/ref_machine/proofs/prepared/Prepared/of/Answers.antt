use Rattle.std.proofs.Common.{List, ap, subst}
use Rattle.core_tree.specs.declared.node.Entity.{Entity}
use Rattle.core_tree.specs.Typed.{CoreTrees}
use Rattle.obj_space.specs.View.{view_of}
use Rattle.ref_state.specs.ref_types.Types.{types_with}
use Rattle.ref_blocks.specs.Plans.{IsPlan}
use Rattle.ref_frames.specs.Made.{AreParameters}
use Rattle.ref_machine.proofs.PreparedFacts.{prepared_of}
use Rattle.ref_machine.proofs.prepared.Prepared.of.Goals as goal

pub returns : goal.returns
returns c =
    let p = c.args.program.now in
    let trees = c.trees_over-trees.ensures in
    prepared_of p _ c.requires c.type_count.ensures.made c.in_ok-types.ensures.table c.in_ok-types.ensures.ids c.in-Ok.ensures.locations
    (subst (λ (u : CoreTrees). IsPlan u c.in_ok-plan.plan) trees c.in_ok-plan.ensures)
    (subst (λ (es : List Entity). let u : CoreTrees = record { types = types_with p.types; nodes = p.nodes.items; entities = es } in AreParameters u (view_of c.in-Ok.space) c.in_ok-parameters.parameters.items)
    (ap (λ (u : CoreTrees). u.entities) trees) (c.in_ok-parameters.ensures (types_with p.types) p.nodes.items))
