use Rattle.std.proofs.Common.{◌≡◌, Some, slice_get, refl, sym, ◌∙◌, subst}
use Rattle.std.proofs.lemmas.Option.{same_Some, slice_get_read}
use Rattle.core_tree.specs.declared.node.Node.{Node}
use Rattle.sol_model.specs.Families.{members}
use Rattle.mod_ref.specs.Direct.{IsAccessed, IsFilled, IsTaken, NodeTouches}
use Rattle.mod_ref.specs.Gains.{Gains, In}
use Rattle.mod_ref.specs.Ground.{setting_in}
use Rattle.mod_ref.proofs.Gaining.{gains_three}
use Rattle.mod_ref.proofs.bodies.add_node.Goals as goal

pub add_taken-requires-clause-node : goal.add_taken-requires-clause-node
add_taken-requires-clause-node c = slice_get_read c.args.ground.now.program.now.nodes.items _ c.args.n c.index-node.result.now refl c.requires.node c.index-node.ensures

pub returns-clause-gains : goal.returns-clause-gains
returns-clause-gains c = λ node at.
    let g = c.args.ground.now in
    let one : Node = c.index-node.result.now in
    let there : slice_get g.program.now.nodes.items c.args.n ≡ Some one = slice_get_read g.program.now.nodes.items _ c.args.n one refl c.requires.node c.index-node.ensures in
    subst (λ (x : Node). Gains c.args.touched.now c.add_taken.new.touched (In c.args.row (NodeTouches (setting_in g) g.system.now (members g.rows.now) c.args.access c.args.n x))) (same_Some one node (sym there ∙ at))
    (gains_three c.args.touched.now c.add_accessed.new.touched c.add_filled.new.touched c.add_taken.new.touched c.args.row
    (IsAccessed (setting_in g) g.system.now (members g.rows.now) c.args.access one) (IsFilled (setting_in g) g.system.now c.args.access one.kind) (IsTaken (setting_in g) (members g.rows.now) c.args.access c.args.n one.kind)
    c.in_ok-add_accessed.ensures.gains c.add_filled.ensures.gains c.in_ok-add_taken.ensures.gains)
