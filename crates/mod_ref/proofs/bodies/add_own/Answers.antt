use Rattle.std.proofs.lemmas.Option.{slice_get_within}
use Rattle.sol_model.specs.Families.{members}
use Rattle.mod_ref.specs.Direct.{IsInBody}
use Rattle.mod_ref.specs.Ground.{setting_in}
use Rattle.mod_ref.proofs.Gaining.{gains_same}
use Rattle.mod_ref.proofs.Reaching.{match_none, own_gains}
use Rattle.mod_ref.proofs.bodies.add_own.Goals as goal

pub returns-in_default-clause-gains : goal.returns-in_default-clause-gains
returns-in_default-clause-gains c = gains_same _ _ (λ f l h. match_none c.function_around.result _ _ c.function_around.ensures (λ n is. c.in_default.not-Some n is) f h.inside)

pub add_node-requires-clause-row : goal.add_node-requires-clause-row
add_node-requires-clause-row c = let inside = c.in-Some.ensures in slice_get_within c.args.ground.now.system.now.functions c.in-Some.f inside.function inside.known

pub returns-clause-gains : goal.returns-clause-gains
returns-clause-gains c =
    let g = c.args.ground.now in
    own_gains (setting_in g) g.system.now (members g.rows.now) c.args.access c.args.n c.in-Some.f c.args.touched.now c.add_node.new.touched c.requires.ground.valid c.requires.node c.in-Some.ensures c.in_ok-add_node.ensures.gains
