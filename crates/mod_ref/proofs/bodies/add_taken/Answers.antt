use Rattle.std.proofs.Common.{◌≡◌, true, refl, sym, ◌∙◌}
use Rattle.std.proofs.lemmas.Bool.{false≢true}
use Rattle.core_tree.specs.declared.node.NodeKind.{NodeKind}
use Rattle.core_tree.specs.declared.node.NodeKind.TheVariants.{NextArg}
use Rattle.sol_model.specs.Families.{Has, members}
use Rattle.row_numbers.specs.Setting.{list_row}
use Rattle.mod_ref.specs.declared.access.Access.{Access}
use Rattle.mod_ref.specs.declared.access.Access.TheVariants.{Read}
use Rattle.mod_ref.specs.Direct.{IsTaken, takes_argument}
use Rattle.mod_ref.specs.Gains.{In}
use Rattle.mod_ref.specs.Ground.{setting_in}
use Rattle.mod_ref.proofs.Gaining.{gains_as, gains_same}
use Rattle.mod_ref.proofs.bodies.add_taken.Goals as goal

taking : (access : Access) (kind : NodeKind) → takes_argument access kind ≡ true → kind ≡ NextArg
taking Read NextArg h = refl
taking access kind h = absurd (false≢true h)

pub returns-then-not-takes_argument-clause-gains : goal.returns-then-not-takes_argument-clause-gains
returns-then-not-takes_argument-clause-gains c =
    gains_same _ _ (λ r l h. false≢true (sym c.if-not-takes_argument.true ∙ (c.takes_argument.ensures ∙ h.1.0)))

pub list_row-from-requires-clause-takes : goal.list_row-from-requires-clause-takes
list_row-from-requires-clause-takes c = (c.args.node.now, c.requires.node, taking c.args.access c.args.node.now.kind (sym c.takes_argument.ensures ∙ c.if-not-takes_argument.false))

pub returns-clause-gains : goal.returns-clause-gains
returns-clause-gains c =
    let g = c.args.ground.now in
    gains_as c.args.touched.now c.insert_members.new.touched (In c.args.row (Has (members g.rows.now) c.list_row-from.result)) (In c.args.row (IsTaken (setting_in g) (members g.rows.now) c.args.access c.args.n c.args.node.now.kind))
    c.in_ok-insert_members.ensures.gains
    (λ r l h. (h.0, (sym c.takes_argument.ensures ∙ c.if-not-takes_argument.false, rw c.list_row-from.ensures.value at h.1)))
    (λ r l h. (h.0, rw c.list_row-from.ensures.value h.1.1))
