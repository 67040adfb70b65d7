use Rattle.std.proofs.Common.{rules, ap, ◌∙◌, ℤ, ℕ, List, to_z-of_z, FitsSigned}
use Rattle.std.specs.Prelude.{slice_index}
use Rattle.std.specs.Int.{w128}
use Rattle.pta_base.specs.declared.place.Place.{Place}
use Rattle.core_tree.specs.declared.node.NodeKind.TheVariants.{Number}
use Rattle.c_types.specs.Table.{type_of}
use Rattle.c_consts.specs.Core.{leaf, kind_of}
use Rattle.c_consts.specs.Wrapped.{converted}
use Rattle.c_senses.specs.Given.{Fits}
use Rattle.c_senses.specs.Literals.{char_value}
use Rattle.c_senses.specs.Initialised.{text_bytes}
use Rattle.core_nodes.specs.Standing.{core_at}
use Rattle.core_nodes.proofs.Failing.{made_same}
use Rattle.c_initials.proofs.values.character.Goals as goal

pub returns-in-Some-clause-made : goal.returns-in-Some-clause-made
returns-in-Some-clause-made c = λ w s sense.
    let u = c.args.unit.now in
    let t = type_of u.types c.args.ty.0 in
    let fits : FitsSigned w128 c.character_in-value.result = search rules in
    let value = to_z-of_z fits ∙ c.character_in-value.ensures ∙ ap (λ (b : List ℕ). char_value (slice_index b c.args.position)) (c.text_bytes.ensures w s sense) in
    let whole : FitsSigned w128 c.in-Some.number = search rules in
    let number = c.of.ensures ∙ to_z-of_z whole ∙ c.in-Some.ensures.0 ∙ ap (converted t) value in
    made_same c.push_leaf.new.unit c.push_leaf.result _ _
    (ap (λ (n : ℤ). Fits (leaf (Number n) c.place_of_node-place.result t)) number ∙ ap (λ (p : Place). Fits (leaf (Number (converted t (char_value (slice_index (text_bytes w s sense (kind_of (core_at u c.args.node))) c.args.position)))) p t)) c.place_of_node-place.ensures)
    c.push_leaf.ensures.made
