use Rattle.std.proofs.Common.{◌≡◌, ◌∙◌, sym, ap}
use Rattle.c_types.specs.Trees.{Ctype}
use Rattle.c_types.specs.Table.{type_of}
use Rattle.core_tree.specs.Rows.{int}
use Rattle.c_senses.specs.passed.c_consts.Core.{Core, ctype_of}
use Rattle.c_senses.specs.Given.{Fits}
use Rattle.c_senses.specs.Conversions.{made, promoted, read_width, is_narrow}
use Rattle.core_nodes.specs.Standing.{core_at}
use Rattle.core_nodes.proofs.Failing.{made_same}
use Rattle.core_nodes.proofs.integers.promotion.Goals as goal

pub returns-clause-made : goal.returns-clause-made
returns-clause-made c w k =
    let u0 = c.args.unit.now in
    let u1 = c.int_type.new.unit in
    let node = c.args.node in
    let v : Core = core_at u0 node in
    let narrow = is_narrow (read_width w v) in
    let here : Ctype = type_of u0.types c.type_of_node-ty.result.0 in
    let kept : core_at u1 node ≡ v = c.in_ok-int.ensures.builds.cores node c.requires.node in
    let same : promoted here narrow ≡ promoted (ctype_of v) narrow = ap (λ (t : Ctype). promoted t narrow) c.type_of_node-ty.ensures.tree in
    let is_int : promoted (ctype_of v) narrow ≡ int = sym same ∙ (ap (promoted here) (sym (c.is_narrow-narrow.ensures w k)) ∙ c.if-not-promotes_to_int.ensures) in
    let target : type_of u1.types c.in_ok-int.int.0 ≡ int = c.in_ok-int.ensures.made in
    made_same c.as_type.new.unit c.as_type.result (Fits (made (type_of u1.types c.in_ok-int.int.0) (core_at u1 node))) (Fits (made (promoted (ctype_of v) narrow) v))
    (ap Fits (ap (λ (t : Ctype). made t (core_at u1 node)) target ∙ (ap (made int) kept ∙ ap (λ (t : Ctype). made t v) (sym is_int)))) c.as_type.ensures.made
