use Rattle.std.proofs.Common.{◌≡◌, ◌∙◌, Bool, false, sym, ap, subst}
use Rattle.std.specs.Prelude.{if◌then◌else◌}
use Rattle.c_types.specs.Trees.{Ctype}
use Rattle.c_types.specs.Table.{type_of}
use Rattle.c_consts.specs.Core.{Core, ctype_of}
use Rattle.c_senses.specs.Given.{Fits}
use Rattle.c_senses.specs.World.{same_type}
use Rattle.c_senses.specs.Conversions.{OperandSort, operand_of}
use Rattle.c_senses.specs.Operators.{pointers_joined}
use Rattle.core_nodes.specs.Standing.{core_at}
use Rattle.core_nodes.specs.Sorts.{sort_seen}
use Rattle.c_operators.specs.Seen.{BothGiven}
use Rattle.value_rows.specs.Choices.{pair}
use Rattle.value_rows.proofs.choices.alike_or_joined.Goals as goal

pub returns-clause-made : goal.returns-clause-made
returns-clause-made c =
    let u = c.args.unit.now in
    let at = c.args.at in
    let a : Core = core_at u c.args.a in
    let b : Core = core_at u c.args.b in
    let x : Ctype = type_of u.types c.type_of_node-left.result.0 in
    let y : Ctype = type_of u.types c.type_of_node-right.result.0 in
    let left : same_type (ctype_of a) (ctype_of b) ≡ same_type x (ctype_of b) = ap (λ (t : Ctype). same_type t (ctype_of b)) (sym c.type_of_node-left.ensures.tree) in
    let right : same_type x (ctype_of b) ≡ same_type x y = ap (λ (t : Ctype). same_type x t) (sym c.type_of_node-right.ensures.tree) in
    let differ : same_type (ctype_of a) (ctype_of b) ≡ false = left ∙ (right ∙ (sym c.same_types.ensures ∙ c.if-same_types.false)) in
    subst (λ (t : Bool). BothGiven c.pointers_joined.new.unit c.pointers_joined.result (if t then Fits (pair a b) else pointers_joined at a b (operand_of (ctype_of a)) (operand_of (ctype_of b)))) (sym differ)
    (subst (λ (s : OperandSort). BothGiven c.pointers_joined.new.unit c.pointers_joined.result (pointers_joined at a b s (operand_of (ctype_of b)))) c.sort_of_node-x.ensures.sort
    (subst (λ (s : OperandSort). BothGiven c.pointers_joined.new.unit c.pointers_joined.result (pointers_joined at a b (sort_seen u.types c.sort_of_node-x.result) s)) c.sort_of_node-y.ensures.sort c.pointers_joined.ensures.joined))
