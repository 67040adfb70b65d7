use Rattle.std.proofs.Common.{◌≡◌, ℕ, ℤ, true, false, ap, sym, subst, ◌∙◌, rules, Result, to_z-of_z, FitsSigned}
use Rattle.std.specs.Int.{w128}
use Rattle.core_nodes.specs.declared.fault.CheckFault.{CheckFault}
use Rattle.c_senses.specs.Constants.{constant_in}
use Rattle.c_senses.specs.Tags.{bit_field, field_name}
use Rattle.c_conversions.specs.constant_values.Constants.{ConstantMade}
use Rattle.pta_base.specs.declared.kind.Kind.TheVariants.{Operand}
use Rattle.c_types.specs.Table.{type_of}
use Rattle.c_senses.specs.Given.{Given, Refuses, Fits}
use Rattle.c_senses.specs.Sense.{Sense}
use Rattle.c_results.specs.Standing.{Rowed}
use Rattle.tree_reads.specs.Sources.{source_in}
use Rattle.c_structures.proofs.Fielding.{no_bits, with_width}
use Rattle.c_structures.proofs.bits.width_field.Goals as goal

pub returns-in_default-clause-row : goal.returns-in_default-clause-row
returns-in_default-clause-row c = λ w uses sense node says made.
    let s = source_in c.args.syntax.now uses in
    no_bits w s sense c.args.at c.args.leaf (type_of c.args.unit.now.types c.args.ty.0) node (sym c.bits_in.ensures ∙ c.in_default.is)
    ∙ ap (λ (n : ℕ). Refuses Operand n) (sym (c.named_field-named.ensures w sense))

pub returns-then-is_new_name-clause-row : goal.returns-then-is_new_name-clause-row
returns-then-is_new_name-clause-row c = λ w uses sense node says made.
    let s = source_in c.args.syntax.now uses in
    let t = type_of c.args.unit.now.types c.args.ty.0 in
    let fits : FitsSigned w128 c.in-Ok.width = search rules in
    let constant : constant_in w s c.args.at (sense node) ≡ Fits c.in-Ok.width = subst (λ (r : Result ℤ CheckFault). ConstantMade r (constant_in w s c.args.at (sense node))) c.in-Ok.is made in
    subst (λ (g : Given Sense). Rowed c.args.unit.now c.bit_field.result g)
    (ap (λ (n : ℤ). bit_field w s sense c.named_field-named.result (field_name w s sense c.args.leaf) t n c.in-Some.most) (to_z-of_z fits)
    ∙ (ap (λ (named : ℕ). bit_field w s sense named (field_name w s sense c.args.leaf) t c.in-Ok.width c.in-Some.most) (c.named_field-named.ensures w sense)
    ∙ with_width w s sense c.args.at c.args.leaf t node c.in-Some.most c.in-Ok.width true (sym c.in-Some.ensures) constant (c.if-is_new_name.ensures w sense c.args.at says)))
    (c.bit_field.ensures.row c.args.unit.now w sense)

pub returns-else-is_new_name-clause-row : goal.returns-else-is_new_name-clause-row
returns-else-is_new_name-clause-row c = λ w uses sense node says made.
    let s = source_in c.args.syntax.now uses in
    let t = type_of c.args.unit.now.types c.args.ty.0 in
    let constant : constant_in w s c.args.at (sense node) ≡ Fits c.in-Ok.width = subst (λ (r : Result ℤ CheckFault). ConstantMade r (constant_in w s c.args.at (sense node))) c.in-Ok.is made in
    sym (with_width w s sense c.args.at c.args.leaf t node c.in-Some.most c.in-Ok.width false (sym c.in-Some.ensures) constant (c.if-is_new_name.ensures w sense c.args.at says))
    ∙ ap (λ (n : ℕ). Refuses Operand n) (sym (c.named_field-named.ensures w sense))
