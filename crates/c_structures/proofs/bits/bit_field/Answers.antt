use Rattle.std.proofs.Common.{ℤ, Bool, ap, subst, ◌∙◌, to_z-of_z, FitsSigned, rules}
use Rattle.std.specs.Int.{w128}
use Rattle.c_types.specs.Table.{type_of}
use Rattle.c_senses.specs.Given.{Given}
use Rattle.c_senses.specs.Sense.{Sense}
use Rattle.c_senses.specs.Tags.{width_fits}
use Rattle.c_results.specs.Standing.{Rowed}
use Rattle.tree_reads.specs.Sources.{source_read}
use Rattle.c_structures.proofs.Fielding.{bit_member}
use Rattle.c_structures.proofs.bits.bit_field.Goals as goal

pub returns-else-bits-eq0-clause-row : goal.returns-else-bits-eq0-clause-row
returns-else-bits-eq0-clause-row c = λ u w sense.
    let s = source_read c.args.syntax.now in
    let fits : FitsSigned w128 c.args.width = search rules in
    let e = c.in-Some.ensures ∙ (ap (λ (n : ℤ). width_fits c.args.most c.is_some.result n) (to_z-of_z fits) ∙ ap (λ (b : Bool). width_fits c.args.most b c.args.width) c.is_some.ensures) in
    subst (λ (g : Given Sense). Rowed u c.one_member.result g) (bit_member w s sense c.args.named c.args.most c.in-Some.bits c.args.leaf (type_of u.types c.args.ty.0) c.args.width e c.if-bits-eq0.false) (c.one_member.ensures.row u w sense)
