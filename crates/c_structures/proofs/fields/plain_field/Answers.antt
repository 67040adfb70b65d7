use Rattle.std.proofs.Common.{subst, sym, ap, ◌∙◌, true, false, ℕ}
use Rattle.pta_base.specs.declared.kind.Kind.TheVariants.{Operand}
use Rattle.c_types.specs.Table.{type_of}
use Rattle.c_senses.specs.Given.{Given, Refuses}
use Rattle.c_senses.specs.Sense.{Sense}
use Rattle.c_results.specs.Standing.{Rowed}
use Rattle.tree_reads.specs.Sources.{source_in}
use Rattle.c_structures.proofs.Fielding.{plain_is}
use Rattle.c_structures.proofs.fields.plain_field.Goals as goal

pub returns-then-plain_fits-clause-row : goal.returns-then-plain_fits-clause-row
returns-then-plain_fits-clause-row c = λ w uses sense k f e.
    let s = source_in c.args.syntax.now uses in
    let u = c.args.unit.now in
    subst (λ (g : Given Sense). Rowed u c.one_member.result g) (plain_is w s sense c.args.at c.args.leaf (type_of u.types c.args.ty.0) true (c.if-plain_fits.ensures w sense k f e)) (c.one_member.ensures.row u w sense)

pub returns-else-plain_fits-clause-row : goal.returns-else-plain_fits-clause-row
returns-else-plain_fits-clause-row c = λ w uses sense k f e.
    let s = source_in c.args.syntax.now uses in
    let u = c.args.unit.now in
    sym (plain_is w s sense c.args.at c.args.leaf (type_of u.types c.args.ty.0) false (c.if-plain_fits.ensures w sense k f e))
    ∙ ap (λ (n : ℕ). Refuses Operand n) (sym (c.named_field.ensures w sense))
