use Rattle.std.proofs.Common.{◌≡◌, true, sym, subst, ◌∙◌}
use Rattle.c_senses.specs.Given.{Given}
use Rattle.c_senses.specs.Sense.{Sense, sense_in}
use Rattle.c_results.specs.Standing.{senses_made, Rowed}
use Rattle.tree_reads.specs.Sources.{source_in}
use Rattle.struct_rows.specs.Built.{stands_as}
use Rattle.struct_rows.proofs.Building.{struct_listed, is_not_false}
use Rattle.struct_rows.proofs.rows.struct_row.Goals as goal

pub returns-in-Some-clause-row : goal.returns-in-Some-clause-row
returns-in-Some-clause-row c = λ w uses k seen types.
    let s = source_in c.args.syntax.now uses in
    let sense = sense_in (senses_made c.args.unit.now c.args.results.now) in
    let fits : c.args.tag.fits ≡ true = is_not_false c.args.tag.fits c.if-not-tag.false in
    let stands : stands_as c.args.unit.now.types c.args.tag.number c.is_union-is_union.result ≡ true = sym c.if-not-stands_as.ensures.is in
    subst (λ (g : Given Sense). Rowed c.listed.new.unit c.listed.result g)
    (sym (struct_listed w s sense c.args.at c.args.unit.now.types types c.requires.at c.args.tag.number c.in-Some.list c.is_union-is_union.result seen.number c.is_union-is_union.ensures (sym seen.fits ∙ fits) stands (sym c.in-Some.ensures)))
    (c.listed.ensures.row w s k)
