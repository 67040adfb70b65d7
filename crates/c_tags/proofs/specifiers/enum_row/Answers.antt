use Rattle.std.proofs.Common.{ap, sym, ◌∙◌, true, false, ℕ}
use Rattle.pta_base.specs.declared.kind.Kind.TheVariants.{Operand}
use Rattle.c_types.specs.Trees.{Ctype}
use Rattle.c_senses.specs.Given.{Fits, Refuses}
use Rattle.c_senses.specs.Sense.{IsType}
use Rattle.c_tags.specs.Seen.{source_numbered}
use Rattle.c_tags.proofs.Tagging.{enum_by, not_true, not_false}
use Rattle.c_tags.proofs.specifiers.enum_row.Goals as goal

pub returns-then-not-tag-clause-row : goal.returns-then-not-tag-clause-row
returns-then-not-tag-clause-row c = λ w uses number sense seen.
    let s = source_numbered c.args.syntax.now uses number in
    enum_by w s sense c.args.at false (not_true c.args.tag.fits c.if-not-tag.true ∙ seen.fits) ∙ ap (λ (n : ℕ). Refuses Operand n) (sym c.named_tag.ensures)

pub returns-in-Ok-clause-row : goal.returns-in-Ok-clause-row
returns-in-Ok-clause-row c = λ w uses number sense seen.
    let s = source_numbered c.args.syntax.now uses number in
    enum_by w s sense c.args.at true (not_false c.args.tag.fits c.if-not-tag.false ∙ seen.fits) ∙ ap (λ (t : Ctype). Fits (IsType t)) (sym c.in-Ok.ensures.made)
