use Rattle.std.proofs.Common.{sym, ◌∙◌}
use Rattle.c_tags.proofs.tag_numbers.Skipping.{none_more}
use Rattle.c_tags.proofs.tag_numbers.specifiers.next_specifier.Goals as goal

pub loop-at-preserved : goal.loop-at-preserved
loop-at-preserved c = λ s roles. none_more s c.args.from c.loop-at.at (c.loop-at.invariant s roles) (sym (c.is_specifier_at.ensures s roles) ∙ c.if-is_specifier_at.false)
