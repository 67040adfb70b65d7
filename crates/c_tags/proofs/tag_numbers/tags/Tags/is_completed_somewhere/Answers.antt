use Rattle.std.proofs.Common.{◌∙◌, ap, get_or, false, List, Bool}
use Rattle.c_tags.proofs.tag_numbers.tags.Tags.is_completed_somewhere.Goals as goal

pub returns : goal.returns
returns c = λ s w sense are. c.flag_at.ensures ∙ ap (λ (flags : List Bool). get_or flags c.args.tag false) c.as_slice.ensures.value ∙ are.completed w sense c.args.tag
