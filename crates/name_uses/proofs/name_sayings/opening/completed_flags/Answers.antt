use Rattle.std.proofs.Common.{Bool, false, List, get_or, ap, sym, ◌∙◌}
use Rattle.name_uses.proofs.name_sayings.opening.completed_flags.Goals as goal

pub returns : goal.returns
returns c = λ w s sense h tag. sym (ap (λ (flags : List Bool). get_or flags tag false) c.as_slice.ensures.value ∙ h.completed w sense tag)
