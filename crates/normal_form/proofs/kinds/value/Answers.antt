use Rattle.std.proofs.Common.{◌∙◌}
use Rattle.normal_form.proofs.kinds.value.Goals as goal

pub next_arg-requires-clause-takes : goal.next_arg-requires-clause-takes
next_arg-requires-clause-takes c =
    (c.requires.named.0, c.requires.named.1, c.requires.named.2 ∙ c.in-NextArg.is)
