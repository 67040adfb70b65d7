use Rattle.std.proofs.Common.{sym, ◌∙◌}
use Rattle.c_meanings.proofs.alike.same_lengths.Goals as goal

pub returns : goal.returns
returns c = λ e u. sym (c.length_given-first.ensures u) ∙ (c.same_length.ensures e ∙ c.length_given-second.ensures u)
