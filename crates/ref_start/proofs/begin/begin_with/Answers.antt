use Rattle.std.proofs.Common.{sym, ◌∙◌}
use Rattle.ref_start.proofs.BeginSteps.{found_within}
use Rattle.ref_start.proofs.begin.begin_with.Goals as goal

pub enter_with-requires : goal.enter_with-requires
enter_with-requires c = found_within 9 c.in-Some.argv c.args.state.now.memory (sym c.in_ok-argv.ensures ∙ c.in-Some.is)
