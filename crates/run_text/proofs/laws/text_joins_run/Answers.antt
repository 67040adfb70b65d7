use Rattle.run_text.proofs.Joined.{run_joins}
use Rattle.run_text.proofs.laws.text_joins_run.Goals as goal

pub returns : goal.returns
returns c = run_joins
