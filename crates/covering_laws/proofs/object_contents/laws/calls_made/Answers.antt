use Rattle.covering_laws.proofs.object_contents.Made.{calls_made}
use Rattle.covering_laws.proofs.object_contents.laws.calls_made.Goals as goal

pub returns : goal.returns
returns c p n node function number made there kind called numbered allocates = calls_made p n node function number made there kind called numbered allocates
