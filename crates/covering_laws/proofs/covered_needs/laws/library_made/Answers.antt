use Rattle.covering_laws.proofs.covered_needs.Named.{library_made}
use Rattle.covering_laws.proofs.covered_needs.laws.library_made.Goals as goal

pub returns : goal.returns
returns c p l x k made at key = library_made p l x k made at key
