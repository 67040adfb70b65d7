use Rattle.std.proofs.lemmas.Option.{slice_get-get_or}
use Rattle.sol_model.proofs.locations.location_fact.Goals as goal

pub returns-clause-typed : goal.returns-clause-typed
returns-clause-typed c =
    rw c.as_slice.ensures (c.requires.valid.locations c.args.location _ (slice_get-get_or c.args.system.now.locations c.args.location _ c.requires.location)).typed
