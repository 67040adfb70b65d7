use Rattle.covering_laws.proofs.covered_state.Awaited.{takes_any}
use Rattle.covering_laws.proofs.covered_state.laws.nothing_awaited.Goals as goal

pub returns : goal.returns
returns c world state f rest n k arguments items id i x awaited frames_are items_are at h untyped =
    takes_any world state awaited f rest frames_are n k arguments items items_are id i x at h untyped
