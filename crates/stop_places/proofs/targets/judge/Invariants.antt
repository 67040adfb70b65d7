use Rattle.std.proofs.Common.{take}
use Rattle.stop_places.specs.Found.{AreJudged}
use Rattle.stop_places.proofs.targets.judge.Given as goal

-- what was found of the locations so far
abbrev pub invariant-loop-location : goal.invariant-loop-location
invariant-loop-location l = AreJudged l.system l.signature (take l.location-index l.locations) l.judged
