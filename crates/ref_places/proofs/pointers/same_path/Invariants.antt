-- What is left of the one is equal to what is left of the other where the wholes are equal.
use Rattle.std.proofs.Common.{◌≡◌, drop}
use Rattle.ref_places.specs.Pointers.{same_path}
use Rattle.ref_places.proofs.pointers.same_path.Given as goal

abbrev pub invariant-loop-a : goal.invariant-loop-a
invariant-loop-a l = same_path (drop l.a-index l.p) l.rest ≡ same_path l.p l.q
