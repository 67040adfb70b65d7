-- What the parameters so far were given, and the places that are kept of it.
use Rattle.std.proofs.Common.{◌≡◌, [], map, drop}
use Rattle.c_types.specs.declared.key.ObjectKey.TheVariants.{Entity}
use Rattle.core_tree.specs.Seen.{core_of}
use Rattle.ref_start.specs.Entries.{given_all, given_with}
use Rattle.ref_start.specs.Handed.{ArePlaces}
use Rattle.ref_start.proofs.entries.given_all.Given as goal

abbrev pub invariant-loop-e : goal.invariant-loop-e
invariant-loop-e l = record {
  given : given_all (core_of l.trees) l.offer.count l.offer.h (given_with l.offer.handed.now l.made) (map Entity (drop l.e-index l.parameters))
      ≡ given_all (core_of l.trees) l.offer.count l.offer.h (record { fresh = []; handed = l.offer.handed.now; arguments = [] }) (map Entity l.parameters);
  own : ArePlaces l.trees.types.now l.made.handed l.made.kept;
}
