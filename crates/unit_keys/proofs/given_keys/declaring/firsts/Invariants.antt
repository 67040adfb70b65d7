use Rattle.std.proofs.Common.{◌≡◌, ℕ, take}
use Rattle.tree_reads.specs.leaf_maps.Numbers.{number_at}
use Rattle.c_tags.specs.tag_numbers.Firsts.{SaysFirst, first_for}
use Rattle.unit_keys.proofs.given_keys.declaring.firsts.Given as goal

abbrev pub invariant-loop-d : goal.invariant-loop-d
invariant-loop-d l = record {
  places_say : SaysFirst l.places (take l.d-index l.tags);
  map_says : (leaf : ℕ) → number_at l.map leaf ≡ first_for (take l.d-index l.tags) leaf;
}
