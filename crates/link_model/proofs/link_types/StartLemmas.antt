-- The tags of units, by the sums of their counts.
use Rattle.std.proofs.Common.{◌≡◌, ℕ, ◌+◌, ◌≤◌, Some, List, length, map, sum, take, sym, ap, ◌∙◌, arith}
use Rattle.std.specs.Option.{option_map}
use Rattle.std.specs.List.{slice_get}
use Rattle.std.proofs.lemmas.List.{length-map}
use Rattle.std.proofs.lemmas.List.Sums.{sum_by_more, sum_by-take-le}
use Rattle.std.proofs.lemmas.Option.{slice_get-map, slice_get_within, get_or_from_slice_get}
use Rattle.core_tree.specs.declared.node.Unit.{Unit}
use Rattle.link_model.specs.link_types.Joined.{AreStarts}
use Rattle.link_model.specs.link_types.Starts.{AreSums}

abbrev tag_counts : List Unit → List ℕ
tag_counts units = map (λ (x : Unit). x.types.tags) units

sum_more : (counts : List ℕ) (u n : ℕ) → slice_get counts u ≡ Some n → sum (take (u + 1) counts) ≡ sum (take u counts) + n
sum_more counts u n at =
    sum_by_more (λ (k : ℕ). k) counts u n (slice_get_within counts u n at) ∙ ap (λ k. sum (take u counts) + k) (get_or_from_slice_get counts u n n at)

-- the sums of the units' numbers of tags are where their tags start
pub starts_of : (units : List Unit) (starts : List ℕ) (total : ℕ) → AreSums (tag_counts units) starts → sum (tag_counts units) ≤ total → AreStarts units starts total
starts_of units starts total h fits =
    let many : length (tag_counts units) ≡ length units = length-map units (λ (x : Unit). x.types.tags) in
    record {
      all = h.all ∙ ap (λ n. n + 1) many;
      each = λ u x at.
          let within = slice_get_within units u x at in
          let count : slice_get (tag_counts units) u ≡ Some x.types.tags = slice_get-map (λ (y : Unit). y.types.tags) units u ∙ ap (option_map (λ (y : Unit). y.types.tags)) at in
          let here = h.each u (omega arith) in
          let next = h.each (u + 1) (omega arith) in
          ap (λ n. n + x.types.tags) here ∙ (sym (sum_more (tag_counts units) u x.types.tags count) ∙ sym next);
      within = λ u lt.
          let next = h.each (u + 1) (omega arith) in
          let part = sum_by-take-le (λ (k : ℕ). k) (tag_counts units) (u + 1) in
          omega arith;
    }
