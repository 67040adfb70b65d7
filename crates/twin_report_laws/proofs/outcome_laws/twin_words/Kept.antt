-- How many nodes, and how many that have rows, types have in two tables that are one, but for the numbers of tags.
use Rattle.std.proofs.Common.{◌≡◌, ◌∙◌, ◌+◌, ◌^◌, ℕ, suc, Bool, true, false, List, [], ◌∷◌, map, length, Option, Some, None, is_some, refl, ap}
use Rattle.std.specs.Prelude.{if◌then◌else◌, nat_lt}
use Rattle.std.proofs.lemmas.List.{length-map}
use Rattle.c_types.specs.Trees.{Ctype, PointerTo, UnionOf}
use Rattle.c_types.specs.Layout.{Extent}
use Rattle.link_model.specs.Renamed.{renamed}
use Rattle.obj_space.specs.Parts.{nodes_of}
use Rattle.row_numbers.specs.Kept.{nodes_in, is_kept, kept_from, kept_count}
use Rattle.twin_report_laws.proofs.outcome_laws.twin_words.Extents.{Alike}

module _ (f : ℕ → ℕ) where
  pub kept_same : (t : Ctype) → is_kept (renamed f t) ≡ is_kept t
  kept_same (PointerTo to) = refl
  kept_same (UnionOf tag) = refl
  kept_same t = refl

  count_from : (i : ℕ) (ts : List Ctype) → length (kept_from i (map (renamed f) ts)) ≡ length (kept_from i ts)
  count_from i [] = refl
  count_from i (t ∷ rest) =
      ap (λ (b : Bool). length (if b then i ∷ kept_from (i + 1) (map (renamed f) rest) else kept_from (i + 1) (map (renamed f) rest))) (kept_same t) ∙ by (is_kept t) (count_from (i + 1) rest)
    where
      by : (b : Bool) → length (kept_from (i + 1) (map (renamed f) rest)) ≡ length (kept_from (i + 1) rest)
          → length (if b then i ∷ kept_from (i + 1) (map (renamed f) rest) else kept_from (i + 1) (map (renamed f) rest)) ≡ length (if b then i ∷ kept_from (i + 1) rest else kept_from (i + 1) rest)
      by true more = ap suc more
      by false more = more

  -- as many nodes that have rows
  pub kept_nodes : (a b : Option Extent) → Alike f a b → kept_count (nodes_in b) ≡ kept_count (nodes_in a)
  kept_nodes None None h = refl
  kept_nodes None (Some d) h = absurd h
  kept_nodes (Some e) None h = absurd h
  kept_nodes (Some e) (Some d) h =
      ap (λ (ns : List Ctype). kept_count (if nat_lt (length ns) (2 ^ 24 + 1) then ns else [])) h
      ∙ (ap (λ (n : ℕ). kept_count (if nat_lt n (2 ^ 24 + 1) then map (renamed f) e.nodes else [])) (length-map e.nodes (renamed f)) ∙ by (nat_lt (length e.nodes) (2 ^ 24 + 1)))
    where
      by : (b : Bool) → kept_count (if b then map (renamed f) e.nodes else []) ≡ kept_count (if b then e.nodes else [])
      by true = count_from 0 e.nodes
      by false = refl

  -- as many nodes
  pub as_many_nodes : (a b : Option Extent) → Alike f a b → length (nodes_of b) ≡ length (nodes_of a)
  as_many_nodes None None h = refl
  as_many_nodes None (Some d) h = absurd h
  as_many_nodes (Some e) None h = absurd h
  as_many_nodes (Some e) (Some d) h = ap (λ (ns : List Ctype). length ns) h ∙ length-map e.nodes (renamed f)

  pub both_complete : (a b : Option Extent) → Alike f a b → is_some b ≡ is_some a
  both_complete None None h = refl
  both_complete None (Some d) h = absurd h
  both_complete (Some e) None h = absurd h
  both_complete (Some e) (Some d) h = refl
