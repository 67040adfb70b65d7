-- The rows of values and of results are rows of the system.
use Rattle.std.proofs.Common.{arith, ◌≡◌, ◌∙◌, ℕ, zero, suc, ◌+◌, ◌≤◌, Bool, true, false, cond, List, [], ◌∷◌, Option, Some, length, take, get_or, slice_get, sym, ap}
use Rattle.std.specs.Prelude.{sum}
use Rattle.std.specs.List.{All, range_with_len}
use Rattle.std.proofs.lemmas.List.Sums.{sum_by_more_le}
use Rattle.std.proofs.lemmas.List.Elements.{All-map}
use Rattle.std.proofs.lemmas.Option.{slice_get_within, slice_get-get_or}
use Rattle.c_types.specs.declared.key.ObjectKey.{ObjectKey}
use Rattle.c_types.specs.Trees.{Ctype}
use Rattle.core_tree.specs.declared.node.Node.{Node}
use Rattle.core_tree.specs.Typed.{CoreTrees, Sort, ValueNode, sort_of, type_at, type_in}
use Rattle.obj_space.specs.View.{SpaceView}
use Rattle.obj_space.proofs.Placed.{get_map}
use Rattle.row_numbers.specs.Kept.{nodes_of, is_kept, kept_at, kept_from, kept_count, kept_row, row_or, row_list}
use Rattle.row_numbers.specs.Functions.{functions_of}
use Rattle.row_numbers.specs.Setting.{width_by, own_width, lead, lead_in, width, widths, result_nodes, result_widths, start_at, row, list_row, rest_row, result_row, none_row, value_rows}
use Rattle.row_numbers.proofs.NumberingLemmas.{starts_within}

some_one : {X : Type 0} → {x y : X} → ◌≡◌ {A = Option X} (Some x) (Some y) → x ≡ y
some_one h = cc

-- fewer nodes have fewer rows
fewer : (b : Bool) (i : ℕ) (xs ys : List ℕ) → length xs ≤ length ys → length (cond b (i ∷ xs) xs) ≤ length (cond b (i ∷ ys) ys)
fewer true i xs ys h = omega arith
fewer false i xs ys h = h

from_fewer : (i : ℕ) (nodes : List Ctype) (k : ℕ) → length (kept_from i (take k nodes)) ≤ length (kept_from i nodes)
from_fewer i nodes zero = omega arith
from_fewer i [] (suc k) = omega arith
from_fewer i (t ∷ rest) (suc k) = fewer (is_kept t) i (kept_from (i + 1) (take k rest)) (kept_from (i + 1) rest) (from_fewer (i + 1) rest k)

pub kept_fewer : (nodes : List Ctype) (k : ℕ) → kept_count (take k nodes) ≤ kept_count nodes
kept_fewer nodes k = from_fewer 0 nodes k

or_within : (none row : ℕ) (b : Bool) → row ≤ none → row_or none row b ≤ none
or_within none row true h = h
or_within none row false h = omega arith

-- the rows of nodes, where so many fit
pub list_within : (none first : ℕ) (nodes : List Ctype) → first + kept_count nodes ≤ none → All (λ r. r ≤ none) (row_list none first nodes)
list_within none first nodes fit =
    All-map (λ r. r ≤ none) (λ i. row_or none (kept_row first nodes i) (kept_at (slice_get nodes i))) (range_with_len 0 (length nodes))
    (λ k d lt. let few = kept_fewer nodes (get_or (range_with_len 0 (length nodes)) k d) in or_within none (kept_row first nodes (get_or (range_with_len 0 (length nodes)) k d)) (kept_at (slice_get nodes (get_or (range_with_len 0 (length nodes)) k d))) (omega arith))

-- the widths of nodes and of results
start_next : (first : ℕ) (ws : List ℕ) (k w : ℕ) → slice_get ws k ≡ Some w → start_at first ws k + w ≤ first + sum ws
start_next first ws k w at =
    let lt = slice_get_within ws k w at in
    let more = sum_by_more_le (λ (x : ℕ). x) ws k 0 lt in
    let is : get_or ws k 0 ≡ w = some_one (sym (slice_get-get_or ws k 0 lt) ∙ at) in
    omega arith

module _ (u : CoreTrees) (s : SpaceView) where
  -- a value's rows
  pub value_fits : (n : ℕ) (node : Node) → slice_get u.nodes n ≡ Some node → sort_of node.kind ≡ ValueNode → row u s n + kept_count (nodes_of u.types (type_at u n)) ≤ none_row u s
  unfolding row none_row
  value_fits n node at value =
      let wide : slice_get (widths u) n ≡ Some (width u node) = get_map (width u) u.nodes n node at in
      let first : lead_in (slice_get u.nodes n) ≡ lead node.kind = ap lead_in at in
      let count : own_width u.types node ≡ kept_count (nodes_of u.types (type_at u n)) =
      ap (λ (sort : Sort). width_by sort (kept_count (nodes_of u.types (type_in u.types (Some node))))) value ∙ sym (ap (λ (o : Option Node). kept_count (nodes_of u.types (type_in u.types o))) at) in
      let fit = start_next s.count (widths u) n (width u node) wide in
      omega arith

  -- the row of what a node may be that takes the next argument of a list
  pub list_fits : (n : ℕ) → list_row u s n ≤ none_row u s
  unfolding list_row none_row
  list_fits n = omega (arith, starts_within s.count (widths u) n)

  -- the row of all further arguments of a call
  pub rest_fits : (n : ℕ) (node : Node) → slice_get u.nodes n ≡ Some node → sort_of node.kind ≡ ValueNode → rest_row u s n ≤ none_row u s
  unfolding rest_row
  rest_fits n node at value = value_fits n node at value

  pub value_rows_within : (n : ℕ) (node : Node) → slice_get u.nodes n ≡ Some node → sort_of node.kind ≡ ValueNode → All (λ r. r ≤ none_row u s) (value_rows u s n)
  value_rows_within n node at value = list_within (none_row u s) (row u s n) (nodes_of u.types (type_at u n)) (value_fits n node at value)

  -- a function's result
  pub result_fits : (number : ℕ) (key : ObjectKey) → slice_get (functions_of u s) number ≡ Some key → result_row u s number + kept_count (result_nodes u key) ≤ none_row u s
  unfolding result_row none_row
  result_fits number key at =
      let wide : slice_get (result_widths u s) number ≡ Some (kept_count (result_nodes u key)) = get_map (λ (k : ObjectKey). kept_count (result_nodes u k)) (functions_of u s) number key at in
      let fit = start_next (s.count + sum (widths u)) (result_widths u s) number (kept_count (result_nodes u key)) wide in
      omega arith

  pub result_rows_within : (number : ℕ) (key : ObjectKey) → slice_get (functions_of u s) number ≡ Some key → All (λ r. r ≤ none_row u s) (row_list (none_row u s) (result_row u s number) (result_nodes u key))
  result_rows_within number key at = list_within (none_row u s) (result_row u s number) (result_nodes u key) (result_fits number key at)
