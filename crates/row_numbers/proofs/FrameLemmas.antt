-- The numbers that the code finds are those of the program.
use Rattle.std.proofs.Common.{arith, ◌≡◌, ℕ, zero, suc, ◌+◌, ◌<◌, ◌≤◌, List, [], ◌∷◌, Option, Some, None, length, take, get_or, map, sum, slice_get, refl, ap, ◌∙◌}
use Rattle.std.specs.List.{filter_map, range_with_len}
use Rattle.std.proofs.lemmas.List.FromFn.{length-map-range_with_len, get_or-map-range_with_len, take-map-range_with_len}
use Rattle.std.proofs.lemmas.List.{length-map, take_all}
use Rattle.c_types.specs.declared.key.ObjectKey.{ObjectKey}
use Rattle.std.proofs.lemmas.List.Sums.{sum_by_more_le}
use Rattle.std.proofs.lemmas.Option.{slice_get_within}
use Rattle.core_tree.specs.declared.node.Node.{Node}
use Rattle.core_tree.specs.declared.node.NodeKind.{NodeKind}
use Rattle.core_tree.specs.declared.node.NodeKind.TheVariants.{NextArg}
use Rattle.core_tree.specs.Typed.{CoreTrees}
use Rattle.obj_space.specs.View.{SpaceView}
use Rattle.row_numbers.specs.Kept.{kept_count}
use Rattle.row_numbers.specs.Functions.{object_at, objects_at, function_keys, functions_below, functions_of, number_at}
use Rattle.row_numbers.specs.Numbering.{present_before, own_row}
use Rattle.row_numbers.specs.Setting.{start_at, lead, lead_in, width, widths, result_nodes, result_widths, row, list_row, result_row, none_row}
use Rattle.row_numbers.proofs.NumberingLemmas.{starts_within}

pub read_map : (f : ℕ → ℕ) (n i : ℕ) (xs : List ℕ) (r : ℕ) → xs ≡ map f (range_with_len 0 n) → i < n → r ≡ get_or xs i r → r ≡ f i
read_map f n i xs r e lt is = is ∙ (ap (λ (ys : List ℕ). get_or ys i r) e ∙ get_or-map-range_with_len f 0 n i i r lt (omega arith))

pub length_map : (f : ℕ → ℕ) (n : ℕ) (xs : List ℕ) → xs ≡ map f (range_with_len 0 n) → length xs ≡ n
length_map f n xs e = ap length e ∙ length-map-range_with_len f 0 n

map_same_below : (f g : ℕ → ℕ) (a n : ℕ) → ((k : ℕ) → k < a + n → f k ≡ g k) → map f (range_with_len a n) ≡ map g (range_with_len a n)
map_same_below f g a zero h = refl
map_same_below f g a (suc n) h = rw (h a (omega arith), map_same_below f g (a + 1) n (λ k lt. h k (omega arith))) refl

fewer : (o : Option ObjectKey) (xs : List (Option ObjectKey)) (n : ℕ) → length (filter_map (λ (found : Option ObjectKey). found) xs) ≤ n → length (filter_map (λ (found : Option ObjectKey). found) (o ∷ xs)) ≤ suc n
fewer None xs n h = omega arith
fewer (Some x) xs n h = omega arith

pub present_few : (at : List (Option ObjectKey)) → length (filter_map (λ (found : Option ObjectKey). found) at) ≤ length at
present_few [] = omega arith
present_few (o ∷ at) = fewer o at (length at) (present_few at)

pub length_objects : (s : SpaceView) (keys : List ObjectKey) (at : List (Option ObjectKey)) → at ≡ objects_at s keys s.count → length at ≡ s.count
length_objects s keys at e = ap length e ∙ length-map-range_with_len (object_at s keys) 0 s.count

pub functions_is : (u : CoreTrees) (s : SpaceView) (at : List (Option ObjectKey)) (keys fs : List ObjectKey) → keys ≡ function_keys u → at ≡ objects_at s keys s.count → fs ≡ filter_map (λ (found : Option ObjectKey). found) at → fs ≡ functions_of u s
unfolding functions_below
functions_is u s at keys fs k a f = f ∙ ap (filter_map (λ (found : Option ObjectKey). found)) (a ∙ ap (λ (ks : List ObjectKey). objects_at s ks s.count) k)

before_at : (u : CoreTrees) (s : SpaceView) (at : List (Option ObjectKey)) → at ≡ objects_at s (function_keys u) s.count → (l : ℕ) → l < s.count → present_before at l ≡ number_at u s l
unfolding functions_below
before_at u s at a l lt =
    ap (λ (xs : List (Option ObjectKey)). length (filter_map (λ (found : Option ObjectKey). found) xs))
    (ap (take l) a ∙ take-map-range_with_len (object_at s (function_keys u)) 0 s.count l (omega arith))

pub before_is : (u : CoreTrees) (s : SpaceView) (at : List (Option ObjectKey)) (keys : List ObjectKey) (bs : List ℕ) → keys ≡ function_keys u → at ≡ objects_at s keys s.count → bs ≡ map (present_before at) (range_with_len 0 (length at)) → bs ≡ map (number_at u s) (range_with_len 0 s.count)
before_is u s at keys bs k a b =
    let here : at ≡ objects_at s (function_keys u) s.count = a ∙ ap (λ (ks : List ObjectKey). objects_at s ks s.count) k in
    b ∙ (ap (λ (n : ℕ). map (present_before at) (range_with_len 0 n)) (length_objects s keys at a)
    ∙ map_same_below (present_before at) (number_at u s) 0 s.count (λ l lt. before_at u s at here l (omega arith)))

pub read_zero : (f : ℕ → ℕ) (n i : ℕ) (xs : List ℕ) → xs ≡ map f (range_with_len 0 n) → i < n → get_or xs i 0 ≡ f i
read_zero f n i xs e lt = ap (λ (ys : List ℕ). get_or ys i 0) e ∙ get_or-map-range_with_len f 0 n i i 0 lt (omega arith)

pub firsts_is : (u : CoreTrees) (s : SpaceView) (nw fs : List ℕ) → nw ≡ widths u → fs ≡ map (start_at s.count nw) (range_with_len 0 (length nw)) → fs ≡ map (start_at s.count (widths u)) (range_with_len 0 (length u.nodes))
firsts_is u s nw fs w f =
    f ∙ (ap (λ (xs : List ℕ). map (start_at s.count xs) (range_with_len 0 (length xs))) w
    ∙ ap (λ (n : ℕ). map (start_at s.count (widths u)) (range_with_len 0 n)) (length-map u.nodes (width u)))

own_at : (u : CoreTrees) (s : SpaceView) (fs : List ℕ) → fs ≡ map (start_at s.count (widths u)) (range_with_len 0 (length u.nodes)) → (k : ℕ) → k < length u.nodes → own_row u.nodes fs k ≡ row u s k
unfolding row
own_at u s fs f k lt = ap (λ (n : ℕ). n + lead_in (slice_get u.nodes k)) (read_zero (start_at s.count (widths u)) (length u.nodes) k fs f lt)

pub rows_is : (u : CoreTrees) (s : SpaceView) (fs rs : List ℕ) → fs ≡ map (start_at s.count (widths u)) (range_with_len 0 (length u.nodes)) → rs ≡ map (own_row u.nodes fs) (range_with_len 0 (length u.nodes)) → rs ≡ map (row u s) (range_with_len 0 (length u.nodes))
rows_is u s fs rs f r = r ∙ map_same_below (own_row u.nodes fs) (row u s) 0 (length u.nodes) (λ k lt. own_at u s fs f k (omega arith))

-- a node that takes the next argument of a list has a row in front of its own
pub row_behind : (u : CoreTrees) (s : SpaceView) (n : ℕ) (node : Node) → slice_get u.nodes n ≡ Some node → node.kind ≡ NextArg → row u s n ≡ list_row u s n + 1
unfolding row list_row
row_behind u s n node at kind =
    ap (λ (o : Option Node). start_at s.count (widths u) n + lead_in o) at ∙ ap (λ (k : NodeKind). start_at s.count (widths u) n + lead k) kind

pub results_is : (u : CoreTrees) (s : SpaceView) (first : ℕ) (fw rs : List ℕ) → first ≡ s.count + sum (widths u) → fw ≡ result_widths u s → rs ≡ map (start_at first fw) (range_with_len 0 (length fw)) → rs ≡ map (result_row u s) (range_with_len 0 (length (functions_of u s)))
unfolding result_row
results_is u s first fw rs f w r =
    r ∙ (ap (λ (xs : List ℕ). map (start_at first xs) (range_with_len 0 (length xs))) w
    ∙ (ap (λ (n : ℕ). map (start_at n (result_widths u s)) (range_with_len 0 (length (result_widths u s)))) f
    ∙ ap (λ (n : ℕ). map (result_row u s) (range_with_len 0 n)) (length-map (functions_of u s) (λ (key : ObjectKey). kept_count (result_nodes u key)))))

pub none_is : (u : CoreTrees) (s : SpaceView) (count a b : ℕ) → count ≡ s.count → a ≡ sum (widths u) → b ≡ sum (result_widths u s) → count + a + b ≡ none_row u s
unfolding none_row
none_is u s count a b c d e = omega arith

pub past_is : (u : CoreTrees) (s : SpaceView) (number : ℕ) → length (functions_of u s) ≤ number → result_row u s number ≡ none_row u s
unfolding result_row none_row
past_is u s number le =
    let all : take number (result_widths u s) ≡ result_widths u s = take_all number (result_widths u s) (omega (arith, length-map (functions_of u s) (λ (key : ObjectKey). kept_count (result_nodes u key)))) in
    ap (λ (xs : List ℕ). s.count + sum (widths u) + sum xs) all

read_width : {X : Type 0} (f : X → ℕ) (xs : List X) (k : ℕ) (x : X) → slice_get xs k ≡ Some x → get_or (map f xs) k 0 ≡ f x
read_width f [] k x h = cc
read_width f (y ∷ xs) zero x h = let e : y ≡ x = cc in ap f e
read_width f (y ∷ xs) (suc k) x h = read_width f xs k x h

-- a node's rows, those before its own and those behind them too, are within
pub width_within : (u : CoreTrees) (s : SpaceView) (k : ℕ) (node : Node) → slice_get u.nodes k ≡ Some node → start_at s.count (widths u) k + width u node ≤ s.count + sum (widths u)
width_within u s k node e =
    let lt : k < length (widths u) = omega (arith, slice_get_within u.nodes k node e, length-map u.nodes (width u)) in
    let one : get_or (widths u) k 0 ≡ width u node = read_width (width u) u.nodes k node e in
    omega (arith, sum_by_more_le (λ (x : ℕ). x) (widths u) k 0 lt, one)

lead_within : (u : CoreTrees) (s : SpaceView) (k : ℕ) (o : Option Node) → slice_get u.nodes k ≡ o → start_at s.count (widths u) k + lead_in o ≤ s.count + sum (widths u)
lead_within u s k None e = omega (arith, starts_within s.count (widths u) k)
lead_within u s k (Some node) e = omega (arith, width_within u s k node e)

pub node_within : (u : CoreTrees) (s : SpaceView) (k : ℕ) → row u s k ≤ none_row u s
unfolding row none_row
node_within u s k = omega (arith, lead_within u s k (slice_get u.nodes k) refl)

pub result_within : (u : CoreTrees) (s : SpaceView) (k : ℕ) → result_row u s k ≤ none_row u s
unfolding result_row none_row
result_within u s k = starts_within (s.count + sum (widths u)) (result_widths u s) k

pub locations_within : (u : CoreTrees) (s : SpaceView) → s.count ≤ none_row u s
unfolding none_row
locations_within u s = omega arith

pub results_last : (u : CoreTrees) (s : SpaceView) (none total : ℕ) → none ≡ none_row u s → total ≡ sum (result_widths u s) → none ≡ s.count + sum (widths u) + total
unfolding none_row
results_last u s none total n t = omega arith
