-- The rows of two programs that are one, but for numbers.
use Rattle.std.proofs.Common.{arith, ◌≡◌, ◌∙◌, ◌+◌, ◌-◌, ◌<◌, ◌≤◌, ℕ, zero, suc, Bool, true, false, List, [], ◌∷◌, map, take, length, Option, Some, refl, sym, ap, subst, inl, inr}
use Rattle.std.specs.Prelude.{if◌then◌else◌, nat_lt, sum}
use Rattle.std.specs.List.{slice_get, range_with_len}
use Rattle.std.specs.Option.{option_map}
use Rattle.std.proofs.lemmas.Bool.{lt-ltb, le-ltb, ltb-true, ltb-false, cases_lt}
use Rattle.std.proofs.lemmas.List.{length-map}
use Rattle.std.proofs.lemmas.Option.{slice_get_within}
use Rattle.c_types.specs.declared.key.ObjectKey.{ObjectKey}
use Rattle.c_types.specs.Trees.{Ctype}
use Rattle.c_types.specs.Table.{type_of}
use Rattle.type_rules.specs.Conversions.{result_of}
use Rattle.core_tree.specs.declared.node.Node.{Node}
use Rattle.core_tree.specs.declared.node.NodeKind.{NodeKind}
use Rattle.core_tree.specs.declared.node.NodeKind.TheVariants.{NextArg, CallNode}
use Rattle.core_tree.specs.declared.node.Entity.{Entity}
use Rattle.core_tree.specs.declared.node.Program.{Program}
use Rattle.core_tree.specs.Typed.{CoreTrees, Sort, PlaceNode, ValueNode, sort_of, type_in, type_at, trees_in}
use Rattle.link_model.specs.Renamed.{renamed}
use Rattle.link_model.specs.Partition.{HasTags}
use Rattle.obj_space.specs.View.{SpaceView}
use Rattle.row_numbers.specs.Kept.{nodes_of, kept_at, kept_from, kept, kept_count, kept_row, row_or, row_list}
use Rattle.row_numbers.specs.Objects.{library_id}
use Rattle.row_numbers.specs.Functions.{begins_at, object_at, objects_at, function_keys, functions_of, functions_below, type_or_void, key_type}
use Rattle.row_numbers.specs.Setting.{width_by, own_width, lead, lead_in, trail, trail_at, calls_further, width, widths, result_nodes, result_widths, row, list_row, rest_row, result_row, none_row, value_rows}
use Rattle.row_numbers.proofs.KeptLemmas.{count_more}
use Rattle.linked_laws.proofs.system_laws.Rows.{kept_fewer}
use Rattle.twin_report_laws.specs.outcome_laws.twin_programs.One.{Numbers}
use Rattle.twin_report_laws.specs.outcome_laws.twin_locations.Same.{key_moved}
use Rattle.twin_report_laws.proofs.outcome_laws.twin_words.Sums.{some_one, none_some, sum-cons, sum_same}
use Rattle.twin_report_laws.proofs.outcome_laws.twin_words.Options.{mapped_at, unmapped_at}
use Rattle.twin_report_laws.proofs.outcome_laws.twin_words.Members.{Member, at_member, member_map, member_filter, find_member, at_range}
use Rattle.twin_report_laws.proofs.outcome_laws.twin_words.Results.{IsFunctionKey, own, library, key_view, lead_same, width_same, width_there, width_round, result_renamed, result_tags, void_tags}
use Rattle.twin_report_laws.proofs.outcome_laws.twin_words.Library.{library_type}
use Rattle.twin_report_laws.specs.rows.Paired.{ArePaired, flipped}
use Rattle.twin_report_laws.proofs.rows.Views.{here, over, count_same, all_functions}
use Rattle.twin_report_laws.proofs.rows.Types.{nodes_moved, own_tags, kept_moved, kept_take, kept_at_moved, type_moved}

-- ---- lists
pub same_map : {X Y : Type 0} (f g : X → Y) (xs : List X) → ((x : X) → Member xs x → f x ≡ g x) → map f xs ≡ map g xs
same_map f g [] h = refl
same_map f g (x ∷ xs) h = ap (λ y. y ∷ map f xs) (h x (inl refl)) ∙ ap (λ ys. g x ∷ ys) (same_map f g xs (λ z there. h z (inr there)))

pub map_map : {X Y Z : Type 0} (g : Y → Z) (f : X → Y) (xs : List X) → map g (map f xs) ≡ map (λ x. g (f x)) xs
map_map g f [] = refl
map_map g f (x ∷ xs) = ap (λ ys. g (f x) ∷ ys) (map_map g f xs)

pub in_range : (n i : ℕ) → Member (range_with_len 0 n) i → i < n
in_range n i m =
    let (k, at) = at_member (range_with_len 0 n) i m in
    let (lt, number) = at_range 0 n k i at in
    omega (arith, lt, number)

-- ---- the item of a list of widths to which a number belongs, and how far in it is
abbrev pub found_in : List ℕ → ℕ → ℕ × ℕ
found_in [] k = (0, k)
found_in (w ∷ ws) k = if nat_lt k w then (0, k) else (suc (found_in ws (k - w)).0, (found_in ws (k - w)).1)

pub found_at : (ws : List ℕ) (n i w : ℕ) → slice_get ws n ≡ Some w → i < w → found_in ws (sum (take n ws) + i) ≡ (n, i)
found_at [] n i w at lt = absurd (none_some at)
found_at (v ∷ ws) zero i w at lt =
    let same = some_one at in
    let less : i < v = omega (arith, same, lt) in
    let zero_is : 0 + i ≡ i = omega arith in
    ap (found_in (v ∷ ws)) zero_is ∙ ap (λ (b : Bool). if b then (0, i) else (suc (found_in ws (i - v)).0, (found_in ws (i - v)).1)) (lt-ltb i v less)
found_at (v ∷ ws) (suc n) i w at lt =
    let cons = sum-cons v (take n ws) in
    let k : ℕ = sum (take (suc n) (v ∷ ws)) + i in
    let past : v ≤ k = omega (arith, cons) in
    let rest : k - v ≡ sum (take n ws) + i = omega (arith, cons) in
    let later = found_at ws n i w at lt in
    ap (λ (b : Bool). if b then (0, k) else (suc (found_in ws (k - v)).0, (found_in ws (k - v)).1)) (le-ltb k v past)
    ∙ (ap (λ (m : ℕ). (suc (found_in ws m).0, (found_in ws m).1)) rest ∙ ap (λ (r : ℕ × ℕ). (suc r.0, r.1)) later)

-- whether it belongs to the first one
abbrev found_by : Bool → List ℕ → ℕ → ℕ → ℕ × ℕ
found_by b ws k w = if b then (0, k) else (suc (found_in ws (k - w)).0, (found_in ws (k - w)).1)

pub record IsFoundIn (ws : List ℕ) (k n i : ℕ) : Type 0 where
  pub width : ℕ
  pub there : slice_get ws n ≡ Some width
  pub within : i < width
  pub place : k ≡ sum (take n ws) + i

pub found_there : (ws : List ℕ) (k : ℕ) → k < sum ws → IsFoundIn ws k (found_in ws k).0 (found_in ws k).1
found_there [] k lt = absurd (omega (arith, lt))
found_there (w ∷ ws) k lt = by (nat_lt k w) refl (λ less. found_there ws (k - w) less)
  where
    by : (b : Bool) → nat_lt k w ≡ b → (k - w < sum ws → IsFoundIn ws (k - w) (found_in ws (k - w)).0 (found_in ws (k - w)).1) → IsFoundIn (w ∷ ws) k (found_by b ws k w).0 (found_by b ws k w).1
    by true e rest = record { width = w; there = refl; within = ltb-true k w e; place = omega arith }
    by false e rest =
        let ge = ltb-false k w e in
        let cons = sum-cons w ws in
        let later = rest (omega (arith, lt, ge, cons)) in
        let place = later.place in
        let more = sum-cons w (take (found_in ws (k - w)).0 ws) in
        record { width = later.width; there = later.there; within = later.within; place = omega (arith, place, more, ge) }

-- ---- nodes that have rows
kept_member : (a : ℕ) (ts : List Ctype) (i : ℕ) → Member (kept_from a ts) i → (d : ℕ) × (i ≡ a + d) × (d < length ts) × (kept_at (slice_get ts d) ≡ true)
kept_member a [] i m = absurd m
kept_member a (t ∷ ts) i m = by (kept_at (Some t)) refl (λ n. later n (kept_member (a + 1) ts i n)) m
  where
    later : Member (kept_from (a + 1) ts) i → (d : ℕ) × (i ≡ a + 1 + d) × (d < length ts) × (kept_at (slice_get ts d) ≡ true) → (d : ℕ) × (i ≡ a + d) × (d < length (t ∷ ts)) × (kept_at (slice_get (t ∷ ts) d) ≡ true)
    later n found =
        let (d, is, lt, kept_there) = found in
        (suc d, omega (arith, is), omega (arith, lt), kept_there)

    by : (b : Bool) → kept_at (Some t) ≡ b → (Member (kept_from (a + 1) ts) i → (d : ℕ) × (i ≡ a + d) × (d < length (t ∷ ts)) × (kept_at (slice_get (t ∷ ts) d) ≡ true))
        → Member (if b then a ∷ kept_from (a + 1) ts else kept_from (a + 1) ts) i → (d : ℕ) × (i ≡ a + d) × (d < length (t ∷ ts)) × (kept_at (slice_get (t ∷ ts) d) ≡ true)
    by true e rest (inl same) = (0, omega (arith, same), omega arith, e)
    by true e rest (inr n) = rest n
    by false e rest n = rest n

pub kept_less : (ts : List Ctype) (i : ℕ) → i < length ts → kept_at (slice_get ts i) ≡ true → kept_count (take i ts) < kept_count ts
kept_less ts i lt is =
    let more = count_more ts i lt is in
    let few = kept_fewer ts (i + 1) in
    omega (arith, more, few)

pub kept_length_below : (ts : List Ctype) (i : ℕ) → Member (kept ts) i → (i < length ts) × (0 < length ts)
kept_length_below ts i m =
    let (d, is, lt, kept_there) = kept_member 0 ts i m in
    (omega (arith, is, lt), omega (arith, lt))

-- rows from one number on lead to rows from another one on
abbrev pub Leads : (ℕ → ℕ) → List Ctype → ℕ → ℕ → Type 0
Leads m ts first other = (j : ℕ) → j < kept_count ts → m (first + j) ≡ other + j

module _ (m f : ℕ → ℕ) (ts : List Ctype) where
  pub kept_row_moved : (first other i : ℕ) → Leads m ts first other → Member (kept ts) i → kept_row other (map (renamed f) ts) i ≡ m (kept_row first ts i)
  kept_row_moved first other i leads there =
      let (d, is, lt, kept_there) = kept_member 0 ts i there in
      let same : d ≡ i = omega (arith, is) in
      let less : kept_count (take i ts) < kept_count ts = subst (λ (k : ℕ). kept_count (take k ts) < kept_count ts) same (kept_less ts d lt kept_there) in
      ap (λ (n : ℕ). other + n) (kept_take f i ts) ∙ sym (leads (kept_count (take i ts)) less)

  row_list_at : (none other_none first other i : ℕ) → m none ≡ other_none → Leads m ts first other → i < length ts
      → row_or other_none (kept_row other (map (renamed f) ts) i) (kept_at (slice_get (map (renamed f) ts) i)) ≡ m (row_or none (kept_row first ts i) (kept_at (slice_get ts i)))
  row_list_at none other_none first other i none_is leads lt =
      ap (row_or other_none (kept_row other (map (renamed f) ts) i)) (kept_at_moved f i ts) ∙ by (kept_at (slice_get ts i)) refl
    where
      by : (b : Bool) → kept_at (slice_get ts i) ≡ b → row_or other_none (kept_row other (map (renamed f) ts) i) b ≡ m (row_or none (kept_row first ts i) b)
      by true e = ap (λ (n : ℕ). other + n) (kept_take f i ts) ∙ sym (leads (kept_count (take i ts)) (kept_less ts i lt e))
      by false e = sym none_is

  pub row_list_moved : (none other_none first other : ℕ) → m none ≡ other_none → Leads m ts first other → row_list other_none other (map (renamed f) ts) ≡ map m (row_list none first ts)
  row_list_moved none other_none first other none_is leads =
      ap (λ (n : ℕ). map (λ i. row_or other_none (kept_row other (map (renamed f) ts) i) (kept_at (slice_get (map (renamed f) ts) i))) (range_with_len 0 n)) (length-map ts (renamed f))
      ∙ (same_map (λ i. row_or other_none (kept_row other (map (renamed f) ts) i) (kept_at (slice_get (map (renamed f) ts) i))) (λ i. m (row_or none (kept_row first ts i) (kept_at (slice_get ts i)))) (range_with_len 0 (length ts))
      (λ i there. row_list_at none other_none first other i none_is leads (in_range (length ts) i there))
      ∙ sym (map_map m (λ i. row_or none (kept_row first ts i) (kept_at (slice_get ts i))) (range_with_len 0 (length ts))))

-- ---- the row that a row leads to
module _ (p q : Program) (to back : Numbers) (h : ArePaired p q to back) where
  abbrev pub u : CoreTrees
  u = trees_in p

  abbrev pub v : CoreTrees
  v = trees_in q

  abbrev pub s : SpaceView
  s = here p q to back h

  abbrev pub z : SpaceView
  z = over p q to back h

  -- the rows of locations, those of nodes, and all others
  abbrev pub row_by : Bool → Bool → ℕ → ℕ
  row_by true nodes r = r
  row_by false true r = list_row v z (to.node (found_in (widths u) (r - s.count)).0) + (found_in (widths u) (r - s.count)).1
  row_by false false r = r

  abbrev pub row_moved : ℕ → ℕ
  row_moved r = row_by (nat_lt r s.count) (nat_lt r (s.count + sum (widths u))) r

  pub row_location : (r : ℕ) → r < s.count → row_moved r ≡ r
  row_location r lt = ap (λ (b : Bool). row_by b (nat_lt r (s.count + sum (widths u))) r) (lt-ltb r s.count lt)

  pub row_past : (r : ℕ) → s.count + sum (widths u) ≤ r → row_moved r ≡ r
  row_past r le =
      let far : s.count ≤ r = omega (arith, le) in
      ap (λ (b : Bool). row_by b (nat_lt r (s.count + sum (widths u))) r) (le-ltb r s.count far) ∙ ap (λ (b : Bool). row_by false b r) (le-ltb r (s.count + sum (widths u)) le)

  -- a row among those of a node
  pub width_at : (n : ℕ) (x : Node) → slice_get p.nodes.items n ≡ Some x → slice_get (widths u) n ≡ Some (width u x)
  width_at n x at = mapped_at (width u) p.nodes.items n x at

  take_fits : (ws : List ℕ) (n w : ℕ) → slice_get ws n ≡ Some w → sum (take n ws) + w ≤ sum ws
  take_fits [] n w at = absurd (none_some at)
  take_fits (x ∷ ws) zero w at = (let same = some_one at in let cons = sum-cons x ws in omega (arith, same, cons))
  take_fits (x ∷ ws) (suc n) w at =
      let cons = sum-cons x ws in
      let front = sum-cons x (take n ws) in
      let rest = take_fits ws n w at in
      omega (arith, cons, front, rest)

  -- each of a node's rows leads to the one of the same number of the other node
  pub row_start : (n : ℕ) (x : Node) (i : ℕ) → slice_get p.nodes.items n ≡ Some x → i < width u x → row_moved (list_row u s n + i) ≡ list_row v z (to.node n) + i
  unfolding list_row
  row_start n x i at lt =
      let r : ℕ = (s.count + sum (take n (widths u))) + i in
      let fits = take_fits (widths u) n (width u x) (width_at n x at) in
      let far : s.count ≤ r = omega arith in
      let less : r < s.count + sum (widths u) = omega (arith, fits, lt) in
      let rest : r - s.count ≡ sum (take n (widths u)) + i = omega arith in
      let found : found_in (widths u) (r - s.count) ≡ (n, i) = ap (found_in (widths u)) rest ∙ found_at (widths u) n i (width u x) (width_at n x at) lt in
      ap (λ (b : Bool). row_by b (nat_lt r (s.count + sum (widths u))) r) (le-ltb r s.count far)
      ∙ (ap (λ (b : Bool). row_by false b r) (lt-ltb r (s.count + sum (widths u)) less) ∙ ap (λ (f : ℕ × ℕ). list_row v z (to.node f.0) + f.1) found)

  row_from : (n : ℕ) (x : Node) → slice_get p.nodes.items n ≡ Some x → row u s n ≡ list_row u s n + lead x.kind
  unfolding row list_row
  row_from n x at = ap (λ (o : Option Node). (s.count + sum (take n (widths u))) + lead_in o) at

  other_from : (n : ℕ) (x : Node) → slice_get p.nodes.items n ≡ Some x → row v z (to.node n) ≡ list_row v z (to.node n) + lead x.kind
  unfolding row list_row
  other_from n x at =
      let (y, there, same) = h.lead.nodes n x at in
      ap (λ (o : Option Node). (z.count + sum (take (to.node n) (widths v))) + lead_in o) there
      ∙ ap (λ (k : ℕ). (z.count + sum (take (to.node n) (widths v))) + k) (ap lead same.kind ∙ lead_same to.entity x.kind)

  -- so do the rows of its own, from the first of these on, and what is behind them
  pub row_node : (n : ℕ) (x : Node) (i : ℕ) → slice_get p.nodes.items n ≡ Some x → i < own_width p.types x + trail u x.kind x.children → row_moved (row u s n + i) ≡ row v z (to.node n) + i
  row_node n x i at lt =
      let here_is = row_from n x at in
      let there_is = other_from n x at in
      let wide : lead x.kind + i < width u x = omega (arith, lt) in
      let first : row u s n + i ≡ list_row u s n + (lead x.kind + i) = omega (arith, here_is) in
      let last : list_row v z (to.node n) + (lead x.kind + i) ≡ row v z (to.node n) + i = omega (arith, there_is) in
      ap row_moved first ∙ (row_start n x (lead x.kind + i) at wide ∙ last)

  -- the row of what a list may be
  pub list_moved : (n : ℕ) (x : Node) → slice_get p.nodes.items n ≡ Some x → x.kind ≡ NextArg → row_moved (list_row u s n) ≡ list_row v z (to.node n)
  list_moved n x at kind =
      let one : lead x.kind ≡ 1 = ap lead kind in
      let moved = row_start n x 0 at (omega (arith, one)) in
      let here_is : list_row u s n + 0 ≡ list_row u s n = omega arith in
      let there_is : list_row v z (to.node n) + 0 ≡ list_row v z (to.node n) = omega arith in
      sym (ap row_moved here_is) ∙ (moved ∙ there_is)

  pub node_rows_same : sum (widths v) ≡ sum (widths u)
  node_rows_same =
      sym (sum_same (widths u) (widths v) to.node back.node (width_there p q to back h.lead h.again h.sound h.other_sound) (width_there q p back to h.again h.lead h.other_sound h.sound)
      (width_round p q to back h.lead h.again h.sound h.other_sound) (width_round q p back to h.again h.lead h.other_sound h.sound))

  -- ---- results of functions
  pub function_type : (key : ObjectKey) → IsFunctionKey p key → key_type v (key_moved to key) ≡ renamed to.tag (key_type u key)
  function_type key (own e x at storage) =
      let (y, there, same) = h.lead.entities e x at in
      ap (λ (o : Option Entity). type_or_void q.types (option_map (λ (w : Entity). w.ty) o)) there
      ∙ (same.type ∙ sym (ap (λ (o : Option Entity). renamed to.tag (type_or_void p.types (option_map (λ (w : Entity). w.ty) o))) at))
  function_type key (library k there) = library_type p q to back h.lead h.again k

  pub function_tags : (key : ObjectKey) → IsFunctionKey p key → HasTags p.types.tags (key_type u key)
  function_tags key (own e x at storage) = subst (λ (o : Option Entity). HasTags p.types.tags (type_or_void p.types (option_map (λ (w : Entity). w.ty) o))) (sym at) (own_tags p q to back h x.ty.0)
  function_tags key (library k there) = void_tags p q to back h.lead h.again h.sound h.other_sound p.types (library_id k p.entities.items) (own_tags p q to back h)

  pub result_nodes_moved : (key : ObjectKey) → IsFunctionKey p key → result_nodes v (key_moved to key) ≡ map (renamed to.tag) (result_nodes u key)
  result_nodes_moved key known =
      ap (λ (t : Ctype). nodes_of q.types (result_of t)) (function_type key known)
      ∙ (ap (nodes_of q.types) (result_renamed to.tag (key_type u key)) ∙ nodes_moved p q to back h (result_of (key_type u key)) (result_tags p.types.tags (key_type u key) (function_tags key known)))

  pub function_in : (key : ObjectKey) → Member (functions_of u s) key → IsFunctionKey p key
  unfolding functions_below
  function_in key m =
      let (o, there, is) = member_filter (λ (found : Option ObjectKey). found) (objects_at s (function_keys u) s.count) key m in
      let (l, l_in, found) = member_map (object_at s (function_keys u)) (range_with_len 0 s.count) o there in
      key_view p key (find_member (begins_at s l) (function_keys u) key (found ∙ is)).0

  pub result_widths_same : result_widths v z ≡ result_widths u s
  result_widths_same =
      ap (λ (ks : List ObjectKey). map (λ key. kept_count (result_nodes v key)) ks) (all_functions p q to back h)
      ∙ (map_map (λ key. kept_count (result_nodes v key)) (key_moved to) (functions_of u s)
      ∙ same_map (λ key. kept_count (result_nodes v (key_moved to key))) (λ key. kept_count (result_nodes u key)) (functions_of u s)
      (λ key there. ap kept_count (result_nodes_moved key (function_in key there)) ∙ ap (λ (ks : List ℕ). length ks) (kept_moved to.tag (result_nodes u key))))

  pub none_same : none_row v z ≡ none_row u s
  unfolding none_row
  none_same =
      let locations = count_same p q to back h in
      let nodes = node_rows_same in
      let results = ap sum result_widths_same in
      omega (arith, locations, nodes, results)

  pub result_same : (k : ℕ) → result_row v z k ≡ result_row u s k
  unfolding result_row
  result_same k =
      let locations = count_same p q to back h in
      let nodes = node_rows_same in
      let results = ap (λ (ws : List ℕ). sum (take k ws)) result_widths_same in
      omega (arith, locations, nodes, results)

  none_far : s.count + sum (widths u) ≤ none_row u s
  unfolding none_row
  none_far = omega arith

  pub none_moved : row_moved (none_row u s) ≡ none_row v z
  none_moved = row_past (none_row u s) none_far ∙ sym none_same

  result_far : (k j : ℕ) → s.count + sum (widths u) ≤ result_row u s k + j
  unfolding result_row
  result_far k j = omega arith

  pub result_moved : (k j : ℕ) → row_moved (result_row u s k + j) ≡ result_row v z k + j
  result_moved k j = row_past (result_row u s k + j) (result_far k j) ∙ ap (λ (n : ℕ). n + j) (sym (result_same k))

  -- ---- rows of values and of places
  pub value_leads : (n : ℕ) (x : Node) → slice_get p.nodes.items n ≡ Some x → sort_of x.kind ≡ ValueNode → Leads row_moved (nodes_of p.types (type_of p.types x.ty.0)) (row u s n) (row v z (to.node n))
  value_leads n x at value j lt =
      let wide : own_width p.types x ≡ kept_count (nodes_of p.types (type_of p.types x.ty.0)) = ap (λ (sort : Sort). width_by sort (kept_count (nodes_of p.types (type_of p.types x.ty.0)))) value in
      row_node n x j at (omega (arith, wide, lt))

  pub place_moved : (n : ℕ) (x : Node) → slice_get p.nodes.items n ≡ Some x → sort_of x.kind ≡ PlaceNode → row_moved (row u s n) ≡ row v z (to.node n)
  place_moved n x at place =
      let wide : own_width p.types x ≡ 1 = ap (λ (sort : Sort). width_by sort (kept_count (nodes_of p.types (type_of p.types x.ty.0)))) place in
      let moved = row_node n x 0 at (omega (arith, wide)) in
      let here_is : row u s n + 0 ≡ row u s n = omega arith in
      let there_is : row v z (to.node n) + 0 ≡ row v z (to.node n) = omega arith in
      sym (ap row_moved here_is) ∙ (moved ∙ there_is)

  pub first_moved : (ts : List Ctype) (first other : ℕ) → Leads row_moved ts first other → 0 < kept_count ts → row_moved first ≡ other
  first_moved ts first other leads some =
      let moved = leads 0 some in
      let here_is : first + 0 ≡ first = omega arith in
      let there_is : other + 0 ≡ other = omega arith in
      sym (ap row_moved here_is) ∙ (moved ∙ there_is)

  -- the row of all arguments of a call past the parameters
  pub rest_moved : (n : ℕ) (x : Node) → slice_get p.nodes.items n ≡ Some x → sort_of x.kind ≡ ValueNode → 0 < trail u x.kind x.children → row_moved (rest_row u s n) ≡ rest_row v z (to.node n)
  unfolding rest_row
  rest_moved n x at value some =
      let here_type : type_at u n ≡ type_of p.types x.ty.0 = ap (type_in p.types) at in
      let wide : own_width p.types x ≡ kept_count (nodes_of p.types (type_at u n)) =
      ap (λ (sort : Sort). width_by sort (kept_count (nodes_of p.types (type_of p.types x.ty.0)))) value ∙ sym (ap (λ (t : Ctype). kept_count (nodes_of p.types t)) here_type) in
      let moved = row_node n x (kept_count (nodes_of p.types (type_at u n))) at (omega (arith, wide, some)) in
      let same : kept_count (nodes_of q.types (type_at v (to.node n))) ≡ kept_count (nodes_of p.types (type_at u n)) =
      ap (λ (t : Ctype). kept_count (nodes_of q.types t)) (type_moved p q to back h n x at ∙ ap (renamed to.tag) here_type)
      ∙ (ap kept_count (nodes_moved p q to back h (type_of p.types x.ty.0) (own_tags p q to back h x.ty.0))
      ∙ (ap (λ (ks : List ℕ). length ks) (kept_moved to.tag (nodes_of p.types (type_of p.types x.ty.0))) ∙ sym (ap (λ (t : Ctype). kept_count (nodes_of p.types t)) here_type))) in
      moved ∙ ap (λ (k : ℕ). row v z (to.node n) + k) (sym same)

  pub values_moved : (n : ℕ) (x : Node) → slice_get p.nodes.items n ≡ Some x → sort_of x.kind ≡ ValueNode → value_rows v z (to.node n) ≡ map row_moved (value_rows u s n)
  values_moved n x at value =
      let here_type : type_at u n ≡ type_of p.types x.ty.0 = ap (type_in p.types) at in
      let nodes : nodes_of q.types (type_at v (to.node n)) ≡ map (renamed to.tag) (nodes_of p.types (type_of p.types x.ty.0)) =
      ap (nodes_of q.types) (type_moved p q to back h n x at ∙ ap (renamed to.tag) here_type) ∙ nodes_moved p q to back h (type_of p.types x.ty.0) (own_tags p q to back h x.ty.0) in
      ap (row_list (none_row v z) (row v z (to.node n))) nodes
      ∙ (row_list_moved row_moved to.tag (nodes_of p.types (type_of p.types x.ty.0)) (none_row u s) (none_row v z) (row u s n) (row v z (to.node n)) none_moved (value_leads n x at value)
      ∙ sym (ap (λ (t : Ctype). map row_moved (row_list (none_row u s) (row u s n) (nodes_of p.types t))) here_type))

-- ---- the way back
module _ (p q : Program) (to back : Numbers) (h : ArePaired p q to back) where
  pub rows_round : (r : ℕ) → row_moved q p back to (flipped p q to back h) (row_moved p q to back h r) ≡ r
  unfolding list_row
  rows_round r = elim (cases_lt r (here p q to back h).count) [
    | inl lt ↦
        ap (row_moved q p back to (flipped p q to back h)) (row_location p q to back h r lt)
        ∙ row_location q p back to (flipped p q to back h) r (let locations = count_same p q to back h in omega (arith, lt, locations))
    | inr ge ↦ elim (cases_lt r ((here p q to back h).count + sum (widths (trees_in p)))) [
      | inr past ↦
          ap (row_moved q p back to (flipped p q to back h)) (row_past p q to back h r past)
          ∙ row_past q p back to (flipped p q to back h) r (let locations = count_same p q to back h in let nodes = node_rows_same p q to back h in omega (arith, past, locations, nodes))
      | inl lt ↦ middle ge lt
    ]
  ]
    where
      middle : (here p q to back h).count ≤ r → r < (here p q to back h).count + sum (widths (trees_in p)) → row_moved q p back to (flipped p q to back h) (row_moved p q to back h r) ≡ r
      middle ge lt =
          let k : ℕ = r - (here p q to back h).count in
          let f = found_there (widths (trees_in p)) k (omega (arith, ge, lt)) in
          let n : ℕ = (found_in (widths (trees_in p)) k).0 in
          let i : ℕ = (found_in (widths (trees_in p)) k).1 in
          let (x, at, wide) = unmapped_at (width (trees_in p)) p.nodes.items n f.width f.there in
          let within = f.within in
          let place = f.place in
          let less : i < width (trees_in p) x = omega (arith, within, wide) in
          let is : r ≡ list_row (trees_in p) (here p q to back h) n + i = omega (arith, ge, place) in
          let (y, there, same) = h.lead.nodes n x at in
          let other_less : i < width (trees_in q) y = (let even = width_same p q to back h.lead h.again h.sound h.other_sound n x y at same in omega (arith, less, even)) in
          let round : back.node (to.node n) ≡ n = h.lead.node_back n (slice_get_within p.nodes.items n x at) in
          ap (λ (m : ℕ). row_moved q p back to (flipped p q to back h) (row_moved p q to back h m)) is
          ∙ (ap (row_moved q p back to (flipped p q to back h)) (row_start p q to back h n x i at less)
          ∙ (row_start q p back to (flipped p q to back h) (to.node n) y i there other_less ∙ (ap (λ (m : ℕ). list_row (trees_in p) (here p q to back h) m + i) round ∙ sym is)))
