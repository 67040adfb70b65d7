-- Programs that are one have as many rows.
use Rattle.std.proofs.Common.{arith, ◌≡◌, ◌∙◌, ◌+◌, ◌<◌, ◌≤◌, ◌⊎◌, ℕ, true, false, List, [], ◌∷◌, map, Option, Some, None, refl, sym, ap, subst, inl, inr}
use Rattle.std.specs.Prelude.{sum, if◌then◌else◌, ◌==◌, All, length}
use Rattle.std.specs.List.{slice_get, filter_map, cons_option, enumerate_from, range_with_len}
use Rattle.std.specs.Option.{option_map, option_map_or}
use Rattle.std.proofs.lemmas.Bool.{eqb-true, eq-eqb, false≢true}
use Rattle.std.proofs.lemmas.Option.{slice_get_within, slice_get_cases}
use Rattle.c_types.specs.declared.key.ObjectKey.{ObjectKey}
use Rattle.c_types.specs.declared.key.ObjectKey.TheVariants.{Entity as EntityKey, Function as FunctionKey}
use Rattle.c_types.specs.Trees.{Ctype, PointerTo, FunctionFrom}
use Rattle.c_types.specs.Table.{Table, type_of}
use Rattle.type_rules.specs.Conversions.{result_of}
use Rattle.core_tree.specs.declared.node.Node.{Node}
use Rattle.core_tree.specs.declared.node.NodeKind.{NodeKind}
use Rattle.core_tree.specs.declared.node.NodeKind.TheVariants.{Named, FunctionName, Literal, VarArgs, Block, For, Initialise, CallNode}
use Rattle.core_tree.specs.declared.node.Entity.{Entity}
use Rattle.core_tree.specs.declared.node.Storage.{Storage}
use Rattle.core_tree.specs.declared.node.Storage.TheVariants.{FunctionBody}
use Rattle.core_tree.specs.declared.node.Program.{Program}
use Rattle.core_tree.specs.Typed.{CoreTrees, Sort, sort_of, type_in, type_at, trees_in}
use Rattle.link_model.specs.Renamed.{renamed}
use Rattle.link_model.specs.Partition.{HasTags}
use Rattle.link_merge.proofs.Own.{type_tags}
use Rattle.unit_link.specs.Places.{kind_renamed}
use Rattle.obj_space.specs.Space.{locations_in}
use Rattle.obj_space.specs.View.{SpaceView, view_of}
use Rattle.row_numbers.specs.declared.functions.Role.TheVariants.{Defined}
use Rattle.row_numbers.specs.Kept.{kept_count, nodes_of}
use Rattle.row_numbers.specs.Objects.{library_id}
use Rattle.row_numbers.specs.Functions.{has_body, key_if, keys_in, begins_at, object_at, function_keys, functions_below, type_or_void, key_type}
use Rattle.row_numbers.specs.Setting.{width_by, takes_further, calls_further, own_width, lead, trail, trail_at, width, widths, result_nodes, result_widths, none_row, row_total}
use Rattle.linked_laws.proofs.main_laws.Objects.{body_begins}
use Rattle.twin_report_laws.specs.outcome_laws.twin_programs.One.{Numbers, SameNode, LeadsTo}
use Rattle.twin_report_laws.specs.outcome_laws.twin_words.Words.{IsSound}
use Rattle.twin_report_laws.proofs.outcome_laws.twin_words.Sums.{some_one, none_some, sum-cons, sum_within, sum_same}
use Rattle.twin_report_laws.proofs.outcome_laws.twin_words.Options.{mapped_at, unmapped_at}
use Rattle.twin_report_laws.proofs.outcome_laws.twin_words.Members.{Member, member_left, member_right, member_split, member_map, map_member, member_filter, filter_member, member_numbered, numbered_member, find_member, find_some, range_at, at_range}
use Rattle.twin_report_laws.proofs.outcome_laws.twin_words.Tables.{kept_there, kept_alike}
use Rattle.twin_report_laws.proofs.outcome_laws.twin_words.Locations.{as_many_locations}
use Rattle.twin_report_laws.proofs.outcome_laws.twin_words.Library.{one_object, first_below, library_begins, library_type}

-- ---- rows of nodes
pub sort_same : (f : ℕ → ℕ) (kind : NodeKind) → sort_of (kind_renamed f kind) ≡ sort_of kind
sort_same f (Named e) = refl
sort_same f (FunctionName e) = refl
sort_same f (Literal e) = refl
sort_same f (VarArgs e) = refl
sort_same f (Block es) = refl
sort_same f (For es c a) = refl
sort_same f (Initialise e paths) = refl
sort_same f kind = refl

pub lead_same : (f : ℕ → ℕ) (kind : NodeKind) → lead (kind_renamed f kind) ≡ lead kind
lead_same f (Named e) = refl
lead_same f (FunctionName e) = refl
lead_same f (Literal e) = refl
lead_same f (VarArgs e) = refl
lead_same f (Block es) = refl
lead_same f (For es c a) = refl
lead_same f (Initialise e paths) = refl
lead_same f kind = refl

pub takes_same : (f : ℕ → ℕ) (t : Ctype) → takes_further (renamed f t) ≡ takes_further t
takes_same f (FunctionFrom result parameters form) = refl
takes_same f t = refl

pub calls_same : (f : ℕ → ℕ) (t : Ctype) → calls_further (renamed f t) ≡ calls_further t
calls_same f (PointerTo to) = takes_same f to
calls_same f t = refl

module _ (p q : Program) (to back : Numbers) (l : LeadsTo p q to back) (r : LeadsTo q p back to) (sound : IsSound p) (other_sound : IsSound q) where
  own_same : (x y : Node) → SameNode p.types q.types to x y → own_width q.types y ≡ own_width p.types x
  own_same x y s =
      ap (λ (k : Sort). width_by k (kept_count (nodes_of q.types (type_of q.types y.ty.0)))) (ap sort_of s.kind ∙ sort_same to.entity x.kind)
      ∙ ap (width_by (sort_of x.kind)) (kept_there p q to back l r sound other_sound x.ty.0 y.ty.0 s.type)

  -- the type of a node in both
  at_same : (c : ℕ) → c < length p.nodes.items → type_at (trees_in q) (to.node c) ≡ renamed to.tag (type_at (trees_in p) c)
  at_same c lt = elim (slice_get_cases p.nodes.items c).1 [
    | inl known ↦
        let (y, there, same) = l.nodes c known.0 known.2 in
        ap (type_in q.types) there ∙ (same.type ∙ sym (ap (λ (o : Option Node). renamed to.tag (type_in p.types o)) known.2))
    | inr past ↦ (let far = past.0 in absurd (omega (arith, far, lt)))
  ]

  trail_same : (n : ℕ) (x : Node) (kind : NodeKind) (children : List ℕ) → n < length p.nodes.items → All (λ c. c < n) children
      → trail (trees_in q) (kind_renamed to.entity kind) (map to.node children) ≡ trail (trees_in p) kind children
  trail_same n x CallNode [] lt all = refl
  trail_same n x CallNode (c ∷ arguments) lt all =
      ap (λ (t : Ctype). trail_at (calls_further t)) (at_same c (let less : c < n = all 0 0 (omega arith) in omega (arith, less, lt))) ∙ ap trail_at (calls_same to.tag (type_at (trees_in p) c))
  trail_same n x (Named e) children lt all = refl
  trail_same n x (FunctionName e) children lt all = refl
  trail_same n x (Literal e) children lt all = refl
  trail_same n x (VarArgs e) children lt all = refl
  trail_same n x (Block es) children lt all = refl
  trail_same n x (For es c a) children lt all = refl
  trail_same n x (Initialise e paths) children lt all = refl
  trail_same n x kind children lt all = refl

  pub width_same : (n : ℕ) (x y : Node) → slice_get p.nodes.items n ≡ Some x → SameNode p.types q.types to x y → width (trees_in q) y ≡ width (trees_in p) x
  width_same n x y at s =
      let before = ap lead s.kind ∙ lead_same to.entity x.kind in
      let own = own_same x y s in
      let behind : trail (trees_in q) y.kind y.children ≡ trail (trees_in p) x.kind x.children =
      ap (λ (k : NodeKind). trail (trees_in q) k y.children) s.kind
      ∙ (ap (trail (trees_in q) (kind_renamed to.entity x.kind)) s.children ∙ trail_same n x x.kind x.children (slice_get_within p.nodes.items n x at) (sound.range.children n x at)) in
      omega (arith, before, own, behind)

  pub width_there : (i a : ℕ) → slice_get (widths (trees_in p)) i ≡ Some a → slice_get (widths (trees_in q)) (to.node i) ≡ Some a
  width_there i a at =
      let (x, x_at, is) = unmapped_at (width (trees_in p)) p.nodes.items i a at in
      let (y, there, same) = l.nodes i x x_at in
      mapped_at (width (trees_in q)) q.nodes.items (to.node i) y there ∙ ap Some (width_same i x y x_at same ∙ is)

  pub width_round : (i a : ℕ) → slice_get (widths (trees_in p)) i ≡ Some a → back.node (to.node i) ≡ i
  width_round i a at = (let (x, x_at, is) = unmapped_at (width (trees_in p)) p.nodes.items i a at in l.node_back i (slice_get_within p.nodes.items i x x_at))

-- ---- functions
-- a function with a body, or one of the library
pub data IsFunctionKey (p : Program) : ObjectKey → Type 0 where
  own : (e : ℕ) (x : Entity) → slice_get p.entities.items e ≡ Some x → x.storage ≡ FunctionBody → IsFunctionKey p (EntityKey e)
  library : (k : ℕ) → Member (range_with_len 0 55) k → IsFunctionKey p (FunctionKey k)

defined_view : (e : ℕ) (x : Entity) (key : ObjectKey) → key_if Defined e x ≡ Some key → (x.storage ≡ FunctionBody) × (EntityKey e ≡ key)
defined_view e x key h = by x.storage h
  where
    by : (s : Storage) → (if has_body s then Some (EntityKey e) else None) ≡ Some key → (s ≡ FunctionBody) × (EntityKey e ≡ key)
    by FunctionBody f = (refl, some_one f)
    by s f = absurd (none_some f)

pub key_view : (p : Program) (key : ObjectKey) → Member (function_keys (trees_in p)) key → IsFunctionKey p key
key_view p key m = elim (member_split (keys_in Defined p.entities.items) (map (λ k. FunctionKey k) (range_with_len 0 55)) key m) [
  | inl mine ↦
      let (entry, there, is) = member_filter (λ (entry : ℕ × Entity). key_if Defined entry.0 entry.1) (enumerate_from 0 p.entities.items) key mine in
      let (e, at, number) = member_numbered 0 p.entities.items entry there in
      let (storage, same) = defined_view entry.0 entry.1 key is in
      let e_is : e ≡ entry.0 = omega (arith, number) in
      subst (IsFunctionKey p) same (own entry.0 entry.1 (ap (slice_get p.entities.items) (sym e_is) ∙ at) storage)
  | inr its ↦
      let (k, there, same) = member_map (λ (k : ℕ). FunctionKey k) (range_with_len 0 55) key its in
      subst (IsFunctionKey p) same (library k there)
]

key_member : (p : Program) (key : ObjectKey) → IsFunctionKey p key → Member (function_keys (trees_in p)) key
key_member p key (own e x at storage) =
    let zero_is : 0 + e ≡ e = omega arith in
    let there : Member (enumerate_from 0 p.entities.items) (e, x) = subst (λ (n : ℕ). Member (enumerate_from 0 p.entities.items) (n, x)) zero_is (numbered_member 0 p.entities.items e x at) in
    let is : key_if Defined e x ≡ Some (EntityKey e) = ap (λ (s : Storage). if has_body s then Some (EntityKey e) else None) storage in
    member_left (keys_in Defined p.entities.items) (map (λ k. FunctionKey k) (range_with_len 0 55)) (EntityKey e) (filter_member (λ (entry : ℕ × Entity). key_if Defined entry.0 entry.1) (enumerate_from 0 p.entities.items) (e, x) (EntityKey e) there is)
key_member p key (library k there) =
    member_right (keys_in Defined p.entities.items) (map (λ k. FunctionKey k) (range_with_len 0 55)) (FunctionKey k) (map_member (λ (n : ℕ). FunctionKey n) (range_with_len 0 55) k there)

abbrev moved : Numbers → ObjectKey → ObjectKey
moved to (EntityKey e) = EntityKey (to.entity e)
moved to key = key

-- what stands at a location: the rows of its result
abbrev found_rows : CoreTrees → Option ObjectKey → ℕ
found_rows u None = 0
found_rows u (Some key) = kept_count (result_nodes u key)

abbrev at_locations : CoreTrees → SpaceView → List ℕ
at_locations u s = map (λ n. found_rows u (object_at s (function_keys u) n)) (range_with_len 0 s.count)

filtered_sum : (u : CoreTrees) (f : ℕ → Option ObjectKey) (ns : List ℕ)
    → sum (map (λ key. kept_count (result_nodes u key)) (filter_map (λ found. found) (map f ns))) ≡ sum (map (λ n. found_rows u (f n)) ns)
filtered_sum u f [] = refl
filtered_sum u f (n ∷ ns) = by (f n) (filtered_sum u f ns)
  where
    by : (o : Option ObjectKey) → sum (map (λ key. kept_count (result_nodes u key)) (filter_map (λ found. found) (map f ns))) ≡ sum (map (λ n. found_rows u (f n)) ns)
        → sum (map (λ key. kept_count (result_nodes u key)) (cons_option o (filter_map (λ found. found) (map f ns)))) ≡ sum (found_rows u o ∷ map (λ n. found_rows u (f n)) ns)
    by None more = (let one = sum-cons 0 (map (λ n. found_rows u (f n)) ns) in omega (arith, more, one))
    by (Some key) more =
        let one = sum-cons (kept_count (result_nodes u key)) (map (λ key. kept_count (result_nodes u key)) (filter_map (λ found. found) (map f ns))) in
        let two = sum-cons (kept_count (result_nodes u key)) (map (λ n. found_rows u (f n)) ns) in
        omega (arith, more, one, two)

result_sum : (u : CoreTrees) (s : SpaceView) → sum (result_widths u s) ≡ sum (at_locations u s)
unfolding functions_below
result_sum u s = filtered_sum u (object_at s (function_keys u)) (range_with_len 0 s.count)

begins_view : (s : SpaceView) (n : ℕ) (key : ObjectKey) → begins_at s n key ≡ true → s.first key ≡ Some n
begins_view s n key h = by (s.first key) h
  where
    by : (o : Option ℕ) → option_map_or (λ first. first == n) o false ≡ true → o ≡ Some n
    by None e = absurd (false≢true e)
    by (Some m) e = ap Some (eqb-true m n e)

begins_is : (s : SpaceView) (n : ℕ) (key : ObjectKey) → s.first key ≡ Some n → begins_at s n key ≡ true
begins_is s n key h = ap (λ (o : Option ℕ). option_map_or (λ first. first == n) o false) h ∙ eq-eqb n n refl

pub result_renamed : (f : ℕ → ℕ) (t : Ctype) → result_of (renamed f t) ≡ renamed f (result_of t)
result_renamed f (FunctionFrom result parameters form) = refl
result_renamed f t = refl

pub result_tags : (n : ℕ) (t : Ctype) → HasTags n t → HasTags n (result_of t)
result_tags n (FunctionFrom result parameters form) h = h.0
result_tags n t h = tt

module _ (p q : Program) (to back : Numbers) (l : LeadsTo p q to back) (r : LeadsTo q p back to) (sound : IsSound p) (other_sound : IsSound q) where
  abbrev s : SpaceView
  s = view_of (locations_in p)

  abbrev z : SpaceView
  z = view_of (locations_in q)

  -- the function in the other program
  function_there : (key : ObjectKey) (i : ℕ) → IsFunctionKey p key → s.first key ≡ Some i → IsFunctionKey q (moved to key) × ((j : ℕ) × (z.first (moved to key) ≡ Some j))
  function_there key i (own e x at storage) h =
      let (y, there, same) = l.entities e x at in
      (own (to.entity e) y there (same.storage ∙ storage), body_begins q (to.entity e) y there (same.storage ∙ storage))
  function_there key i (library k there) h = (library k there, library_begins p q to back l r k i h)

  -- its result has as many rows
  type_rows : (t other : Ctype) → HasTags p.types.tags t → other ≡ renamed to.tag t → kept_count (nodes_of q.types (result_of other)) ≡ kept_count (nodes_of p.types (result_of t))
  type_rows t other has e =
      ap (λ (w : Ctype). kept_count (nodes_of q.types w)) (ap result_of e ∙ result_renamed to.tag t) ∙ kept_alike p q to back l r sound other_sound (result_of t) (result_tags p.types.tags t has)

  pub void_tags : (table : Table) (id : _) → ((n : ℕ) → HasTags table.tags (type_of table n)) → HasTags table.tags (type_or_void table id)
  void_tags table None h = tt
  void_tags table (Some id) h = h id.0

  result_same : (key : ObjectKey) → IsFunctionKey p key → kept_count (result_nodes (trees_in q) (moved to key)) ≡ kept_count (result_nodes (trees_in p) key)
  result_same key (own e x at storage) =
      let (y, there, same) = l.entities e x at in
      let here : key_type (trees_in p) (EntityKey e) ≡ type_of p.types x.ty.0 = ap (λ (o : Option Entity). type_or_void p.types (option_map (λ (w : Entity). w.ty) o)) at in
      let other : key_type (trees_in q) (EntityKey (to.entity e)) ≡ type_of q.types y.ty.0 = ap (λ (o : Option Entity). type_or_void q.types (option_map (λ (w : Entity). w.ty) o)) there in
      ap (λ (w : Ctype). kept_count (nodes_of q.types (result_of w))) other
      ∙ (type_rows (type_of p.types x.ty.0) (type_of q.types y.ty.0) (type_tags p.types x.ty.0 sound.named) same.type
      ∙ ap (λ (w : Ctype). kept_count (nodes_of p.types (result_of w))) (sym here))
  result_same key (library k there) =
      type_rows (type_or_void p.types (library_id k p.entities.items)) (type_or_void q.types (library_id k q.entities.items))
      (void_tags p.types (library_id k p.entities.items) (λ n. type_tags p.types n sound.named)) (library_type p q to back l r k)

  -- keys of functions that lead to one key are one
  moved_once : (a b : ObjectKey) → IsFunctionKey p a → IsFunctionKey p b → moved to a ≡ moved to b → a ≡ b
  moved_once a b (own e x at storage) (own f y there other) same =
      let numbers : to.entity e ≡ to.entity f = one_entity same in
      ap EntityKey (sym (l.entity_back e (slice_get_within p.entities.items e x at)) ∙ (ap back.entity numbers ∙ l.entity_back f (slice_get_within p.entities.items f y there)))
    where
      one_entity : {m n : ℕ} → EntityKey m ≡ EntityKey n → m ≡ n
      one_entity e = cc
  moved_once a b (own e x at storage) (library k there) same = absurd (cc)
  moved_once a b (library k there) (own e x at storage) same = absurd (cc)
  moved_once a b (library k there) (library m other) same = same

  -- the function at a location, and its location in the other program
  record Leads (i j : ℕ) : Type 0 where
    key : ObjectKey
    function : IsFunctionKey p key
    first : s.first key ≡ Some i
    other : z.first (moved to key) ≡ Some j

  leads_once : (i h j : ℕ) → Leads i j → Leads h j → i ≡ h
  leads_once i h j a b =
      let keys : moved to a.key ≡ moved to b.key = one_object (locations_in q) j (moved to a.key) (moved to b.key) a.other b.other in
      let same : a.key ≡ b.key = moved_once a.key b.key a.function b.function keys in
      some_one (sym a.first ∙ (ap s.first same ∙ b.first))

  leads_at : (i a : ℕ) → slice_get (at_locations (trees_in p) s) i ≡ Some a → (a ≡ 0) ⊎ ((j : ℕ) × Leads i j × (slice_get (at_locations (trees_in q) z) j ≡ Some a))
  leads_at i a at =
      let (n, n_at, is) = unmapped_at (λ n. found_rows (trees_in p) (object_at s (function_keys (trees_in p)) n)) (range_with_len 0 s.count) i a at in
      let (lt, number) = at_range 0 s.count i n n_at in
      let n_is : n ≡ i = omega (arith, number) in
      by (object_at s (function_keys (trees_in p)) i) refl (ap (λ (m : ℕ). found_rows (trees_in p) (object_at s (function_keys (trees_in p)) m)) (sym n_is) ∙ is)
    where
      by : (o : Option ObjectKey) → object_at s (function_keys (trees_in p)) i ≡ o → found_rows (trees_in p) (object_at s (function_keys (trees_in p)) i) ≡ a
          → (a ≡ 0) ⊎ ((j : ℕ) × Leads i j × (slice_get (at_locations (trees_in q) z) j ≡ Some a))
      by None e value = inl (sym value ∙ ap (found_rows (trees_in p)) e)
      by (Some key) e value =
          let (m, begun) = find_member (begins_at s i) (function_keys (trees_in p)) key e in
          let function = key_view p key m in
          let first = begins_view s i key begun in
          let (there, located) = function_there key i function first in
          let (j, other) = located in
          let (w, found) = find_some (begins_at z j) (function_keys (trees_in q)) (moved to key) (key_member q (moved to key) there) (begins_is z j (moved to key) other) in
          let (w_member, w_begun) = find_member (begins_at z j) (function_keys (trees_in q)) w found in
          let same : w ≡ moved to key = one_object (locations_in q) j w (moved to key) (begins_view z j w w_begun) other in
          let rows : found_rows (trees_in q) (object_at z (function_keys (trees_in q)) j) ≡ a =
          ap (found_rows (trees_in q)) found ∙ (ap (λ (k : ObjectKey). kept_count (result_nodes (trees_in q) k)) same ∙ (result_same key function ∙ (sym (ap (found_rows (trees_in p)) e) ∙ value))) in
          let below : j < z.count = first_below (locations_in q) j (moved to key) other in
          let zero_is : 0 + j ≡ j = omega arith in
          inr (
            j,
            record { key = key; function = function; first = first; other = other },
            mapped_at (λ n. found_rows (trees_in q) (object_at z (function_keys (trees_in q)) n)) (range_with_len 0 z.count) j j (range_at 0 z.count j below ∙ ap Some zero_is) ∙ ap Some rows,
          )

  results_within : sum (at_locations (trees_in p) s) ≤ sum (at_locations (trees_in q) z)
  results_within = sum_within (at_locations (trees_in p) s) (at_locations (trees_in q) z) Leads leads_at leads_once

pub as_many_rows : (p q : Program) (to back : Numbers) → LeadsTo p q to back → LeadsTo q p back to → IsSound p → IsSound q → row_total (trees_in p) (view_of (locations_in p)) ≡ row_total (trees_in q) (view_of (locations_in q))
unfolding none_row
as_many_rows p q to back l r sound other_sound =
    let locations = as_many_locations p q to back l r sound other_sound in
    let nodes : sum (widths (trees_in p)) ≡ sum (widths (trees_in q)) =
    sum_same (widths (trees_in p)) (widths (trees_in q)) to.node back.node (width_there p q to back l r sound other_sound) (width_there q p back to r l other_sound sound)
    (width_round p q to back l r sound other_sound) (width_round q p back to r l other_sound sound) in
    let le = results_within p q to back l r sound other_sound in
    let ge = results_within q p back to r l other_sound sound in
    let one = result_sum (trees_in p) (view_of (locations_in p)) in
    let two = result_sum (trees_in q) (view_of (locations_in q)) in
    omega (arith, locations, nodes, le, ge, one, two)
