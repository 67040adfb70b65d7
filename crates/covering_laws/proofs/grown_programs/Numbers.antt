-- The numbers of rows and functions of a program with more types.
use Rattle.std.proofs.Common.{◌≡◌, ◌∙◌, ℕ, suc, ◌+◌, ◌<◌, Bool, true, false, cond, List, [], ◌∷◌, length, map, find, Option, Some, None, slice_get, refl, ap, subst}
use Rattle.std.specs.Prelude.{sum}
use Rattle.std.specs.Option.{option_map, option_map_or}
use Rattle.c_types.specs.declared.key.ObjectKey.{ObjectKey}
use Rattle.c_types.specs.declared.key.ObjectKey.TheVariants.{Entity as EntityKey, Text as TextKey, Call as CallKey, Library as LibraryKey, Star as StarKey, Function as FunctionKey}
use Rattle.c_types.specs.declared.key.ObjectKey.TheVariants.{Varargs as VarargsKey, Outside as OutsideKey}
use Rattle.c_types.specs.declared.term.Term.{Term}
use Rattle.c_types.specs.declared.term.TypeId.{TypeId}
use Rattle.c_types.specs.Trees.{Ctype}
use Rattle.c_types.specs.Table.{Table, type_of}
use Rattle.c_types.specs.Made.{IsMade}
use Rattle.type_rules.specs.Conversions.{result_of}
use Rattle.core_tree.specs.declared.node.Node.{Node}
use Rattle.core_tree.specs.declared.node.Entity.{Entity}
use Rattle.core_tree.specs.declared.node.Program.{Program}
use Rattle.core_tree.specs.Typed.{CoreTrees, sort_of, type_in, type_at, trees_in}
use Rattle.obj_space.specs.View.{SpaceView}
use Rattle.row_numbers.specs.Kept.{nodes_of, kept_count, row_list}
use Rattle.row_numbers.specs.Objects.{is_library}
use Rattle.row_numbers.specs.Functions.{functions_below, functions_of, number_at, number_of, key_id, type_or_void, key_type}
use Rattle.core_tree.specs.declared.node.NodeKind.{NodeKind}
use Rattle.core_tree.specs.declared.node.NodeKind.TheVariants.{CallNode}
use Rattle.row_numbers.specs.Setting.{width_by, own_width, lead, lead_in, trail, trail_at, calls_further, width, widths, result_nodes, result_widths, start_at, list_row, rest_row, row, result_row, none_row, row_total, value_rows}
use Rattle.covering_laws.specs.grown_programs.Grown.{with_terms, MayFollow, IsKept, with_types}
use Rattle.covering_laws.proofs.grown_programs.Tables.{map_same}
use Rattle.covering_laws.proofs.grown_programs.Types.{both, three, nodes_same}

none_some : {X : Type 0} → {x : X} → ◌≡◌ {A = Option X} None (Some x) → ⊥
none_some h = cc

some_one : {X : Type 0} → {x y : X} → ◌≡◌ {A = Option X} (Some x) (Some y) → x ≡ y
some_one h = cc

-- what is found in a list stands there
found_at : {X : Type 0} (test : X → Bool) (xs : List X) (x : X) → find test xs ≡ Some x → (k : ℕ) × (slice_get xs k ≡ Some x)
found_at test [] x h = absurd (none_some h)
found_at {X = X} test (y ∷ xs) x h = by (test y) h (found_at test xs x)
  where
    by : (b : Bool) → cond b (Some y) (find test xs) ≡ Some x → (find test xs ≡ Some x → (k : ℕ) × (slice_get xs k ≡ Some x)) → (k : ℕ) × (slice_get (y ∷ xs) k ≡ Some x)
    by true e next = (0, e)
    by false e next = let r = next e in (suc r.0, r.1)

module _ (p : Program) (more : List Term) (made : IsMade p.types) (follow : MayFollow (length p.types.terms) more) (kept : IsKept p.types (with_terms p.types more))
    (nodes_known : (n : ℕ) (node : Node) → slice_get p.nodes.items n ≡ Some node → node.ty.0 < length p.types.terms)
    (entities_known : (e : ℕ) (x : Entity) → slice_get p.entities.items e ≡ Some x → x.ty.0 < length p.types.terms) where
  abbrev table : Table
  table = p.types

  abbrev new : Table
  new = with_terms p.types more

  abbrev u : CoreTrees
  u = trees_in p

  abbrev u' : CoreTrees
  u' = trees_in (with_types p more)

  type_by : (n : ℕ) (o : Option Node) → slice_get p.nodes.items n ≡ o → type_in new o ≡ type_in table o
  type_by n None is = refl
  type_by n (Some node) is = kept.types node.ty.0 (nodes_known n node is)

  pub type_same : (n : ℕ) → type_at u' n ≡ type_at u n
  type_same n = type_by n (slice_get p.nodes.items n) refl

  -- the type of a function or a parameter
  void_by : (o : Option TypeId) → ((id : TypeId) → o ≡ Some id → id.0 < length table.terms) → type_or_void new o ≡ type_or_void table o
  void_by None known = refl
  void_by (Some id) known = kept.types id.0 (known id refl)

  entity_known : (e : ℕ) (o : Option Entity) → slice_get p.entities.items e ≡ o → (id : TypeId) → option_map (λ (x : Entity). x.ty) o ≡ Some id → id.0 < length table.terms
  entity_known e None is id h = absurd (none_some h)
  entity_known e (Some x) is id h = subst (λ (i : TypeId). i.0 < length table.terms) (some_one h) (entities_known e x is)

  library_known : (k : ℕ) (o : Option Entity) → find (is_library k) p.entities.items ≡ o → (id : TypeId) → option_map (λ (x : Entity). x.ty) o ≡ Some id → id.0 < length table.terms
  library_known k None is id h = absurd (none_some h)
  library_known k (Some x) is id h =
      let f = found_at (is_library k) p.entities.items x is in
      subst (λ (i : TypeId). i.0 < length table.terms) (some_one h) (entities_known f.0 x f.1)

  pub key_known : (key : ObjectKey) (id : TypeId) → key_id u key ≡ Some id → id.0 < length table.terms
  key_known (EntityKey e) id h = entity_known e (slice_get p.entities.items e) refl id h
  key_known (FunctionKey k) id h = library_known k (find (is_library k) p.entities.items) refl id h
  key_known (TextKey n) id h = absurd (none_some h)
  key_known (CallKey n) id h = absurd (none_some h)
  key_known (LibraryKey k) id h = absurd (none_some h)
  key_known (StarKey k) id h = absurd (none_some h)
  key_known OutsideKey id h = absurd (none_some h)
  key_known (VarargsKey k) id h = absurd (none_some h)

  pub key_id_same : (key : ObjectKey) → key_id u' key ≡ key_id u key
  key_id_same (EntityKey e) = refl
  key_id_same (FunctionKey k) = refl
  key_id_same (TextKey n) = refl
  key_id_same (CallKey n) = refl
  key_id_same (LibraryKey k) = refl
  key_id_same (StarKey k) = refl
  key_id_same OutsideKey = refl
  key_id_same (VarargsKey k) = refl

  pub key_type_same : (key : ObjectKey) → key_type u' key ≡ key_type u key
  key_type_same key = ap (type_or_void new) (key_id_same key) ∙ void_by (key_id u key) (λ id h. key_known key id h)

  -- functions by number
  pub functions_same : (s : SpaceView) (n : ℕ) → functions_below u' s n ≡ functions_below u s n
  unfolding functions_below
  functions_same s n = refl

  number_by : (s : SpaceView) (o : Option ℕ) → option_map_or (number_at u' s) o 0 ≡ option_map_or (number_at u s) o 0
  number_by s None = refl
  number_by s (Some l) = ap (λ (ks : List ObjectKey). length ks) (functions_same s l)

  pub number_same : (s : SpaceView) (f : ℕ) → number_of u' s f ≡ number_of u s f
  number_same s f = number_by s (s.first (EntityKey f))

  -- rows by number
  trail_same : (kind : NodeKind) (children : List ℕ) → trail u' kind children ≡ trail u kind children
  trail_same CallNode (c ∷ arguments) = ap (λ (t : Ctype). trail_at (calls_further t)) (type_by c (slice_get p.nodes.items c) refl)
  trail_same CallNode [] = refl
  trail_same kind children = refl

  own_width_same : (n : ℕ) (node : Node) → slice_get p.nodes.items n ≡ Some node → own_width new node ≡ own_width table node
  own_width_same n node is =
      ap (λ (ts : List Ctype). width_by (sort_of node.kind) (kept_count ts)) (ap (nodes_of new) (kept.types node.ty.0 (nodes_known n node is)) ∙ nodes_same table more made follow kept (type_of table node.ty.0))

  width_same : (n : ℕ) (node : Node) → slice_get p.nodes.items n ≡ Some node → width u' node ≡ width u node
  width_same n node is =
      ap (λ (k : ℕ). lead node.kind + k + trail u' node.kind node.children) (own_width_same n node is)
      ∙ ap (λ (k : ℕ). lead node.kind + own_width table node + k) (trail_same node.kind node.children)

  value_by : (n : ℕ) (o : Option Node) → slice_get p.nodes.items n ≡ o → kept_count (nodes_of new (type_in new o)) ≡ kept_count (nodes_of table (type_in table o))
  value_by n o is = ap (λ (t : Ctype). kept_count (nodes_of new t)) (type_by n o is) ∙ ap kept_count (nodes_same table more made follow kept (type_in table o))

  widths_same : widths u' ≡ widths u
  widths_same = map_same (width u') (width u) p.nodes.items width_same

  pub result_nodes_same : (key : ObjectKey) → result_nodes u' key ≡ result_nodes u key
  result_nodes_same key = ap (λ (t : Ctype). nodes_of new (result_of t)) (key_type_same key) ∙ nodes_same table more made follow kept (result_of (key_type u key))

  result_widths_same : (s : SpaceView) → result_widths u' s ≡ result_widths u s
  result_widths_same s =
      ap (map (λ (key : ObjectKey). kept_count (result_nodes u' key))) (functions_same s s.count)
      ∙ map_same (λ (key : ObjectKey). kept_count (result_nodes u' key)) (λ (key : ObjectKey). kept_count (result_nodes u key)) (functions_of u s) (λ k key at. ap kept_count (result_nodes_same key))

  pub row_same : (s : SpaceView) (n : ℕ) → row u' s n ≡ row u s n
  unfolding row
  row_same s n = ap (λ (ws : List ℕ). start_at s.count ws n + lead_in (slice_get p.nodes.items n)) widths_same

  pub list_row_same : (s : SpaceView) (n : ℕ) → list_row u' s n ≡ list_row u s n
  unfolding list_row
  list_row_same s n = ap (λ (ws : List ℕ). start_at s.count ws n) widths_same

  pub rest_row_same : (s : SpaceView) (n : ℕ) → rest_row u' s n ≡ rest_row u s n
  unfolding rest_row
  rest_row_same s n =
      ap (λ (r : ℕ). r + kept_count (nodes_of new (type_at u' n))) (row_same s n)
      ∙ ap (λ (k : ℕ). row u s n + k) (value_by n (slice_get p.nodes.items n) refl)

  pub result_row_same : (s : SpaceView) (number : ℕ) → result_row u' s number ≡ result_row u s number
  unfolding result_row
  result_row_same s number = both (λ (ws rs : List ℕ). start_at (s.count + sum ws) rs number) widths_same (result_widths_same s)

  pub none_row_same : (s : SpaceView) → none_row u' s ≡ none_row u s
  unfolding none_row
  none_row_same s = both (λ (ws rs : List ℕ). s.count + sum ws + sum rs) widths_same (result_widths_same s)

  pub total_same : (s : SpaceView) → row_total u' s ≡ row_total u s
  total_same s = ap (λ (k : ℕ). k + 1) (none_row_same s)

  pub value_rows_same : (s : SpaceView) (n : ℕ) → value_rows u' s n ≡ value_rows u s n
  value_rows_same s n =
      three row_list (none_row_same s) (row_same s n) (ap (nodes_of new) (type_same n) ∙ nodes_same table more made follow kept (type_at u n))
