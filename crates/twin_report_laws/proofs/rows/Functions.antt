-- The functions of two programs that are one, but for numbers.
use Rattle.std.proofs.Common.{arith, ◌≡◌, ◌∙◌, ◌+◌, ◌<◌, ◌^◌, ℕ, zero, suc, Bool, true, false, List, [], ◌∷◌, ◌++◌, map, length, Option, Some, None, unwrap_or, refl, sym, ap, subst, inl, inr}
use Rattle.std.specs.Prelude.{if◌then◌else◌, filter, ◌==◌}
use Rattle.std.specs.List.{slice_get, range_with_len, enumerate_from}
use Rattle.std.specs.Option.{option_map, option_map_or, IfSome}
use Rattle.std.proofs.lemmas.Bool.{eqb-true, eq-eqb, false≢true, cases_lt}
use Rattle.std.proofs.lemmas.List.{length-map, map-append}
use Rattle.std.proofs.lemmas.Option.{slice_get_within}
use Rattle.c_types.specs.declared.key.ObjectKey.{ObjectKey}
use Rattle.c_types.specs.declared.key.ObjectKey.TheVariants.{Entity as EntityKey, Text as TextKey, Call as CallKey, Library, Star, Function as FunctionKey}
use Rattle.c_types.specs.declared.key.ObjectKey.TheVariants.{Varargs as VarargsKey, Outside}
use Rattle.c_types.specs.declared.term.Form.TheVariants.{Fixed, Unspecified, Variadic}
use Rattle.c_types.specs.Trees.{Ctype, FunctionFrom}
use Rattle.c_types.specs.Table.{Table, type_of, extent_in, IsFirstOf}
use Rattle.core_tree.specs.declared.node.Entity.{Entity}
use Rattle.core_tree.specs.declared.node.Storage.{Storage}
use Rattle.core_tree.specs.declared.node.Storage.TheVariants.{Parameter, FunctionBody}
use Rattle.core_tree.specs.declared.node.Program.{Program}
use Rattle.core_tree.specs.Typed.{CoreTrees, trees_in}
use Rattle.link_model.specs.Renamed.{renamed}
use Rattle.obj_made.specs.declared.object.Content.TheVariants.{Typed}
use Rattle.obj_made.specs.Made.{entity_content}
use Rattle.obj_space.specs.Spots.{type_made}
use Rattle.obj_space.specs.Space.{locations_in}
use Rattle.obj_space.specs.View.{SpaceView}
use Rattle.sol_model.specs.declared.system.Function.{Function}
use Rattle.row_numbers.specs.declared.functions.Role.TheVariants.{Parameter as ParameterRole}
use Rattle.row_numbers.specs.Kept.{nodes_of, kept_at, row_or, row_list}
use Rattle.row_numbers.specs.Functions.{is_parameter, keys_in, begins_at, object_at, in_order, functions_of, entity_in, is_owned_by, all_parameters, parameters_of, key_type, type_or_void}
use Rattle.row_numbers.specs.Setting.{none_row, result_row, result_nodes, takes_further}
use Rattle.call_sites.specs.Signatures.{comparison, at_end, IsSignature, compares, ends, known, unknown, called_type}
use Rattle.normal_form.specs.Facts.{cell_list, parameter_rows, further_rows, parameters_by, library_by, effects_by, IsFunctionFact, AreFunctions}
use Rattle.linked_laws.proofs.system_laws.parameter_laws.Contents.{content_of}
use Rattle.linked_laws.proofs.system_laws.parameter_laws.Fitting.{is_first, all_nodes}
use Rattle.linked_laws.proofs.system_laws.Functions.{HasPlace, place_of}
use Rattle.twin_report_laws.specs.outcome_laws.twin_programs.One.{Numbers}
use Rattle.twin_report_laws.specs.outcome_laws.twin_locations.Same.{key_moved}
use Rattle.twin_report_laws.specs.systems.Systems.{Maps, SameFunction}
use Rattle.twin_report_laws.proofs.outcome_laws.twin_words.Sums.{some_one, none_some}
use Rattle.twin_report_laws.proofs.outcome_laws.twin_words.Options.{mapped_at, same_test}
use Rattle.twin_report_laws.proofs.outcome_laws.twin_words.Members.{Member, member_at, member_filter, member_map, find_member}
use Rattle.twin_report_laws.proofs.outcome_laws.twin_words.Results.{IsFunctionKey, own, library, takes_same}
use Rattle.twin_report_laws.specs.rows.Paired.{ArePaired, flipped}
use Rattle.twin_report_laws.specs.rows.Ready.{IsReady, HasId}
use Rattle.twin_report_laws.proofs.rows.Views.{here, over, begins_view, count_same, first_same, entity_round, IsInRole, in_role, role_moved, order_same, all_functions}
use Rattle.twin_report_laws.proofs.rows.Types.{nodes_moved, own_tags, kept_at_moved}
use Rattle.twin_report_laws.proofs.rows.Rows.{same_map, map_map, in_range, row_list_moved, row_moved, row_location, none_moved, result_moved, function_type, result_nodes_moved, function_in}
use Rattle.twin_report_laws.proofs.rows.Calls.{at_zip}
use Rattle.twin_report_laws.proofs.rows.Nodes.{some_at, key_stays}

filter_moved : (m : ObjectKey → ObjectKey) (test other : ObjectKey → Bool) (keys : List ObjectKey) → ((key : ObjectKey) → Member keys key → other (m key) ≡ test key) → filter other (map m keys) ≡ map m (filter test keys)
filter_moved m test other [] h = refl
filter_moved m test other (key ∷ keys) h =
    ap (λ (b : Bool). if b then m key ∷ filter other (map m keys) else filter other (map m keys)) (h key (inl refl))
    ∙ by (test key) (filter_moved m test other keys (λ k there. h k (inr there)))
  where
    by : (b : Bool) → filter other (map m keys) ≡ map m (filter test keys) → (if b then m key ∷ filter other (map m keys) else filter other (map m keys)) ≡ map m (if b then key ∷ filter test keys else filter test keys)
    by true e = ap (λ (ks : List ObjectKey). m key ∷ ks) e
    by false e = e

pub filter_member : (test : ObjectKey → Bool) (keys : List ObjectKey) (key : ObjectKey) → Member (filter test keys) key → Member keys key
filter_member test [] key m = m
filter_member test (k ∷ keys) key m = by (test k) (λ later. filter_member test keys key later) m
  where
    by : (b : Bool) → (Member (filter test keys) key → Member keys key) → Member (if b then k ∷ filter test keys else filter test keys) key → Member (k ∷ keys) key
    by true rest (inl same) = inl same
    by true rest (inr later) = inr (rest later)
    by false rest later = inr (rest later)

parameter_storage : (storage : Storage) → is_parameter storage ≡ true → storage ≡ Parameter
parameter_storage Parameter e = refl
parameter_storage storage e = absurd (false≢true e)

module _ (p q : Program) (to back : Numbers) (h : ArePaired p q to back) (ready : IsReady p) where
  abbrev s : SpaceView
  s = here p q to back h

  abbrev z : SpaceView
  z = over p q to back h

  abbrev m : ℕ → ℕ
  m = row_moved p q to back h

  -- ---- the parameters of a function
  all_same : all_parameters (trees_in q) z ≡ map (key_moved to) (all_parameters (trees_in p) s)
  all_same =
      ap (in_order z (keys_in ParameterRole q.entities.items)) (count_same p q to back h)
      ∙ order_same p q to back h (keys_in ParameterRole p.entities.items) (keys_in ParameterRole q.entities.items) (role_moved p q to back h ParameterRole) (role_moved q p back to (flipped p q to back h) ParameterRole) (length (locations_in p))

  pub parameter_in : (key : ObjectKey) → Member (all_parameters (trees_in p) s) key → (l : ℕ) × (s.first key ≡ Some l) × IsInRole p ParameterRole key
  parameter_in key there =
      let (o, o_in, is) = member_filter (λ (found : Option ObjectKey). found) (map (object_at s (keys_in ParameterRole p.entities.items)) (range_with_len 0 s.count)) key there in
      let (l, l_in, found) = member_map (object_at s (keys_in ParameterRole p.entities.items)) (range_with_len 0 s.count) o o_in in
      let (key_in, begun) = find_member (begins_at s l) (keys_in ParameterRole p.entities.items) key (found ∙ is) in
      (l, begins_view s l key begun, in_role p ParameterRole key key_in)

  owned_same : (f : ℕ) → f < length p.entities.items → (key : ObjectKey) → Member (all_parameters (trees_in p) s) key → is_owned_by (to.entity f) (entity_in (trees_in q) (key_moved to key)) ≡ is_owned_by f (entity_in (trees_in p) key)
  owned_same f lt key there =
      let (l, first, role) = parameter_in key there in
      let (b, b_at, same) = h.lead.entities role.number role.entity role.there in
      ap (λ (k : ObjectKey). is_owned_by (to.entity f) (entity_in (trees_in q) (key_moved to k))) role.key_is
      ∙ (ap (is_owned_by (to.entity f)) b_at
      ∙ (ap (λ (o : Option ℕ). option_map_or (λ owner. owner == to.entity f) o false) same.owner
      ∙ (by role.entity.owner (ready.owners role.number role.entity role.there)
      ∙ (sym (ap (is_owned_by f) role.there) ∙ sym (ap (λ (k : ObjectKey). is_owned_by f (entity_in (trees_in p) k)) role.key_is)))))
    where
      by : (o : Option ℕ) → IfSome o (λ k. k < length p.entities.items) → option_map_or (λ owner. owner == to.entity f) (option_map to.entity o) false ≡ option_map_or (λ owner. owner == f) o false
      by None within = refl
      by (Some k) within =
          same_test (k == f) (to.entity k == to.entity f) (λ e. eq-eqb (to.entity k) (to.entity f) (ap to.entity (eqb-true k f e)))
          (λ e. eq-eqb k f (sym (h.lead.entity_back k within) ∙ (ap back.entity (eqb-true (to.entity k) (to.entity f) e) ∙ h.lead.entity_back f lt)))

  pub parameters_same : (f : ℕ) → f < length p.entities.items → parameters_of (trees_in q) z (to.entity f) ≡ map (key_moved to) (parameters_of (trees_in p) s f)
  parameters_same f lt =
      ap (filter (λ key. is_owned_by (to.entity f) (entity_in (trees_in q) key))) all_same
      ∙ filter_moved (key_moved to) (λ key. is_owned_by f (entity_in (trees_in p) key)) (λ key. is_owned_by (to.entity f) (entity_in (trees_in q) key)) (all_parameters (trees_in p) s) (owned_same f lt)

  -- ---- rows of parameters
  -- each node of a parameter's type is a location
  node_located : (key : ObjectKey) (role : IsInRole p ParameterRole key) (l : ℕ) → s.first key ≡ Some l → (i : ℕ) (t : Ctype) → slice_get (nodes_of p.types (type_of p.types role.entity.ty.0)) i ≡ Some t → l + i < length (locations_in p)
  node_located key role l begins i t node =
      let first = is_first (locations_in p) key l begins in
      let (y, y_at, y_key) = first.here in
      let fits = content_of p l y y_at role.number (y_key ∙ role.key_is) in
      let same : fits.0 ≡ role.entity = some_one (sym fits.1 ∙ role.there) in
      let content : y.content ≡ Typed role.entity.ty =
      fits.2 ∙ (ap (λ (e : Entity). entity_content e.storage e.ty) same ∙ ap (λ (st : Storage). entity_content st role.entity.ty) (parameter_storage role.entity.storage role.plays)) in
      let there = ready.wholes key l y role.entity.ty i t first y_at (ap type_made content) (all_nodes (extent_in p.types (type_of p.types role.entity.ty.0)) i t node) in
      slice_get_within (locations_in p) (l + i) there.0 there.1

  cells_moved : (l : ℕ) (ts : List Ctype) → ((i : ℕ) (t : Ctype) → slice_get ts i ≡ Some t → l + i < length (locations_in p)) → cell_list (none_row (trees_in q) z) l (map (renamed to.tag) ts) ≡ map m (cell_list (none_row (trees_in p) s) l ts)
  cells_moved l ts each =
      ap (λ (n : ℕ). map (λ i. row_or (none_row (trees_in q) z) (l + i) (kept_at (slice_get (map (renamed to.tag) ts) i))) (range_with_len 0 n)) (length-map ts (renamed to.tag))
      ∙ (same_map (λ i. row_or (none_row (trees_in q) z) (l + i) (kept_at (slice_get (map (renamed to.tag) ts) i))) (λ i. m (row_or (none_row (trees_in p) s) (l + i) (kept_at (slice_get ts i)))) (range_with_len 0 (length ts)) (λ i there. at_one i (in_range (length ts) i there))
      ∙ sym (map_map m (λ i. row_or (none_row (trees_in p) s) (l + i) (kept_at (slice_get ts i))) (range_with_len 0 (length ts))))
    where
      at_one : (i : ℕ) → i < length ts → row_or (none_row (trees_in q) z) (l + i) (kept_at (slice_get (map (renamed to.tag) ts) i)) ≡ m (row_or (none_row (trees_in p) s) (l + i) (kept_at (slice_get ts i)))
      at_one i lt =
          let (t, t_at) = some_at ts i lt in
          ap (row_or (none_row (trees_in q) z) (l + i)) (kept_at_moved to.tag i ts) ∙ by (kept_at (slice_get ts i)) (row_location p q to back h (l + i) (each i t t_at))
        where
          by : (b : Bool) → m (l + i) ≡ l + i → row_or (none_row (trees_in q) z) (l + i) b ≡ m (row_or (none_row (trees_in p) s) (l + i) b)
          by true stays = sym stays
          by false stays = sym (none_moved p q to back h)

  pub entity_type_moved : (e : ℕ) (a : Entity) → slice_get p.entities.items e ≡ Some a → key_type (trees_in q) (EntityKey (to.entity e)) ≡ renamed to.tag (type_of p.types a.ty.0)
  entity_type_moved e a at = (let (b, there, same) = h.lead.entities e a at in ap (λ (o : Option Entity). type_or_void q.types (option_map (λ (k : Entity). k.ty) o)) there ∙ same.type)

  pub rows_same : (key : ObjectKey) → Member (all_parameters (trees_in p) s) key → parameter_rows (trees_in q) z (key_moved to key) ≡ map m (parameter_rows (trees_in p) s key)
  rows_same key there =
      let (l, first, role) = parameter_in key there in
      let type : key_type (trees_in p) key ≡ type_of p.types role.entity.ty.0 =
      ap (key_type (trees_in p)) role.key_is ∙ ap (λ (o : Option Entity). type_or_void p.types (option_map (λ (k : Entity). k.ty) o)) role.there in
      let type_over : key_type (trees_in q) (key_moved to key) ≡ renamed to.tag (type_of p.types role.entity.ty.0) =
      ap (λ (k : ObjectKey). key_type (trees_in q) (key_moved to k)) role.key_is ∙ entity_type_moved role.number role.entity role.there in
      let round : key_moved back (key_moved to key) ≡ key = subst (λ (k : ObjectKey). key_moved back (key_moved to k) ≡ k) (sym role.key_is) (entity_round p q to back h role.number role.entity role.there) in
      ap (λ (o : Option ℕ). cell_list (none_row (trees_in q) z) (unwrap_or o 0) (nodes_of q.types (key_type (trees_in q) (key_moved to key)))) (first_same p q to back h key round ∙ first)
      ∙ (ap (λ (t : Ctype). cell_list (none_row (trees_in q) z) l (nodes_of q.types t)) type_over
      ∙ (ap (cell_list (none_row (trees_in q) z) l) (nodes_moved p q to back h (type_of p.types role.entity.ty.0) (own_tags p q to back h role.entity.ty.0))
      ∙ (cells_moved l (nodes_of p.types (type_of p.types role.entity.ty.0)) (node_located key role l first)
      ∙ (sym (ap (λ (t : Ctype). map m (cell_list (none_row (trees_in p) s) l (nodes_of p.types t))) type)
      ∙ sym (ap (λ (o : Option ℕ). map m (cell_list (none_row (trees_in p) s) (unwrap_or o 0) (nodes_of p.types (key_type (trees_in p) key)))) first)))))

  -- the row behind the parameters of a variadic function
  further_same : (e : ℕ) (a : Entity) → slice_get p.entities.items e ≡ Some a → a.storage ≡ FunctionBody → further_rows (trees_in q) z (to.entity e) ≡ map (map m) (further_rows (trees_in p) s e)
  further_same e a at storage =
      let type : key_type (trees_in q) (EntityKey (to.entity e)) ≡ renamed to.tag (key_type (trees_in p) (EntityKey e)) = function_type p q to back h (EntityKey e) (own e a at storage) in
      let round : back.entity (to.entity e) ≡ e = h.lead.entity_back e (slice_get_within p.entities.items e a at) in
      let place : unwrap_or (z.first (VarargsKey (to.entity e))) 0 ≡ m (unwrap_or (s.first (VarargsKey e)) 0) =
      ap (λ (o : Option ℕ). unwrap_or o 0) (first_same p q to back h (VarargsKey e) (ap VarargsKey round)) ∙ sym (key_stays p q to back h ready [] [] (VarargsKey e)) in
      ap (λ (b : Bool). if b then (unwrap_or (z.first (VarargsKey (to.entity e))) 0 ∷ []) ∷ [] else []) (ap takes_further type ∙ takes_same to.tag (key_type (trees_in p) (EntityKey e)))
      ∙ (ap (λ (k : ℕ). if takes_further (key_type (trees_in p) (EntityKey e)) then (k ∷ []) ∷ [] else []) place ∙ by (takes_further (key_type (trees_in p) (EntityKey e))))
    where
      by : (b : Bool) → (if b then (m (unwrap_or (s.first (VarargsKey e)) 0) ∷ []) ∷ [] else []) ≡ map (map m) (if b then (unwrap_or (s.first (VarargsKey e)) 0 ∷ []) ∷ [] else [])
      by true = refl
      by false = refl

  lists_same : (key : ObjectKey) → IsFunctionKey p key → parameters_by (trees_in q) z (key_moved to key) ≡ map (map m) (parameters_by (trees_in p) s key)
  lists_same key (library k there) = refl
  lists_same key (own e a at storage) =
      let lt = slice_get_within p.entities.items e a at in
      let front : map (parameter_rows (trees_in q) z) (parameters_of (trees_in q) z (to.entity e)) ≡ map (map m) (map (parameter_rows (trees_in p) s) (parameters_of (trees_in p) s e)) =
      ap (map (parameter_rows (trees_in q) z)) (parameters_same e lt)
      ∙ (map_map (parameter_rows (trees_in q) z) (key_moved to) (parameters_of (trees_in p) s e)
      ∙ (same_map (λ key. parameter_rows (trees_in q) z (key_moved to key)) (λ key. map m (parameter_rows (trees_in p) s key)) (parameters_of (trees_in p) s e)
      (λ key there. rows_same key (filter_member (λ k. is_owned_by e (entity_in (trees_in p) k)) (all_parameters (trees_in p) s) key there))
      ∙ sym (map_map (map m) (parameter_rows (trees_in p) s) (parameters_of (trees_in p) s e)))) in
      ap (λ (lists : List (List ℕ)). lists ++ further_rows (trees_in q) z (to.entity e)) front
      ∙ (ap (λ (lists : List (List ℕ)). map (map m) (map (parameter_rows (trees_in p) s) (parameters_of (trees_in p) s e)) ++ lists) (further_same e a at storage)
      ∙ sym (map-append (map m) (map (parameter_rows (trees_in p) s) (parameters_of (trees_in p) s e)) (further_rows (trees_in p) s e)))

-- ---- signatures
pub called_same : (f : ℕ → ℕ) (t : Ctype) → called_type (renamed f t) ≡ renamed f (called_type t)
called_same f (FunctionFrom result parameters Unspecified) = refl
called_same f (FunctionFrom result parameters Fixed) = refl
called_same f (FunctionFrom result parameters Variadic) = refl
called_same f t = refl

two_types : comparison ≡ at_end → ⊥
two_types e = cc

one_first : {table : Table} {t : Ctype} (a b : ℕ) → IsFirstOf table t a → IsFirstOf table t b → a ≡ b
one_first a b h k = elim (cases_lt a b) [
  | inl less ↦ absurd (k.least a less h.same)
  | inr ge ↦ elim (cases_lt b a) [
    | inl more ↦ absurd (h.least b more k.same)
    | inr le ↦ omega (arith, ge, le)
  ]
]

-- a type has one signature
pub one_signature : (table : Table) (t : Ctype) (a b : ℕ) → IsSignature table t a → IsSignature table t b → a ≡ b
one_signature table t a b (compares e is) (compares f also) = is ∙ sym also
one_signature table t a b (compares e is) (ends f also) = absurd (two_types (sym e ∙ f))
one_signature table t a b (compares e is) (known other first also) = absurd (other.no_comparison e)
one_signature table t a b (compares e is) (unknown other none also) = absurd (other.no_comparison e)
one_signature table t a b (ends e is) (compares f also) = absurd (two_types (sym f ∙ e))
one_signature table t a b (ends e is) (ends f also) = is ∙ sym also
one_signature table t a b (ends e is) (known other first also) = absurd (other.not_at_end e)
one_signature table t a b (ends e is) (unknown other none also) = absurd (other.not_at_end e)
one_signature table t a b (known other first is) (compares f also) = absurd (other.no_comparison f)
one_signature table t a b (known other first is) (ends f also) = absurd (other.not_at_end f)
one_signature table t a b (known {id} other first is) (known {id = more} other_too second also) = is ∙ (ap (λ (n : ℕ). 2 + n) (one_first id more first second) ∙ sym also)
one_signature table t a b (known {id} other first is) (unknown other_too none also) = absurd (none.none id first.known first.same)
one_signature table t a b (unknown other none is) (compares f also) = absurd (other.no_comparison f)
one_signature table t a b (unknown other none is) (ends f also) = absurd (other.not_at_end f)
one_signature table t a b (unknown other none is) (known {id} other_too first also) = absurd (none.none id first.known first.same)
one_signature table t a b (unknown other none is) (unknown other_too none_too also) = is ∙ sym also

-- of a type that a table has, and one with the same signature, the types are one
same_signature : (table : Table) (t r : Ctype) (a b : ℕ) → length table.terms + 2 < 2 ^ 32 → HasId table t → IsSignature table t a → IsSignature table r b → a ≡ b → t ≡ r
same_signature table t r a b room id (compares e is) (compares f also) same = e ∙ sym f
same_signature table t r a b room id (compares e is) (ends f also) same = absurd (omega (arith, is, also, same))
same_signature table t r a b room id (compares e is) (known {id = k} other first also) same = absurd (omega (arith, is, also, same))
same_signature table t r a b room id (compares e is) (unknown other none also) same = absurd (omega (arith, is, also, same))
same_signature table t r a b room id (ends e is) (compares f also) same = absurd (omega (arith, is, also, same))
same_signature table t r a b room id (ends e is) (ends f also) same = e ∙ sym f
same_signature table t r a b room id (ends e is) (known {id = k} other first also) same = absurd (omega (arith, is, also, same))
same_signature table t r a b room id (ends e is) (unknown other none also) same = absurd (omega (arith, is, also, same))
same_signature table t r a b room id (known {id = j} other first is) (compares f also) same = absurd (omega (arith, is, also, same))
same_signature table t r a b room id (known {id = j} other first is) (ends f also) same = absurd (omega (arith, is, also, same))
same_signature table t r a b room id (known {id = j} other first is) (known {id = k} other_too second also) same =
    let one : j ≡ k = omega (arith, is, also, same) in
    sym first.same ∙ (ap (type_of table) one ∙ second.same)
same_signature table t r a b room id (known {id = j} other first is) (unknown other_too none also) same = (let within = first.known in absurd (omega (arith, is, also, same, within, room)))
same_signature table t r a b room id (unknown other none is) k same = absurd (none.none id.number id.within id.same)

at_numbered : {A : Type 0} (n : ℕ) (xs : List A) (i : ℕ) (x : A) → slice_get xs i ≡ Some x → slice_get (enumerate_from n xs) i ≡ Some (n + i, x)
at_numbered n [] i x at = absurd (none_some at)
at_numbered n (y ∷ ys) zero x at = (let zero_is : n ≡ n + 0 = omega arith in ap (λ k. Some (k, y)) zero_is ∙ ap (λ z. Some (n + 0, z)) (some_one at))
at_numbered n (y ∷ ys) (suc i) x at = (let next : (n + 1) + i ≡ n + suc i = omega arith in at_numbered (n + 1) ys i x at ∙ ap (λ k. Some (k, x)) next)

library_moved : (to : Numbers) (key : ObjectKey) → library_by (key_moved to key) ≡ library_by key
library_moved to (EntityKey e) = refl
library_moved to (TextKey e) = refl
library_moved to (CallKey e) = refl
library_moved to (Library k) = refl
library_moved to (Star k) = refl
library_moved to (VarargsKey k) = refl
library_moved to (FunctionKey k) = refl
library_moved to Outside = refl

effects_moved : (to : Numbers) (key : ObjectKey) → effects_by (key_moved to key) ≡ effects_by key
effects_moved to (EntityKey e) = refl
effects_moved to (TextKey e) = refl
effects_moved to (CallKey e) = refl
effects_moved to (Library k) = refl
effects_moved to (Star k) = refl
effects_moved to (VarargsKey k) = refl
effects_moved to (FunctionKey k) = refl
effects_moved to Outside = refl

module _ (p q : Program) (to back : Numbers) (h : ArePaired p q to back) (ready : IsReady p) where
  abbrev u : CoreTrees
  u = trees_in p

  abbrev v : CoreTrees
  v = trees_in q

  -- a function, and the one with its number
  pub record AreFunctionsOf (maps : Maps) (n : ℕ) (f g : Function) : Type 0 where
    pub same : SameFunction maps f g
    pub key : ObjectKey
    pub stands : slice_get (functions_of u (here p q to back h)) n ≡ Some key
    pub own_signature : IsSignature p.types (called_type (key_type u key)) f.signature
    pub over_signature : IsSignature q.types (renamed to.tag (called_type (key_type u key))) g.signature

  key_round : (key : ObjectKey) → IsFunctionKey p key → key_moved back (key_moved to key) ≡ key
  key_round key (own e a at storage) = entity_round p q to back h e a at
  key_round key (library k there) = refl

  results_same : (n : ℕ) (key : ObjectKey) → IsFunctionKey p key
      → row_list (none_row v (over p q to back h)) (result_row v (over p q to back h) n) (result_nodes v (key_moved to key)) ≡ map (row_moved p q to back h) (row_list (none_row u (here p q to back h)) (result_row u (here p q to back h) n) (result_nodes u key))
  results_same n key known_key =
      ap (row_list (none_row v (over p q to back h)) (result_row v (over p q to back h) n)) (result_nodes_moved p q to back h key known_key)
      ∙ row_list_moved (row_moved p q to back h) to.tag (result_nodes u key) (none_row u (here p q to back h)) (none_row v (over p q to back h)) (result_row u (here p q to back h) n) (result_row v (over p q to back h) n)
      (none_moved p q to back h) (λ j lt. result_moved p q to back h n j)

  compares_moved : (t r : Ctype) (a b : ℕ) → r ≡ renamed to.tag t → IsSignature p.types t a → IsSignature q.types r b → a ≡ 0 → b ≡ 0
  compares_moved t r a b type (compares e is) k zero_is = one_signature q.types r b 0 k (compares (type ∙ ap (renamed to.tag) e) refl)
  compares_moved t r a b type (ends e is) k zero_is = absurd (omega (arith, is, zero_is))
  compares_moved t r a b type (known {id = j} other first is) k zero_is = absurd (omega (arith, is, zero_is))
  compares_moved t r a b type (unknown other none is) k zero_is = absurd (omega (arith, is, zero_is))

  ends_moved : (t r : Ctype) (a b : ℕ) → r ≡ renamed to.tag t → IsSignature p.types t a → IsSignature q.types r b → a ≡ 1 → b ≡ 1
  ends_moved t r a b type (compares e is) k one_is = absurd (omega (arith, is, one_is))
  ends_moved t r a b type (ends e is) k one_is = one_signature q.types r b 1 k (ends (type ∙ ap (renamed to.tag) e) refl)
  ends_moved t r a b type (known {id = j} other first is) k one_is = absurd (omega (arith, is, one_is))
  ends_moved t r a b type (unknown other none is) k one_is = absurd (omega (arith, is, one_is))

  pub function_there : (maps : Maps) → ((r : ℕ) → maps.row r ≡ row_moved p q to back h r) → (fs gs : List Function) → AreFunctions u (here p q to back h) fs → AreFunctions v (over p q to back h) gs
      → (n : ℕ) (f : Function) → slice_get fs n ≡ Some f → (g : Function) × (slice_get gs n ≡ Some g) × AreFunctionsOf maps n f g
  function_there maps rows fs gs are others n f at =
      let o : HasPlace u (here p q to back h) n f = place_of u (here p q to back h) fs are n f at in
      let known_key = function_in p q to back h o.key (member_at (functions_of u (here p q to back h)) n o.key o.stands) in
      let over_stands : slice_get (functions_of v (over p q to back h)) n ≡ Some (key_moved to o.key) =
      ap (λ (ks : List ObjectKey). slice_get ks n) (all_functions p q to back h) ∙ mapped_at (key_moved to) (functions_of u (here p q to back h)) n o.key o.stands in
      let zero_is : 0 + n ≡ n = omega arith in
      let numbered : slice_get (enumerate_from 0 (functions_of v (over p q to back h))) n ≡ Some (n, key_moved to o.key) =
      at_numbered 0 (functions_of v (over p q to back h)) n (key_moved to o.key) over_stands ∙ ap (λ k. Some (k, key_moved to o.key)) zero_is in
      let (g, g_at, fact) = at_zip (λ (entry : ℕ × ObjectKey) function. IsFunctionFact v (over p q to back h) entry.0 entry.1 function) (enumerate_from 0 (functions_of v (over p q to back h))) gs n (n, key_moved to o.key) others numbered in
      let type : called_type (key_type v (key_moved to o.key)) ≡ renamed to.tag (called_type (key_type u o.key)) = ap called_type (function_type p q to back h o.key known_key) ∙ called_same to.tag (key_type u o.key) in
      let first = first_same p q to back h o.key (key_round o.key known_key) in (
        g,
        g_at,
        record {
          same = record {
            location = fact.location
                ∙ (ap (λ (k : Option ℕ). unwrap_or k 0) first
                ∙ (sym (key_stays p q to back h ready [] [] o.key) ∙ (sym (ap (row_moved p q to back h) o.fact.location) ∙ sym (rows f.location))));
            parameters = fact.parameters
                ∙ (lists_same p q to back h ready o.key known_key
                ∙ (sym (ap (map (map (row_moved p q to back h))) o.fact.parameters)
                ∙ same_map (map (row_moved p q to back h)) (map maps.row) f.parameters (λ list m. same_map (row_moved p q to back h) maps.row list (λ r k. sym (rows r)))));
            result = fact.result
                ∙ (results_same n o.key known_key ∙ (sym (ap (map (row_moved p q to back h)) o.fact.result) ∙ same_map (row_moved p q to back h) maps.row f.result (λ r k. sym (rows r))));
            library = fact.library ∙ (library_moved to o.key ∙ sym o.fact.library);
            effects = fact.effects ∙ (effects_moved to o.key ∙ sym o.fact.effects);
            compares = compares_moved (called_type (key_type u o.key)) (called_type (key_type v (key_moved to o.key))) f.signature g.signature type o.fact.signature fact.signature;
            ends = ends_moved (called_type (key_type u o.key)) (called_type (key_type v (key_moved to o.key))) f.signature g.signature type o.fact.signature fact.signature;
          };
          key = o.key;
          stands = o.stands;
          own_signature = o.fact.signature;
          over_signature = subst (λ (t : Ctype). IsSignature q.types t g.signature) type fact.signature;
        },
      )

  -- a function agrees with a call there, where it agrees with it here
  pub agree_there : (t r : Ctype) (a b c d : ℕ) → length p.types.terms + 2 < 2 ^ 32 → HasId p.types t → IsSignature p.types t a → IsSignature p.types r b → IsSignature q.types (renamed to.tag t) c → IsSignature q.types (renamed to.tag r) d
      → a ≡ b → c ≡ d
  agree_there t r a b c d room id one two over over_two same =
      let types = same_signature p.types t r a b room id one two same in
      one_signature q.types (renamed to.tag r) c d (subst (λ (w : Ctype). IsSignature q.types (renamed to.tag w) c) types over) over_two
