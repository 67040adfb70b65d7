-- The type by which each function of a linked program is called stands in the program's table.
use Rattle.std.proofs.Common.{arith, ◌≡◌, ◌∙◌, ◌+◌, ◌<◌, ◌^◌, ◌⊎◌, ◌||◌, ◌&&◌, ◌==◌, not, ℕ, zero, suc, Bool, true, false, cond, List, [], ◌∷◌, ◌++◌, map, length, Contains, Option, Some, None, is_some, refl, sym, ap, subst, inl, inr}
use Rattle.std.specs.Prelude.{⊤, if◌then◌else◌, find, filter, fold}
use Rattle.std.specs.List.{slice_get, list_any, range_with_len}
use Rattle.std.specs.Option.{option_map, option_map_or, option_or}
use Rattle.std.specs.Str.{bytes_eq}
use Rattle.std.specs.Cmp.Lexicographic.{bytes_decides}
use Rattle.std.proofs.lemmas.Bool.{cases_Bool, cases_lt, eq-eqb, false≢true}
use Rattle.std.proofs.lemmas.Option.{slice_get_within}
use Rattle.pta_base.specs.declared.place.Place.{Place}
use Rattle.c_types.specs.declared.key.ObjectKey.{ObjectKey}
use Rattle.c_types.specs.declared.key.ObjectKey.TheVariants.{Entity as EntityKey, Library as LibraryKey, Function as FunctionKey}
use Rattle.c_types.specs.declared.term.Form.TheVariants.{Fixed, Variadic, Unspecified}
use Rattle.c_types.specs.Trees.{Ctype, NoTypes, MoreTypes, FunctionFrom}
use Rattle.c_types.specs.Table.{Table, type_of}
use Rattle.type_rules.specs.Kinds.{IsFunction}
use Rattle.type_rules.specs.Sizes.{HasSignature}
use Rattle.core_tree.specs.declared.node.Unit.{Unit}
use Rattle.core_tree.specs.declared.node.Node.{Node}
use Rattle.core_tree.specs.declared.node.NodeKind.{NodeKind}
use Rattle.core_tree.specs.declared.node.NodeKind.TheVariants.{Named, FunctionName, Initialise}
use Rattle.core_tree.specs.declared.node.Entity.{Entity}
use Rattle.core_tree.specs.declared.node.Linkage.{Linkage}
use Rattle.core_tree.specs.declared.node.Linkage.TheVariants.{External}
use Rattle.core_tree.specs.declared.node.Storage.{Storage}
use Rattle.core_tree.specs.declared.node.Storage.TheVariants.{Declared as DeclaredOnly, FunctionBody}
use Rattle.core_tree.specs.declared.node.Program.{Program}
use Rattle.core_tree.specs.Typed.{trees_in}
use Rattle.core_tree.specs.Valid.{HasBody, InitialisesEntity, IsUseOf, IsUsed}
use Rattle.core_tree.specs.Rows.{InitialisesIn}
use Rattle.lib_summaries.specs.Table.{Row, Numbered, rows, find_from, summary_of}
use Rattle.link_names.specs.declared.declared.Declared.{Declared}
use Rattle.link_names.specs.Externals.{Joined, IsExternal, item_of, declared_type, type_in, is_named as is_named_by, is_function_type, is_declared_only, is_placed, has_body, is_defined, name_at}
use Rattle.link_names.specs.Shape.{HasShape, is_function_shape}
use Rattle.link_names.specs.Together.{composite, of_name, type_together, is_own, is_listed, has_list, linked_type, type_made, together, first_body, first_defined}
use Rattle.link_names.specs.Faults.{IsGiven}
use Rattle.unit_link.specs.Places.{node_place}
use Rattle.unit_link.specs.Linked.{IsLinkedName, NameUsed, LinkedAt, joined}
use Rattle.unit_link.specs.Needs.{AreLinkable}
use Rattle.linked_laws.proofs.link_laws.Wholeness.{comes_from, named_once}
use Rattle.obj_made.specs.Uses.{is_number, number_in, entity_number, library_number, named_entity, named_number, is_named, is_starred}
use Rattle.obj_made.specs.declared.object.Object.{Object}
use Rattle.obj_made.specs.Made.{objects_in, made_in_order}
use Rattle.obj_space.specs.Objects.{named_object, takes_arguments, star_object, star_objects, outside_objects, objects_of, function_if, function_object, functions_below, LibraryRow, library_rows, is_needed, library_object, library_objects_from, library_objects, star_if, library_part}
use Rattle.obj_space.specs.Space.{locations_of, locations_in}
use Rattle.obj_space.specs.View.{first_from, view_of}
use Rattle.row_numbers.specs.Objects.{is_open, is_library}
use Rattle.row_numbers.specs.Functions.{keys_in, begins_at, object_at, objects_at, function_keys, has_body as has_body_of, functions_below as functions_upto, functions_of, type_or_void, key_type}
use Rattle.row_numbers.specs.declared.functions.Role.TheVariants.{Defined}
use Rattle.call_sites.specs.Signatures.{called_type}
use Rattle.sol_model.proofs.Members.{at_Contains}
use Rattle.twin_report_laws.proofs.outcome_laws.twin_words.Sums.{some_one, none_some}
use Rattle.twin_report_laws.proofs.outcome_laws.twin_words.Options.{any_one}
use Rattle.twin_report_laws.proofs.outcome_laws.twin_words.Members.{Member, member_at, at_member, member_split, member_map, member_flat, member_filter, find_member, find_some, at_range}
use Rattle.twin_report_laws.proofs.outcome_laws.twin_words.Library.{IsOwn, all_own, member_own, begins, location_key, library_view, library_external, one_name}
use Rattle.twin_report_laws.proofs.outcome_laws.twin_locations.Options.{and_then_some, number_is}
use Rattle.linked_laws.specs.system_laws.item_laws.Items.{HasPlace, IsPlacedIn, IsPlacedAt, KindPlaced}
use Rattle.linked_laws.specs.alike_laws.Plain.{IsPlain, DefinesPlain}
use Rattle.twin_report_laws.specs.rows.Ready.{IsReady, HasId, HasCalled}
use Rattle.twin_report_laws.proofs.rows.Views.{begins_view, in_role}
use Rattle.twin_report_laws.proofs.rows.Nodes.{void_past}

-- ---- the functions of a program
-- a function stands among the program's functions, and its object begins somewhere
functions_found : (p : Program) (key : ObjectKey) → Member (functions_of (trees_in p) (view_of (locations_in p))) key
    → (l : ℕ) × Member (function_keys (trees_in p)) key × (first_from 0 (locations_in p) key ≡ Some l)
unfolding functions_upto
functions_found p key m =
    let s = view_of (locations_in p) in
    let (o, o_in, same) = member_filter (λ (found : Option ObjectKey). found) (objects_at s (function_keys (trees_in p)) s.count) key m in
    let (l, l_in, is) = member_map (object_at s (function_keys (trees_in p))) (range_with_len 0 s.count) o o_in in
    let (there, begins) = find_member (begins_at s l) (function_keys (trees_in p)) key (is ∙ same) in
    (l, there, begins_view s l key begins)

-- ---- a type of the table
in_table : (table : Table) (n : ℕ) (t : Ctype) → type_of table n ≡ t → IsFunction t → n < length table.terms
in_table table n t e is = elim (cases_lt n (length table.terms)) [
  | inl lt ↦ lt
  | inr past ↦ absurd (subst IsFunction (sym e ∙ void_past table n past) is)
]

-- of a function with a list the type by which it is called is its own
listed_id : (table : Table) (n : ℕ) (t : Ctype) → type_of table n ≡ t → is_listed t ≡ true → HasId table (called_type t)
listed_id table n (FunctionFrom r ps Fixed) e h = record { number = n; within = in_table table n (FunctionFrom r ps Fixed) e tt; same = e }
listed_id table n (FunctionFrom r ps Variadic) e h = record { number = n; within = in_table table n (FunctionFrom r ps Variadic) e tt; same = e }
listed_id table n t e h = absurd (false≢true h)

signed_id : (table : Table) (n : ℕ) (t : Ctype) → type_of table n ≡ t → IsFunction t → HasSignature table t → IsPlain t → HasId table (called_type t)
signed_id table n (FunctionFrom r ps Fixed) e is h plain = listed_id table n (FunctionFrom r ps Fixed) e refl
signed_id table n (FunctionFrom r ps Variadic) e is h plain = listed_id table n (FunctionFrom r ps Variadic) e refl
signed_id table n (FunctionFrom r NoTypes Unspecified) e is h plain = record { number = h.0; within = h.1; same = h.2 }
signed_id table n (FunctionFrom r (MoreTypes t ts) Unspecified) e is h plain = absurd plain
signed_id table n t e is h plain = absurd is

-- ---- the functions of the library
-- an object of the library's is a function that the program names
abbrev IsNamedKey : Program → ObjectKey → Type 0
IsNamedKey p (FunctionKey k) = is_named p.entities.items p.nodes.items k ≡ true
IsNamedKey p key = ⊤

abbrev AllNamed : Program → List Object → Type 0
AllNamed p [] = ⊤
AllNamed p (o ∷ rest) = IsNamedKey p o.key × AllNamed p rest

named_append : (p : Program) (a b : List Object) → AllNamed p a → AllNamed p b → AllNamed p (a ++ b)
named_append p [] b h k = k
named_append p (o ∷ a) b h k = (h.0, named_append p a b h.1 k)

named_member : (p : Program) (os : List Object) (o : Object) → AllNamed p os → Member os o → IsNamedKey p o.key
named_member p [] o h m = absurd m
named_member p (a ∷ rest) o h (inl same) = subst (λ (z : Object). IsNamedKey p z.key) same h.0
named_member p (a ∷ rest) o h (inr m) = named_member p rest o h.1 m

functions_named : (p : Program) (n : ℕ) → AllNamed p (functions_below p n)
unfolding functions_below
functions_named p zero = tt
functions_named p (suc n) = named_append p (functions_below p n) (function_object p n) (functions_named p n) (by (is_named p.entities.items p.nodes.items n) refl)
  where
    by : (b : Bool) → is_named p.entities.items p.nodes.items n ≡ b → AllNamed p (function_if b n)
    by true e = (e, tt)
    by false e = tt

rows_named : (p : Program) (named : ℕ → Bool) (arguments : Bool) (k : ℕ) (table : List LibraryRow) → AllNamed p (library_objects_from named arguments k table)
rows_named p named arguments k [] = tt
rows_named p named arguments k (row ∷ rest) =
    named_append p (library_object named arguments k row) (library_objects_from named arguments (k + 1) rest) (by (is_needed named arguments row)) (rows_named p named arguments (k + 1) rest)
  where
    by : (b : Bool) → AllNamed p (if b then named_object (LibraryKey k) row.name row.content ∷ [] else [])
    by true = (tt, tt)
    by false = tt

star_named : (p : Program) (b : Bool) (k : ℕ) → AllNamed p (star_if b k)
star_named p true k = (tt, tt)
star_named p false k = tt

stars_named : (p : Program) → AllNamed p (star_objects p)
stars_named p =
    let starred = is_starred p.entities.items p.nodes.items in
    named_append p (star_object p 0) (star_object p 1 ++ (star_object p 2 ++ star_object p 21)) (star_named p (starred 0) 0)
    (named_append p (star_object p 1) (star_object p 2 ++ star_object p 21) (star_named p (starred 1) 1)
    (named_append p (star_object p 2) (star_object p 21) (star_named p (starred 2) 2) (star_named p (starred 21) 21)))

outside_named : (p : Program) (entries : List ℕ) → AllNamed p (outside_objects entries)
outside_named p [] = tt
outside_named p (e ∷ entries) = (tt, tt)

library_named : (p : Program) → AllNamed p (library_part p)
unfolding library_objects
library_named p =
    let named = is_named p.entities.items p.nodes.items in
    let behind = star_objects p ++ outside_objects p.entries.items in
    named_append p (functions_below p 55) (library_objects named (takes_arguments p) ++ behind) (functions_named p 55)
    (named_append p (library_objects named (takes_arguments p)) behind (rows_named p named (takes_arguments p) 0 library_rows)
    (named_append p (star_objects p) (outside_objects p.entries.items) (stars_named p) (outside_named p p.entries.items)))

-- the object of a library's function that begins somewhere
library_object_at : (p : Program) (k l : ℕ) → first_from 0 (locations_in p) (FunctionKey k) ≡ Some l → (o : Object) × Member (library_part p) o × (o.key ≡ FunctionKey k)
unfolding locations_in
library_object_at p k l h =
    let f = begins (locations_in p) (FunctionKey k) 0 l h in
    let (o, there, at) = member_flat (locations_of p.types) (objects_of p) f.location (member_at (locations_in p) f.at f.location f.there) in
    let key : o.key ≡ FunctionKey k = sym (location_key p.types o o.content f.location at) ∙ f.key_is in
    elim (member_split (objects_in (made_in_order p)) (library_part p) o there) [
      | inl made ↦ absurd (subst IsOwn key (member_own p (made_in_order p) o (all_own p) made))
      | inr library ↦ (o, library, key)
    ]

-- a function of the library that begins somewhere is named by the program
located_named : (p : Program) (k l : ℕ) → first_from 0 (locations_in p) (FunctionKey k) ≡ Some l → is_named p.entities.items p.nodes.items k ≡ true
located_named p k l h =
    let (o, there, key) = library_object_at p k l h in
    subst (IsNamedKey p) key (named_member p (library_part p) o (library_named p) there)

-- ---- the shapes of the library's functions
abbrev FirstShaped : ℕ → List Row → Type 0
FirstShaped zero table = ⊤
FirstShaped (suc n) [] = ⊥
FirstShaped (suc n) (r ∷ rest) = (is_function_shape r.shape ≡ true) × FirstShaped n rest

found_row : (n : ℕ) (table : List Row) (name : List ℕ) (found : Numbered) → find_from n table name ≡ Some found → (i : ℕ) × (found.number ≡ n + i) × (slice_get table i ≡ Some found.row)
found_row n [] name found h = absurd (none_some h)
found_row n (x ∷ rest) name found h = elim (cases_Bool (bytes_eq x.name name)) [
  | inl its ↦
      let same = some_one (sym (ap (λ b. cond b (Some (record { number = n; row = x })) (find_from (n + 1) rest name)) its) ∙ h) in
      let number : n ≡ found.number = ap (λ (z : Numbered). z.number) same in
      (0, omega (arith, number), ap (λ (z : Numbered). Some z.row) same)
  | inr isnt ↦
      let (i, number, at) = found_row (n + 1) rest name found (sym (ap (λ b. cond b (Some (record { number = n; row = x })) (find_from (n + 1) rest name)) isnt) ∙ h) in
      (suc i, omega (arith, number), at)
]

shaped_at : (n : ℕ) (table : List Row) (i : ℕ) (row : Row) → FirstShaped n table → i < n → slice_get table i ≡ Some row → is_function_shape row.shape ≡ true
shaped_at zero table i row h lt at = absurd (omega (arith, lt))
shaped_at (suc n) [] i row h lt at = absurd h
shaped_at (suc n) (r ∷ rest) zero row h lt at = subst (λ (z : Row). is_function_shape z.shape ≡ true) (some_one at) h.0
shaped_at (suc n) (r ∷ rest) (suc i) row h lt at = shaped_at n rest i row h.1 (omega (arith, lt)) at

rows_shaped : FirstShaped 55 rows
unfolding rows
rows_shaped = (refl, (refl, (refl, (refl, (refl, (refl, (refl, (refl, (refl, (refl, (refl, (refl, (refl, (refl, (refl, (refl, (refl, (refl, (refl, (refl, (refl, (refl, (refl, (refl, (refl, (refl, (refl, (refl, (refl, (refl, (refl, (refl, (refl, (refl, (refl, (refl, (refl, (refl, (refl, (refl, (refl, (refl, (refl, (refl, (refl, (refl, (refl, (refl, (refl, (refl, (refl, (refl, (refl, (refl, (refl, tt)))))))))))))))))))))))))))))))))))))))))))))))))))))))

function_shaped : (name : List ℕ) (found : Numbered) → summary_of name ≡ Some found → found.number < 55 → is_function_shape found.row.shape ≡ true
unfolding summary_of
function_shaped name found h lt =
    let (i, number, at) = found_row 0 rows name found h in
    shaped_at 55 rows i found.row rows_shaped (omega (arith, number, lt)) at

-- only a function has the shape of a function
not_shaped : (t : Ctype) (shape : List ℕ) → is_function_type t ≡ false → is_function_shape shape ≡ true → HasShape t shape → ⊥
not_shaped (FunctionFrom r ps f) shape h k has = absurd (false≢true (sym h))
not_shaped t [] h k has = absurd (false≢true k)
not_shaped t (letter ∷ []) h k has = absurd (false≢true k)
not_shaped t (letter ∷ more ∷ rest) h k has = has

-- ---- the type that functions give together
abbrev AllFunctions : List Ctype → Type 0
AllFunctions [] = ⊤
AllFunctions (t ∷ ts) = (is_function_type t ≡ true) × AllFunctions ts

either_true : (a b : Bool) → (a || b) ≡ true → (a ≡ true) ⊎ (b ≡ true)
either_true true b h = inl refl
either_true false b h = inr h

listed_fold : (acc : Ctype) (ts : List Ctype) → is_function_type acc ≡ true → AllFunctions ts → (is_listed acc ≡ true) ⊎ (list_any is_listed ts ≡ true) → is_listed (fold composite acc ts) ≡ true
listed_fold acc [] is all (inl h) = h
listed_fold acc [] is all (inr h) = absurd (false≢true h)
listed_fold (FunctionFrom r ps Fixed) (t ∷ ts) is all h = listed_fold (FunctionFrom r ps Fixed) ts refl all.1 (inl refl)
listed_fold (FunctionFrom r ps Variadic) (t ∷ ts) is all h = listed_fold (FunctionFrom r ps Variadic) ts refl all.1 (inl refl)
listed_fold (FunctionFrom r ps Unspecified) (t ∷ ts) is all (inl h) = absurd (false≢true h)
listed_fold (FunctionFrom r ps Unspecified) (t ∷ ts) is all (inr h) = listed_fold t ts all.0 all.1 (either_true (is_listed t) (list_any is_listed ts) h)
listed_fold acc (t ∷ ts) is all h = absurd (false≢true is)

any_map : {X : Type 0} (f : X → Ctype) (xs : List X) → list_any (λ x. is_listed (f x)) xs ≡ list_any is_listed (map f xs)
any_map f [] = refl
any_map f (x ∷ xs) = ap (λ (b : Bool). is_listed (f x) || b) (any_map f xs)

listed_together : (ts : List Ctype) → AllFunctions ts → list_any is_listed ts ≡ true → is_listed (together ts) ≡ true
listed_together [] all h = absurd (false≢true h)
listed_together (t ∷ ts) all h = listed_fold t ts all.0 all.1 (either_true (is_listed t) (list_any is_listed ts) h)

functions_all : {X : Type 0} (f : X → Ctype) (xs : List X) → ((x : X) → Member xs x → is_function_type (f x) ≡ true) → AllFunctions (map f xs)
functions_all f [] h = tt
functions_all f (x ∷ xs) h = (h x (inl refl), functions_all f xs (λ y m. h y (inr m)))

none_any : {X : Type 0} (test : X → Bool) (xs : List X) (x : X) → list_any test xs ≡ false → Member xs x → test x ≡ false
none_any test [] x h m = absurd m
none_any test (y ∷ xs) x h (inl same) = subst (λ z. test z ≡ false) same (first (test y) h)
  where
    first : (b : Bool) → (b || list_any test xs) ≡ false → b ≡ false
    first true e = e
    first false e = refl
none_any test (y ∷ xs) x h (inr m) = none_any test xs x (rest (test y) h) m
  where
    rest : (b : Bool) → (b || list_any test xs) ≡ false → list_any test xs ≡ false
    rest true e = absurd (false≢true (sym e))
    rest false e = e

member_filtered : {X : Type 0} (test : X → Bool) (xs : List X) (x : X) → Member (filter test xs) x → Member xs x × (test x ≡ true)
member_filtered test [] x m = absurd m
member_filtered test (y ∷ xs) x m = by (test y) refl (λ k. let (there, is) = member_filtered test xs x k in (inr there, is)) m
  where
    by : (b : Bool) → test y ≡ b → (Member (filter test xs) x → Member (y ∷ xs) x × (test x ≡ true)) → Member (cond b (y ∷ filter test xs) (filter test xs)) x → Member (y ∷ xs) x × (test x ≡ true)
    by true e rest (inl same) = (inl same, ap test (sym same) ∙ e)
    by true e rest (inr k) = rest k
    by false e rest k = rest k

some_same : (f : ℕ → ℕ) (o : Option ℕ) → is_some (option_map f o) ≡ is_some o
some_same f None = refl
some_same f (Some k) = refl

and_false : (b : Bool) → (b && false) ≡ false
and_false true = refl
and_false false = refl

-- a declaration of a name has it
name_of_named_at : (o : Option (List ℕ)) (name : List ℕ) → option_map_or (λ other. bytes_eq other name) o false ≡ true → o ≡ Some name
name_of_named_at None name h = absurd (false≢true h)
name_of_named_at (Some other) name h = ap (λ (n : List ℕ). Some n) ((bytes_decides other name).0 h)

-- ---- the program
body_storage : (storage : Storage) → has_body_of storage ≡ true → storage ≡ FunctionBody
body_storage FunctionBody h = refl
body_storage storage h = absurd (false≢true h)

use_of : (kind : NodeKind) (e : ℕ) → named_entity kind ≡ Some e → IsUseOf kind e
use_of (Named o) e h = some_one h
use_of (FunctionName o) e h = some_one h
use_of kind e h = absurd (none_some h)

open_number : (k : ℕ) (linkage : Linkage) (storage : Storage) (name : List ℕ) → number_in linkage storage name ≡ Some k → (linkage ≡ External) × (storage ≡ DeclaredOnly) × ((found : Numbered) × (summary_of name ≡ Some found) × (found.number ≡ k))
open_number k External DeclaredOnly name h = (refl, refl, by (summary_of name) h)
  where
    by : (o : Option Numbered) → option_map (λ found. found.number) o ≡ Some k → (found : Numbered) × (o ≡ Some found) × (found.number ≡ k)
    by None e = absurd (none_some e)
    by (Some found) e = (found, refl, some_one e)
open_number k linkage storage name h = absurd (none_some h)

module _ {entered : List (List ℕ)} (units : List Unit) (p : Program) (linkable : AreLinkable units) (h : LinkedAt entered units p) (ready : IsReady p) (plain : DefinesPlain (trees_in p)) where
  abbrev j : Joined
  j = joined units h.numbers p.types

  -- ---- functions that the program defines
  own_called : (e : ℕ) (x : Entity) → slice_get p.entities.items e ≡ Some x → x.storage ≡ FunctionBody → HasId p.types (called_type (key_type (trees_in p) (EntityKey e)))
  own_called e x at storage =
      let function : IsFunction (type_of p.types x.ty.0) = by x.body (ready.trees.bodied e x at) in
      let own = signed_id p.types x.ty.0 (type_of p.types x.ty.0) refl function (h.signatures e x at storage) (plain e x at storage) in
      subst (λ (o : Option Entity). HasId p.types (called_type (type_or_void p.types (option_map (λ (entity : Entity). entity.ty) o)))) (sym at) own
    where
      by : (o : Option ℕ) → HasBody (trees_in p) e x o → IsFunction (type_of p.types x.ty.0)
      by None b = absurd (b storage)
      by (Some n) b = elim b.0 [ inl function ↦ function.function | inr object ↦ absurd (object.storage storage) ]

  -- ---- functions of the library
  -- an entity that is only declared has no body
  unplaced : (e : ℕ) (x : Entity) → slice_get p.entities.items e ≡ Some x → x.storage ≡ DeclaredOnly → IsPlacedAt p e → ⊥
  unplaced e x at storage placed = subst HasPlace storage (subst IsPlacedIn at placed)

  bodiless : (e : ℕ) (x : Entity) → slice_get p.entities.items e ≡ Some x → x.storage ≡ DeclaredOnly → is_some x.body ≡ false
  bodiless e x at storage = by x.body (ready.trees.bodied e x at)
    where
      kind_of : (kind : NodeKind) → InitialisesEntity kind e → KindPlaced p kind → IsPlacedAt p e
      kind_of (Initialise f paths) same placed = subst (IsPlacedAt p) same placed
      kind_of kind same placed = absurd same

      initialised : (n : ℕ) (o : Option Node) → slice_get p.nodes.items n ≡ o → InitialisesIn o e → ⊥
      initialised n None at_n i = i
      initialised n (Some y) at_n i = unplaced e x at storage (kind_of y.kind i (ready.placed n y at_n))

      by : (o : Option ℕ) → HasBody (trees_in p) e x o → is_some o ≡ false
      by None b = refl
      by (Some n) b = elim b.0 [
        | inl function ↦ absurd (let never : DeclaredOnly ≡ FunctionBody = sym storage ∙ function.storage in cc)
        | inr object ↦ absurd (initialised n (slice_get p.nodes.items n) refl object.initialises)
      ]

  -- a library name of the program: one entity, which is used and comes from declarations that don't define it
  record IsUsedName (k : ℕ) (y : Entity) : Type 0 where
    number : ℕ
    there : slice_get p.entities.items number ≡ Some y
    linkage : y.linkage ≡ External
    storage : y.storage ≡ DeclaredOnly
    found : Numbered
    summary : summary_of y.name ≡ Some found
    number_is : found.number ≡ k
    place : Place
    used : y.used ≡ Some place

  used_name : (k : ℕ) → is_named p.entities.items p.nodes.items k ≡ true → (y : Entity) × IsUsedName k y
  used_name k named =
      let (i, x, at, is) = any_one (λ (node : Node). is_number k (named_number p.entities.items node)) p.nodes.items named in
      let (e, e_is, library) = and_then_some (library_number p.entities.items) (named_entity x.kind) k (number_is k (named_number p.entities.items x) is) in
      let (y, y_at, number) = and_then_some entity_number (slice_get p.entities.items e) k library in
      let (linkage, storage, found) = open_number k y.linkage y.storage y.name number in
      by i x e y at e_is y_at linkage storage found y.used refl (ready.trees.uses e y y_at)
    where
      by : (i : ℕ) (x : Node) (e : ℕ) (y : Entity) → slice_get p.nodes.items i ≡ Some x → named_entity x.kind ≡ Some e → slice_get p.entities.items e ≡ Some y → y.linkage ≡ External → y.storage ≡ DeclaredOnly
          → ((found : Numbered) × (summary_of y.name ≡ Some found) × (found.number ≡ k)) → (o : Option Place) → y.used ≡ o → IsUsed (trees_in p) e o → (z : Entity) × IsUsedName k z
      by i x e y at e_is y_at linkage storage found None used none = absurd (none i x at (use_of x.kind e e_is))
      by i x e y at e_is y_at linkage storage found (Some place) used some =
          (y, record { number = e; there = y_at; linkage = linkage; storage = storage; found = found.0; summary = found.1; number_is = found.2; place = place; used = used })

  external_of : (k : ℕ) (y : Entity) → IsUsedName k y → IsExternal y
  external_of k y u = library_external k y (record { linkage = u.linkage; storage = u.storage; found = u.found; summary = u.summary; number = u.number_is })

  is_that : (k : ℕ) (y : Entity) → IsUsedName k y → is_library k y ≡ true
  is_that k y u =
      ap (λ (g : Linkage). option_map_or (λ (n : ℕ). n == k) (if is_open g y.storage then option_map (λ (found : Numbered). found.number) (summary_of y.name) else None) false) u.linkage
      ∙ (ap (λ (g : Storage). option_map_or (λ (n : ℕ). n == k) (if is_open External g then option_map (λ (found : Numbered). found.number) (summary_of y.name) else None) false) u.storage
      ∙ (ap (λ (o : Option Numbered). option_map_or (λ (n : ℕ). n == k) (option_map (λ (found : Numbered). found.number) o) false) u.summary ∙ eq-eqb u.found.number k u.number_is))

  -- its type is that of the library's name
  type_is : (k : ℕ) (y : Entity) → IsUsedName k y → key_type (trees_in p) (FunctionKey k) ≡ type_of p.types y.ty.0
  type_is k y u =
      let (z, found) = find_some (is_library k) p.entities.items y (member_at p.entities.items u.number y u.there) (is_that k y u) in
      let (z_member, z_is) = find_member (is_library k) p.entities.items z found in
      let (g, z_at) = at_member p.entities.items z z_member in
      let b = library_view k z z_is in
      let names : z.name ≡ y.name = one_name z.name y.name b.found u.found b.summary u.summary (b.number ∙ sym u.number_is) in
      let number : g ≡ u.number = (named_once units p h).once g u.number z y z_at u.there (library_external k z b) (external_of k y u) names in
      let one : z ≡ y = some_one (sym z_at ∙ (ap (slice_get p.entities.items) number ∙ u.there)) in
      ap (λ (o : Option Entity). type_or_void p.types (option_map (λ (entity : Entity). entity.ty) o)) found ∙ ap (λ (w : Entity). type_of p.types w.ty.0) one

  -- ---- what declarations of its name give together
  module _ (k : ℕ) (lt : k < 55) (y : Entity) (u : IsUsedName k y) where
    shaped : is_function_shape u.found.row.shape ≡ true
    shaped = (let number = u.number_is in function_shaped y.name u.found u.summary (omega (arith, number, lt)))

    record IsOfName (name : List ℕ) : Type 0 where
      same : name ≡ y.name
      linked : IsLinkedName j h.declarations h.entity_numbers name y

    of_name_so : (name : List ℕ) × IsOfName name
    of_name_so =
        let a = comes_from j h.declarations h.entity_numbers p h.entities u.number y u.there (external_of k y u) in
        let (w, w_is, linked) = h.entities.names a.item a.entity a.entity_is a.external in
        let one : w ≡ y = some_one (sym w_is ∙ (ap (slice_get p.entities.items) a.number ∙ u.there)) in
        (a.entity.name, record { same = sym a.named; linked = subst (IsLinkedName j h.declarations h.entity_numbers a.entity.name) one linked })

    module _ (name : List ℕ) (o : IsOfName name) where
      -- what makes the name has no body, and defines nothing
      maker_has_none : has_body units (item_of o.linked.declared) ≡ false
      maker_has_none =
          ap (λ (e : Option Entity). option_map_or (λ (x : Entity). is_some x.body) e false) o.linked.entity_is
          ∙ (sym (some_same (node_place units o.linked.declared.unit) o.linked.entity.body) ∙ (sym (ap (λ (b : Option ℕ). is_some b) o.linked.moved.body) ∙ bodiless u.number y u.there u.storage))

      maker_declared : o.linked.entity.storage ≡ DeclaredOnly
      maker_declared = sym o.linked.moved.storage ∙ u.storage

      maker_defines_none : is_defined j (item_of o.linked.declared) ≡ false
      maker_defines_none =
          ap (λ (e : Option Entity). option_map_or (λ (x : Entity). is_placed (type_in j (item_of o.linked.declared)) x) e false) o.linked.entity_is
          ∙ (ap (λ (b : Bool). b || (not (is_function_type (type_in j (item_of o.linked.declared))) && not (is_declared_only o.linked.entity.storage)))
          (sym (ap (λ (e : Option Entity). option_map_or (λ (x : Entity). is_some x.body) e false) o.linked.entity_is) ∙ maker_has_none)
          ∙ (ap (λ (s : Storage). not (is_function_type (type_in j (item_of o.linked.declared))) && not (is_declared_only s)) maker_declared ∙ and_false (not (is_function_type (type_in j (item_of o.linked.declared))))))

      not_own : is_own j h.declarations name ≡ false
      not_own = elim (cases_Bool (is_own j h.declarations name)) [
        | inr isnt ↦ isnt
        | inl its ↦ absurd (by (first_body units (of_name units name h.declarations)) (first_defined j (of_name units name h.declarations)) refl refl o.linked.maker its)
      ]
        where
          by : (a b : Option Declared) → first_body units (of_name units name h.declarations) ≡ a → first_defined j (of_name units name h.declarations) ≡ b
              → option_or a (option_or b (find (λ e. true) (of_name units name h.declarations))) ≡ Some o.linked.declared → list_any (λ d. is_defined j (item_of d)) (of_name units name h.declarations) ≡ true → ⊥
          by (Some c) b ea eb m its = false≢true (sym maker_has_none ∙ (find_member (λ (d : Declared). has_body units (item_of d)) (of_name units name h.declarations) o.linked.declared (ea ∙ m)).1)
          by None (Some c) ea eb m its = false≢true (sym maker_defines_none ∙ (find_member (λ (d : Declared). is_defined j (item_of d)) (of_name units name h.declarations) o.linked.declared (eb ∙ m)).1)
          by None None ea eb m its =
              let (i, d, at, is) = any_one (λ (d : Declared). is_defined j (item_of d)) (of_name units name h.declarations) its in
              let (c, found) = find_some (λ (d : Declared). is_defined j (item_of d)) (of_name units name h.declarations) d (member_at (of_name units name h.declarations) i d at) is in
              none_some (sym eb ∙ found)

      in_library : summary_of name ≡ Some u.found
      in_library = ap summary_of o.same ∙ u.summary

      -- some declaration has a list
      given : (IsGiven j h.declarations name → ⊥) → ⊥
      given none =
          let uses = (subst (NameUsed units name) u.used o.linked.used).used in
          h.faultless.defined.each uses.item uses.entity u.place (record {
            entity_is = uses.entity_is;
            used = uses.used;
            external = λ ex. record { not_own = ap (is_own j h.declarations) uses.named ∙ not_own; not_given = λ g. none (subst (IsGiven j h.declarations) uses.named g) };
            internal = λ no. absurd (no uses.external);
          })

      listed : has_list j h.declarations name ≡ true
      listed = elim (cases_Bool (has_list j h.declarations name)) [
        | inl its ↦ its
        | inr isnt ↦ absurd (given (λ g.
            let same : g.row ≡ u.found = some_one (sym g.in_library ∙ in_library) in
            false≢true (sym isnt ∙ g.listed (subst (λ (r : Numbered). is_function_shape r.row.shape ≡ true) (sym same) shaped))))
      ]

      -- and each declares a function
      each_function : (d : Declared) → Member (of_name units name h.declarations) d → is_function_type (declared_type j d) ≡ true
      each_function d m = elim (cases_Bool (is_function_type (declared_type j d))) [
        | inl its ↦ its
        | inr isnt ↦
            let (there, named) = member_filtered (is_named_by units name) h.declarations d m in
            let (i, at) = at_member h.declarations d there in
            absurd ((h.faultless.clean.each i d (slice_get_within h.declarations i d at) at).agrees name (name_of_named_at (name_at units (item_of d)) name named)
            (inl (record { row = u.found; in_library = in_library; not_own = not_own; shape = not_shaped (declared_type j d) u.found.row.shape isnt shaped })))
      ]

      together_listed : is_listed (type_together j name h.declarations) ≡ true
      together_listed =
          listed_together (map (declared_type j) (of_name units name h.declarations)) (functions_all (declared_type j) (of_name units name h.declarations) each_function)
          (sym (any_map (declared_type j) (of_name units name h.declarations)) ∙ listed)

      made_is : type_made j h.declarations name o.linked.declared ≡ type_together j name h.declarations
      made_is =
          ap (λ (b : Bool). linked_type b (is_defined j (item_of o.linked.declared)) (declared_type j o.linked.declared) (type_together j name h.declarations)) maker_has_none
          ∙ ap (λ (b : Bool). linked_type false b (declared_type j o.linked.declared) (type_together j name h.declarations)) maker_defines_none

      own_listed : is_listed (type_of p.types y.ty.0) ≡ true
      own_listed = ap is_listed (o.linked.type ∙ made_is) ∙ together_listed

    library_called : HasId p.types (called_type (key_type (trees_in p) (FunctionKey k)))
    library_called =
        let (name, o) = of_name_so in
        subst (λ (t : Ctype). HasId p.types (called_type t)) (sym (type_is k y u)) (listed_id p.types y.ty.0 (type_of p.types y.ty.0) refl (own_listed name o))

  called_each : (key : ObjectKey) → Contains (functions_of (trees_in p) (view_of (locations_in p))) key → HasId p.types (called_type (key_type (trees_in p) key))
  called_each key has =
      let (i, lt, at) = at_Contains (functions_of (trees_in p) (view_of (locations_in p))) key has in
      let (l, there, begins_at_l) = functions_found p key (member_at (functions_of (trees_in p) (view_of (locations_in p))) i key at) in
      elim (member_split (keys_in Defined p.entities.items) (map (λ k. FunctionKey k) (range_with_len 0 55)) key there) [
        | inl own ↦
            let r = in_role p Defined key own in
            subst (λ (w : ObjectKey). HasId p.types (called_type (key_type (trees_in p) w))) (sym r.key_is) (own_called r.number r.entity r.there (body_storage r.entity.storage r.plays))
        | inr library ↦
            let (k, k_in, same) = member_map (λ (k : ℕ). FunctionKey k) (range_with_len 0 55) key library in
            let (n, n_at) = at_member (range_with_len 0 55) k k_in in
            let (less, number) = at_range 0 55 n k n_at in
            let begins_at_k = ap (first_from 0 (locations_in p)) same ∙ begins_at_l in
            let (y, u) = used_name k (located_named p k l begins_at_k) in
            subst (λ (w : ObjectKey). HasId p.types (called_type (key_type (trees_in p) w))) same (library_called k (omega (arith, less, number)) y u)
      ]

pub has_called : {entered : List (List ℕ)} (units : List Unit) (p : Program) → AreLinkable units → LinkedAt entered units p → IsReady p → DefinesPlain (trees_in p) → length p.types.terms + 2 < 2 ^ 32 → HasCalled p
has_called units p linkable h ready plain room = record { each = called_each units p linkable h ready plain; room = room }
