-- The function that starts the program: what it is called, its parameters, and that `<arg>` is an object where it has some.
use Rattle.std.proofs.Common.{arith, ◌≡◌, ◌∙◌, ℕ, zero, suc, ◌+◌, ◌&&◌, ◌||◌, Bool, true, false, cond, List, [], ◌∷◌, ◌++◌, find, Option, Some, None, Contains, slice_get, refl, sym, ap, subst}
use Rattle.std.specs.Prelude.{codes}
use Rattle.std.specs.List.{filter_map, cons_option, enumerate_from, flat_map, list_any}
use Rattle.std.specs.Option.{option_and_then}
use Rattle.std.specs.Str.{bytes_eq}
use Rattle.std.proofs.lemmas.Bool.{false≢true}
use Rattle.std.proofs.lemmas.List.Concat.{flat_map-append}
use Rattle.std.proofs.lemmas.List.Folds.{list_any_at}
use Rattle.std.proofs.lemmas.Option.{slice_get_within, get_or_from_slice_get}
use Rattle.c_types.specs.declared.key.ObjectKey.{ObjectKey}
use Rattle.c_types.specs.declared.key.ObjectKey.TheVariants.{Entity as EntityKey, Library as LibraryKey}
use Rattle.c_types.specs.declared.term.Form.TheVariants.{Fixed, Variadic, Unspecified}
use Rattle.c_types.specs.Trees.{Ctype, NoTypes, MoreTypes, PointerTo, FunctionFrom}
use Rattle.c_types.specs.Table.{type_of}
use Rattle.core_tree.specs.declared.node.Entity.{Entity}
use Rattle.core_tree.specs.declared.node.Linkage.{Linkage}
use Rattle.core_tree.specs.declared.node.Linkage.TheVariants.{External}
use Rattle.core_tree.specs.declared.node.Program.{Program}
use Rattle.core_tree.specs.declared.node.Storage.{Storage}
use Rattle.core_tree.specs.declared.node.Storage.TheVariants.{FunctionBody}
use Rattle.core_tree.specs.Typed.{CoreTrees, trees_in}
use Rattle.link_names.specs.Faults.{IsMainType}
use Rattle.sol_model.specs.declared.system.System.{System}
use Rattle.sol_model.specs.declared.system.Constraint.TheVariants.{Address as AddressForm}
use Rattle.sol_model.specs.Families.{Family, Has}
use Rattle.obj_made.specs.declared.object.Object.{Object}
use Rattle.obj_made.specs.Made.{made_in_order, objects_in}
use Rattle.obj_made.specs.Uses.{is_named}
use Rattle.obj_space.specs.declared.location.Location.{Location}
use Rattle.obj_space.specs.Objects.{named_object, functions_below, LibraryRow, library_rows, has_parameters, main_in, takes_for, takes_arguments, is_needed, library_object, library_objects_from, library_objects, star_objects, outside_objects, library_part}
use Rattle.obj_space.specs.Space.{locations_of, locations_in}
use Rattle.obj_space.specs.View.{SpaceView, first_from, view_of}
use Rattle.row_numbers.specs.declared.functions.Role.TheVariants.{Main}
use Rattle.row_numbers.specs.Functions.{has_body, is_external, plays, key_if, keys_in, parameters_of}
use Rattle.row_numbers.specs.Setting.{takes_further}
use Rattle.call_sites.specs.Signatures.{called_type}
use Rattle.ref_frames.specs.Frames.{list_of, have_types}
use Rattle.ref_start.specs.Begin.{number_of, main_in as main_number}
use Rattle.normal_form.specs.SystemOf.{held_by, second_of, start_constraints, by_start}
use Rattle.covering_laws.specs.grown_programs.Grown.{with_types}
use Rattle.covering_laws.specs.covered_types.Calls.{type_from}
use Rattle.covering_laws.proofs.object_contents.Made.{HasLocation, behind, front, first_some}
use Rattle.covering_laws.proofs.covered_rows.Lists.{first_has}
use Rattle.covering_laws.proofs.covered_rows.Demanded.{satisfied, address_says}
use Rattle.covered_runs.specs.machine_sound.covered_start.Objects.{terms_behind, IsSolved}

some_one : {X : Type 0} → {x y : X} → ◌≡◌ {A = Option X} (Some x) (Some y) → x ≡ y
some_one h = cc

none_some : {X : Type 0} → {x : X} → ◌≡◌ {A = Option X} None (Some x) → ⊥
none_some h = cc

-- The first function of these that starts a program, in that place, and the keys of all of them.

abbrev keys_from : ℕ → List Entity → List ObjectKey
keys_from i xs = filter_map (λ entry. key_if Main entry.0 entry.1) (enumerate_from i xs)

record IsMain (i : ℕ) (xs : List Entity) (main : ℕ) : Type 0 where
  pub k : ℕ
  pub entity : Entity
  pub there : slice_get xs k ≡ Some entity
  pub number : main ≡ i + k
  pub plays_is : plays Main entity ≡ true
  pub rest : List ObjectKey
  pub keys : keys_from i xs ≡ EntityKey main ∷ rest

mains_from : (i : ℕ) (xs : List Entity) (main : ℕ) → number_of (find (λ entry. plays Main entry.1) (enumerate_from i xs)) ≡ Some main → IsMain i xs main
mains_from i [] main e = absurd (none_some e)
mains_from i (x ∷ rest) main e = by (plays Main x) refl e (mains_from (i + 1) rest main)
  where
    by : (b : Bool) → plays Main x ≡ b → number_of (cond b (Some (i, x)) (find (λ entry. plays Main entry.1) (enumerate_from (i + 1) rest))) ≡ Some main
        → (number_of (find (λ entry. plays Main entry.1) (enumerate_from (i + 1) rest)) ≡ Some main → IsMain (i + 1) rest main) → IsMain i (x ∷ rest) main
    by true is f next =
        let same : i ≡ main = some_one f in
        record {
          k = 0;
          entity = x;
          there = refl;
          number = (let z : main ≡ i + 0 = omega arith in z);
          plays_is = is;
          rest = keys_from (i + 1) rest;
          keys = ap (λ (b : Bool). cons_option (cond b (Some (EntityKey i)) None) (keys_from (i + 1) rest)) is ∙ ap (λ (j : ℕ). EntityKey j ∷ keys_from (i + 1) rest) same;
        }
    by false is f next =
        let later = next f in
        let number : main ≡ (i + 1) + later.k = later.number in
        record {
          k = suc later.k;
          entity = later.entity;
          there = later.there;
          number = (let z : main ≡ i + suc later.k = omega arith in z);
          plays_is = later.plays_is;
          rest = later.rest;
          keys = ap (λ (b : Bool). cons_option (cond b (Some (EntityKey i)) None) (keys_from (i + 1) rest)) is ∙ later.keys;
        }

-- What plays main has a body and external linkage, and is called main.

and_both : (a b : Bool) → (a && b) ≡ true → (a ≡ true) × (b ≡ true)
and_both true b h = (refl, h)
and_both false b h = absurd (false≢true h)

or_right : (a b : Bool) → b ≡ true → (a || b) ≡ true
or_right true b h = refl
or_right false b h = h

body_is : (s : Storage) → has_body s ≡ true → s ≡ FunctionBody
body_is FunctionBody h = refl
body_is s h = absurd (false≢true h)

external_is : (l : Linkage) → is_external l ≡ true → l ≡ External
external_is External h = refl
external_is l h = absurd (false≢true h)

-- the entity of that number starts the program
pub record IsStarting (entities : List Entity) (main : ℕ) : Type 0 where
  pub entity : Entity
  pub there : slice_get entities main ≡ Some entity
  pub storage : entity.storage ≡ FunctionBody
  pub linkage : entity.linkage ≡ External
  pub named : bytes_eq entity.name (codes "main") ≡ true
  pub rest : List ObjectKey
  pub keys : keys_in Main entities ≡ EntityKey main ∷ rest

pub starting : (entities : List Entity) (main : ℕ) → main_number entities ≡ Some main → IsStarting entities main
starting entities main e =
    let m = mains_from 0 entities main e in
    let number : main ≡ 0 + m.k = m.number in
    let parts = and_both (has_body m.entity.storage && is_external m.entity.linkage) (bytes_eq m.entity.name (codes "main")) m.plays_is in
    let own = and_both (has_body m.entity.storage) (is_external m.entity.linkage) parts.0 in
    record {
      entity = m.entity;
      there = ap (slice_get entities) (let z : main ≡ m.k = omega arith in z) ∙ m.there;
      storage = body_is m.entity.storage own.0;
      linkage = external_is m.entity.linkage own.1;
      named = parts.1;
      rest = m.rest;
      keys = m.keys;
    }

-- A function of main's types with parameters takes a pointer second.

-- main isn't variadic
pub main_plain : (t : Ctype) → IsMainType t → takes_further t ≡ false
main_plain (FunctionFrom r NoTypes Variadic) h = absurd h.1
main_plain (FunctionFrom r (MoreTypes c ts) Variadic) h = absurd h.1
main_plain (FunctionFrom r ps Fixed) h = refl
main_plain (FunctionFrom r ps Unspecified) h = refl
main_plain t h = absurd h

pub has_some : (u : CoreTrees) (t : Ctype) → IsMainType t → (key : ObjectKey) (keys : List ObjectKey) → have_types u (key ∷ keys) (list_of (called_type t)) ≡ true → has_parameters t ≡ true
has_some u (FunctionFrom r NoTypes Fixed) h key keys e = absurd (false≢true e)
has_some u (FunctionFrom r NoTypes Unspecified) h key keys e = absurd (false≢true e)
has_some u (FunctionFrom r NoTypes Variadic) h key keys e = absurd h.1
has_some u (FunctionFrom r (MoreTypes t ts) form) h key keys e = refl
has_some u t h key keys e = absurd h

pub second_pointer : (own : Ctype) → IsMainType own → (t : Ctype) → type_from (list_of (called_type own)) 1 ≡ Some t → (to : Ctype) × (t ≡ PointerTo to)
second_pointer (FunctionFrom r NoTypes Fixed) h t e = absurd (none_some e)
second_pointer (FunctionFrom r NoTypes Unspecified) h t e = absurd (none_some e)
second_pointer (FunctionFrom r NoTypes Variadic) h t e = absurd h.1
second_pointer (FunctionFrom r (MoreTypes c NoTypes) Fixed) h t e = absurd h.1.1
second_pointer (FunctionFrom r (MoreTypes c (MoreTypes w NoTypes)) Fixed) h t e = (_, sym (some_one e) ∙ h.1.1)
second_pointer (FunctionFrom r (MoreTypes c (MoreTypes w (MoreTypes x ts))) Fixed) h t e = absurd h.1.1
second_pointer (FunctionFrom r (MoreTypes c ts) Variadic) h t e = absurd h.1
second_pointer (FunctionFrom r (MoreTypes c ts) Unspecified) h t e = absurd h.1
second_pointer own h t e = absurd h

-- Where main has parameters, `<arg>` is an object.

module _ (p : Program) where
  takes_one : (l : Linkage) (s : Storage) (name : List ℕ) (t : Ctype) → l ≡ External → s ≡ FunctionBody → bytes_eq name (codes "main") ≡ true → has_parameters t ≡ true → main_in p.types l s name t ≡ true
  takes_one l s name t external body named has =
      ap (λ (x : Linkage). main_in p.types x s name t) external
      ∙ (ap (λ (x : Storage). main_in p.types External x name t) body ∙ (ap (λ (b : Bool). cond b (has_parameters t) false) named ∙ has))

  takes : p.entries.items ≡ [] → (main : ℕ) (m : IsStarting p.entities.items main) → has_parameters (type_of p.types m.entity.ty.0) ≡ true → takes_arguments p ≡ true
  takes none main m has =
      ap (takes_for p) none
      ∙ list_any_at (λ entity. main_in p.types entity.linkage entity.storage entity.name (type_of p.types entity.ty.0)) p.entities.items main m.entity
      (slice_get_within p.entities.items main m.entity m.there)
      (ap (λ (x : Entity). main_in p.types x.linkage x.storage x.name (type_of p.types x.ty.0)) (get_or_from_slice_get p.entities.items main m.entity m.entity m.there)
      ∙ takes_one m.entity.linkage m.entity.storage m.entity.name (type_of p.types m.entity.ty.0) m.linkage m.storage m.named has)

  abbrev located : List Object → List Location
  located os = flat_map (locations_of p.types) os

  under : (key : ObjectKey) (xs ys : List Object) → HasLocation key (located ys) → HasLocation key (located (xs ++ ys))
  under key xs ys h = subst (HasLocation key) (sym (flat_map-append (locations_of p.types) xs ys)) (behind key (located xs) (located ys) h)

  over : (key : ObjectKey) (xs ys : List Object) → HasLocation key (located xs) → HasLocation key (located (xs ++ ys))
  over key xs ys h = subst (HasLocation key) (sym (flat_map-append (locations_of p.types) xs ys)) (front key (located xs) (located ys) h)

  one_needed : (named : ℕ → Bool) (k : ℕ) (row : LibraryRow) → row.by_main ≡ true → HasLocation (LibraryKey k) (located (named_object (LibraryKey k) row.name row.content ∷ [])) → HasLocation (LibraryKey k) (located (library_object named true k row))
  one_needed named k row main h =
      subst (λ (b : Bool). HasLocation (LibraryKey k) (located (cond b (named_object (LibraryKey k) row.name row.content ∷ []) []))) (sym needed) h
    where
      needed : is_needed named true row ≡ true
      needed = or_right (list_any named row.needed_by) (cond row.by_main true false) (ap (λ (b : Bool). cond b true false) main)

  row_located : (named : ℕ → Bool) (k : ℕ) (rows : List LibraryRow) (i : ℕ) (row : LibraryRow) → slice_get rows i ≡ Some row → row.by_main ≡ true
      → HasLocation (LibraryKey (k + i)) (located (named_object (LibraryKey (k + i)) row.name row.content ∷ [])) → HasLocation (LibraryKey (k + i)) (located (library_objects_from named true k rows))
  row_located named k [] i row at main h = absurd (none_some at)
  row_located named k (x ∷ rows) zero row at main h =
      let number : k + 0 ≡ k = omega arith in
      let own : HasLocation (LibraryKey k) (located (library_object named true k row)) =
      one_needed named k row main (subst (λ (j : ℕ). HasLocation (LibraryKey j) (located (named_object (LibraryKey j) row.name row.content ∷ []))) number h) in
      subst (λ (j : ℕ). HasLocation (LibraryKey j) (located (library_object named true k x ++ library_objects_from named true (k + 1) rows))) (sym number)
      (over (LibraryKey k) (library_object named true k x) (library_objects_from named true (k + 1) rows)
      (subst (λ (r : LibraryRow). HasLocation (LibraryKey k) (located (library_object named true k r))) (sym (some_one at)) own))
  row_located named k (x ∷ rows) (suc i) row at main h =
      let number : k + suc i ≡ (k + 1) + i = omega arith in
      under (LibraryKey (k + suc i)) (library_object named true k x) (library_objects_from named true (k + 1) rows)
      (subst (λ (j : ℕ). HasLocation (LibraryKey j) (located (library_objects_from named true (k + 1) rows))) (sym number)
      (row_located named (k + 1) rows i row at main (subst (λ (j : ℕ). HasLocation (LibraryKey j) (located (named_object (LibraryKey j) row.name row.content ∷ []))) number h)))

  argument_row : (named : ℕ → Bool) → HasLocation (LibraryKey 10) (located (library_objects named true))
  unfolding library_objects library_rows
  argument_row named = row_located named 0 library_rows 10 _ refl refl (0, _, refl, refl)

  argument_located : takes_arguments p ≡ true → HasLocation (LibraryKey 10) (locations_in p)
  unfolding locations_in
  argument_located takes =
      under (LibraryKey 10) (objects_in (made_in_order p)) (library_part p)
      (under (LibraryKey 10) (functions_below p 55) (library_objects (is_named p.entities.items p.nodes.items) (takes_arguments p) ++ (star_objects p ++ outside_objects p.entries.items))
      (over (LibraryKey 10) (library_objects (is_named p.entities.items p.nodes.items) (takes_arguments p)) (star_objects p ++ outside_objects p.entries.items)
      (subst (λ (b : Bool). HasLocation (LibraryKey 10) (located (library_objects (is_named p.entities.items p.nodes.items) b))) (sym takes) (argument_row (is_named p.entities.items p.nodes.items)))))

  pub argument_first : p.entries.items ≡ [] → (main : ℕ) (m : IsStarting p.entities.items main) → has_parameters (type_of p.types m.entity.ty.0) ≡ true → (l : ℕ) × (first_from 0 (locations_in p) (LibraryKey 10) ≡ Some l)
  argument_first none main m has =
      let found = argument_located (takes none main m has) in
      first_some 0 found.0 (locations_in p) found.1 (LibraryKey 10) found.2 found.3

-- main's second parameter has `<argv>` in its set
module _ (p : Program) (system : System) (family : Family) (s : IsSolved p system family) (none : p.entries.items ≡ []) (main : ℕ) (m : IsStarting p.entities.items main) where
  abbrev pub v : SpaceView
  v = view_of (locations_in p)

  abbrev pub u : CoreTrees
  u = trees_in (with_types p (terms_behind p))

  module _ (key : ObjectKey) (row location : ℕ) (second : slice_get (parameters_of u v main) 1 ≡ Some key) (at : first_from 0 (locations_in p) key ≡ Some row) (held : first_from 0 (locations_in p) (LibraryKey 9) ≡ Some location) where
    second_at : option_and_then (first_from 0 (locations_in p)) (second_of u v (keys_in Main p.entities.items)) ≡ Some row
    second_at = ap (λ (keys : List ObjectKey). option_and_then (first_from 0 (locations_in p)) (second_of u v keys)) m.keys ∙ (ap (option_and_then (first_from 0 (locations_in p))) second ∙ at)

    among : Contains (start_constraints u v p.entries.items) (AddressForm row location)
    among =
        subst (λ (entries : List ℕ). Contains (start_constraints u v entries) (AddressForm row location)) (sym none)
        (subst (λ (o : Option ℕ). Contains (held_by o (first_from 0 (locations_in p) (LibraryKey 9))) (AddressForm row location)) (sym second_at)
        (subst (λ (o : Option ℕ). Contains (held_by (Some row) o) (AddressForm row location)) (sym held) (first_has (AddressForm row location) [])))

    pub list_given : Has family row location
    list_given =
        address_says (with_types p (terms_behind p)) v system s.is_system family s.closed row location
        (satisfied (with_types p (terms_behind p)) v system s.is_system family s.closed (AddressForm row location) (by_start among))
