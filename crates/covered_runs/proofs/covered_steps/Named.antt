-- Functions that are named have locations: those with bodies, and the library's.
use Rattle.std.proofs.Common.{arith, ◌≡◌, ◌∙◌, inl, inr, ◌⊎◌, ℕ, zero, suc, ◌-◌, ◌<◌, ◌||◌, Bool, true, false, cond, nat_eq, List, [], ◌∷◌, ◌++◌, flat_map, Option, Some, None, slice_get, refl, sym, ap, subst}
use Rattle.std.specs.List.{list_any}
use Rattle.std.specs.Option.{option_map, option_and_then, option_map_or}
use Rattle.std.proofs.lemmas.Bool.{lt-ltb, cases_eq, cases_lt}
use Rattle.std.proofs.lemmas.Bool.Decides.{eqb_tells}
use Rattle.std.proofs.lemmas.List.Concat.{flat_map-cons}
use Rattle.c_types.specs.declared.key.ObjectKey.{ObjectKey}
use Rattle.c_types.specs.declared.key.ObjectKey.TheVariants.{Entity as EntityKey, Library as LibraryKey, Function as FunctionKey}
use Rattle.c_types.specs.Made.{IsMade}
use Rattle.lib_summaries.specs.Table.{summary_of}
use Rattle.core_tree.specs.declared.node.Entity.{Entity}
use Rattle.core_tree.specs.declared.node.Linkage.{Linkage}
use Rattle.core_tree.specs.declared.node.Linkage.TheVariants.{External, Internal, Local}
use Rattle.core_tree.specs.declared.node.Node.{Node}
use Rattle.core_tree.specs.declared.node.NodeKind.{NodeKind}
use Rattle.core_tree.specs.declared.node.NodeKind.TheVariants.{FunctionName}
use Rattle.core_tree.specs.declared.node.Program.{Program}
use Rattle.core_tree.specs.declared.node.Storage.{Storage}
use Rattle.core_tree.specs.declared.node.Storage.TheVariants.{Static, Automatic, FunctionBody, Parameter, Declared}
use Rattle.obj_made.specs.declared.object.Object.{Object}
use Rattle.obj_made.specs.declared.object.Content.TheVariants.{Function as FunctionContent}
use Rattle.obj_made.specs.Made.{objects_in, made_in_order}
use Rattle.obj_made.specs.Uses.{is_number, number_in, entity_number, library_number as number_at, named_entity, named_number, is_named}
use Rattle.obj_space.specs.Objects.{named_object, library_name, function_if, functions_below, library_part, objects_of}
use Rattle.obj_space.specs.Space.{locations_of, locations_in}
use Rattle.obj_space.specs.View.{first_from}
use Rattle.row_numbers.specs.Objects.{is_open, library_number, library_key, entity_key}
use Rattle.covering_laws.proofs.object_contents.Made.{HasLocation, behind, front, first_some}
use Rattle.covered_runs.specs.covered_steps.Placed.{IsDefined, NamesDefined, HasFirst, FunctionsFound}
use Rattle.covered_runs.proofs.covered_steps.Placed.{none_some, some_one, entities_placed}

body_declared : FunctionBody ≡ Declared → ⊥
body_declared h = cc

open_body : (l : Linkage) → is_open l FunctionBody ≡ false
open_body External = refl
open_body Internal = refl
open_body Local = refl

-- the two ways to a library name's number
number_same : (l : Linkage) (s : Storage) (name : List ℕ) → number_in l s name ≡ cond (is_open l s) (option_map (λ found. found.number) (summary_of name)) None
number_same External Declared name = refl
number_same External Static name = refl
number_same External Automatic name = refl
number_same External FunctionBody name = refl
number_same External Parameter name = refl
number_same Internal s name = refl
number_same Local s name = refl

number_self : (c : ℕ) → nat_eq c c ≡ true
number_self c = elim (eqb_tells c c) [ inl same ↦ same.0 | inr other ↦ absurd (other.1 refl) ]

any_at : {X : Type 0} (test : X → Bool) (xs : List X) (n : ℕ) (x : X) → slice_get xs n ≡ Some x → test x ≡ true → list_any test xs ≡ true
any_at test [] n x at is = absurd (none_some at)
any_at test (y ∷ rest) zero x at is = first (test y) (ap test (some_one at) ∙ is)
  where
    first : (b : Bool) → b ≡ true → (b || list_any test rest) ≡ true
    first true h = refl
    first false h = absurd (let bad : false ≡ true = h in cc)
any_at test (y ∷ rest) (suc n) x at is = later (test y) (any_at test rest n x at is)
  where
    later : (b : Bool) → list_any test rest ≡ true → (b || list_any test rest) ≡ true
    later true h = refl
    later false h = h

-- an object of a list
abbrev HasObject : Object → List Object → Type 0
HasObject o os = (i : ℕ) × (slice_get os i ≡ Some o)

object_front : (o : Object) (xs ys : List Object) → HasObject o xs → HasObject o (xs ++ ys)
object_front o [] ys h = absurd (none_some h.1)
object_front o (x ∷ xs) ys (zero, at) = (zero, at)
object_front o (x ∷ xs) ys (suc i, at) = let r = object_front o xs ys (i, at) in (suc r.0, r.1)

object_behind : (o : Object) (xs ys : List Object) → HasObject o ys → HasObject o (xs ++ ys)
object_behind o [] ys h = h
object_behind o (x ∷ xs) ys h = let r = object_behind o xs ys h in (suc r.0, r.1)

module _ (p : Program) where
  located_in : (o : Object) (os : List Object) (i : ℕ) → slice_get os i ≡ Some o → HasLocation o.key (locations_of p.types o) → HasLocation o.key (flat_map (locations_of p.types) os)
  located_in o [] i at found = absurd (none_some at)
  located_in o (x ∷ rest) zero at found =
      subst (HasLocation o.key) (sym (flat_map-cons (locations_of p.types) x rest))
      (front o.key (locations_of p.types x) (flat_map (locations_of p.types) rest) (subst (λ (y : Object). HasLocation o.key (locations_of p.types y)) (sym (some_one at)) found))
  located_in o (x ∷ rest) (suc i) at found =
      subst (HasLocation o.key) (sym (flat_map-cons (locations_of p.types) x rest)) (behind o.key (locations_of p.types x) (flat_map (locations_of p.types) rest) (located_in o rest i at found))

  abbrev function_of : ℕ → Object
  function_of k = named_object (FunctionKey k) (library_name k) FunctionContent

  below_has : (k m : ℕ) → k < m → is_named p.entities.items p.nodes.items k ≡ true → HasObject (function_of k) (functions_below p m)
  unfolding functions_below
  below_has k zero lt named = absurd (omega arith)
  below_has k (suc m) lt named = by (cases_eq k m) (λ lower. below_has k m lower named)
    where
      last : (b : Bool) → b ≡ true → HasObject (function_of k) (function_if b k)
      last true h = (0, refl)
      last false h = absurd (let bad : false ≡ true = h in cc)

      by : (k ≡ m) ⊎ (k ≡ m → ⊥) → (k < m → HasObject (function_of k) (functions_below p m)) → HasObject (function_of k) (functions_below p m ++ function_if (is_named p.entities.items p.nodes.items m) m)
      by (inl same) before =
          subst (λ (j : ℕ). HasObject (function_of k) (functions_below p m ++ function_if (is_named p.entities.items p.nodes.items j) j)) same
          (object_behind (function_of k) (functions_below p m) (function_if (is_named p.entities.items p.nodes.items k) k) (last (is_named p.entities.items p.nodes.items k) named))
      by (inr other) before = object_front (function_of k) (functions_below p m) (function_if (is_named p.entities.items p.nodes.items m) m) (before (less other))
        where
          less : (k ≡ m → ⊥) → k < m
          less other = elim (cases_lt k m) [ inl lower ↦ lower | inr higher ↦ absurd (other (let e : k ≡ m = omega arith in e)) ]

  library_located : (k : ℕ) → k < 55 → is_named p.entities.items p.nodes.items k ≡ true → HasLocation (FunctionKey k) (locations_in p)
  unfolding locations_in
  library_located k lt named =
      let has = object_behind (function_of k) (objects_in (made_in_order p)) (library_part p) (object_front (function_of k) (functions_below p 55) _ (below_has k 55 lt named)) in
      located_in (function_of k) (objects_of p) has.0 has.1 (0, _, refl, refl)

  -- a library name that is named
  named_so : (n : ℕ) (node : Node) (e : ℕ) (x : Entity) (k : ℕ) → slice_get p.nodes.items n ≡ Some node → node.kind ≡ FunctionName e → slice_get p.entities.items e ≡ Some x → library_number x ≡ Some k
      → is_named p.entities.items p.nodes.items k ≡ true
  named_so n node e x k at kind there number =
      any_at (λ node. is_number k (named_number p.entities.items node)) p.nodes.items n node at
      (ap (λ (o : Option ℕ). is_number k o) numbered ∙ number_self k)
    where
      numbered : named_number p.entities.items node ≡ Some k
      numbered =
          ap (λ (c : NodeKind). option_and_then (number_at p.entities.items) (named_entity c)) kind
          ∙ (ap (λ (o : Option Entity). option_and_then entity_number o) there ∙ (number_same x.linkage x.storage x.name ∙ number))

module _ (p : Program) (made : IsMade p.types) (n : ℕ) (node : Node) (at : slice_get p.nodes.items n ≡ Some node) where
  key_of : (e : ℕ) (x : Entity) (o : Option ℕ) → slice_get p.entities.items e ≡ Some x → library_number x ≡ o → entity_key e (slice_get p.entities.items e) ≡ option_map_or library_key o (EntityKey e)
  key_of e x o there is = ap (entity_key e) there ∙ ap (λ (q : Option ℕ). option_map_or library_key q (EntityKey e)) is

  first_of : (e : ℕ) (key : ObjectKey) → entity_key e (slice_get p.entities.items e) ≡ key → (l : ℕ) × (first_from 0 (locations_in p) key ≡ Some l) → (l : ℕ) × (first_from 0 (locations_in p) (entity_key e (slice_get p.entities.items e)) ≡ Some l)
  first_of e key is found = (found.0, ap (first_from 0 (locations_in p)) is ∙ found.1)

  defined_first : (e : ℕ) (x : Entity) → node.kind ≡ FunctionName e → slice_get p.entities.items e ≡ Some x → IsDefined x → (l : ℕ) × (first_from 0 (locations_in p) (entity_key e (slice_get p.entities.items e)) ≡ Some l)
  defined_first e x kind there (inl body) =
      let placed = entities_placed p e x made there (λ d. body_declared (sym body ∙ d)) (λ no. absurd (no body)) in
      let none : library_number x ≡ None = ap (λ (b : Bool). cond b (option_map (λ found. found.number) (summary_of x.name)) None) (ap (is_open x.linkage) body ∙ open_body x.linkage) in
      first_of e (EntityKey e) (key_of e x None there none) (placed.first, placed.first_is)
  defined_first e x kind there (inr (k, number, lt)) =
      let found = library_located p k lt (named_so p n node e x k at kind there number) in
      let first = first_some 0 found.0 (locations_in p) found.1 (FunctionKey k) found.2 found.3 in
      first_of e (FunctionKey k) (key_of e x (Some k) there number ∙ ap (λ (b : Bool). cond b (FunctionKey k) (LibraryKey (k - 52))) (lt-ltb k 55 lt)) first

  by_kind : (kind : NodeKind) → node.kind ≡ kind → NamesDefined p kind → HasFirst p kind
  by_kind (FunctionName e) is names = defined_first e names.0 is names.1 names.2
  by_kind kind is names = tt

pub functions_found : FunctionsFound
functions_found p made names n node at = by_kind p made n node at node.kind refl (names n node at)
