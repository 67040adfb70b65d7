-- The objects that calls of allocating functions get that don't name them.
use Rattle.std.proofs.Common.{arith, ◌≡◌, ◌∙◌, ◌⊎◌, ◌||◌, inl, inr, ℕ, ◌<◌, Bool, true, false, cond, nat_eq, List, [], ◌++◌, Some, None, refl, sym, subst}
use Rattle.std.specs.Prelude.{nat_lt, codes}
use Rattle.std.specs.List.{flat_map}
use Rattle.std.proofs.lemmas.Bool.{false≢true, ltb-true}
use Rattle.std.proofs.lemmas.Bool.Decides.{eqb_tells}
use Rattle.std.proofs.lemmas.List.Concat.{flat_map-cons, flat_map-append}
use Rattle.c_types.specs.declared.key.ObjectKey.TheVariants.{Star as StarKey}
use Rattle.core_tree.specs.declared.node.Program.{Program}
use Rattle.obj_made.specs.declared.object.Content.{Content}
use Rattle.obj_made.specs.declared.object.Content.TheVariants.{Blob, Scalars}
use Rattle.obj_made.specs.declared.object.Object.{Object}
use Rattle.obj_made.specs.Made.{allocated_content, made_in_order, objects_in}
use Rattle.obj_made.specs.Uses.{is_allocator, is_named, is_starred}
use Rattle.obj_space.specs.declared.location.Location.{Location}
use Rattle.obj_space.specs.Objects.{named_object, library_name, functions_below, library_objects, star_if, star_object, star_objects, outside_objects, library_part, takes_arguments}
use Rattle.obj_space.specs.Space.{locations_by, locations_of, locations_in}
use Rattle.obj_space.specs.View.{first_from}
use Rattle.covering_laws.proofs.object_contents.Made.{HasLocation, behind, front, first_some}

-- the numbers of allocating functions
pub allocator_number : (k : ℕ) → is_allocator k ≡ true → (k < 3) ⊎ (k ≡ 21)
allocator_number k h = by (nat_lt k 3) refl h
  where
    equal : nat_eq k 21 ≡ true → k ≡ 21
    equal g = elim (eqb_tells k 21) [ inl same ↦ same.1 | inr other ↦ absurd (false≢true (sym other.0 ∙ g)) ]

    by : (b : Bool) → nat_lt k 3 ≡ b → (b || nat_eq k 21) ≡ true → (k < 3) ⊎ (k ≡ 21)
    by true less g = inl (ltb-true k 3 less)
    by false more g = inr (equal g)

module _ (p : Program) where
  abbrev places : List Object → List Location
  places os = flat_map (locations_of p.types) os

  kind_located : (object : Object) (b : Bool) → HasLocation object.key (locations_by p.types object (let c : Content = cond b (Scalars 0) Blob in c))
  kind_located object true = (0, _, refl, refl)
  kind_located object false = (0, _, refl, refl)

  abbrev star : ℕ → Object
  star k = named_object (StarKey k) (library_name k ++ codes "@*") (allocated_content k None)

  if_located : (b : Bool) (k : ℕ) → b ≡ true → HasLocation (StarKey k) (places (star_if b k))
  if_located true k is =
      subst (HasLocation (StarKey k)) (sym (flat_map-cons (locations_of p.types) (star k) []))
      (front (StarKey k) (locations_of p.types (star k)) (places []) (kind_located (star k) (nat_eq k 21)))
  if_located false k is = absurd (false≢true is)

  joined_front : (k : ℕ) (xs ys : List Object) → HasLocation (StarKey k) (places xs) → HasLocation (StarKey k) (places (xs ++ ys))
  joined_front k xs ys h = subst (HasLocation (StarKey k)) (sym (flat_map-append (locations_of p.types) xs ys)) (front (StarKey k) (places xs) (places ys) h)

  joined_behind : (k : ℕ) (xs ys : List Object) → HasLocation (StarKey k) (places ys) → HasLocation (StarKey k) (places (xs ++ ys))
  joined_behind k xs ys h = subst (HasLocation (StarKey k)) (sym (flat_map-append (locations_of p.types) xs ys)) (behind (StarKey k) (places xs) (places ys) h)

  star_there : (j k : ℕ) → k ≡ j → is_starred p.entities.items p.nodes.items k ≡ true → HasLocation (StarKey k) (places (star_object p j))
  star_there j k same starred = subst (λ (i : ℕ). HasLocation (StarKey k) (places (star_object p i))) same (if_located (is_starred p.entities.items p.nodes.items k) k starred)

  abbrev after_one : List Object
  after_one = star_object p 2 ++ star_object p 21

  abbrev after_none : List Object
  after_none = star_object p 1 ++ (star_object p 2 ++ star_object p 21)

  last : (n : ℕ) → n < 3 → (n ≡ 0 → ⊥) → (n ≡ 1 → ⊥) → n ≡ 2
  last n lt a b = omega arith

  small_there : (k : ℕ) → k < 3 → is_starred p.entities.items p.nodes.items k ≡ true → HasLocation (StarKey k) (places (star_objects p))
  small_there k few starred = elim (eqb_tells k 0) [
    | inl nought ↦ joined_front k (star_object p 0) after_none (star_there 0 k nought.1 starred)
    | inr more ↦ joined_behind k (star_object p 0) after_none (later more.1)
  ]
    where
      later : (k ≡ 0 → ⊥) → HasLocation (StarKey k) (places after_none)
      later more = elim (eqb_tells k 1) [
        | inl one ↦ joined_front k (star_object p 1) after_one (star_there 1 k one.1 starred)
        | inr other ↦ joined_behind k (star_object p 1) after_one (joined_front k (star_object p 2) (star_object p 21) (star_there 2 k (last k few more other.1) starred))
      ]

  stars_there : (k : ℕ) → is_allocator k ≡ true → is_starred p.entities.items p.nodes.items k ≡ true → HasLocation (StarKey k) (places (star_objects p))
  stars_there k allocates starred = elim (allocator_number k allocates) [
    | inl few ↦ small_there k few starred
    | inr one ↦ joined_behind k (star_object p 0) after_none (joined_behind k (star_object p 1) after_one (joined_behind k (star_object p 2) (star_object p 21) (star_there 21 k one starred)))
  ]

  all_there : (k : ℕ) → is_allocator k ≡ true → is_starred p.entities.items p.nodes.items k ≡ true → HasLocation (StarKey k) (locations_in p)
  unfolding locations_in
  all_there k allocates starred =
      joined_behind k (objects_in (made_in_order p)) (library_part p)
      (joined_behind k (functions_below p 55) (library_objects (is_named p.entities.items p.nodes.items) (takes_arguments p) ++ (star_objects p ++ outside_objects p.entries.items))
      (joined_behind k (library_objects (is_named p.entities.items p.nodes.items) (takes_arguments p)) (star_objects p ++ outside_objects p.entries.items)
      (joined_front k (star_objects p) (outside_objects p.entries.items) (stars_there k allocates starred))))

  pub star_located : (k : ℕ) → is_allocator k ≡ true → is_starred p.entities.items p.nodes.items k ≡ true → (l : ℕ) × (first_from 0 (locations_in p) (StarKey k) ≡ Some l)
  star_located k allocates starred = (let r = all_there k allocates starred in first_some 0 r.0 (locations_in p) r.1 (StarKey k) r.2 r.3)
