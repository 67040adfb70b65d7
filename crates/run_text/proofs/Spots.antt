-- The location that is found for a part of an object is the one of the definition.
use Rattle.std.proofs.Common.{arith, ◌≡◌, ◌∙◌, ℕ, zero, suc, ◌+◌, ◌<◌, Bool, true, false, cond, List, [], ◌∷◌, Option, Some, None, slice_get, refl, ap, sym, subst}
use Rattle.std.specs.Prelude.{option_and_then}
use Rattle.c_types.specs.declared.key.ObjectKey.{ObjectKey}
use Rattle.c_types.specs.declared.term.PathStep.{PathStep}
use Rattle.c_types.specs.Table.{Table}
use Rattle.obj_space.specs.declared.location.Location.{Location}
use Rattle.obj_space.specs.Found.{HasKey, NoObject, IsFirst, same_object}
use Rattle.obj_space.specs.Spots.{IsSpot, spot_by}
use Rattle.obj_space.specs.View.{first_from}
use Rattle.obj_space.proofs.Indexed.{same_is, same_self}
use Rattle.run_text.specs.Names.{spot_from, spot_of}

-- the first location of an object, found from the one of number n on
Found : ℕ → List Location → ObjectKey → Option ℕ → Type 0
Found n space key None = NoObject space key
Found n space key (Some m) = (l : ℕ) × (x : Location) × (m ≡ n + l) × IsFirst space key l × (slice_get space l ≡ Some x)

module _ (x : Location) (space : List Location) (key : ObjectKey) (n : ℕ) (other : same_object x.key key ≡ false) where
  not_here : x.key ≡ key → ⊥
  not_here is = let same = same_self x.key key is in cc

  no_key : NoObject space key → NoObject (x ∷ space) key
  no_key none zero has =
      let is : x ≡ has.0 = let at = has.1 in cc in
      not_here (ap (λ (z : Location). z.key) is ∙ has.2)
  no_key none (suc l) has = none l has

  before_behind : (l : ℕ) → IsFirst space key l → (k : ℕ) → k < suc l → HasKey (x ∷ space) k key → ⊥
  before_behind l first zero lt has =
      let is : x ≡ has.0 = let at = has.1 in cc in
      not_here (ap (λ (z : Location). z.key) is ∙ has.2)
  before_behind l first (suc k) lt has = first.before k (omega arith) has

  behind : (o : Option ℕ) → Found (n + 1) space key o → Found n (x ∷ space) key o
  unfolding Found
  behind None none = no_key none
  behind (Some m) h = (suc h.0, h.1, omega arith, record { here = h.3.here; before = before_behind h.0 h.3 }, h.4)

module _ (x : Location) (space : List Location) (key : ObjectKey) (n : ℕ) where
  found_here : same_object x.key key ≡ true → Found n (x ∷ space) key (Some n)
  unfolding Found
  found_here same =
      (0, x, omega arith, record { here = (x, refl, same_is x.key key same); before = λ k lt has. absurd (omega arith) }, refl)

  found_by : (b : Bool) → same_object x.key key ≡ b → Found (n + 1) space key (first_from (n + 1) space key)
      → Found n (x ∷ space) key (cond b (Some n) (first_from (n + 1) space key))
  found_by true is rest = found_here is
  found_by false is rest = behind x space key n is (first_from (n + 1) space key) rest

found : (n : ℕ) (space : List Location) (key : ObjectKey) → Found n space key (first_from n space key)
unfolding Found
found n [] key = λ l has. let at = has.1 in cc
found n (x ∷ space) key = found_by x space key n (same_object x.key key) refl (found (n + 1) space key)

module _ (space : List Location) (table : Table) (key : ObjectKey) (path : List PathStep) (result : Option ℕ) (spot : IsSpot space table key path result) where
  spot_by_first : (o : Option ℕ) → Found 0 space key o → result ≡ option_and_then (spot_from space table path) o
  unfolding Found
  spot_by_first None none = spot.none none
  spot_by_first (Some m) h =
      let same : h.0 ≡ m = let is = h.2 in omega arith in
      let P : ℕ → Type 0 = λ k. result ≡ spot_from space table path k in
      subst P same (spot.some h.0 h.1 h.3 h.4 ∙ sym (ap (option_and_then (λ y. spot_by table h.0 y path)) h.4))

  pub spot_is : result ≡ spot_of space table key path
  spot_is = spot_by_first (first_from 0 space key) (found 0 space key)
