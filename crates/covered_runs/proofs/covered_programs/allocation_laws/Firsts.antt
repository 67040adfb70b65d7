-- The first location of an object.
use Rattle.std.proofs.Common.{arith, ◌≡◌, ℕ, suc, ◌+◌, Bool, true, false, cond, List, [], ◌∷◌, Option, Some, slice_get, refl, subst}
use Rattle.c_types.specs.declared.key.ObjectKey.{ObjectKey}
use Rattle.obj_space.specs.declared.location.Location.{Location}
use Rattle.obj_space.specs.Found.{same_object}
use Rattle.obj_space.specs.View.{first_from}
use Rattle.obj_space.proofs.Indexed.{same_is}
use Rattle.covered_runs.proofs.covered_programs.allocation_laws.Marks.{none_some, some_one}

-- the location of an object has the object's key
pub first_there : (n : ℕ) (space : List Location) (key : ObjectKey) (l : ℕ) → first_from n space key ≡ Some l → (at : ℕ) × (l ≡ n + at) × (x : Location) × (slice_get space at ≡ Some x) × (x.key ≡ key)
first_there n [] key l h = absurd (none_some h)
first_there n (x ∷ rest) key l h = by (same_object x.key key) refl h (first_there (n + 1) rest key l)
  where
    by : (b : Bool) → same_object x.key key ≡ b → (let o : Option ℕ = cond b (Some n) (first_from (n + 1) rest key) in o) ≡ Some l
        → (first_from (n + 1) rest key ≡ Some l → (at : ℕ) × (l ≡ (n + 1) + at) × (y : Location) × (slice_get rest at ≡ Some y) × (y.key ≡ key)) → (at : ℕ) × (l ≡ n + at) × (y : Location) × (slice_get (x ∷ rest) at ≡ Some y) × (y.key ≡ key)
    by true is g next = (let e = some_one g in (0, omega arith, x, refl, same_is x.key key is))
    by false is g next = (let r = next g in let e = r.1 in (suc r.0, omega arith, r.2, r.3, r.4))

pub first_item : (space : List Location) (key : ObjectKey) (l : ℕ) → first_from 0 space key ≡ Some l → (x : Location) × (slice_get space l ≡ Some x) × (x.key ≡ key)
first_item space key l h =
    let r = first_there 0 space key l h in
    let e = r.1 in
    let same : r.0 ≡ l = omega arith in
    (r.2, subst (λ (i : ℕ). slice_get space i ≡ Some r.2) same r.3, r.4)
