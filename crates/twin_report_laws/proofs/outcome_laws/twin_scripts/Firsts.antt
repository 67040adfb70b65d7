-- First locations of objects.
use Rattle.std.proofs.Common.{arith, ◌≡◌, ◌∙◌, ◌+◌, ◌<◌, ℕ, suc, Bool, true, false, cond, List, [], ◌∷◌, length, Some, refl, sym, ap, inl, inr}
use Rattle.std.specs.List.{slice_get}
use Rattle.std.proofs.lemmas.Bool.{cases_Bool}
use Rattle.std.proofs.lemmas.Option.{slice_get_within}
use Rattle.c_types.specs.declared.key.ObjectKey.{ObjectKey}
use Rattle.obj_space.specs.declared.location.Location.{Location}
use Rattle.obj_space.specs.Found.{same_object}
use Rattle.obj_space.specs.View.{first_from}
use Rattle.obj_space.proofs.Indexed.{same_is, same_self}
use Rattle.twin_report_laws.proofs.outcome_laws.twin_locations.Options.{some_one, none_some}
use Rattle.twin_report_laws.proofs.outcome_laws.twin_locations.Members.{Member}

-- the location where an object begins
pub record Begins (space : List Location) (key : ObjectKey) (n l : ℕ) : Type 0 where
  pub at : ℕ
  pub place : l ≡ n + at
  pub location : Location
  pub there : slice_get space at ≡ Some location
  pub key_is : location.key ≡ key

pub begins : (space : List Location) (key : ObjectKey) (n l : ℕ) → first_from n space key ≡ Some l → Begins space key n l
begins [] key n l h = absurd (none_some h)
begins (x ∷ rest) key n l h = elim (cases_Bool (same_object x.key key)) [
  | inl its ↦
      let same = some_one (sym (ap (λ b. cond b (Some n) (first_from (n + 1) rest key)) its) ∙ h) in
      record { at = 0; place = omega (arith, same); location = x; there = refl; key_is = same_is x.key key its }
  | inr isnt ↦
      let later = begins rest key (n + 1) l (sym (ap (λ b. cond b (Some n) (first_from (n + 1) rest key)) isnt) ∙ h) in
      let place = later.place in
      record { at = suc later.at; place = omega (arith, place); location = later.location; there = later.there; key_is = later.key_is }
]

pub first_some : (space : List Location) (y : Location) (key : ObjectKey) (n : ℕ) → Member space y → y.key ≡ key → (l : ℕ) × (first_from n space key ≡ Some l)
first_some [] y key n h own = absurd h
first_some (x ∷ rest) y key n (inl same) own = (n, ap (λ b. cond b (Some n) (first_from (n + 1) rest key)) (same_self x.key key (ap (λ (z : Location). z.key) same ∙ own)))
first_some (x ∷ rest) y key n (inr h) own = by (same_object x.key key) (first_some rest y key (n + 1) h own)
  where
    by : (b : Bool) → (l : ℕ) × (first_from (n + 1) rest key ≡ Some l) → (l : ℕ) × (cond b (Some n) (first_from (n + 1) rest key) ≡ Some l)
    by true r = (n, refl)
    by false r = r

pub first_below : (space : List Location) (l : ℕ) (key : ObjectKey) → first_from 0 space key ≡ Some l → l < length space
first_below space l key h =
    let f = begins space key 0 l h in
    let place = f.place in
    let lt = slice_get_within space f.at f.location f.there in
    omega (arith, place, lt)
