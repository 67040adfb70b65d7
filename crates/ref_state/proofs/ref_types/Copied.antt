-- Tables that are copied term by term, and tag by tag.
use Rattle.std.proofs.Common.{◌≡◌, ℕ, zero, suc, ◌+◌, ◌<◌, List, [], ◌∷◌, ◌++◌, Option, Some, None, Bool, true, false, cond, eqb, eq-eqb, take, slice_get, refl, ap, ◌∙◌, inl, inr}
use Rattle.std.proofs.lemmas.List.{take_more}
use Rattle.std.proofs.lemmas.Option.{slice_get_within, get_or_from_slice_get}
use Rattle.std.proofs.Common.{Result, Ok, Err}
use Rattle.std.specs.Result.{OnOk}
use Rattle.c_types.specs.declared.term.Term.TheVariants.{Structure, Union}
use Rattle.c_types.specs.declared.term.MemberTerm.{MemberTerm}
use Rattle.c_types.specs.Table.{Table, TagMembers, members_among}
use Rattle.c_types.specs.Made.{IsMade, AreNamed}

-- one item more
pub take_next : {X : Type 0} → (xs : List X) (i : ℕ) (x : X) → slice_get xs i ≡ Some x → take (i + 1) xs ≡ take i xs ++ x ∷ []
take_next xs i x h =
    take_more xs i x (slice_get_within xs i x h) ∙ ap (λ y. take i xs ++ y ∷ []) (get_or_from_slice_get xs i x x h)

found_or : {A : Type 0} (b : Bool) (x : A) (r : Option A) → ((y : A) × (r ≡ Some y)) → (y : A) × (cond b (Some x) r ≡ Some y)
found_or true x r h = (x, refl)
found_or false x r h = h

-- a completed tag has members
pub members_there : (xs : List TagMembers) (k : ℕ) (c : TagMembers) → slice_get xs k ≡ Some c
    → (ms : List MemberTerm) × (members_among xs c.tag ≡ Some ms)
members_there [] k c h = cc
members_there (x ∷ xs) zero c h =
    let e : x ≡ c = cc in
    (x.members, ap (λ (b : Bool). cond b (Some x.members) (members_among xs c.tag)) (eq-eqb x.tag c.tag (ap (λ (y : TagMembers). y.tag) e)))
members_there (x ∷ xs) (suc k) c h = found_or (eqb x.tag c.tag) x.members (members_among xs c.tag) (members_there xs k c h)

other_of : {A : Type 0} (b : Bool) (x : A) (r s : Option A) (y : A) → (r ≡ None → s ≡ Some y) → cond b (Some x) r ≡ None → cond b (Some x) s ≡ Some y
other_of true x r s y f h = cc
other_of false x r s y f h = f h

-- where no earlier one is that tag's, its members are those that are found
pub members_first : (xs : List TagMembers) (k : ℕ) (c : TagMembers) → slice_get xs k ≡ Some c
    → members_among (take k xs) c.tag ≡ None
    → members_among xs c.tag ≡ Some c.members
members_first [] k c h none = cc
members_first (x ∷ xs) zero c h none =
    let e : x ≡ c = cc in
    ap (λ (b : Bool). cond b (Some x.members) (members_among xs c.tag)) (eq-eqb x.tag c.tag (ap (λ (y : TagMembers). y.tag) e))
    ∙ ap (λ (y : TagMembers). Some y.members) e
members_first (x ∷ xs) (suc k) c h none =
    other_of (eqb x.tag c.tag) x.members (members_among (take k xs) c.tag) (members_among xs c.tag) c.members (λ g. members_first xs k c h g) none

-- a completed tag is the table's
pub tag_within : (table : Table) → IsMade table → AreNamed table → (k : ℕ) (c : TagMembers) → slice_get table.completed k ≡ Some c → c.tag < table.tags
tag_within table made named k c h =
    let (ms, at) = members_there table.completed k c h in
    elim (made.stands c.tag ms at) [
      | inl s ↦ (named s.0 (Structure c.tag) s.1).1
      | inr s ↦ (named s.0 (Union c.tag) s.1).1
    ]

-- what holds after an answer that is no error
pub on_ok : {A E : Type 0} {P Q : Type 0} (r : Result A E) → (P → Q) → OnOk r P → OnOk r Q
on_ok (Ok x) f p = f p
on_ok (Err e) f p = p

pub some_is : {A : Type 0} (x y : A) → ◌≡◌ {A = Option A} (Some x) (Some y) → x ≡ y
some_is x y e = cc
