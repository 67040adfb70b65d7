-- Tables in which no type stands twice.
use Rattle.std.proofs.Common.{arith, ◌≡◌, ℕ, ◌+◌, ◌<◌, ◌≤◌, length, sym, ap, ◌∙◌, inl, inr}
use Rattle.std.proofs.lemmas.Bool.{cases_lt}
use Rattle.c_types.specs.Trees.{Ctype}
use Rattle.c_types.specs.Table.{Table, type_of, IsFirstOf, IsNowhere}
use Rattle.core_nodes.specs.Once.{HasOnce}

-- a type that stood nowhere is added as the last
module _ (old new : Table) (t : Ctype) (id : ℕ) (last : id ≡ length old.terms) (more : length new.terms ≡ length old.terms + 1) (kept : (i : ℕ) → i < length old.terms → type_of new i ≡ type_of old i) (is : type_of new id ≡ t) (nowhere : IsNowhere old t) where
  -- one that stands before isn't it
  is_other : (i j : ℕ) → i < length old.terms → length old.terms ≤ j → j < length new.terms → type_of new i ≡ type_of new j → ⊥
  is_other i j first from second e =
      let same : j ≡ id = omega (arith, last, more) in
      nowhere.none i first (sym (kept i first) ∙ (e ∙ (ap (type_of new) same ∙ is)))

  pub once_added : HasOnce old → HasOnce new
  once_added h = record {
    each = λ i j first second e. elim (cases_lt i (length old.terms)) [
      | inl before ↦ elim (cases_lt j (length old.terms)) [
        | inl also ↦ h.each i j before also (sym (kept i before) ∙ (e ∙ kept j also))
        | inr last_one ↦ absurd (is_other i j before last_one second e)
      ]
      | inr from ↦ elim (cases_lt j (length old.terms)) [
        | inl also ↦ absurd (is_other j i also from first (sym e))
        | inr last_one ↦ omega (arith, more)
      ]
    ];
  }

-- a type has one first id
pub one_first : (table : Table) (t : Ctype) (a b : ℕ) → IsFirstOf table t a → IsFirstOf table t b → a ≡ b
one_first table t a b f g = elim (cases_lt a b) [
  | inl less ↦ absurd (g.least a less f.same)
  | inr from ↦ elim (cases_lt b a) [
    | inl more ↦ absurd (f.least b more g.same)
    | inr same ↦ omega arith
  ]
]

-- and none where it stands nowhere
pub no_first : (table : Table) (t : Ctype) (id : ℕ) → IsNowhere table t → IsFirstOf table t id → ⊥
no_first table t id nowhere f = nowhere.none id f.known f.same
