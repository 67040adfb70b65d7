-- The types of all units, unit by unit.
use Rattle.std.proofs.Common.{◌≡◌, ℕ, zero, suc, ◌+◌, ◌-◌, All, drop, ◌<◌, ◌≤◌, List, [], ◌∷◌, Some, None, Option, length, take, refl, sym, ap, subst, ◌∙◌, arith, inl, inr}
use Rattle.std.proofs.lemmas.Bool.{cases_lt}
use Rattle.std.proofs.lemmas.List.Sums.{sum_by_more}
use Rattle.std.proofs.lemmas.Option.{get_or_from_slice_get, slice_get_within}
use Rattle.std.specs.List.{slice_get, slice_range}
use Rattle.std.proofs.lemmas.List.Elements.{All-nil, All-cons, All-drop}
use Rattle.c_types.specs.Table.{Table, type_of}
use Rattle.core_tree.specs.declared.node.Unit.{Unit}
use Rattle.link_model.specs.declared.item.Item.{Item}
use Rattle.link_model.specs.Units.{types_if, IsType}
use Rattle.link_model.specs.Merged.{HasType}
use Rattle.link_model.specs.Renamed.{renamed}
use Rattle.link_model.specs.link_types.Moved.{HasTypes}
use Rattle.link_model.specs.link_types.Joined.{types_before, tag_in, numbering, AreJoined}

types_more : (units : List Unit) (u : ℕ) (x : Unit) → u < length units → slice_get units u ≡ Some x → types_before units (u + 1) ≡ types_before units u + length x.types.terms
types_more units u x lt at =
    sum_by_more (λ (y : Unit). length y.types.terms) units u x lt ∙ ap (λ (y : Unit). types_before units u + length y.types.terms) (get_or_from_slice_get units u x x at)

one_unit : {x y : Unit} → ◌≡◌ {A = Option Unit} (Some x) (Some y) → x ≡ y
one_unit h = cc

-- the types of one unit more
pub joined_more : (units : List Unit) (starts numbers : List ℕ) (old now : Table) (u : ℕ) (x : Unit) → u < length units → slice_get units u ≡ Some x → AreJoined units starts numbers old u
    → length now.terms ≡ length old.terms + length x.types.terms → HasTypes now x.types (length old.terms) (tag_in starts numbers u) (length x.types.terms)
    → ((i : ℕ) → i < length old.terms → type_of now i ≡ type_of old i) → AreJoined units starts numbers now (u + 1)
joined_more units starts numbers old now u x lt at h count added kept =
    let more = types_more units u x lt at in
    let before = h.count in
    record {
      count = omega arith;
      within = λ v y less there. elim (cases_lt v u) [
        | inl earlier ↦ (let w = h.within v y earlier there in omega arith)
        | inr ge ↦
            let here : v ≡ u = omega arith in
            let same : y ≡ x = one_unit (sym there ∙ (ap (slice_get units) here ∙ at)) in
            subst (λ (z : Unit). types_before units v + length z.types.terms ≤ length now.terms) (sym same) (subst (λ w. types_before units w + length x.types.terms ≤ length now.terms) (sym here) (omega arith))
      ];
      each = λ v y less there. elim (cases_lt v u) [
        | inl earlier ↦
            let w = h.within v y earlier there in
            record { each = λ i i_less. kept (types_before units v + i) (omega arith) ∙ (h.each v y earlier there).each i i_less }
        | inr ge ↦
            let here : v ≡ u = omega arith in
            let same : y ≡ x = one_unit (sym there ∙ (ap (slice_get units) here ∙ at)) in
            subst (λ (z : Unit). HasTypes now z.types (types_before units v) (tag_in starts numbers v) (length z.types.terms)) (sym same)
            (subst (λ w. HasTypes now x.types (types_before units w) (tag_in starts numbers w) (length x.types.terms)) (sym here)
            (subst (λ n. HasTypes now x.types n (tag_in starts numbers u) (length x.types.terms)) before added))
      ];
    }

all_tail : {X : Type 0} (P : X → Type 0) (x : X) (xs : List X) → All P (x ∷ xs) → All P xs
all_tail P x xs h k d lt = h (suc k) d (omega arith)

all_head : {X : Type 0} (P : X → Type 0) (x : X) (xs : List X) → All P (x ∷ xs) → P x
all_head P x xs h = h 0 x (omega arith)

all_take : {X : Type 0} (P : X → Type 0) (n : ℕ) (xs : List X) → All P xs → All P (take n xs)
all_take P zero [] h = h
all_take P (suc n) [] h = h
all_take P zero (x ∷ xs) h = All-nil P
all_take P (suc n) (x ∷ xs) h = All-cons P x (take n xs) (all_head P x xs h) (all_take P n xs (all_tail P x xs h))

-- numbers of a list between two places
pub all_range : (n : ℕ) (xs : List ℕ) (a b : ℕ) → All (λ k. k < n) xs → All (λ k. k < n) (slice_range xs a b)
all_range n xs a b h = all_take (λ k. k < n) (b - a) (drop a xs) (All-drop (λ k. k < n) a xs h)

-- each type of each unit stands in the table of all, with the table's tags
pub types_joined : (units : List Unit) (starts numbers : List ℕ) (table : Table) → AreJoined units starts numbers table (length units) → (a : Item) → IsType units a → HasType units (numbering units starts numbers) table a
types_joined units starts numbers table h a lt = there (slice_get units a.unit) refl lt
  where
    there : (o : Option Unit) → slice_get units a.unit ≡ o → a.number < length (types_if o).terms → HasType units (numbering units starts numbers) table a
    there None e less = absurd (omega arith)
    there (Some x) e less =
        let before = slice_get_within units a.unit x e in
        let within = h.within a.unit x before e in
        record {
          within = omega arith;
          type_is = (h.each a.unit x before e).each a.number less ∙ ap (λ o. renamed (tag_in starts numbers a.unit) (type_of (types_if o) a.number)) (sym e);
        }
