-- Tags of one number stand with one keyword.
use Rattle.std.proofs.Common.{◌≡◌, ℕ, zero, suc, ◌⊎◌, inl, inr, Bool, true, false, eqb, ◌&&◌, ◌||◌, List, [], ◌∷◌, refl, ap, sym, ◌∙◌, Option, Some}
use Rattle.std.specs.List.{slice_get, list_any}
use Rattle.std.proofs.lemmas.Bool.{cases_Bool, false≢true}
use Rattle.std.proofs.lemmas.Bool.Decides.{eqb_tells}
use Rattle.c_types.specs.declared.term.Term.{Term}
use Rattle.c_types.specs.declared.term.Term.TheVariants.{Void, Bool as BoolTerm, Integer, Floating, VaList, Pointer, Array, Function, Structure, Union}
use Rattle.core_tree.specs.declared.node.Unit.{Unit}
use Rattle.link_model.specs.declared.item.Item.{Item}
use Rattle.link_model.specs.Units.{item, types_if, IsTag, is_union, is_union_of}
use Rattle.link_model.specs.Apart.{MayBeOne}
use Rattle.link_model.specs.Partition.{number, Joins}
use Rattle.link_model.specs.link_types.Moved.{Keyed}
use Rattle.link_model.specs.link_types.Joined.{AreKeyed, tag_in}
use Rattle.link_merge.specs.Tags.{AreMade, AreTags, place_in}
use Rattle.link_merge.proofs.Counting.{labelled_key}
use Rattle.link_merge.proofs.Places.{tag_of_unit}

some_one : {X : Type 0} → {x y : X} → ◌≡◌ {A = Option X} (Some x) (Some y) → x ≡ y
some_one h = cc

-- a test that some element passes
pub any_at : {X : Type 0} (p : X → Bool) (xs : List X) (g : ℕ) (x : X) → slice_get xs g ≡ Some x → p x ≡ true → list_any p xs ≡ true
any_at p [] g x at h = cc
any_at p (y ∷ ys) zero x at h = ap (λ b. b || list_any p ys) (ap p (some_one at) ∙ h)
any_at p (y ∷ ys) (suc g) x at h = ap (λ b. p y || b) (any_at p ys g x at h) ∙ or_true (p y)
  where
    or_true : (b : Bool) → (b || true) ≡ true
    or_true true = refl
    or_true false = refl

pub any_some : {X : Type 0} (p : X → Bool) (xs : List X) → list_any p xs ≡ true → (g : ℕ) × (x : X) × (slice_get xs g ≡ Some x) × (p x ≡ true)
any_some p [] h = cc
any_some p (y ∷ ys) h = elim (cases_Bool (p y)) [
  | inl its ↦ (0, y, refl, its)
  | inr other ↦ (let r = any_some p ys (sym (ap (λ b. b || list_any p ys) other) ∙ h) in (suc r.0, r.1, r.2, r.3))
]

and_both : (a b : Bool) → (a && b) ≡ true → (a ≡ true) × (b ≡ true)
and_both true true h = (refl, refl)
and_both true false h = cc
and_both false b h = cc

eqb_same : (a b : ℕ) → eqb a b ≡ true → a ≡ b
eqb_same a b h = elim (eqb_tells a b) [ inl same ↦ same.1 | inr other ↦ absurd (false≢true (sym other.0 ∙ h)) ]

eqb_self : (a : ℕ) → eqb a a ≡ true
eqb_self a = elim (eqb_tells a a) [ inl same ↦ same.0 | inr other ↦ absurd (other.1 refl) ]

module _ (units : List Unit) (starts numbers : List ℕ) (tags : List Item) (made : AreMade units) (are : AreTags units starts tags) (joins : Joins units (tag_in starts numbers)) where
  abbrev keyword : ℕ → Bool
  keyword k = list_any (λ b. eqb (number (tag_in starts numbers) b) k && is_union units b) tags

  union_same : (a b : Item) → MayBeOne units a b → is_union units a ≡ is_union units b
  union_same a b (inl e) = ap (is_union units) e
  union_same a b (inr s) = (labelled_key units a s.0 s.1).union ∙ sym (labelled_key units b s.0 s.2).union

  keyword_is : (a : Item) → IsTag units a → keyword (number (tag_in starts numbers) a) ≡ is_union units a
  keyword_is a tag = elim (cases_Bool (is_union units a)) [
    | inl its ↦ any_at (λ b. eqb (number (tag_in starts numbers) b) (number (tag_in starts numbers) a) && is_union units b) tags (place_in starts a) a (are.place a tag) (ap (λ c. c && is_union units a) (eqb_self (number (tag_in starts numbers) a)) ∙ its) ∙ sym its
    | inr other ↦ elim (cases_Bool (keyword (number (tag_in starts numbers) a))) [
      | inr none ↦ none ∙ sym other
      | inl some ↦
          let r = any_some (λ b. eqb (number (tag_in starts numbers) b) (number (tag_in starts numbers) a) && is_union units b) tags some in
          let both = and_both (eqb (number (tag_in starts numbers) r.1) (number (tag_in starts numbers) a)) (is_union units r.1) r.3 in
          let tb = (are.each r.0 r.1 r.2).0 in
          absurd (false≢true (sym other ∙ (union_same a r.1 (joins.one a r.1 tag tb (sym (eqb_same (number (tag_in starts numbers) r.1) (number (tag_in starts numbers) a) both.0))) ∙ both.1)))
    ]
  ]

  union_term : (tag : ℕ) (t : Term) → is_union_of tag t ≡ true → t ≡ Union tag
  union_term tag (Union other) h = ap Union (eqb_same other tag h)
  union_term tag Void h = cc
  union_term tag BoolTerm h = cc
  union_term tag (Integer size rank signed) h = cc
  union_term tag Floating h = cc
  union_term tag VaList h = cc
  union_term tag (Pointer to) h = cc
  union_term tag (Array of n) h = cc
  union_term tag (Function result parameters form) h = cc
  union_term tag (Structure other) h = cc

  unit_keyed : (u : ℕ) (x : Unit) → slice_get units u ≡ Some x → Keyed (λ k. keyword (tag_in starts numbers u k)) x.types.terms
  unit_keyed u x at = record {
    structures = λ i tag there.
        let it = tag_of_unit units (item u tag) x at (made.named u x at i (Structure tag) there).1 in
        keyword_is (item u tag) it ∙ (ap (λ (o : Option Unit). list_any (is_union_of tag) (types_if o).terms) at ∙ no_union i tag there (cases_Bool (list_any (is_union_of tag) x.types.terms)));
    unions = λ i tag there.
        let it = tag_of_unit units (item u tag) x at (made.named u x at i (Union tag) there).1 in
        keyword_is (item u tag) it ∙ (ap (λ (o : Option Unit). list_any (is_union_of tag) (types_if o).terms) at ∙ any_at (is_union_of tag) x.types.terms i (Union tag) there (eqb_self tag));
  }
    where
      no_union : (i tag : ℕ) → slice_get x.types.terms i ≡ Some (Structure tag) → (list_any (is_union_of tag) x.types.terms ≡ true) ⊎ (list_any (is_union_of tag) x.types.terms ≡ false) → list_any (is_union_of tag) x.types.terms ≡ false
      no_union i tag there (inr none) = none
      no_union i tag there (inl some) =
          let r = any_some (is_union_of tag) x.types.terms some in
          absurd ((made.made u x at).apart.each i r.0 tag there (r.2 ∙ ap Some (union_term tag r.1 r.3)))

  pub are_keyed : AreKeyed units starts numbers
  are_keyed = record { keyword = keyword; each = unit_keyed }
