-- Where the tags of units stand among all.
use Rattle.std.proofs.Common.{arith, ◌≡◌, ℕ, zero, suc, ◌+◌, ◌-◌, ◌<◌, ◌≤◌, ◌⊎◌, inl, inr, List, [], ◌∷◌, ◌++◌, length, length-append, sum, take, drop, get_or, refl, ap, sym, ◌∙◌, subst, Option, Some, None}
use Rattle.std.specs.List.{slice_get, slice_range}
use Rattle.std.proofs.lemmas.Bool.{cases_lt}
use Rattle.std.proofs.lemmas.List.{length-map}
use Rattle.std.proofs.lemmas.Option.{slice_get_within}
use Rattle.c_types.proofs.Push.{slice_get_push, slice_get_left}
use Rattle.core_tree.specs.declared.node.Unit.{Unit}
use Rattle.link_model.specs.declared.item.Item.{Item}
use Rattle.link_model.specs.Units.{item, IsTag, types_if}
use Rattle.link_model.specs.link_types.Joined.{AreStarts, tag_in}
use Rattle.link_model.specs.link_types.Starts.{AreSums}
use Rattle.link_model.proofs.link_types.StartLemmas.{starts_of}
use Rattle.link_merge.specs.Tags.{tag_counts_of, place_in, IsBefore, TagsUpTo, AreTags}

pub same_item : (a b : Item) → a.unit ≡ b.unit → a.number ≡ b.number → a ≡ b
same_item a b e f = ap (λ u. item u a.number) e ∙ ap (item b.unit) f

-- the unit of a tag
pub tag_unit : (units : List Unit) (a : Item) → IsTag units a → (x : Unit) × (slice_get units a.unit ≡ Some x) × (a.number < x.types.tags)
tag_unit units a lt = here (slice_get units a.unit) refl lt
  where
    here : (o : Option Unit) → slice_get units a.unit ≡ o → a.number < (types_if o).tags → (x : Unit) × (slice_get units a.unit ≡ Some x) × (a.number < x.types.tags)
    here None e less = absurd (omega arith)
    here (Some x) e less = (x, e, less)

pub tag_of_unit : (units : List Unit) (a : Item) (x : Unit) → slice_get units a.unit ≡ Some x → a.number < x.types.tags → IsTag units a
tag_of_unit units a x e lt = subst (λ (o : Option Unit). a.number < (types_if o).tags) (sym e) lt

pub starts_right : (units : List Unit) (starts : List ℕ) → AreSums (tag_counts_of units) starts → AreStarts units starts (sum (tag_counts_of units))
starts_right units starts h = starts_of units starts (sum (tag_counts_of units)) h (omega arith)

start_zero : (units : List Unit) (starts : List ℕ) → AreSums (tag_counts_of units) starts → get_or starts 0 0 ≡ 0
start_zero units starts h = h.each 0 (omega arith)

pub tags_none : (units : List Unit) (starts : List ℕ) → AreSums (tag_counts_of units) starts → TagsUpTo units starts 0 0 []
tags_none units starts h = record {
  many = (let z = start_zero units starts h in omega arith);
  place = λ a tag before. elim before [ inl lt ↦ absurd (omega arith) | inr here ↦ absurd (omega (arith, here.1)) ];
  each = λ g a at. absurd (nothing at);
}
  where
    nothing : {a : Item} → ◌≡◌ {A = Option Item} None (Some a) → ⊥
    nothing e = cc

pub tags_push : (units : List Unit) (starts : List ℕ) (u n : ℕ) (tags : List Item) → TagsUpTo units starts u n tags → IsTag units (item u n) → TagsUpTo units starts u (n + 1) (tags ++ item u n ∷ [])
tags_push units starts u n tags h is = record {
  many = (let m = h.many in let l = length-append tags (item u n ∷ []) in omega arith);
  place = λ a tag before. elim (cases a before) [
    | inl earlier ↦ slice_get_left tags (item u n) (place_in starts a) a (h.place a tag earlier)
    | inr same ↦ last a same
  ];
  each = λ g a at. elim (slice_get_push tags (item u n) g a at) [
    | inl old ↦ h.each g a old.1
    | inr new ↦ (subst (IsTag units) (sym new.1) is, ap (place_in starts) new.1 ∙ (let m = h.many in let g_is = new.0 in omega arith))
  ];
}
  where
    cases : (a : Item) → IsBefore a u (n + 1) → IsBefore a u n ⊎ (a ≡ item u n)
    cases a (inl lt) = inl (inl lt)
    cases a (inr here) = elim (cases_lt a.number n) [
      | inl less ↦ inl (inr (here.0, less))
      | inr ge ↦ inr (same_item a (item u n) here.0 (let lt = here.1 in omega arith))
    ]

    at_end : (xs : List Item) (x : Item) → slice_get (xs ++ x ∷ []) (length xs) ≡ Some x
    at_end [] x = refl
    at_end (y ∷ ys) x = at_end ys x

    last : (a : Item) → a ≡ item u n → slice_get (tags ++ item u n ∷ []) (place_in starts a) ≡ Some a
    last a e =
        let place : place_in starts a ≡ length tags = ap (place_in starts) e ∙ sym h.many in
        ap (slice_get (tags ++ item u n ∷ [])) place ∙ (at_end tags (item u n) ∙ ap Some (sym e))

pub tags_next : (units : List Unit) (starts : List ℕ) (u : ℕ) (x : Unit) (tags : List Item) → AreSums (tag_counts_of units) starts → slice_get units u ≡ Some x → TagsUpTo units starts u x.types.tags tags → TagsUpTo units starts (u + 1) 0 tags
tags_next units starts u x tags sums at h = record {
  many = (let m = h.many in let s = (starts_right units starts sums).each u x at in omega arith);
  place = λ a tag before. h.place a tag (earlier a tag before);
  each = h.each;
}
  where
    some_one : {y z : Unit} → ◌≡◌ {A = Option Unit} (Some y) (Some z) → y ≡ z
    some_one e = cc

    earlier : (a : Item) → IsTag units a → IsBefore a (u + 1) 0 → IsBefore a u x.types.tags
    earlier a tag (inl lt) = elim (cases_lt a.unit u) [
      | inl less ↦ inl less
      | inr ge ↦
          let same : a.unit ≡ u = omega arith in
          let (y, there, within) = tag_unit units a tag in
          let one : y ≡ x = some_one (sym there ∙ (ap (slice_get units) same ∙ at)) in
          inr (same, subst (λ (z : Unit). a.number < z.types.tags) one within)
    ]
    earlier a tag (inr here) = absurd (omega (arith, here.1))

take_whole : (xs : List ℕ) (n : ℕ) → length xs ≡ n → take n xs ≡ xs
take_whole [] zero e = refl
take_whole [] (suc n) e = refl
take_whole (x ∷ xs) zero e = absurd (omega arith)
take_whole (x ∷ xs) (suc n) e = ap (λ ys. x ∷ ys) (take_whole xs n (omega arith))

-- how many tags there are
pub total : (units : List Unit) (starts : List ℕ) → AreSums (tag_counts_of units) starts → get_or starts (length units) 0 ≡ sum (tag_counts_of units)
total units starts sums =
    let many : length (tag_counts_of units) ≡ length units = length-map units (λ (x : Unit). x.types.tags) in
    sums.each (length units) (omega arith) ∙ ap sum (take_whole (tag_counts_of units) (length units) many)

pub tags_all : (units : List Unit) (starts : List ℕ) (tags : List Item) → AreSums (tag_counts_of units) starts → TagsUpTo units starts (length units) 0 tags → AreTags units starts tags
tags_all units starts tags sums h = record {
  many = (let m = h.many in let t = total units starts sums in omega arith);
  place = λ a tag. h.place a tag (inl (let (x, at, lt) = tag_unit units a tag in slice_get_within units a.unit x at));
  each = h.each;
}

-- a part of a list, read at a place
pub range_at : (xs : List ℕ) (s e t : ℕ) → s + t < e → e ≤ length xs → get_or (slice_range xs s e) t 0 ≡ get_or xs (s + t) 0
range_at xs s e t lt le = taken (drop s xs) (e - s) t (omega arith) ∙ dropped xs s t
  where
    taken : (ys : List ℕ) (n t : ℕ) → t < n → get_or (take n ys) t 0 ≡ get_or ys t 0
    taken [] zero t l = refl
    taken [] (suc n) t l = refl
    taken (y ∷ ys) zero t l = absurd (omega arith)
    taken (y ∷ ys) (suc n) zero l = refl
    taken (y ∷ ys) (suc n) (suc t) l = taken ys n t (omega arith)

    dropped : (ys : List ℕ) (s t : ℕ) → get_or (drop s ys) t 0 ≡ get_or ys (s + t) 0
    dropped ys zero t = ap (λ k. get_or ys k 0) (let z : t ≡ zero + t = omega arith in z)
    dropped [] (suc s) t = refl
    dropped (y ∷ ys) (suc s) t = dropped ys s t ∙ ap (λ k. get_or (y ∷ ys) k 0) (let z : suc (s + t) ≡ suc s + t = omega arith in z)

-- the number of a tag
pub number_at_place : (units : List Unit) (starts numbers : List ℕ) (a : Item) → AreStarts units starts (length numbers) → IsTag units a → tag_in starts numbers a.unit a.number ≡ get_or numbers (place_in starts a) 0
number_at_place units starts numbers a are tag =
    let (x, at, lt) = tag_unit units a tag in
    let next = are.each a.unit x at in
    let within = are.within a.unit (slice_get_within units a.unit x at) in
    range_at numbers (get_or starts a.unit 0) (get_or starts (a.unit + 1) 0) a.number (omega arith) within
