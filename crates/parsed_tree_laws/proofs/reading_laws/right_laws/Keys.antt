-- The keys of tags are what the source says.
use Rattle.std.proofs.Common.{arith, ◌≡◌, ◌<◌, ◌⊎◌, inl, inr, Bool, true, false, ℕ, zero, suc, List, Option, Some, None, slice_get, refl, sym, ap, ◌∙◌, subst}
use Rattle.std.specs.Str.{bytes_eq}
use Rattle.std.proofs.lemmas.Bool.{cases_lt}
use Rattle.std.proofs.lemmas.Option.{same_Some}
use Rattle.std.proofs.lemmas.Slice.Eq.{bytes_eq-Decides}
use Rattle.core_tree.specs.declared.node.Unit.{Unit}
use Rattle.c_senses.specs.Tree.{Source}
use Rattle.c_senses.specs.Sense.{Sense, sense_in}
use Rattle.c_senses.specs.Right.{is_tag, key_of_tag, KeysRight, Right}
use Rattle.parsed_tree_laws.proofs.reading_laws.right_laws.Alike.{senses_same}

is_or_not : (b : Bool) → (b ≡ true) ⊎ (b ≡ true → ⊥)
is_or_not true = inl refl
is_or_not false = inr (λ e. cc)

is_key : (o : Option (List ℕ)) (key : List ℕ) → (o ≡ Some key) ⊎ (o ≡ Some key → ⊥)
is_key None key = inr (λ e. cc)
is_key (Some other) key =
    let decides = bytes_eq-Decides other key in
    elim (is_or_not (bytes_eq other key)) [
      | inl e ↦ inl (ap (λ (k : List ℕ). Some k) (decides.0 e))
      | inr ne ↦ inr (λ e. ne (decides.1 (same_Some other key e)))
    ]

-- an earlier tag with a key, or none
module _ (s : Source) (sense : ℕ → Sense) (key : List ℕ) where
  abbrev IsKeyed : ℕ → Type 0
  IsKeyed c = (is_tag s c ≡ true) × (key_of_tag s sense c ≡ Some key)

  keyed_or_not : (c : ℕ) → IsKeyed c ⊎ (IsKeyed c → ⊥)
  keyed_or_not c =
      elim (is_or_not (is_tag s c)) [
        | inl tag ↦ elim (is_key (key_of_tag s sense c) key) [ inl e ↦ inl (tag, e) | inr ne ↦ inr (λ h. ne h.1) ]
        | inr none ↦ inr (λ h. none h.0)
      ]

  earlier : (n : ℕ) → ((c : ℕ) × (c < n) × IsKeyed c) ⊎ ((c : ℕ) → c < n → IsKeyed c → ⊥)
  earlier zero = inr (λ c lt h. omega arith)
  earlier (suc n) =
      elim (earlier n) [
        | inl found ↦ inl (found.0, let lt = found.1 in omega arith, found.2)
        | inr none ↦
            elim (keyed_or_not n) [
              | inl here ↦ inl (n, omega arith, here)
              | inr not_here ↦ inr (λ c lt h. elim (cases_lt c n) [
                | inl less ↦ none c less h
                | inr not_less ↦ let is : c ≡ n = omega arith in not_here (subst IsKeyed is h)
              ])
            ]
      ]

-- two lists of keys that are right
module _ (s : Source) (sense : ℕ → Sense) (xs ys : List (Option (List ℕ))) (h : KeysRight s sense xs) (k : KeysRight s sense ys) where
  same_at : (d : ℕ) → is_tag s d ≡ true → (o : Option (List ℕ)) → key_of_tag s sense d ≡ o → slice_get xs (s.tag_number d) ≡ slice_get ys (s.tag_number d)
  same_at d tag None is = h.none d tag is ∙ sym (k.none d tag is)
  same_at d tag (Some key) is =
      elim (earlier s sense key d) [
        | inl found ↦
            h.again found.0 d key tag is found.1 found.2.0 found.2.1 ∙ sym (k.again found.0 d key tag is found.1 found.2.0 found.2.1)
        | inr none ↦
            h.first d key tag is (λ c lt c_tag c_key. none c lt (c_tag, c_key)) ∙ sym (k.first d key tag is (λ c lt c_tag c_key. none c lt (c_tag, c_key)))
      ]

module _ (s : Source) (name : List ℕ) (u v : Unit) (h : Right s name u) (k : Right s name v) where
  pub same_keys : (t : ℕ) → t < u.types.tags → slice_get u.tags.items t ≡ slice_get v.tags.items t
  same_keys t lt =
      let given = h.no_other_tag t lt in
      let d : ℕ = given.0 in
      let there : KeysRight s (sense_in h.senses) v.tags.items = subst (λ (senses : List Sense). KeysRight s (sense_in senses) v.tags.items) (sym (senses_same s name u v h k)) k.keys in
      let at : slice_get u.tags.items (s.tag_number d) ≡ slice_get v.tags.items (s.tag_number d) =
      same_at s (sense_in h.senses) u.tags.items v.tags.items h.keys there d given.1 (key_of_tag s (sense_in h.senses) d) refl in
      subst (λ (n : ℕ). slice_get u.tags.items n ≡ slice_get v.tags.items n) given.2 at
