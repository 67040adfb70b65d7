-- One key or none for each tag, and no key twice.
use Rattle.std.proofs.Common.{◌≡◌, ◌∙◌, ℕ, ◌<◌, List, Option, Some, None, slice_get, refl, sym, ap, subst, inl, inr}
use Rattle.std.specs.Prelude.{true}
use Rattle.std.proofs.lemmas.Option.{slice_get_within}
use Rattle.std.proofs.lemmas.Bool.{cases_order}
use Rattle.core_tree.specs.declared.node.Unit.{Unit}
use Rattle.core_tree.specs.Valid.{Keyed, KeyedOnce}
use Rattle.c_senses.specs.Tree.{Source}
use Rattle.c_senses.specs.Sense.{Sense, sense_in}
use Rattle.c_senses.specs.Right.{KeysRight, is_tag, key_of_tag}
use Rattle.core_node_laws.specs.built_unit_laws.built_units.Built.{IsBuilt}

some_one : {X : Type 0} → {x y : X} → ◌≡◌ {A = Option X} (Some x) (Some y) → x ≡ y
some_one h = cc

none_some : {X : Type 0} → {x : X} → ◌≡◌ {A = Option X} None (Some x) → ⊥
none_some h = cc

module _ (s : Source) (sense : ℕ → Sense) (keys : List (Option (List ℕ))) (right : KeysRight s sense keys) where
  -- a tag whose number has a key has that key by its specifier
  by_key : (d : ℕ) (key : List ℕ) (o : Option (List ℕ)) → is_tag s d ≡ true → slice_get keys (s.tag_number d) ≡ Some (Some key) → key_of_tag s sense d ≡ o → key_of_tag s sense d ≡ Some key
  by_key d key None is at e = absurd (none_some (some_one (sym (right.none d is e) ∙ at)))
  by_key d key (Some own) is at e =
      let none_earlier : (c : ℕ) → c < d → is_tag s c ≡ true → key_of_tag s sense c ≡ Some own → ⊥ = λ c lt tag same. none_some (some_one (sym (right.again c d own is e lt tag same) ∙ at)) in
      e ∙ some_one (sym (right.first d own is e none_earlier) ∙ at)

  has_key : (d : ℕ) (key : List ℕ) → is_tag s d ≡ true → slice_get keys (s.tag_number d) ≡ Some (Some key) → key_of_tag s sense d ≡ Some key
  has_key d key is at = by_key d key (key_of_tag s sense d) is at refl

  -- of two tags with one key the later one has none
  never : (c d : ℕ) (key : List ℕ) → c < d → is_tag s c ≡ true → is_tag s d ≡ true → slice_get keys (s.tag_number c) ≡ Some (Some key) → slice_get keys (s.tag_number d) ≡ Some (Some key) → ⊥
  never c d key lt first later at there =
      none_some (some_one (sym (right.again c d key later (has_key d key later there) lt first (has_key c key first at)) ∙ there))

  one_tag : (c d : ℕ) (key : List ℕ) → is_tag s c ≡ true → is_tag s d ≡ true → slice_get keys (s.tag_number c) ≡ Some (Some key) → slice_get keys (s.tag_number d) ≡ Some (Some key) → c ≡ d
  one_tag c d key first later at there = elim (cases_order c d) [
    | inl same ↦ same
    | inr (inl lt) ↦ absurd (never c d key lt first later at there)
    | inr (inr lt) ↦ absurd (never d c key lt later first there at)
  ]

module _ (s : Source) (name : List ℕ) (u : Unit) (b : IsBuilt s name u) where
  tag_at : (i : ℕ) (key : Option (List ℕ)) → slice_get u.tags.items i ≡ Some key → (d : ℕ) × (is_tag s d ≡ true) × (s.tag_number d ≡ i)
  tag_at i key at = b.no_other_tag i (subst (λ (n : ℕ). i < n) b.one_key_each (slice_get_within u.tags.items i key at))

  moved : (i d : ℕ) (key : Option (List ℕ)) → s.tag_number d ≡ i → slice_get u.tags.items i ≡ Some key → slice_get u.tags.items (s.tag_number d) ≡ Some key
  moved i d key same at = subst (λ (j : ℕ). slice_get u.tags.items j ≡ Some key) (sym same) at

  same_tag : (i j : ℕ) (key : List ℕ) → slice_get u.tags.items i ≡ Some (Some key) → slice_get u.tags.items j ≡ Some (Some key) → i ≡ j
  same_tag i j key at there =
      let (c, first, ci) = tag_at i (Some key) at in
      let (d, later, dj) = tag_at j (Some key) there in
      let same : c ≡ d = one_tag s (sense_in b.senses) u.tags.items b.keys c d key first later (moved i c (Some key) ci at) (moved j d (Some key) dj there) in
      sym ci ∙ (ap s.tag_number same ∙ dj)

  once : (i : ℕ) (key : Option (List ℕ)) → slice_get u.tags.items i ≡ Some key → KeyedOnce u.tags.items i key
  once i None at = tt
  once i (Some key) at = record { each = λ j other there is. same_tag i j key at (there ∙ ap Some is) }

  pub keyed : Keyed u.types.tags u.tags.items
  keyed = record { each = b.one_key_each; once = once }
