-- The entries with one entry more.
use Rattle.std.proofs.Common.{arith, ◌≡◌, ℕ, zero, suc, ◌<◌, ◌≤◌, ◌+◌, ◌^◌, ◌⊎◌, inl, inr, List, [], ◌∷◌, ◌++◌, length, length-append, refl, ap, sym, ◌∙◌, subst, Some, slice_get, Bool, true, false, if◌then◌else◌}
use Rattle.c_types.specs.declared.term.Term.{Term}
use Rattle.c_types.specs.declared.table.Entry.{Entry}
use Rattle.c_types.specs.Trees.{Ctype, tree_at, grow, grown}
use Rattle.c_types.specs.Table.{HasTag}
use Rattle.c_types.specs.Inside.{terms_of, AreEntries, IsEntry, IsNext, element_of, count_of, capped}
use Rattle.c_types.proofs.Grow.{grown_push, grow_before, tree_before, types_length, after_more}
use Rattle.c_types.proofs.Shape.{tree_pushed}

lt_or_eq : (a b : ℕ) → a ≤ b → (a < b) ⊎ (a ≡ b)
lt_or_eq zero zero h = inr refl
lt_or_eq zero (suc b) h = inl (omega arith)
lt_or_eq (suc a) zero h = absurd (omega arith)
lt_or_eq (suc a) (suc b) h = elim (lt_or_eq a b (omega arith)) [ inl p ↦ inl (omega arith) | inr p ↦ inr (omega arith) ]

pub slice_get_push : {X : Type 0} (xs : List X) (y : X) (i : ℕ) (e : X) → slice_get (xs ++ y ∷ []) i ≡ Some e → ((i < length xs) × (slice_get xs i ≡ Some e)) ⊎ ((i ≡ length xs) × (e ≡ y))
slice_get_push [] y zero e h = inr (refl, cc)
slice_get_push [] y (suc i) e h = cc
slice_get_push (x ∷ xs) y zero e h = inl (omega arith, h)
slice_get_push (x ∷ xs) y (suc i) e h = elim (slice_get_push xs y i e h) [ inl p ↦ inl (omega (arith, p.0), p.1) | inr p ↦ inr (omega (arith, p.0), p.1) ]

pub slice_get_left : {X : Type 0} (xs : List X) (y : X) (i : ℕ) (e : X) → slice_get xs i ≡ Some e → slice_get (xs ++ y ∷ []) i ≡ Some e
slice_get_left [] y i e h = cc
slice_get_left (x ∷ xs) y zero e h = h
slice_get_left (x ∷ xs) y (suc i) e h = slice_get_left xs y i e h

pub terms_push : (entries : List Entry) (e : Entry) → terms_of (entries ++ e ∷ []) ≡ terms_of entries ++ e.term ∷ []
terms_push [] e = refl
terms_push (x ∷ entries) e = ap (λ (r : List Term). x.term ∷ r) (terms_push entries e)

pub types_push : (entries : List Entry) (e : Entry) → grown [] (terms_of (entries ++ e ∷ [])) ≡ grown [] (terms_of entries) ++ grow (grown [] (terms_of entries)) e.term ∷ []
types_push entries e = ap (grown []) (terms_push entries e) ∙ grown_push (terms_of entries) e.term

module _ (entries : List Entry) (tags : ℕ) (all : AreEntries entries tags) (x : Ctype) where
  -- an entry stays right
  kept : (i : ℕ) (e : Entry) → i < length entries → slice_get entries i ≡ Some e → IsEntry (grown [] (terms_of entries) ++ x ∷ []) i e
  kept i e lt h =
      let types = grown [] (terms_of entries) in
      let o = all.each i e h in
      let len = types_length entries in
      let here = tree_before types (x ∷ []) i (omega arith) in
      let element = tree_before types (x ∷ []) e.element (omega (arith, o.element_before)) in
      let first = tree_before types (x ∷ []) e.first (omega (arith, o.first_before)) in
      record {
        term = here ∙ (o.term ∙ sym (grow_before types (x ∷ []) e.term (after_more i (length types) e.term (omega arith) o.after)));
        after = o.after;
        element_before = o.element_before;
        element = element ∙ (o.element ∙ ap element_of (sym here));
        count = o.count ∙ ap (λ t. capped (count_of t)) (sym here);
        first_before = o.first_before;
        first_same = first ∙ (o.first_same ∙ sym here);
        first_least = λ j jl p. o.first_least j jl (sym (tree_before types (x ∷ []) j (omega (arith, o.first_before))) ∙ (p ∙ here));
      }

module _ (entries : List Entry) (e : Entry) (n : IsNext entries e) where
  first_same : (e.first < length entries) ⊎ (e.first ≡ length entries) → tree_at (grown [] (terms_of entries) ++ grow (grown [] (terms_of entries)) e.term ∷ []) e.first ≡ grow (grown [] (terms_of entries)) e.term
  first_same (inl lt) =
      tree_before (grown [] (terms_of entries)) (grow (grown [] (terms_of entries)) e.term ∷ []) e.first (omega (arith, types_length entries)) ∙ n.first lt
  first_same (inr eq) = rw eq (tree_pushed entries (grow (grown [] (terms_of entries)) e.term))

  -- the entry that comes next is right in its place
  fresh : IsEntry (grown [] (terms_of entries) ++ grow (grown [] (terms_of entries)) e.term ∷ []) (length entries) e
  fresh =
      let types = grown [] (terms_of entries) in
      let x = grow types e.term in
      let here = tree_pushed entries x in
      let place : (e.first < length entries) ⊎ (e.first ≡ length entries) = lt_or_eq e.first (length entries) n.first_before in
      record {
        term = here ∙ sym (grow_before types (x ∷ []) e.term (rw (types_length entries) n.after));
        after = n.after;
        element_before = n.element_before;
        element = n.element ∙ ap element_of (sym here);
        count = n.count ∙ ap (λ t. capped (count_of t)) (sym here);
        first_before = n.first_before;
        first_same = first_same place ∙ sym here;
        first_least = λ j jl p. n.first_least j jl (sym (tree_before types (x ∷ []) j (omega (arith, n.first_before, types_length entries))) ∙ (p ∙ here));
      }

-- the entries stay right with the one that comes next
pub pushed : (entries : List Entry) (tags : ℕ) (e : Entry) → AreEntries entries tags → IsNext entries e → HasTag tags e.term → length entries + 1 < 2 ^ 32 → AreEntries (entries ++ e ∷ []) tags
pushed entries tags e all n tagged room = record {
  room = omega (arith, length-append entries (e ∷ []));
  tagged = λ i f h. elim (slice_get_push entries e i f h) [
    | inl p ↦ all.tagged i f p.1
    | inr p ↦ subst (λ (g : Entry). HasTag tags g.term) (sym p.1) tagged
  ];
  each = λ i f h. subst (λ (types : List Ctype). IsEntry types i f) (sym (types_push entries e)) (elim (slice_get_push entries e i f h) [
    | inl p ↦ kept entries tags all (grow (grown [] (terms_of entries)) e.term) i f p.0 p.1
    | inr p ↦ rw (p.0, p.1) (fresh entries e n)
  ]);
}

-- after a push that may fail
pub pushed_or_not : (b : Bool) (entries more : List Entry) (tags : ℕ) → AreEntries entries tags → AreEntries more tags → AreEntries (if b then more else entries) tags
pushed_or_not true entries more tags p q = q
pushed_or_not false entries more tags p q = p
