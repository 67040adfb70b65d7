-- The ids of tags' types.
use Rattle.std.proofs.Common.{arith, ◌≡◌, ℕ, zero, suc, ◌+◌, ◌<◌, ◌⊎◌, inl, inr, List, [], ◌∷◌, Bool, true, false, Option, Some, None, length, set, map, eqb, eq-eqb, refl, ap, sym, ◌∙◌}
use Rattle.std.specs.Prelude.{◌||◌}
use Rattle.std.specs.List.{slice_get, list_any, range_with_len}
use Rattle.std.proofs.Math.ListN.{length-set}
use Rattle.std.proofs.lemmas.Bool.Decides.{eqb_tells}
use Rattle.std.proofs.lemmas.List.FromFn.{length-map-range_with_len}
use Rattle.c_types.specs.declared.term.Term.{Term}
use Rattle.c_types.specs.declared.term.Term.TheVariants.{Structure, Union}
use Rattle.c_types.specs.declared.term.TypeId.{TypeId}
use Rattle.c_types.specs.declared.term.MemberTerm.{MemberTerm}
use Rattle.c_types.specs.Trees.{StructureOf, UnionOf, grow}
use Rattle.c_types.specs.Table.{Table, HasTag, types_of, type_of, members_in}
use Rattle.c_types.specs.Made.{IsMade, StandsAsStructure, StandsAsUnion}
use Rattle.normal_form.specs.Facts.{is_union, tagged}
use Rattle.row_numbers.proofs.SliceLemmas.{get_set_same, get_set_other, within}
use Rattle.constraints.specs.Types.{tag_of, IsTagId, AreTagIds, HasTagAt, AreIdsUpTo}

pub has_tag : (term : Term) (tag n : ℕ) → HasTag n term → tag_of term ≡ Some tag → tag < n
has_tag (Structure other) tag n h e = let q : other ≡ tag = cc in rw (← q) h
has_tag (Union other) tag n h e = let q : other ≡ tag = cc in rw (← q) h
has_tag term tag n h e = cc

-- nothing yet
nothing : (a n i : ℕ) (id : TypeId) → slice_get (map {B = Option TypeId} (λ (m : ℕ). None) (range_with_len a n)) i ≡ Some (Some id) → ⊥
nothing a zero i id h = cc
nothing a (suc n) zero id h = cc
nothing a (suc n) (suc i) id h = nothing (a + 1) n i id h

pub ids_none : (table : Table) (ids : List (Option TypeId)) → ids ≡ map {B = Option TypeId} (λ (tag : ℕ). None) (range_with_len 0 table.tags) → AreIdsUpTo table ids 0
ids_none table ids e = record {
  each = ap length e ∙ length-map-range_with_len {X = Option TypeId} (λ (tag : ℕ). None) 0 table.tags;
  found = λ tag id h. absurd (nothing 0 table.tags tag id (ap (λ (xs : List (Option TypeId)). slice_get xs tag) (sym e) ∙ h));
  none = λ tag h j term lt. absurd (omega arith);
}

module _ (table : Table) (ids : List (Option TypeId)) (i : ℕ) (term : Term) (p : AreIdsUpTo table ids i) (at : slice_get table.terms i ≡ Some term) where
  later : (tag : ℕ) → slice_get ids tag ≡ Some None → (tag_of term ≡ Some tag → ⊥) → (j : ℕ) (found : Term) → ((eqb j i ≡ true) × (j ≡ i)) ⊎ ((eqb j i ≡ false) × (j ≡ i → ⊥)) → j < i + 1 → slice_get table.terms j ≡ Some found → tag_of found ≡ Some tag → ⊥
  later tag h no_tag j found (inl (t, q)) lt there has = let e : found ≡ term = cc in no_tag (ap tag_of (sym e) ∙ has)
  later tag h no_tag j found (inr (t, ne)) lt there has = p.none tag h j found (omega arith) there has

  pub ids_skip : tag_of term ≡ None → AreIdsUpTo table ids (i + 1)
  ids_skip no_tag = record {
    each = p.each;
    found = p.found;
    none = λ tag h j found lt there has. later tag h (λ q. cc) j found (eqb_tells j i) lt there has;
  }

  module _ (tag : ℕ) (id : TypeId) (is : tag_of term ≡ Some tag) (number : id.0 ≡ i) (tree : type_of table i ≡ grow (types_of table) term) (lt : tag < length ids) where
    mine : HasTagAt table tag id
    mine = record {
      term = term;
      known = rw number (within table.terms i term at);
      there = rw number at;
      tree = rw number tree;
      tagged_so = is;
    }

    found_by : (other : ℕ) (o : TypeId) → ((eqb tag other ≡ true) × (tag ≡ other)) ⊎ ((eqb tag other ≡ false) × (tag ≡ other → ⊥)) → slice_get (set ids tag (Some id)) other ≡ Some (Some o) → HasTagAt table other o
    found_by other o (inl (t, q)) h =
        let here : slice_get (set ids tag (Some id)) other ≡ Some (Some id) = ap (slice_get (set ids tag (Some id))) (sym q) ∙ get_set_same ids tag (Some id) lt in
        let e : id ≡ o = cc in
        rw (← e, ← q) mine
    found_by other o (inr (t, ne)) h = p.found other o (sym (get_set_other ids tag other (Some id) ne) ∙ h)

    none_by : (other : ℕ) → ((eqb tag other ≡ true) × (tag ≡ other)) ⊎ ((eqb tag other ≡ false) × (tag ≡ other → ⊥)) → slice_get (set ids tag (Some id)) other ≡ Some None → (j : ℕ) (found : Term) → j < i + 1 → slice_get table.terms j ≡ Some found → tag_of found ≡ Some other → ⊥
    none_by other (inl (t, q)) h j found less there has =
        let here : slice_get (set ids tag (Some id)) other ≡ Some (Some id) = ap (slice_get (set ids tag (Some id))) (sym q) ∙ get_set_same ids tag (Some id) lt in cc
    none_by other (inr (t, ne)) h j found less there has =
        later other (sym (get_set_other ids tag other (Some id) ne) ∙ h) (λ q. ne (some_tag tag other (sym is ∙ q))) j found (eqb_tells j i) less there has where
          some_tag : (a b : ℕ) → Some a ≡ Some b → a ≡ b
          some_tag a b e = cc

    pub ids_more : (new : List (Option TypeId)) → new ≡ set ids tag (Some id) → AreIdsUpTo table new (i + 1)
    ids_more new e = rw e (record {
      each = length-set ids tag (Some id) ∙ p.each;
      found = λ other o h. found_by other o (eqb_tells tag other) h;
      none = λ other h j found less there has. none_by other (eqb_tells tag other) h j found less there has;
    })

-- whether a term has the tag as a union
any_at : (tag : ℕ) (terms : List Term) (i : ℕ) → slice_get terms i ≡ Some (Union tag) → list_any (is_union tag) terms ≡ true
any_at tag [] i h = cc
any_at tag (t ∷ rest) zero h = let e : t ≡ Union tag = cc in rw e (rw (eq-eqb tag tag refl) refl)
any_at tag (t ∷ rest) (suc i) h = or_true (is_union tag t) (list_any (is_union tag) rest) (any_at tag rest i h) where
  or_true : (a b : Bool) → b ≡ true → a || b ≡ true
  or_true true b h = refl
  or_true false b h = h

union_tag : (tag : ℕ) (t : Term) → is_union tag t ≡ true → t ≡ Union tag
union_tag tag (Union other) h = by (eqb_tells other tag) where
  by : ((eqb other tag ≡ true) × (other ≡ tag)) ⊎ ((eqb other tag ≡ false) × (other ≡ tag → ⊥)) → Union other ≡ Union tag
  by (inl (t, q)) = ap (λ (n : ℕ). Union n) q
  by (inr (t, ne)) = cc
union_tag tag t h = cc

stands_by : (tag : ℕ) (terms : List Term) → list_any (is_union tag) terms ≡ true → (i : ℕ) × (slice_get terms i ≡ Some (Union tag))
stands_by tag [] h = cc
stands_by tag (t ∷ rest) h = by (λ k. stands_by tag rest k) (is_union tag t) refl where
  next : (i : ℕ) × (slice_get rest i ≡ Some (Union tag)) → (i : ℕ) × (slice_get (t ∷ rest) i ≡ Some (Union tag))
  next (i, e) = (suc i, e)

  by : (list_any (is_union tag) rest ≡ true → (i : ℕ) × (slice_get rest i ≡ Some (Union tag))) → (b : Bool) → is_union tag t ≡ b → (i : ℕ) × (slice_get (t ∷ rest) i ≡ Some (Union tag))
  by go true e = (zero, ap (λ (u : Term). Some u) (union_tag tag t e))
  by go false e = next (go (sym (ap (λ (b : Bool). b || list_any (is_union tag) rest) e) ∙ h))

module _ (table : Table) (made : IsMade table) where
  structure_tagged : (tag i : ℕ) → slice_get table.terms i ≡ Some (Structure tag) → StructureOf tag ≡ tagged table tag
  structure_tagged tag i e = by (list_any (is_union tag) table.terms) refl where
    by : (b : Bool) → list_any (is_union tag) table.terms ≡ b → StructureOf tag ≡ tagged table tag
    by true h = let (j, u) = stands_by tag table.terms h in absurd (made.apart.each i j tag e u)
    by false h = rw h refl

  union_tagged : (tag i : ℕ) → slice_get table.terms i ≡ Some (Union tag) → UnionOf tag ≡ tagged table tag
  union_tagged tag i e = rw (any_at tag table.terms i e) refl

  by_term : (tag i : ℕ) (term : Term) → slice_get table.terms i ≡ Some term → tag_of term ≡ Some tag → grow (types_of table) term ≡ tagged table tag
  by_term tag i (Structure other) e h = let q : other ≡ tag = cc in rw q (structure_tagged tag i (e ∙ ap (λ (n : ℕ). Some (Structure n)) q))
  by_term tag i (Union other) e h = let q : other ≡ tag = cc in rw q (union_tagged tag i (e ∙ ap (λ (n : ℕ). Some (Union n)) q))
  by_term tag i term e h = cc

  right_at : (ids : List (Option TypeId)) → AreIdsUpTo table ids (length table.terms) → (tag : ℕ) (id : Option TypeId) → slice_get ids tag ≡ Some id → IsTagId table tag id
  right_at ids p tag (Some id) h = let f = p.found tag id h in (f.known, f.tree ∙ by_term tag id.0 f.term f.there f.tagged_so)
  right_at ids p tag None h = by (members_in table tag) refl where
    stands : StandsAsStructure table.terms tag ⊎ StandsAsUnion table.terms tag → ⊥
    stands (inl (i, e)) = p.none tag h i (Structure tag) (within table.terms i (Structure tag) e) e refl
    stands (inr (i, e)) = p.none tag h i (Union tag) (within table.terms i (Union tag) e) e refl

    by : (m : Option (List MemberTerm)) → members_in table tag ≡ m → members_in table tag ≡ None
    by None e = e
    by (Some members) e = absurd (stands (made.stands tag members e))

  pub ids_right : (ids : List (Option TypeId)) → AreIdsUpTo table ids (length table.terms) → AreTagIds table ids
  ids_right ids p = record { each = p.each; right = right_at ids p }
