-- What is known of a unit goes on being known when a tag is completed.
use Rattle.std.proofs.Common.{arith, ◌≡◌, ℕ, zero, suc, ◌<◌, ◌≤◌, ◌+◌, ◌==◌, Bool, true, false, cond, eqb, List, [], ◌∷◌, ◌++◌, length, map, Option, Some, None, All, refl, sym, ap, ◌∙◌, subst}
use Rattle.c_types.specs.Trees.{Ctype, ArrayOf, StructureOf, UnionOf, PointerTo, FunctionFrom, VoidType, BoolType, IntegerType, FloatingType, VaListType}
use Rattle.c_types.specs.Layout.{Extent, Look, Completed, repeated, of_members, structure_of, union_of, extent_of, member_extent, element_extent, or_flexible, looked_up, laid_out}
use Rattle.c_types.specs.Table.{look_in, extent_in, members_in}
use Rattle.core_tree.specs.declared.node.Unit.{Unit}
use Rattle.c_inits.specs.Made.{Part, TagParts}
use Rattle.c_results.specs.passed.core_nodes.Standing.{parts_in, Knows}
use Rattle.c_senses.specs.World.{World, extent}
use Rattle.c_senses.specs.Tags.{members_under, completions_of, look_of, types_of_parts}

-- what an entry more gives where there was none
unfoldable pub after : {A : Type 0} → Option A → Option A → Option A
after (Some x) more = Some x
after None more = more

looked_append : (xs : List (ℕ × List Extent)) (e : ℕ × List Extent) (tag : ℕ) → looked_up (xs ++ e ∷ []) tag ≡ after (looked_up xs tag) (cond (eqb e.0 tag) (Some e.1) None)
unfolding after
looked_append [] e tag = refl
looked_append (x ∷ xs) e tag = by (looked_append xs e tag) (eqb x.0 tag)
  where
    by : looked_up (xs ++ e ∷ []) tag ≡ after (looked_up xs tag) (cond (eqb e.0 tag) (Some e.1) None)
        → (b : Bool) → cond b (Some x.1) (looked_up (xs ++ e ∷ []) tag) ≡ after (cond b (Some x.1) (looked_up xs tag)) (cond (eqb e.0 tag) (Some e.1) None)
    by rest true = refl
    by rest false = rest

laid_append : (done : List (ℕ × List Extent)) (a b : List Completed) → laid_out done (a ++ b) ≡ laid_out (laid_out done a) b
laid_append done [] b = refl
laid_append done (c ∷ a) b = laid_append (done ++ (c.tag, map (member_extent (looked_up done)) c.types) ∷ []) a b

pub under_append : (xs : List TagParts) (c : TagParts) (tag : ℕ) → members_under (xs ++ c ∷ []) tag ≡ after (members_under xs tag) (cond (eqb c.tag tag) (Some c.members) None)
unfolding after
under_append [] c tag = refl
under_append (x ∷ xs) c tag = by (under_append xs c tag) (eqb x.tag tag)
  where
    by : members_under (xs ++ c ∷ []) tag ≡ after (members_under xs tag) (cond (eqb c.tag tag) (Some c.members) None)
        → (b : Bool) → cond b (Some x.members) (members_under (xs ++ c ∷ []) tag) ≡ after (cond b (Some x.members) (members_under xs tag)) (cond (eqb c.tag tag) (Some c.members) None)
    by rest true = refl
    by rest false = rest

-- two looks by which types take the same
module _ (l m : Look) (same : (t : Ctype) → extent_of l t ≡ extent_of m t) where
  element_same : (t : Ctype) → element_extent l t ≡ element_extent m t
  element_same (ArrayOf of n) = same of
  element_same VoidType = refl
  element_same BoolType = refl
  element_same (IntegerType a b c) = refl
  element_same FloatingType = refl
  element_same VaListType = refl
  element_same (PointerTo t) = refl
  element_same (FunctionFrom r ps f) = refl
  element_same (StructureOf t) = refl
  element_same (UnionOf t) = refl

  pub extents_same : (ts : List Ctype) → map (member_extent l) ts ≡ map (member_extent m) ts
  extents_same [] = refl
  extents_same (t ∷ ts) =
      let first : member_extent l t ≡ member_extent m t = ap (λ (e : Option Extent). or_flexible e (element_extent l t)) (same t) ∙ ap (or_flexible (extent_of m t)) (element_same t) in
      let rest = extents_same ts in
      cc

  module _ (l' m' : Look) (more : ℕ → Option (List Extent)) (el : (tag : ℕ) → l' tag ≡ after (l tag) (more tag)) (em : (tag : ℕ) → m' tag ≡ after (m tag) (more tag)) where
    tag_same : (f : List Extent → Extent) (a b x : Option (List Extent)) → of_members f a ≡ of_members f b → of_members f (after a x) ≡ of_members f (after b x)
    unfolding after
    tag_same f None None x e = refl
    tag_same f None (Some bs) x e = cc
    tag_same f (Some as') None x e = cc
    tag_same f (Some as') (Some bs) x e = e

    pub grown_same : (t : Ctype) → extent_of l' t ≡ extent_of m' t
    grown_same (StructureOf tag) =
        ap (of_members (structure_of (StructureOf tag))) (el tag) ∙ (tag_same (structure_of (StructureOf tag)) (l tag) (m tag) (more tag) (same (StructureOf tag)) ∙ ap (of_members (structure_of (StructureOf tag))) (sym (em tag)))
    grown_same (UnionOf tag) =
        ap (of_members (union_of (UnionOf tag))) (el tag) ∙ (tag_same (union_of (UnionOf tag)) (l tag) (m tag) (more tag) (same (UnionOf tag)) ∙ ap (of_members (union_of (UnionOf tag))) (sym (em tag)))
    grown_same (ArrayOf of (Some n)) = ap (repeated n) (grown_same of)
    grown_same (ArrayOf of None) = refl
    grown_same VoidType = refl
    grown_same BoolType = refl
    grown_same (IntegerType a b c) = refl
    grown_same FloatingType = refl
    grown_same VaListType = refl
    grown_same (PointerTo t) = refl
    grown_same (FunctionFrom r ps f) = refl

under_none : (x : TagParts) (xs : List TagParts) (tag : ℕ) → members_under (x ∷ xs) tag ≡ None → (eqb x.tag tag ≡ false) × (members_under xs tag ≡ None)
under_none x xs tag e = by (eqb x.tag tag) refl e
  where
    by : (b : Bool) → eqb x.tag tag ≡ b → cond b (Some x.members) (members_under xs tag) ≡ None → (eqb x.tag tag ≡ false) × (members_under xs tag ≡ None)
    by true f g = cc
    by false f g = (f, g)

-- a tag without members takes nothing
pub none_laid : (done : List (ℕ × List Extent)) (xs : List TagParts) (tag : ℕ) → looked_up done tag ≡ None → members_under xs tag ≡ None → looked_up (laid_out done (completions_of xs)) tag ≡ None
unfolding after
none_laid done [] tag e f = e
none_laid done (x ∷ xs) tag e f =
    let entry : ℕ × List Extent = (x.tag, map (member_extent (looked_up done)) (types_of_parts x.members)) in
    let other = under_none x xs tag f in
    let here : looked_up (done ++ entry ∷ []) tag ≡ None =
    looked_append done entry tag ∙ (ap (λ (o : Option (List Extent)). after o (cond (eqb x.tag tag) (Some entry.1) None)) e ∙ (after_empty (cond (eqb x.tag tag) (Some entry.1) None) ∙ ap (λ (b : Bool). cond b (Some entry.1) None) other.0)) in
    none_laid (done ++ entry ∷ []) xs tag here other.1
  where
    after_empty : {A : Type 0} (o : Option A) → after None o ≡ o
    after_empty o = refl

completions_append : (xs : List TagParts) (c : TagParts) → completions_of (xs ++ c ∷ []) ≡ completions_of xs ++ record { tag = c.tag; types = types_of_parts c.members } ∷ []
completions_append [] c = refl
completions_append (x ∷ xs) c = ap (λ (l : List Completed). record { tag = x.tag; types = types_of_parts x.members } ∷ l) (completions_append xs c)

-- a look with one tag more
unfoldable pub entry_for : Look → TagParts → ℕ → Option (List Extent)
entry_for look c tag = cond (eqb c.tag tag) (Some (map (member_extent look) (types_of_parts c.members))) None

pub look_append : (xs : List TagParts) (c : TagParts) (tag : ℕ) → look_of (xs ++ c ∷ []) tag ≡ after (look_of xs tag) (entry_for (look_of xs) c tag)
unfolding entry_for
look_append xs c tag =
    let last : Completed = record { tag = c.tag; types = types_of_parts c.members } in
    ap (λ (l : List Completed). looked_up (laid_out [] l) tag) (completions_append xs c)
    ∙ (ap (λ (l : List (ℕ × List Extent)). looked_up l tag) (laid_append [] (completions_of xs) (last ∷ []))
    ∙ looked_append (laid_out [] (completions_of xs)) (c.tag, map (member_extent (look_of xs)) (types_of_parts c.members)) tag)
