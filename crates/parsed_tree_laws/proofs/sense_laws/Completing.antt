-- Structures and unions that are complete stay complete as senses are added.
use Rattle.std.proofs.Common.{zero, arith, ◌≡◌, ℕ, suc, ◌<◌, ◌+◌, ◌==◌, Bool, true, false, eqb, List, [], ◌∷◌, ◌++◌, length, map, Option, Some, None, slice_get, refl, sym, ap, ◌∙◌, subst}
use Rattle.std.specs.Prelude.{⊤, if◌then◌else◌}
use Rattle.std.proofs.lemmas.List.{get_or_append_left}
use Rattle.std.proofs.Common.{append_assoc, append-nil}
use Rattle.c_types.specs.Trees.{Ctype, ArrayOf, StructureOf, UnionOf}
use Rattle.c_types.specs.Layout.{Extent, Look, Completed, repeated, of_members, structure_of, union_of, extent_of, member_extent, looked_up, laid_out}
use Rattle.c_grammar.specs.Productions.{p_struct, p_members}
use Rattle.c_senses.specs.passed.c_inits.Made.{Part, TagParts}
use Rattle.c_senses.specs.Tree.{Source, is_a, children_at, child_of, first_where}
use Rattle.c_senses.specs.World.{World}
use Rattle.c_senses.specs.Sense.{Sense, Nothing, IsMembers, sense_in}
use Rattle.c_senses.specs.Tags.{tag_of, completed_from, members_under, completions_of, look_of, types_of_parts}
use Rattle.c_senses.specs.Rows.{world_at}
use Rattle.parsed_tree_laws.specs.sense_laws.Sound.{IsProper}
use Rattle.parsed_tree_laws.specs.sense_laws.Senses.{ChildrenFirst, AreProperParts, SoundSense}
use Rattle.parsed_tree_laws.specs.sense_laws.Laws.{Grows}
use Rattle.parsed_tree_laws.proofs.sense_laws.Giving.{if_holds}

first_found : (test : ℕ → Bool) (xs : List ℕ) (c : ℕ) → first_where test xs ≡ Some c → (k : ℕ) × (slice_get xs k ≡ Some c)
first_found test [] c e = cc
first_found test (x ∷ xs) c e =
    if_holds (λ (o : Option ℕ). o ≡ Some c → (k : ℕ) × (slice_get (x ∷ xs) k ≡ Some c)) (test x) (Some x) (first_where test xs) (λ t f. (0, f))
    (λ t f. let found = first_found test xs c f in (suc found.0, found.1)) e

-- lists that begin with others
Begins : {A : Type 0} → List A → List A → Type 0
Begins {A} xs ys = (rest : List A) × (ys ≡ xs ++ rest)

module _ (s : Source) where
  list_at : ℕ → Option ℕ
  list_at i = if is_a s p_struct i then child_of s p_members i else None

  entry_of : (i : ℕ) (x : Sense) → List TagParts → List TagParts
  entry_of i (IsMembers parts) more = record { tag = tag_of s i; members = parts } ∷ more
  entry_of i x more = more

  with_entry : Option ℕ → (ℕ → Sense) → ℕ → List TagParts → List TagParts
  with_entry None f i more = more
  with_entry (Some list) f i more = entry_of i (f list) more

  by_entry : (x : Sense) (rest : List Sense) (f : ℕ → Sense) (i : ℕ) → completed_from s (x ∷ rest) f i ≡ with_entry (list_at i) f i (completed_from s rest f (suc i))
  unfolding list_at with_entry entry_of
  by_entry x rest f i = by_list (if is_a s p_struct i then child_of s p_members i else None)
    where
      by_sense : (y : Sense) (more : List TagParts) → (elim y as (λ _. List TagParts) [ IsMembers parts ↦ record { tag = tag_of s i; members = parts } ∷ more | _ ↦ more ]) ≡ entry_of i y more
      by_sense (IsMembers parts) more = refl
      by_sense y more = refl

      by_list : (o : Option ℕ) → (elim o as (λ _. List TagParts) [ None ↦ completed_from s rest f (suc i) | Some list ↦ elim (f list) as (λ _. List TagParts) [ IsMembers parts ↦ record { tag = tag_of s i; members = parts } ∷ completed_from s rest f (suc i) | _ ↦ completed_from s rest f (suc i) ] ]) ≡ with_entry o f i (completed_from s rest f (suc i))
      by_list None = refl
      by_list (Some list) = by_sense (f list) (completed_from s rest f (suc i))

  entry_append : (i : ℕ) (x : Sense) (a b : List TagParts) → entry_of i x (a ++ b) ≡ entry_of i x a ++ b
  unfolding entry_of
  entry_append i (IsMembers parts) a b = refl
  entry_append i x a b = refl

  with_append : (o : Option ℕ) (f : ℕ → Sense) (i : ℕ) (a b : List TagParts) → with_entry o f i (a ++ b) ≡ with_entry o f i a ++ b
  unfolding with_entry
  with_append None f i a b = refl
  with_append (Some list) f i a b = entry_append i (f list) a b

  begins_more : (xs ys : List Sense) (f : ℕ → Sense) (i : ℕ) → Begins (completed_from s xs f i) (completed_from s (xs ++ ys) f i)
  unfolding Begins
  begins_more [] ys f i = (completed_from s ys f i, refl)
  begins_more (x ∷ xs) ys f i =
      let more = begins_more xs ys f (suc i) in
      (more.0, by_entry x (xs ++ ys) f i ∙ (ap (with_entry (list_at i) f i) more.1 ∙ (with_append (list_at i) f i (completed_from s xs f (suc i)) more.0 ∙ ap (λ (l : List TagParts). l ++ more.0) (sym (by_entry x xs f i)))))

  module _ (first : ChildrenFirst s) where
    list_before : (i list : ℕ) → list_at i ≡ Some list → list < i
    unfolding list_at
    list_before i list e =
        if_holds (λ (o : Option ℕ). o ≡ Some list → list < i) (is_a s p_struct i) (child_of s p_members i) None (λ t f. let found = first_found (is_a s p_members) (children_at s i) list f in first i found.0 list found.1) (λ t f. cc) e

    with_same : (f g : ℕ → Sense) (i : ℕ) (more : List TagParts) (o : Option ℕ) → list_at i ≡ o → ((j : ℕ) → j < i → f j ≡ g j) → with_entry o f i more ≡ with_entry o g i more
    unfolding with_entry
    with_same f g i more None e same = refl
    with_same f g i more (Some list) e same = ap (λ (x : Sense). entry_of i x more) (same list (list_before i list e))

    completed_same : (xs : List Sense) (f g : ℕ → Sense) (i n : ℕ) → i + length xs ≡ n → ((j : ℕ) → j < n → f j ≡ g j) → completed_from s xs f i ≡ completed_from s xs g i
    completed_same [] f g i n e same = refl
    completed_same (x ∷ xs) f g i n e same =
        by_entry x xs f i
        ∙ (with_same f g i (completed_from s xs f (suc i)) (list_at i) refl (λ j lt. same j (omega arith))
        ∙ (ap (with_entry (list_at i) g i) (completed_same xs f g (suc i) n (omega arith) same) ∙ sym (by_entry x xs g i)))

    sense_left : (xs : List Sense) (x : Sense) (j : ℕ) → j < length xs → sense_in xs j ≡ sense_in (xs ++ x ∷ []) j
    sense_left xs x j lt = sym (get_or_append_left xs (x ∷ []) Nothing j lt)

    completed_begins : (xs : List Sense) (x : Sense) → Begins (completed_from s xs (sense_in xs) 0) (completed_from s (xs ++ x ∷ []) (sense_in (xs ++ x ∷ [])) 0)
    unfolding Begins
    completed_begins xs x =
        let more = begins_more xs (x ∷ []) (sense_in (xs ++ x ∷ [])) 0 in
        (more.0, more.1 ∙ ap (λ (l : List TagParts). l ++ more.0) (sym (completed_same xs (sense_in xs) (sense_in (xs ++ x ∷ [])) 0 (length xs) (omega arith) (sense_left xs x))))

-- what a list has, a longer one has
kept_if : {A : Type 0} (b : Bool) (x y z : Option A) (p : A) → (y ≡ Some p → z ≡ Some p) → (if b then x else y) ≡ Some p → (if b then x else z) ≡ Some p
kept_if true x y z p k e = e
kept_if false x y z p k e = k e

members_kept : (xs ys : List TagParts) (tag : ℕ) (parts : List Part) → members_under xs tag ≡ Some parts → members_under (xs ++ ys) tag ≡ Some parts
members_kept [] ys tag parts e = cc
members_kept (c ∷ xs) ys tag parts e = kept_if (c.tag == tag) (Some c.members) (members_under xs tag) (members_under (xs ++ ys) tag) parts (members_kept xs ys tag parts) e

looks_kept : (xs ys : List (ℕ × List Extent)) (tag : ℕ) (es : List Extent) → looked_up xs tag ≡ Some es → looked_up (xs ++ ys) tag ≡ Some es
looks_kept [] ys tag es e = cc
looks_kept (c ∷ xs) ys tag es e = kept_if (eqb c.0 tag) (Some c.1) (looked_up xs tag) (looked_up (xs ++ ys) tag) es (looks_kept xs ys tag es) e

laid_begins : (done : List (ℕ × List Extent)) (xs : List Completed) → (rest : List (ℕ × List Extent)) × (laid_out done xs ≡ done ++ rest)
laid_begins done [] = ([], sym (append-nil done))
laid_begins done (c ∷ xs) =
    let entry : ℕ × List Extent = (c.tag, map (member_extent (looked_up done)) c.types) in
    let more = laid_begins (done ++ entry ∷ []) xs in
    (entry ∷ more.0, more.1 ∙ append_assoc done (entry ∷ []) more.0)

laid_append : (done : List (ℕ × List Extent)) (xs ys : List Completed) → laid_out done (xs ++ ys) ≡ laid_out (laid_out done xs) ys
laid_append done [] ys = refl
laid_append done (c ∷ xs) ys = laid_append (done ++ (c.tag, map (member_extent (looked_up done)) c.types) ∷ []) xs ys

completions_append : (xs ys : List TagParts) → completions_of (xs ++ ys) ≡ completions_of xs ++ completions_of ys
completions_append [] ys = refl
completions_append (c ∷ xs) ys = ap (λ (l : List Completed). record { tag = c.tag; types = types_of_parts c.members } ∷ l) (completions_append xs ys)

look_kept : (xs ys : List TagParts) (tag : ℕ) (es : List Extent) → look_of xs tag ≡ Some es → look_of (xs ++ ys) tag ≡ Some es
look_kept xs ys tag es e =
    let laid : List (ℕ × List Extent) = laid_out [] (completions_of xs) in
    let more = laid_begins laid (completions_of ys) in
    let same : laid_out [] (completions_of (xs ++ ys)) ≡ laid ++ more.0 = ap (laid_out []) (completions_append xs ys) ∙ (laid_append [] (completions_of xs) (completions_of ys) ∙ more.1) in
    ap (λ (l : List (ℕ × List Extent)). looked_up l tag) same ∙ looks_kept laid more.0 tag es e

tag_kept : (f : List Extent → Extent) (o q : Option (List Extent)) (e : Extent) → ((es : List Extent) → o ≡ Some es → q ≡ Some es) → of_members f o ≡ Some e → of_members f q ≡ Some e
tag_kept f None q e k h = cc
tag_kept f (Some es) q e k h = ap (of_members f) (k es refl) ∙ h

repeated_kept : (n : ℕ) (o q : Option Extent) (e : Extent) → ((x : Extent) → o ≡ Some x → q ≡ Some x) → repeated n o ≡ Some e → repeated n q ≡ Some e
repeated_kept n None q e k h = cc
repeated_kept n (Some x) q e k h = ap (repeated n) (k x refl) ∙ h

extent_kept : (l m : Look) → ((tag : ℕ) (es : List Extent) → l tag ≡ Some es → m tag ≡ Some es) → (t : Ctype) (e : Extent) → extent_of l t ≡ Some e → extent_of m t ≡ Some e
extent_kept l m k (StructureOf tag) e h = tag_kept (structure_of (StructureOf tag)) (l tag) (m tag) e (k tag) h
extent_kept l m k (UnionOf tag) e h = tag_kept (union_of (UnionOf tag)) (l tag) (m tag) e (k tag) h
extent_kept l m k (ArrayOf of (Some n)) e h = repeated_kept n (extent_of l of) (extent_of m of) e (extent_kept l m k of) h
extent_kept l m k t e h = h

-- a world in which one sense more is known has more
pub grown_by_one : (s : Source) → ChildrenFirst s → (xs : List Sense) (x : Sense) (i j : ℕ) → Grows (world_at s xs i) (world_at s (xs ++ x ∷ []) j)
unfolding Begins
grown_by_one s first xs x i j =
    let begins = completed_begins s first xs x in
    let done : List TagParts = completed_from s xs (sense_in xs) 0 in
    record {
      members = λ tag parts e. subst (λ (l : List TagParts). members_under l tag ≡ Some parts) (sym begins.1) (members_kept done begins.0 tag parts e);
      extents = λ t e h. subst (λ (l : List TagParts). extent_of (look_of l) t ≡ Some e) (sym begins.1) (extent_kept (look_of done) (look_of (done ++ begins.0)) (look_kept done begins.0) t e h);
    }

-- the members of complete structures and unions have proper types where the senses have
AreProperTags : List TagParts → Type 0
AreProperTags [] = ⊤
AreProperTags (c ∷ rest) = AreProperParts c.members × AreProperTags rest

tag_proper : (l : List TagParts) (tag : ℕ) (parts : List Part) → AreProperTags l → members_under l tag ≡ Some parts → AreProperParts parts
unfolding AreProperTags
tag_proper [] tag parts h e = cc
tag_proper (c ∷ l) tag parts h e =
    if_holds (λ (o : Option (List Part)). o ≡ Some parts → AreProperParts parts) (c.tag == tag) (Some c.members) (members_under l tag) (λ t f. subst AreProperParts (let same : c.members ≡ parts = cc in same) h.0)
    (λ t f. tag_proper l tag parts h.1 f) e

part_proper : (parts : List Part) (k : ℕ) (m : Part) → AreProperParts parts → slice_get parts k ≡ Some m → IsProper m.type
part_proper [] k m h e = cc
part_proper (p ∷ parts) zero m h e = subst (λ (q : Part). IsProper q.type) (let same : p ≡ m = cc in same) h.0
part_proper (p ∷ parts) (suc k) m h e = part_proper parts k m h.1 e

module _ (s : Source) (w : World) (entities : ℕ → Option Ctype) (f : ℕ → Sense) (sound : (i : ℕ) → SoundSense w entities (f i)) where
  entry_proper : (i : ℕ) (x : Sense) (more : List TagParts) → SoundSense w entities x → AreProperTags more → AreProperTags (entry_of s i x more)
  unfolding AreProperTags entry_of
  entry_proper i (IsMembers parts) more h k = (h, k)
  entry_proper i x more h k = k

  with_proper : (o : Option ℕ) (i : ℕ) (more : List TagParts) → AreProperTags more → AreProperTags (with_entry s o f i more)
  unfolding with_entry
  with_proper None i more h = h
  with_proper (Some list) i more h = entry_proper i (f list) more (sound list) h

  completed_proper : (xs : List Sense) (i : ℕ) → AreProperTags (completed_from s xs f i)
  unfolding AreProperTags
  completed_proper [] i = tt
  completed_proper (x ∷ xs) i = subst AreProperTags (sym (by_entry s x xs f i)) (with_proper (list_at s i) i (completed_from s xs f (suc i)) (completed_proper xs (suc i)))

  pub parts_proper : (xs : List Sense) (tag : ℕ) (members : List Part) (k : ℕ) (m : Part) → members_under (completed_from s xs f 0) tag ≡ Some members → slice_get members k ≡ Some m → IsProper m.type
  parts_proper xs tag members k m e g = part_proper members k m (tag_proper (completed_from s xs f 0) tag members (completed_proper xs 0) e) g
