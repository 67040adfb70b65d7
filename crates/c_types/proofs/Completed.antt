-- The layouts with one more completed tag.
use Rattle.std.proofs.Common.{arith, ◌≡◌, ◌≢◌, ℕ, zero, suc, ◌<◌, ◌+◌, ◌^◌, ◌⊎◌, inl, inr, List, [], ◌∷◌, ◌++◌, length, length-append, refl, ap, sym, ◌∙◌, subst, Option, Some, None, slice_get, map, All, Bool, true, false, cond, eqb, set, length-set}
use Rattle.std.proofs.lemmas.Bool.{eq-eqb}
use Rattle.c_types.specs.declared.term.MemberTerm.{MemberTerm}
use Rattle.c_types.specs.declared.table.Entry.{Entry}
use Rattle.c_types.specs.declared.table.TagLayout.{TagLayout}
use Rattle.c_types.specs.Trees.{StructureOf, UnionOf}
use Rattle.c_types.specs.Layout.{Extent, Completed, laid_out, looked_up, member_extent, structure_of, union_of}
use Rattle.c_types.specs.Table.{TagMembers, type_of, completions, extents_in, members_in, members_among}
use Rattle.c_types.specs.Bounds.{bounds}
use Rattle.c_types.specs.declared.layout.Bounds.{Bounds}
use Rattle.std.proofs.lemmas.Bool.Decides.{eqb_tells}
use Rattle.c_types.specs.Inside.{terms_of, table_of, members_of, kept_of, bounds_of, starts, AreRight}
use Rattle.c_types.specs.Made.{IsMade, AreMembers, StandsAsStructure, StandsAsUnion}
use Rattle.c_types.proofs.MadeLemmas.{made_completed, made_tagged}
use Rattle.c_types.proofs.Push.{slice_get_push, slice_get_left}

laid_append : (done : List (ℕ × List Extent)) (a b : List Completed) → laid_out done (a ++ b) ≡ laid_out (laid_out done a) b
laid_append done [] b = refl
laid_append done (c ∷ a) b = laid_append (done ++ (c.tag, map (member_extent (looked_up done)) c.types) ∷ []) a b

map_push : {A B : Type 0} (f : A → B) (xs : List A) (y : A) → map f (xs ++ y ∷ []) ≡ map f xs ++ f y ∷ []
map_push f [] y = refl
map_push f (x ∷ xs) y = ap (λ (r : List _). f x ∷ r) (map_push f xs y)

rest_none : {A : Type 0} (b : Bool) (x : A) (rest : Option A) → cond b (Some x) rest ≡ None → rest ≡ None
rest_none true x rest e = cc
rest_none false x rest e = e

not_true : {A : Type 0} (b : Bool) (x : A) (rest : Option A) → cond b (Some x) rest ≡ None → b ≡ true → ⊥
not_true true x rest e q = cc
not_true false x rest e q = cc

-- a tag's completion over the entries
abbrev completed_as : List Entry → TagMembers → Completed
completed_as entries c = record { tag = c.tag; types = map (λ (m : MemberTerm). type_of (table_of entries [] []) m.ty.0) c.members }

abbrev completed_of : List Entry → TagLayout → Completed
completed_of entries l = completed_as entries (members_of l)

-- a tag that isn't complete has no layout
pub open_tag : (cs : List TagLayout) (t : ℕ) → members_among (map members_of cs) t ≡ None → (k : ℕ) (l : TagLayout) → slice_get cs k ≡ Some l → l.tag ≢ t
open_tag [] t e k l at h = cc
open_tag (c ∷ cs) t e zero l at h =
    let same : c ≡ l = cc in
    not_true (eqb c.tag t) c.members.items (members_among (map members_of cs) t) e (eq-eqb c.tag t (ap (λ (d : TagLayout). d.tag) same ∙ h))
open_tag (c ∷ cs) t e (suc k) l at h = open_tag cs t (rest_none (eqb c.tag t) c.members.items (members_among (map members_of cs) t) e) k l at h

get_set_same : {A : Type 0} (xs : List A) (i : ℕ) (v : A) → i < length xs → slice_get (set xs i v) i ≡ Some v
get_set_same [] i v h = absurd (omega arith)
get_set_same (x ∷ xs) zero v h = refl
get_set_same (x ∷ xs) (suc i) v h = get_set_same xs i v (omega arith)

get_set_other : {A : Type 0} (xs : List A) (i j : ℕ) (v : A) → i ≢ j → slice_get (set xs i v) j ≡ slice_get xs j
get_set_other [] i j v h = refl
get_set_other (x ∷ xs) zero zero v h = absurd (h refl)
get_set_other (x ∷ xs) zero (suc j) v h = refl
get_set_other (x ∷ xs) (suc i) zero v h = refl
get_set_other (x ∷ xs) (suc i) (suc j) v h = get_set_other xs i j v (λ e. h (ap suc e))

last_get : {X : Type 0} (xs : List X) (y : X) → slice_get (xs ++ y ∷ []) (length xs) ≡ Some y
last_get [] y = refl
last_get (x ∷ xs) y = last_get xs y

-- the table's completions with one more
more_done : (entries : List Entry) (tags more : List (Option ℕ)) (cs : List TagLayout) (l : TagLayout) → completions (table_of entries more (cs ++ l ∷ [])) ≡ completions (table_of entries tags cs) ++ completed_of entries l ∷ []
more_done entries tags more cs l =
    ap (map (λ (c : TagMembers). completed_as entries c)) (map_push members_of cs l) ∙ map_push (λ (c : TagMembers). completed_as entries c) (map members_of cs) (members_of l)

module _ (entries : List Entry) (tags : List (Option ℕ)) (cs : List TagLayout) (l : TagLayout) (right : AreRight entries tags cs) where
  pub right_completed : l.tag < length tags → members_in (table_of entries tags cs) l.tag ≡ None → All (λ m. m.ty.0 < length (terms_of entries)) l.members.items → l.structure ≡ bounds (structure_of (StructureOf l.tag) (extents_in (table_of entries tags cs) l.members.items)) → l.union ≡ bounds (union_of (UnionOf l.tag) (extents_in (table_of entries tags cs) l.members.items)) → l.positions.items ≡ starts 1 (extents_in (table_of entries tags cs) l.members.items) → (StandsAsStructure (terms_of entries) l.tag ⊎ StandsAsUnion (terms_of entries) l.tag) → AreMembers (table_of entries tags cs) l.tag l.members.items → length cs + 1 < 2 ^ 32 → AreRight entries (set tags l.tag (Some (length cs))) (cs ++ l ∷ [])
  right_completed lt unseen inside structure union positions stands are room =
      let old = right.layouts_right in
      let es = right.entries_right in
      let n : length (set tags l.tag (Some (length cs))) ≡ length tags = length-set tags l.tag (Some (length cs)) in
      record {
        entries_right = record { room = es.room; tagged = λ i e at. rw n (es.tagged i e at); each = es.each };
        layouts_right = record {
          room = omega (arith, length-append cs (l ∷ []));
          many = rw n old.many;
          tagged = λ k m at. elim (slice_get_push cs l k m at) [
            | inl p ↦ get_set_other tags l.tag m.tag (Some (length cs)) (λ e. open_tag cs l.tag unseen k m p.1 (sym e)) ∙ old.tagged k m p.1
            | inr p ↦ rw (p.0, p.1) (get_set_same tags l.tag (Some (length cs)) lt)
          ];
          known = known;
          before = λ k m at. elim (slice_get_push cs l k m at) [
            | inl p ↦ old.before k m p.1
            | inr p ↦ subst (λ (d : TagLayout). All (λ x. x.ty.0 < length (terms_of entries)) d.members.items) (sym p.1) inside
          ];
          laid = map_push kept_of cs l ∙ (ap (λ (r : List (ℕ × Bounds × Bounds × List ℕ)). r ++ kept_of l ∷ []) old.laid ∙ (ap (λ (x : ℕ × Bounds × Bounds × List ℕ). map bounds_of (laid_out [] (completions (table_of entries tags cs))) ++ x ∷ []) kept ∙ (sym (map_push bounds_of (laid_out [] (completions (table_of entries tags cs))) (l.tag, extents_in (table_of entries tags cs) l.members.items)) ∙ ap (map bounds_of) (sym laid_more))));
        };
        made = subst (λ (ms : List TagMembers). IsMade (record { terms = terms_of entries; tags = length (set tags l.tag (Some (length cs))); completed = ms })) (sym (map_push members_of cs l)) (made_tagged (record (table_of entries tags cs) { completed = map members_of cs ++ members_of l ∷ [] }) (length (set tags l.tag (Some (length cs)))) (made_completed (table_of entries tags cs) (members_of l) right.made unseen stands are));
      }
    where
      known : (t k : ℕ) → slice_get (set tags l.tag (Some (length cs))) t ≡ Some (Some k) → (d : TagLayout) × (slice_get (cs ++ l ∷ []) k ≡ Some d) × (d.tag ≡ t)
      known t k at = go (eqb_tells l.tag t)
        where
          go : ((eqb l.tag t ≡ true) × (l.tag ≡ t)) ⊎ ((eqb l.tag t ≡ false) × (l.tag ≢ t)) → (d : TagLayout) × (slice_get (cs ++ l ∷ []) k ≡ Some d) × (d.tag ≡ t)
          go (inl q) =
              let here : slice_get (set tags l.tag (Some (length cs))) t ≡ Some (Some (length cs)) = rw (← q.1) (get_set_same tags l.tag (Some (length cs)) lt) in
              let same : length cs ≡ k = cc in
              (l, rw (← same) (last_get cs l), q.1)
          go (inr q) =
              let there : slice_get tags t ≡ Some (Some k) = sym (get_set_other tags l.tag t (Some (length cs)) q.1) ∙ at in
              let (d, stands, tag) = right.layouts_right.known t k there in
              (d, slice_get_left cs l k (d) stands, tag)

      laid_more : laid_out [] (completions (table_of entries (set tags l.tag (Some (length cs))) (cs ++ l ∷ []))) ≡ laid_out [] (completions (table_of entries tags cs)) ++ (l.tag, extents_in (table_of entries tags cs) l.members.items) ∷ []
      laid_more = ap (laid_out []) (more_done entries tags (set tags l.tag (Some (length cs))) cs l) ∙ laid_append [] (completions (table_of entries tags cs)) (completed_of entries l ∷ [])

      kept : kept_of l ≡ bounds_of (l.tag, extents_in (table_of entries tags cs) l.members.items)
      kept = cc
