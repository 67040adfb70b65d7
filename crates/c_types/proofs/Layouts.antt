-- The layouts stay right.
use Rattle.std.proofs.Common.{arith, ◌≡◌, ℕ, suc, ◌<◌, ◌+◌, ◌^◌, inl, inr, List, [], ◌∷◌, ◌++◌, length, length-append, refl, ap, sym, ◌∙◌, subst, Option, Some, None, slice_get, map, All, Bool, true, false, if◌then◌else◌}
use Rattle.std.proofs.lemmas.List.Elements.{All-head, All-tail, All-weaker}
use Rattle.c_types.specs.declared.term.Term.{Term}
use Rattle.c_types.specs.declared.term.Term.TheVariants.{Void, Bool as BoolTerm, Integer, Floating, VaList, Pointer, Array, Function, Structure, Union}
use Rattle.c_types.specs.declared.term.MemberTerm.{MemberTerm}
use Rattle.c_types.specs.declared.table.Entry.{Entry}
use Rattle.c_types.specs.declared.table.TagLayout.{TagLayout}
use Rattle.c_types.specs.Trees.{Ctype, tree_at, grow, grown}
use Rattle.c_types.specs.Layout.{Completed, extent_of, laid_out, looked_up}
use Rattle.c_types.specs.Table.{TagMembers, HasTag, completions, extent_in}
use Rattle.c_types.specs.Inside.{terms_of, table_of, members_of, AreRight, IsNext}
use Rattle.c_types.proofs.Grow.{tree_before, types_length, grown_length}
use Rattle.c_types.proofs.Push.{pushed, slice_get_push, slice_get_left, terms_push, types_push}
use Rattle.c_types.specs.Made.{IsMade, IsSized, KeepsApart}
use Rattle.c_types.proofs.MadeLemmas.{made_longer, made_tagged}

-- the types of members whose ids are among the first stay
member_types : (trees : List Ctype) (x : Ctype) (ms : List MemberTerm) → All (λ m. m.ty.0 < length trees) ms → map (λ (m : MemberTerm). tree_at (trees ++ x ∷ []) m.ty.0) ms ≡ map (λ (m : MemberTerm). tree_at trees m.ty.0) ms
member_types trees x [] h = refl
member_types trees x (m ∷ ms) h =
    let first = tree_before trees (x ∷ []) m.ty.0 (All-head (λ m'. m'.ty.0 < length trees) m ms h) in
    let rest = member_types trees x ms (All-tail (λ m'. m'.ty.0 < length trees) m ms h) in
    cc

-- what completions are over a list of trees
abbrev completed_over : List Ctype → List TagMembers → List Completed
completed_over trees cs = map (λ (c : TagMembers). record { tag = c.tag; types = map (λ (m : MemberTerm). tree_at trees m.ty.0) c.members }) cs

completed_more : (trees : List Ctype) (x : Ctype) (cs : List TagLayout) → ((k : ℕ) (l : TagLayout) → slice_get cs k ≡ Some l → All (λ m. m.ty.0 < length trees) l.members.items) → completed_over (trees ++ x ∷ []) (map members_of cs) ≡ completed_over trees (map members_of cs)
completed_more trees x [] h = refl
completed_more trees x (l ∷ cs) h =
    let first = member_types trees x l.members.items (h 0 l refl) in
    let rest = completed_more trees x cs (λ k m at. h (suc k) m at) in
    cc

tagged_more : (n : ℕ) (t : Term) → HasTag n t → HasTag (n + 1) t
tagged_more n (Structure tag) h = omega arith
tagged_more n (Union tag) h = omega arith
tagged_more n Void h = tt
tagged_more n BoolTerm h = tt
tagged_more n (Integer size rank signed) h = tt
tagged_more n Floating h = tt
tagged_more n VaList h = tt
tagged_more n (Pointer to) h = tt
tagged_more n (Array of m) h = tt
tagged_more n (Function r ps f) h = tt

-- with one term more
pub right_pushed : (entries : List Entry) (tags : List (Option ℕ)) (cs : List TagLayout) (e : Entry) → AreRight entries tags cs → IsNext entries e → HasTag (length tags) e.term → IsSized e.term → KeepsApart (terms_of entries) e.term → length entries + 1 < 2 ^ 32 → AreRight (entries ++ e ∷ []) tags cs
right_pushed entries tags cs e right next tagged sized apart room =
    let old = right.layouts_right in
    let trees = grown [] (terms_of entries) in
    let len = types_length entries in
    let terms : length (terms_of (entries ++ e ∷ [])) ≡ length (terms_of entries) + 1 = rw terms_push (omega (arith, length-append (terms_of entries) (e.term ∷ []))) in
    let inside : (k : ℕ) (l : TagLayout) → slice_get cs k ≡ Some l → All (λ m. m.ty.0 < length trees) l.members.items = λ k l at. All-weaker (λ (m : MemberTerm). m.ty.0 < length (terms_of entries)) (λ (m : MemberTerm). m.ty.0 < length trees) (λ m h. rw (grown_length [] (terms_of entries)) (omega arith)) l.members.items (old.before k l at) in
    let same : completions (table_of (entries ++ e ∷ []) tags cs) ≡ completions (table_of entries tags cs) =
    ap (λ (ts : List Ctype). completed_over ts (map members_of cs)) (types_push entries e) ∙ completed_more trees (grow trees e.term) cs inside
    in
    record {
      entries_right = pushed entries (length tags) e right.entries_right next tagged room;
      layouts_right = record {
        room = old.room;
        many = old.many;
        tagged = old.tagged;
        known = old.known;
        before = λ k l at. All-weaker (λ (m : MemberTerm). m.ty.0 < length (terms_of entries)) (λ (m : MemberTerm). m.ty.0 < length (terms_of (entries ++ e ∷ []))) (λ m h. omega (arith, terms)) l.members.items (old.before k l at);
        laid = rw same old.laid;
      };
      made = subst (λ (ts : List Term). IsMade (record { terms = ts; tags = length tags; completed = map members_of cs })) (sym (terms_push entries e)) (made_longer (table_of entries tags cs) e.term right.made sized apart (ap (λ (ts : List Term). completions (record { terms = ts; tags = length tags; completed = map members_of cs })) (sym (terms_push entries e)) ∙ same));
    }

-- a further entry changes no extent
pub extents_pushed : (entries : List Entry) (tags : List (Option ℕ)) (cs : List TagLayout) → AreRight entries tags cs → (e : Entry) (x : Ctype) → extent_in (table_of (entries ++ e ∷ []) tags cs) x ≡ extent_in (table_of entries tags cs) x
extents_pushed entries tags cs right e x =
    let trees = grown [] (terms_of entries) in
    let inside : (k : ℕ) (l : TagLayout) → slice_get cs k ≡ Some l → All (λ m. m.ty.0 < length trees) l.members.items = λ k l at. All-weaker (λ (m : MemberTerm). m.ty.0 < length (terms_of entries)) (λ (m : MemberTerm). m.ty.0 < length trees) (λ m h. rw (grown_length [] (terms_of entries)) (omega arith)) l.members.items (right.layouts_right.before k l at) in
    let same : completed_over (grown [] (terms_of (entries ++ e ∷ []))) (map members_of cs) ≡ completed_over trees (map members_of cs) =
    ap (λ (ts : List Ctype). completed_over ts (map members_of cs)) (types_push entries e) ∙ completed_more trees (grow trees e.term) cs inside
    in
    ap (λ (done : List Completed). extent_of (looked_up (laid_out [] done)) x) same

-- with one tag more
pub right_tagged : (entries : List Entry) (tags : List (Option ℕ)) (cs : List TagLayout) → AreRight entries tags cs → length tags + 1 < 2 ^ 32 → AreRight entries (tags ++ None ∷ []) cs
right_tagged entries tags cs right room =
    let old = right.layouts_right in
    let es = right.entries_right in
    let more : length (tags ++ None ∷ []) ≡ length tags + 1 = length-append tags (None ∷ []) in
    record {
      entries_right = record {
        room = es.room;
        tagged = λ i e at. rw more (tagged_more (length tags) e.term (es.tagged i e at));
        each = es.each;
      };
      layouts_right = record {
        room = old.room;
        many = omega (arith, more);
        tagged = λ k l at. slice_get_left tags None l.tag (Some k) (old.tagged k l at);
        known = λ t k at. elim (slice_get_push tags None t (Some k) at) [ inl p ↦ old.known t k p.1 | inr p ↦ absurd (some_none k p.1) ];
        before = old.before;
        laid = old.laid;
      };
      made = made_tagged (table_of entries tags cs) (length (tags ++ None ∷ [])) right.made;
    }
  where
    some_none : (k : ℕ) → ◌≡◌ {A = Option ℕ} (Some k) None → ⊥
    some_none k e = cc

-- after a push that may fail
pub right_or_not : (b : Bool) (entries more : List Entry) (tags : List (Option ℕ)) (cs : List TagLayout) → AreRight entries tags cs → AreRight more tags cs → AreRight (if b then more else entries) tags cs
right_or_not true entries more tags cs p q = q
right_or_not false entries more tags cs p q = p

pub tags_or_not : (b : Bool) (entries : List Entry) (tags more : List (Option ℕ)) (cs : List TagLayout) → AreRight entries tags cs → AreRight entries more cs → AreRight entries (if b then more else tags) cs
tags_or_not true entries tags more cs p q = q
tags_or_not false entries tags more cs p q = p
