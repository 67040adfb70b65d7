-- Terms of a unit with other numbers.
use Rattle.std.proofs.Common.{◌≡◌, ℕ, suc, ◌+◌, ◌<◌, Bool, Some, List, [], ◌∷◌, ◌++◌, length, get_or, map, All, refl, sym, ap, ◌∙◌, arith, inl, inr}
use Rattle.std.proofs.lemmas.Bool.{cases_lt, false≢true}
use Rattle.std.proofs.lemmas.List.Elements.{All-nil, All-cons}
use Rattle.std.specs.List.{slice_get}
use Rattle.c_types.specs.declared.term.TypeId.{TypeId}
use Rattle.c_types.specs.declared.term.Term.{Term}
use Rattle.c_types.specs.declared.term.Term.TheVariants.{Void, Bool as BoolTerm, Integer, Floating, VaList, Pointer, Array, Function, Structure, Union}
use Rattle.c_types.specs.Trees.{Ctype, tree_at, trees_at, grow, PointerTo, ArrayOf, FunctionFrom, MoreTypes}
use Rattle.c_types.specs.Table.{Table, types_of, type_of, IsAfter, HasTag}
use Rattle.c_types.specs.Made.{IsSized, KeepsApart}
use Rattle.c_types.proofs.Push.{slice_get_push}
use Rattle.link_model.specs.Renamed.{renamed, all_renamed}
use Rattle.link_model.specs.link_types.Moved.{moved_id, moved_term, Keyed, HasTypes}

all_tail : {X : Type 0} (P : X → Type 0) (x : X) (xs : List X) → All P (x ∷ xs) → All P xs
all_tail P x xs h k d lt = h (suc k) d (omega arith)

all_head : {X : Type 0} (P : X → Type 0) (x : X) (xs : List X) → All P (x ∷ xs) → P x
all_head P x xs h = h 0 x (omega arith)

all_moved : (start n : ℕ) (ids : List TypeId) → All (λ id. id.0 < n) ids → All (λ id. id.0 < start + n) (map (moved_id start) ids)
all_moved start n [] h = All-nil (λ id. id.0 < start + n)
all_moved start n (id ∷ ids) h =
    let lt = all_head (λ id. id.0 < n) id ids h in
    All-cons (λ id. id.0 < start + n) (moved_id start id) (map (moved_id start) ids) (omega arith) (all_moved start n ids (all_tail (λ id. id.0 < n) id ids h))

-- its types come before it
pub after_moved : (start : ℕ) (f : ℕ → ℕ) (n : ℕ) (t : Term) → IsAfter n t → IsAfter (start + n) (moved_term start f t)
after_moved start f n (Pointer to) h = omega arith
after_moved start f n (Array of m) h = omega arith
after_moved start f n (Function r ps form) h = ((let lt = h.0 in omega arith), all_moved start n ps h.1)
after_moved start f n Void h = tt
after_moved start f n BoolTerm h = tt
after_moved start f n (Integer size rank signed) h = tt
after_moved start f n Floating h = tt
after_moved start f n VaList h = tt
after_moved start f n (Structure tag) h = tt
after_moved start f n (Union tag) h = tt

-- its tag is the table's
pub tag_moved : (start : ℕ) (tags : List ℕ) (n : ℕ) (t : Term) → HasTag (length tags) t → All (λ k. k < n) tags → HasTag n (moved_term start (λ k. get_or tags k 0) t)
tag_moved start tags n (Structure tag) h all = all tag 0 h
tag_moved start tags n (Union tag) h all = all tag 0 h
tag_moved start tags n (Pointer to) h all = tt
tag_moved start tags n (Array of m) h all = tt
tag_moved start tags n (Function r ps form) h all = tt
tag_moved start tags n Void h all = tt
tag_moved start tags n BoolTerm h all = tt
tag_moved start tags n (Integer size rank signed) h all = tt
tag_moved start tags n Floating h all = tt
tag_moved start tags n VaList h all = tt

pub sized_moved : (start : ℕ) (f : ℕ → ℕ) (t : Term) → IsSized t → IsSized (moved_term start f t)
sized_moved start f (Integer size rank signed) h = h
sized_moved start f (Pointer to) h = tt
sized_moved start f (Array of m) h = tt
sized_moved start f (Function r ps form) h = tt
sized_moved start f Void h = tt
sized_moved start f BoolTerm h = tt
sized_moved start f Floating h = tt
sized_moved start f VaList h = tt
sized_moved start f (Structure tag) h = tt
sized_moved start f (Union tag) h = tt

-- its tag keeps its keyword
pub apart_moved : (start : ℕ) (f : ℕ → ℕ) (keyword : ℕ → Bool) (terms unit : List Term) (id : ℕ) (t : Term) → Keyed keyword terms → Keyed (λ k. keyword (f k)) unit → slice_get unit id ≡ Some t → KeepsApart terms (moved_term start f t)
apart_moved start f keyword terms unit id (Structure tag) all own at = λ i there. false≢true (sym (own.structures id tag at) ∙ all.unions i (f tag) there)
apart_moved start f keyword terms unit id (Union tag) all own at = λ i there. false≢true (sym (all.structures i (f tag) there) ∙ own.unions id tag at)
apart_moved start f keyword terms unit id (Pointer to) all own at = tt
apart_moved start f keyword terms unit id (Array of m) all own at = tt
apart_moved start f keyword terms unit id (Function r ps form) all own at = tt
apart_moved start f keyword terms unit id Void all own at = tt
apart_moved start f keyword terms unit id BoolTerm all own at = tt
apart_moved start f keyword terms unit id (Integer size rank signed) all own at = tt
apart_moved start f keyword terms unit id Floating all own at = tt
apart_moved start f keyword terms unit id VaList all own at = tt

-- the trees of its types, and so its own
abbrev AreRenamed : List Ctype → List Ctype → ℕ → (ℕ → ℕ) → ℕ → Type 0
AreRenamed now trees start f n = (k : ℕ) → k < n → tree_at now (start + k) ≡ renamed f (tree_at trees k)

trees_moved : (now trees : List Ctype) (start : ℕ) (f : ℕ → ℕ) (n : ℕ) (ids : List TypeId) → AreRenamed now trees start f n → All (λ id. id.0 < n) ids → trees_at now (map (moved_id start) ids) ≡ all_renamed f (trees_at trees ids)
trees_moved now trees start f n [] h all = refl
trees_moved now trees start f n (id ∷ ids) h all =
    ap (λ t. MoreTypes t (trees_at now (map (moved_id start) ids))) (h id.0 (all_head (λ id. id.0 < n) id ids all))
    ∙ ap (λ ts. MoreTypes (renamed f (tree_at trees id.0)) ts) (trees_moved now trees start f n ids h (all_tail (λ id. id.0 < n) id ids all))

pub grow_moved : (now trees : List Ctype) (start : ℕ) (f : ℕ → ℕ) (n : ℕ) (t : Term) → AreRenamed now trees start f n → IsAfter n t → grow now (moved_term start f t) ≡ renamed f (grow trees t)
grow_moved now trees start f n Void h after = refl
grow_moved now trees start f n BoolTerm h after = refl
grow_moved now trees start f n (Integer size rank signed) h after = refl
grow_moved now trees start f n Floating h after = refl
grow_moved now trees start f n VaList h after = refl
grow_moved now trees start f n (Pointer to) h after = ap PointerTo (h to.0 after)
grow_moved now trees start f n (Array of m) h after = ap (λ t. ArrayOf t m) (h of.0 after)
grow_moved now trees start f n (Function r ps form) h after =
    ap (λ t. FunctionFrom t (trees_at now (map (moved_id start) ps)) form) (h r.0 after.0)
    ∙ ap (λ ts. FunctionFrom (renamed f (tree_at trees r.0)) ts form) (trees_moved now trees start f n ps h after.1)
grow_moved now trees start f n (Structure tag) h after = refl
grow_moved now trees start f n (Union tag) h after = refl

-- a moved term with a tag is that of a term with one
moved_structure : (start : ℕ) (f : ℕ → ℕ) (t : Term) (g : ℕ) → moved_term start f t ≡ Structure g → (tag : ℕ) × (t ≡ Structure tag) × (f tag ≡ g)
moved_structure start f (Structure tag) g h = (tag, refl, cc)
moved_structure start f (Union tag) g h = cc
moved_structure start f (Pointer to) g h = cc
moved_structure start f (Array of m) g h = cc
moved_structure start f (Function r ps form) g h = cc
moved_structure start f Void g h = cc
moved_structure start f BoolTerm g h = cc
moved_structure start f (Integer size rank signed) g h = cc
moved_structure start f Floating g h = cc
moved_structure start f VaList g h = cc

moved_union : (start : ℕ) (f : ℕ → ℕ) (t : Term) (g : ℕ) → moved_term start f t ≡ Union g → (tag : ℕ) × (t ≡ Union tag) × (f tag ≡ g)
moved_union start f (Union tag) g h = (tag, refl, cc)
moved_union start f (Structure tag) g h = cc
moved_union start f (Pointer to) g h = cc
moved_union start f (Array of m) g h = cc
moved_union start f (Function r ps form) g h = cc
moved_union start f Void g h = cc
moved_union start f BoolTerm g h = cc
moved_union start f (Integer size rank signed) g h = cc
moved_union start f Floating g h = cc
moved_union start f VaList g h = cc

-- the keywords with one moved term more
pub keyed_more : (start : ℕ) (f : ℕ → ℕ) (keyword : ℕ → Bool) (terms unit : List Term) (id : ℕ) (t : Term) → slice_get unit id ≡ Some t → Keyed keyword terms → Keyed (λ k. keyword (f k)) unit
    → Keyed keyword (terms ++ moved_term start f t ∷ [])
keyed_more start f keyword terms unit id t at all own = record {
  structures = λ i g there. elim (slice_get_push terms (moved_term start f t) i (Structure g) there) [
    | inl before ↦ all.structures i g before.1
    | inr last ↦ (let (tag, is, same) = moved_structure start f t g (sym last.1) in ap keyword (sym same) ∙ own.structures id tag (at ∙ ap Some is))
  ];
  unions = λ i g there. elim (slice_get_push terms (moved_term start f t) i (Union g) there) [
    | inl before ↦ all.unions i g before.1
    | inr last ↦ (let (tag, is, same) = moved_union start f t g (sym last.1) in ap keyword (sym same) ∙ own.unions id tag (at ∙ ap Some is))
  ];
}

-- the types with one more
pub types_more : (old now unit : Table) (start : ℕ) (f : ℕ → ℕ) (id : ℕ) (t : Term) → length old.terms ≡ start + id → HasTypes old unit start f id → IsAfter id t
    → type_of unit id ≡ grow (types_of unit) t → ((i : ℕ) → i < length old.terms → type_of now i ≡ type_of old i) → type_of now (start + id) ≡ grow (types_of old) (moved_term start f t)
    → HasTypes now unit start f (id + 1)
types_more old now unit start f id t count before after tree kept new = record {
  each = λ i lt. elim (cases_lt i id) [
    | inl less ↦ kept (start + i) (omega arith) ∙ before.each i less
    | inr ge ↦
        let here : i ≡ id = omega arith in
        ap (λ n. type_of now (start + n)) here ∙ (new ∙ (grow_moved (types_of old) (types_of unit) start f id t before.each after ∙ (ap (renamed f) (sym tree) ∙ ap (λ n. renamed f (type_of unit n)) (sym here))))
  ];
}
