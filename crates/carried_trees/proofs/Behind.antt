-- Nodes carried one after another.
use Rattle.std.proofs.Common.{arith, ◌≡◌, ◌∙◌, ℕ, zero, suc, ◌+◌, ◌<◌, Bool, false, ◌&&◌, inl, inr, List, [], ◌∷◌, ◌++◌, All, drop, length, length-append, get_or, map, slice_get, Option, Some, is_some, refl, sym, ap, subst}
use Rattle.std.proofs.lemmas.Bool.Decides.{eqb_tells}
use Rattle.std.proofs.lemmas.List.{get_or_append_left}
use Rattle.std.proofs.lemmas.List.Elements.{All-head, All-tail, All-cons}
use Rattle.std.proofs.lemmas.Option.{slice_get_within}
use Rattle.std.proofs.Math.Seq.{get_or-append_seam}
use Rattle.c_types.specs.Trees.{Ctype}
use Rattle.c_types.specs.Table.{Table, type_of}
use Rattle.core_tree.specs.declared.node.Node.{Node}
use Rattle.core_tree.specs.declared.node.Unit.{Unit}
use Rattle.c_consts.specs.Core.{Core, Cores, Of, MoreCores}
use Rattle.core_nodes.specs.Standing.{core_at, cores_at, IsReady, Builds}
use Rattle.core_nodes.proofs.Reading.{core_is}
use Rattle.carried_trees.specs.carried_types.Types.{carried_type, is_given_type}
use Rattle.carried_trees.specs.Carried.{carried_kind, is_given_kind, carried_core, carried_cores, is_given_core, are_given_cores}
use Rattle.carried_trees.specs.Copied.{all_flagged, AreCarried, IsMoved}
use Rattle.carried_trees.specs.carried_types.Terms.{AreTypes, AreIds}

-- the node that is taken next
slice_get_drop : {A : Type 0} (xs : List A) (k : ℕ) (x : A) (rest : List A) → drop k xs ≡ x ∷ rest → (slice_get xs k ≡ Some x) × (drop (suc k) xs ≡ rest)
slice_get_drop [] zero x rest e = cc
slice_get_drop [] (suc k) x rest e = cc
slice_get_drop (y ∷ xs) zero x rest e = (cc, cc)
slice_get_drop (y ∷ xs) (suc k) x rest e = slice_get_drop xs k x rest e

pub next_node : (all now rest : List Node) (k : ℕ) (x : Node) → now ≡ drop k all → now ≡ x ∷ rest → (slice_get all k ≡ Some x) × (rest ≡ drop (k + 1) all) × (k < length all)
next_node all now rest k x en e =
    let both = slice_get_drop all k x rest (sym en ∙ e) in
    let step : suc k ≡ k + 1 = omega arith in
    (both.0, sym both.1 ∙ ap (λ (n : ℕ). drop n all) step, slice_get_within all k x both.0)

-- the numbers of nodes behind a number
pub raised_within : (from room : ℕ) (cs : List ℕ) → All (λ c. from + c < room) cs → All (λ c. c < room) (map (λ c. from + c) cs)
raised_within from room [] all = λ k d lt. absurd (omega arith)
raised_within from room (c ∷ cs) all =
    All-cons (λ (i : ℕ). i < room) (from + c) (map (λ (i : ℕ). from + i) cs) (All-head (λ (i : ℕ). from + i < room) c cs all)
    (raised_within from room cs (All-tail (λ (i : ℕ). from + i < room) c cs all))

pub under_room : (from room count : ℕ) (cs : List ℕ) → room ≡ from + count → All (λ c. c < count) cs → All (λ c. from + c < room) cs
under_room from room count [] e all = λ k d lt. absurd (omega arith)
under_room from room count (c ∷ cs) e all =
    let first : c < count = All-head (λ (i : ℕ). i < count) c cs all in
    All-cons (λ (i : ℕ). from + i < room) c cs (omega (arith, first, e)) (under_room from room count cs e (All-tail (λ (i : ℕ). i < count) c cs all))

slice_get_left : {A : Type 0} (xs ys : List A) (k : ℕ) → k < length xs → slice_get (xs ++ ys) k ≡ slice_get xs k
slice_get_left [] ys k lt = absurd (omega arith)
slice_get_left (x ∷ xs) ys zero lt = refl
slice_get_left (x ∷ xs) ys (suc k) lt = slice_get_left xs ys k (omega arith)

slice_get_here : {A : Type 0} (xs : List A) (y : A) (ys : List A) (k : ℕ) → k ≡ length xs → slice_get (xs ++ y ∷ ys) k ≡ Some y
slice_get_here [] y ys zero e = refl
slice_get_here [] y ys (suc k) e = absurd (omega arith)
slice_get_here (x ∷ xs) y ys zero e = absurd (omega arith)
slice_get_here (x ∷ xs) y ys (suc k) e = slice_get_here xs y ys k (omega arith)

some_one : {X : Type 0} → {x y : X} → ◌≡◌ {A = Option X} (Some x) (Some y) → x ≡ y
some_one e = cc

module _ (entity own : ℕ → Option ℕ) (tag : ℕ → Option Ctype) (old : Unit) (from count : ℕ) (flags : List Bool) (u : Unit) (h : AreCarried entity own tag old from count flags u) where
  cores_carried : (cs : List ℕ) → All (λ c. c < count) cs → cores_at u (map (λ c. from + c) cs) ≡ carried_cores entity own tag (cores_at old cs)
  cores_carried [] all = refl
  cores_carried (c ∷ cs) all =
      let first : core_at u (from + c) ≡ carried_core entity own tag (core_at old c) = h.trees c (All-head (λ (i : ℕ). i < count) c cs all) in
      let rest : cores_at u (map (λ (i : ℕ). from + i) cs) ≡ carried_cores entity own tag (cores_at old cs) = cores_carried cs (All-tail (λ (i : ℕ). i < count) c cs all) in
      ap (λ (a : Core). MoreCores a (cores_at u (map (λ (i : ℕ). from + i) cs))) first ∙ ap (λ (as' : Cores). MoreCores (carried_core entity own tag (core_at old c)) as') rest

  cores_given : (cs : List ℕ) → All (λ c. c < count) cs → all_flagged flags cs ≡ are_given_cores entity (λ e. is_some (own e)) tag (cores_at old cs)
  cores_given [] all = refl
  cores_given (c ∷ cs) all =
      let first : get_or flags c false ≡ is_given_core entity (λ e. is_some (own e)) tag (core_at old c) = h.given_are c (All-head (λ (i : ℕ). i < count) c cs all) in
      let rest : all_flagged flags cs ≡ are_given_cores entity (λ e. is_some (own e)) tag (cores_at old cs) = cores_given cs (All-tail (λ (i : ℕ). i < count) c cs all) in
      ap (λ (b : Bool). b && all_flagged flags cs) first ∙ ap (λ (b : Bool). is_given_core entity (λ e. is_some (own e)) tag (core_at old c) && b) rest

  module _ (ready : IsReady old) (x : Node) (at : slice_get old.nodes.items count ≡ Some x) (v : Unit) (b : Builds u v) (t : Ctype) (typed : t ≡ carried_type tag (type_of old.types x.ty.0)) (made : core_at v (length u.nodes.items) ≡ Of (carried_kind entity own x.kind) x.place t (cores_at u (map (λ c. from + c) x.children))) (type : ℕ) (added : v.nodes.items ≡ u.nodes.items ++ record x { kind = carried_kind entity own x.kind; ty = record { 0 = type }; children = map (λ c. from + c) x.children } ∷ []) (flags' : List Bool) (flag : Bool) (e : flags' ≡ flags ++ flag ∷ []) (given : Bool) (is_typed : given ≡ is_given_type tag (type_of old.types x.ty.0)) (is_flag : flag ≡ ((is_given_kind entity (λ e. is_some (own e)) x.kind && given) && all_flagged flags x.children)) where
    is : core_at old count ≡ Of x.kind x.place (type_of old.types x.ty.0) (cores_at old x.children)
    is = core_is old ready count x at

    tree_last : core_at v (from + count) ≡ carried_core entity own tag (core_at old count)
    tree_last =
        ap (λ (i : ℕ). core_at v i) (sym h.nodes)
        ∙ (made
        ∙ (ap (λ (a : Ctype). Of (carried_kind entity own x.kind) x.place a (cores_at u (map (λ (c : ℕ). from + c) x.children))) typed
        ∙ (ap (λ (cs : Cores). Of (carried_kind entity own x.kind) x.place (carried_type tag (type_of old.types x.ty.0)) cs) (cores_carried x.children (ready.children count x at))
        ∙ ap (λ (c : Core). carried_core entity own tag c) (sym is))))

    flag_is : flag ≡ is_given_core entity (λ e. is_some (own e)) tag (core_at old count)
    flag_is =
        is_flag
        ∙ (ap (λ (b : Bool). (is_given_kind entity (λ e. is_some (own e)) x.kind && b) && all_flagged flags x.children) is_typed
        ∙ (ap (λ (b : Bool). (is_given_kind entity (λ e. is_some (own e)) x.kind && is_given_type tag (type_of old.types x.ty.0)) && b) (cores_given x.children (ready.children count x at))
        ∙ ap (λ (c : Core). is_given_core entity (λ e. is_some (own e)) tag c) (sym is)))

    flag_kept : (j : ℕ) → j < count → get_or flags' j false ≡ get_or flags j false
    flag_kept j lt = ap (λ (l : List Bool). get_or l j false) e ∙ get_or_append_left flags (flag ∷ []) false j (omega (arith, lt, h.long))

    flag_last : get_or flags' count false ≡ flag
    flag_last = ap (λ (l : List Bool). get_or l count false) e ∙ (ap (λ (j : ℕ). get_or (flags ++ flag ∷ []) j false) (sym h.long) ∙ get_or-append_seam flags flag [] false)

    longer : length v.nodes.items ≡ length u.nodes.items + 1
    longer = ap length added ∙ length-append u.nodes.items (record x { kind = carried_kind entity own x.kind; ty = record { 0 = type }; children = map (λ c. from + c) x.children } ∷ [])

    moved_old : (j : ℕ) (y : Node) → j < count → IsMoved entity own from y (slice_get u.nodes.items (from + j)) → IsMoved entity own from y (slice_get v.nodes.items (from + j))
    moved_old j y lt is_moved = record {
      node = is_moved.node;
      there = ap (λ (l : List Node). slice_get l (from + j)) added ∙ (slice_get_left u.nodes.items (record x { kind = carried_kind entity own x.kind; ty = record { 0 = type }; children = map (λ c. from + c) x.children } ∷ []) (from + j) (omega (arith, lt, h.nodes)) ∙ is_moved.there);
      kind = is_moved.kind;
      children = is_moved.children;
    }

    moved_last : (y : Node) → slice_get old.nodes.items count ≡ Some y → IsMoved entity own from y (slice_get v.nodes.items (from + count))
    moved_last y there =
        let same : x ≡ y = some_one (sym at ∙ there) in
        subst (λ (z : Node). IsMoved entity own from z (slice_get v.nodes.items (from + count))) same (record {
          node = record x { kind = carried_kind entity own x.kind; ty = record { 0 = type }; children = map (λ c. from + c) x.children };
          there = ap (λ (l : List Node). slice_get l (from + count)) added ∙ slice_get_here u.nodes.items (record x { kind = carried_kind entity own x.kind; ty = record { 0 = type }; children = map (λ c. from + c) x.children }) [] (from + count) (sym h.nodes);
          kind = refl;
          children = refl;
        })

    pub carried_more : AreCarried entity own tag old from (count + 1) flags' v
    carried_more = record {
      long = let l : length (flags ++ flag ∷ []) ≡ length flags + 1 = length-append flags (flag ∷ []) in ap length e ∙ omega (arith, l, h.long);
      nodes = omega (arith, longer, h.nodes);
      trees = λ j lt. elim (eqb_tells j count) [
        | inl p ↦ ap (λ (i : ℕ). core_at v (from + i)) p.1 ∙ (tree_last ∙ ap (λ (i : ℕ). carried_core entity own tag (core_at old i)) (sym p.1))
        | inr p ↦ let few : j < count = omega (arith, lt, p.1) in b.cores (from + j) (omega (arith, few, h.nodes)) ∙ h.trees j few
      ];
      given_are = λ j lt. elim (eqb_tells j count) [
        | inl p ↦ ap (λ (i : ℕ). get_or flags' i false) p.1 ∙ (flag_last ∙ (flag_is ∙ ap (λ (i : ℕ). is_given_core entity (λ e. is_some (own e)) tag (core_at old i)) (sym p.1)))
        | inr p ↦ let few : j < count = omega (arith, lt, p.1) in flag_kept j few ∙ h.given_are j few
      ];
      moved = λ j y lt there. elim (eqb_tells j count) [
        | inl p ↦ subst (λ (i : ℕ). IsMoved entity own from y (slice_get v.nodes.items (from + i))) (sym p.1) (moved_last y (ap (λ (i : ℕ). slice_get old.nodes.items i) (sym p.1) ∙ there))
        | inr p ↦ let few : j < count = omega (arith, lt, p.1) in moved_old j y few (h.moved j y few there)
      ];
    }

-- the types of a table are numbered
pub ids_there : (tag : ℕ → Option Ctype) (old new : Table) (count : ℕ) (ids : List ℕ) (given : List Bool) → AreTypes tag old count ids given new → AreIds ids new
ids_there tag old new count ids given h j lt = h.within j (omega (arith, lt, h.long))
