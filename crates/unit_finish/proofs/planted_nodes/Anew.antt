-- That nodes are made anew.
use Rattle.std.proofs.Common.{arith, ◌≡◌, ◌∙◌, ◌<◌, ℕ, inl, inr, List, Option, None, Some, length, get_or, slice_get, sym, ap, subst}
use Rattle.std.proofs.lemmas.List.{get_or_past}
use Rattle.core_tree.specs.declared.node.Node.{Node}
use Rattle.core_tree.specs.Range.{child_in}
use Rattle.core_nodes.specs.kept_nodes.Marked.{ChildIn}
use Rattle.unit_finish.specs.declared.unit_parts.declared.Declared.{Declared}
use Rattle.unit_finish.specs.declared.planted_nodes.planting.Planted.{Planted}
use Rattle.unit_finish.specs.planted_nodes.Grown.{IsWhole}
use Rattle.unit_finish.specs.planted_nodes.Placed.{ArePlaced}
use Rattle.unit_finish.specs.planted_nodes.Copied.{copies_to, with_places}
use Rattle.unit_finish.specs.planted_nodes.Planted.{IsMoved, IsUnder, IsPlanted}
use Rattle.unit_finish.proofs.planted_nodes.Positions.{below_or}
use Rattle.unit_finish.proofs.planted_nodes.Bodies.{place_some, item_there}
use Rattle.unit_finish.proofs.planted_nodes.Numbers.{items_long, copies_are, child_once, origin_at, new_each, new_tops, new_alone, new_late, new_earlier, new_only}

pub all_within : (nodes : List Node) (o s : List ℕ) (list : List Declared) (bodies : List (Option ℕ)) → ArePlaced nodes list (length list) bodies o s → (e at : ℕ) → get_or bodies e None ≡ Some at → at < length o
all_within nodes o s list bodies are e at h = elim (below_or e (length list)) [
  | inl less ↦
      let there = item_there list e less in
      let placed = place_some nodes o s there.0.storage there.0.body (get_or bodies e None) at (are.each e there.0 less there.1) h in placed.0
  | inr le ↦ let past : get_or bodies e None ≡ None = get_or_past bodies e None (omega (arith, le, are.long)) in cc
]

module _ (nodes : List Node) (o s : List ℕ) (met : List (Option ℕ)) (list : List Declared) (bodies : List (Option ℕ)) (w : IsWhole nodes o s met) (are : ArePlaced nodes list (length list) bodies o s) where
  pub are_planted : (planted : Planted) → planted.nodes.items ≡ copies_to nodes o s (length o) → planted.list.items ≡ with_places (length o) list bodies → IsPlanted nodes list planted
  are_planted planted en el = record {
    origin = origin_at nodes o s;
    copies = λ i y at. copies_are nodes o s met w i y (sym (ap (λ (l : List Node). slice_get l i) en) ∙ at);
    child_once = λ a b i j c ha hb. child_once nodes o s met w a b i j c (subst (λ (l : List Node). child_in (slice_get l a) i ≡ Some c) en ha) (subst (λ (l : List Node). child_in (slice_get l b) j ≡ Some c) en hb);
    long = ap length el ∙ items_long (length o) list bodies;
    each = λ e x y hx hy. subst (λ (l : List Node). IsMoved (origin_at nodes o s) (length l) x y) (sym en) (new_each nodes o s met w list bodies are e x y hx (sym (ap (λ (l : List Declared). slice_get l e) el) ∙ hy));
    tops = λ d x b at f e p h. new_tops nodes o s met w list bodies are d x b (sym (ap (λ (l : List Declared). slice_get l d) el) ∙ at) f e p (subst (λ (l : List Node). ChildIn l p b) en h);
    alone = λ d x b at f e k y there same. new_alone nodes o s met w list bodies are d x b (sym (ap (λ (l : List Declared). slice_get l d) el) ∙ at) f e k y (sym (ap (λ (l : List Declared). slice_get l k) el) ∙ there) same;
    late = λ d x b at other e few free p c h same.
        new_late nodes o s met w list bodies are d x b (sym (ap (λ (l : List Declared). slice_get l d) el) ∙ at) other e few (λ q k. free q (subst (λ (l : List Node). ChildIn l q b) (sym en) k)) p c
        (subst (λ (l : List Node). ChildIn l p c) en h) same;
    earlier = λ j k a b c x y less at_j at_k ea eb free under.
        new_earlier nodes o s met w list bodies are j k a b c x y less (sym (ap (λ (l : List Declared). slice_get l j) el) ∙ at_j) (sym (ap (λ (l : List Declared). slice_get l k) el) ∙ at_k) ea eb
        (λ p h. free p (subst (λ (l : List Node). ChildIn l p b) (sym en) h)) (subst (λ (l : List Node). IsUnder l a c) en under);
    only = λ i lt. elim (new_only nodes o s met w list bodies are i (subst (λ (l : List Node). i < length l) en lt)) [
      | inl h ↦ inl (h.0, h.1, ap (λ (l : List Declared). slice_get l h.0) el ∙ h.2, h.3)
      | inr h ↦ inr (h.0, subst (λ (l : List Node). ChildIn l h.0 i) (sym en) h.1)
    ];
  }
