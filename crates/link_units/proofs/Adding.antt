-- Nodes that are added one after another.
use Rattle.std.proofs.Common.{◌≡◌, ℕ, zero, suc, ◌+◌, ◌<◌, ◌≤◌, Option, Some, List, [], ◌∷◌, ◌++◌, length, drop, length-append, refl, sym, ap, subst, ◌∙◌, arith, inl, inr}
use Rattle.std.proofs.lemmas.Bool.{cases_lt}
use Rattle.std.proofs.lemmas.Option.{slice_get_within}
use Rattle.std.specs.List.{slice_get}
use Rattle.core_tree.specs.declared.node.Node.{Node}
use Rattle.unit_link.specs.Places.{IsPlaced}
use Rattle.unit_link.proofs.link_program.Rows.{get_left, get_right}
use Rattle.link_units.specs.Nodes.{StandsMoved, AreAdded}

some_one : {X : Type 0} → {x y : X} → ◌≡◌ {A = Option X} (Some x) (Some y) → x ≡ y
some_one h = cc

-- what is left begins with the next one
pub record IsNextOf {X : Type 0} (xs rest : List X) (k : ℕ) (x : X) : Type 0 where
  pub within : k < length xs
  pub there : slice_get xs k ≡ Some x
  pub left : rest ≡ drop (k + 1) xs

pub next_of : {X : Type 0} (xs rest : List X) (k : ℕ) (x : X) → x ∷ rest ≡ drop k xs → IsNextOf xs rest k x
next_of [] rest zero x e = cc
next_of [] rest (suc k) x e = cc
next_of (y ∷ ys) rest zero x e = (let head : x ≡ y = cc in let tail : rest ≡ ys = cc in record { within = omega arith; there = ap Some (sym head); left = tail })
next_of (y ∷ ys) rest (suc k) x e =
    let n = next_of ys rest k x e in
    let w = n.within in
    let more : suc k + 1 ≡ suc (k + 1) = omega arith in
    record { within = omega arith; there = n.there; left = n.left ∙ sym (ap (λ m. drop m (y ∷ ys)) more) }

pub empty_of : {X : Type 0} (xs : List X) → length xs ≡ 0 → xs ≡ []
empty_of [] e = refl
empty_of (x ∷ xs) e = absurd (omega arith)

pub drop_none : {X : Type 0} (xs : List X) (k : ℕ) → [] ≡ drop k xs → length xs ≤ k
drop_none [] k e = omega arith
drop_none (y ∷ ys) zero e = cc
drop_none (y ∷ ys) (suc k) e = let l = drop_none ys k e in omega arith

-- the first nodes stand in order behind the old ones, and the others are left
pub record AreSoFar (types start : ℕ) (entities : ℕ → ℕ) (nodes old now rest : List Node) : Type 0 where
  pub done : ℕ
  pub count : length now ≡ length old + done
  pub within : done ≤ length nodes
  pub left : rest ≡ drop done nodes
  pub kept : (i : ℕ) (m : Node) → slice_get old i ≡ Some m → slice_get now i ≡ Some m
  pub each : (n : ℕ) (x : Node) → n < done → slice_get nodes n ≡ Some x → StandsMoved types start entities now (length old + n) x

pub so_far_none : (types start : ℕ) (entities : ℕ → ℕ) (nodes old : List Node) → AreSoFar types start entities nodes old old nodes
so_far_none types start entities nodes old = record {
  done = 0;
  count = omega arith;
  within = omega arith;
  left = refl;
  kept = λ i m at. at;
  each = λ n x lt at. absurd (omega arith);
}

pub next_so_far : (types start : ℕ) (entities : ℕ → ℕ) (nodes old now rest more : List Node) (x : Node) → (h : AreSoFar types start entities nodes old now rest) → rest ≡ x ∷ more → IsNextOf nodes more h.done x
next_so_far types start entities nodes old now rest more x h e = next_of nodes more h.done x (sym e ∙ h.left)

push_kept : (xs : List Node) (m y : Node) (i : ℕ) → slice_get xs i ≡ Some y → slice_get (xs ++ m ∷ []) i ≡ Some y
push_kept xs m y i at = get_left xs (m ∷ []) i (slice_get_within xs i y at) ∙ at

pub so_far_more : (types start : ℕ) (entities : ℕ → ℕ) (nodes old now rest more : List Node) (x m : Node) → AreSoFar types start entities nodes old now rest → rest ≡ x ∷ more → IsPlaced types start entities x m
    → AreSoFar types start entities nodes old (now ++ m ∷ []) more
so_far_more types start entities nodes old now rest more x m h e placed =
    let n = next_so_far types start entities nodes old now rest more x h e in
    let w = n.within in
    let c = h.count in
    let long : length (now ++ m ∷ []) ≡ length now + 1 = length-append now (m ∷ []) in
    record {
      done = h.done + 1;
      count = omega arith;
      within = omega arith;
      left = n.left;
      kept = λ i y at. push_kept now m y i (h.kept i y at);
      each = λ i y lt at. elim (cases_lt i h.done) [
        | inl less ↦
            let p = h.each i y less at in
            record { node = p.node; node_is = push_kept now m p.node (length old + i) p.node_is; placed = p.placed }
        | inr ge ↦
            let here : i ≡ h.done = omega arith in
            let same : x ≡ y = some_one (sym n.there ∙ (ap (slice_get nodes) (sym here) ∙ at)) in
            record { node = m; node_is = get_right now (m ∷ []) 0 (length old + i) (omega arith); placed = subst (λ (z : Node). IsPlaced types start entities z m) same placed }
      ];
    }

pub added_all : (types start : ℕ) (entities : ℕ → ℕ) (nodes old now rest : List Node) → AreSoFar types start entities nodes old now rest → rest ≡ [] → AreAdded types start entities nodes old now
added_all types start entities nodes old now rest h none =
    let past = drop_none nodes h.done (sym none ∙ h.left) in
    let within = h.within in
    let c = h.count in
    record {
      count = omega arith;
      kept = h.kept;
      each = λ n x at. h.each n x (let lt = slice_get_within nodes n x at in omega arith) at;
    }
