-- What turns pay.
use Rattle.std.proofs.Common.{◌≡◌, ℕ, suc, ◌+◌, ◌*◌, ◌≤◌, Bool, true, false, cond, eqb, List, [], ◌∷◌, length, map, refl, sym, ap, subst, inl, inr, arith, eqb-true}
use Rattle.std.specs.List.{sum_by, filter}
use Rattle.std.proofs.lemmas.Bool.{cases_Bool}
use Rattle.std.proofs.lemmas.List.Sums.{sum_by-cons}
use Rattle.round_pieces.specs.declared.delta_prop.turn.Turn.{Turn}
use Rattle.edge_book.specs.Leaving.{targets_of}
use Rattle.round_pieces.specs.Turns.{row_of}
use Rattle.round_pieces.proofs.Sums.{In, IsApart}

module _ (g : Turn → ℕ) where
  abbrev pub paid : List (ℕ × ℕ) → List Turn → ℕ
  paid book turns = sum_by (λ turn. g turn * length (targets_of turn.row book)) turns

  abbrev mine : ℕ → List Turn → ℕ
  mine row turns = sum_by (λ turn. cond (eqb row turn.row) (g turn) 0) turns

  none_paid : (turns : List Turn) → paid [] turns ≡ 0
  none_paid [] = refl
  none_paid (t ∷ ts) = let c = sum_by-cons (λ (turn : Turn). g turn * 0) t ts in let r = none_paid ts in
      let whole : paid [] (t ∷ ts) ≡ g t * 0 + paid [] ts = c in omega arith

  one_more : (a b row n : ℕ) (es : List (ℕ × ℕ)) → n * length (targets_of row ((a, b) ∷ es)) ≡ cond (eqb a row) n 0 + n * length (targets_of row es)
  one_more a b row n es = elim (eqb a row) as (λ (t : Bool). n * length (map (λ (edge : ℕ × ℕ). edge.1) (cond t ((a, b) ∷ filter (λ (edge : ℕ × ℕ). eqb edge.0 row) es) (filter (λ (edge : ℕ × ℕ). eqb edge.0 row) es))) ≡ cond t n 0 + n * length (targets_of row es)) [
    | true ↦ (let l : ℕ = length (targets_of row es) in let e : n * (suc l) ≡ n + n * l = omega arith in e)
    | false ↦ (let l : ℕ = length (targets_of row es) in let e : n * l ≡ 0 + n * l = omega arith in e)
  ]

  paid_more : (a b : ℕ) (es : List (ℕ × ℕ)) (turns : List Turn) → paid ((a, b) ∷ es) turns ≡ mine a turns + paid es turns
  paid_more a b es [] = refl
  paid_more a b es (t ∷ ts) =
      let x = sum_by-cons (λ (turn : Turn). g turn * length (targets_of turn.row ((a, b) ∷ es))) t ts in
      let y = sum_by-cons (λ (turn : Turn). g turn * length (targets_of turn.row es)) t ts in
      let z = sum_by-cons (λ (turn : Turn). cond (eqb a turn.row) (g turn) 0) t ts in
      let here = one_more a b t.row (g t) es in
      let rest = paid_more a b es ts in
      let xs : paid ((a, b) ∷ es) (t ∷ ts) ≡ g t * length (targets_of t.row ((a, b) ∷ es)) + paid ((a, b) ∷ es) ts = x in
      let ys : paid es (t ∷ ts) ≡ g t * length (targets_of t.row es) + paid es ts = y in
      let zs : mine a (t ∷ ts) ≡ cond (eqb a t.row) (g t) 0 + mine a ts = z in
      omega arith

  none_mine : (a : ℕ) (turns : List Turn) → (In a (map row_of turns) → ⊥) → mine a turns ≡ 0
  none_mine a [] none = refl
  none_mine a (t ∷ ts) none =
      let z = sum_by-cons (λ (turn : Turn). cond (eqb a turn.row) (g turn) 0) t ts in
      let zs : mine a (t ∷ ts) ≡ cond (eqb a t.row) (g t) 0 + mine a ts = z in
      let rest = none_mine a ts (λ i. none (inr i)) in
      elim (cases_Bool (eqb a t.row)) [
        | inl is ↦ absurd (none (inl (eqb-true a t.row is)))
        | inr differs ↦ (let n : cond {A = ℕ} (eqb a t.row) (g t) 0 ≡ 0 = ap (λ (b : Bool). cond {A = ℕ} b (g t) 0) differs in omega arith)
      ]

  module _ (f h : ℕ → ℕ) (grows : (a : ℕ) → f a ≤ h a) where
    mine_within : (a : ℕ) (turns : List Turn) → IsApart (map row_of turns) → ((turn : Turn) → In turn turns → f turn.row + g turn ≤ h turn.row) → f a + mine a turns ≤ h a
    mine_within a [] apart pays = let l = grows a in omega arith
    mine_within a (t ∷ ts) apart pays =
        let z = sum_by-cons (λ (turn : Turn). cond (eqb a turn.row) (g turn) 0) t ts in
        let zs : mine a (t ∷ ts) ≡ cond (eqb a t.row) (g t) 0 + mine a ts = z in
        elim (cases_Bool (eqb a t.row)) [
          | inl is ↦ (let n : cond {A = ℕ} (eqb a t.row) (g t) 0 ≡ g t = ap (λ (b : Bool). cond {A = ℕ} b (g t) 0) is in
              let same : a ≡ t.row = eqb-true a t.row is in
              let rest : mine a ts ≡ 0 = none_mine a ts (λ i. apart.0 (subst (λ (r : ℕ). In r (map row_of ts)) same i)) in
              let here : f a + g t ≤ h a = subst (λ (r : ℕ). f r + g t ≤ h r) (sym same) (pays t (inl refl)) in
              omega arith)
          | inr differs ↦ (let n : cond {A = ℕ} (eqb a t.row) (g t) 0 ≡ 0 = ap (λ (b : Bool). cond {A = ℕ} b (g t) 0) differs in
              let rest = mine_within a ts apart.1 (λ turn i. pays turn (inr i)) in omega arith)
        ]

    -- what turns of different rows pay is at most what their rows have grown, for each edge
    pub paid_within : (book : List (ℕ × ℕ)) (turns : List Turn) → IsApart (map row_of turns) → ((turn : Turn) → In turn turns → f turn.row + g turn ≤ h turn.row)
        → paid book turns + sum_by (λ edge. f edge.0) book ≤ sum_by (λ edge. h edge.0) book
    paid_within [] turns apart pays = let z = none_paid turns in omega arith
    paid_within (e ∷ es) turns apart pays =
        let here = mine_within e.0 turns apart pays in
        let more : paid (e ∷ es) turns ≡ mine e.0 turns + paid es turns = paid_more e.0 e.1 es turns in
        let rest = paid_within es turns apart pays in
        let x : sum_by (λ (edge : ℕ × ℕ). f edge.0) (e ∷ es) ≡ f e.0 + sum_by (λ (edge : ℕ × ℕ). f edge.0) es = sum_by-cons (λ (edge : ℕ × ℕ). f edge.0) e es in
        let y : sum_by (λ (edge : ℕ × ℕ). h edge.0) (e ∷ es) ≡ h e.0 + sum_by (λ (edge : ℕ × ℕ). h edge.0) es = sum_by-cons (λ (edge : ℕ × ℕ). h edge.0) e es in
        omega arith
