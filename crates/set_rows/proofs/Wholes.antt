-- The parts of all live views are the whole.
use Rattle.std.proofs.Common.{◌≡◌, ◌≢◌, ℕ, zero, suc, ◌+◌, ◌*◌, ◌-◌, ◌^◌, ◌≤◌, Bool, true, false, if◌then◌else◌, List, [], ◌∷◌, ◌++◌, set, refl, sym, ap, ◌∙◌, subst, inl, inr, arith, add-mul}
use Rattle.std.proofs.lemmas.Nat.{pow-add}
use Rattle.std.proofs.Math.Nat.{mul_assoc}
use mathlib.Core.Option.{some, some-injective, some-ne-none}
use lib.ListN.{get_elem?}
use Rattle.atomic_table.proofs.Lists.{at_set, at_snoc, set_else}
use Rattle.sol_model.specs.declared.system.System.{System}
use Rattle.set_rows.specs.declared.view.View.{View}
use Rattle.set_rows.specs.Views.{fresh, half_kept, half_given, met, nobody}
use Rattle.set_rows.specs.Rule.{total, share_at, IsWhole}

-- the sum after a change of one view
total_set : (f : View → ℕ) (views : List View) (id : ℕ) (v w : View) → get_elem? views id ≡ some v → total f (set views id w) + f v ≡ total f views + f w
total_set f [] id v w e = absurd (some-ne-none v (sym e))
total_set f (x ∷ xs) zero v w e =
    let same : f x ≡ f v = ap f (some-injective x v e) in
    let a : total f (w ∷ xs) ≡ f w + total f xs = refl in
    let b : total f (x ∷ xs) ≡ f x + total f xs = refl in
    let g : total f (w ∷ xs) + f v ≡ total f (x ∷ xs) + f w = omega arith in g
total_set f (x ∷ xs) (suc id) v w e =
    let r = total_set f xs id v w e in
    let a : total f (x ∷ set xs id w) ≡ f x + total f (set xs id w) = refl in
    let b : total f (x ∷ xs) ≡ f x + total f xs = refl in
    let g : total f (x ∷ set xs id w) + f v ≡ total f (x ∷ xs) + f w = omega arith in g

total-append : (f : View → ℕ) (xs ys : List View) → total f (xs ++ ys) ≡ total f xs + total f ys
total-append f [] ys = let e : total f ys ≡ 0 + total f ys = omega arith in e
total-append f (x ∷ xs) ys = let r = total-append f xs ys in let a : total f (x ∷ xs ++ ys) ≡ f x + total f (xs ++ ys) = refl in let b : total f (x ∷ xs) ≡ f x + total f xs = refl in let g : total f (x ∷ xs ++ ys) ≡ total f (x ∷ xs) + total f ys = omega arith in g

live_share : (n : ℕ) (v : View) → v.live ≡ true → share_at n v ≡ v.part * 2 ^ (n - v.halvings)
live_share n v live = ap (λ (b : Bool). if b then v.part * 2 ^ (n - v.halvings) else 0) live

-- two views that have the same part
pub record SameShare (v w : View) : Type 0 where
  pub part : w.part ≡ v.part
  pub halvings : w.halvings ≡ v.halvings
  pub live : w.live ≡ v.live

same_share : (n : ℕ) (v w : View) → SameShare v w → share_at n w ≡ share_at n v
same_share n v w same =
    ap (λ (b : Bool). if b then w.part * 2 ^ (n - w.halvings) else 0) same.live
    ∙ ap (λ (p : ℕ). if v.live then p * 2 ^ (n - w.halvings) else 0) same.part
    ∙ ap (λ (h : ℕ). if v.live then v.part * 2 ^ (n - h) else 0) same.halvings

pub whole_same : (views : List View) (id : ℕ) (v w : View) → get_elem? views id ≡ some v → SameShare v w → IsWhole views → IsWhole (set views id w)
whole_same views id v w at same whole = record {
  level = whole.level;
  fine = λ seat u there live. elim (at_set views id seat w u there) [
    | inl e ↦ let f = whole.fine id v at (sym same.live ∙ ap (λ (t : View). t.live) e.1 ∙ live) in let h : u.halvings ≡ v.halvings = ap (λ (t : View). t.halvings) (sym e.1) ∙ same.halvings in omega arith
    | inr e ↦ whole.fine seat u e.1 live
  ];
  parts = λ n le. let t = total_set (share_at n) views id v w at in let s = same_share n v w same in let p = whole.parts n le in omega arith;
}

pub whole_start : (S : System) → IsWhole (fresh S ∷ [])
whole_start S = record {
  level = 0;
  fine = λ seat v there live. elim (at_snoc [] (fresh S) v seat there) [
    | inl e ↦ absurd (some-ne-none v (sym e))
    | inr e ↦ let h : v.halvings ≡ 0 = ap (λ (t : View). t.halvings) (sym e) in omega arith
  ];
  parts = λ n le. let a : total (share_at n) (fresh S ∷ []) ≡ 1 * 2 ^ (n - 0) + 0 = refl in a ∙ (let z : n - 0 ≡ n = omega arith in let c = ap (λ (m : ℕ). 2 ^ m) z in let e : 1 * 2 ^ (n - 0) + 0 ≡ 2 ^ n = omega arith in e);
}

halved : (p n h : ℕ) → h + 1 ≤ n → p * 2 ^ (n - (h + 1)) + p * 2 ^ (n - (h + 1)) ≡ p * 2 ^ (n - h)
halved p n h le =
    let x : ℕ = 2 ^ (n - (h + 1)) in
    let e : n - h ≡ 1 + (n - (h + 1)) = omega arith in
    let d : 2 ^ (n - h) ≡ 2 * x = ap (λ (m : ℕ). 2 ^ m) e ∙ pow-add 2 1 (n - (h + 1)) in
    let twice : p * (2 * x) ≡ p * x + p * x = omega arith in
    sym (ap (λ (y : ℕ). p * y) d ∙ twice)

pub whole_split : (views : List View) (id : ℕ) (v : View) → get_elem? views id ≡ some v → v.live ≡ true → IsWhole views → IsWhole (set views id (half_kept v) ++ half_given v ∷ [])
whole_split views id v at live whole = record {
  level = whole.level + 1;
  fine = λ seat u there lives. let f = whole.fine id v at live in elim (at_snoc (set views id (half_kept v)) (half_given v) u seat there) [
    | inl e ↦ elim (at_set views id seat (half_kept v) u e) [
      | inl k ↦ let h : u.halvings ≡ v.halvings + 1 = ap (λ (t : View). t.halvings) (sym k.1) in omega arith
      | inr k ↦ let g = whole.fine seat u k.1 lives in omega arith
    ]
    | inr e ↦ let h : u.halvings ≡ v.halvings + 1 = ap (λ (t : View). t.halvings) (sym e) in omega arith
  ];
  parts = λ n le.
      let f = whole.fine id v at live in
      let t = total_set (share_at n) views id v (half_kept v) at in
      let a = total-append (share_at n) (set views id (half_kept v)) (half_given v ∷ []) in
      let b : total (share_at n) (half_given v ∷ []) ≡ share_at n (half_given v) + 0 = refl in
      let l = live_share n (half_kept v) live in
      let r = live_share n (half_given v) live in
      let o = live_share n v live in
      let h = halved v.part n v.halvings (omega arith) in
      let p = whole.parts n (omega arith) in omega arith;
}

raised : (n a b : ℕ) → a + b ≤ n → 2 ^ b * 2 ^ (n - (a + b)) ≡ 2 ^ (n - a)
raised n a b le = sym (pow-add 2 b (n - (a + b))) ∙ ap (λ (m : ℕ). 2 ^ m) (let e : b + (n - (a + b)) ≡ n - a = omega arith in e)

distributes : (p q b a z : ℕ) → (p * b + q * a) * z ≡ p * (b * z) + q * (a * z)
distributes p q b a z = add-mul (p * b) (q * a) z ∙ ap (λ (x : ℕ). x + q * a * z) (mul_assoc p b z) ∙ ap (λ (x : ℕ). p * (b * z) + x) (mul_assoc q a z)

joined : (p q a b n : ℕ) → a + b ≤ n → (p * 2 ^ b + q * 2 ^ a) * 2 ^ (n - (a + b)) ≡ p * 2 ^ (n - a) + q * 2 ^ (n - b)
joined p q a b n le =
    let z : ℕ = 2 ^ (n - (a + b)) in
    let left = raised n a b le in
    let right : 2 ^ a * z ≡ 2 ^ (n - b) = ap (λ (m : ℕ). 2 ^ a * 2 ^ (n - m)) (let e : a + b ≡ b + a = omega arith in e) ∙ raised n b a (omega arith) in
    distributes p q (2 ^ b) (2 ^ a) z ∙ ap (λ (x : ℕ). p * x + q * (2 ^ a * z)) left ∙ ap (λ (x : ℕ). p * 2 ^ (n - a) + q * x) right

pub whole_meet : (views : List View) (id other : ℕ) (v u : View) → other ≢ id → v.live ≡ true → u.live ≡ true
    → get_elem? views id ≡ some v → get_elem? views other ≡ some u → IsWhole views → IsWhole (set (set views id (met v u)) other nobody)
whole_meet views id other v u apart live alive at at_other whole = record {
  level = whole.level + whole.level;
  fine = λ seat w there lives. let f = whole.fine id v at live in let g = whole.fine other u at_other alive in elim (at_set (set views id (met v u)) other seat nobody w there) [
    | inl e ↦ let h : w.halvings ≡ 0 = ap (λ (t : View). t.halvings) (sym e.1) in omega arith
    | inr e ↦ elim (at_set views id seat (met v u) w e.1) [
      | inl k ↦ let h : w.halvings ≡ v.halvings + u.halvings = ap (λ (t : View). t.halvings) (sym k.1) in omega arith
      | inr k ↦ let h = whole.fine seat w k.1 lives in omega arith
    ]
  ];
  parts = λ n le.
      let f = whole.fine id v at live in
      let g = whole.fine other u at_other alive in
      let first = total_set (share_at n) views id v (met v u) at in
      let second = total_set (share_at n) (set views id (met v u)) other u nobody (set_else views id other (met v u) apart ∙ at_other) in
      let both = live_share n (met v u) live in
      let one = live_share n v live in
      let two = live_share n u alive in
      let none : share_at n nobody ≡ 0 = refl in
      let j = joined v.part u.part v.halvings u.halvings n (omega arith) in
      let p = whole.parts n (omega arith) in omega arith;
}
