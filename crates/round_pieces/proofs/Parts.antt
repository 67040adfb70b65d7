-- What stays ready, and how parts add up.
use Rattle.std.proofs.Common.{◌≡◌, ◌⊎◌, ℕ, ◌+◌, ◌*◌, ◌/◌, ◌%◌, ◌^◌, ◌<◌, List, zero, suc, [], ◌∷◌, get_or, refl, sym, ap, ◌∙◌, subst, inl, inr, arith, mul_comm, mul_assoc, add-mul, mul_right_comm, pow-suc, pow-add, add-one}
use Rattle.sol_model.specs.declared.system.System.{System}
use Rattle.set_rows.specs.declared.view.View.{View}
use Rattle.std.proofs.Common.{◌||◌, Bool, true, false}
use Rattle.std.proofs.lemmas.Nat.Bits.{bit_at-zero}
use Rattle.sol_model.specs.Words.{Within}
use Rattle.sol_model.proofs.Words.{within_or, from_or}
use Rattle.set_rows.specs.Views.{united, OnlyAdded, known, SamePart, half_kept, half_given, met}
use Rattle.set_rows.proofs.Adding.{known_more, nothing_added}
use Rattle.round_pieces.specs.delta_prop.Deltas.{IsSound}
use Rattle.round_pieces.proofs.delta_prop.Carries.{edge_more}
use Rattle.round_pieces.specs.Rounds.{IsReady, HasWorked, HasClosed}
use Rattle.sol_model.specs.declared.rows.Rows.{Rows}
use Rattle.sol_model.specs.Families.{Has, shown}
use Rattle.sol_model.proofs.Shown.{within_shown, bit_shown, shown_from_bit}
use Rattle.std.specs.Int.{bit_at}
use Rattle.sol_model.specs.Solutions.{IsClosed}
use Rattle.sol_model.specs.Systems.{width_of}
use Rattle.std.proofs.Common.{pow_pos, le_of_mul-le-mul_right, le_of_eq, le_antisymm, Result, Ok, Err, OnErr}

pub ready_more : (S : System) (v u : View) (book : List (ℕ × ℕ)) (done : Rows) → OnlyAdded v u → IsReady S v book done → IsReady S u book done
ready_more S v u book done more r = record {
  demanded = record { edges = λ a b e. edge_more S (known v) (known u) a b (known_more v u more) (r.demanded.edges a b e); rows = r.demanded.rows };
  fits = r.fits;
  own = λ row location h. known_more v u more row location (r.own row location h);
  carried = λ a b location e h. known_more v u more b location (r.carried a b location e h);
}

pub worked_alone : (v u : View) → OnlyAdded v u → (IsSound v → IsSound u) → HasWorked v u
worked_alone v u o sound = record {
  sound = sound;
  system = o.system;
  ors = o.ors;
  shuts = o.shuts;
  reads = o.reads;
  last = o.last;
  knows = o.knows;
  part = subst (λ (n : ℕ). v.part * 2 ^ n ≡ u.part * 2 ^ v.halvings) (sym o.halvings) (ap (λ (p : ℕ). p * 2 ^ v.halvings) (sym o.part));
  seen = o.seen;
}

pub ready_half : (S : System) (v : View) (book : List (ℕ × ℕ)) (done : Rows) → IsReady S v book done → IsReady S (half_kept v) book done
ready_half S v book done r = record { demanded = record { edges = r.demanded.edges; rows = r.demanded.rows }; fits = r.fits; own = r.own; carried = r.carried }

pub ready_given : (S : System) (v : View) (book : List (ℕ × ℕ)) (done : Rows) → IsReady S v book done → IsReady S (half_given v) book done
ready_given S v book done r = record { demanded = record { edges = r.demanded.edges; rows = r.demanded.rows }; fits = r.fits; own = r.own; carried = r.carried }

united_bit : (xs ys : List ℕ) (i k : ℕ) → bit_at (get_or (united xs ys) i 0) k ≡ 1 → (bit_at (get_or xs i 0) k ≡ 1) ⊎ (bit_at (get_or ys i 0) k ≡ 1)
united_bit [] ys i k h = inr h
united_bit (x ∷ xs) [] i k h = inl h
united_bit (x ∷ xs) (y ∷ ys) zero k h = from_or x y k h
united_bit (x ∷ xs) (y ∷ ys) (suc i) k h = united_bit xs ys i k h

pub met_has : (a b : View) (row location : ℕ) → b.system ≡ a.system → Has (known (met a b)) row location → Has (known a) row location ⊎ Has (known b) row location
met_has a b row location e h =
    let W : ℕ = width_of a.system in
    let small = within_shown W (united a.seen b.seen) row location h in
    elim (united_bit a.seen b.seen (row * W + location / 64) (location % 64) (bit_shown W (united a.seen b.seen) row location h)) [
      | inl x ↦ inl (shown_from_bit W a.seen row location small x)
      | inr y ↦ inr (subst (λ (T : System). Has (shown (width_of T) b.seen) row location) (sym e) (shown_from_bit W b.seen row location small y))
    ]

sound_together : (a b : View) → b.system ≡ a.system → IsSound a → IsSound b → IsSound (met a b)
sound_together a b e left right G closed row location h = elim (met_has a b row location e h) [
  | inl x ↦ left G closed row location x
  | inr y ↦ right G (subst (λ (T : System). IsClosed T G) (sym e) closed) row location y
]

united_keeps : (xs ys : List ℕ) (i : ℕ) → Within (get_or xs i 0) (get_or (united xs ys) i 0)
united_keeps [] ys i k h = absurd (let z = bit_at-zero k in omega arith)
united_keeps (x ∷ xs) [] i k h = h
united_keeps (x ∷ xs) (y ∷ ys) zero k h = within_or x y k h
united_keeps (x ∷ xs) (y ∷ ys) (suc i) k h = united_keeps xs ys i k h

swap : (a H N : ℕ) → a * (H * 2) * N ≡ a * N * H * 2
swap a H N = ap (λ x. x * N) (sym (mul_assoc a H 2)) ∙ mul_right_comm (a * H) 2 N ∙ ap (λ x. x * 2) (mul_right_comm a H N)

-- p over h halvings is the sum of a over m and b over n, where each of these is p over one halving more
sum_of_halves : (p H a M b N : ℕ) → p * M ≡ a * (H * 2) → p * N ≡ b * (H * 2) → p * (M * N) ≡ (a * N + b * M) * H
sum_of_halves p H a M b N e f =
    let one : p * (M * N) ≡ (a * N * H) * 2 = sym (mul_assoc p M N) ∙ ap (λ x. x * N) e ∙ swap a H N in
    let two : p * (M * N) ≡ (b * M * H) * 2 = ap (λ x. p * x) (mul_comm M N) ∙ sym (mul_assoc p N M) ∙ ap (λ x. x * M) f ∙ swap b H M in
    let sum : (a * N + b * M) * H ≡ a * N * H + b * M * H = add-mul (a * N) (b * M) H in
    let x : ℕ = a * N * H in let y : ℕ = b * M * H in let z : ℕ = p * (M * N) in let s : ℕ = (a * N + b * M) * H in
    let one' : z ≡ x * 2 = one in let two' : z ≡ y * 2 = two in let sum' : s ≡ x + y = sum in
    let goal : z ≡ s = omega arith in goal

pub halves_add : (v a b : View) → SamePart (half_kept v) a → SamePart (half_given v) b → SamePart v (met a b)
halves_add v a b left right =
    let H : ℕ = 2 ^ v.halvings in
    let half : 2 ^ (v.halvings + 1) ≡ H * 2 = ap (λ (n : ℕ). 2 ^ n) (add-one v.halvings) ∙ pow-suc 2 v.halvings in
    ap (λ x. v.part * x) (pow-add 2 a.halvings b.halvings)
    ∙ sum_of_halves v.part H a.part (2 ^ a.halvings) b.part (2 ^ b.halvings) (left ∙ ap (λ x. a.part * x) half) (right ∙ ap (λ x. b.part * x) half)

or_same : (v a b : Bool) → a ≡ v → b ≡ v → (a || b) ≡ v
or_same v a b e f = ap (λ (x : Bool). x || b) e ∙ ap (λ (x : Bool). v || x) f ∙ elim v as (λ x. (x || x) ≡ x) [ true ↦ refl | false ↦ refl ]

pub worked_together : (v a b : View) → HasWorked (half_kept v) a → HasWorked (half_given v) b → HasWorked v (met a b)
worked_together v a b left right = record {
  system = left.system;
  sound = λ s. sound_together a b (right.system ∙ sym left.system) (left.sound s) (right.sound s);
  ors = (let x = left.ors in omega arith);
  shuts = (let x = left.shuts in let y = right.shuts in omega arith);
  reads = left.reads;
  last = left.last;
  knows = or_same v.knows a.knows b.knows left.knows right.knows;
  part = halves_add v a b left.part right.part;
  seen = λ i k h. united_keeps a.seen b.seen i k (left.seen i k h);
}

pub part_again : (u v w : View) → SamePart u v → SamePart v w → SamePart u w
part_again u v w e f =
    let U : ℕ = 2 ^ u.halvings in let V : ℕ = 2 ^ v.halvings in let W : ℕ = 2 ^ w.halvings in
    let step : u.part * W * V ≡ w.part * U * V =
    mul_right_comm u.part W V ∙ ap (λ x. x * W) e ∙ mul_right_comm v.part U W ∙ ap (λ x. x * U) f ∙ mul_right_comm w.part V U in
    let pos : 0 < V = pow_pos v.halvings in
    le_antisymm (le_of_mul-le-mul_right (le_of_eq step) pos) (le_of_mul-le-mul_right (le_of_eq (sym step)) pos)

pub worked_again : (u v w : View) → HasWorked u v → HasWorked v w → HasWorked u w
worked_again u v w a b = record {
  system = b.system ∙ a.system;
  sound = λ s. b.sound (a.sound s);
  ors = (let x = a.ors in let y = b.ors in omega arith);
  shuts = b.shuts ∙ a.shuts;
  reads = b.reads ∙ a.reads;
  last = b.last ∙ a.last;
  knows = b.knows ∙ a.knows;
  part = part_again u v w a.part b.part;
  seen = λ i k h. b.seen i k (a.seen i k h);
}

pub worked_and_closed : (u v w : View) → HasWorked u v → HasClosed v w → HasClosed u w
worked_and_closed u v w a b = record {
  system = b.system ∙ a.system;
  ors = (let x = a.ors in let y = b.ors in omega arith);
  shuts = b.shuts ∙ ap (λ n. n + 1) a.shuts;
  reads = b.reads ∙ ap (λ n. n + 1) a.reads;
  last = b.last;
  knows = b.knows;
  part = part_again u v w a.part b.part;
  seen = λ i k h. b.seen i k (a.seen i k h);
}

-- a round: the seat gives one half away, which comes back
pub worked_round : (v b : View) → HasWorked (half_given v) b → HasWorked v (met (half_kept v) b)
worked_round v b w = worked_together v (half_kept v) b (worked_alone (half_kept v) (half_kept v) (nothing_added (half_kept v)) (λ s. s)) w

pub on_err : {A E : Type 0} (r : Result A E) (P : Type 0) → P → OnErr r P
on_err (Ok x) P p = tt
on_err (Err e) P p = p
