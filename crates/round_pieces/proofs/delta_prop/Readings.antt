-- The step of reading a row.
use Rattle.std.proofs.Common.{◌≡◌, ◌≢◌, ℕ, ◌+◌, ◌*◌, ◌<◌, ◌≤◌, ◌^◌, List, length, get_or, set, replicate, refl, sym, ap, ◌∙◌, subst, inl, inr, arith, get_or-set_same, get_or-set_other, length-set}
use Rattle.std.specs.Int.{bit_at}
use Rattle.std.proofs.lemmas.Bool.{cases_eq, cases_lt}
use Rattle.std.proofs.lemmas.List.{get_or_past, get_or-replicate, length-replicate}
use Rattle.std.proofs.lemmas.Nat.{same_from_place}
use Rattle.sol_model.specs.Words.{Within}
use Rattle.set_rows.specs.declared.view.View.{View}
use Rattle.set_rows.specs.Views.{OnlyLooked, IsBelowWord, looked}
use Rattle.set_rows.proofs.Copies.{still_looked}
use Rattle.round_pieces.specs.delta_prop.Deltas.{IsDoneBeside, IsSeenOf, IsSound, new_bits}
use Rattle.std.proofs.lemmas.Nat.Bits.{bit_at-zero}
use Rattle.round_pieces.proofs.delta_prop.Carries.{all_done, done_or_new}
use Rattle.round_pieces.proofs.delta_prop.Sounding.{sound_look}

-- of a row the words from one number on and below k were read; what is new in them is from word `first` on and below `end`
pub record Reading (W row from k first end : ℕ) (done words : List ℕ) (v u : View) : Type 0 where
  pub more : OnlyLooked v u
  pub sound : IsSound v → IsSound u
  pub sized : length u.seen ≡ length v.seen
  pub count : length words ≡ W
  pub empty : (j : ℕ) → k ≤ j → get_or words j 0 ≡ 0
  pub own : IsSeenOf W u.seen row words
  pub read : (j : ℕ) → from ≤ j → j < k → Within (get_or v.seen (row * W + j) 0) (get_or words j 0)
  pub beside : IsDoneBeside k first end done words
  pub range : (first ≤ W) × (end ≤ W)

pub nothing_looked : (v : View) → OnlyLooked v v
nothing_looked v = record { system = refl; ors = refl; shuts = refl; reads = refl; last = refl; knows = refl; found = refl; part = refl; halvings = refl; seen = λ word k h. h }

pub no_bit : (x b : ℕ) → x ≡ 0 → bit_at x b ≡ 1 → ⊥
no_bit x b e h = let z = bit_at-zero b in let q : bit_at 0 b ≡ 1 = ap (λ (y : ℕ). bit_at y b) (sym e) ∙ h in omega arith

pub reading_start : (W row from : ℕ) (done words : List ℕ) (v : View) → words ≡ replicate W 0 → Reading W row from from W 0 done words v v
reading_start W row from done words v e =
    let none : (j : ℕ) → get_or words j 0 ≡ 0 = λ j. elim (cases_lt j W) [
      | inl lt ↦ ap (λ (xs : List ℕ). get_or xs j 0) e ∙ get_or-replicate W j 0 0 lt
      | inr past ↦ ap (λ (xs : List ℕ). get_or xs j 0) e ∙ get_or_past (replicate W 0) j 0 (let n = length-replicate {A = ℕ} W 0 in omega arith)
    ] in record {
      more = nothing_looked v;
      sound = λ s. s;
      sized = refl;
      count = ap (λ (xs : List ℕ). length xs) e ∙ length-replicate W 0;
      empty = λ j past. none j;
      own = λ j lt b h. absurd (no_bit (get_or words j 0) b (none j) h);
      read = λ j first lt. absurd (omega arith);
      beside = λ j lt out b h. absurd (no_bit (get_or words j 0) b (none j) h);
      range = (omega arith, omega arith);
    }

-- one word more was read
module _ (W row from k first end found : ℕ) (done words : List ℕ) (v u : View) (r : Reading W row from k first end done words v u) (lt : k < W) (there : row * W + k < length v.seen)
    (has : Within (get_or u.seen (row * W + k) 0) found) (below : IsBelowWord u.system (row * W + k) found) where
  read_long : row * W + k < length u.seen
  read_long = let e = r.sized in omega (arith, there)

  held : k < length words
  held = let e = r.count in omega (arith, lt)

  reading_next : (start last : ℕ) → IsDoneBeside (k + 1) start last done (set words k found) → (start ≤ W) × (last ≤ W) → Reading W row from (k + 1) start last done (set words k found) v (looked u (row * W + k) found)
  reading_next start last beside range =
      let i : ℕ = row * W + k in record {
        more = still_looked v u i found r.more read_long has;
        sound = λ s. sound_look u i found read_long below (r.sound s);
        sized = length-set u.seen i found ∙ r.sized;
        count = length-set words k found ∙ r.count;
        empty = λ j past. get_or-set_other words k j found 0 (λ e. let p = past in omega arith) ∙ r.empty j (omega arith);
        own = λ j lt' b h. elim (cases_eq j k) [
          | inl e ↦ subst (λ (m : ℕ). bit_at (get_or (set u.seen i found) (row * W + m) 0) b ≡ 1) (sym e)
              (ap (λ (x : ℕ). bit_at x b) (get_or-set_same u.seen i found 0 read_long ∙ sym (get_or-set_same words k found 0 held)) ∙ subst (λ (m : ℕ). bit_at (get_or (set words k found) m 0) b ≡ 1) e h)
          | inr ne ↦ ap (λ (x : ℕ). bit_at x b) (get_or-set_other u.seen i (row * W + j) found 0 (λ e. ne (same_from_place row j row k W lt' lt e).1))
              ∙ r.own j lt' b (ap (λ (x : ℕ). bit_at x b) (sym (get_or-set_other words k j found 0 ne)) ∙ h)
        ];
        read = λ j after lt' b h. elim (cases_eq j k) [
          | inl e ↦ subst (λ (m : ℕ). bit_at (get_or (set words k found) m 0) b ≡ 1) (sym e)
              (ap (λ (x : ℕ). bit_at x b) (get_or-set_same words k found 0 held) ∙ has b (r.more.seen i b (subst (λ (m : ℕ). bit_at (get_or v.seen (row * W + m) 0) b ≡ 1) e h)))
          | inr ne ↦ ap (λ (x : ℕ). bit_at x b) (get_or-set_other words k j found 0 ne) ∙ r.read j after (omega arith) b h
        ];
        beside = beside;
        range = range;
      }

  -- it has something new
  pub reading_new : (start : ℕ) → start ≤ first → start ≤ k → Reading W row from (k + 1) start (k + 1) done (set words k found) v (looked u (row * W + k) found)
  reading_new start one other = reading_next start (k + 1)
      (λ j lt' out. elim out [
        | inl before ↦ (let ne : j ≢ k = λ e. omega arith in λ b h. r.beside j (omega arith) (inl (omega arith)) b (ap (λ (x : ℕ). bit_at x b) (sym (get_or-set_other words k j found 0 ne)) ∙ h))
        | inr past ↦ absurd (omega arith)
      ])
      ((let f = r.range.0 in omega arith), (let l = lt in omega arith))

  -- it has nothing new
  pub reading_old : found < 2 ^ 64 → get_or done k 0 < 2 ^ 64 → new_bits (get_or done k 0) found ≡ 0 → Reading W row from (k + 1) first end done (set words k found) v (looked u (row * W + k) found)
  reading_old small held_small none = reading_next first end
      (λ j lt' out b h. elim (cases_eq j k) [
        | inl e ↦ subst (λ (m : ℕ). bit_at (get_or done m 0) b ≡ 1) (sym e)
            (all_done (get_or done k 0) found b held_small small none (ap (λ (x : ℕ). bit_at x b) (sym (get_or-set_same words k found 0 held)) ∙ subst (λ (m : ℕ). bit_at (get_or (set words k found) m 0) b ≡ 1) e h))
        | inr ne ↦ r.beside j (omega arith) out b (ap (λ (x : ℕ). bit_at x b) (sym (get_or-set_other words k j found 0 ne)) ∙ h)
      ])
      r.range

-- k words of the row were looked at, and have no more than is done
pub record Searching (W row k : ℕ) (done : List ℕ) (v u : View) : Type 0 where
  pub more : OnlyLooked v u
  pub sound : IsSound v → IsSound u
  pub sized : length u.seen ≡ length v.seen
  pub others : (other j : ℕ) → other ≢ row → j < W → get_or u.seen (other * W + j) 0 ≡ get_or v.seen (other * W + j) 0
  pub none : (j : ℕ) → j < k → Within (get_or u.seen (row * W + j) 0) (get_or done j 0)

pub searching_start : (W row : ℕ) (done : List ℕ) (v : View) → Searching W row 0 done v v
searching_start W row done v = record { more = nothing_looked v; sound = λ s. s; sized = refl; others = λ other j ne lt. refl; none = λ j lt. absurd (omega arith) }

-- one word more was looked at
module _ (W row k found : ℕ) (done : List ℕ) (v u : View) (s : Searching W row k done v u) (lt : k < W) (there : row * W + k < length v.seen)
    (has : Within (get_or u.seen (row * W + k) 0) found) (below : IsBelowWord u.system (row * W + k) found) where
  long : row * W + k < length u.seen
  long = let e = s.sized in omega (arith, there)

  pub next_more : OnlyLooked v (looked u (row * W + k) found)
  next_more = still_looked v u (row * W + k) found s.more long has

  pub next_sound : IsSound v → IsSound (looked u (row * W + k) found)
  next_sound sound = sound_look u (row * W + k) found long below (s.sound sound)

  pub next_others : (other j : ℕ) → other ≢ row → j < W → get_or (looked u (row * W + k) found).seen (other * W + j) 0 ≡ get_or v.seen (other * W + j) 0
  next_others other j ne lt' = get_or-set_other u.seen (row * W + k) (other * W + j) found 0 (λ e. ne (same_from_place other j row k W lt' lt e).0) ∙ s.others other j ne lt'

  -- it has no more than is done
  pub searching_next : found < 2 ^ 64 → get_or done k 0 < 2 ^ 64 → new_bits (get_or done k 0) found ≡ 0 → Searching W row (k + 1) done v (looked u (row * W + k) found)
  searching_next small held nothing = record {
    more = next_more;
    sound = next_sound;
    sized = length-set u.seen (row * W + k) found ∙ s.sized;
    others = next_others;
    none = λ j lt'. elim (cases_eq j k) [
      | inl e ↦ λ b h.
          (let bit : bit_at found b ≡ 1 = ap (λ (x : ℕ). bit_at x b) (sym (get_or-set_same u.seen (row * W + k) found 0 long)) ∙ subst (λ (m : ℕ). bit_at (get_or (set u.seen (row * W + k) found) (row * W + m) 0) b ≡ 1) e h in
          elim (cases_eq (bit_at (get_or done k 0) b) 1) [
            | inl was ↦ subst (λ (m : ℕ). bit_at (get_or done m 0) b ≡ 1) (sym e) was
            | inr lacks ↦ absurd (let z = bit_at-zero b in let o = done_or_new (get_or done k 0) found b held small bit lacks in let q : bit_at 0 b ≡ 1 = ap (λ x. bit_at x b) (sym nothing) ∙ o in omega arith)
          ])
      | inr ne ↦ λ b h. s.none j (omega arith) b (ap (λ (x : ℕ). bit_at x b) (sym (get_or-set_other u.seen (row * W + k) (row * W + j) found 0 (λ e. ne (same_from_place row j row k W (omega arith) lt e).1))) ∙ h)
    ];
  }

  -- it has
  pub found_more : new_bits (get_or done k 0) found ≢ 0 → (j : ℕ) × (j < W) × (new_bits (get_or done j 0) (get_or (looked u (row * W + k) found).seen (row * W + j) 0) ≢ 0)
  found_more some = (k, lt, λ z. some (ap (λ (x : ℕ). new_bits (get_or done k 0) x) (sym (get_or-set_same u.seen (row * W + k) found 0 long)) ∙ z))
