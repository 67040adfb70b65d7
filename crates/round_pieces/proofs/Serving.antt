-- What the turns of one seat tell together.
use Rattle.std.proofs.Common.{◌≡◌, ◌⊎◌, ℕ, zero, suc, ◌+◌, ◌*◌, ◌/◌, ◌%◌, ◌<◌, ◌≤◌, ◌^◌, List, [], ◌∷◌, ◌++◌, length, get_or, map, option_map, slice_get, Some, Contains, refl, sym, ap, ◌∙◌, subst, inl, inr, arith, length-append, mul-le-mul_right}
use Rattle.std.specs.Int.{bit_at}
use Rattle.std.proofs.lemmas.Bool.{cases_eq, cases_lt}
use Rattle.std.proofs.lemmas.Nat.Bits.{bit_at-zero, bit_at_above}
use Rattle.std.proofs.lemmas.Option.{slice_get_past, slice_get-map}
use Rattle.std.proofs.lemmas.List.Elements.{Contains-append_cases, Contains-append_left, Contains-append_right}
use Rattle.std.proofs.lemmas.List.{get_or_past, length-map}
use Rattle.edge_book.proofs.Targets.{only_one}
use Rattle.sol_model.specs.declared.system.System.{System}
use Rattle.sol_model.specs.Families.{Family, Has, shown}
use Rattle.sol_model.specs.Systems.{IsRow, width_of}
use Rattle.sol_model.proofs.Shown.{within_shown, bit_shown, shown_from_bit}
use Rattle.sol_model.proofs.Words.{bit_member}
use Rattle.set_rows.specs.declared.view.View.{View}
use Rattle.set_rows.specs.Views.{OnlyAdded, known}
use Rattle.set_rows.proofs.Adding.{nothing_added, added_twice, known_more}
use Rattle.round_pieces.specs.declared.delta_prop.turn.Turn.{Turn}
use Rattle.round_pieces.specs.delta_prop.Deltas.{IsSeenOf}
use Rattle.round_pieces.specs.delta_prop.Turns.{IsTurn}
use Rattle.new_members.specs.News.{IsIn}
use Rattle.round_pieces.specs.Rounds.{IsPiece, HasServed}
use Rattle.round_pieces.specs.Turns.{AreTurns, row_of}

pub known_as : (v : View) (S : System) → v.system ≡ S → known v ≡ shown (width_of S) v.seen
known_as v S e = ap (λ (T : System). shown (width_of T) v.seen) e

-- a location that words have is within them
pub in_within : (W location : ℕ) (words : List ℕ) → length words ≤ W → IsIn words location → location < 64 * W
in_within W location words e h = elim (cases_lt location (64 * W)) [
  | inl lt ↦ lt
  | inr ge ↦ absurd (let past : get_or words (location / 64) 0 ≡ 0 = get_or_past words (location / 64) 0 (omega arith) in
      let z = bit_at-zero (location % 64) in let bit : bit_at 0 (location % 64) ≡ 1 = ap (λ (x : ℕ). bit_at x (location % 64)) (sym past) ∙ h in omega arith)
]

-- words that were seen of a row
pub in_seen : (S : System) (u : View) (row location : ℕ) (words : List ℕ) → u.system ≡ S → length words ≤ width_of S → IsSeenOf (width_of S) u.seen row words → IsIn words location → Has (known u) row location
in_seen S u row location words e sized seen h =
    let W : ℕ = width_of S in
    let small = in_within W location words sized h in
    subst (λ (F : Family). Has F row location) (sym (known_as u S e)) (shown_from_bit W u.seen row location small (seen (location / 64) (omega arith) (location % 64) h))

-- what a row of a family has was seen of a row, word by word
pub seen_at : (S : System) (u : View) (row to : ℕ) (words have : List ℕ) → u.system ≡ S → ((k : ℕ) → get_or words k 0 < 2 ^ 64)
    → ((k : ℕ) → k < width_of S → get_or words k 0 ≡ get_or have (row * width_of S + k) 0) → ((location : ℕ) → Has (shown (width_of S) have) row location → Has (known u) to location)
    → IsSeenOf (width_of S) u.seen to words
seen_at S u row to words have e fits same seen k lt b h =
    let W : ℕ = width_of S in
    elim (cases_lt b 64) [
      | inl small ↦ (
          let there : Has (shown W have) row (64 * k + b) = bit_member W have row k b lt small (ap (λ (x : ℕ). bit_at x b) (sym (same k lt)) ∙ h) in
          let got : Has (shown W u.seen) to (64 * k + b) = subst (λ (F : Family). Has F to (64 * k + b)) (known_as u S e) (seen (64 * k + b) there) in
          let at : (64 * k + b) / 64 ≡ k = omega arith in
          let bit : (64 * k + b) % 64 ≡ b = omega arith in
          subst (λ (n : ℕ). bit_at (get_or u.seen (to * W + k) 0) n ≡ 1) bit (subst (λ (n : ℕ). bit_at (get_or u.seen (to * W + n) 0) ((64 * k + b) % 64) ≡ 1) at (bit_shown W u.seen to (64 * k + b) got)))
      | inr large ↦ absurd (let z = bit_at_above (get_or words k 0) 64 b (fits k) large in omega arith)
    ]

-- the same for the targets
module _ (S : System) (book : List (ℕ × ℕ)) (done : ℕ → List ℕ) where
  pub turns_push : (ts : List Turn) (v u w : View) (turn : Turn) → AreTurns (width_of S) book done v ts u → IsTurn (width_of S) book turn.row (done turn.row) u w turn → OnlyAdded u w → AreTurns (width_of S) book done v (ts ++ turn ∷ []) w
  turns_push [] v u w turn h t more = subst (λ (x : View). AreTurns (width_of S) book done x (turn ∷ []) w) h (w, t, more, refl)
  turns_push (first ∷ ts) v u w turn h t more = (h.0, h.1, h.2, turns_push ts h.0 u w turn h.3 t more)

  pub turns_added : (ts : List Turn) (v w : View) → AreTurns (width_of S) book done v ts w → OnlyAdded v w
  turns_added [] v w h = subst (OnlyAdded v) (sym h) (nothing_added v)
  turns_added (turn ∷ ts) v w h = added_twice v h.0 w h.2 (turns_added ts h.0 w h.3)

  piece_of : (v u w : View) (turn : Turn) → v.system ≡ S → OnlyAdded v u → OnlyAdded u w → IsRow S turn.row → IsTurn (width_of S) book turn.row (done turn.row) v u turn → IsPiece S book w turn
  piece_of v u w turn e first then in_rows t =
      let here : u.system ≡ S = first.system ∙ e in record {
        row = in_rows;
        short = t.short;
        sized = t.sized;
        done = λ location h. known_more u w then turn.row location (in_seen S u turn.row location turn.done.items here t.short t.done_seen h);
        targets = λ to location edge h. known_more u w then to location (in_seen S u to location turn.done.items here t.short (t.targets to edge) h);
      }

  pub turns_served : (ts : List Turn) (v w : View) → v.system ≡ S → ((turn : Turn) → Contains ts turn → IsRow S turn.row) → AreTurns (width_of S) book done v ts w → HasServed S book w ts
  turns_served [] v w e rows h turn c = absurd (let l = c.1 in omega arith)
  turns_served (first ∷ ts) v w e rows h turn c =
      let u : View = h.0 in
      let more : OnlyAdded v u = h.2 in
      let after : OnlyAdded u w = turns_added ts u w h.3 in
      elim (Contains-append_cases (first ∷ []) ts turn c) [
        | inl here ↦ subst (IsPiece S book w) (only_one first turn here) (piece_of v u w first e more after (rows first (Contains-append_left (first ∷ []) ts first (0, omega arith, refl))) h.1)
        | inr there ↦ turns_served ts u w (more.system ∙ e) (λ other d. rows other (Contains-append_right (first ∷ []) ts other d)) h.3 turn there
      ]

-- the rows of a worker's share, one more
pub share_push : (todo : List ℕ) (ts : List Turn) (turn : Turn) (worker workers piece : ℕ) → piece ≡ worker + length ts * workers → slice_get todo piece ≡ Some turn.row
    → ((i : ℕ) → i < length ts → slice_get (map row_of ts) i ≡ slice_get todo (worker + i * workers)) → (i : ℕ) → i < length (ts ++ turn ∷ []) → slice_get (map row_of (ts ++ turn ∷ [])) i ≡ slice_get todo (worker + i * workers)
share_push todo ts turn worker workers piece e at so i lt = elim (cases_lt i (length ts)) [
  | inl less ↦ slice_get-map row_of (ts ++ turn ∷ []) i ∙ ap (option_map row_of) (front ts turn i less) ∙ sym (slice_get-map row_of ts i) ∙ so i less
  | inr ge ↦ (let n : i ≡ length ts = (let l = length-append ts (turn ∷ []) in omega arith) in
      slice_get-map row_of (ts ++ turn ∷ []) i ∙ ap (λ (j : ℕ). option_map row_of (slice_get (ts ++ turn ∷ []) j)) n ∙ ap (option_map row_of) (last ts turn)
      ∙ sym at ∙ ap (slice_get todo) (e ∙ ap (λ (j : ℕ). worker + j * workers) (sym n)))
]
  where
    front : (ts : List Turn) (turn : Turn) (i : ℕ) → i < length ts → slice_get (ts ++ turn ∷ []) i ≡ slice_get ts i
    front [] turn i lt = absurd (omega arith)
    front (t ∷ ts) turn zero lt = refl
    front (t ∷ ts) turn (suc i) lt = front ts turn i (omega arith)

    last : (ts : List Turn) (turn : Turn) → slice_get (ts ++ turn ∷ []) (length ts) ≡ Some turn
    last [] turn = refl
    last (t ∷ ts) turn = last ts turn

pub share_done : (todo : List ℕ) (ts : List Turn) (worker workers piece : ℕ) → piece ≡ worker + length ts * workers → length todo ≤ piece
    → ((i : ℕ) → i < length ts → slice_get (map row_of ts) i ≡ slice_get todo (worker + i * workers)) → (i : ℕ) → slice_get (map row_of ts) i ≡ slice_get todo (worker + i * workers)
share_done todo ts worker workers piece e past so i = elim (cases_lt i (length ts)) [
  | inl less ↦ so i less
  | inr ge ↦ slice_get_past (map row_of ts) i (let n = length-map ts row_of in omega arith)
      ∙ sym (slice_get_past todo (worker + i * workers) (let m : length ts * workers ≤ i * workers = mul-le-mul_right workers ge in omega arith))
]
