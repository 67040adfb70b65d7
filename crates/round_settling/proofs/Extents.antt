-- What is done of rows stays in their extents.
use Rattle.std.proofs.Common.{◌≡◌, ◌⊎◌, ◌↔◌, ℕ, zero, suc, ◌+◌, ◌*◌, ◌/◌, ◌%◌, ◌<◌, ◌≤◌, ◌^◌, List, [], ◌∷◌, Some, get_or, slice_get, slice_set, refl, sym, ap, ◌∙◌, subst, inl, inr, arith}
use Rattle.std.specs.Int.{bit_at}
use Rattle.std.proofs.lemmas.Bool.{cases_eq, cases_lt}
use Rattle.std.proofs.lemmas.Nat.Bits.{bit_at_above}
use Rattle.std.proofs.lemmas.Option.{none-some}
use Rattle.sol_model.specs.declared.rows.Rows.{Rows}
use Rattle.sol_model.specs.Families.{Has, members}
use Rattle.sol_model.specs.Words.{Within}
use Rattle.round_pieces.specs.declared.delta_prop.turn.Turn.{Turn}
use Rattle.new_members.specs.News.{AreAmong, IsIn}
use Rattle.round_settling.specs.declared.extent.Extent.{Extent}
use Rattle.round_settling.specs.Extents.{AreExtents, IsOutside, IsWidened}

same_extent : (a b : Extent) → Some a ≡ Some b → a ≡ b
same_extent a b h = cc

-- what stands in a list where one number was set
set_gives : (xs : List Extent) (i r : ℕ) (x now : Extent) → slice_get (slice_set xs i x) r ≡ Some now → ((r ≡ i) × (x ≡ now)) ⊎ ((r ≡ i → ⊥) × (slice_get xs r ≡ Some now))
set_gives [] i r x now h = absurd (none-some now h)
set_gives (y ∷ xs) zero zero x now h = inl (refl, same_extent x now h)
set_gives (y ∷ xs) zero (suc r) x now h = inr ((λ e. omega arith), h)
set_gives (y ∷ xs) (suc i) zero x now h = inr ((λ e. omega arith), h)
set_gives (y ∷ xs) (suc i) (suc r) x now h = elim (set_gives xs i r x now h) [
  | inl here ↦ inl (ap suc here.0, here.1)
  | inr there ↦ inr ((λ e. there.0 (omega arith)), there.1)
]

-- one extent got more words
pub widened : (old : List Extent) (row first end : ℕ) (held new : Extent) → slice_get old row ≡ Some held → (new.first ≤ held.first) × (held.end ≤ new.end) → (new.first ≤ first) × (end ≤ new.end)
    → IsWidened old (slice_set old row new) row first end
widened old row first end held new at keeps takes r now h = elim (set_gives old row r new now h) [
  | inl here ↦ (
    held,
    ap (slice_get old) here.0 ∙ at,
    subst (λ (x : Extent). x.first ≤ held.first) here.1 keeps.0,
    subst (λ (x : Extent). held.end ≤ x.end) here.1 keeps.1,
    λ e. subst (λ (x : Extent). (x.first ≤ first) × (end ≤ x.end)) here.1 takes,
  )
  | inr there ↦ (now, there.1, (omega arith), (omega arith), λ e. absurd (there.0 e))
]

-- a turn's new members are in the extent of its row
pub extents_taken : (done after : Rows) (old new : List Extent) (turn : Turn) → AreExtents done old → IsWidened old new turn.row turn.first turn.end
    → AreAmong (members done) turn.row turn.done.items turn.first turn.end
    → ((row location : ℕ) → (Has (members after) row location ↔ (Has (members done) row location ⊎ ((row ≡ turn.row) × IsIn turn.done.items location))))
    → AreExtents after new
extents_taken done after old new turn are more among has row location extent h at =
    let was = more row extent at in
    let held : Has (members done) row location → (extent.first ≤ location / 64) × (location / 64 < extent.end) = λ d. (let p = are row location was.0 d was.1 in ((let a = was.2 in let b = p.0 in omega arith), (let a = was.3 in let b = p.1 in omega arith))) in
    elim ((has row location).0 h) [
      | inl before ↦ held before
      | inr now ↦ (let here : Has (members done) turn.row location → Has (members done) row location = λ d. subst (λ (n : ℕ). Has (members done) n location) (sym now.0) d in
          elim (cases_lt (location / 64) turn.first) [
            | inl early ↦ held (here (among location now.1 (inl early)))
            | inr from ↦ elim (cases_lt (location / 64) turn.end) [
              | inl below ↦ (let w = was.4 now.0 in ((let a = w.0 in omega arith), (let b = w.1 in omega arith)))
              | inr past ↦ held (here (among location now.1 (inr past)))
            ]
          ])
    ]

-- the words of a row have nothing outside of its extent
pub nothing_outside : (done : Rows) (extents : List Extent) (row k : ℕ) (words nothing : List ℕ) → AreExtents done extents → ((location : ℕ) → IsIn words location → Has (members done) row location)
    → get_or words k 0 < 2 ^ 64 → IsOutside extents row k → Within (get_or words k 0) (get_or nothing k 0)
nothing_outside done extents row k words nothing are has small out b h = elim (cases_lt b 64) [
  | inl less ↦ absurd (let place : (64 * k + b) / 64 ≡ k = omega arith in
      let bit : (64 * k + b) % 64 ≡ b = omega arith in
      let there : IsIn words (64 * k + b) = subst (λ (n : ℕ). bit_at (get_or words n 0) ((64 * k + b) % 64) ≡ 1) (sym place) (subst (λ (n : ℕ). bit_at (get_or words k 0) n ≡ 1) (sym bit) h) in
      let inside = are row (64 * k + b) out.0 (has (64 * k + b) there) out.1 in
      let low : out.0.first ≤ (64 * k + b) / 64 = inside.0 in
      let high : (64 * k + b) / 64 < out.0.end = inside.1 in
      elim out.2 [ inl early ↦ omega arith | inr past ↦ omega arith ])
  | inr ge ↦ absurd (let z = bit_at_above (get_or words k 0) 64 b small ge in omega arith)
]
