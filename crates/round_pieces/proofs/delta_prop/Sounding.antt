-- What a seat has seen stays inside each closed family.
use Rattle.std.proofs.Common.{◌≡◌, ℕ, ◌<◌, ◌%◌, length, bit_or, inl, inr, subst, sym}
use Rattle.sol_model.specs.declared.system.System.{System}
use Rattle.sol_model.specs.Solutions.{IsGiven}
use Rattle.sol_model.specs.Systems.{width_of}
use Rattle.sol_model.specs.Words.{At}
use Rattle.sol_model.proofs.Monotone.{given_in_closed}
use Rattle.sol_model.proofs.Words.{set_has, from_or}
use Rattle.set_rows.specs.declared.view.View.{View}
use Rattle.set_rows.specs.Views.{IsBelowWord, looked, added, known}
use Rattle.round_pieces.specs.delta_prop.Deltas.{IsSound}

pub sound_look : (v : View) (word found : ℕ) → word < length v.seen → IsBelowWord v.system word found → IsSound v → IsSound (looked v word found)
sound_look v word found lt below sound G closed row location h = elim (set_has (width_of v.system) v.seen word found row location lt h) [
  | inl old ↦ sound G closed row location old
  | inr at ↦ below row location at G closed
]

pub sound_add : (v : View) (word mask found : ℕ) → word < length v.seen → IsBelowWord v.system word found
    → ((row location : ℕ) → At (width_of v.system) word mask row location → IsGiven v.system (known v) row location) → IsSound v → IsSound (added v word mask found)
sound_add v word mask found lt below given sound G closed row location h = elim (set_has (width_of v.system) v.seen word (bit_or found mask) row location lt h) [
  | inl old ↦ sound G closed row location old
  | inr at ↦ elim (from_or found mask (location % 64) at.2) [
    | inl there ↦ below row location (at.0, at.1, there) G closed
    | inr new ↦ given_in_closed v.system (known v) G (sound G closed) row location closed (given row location (at.0, at.1, new))
  ]
]

-- the same where the licence is of the table's system
pub sound_add_by : (S : System) (v : View) (word mask found : ℕ) → v.system ≡ S → word < length v.seen → IsBelowWord v.system word found
    → ((row location : ℕ) → At (width_of S) word mask row location → IsGiven S (known v) row location) → IsSound v → IsSound (added v word mask found)
sound_add_by S v word mask found e lt below given sound =
    sound_add v word mask found lt below (subst (λ (T : System). (row location : ℕ) → At (width_of T) word mask row location → IsGiven T (known v) row location) (sym e) given) sound
