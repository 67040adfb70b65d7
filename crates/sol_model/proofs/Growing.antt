-- Rows that grow by what the rules demand, step by step.
use Rattle.std.proofs.Common.{◌≡◌, ℕ, ◌+◌, ◌*◌, ◌/◌, ◌%◌, ◌-◌, ◌^◌, ◌<◌, ◌≤◌, List, length, set, get_or, bit_or, sum_by, ◌⊎◌, inl, inr, sym, ◌∙◌, ap, subst, arith, length-set}
use Rattle.std.specs.Int.{bit_at}
use Rattle.std.proofs.lemmas.Bool.{cases_lt}
use Rattle.std.proofs.lemmas.Nat.{same_from_place, le_or_l}
use Rattle.std.proofs.lemmas.List.Elements.{All-contains}
use Rattle.std.proofs.lemmas.List.Sums.{sum_by-set}
use Rattle.sol_model.specs.declared.system.System.{System}
use Rattle.sol_model.specs.declared.rows.Rows.{Rows}
use Rattle.sol_model.specs.Families.{Family, Has, IsInside, Adds, AddsAll, shown, members, room_left}
use Rattle.sol_model.specs.Growth.{IsPart, Grows}
use Rattle.sol_model.specs.Solutions.{IsEdge, IsGiven}
use Rattle.sol_model.specs.Systems.{IsValid, IsRow, IsConstraintValid}
use Rattle.sol_model.proofs.Shown.{bit_shown, within_shown}
use Rattle.sol_model.proofs.Words.{or_keeps, or_adds, or_has, bit_has}
use Rattle.sol_model.proofs.Monotone.{more_edge, given_in_closed, IsBelow-added}
use Rattle.sol_model.proofs.InRange.{edge_rows}
use Rattle.sol_model.proofs.Fitting.{fact_known, given_known, Fits-added}

-- ---- one row added to another, word by word
-- words in which the words before i of one row were added to another
pub record JoinedBelow (width : ℕ) (old now : List ℕ) (from to i : ℕ) : Type 0 where
  pub size : length now ≡ length old
  pub added : (location : ℕ) → location < 64 * i → Has (shown width old) from location → Has (shown width now) to location
  pub kept : IsInside (shown width old) (shown width now)
  pub nothing_else : (r l : ℕ) → Has (shown width now) r l → Has (shown width old) r l ⊎ ((r ≡ to) × Has (shown width old) from l)
  pub room : sum_by (λ word. 2 ^ 64 - word) now ≤ sum_by (λ word. 2 ^ 64 - word) old

pub joined_next : (width : ℕ) (old now : List ℕ) (from to i : ℕ) → i < width → to * width + width ≤ length old → JoinedBelow width old now from to i
    → JoinedBelow width old (set now (to * width + i) (bit_or (get_or now (to * width + i) 0) (get_or now (from * width + i) 0))) from to (i + 1)
joined_next width old now from to i inside there so_far =
    let at : ℕ = to * width + i in
    let mask : ℕ = get_or now (from * width + i) 0 in
    let next : List ℕ = set now at (bit_or (get_or now at 0) mask) in
    let held : at < length now = let size = so_far.size in omega arith in
    record {
      size = length-set now at _ ∙ so_far.size;
      added = λ location below has. elim (cases_lt location (64 * i)) [
        | inl lt ↦ or_keeps width now at mask held to location (so_far.added location lt has)
        | inr ge ↦
            (let here : location / 64 ≡ i = omega arith in
            let has_now = so_far.kept from location has in
            or_adds width now at mask to location held (
              within_shown width now from location has_now,
              ap (λ j. to * width + j) here,
              ap (λ j. bit_at (get_or now (from * width + j) 0) (location % 64)) (sym here) ∙ bit_shown width now from location has_now,
            ))
      ];
      kept = λ r l h. or_keeps width now at mask held r l (so_far.kept r l h);
      nothing_else = λ r l h. elim (or_has width now at mask r l held h) [
        | inl before ↦ so_far.nothing_else r l before
        | inr new ↦
            (let column : l / 64 < width = let within = new.0 in omega arith in
            let place = same_from_place r (l / 64) to i width column inside new.1 in
            let has_now : Has (shown width now) from l =
            bit_has width now from l new.0 (ap (λ j. bit_at (get_or now (from * width + j) 0) (l % 64)) place.1 ∙ new.2) in
            elim (so_far.nothing_else from l has_now) [ inl before ↦ inr (place.0, before) | inr other ↦ inr (place.0, other.1) ])
      ];
      room =
          let total = sum_by-set (λ word. 2 ^ 64 - word) now at (bit_or (get_or now at 0) mask) 0 held in
          let up : get_or now at 0 ≤ bit_or (get_or now at 0) mask = le_or_l (get_or now at 0) mask in
          let before = so_far.room in
          omega arith;
    }

-- ---- rows that grow
-- what is demanded from some facts is demanded from more
pub edge_more : (system : System) (F G : Family) (a b : ℕ) → IsInside F G → IsEdge system F a b → IsEdge system G a b
edge_more system F G a b inside edge = (edge.0, edge.1, more_edge system F G inside edge.0 a b edge.2)

module _ (system : System) (valid : IsValid system) (rows : Rows) (part : IsPart system rows) where
  -- both rows of an edge are rows
  pub edge_known : (a b : ℕ) → IsEdge system (members rows) a b → IsRow system a × IsRow system b
  edge_known a b edge =
      edge_rows system valid (members rows) (fact_known system rows part.fits) edge.0 a b
      (All-contains (IsConstraintValid system) system.constraints edge.0 valid.constraints edge.1) edge.2

  pub grows_fact : (new : Rows) (row location : ℕ) → IsGiven system (members rows) row location → Adds (members rows) (members new) row location → new.width ≡ rows.width → length new.words ≡ length rows.words → room_left new < room_left rows → Grows system rows new
  grows_fact new row location given adds width words room = record {
    part = record {
      fits = Fits-added system rows part.fits new row location (given_known system rows part.fits valid row location given).1 adds width words;
      below = IsBelow-added system (members rows) (members new) row location part.below given adds;
    };
    kept = adds.kept;
    room = omega arith;
  }

  pub grows_edge : (new : Rows) (from to : ℕ) → IsEdge system (members rows) from to → AddsAll (members rows) (members new) from to → new.width ≡ rows.width → length new.words ≡ length rows.words → room_left new ≤ room_left rows → Grows system rows new
  grows_edge new from to edge adds width words room = record {
    part = record {
      fits = record {
        width = width ∙ part.fits.width;
        words = words ∙ part.fits.words;
        no_others = λ r l h. elim (adds.nothing_else r l h) [ inl old ↦ part.fits.no_others r l old | inr new_fact ↦ part.fits.no_others from l new_fact.1 ];
      };
      below = λ G closed r l h. elim (adds.nothing_else r l h) [
        | inl old ↦ part.below G closed r l old
        | inr new_fact ↦ subst (λ r'. Has G r' l) (sym new_fact.0)
            (given_in_closed system (members rows) G (part.below G closed) to l closed (edge.0, edge.1, inr (from, edge.2, new_fact.1)))
      ];
    };
    kept = adds.kept;
    room = room;
  }
