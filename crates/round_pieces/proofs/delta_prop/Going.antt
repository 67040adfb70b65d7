-- The step of a turn along the edges of the row.
use Rattle.std.proofs.Common.{◌≡◌, ℕ, ◌+◌, ◌*◌, ◌<◌, ◌≤◌, List, length, get_or, slice_get, Some, Contains, sym, ap, ◌∙◌, subst, inl, inr, arith, mul-add, mul-one}
use Rattle.std.specs.Int.{bit_at}
use Rattle.std.proofs.lemmas.Option.{same_Some}
use Rattle.std.proofs.lemmas.Bool.{cases_eq}
use Rattle.std.proofs.lemmas.List.{get_or_past}
use Rattle.sol_model.proofs.Members.{at_Contains}
use Rattle.set_rows.specs.declared.view.View.{View}
use Rattle.set_rows.specs.Views.{OnlyLooked, OnlyAdded}
use Rattle.set_rows.proofs.Adding.{added_twice}
use Rattle.edge_book.specs.Leaving.{targets_of}
use Rattle.edge_book.proofs.Targets.{target_listed}
use Rattle.round_pieces.specs.declared.delta_prop.turn.Turn.{Turn}
use Rattle.round_pieces.specs.delta_prop.Deltas.{gained, IsDoneBeside, IsSeenOf, IsSound}
use Rattle.round_pieces.specs.delta_prop.Turns.{IsTurn}
use Rattle.round_pieces.proofs.delta_prop.Readings.{no_bit}

pub looked_adds : (v w : View) → OnlyLooked v w → OnlyAdded v w
looked_adds v w l = record { system = l.system; ors = (let o = l.ors in omega arith); shuts = l.shuts; reads = l.reads; last = l.last; knows = l.knows; part = l.part; halvings = l.halvings; seen = l.seen }

-- the row has gone to the first i of its targets
pub record Going (W row i : ℕ) (to_rows done now : List ℕ) (v u : View) : Type 0 where
  pub more : OnlyAdded v u
  pub sound : IsSound v → IsSound u
  pub done_seen : IsSeenOf W u.seen row now
  pub targets : (j to : ℕ) → j < i → slice_get to_rows j ≡ Some to → IsSeenOf W u.seen to now
  pub ors : u.ors ≤ v.ors + gained W done now * i

pub going_start : (W row : ℕ) (to_rows done now : List ℕ) (v u : View) → OnlyLooked v u → (IsSound v → IsSound u) → IsSeenOf W u.seen row now → Going W row 0 to_rows done now v u
going_start W row to_rows done now v u more sound seen = record {
  more = looked_adds v u more;
  sound = sound;
  done_seen = seen;
  targets = λ j to lt at. absurd (omega arith);
  ors = (let o = more.ors in omega arith);
}

more_ors : (g n a b c : ℕ) → a ≤ b + g * n → c ≤ a + g → c ≤ b + g * (n + 1)
more_ors g n a b c h k = let s : g * (n + 1) ≡ g * n + g = mul-add g n 1 ∙ ap (λ x. g * n + x) (mul-one g) in omega arith

last_target : (to_rows : List ℕ) (i j to other : ℕ) → slice_get to_rows i ≡ Some to → j ≡ i → slice_get to_rows j ≡ Some other → other ≡ to
last_target to_rows i j to other at e there = same_Some other to (sym there ∙ ap (slice_get to_rows) e ∙ at)

-- an edge along which something went
pub going_carried : (W row i to : ℕ) (to_rows done now : List ℕ) (v u w : View) → Going W row i to_rows done now v u
    → slice_get to_rows i ≡ Some to → OnlyAdded u w → (IsSound u → IsSound w) → IsSeenOf W w.seen to now
    → w.ors ≤ u.ors + gained W done now → Going W row (i + 1) to_rows done now v w
going_carried W row i to to_rows done now v u w g at more sound seen ors = record {
  more = added_twice v u w g.more more;
  sound = λ s. sound (g.sound s);
  done_seen = λ k lt b h. more.seen (row * W + k) b (g.done_seen k lt b h);
  targets = λ j other lt there. elim (cases_eq j i) [
    | inl e ↦ subst (λ (n : ℕ). IsSeenOf W w.seen n now) (sym (last_target to_rows i j to other at e there)) seen
    | inr apart ↦ λ k lt' b h. more.seen (other * W + k) b (g.targets j other (omega arith) there k lt' b h)
  ];
  ors = more_ors (gained W done now) i u.ors v.ors w.ors g.ors ors;
}

pub going_done : (W row i : ℕ) (book : List (ℕ × ℕ)) (done : List ℕ) (turn : Turn) (v u : View) → turn.row ≡ row → length turn.done.items ≡ W → i ≡ length (targets_of row book)
    → IsDoneBeside W turn.first turn.end done turn.done.items → (turn.first ≤ W) × (turn.end ≤ W) → Going W row i (targets_of row book) done turn.done.items v u → IsTurn W book row done v u turn
going_done W row i book done turn v u is sized all beside range g = record {
  row_is = is;
  short = (omega arith);
  sized = λ lt. sized;
  done_seen = g.done_seen;
  targets = λ to has. let at = at_Contains (targets_of row book) to (target_listed row to book has) in g.targets at.0 to (let l = at.1 in omega arith) at.2;
  beside = beside;
  range = range;
  ors = subst (λ (n : ℕ). u.ors ≤ v.ors + gained W done turn.done.items * n) all g.ors;
}

-- a turn that tells of no word
pub going_without : (W row : ℕ) (book : List (ℕ × ℕ)) (done : List ℕ) (turn : Turn) (v u : View) → turn.row ≡ row → length turn.done.items ≡ 0 → (turn.first ≡ 0) × (turn.end ≡ 0) → OnlyLooked v u → IsTurn W book row done v u turn
going_without W row book done turn v u is none range more = record {
  row_is = is;
  short = (omega arith);
  sized = λ lt. absurd (let f = range.0 in let e = range.1 in omega arith);
  done_seen = λ k lt b h. absurd (nothing k b h);
  targets = λ to edge k lt b h. absurd (nothing k b h);
  beside = λ k lt out b h. absurd (nothing k b h);
  range = ((let f = range.0 in omega arith), (let e = range.1 in omega arith));
  ors = (let o = more.ors in omega arith);
}
  where
    nothing : (k b : ℕ) → bit_at (get_or turn.done.items k 0) b ≡ 1 → ⊥
    nothing k b h = no_bit (get_or turn.done.items k 0) b (get_or_past turn.done.items k 0 (omega arith)) h
