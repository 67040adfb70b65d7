use Rattle.std.proofs.Common.{◌≡◌, ◌≤◌, ◌<◌, ℕ, inl, inr, arith}
use Rattle.round_settling.proofs.extent.done_words.Goals as goal

pub returns-clause-beside : goal.returns-clause-beside
returns-clause-beside c k lt out = (
  c.extent_at-held.result,
  c.extent_at-held.ensures,
  elim out [
    | inl early ↦ inl (let m = c.min.ensures in omega arith)
    | inr past ↦ inr (let m = c.min-2.ensures in omega arith)
  ],
)
