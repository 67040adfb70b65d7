use Rattle.std.proofs.Common.{ℕ, List, Contains, sym, subst}
use Rattle.round_pieces.specs.Rounds.{AreRowsApart}
use Rattle.work_rounds.proofs.solving.one_round.Goals as goal

pub work_round-requires-clause-rows : goal.work_round-requires-clause-rows
work_round-requires-clause-rows g c κs within row h =
    c.requires.rows row ((c.in_ok-rows.ensures.rows row).0 (subst (λ (xs : List ℕ). Contains xs row) c.as_slice.ensures.value h))

pub work_round-requires-clause-once : goal.work_round-requires-clause-once
work_round-requires-clause-once g c κs within = subst AreRowsApart (sym c.as_slice.ensures.value) (c.in_ok-rows.ensures.once c.requires.once)
