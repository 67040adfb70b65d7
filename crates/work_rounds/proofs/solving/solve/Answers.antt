use Rattle.std.proofs.Common.{ℕ, replicate, ap, ◌∙◌}
use Rattle.work_rounds.proofs.solving.solve.Goals as goal

pub run-requires-clause-nothing : goal.run-requires-clause-nothing
run-requires-clause-nothing g c κs within =
    c.as_slice.ensures.value ∙ c.in_ok-nothing.ensures.items_if_clones_equal (λ y e. e) ∙ ap (λ (n : ℕ). replicate {A = ℕ} n 0) c.row_width.ensures
