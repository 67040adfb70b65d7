use Rattle.std.proofs.Common.{ℕ, ◌+◌, ◌*◌, List, get_or, ap, ◌∙◌}
use Rattle.new_members.proofs.Bits.{row_has}
use Rattle.new_members.proofs.words.row_words.Goals as goal

pub returns-clause-has : goal.returns-clause-has
returns-clause-has c =
    let rows = c.args.rows.now in
    row_has rows c.args.row c.part.result.now c.part.ensures.sized
    (λ k lt. c.part.ensures.words k lt ∙ ap (λ (xs : List ℕ). get_or xs (c.args.row * rows.width + k) 0) c.as_slice.ensures)
