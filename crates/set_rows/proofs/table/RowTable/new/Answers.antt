use Rattle.std.proofs.Common.{◌+◌, ◌*◌, ◌∙◌, ℕ, ap, replicate}
use Rattle.set_rows.proofs.Keeps.{opens}
use Rattle.set_rows.proofs.table.RowTable.new.Goals as goal

pub of_words-requires : goal.of_words-requires
of_words-requires c = opens c.args.system.now c.as_slice.result.now c.requires (c.as_slice.ensures.value ∙ c.in_ok-words.ensures.items_if_clones_equal (λ y e. e) ∙ ap (λ (width : ℕ). replicate (c.args.system.now.rows * width + 2) 0) c.row_width-width.ensures)
