use Rattle.std.proofs.Common.{ℕ, ◌++◌, [], ◌∷◌, List, take, get_or, sym, ap, ◌∙◌, append-nil}
use Rattle.std.proofs.lemmas.Grind.{flat_map-append}
use Rattle.std.proofs.lemmas.List.{take_more}
use Rattle.side_reports.specs.whole_rows.Expanded.{row_words, words_of}
use Rattle.side_reports.proofs.whole_rows.words.words_of.Goals as goal

pub loop-row-preserved : goal.loop-row-preserved
loop-row-preserved c =
    let rows = c.args.rows.now in
    let list : List ℕ = c.args.list.now in
    let i : ℕ = c.loop-row.row-index in
    let last : List ℕ = row_words rows (get_or list i 0) in
    c.in_ok-add_row.ensures
    ∙ (ap (λ (ws : List ℕ). ws ++ last) c.loop-row.invariant
    ∙ (ap (λ (ws : List ℕ). words_of rows (take i list) ++ ws) (sym (append-nil last))
    ∙ (sym (flat_map-append (row_words rows) (take i list) (get_or list i 0 ∷ []))
    ∙ ap (words_of rows) (sym (take_more list i 0 c.loop-row-test.true)))))
