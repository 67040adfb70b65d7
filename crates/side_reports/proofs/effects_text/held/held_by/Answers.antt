use Rattle.std.proofs.Common.{◌≤◌, ◌+◌, ◌*◌, ◌++◌, ℕ, List, Vec, Global, sym, ◌∙◌, ap, arith}
use Rattle.std.specs.List.{filter, range_with_len}
use Rattle.sol_model.specs.Families.{shown}
use Rattle.call_graph.proofs.row_members.Ranges.{at_most, filter_short, filter_split}
use Rattle.call_graph.proofs.row_members.Bits.{word_none}
use Rattle.side_reports.proofs.effects_text.held.held_by.Goals as goal
use Rattle.side_reports.proofs.effects_text.held.held_by.Goals.{then-word_of-ne0+in_ok-push_word, else-word_of-ne0}

pub loop-number-preserved : goal.loop-number-preserved
loop-number-preserved c =
    let p = shown c.args.rows.now.width c.args.rows.now.words c.args.row in
    let n = c.loop-number.number in
    elim c.if-word_of-ne0.branch [
      | then-word_of-ne0+in_ok-push_word w ↦ ap (λ (v : Vec ℕ Global). v.items) w.held-is
          ∙ (w.in_ok-push_word.ensures
          ∙ (ap (λ (xs : List ℕ). xs ++ filter p (range_with_len (64 * n) 64)) c.loop-number.invariant
          ∙ sym (filter_split p 0 (64 * n) 64 (64 * n) (64 * (n + 1)) (omega arith) (omega arith))))
      | else-word_of-ne0 w ↦ ap (λ (v : Vec ℕ Global). v.items) w.held-is
          ∙ word_none c.args.rows.now.width c.args.rows.now.words c.args.row n c.word_of.result c.loop-number.held.items c.loop-number-test.true c.word_of.ensures w.if-word_of-ne0.false c.loop-number.invariant
    ]

pub returns : goal.returns
returns c =
    let past = c.loop-number-test.false in
    let wide = c.requires.wide in
    let le : c.args.count ≤ 64 * c.loop-number.number = omega arith in
    c.loop-number.invariant ∙ filter_short (shown c.args.rows.now.width c.args.rows.now.words c.args.row) c.args.count (64 * c.loop-number.number) le
    (at_most (shown c.args.rows.now.width c.args.rows.now.words c.args.row) c.args.count (λ k has. c.requires.known k has))
