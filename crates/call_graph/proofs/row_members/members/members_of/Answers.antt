use Rattle.std.proofs.Common.{◌≡◌, ℕ, ◌+◌, ◌*◌, ◌/◌, ◌≤◌, Vec, Global, List, Contains, ◌↔◌, ap, sym, subst, ◌∙◌, arith}
use Rattle.sol_model.specs.Families.{Has, members, shown}
use Rattle.call_graph.proofs.row_members.Listed.{members_listed}
use Rattle.sol_model.specs.Systems.{location_count}
use Rattle.call_graph.proofs.row_members.Bits.{word_more, word_none}
use Rattle.call_graph.proofs.row_members.Ranges.{filter_short, at_most}
use Rattle.call_graph.proofs.row_members.members.members_of.Goals as goal
use Rattle.call_graph.proofs.row_members.members.members_of.Goals.{then-word-ne0+in_ok-list_bits, else-word-ne0}

pub loop-number-preserved : goal.loop-number-preserved
loop-number-preserved c =
    let rows = c.args.rows.now in
    elim c.if-word-ne0.branch [
      | then-word-ne0+in_ok-list_bits w ↦ ap (λ (v : Vec ℕ Global). v.items) w.list-is
          ∙ word_more rows.width rows.words c.args.row c.loop-number.number c.word_of-word.result c.loop-number.list.items w.list_bits.new.list.items c.loop-number-test.true c.word_of-word.ensures c.loop-number.invariant w.in_ok-list_bits.ensures
      | else-word-ne0 w ↦ ap (λ (v : Vec ℕ Global). v.items) w.list-is
          ∙ word_none rows.width rows.words c.args.row c.loop-number.number c.word_of-word.result c.loop-number.list.items c.loop-number-test.true c.word_of-word.ensures w.if-word-ne0.false c.loop-number.invariant
    ]

pub returns-clause-list : goal.returns-clause-list
returns-clause-list c =
    let rows = c.args.rows.now in
    let count : ℕ = location_count c.args.system.now in
    let past : rows.width ≤ c.loop-number.number = c.loop-number-test.false in
    let wide : rows.width ≡ (count + 63) / 64 = c.requires.fits.width in
    let le : count ≤ 64 * c.loop-number.number = omega arith in
    c.loop-number.invariant ∙ filter_short (shown rows.width rows.words c.args.row) count (64 * c.loop-number.number) le
    (at_most (shown rows.width rows.words c.args.row) count (λ k has. c.requires.fits.no_others c.args.row k has))

pub returns-clause-has : goal.returns-clause-has
returns-clause-has c =
    let S = c.args.system.now in
    let F = members c.args.rows.now in
    λ location. subst (λ (xs : List ℕ). Contains xs location ↔ Has F c.args.row location) (sym (returns-clause-list c))
    (members_listed S F c.args.row location (λ row l has. c.requires.fits.no_others row l has))
