use Rattle.std.proofs.Common.{◌<◌, ◌≤◌, ◌*◌, ◌∙◌, ap, arith}
use Rattle.sol_model.specs.Families.{room_left}
use Rattle.sol_model.proofs.Growing.{joined_next}
use Rattle.sol_model.proofs.Shown.{within_shown}
use Rattle.mod_ref.proofs.Rising.{room_by}
use Rattle.mod_ref.proofs.spreading.add_row.Goals as goal

pub loop-i-preserved : goal.loop-i-preserved
loop-i-preserved c =
    let inv = c.loop-i.invariant in
    let old = c.args.rows.now in
    let now = c.loop-i.rows in
    let new = c.join_word-more.new.rows in
    let join = c.join_word-more.ensures in
    record {
      width = join.width ∙ inv.width;
      joined = rw (join.words, c.word_at-word.ensures) (joined_next old.width old.words now.words c.args.from c.args.to c.loop-i.i c.loop-i-test.true c.requires.to inv.joined);
      same = λ off. let both = c.either-changed.ensures.no off in join.same both.1 ∙ inv.same both.0;
      less_room = λ on. room_by c.loop-i.changed c.join_word-more.result (room_left old) (room_left now) (room_left new) (c.either-changed.ensures.yes on) inv.less_room (λ off. ap room_left (inv.same off)) join.less_room (λ off. ap room_left (join.same off));
    }

pub returns-clause-added : goal.returns-clause-added
returns-clause-added c =
    let done : c.args.rows.now.width ≤ c.loop-i.i = omega arith in
    let joined = c.loop-i.invariant.joined in
    rw c.loop-i.invariant.width record {
      added = λ location h.
          let within = within_shown c.args.rows.now.width c.args.rows.now.words c.args.from location h in
          let below : location < 64 * c.loop-i.i = omega arith in
          joined.added location below h;
      kept = joined.kept;
      nothing_else = joined.nothing_else;
    }
