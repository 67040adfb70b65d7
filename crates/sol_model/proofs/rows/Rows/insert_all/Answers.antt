use Rattle.std.proofs.Common.{◌*◌, ◌<◌, ◌≤◌, arith}
use Rattle.sol_model.proofs.Growing.{joined_next}
use Rattle.sol_model.proofs.Shown.{within_shown}
use Rattle.sol_model.proofs.rows.Rows.insert_all.Goals as goal

pub loop-i-preserved : goal.loop-i-preserved
loop-i-preserved c = record {
  width = c.loop-i.invariant.width;
  joined =
      rw (c.set.ensures, c.word_at-held.ensures, c.word_at-word.ensures, c.as_slice.ensures, c.as_slice-in-loop-i.ensures)
      (joined_next c.args.self.now.width c.args.self.now.words c.loop-i.self.words c.args.from c.args.to c.loop-i.i c.loop-i-test.true c.requires.to c.loop-i.invariant.joined);
}

pub returns-clause-added : goal.returns-clause-added
returns-clause-added c =
    let done : c.args.self.now.width ≤ c.loop-i.i = omega arith in
    let joined = c.loop-i.invariant.joined in
    rw c.loop-i.invariant.width record {
      added = λ location h.
          let within = within_shown c.args.self.now.width c.args.self.now.words c.args.from location h in
          let below : location < 64 * c.loop-i.i = omega arith in
          joined.added location below h;
      kept = joined.kept;
      nothing_else = joined.nothing_else;
    }
