use Rattle.std.proofs.Common.{arith, ◌<◌, ◌≤◌, length}
use Rattle.tree_reads.specs.Sources.{source_read}
use Rattle.c_statements.proofs.Turns.{behind_here, behind_on, behind_end}
use Rattle.c_statements.proofs.fors.behind_semicolon.Goals as goal

pub returns-then-has_sign : goal.returns-then-has_sign
returns-then-has_sign c = λ w sense.
    let more : c.loop-i.i < length c.args.list.now = omega arith in
    behind_here w (source_read c.args.syntax.now) sense c.args.list.now c.loop-i.i more (c.loop-i.invariant w sense) c.if-has_sign.ensures

pub loop-i-preserved : goal.loop-i-preserved
loop-i-preserved c = λ w sense.
    let more : c.loop-i.i < length c.args.list.now = omega arith in
    behind_on w (source_read c.args.syntax.now) sense c.args.list.now c.loop-i.i more (c.loop-i.invariant w sense) c.if-has_sign.ensures

pub returns : goal.returns
returns c = λ w sense.
    let all : length c.args.list.now ≤ c.loop-i.i = omega arith in
    behind_end w (source_read c.args.syntax.now) sense c.args.list.now c.loop-i.i all (c.loop-i.invariant w sense)
