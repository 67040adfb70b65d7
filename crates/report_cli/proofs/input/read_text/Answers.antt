use Rattle.std.proofs.Common.{rules, arith, ◌≡◌, drop, length}
use Rattle.std.proofs.lemmas.Grind.{common_steps}
use Rattle.report_cli.proofs.Pieces.{told_more}
use Rattle.report_cli.proofs.input.read_text.Goals as goal

pub loop-text-preserved : goal.loop-text-preserved
loop-text-preserved g c =
    let text = c.loop-text.text in
    let at : c.len-in-loop-text-2.result ≡ length text.items = omega (arith, c.len-in-loop-text-2.ensures, text.ok) in
    record {
      within = grind (arith, common_steps);
      front = told_more _ _ text.items c.read.new.buf (drop c.min-room.result c.loop-text.piece) _ c.in-Ok.count c.len-in-loop-text-2.result (c.loop-text.invariant.texts c.args.name.now) at c.in_ok-extend_from_slice.ensures.items
          c.loop-text.invariant.front c.in-Ok.ensures.copied c.in-Ok.ensures.within;
      texts = search rules;
      steady = search rules;
    }
