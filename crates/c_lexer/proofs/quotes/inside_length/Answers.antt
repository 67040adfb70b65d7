use Rattle.std.proofs.Common.{◌+◌, refl, sym, ◌∙◌, arith, below_more}
use Rattle.c_lexer.proofs.Quoted.{escaped_first, escaped_next, not_closed}
use Rattle.c_lexer.proofs.quotes.inside_length.Goals as goal

pub loop-count-init : goal.loop-count-init
loop-count-init c = record {
  within = omega arith;
  mark = refl;
  flag = sym (escaped_first c.args.text.now (c.args.quote + 1));
  line = λ i h. absurd (omega arith);
  first = λ i h. absurd (omega arith);
}

pub loop-count-preserved : goal.loop-count-preserved
loop-count-preserved c =
    let v = c.loop-count.invariant in
    let text = c.args.text.now in
    record {
      within = omega arith;
      mark = refl;
      flag = c.escapes-escaped.ensures ∙ escaped_next text (c.args.quote + 1) c.loop-count.count c.loop-count.escaped v.flag;
      line = below_more _ _ v.line c.if-byte-eq10.false;
      first = below_more _ _ v.first (not_closed text c.args.quote c.loop-count.count _ c.loop-count.escaped c.ends.result refl v.flag c.ends.ensures c.if-ends.false);
    }
