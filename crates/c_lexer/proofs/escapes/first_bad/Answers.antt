use Rattle.std.proofs.Common.{◌≡◌, ◌+◌, Bool, true, false, sym, ap, ◌∙◌, arith, below_more}
use Rattle.c_lexer.specs.Escapes.{is_bad}
use Rattle.c_lexer.proofs.Quoted.{escaped_first, escaped_next}
use Rattle.c_lexer.proofs.escapes.first_bad.Goals as goal

true_false : {b : Bool} → b ≡ true → b ≡ false → ⊥
true_false e f = cc

pub loop-count-init : goal.loop-count-init
loop-count-init c = record {
  flag = sym (escaped_first c.args.text.now c.args.inside);
  before = λ i h. absurd (omega arith);
}

pub loop-count-preserved : goal.loop-count-preserved
loop-count-preserved c =
    let v = c.loop-count.invariant in
    let text = c.args.text.now in
    record {
      flag = c.escapes-escaped.ensures ∙ escaped_next text c.args.inside c.loop-count.count c.loop-count.escaped v.flag;
      before = below_more _ _ v.before (λ b. true_false b (sym (c.is_bad.ensures ∙ ap (λ e. is_bad c.args.wide e text (c.args.inside + c.loop-count.count)) v.flag) ∙ c.if-is_bad.false));
    }
