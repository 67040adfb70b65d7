use Rattle.std.proofs.Common.{arith, sym, ◌∙◌}
use Rattle.name_uses.proofs.Passing.{single}
use Rattle.name_uses.proofs.alone.lone_part.Goals as goal

pub returns : goal.returns
returns c = λ uses. record {
  above = omega (arith, c.production_of-production.ensures, c.if-production-lt-EXPRESSION.false);
  below = omega (arith, c.production_of-production.ensures, c.if-production-gt-UNARY.false);
  alone = sym c.children_of-children.ensures ∙ single c.children_of-children.result.now c.if-children-ne1.false;
  inner = sym c.is_leaf.ensures ∙ c.if-is_leaf.false;
}
