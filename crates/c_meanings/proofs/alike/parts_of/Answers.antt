use Rattle.std.proofs.Common.{◌<◌, length, sym, ◌∙◌, arith}
use Rattle.c_meanings.proofs.alike.parts_of.Goals as goal

pub returns : goal.returns
returns c = record {
  parameter = λ sense. sym (c.is_parameter.ensures sense) ∙ c.if-is_parameter.false;
  initialiser = λ sense. sym (c.initialiser_for-initialiser.ensures sense);
  declarator = sym c.in_ok-declarator.ensures.nearest;
  specifiers = sym c.in_ok-specifiers.ensures;
  initialiser_below = c.is_made.ensures c.if-not-is_made.false;
  declarator_below = let lt : c.in_ok-declarator.declarator < length c.args.results.now = omega arith in lt;
  specifiers_below = let lt : c.in_ok-specifiers.specifiers < length c.args.results.now = omega arith in lt;
}
