use Rattle.c_inits.specs.Initial.{characters}
use Rattle.c_inits.proofs.Puts.{text_fits}
use Rattle.c_inits.proofs.filling.put_text.Goals as goal

pub returns : goal.returns
returns c = (
  characters c.args.node 0 c.put_count.result,
  text_fits c.args.node c.args.size c.args.count c.is_too_long.result c.put_count.result c.is_too_long.ensures c.if-is_too_long.false c.put_count.ensures,
  c.in_ok-put_characters.ensures,
)
