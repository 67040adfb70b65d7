use Rattle.std.proofs.Common.{sym, ◌∙◌}
use Rattle.c_grammar.proofs.Combines.{part_true, part_false}
use Rattle.c_grammar.proofs.looks.is_part_of.Goals as goal

pub returns-then-not-has_room : goal.returns-then-not-has_room
returns-then-not-has_room c = part_false c.args.word c.args.words.now c.args.list.now (sym c.has_room.ensures ∙ c.if-not-has_room.true)

pub returns : goal.returns
returns c = part_true c.args.word c.args.words.now c.args.list.now c.all_have_room.result (sym c.has_room.ensures ∙ c.if-not-has_room.false) c.all_have_room.ensures
