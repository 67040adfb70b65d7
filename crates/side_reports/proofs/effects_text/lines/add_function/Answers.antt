use Rattle.std.proofs.Common.{sym, ◌∙◌}
use Rattle.sol_model.specs.Families.{members}
use Rattle.side_reports.proofs.effects_text.Lining.{both_lines}
use Rattle.side_reports.proofs.effects_text.lines.add_function.Goals as goal

pub returns : goal.returns
returns c =
    both_lines c.args.space.now c.args.system.now (members c.args.made.now.reads) (members c.args.made.now.writes) c.args.row c.args.function.now c.args.text.now.items c.add_line.new.text.items c.add_line-2.new.text.items
    (sym c.is_some.ensures ∙ c.if-is_some.false) c.in_ok-add_line.ensures c.in_ok-add_line-2.ensures
