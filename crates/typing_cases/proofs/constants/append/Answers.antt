use Rattle.std.proofs.Common.{is_ok}
use Rattle.c_consts.proofs.Units.{rows_push, rows_tried}
use Rattle.typing_cases.proofs.constants.append.Goals as goal

pub returns : goal.returns
returns c =
    rows_tried c.args.sheet.now.types c.args.sheet.now.nodes.items c.push.new.self.items c.args.node (is_ok c.push.result) c.push.ensures.items c.requires.rows
    (rows_push c.args.sheet.now.types c.args.sheet.now.nodes.items c.args.node c.requires.rows c.requires.ty c.requires.children c.requires.row)
