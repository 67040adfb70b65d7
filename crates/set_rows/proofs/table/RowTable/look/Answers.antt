use Rattle.std.proofs.Common.{arith}
use Rattle.set_rows.proofs.Keeps.{looks}
use Rattle.set_rows.proofs.table.RowTable.look.Goals as goal

pub load-requires : goal.load-requires
load-requires c = let t = c.args.self.now in (
  c.requires.own.0,
  (let e = t.sized in let f = t.counted in let w = c.requires.word in omega arith),
  looks t.table.shared.key t.table.shared.table_id.slots c.args.seat.now.seat.id c.args.seat.now.seat.me c.args.word c.args.seat.now.live c.requires.word,
)
