use Rattle.std.proofs.Common.{arith}
use Rattle.set_rows.proofs.Keeps.{reads_at}
use Rattle.set_rows.proofs.table.RowTable.is_shut.Goals as goal

pub load-requires : goal.load-requires
load-requires c = let t = c.args.self.now in (
  c.requires.0,
  (let e = t.sized in omega arith),
  reads_at t.table.shared.key t.table.shared.table_id.slots c.args.seat.now.seat.id t.count c.args.seat.now.seat.me t.counted c.args.seat.now.live,
)
