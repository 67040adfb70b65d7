use Rattle.std.proofs.Common.{arith}
use Rattle.set_rows.proofs.Keeps.{draws_at}
use Rattle.set_rows.proofs.table.RowTable.ticket.Goals as goal

pub fetch_add-requires : goal.fetch_add-requires
fetch_add-requires c = let t = c.args.self.now in (
  c.requires.0,
  (let e = t.sized in omega arith),
  draws_at t.table.shared.key t.table.shared.table_id.slots c.args.seat.now.seat.id t.count c.args.seat.now.seat.me t.counted c.args.seat.now.live,
)
