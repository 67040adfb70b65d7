use Rattle.std.proofs.Common.{arith}
use Rattle.set_rows.proofs.Keeps.{halves}
use Rattle.set_rows.proofs.table.RowTable.split.Goals as goal

pub split_seat-seat-requires : goal.split_seat-seat-requires
split_seat-seat-requires c = let t = c.args.self.now in (
  c.requires.0,
  (let e = t.sized in omega arith),
  halves t.table.shared.key c.args.seat.now.seat.id c.args.seat.now.seat.me.0 c.args.seat.now.live,
)
