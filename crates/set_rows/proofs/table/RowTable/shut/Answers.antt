use Rattle.std.proofs.Common.{sym, subst, arith}
use Rattle.set_rows.proofs.Keeps.{shuts_at}
use Rattle.sol_model.specs.declared.system.System.{System}
use Rattle.sol_model.specs.Solutions.{IsClosed}
use Rattle.set_rows.specs.Views.{known}
use Rattle.set_rows.proofs.table.RowTable.shut.Goals as goal

pub fetch_or-requires : goal.fetch_or-requires
fetch_or-requires c = let t = c.args.self.now in (
  c.requires.own.0,
  (let e = t.sized in omega arith),
  shuts_at t.table.shared.key t.table.shared.table_id.slots c.args.seat.now.seat.id t.count c.args.seat.now.seat.me t.counted c.args.seat.now.live
      (subst (λ (S : System). IsClosed S (known c.args.seat.now.seat.me.0)) (sym c.requires.own.1) c.requires.closed),
)
