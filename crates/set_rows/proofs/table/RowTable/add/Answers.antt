use Rattle.std.proofs.Common.{sym, subst, arith}
use Rattle.set_rows.proofs.Keeps.{adds}
use Rattle.std.proofs.Common.{ℕ}
use Rattle.sol_model.specs.declared.system.System.{System}
use Rattle.sol_model.specs.Solutions.{IsGiven}
use Rattle.sol_model.specs.Systems.{width_of}
use Rattle.sol_model.specs.Words.{At}
use Rattle.set_rows.specs.Views.{known}
use Rattle.set_rows.proofs.table.RowTable.add.Goals as goal

pub fetch_or-requires : goal.fetch_or-requires
fetch_or-requires c = let t = c.args.self.now in (
  c.requires.own.0,
  (let e = t.sized in let f = t.counted in let w = c.requires.word in omega arith),
  adds t.table.shared.key t.table.shared.table_id.slots c.args.seat.now.seat.id c.args.seat.now.seat.me c.args.word c.args.mask c.args.seat.now.live c.requires.word
      (subst (λ (S : System). (row location : ℕ) → At (width_of S) c.args.word c.args.mask row location → IsGiven S (known c.args.seat.now.seat.me.0) row location) (sym c.requires.own.1) c.requires.licensed),
)
