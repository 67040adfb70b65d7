use Rattle.std.proofs.Common.{ℕ, Option, sym, subst, ◌<◌, ◌^◌}
use Rattle.sol_model.specs.Families.{Has}
use Rattle.covering_laws.specs.covered_memory.Spots.{spot}
use Rattle.row_covers.specs.Scene.{sets_over}
use Rattle.row_covers.specs.Cells.{Falls}
use Rattle.row_covers.proofs.Spotted.{found_is, falls_out, falls_in}
use Rattle.row_covers.proofs.Rows.{small_location}
use Rattle.row_covers.proofs.scene.lands.Goals as goal

pub returns : goal.returns
returns c =
    let g = sets_over c.args.scene.now in
    let same = found_is g.table g.space c.args.key c.args.path.now c.spot.result c.spot.ensures in
    let small : (row l : ℕ) → Has g.family row l → l < 2 ^ 32 = small_location c.args.scene.now.system.now c.args.scene.now.rows.now c.requires.valid c.requires.fits in (
      (λ t. falls_out g.family small c.args.row (spot g.table g.space c.args.key c.args.path.now) (subst (λ (o : Option ℕ). Falls g.family c.args.row o) same (c.lands_on.ensures.0 t))),
      (λ h. c.lands_on.ensures.1 (subst (λ (o : Option ℕ). Falls g.family c.args.row o) (sym same) (falls_in g.family small c.args.row (spot g.table g.space c.args.key c.args.path.now) h))),
    )
