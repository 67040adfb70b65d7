use Rattle.std.proofs.Common.{ℕ, Option, Some, None, ◌≡◌, ◌∙◌, sym, ap, subst}
use Rattle.covering_laws.specs.covered_memory.Spots.{spot}
use Rattle.row_covers.specs.Cells.{SameRow}
use Rattle.row_covers.specs.Scene.{sets_over}
use Rattle.row_covers.proofs.Decided.{within_row}
use Rattle.row_covers.proofs.Spotted.{found_is}
use Rattle.machine_covers.proofs.frames.spot_row.Goals as goal

pub returns-in-Some : goal.returns-in-Some
returns-in-Some c =
    let g = sets_over c.args.scene.now in
    let same = found_is g.table g.space c.args.key c.args.path.now c.spot.result c.spot.ensures in
    let whole = spot g.table g.space c.args.key c.args.path.now in
    subst (λ (o : Option ℕ). SameRow o whole) (sym same ∙ (c.in-Some.is ∙ ap (λ (n : ℕ). let r : Option ℕ = Some n in r) (sym c.from.ensures))) (within_row whole)

pub returns-in-None : goal.returns-in-None
returns-in-None c =
    let g = sets_over c.args.scene.now in
    let same = found_is g.table g.space c.args.key c.args.path.now c.spot.result c.spot.ensures in
    let whole = spot g.table g.space c.args.key c.args.path.now in
    subst (λ (o : Option ℕ). SameRow o whole) (sym same ∙ c.in-None.is) (within_row whole)
