use Rattle.covering_laws.specs.covered_library.Calls.{place_row}
use Rattle.row_covers.specs.Scene.{sets_over}
use Rattle.row_covers.proofs.Decided.{cell_same}
use Rattle.row_covers.proofs.Rows.{no_such_row}
use Rattle.machine_covers.proofs.frames.is_store_covered.Goals as goal

pub returns : goal.returns
returns c =
    let g = sets_over c.args.scene.now in
    let same =
    cell_same g c.args.memory.now (no_such_row c.args.scene.now.system.now c.args.scene.now.rows.now c.requires.scene.valid c.requires.scene.fits) c.place_row.result (place_row g c.args.memory.now c.args.store.now.0) c.args.store.now.1 c.place_row.ensures in
    ((λ h. same.0 (c.is_covered.ensures.0 h)), (λ h. c.is_covered.ensures.1 (same.1 h)))
