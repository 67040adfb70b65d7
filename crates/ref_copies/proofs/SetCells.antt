-- Cells that are set, and parts that are set one after another.
use Rattle.std.proofs.Common.{◌≡◌, ℕ, suc, ◌+◌, ◌-◌, ◌<◌, [], ◌∷◌, ap, arith}
use Rattle.ref_cells.specs.Cells.{CellList}
use Rattle.ref_elements.specs.declared.runs.Run.{Run}
use Rattle.ref_elements.specs.Runs.{element_path}
use Rattle.ref_copies.specs.Copies.{set_parts}

pub set_more : (run : Run) (cells : CellList) (k n : ℕ) → k < n → set_parts run cells k (n - k) ≡ (element_path run k, cells) ∷ set_parts run cells (k + 1) (n - (k + 1))
set_more run cells k n lt = let e : n - k ≡ suc (n - (k + 1)) = omega arith in ap (set_parts run cells k) e

pub set_none : (run : Run) (cells : CellList) (k n : ℕ) → n ≡ k → set_parts run cells k (n - k) ≡ []
set_none run cells k n e = let z : n - k ≡ 0 = omega arith in ap (set_parts run cells k) z
