use Rattle.std.proofs.Common.{◌+◌, ◌-◌, ◌<◌, ◌++◌, [], ◌∷◌, List, sym, ap, ◌∙◌, arith}
use Rattle.std.proofs.lemmas.List.{append_assoc}
use Rattle.c_types.specs.declared.term.PathStep.{PathStep}
use Rattle.ref_cells.specs.Cells.{CellList}
use Rattle.ref_elements.specs.Runs.{element_path}
use Rattle.ref_elements.specs.Parts.{Parts}
use Rattle.ref_copies.specs.Copies.{set_parts}
use Rattle.ref_copies.proofs.SetCells.{set_more}
use Rattle.ref_copies.proofs.sets.set_parts.Goals as goal

pub loop-k-preserved : goal.loop-k-preserved
loop-k-preserved c =
    let run = c.args.run.now in
    let cells = c.args.cells.now in
    let k = c.loop-k.k in
    let n = c.args.n in
    let lt : k < n = omega arith in
    let rest = set_parts run cells (k + 1) (n - (k + 1)) in
    ap (λ (ps : Parts). ps ++ rest) c.in_ok-push_part.ensures
    ∙ ap (λ (p : List PathStep). (c.loop-k.parts.items ++ (p, c.in_ok-copy.copy) ∷ []) ++ rest) c.in_ok-path.ensures
    ∙ ap (λ (xs : CellList). (c.loop-k.parts.items ++ (element_path run k, xs) ∷ []) ++ rest) c.in_ok-copy.ensures
    ∙ append_assoc c.loop-k.parts.items ((element_path run k, cells) ∷ []) rest
    ∙ ap (λ (ps : Parts). c.loop-k.parts.items ++ ps) (sym (set_more run cells k n lt))
    ∙ c.loop-k.invariant
