use Rattle.std.proofs.Common.{◌≡◌, ◌+◌, ◌-◌, ◌<◌, List, Option, None, Some, sym, ap, ◌∙◌, arith}
use Rattle.c_types.specs.declared.term.PathStep.{PathStep}
use Rattle.ref_cells.specs.Cells.{CellList}
use Rattle.ref_elements.specs.Runs.{element_path, content_at}
use Rattle.ref_elements.specs.Parts.{Parts}
use Rattle.ref_copies.specs.Copies.{push_part, copied}
use Rattle.ref_copies.proofs.Copied.{with_more, pushed, one_more}
use Rattle.ref_copies.proofs.copies.copied.Goals as goal

pub returns-in-None : goal.returns-in-None
returns-in-None c =
    let table = c.args.types.now in
    let memory = c.args.memory.now in
    let source = c.args.source.now in
    let target = c.args.target.now in
    let k = c.loop-k.k in
    let n = c.args.n in
    let lt : k < n = omega arith in
    let rest = copied table memory source target (k + 1) (n - (k + 1)) in
    let nothing : content_at table memory source k ≡ None = sym c.in_ok-cells.ensures ∙ c.in-None.is in
    sym c.loop-k.invariant
    ∙ ap (with_more c.loop-k.parts.items) (one_more table memory source target k n lt)
    ∙ ap (λ (o : Option CellList). with_more c.loop-k.parts.items (push_part (element_path target k) o rest)) nothing

pub loop-k-preserved : goal.loop-k-preserved
loop-k-preserved c =
    let table = c.args.types.now in
    let memory = c.args.memory.now in
    let source = c.args.source.now in
    let target = c.args.target.now in
    let k = c.loop-k.k in
    let n = c.args.n in
    let lt : k < n = omega arith in
    let rest = copied table memory source target (k + 1) (n - (k + 1)) in
    let something : content_at table memory source k ≡ Some c.in-Some.cells = sym c.in_ok-cells.ensures ∙ c.in-Some.is in
    ap (λ (ps : Parts). with_more ps rest) c.in_ok-push_part-in-Some.ensures
    ∙ pushed c.loop-k.parts.items c.in_ok-path-in-Some.path c.in-Some.cells rest
    ∙ ap (λ (p : List PathStep). with_more c.loop-k.parts.items (push_part p (Some c.in-Some.cells) rest)) c.in_ok-path-in-Some.ensures
    ∙ ap (λ (o : Option CellList). with_more c.loop-k.parts.items (push_part (element_path target k) o rest)) (sym something)
    ∙ ap (with_more c.loop-k.parts.items) (sym (one_more table memory source target k n lt))
    ∙ c.loop-k.invariant
