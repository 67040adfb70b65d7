use Rattle.std.proofs.Common.{◌<◌, Option, List, length, sym, ap, ◌∙◌, arith}
use Rattle.c_types.specs.declared.term.PathStep.{PathStep}
use Rattle.ref_cells.specs.declared.wholes.Whole.{Whole}
use Rattle.ref_cells.specs.Cells.{seen}
use Rattle.ref_cells.specs.Wholes.{shape_in}
use Rattle.ref_cells.specs.Puts.{put, replaced}
use Rattle.ref_cells.proofs.Scopes.{all_scope, empty_put, off_put, on_put_rest, to_end}
use Rattle.ref_cells.proofs.putting.+find_scope.Goals as goal

pub returns-in-empty-clause-put : goal.returns-in-empty-clause-put
returns-in-empty-clause-put t c marked value =
    let table = c.args.types.now in
    let few : length c.args.path.now < 1 = omega arith in
    all_scope c.args.depth c.args.cells.now (put table marked (shape_in table c.args.whole) c.args.path.now value (seen c.args.depth c.args.cells.now)) c.args.path.now (λ (q : List PathStep). replaced table marked (shape_in table c.all_of.result.whole) q value) c.all_of.result.steps c.all_of.result.from c.all_of.result.to c.all_of.ensures.steps c.all_of.ensures.from c.all_of.ensures.to
    (empty_put table marked (shape_in table c.args.whole) (shape_in table c.all_of.result.whole) c.args.path.now value (seen c.args.depth c.args.cells.now) few)

pub returns-then-goes_on-clause-put : goal.returns-then-goes_on-clause-put
returns-then-goes_on-clause-put t c marked value =
    let table = c.args.types.now in
    on_put_rest table marked (shape_in table c.args.whole) (shape_in table c.one-part_type.result) (shape_in table c.find_scope-inner.result.whole) c.args.path.now _ _ value c.args.cells.now c.part_under-start.result.1.now c.args.depth c.part_under-start.result.0 c.find_scope-inner.result.from c.find_scope-inner.result.to c.find_scope-inner.result.steps
    (to_end 1 c.args.path.now)
    c.in-len1-up.len_at_least
    (sym c.goes_on.ensures ∙ c.if-goes_on.true)
    c.part_under-start.ensures.part
    c.part_under-start.ensures.begins
    c.find_scope-inner.ensures.order
    c.find_scope-inner.ensures.within
    c.part_under-start.ensures.below
    c.part_under-start.ensures.above
    c.part_under-start.ensures.cells
    (c.one-part_type.ensures.shape table ∙ c.part_in.ensures.part)
    (c.find_scope-inner.ensures.put marked value)

pub returns-else-goes_on-clause-put : goal.returns-else-goes_on-clause-put
returns-else-goes_on-clause-put t c marked value =
    let table = c.args.types.now in
    let it = c.all_of-else-goes_on in
    all_scope c.args.depth c.args.cells.now (put table marked (shape_in table c.args.whole) c.args.path.now value (seen c.args.depth c.args.cells.now)) c.args.path.now (λ (q : List PathStep). replaced table marked (shape_in table it.result.whole) q value) it.result.steps it.result.from it.result.to it.ensures.steps it.ensures.from it.ensures.to
    (off_put table marked (shape_in table c.args.whole) (shape_in table it.result.whole) c.args.path.now _ value (seen c.args.depth c.args.cells.now) c.in-len1-up.len_at_least (sym c.goes_on.ensures ∙ c.if-goes_on.false) (ap (λ (w : Option Whole). shape_in table w) it.ensures.whole))
