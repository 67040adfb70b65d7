use Rattle.std.proofs.Common.{List, take, sym, ap, ◌∙◌, subst}
use Rattle.c_types.specs.declared.term.PathStep.{PathStep}
use Rattle.ref_cells.specs.Cells.{joined}
use Rattle.ref_cells.specs.Order.{IsOrdered}
use Rattle.ref_cells.specs.Wholes.{shape_in}
use Rattle.ref_cells.specs.Puts.{put, replaced}
use Rattle.ref_cells.proofs.Unders.{seen_none}
use Rattle.ref_cells.proofs.Scopes.{on_ok, whole_put, to_end}
use Rattle.ref_cells.proofs.putting.+put.Goals as goal

pub put-find_scope-at-requires-clause-ordered : goal.put-find_scope-at-requires-clause-ordered
put-find_scope-at-requires-clause-ordered t c = subst IsOrdered (sym (seen_none c.as_slice.result.now ∙ c.as_slice.ensures.value)) c.requires.ordered

pub put-returns-clause-ok : goal.put-returns-clause-ok
put-returns-clause-ok t c =
    let table = c.args.filling.now.types.now in
    let marked = c.args.filling.now.marked in
    let at = c.find_scope-at.result in
    on_ok c.replace.result c.replace.new.list.items _ (put table marked (shape_in table c.args.whole) c.args.path.now c.args.value.now c.args.list.now.items) c.replace.ensures.ok
    (whole_put table marked (shape_in table c.args.whole) (shape_in table at.whole) c.args.path.now c.args.value.now c.args.list.now.items c.as_slice.result.now c.in_ok-inside.inside.items c.in_ok-inside-2.inside.items at.steps at.from at.to (c.in_ok-inside.ensures ∙ ap (λ (q : List PathStep). replaced table marked (shape_in table at.whole) q c.args.value.now) (to_end at.steps c.args.path.now)) (c.in_ok-inside-2.ensures ∙ ap (joined (take at.steps c.args.path.now)) c.as_slice-2.ensures.value) c.as_slice.ensures.value (c.find_scope-at.ensures.put marked c.args.value.now))
