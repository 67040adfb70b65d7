use Rattle.std.proofs.Common.{◌≡◌, ◌+◌, List, [], ◌∷◌, ◌++◌, map, refl, ap, sym, ◌∙◌}
use Rattle.std.specs.List.{range_with_len}
use Rattle.std.proofs.lemmas.List.FromFn.{map-range_with_len_more}
use Rattle.ref_cells.specs.declared.cells.Cell.{Cell}
use Rattle.ref_elements.specs.Outcomes.{start_of}
use Rattle.ref_start.proofs.begin.argument_cells.Goals as goal

pub loop-i-preserved : goal.loop-i-preserved
loop-i-preserved c =
    let first = c.args.first in
    let i = c.loop-i.i in
    let cell = c.in_ok-element_of.field-0 in
    let made : cell ≡ start_of (first + i) = c.in_ok-element_of.ensures in
    let same : c.push.new.list.items ≡ map start_of (range_with_len first (i + 1)) =
    c.in_ok-push.ensures.ok
    ∙ (ap (λ (xs : List Cell). xs ++ cell ∷ []) c.loop-i.invariant
    ∙ (ap (λ (x : Cell). map start_of (range_with_len first i) ++ x ∷ []) made
    ∙ sym (map-range_with_len_more start_of first i (first + i) refl))) in
    same
