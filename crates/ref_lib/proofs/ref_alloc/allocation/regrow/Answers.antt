use Rattle.std.proofs.Common.{◌≡◌, List, Some, slice_get, get_or, length, ◌<◌, sym, subst, ap, ◌∙◌}
use Rattle.std.proofs.lemmas.Option.{slice_get-get_or}
use Rattle.ref_cells.specs.declared.instance.Instance.{Instance}
use Rattle.ref_elements.specs.Outcomes.{pointers_in}
use Rattle.ref_lib.proofs.ref_alloc.Regrown.{regrown_is}
use Rattle.ref_lib.proofs.ref_alloc.allocation.regrow.Goals as goal

pub returns-clause-value : goal.returns-clause-value
returns-clause-value c =
    let memory = c.args.memory.now in
    let here = c.instances.result.now in
    let old = get_or here c.args.i c.index-instances-i.result in
    let inside = subst (λ (xs : List Instance). c.args.i < length xs) (sym c.instances.ensures) c.requires.within in
    let found : slice_get memory c.args.i ≡ Some old = ap (λ (xs : List Instance). slice_get xs c.args.i) (sym c.instances.ensures) ∙ slice_get-get_or here c.args.i c.index-instances-i.result inside in
    regrown_is c.args.types.now memory c.make_with.new.self c.end.new.self c.args.fresh.0 c.args.fresh.1 c.args.bytes c.args.i c.in_ok-number.number old c.in_ok-cells.cells c.in_ok-stores.stores c.in_ok-value.value c.stores_and_gives.result
    found
    (sym c.takes.ensures ∙ c.if-not-takes.false)
    (c.in_ok-cells.ensures old found)
    c.in_ok-number.ensures
    (c.in_ok-stores.ensures ∙ ap (pointers_in c.in_ok-number.number) c.as_slice.ensures.cells)
    c.in_ok-value.ensures
    c.in_ok-make_with.ensures.ok
    c.end.ensures
    c.stores_and_gives.ensures
