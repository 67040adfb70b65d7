use Rattle.std.proofs.Common.{◌≡◌, length, ap, sym, ◌∙◌}
use Rattle.c_types.specs.Table.{types_of}
use Rattle.c_types.specs.Trees.{grow, PointerTo}
use Rattle.stop_places.specs.Loose.{parameter_count}
use Rattle.stop_places.proofs.Loosening.{types_counted}
use Rattle.stop_places.proofs.loose.parameter_count.Goals as goal

pub returns-in-Function : goal.returns-in-Function
returns-in-Function c =
    let trees = types_of c.args.types.now in
    ap length c.as_slice.ensures
    ∙ (sym (types_counted trees c.in-Function.parameters)
    ∙ sym (ap parameter_count
    (c.term.ensures.tree ∙ (ap (grow trees) c.in-Pointer.is ∙ ap PointerTo (c.term-in-Pointer.ensures.tree ∙ ap (grow trees) c.in-Function.is)))))
