use Rattle.std.proofs.Common.{Bool, Some, ap, sym, ◌∙◌}
use Rattle.c_types.specs.Table.{type_of}
use Rattle.c_entities.specs.remembered_names.Remembering.{named}
use Rattle.c_meanings.proofs.meanings.meaning_by.Goals as goal

pub returns-else-found-clause-gives : goal.returns-else-found-clause-gives
returns-else-found-clause-gives c = λ u s sense e.
    c.object_or_function.ensures.gives u s sense e ∙ ap (λ (b : Bool). Some (named s sense b c.args.found.entity (type_of c.args.types.now c.args.found.ty.0))) (sym c.if-found.false)
