use Rattle.std.proofs.Common.{Bool, ◌||◌, ap, ◌∙◌}
use Rattle.c_types.specs.Trees.{Ctype}
use Rattle.c_types.specs.Table.{type_of}
use Rattle.c_senses.specs.World.{has_size}
use Rattle.c_senses.specs.Entities.{is_void_type}
use Rattle.c_named.proofs.definitions.result_fits.Goals as goal

pub returns : goal.returns
returns c = λ w s sense knows.
    c.either.ensures
    ∙ (ap (λ (b : Bool). b || c.has_size-sized.result) (c.is_void_type-void.ensures w s sense)
    ∙ (ap (λ (b : Bool). is_void_type w s sense (type_of c.args.unit.now.types c.result_of-given.result.0) || b) (c.has_size-sized.ensures w knows)
    ∙ ap (λ (x : Ctype). is_void_type w s sense x || has_size w x) (c.result_of-given.ensures.result w s sense)))
