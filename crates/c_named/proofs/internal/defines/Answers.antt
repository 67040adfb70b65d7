use Rattle.std.proofs.Common.{Bool, ◌||◌, ap, ◌∙◌}
use Rattle.c_senses.specs.Entities.{is_defined}
use Rattle.tree_reads.specs.Sources.{source_read}
use Rattle.c_named.proofs.internal.defines.Goals as goal

pub returns : goal.returns
returns c = λ sense.
    let s = source_read c.args.syntax.now in
    c.either.ensures
    ∙ (ap (λ (b : Bool). b || c.has_initialiser-initialised.result) (c.is_defined-body.ensures sense)
    ∙ ap (λ (b : Bool). is_defined s sense c.args.leaf || b) (c.has_initialiser-initialised.ensures sense))
