use Rattle.std.proofs.Common.{true, false, refl, ◌∙◌}
use Rattle.tree_reads.specs.Sources.{source_read}
use Rattle.c_structures.proofs.Gathering.{last_some}
use Rattle.c_structures.proofs.places.is_last_field.Goals as goal

pub returns-then-is_last_of_declaration : goal.returns-then-is_last_of_declaration
returns-then-is_last_of_declaration c = λ w sense.
    last_some w (source_read c.args.syntax.now) sense c.args.field c.in-Some.member true _ c.in-Some.ensures.parent (c.if-is_last_of_declaration.ensures w sense) (c.is_last_declaring.ensures w sense)

pub returns-else-is_last_of_declaration : goal.returns-else-is_last_of_declaration
returns-else-is_last_of_declaration c = λ w sense.
    c.if-is_last_of_declaration.false ∙ last_some w (source_read c.args.syntax.now) sense c.args.field c.in-Some.member false _ c.in-Some.ensures.parent (c.if-is_last_of_declaration.ensures w sense) refl
