use Rattle.std.proofs.Common.{◌∙◌, ap}
use Rattle.tree_reads.specs.Sources.{source_read}
use Rattle.c_entities.specs.PassedOn.{is_definition_of}
use Rattle.name_places.proofs.lists.stands_in_definition.Goals as goal

pub returns-in-Some : goal.returns-in-Some
returns-in-Some c = λ w sense.
    c.is_definition.ensures ∙ ap (is_definition_of w (source_read c.args.syntax.now) sense) c.in-Some.ensures
