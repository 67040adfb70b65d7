use Rattle.std.proofs.Common.{sym, ◌∙◌}
use Rattle.tree_reads.specs.Sources.{source_read}
use Rattle.c_entities.proofs.Reading.{rest_first}
use Rattle.c_entities.proofs.initialisers.in_rest.Goals as goal

pub returns : goal.returns
returns c = λ sense. rest_first (source_read c.args.syntax.now) sense c.args.list.now _ (sym c.is_empty.ensures ∙ c.if-is_empty.false) (c.rest_initialiser.ensures sense)
