use Rattle.std.proofs.Common.{sym, ◌∙◌}
use Rattle.c_senses.specs.Names.{names_of}
use Rattle.tree_reads.specs.Sources.{source_in}
use Rattle.unit_walk.proofs.unit_choices.names.name_kinds.Goals as goal

pub returns-clause-kinds : goal.returns-clause-kinds
unfolding names_of
returns-clause-kinds c = λ uses. c.in_ok-of.ensures (source_in c.args.syntax.now uses) (sym c.requires.names ∙ sym c.as_slice-declared.ensures.value)
