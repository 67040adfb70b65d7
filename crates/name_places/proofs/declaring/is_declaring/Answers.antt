use Rattle.c_results.specs.Standing.{senses_made}
use Rattle.tree_reads.specs.Sources.{source_in}
use Rattle.name_places.proofs.Standing.{declaring_is}
use Rattle.name_places.proofs.declaring.is_declaring.Goals as goal

pub returns-in-Some : goal.returns-in-Some
returns-in-Some c = λ u uses.
    declaring_is (source_in c.args.syntax.now uses) (senses_made u c.args.results.now) c.args.leaf c.in-Some.declarator _ _ c.if-not-is_name.ensures c.in-Some.ensures.nearest (c.declared_name.ensures.name u) c.is_that.ensures
