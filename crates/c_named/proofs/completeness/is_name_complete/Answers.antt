use Rattle.std.proofs.Common.{refl, ◌∙◌}
use Rattle.c_types.specs.Table.{type_of}
use Rattle.c_senses.specs.Sense.{sense_in}
use Rattle.c_results.specs.Standing.{senses_made}
use Rattle.tree_reads.specs.Sources.{source_in}
use Rattle.c_named.specs.declared.completeness.Completion.{Completion}
use Rattle.c_named.proofs.Judging.{enough_is}
use Rattle.c_named.proofs.completeness.is_name_complete.Goals as goal

pub returns : goal.returns
returns c = λ u w uses knows completed said.
    let s = source_in c.args.syntax.now uses in
    let sense = sense_in (senses_made u c.args.results.now) in
    let asked : Completion = record {
      is_typedef = c.args.said.now.is_typedef;
      is_function = c.args.said.now.is_function;
      is_linked = c.args.said.now.is_linked;
      is_extern = c.has_storage.result;
      initialised = c.args.initialised;
      sized = c.has_size.result;
      element_sized = c.element_has_size.result;
      later = c.will_have_size.result;
      may_stay = c.may_stay_open.result;
    } in
    c.is_enough.ensures
    ∙ enough_is w s sense c.args.initialised (type_of c.args.unit.now.types c.args.ty.0) c.args.leaf asked said.typedefs said.function said.linked (c.has_storage.ensures u) refl (c.has_size.ensures w knows) (c.element_has_size.ensures w s sense knows) (c.will_have_size.ensures w s sense completed) (c.may_stay_open.ensures w s sense)
