use Rattle.std.proofs.Common.{ap, sym, ◌∙◌, arith}
use Rattle.c_results.specs.Parts.{parameter_in}
use Rattle.tree_reads.specs.Sources.{source_read}
use Rattle.c_entities.specs.remembered_names.Steps.{with_more}
use Rattle.c_entities.proofs.remembered_names.Onward.{still}
use Rattle.c_entities.proofs.remembered_names.Typing.{own_parameter}
use Rattle.c_entities.proofs.remembered_names.steps.of_parameter.Goals as goal

pub returns : goal.returns
returns c = record {
  made = tt;
  within = λ u all. c.in_ok-base.ensures.within u all;
  type = λ u uses more.
      let rs = c.args.results.now in
      let F = with_more u rs more in
      let d = c.in_ok-declaration.declaration in
      own_parameter (source_read c.args.syntax.now) F c.args.leaf d _ (c.requires.parameter F) (sym (c.in_ok-declaration.ensures.declaration F)) (ap parameter_in (still u rs more d (omega arith)) ∙ c.in_ok-base.ensures.seen u);
}
