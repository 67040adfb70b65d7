use Rattle.std.proofs.Common.{◌<◌, length, ap, sym, ◌∙◌, arith}
use Rattle.c_types.specs.Table.{type_of}
use Rattle.core_nodes.specs.passed.c_senses.Sense.{Sense}
use Rattle.c_results.specs.Parts.{specified_in, declarator_in}
use Rattle.tree_reads.specs.Sources.{source_read}
use Rattle.c_entities.specs.remembered_names.Steps.{with_more}
use Rattle.c_entities.proofs.remembered_names.Onward.{still}
use Rattle.c_entities.proofs.remembered_names.Typing.{own_stepped, stepped}
use Rattle.c_entities.proofs.remembered_names.steps.of_declarator.Goals as goal

pub returns : goal.returns
returns c = record {
  made = let lt : c.in_ok-declarator.declarator < length c.args.results.now = omega arith in lt;
  within = λ u all. c.in_ok-base.ensures.within u all;
  type = λ u uses more.
      let rs = c.args.results.now in
      let F = with_more u rs more in
      let d = c.in_ok-declarator.declarator in
      let i = c.in_ok-specifiers.specifiers in
      let t = type_of u.types c.in_ok-base.base.0 in
      own_stepped (source_read c.args.syntax.now) F c.args.leaf i d t (c.requires.other F) (c.requires.plain u more) (sym c.in_ok-declarator.ensures.nearest) (sym c.in_ok-specifiers.ensures) (ap specified_in (still u rs more i (omega arith)) ∙ c.in_ok-base.ensures.seen u)
      ∙ ap (λ (x : Sense). stepped t (declarator_in x)) (still u rs more d (omega arith));
}
