use Rattle.std.proofs.Common.{◌∙◌}
use Rattle.c_senses.specs.Sense.{sense_in}
use Rattle.c_results.specs.Standing.{senses_made}
use Rattle.tree_reads.specs.Sources.{source_in}
use Rattle.name_uses.proofs.name_sayings.sayings.said_of.Goals as goal

pub returns-clause-said : goal.returns-clause-said
returns-clause-said c = λ u w uses.
    let s = source_in c.args.syntax.now uses in
    let sense = sense_in (senses_made u c.args.results.now) in
    let leaf = c.args.leaf in
    let linkage = c.internal_kept-internal.ensures.internal u uses in
    record {
      typedefs = c.is_typedef-typedef.ensures uses sense;
      linked = c.is_linked.ensures uses sense;
      function = c.declares_function.ensures uses sense;
      internal = linkage;
      one_linkage = c.in_ok-one_linkage.ensures.one u w uses linkage;
      in_scope = λ typedef. c.in_ok-in_scope.ensures.same u w uses (c.is_typedef-typedef.ensures uses sense ∙ typedef);
      types = λ internal. (c.in_ok-earlier.ensures.gives u w uses (linkage ∙ internal)).types;
      defined = λ internal. (c.in_ok-earlier.ensures.gives u w uses (linkage ∙ internal)).defined;
      typing = c.in_ok-typing.ensures.typing u w uses;
    }

pub returns-clause-within : goal.returns-clause-within
returns-clause-within c = record { in_scope = c.in_ok-in_scope.ensures.within; internal_before = c.in_ok-earlier.ensures.within; typing = c.in_ok-typing.ensures.within }
