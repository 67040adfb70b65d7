use Rattle.std.proofs.Common.{ℕ, Some, option_map, ap, sym, ◌∙◌}
use Rattle.c_senses.specs.Entities.{entity_of}
use Rattle.tree_reads.specs.Sources.{source_in}
use Rattle.c_entities.specs.remembered_names.Remembering.{named}
use Rattle.c_meanings.specs.Later.{later}
use Rattle.c_meanings.proofs.Onward.{not_false}
use Rattle.c_meanings.proofs.Tests.{some_of}
use Rattle.c_meanings.proofs.meanings.to_remember.Goals as goal

pub returns-clause-right : goal.returns-clause-right
returns-clause-right c =
    let meant = some_of _ _ _ c.in-Some.is c.in_ok-by.ensures.meant in
    let typed = c.in-Some-steps_of.ensures in
    let stays = c.in_ok-kept.ensures.stays (not_false _ c.if-not-kept.false) in
    let is_type = c.is_typedef-is_type.result in
    record {
      made = typed.made;
      means = λ u uses more t e.
          let s = source_in c.args.syntax.now uses in
          let F = later u c.args.results.now more in
          meant u uses more
          ∙ (ap (option_map (named s F is_type (entity_of s F c.args.leaf))) (typed.type u uses more ∙ e) ∙ ap (λ (n : ℕ). Some (named s F is_type n t)) (sym (stays u uses more)));
    }
