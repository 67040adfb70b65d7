use Rattle.std.proofs.Common.{sym, ◌∙◌}
use Rattle.std.proofs.lemmas.Result.{IfOk-weaker}
use Rattle.c_senses.specs.Sense.{sense_in}
use Rattle.c_results.specs.Standing.{senses_made}
use Rattle.tree_reads.specs.Sources.{source_in}
use Rattle.name_uses.proofs.name_sayings.Listing.{internal_is, internal_none}
use Rattle.name_uses.proofs.name_sayings.internal.all_before.Goals as goal

pub returns-in-Some-clause-leaves : goal.returns-in-Some-clause-leaves
returns-in-Some-clause-leaves c =
    IfOk-weaker c.internal_of.result _ _
    (λ list h u w uses. h u uses ∙ internal_is w (source_in c.args.syntax.now uses) (sense_in (senses_made u c.args.results.now)) c.args.leaf c.in-Some.declared (sym (c.in-Some.ensures uses)))
    c.internal_of.ensures.leaves

pub returns-in-None-clause-leaves : goal.returns-in-None-clause-leaves
returns-in-None-clause-leaves c = λ u w uses.
    c.new.ensures.items ∙ internal_none w (source_in c.args.syntax.now uses) (sense_in (senses_made u c.args.results.now)) c.args.leaf (sym (c.in-None.ensures uses))
