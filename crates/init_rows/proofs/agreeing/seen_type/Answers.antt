use Rattle.std.proofs.Common.{ℕ, None, List, sym, ap, ◌∙◌}
use Rattle.std.proofs.lemmas.Result.{IfOk-weaker}
use Rattle.c_types.specs.Trees.{Ctype}
use Rattle.c_senses.specs.Limits.{within_limits}
use Rattle.c_senses.specs.Sense.{sense_in}
use Rattle.c_senses.specs.Entities.{all_together, with_length, length_in}
use Rattle.core_nodes.proofs.Growing.{builds_on, knows_on}
use Rattle.c_named.specs.Lists.{types_at}
use Rattle.c_results.specs.Standing.{senses_made}
use Rattle.tree_reads.specs.Sources.{source_in}
use Rattle.init_rows.proofs.agreeing.seen_type.Goals as goal

pub returns-clause-builds : goal.returns-clause-builds
returns-clause-builds c = builds_on c.args.unit.now c.types_together.new.unit c.lengthen.new.unit c.in_ok-behind.ensures.builds c.lengthen.ensures.builds

pub returns-clause-seen : goal.returns-clause-seen
returns-clause-seen c = λ w uses leaf said.
    let s = source_in c.args.syntax.now uses in
    let sense = sense_in (senses_made c.args.unit.now c.args.results.now) in
    let behind = c.in_ok-behind.ensures.made ∙ (ap (λ (xs : List ℕ). all_together None (types_at s sense xs)) c.as_slice.ensures.value ∙ said.typing c.requires.typed) in
    IfOk-weaker c.lengthen.result _ _ (λ l e. e ∙ (c.length_in-seen.ensures ∙ ap length_in behind)) c.lengthen.ensures.seen

pub returns-clause-made : goal.returns-clause-made
returns-clause-made c =
    IfOk-weaker c.lengthen.result _ _
    (λ l e. e ∙ ap (λ (x : Ctype). with_length l.seen x) (c.in_ok-behind.ensures.builds.types c.args.declared.ty.0 c.requires.ty))
    c.lengthen.ensures.made

pub returns-clause-limited : goal.returns-clause-limited
returns-clause-limited c = λ w knows limited.
    c.lengthen.ensures.limited w (knows_on w c.args.unit.now c.types_together.new.unit c.in_ok-behind.ensures.builds knows)
    (limited ∙ sym (ap (within_limits w) (c.in_ok-behind.ensures.builds.types c.args.declared.ty.0 c.requires.ty)))
