use Rattle.std.proofs.Common.{rules, ◌≡◌, ◌∙◌, ℕ, ◌&&◌, Bool, ap, subst}
use Rattle.c_grammar.specs.Productions.{p_enumerator}
use Rattle.c_results.specs.Standing.{senses_made}
use Rattle.c_senses.specs.Sense.{sense_in}
use Rattle.c_senses.specs.Tree.{is_a}
use Rattle.tree_reads.specs.Sources.{source_read}
use Rattle.c_check.specs.known_tags.Values.{own_values}
use Rattle.c_check.proofs.known_tags.Valued.{values_next}
use Rattle.c_check.proofs.known_tags.values.own_values.Goals as goal

pub loop-node-preserved : goal.loop-node-preserved
loop-node-preserved c = λ u list given under.
    let s = source_read c.args.syntax.now in
    let node = c.loop-node.node in
    let own = c.is_enumerator-own.ensures ∙ ap (λ (b : Bool). b && is_a s p_enumerator node) (under.each node) in
    values_next s (sense_in (senses_made u c.args.results.now)) list c.args.top node c.loop-node.pairs.items c.put_value.new.pairs.items c.is_enumerator-own.result (c.loop-node.invariant u list given under) own (c.in_ok-put_value.ensures.put u list given)

pub returns-clause-values : goal.returns-clause-values
returns-clause-values c = λ u list given under.
    let last : c.loop-node.node ≡ c.args.top = search rules in
    subst (λ (n : ℕ). c.loop-node.pairs.items ≡ own_values (source_read c.args.syntax.now) (sense_in (senses_made u c.args.results.now)) c.args.top list n) last (c.loop-node.invariant u list given under)
