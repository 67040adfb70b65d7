use Rattle.std.proofs.Common.{◌≡◌, ◌∙◌, ℕ, ℤ, List, ◌++◌, Some, ap, rules, to_z, of_z, to_z-of_z, FitsSigned}
use Rattle.std.specs.Int.{w128}
use Rattle.core_tree.specs.declared.node.Unit.{Unit}
use Rattle.c_results.specs.Parts.{number_in}
use Rattle.c_results.specs.Standing.{senses_made}
use Rattle.c_senses.specs.Sense.{sense_in}
use Rattle.c_senses.specs.Tree.{children_at}
use Rattle.tree_reads.specs.Sources.{source_read}
use Rattle.c_check.specs.declared.known_tags.known.Meaning.{Meaning}
use Rattle.c_check.specs.known_tags.Given.{AreGiven}
use Rattle.c_check.specs.known_tags.Values.{new_pair, pair_of, pairs_if}
use Rattle.c_check.proofs.known_tags.Valued.{put_is, put_none, on_ok}
use Rattle.c_check.proofs.known_tags.values.put_value.Goals as goal

pub returns-in-Some-value_at-clause-put : goal.returns-in-Some-value_at-clause-put
returns-in-Some-value_at-clause-put c =
    let s = source_read c.args.syntax.now in
    let before = c.args.pairs.now.items in
    let after = c.push_value.new.pairs.items in
    let v = c.in-Some-value_at.value in
    let fits : FitsSigned w128 v = search rules in
    on_ok c.push_value.result (after ≡ before ++ pair_of (Some c.in-Some.leaf) (Some (to_z w128 (of_z w128 v))))
    ((u : Unit) (list : List (ℕ × Meaning)) → AreGiven c.args.given.now list → after ≡ before ++ pairs_if c.args.is_own (new_pair list (children_at s c.args.node) (number_in (sense_in (senses_made u c.args.results.now) c.args.node))))
    (λ put u list given.
    put
    ∙ (ap (λ (z : ℤ). before ++ pair_of (Some c.in-Some.leaf) (Some z)) (to_z-of_z fits)
    ∙ ap (λ (l : List (ℕ × Meaning)). before ++ l)
    (put_is c.args.is_own list c.children_of.result.now (children_at s c.args.node) (number_in (sense_in (senses_made u c.args.results.now) c.args.node)) c.in-Some.leaf v c.if-not-is_own.false c.children_of.ensures (c.in-Some.ensures list given) (c.in-Some-value_at.ensures u))))
    c.push_value.ensures.put

pub returns-in-None-clause-put : goal.returns-in-None-clause-put
returns-in-None-clause-put c = λ u list given.
    let s = source_read c.args.syntax.now in
    put_none c.args.is_own list (children_at s c.args.node) (number_in (sense_in (senses_made u c.args.results.now) c.args.node)) (c.in-None.ensures u) c.args.pairs.now.items
