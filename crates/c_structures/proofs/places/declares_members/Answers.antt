use Rattle.std.proofs.Common.{ap, ◌∙◌, Bool, ◌||◌}
use Rattle.std.specs.Prelude.{is_some}
use Rattle.c_grammar.specs.Productions.{p_specs}
use Rattle.c_senses.specs.Tree.{child_of}
use Rattle.c_senses.specs.Tags.{has_untagged}
use Rattle.tree_reads.specs.Sources.{source_read}
use Rattle.c_structures.proofs.places.declares_members.Goals as goal

pub returns-else-is_some : goal.returns-else-is_some
returns-else-is_some c = λ w sense.
    let s = source_read c.args.syntax.now in
    c.has_untagged.ensures w sense
    ∙ (ap (has_untagged w s sense) c.child_of-else-is_some.ensures
    ∙ ap (λ (x : Bool). x || has_untagged w s sense (child_of s p_specs c.args.member)) (c.if-is_some.ensures ∙ ap is_some c.child_of.ensures))
