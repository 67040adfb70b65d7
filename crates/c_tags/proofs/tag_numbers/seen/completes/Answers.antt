use Rattle.std.proofs.Common.{Bool, ◌&&◌, ap, sym, ◌∙◌}
use Rattle.std.specs.Prelude.{is_some}
use Rattle.c_grammar.specs.Productions.{p_members}
use Rattle.c_senses.specs.Tree.{Source, child_of}
use Rattle.tree_reads.specs.Sources.{source_in}
use Rattle.c_tags.proofs.tag_numbers.seen.completes.Goals as goal

pub returns-then-is_structure_at : goal.returns-then-is_structure_at
returns-then-is_structure_at c = λ uses roles.
    let s : Source = source_in c.args.syntax.now uses in
    c.is_some.ensures
    ∙ (ap is_some c.child_of.ensures ∙ ap (λ (b : Bool). b && is_some (child_of s p_members c.args.node)) (sym c.if-is_structure_at.true ∙ c.is_structure_at.ensures s roles))

pub returns-else-is_structure_at : goal.returns-else-is_structure_at
returns-else-is_structure_at c = λ uses roles.
    let s : Source = source_in c.args.syntax.now uses in
    c.if-is_structure_at.false ∙ ap (λ (b : Bool). b && is_some (child_of s p_members c.args.node)) (sym c.if-is_structure_at.false ∙ c.is_structure_at.ensures s roles)
