use Rattle.std.proofs.Common.{ℕ, Option, option_and_then, ap, ◌∙◌}
use Rattle.c_senses.specs.Sense.{sense_in}
use Rattle.tree_reads.specs.Sources.{source_in}
use Rattle.c_grammar.specs.Productions.{p_block}
use Rattle.c_senses.specs.Tree.{child_of}
use Rattle.unit_names.proofs.bodies.block_for.Goals as goal

pub returns-in-Some : goal.returns-in-Some
returns-in-Some c = λ uses senses.
    c.child_of.ensures ∙ ap (λ (o : Option ℕ). option_and_then (child_of (source_in c.args.syntax.now uses) p_block) o) (c.in-Some.ensures.declaration (sense_in senses))

pub returns-in-None : goal.returns-in-None
returns-in-None c = λ uses senses.
    ap (λ (o : Option ℕ). option_and_then (child_of (source_in c.args.syntax.now uses) p_block) o) (c.in-None.ensures.declaration (sense_in senses))
