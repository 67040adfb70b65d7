use Rattle.std.proofs.Common.{ℕ, Option, Some, None, ap, ◌∙◌}
use Rattle.c_senses.specs.Names.{tag_of_leaf}
use Rattle.tree_reads.specs.Sources.{source_in}
use Rattle.unit_keys.proofs.given_keys.declaring.tag_declared.Goals as goal

pub returns-in-Some : goal.returns-in-Some
returns-in-Some c = λ uses h.
    let s = source_in c.args.syntax.now uses in
    c.tag_of_leaf.ensures s h
    ∙ ap (λ (o : Option ℕ). elim o [ None ↦ c.args.node | Some leaf ↦ tag_of_leaf s leaf ]) (c.in-Some.ensures uses)
