use Rattle.std.proofs.Common.{ℕ, Option, None, option_map, inl, inr, sym, ap, ◌∙◌}
use Rattle.c_senses.specs.Sense.{sense_in}
use Rattle.c_results.specs.Standing.{senses_made}
use Rattle.tree_reads.specs.Sources.{source_in}
use Rattle.core_tree.specs.declared.node.Linkage.{Linkage}
use Rattle.core_tree.specs.declared.node.Linkage.TheVariants.{Local}
use Rattle.c_senses.specs.Entities.{entity_of, function_around}
use Rattle.unit_names.proofs.owners.owner_at.Goals as goal

pub returns-in-Local : goal.returns-in-Local
returns-in-Local c = λ u uses.
    let s = source_in c.args.syntax.now uses in
    let sense = sense_in (senses_made u c.args.results.now) in
    c.function_entity.ensures u uses
    ∙ ap (λ (l : Linkage). elim l as (λ q. Option ℕ) [ Local ↦ option_map (entity_of s sense) (function_around s sense c.args.leaf) | _ ↦ None ]) (sym c.in-Local.is ∙ c.requires.linkage u uses)

pub returns-in-External : goal.returns-in-External
returns-in-External c = λ u uses.
    let s = source_in c.args.syntax.now uses in
    let sense = sense_in (senses_made u c.args.results.now) in
    let owned : Linkage → Option ℕ = λ l. elim l as (λ q. Option ℕ) [ Local ↦ option_map (entity_of s sense) (function_around s sense c.args.leaf) | _ ↦ None ] in
    elim c.in-External.is [
      | inl external ↦ ap owned (sym external ∙ c.requires.linkage u uses)
      | inr internal ↦ ap owned (sym internal ∙ c.requires.linkage u uses)
    ]
