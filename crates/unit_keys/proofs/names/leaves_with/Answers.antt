use Rattle.std.proofs.Common.{◌∙◌, ℕ, map, sym, ap}
use Rattle.c_senses.specs.Tree.{Source, spelling_at}
use Rattle.c_senses.specs.Sense.{Sense, sense_in}
use Rattle.c_results.specs.Standing.{senses_made}
use Rattle.tree_reads.specs.Sources.{source_in}
use Rattle.unit_keys.proofs.Naming.{with_none, with_other, with_external}
use Rattle.unit_keys.proofs.names.leaves_with.Goals as goal

pub returns-in_default : goal.returns-in_default
returns-in_default c = λ u uses.
    let s : Source = source_in c.args.syntax.now uses in
    let sense : ℕ → Sense = sense_in (senses_made u c.args.results.now) in
    ap (map (spelling_at s)) c.new.ensures.items ∙ with_none s sense c.args.node (sym c.in_default.is ∙ c.declaration_with.ensures.with uses sense)

pub returns-then-not-is_a : goal.returns-then-not-is_a
returns-then-not-is_a c = λ u uses.
    let s : Source = source_in c.args.syntax.now uses in
    let sense : ℕ → Sense = sense_in (senses_made u c.args.results.now) in
    ap (map (spelling_at s)) c.new-then-not-is_a.ensures.items
    ∙ with_other s sense c.args.node c.in-Some.declaration (sym c.in-Some.is ∙ c.declaration_with.ensures.with uses sense) (sym c.is_a.ensures ∙ c.if-not-is_a.true)

pub returns : goal.returns
returns c = λ u uses.
    let s : Source = source_in c.args.syntax.now uses in
    let sense : ℕ → Sense = sense_in (senses_made u c.args.results.now) in
    c.in_ok-leaves.ensures u uses
    ∙ with_external s sense c.args.node c.in-Some.declaration (sym c.in-Some.is ∙ c.declaration_with.ensures.with uses sense) (sym c.is_a.ensures ∙ c.if-not-is_a.false)
