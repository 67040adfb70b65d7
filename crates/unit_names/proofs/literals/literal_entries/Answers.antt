use Rattle.std.proofs.Common.{◌≡◌, List, [], ◌∷◌, ◌++◌, None, map, take, length, arith, sym, ap, ◌∙◌}
use Rattle.unit_finish.specs.declared.unit_parts.declared.Declared.{Declared}
use Rattle.c_results.specs.Standing.{senses_made}
use Rattle.tree_reads.specs.Sources.{source_in}
use Rattle.std.proofs.lemmas.List.{map_more}
use Rattle.std.proofs.Math.Seq.{take-length}
use Rattle.unit_finish.specs.declared.unit_parts.literals.LiteralAt.{LiteralAt}
use Rattle.unit_finish.specs.Walked.{literal_entry}
use Rattle.unit_names.proofs.literals.literal_entries.Goals as goal

pub loop-literal-preserved : goal.loop-literal-preserved
loop-literal-preserved c = λ u uses.
    let f = literal_entry (source_in c.args.syntax.now uses) (senses_made u c.args.results.now) in
    let list = c.args.literals.now in
    let i = c.loop-literal.literal-index in
    let none : LiteralAt = record { leaf = 0; ty = record { 0 = 0 }; body = None } in
    c.in_ok-push.ensures.items
    ∙ (ap (λ (l : List Declared). l ++ c.in_ok-entry.entry ∷ []) (c.loop-literal.invariant u uses)
    ∙ (ap (λ (x : Declared). map f (take i list) ++ x ∷ []) (c.in_ok-entry.ensures.entry u uses) ∙ sym (map_more f list i none c.loop-literal-test.true)))

pub returns-clause-entries : goal.returns-clause-entries
returns-clause-entries c = λ u uses.
    let f = literal_entry (source_in c.args.syntax.now uses) (senses_made u c.args.results.now) in
    let list = c.args.literals.now in
    let whole : c.loop-literal.literal-index ≡ length list = omega arith in
    c.loop-literal.invariant u uses ∙ ap (λ (l : List LiteralAt). map f l) (ap (λ k. take k list) whole ∙ take-length list)
