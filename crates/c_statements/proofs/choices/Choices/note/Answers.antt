use Rattle.std.proofs.Common.{◌≡◌, ◌+◌, ◌||◌, ℕ, List, is_some, take, sym, subst}
use Rattle.std.specs.Prelude.{ℤ}
use Rattle.c_senses.specs.Sense.{sense_in}
use Rattle.c_senses.specs.Statements.{is_case_again}
use Rattle.c_results.specs.Standing.{senses_made}
use Rattle.tree_reads.specs.Sources.{source_in}
use Rattle.c_statements.specs.Labels.{case_at, AreDefaults, AreCases}
use Rattle.c_statements.proofs.Choosing.{cases_more, defaults_more, no_case_there, no_default_there, on_ok, ok_more}
use Rattle.c_statements.proofs.choices.Choices.note.Goals as goal

pub returns-then-not-is_a-clause-defaults : goal.returns-then-not-is_a-clause-defaults
returns-then-not-is_a-clause-defaults c = λ before after uses are.
    let s = source_in c.args.syntax.now uses in
    let senses = senses_made c.args.unit.now c.args.results.now in
    let at = c.args.at in
    let old = c.args.self.now.defaults in
    defaults_more before after s senses at old old are (no_default_there after s (sense_in senses) at old c.if-not-is_a.ensures)

pub returns-then-not-is_a-clause-cases : goal.returns-then-not-is_a-clause-cases
returns-then-not-is_a-clause-cases c = λ before after uses are.
    let s = source_in c.args.syntax.now uses in
    let senses = senses_made c.args.unit.now c.args.results.now in
    let at = c.args.at in
    let old = c.args.self.now.cases in
    cases_more before after s senses at old old are (no_case_there after s (sense_in senses) at old c.if-not-is_a.ensures)

pub returns-clause-defaults : goal.returns-clause-defaults
returns-clause-defaults c = λ before after uses are.
    let s = source_in c.args.syntax.now uses in
    let senses = senses_made c.args.unit.now c.args.results.now in
    let at = c.args.at in
    let mid = c.note_default.new.self.defaults in
    let more : AreDefaults after s (sense_in senses) (at + 1) mid = defaults_more before after s senses at c.args.self.now.defaults mid are (c.in_ok-note_default.ensures.noted after uses) in
    on_ok c.note_case.result (AreDefaults after s (sense_in senses) (at + 1) c.note_case.new.self.defaults)
    (subst (λ (list : List (ℕ × ℕ)). AreDefaults after s (sense_in senses) (at + 1) list) (sym c.note_case.ensures.others) more)

pub returns-clause-cases : goal.returns-clause-cases
returns-clause-cases c = λ before after uses are.
    let s = source_in c.args.syntax.now uses in
    let senses = senses_made c.args.unit.now c.args.results.now in
    let at = c.args.at in
    let old = c.args.self.now.cases in
    let mid = c.note_default.new.self.cases in
    let new = c.note_case.new.self.cases in
    let kept : AreCases before s (sense_in (take at senses)) at mid = subst (λ (list : List ((ℕ × ℤ) × ℕ)). AreCases before s (sense_in (take at senses)) at list) (sym c.in_ok-note_default.ensures.others) are in
    ok_more c.note_case.result ((switch : ℕ) (number : ℤ) → is_some (case_at new switch number) ≡ (is_some (case_at mid switch number) || is_case_again after s (sense_in senses) switch number at)) (AreCases after s (sense_in senses) (at + 1) new)
    (c.note_case.ensures.noted after uses) (λ noted. cases_more before after s senses at mid new kept noted)
