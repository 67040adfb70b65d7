use Rattle.std.proofs.Common.{◌∙◌, ℕ, List, map, sym, ap}
use Rattle.c_senses.specs.Tree.{Source, spelling_at}
use Rattle.c_senses.specs.Keys.{names_with}
use Rattle.c_senses.specs.Sense.{Sense, sense_in}
use Rattle.c_results.specs.Standing.{senses_made}
use Rattle.tree_reads.specs.Sources.{source_in}
use Rattle.unit_keys.specs.Words.{has_word}
use Rattle.unit_keys.specs.Free.{first_untaken}
use Rattle.unit_keys.proofs.Taking.{free_is, taken_more, taken_same, free_same, free_none, free_some}
use Rattle.unit_keys.proofs.free.free_more.Goals as goal

pub returns-then-not-is_specifier_at-clause-taken : goal.returns-then-not-is_specifier_at-clause-taken
returns-then-not-is_specifier_at-clause-taken c = λ u uses roles h.
    taken_same (source_in c.args.syntax.now uses) (sense_in (senses_made u c.args.results.now)) c.args.node (has_word c.args.taken.now) (sym (c.is_specifier_at.ensures (source_in c.args.syntax.now uses) roles) ∙ c.if-not-is_specifier_at.true) h

pub returns-then-not-is_specifier_at-clause-free : goal.returns-then-not-is_specifier_at-clause-free
returns-then-not-is_specifier_at-clause-free c = λ u uses roles h are.
    free_same (source_in c.args.syntax.now uses) (sense_in (senses_made u c.args.results.now)) c.args.free.now c.args.node (sym (c.is_specifier_at.ensures (source_in c.args.syntax.now uses) roles) ∙ c.if-not-is_specifier_at.true) are

pub returns-in-Some-clause-taken : goal.returns-in-Some-clause-taken
returns-in-Some-clause-taken c = λ u uses roles h.
    let s : Source = source_in c.args.syntax.now uses in
    let sense : ℕ → Sense = sense_in (senses_made u c.args.results.now) in
    λ name.
    taken_more s sense c.args.node name (has_word c.args.taken.now name) (has_word c.take_untagged.new.taken name) (map (spelling_at s) c.as_slice-2.result.now) (h name)
    (ap (map (spelling_at s)) c.as_slice-2.ensures.value ∙ c.in_ok-leaves.ensures u uses) (c.in_ok-take_untagged.ensures uses sense name)

pub returns-clause-taken : goal.returns-clause-taken
returns-clause-taken c = λ u uses roles h.
    let s : Source = source_in c.args.syntax.now uses in
    let sense : ℕ → Sense = sense_in (senses_made u c.args.results.now) in
    λ name.
    taken_more s sense c.args.node name (has_word c.args.taken.now name) (has_word c.take_untagged.new.taken name) (map (spelling_at s) c.as_slice-2.result.now) (h name)
    (ap (map (spelling_at s)) c.as_slice-2.ensures.value ∙ c.in_ok-leaves.ensures u uses) (c.in_ok-take_untagged.ensures uses sense name)

pub returns-in-Some-clause-free : goal.returns-in-Some-clause-free
returns-in-Some-clause-free c = λ u uses roles h are.
    let s : Source = source_in c.args.syntax.now uses in
    let sense : ℕ → Sense = sense_in (senses_made u c.args.results.now) in
    let taken = c.args.taken.now in
    free_some s sense c.args.free.now c.add.new.self c.args.node c.in-Some.leaf c.first_free-first.result
    (c.first_free-first.ensures uses
    ∙ (ap (λ (l : List ℕ). first_untaken (has_word taken) (map (spelling_at s) l)) c.as_slice.ensures.value
    ∙ (ap (first_untaken (has_word taken)) (c.in_ok-leaves.ensures u uses) ∙ free_is s sense c.args.node (has_word taken) (λ name. h name) (names_with s sense c.args.node))))
    c.in-Some.is c.in_ok-add-in-Some.ensures.here c.in_ok-add-in-Some.ensures.others are

pub returns-clause-free : goal.returns-clause-free
returns-clause-free c = λ u uses roles h are.
    let s : Source = source_in c.args.syntax.now uses in
    let sense : ℕ → Sense = sense_in (senses_made u c.args.results.now) in
    let taken = c.args.taken.now in
    free_none s sense c.args.free.now c.args.node c.first_free-first.result
    (c.first_free-first.ensures uses
    ∙ (ap (λ (l : List ℕ). first_untaken (has_word taken) (map (spelling_at s) l)) c.as_slice.ensures.value
    ∙ (ap (first_untaken (has_word taken)) (c.in_ok-leaves.ensures u uses) ∙ free_is s sense c.args.node (has_word taken) (λ name. h name) (names_with s sense c.args.node))))
    c.in-None.is are
