-- What is told of a run, step by step.
use Rattle.std.proofs.Common.{arith, ◌≡◌, ◌∙◌, ℕ, suc, ◌-◌, Bool, true, false, List, ◌++◌, Some, None, codes, sym, ap, append_assoc}
use Rattle.core_tree.specs.declared.node.Program.{Program}
use Rattle.ref_state.specs.declared.state.State.{State}
use Rattle.ref_calls.specs.Outcomes.{Outcome, Goes, Ends, Stops}
use Rattle.ref_machine.specs.Types.{running}
use Rattle.ref_machine.specs.Step.{step, chooses}
use Rattle.ref_machine.specs.Run.{start, word_for, words_after}
use Rattle.run_text.specs.Lines.{notes_text, went_line}
use Rattle.run_text.specs.RunText.{Told, before, told_by, told_from, run_told, Adds}

told : List ℕ → Bool → Told
told text stopped = record { text = text; stopped = stopped }

before-before : (a b : List ℕ) (rest : Told) → before a (before b rest) ≡ before (a ++ b) rest
unfolding told
before-before a b rest = ap (λ (t : List ℕ). told t rest.stopped) (sym (append_assoc a b rest.text))

-- the end of a run
pub went_all : (p : Program) (steps n : ℕ) (state : State) (words old new : List ℕ) (all : Told) → n ≡ 0 → new ≡ old ++ went_line steps
    → before old (told_from p steps n state words) ≡ all → record { text = new; stopped = false } ≡ all
unfolding told told_from
went_all p steps n state words old new all none last so_far =
    ap (λ (t : List ℕ). told t false) last ∙ sym (ap (λ (k : ℕ). before old (told_from p steps k state words)) none) ∙ so_far

-- a step from a state, where what is told so far stands before what is told of the steps that are left
module _ (p : Program) (steps : ℕ) (state : State) (words : List ℕ) (chosen : Bool) (word : ℕ) (old : List ℕ) (all : Told) (n m : ℕ) (is : chosen ≡ chooses (running p) state) (taken : word ≡ word_for chosen words)
    (count : n ≡ suc m) (so_far : before old (told_from p steps n state words) ≡ all) where
  more : List ℕ → State → Told
  more rest next = told_from p steps m next rest

  by_outcome : (o : Outcome) → step (running p) state word ≡ o → before old (told_by p (more (words_after (chooses (running p) state) words)) o) ≡ all
  unfolding more told_from
  by_outcome o comes =
      let same : step (running p) state (word_for (chooses (running p) state) words) ≡ o = ap (step (running p) state) (sym (taken ∙ ap (λ (b : Bool). word_for b words) is)) ∙ comes in
      ap (λ (x : Outcome). before old (told_by p (λ next. told_from p steps m next (words_after (chooses (running p) state) words)) x)) (sym same)
      ∙ ap (λ (k : ℕ). before old (told_from p steps k state words)) (sym count)
      ∙ so_far

  pub went : (after : State) (rest new : List ℕ) → rest ≡ words_after chosen words → Adds p old new after (step (running p) state word) None → before new (told_from p steps m after rest) ≡ all
  unfolding more
  went after rest new left adds =
      ap (λ (l : List ℕ). before new (told_from p steps m after l)) (left ∙ ap (λ (b : Bool). words_after b words) is)
      ∙ ap (λ (t : List ℕ). before t (told_from p steps m after (words_after (chooses (running p) state) words))) adds.1
      ∙ sym (before-before old (notes_text p after.memory after.notes) (told_from p steps m after (words_after (chooses (running p) state) words)))
      ∙ by_outcome (Goes after) adds.0

  pub ended : (stopped : Bool) (after : State) (new : List ℕ) → Adds p old new after (step (running p) state word) (Some stopped) → record { text = new; stopped = stopped } ≡ all
  unfolding told
  ended false after new adds = ap (λ (t : List ℕ). told t false) adds.2 ∙ by_outcome (Ends adds.0) adds.1
  ended true after new adds = ap (λ (t : List ℕ). told t true) adds.3 ∙ by_outcome (Stops adds.0 adds.1) adds.2

-- the start of a run
pub told_start : (p : Program) (steps : ℕ) (words text : List ℕ) (state : State) → text ≡ codes "run 1\n" → state ≡ start p → before text (told_from p steps (steps - 0) state words) ≡ run_told p words steps
unfolding run_told
told_start p steps words text state text_is state_is =
    ap (λ (t : List ℕ). before t (told_from p steps (steps - 0) state words)) text_is
    ∙ ap (λ (s : State). before (codes "run 1\n") (told_from p steps (steps - 0) s words)) state_is
    ∙ ap (λ (n : ℕ). before (codes "run 1\n") (told_from p steps n (start p) words)) (omega arith)
