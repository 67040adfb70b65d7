-- A script, or the words of a run, that are taken aren't refused.
use Rattle.std.proofs.Common.{◌≡◌, ◌∙◌, ◌⊎◌, ℕ, List, [], ◌∷◌, ◌++◌, Ok, Err, arith, inl, inr, sym, ap, subst}
use Rattle.alias_query.specs.declared.answers.Question.{Question}
use Rattle.alias_query.specs.declared.answers.Question.TheVariants.{Points, Alias, Reaches}
use Rattle.alias_query.specs.Script.{pieces, lines_of, IsForm, IsVerb, IsBad}
use Rattle.alias_query.specs.Asked.{Setting, Means, Asks, IsNameless, AreAsked, IsFirst}
use Rattle.core_tree.specs.declared.node.Program.{Program}
use Rattle.sol_model.specs.declared.system.System.{System}
use Rattle.obj_space.specs.declared.location.Location.{Location}
use Rattle.unit_report.specs.unit_answers.Answered.{setting_of}
use Rattle.text_units.specs.Answers.{NamedText, Answer}
use Rattle.run_text.proofs.OneReading.{one_reading}
use Rattle.report_cli.specs.Printed.{IsRefusedScript, AreRefusedWords}
use Rattle.report_cli.specs.Accepted.{IsTakenScript, AreTakenWords}

module _ (setting : Setting) where
  -- a line among others that are asked
  asked_at : (before : List (List ℕ)) (line : List ℕ) (after : List (List ℕ)) (questions : List Question) → AreAsked setting (before ++ line ∷ after) questions → (line ≡ []) ⊎ ((question : Question) × Asks setting line question)
  asked_at [] line after questions (inl h) = inl h.0
  asked_at [] line after questions (inr h) = inr (h.0, h.3)
  asked_at (first ∷ before) line after questions (inl h) = asked_at before line after questions h.1
  asked_at (first ∷ before) line after questions (inr h) = asked_at before line after h.1 h.4

  verb_of : (verb first second : List ℕ) (question : Question) → Means setting verb first second question → IsVerb verb
  verb_of verb first second (Points row location) h = inl h.0
  verb_of verb first second (Alias left right) h = inr (inl h.0)
  verb_of verb first second (Reaches call function) h = inr (inr h.0)

  -- a line that isn't in the grammar asks nothing
  bad_or_asked : (line : List ℕ) → IsBad line → (line ≡ []) ⊎ ((question : Question) × Asks setting line question) → ⊥
  bad_or_asked line bad (inl empty) = bad.some empty
  bad_or_asked line bad (inr (question, asks)) = bad.no_form asks.verb asks.first asks.second asks.form (verb_of asks.verb asks.first asks.second question asks.meant)

  -- a line has its words in one way
  record AreWords (verb first second v f s : List ℕ) : Type 0 where
    verbs : v ≡ verb
    firsts : f ≡ first
    seconds : s ≡ second

  one_form : (line verb first second v f s : List ℕ) → IsForm line verb first second → IsForm line v f s → AreWords verb first second v f s
  one_form line verb first second v f s h k =
      let same : v ∷ f ∷ s ∷ [] ≡ verb ∷ first ∷ second ∷ [] = sym k.words ∙ h.words in
      record { verbs = cc; firsts = cc; seconds = cc }

  empty_form : (line verb first second : List ℕ) → line ≡ [] → IsForm line verb first second → ⊥
  empty_form line verb first second empty h =
      let same : [] ∷ [] ≡ verb ∷ first ∷ second ∷ [] = ap (pieces 32) (sym empty) ∙ h.words in cc

  -- nor does one that names nothing of the right sort
  nameless_or_asked : (line : List ℕ) → IsNameless setting line → (line ≡ []) ⊎ ((question : Question) × Asks setting line question) → ⊥
  nameless_or_asked line nameless (inl empty) = empty_form line nameless.verb nameless.first nameless.second empty nameless.form
  nameless_or_asked line nameless (inr (question, asks)) =
      let same = one_form line nameless.verb nameless.first nameless.second asks.verb asks.first asks.second nameless.form asks.form in
      nameless.none question
      (subst (λ (s : List ℕ). Means setting nameless.verb nameless.first s question) same.seconds
      (subst (λ (f : List ℕ). Means setting nameless.verb f asks.second question) same.firsts (subst (λ (v : List ℕ). Means setting v asks.first asks.second question) same.verbs asks.meant)))

  at_first : (lines : List (List ℕ)) (questions : List Question) (number : ℕ) (Fault : List ℕ → Type 0) → AreAsked setting lines questions → (h : IsFirst setting lines number Fault) → (h.line ≡ []) ⊎ ((question : Question) × Asks setting h.line question)
  at_first lines questions number Fault asked h = asked_at h.before h.line h.after questions (subst (λ (l : List (List ℕ)). AreAsked setting l questions) h.split asked)

  asked_or_refused : (lines : List (List ℕ)) (questions : List Question) (number : ℕ) → AreAsked setting lines questions → IsFirst setting lines number IsBad ⊎ IsFirst setting lines number (IsNameless setting) → ⊥
  asked_or_refused lines questions number asked (inl h) = bad_or_asked h.line h.fault (at_first lines questions number IsBad asked h)
  asked_or_refused lines questions number asked (inr h) = nameless_or_asked h.line h.fault (at_first lines questions number (IsNameless setting) asked h)

pub taken_or_refused : (program : Program) (space : List Location) (system : System) (script : NamedText) (answer : Answer) → IsTakenScript program space system script → IsRefusedScript program space system script answer → ⊥
taken_or_refused program space system script answer taken (inl h) = let short = taken.short in let long = h.long in omega arith
taken_or_refused program space system script answer taken (inr h) =
    asked_or_refused (setting_of program space system) (lines_of script.1) taken.questions h.number taken.asked h.line

-- words that are read aren't refused
ok_or_err : (numbers : List ℕ) (at : ℕ) → Ok numbers ≡ Err at → ⊥
ok_or_err numbers at h = cc

pub words_taken_or_refused : (words : NamedText) (answer : Answer) → AreTakenWords words → AreRefusedWords words answer → ⊥
words_taken_or_refused words answer taken (inl h) = let short = taken.short in let long = h.long in omega arith
words_taken_or_refused words answer taken (inr h) = ok_or_err taken.numbers h.at (one_reading 0 words.1 (Ok taken.numbers) (Err h.at) taken.reading h.reading)
