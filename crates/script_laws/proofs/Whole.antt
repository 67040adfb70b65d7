-- What is told has one status, one line and one text.
use Rattle.std.proofs.Common.{◌≡◌, ◌∙◌, ◌++◌, ◌⊎◌, ℕ, Bool, true, false, if◌then◌else◌, List, codes, Option, Some, Result, Err, arith, sym, ap, subst, inl, inr}
use Rattle.std.specs.Prelude.{decimal}
use Rattle.core_tree.specs.declared.node.Unit.{Unit}
use Rattle.core_tree.specs.declared.node.Program.{Program}
use Rattle.sol_model.specs.declared.system.System.{System}
use Rattle.obj_space.specs.declared.location.Location.{Location}
use Rattle.unit_report.specs.unit_system.Of.{IsProgramOf, IsSystemOf}
use Rattle.twin_report_laws.specs.linked.Linked.{IsOf}
use Rattle.twin_report_laws.proofs.linked.Whole.{one_report, one_summary, one_text}
use Rattle.alias_query.specs.Script.{lines_of}
use Rattle.c_lexer.specs.Places.{line_of, column_of}
use Rattle.run_text.proofs.OneReading.{one_reading}
use Rattle.text_units.specs.Answers.{NamedText, Answer, refusal, place_text}
use Rattle.text_units.specs.Alone.{malformed_at}
use Rattle.text_units.specs.Lowered.{AreRightTexts}
use Rattle.report_cli.specs.Told.{Side, no_side, with_questions, with_words, Told, form_of, generated, told_for}
use Rattle.report_cli.specs.Outside.{IsWritten}
use Rattle.report_cli.specs.Printed.{AreAnswersTo, IsInForm, IsPrinted, IsReport, IsSummary, IsRefusedScript, AreRefusedWords}
use Rattle.report_cli.specs.Outcome.{Denotes, Refuses, RefusesSide, RefusesTold, OutcomeOf, Outcome}
use Rattle.report_cli.specs.Accepted.{IsTakenScript, AreTakenWords, TakesSide, AreAccepted}
use Rattle.report_cli.proofs.Taken.{words_taken_or_refused}
use Rattle.report_cli.proofs.Linked.{formed}
use Rattle.report_cli.proofs.Together.{one_outcome}
use Rattle.report_cli.proofs.Naming.{are_named}
use Rattle.command_line.specs.Rules.{AreRight}
use Rattle.script_laws.specs.Scripted.{OneScript, SameStatus, AreNamedTexts, SameOut, SameFate, AskTheSame, OneFate}
use Rattle.script_laws.proofs.Settings.{one_program, same_scripts, within}
use Rattle.script_laws.proofs.Known.{known, words_named}
use Rattle.script_laws.proofs.Asked.{same_told}

taken : (entries : List (List ℕ)) (texts : List NamedText) (p q : Program) (space : List Location) (system : System) (side : Side) → Denotes entries texts p → Denotes entries texts q → IsSystemOf p space system
    → TakesSide p side → TakesSide q side
taken entries texts p q space system no_side h k of takes = tt
taken entries texts p q space system (with_words steps words) h k of takes = takes
taken entries texts p q space system (with_questions script) h k of takes = λ there other z.
    let mine : IsTakenScript p space system script = takes space system of in
    let its = (same_scripts entries texts p q space there system other h k of z).taken (lines_of script.1) mine.questions mine.asked in
    record { short = mine.short; questions = its.0; asked = its.1 }

-- ---- a script on two programs
module _ (entries : List (List ℕ)) (texts : List NamedText) (p q : Program) (space there : List Location) (system other : System) (h : Denotes entries texts p) (k : Denotes entries texts q) (s : IsSystemOf p space system) (z : IsSystemOf q there other)
    (script : NamedText) where
  one_refusal : (one two : Answer) → IsRefusedScript p space system script one → IsRefusedScript q there other script two → one ≡ two
  one_refusal one two (inl a) (inl b) = a.answer_is ∙ sym b.answer_is
  one_refusal one two (inl a) (inr b) = (let long = a.long in let short = b.short in absurd (omega arith))
  one_refusal one two (inr a) (inl b) = (let long = b.long in let short = a.short in absurd (omega arith))
  one_refusal one two (inr a) (inr b) =
      let line : a.number ≡ b.number = (same_scripts entries texts p q space there system other h k s z).refused (lines_of script.1) a.number b.number a.line b.line in
      a.answer_is ∙ (ap (λ (n : ℕ). refusal 10 (codes "question " ++ decimal n)) line ∙ sym b.answer_is)

  asked_or_refused : (answer : Answer) → IsTakenScript p space system script → IsRefusedScript q there other script answer → ⊥
  asked_or_refused answer a (inl b) = (let short = a.short in let long = b.long in omega arith)
  asked_or_refused answer a (inr b) = (same_scripts entries texts p q space there system other h k s z).apart (lines_of script.1) a.questions b.number a.asked b.line

-- ---- the words of a run
err_of : (a b : ℕ) → ◌≡◌ {A = Result (List ℕ) ℕ} (Err a) (Err b) → a ≡ b
err_of a b h = cc

one_words : (words : NamedText) (one two : Answer) → AreRefusedWords words one → AreRefusedWords words two → one ≡ two
one_words words one two (inl a) (inl b) = a.answer_is ∙ sym b.answer_is
one_words words one two (inl a) (inr b) = (let long = a.long in let short = b.short in absurd (omega arith))
one_words words one two (inr a) (inl b) = (let long = b.long in let short = a.short in absurd (omega arith))
one_words words one two (inr a) (inr b) =
    let same : a.at ≡ b.at = err_of a.at b.at (one_reading 0 words.1 (Err a.at) (Err b.at) a.reading b.reading) in
    a.answer_is ∙ (ap (λ (n : ℕ). malformed_at (place_text words.0 (line_of words.1 n) (column_of words.1 n))) same ∙ sym b.answer_is)

refused : (entries : List (List ℕ)) (texts : List NamedText) (side : Side) (one other : Answer) → RefusesSide entries texts side one → RefusesSide entries texts side other → one ≡ other
refused entries texts no_side one other h k = absurd h.refused
refused entries texts (with_words steps words) one other h k = one_words words one other h.refused k.refused
refused entries texts (with_questions script) one other h k =
    one_refusal entries texts h.program k.program h.space k.space h.system k.system h.denoted k.denoted h.system_of k.system_of script one other h.refused k.refused

apart_so : (entries : List (List ℕ)) (texts : List NamedText) (p : Program) (space : List Location) (system : System) (script : NamedText) (answer : Answer) → Denotes entries texts p → IsSystemOf p space system
    → IsTakenScript p space system script → RefusesSide entries texts (with_questions script) answer → ⊥
apart_so entries texts p space system script answer h of takes k =
    asked_or_refused entries texts p k.program space k.space system k.system h k.denoted of k.system_of script answer takes k.refused

apart : (entries : List (List ℕ)) (texts : List NamedText) (p : Program) (space : List Location) (system : System) (side : Side) (answer : Answer) → Denotes entries texts p → IsSystemOf p space system
    → TakesSide p side → RefusesSide entries texts side answer → ⊥
apart entries texts p space system no_side answer h of takes k = k.refused
apart entries texts p space system (with_words steps words) answer h of takes k = words_taken_or_refused words answer takes k.refused
apart entries texts p space system (with_questions script) answer h of takes k = apart_so entries texts p space system script answer h of (takes space system of) k

pub one_script : OneScript
one_script = record { taken = taken; refused = refused; apart = apart }

-- ---- what is told
-- units that refuse nothing where a program has a system
units_or_system : (entries : List (List ℕ)) (texts : List NamedText) (p : Program) (space : List Location) (system : System) (answer : Answer) → Denotes entries texts p → IsSystemOf p space system → Refuses entries texts answer → ⊥
units_or_system entries texts p space system answer h of k = one_outcome.within entries texts p answer h (within p space system of) k

units_or_side : (entries : List (List ℕ)) (texts : List NamedText) (side : Side) (one other : Answer) → Refuses entries texts one → RefusesSide entries texts side other → ⊥
units_or_side entries texts side one other h k = units_or_system entries texts k.program k.space k.system one k.denoted k.system_of h

told_refused : (told : Told) (one other : Answer) → RefusesTold told one → RefusesTold told other → one ≡ other
told_refused told one other (inl h) (inl k) = one_outcome.refused told.entries told.units one other h k
told_refused told one other (inl h) (inr k) = absurd (units_or_side told.entries told.units told.side one other h k)
told_refused told one other (inr h) (inl k) = absurd (units_or_side told.entries told.units told.side other one k h)
told_refused told one other (inr h) (inr k) = refused told.entries told.units told.side one other h k

-- what is printed of a program has its system, and takes what is read beside the units
HasSystem : Program → System → Side → Type 0
HasSystem p system no_side = (space : List Location) × IsSystemOf p space system
HasSystem p system (with_words steps words) = (space : List Location) × IsSystemOf p space system × AreTakenWords words
HasSystem p system (with_questions script) = (space : List Location) × IsSystemOf p space system × IsTakenScript p space system script

printed_system : (told : Told) (p : Program) (system : System) (side : Side) (out : List ℕ) (status : ℕ) → IsPrinted told.form side p system out status → HasSystem p system side
unfolding HasSystem AreAnswersTo
printed_system told p system no_side out status h = formed told.form p system out h.0
printed_system told p system (with_words steps words) out status h = (h.space, h.system_of, record { short = h.short; numbers = h.numbers; reading = h.reading })
printed_system told p system (with_questions script) out status h = (h.0.1.0, h.0.1.1, record { short = h.0.0; questions = h.0.1.2.questions; asked = h.0.1.2.asked })

system_or_refused : (entries : List (List ℕ)) (texts : List NamedText) (p : Program) (system : System) (side : Side) (answer : Answer) → Denotes entries texts p → HasSystem p system side
    → Refuses entries texts answer ⊎ RefusesSide entries texts side answer → ⊥
unfolding HasSystem
system_or_refused entries texts p system no_side answer h has (inl k) = units_or_system entries texts p has.0 system answer h has.1 k
system_or_refused entries texts p system no_side answer h has (inr k) = k.refused
system_or_refused entries texts p system (with_words steps words) answer h has (inl k) = units_or_system entries texts p has.0 system answer h has.1 k
system_or_refused entries texts p system (with_words steps words) answer h has (inr k) = words_taken_or_refused words answer has.2 k.refused
system_or_refused entries texts p system (with_questions script) answer h has (inl k) = units_or_system entries texts p has.0 system answer h has.1 k
system_or_refused entries texts p system (with_questions script) answer h has (inr k) = apart_so entries texts p has.0 system script answer h has.1 has.2 k

printed : (told : Told) (p : Program) (system : System) (out : List ℕ) (status : ℕ) (answer : Answer) → Denotes told.entries told.units p → IsPrinted told.form told.side p system out status → RefusesTold told answer → ⊥
printed told p system out status answer h print k = system_or_refused told.entries told.units p system told.side answer h (printed_system told p system told.side out status print) k

accepted : (told : Told) (p : Program) (space : List Location) (system : System) → Denotes told.entries told.units p → IsSystemOf p space system → TakesSide p told.side → AreAccepted told
accepted told p space system h of takes = record {
  program = p;
  denoted = h;
  within = within p space system of;
  side = λ q k. taken told.entries told.units p q space system told.side h k of takes;
}

-- one status, but for that of a run
same_status : (side : Side) (a b : ℕ) → a ≡ b → SameStatus side a b
same_status no_side a b h = h
same_status (with_questions script) a b h = h
same_status (with_words steps words) a b h = inl h

run_status : (stopped : Bool) (n : ℕ) → n ≡ (if stopped then 11 else 0) → IsWritten n
run_status true n is = inr is
run_status false n is = inl is

printed_status : (told : Told) (side : Side) (p q : Program) (system other : System) (out text : List ℕ) (a b : ℕ) → IsPrinted told.form side p system out a → IsPrinted told.form side q other text b → SameStatus side a b
printed_status told no_side p q system other out text a b h k = h.1 ∙ sym k.1
printed_status told (with_questions script) p q system other out text a b h k = h.1 ∙ sym k.1
printed_status told (with_words steps words) p q system other out text a b h k = inr (run_status _ a h.status_is, run_status _ b k.status_is)

-- ---- what is written
same_out : (told : Told) (out text : List ℕ) → out ≡ text → SameOut told out text
same_out told out text h = record { script = λ script side. h; report = λ json side form. h; summary = λ number side form. h }

same_fate : (told : Told) (one other : Answer) → one ≡ other → SameFate told one other
same_fate told one other same = record {
  status = same_status told.side one.status other.status (ap (λ (a : Answer). a.status) same);
  err = ap (λ (a : Answer). a.err) same;
  out = λ named. same_out told one.out other.out (ap (λ (a : Answer). a.out) same);
}

is_of : (entries : List (List ℕ)) (texts : List NamedText) (units : List Unit) (p : Program) (space : List Location) (system : System) → AreNamedTexts texts → AreRightTexts 0 texts units → IsProgramOf entries units p → IsSystemOf p space system
    → IsOf entries units p space system
is_of entries texts units p space system named right of own = record { known = known texts units named right; program = of; system_of = own }

module _ (entries : List (List ℕ)) (texts : List NamedText) (p q : Program) (system other : System) (out text : List ℕ) (named : AreNamedTexts texts) where
  script_out : (script : NamedText) → Denotes entries texts p → Denotes entries texts q → AreAnswersTo script.1 p system out → AreAnswersTo script.1 q other text → out ≡ text
  unfolding Denotes AreAnswersTo
  script_out script (us, h, one) (vs, k, two) x y =
      let (space, s, answers) = x.1 in
      let (more, z, others) = y.1 in
      sym
      (one_text us vs p q space more system other script.1 out text (one_program entries texts us vs p q h k one two) (are_named texts us named.bytes h) (is_of entries texts us p space system named h one s) (is_of entries texts vs q more other named k two z) answers
      others)

  report_out : (json : Bool) → Denotes entries texts p → Denotes entries texts q → IsReport json p system out → IsReport json q other text → out ≡ text
  unfolding Denotes IsReport
  report_out json (us, h, one) (vs, k, two) (space, s, report) (more, z, again) =
      sym
      (one_report json us vs p q space more system other out text (one_program entries texts us vs p q h k one two) (is_of entries texts us p space system named h one s) (is_of entries texts vs q more other named k two z) report again)

  summary_out : (number : ℕ) → Denotes entries texts p → Denotes entries texts q → IsSummary number p system out → IsSummary number q other text → out ≡ text
  unfolding Denotes IsSummary
  summary_out number (us, h, one) (vs, k, two) (space, s, summary) (more, z, again) =
      sym
      (one_summary number us vs p q space more system other out text (one_program entries texts us vs p q h k one two) (is_of entries texts us p space system named h one s) (is_of entries texts vs q more other named k two z) summary again)

-- what is printed with nothing beside the units, and answers to a script
in_form : (told : Told) (p : Program) (system : System) (out : List ℕ) (a : ℕ) → told.side ≡ no_side → IsPrinted told.form told.side p system out a → IsInForm told.form p system out
in_form told p system out a none x =
    let P : Side → Type 0 = λ side. IsPrinted told.form side p system out a in
    let printed : IsPrinted told.form no_side p system out a = subst P none x in
    printed.0

answers_of : (told : Told) (script : NamedText) (p : Program) (system : System) (out : List ℕ) (a : ℕ) → told.side ≡ with_questions script → IsPrinted told.form told.side p system out a → AreAnswersTo script.1 p system out
answers_of told script p system out a asked x =
    let P : Side → Type 0 = λ side. IsPrinted told.form side p system out a in
    let printed : IsPrinted told.form (with_questions script) p system out a = subst P asked x in
    printed.0

as_report : (told : Told) (json : Bool) (p : Program) (system : System) (out : List ℕ) → told.form ≡ form_of false false json → IsInForm told.form p system out → IsReport json p system out
as_report told json p system out form x = subst (λ f. IsInForm f p system out) form x

as_summary : (told : Told) (number : ℕ) (p : Program) (system : System) (out : List ℕ) → told.form ≡ (generated number).form → IsInForm told.form p system out → IsSummary number p system out
as_summary told number p system out form x = subst (λ f. IsInForm f p system out) form x

printed_out : (told : Told) (p q : Program) (system other : System) (out text : List ℕ) (a b : ℕ) → AreNamedTexts told.units → Denotes told.entries told.units p → Denotes told.entries told.units q
    → IsPrinted told.form told.side p system out a → IsPrinted told.form told.side q other text b → SameOut told out text
printed_out told p q system other out text a b named h k x y = record {
  script = λ script asked. script_out told.entries told.units p q system other out text named script h k (answers_of told script p system out a asked x) (answers_of told script q other text b asked y);
  report = λ json none form.
      report_out told.entries told.units p q system other out text named json h k (as_report told json p system out form (in_form told p system out a none x)) (as_report told json q other text form (in_form told q other text b none y));
  summary = λ number none form.
      summary_out told.entries told.units p q system other out text named number h k (as_summary told number p system out form (in_form told p system out a none x)) (as_summary told number q other text form (in_form told q other text b none y));
}

told_so : (told : Told) (one other : Answer) → OutcomeOf told one → OutcomeOf told other → SameFate told one other
told_so told one other (inl h) (inl k) = record {
  status = printed_status told told.side h.0 k.0 h.1 k.1 one.out other.out one.status other.status h.3 k.3;
  err = h.4 ∙ sym k.4;
  out = λ named. printed_out told h.0 k.0 h.1 k.1 one.out other.out one.status other.status named h.2 k.2 h.3 k.3;
}
told_so told one other (inl h) (inr k) = absurd (printed told h.0 h.1 one.out one.status other h.2 h.3 k)
told_so told one other (inr h) (inl k) = absurd (printed told k.0 k.1 other.out other.status one k.2 k.3 h)
told_so told one other (inr h) (inr k) = same_fate told one other (told_refused told one other h k)

words_so : (words : List (List ℕ)) (told : Told) (one other : Answer) → Outcome words told one → Outcome words told other → SameFate told one other
words_so words told one other (inl h) (inl k) = same_fate told one other (h.1 ∙ sym k.1)
words_so words told one other (inl h) (inr k) = absurd (h.0 k.0)
words_so words told one other (inr h) (inl k) = absurd (k.0 h.0)
words_so words told one other (inr h) (inr k) = told_so told one other h.1 k.1

bytes_so : (text_of : List ℕ → Option (List ℕ)) (words : List (List ℕ)) (told : Told) (one other : Answer) → told_for text_of words ≡ Some told → Outcome words told one → Outcome words told other
    → SameOut told one.out other.out
bytes_so text_of words told one other e (inl h) (inl k) = same_out told one.out other.out (ap (λ (a : Answer). a.out) (h.1 ∙ sym k.1))
bytes_so text_of words told one other e (inl h) (inr k) = absurd (h.0 k.0)
bytes_so text_of words told one other e (inr h) k = (words_so words told one other (inr h) k).out (words_named text_of words told e h.0)

-- right words that ask for the same have one fate
right_outcome : (words : List (List ℕ)) (told : Told) (answer : Answer) → AreRight words → Outcome words told answer → OutcomeOf told answer
right_outcome words told answer right (inl h) = absurd (h.0 right)
right_outcome words told answer right (inr h) = h.1

workers_so : (text_of : List ℕ → Option (List ℕ)) (words others : List (List ℕ)) (told : Told) (one other : Answer) → AreRight words → AreRight others → AskTheSame words others → told_for text_of words ≡ Some told
    → Outcome words told one → Outcome others told other → SameFate told one other × SameOut told one.out other.out
workers_so text_of words others told one other right too same e h k =
    let fate : SameFate told one other = told_so told one other (right_outcome words told one right h) (right_outcome others told other too k) in
    (fate, fate.out (words_named text_of words told e right))

pub one_fate : OneFate
one_fate = record { refused = told_refused; printed = printed; accepted = accepted; told = told_so; words = words_so; bytes = bytes_so; asked = same_told; workers = workers_so }
