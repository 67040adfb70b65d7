-- What a script of questions comes to.
use Rattle.std.proofs.Common.{◌≡◌, ◌<◌, ◌≤◌, ◌^◌, ◌++◌, ℕ, List, [], ◌∷◌, Option, Some, None, option_map, take, length, get_or, slice_get, codes, inl, inr, refl, sym, ◌∙◌, ap, subst, arith, append-nil}
use Rattle.std.proofs.lemmas.List.{length-append, length-map}
use Rattle.std.proofs.lemmas.Option.{slice_get-get_or}
use Rattle.std.specs.Prelude.{zip, decimal, Result, Ok, Err, IfOk, IfErr}
use Rattle.std.specs.Borrow.{Bor}
use Rattle.core_tree.specs.declared.node.Program.{Program}
use Rattle.sol_model.specs.declared.system.System.{System}
use Rattle.obj_space.specs.declared.location.Location.{Location}
use Rattle.unit_report.specs.unit_system.Of.{IsSystemOf}
use Rattle.unit_report.specs.declared.unit_answers.fault.AnswersFault.{AnswersFault}
use Rattle.unit_report.specs.declared.unit_answers.fault.AnswersFault.TheVariants.{Question, OutOfMemory}
use Rattle.unit_report.specs.unit_answers.Answered.{IsProgramAnswers}
use Rattle.unit_report.specs.unit_answers.Fault.{IsAnswersFault}
use Rattle.text_units.specs.declared.fault.UnitsFault.{UnitsFault}
use Rattle.text_units.specs.declared.fault.UnitsFault.TheVariants.{Refused, Memory}
use Rattle.report_cli.specs.declared.form.Form.{Form}
use Rattle.c_lexer.specs.Places.{line_of, column_of}
use Rattle.ref_state.specs.declared.run_words.words.WordsFault.{WordsFault}
use Rattle.ref_state.specs.declared.run_words.words.WordsFault.TheVariants as words
use Rattle.ref_state.specs.run_words.Words.{IsRefusal}
use Rattle.text_units.specs.Answers.{NamedText, Answer, refusal, place_text, names_of}
use Rattle.text_units.specs.Alone.{malformed_at}
use Rattle.report_cli.specs.Words.{with_side}
use Rattle.report_cli.specs.Told.{Side, no_side, with_questions, with_words, side_of}
use Rattle.report_cli.specs.Printed.{AreAnswersTo, AreRefusedWords, IsRefusedSide}
use Rattle.report_cli.specs.Outcome.{Denotes}
use Rattle.report_cli.specs.Scripts.{told_with}
use Rattle.text_units.specs.Faults.{fault_of}
use Rattle.report_cli.specs.Faults.{AreFaultOfWords, IsFaultOf, IsFaultOfTold, IsFaultOfSide, IsAnswersRefusal, IsWordsRefusal}

one_of : (a b : List ℕ) → Some a ≡ Some b → a ≡ b
one_of a b h = cc

module _ (program : Program) (space : List Location) (system : System) (side : Side) where
  side_so : (answer : Answer) (fault : UnitsFault) → fault ≡ fault_of answer → answer.out ≡ [] → IsRefusedSide side program space system answer → IsFaultOfSide program space system side fault
  side_so answer fault is nothing refused =
      let P : UnitsFault → Type 0 = λ f. IsFaultOfSide program space system side f in
      let Q : List ℕ → Type 0 = λ out. IsRefusedSide side program space system (record { status = answer.status; out = out; err = answer.err }) in
      subst P (sym is) (subst Q nothing refused)

  -- the refusal of what is read beside the units, on the program that texts denote
  pub side_told : (entries : List (List ℕ)) (texts : List NamedText) (form : Form) (fault : UnitsFault) → Denotes entries texts program → IsSystemOf program space system → IsFaultOfSide program space system side fault → IsFaultOfTold (told_with entries texts side form) fault
  side_told entries texts form (Refused status line) denoted of h = inr (record { program = program; denoted = denoted; space = space; system = system; system_of = of; refused = h })
  side_told entries texts form Memory denoted of h = tt

module _ (program : Program) (space : List Location) (system : System) (script : NamedText) where
  -- a script over the limit is refused
  pub long_script : (fault : UnitsFault) → 2 ^ 24 < length script.1 → fault ≡ fault_of (refusal 6 (script.0 ++ codes ": too large text 16777217")) → IsFaultOfSide program space system (with_questions script) fault
  long_script fault long is = side_so program space system (with_questions script) (refusal 6 (script.0 ++ codes ": too large text 16777217")) fault is refl (inl (record { long = long; answer_is = refl }))

  -- the fault of a script within the limit refuses it
  pub script_refused : (cause : AnswersFault) (fault : UnitsFault) → length script.1 ≤ 2 ^ 24 → IsAnswersFault program space system script.1 cause → IsAnswersRefusal cause fault → IsFaultOfSide program space system (with_questions script) fault
  script_refused (Question number) fault short h is =
      side_so program space system (with_questions script) (refusal 10 (codes "question " ++ decimal number)) fault is refl (inr (record { short = short; number = number; line = h; answer_is = refl }))
  script_refused OutOfMemory fault short h is = let P : UnitsFault → Type 0 = λ f. IsFaultOfSide program space system (with_questions script) f in subst P (sym is) tt

  -- the answers to a script within the limit
  pub answers_printed : (text : List ℕ) → length script.1 ≤ 2 ^ 24 → IsSystemOf program space system → IsProgramAnswers program space system script.1 text → AreAnswersTo script.1 program system text
  unfolding AreAnswersTo
  answers_printed text short of h = (short, (space, of, h))

-- the words of a run
module _ (text : NamedText) where
  words_so : (answer : Answer) (fault : UnitsFault) → fault ≡ fault_of answer → answer.out ≡ [] → AreRefusedWords text answer → AreFaultOfWords text fault
  words_so answer fault is nothing refused =
      let P : UnitsFault → Type 0 = λ f. AreFaultOfWords text f in
      let Q : List ℕ → Type 0 = λ out. AreRefusedWords text (record { status = answer.status; out = out; err = answer.err }) in
      subst P (sym is) (subst Q nothing refused)

  -- over the limit they are refused
  pub long_words : (fault : UnitsFault) → 2 ^ 24 < length text.1 → fault ≡ fault_of (refusal 6 (text.0 ++ codes ": too large text 16777217")) → AreFaultOfWords text fault
  long_words fault long is = words_so (refusal 6 (text.0 ++ codes ": too large text 16777217")) fault is refl (inl (record { long = long; answer_is = refl }))

  -- and within it for their fault
  pub words_refused : (cause : WordsFault) (fault : UnitsFault) → length text.1 ≤ 2 ^ 24 → IsRefusal text.1 cause → IsWordsRefusal text cause fault → AreFaultOfWords text fault
  words_refused (words.Malformed at) fault short h is =
      words_so (malformed_at (place_text text.0 (line_of text.1 at) (column_of text.1 at))) fault is refl (inr (record { short = short; at = at; reading = h; answer_is = refl }))
  words_refused words.OutOfMemory fault short h is = let P : UnitsFault → Type 0 = λ f. AreFaultOfWords text f in subst P (sym is) tt

  pub words_beside : (program : Program) (space : List Location) (system : System) (steps : ℕ) (fault : UnitsFault) → AreFaultOfWords text fault → IsFaultOfSide program space system (with_words steps text) fault
  words_beside program space system steps (Refused status line) h = h
  words_beside program space system steps Memory h = tt

pub both_ok : {A E : Type 0} (r : Result A E) (P Q R : A → Type 0) → ((x : A) → P x → Q x → R x) → IfOk r P → IfOk r Q → IfOk r R
both_ok (Ok x) P Q R f p q = f x p q
both_ok (Err e) P Q R f p q = tt

pub on_fault : {A E : Type 0} (r : Result A E) (P Q : E → Type 0) → ((e : E) → P e → Q e) → IfErr r P → IfErr r Q
on_fault (Ok x) P Q f p = tt
on_fault (Err e) P Q f p = f e p

-- the refusal of units, whatever is read beside them
pub units_told : (entries : List (List ℕ)) (texts : List NamedText) (side : Side) (form : Form) (fault : UnitsFault) → IsFaultOf entries texts fault → IsFaultOfTold (told_with entries texts side form) fault
units_told entries texts side form (Refused status line) h = inl h
units_told entries texts side form Memory h = tt

-- units with their texts stand first
zip_front : (units more texts : List (List ℕ)) → zip units (take (length units) texts) ≡ take (length units) (zip (units ++ more) texts)
zip_front [] more texts = refl
zip_front (unit ∷ units) more [] = refl
zip_front (unit ∷ units) more (text ∷ texts) = ap (λ (rest : List NamedText). (unit, text) ∷ rest) (zip_front units more texts)

zip_units : (units : List (List ℕ)) (script : Option (List ℕ)) (texts : List (List ℕ)) → zip units (take (length units) texts) ≡ take (length units) (zip (with_side units script) texts)
zip_units units None texts = zip_front units [] texts ∙ ap (λ (all : List (List ℕ)). take (length units) (zip all texts)) (append-nil units)
zip_units units (Some script) texts = zip_front units (script ∷ []) texts

pub units_apart : (words : List (Bor (List ℕ))) (script : Option (List ℕ)) (texts : List (List ℕ)) → zip (names_of words) (take (length words) texts) ≡ take (length words) (zip (with_side (names_of words) script) texts)
units_apart words script texts =
    let same : length (names_of words) ≡ length words = length-map words (λ (b : Bor (List ℕ)). b.now) in
    let P : ℕ → Type 0 = λ n. zip (names_of words) (take n texts) ≡ take n (zip (with_side (names_of words) script) texts) in
    subst P same (zip_units (names_of words) script texts)

-- there is a text for each unit
pub units_enough : (words : List (Bor (List ℕ))) (script : Option (List ℕ)) → length words ≤ length (with_side (names_of words) script)
units_enough words None = let same = length-map words (λ (b : Bor (List ℕ)). b.now) in omega arith
units_enough words (Some script) =
    let same = length-map words (λ (b : Bor (List ℕ)). b.now) in
    let more = length-append (names_of words) (script ∷ []) in omega arith

-- and the script behind them
none_behind : (units texts : List (List ℕ)) → length texts ≡ length units → slice_get (zip units texts) (length units) ≡ None
none_behind [] texts count = refl
none_behind (unit ∷ units) [] count = absurd (omega arith)
none_behind (unit ∷ units) (text ∷ texts) count = none_behind units texts (omega arith)

one_behind : (units : List (List ℕ)) (script : List ℕ) (texts : List (List ℕ)) (text : List ℕ) → slice_get texts (length units) ≡ Some text → slice_get (zip (units ++ script ∷ []) texts) (length units) ≡ Some (script, text)
one_behind [] script [] text at = absurd (cc)
one_behind [] script (first ∷ texts) text at = ap (λ (t : List ℕ). Some (script, t)) (one_of first text at)
one_behind (unit ∷ units) script [] text at = absurd (cc)
one_behind (unit ∷ units) script (first ∷ texts) text at = one_behind units script texts text at

bor_of : (a b : Bor (List ℕ)) → Some a ≡ Some b → a ≡ b
bor_of a b h = cc

-- the script of a command, by the text behind those of its units
pub script_behind : (units : List (Bor (List ℕ))) (ask : Option (Bor (List ℕ))) (name : Bor (List ℕ)) (texts : List (List ℕ)) (n : ℕ) (x text : List ℕ) → ask ≡ Some name
    → length texts ≡ length (with_side (names_of units) (option_map (λ (b : Bor (List ℕ)). b.now) ask)) → n ≡ length units → x ≡ get_or texts n x → text ≡ x
    → Some (name.now, text) ≡ slice_get (zip (with_side (names_of units) (option_map (λ (b : Bor (List ℕ)). b.now) ask)) texts) (length units)
script_behind units None name texts n x text is count n_is at text_is = absurd (cc)
script_behind units (Some b) name texts n x text is count n_is at text_is =
    let same : length (names_of units) ≡ length units = length-map units (λ (c : Bor (List ℕ)). c.now) in
    let more = length-append (names_of units) (b.now ∷ []) in
    let counted : length texts ≡ length (names_of units ++ b.now ∷ []) = count in
    let within : length units < length texts = omega arith in
    let there : slice_get texts (length units) ≡ Some text =
    slice_get-get_or texts (length units) x within ∙ ap (λ (t : List ℕ). Some t) (ap (λ (k : ℕ). get_or texts k x) (sym n_is) ∙ sym at ∙ sym text_is) in
    let P : ℕ → Type 0 = λ k. slice_get texts k ≡ Some text in
    let behind = one_behind (names_of units) b.now texts text (subst P (sym same) there) in
    ap (λ (c : Bor (List ℕ)). Some (c.now, text)) (sym (bor_of b name is)) ∙ sym behind ∙ ap (λ (k : ℕ). slice_get (zip (names_of units ++ b.now ∷ []) texts) k) same

pub no_script_behind : (units : List (Bor (List ℕ))) (ask : Option (Bor (List ℕ))) (texts : List (List ℕ)) → ask ≡ None
    → length texts ≡ length (with_side (names_of units) (option_map (λ (b : Bor (List ℕ)). b.now) ask))
    → None ≡ slice_get (zip (with_side (names_of units) (option_map (λ (b : Bor (List ℕ)). b.now) ask)) texts) (length units)
no_script_behind units (Some b) texts is count = absurd (cc)
no_script_behind units None texts is count =
    let same : length (names_of units) ≡ length units = length-map units (λ (c : Bor (List ℕ)). c.now) in
    sym (none_behind (names_of units) texts count) ∙ ap (λ (k : ℕ). slice_get (zip (names_of units) texts) k) same

-- what is read beside the units, by the text behind theirs
module _ (units : List (Bor (List ℕ))) (side : Option (Bor (List ℕ))) (asked : Option (List ℕ)) (named : option_map (λ (b : Bor (List ℕ)). b.now) side ≡ asked) (steps : Option ℕ) (texts : List (List ℕ))
    (count : length texts ≡ length (with_side (names_of units) asked)) where
  counted : length texts ≡ length (with_side (names_of units) (option_map (λ (b : Bor (List ℕ)). b.now) side))
  counted = let C : Option (List ℕ) → Type 0 = λ a. length texts ≡ length (with_side (names_of units) a) in subst C (sym named) count

  pub side_behind : (name : Bor (List ℕ)) (n : ℕ) (x text : List ℕ) → side ≡ Some name → n ≡ length units → x ≡ get_or texts n x → text ≡ x
      → side_of steps (Some (name.now, text)) ≡ side_of steps (slice_get (zip (with_side (names_of units) asked) texts) (length units))
  side_behind name n x text is n_is at text_is =
      let S : Option (List ℕ) → Type 0 = λ a. side_of steps (Some (name.now, text)) ≡ side_of steps (slice_get (zip (with_side (names_of units) a) texts) (length units)) in
      subst S named (ap (side_of steps) (script_behind units side name texts n x text is counted n_is at text_is))

  pub no_side_behind : side ≡ None → no_side ≡ side_of steps (slice_get (zip (with_side (names_of units) asked) texts) (length units))
  no_side_behind is =
      let S : Option (List ℕ) → Type 0 = λ a. no_side ≡ side_of steps (slice_get (zip (with_side (names_of units) a) texts) (length units)) in
      subst S named (ap (side_of steps) (no_script_behind units side texts is counted))
