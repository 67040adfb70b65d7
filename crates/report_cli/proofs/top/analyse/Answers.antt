use Rattle.std.proofs.Common.{◌≡◌, ℕ, List, [], length, Option, Some, inl, inr, refl, sym, ◌∙◌, ap, subst, arith, codes, Err, slice_get}
use Rattle.std.specs.Prelude.{zip, Contains, IsSome}
use Rattle.std.specs.Borrow.{Bor}
use Rattle.std.proofs.lemmas.List.{length-map}
use Rattle.sol_model.proofs.Members.{Contains-at}
use Rattle.command_line.specs.Language.{found_in}
use Rattle.command_line.specs.Rules.{AreRight, gen_word, unit_words}
use Rattle.command_line.specs.Distinct.{AreDistinct}
use Rattle.text_units.specs.Answers.{names_of, Answer, refusal}
use Rattle.report_cli.specs.Words.{texts_of, AreUnitNames}
use Rattle.report_cli.specs.Told.{form_for, names_for, told_as, told_for}
use Rattle.report_cli.specs.Outside.{IsWritten, Receives, source_fault}
use Rattle.report_cli.proofs.Lifted.{IsStatus, entry_asked, names_asked, run_asked, with_told_for, told_denotes, told_kind, told_prints, told_refuses}
use Rattle.report_cli.proofs.Exclusion.{told_read}
use Rattle.report_cli.proofs.OneOutcome.{told_right}
use Rattle.report_cli.proofs.Together.{accepted_or_refused}
use Rattle.report_cli.proofs.Covering.{distinct_told, least_kept, printed_covered}
use Rattle.report_cli.proofs.Naming.{distinct_units, few_units, formed_units, unit_names}
use Rattle.report_cli.proofs.Answered.{not_risen, grows_nothing, receives_nothing, always, same_name, number_of_workers, number_generated, few_names}
use Rattle.report_cli.proofs.top.analyse.Goals as goal

-- the statuses of refusals are those of no other answer
no_success : (status : ℕ) → IsStatus status → status ≡ 0 → ⊥
no_success status (inl three) e = omega arith
no_success status (inr (inl four)) e = omega arith
no_success status (inr (inr (inl five))) e = omega arith
no_success status (inr (inr (inr (inl six)))) e = omega arith
no_success status (inr (inr (inr (inr (inl ten))))) e = omega arith
no_success status (inr (inr (inr (inr (inr twelve))))) e = omega arith

no_two : (status : ℕ) → IsStatus status → status ≡ 2 → ⊥
no_two status (inl three) e = omega arith
no_two status (inr (inl four)) e = omega arith
no_two status (inr (inr (inl five))) e = omega arith
no_two status (inr (inr (inr (inl six)))) e = omega arith
no_two status (inr (inr (inr (inr (inl ten))))) e = omega arith
no_two status (inr (inr (inr (inr (inr twelve))))) e = omega arith

no_seven : (status : ℕ) → IsStatus status → status ≡ 7 → ⊥
no_seven status (inl three) e = omega arith
no_seven status (inr (inl four)) e = omega arith
no_seven status (inr (inr (inl five))) e = omega arith
no_seven status (inr (inr (inr (inl six)))) e = omega arith
no_seven status (inr (inr (inr (inr (inl ten))))) e = omega arith
no_seven status (inr (inr (inr (inr (inr twelve))))) e = omega arith

no_eight : (status : ℕ) → IsStatus status → status ≡ 8 → ⊥
no_eight status (inl three) e = omega arith
no_eight status (inr (inl four)) e = omega arith
no_eight status (inr (inr (inl five))) e = omega arith
no_eight status (inr (inr (inr (inl six)))) e = omega arith
no_eight status (inr (inr (inr (inr (inl ten))))) e = omega arith
no_eight status (inr (inr (inr (inr (inr twelve))))) e = omega arith

no_nine : (status : ℕ) → IsStatus status → status ≡ 9 → ⊥
no_nine status (inl three) e = omega arith
no_nine status (inr (inl four)) e = omega arith
no_nine status (inr (inr (inl five))) e = omega arith
no_nine status (inr (inr (inr (inl six)))) e = omega arith
no_nine status (inr (inr (inr (inr (inl ten))))) e = omega arith
no_nine status (inr (inr (inr (inr (inr twelve))))) e = omega arith

no_written : (status : ℕ) → IsStatus status → IsWritten status → ⊥
no_written status refused (inl zero) = no_success status refused zero
no_written status (inl three) (inr e) = omega arith
no_written status (inr (inl four)) (inr e) = omega arith
no_written status (inr (inr (inl five))) (inr e) = omega arith
no_written status (inr (inr (inr (inl six)))) (inr e) = omega arith
no_written status (inr (inr (inr (inr (inl ten))))) (inr e) = omega arith
no_written status (inr (inr (inr (inr (inr twelve))))) (inr e) = omega arith

pub returns-in-Err-Usage-clause-outcome : goal.returns-in-Err-Usage-clause-outcome
returns-in-Err-Usage-clause-outcome g c not7 not8 not9 =
    always (told_for (g.U.Units.text c.args.units.now) (texts_of c.args.words.now)) _
    (λ told. (refusal 2 (codes "usage"), inl (c.in-Err-Usage.ensures.usage c.in-Err-Usage.field-0-is, refl), refl, grows_nothing _ _ refl, c.say.ensures))

pub returns-in-Err-Usage-clause-complete : goal.returns-in-Err-Usage-clause-complete
returns-in-Err-Usage-clause-complete g c =
    always (told_for (g.U.Units.text c.args.units.now) (texts_of c.args.words.now)) _ (λ told words alone sources sink. absurd (c.in-Err-Usage.ensures.usage c.in-Err-Usage.field-0-is words))

pub returns-in-Err-Usage-clause-right : goal.returns-in-Err-Usage-clause-right
returns-in-Err-Usage-clause-right g c =
    always (told_for (g.U.Units.text c.args.units.now) (texts_of c.args.words.now)) _ (λ told words units sources sink. absurd (c.in-Err-Usage.ensures.usage c.in-Err-Usage.field-0-is words))

pub returns-in-Err-Usage-clause-accepted : goal.returns-in-Err-Usage-clause-accepted
returns-in-Err-Usage-clause-accepted g c =
    always (told_for (g.U.Units.text c.args.units.now) (texts_of c.args.words.now)) _ (λ told words accepted sources sink. absurd (c.in-Err-Usage.ensures.usage c.in-Err-Usage.field-0-is words))

pub returns-in-Err-Source-clause-source : goal.returns-in-Err-Source-clause-source
returns-in-Err-Source-clause-source g c seven =
    let names : List (List ℕ) = names_for c.in-Ok.command in
    let given = c.in-Err-Source.ensures.cause c.in-Err-Source.number (ap Err c.in-Err-Source.field-0-is) in
    let sliced : names_of c.as_slice-all.result.now ≡ names = ap names_of c.as_slice-all.ensures.value ∙ c.in-Ok-names_for.ensures in
    let A : List (List ℕ) → Type 0 = λ n. slice_get n c.in-Err-Source.number ≡ Some given.0 in
    let at : slice_get names c.in-Err-Source.number ≡ Some given.0 = subst A sliced given.1 in
    let name_is : c.name_at.result.now ≡ given.0 = same_name (names_of c.as_slice-all.result.now) c.in-Err-Source.number given.0 c.name_at.result.now given.1 c.name_at.ensures in
    let P : List ℕ → Type 0 = λ name. Receives (g.E.Sink.written c.args.err.now) (g.E.Sink.written c.source_fault.new.err) (g.E.Sink.faults c.args.err.now) (g.E.Sink.faults c.source_fault.new.err) (source_fault name) in
    let C : List (List ℕ) → Type 0 = λ n. Contains n given.0 in
    (given.0, subst C (names_asked (texts_of c.args.words.now) c.in-Ok.command c.in-Ok.ensures.ok.says) (Contains-at names c.in-Err-Source.number given.0 at), given.2, subst P name_is (c.source_fault.ensures.said seven))

pub returns-in-Err-Source-clause-complete : goal.returns-in-Err-Source-clause-complete
returns-in-Err-Source-clause-complete g c =
    always (told_for (g.U.Units.text c.args.units.now) (texts_of c.args.words.now)) _
    (λ told words alone sources sink. elim c.source_fault.ensures.status [
      | inl seven ↦
          let names : List (List ℕ) = names_for c.in-Ok.command in
          let given = c.in-Err-Source.ensures.cause c.in-Err-Source.number (ap Err c.in-Err-Source.field-0-is) in
          let sliced : names_of c.as_slice-all.result.now ≡ names = ap names_of c.as_slice-all.ensures.value ∙ c.in-Ok-names_for.ensures in
          let A : List (List ℕ) → Type 0 = λ n. slice_get n c.in-Err-Source.number ≡ Some given.0 in
          let at : slice_get names c.in-Err-Source.number ≡ Some given.0 = subst A sliced given.1 in
          let C : List (List ℕ) → Type 0 = λ n. Contains n given.0 in
          inr (inl (absurd (not_risen _ _ (sources given.0 (subst C (names_asked (texts_of c.args.words.now) c.in-Ok.command c.in-Ok.ensures.ok.says) (Contains-at names c.in-Err-Source.number given.0 at))) given.2)))
      | inr nine ↦ inr (inl nine)
    ])

pub returns-in-Err-Source-clause-right : goal.returns-in-Err-Source-clause-right
returns-in-Err-Source-clause-right g c =
    always (told_for (g.U.Units.text c.args.units.now) (texts_of c.args.words.now)) _
    (λ told words units sources sink. elim c.source_fault.ensures.status [
      | inl seven ↦
          let names : List (List ℕ) = names_for c.in-Ok.command in
          let given = c.in-Err-Source.ensures.cause c.in-Err-Source.number (ap Err c.in-Err-Source.field-0-is) in
          let sliced : names_of c.as_slice-all.result.now ≡ names = ap names_of c.as_slice-all.ensures.value ∙ c.in-Ok-names_for.ensures in
          let A : List (List ℕ) → Type 0 = λ n. slice_get n c.in-Err-Source.number ≡ Some given.0 in
          let at : slice_get names c.in-Err-Source.number ≡ Some given.0 = subst A sliced given.1 in
          let C : List (List ℕ) → Type 0 = λ n. Contains n given.0 in
          inr (inl (absurd (not_risen _ _ (sources given.0 (subst C (names_asked (texts_of c.args.words.now) c.in-Ok.command c.in-Ok.ensures.ok.says) (Contains-at names c.in-Err-Source.number given.0 at))) given.2)))
      | inr nine ↦ inr (inl nine)
    ])

pub returns-in-Err-Source-clause-accepted : goal.returns-in-Err-Source-clause-accepted
returns-in-Err-Source-clause-accepted g c =
    always (told_for (g.U.Units.text c.args.units.now) (texts_of c.args.words.now)) _
    (λ told words accepted sources sink. elim c.source_fault.ensures.status [
      | inl seven ↦
          let names : List (List ℕ) = names_for c.in-Ok.command in
          let given = c.in-Err-Source.ensures.cause c.in-Err-Source.number (ap Err c.in-Err-Source.field-0-is) in
          let sliced : names_of c.as_slice-all.result.now ≡ names = ap names_of c.as_slice-all.ensures.value ∙ c.in-Ok-names_for.ensures in
          let A : List (List ℕ) → Type 0 = λ n. slice_get n c.in-Err-Source.number ≡ Some given.0 in
          let at : slice_get names c.in-Err-Source.number ≡ Some given.0 = subst A sliced given.1 in
          let C : List (List ℕ) → Type 0 = λ n. Contains n given.0 in
          absurd (not_risen _ _ (sources given.0 (subst C (names_asked (texts_of c.args.words.now) c.in-Ok.command c.in-Ok.ensures.ok.says) (Contains-at names c.in-Err-Source.number given.0 at))) given.2)
      | inr nine ↦ inr nine
    ])

pub answer_units-requires-clause-workers : goal.answer_units-requires-clause-workers
answer_units-requires-clause-workers g c κs within = number_of_workers _ _ c.in-Ok.ensures.ok.right.rules.workers c.in-Ok.ensures.ok.says.workers

pub answer_units-requires-clause-number : goal.answer_units-requires-clause-number
answer_units-requires-clause-number g c κs within = number_generated (gen_word (found_in (texts_of c.args.words.now))) _ c.in-Ok.ensures.ok.right.rules.gen c.in-Ok.ensures.ok.says.generated

pub answer_units-requires-clause-distinct : goal.answer_units-requires-clause-distinct
answer_units-requires-clause-distinct g c κs within =
    let D : List (List ℕ) → Type 0 = AreDistinct in subst D (sym c.in-Ok.ensures.ok.says.units) (distinct_units (gen_word (found_in (texts_of c.args.words.now))) (unit_words (found_in (texts_of c.args.words.now))) c.in-Ok.ensures.ok.right.rules.units)

pub answer_units-requires-clause-bytes : goal.answer_units-requires-clause-bytes
answer_units-requires-clause-bytes g c κs within =
    let N : List (List ℕ) → Type 0 = AreUnitNames in subst N (sym c.in-Ok.ensures.ok.says.units) (unit_names _ (formed_units (gen_word (found_in (texts_of c.args.words.now))) (unit_words (found_in (texts_of c.args.words.now))) c.in-Ok.ensures.ok.right.rules.units))

pub answer_units-requires-clause-few : goal.answer_units-requires-clause-few
answer_units-requires-clause-few g c κs within = few_names _ _ c.in-Ok.ensures.ok.says.units (few_units (gen_word (found_in (texts_of c.args.words.now))) (unit_words (found_in (texts_of c.args.words.now))) c.in-Ok.ensures.ok.right.rules.units)

pub returns-clause-headline : goal.returns-clause-headline
returns-clause-headline g c zero =
    let command = c.in-Ok.command in
    let texts : List (List ℕ) = c.as_slice.result.now in
    let named : names_of c.as_slice-all.result.now ≡ names_for command = ap names_of c.as_slice-all.ensures.value ∙ c.in-Ok-names_for.ensures in
    let count : length texts ≡ length (names_for command) =
    ap length c.as_slice.ensures.value ∙ c.in-Ok-read_units.ensures.count ∙ sym (length-map c.as_slice-all.result.now (λ (b : Bor (List ℕ)). b.now)) ∙ ap length named in
    let D : List (List ℕ) → Type 0 = AreDistinct in
    let units : AreDistinct (names_of command.units.items) =
    subst D (sym c.in-Ok.ensures.ok.says.units) (distinct_units (gen_word (found_in (texts_of c.args.words.now))) (unit_words (found_in (texts_of c.args.words.now))) c.in-Ok.ensures.ok.right.rules.units) in
    with_told_for (g.U.Units.text c.args.units.now) (texts_of c.args.words.now) command _ _ texts _ c.in-Ok.ensures.ok.says named c.as_slice.ensures.value c.in-Ok-read_units.ensures.texts
    (λ told read. let given = c.answer_units.ensures.delivered zero in
    let covered = printed_covered (told_as command texts) given.0 given.1 given.2 0 (distinct_told command texts count units) given.3 given.4 in (
      given.0,
      given.1,
      given.2,
      told_denotes _ told given.0 read given.3,
      told_prints _ told given.0 given.1 given.2 0 read given.4,
      given.7,
      least_kept (told_as command texts) given.0 given.1 given.2 0 c.answer_units.new.kept given.4 given.7,
      covered.0,
      covered.1,
      covered.2,
      given.5,
    ))

pub returns-clause-stopped : goal.returns-clause-stopped
returns-clause-stopped g c eleven =
    with_told_for (g.U.Units.text c.args.units.now) (texts_of c.args.words.now) c.in-Ok.command _ _ c.as_slice.result.now _ c.in-Ok.ensures.ok.says
    (ap names_of c.as_slice-all.ensures.value ∙ c.in-Ok-names_for.ensures) c.as_slice.ensures.value c.in-Ok-read_units.ensures.texts
    (λ told read. let given = c.answer_units.ensures.stopped eleven in
    (given.0, given.1, given.2, told_denotes _ told given.0 read given.3, told_prints _ told given.0 given.1 given.2 11 read given.4, given.5))

pub returns-clause-run : goal.returns-clause-run
returns-clause-run g c eleven =
    let command = c.in-Ok.command in
    let given = c.answer_units.ensures.stopped eleven in
    let S : Option ℕ → Type 0 = λ steps. IsSome steps in
    subst S c.in-Ok.ensures.ok.says.steps
    (run_asked command.generated (names_of command.entries.items) (form_for command) command.steps (length command.units.items) (zip (names_for command) c.as_slice.result.now) given.0 given.1 given.2 given.4)

-- a text that was written whole has another status
not_twelve : (status : ℕ) → status ≡ 12 → IsWritten status → ⊥
not_twelve status twelve (inl zero) = omega arith
not_twelve status twelve (inr eleven) = omega arith

not_four : (status : ℕ) → status ≡ 4 → IsWritten status → ⊥
not_four status four (inl zero) = omega arith
not_four status four (inr eleven) = omega arith

pub returns-clause-entry : goal.returns-clause-entry
returns-clause-entry g c twelve =
    let given = c.answer_units.ensures.refused (not_twelve _ twelve) (λ eight. omega arith) (λ nine. omega arith) in
    entry_asked (texts_of c.args.words.now) c.in-Ok.command c.as_slice.result.now c.answer_units.result given.0 c.in-Ok.ensures.ok.says given.1 twelve

pub returns-clause-broken : goal.returns-clause-broken
returns-clause-broken g c eight =
    with_told_for (g.U.Units.text c.args.units.now) (texts_of c.args.words.now) c.in-Ok.command _ _ c.as_slice.result.now _ c.in-Ok.ensures.ok.says
    (ap names_of c.as_slice-all.ensures.value ∙ c.in-Ok-names_for.ensures) c.as_slice.ensures.value c.in-Ok-read_units.ensures.texts
    (λ told read. let given = c.answer_units.ensures.broken eight in
    (given.0, given.1, given.2, given.3, told_denotes _ told given.0 read given.4, told_prints _ told given.0 given.1 given.2 given.3 read given.5, given.6))

pub returns-clause-outcome : goal.returns-clause-outcome
returns-clause-outcome g c not7 not8 not9 =
    let words : AreRight (texts_of c.args.words.now) = c.in-Ok.ensures.ok.right in
    with_told_for (g.U.Units.text c.args.units.now) (texts_of c.args.words.now) c.in-Ok.command _ _ c.as_slice.result.now _ c.in-Ok.ensures.ok.says
    (ap names_of c.as_slice-all.ensures.value ∙ c.in-Ok-names_for.ensures) c.as_slice.ensures.value c.in-Ok-read_units.ensures.texts
    (λ told read. elim c.answer_units.ensures.listed [
      | inl (inl zero) ↦
          let given = c.answer_units.ensures.delivered zero in (
            record { status = 0; out = given.2; err = [] },
            inr (words, inl (given.0, given.1, told_denotes _ told given.0 read given.3, told_prints _ told given.0 given.1 given.2 0 read given.4, refl)),
            zero,
            given.5,
            receives_nothing _ _ _ _ given.6,
          )
      | inl (inr eleven) ↦
          let given = c.answer_units.ensures.stopped eleven in (
            record { status = 11; out = given.2; err = [] },
            inr (words, inl (given.0, given.1, told_denotes _ told given.0 read given.3, told_prints _ told given.0 given.1 given.2 11 read given.4, refl)),
            eleven,
            given.5,
            receives_nothing _ _ _ _ given.6,
          )
      | inr (inl refused) ↦
          let unwritten : IsWritten c.answer_units.result → ⊥ = no_written _ refused in
          let given = c.answer_units.ensures.refused unwritten not8 not9 in (
            record { status = c.answer_units.result; out = []; err = given.0 },
            inr (words, inr (told_refuses _ told _ read given.1)),
            refl,
            grows_nothing _ _ (c.answer_units.ensures.unwritten unwritten not8),
            given.2,
          )
      | inr (inr (inl eight)) ↦ absurd (not8 eight)
      | inr (inr (inr nine)) ↦ absurd (not9 nine)
    ])

pub returns-clause-built : goal.returns-clause-built
returns-clause-built g c four =
    with_told_for (g.U.Units.text c.args.units.now) (texts_of c.args.words.now) c.in-Ok.command _ _ c.as_slice.result.now _ c.in-Ok.ensures.ok.says
    (ap names_of c.as_slice-all.ensures.value ∙ c.in-Ok-names_for.ensures) c.as_slice.ensures.value c.in-Ok-read_units.ensures.texts
    (λ told read.
    let given = c.answer_units.ensures.refused (not_four _ four) (λ eight. omega arith) (λ nine. omega arith) in
    let answer : Answer = record { status = c.answer_units.result; out = []; err = given.0 } in
    let refuses = told_refuses _ told answer read given.1 in
    (answer, refuses, told_kind told answer refuses four, given.2))

pub returns-clause-usage : goal.returns-clause-usage
returns-clause-usage g c = (
  (λ two. elim c.answer_units.ensures.listed [
    | inl (inl zero) ↦ absurd (omega arith)
    | inl (inr eleven) ↦ absurd (omega arith)
    | inr (inl refused) ↦ absurd (no_two _ refused two)
    | inr (inr (inl eight)) ↦ absurd (omega arith)
    | inr (inr (inr nine)) ↦ absurd (omega arith)
  ]),
  inl c.in-Ok.ensures.ok.right,
)

pub returns-clause-listed : goal.returns-clause-listed
returns-clause-listed g c = elim c.answer_units.ensures.listed [
  | inl written ↦ inl written
  | inr (inl refused) ↦ inr (inr (inl refused))
  | inr (inr (inl eight)) ↦ inr (inr (inr (inr (inl eight))))
  | inr (inr (inr nine)) ↦ inr (inr (inr (inr (inr nine))))
]

pub returns-clause-source : goal.returns-clause-source
returns-clause-source g c seven = elim c.answer_units.ensures.listed [
  | inl (inl zero) ↦ absurd (omega arith)
  | inl (inr eleven) ↦ absurd (omega arith)
  | inr (inl refused) ↦ absurd (no_seven _ refused seven)
  | inr (inr (inl eight)) ↦ absurd (omega arith)
  | inr (inr (inr nine)) ↦ absurd (omega arith)
]

pub returns-clause-complete : goal.returns-clause-complete
returns-clause-complete g c =
    with_told_for (g.U.Units.text c.args.units.now) (texts_of c.args.words.now) c.in-Ok.command _ _ c.as_slice.result.now _ c.in-Ok.ensures.ok.says
    (ap names_of c.as_slice-all.ensures.value ∙ c.in-Ok-names_for.ensures) c.as_slice.ensures.value c.in-Ok-read_units.ensures.texts
    (λ told read words alone sources sink. elim c.answer_units.ensures.listed [
      | inl written ↦ inl written
      | inr (inl refused) ↦
          let given = c.answer_units.ensures.refused (no_written _ refused) (no_eight _ refused) (no_nine _ refused) in
          let answer : Answer = record { status = c.answer_units.result; out = []; err = given.0 } in
          inr (inr (answer, told_read told answer alone (told_refuses _ told answer read given.1), refl))
      | inr (inr (inl eight)) ↦ absurd (not_risen _ _ sink (c.answer_units.ensures.cause eight))
      | inr (inr (inr nine)) ↦ inr (inl nine)
    ])

pub returns-clause-right : goal.returns-clause-right
returns-clause-right g c =
    with_told_for (g.U.Units.text c.args.units.now) (texts_of c.args.words.now) c.in-Ok.command _ _ c.as_slice.result.now _ c.in-Ok.ensures.ok.says
    (ap names_of c.as_slice-all.ensures.value ∙ c.in-Ok-names_for.ensures) c.as_slice.ensures.value c.in-Ok-read_units.ensures.texts
    (λ told read words units sources sink. elim c.answer_units.ensures.listed [
      | inl written ↦ inl written
      | inr (inl refused) ↦
          let given = c.answer_units.ensures.refused (no_written _ refused) (no_eight _ refused) (no_nine _ refused) in
          let answer : Answer = record { status = c.answer_units.result; out = []; err = given.0 } in
          inr (inr (answer, told_right told answer units (told_refuses _ told answer read given.1), refl))
      | inr (inr (inl eight)) ↦ absurd (not_risen _ _ sink (c.answer_units.ensures.cause eight))
      | inr (inr (inr nine)) ↦ inr (inl nine)
    ])

pub returns-clause-accepted : goal.returns-clause-accepted
returns-clause-accepted g c =
    with_told_for (g.U.Units.text c.args.units.now) (texts_of c.args.words.now) c.in-Ok.command _ _ c.as_slice.result.now _ c.in-Ok.ensures.ok.says
    (ap names_of c.as_slice-all.ensures.value ∙ c.in-Ok-names_for.ensures) c.as_slice.ensures.value c.in-Ok-read_units.ensures.texts
    (λ told read words accepted sources sink. elim c.answer_units.ensures.listed [
      | inl written ↦ inl written
      | inr (inl refused) ↦
          let given = c.answer_units.ensures.refused (no_written _ refused) (no_eight _ refused) (no_nine _ refused) in
          let answer : Answer = record { status = c.answer_units.result; out = []; err = given.0 } in
          absurd (accepted_or_refused told answer accepted (told_refuses _ told answer read given.1))
      | inr (inr (inl eight)) ↦ absurd (not_risen _ _ sink (c.answer_units.ensures.cause eight))
      | inr (inr (inr nine)) ↦ inr nine
    ])

pub returns-clause-solved : goal.returns-clause-solved
returns-clause-solved g c zero = (let given = c.answer_units.ensures.delivered zero in (given.1, given.7))

pub returns-clause-said : goal.returns-clause-said
returns-clause-said g c two = elim c.answer_units.ensures.listed [
  | inl (inl zero) ↦ absurd (omega arith)
  | inl (inr eleven) ↦ absurd (omega arith)
  | inr (inl refused) ↦ absurd (no_two _ refused two)
  | inr (inr (inl eight)) ↦ absurd (omega arith)
  | inr (inr (inr nine)) ↦ absurd (omega arith)
]
