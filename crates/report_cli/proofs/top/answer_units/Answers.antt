use Rattle.std.proofs.Common.{◌≡◌, ◌⊎◌, ℕ, Bool, true, false, if◌then◌else◌, List, Option, arith, inl, inr, subst, sym}
use Rattle.report_cli.proofs.Lifted.{refused_status, IsStatus}
use Rattle.unit_report.specs.declared.solving.Solved.{Solved}
use Rattle.unit_report.specs.Solved.{IsKept, IsSolvedShared}
use Rattle.text_units.specs.declared.fault.UnitsFault.{UnitsFault}
use Rattle.core_tree.specs.declared.node.Program.{Program}
use Rattle.sol_model.specs.declared.system.System.{System}
use Rattle.report_cli.specs.declared.form.Form.{Form}
use Rattle.report_cli.specs.declared.form.Printed.{Printed}
use Rattle.report_cli.specs.Told.{Side, no_side, with_questions, with_words, Told, told_as}
use Rattle.report_cli.specs.Printed.{IsPrinted}
use Rattle.report_cli.specs.Outcome.{Denotes}
use Rattle.report_cli.specs.Outside.{IsWritten, Receives}
use Rattle.report_cli.specs.Faults.{IsFaultOfTold}
use Rattle.report_cli.proofs.top.answer_units.Goals as goal

-- what was made of what is told
abbrev IsMade : Told → Printed → Type 0
IsMade told made = (program : Program) × (system : System) × Denotes told.entries told.units program × IsPrinted told.form told.side program system made.text.items made.status × IsSolvedShared system made.solved

-- the status of a refusal is that of no other answer
not_other : (status : ℕ) → IsStatus status → (status ≡ 0) ⊎ ((status ≡ 8) ⊎ ((status ≡ 9) ⊎ (status ≡ 11))) → ⊥
not_other status (inl three) other = elim other [ inl e ↦ omega arith | inr (inl e) ↦ omega arith | inr (inr (inl e)) ↦ omega arith | inr (inr (inr e)) ↦ omega arith ]
not_other status (inr (inl four)) other = elim other [ inl e ↦ omega arith | inr (inl e) ↦ omega arith | inr (inr (inl e)) ↦ omega arith | inr (inr (inr e)) ↦ omega arith ]
not_other status (inr (inr (inl five))) other = elim other [ inl e ↦ omega arith | inr (inl e) ↦ omega arith | inr (inr (inl e)) ↦ omega arith | inr (inr (inr e)) ↦ omega arith ]
not_other status (inr (inr (inr (inl six)))) other = elim other [ inl e ↦ omega arith | inr (inl e) ↦ omega arith | inr (inr (inl e)) ↦ omega arith | inr (inr (inr e)) ↦ omega arith ]
not_other status (inr (inr (inr (inr (inl ten))))) other = elim other [ inl e ↦ omega arith | inr (inl e) ↦ omega arith | inr (inr (inl e)) ↦ omega arith | inr (inr (inr e)) ↦ omega arith ]
not_other status (inr (inr (inr (inr (inr twelve))))) other = elim other [ inl e ↦ omega arith | inr (inl e) ↦ omega arith | inr (inr (inl e)) ↦ omega arith | inr (inr (inr e)) ↦ omega arith ]

pub returns-in-Err-Refused-clause-delivered : goal.returns-in-Err-Refused-clause-delivered
returns-in-Err-Refused-clause-delivered g c is = absurd (not_other _ (refused_status (told_as c.args.command.now c.args.texts.now) _ _ _ c.in-Err-Refused.field-0-is c.in-Err-Refused.ensures.refused) (inl is))

pub returns-in-Err-Refused-clause-broken : goal.returns-in-Err-Refused-clause-broken
returns-in-Err-Refused-clause-broken g c is = absurd (not_other _ (refused_status (told_as c.args.command.now c.args.texts.now) _ _ _ c.in-Err-Refused.field-0-is c.in-Err-Refused.ensures.refused) (inr (inl is)))

pub returns-in-Err-Refused-clause-cause : goal.returns-in-Err-Refused-clause-cause
returns-in-Err-Refused-clause-cause g c is = absurd (not_other _ (refused_status (told_as c.args.command.now c.args.texts.now) _ _ _ c.in-Err-Refused.field-0-is c.in-Err-Refused.ensures.refused) (inr (inl is)))

pub returns-in-Err-Refused-clause-sink : goal.returns-in-Err-Refused-clause-sink
returns-in-Err-Refused-clause-sink g c is = absurd (not_other _ (refused_status (told_as c.args.command.now c.args.texts.now) _ _ _ c.in-Err-Refused.field-0-is c.in-Err-Refused.ensures.refused) (inr (inl is)))

pub returns-in-Err-Refused-clause-memory : goal.returns-in-Err-Refused-clause-memory
returns-in-Err-Refused-clause-memory g c is = absurd (not_other _ (refused_status (told_as c.args.command.now c.args.texts.now) _ _ _ c.in-Err-Refused.field-0-is c.in-Err-Refused.ensures.refused) (inr (inr (inl is))))

pub returns-in-Err-Refused-clause-stopped : goal.returns-in-Err-Refused-clause-stopped
returns-in-Err-Refused-clause-stopped g c is = absurd (not_other _ (refused_status (told_as c.args.command.now c.args.texts.now) _ _ _ c.in-Err-Refused.field-0-is c.in-Err-Refused.ensures.refused) (inr (inr (inr is))))

pub returns-in-Err-Refused-clause-listed : goal.returns-in-Err-Refused-clause-listed
returns-in-Err-Refused-clause-listed g c = inr (inl (refused_status (told_as c.args.command.now c.args.texts.now) _ _ _ c.in-Err-Refused.field-0-is c.in-Err-Refused.ensures.refused))

pub returns-in-Err-Refused-clause-refused : goal.returns-in-Err-Refused-clause-refused
returns-in-Err-Refused-clause-refused g c written not8 not9 =
    let told : Told = told_as c.args.command.now c.args.texts.now in
    let P : UnitsFault → Type 0 = λ f. IsFaultOfTold told f in
    let R : List ℕ → Type 0 = λ line. Receives (g.E.Sink.written c.args.err.now) (g.E.Sink.written c.say.new.err) (g.E.Sink.faults c.args.err.now) (g.E.Sink.faults c.say.new.err) line in
    (c.in-Err-Refused.line, subst P c.in-Err-Refused.field-0-is c.in-Err-Refused.ensures.refused, subst R c.as_slice-in-Err-Refused.ensures c.say.ensures)

pub returns-then-status-ne0-clause-broken : goal.returns-then-status-ne0-clause-broken
returns-then-status-ne0-clause-broken g c eight =
    let told : Told = told_as c.args.command.now c.args.texts.now in
    let given = c.in-Ok.ensures.printed in
    let R : List ℕ → Type 0 = λ text. IsPrinted told.form told.side given.0 given.1 text c.in-Ok.printed.status in
    (given.0, given.1, c.as_slice.result.now, c.in-Ok.printed.status, given.2, subst R (sym c.as_slice.ensures.value) given.3, c.deliver-status.ensures.part eight)

-- the status of what is printed
run_status : (stopped : Bool) (n : ℕ) → n ≡ (if stopped then 11 else 0) → IsWritten n
run_status true n is = inr is
run_status false n is = inl is

written_status : (form : Form) (side : Side) (program : Program) (system : System) (text : List ℕ) (status : ℕ) → IsPrinted form side program system text status → IsWritten status
written_status form no_side program system text status h = inl h.1
written_status form (with_questions script) program system text status h = inl h.1
written_status form (with_words steps words) program system text status h = run_status _ status h.status_is

other_status : (status : ℕ) → IsWritten status → (status ≡ 8) ⊎ (status ≡ 9) → ⊥
other_status status (inl none) other = elim other [ inl e ↦ omega arith | inr e ↦ omega arith ]
other_status status (inr eleven) other = elim other [ inl e ↦ omega arith | inr e ↦ omega arith ]

-- where a run stopped
module _ (told : Told) (printed : Printed) (made : IsMade told printed) where
  was_written : IsWritten printed.status
  was_written = written_status told.form told.side made.0 made.1 printed.text.items printed.status made.3

pub returns-then-printed-ne0-clause-listed : goal.returns-then-printed-ne0-clause-listed
returns-then-printed-ne0-clause-listed g c = inl (was_written (told_as c.args.command.now c.args.texts.now) c.in-Ok.printed c.in-Ok.ensures.printed)

pub returns-then-printed-ne0-clause-stopped : goal.returns-then-printed-ne0-clause-stopped
returns-then-printed-ne0-clause-stopped g c eleven =
    let told : Told = told_as c.args.command.now c.args.texts.now in
    let given = c.in-Ok.ensures.printed in
    let R : List ℕ → Type 0 = λ text. IsPrinted told.form told.side given.0 given.1 text c.in-Ok.printed.status in
    let S : ℕ → Type 0 = λ status. IsPrinted told.form told.side given.0 given.1 c.as_slice.result.now status in (
      given.0,
      given.1,
      c.as_slice.result.now,
      given.2,
      subst S eleven (subst R (sym c.as_slice.ensures.value) given.3),
      c.deliver-status.ensures.whole c.if-status-ne0.false,
      c.deliver-status.ensures.silent c.if-status-ne0.false,
    )

pub returns-then-printed-ne0-clause-broken : goal.returns-then-printed-ne0-clause-broken
returns-then-printed-ne0-clause-broken g c eight = absurd (other_status _ (was_written (told_as c.args.command.now c.args.texts.now) c.in-Ok.printed c.in-Ok.ensures.printed) (inl eight))

pub returns-then-printed-ne0-clause-refused : goal.returns-then-printed-ne0-clause-refused
returns-then-printed-ne0-clause-refused g c unwritten not8 not9 = absurd (unwritten (was_written (told_as c.args.command.now c.args.texts.now) c.in-Ok.printed c.in-Ok.ensures.printed))

pub returns-then-printed-ne0-clause-unwritten : goal.returns-then-printed-ne0-clause-unwritten
returns-then-printed-ne0-clause-unwritten g c unwritten not8 = absurd (unwritten (was_written (told_as c.args.command.now c.args.texts.now) c.in-Ok.printed c.in-Ok.ensures.printed))

pub returns-then-printed-ne0-clause-cause : goal.returns-then-printed-ne0-clause-cause
returns-then-printed-ne0-clause-cause g c eight = absurd (other_status _ (was_written (told_as c.args.command.now c.args.texts.now) c.in-Ok.printed c.in-Ok.ensures.printed) (inl eight))

pub returns-then-printed-ne0-clause-sink : goal.returns-then-printed-ne0-clause-sink
returns-then-printed-ne0-clause-sink g c eight = absurd (other_status _ (was_written (told_as c.args.command.now c.args.texts.now) c.in-Ok.printed c.in-Ok.ensures.printed) (inl eight))

pub returns-then-printed-ne0-clause-memory : goal.returns-then-printed-ne0-clause-memory
returns-then-printed-ne0-clause-memory g c nine = absurd (other_status _ (was_written (told_as c.args.command.now c.args.texts.now) c.in-Ok.printed c.in-Ok.ensures.printed) (inr nine))

-- and where it didn't, or there is none
pub returns-else-printed-ne0-clause-delivered : goal.returns-else-printed-ne0-clause-delivered
returns-else-printed-ne0-clause-delivered g c zero =
    let told : Told = told_as c.args.command.now c.args.texts.now in
    let given = c.in-Ok.ensures.printed in
    let R : List ℕ → Type 0 = λ text. IsPrinted told.form told.side given.0 given.1 text c.in-Ok.printed.status in
    let S : ℕ → Type 0 = λ status. IsPrinted told.form told.side given.0 given.1 c.as_slice.result.now status in
    let K : Option Solved → Type 0 = λ kept. IsKept given.1 kept in (
      given.0,
      given.1,
      c.as_slice.result.now,
      given.2,
      subst S c.if-printed-ne0.false (subst R (sym c.as_slice.ensures.value) given.3),
      c.deliver-status.ensures.whole c.if-status-ne0.false,
      c.deliver-status.ensures.silent c.if-status-ne0.false,
      subst K (sym c.keep.ensures) given.4,
    )
