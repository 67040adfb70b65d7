-- The refusals of texts.
use Rattle.std.proofs.Common.{◌≡◌, ℕ, Bool, List, [], map, inl, inr, refl, sym, subst}
use Rattle.core_tree.specs.declared.node.Unit.{Unit}
use Rattle.core_tree.specs.declared.node.Program.{Program}
use Rattle.sol_model.specs.declared.system.System.{System}
use Rattle.link_names.specs.declared.fault.LinkFault.{LinkFault}
use Rattle.link_names.specs.declared.fault.LinkFault.TheVariants as link
use Rattle.unit_link.specs.Linked.{LinksBadlyAt}
use Rattle.obj_space.specs.declared.location.Location.{Location}
use Rattle.unit_report.specs.declared.unit_system.fault.UnitFault.{UnitFault}
use Rattle.unit_report.specs.declared.unit_system.fault.UnitFault.TheVariants as unit
use Rattle.unit_report.specs.unit_system.Faults as core
use Rattle.unit_report.specs.unit_system.Of.{AreLinkedAs, IsSystemOf}
use Rattle.unit_report.specs.Reported.{IsProgramReport}
use Rattle.gen_summary.specs.Summary.{IsProgramSummary}
use Rattle.side_reports.specs.effects_text.Effects.{IsProgramEffects}
use Rattle.side_reports.specs.stop_report.Text.{IsProgramStops}
use Rattle.text_units.specs.declared.fault.UnitsFault.{UnitsFault}
use Rattle.report_cli.specs.declared.form.Form.{Form}
use Rattle.report_cli.specs.declared.form.Form.TheVariants.{Report, Summary, Effects, Stops}
use Rattle.text_units.specs.declared.fault.UnitsFault.TheVariants.{Refused, Memory}
use Rattle.text_units.specs.Answers.{NamedText, Answer}
use Rattle.report_cli.specs.Printed.{IsInForm, IsReport, IsSummary, AreEffectsOf, AreStopsOf}
use Rattle.text_units.specs.Lowered.{AreRightTexts}
use Rattle.report_cli.specs.Linking.{link_refusal}
use Rattle.report_cli.specs.Outcome.{Denotes, Refuses, AreRefusedTogether}
use Rattle.text_units.specs.Faults.{fault_of, IsFirstFault}
use Rattle.report_cli.specs.Faults.{IsFaultOf, IsSystemRefusal}

-- the first fault of all texts is theirs
pub fault_of_texts : (entries : List (List ℕ)) (texts : List NamedText) (fault : UnitsFault) → IsFirstFault 0 texts fault → IsFaultOf entries texts fault
unfolding Refuses
fault_of_texts entries texts (Refused status line) h = inl h
fault_of_texts entries texts Memory h = tt

-- a refusal of texts that are right
refused_so : (entries : List (List ℕ)) (texts : List NamedText) (answer : Answer) (fault : UnitsFault) → fault ≡ fault_of answer → answer.out ≡ [] → AreRefusedTogether entries texts answer → IsFaultOf entries texts fault
unfolding Refuses
refused_so entries texts answer fault is nothing refused =
    let P : UnitsFault → Type 0 = λ f. IsFaultOf entries texts f in
    let Q : List ℕ → Type 0 = λ out. AreRefusedTogether entries texts (record { status = answer.status; out = out; err = answer.err }) in
    subst P (sym is) (inr (subst Q nothing refused))

memory_so : (entries : List (List ℕ)) (texts : List NamedText) (fault : UnitsFault) → fault ≡ Memory → IsFaultOf entries texts fault
memory_so entries texts fault is = let P : UnitsFault → Type 0 = λ f. IsFaultOf entries texts f in subst P (sym is) tt

module _ (entries : List (List ℕ)) (texts : List NamedText) (units : List Unit) (right : AreRightTexts 0 texts units) where
  abbrev names : List (List ℕ)
  names = map (λ (text : NamedText). text.0) texts

  badly_refused : (cause : LinkFault) (fault : UnitsFault) → LinksBadlyAt entries units cause → fault ≡ fault_of (link_refusal names cause) → (link_refusal names cause).out ≡ [] → IsFaultOf entries texts fault
  badly_refused cause fault badly is nothing =
      refused_so entries texts (link_refusal names cause) fault is nothing (inl (record { units = units; right = right; fault = cause; badly = badly; answer_is = refl }))

  -- a fault of linking, and a limit
  all_refused : (cause : UnitFault) (fault : UnitsFault) → core.IsFaultOf entries units cause → IsSystemRefusal names cause fault → IsFaultOf entries texts fault
  all_refused (unit.Link (link.Conflict name k)) fault h is = badly_refused (link.Conflict name k) fault h is refl
  all_refused (unit.Link (link.Twice name k)) fault h is = badly_refused (link.Twice name k) fault h is refl
  all_refused (unit.Link (link.Undefined place name)) fault h is = badly_refused (link.Undefined place name) fault h is refl
  all_refused (unit.Link link.NoMain) fault h is = badly_refused link.NoMain fault h is refl
  all_refused (unit.Link (link.NoEntry name)) fault h is = badly_refused (link.NoEntry name) fault h is refl
  all_refused (unit.Link link.OutOfMemory) fault h is = memory_so entries texts fault is
  all_refused (unit.Nodes nodes) fault h is =
      refused_so entries texts _ fault is refl (inr (inl (record { units = units; right = right; program = h.0; own = h.1; nodes = nodes; many = h.2; answer_is = refl })))
  all_refused (unit.Words words) fault h is =
      refused_so entries texts _ fault is refl (inr (inr (record { units = units; right = right; program = h.0; own = h.1; words = words; many = h.2; answer_is = refl })))
  all_refused unit.OutOfMemory fault h is = memory_so entries texts fault is

  -- the same under names that are the texts'
  pub system_refused : (given : List (List ℕ)) (cause : UnitFault) (fault : UnitsFault) → given ≡ names → core.IsFaultOf entries units cause → IsSystemRefusal given cause fault → IsFaultOf entries texts fault
  system_refused given cause fault named h is = let P : List (List ℕ) → Type 0 = λ n. IsSystemRefusal n cause fault in all_refused cause fault h (subst P named is)

  -- the program of the units is that which their texts denote
  pub denoted : (program : Program) (space : List Location) (system : System) → AreLinkedAs entries units program space system → Denotes entries texts program × IsSystemOf program space system
  unfolding Denotes
  denoted program space system h = ((units, right, h.own), h.system_of)

-- the report of a program's system
pub reported : (json : Bool) (program : Program) (space : List Location) (system : System) (report : List ℕ) → IsSystemOf program space system → IsProgramReport json program space system report → IsReport json program system report
unfolding IsReport
reported json program space system report h k = (space, h, k)

-- the summary of a generated program
pub summed : (number : ℕ) (program : Program) (space : List Location) (system : System) (text : List ℕ) → IsSystemOf program space system → IsProgramSummary number space system text → IsSummary number program system text
unfolding IsSummary
summed number program space system text h k = (space, h, k)

-- what the functions of a program may read and write
pub touched : (program : Program) (space : List Location) (system : System) (text : List ℕ) → IsSystemOf program space system → IsProgramEffects program space system text → AreEffectsOf program system text
unfolding AreEffectsOf
touched program space system text h k = (space, h, k)

-- where a run of a program may stop
pub stopped : (program : Program) (space : List Location) (system : System) (text : List ℕ) → IsSystemOf program space system → IsProgramStops program space system text → AreStopsOf program system text
unfolding AreStopsOf
stopped program space system text h k = (space, h, k)

-- what is printed of a program in a form is printed of its system
pub formed : (form : Form) (program : Program) (system : System) (text : List ℕ) → IsInForm form program system text → (space : List Location) × IsSystemOf program space system
unfolding IsReport IsSummary AreEffectsOf AreStopsOf
formed (Report json) program system text h = (h.0, h.1)
formed (Summary number) program system text h = (h.0, h.1)
formed Effects program system text h = (h.0, h.1)
formed Stops program system text h = (h.0, h.1)
