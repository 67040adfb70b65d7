-- Programs that are linked from units which are alike print the same bytes.
use Rattle.std.proofs.Common.{◌≡◌, ◌∙◌, ◌<◌, ◌^◌, ℕ, Bool, List, [], length, refl, sym, ap, subst}
use Rattle.core_tree.specs.declared.node.Unit.{Unit}
use Rattle.core_tree.specs.declared.node.Program.{Program}
use Rattle.sol_model.specs.declared.system.System.{System}
use Rattle.obj_space.specs.declared.location.Location.{Location}
use Rattle.obj_space.specs.Space.{locations_in}
use Rattle.obj_space.specs.View.{view_of}
use Rattle.normal_form.specs.SystemOf.{SystemOf}
use Rattle.linked_laws.proofs.alike_laws.Plain.{linked_plain}
use Rattle.linked_laws.specs.location_laws.name_laws.Named.{HasNames}
use Rattle.linked_laws.proofs.location_laws.named_laws.Whole.{linked_names, linked_distinct}
use Rattle.unit_report.specs.unit_system.Of.{IsProgramOf, IsSystemOf}
use Rattle.twin_report_laws.specs.outcome_laws.twin_programs.One.{AreOne}
use Rattle.twin_report_laws.specs.outcome_laws.twin_words.Words.{IsSound}
use Rattle.twin_report_laws.specs.reports.Same.{AreOneSystem}
use Rattle.twin_report_laws.specs.prints.Prints.{AreOnePrint}
use Rattle.twin_report_laws.proofs.prints.Whole.{one_report as one_print, one_text as one_answer, spaces_same}
use Rattle.twin_report_laws.proofs.reports.Whole.{summary_same}
use Rattle.twin_report_laws.specs.orders.Order.{MadeApart}
use Rattle.twin_report_laws.proofs.orders.Whole.{same_order}
use Rattle.twin_report_laws.proofs.apart.Linking.{linked_apart}
use Rattle.twin_report_laws.specs.rows.Paired.{ArePaired}
use Rattle.twin_report_laws.specs.rows.Ready.{IsReady, HasCalled}
use Rattle.twin_report_laws.proofs.rows.Whole.{one_system}
use Rattle.linked_laws.specs.location_laws.named_laws.Units.{AreNamedUnits}
use Rattle.unit_report.specs.Reported.{IsProgramReport}
use Rattle.unit_report.specs.unit_answers.Answered.{IsProgramAnswers}
use Rattle.gen_summary.specs.Summary.{IsProgramSummary}
use Rattle.twin_report_laws.specs.linked.Linked.{IsOf}
use Rattle.twin_report_laws.proofs.linked.Names.{same_names, calls_apart, calls_told}
use Rattle.twin_report_laws.proofs.linked.Ready.{ready_of, few_locations}
use Rattle.twin_report_laws.proofs.linked.Called.{has_called}

-- the other way round
abbrev turned : (p q : Program) → AreOne p q → AreOne q p
turned p q o = record { to = o.back; back = o.to; forth = o.returned; returned = o.forth }

sound_of : {entered : List (List ℕ)} (units : List Unit) (p : Program) → IsProgramOf entered units p → IsSound p
sound_of units p own = record { made = own.made; named = own.named; range = own.range }

apart_of : {entered : List (List ℕ)} (units : List Unit) (p : Program) (space : List Location) (system : System) → IsOf entered units p space system → MadeApart p
apart_of units p space system h = linked_apart units p h.known.linkable h.known.apart h.program.linked

pub ready_so : {entered : List (List ℕ)} (units : List Unit) (p : Program) (space : List Location) (system : System) → IsOf entered units p space system → IsReady p
ready_so units p space system h =
    let few : length (locations_in p) < 2 ^ 32 =
    subst (λ (n : ℕ). n < 2 ^ 32) (sym (ap (λ (locations : List Location). length locations) (sym h.system_of.space_is) ∙ h.system_of.count)) (few_locations system h.system_of.valid) in
    ready_of units p h.known.linkable h.program.linked h.known.tables h.known.filled h.program.made h.program.named few

pub called_so : {entered : List (List ℕ)} (units : List Unit) (p : Program) (space : List Location) (system : System) → IsOf entered units p space system → HasCalled p
called_so units p space system h = has_called units p h.known.linkable h.program.linked (ready_so units p space system h) (linked_plain units p h.known.linkable h.known.plain h.program.linked) h.program.room

pub system_so : (p : Program) (space : List Location) (system : System) → IsSystemOf p space system → SystemOf p (view_of (locations_in p)) system
system_so p space system of = subst (λ (locations : List Location). SystemOf p (view_of locations) system) of.space_is of.system_is

module _ {entered : List (List ℕ)} (us vs : List Unit) (p q : Program) (space more : List Location) (one other : System) (o : AreOne p q) (h : IsOf entered us p space one) (k : IsOf entered vs q more other) where
  pub paired : ArePaired p q o.to o.back
  paired = record {
    lead = o.forth;
    again = o.returned;
    sound = sound_of us p h.program;
    other_sound = sound_of vs q k.program;
    order = same_order p q o h.program.made h.program.named k.program.made k.program.named (apart_of us p space one h);
    order_back = same_order q p (turned p q o) k.program.made k.program.named h.program.made h.program.named (apart_of vs q more other k);
  }

  systems : AreOneSystem one other
  systems = one_system p q o.to o.back one other paired (ready_so us p space one h) (ready_so vs q more other k) (called_so us p space one h) (called_so vs q more other k)
      (system_so p space one h.system_of) (system_so q more other k.system_of) h.system_of.valid k.system_of.valid

  pub prints : AreOnePrint p q one other
  prints = record { units = o.forth.names; spaces = same_names p q o.to o.back paired; systems = systems }

pub one_report : {entered : List (List ℕ)} (json : Bool) (us vs : List Unit) (p q : Program) (space more : List Location) (one other : System) (text again : List ℕ) → AreOne p q → IsOf entered us p space one → IsOf entered vs q more other
    → IsProgramReport json p space one text → IsProgramReport json q more other again → again ≡ text
one_report json us vs p q space more one other text again o h k r t =
    one_print json p q space more one other text again h.system_of k.system_of (prints us vs p q space more one other o h k)
    (calls_apart p one (system_so p space one h.system_of) (apart_of us p space one h)) r t

pub one_text : {entered : List (List ℕ)} (us vs : List Unit) (p q : Program) (space more : List Location) (one other : System) (script text again : List ℕ) → AreOne p q → AreNamedUnits us → IsOf entered us p space one → IsOf entered vs q more other
    → IsProgramAnswers p space one script text → IsProgramAnswers q more other script again → again ≡ text
one_text us vs p q space more one other script text again o named h k r t =
    let names : HasNames p = linked_names us p h.known.linkable named h.program.linked h.program.made h.program.named in
    one_answer p q space more one other script text again h.system_of k.system_of (prints us vs p q space more one other o h k)
    (linked_distinct us p h.known.linkable named h.program.linked h.program.made h.program.named)
    (calls_told p one (system_so p space one h.system_of) names) r t

pub one_summary : {entered : List (List ℕ)} (number : ℕ) (us vs : List Unit) (p q : Program) (space more : List Location) (one other : System) (text again : List ℕ) → AreOne p q → IsOf entered us p space one → IsOf entered vs q more other
    → IsProgramSummary number space one text → IsProgramSummary number more other again → again ≡ text
one_summary number us vs p q space more one other text again o h k r t =
    let alike = prints us vs p q space more one other o h k in
    summary_same (record { space = space; names = []; system = one; family = r.family }) (record { space = more; names = []; system = other; family = t.family })
    (record { valid = h.system_of.valid; least = r.least; count = h.system_of.count })
    (record { valid = k.system_of.valid; least = t.least; count = k.system_of.count })
    (record {
      spaces = spaces_same p q space more one other h.system_of k.system_of alike;
      units = refl;
      systems = alike.systems;
      apart = calls_apart p one (system_so p space one h.system_of) (apart_of us p space one h);
    })
    number text again r.summary t.summary
