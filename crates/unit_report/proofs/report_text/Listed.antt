-- What the lists behind a report's lines hold.
use Rattle.std.proofs.Common.{◌≡◌, ◌↔◌, ℕ, zero, suc, ◌<◌, ◌==◌, Bool, true, false, List, [], ◌∷◌, length, Option, Some, None, slice_get, Contains, refl, sym, ◌∙◌, ap, subst, arith}
use Rattle.std.specs.Option.{option_map_or}
use Rattle.std.proofs.lemmas.Bool.{eqb-true, eq-eqb, false≢true}
use Rattle.sol_model.specs.declared.system.System.{System}
use Rattle.sol_model.specs.declared.system.CallSite.{CallSite}
use Rattle.sol_model.specs.declared.system.Function.{Function}
use Rattle.sol_model.specs.declared.system.LocationFact.{LocationFact}
use Rattle.sol_model.specs.Families.{Family, Has}
use Rattle.sol_model.specs.Systems.{IsValid, IsLocation}
use Rattle.unit_report.specs.report_text.Report.{members_in, targets_in, agrees, is_function}
use Rattle.call_graph.specs.row_members.Members.{IsKnown}
use Rattle.call_graph.proofs.row_members.Listed.{in_filter, from_filter, members_listed}
use Rattle.unit_report.specs.report_text.Laws.{IsTargetAt}

-- ---- functions
from_map : {X : Type 0} (p : X → Bool) (o : Option X) → option_map_or p o false ≡ true → (x : X) × (o ≡ Some x) × (p x ≡ true)
from_map p None h = absurd (false≢true h)
from_map p (Some x) h = (x, refl, h)

to_map : {X : Type 0} (p : X → Bool) (o : Option X) (x : X) → o ≡ Some x → p x ≡ true → option_map_or p o false ≡ true
to_map p o x e h = ap (λ o. option_map_or p o false) e ∙ h

has_item : {X : Type 0} (xs : List X) (i : ℕ) → i < length xs → (x : X) × (slice_get xs i ≡ Some x)
has_item [] i lt = absurd (omega arith)
has_item (x ∷ xs) zero lt = (x, refl)
has_item (x ∷ xs) (suc i) lt = has_item xs i (omega arith)

-- a location is that of a function of a signature
abbrev IsFunctionAt : System → ℕ → ℕ → Type 0
IsFunctionAt system signature location = (number : ℕ) × (function : Function) × (slice_get system.functions number ≡ Some function) × (function.location ≡ location) × (function.signature ≡ signature)

function_from : (system : System) (signature location : ℕ) → IsValid system → is_function system signature location ≡ true → IsFunctionAt system signature location
function_from system signature location valid h =
    let a = from_map (λ (fact : LocationFact). option_map_or (agrees system signature) fact.function false) (slice_get system.locations location) h in
    let b = from_map (agrees system signature) a.0.function a.2 in
    let d = from_map (λ (function : Function). function.signature == signature) (slice_get system.functions b.0) b.2 in
    (b.0, d.0, d.1, ((valid.locations location a.0 a.1).own b.0 d.0 d.1).0 b.1, eqb-true _ _ d.2)

function_to : (system : System) (signature location : ℕ) → IsValid system → IsLocation system location → IsFunctionAt system signature location → is_function system signature location ≡ true
function_to system signature location valid within f =
    let a = has_item system.locations location within in
    to_map (λ (fact : LocationFact). option_map_or (agrees system signature) fact.function false) (slice_get system.locations location) a.0 a.1
    (to_map (agrees system signature) a.0.function f.0 (((valid.locations location a.0 a.1).own f.0 f.1 f.2).1 f.3)
    (to_map (λ (function : Function). function.signature == signature) (slice_get system.functions f.0) f.1 f.2 (eq-eqb _ _ f.4)))

-- ---- targets
pub targets_listed : (system : System) (F : Family) (call : CallSite) (location : ℕ) → IsValid system → IsKnown system F → Contains (targets_in system F call) location ↔ IsTargetAt system F call location
targets_listed system F call location valid known = (
  λ h.
      let r = from_filter (is_function system call.signature) (members_in system F call.callee) location h in
      let has : Has F call.callee location = (members_listed system F call.callee location known).0 r.0 in
      let f = function_from system call.signature location valid r.1 in
      (f.0, f.1, record { known = f.2; reached = subst (λ (l : ℕ). Has F call.callee l) (sym f.3) has; agrees = f.4 }, f.3),
  λ t.
      let has : Has F call.callee location = subst (λ (l : ℕ). Has F call.callee l) t.3 t.2.reached in
      in_filter (is_function system call.signature) (members_in system F call.callee) location ((members_listed system F call.callee location known).1 has)
      (function_to system call.signature location valid (known call.callee location has) (t.0, t.1, t.2.known, t.3, t.2.agrees)),
)
