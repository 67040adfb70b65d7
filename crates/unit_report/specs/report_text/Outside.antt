-- What printing leaves in a sink.
use Rattle.std.specs.Prelude.{◌≡◌, ℕ, ◌≤◌, List, ◌++◌, length, take, Option, option_map}
use Rattle.pta_base.specs.Outside.{HasRisen}
use Rattle.unit_report.specs.declared.report_text.fault.PrintFault.{PrintFault}
use Rattle.unit_report.specs.declared.report_text.fault.PrintFault.TheVariants.{Sink, OutOfMemory}

-- what was written grew by a text; both are told, or neither
abbrev pub Grows : Option (List ℕ) → Option (List ℕ) → List ℕ → Type 0
Grows before after text = after ≡ option_map (λ written. written ++ text) before

-- what was written grew by a beginning of a text
abbrev pub GrowsInPart : Option (List ℕ) → Option (List ℕ) → List ℕ → Type 0
GrowsInPart before after text = (count : ℕ) × (count ≤ length text) × Grows before after (take count text)

-- such a text was written whole, and no fault rose
pub record IsPrinted (IsText : List ℕ → Type 0) (before after : Option (List ℕ))
    (faults_before faults_after : ℕ) : Type 0 where
  pub text : List ℕ
  pub right : IsText text
  pub whole : Grows before after text
  pub steady : faults_after ≡ faults_before

-- a fault rose, and a beginning of such a text was written
pub record IsCutOff (IsText : List ℕ → Type 0) (before after : Option (List ℕ))
    (faults_before faults_after : ℕ) : Type 0 where
  pub text : List ℕ
  pub right : IsText text
  pub part : GrowsInPart before after text
  pub cause : HasRisen faults_before faults_after

-- what a fault of printing leaves: want of memory leaves all as it was
abbrev pub Leaves : (IsText : List ℕ → Type 0) (before after : Option (List ℕ))
    (faults_before faults_after : ℕ)
    → PrintFault
    → Type 0
Leaves IsText before after faults_before faults_after Sink = IsCutOff IsText before after faults_before faults_after
Leaves IsText before after faults_before faults_after OutOfMemory =
    (after ≡ before) × (faults_after ≡ faults_before)
