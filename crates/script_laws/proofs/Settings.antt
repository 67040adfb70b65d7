-- The programs that texts denote take the same scripts.
use Rattle.std.proofs.Common.{◌≡◌, ◌∙◌, ◌+◌, ◌*◌, ◌/◌, ◌≤◌, ◌^◌, ℕ, List, sym, ap, subst}
use Rattle.core_tree.specs.declared.node.Unit.{Unit}
use Rattle.core_tree.specs.declared.node.Program.{Program}
use Rattle.core_tree.specs.Typed.{trees_in}
use Rattle.sol_model.specs.declared.system.System.{System}
use Rattle.sol_model.specs.Systems.{location_count}
use Rattle.obj_space.specs.declared.location.Location.{Location}
use Rattle.obj_space.specs.Space.{locations_in}
use Rattle.obj_space.specs.View.{view_of}
use Rattle.row_numbers.specs.Setting.{row_total}
use Rattle.normal_form.specs.SystemOf.{SystemOf}
use Rattle.constraints.specs.System.{word_total, IsWithin}
use Rattle.alias_query.specs.Asked.{made_setting}
use Rattle.unit_report.specs.unit_system.Of.{IsProgramOf, IsSystemOf}
use Rattle.unit_report.specs.unit_answers.Answered.{setting_of}
use Rattle.twin_report_laws.specs.outcome_laws.twin_programs.One.{AreAllRooted, AreOne}
use Rattle.twin_report_laws.proofs.outcome_laws.twin_programs.Whole.{twin_programs}
use Rattle.twin_report_laws.proofs.outcome_laws.text_faults.Texts.{right_twins}
use Rattle.twin_report_laws.specs.outcome_laws.twin_scripts.Scripts.{SameScripts, read_with}
use Rattle.twin_report_laws.proofs.outcome_laws.twin_scripts.Whole.{twin_scripts}
use Rattle.text_units.specs.Answers.{NamedText}
use Rattle.text_units.specs.Lowered.{AreRightTexts}
use Rattle.report_cli.specs.Outcome.{Denotes}
use Rattle.report_cli.proofs.covered_reports.Linkable.{IsUnitOf, unit_of}
use Rattle.report_cli.proofs.Twins.{same_texts}

-- each node of a right unit is a body or a child, and each initialiser its entity's body
rooted : (texts : List NamedText) (units : List Unit) → AreRightTexts 0 texts units → AreAllRooted units
rooted texts units right = record {
  each = λ k u at.
      let own : IsUnitOf 0 texts k u = unit_of 0 texts units k u right at in
      record { nodes = own.right.right.no_other_node; initialisers = own.right.right.initialises_once };
}

-- the programs that texts denote are one, but for numbers
pub one_program : (entries : List (List ℕ)) (texts : List NamedText) (us vs : List Unit) (p q : Program) → AreRightTexts 0 texts us → AreRightTexts 0 texts vs → IsProgramOf entries us p → IsProgramOf entries vs q → AreOne p q
one_program entries texts us vs p q h k one other =
    twin_programs us vs p q (right_twins.all us vs (same_texts 0 texts us vs h k)) (rooted texts us h) (rooted texts vs k) one.linked other.linked

read_so : (p : Program) (space : List Location) (system : System) → IsSystemOf p space system → read_with p system ≡ setting_of p space system
read_so p space system of = ap (λ (locations : List Location). made_setting locations system p.names.items) (sym of.space_is)

system_so : (p : Program) (space : List Location) (system : System) → IsSystemOf p space system → SystemOf p (view_of (locations_in p)) system
system_so p space system of = subst (λ (locations : List Location). SystemOf p (view_of locations) system) of.space_is of.system_is

scripts_of : (entries : List (List ℕ)) (texts : List NamedText) (us vs : List Unit) (p q : Program) (space there : List Location) (system other : System) → AreRightTexts 0 texts us → AreRightTexts 0 texts vs
    → IsProgramOf entries us p → IsProgramOf entries vs q → IsSystemOf p space system → IsSystemOf q there other → SameScripts (setting_of p space system) (setting_of q there other)
scripts_of entries texts us vs p q space there system other h k one two s z =
    let same : SameScripts (read_with p system) (read_with q other) =
    (twin_scripts p q system other (one_program entries texts us vs p q h k one two) one.made one.named two.made two.named (system_so p space system s) (system_so q there other z)).1 in
    subst (λ x. SameScripts x (setting_of q there other)) (read_so p space system s) (subst (λ x. SameScripts (read_with p system) x) (read_so q there other z) same)

-- two programs that texts denote, with their systems, take the same scripts
pub same_scripts : (entries : List (List ℕ)) (texts : List NamedText) (p q : Program) (space there : List Location) (system other : System) → Denotes entries texts p → Denotes entries texts q
    → IsSystemOf p space system → IsSystemOf q there other → SameScripts (setting_of p space system) (setting_of q there other)
unfolding Denotes
same_scripts entries texts p q space there system other h k s z = scripts_of entries texts h.0 k.0 p q space there system other h.1 k.1 h.2 k.2 s z

-- a program with a system is within the limits
pub within : (p : Program) (space : List Location) (system : System) → IsSystemOf p space system → IsWithin p (view_of (locations_in p))
within p space system of =
    let rows : system.rows * ((location_count system + 63) / 64) ≡ row_total (trees_in p) (view_of space) * ((location_count system + 63) / 64) =
    ap (λ (n : ℕ). n * ((location_count system + 63) / 64)) of.system_is.rows in
    let words : row_total (trees_in p) (view_of space) * ((location_count system + 63) / 64) ≡ word_total p (view_of space) =
    ap (λ (n : ℕ). row_total (trees_in p) (view_of space) * ((n + 63) / 64)) (sym of.count) in
    let whole : word_total p (view_of space) ≡ word_total p (view_of (locations_in p)) = ap (λ (locations : List Location). word_total p (view_of locations)) of.space_is in
    record { nodes = of.few; words = subst (λ (n : ℕ). n ≤ 2 ^ 24) (rows ∙ (words ∙ whole)) of.valid.size }
