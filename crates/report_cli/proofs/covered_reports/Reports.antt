-- The least sets of the program that texts are read as cover each of its runs, and so does what its functions may touch; and their bad calls are
-- listed.
use Rattle.std.proofs.Common.{ℕ, List, map, subst}
use Rattle.core_tree.specs.declared.node.Program.{Program}
use Rattle.core_tree.specs.declared.node.Unit.{Unit}
use Rattle.core_tree.specs.Valid.{ValidProgram}
use Rattle.sol_model.specs.declared.system.System.{System}
use Rattle.sol_model.specs.Families.{Family}
use Rattle.sol_model.specs.Solutions.{IsLeast}
use Rattle.linked_laws.proofs.alike_laws.Plain.{linked_plain}
use Rattle.linked_laws.proofs.valid_laws.Whole.{linked_valid}
use Rattle.obj_space.specs.declared.location.Location.{Location}
use Rattle.obj_space.specs.View.{view_of}
use Rattle.normal_form.specs.SystemOf.{SystemOf}
use Rattle.command_line.specs.Distinct.{AreDistinct}
use Rattle.unit_report.specs.unit_system.Of.{IsProgramOf, IsSystemOf}
use Rattle.text_units.specs.Answers.{NamedText}
use Rattle.text_units.specs.Lowered.{AreRightTexts}
use Rattle.covered_runs.specs.covered_programs.Programs.{IsAnalysed}
use Rattle.covered_runs.proofs.covered_programs.Programs.{programs_covered}
use Rattle.covered_runs.proofs.touched_runs.Runs.{touch_covers_runs, cells_have_spots}
use Rattle.changed_cells.proofs.Runs.{changes_covered, bare_changes_covered}
use Rattle.listed_stops.proofs.Runs.{bad_calls_listed}
use Rattle.report_cli.specs.covered_reports.Reports.{CoversRuns, ReportsCovered, EffectsCovered}
use Rattle.report_cli.specs.covered_reports.Stops.{BadCallsCovered}
use Rattle.report_cli.proofs.covered_reports.Linkable.{filled, linkable, plain, stored, tables}

module _ (names : List (List ℕ)) (texts : List NamedText) (units : List Unit) (p : Program) (distinct : AreDistinct (map (λ (text : NamedText). text.0) texts)) (right : AreRightTexts 0 texts units) (of : IsProgramOf names units p) where
  valid : ValidProgram p
  valid =
      linked_valid units p (linkable texts units distinct right) (tables texts units right) (filled texts units right) of.linked (record { nodes = of.range.types; entities = of.range.entity_types }) of.made of.named

  analysed : (space : List Location) (system : System) (family : Family) → IsSystemOf p space system → IsLeast system family → IsAnalysed units p system family
  analysed space system family own least = record {
    linkable = linkable texts units distinct right;
    tables = tables texts units right;
    filled = filled texts units right;
    stored = stored texts units right;
    entered = names;
    linked = of.linked;
    valid = valid;
    made = of.made;
    named = of.named;
    is_system = subst (λ (s : List Location). SystemOf p (view_of s) system) own.space_is own.system_is;
    system_valid = own.valid;
    least = least;
  }

  covers : (space : List Location) (system : System) (family : Family) → IsSystemOf p space system → IsLeast system family → CoversRuns p system family
  covers space system family own least =
      let c = programs_covered units p system family (analysed space system family own least) in
      record { solved = c.0; covered = c.1 }

pub reports_covered : ReportsCovered
reports_covered names texts units p space system distinct right of own family least = covers names texts units p distinct right of space system family own least

pub effects_covered : EffectsCovered
effects_covered names texts units p space system distinct right of own family made least effects =
    let a = analysed names texts units p distinct right of space system family own least in
    record {
      located = λ words n i key path c. cells_have_spots units p system family words n i key path a c;
      touched = λ words n access key path location f accesses lands has. touch_covers_runs units p system family made words n access key path location f a effects accesses lands has;
      changed = λ words n i key path f c has. changes_covered units p system family made words n i key path f a effects c has;
      bare = λ words n i k key path location f c lands has. bare_changes_covered units p system family made words n i k key path location f a effects c lands has;
    }

pub bad_calls_covered : BadCallsCovered
bad_calls_covered names texts units p space system distinct right of own family words k word n least stops =
    bad_calls_listed units p system family words k word n (analysed names texts units p distinct right of space system family own least)
    (record { plain = linked_plain units p (linkable texts units distinct right) (plain texts units right) of.linked; room = of.room }) stops
