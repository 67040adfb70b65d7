use Rattle.std.proofs.Common.{ℕ, List, [], ◌∷◌, arith, codes, subst, ◌∙◌}
use Rattle.std.specs.Prelude.{IfOk, IfErr}
use Rattle.core_tree.specs.declared.node.Program.{Program}
use Rattle.sol_model.specs.declared.system.System.{System}
use Rattle.unit_report.specs.Solved.{IsSolvedShared}
use Rattle.report_cli.specs.declared.form.Form.TheVariants.{Summary}
use Rattle.report_cli.specs.declared.form.Printed.{Printed}
use Rattle.report_cli.specs.Told.{no_side}
use Rattle.report_cli.specs.Printed.{IsPrinted}
use Rattle.report_cli.specs.Outcome.{Denotes}
use Rattle.report_cli.specs.Scripts.{told_with}
use Rattle.report_cli.specs.Faults.{IsFaultOfTold}
use Rattle.report_cli.proofs.Naming.{gen_name}
use Rattle.report_cli.proofs.top.text_of_generated.Goals as goal

pub text_of_units-requires-clause-distinct : goal.text_of_units-requires-clause-distinct
text_of_units-requires-clause-distinct g c κs within j k lt few same = absurd (omega arith)

pub text_of_units-requires-clause-bytes : goal.text_of_units-requires-clause-bytes
text_of_units-requires-clause-bytes g c κs within = gen_name

pub returns-clause-printed : goal.returns-clause-printed
returns-clause-printed g c =
    let P : List ℕ → Type 0 = λ text. IfOk c.text_of_units.result (λ (made : Printed). (program : Program) × (system : System) × Denotes [] ((codes "gen", text) ∷ []) program
    × IsPrinted (Summary c.args.number) no_side program system made.text.items made.status × IsSolvedShared system made.solved) in
    subst P (c.of.ensures ∙ c.in_ok-text.ensures) c.text_of_units.ensures.printed

pub returns-clause-refused : goal.returns-clause-refused
returns-clause-refused g c =
    let P : List ℕ → Type 0 = λ text. IfErr c.text_of_units.result (IsFaultOfTold (told_with [] ((codes "gen", text) ∷ []) no_side (Summary c.args.number))) in
    subst P (c.of.ensures ∙ c.in_ok-text.ensures) c.text_of_units.ensures.refused
