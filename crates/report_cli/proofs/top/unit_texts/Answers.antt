use Rattle.std.proofs.Common.{rules, ◌≡◌, length, ℕ, List, ◌∙◌, ap, option_map, take}
use Rattle.std.specs.Prelude.{zip}
use Rattle.std.specs.Borrow.{Bor}
use Rattle.text_units.specs.Answers.{names_of}
use Rattle.report_cli.specs.Words.{side_name}
use Rattle.report_cli.proofs.Scripted.{units_apart}
use Rattle.report_cli.proofs.top.unit_texts.Goals as goal

pub returns-clause-units : goal.returns-clause-units
returns-clause-units c =
    let same : c.len.result ≡ length c.args.command.now.units.items = search rules in
    ap (λ (k : ℕ). zip (names_of c.args.command.now.units.items) (take k c.args.texts.now)) same
    ∙ units_apart c.args.command.now.units.items (side_name (option_map (λ (b : Bor (List ℕ)). b.now) c.args.command.now.ask) c.args.command.now.steps) c.args.texts.now
