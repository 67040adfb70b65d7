use Rattle.std.proofs.Common.{rules, ◌≡◌, ◌∙◌, ℕ, Option, Some, length, ap, sym}
use Rattle.report_cli.specs.Told.{side_of}
use Rattle.report_cli.proofs.Scripted.{side_behind, no_side_behind}
use Rattle.report_cli.proofs.top.side_of.Goals as goal

pub returns-in-Some-steps : goal.returns-in-Some-steps
returns-in-Some-steps c =
    let command = c.args.command.now in
    let same : c.len.result ≡ length command.units.items = search rules in
    ap (λ (s : Option ℕ). side_of s (Some (c.in-Some.name.now, c.as_slice.result.now))) (sym c.in-Some-steps.is)
    ∙ side_behind command.units.items c.side_name.result _ c.side_name.ensures command.steps c.args.texts.now c.requires c.in-Some.name c.len.result c.index-texts-len.result c.as_slice.result.now c.in-Some.is same
    c.index-texts-len.is c.as_slice.ensures

pub returns-in-None : goal.returns-in-None
returns-in-None c =
    let command = c.args.command.now in
    let same : c.len.result ≡ length command.units.items = search rules in
    ap (λ (s : Option ℕ). side_of s (Some (c.in-Some.name.now, c.as_slice.result.now))) (sym c.in-None.is)
    ∙ side_behind command.units.items c.side_name.result _ c.side_name.ensures command.steps c.args.texts.now c.requires c.in-Some.name c.len.result c.index-texts-len.result c.as_slice.result.now c.in-Some.is same
    c.index-texts-len.is c.as_slice.ensures

pub returns-in_default : goal.returns-in_default
returns-in_default c =
    let command = c.args.command.now in no_side_behind command.units.items c.side_name.result _ c.side_name.ensures command.steps c.args.texts.now c.requires c.in_default.is
