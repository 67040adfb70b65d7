use Rattle.std.proofs.Common.{◌≡◌, ◌∙◌, ℕ, List, ap, subst, if◌then◌else◌}
use Rattle.core_tree.specs.declared.node.Program.{Program}
use Rattle.run_text.specs.RunText.{Told, run_told}
use Rattle.report_cli.specs.Scripts.{named}
use Rattle.report_cli.proofs.Scripted.{words_beside}
use Rattle.report_cli.proofs.running.ran.Goals as goal

-- what is told of a run by its words
told_so : (program : Program) (slice numbers : List ℕ) (steps : ℕ) (one : Told) → slice ≡ numbers → one ≡ run_told program slice steps → one ≡ run_told program numbers steps
told_so program slice numbers steps one same is = is ∙ ap (λ (words : List ℕ). run_told program words steps) same

-- and its status
status_so : (one other : Told) (status : ℕ) → one ≡ other → status ≡ (if one.stopped then 11 else 0) → status ≡ (if other.stopped then 11 else 0)
status_so one other status same is = let P : Told → Type 0 = λ told. status ≡ (if told.stopped then 11 else 0) in subst P same is

pub returns-in-Err-clause-refused : goal.returns-in-Err-clause-refused
returns-in-Err-clause-refused g c =
    words_beside (named c.args.words) c.args.made.program c.args.made.space c.args.made.system c.args.steps c.in-Err.fault c.in-Err.ensures.refused

pub returns-clause-printed : goal.returns-clause-printed
returns-clause-printed g c =
    let program = c.args.made.program in
    let numbers = c.in-Ok.numbers.items in
    let one : Told = record { text = c.in-Ok-run_text.told.text.items; stopped = c.in-Ok-run_text.told.stopped } in
    let same : one ≡ run_told program numbers c.args.steps = told_so program c.as_slice.result.now numbers c.args.steps one c.as_slice.ensures.value c.in-Ok-run_text.ensures in record {
      short = c.in-Ok.ensures.short;
      space = c.args.made.space;
      system_of = c.requires.system;
      numbers = numbers;
      reading = c.in-Ok.ensures.reading;
      text_is = ap (λ (t : Told). t.text) same;
      status_is = status_so one (run_told program numbers c.args.steps) c.status_of.result same c.status_of.ensures;
    }
