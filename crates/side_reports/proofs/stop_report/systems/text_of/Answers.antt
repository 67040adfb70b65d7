use Rattle.std.proofs.Common.{ap, ◌∙◌}
use Rattle.sol_model.specs.Families.{members}
use Rattle.side_reports.specs.stop_report.Text.{stops_text}
use Rattle.side_reports.proofs.stop_report.systems.text_of.Goals as goal

pub returns : goal.returns
returns c =
    let names = c.in_ok-names.names.items in
    let nodes = c.args.made.now.program.nodes.items in
    record {
      family = members c.args.rows.now;
      least = c.requires.least;
      names = names;
      names_are = c.in_ok-names.ensures ∙ c.as_slice.ensures.value;
      stops = c.in_ok-list.list.items;
      listed = c.in_ok-list.ensures;
      text_is =
          c.in_ok-text.ensures
          ∙ (ap (λ n. stops_text n c.as_slice-3.result.now c.as_slice-4.result.now) c.as_slice-2.ensures.value
          ∙ (ap (λ ns. stops_text names ns c.as_slice-4.result.now) c.as_slice-3.ensures.value
          ∙ ap (λ s. stops_text names nodes s) c.as_slice-4.ensures.value));
    }
