-- The summary of the system with one row for each class of rows is that of the system that it was made from.
use Rattle.std.proofs.Common.{◌≡◌, ℕ, ◌<◌, Bool, true, List, length, slice_get, sym, ◌∙◌, ap, arith}
use Rattle.std.specs.List.{filter, range_with_len, sum, sum_by}
use Rattle.std.proofs.lemmas.List.Sums.{sum-map}
use Rattle.std.proofs.lemmas.Option.{slice_get_within}
use Rattle.core_tree.specs.declared.node.Program.{Program}
use Rattle.sol_model.specs.declared.system.System.{System}
use Rattle.sol_model.specs.Families.{Family}
use Rattle.sol_model.specs.Solutions.{IsLeast}
use Rattle.sol_model.specs.Systems.{IsValid, location_count}
use Rattle.call_graph.specs.row_members.Members.{members_in}
use Rattle.obj_space.specs.declared.location.Location.{Location}
use Rattle.row_share.specs.share_laws.Renumbering.{new_row}
use Rattle.row_share.proofs.share_laws.Forward.{IsRenumbered, over}
use Rattle.row_share.proofs.share_laws.Leasts.{gives_least}
use Rattle.alias_query.specs.Asked.{has_line}
use Rattle.unit_report.specs.report_text.Report.{has_set}
use Rattle.unit_report.specs.unit_system.Of.{IsSystemOf}
use Rattle.unit_report.specs.Solved.{IsShared}
use Rattle.unit_report.proofs.SharedReport.{found_or, graph_same, map_filter, members_fixed}
use Rattle.gen_summary.specs.Summary.{member_count, summary_text, IsSummary, IsProgramSummary}

sum_same : (f g : ℕ → ℕ) (p : ℕ → Bool) (xs : List ℕ) → ((x : ℕ) → p x ≡ true → f x ≡ g x) → sum_by f (filter p xs) ≡ sum_by g (filter p xs)
sum_same f g p xs h = sym (sum-map f (filter p xs)) ∙ ap sum (map_filter f g p xs h) ∙ sum-map g (filter p xs)

module _ (S T : System) (new : ℕ → ℕ) (is : IsRenumbered S T new) (G : Family) where
  members_same : (space : List Location) → length space ≡ location_count S → member_count space T G ≡ member_count space S (over G new)
  members_same space count =
      sum_same (λ (location : ℕ). length (members_in T G location)) (λ (location : ℕ). length (members_in S (over G new) location)) (has_set space) (range_with_len 0 (length space))
      (λ location has. (let found = found_or has_line (slice_get space location) has in
      let within : location < length space = slice_get_within space location found.0 found.1 in
      ap (λ (held : List ℕ). length held) (members_fixed S T new is G location (omega arith))))

  summary_same : (number : ℕ) (space : List Location) (text : List ℕ) → length space ≡ location_count S → IsSummary number space T G text → IsSummary number space S (over G new) text
  summary_same number space text count h = record {
    edges = h.edges;
    graph = graph_same S T new is G h.edges h.graph;
    text_is = h.text_is ∙ ap (λ (n : ℕ). summary_text number (length space) n (length h.edges)) (members_same space count);
  }

renumbered : (S T : System) → IsValid S → (shared : IsShared S T) → IsRenumbered S T (new_row shared.row)
renumbered S T valid shared = record {
  valid = valid;
  locations = shared.reduced.locations;
  types = shared.reduced.types;
  calls = shared.reduced.calls;
  functions = shared.reduced.functions;
  fixed = shared.reduced.numbers.locations;
}

pub program_summary : (number : ℕ) (p : Program) (space : List Location) (S T : System) (G : Family) (text : List ℕ) → IsSystemOf p space S → IsShared S T → IsLeast T G
    → IsSummary number space T G text → IsProgramSummary number space S text
program_summary number p space S T G text made shared least summary = record {
  family = over G (new_row shared.row);
  least = gives_least S T shared.of shared.row made.valid shared.classes shared.reduced G least;
  summary = summary_same S T (new_row shared.row) (renumbered S T made.valid shared) G number space text made.count summary;
}
