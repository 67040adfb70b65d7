-- The summary of a generated program: its number, how many locations it has, how many members the printed sets have in
-- all, and how many edges the call graph has.
use Rattle.std.specs.Prelude.{◌≡◌, ℕ, List, ◌++◌, length, codes, decimal}
use Rattle.std.specs.List.{filter, range_with_len, sum_by}
use Rattle.sol_model.specs.declared.system.System.{System}
use Rattle.sol_model.specs.Families.{Family}
use Rattle.sol_model.specs.Solutions.{IsLeast}
use Rattle.call_graph.specs.Graph.{IsGraph}
use Rattle.call_graph.specs.row_members.Members.{members_in}
use Rattle.obj_space.specs.declared.location.Location.{Location}
use Rattle.unit_report.specs.report_text.Report.{has_set}

-- a line: a title and a number
abbrev pub count_line : List ℕ → ℕ → List ℕ
count_line title number = title ++ codes " " ++ decimal number ++ codes "\n"

-- how many members the sets that a report prints have in all
abbrev pub member_count : List Location → System → Family → ℕ
member_count space system F =
    sum_by (λ location. length (members_in system F location))
    (filter (has_set space) (range_with_len 0 (length space)))

-- the text of a summary
abbrev pub summary_text : ℕ → ℕ → ℕ → ℕ → List ℕ
summary_text number locations members edges =
    count_line (codes "gen") number
    ++ count_line (codes "locations") locations
    ++ count_line (codes "members") members
    ++ count_line (codes "edges") edges
    ++ codes "end\n"

-- a text is the summary of the generated program of a number, by a family of rows
pub record IsSummary (number : ℕ) (space : List Location) (system : System) (F : Family)
    (text : List ℕ) : Type 0 where
  pub edges : List (ℕ × ℕ)
  pub graph : IsGraph system F edges
  pub text_is : text ≡ summary_text number (length space) (member_count space system F) (length edges)

-- a text is that summary by the least solution of the program's system
pub record IsProgramSummary (number : ℕ) (space : List Location) (system : System) (text : List ℕ) : Type 0 where
  pub family : Family
  pub least : IsLeast system family
  pub summary : IsSummary number space system family text
