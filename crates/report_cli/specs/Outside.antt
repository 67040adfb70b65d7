-- What a call leaves behind outside.
use Rattle.std.specs.Prelude.{◌≡◌, ◌⊎◌, ℕ, List, ◌++◌, Option, codes}
use Rattle.pta_base.specs.Outside.{IsSteady}
use Rattle.unit_report.specs.report_text.Outside.{Grows, GrowsInPart}

-- a text went to a sink that may fail: whole where no fault rose there, and else in part
pub record Receives (before after : Option (List ℕ)) (faults_before faults_after : ℕ) (text : List ℕ) : Type 0 where
  pub whole : IsSteady faults_before faults_after → Grows before after text
  pub part : GrowsInPart before after text

-- the statuses of a text that was written whole: 11 where it tells a run that stopped, and else 0
abbrev pub IsWritten : ℕ → Type 0
IsWritten status = (status ≡ 0) ⊎ (status ≡ 11)

-- the lines that speak of the outside
abbrev pub source_fault : List ℕ → List ℕ
source_fault name = codes "source fault " ++ name ++ codes "\n"

abbrev pub sink_fault : List ℕ
sink_fault = codes "sink fault\n"

abbrev pub out_of_memory : List ℕ
out_of_memory = codes "out of memory\n"

abbrev pub usage_line : List ℕ
usage_line = codes "usage\n"
