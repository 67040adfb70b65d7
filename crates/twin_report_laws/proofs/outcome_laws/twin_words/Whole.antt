-- Programs that are one, but for numbers, have rows of one size.
use Rattle.std.proofs.Common.{◌≡◌, ◌∙◌, ◌+◌, ◌*◌, ◌/◌, ℕ, List, length, ap}
use Rattle.core_tree.specs.declared.node.Unit.{Unit}
use Rattle.core_tree.specs.declared.node.Program.{Program}
use Rattle.core_tree.specs.Typed.{trees_in}
use Rattle.obj_space.specs.Space.{locations_in}
use Rattle.obj_space.specs.View.{view_of}
use Rattle.row_numbers.specs.Setting.{row_total}
use Rattle.constraints.specs.System.{word_total}
use Rattle.unit_link.specs.Linked.{LinkedAt}
use Rattle.twin_report_laws.specs.outcome_laws.fault_laws.Twins.{AreAllTwins}
use Rattle.twin_report_laws.specs.outcome_laws.twin_programs.One.{AreAllRooted, AreOne}
use Rattle.twin_report_laws.proofs.outcome_laws.twin_programs.Whole.{twin_programs}
use Rattle.twin_report_laws.specs.outcome_laws.twin_words.Words.{IsSound, AsManyLocations, AsManyRows}
use Rattle.twin_report_laws.proofs.outcome_laws.twin_words.Locations.{as_many_locations as locations_same}
use Rattle.twin_report_laws.proofs.outcome_laws.twin_words.Results.{as_many_rows as rows_same}

pub as_many_locations : AsManyLocations
as_many_locations p q o sound other = locations_same p q o.to o.back o.forth o.returned sound other

pub as_many_rows : AsManyRows
as_many_rows p q o sound other = rows_same p q o.to o.back o.forth o.returned sound other

pub one_word_total : {entered : List (List ℕ)} (us vs : List Unit) (p q : Program) → AreAllTwins us vs → AreAllRooted us → AreAllRooted vs → LinkedAt entered us p → LinkedAt entered vs q → IsSound p → IsSound q
    → word_total p (view_of (locations_in p)) ≡ word_total q (view_of (locations_in q))
one_word_total us vs p q all rooted other_rooted h k sound other =
    let o : AreOne p q = twin_programs us vs p q all rooted other_rooted h k in
    ap (λ (rows : ℕ). rows * ((length (locations_in p) + 63) / 64)) (as_many_rows p q o sound other)
    ∙ ap (λ (count : ℕ). row_total (trees_in q) (view_of (locations_in q)) * ((count + 63) / 64)) (as_many_locations p q o sound other)
