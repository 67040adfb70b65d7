-- What is right for the tree of a unit is that unit.
use Rattle.std.proofs.Common.{ℕ, subst}
use Rattle.parsed_tree_laws.specs.reading_laws.numbered_laws.Numbered.{AreOfUnit}
use Rattle.parsed_tree_laws.proofs.reading_laws.numbered_laws.Whole.{numbered}
use Rattle.unit_report.specs.unit_system.Numbered.{RightIsNumbered}

pub right_numbered : RightIsNumbered
right_numbered s name x n is right =
    let own = subst (λ (k : ℕ). AreOfUnit k x) is (numbered s name x right) in
    record { nodes = own.nodes; entities = own.entities }
