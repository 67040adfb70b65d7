use Rattle.std.proofs.Common.{◌≡◌, ◌++◌, ◌<◌, ℕ, All, reverse}
use Rattle.c_scope.specs.declared.kinds.Declared.{Declared}
use Rattle.name_chains.specs.Links.{listed, IsLinkOf, HaveLeaves}
use Rattle.name_chains.proofs.Linked.{left}
use Rattle.name_chains.proofs.links.list_of.Given as goal

-- what is left of the list stands before what was taken
abbrev pub invariant-loop-at : goal.invariant-loop-at
invariant-loop-at l = record {
  last : IsLinkOf l.links l.at;
  list : listed l.links l.fn.last ≡ listed l.links l.at ++ reverse l.list.items;
  leaves : (n : ℕ) → HaveLeaves n l.links → All (λ (d : Declared). d.node < n) l.list.items;
}

abbrev pub decreases-loop-at : goal.decreases-loop-at
decreases-loop-at l = left l.at
