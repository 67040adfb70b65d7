use Rattle.std.proofs.Common.{◌≡◌, ◌≤◌, List, length, drop}
use Rattle.c_scope.specs.declared.kinds.Declared.{Declared}
use Rattle.c_senses.specs.Names as names
use Rattle.name_chains.specs.Links.{listed, IsLinkOf, Grows}
use Rattle.name_chains.specs.Chains.{Says}
use Rattle.name_chains.proofs.chains.linked_along.Given as goal

-- those along the scopes from a place on
abbrev pub invariant-loop-at : goal.invariant-loop-at
invariant-loop-at l = record {
  at : l.at ≤ length l.scopes;
  grows : Grows l.own l.initial.links.items l.links.items;
  last : IsLinkOf l.links.items l.outer;
  list : (ds : List Declared) → Says l.own l.initial.links.items l.chains ds → listed l.links.items l.outer ≡ names.linked_along (drop l.at l.scopes) l.symbol ds;
}

abbrev pub decreases-loop-at : goal.decreases-loop-at
decreases-loop-at l = l.at
