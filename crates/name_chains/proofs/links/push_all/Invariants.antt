use Rattle.std.proofs.Common.{◌≡◌, ◌++◌, ◌<◌, ℕ, All, take}
use Rattle.c_scope.specs.declared.kinds.Declared.{Declared}
use Rattle.name_chains.specs.Links.{listed, IsLinkOf, Adds, HaveLeaves}
use Rattle.name_chains.proofs.links.push_all.Given as goal

-- the declarations so far are pushed
abbrev pub invariant-loop-declared : goal.invariant-loop-declared
invariant-loop-declared l = record {
  adds : Adds l.initial.links.items l.links.items;
  leaves : (n : ℕ) → HaveLeaves n l.initial.links.items → All (λ (d : Declared). d.node < n) l.list → HaveLeaves n l.links.items;
  last : IsLinkOf l.links.items l.last;
  list : listed l.links.items l.last ≡ listed l.initial.links.items l.fn.before ++ take l.declared-index l.list;
}
