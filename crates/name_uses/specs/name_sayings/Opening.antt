-- When a unit's names aren't opened.
use Rattle.std.specs.Prelude.{◌≡◌, ⊤, Result, Ok, Err}
use Rattle.pta_base.specs.declared.kind.Kind.TheVariants.{NotBuilt}
use Rattle.c_scope.specs.declared.resolving.Bound.{Bound}
use Rattle.core_nodes.specs.declared.fault.CheckFault.{CheckFault}
use Rattle.core_nodes.specs.declared.fault.CheckFault.TheVariants.{BadOperand, Unsupported, OutOfMemory}
use Rattle.tree_reads.specs.declared.syntax.Syntax.{Syntax}
use Rattle.c_meanings.specs.Known.{AreLeaves}

-- memory wants, or a name is declared or a use paired past the nodes: that is `NotBuilt` at node 0
abbrev pub IsNotOpened : Syntax → Bound → CheckFault → Type 0
IsNotOpened syntax bound (BadOperand node) = ⊥
IsNotOpened syntax bound (Unsupported kind node) = (kind ≡ NotBuilt) × (node ≡ 0) × (AreLeaves syntax bound → ⊥)
IsNotOpened syntax bound OutOfMemory = ⊤

abbrev pub OpensOrNot : {A : Type 0} → Syntax → Bound → Result A CheckFault → Type 0
OpensOrNot syntax bound (Ok x) = ⊤
OpensOrNot syntax bound (Err fault) = IsNotOpened syntax bound fault
