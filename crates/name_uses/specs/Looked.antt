-- What a call answers that looks up what is around a node.
use Rattle.std.specs.Prelude.{ℕ, ◌≡◌, Bool, true, false, ⊤, Option, Some, None, Result, Ok, Err}
use Rattle.pta_base.specs.declared.kind.Kind.TheVariants.{NotBuilt}
use Rattle.core_nodes.specs.declared.fault.CheckFault.{CheckFault}
use Rattle.core_nodes.specs.declared.fault.CheckFault.TheVariants.{BadOperand, Unsupported, OutOfMemory}
use Rattle.core_tree.specs.declared.node.Unit.{Unit}
use Rattle.c_senses.specs.World.{World, Meaning}
use Rattle.expression_rows.specs.declared.c_rows.names.Named.{Named}
use Rattle.expression_rows.specs.c_rows.Named.{IsNamed}
use Rattle.name_uses.specs.Built.{is_strange}

-- what was looked for, where no name is strange; else the node isn't built
abbrev pub Looked : {A : Type 0} → (A → Type 0) → Bool → ℕ → Result A CheckFault → Type 0
Looked Fits strange at (Ok found) = Fits found × (strange ≡ false)
Looked Fits strange at (Err (BadOperand node)) = ⊥
Looked Fits strange at (Err (Unsupported kind node)) = (kind ≡ NotBuilt) × (node ≡ at) × (strange ≡ true)
Looked Fits strange at (Err OutOfMemory) = ⊤

-- a name by what it means, if that isn't strange
abbrev pub NamedUnless : World → Unit → ℕ → Option Meaning → Option Named → Type 0
NamedUnless w u count m (Some named) = IsNamed w u named m × (is_strange count m ≡ false)
NamedUnless w u count m None = is_strange count m ≡ true
