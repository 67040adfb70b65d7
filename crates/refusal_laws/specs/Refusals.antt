-- No row refuses with the kind of what isn't built, or with that of variadic definitions, which are taken.
use Rattle.std.specs.Prelude.{ℕ, ⊤, List}
use Rattle.pta_base.specs.declared.kind.Kind.{Kind}
use Rattle.pta_base.specs.declared.kind.Kind.TheVariants.{NotBuilt, VariadicDefinition}
use Rattle.core_nodes.specs.declared.fault.CheckFault.{CheckFault}
use Rattle.core_nodes.specs.declared.fault.CheckFault.TheVariants.{Unsupported}
use Rattle.c_senses.specs.Tree.{Source}
use Rattle.c_senses.specs.Given.{Given, Fits, Refuses}
use Rattle.c_senses.specs.World.{World}
use Rattle.c_senses.specs.Sense.{Sense}
use Rattle.c_senses.specs.Rows.{row_of, RefusedAt}

-- another kind
abbrev pub IsOther : Kind → Type 0
IsOther NotBuilt = ⊥
IsOther VariadicDefinition = ⊥
IsOther kind = ⊤

-- something is given, or it is refused with another kind
abbrev pub IsBuilt : {A : Type 0} → Given A → Type 0
IsBuilt (Fits x) = ⊤
IsBuilt (Refuses kind node) = IsOther kind

-- a fault is of another kind
abbrev pub IsOtherFault : CheckFault → Type 0
IsOtherFault (Unsupported kind node) = IsOther kind
IsOtherFault fault = ⊤

pub record RowsAreBuilt : Type 0 where
  pub rows : (w : World) (s : Source) (sense : ℕ → Sense) (production at : ℕ) (children : List ℕ)
      → IsBuilt (row_of w s sense production at children)
  pub never : (s : Source) (kind : Kind) (named : ℕ) → RefusedAt s kind named → IsOther kind
