-- A text has one answer: its unit, or the first row that doesn't fit.
use Rattle.std.specs.Prelude.{ℕ, ◌≡◌, List}
use Rattle.pta_base.specs.declared.kind.Kind.{Kind}
use Rattle.pta_base.specs.declared.kind.Kind.TheVariants.{Operand}
use Rattle.core_tree.specs.declared.node.Unit.{Unit}
use Rattle.core_nodes.specs.declared.fault.CheckFault.{CheckFault}
use Rattle.core_nodes.specs.declared.fault.CheckFault.TheVariants.{BadOperand, Unsupported, OutOfMemory}
use Rattle.c_senses.specs.Tree.{Source}
use Rattle.c_lower.specs.unit_lowering.PassedOn.{RefusedIn}
use Rattle.c_lower.specs.unit_lowering.Lowered.{IsLowered}

-- a refusal of a kind at a node; want of memory is none
abbrev pub IsRefusal : CheckFault → Kind → ℕ → Type 0
IsRefusal (BadOperand named) kind node = (kind ≡ Operand) × (node ≡ named)
IsRefusal (Unsupported why named) kind node = (kind ≡ why) × (node ≡ named)
IsRefusal OutOfMemory kind node = ⊥

pub record OneAnswer : Type 0 where
  -- a text that is lowered is refused by no row
  pub either : (s : Source) (name : List ℕ) (u : Unit) (fault : CheckFault) (kind : Kind) (node : ℕ)
      → IsLowered s name u
      → IsRefusal fault kind node
      → RefusedIn s fault
      → ⊥
  -- a text that is refused by a row is refused by that one alone
  pub refusal : (s : Source) (fault other : CheckFault) (kind why : Kind) (node there : ℕ)
      → IsRefusal fault kind node
      → IsRefusal other why there
      → RefusedIn s fault
      → RefusedIn s other
      → (kind ≡ why) × (node ≡ there)
