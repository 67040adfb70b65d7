-- What a walk over a unit's first nodes answers.
use Rattle.std.specs.Prelude.{ℕ, ◌≡◌, ◌<◌, ⊤, List, length}
use Rattle.pta_base.specs.declared.kind.Kind.{Kind}
use Rattle.pta_base.specs.declared.kind.Kind.TheVariants.{Operand}
use Rattle.core_tree.specs.declared.node.Unit.{Unit}
use Rattle.core_nodes.specs.declared.fault.CheckFault.{CheckFault}
use Rattle.core_nodes.specs.declared.fault.CheckFault.TheVariants.{BadOperand, Unsupported, OutOfMemory}
use Rattle.c_results.specs.declared.made.Made.{Made}
use Rattle.c_senses.specs.Tree.{Source}
use Rattle.c_senses.specs.Names.{numbered}
use Rattle.c_senses.specs.Rows.{RefusedAt}
use Rattle.unit_walk.specs.unit_rows.Standing.{AreMade}
use Rattle.unit_walk.specs.Walked.{AreDense}

-- the results of the first so many nodes
pub record IsWalkedTo (s : Source) (end : ℕ) (u : Unit) (results : List Made) : Type 0 where
  pub made : AreMade s u results
  pub long : length results ≡ end

-- the first node whose row doesn't fit is one of the first so many
pub record RefusedWithin (s : Source) (end : ℕ) (kind : Kind) (named : ℕ) : Type 0 where
  pub refused : RefusedAt s kind named
  pub early : length refused.senses < end

abbrev pub RefusedBefore : Source → ℕ → CheckFault → Type 0
RefusedBefore s end (BadOperand named) = RefusedWithin s end Operand named
RefusedBefore s end (Unsupported kind named) = RefusedWithin s end kind named
RefusedBefore s end OutOfMemory = ⊤

-- the same of a source whose tags are numbered in order
pub record RefusedThere (s : Source) (end : ℕ) (fault : CheckFault) : Type 0 where
  pub tag_number : ℕ → ℕ
  pub dense : AreDense (numbered tag_number s)
  pub refused : RefusedBefore (numbered tag_number s) end fault

abbrev pub RefusedEarly : Source → ℕ → CheckFault → Type 0
RefusedEarly s end OutOfMemory = ⊤
RefusedEarly s end fault = RefusedThere s end fault
