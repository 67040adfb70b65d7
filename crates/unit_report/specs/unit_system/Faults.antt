-- Why units have no system.
use Rattle.std.specs.Prelude.{◌≡◌, ◌<◌, ◌≤◌, ◌^◌, ℕ, ⊤, List, length}
use Rattle.core_tree.specs.declared.node.Unit.{Unit}
use Rattle.core_tree.specs.declared.node.Program.{Program}
use Rattle.unit_link.specs.Linked.{LinksBadlyAt}
use Rattle.obj_space.specs.Space.{locations_in}
use Rattle.obj_space.specs.View.{view_of}
use Rattle.constraints.specs.System.{word_total}
use Rattle.unit_report.specs.unit_system.Of.{IsProgramOf}
use Rattle.unit_report.specs.declared.unit_system.fault.UnitFault.{UnitFault}
use Rattle.unit_report.specs.declared.unit_system.fault.UnitFault.TheVariants.{Link, Nodes, Words, OutOfMemory}

-- a program with more than 2^24 nodes, and how many
pub record HasNodes (p : Program) (nodes : ℕ) : Type 0 where
  pub many : 2 ^ 24 < length p.nodes.items
  pub nodes_are : nodes ≡ length p.nodes.items

-- a program within that limit whose rows have more than 2^24 words, and how many
pub record HasWords (p : Program) (words : ℕ) : Type 0 where
  pub few : length p.nodes.items ≤ 2 ^ 24
  pub many : 2 ^ 24 < word_total p (view_of (locations_in p))
  pub words_are : words ≡ word_total p (view_of (locations_in p))

-- the limit that a program passes first; want of memory says nothing of it
abbrev pub IsProgramFault : Program → UnitFault → Type 0
IsProgramFault p (Nodes nodes) = HasNodes p nodes
IsProgramFault p (Words words) = HasWords p words
IsProgramFault p OutOfMemory = ⊤
IsProgramFault p fault = ⊥

-- the first fault of linking units, with entries of those names or a program that begins at main, or the limit that
-- their program passes first
abbrev pub IsFaultOf : List (List ℕ) → List Unit → UnitFault → Type 0
IsFaultOf entered units (Link fault) = LinksBadlyAt entered units fault
IsFaultOf entered units (Nodes nodes) = (p : Program) × IsProgramOf entered units p × HasNodes p nodes
IsFaultOf entered units (Words words) = (p : Program) × IsProgramOf entered units p × HasWords p words
IsFaultOf entered units OutOfMemory = ⊤
