-- What a walk over a unit's nodes answers.
use Rattle.std.specs.Prelude.{ℕ, ◌≡◌, ◌<◌, ⊤, true, List, length}
use Rattle.pta_base.specs.declared.kind.Kind.TheVariants.{Operand}
use Rattle.core_tree.specs.declared.node.Unit.{Unit}
use Rattle.core_nodes.specs.declared.fault.CheckFault.{CheckFault}
use Rattle.core_nodes.specs.declared.fault.CheckFault.TheVariants.{BadOperand, Unsupported, OutOfMemory}
use Rattle.c_results.specs.declared.made.Made.{Made}
use Rattle.c_senses.specs.Tree.{Source}
use Rattle.c_senses.specs.Names.{numbered}
use Rattle.c_senses.specs.Tags.{tags_below}
use Rattle.c_senses.specs.Right.{is_tag, TagsDiffer}
use Rattle.c_senses.specs.Rows.{RefusedAt}
use Rattle.c_tags.specs.tag_numbers.Ordered.{AreInOrder}
use Rattle.unit_walk.specs.unit_rows.Standing.{AreMade}

-- the results of all nodes
pub record IsWalked (s : Source) (u : Unit) (results : List Made) : Type 0 where
  pub made : AreMade s u results
  pub whole : length results ≡ length s.nodes

-- a refusal is that of the first node whose row doesn't fit, with its kind
abbrev pub RefusedBy : Source → CheckFault → Type 0
RefusedBy s (BadOperand named) = RefusedAt s Operand named
RefusedBy s (Unsupported kind named) = RefusedAt s kind named
RefusedBy s OutOfMemory = ⊤

-- the numbers of a source's structures and unions are those below a count, each of one tag, in the order of their
-- first specifiers
pub record AreDense (s : Source) : Type 0 where
  pub differ : TagsDiffer s
  pub below : (d : ℕ) → is_tag s d ≡ true → s.tag_number d < tags_below s
  pub onto : (n : ℕ) → n < tags_below s → (d : ℕ) × (is_tag s d ≡ true) × (s.tag_number d ≡ n)
  pub ordered : AreInOrder s

-- with such numbers, a source is refused
abbrev pub RefusedIn : Source → CheckFault → Type 0
RefusedIn s OutOfMemory = ⊤
RefusedIn s fault =
    (tag_number : ℕ → ℕ) × AreDense (numbered tag_number s) × RefusedBy (numbered tag_number s) fault
