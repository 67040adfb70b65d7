-- A source has one reading: the senses of its nodes, up to the first whose row doesn't fit.
use Rattle.std.specs.Prelude.{ℕ, ◌≡◌, ◌≤◌, List, length, take}
use Rattle.pta_base.specs.declared.kind.Kind.{Kind}
use Rattle.core_tree.specs.declared.node.Unit.{Unit}
use Rattle.c_senses.specs.Tree.{Source}
use Rattle.c_senses.specs.Sense.{Sense}
use Rattle.c_senses.specs.Rows.{AreSenses, RefusedAt}
use Rattle.c_senses.specs.Right.{Right}

pub record OneReading : Type 0 where
  -- of two lists of senses the shorter one begins the longer one
  pub senses : (s : Source) (xs ys : List Sense)
      → AreSenses s xs
      → AreSenses s ys
      → length xs ≤ length ys
      → take (length xs) ys ≡ xs
  -- one first row doesn't fit, with one kind and one node that it names
  pub refusal : (s : Source) (kind other : Kind) (node there : ℕ)
      → RefusedAt s kind node
      → RefusedAt s other there
      → (kind ≡ other) × (node ≡ there)
  -- where the rows of all nodes fit, none refuses; so a source has no right unit and a refusal
  pub whole : (s : Source) (senses : List Sense) (kind : Kind) (node : ℕ)
      → AreSenses s senses
      → length senses ≡ length s.nodes
      → RefusedAt s kind node
      → ⊥
  pub either : (s : Source) (name : List ℕ) (u : Unit) (kind : Kind) (node : ℕ)
      → Right s name u
      → RefusedAt s kind node
      → ⊥
