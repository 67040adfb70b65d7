-- What is known of a unit's names.
use Rattle.std.specs.Prelude.{ℕ, ◌≡◌, ◌<◌, All, List, length, Some}
use Rattle.core_tree.specs.declared.node.Unit.{Unit}
use Rattle.c_scope.specs.declared.resolving.Bound.{Bound}
use Rattle.c_results.specs.declared.made.Made.{Made}
use Rattle.c_senses.specs.Tree.{paired}
use Rattle.tree_reads.specs.leaf_maps.Numbers.{number_at}
use Rattle.tree_reads.specs.declared.syntax.Syntax.{Syntax}
use Rattle.tree_reads.specs.Sources.{source_read}
use Rattle.name_chains.specs.Seen.{AreChainsOf}
use Rattle.name_chains.specs.Symbols.{AreSymbols}
use Rattle.c_meanings.specs.declared.names.Names.{Names}

-- how many nodes a unit has
abbrev pub nodes_in : Syntax → ℕ
nodes_in syntax = length syntax.tree.now.nodes.items

-- each name is declared at a node, and each use is paired with one
pub record AreLeaves (syntax : Syntax) (bound : Bound) : Type 0 where
  pub names : All (λ d. d.node < nodes_in syntax) bound.names.items
  pub uses : All (λ p. p.1 < nodes_in syntax) bound.uses.items

-- the declarations of a unit
pub record AreChained (syntax : Syntax) (names : Names) : Type 0 where
  pub chains : AreChainsOf (nodes_in syntax) (source_read syntax) names.chains
  pub symbols : AreSymbols (nodes_in syntax) (source_read syntax).declared.ordinary names.symbols.items
  pub pairs : (leaf d : ℕ) → number_at names.uses leaf ≡ Some d → d < nodes_in syntax

-- what the pairs of uses say
pub record ArePaired (names : Names) (uses : List (ℕ × ℕ)) : Type 0 where
  pub each : (leaf : ℕ) → number_at names.uses leaf ≡ paired uses leaf

-- what is known of the names, whatever was made so far
pub record AreNamed (syntax : Syntax) (results : List Made) (names : Names) : Type 0 where
  pub chained : AreChained syntax names

-- and whatever stands in the unit
pub record AreNames (syntax : Syntax) (u : Unit) (results : List Made) (names : Names) : Type 0 where
  pub named : AreNamed syntax results names
