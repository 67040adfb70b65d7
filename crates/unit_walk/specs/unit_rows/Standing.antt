-- What is known while the rows of a unit's nodes are made.
use Rattle.std.specs.Prelude.{ℕ, List, length, All}
use Rattle.core_tree.specs.declared.node.Unit.{Unit}
use Rattle.core_nodes.specs.Standing.{IsReady, Knows}
use Rattle.c_results.specs.declared.made.Made.{Made}
use Rattle.c_results.specs.Standing.{sense_made, senses_made, IsWithin}
use Rattle.c_meanings.specs.Known.{AreNamed, ArePaired}
use Rattle.name_uses.specs.name_sayings.Listed.{AreListed}
use Rattle.parsed_tree_laws.specs.sense_laws.Senses.{ChildrenFirst}
use Rattle.statement_rows.specs.Kinds.{AreKinds}
use Rattle.statement_rows.specs.Told.{AreSpelled, IsTold}
use Rattle.c_tags.specs.tag_numbers.Known.{AreTags}
use Rattle.tree_reads.specs.Sources.{source_read, source_in}
use Rattle.unit_walk.specs.row_shapes.Kept.{Keeps}
use Rattle.c_senses.specs.Tree.{Source, production_at, children_at}
use Rattle.c_senses.specs.World.{World}
use Rattle.c_senses.specs.Rows.{world_at, row_of, AreSenses}
use Rattle.c_senses.specs.Given.{Given}
use Rattle.c_senses.specs.Sense.{Sense, sense_in}
use Rattle.c_statements.specs.declared.choices.Choices.{Choices}
use Rattle.c_scope.specs.declared.resolving.Bound.{Bound}
use Rattle.c_meanings.specs.declared.names.Names.{Names}
use Rattle.name_chains.specs.declared.symbol_lists.lists.SymbolLists.{SymbolLists}
use Rattle.statement_rows.specs.declared.kinds.NameKinds.{NameKinds}
use Rattle.c_tags.specs.declared.tag_numbers.tags.Numbered.{Numbered}
use Rattle.unit_walk.specs.declared.unit_rows.known.Known.{Known}

-- what is known of a unit, by its bound names, is so
pub record AreKnown (n : Numbered) (b : Bound) (declared : Names) (symbols : SymbolLists)
    (flags : NameKinds) : Type 0 where
  pub tags : AreTags (source_in n.syntax b.uses.items) n.tags
  pub names : (results : List Made) → AreNamed n.syntax results declared
  pub lists : AreListed n.syntax symbols
  pub pairs : ArePaired declared b.uses.items
  pub kinds : AreKinds (source_read n.syntax) flags
  pub ordered : ChildrenFirst (source_read n.syntax)
  pub spelled : AreSpelled (source_in n.syntax b.uses.items)

abbrev pub IsKnown : Known → Type 0
IsKnown k = AreKnown k.numbered.now k.bound.now k.names.now k.lists.now k.kinds.now

-- the source of a unit, with the numbers of its tags, and how many nodes it has
abbrev pub source_known : Known → Source
source_known k = source_in k.numbered.now.syntax k.bound.now.uses.items

abbrev pub nodes_known : Known → ℕ
nodes_known k = length k.numbered.now.syntax.tree.now.nodes.items

abbrev pub AreKept : ℕ → Unit → List Made → Type 0
AreKept count u results = All (λ m. Keeps count (sense_made u m)) results

-- results that stand in a unit, in a tree of so many nodes
pub record Stand (count : ℕ) (u : Unit) (results : List Made) : Type 0 where
  pub ready : IsReady u
  pub within : All (IsWithin u) results
  pub kept : AreKept count u results

-- the world around a node
abbrev pub world_there : Known → Unit → List Made → ℕ → World
world_there k u results at = world_at (source_known k) (senses_made u results) at

-- they are the senses of the nodes before one, and the unit knows the world there
pub record AreMade (s : Source) (u : Unit) (results : List Made) : Type 0 where
  pub senses : AreSenses s (senses_made u results)
  pub knows : Knows (world_at s (senses_made u results) (length results)) u

-- the row of a node, over what was made before it
abbrev pub row_there : Known → Unit → List Made → ℕ → Given Sense
row_there k u results at =
    let s = source_known k in
    row_of (world_there k u results at) s (sense_in (senses_made u results)) (production_at s at) at
    (children_at s at)

-- the cases and the defaults before a node
abbrev pub ChoicesFit : Known → Unit → List Made → ℕ → Choices → Type 0
ChoicesFit k u results at choices =
    IsTold (world_there k u results at) (source_known k) (sense_in (senses_made u results)) at choices
