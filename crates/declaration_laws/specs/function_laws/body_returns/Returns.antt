-- What functions of built units return.
use Rattle.std.specs.Prelude.{ℕ, ◌≡◌, ⊤, List, Option, IfSome}
use Rattle.c_lexer.specs.declared.Tokens.{Tokens}
use Rattle.c_lexer.specs.Cut.{IsTokens}
use Rattle.c_types.specs.Trees.{Ctype}
use Rattle.c_grammar.specs.declared.trees.Tree.{Tree}
use Rattle.c_parser.specs.c_units.Units.{IsUnit}
use Rattle.core_tree.specs.declared.node.Unit.{Unit}
use Rattle.core_tree.specs.declared.node.Entity.{Entity}
use Rattle.core_tree.specs.declared.node.Storage.TheVariants.{FunctionBody}
use Rattle.core_tree.specs.declared.node.NodeKind.{NodeKind}
use Rattle.core_tree.specs.declared.node.NodeKind.TheVariants.{Return}
use Rattle.core_tree.specs.Typed.{CoreTrees, trees_of}
use Rattle.core_tree.specs.Range.{EachNode, EachEntity, Under}
use Rattle.core_tree.specs.Valid.{InRows, Bodied, ReturnsRight}
use Rattle.c_senses.specs.Names.{source_of, numbered}
use Rattle.c_senses.specs.World.{World}
use Rattle.c_senses.specs.Sense.{sense_in}
use Rattle.parsed_tree_laws.specs.sense_laws.parsed_laws.PassedOn.{SoundSense}
use Rattle.declaration_laws.specs.definition_laws.passed.built_unit_laws.built_units.Built.{IsBuilt}

-- a return in that function
abbrev pub IsReturnOf : CoreTrees → Entity → NodeKind → List ℕ → Type 0
IsReturnOf u entity Return children = ReturnsRight u entity children
IsReturnOf u entity kind children = ⊤

-- what a function's body asks of the returns that stand in it
abbrev pub ReturnsIn : CoreTrees → ℕ → NodeKind → List ℕ → Entity → Type 0
ReturnsIn u n kind children entity =
    entity.storage ≡ FunctionBody → IfSome entity.body (λ b. Under u b n → IsReturnOf u entity kind children)

abbrev pub AllReturn : CoreTrees → Type 0
AllReturn u = EachNode u (λ n node. EachEntity u (λ e entity. ReturnsIn u n node.kind node.children entity))

-- where all senses are sound, nodes stand in their rows and bodies are right, returns fit their functions
abbrev pub ReturnsFit : Type 0
ReturnsFit =
    (tokens : Tokens) (unit : ℕ) (tree : Tree) (tag_number : ℕ → ℕ) (name : List ℕ) (u : Unit)
    → IsTokens tokens.text.now tokens.list.items
    → IsUnit tokens unit tree
    → (built : IsBuilt (numbered tag_number (source_of tokens tree)) name u) (w : World)
    (entities : ℕ → Option Ctype)
    → ((i : ℕ) → SoundSense w entities (sense_in built.senses i))
    → InRows (trees_of u) → Bodied (trees_of u) → AllReturn (trees_of u)
