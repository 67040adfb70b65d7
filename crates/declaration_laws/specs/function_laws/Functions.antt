-- What stands in the bodies of functions of built units.
use Rattle.std.specs.Prelude.{ℕ, ◌≡◌, ⊤, List, Option, Some}
use Rattle.c_lexer.specs.declared.Tokens.{Tokens}
use Rattle.c_lexer.specs.Cut.{IsTokens}
use Rattle.c_types.specs.Trees.{Ctype}
use Rattle.c_grammar.specs.declared.trees.Tree.{Tree}
use Rattle.c_scope.specs.declared.resolving.Bound.{Bound}
use Rattle.c_scope.specs.Resolves.{IsBound}
use Rattle.c_parser.specs.c_units.Units.{IsUnit}
use Rattle.core_tree.specs.declared.node.Unit.{Unit}
use Rattle.core_tree.specs.declared.node.Entity.{Entity}
use Rattle.core_tree.specs.declared.node.NodeKind.{NodeKind}
use Rattle.core_tree.specs.declared.node.NodeKind.TheVariants.{Goto}
use Rattle.core_tree.specs.declared.node.Storage.TheVariants.{FunctionBody}
use Rattle.core_tree.specs.Typed.{CoreTrees, trees_of}
use Rattle.core_tree.specs.Range.{EachNode, Under, entity_at}
use Rattle.core_tree.specs.Valid.{InRows, Bodied, LabelOnce, InFunctions}
use Rattle.c_senses.specs.Names.{source_of, numbered}
use Rattle.c_senses.specs.World.{World}
use Rattle.c_senses.specs.Sense.{sense_in}
use Rattle.parsed_tree_laws.specs.sense_laws.Senses.{SoundSense}
use Rattle.declaration_laws.specs.definition_laws.passed.built_unit_laws.built_units.Built.{IsBuilt}

-- a goto has its label in a body exactly once
abbrev pub HasLabel : CoreTrees → ℕ → NodeKind → Type 0
HasLabel u b (Goto name) = LabelOnce u b name
HasLabel u b kind = ⊤

-- so has each goto that stands in the body of a function
abbrev pub GotosHaveLabels : CoreTrees → Type 0
GotosHaveLabels u =
    (e b : ℕ) (entity : Entity)
    → entity_at u e ≡ Some entity
    → entity.storage ≡ FunctionBody
    → entity.body ≡ Some b
    → EachNode u (λ n node. Under u b n → HasLabel u b node.kind)

-- where names are bound, all senses are sound and nodes stand in their rows
abbrev pub GotosFit : Type 0
GotosFit =
    (tokens : Tokens) (unit : ℕ) (tree : Tree) (tag_number : ℕ → ℕ) (name : List ℕ) (u : Unit)
    (bound : Bound)
    → IsTokens tokens.text.now tokens.list.items
    → IsUnit tokens unit tree
    → IsBound tokens tree bound
    → (built : IsBuilt (numbered tag_number (source_of tokens tree)) name u) (w : World)
    (entities : ℕ → Option Ctype)
    → ((i : ℕ) → SoundSense w entities (sense_in built.senses i))
    → InRows (trees_of u) → GotosHaveLabels (trees_of u)

-- and bodies are right too
abbrev pub FunctionsFit : Type 0
FunctionsFit =
    (tokens : Tokens) (unit : ℕ) (tree : Tree) (tag_number : ℕ → ℕ) (name : List ℕ) (u : Unit)
    (bound : Bound)
    → IsTokens tokens.text.now tokens.list.items
    → IsUnit tokens unit tree
    → IsBound tokens tree bound
    → (built : IsBuilt (numbered tag_number (source_of tokens tree)) name u) (w : World)
    (entities : ℕ → Option Ctype)
    → ((i : ℕ) → SoundSense w entities (sense_in built.senses i))
    → InRows (trees_of u) → Bodied (trees_of u) → InFunctions (trees_of u)
