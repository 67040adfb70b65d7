-- Names and literals of locals stand in their owner's body.
use Rattle.std.specs.Prelude.{ℕ, ◌≡◌, ◌<◌, true, false, List, ◌∷◌, length, take, Some, IfSome, option_map}
use Rattle.c_lexer.specs.declared.Tokens.{Tokens}
use Rattle.c_lexer.specs.Cut.{IsTokens}
use Rattle.c_grammar.specs.declared.trees.Tree.{Tree}
use Rattle.c_grammar.specs.Productions.{p_post}
use Rattle.c_parser.specs.c_units.Units.{IsUnit}
use Rattle.core_tree.specs.declared.node.Unit.{Unit}
use Rattle.core_tree.specs.declared.node.Storage.TheVariants.{Automatic}
use Rattle.core_tree.specs.Typed.{CoreTrees, trees_of}
use Rattle.core_tree.specs.Range.{EachEntity}
use Rattle.core_tree.specs.Valid.{InRows, Owned, Bodied, FixedStatics, InOwnersBody, InOwner}
use Rattle.link_model.specs.filled_units.Filled.{IsFilled}
use Rattle.c_senses.specs.Names.{source_of, numbered}
use Rattle.c_senses.specs.Tree.{Source, is_a, children_at, left_of}
use Rattle.c_senses.specs.Entities.{entity_of, function_around, is_defined, is_linked}
use Rattle.c_senses.specs.Right.{declares_entity, representative, block_for}
use Rattle.c_senses.specs.Rows.{world_at}
use Rattle.c_senses.specs.Sense.{Sense, sense_in}
use Rattle.declaration_laws.specs.definition_laws.scope_laws.Scoped.{IsPart, ParametersListed}
use Rattle.declaration_laws.specs.definition_laws.passed.built_unit_laws.built_units.Built.{IsBuilt}

-- 6.5.2: what stands to the left of an operator behind it is a part of the same node
abbrev pub LeftsStand : Source → Type 0
LeftsStand s =
    (i first p : ℕ) (rest : List ℕ)
    → is_a s p_post i ≡ true
    → children_at s i ≡ first ∷ rest
    → IsPart s p i
    → IsPart s p (left_of s first)

-- 6.9.1: the block of a function stands in the definition of its name
abbrev pub DefinitionsNamed : Source → List Sense → Type 0
DefinitionsNamed s senses =
    (d block : ℕ)
    → declares_entity s senses d ≡ true
    → is_defined s (sense_in senses) (representative s senses d) ≡ true
    → block_for s senses (representative s senses d) ≡ Some block
    → option_map (entity_of s (sense_in senses)) (function_around s (sense_in senses) block) ≡ Some d

-- 7.16.1.4: the function that is found for a name as its last parameter is the one around that name, which has no
-- linkage
abbrev pub FurtherKnown : Source → List Sense → Type 0
FurtherKnown s senses =
    (n leaf function : ℕ)
    → n < length senses
    → (world_at s (take n senses) n).further leaf ≡ Some function
    → (is_linked s (sense_in senses) leaf ≡ false)
    × (option_map (entity_of s (sense_in senses)) (function_around s (sense_in senses) leaf) ≡ Some function)

-- the initialiser of an automatic object stands in its owner's body
abbrev pub Forward : CoreTrees → Type 0
Forward u =
    EachEntity u (λ e entity. entity.storage ≡ Automatic → IfSome entity.body (λ b. InOwnersBody u entity.owner b))

-- what else is asked of the unit: nodes in their rows, owners, bodies, and what initialises static objects
pub record IsOwnable (u : Unit) : Type 0 where
  pub rows : InRows (trees_of u)
  pub owned : Owned (trees_of u)
  pub bodied : Bodied (trees_of u)
  pub fixed : FixedStatics (trees_of u)
  pub filled : IsFilled u
  pub forward : Forward (trees_of u)

abbrev pub OwnersBuilt : Type 0
OwnersBuilt =
    (tokens : Tokens) (unit : ℕ) (tree : Tree) (tag_number : ℕ → ℕ) (name : List ℕ) (u : Unit)
    → IsTokens tokens.text.now tokens.list.items
    → IsUnit tokens unit tree
    → (built : IsBuilt (numbered tag_number (source_of tokens tree)) name u)
    → ParametersListed tokens tree (numbered tag_number (source_of tokens tree))
    → LeftsStand (numbered tag_number (source_of tokens tree))
    → DefinitionsNamed (numbered tag_number (source_of tokens tree)) built.senses
    → FurtherKnown (numbered tag_number (source_of tokens tree)) built.senses
    → IsOwnable u
    → InOwner (trees_of u)
