-- Where the initialiser of an automatic object stands in a unit.
use Rattle.std.specs.Prelude.{ℕ, ◌≡◌, ◌&&◌, true, is_some, List, Option, Some}
use Rattle.c_lexer.specs.declared.Tokens.{Tokens}
use Rattle.c_lexer.specs.Cut.{IsTokens}
use Rattle.c_grammar.specs.declared.trees.Tree.{Tree}
use Rattle.c_grammar.specs.Productions.{p_external, p_declarator, p_block}
use Rattle.c_parser.specs.c_units.Units.{IsUnit}
use Rattle.core_tree.specs.declared.node.Unit.{Unit}
use Rattle.core_tree.specs.declared.node.Storage.TheVariants.{Automatic}
use Rattle.c_consts.specs.Core.{Core}
use Rattle.c_senses.specs.Names.{source_of, numbered}
use Rattle.c_senses.specs.Tree.{is_a, child_of, nearest_above}
use Rattle.c_senses.specs.Declarators.{outermost_of}
use Rattle.c_senses.specs.Entities.{storage_of, initialiser_for}
use Rattle.c_senses.specs.Right.{StandsBy, declares_entity}
use Rattle.c_senses.specs.Sense.{IsInitial, sense_in}
use Rattle.declaration_laws.specs.definition_laws.passed.built_unit_laws.built_units.Built.{IsBuilt}
use Rattle.declaration_laws.specs.declared_type_laws.owner_laws.held_runs.Runs.{BlockWith, NodeOf}

-- in the block of the definition around it: it stands in that one's tree, and under each node that stands by that
-- tree there is its node
abbrev pub InitialisersStand : Type 0
InitialisersStand =
    (tokens : Tokens) (unit : ℕ) (tree : Tree) (tag_number : ℕ → ℕ) (name : List ℕ) (u : Unit)
    → IsTokens tokens.text.now tokens.list.items
    → IsUnit tokens unit tree
    → (built : IsBuilt (numbered tag_number (source_of tokens tree)) name u)
    → (leaf init p : ℕ) (x : Core) (n : Option ℕ)
    → declares_entity (numbered tag_number (source_of tokens tree)) built.senses leaf ≡ true
    → storage_of (numbered tag_number (source_of tokens tree)) (sense_in built.senses) leaf ≡ Automatic
    → ((o : ℕ) → outermost_of (numbered tag_number (source_of tokens tree)) leaf ≡ Some o
    → is_a (numbered tag_number (source_of tokens tree)) p_declarator o ≡ true)
    → initialiser_for (numbered tag_number (source_of tokens tree)) (sense_in built.senses) leaf ≡ Some init
    → sense_in built.senses init ≡ IsInitial x n
    → nearest_above (numbered tag_number (source_of tokens tree))
    (λ q. is_a (numbered tag_number (source_of tokens tree)) p_external q
    && is_some (child_of (numbered tag_number (source_of tokens tree)) p_block q))
    leaf
    ≡ Some p
    → (own : BlockWith (numbered tag_number (source_of tokens tree)) built.senses p x)
    × ((b : ℕ) → StandsBy built.numbering u b own.core → NodeOf built.numbering u b x)
