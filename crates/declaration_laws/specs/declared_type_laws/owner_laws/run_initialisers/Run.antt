-- Which initialisers a declaration runs.
use Rattle.std.specs.Prelude.{ℕ, ◌≡◌, true, List, Option, take, length}
use Rattle.c_lexer.specs.declared.Tokens.{Tokens}
use Rattle.c_lexer.specs.Cut.{IsTokens}
use Rattle.c_grammar.specs.declared.trees.Tree.{Tree}
use Rattle.c_grammar.specs.Productions.{p_rest, p_declaration}
use Rattle.c_parser.specs.c_units.Units.{IsUnit}
use Rattle.c_consts.specs.Core.{Core}
use Rattle.c_senses.specs.Names.{source_of, numbered}
use Rattle.c_senses.specs.Tree.{Source, is_a}
use Rattle.c_senses.specs.World.{World}
use Rattle.c_senses.specs.Rows.{AreSenses}
use Rattle.c_senses.specs.Sense.{Sense, IsInitial, sense_in}
use Rattle.c_senses.specs.Statements.{runs_initialiser}
use Rattle.core_node_laws.specs.passed.parsed_tree_laws.family_laws.Families.{IsChild}
use Rattle.declaration_laws.specs.declared_type_laws.owner_laws.held_parts.Held.{IsHeld}

-- an initialiser in the rest of a declaration that runs where it stands is among what the declaration runs
pub record InitialisersRun (s : Source) (senses : List Sense) : Type 0 where
  pub each : (w : World) (d r c : ℕ) (x : Core) (n : Option ℕ)
      → is_a s p_declaration d ≡ true
      → IsChild s d r
      → is_a s p_rest r ≡ true
      → IsChild s r c
      → sense_in senses c ≡ IsInitial x n
      → runs_initialiser w s (sense_in (take r senses)) c ≡ true → IsHeld x (sense_in senses d)

-- 6.7, 6.7.9: so it is in each unit that is read, whatever the numbers of tags are
abbrev pub UnitsRunInitialisers : Type 0
UnitsRunInitialisers =
    (tokens : Tokens) (unit : ℕ) (tree : Tree) (tag_number : ℕ → ℕ) (senses : List Sense)
    → IsTokens tokens.text.now tokens.list.items
    → IsUnit tokens unit tree
    → AreSenses (numbered tag_number (source_of tokens tree)) senses
    → length senses ≡ length (numbered tag_number (source_of tokens tree)).nodes
    → InitialisersRun (numbered tag_number (source_of tokens tree)) senses
