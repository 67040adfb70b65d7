-- The declarations of an internal name (C11 6.2.2, 6.2.7).
use Rattle.std.specs.Prelude.{ℕ, ◌≡◌, ◌≤◌, true, take, length, slice_get, List, Some, None}
use Rattle.c_lexer.specs.declared.Tokens.{Tokens}
use Rattle.c_lexer.specs.Cut.{IsTokens}
use Rattle.c_types.specs.Trees.{Ctype}
use Rattle.c_grammar.specs.declared.trees.Tree.{Tree}
use Rattle.c_parser.specs.c_units.Units.{IsUnit}
use Rattle.c_senses.specs.Tree.{Source}
use Rattle.c_senses.specs.Names.{source_of, numbered}
use Rattle.c_senses.specs.Declarators.{outermost_of}
use Rattle.c_senses.specs.Entities.{is_internal, entity_of, own_type, types_of}
use Rattle.c_senses.specs.Right.{of_internal}
use Rattle.c_senses.specs.Sense.{Sense, sense_in}
use Rattle.c_senses.specs.Rows.{AreSenses}
use Rattle.declaration_laws.specs.joined_types.Joined.{AllAgree}

pub record AreAgreed (s : Source) (senses : List Sense) : Type 0 where
  -- the types of all declarations of an internal name, in order, agree one after another; any other leaf has none
  pub agree : (leaf : ℕ) → AllAgree None (types_of s (sense_in senses) (of_internal s senses leaf))
  -- the entity of an internal name is internal, and has the same declarations
  pub entity : (leaf : ℕ) → is_internal s (sense_in senses) leaf ≡ true
      → (is_internal s (sense_in senses) (entity_of s (sense_in senses) leaf) ≡ true)
      × (of_internal s senses (entity_of s (sense_in senses) leaf) ≡ of_internal s senses leaf)
  -- which is known from the name's own declarator on
  pub entity_known : (leaf m n : ℕ)
      → is_internal s (sense_in senses) leaf ≡ true
      → outermost_of s leaf ≡ Some m
      → m ≤ n
      → entity_of s (sense_in (take n senses)) leaf ≡ entity_of s (sense_in senses) leaf
  -- and the type of a declaration is one of them
  pub one_of : (leaf : ℕ) (t : Ctype)
      → is_internal s (sense_in senses) leaf ≡ true
      → own_type s (sense_in senses) leaf ≡ Some t
      → (k : ℕ) × (slice_get (types_of s (sense_in senses) (of_internal s senses leaf)) k ≡ Some t)

-- so they are in each unit that is read, whose rows all fit
abbrev pub InternalsAgree : Type 0
InternalsAgree =
    (tokens : Tokens) (unit : ℕ) (tree : Tree) (tag_number : ℕ → ℕ) (senses : List Sense)
    → IsTokens tokens.text.now tokens.list.items
    → IsUnit tokens unit tree
    → AreSenses (numbered tag_number (source_of tokens tree)) senses
    → length senses ≡ length (numbered tag_number (source_of tokens tree)).nodes
    → AreAgreed (numbered tag_number (source_of tokens tree)) senses
