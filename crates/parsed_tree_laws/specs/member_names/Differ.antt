-- Members of one structure or union that are told apart by their names, and the order of nodes that their rows rest
-- on.
use Rattle.std.specs.Prelude.{ℕ, ◌≡◌, ◌<◌, ◌≤◌, List, Some, length, slice_get}
use Rattle.c_lexer.specs.declared.Tokens.{Tokens}
use Rattle.c_lexer.specs.Cut.{IsTokens}
use Rattle.c_grammar.specs.declared.trees.Tree.{Tree}
use Rattle.parsed_tree_laws.specs.family_laws.PassedOn.{IsUnit}
use Rattle.c_inits.specs.Made.{Part}
use Rattle.c_senses.specs.Names.{source_of, numbered}
use Rattle.c_senses.specs.Tree.{Source}
use Rattle.c_senses.specs.Sense.{Sense, sense_in}
use Rattle.c_senses.specs.Tags.{completed_from, members_under}
use Rattle.c_senses.specs.Rows.{AreSenses}
use Rattle.parsed_tree_laws.specs.family_laws.Families.{IsChild}

-- members that have one name are one
pub record PartsDiffer (parts : List Part) : Type 0 where
  pub once : (i j : ℕ) (m n : Part) (name : List ℕ)
      → slice_get parts i ≡ Some m
      → slice_get parts j ≡ Some n
      → m.name ≡ Some name
      → n.name ≡ Some name
      → i ≡ j

-- what is under a node stands before it, and behind the siblings before it
pub record InOrder (s : Source) : Type 0 where
  pub below : (i c : ℕ) → IsChild s i c → c < i
  pub behind : (i x y c : ℕ) → IsChild s i x → IsChild s i y → x < y → IsChild s y c → x < c

-- so nodes stand in each unit that is read
abbrev pub UnitsAreInOrder : Type 0
UnitsAreInOrder =
    (tokens : Tokens) (unit : ℕ) (tree : Tree) (tag_number : ℕ → ℕ)
    → IsUnit tokens unit tree
    → InOrder (numbered tag_number (source_of tokens tree))

-- and the rows of its fields tell the members of each tag apart
abbrev pub UnitsHaveMembers : Type 0
UnitsHaveMembers =
    (tokens : Tokens) (unit : ℕ) (tree : Tree) (tag_number : ℕ → ℕ) (senses : List Sense) (tag : ℕ)
    (parts : List Part)
    → IsTokens tokens.text.now tokens.list.items
    → IsUnit tokens unit tree
    → AreSenses (numbered tag_number (source_of tokens tree)) senses
    → members_under
    (completed_from (numbered tag_number (source_of tokens tree)) senses (sense_in senses) 0) tag
    ≡ Some parts
    → PartsDiffer parts

-- and each member has a token of its own
abbrev pub UnitsHaveFewMembers : Type 0
UnitsHaveFewMembers =
    (tokens : Tokens) (unit : ℕ) (tree : Tree) (tag_number : ℕ → ℕ) (senses : List Sense) (tag : ℕ)
    (parts : List Part)
    → IsTokens tokens.text.now tokens.list.items
    → IsUnit tokens unit tree
    → AreSenses (numbered tag_number (source_of tokens tree)) senses
    → members_under
    (completed_from (numbered tag_number (source_of tokens tree)) senses (sense_in senses) 0) tag
    ≡ Some parts
    → length parts ≤ length tokens.list.items
