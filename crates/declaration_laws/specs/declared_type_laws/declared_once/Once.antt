-- What is known of the declarations of a name with linkage (C11 6.2.2, 6.2.7).
use Rattle.std.specs.Prelude.{ℕ, ◌≡◌, ◌≤◌, true, take, length, List, ◌∷◌, ◌++◌, Some}
use Rattle.c_lexer.specs.declared.Tokens.{Tokens}
use Rattle.c_lexer.specs.Cut.{IsTokens}
use Rattle.c_grammar.specs.declared.trees.Tree.{Tree}
use Rattle.c_parser.specs.c_units.Units.{IsUnit}
use Rattle.c_scope.specs.declared.kinds.Declared.{Declared}
use Rattle.c_senses.specs.Tree.{Source}
use Rattle.c_senses.specs.Names.{source_of, numbered, made_before, ordinary_at}
use Rattle.c_senses.specs.Declarators.{is_outermost, outermost_of, derived}
use Rattle.c_senses.specs.Entities.{with_length, length_given_by, initialiser_of, own_type, is_linked, is_internal}
use Rattle.c_senses.specs.Entities.{internal_among, types_of}
use Rattle.c_senses.specs.Sense.{Sense, sense_in}
use Rattle.c_senses.specs.Rows.{AreSenses}
use Rattle.declaration_laws.specs.declared_type_laws.declared_leaves.Leaves.{IsDeclaredBy}
use Rattle.declaration_laws.specs.declared_type_laws.settled_types.PassedOn.{StandsDeclaring}

-- a name with linkage has a declarator; from there on it is known whether the name is internal, which declarations
-- before it are internal ones of that name, and which types they give it
pub record IsDeclaredOnce (s : Source) (senses : List Sense) : Type 0 where
  pub stands : (leaf : ℕ)
      → is_linked s (sense_in senses) leaf ≡ true
      → (m : ℕ) × StandsDeclaring s m × (is_outermost s m ≡ true) × IsDeclaredBy s senses m leaf
  pub own : (leaf m : ℕ) (one : IsDeclaredBy s senses m leaf) → is_linked s (sense_in senses) leaf ≡ true
      → own_type s (sense_in senses) leaf
      ≡ Some
      (with_length (length_given_by s (sense_in senses) (initialiser_of s (sense_in senses) m))
      (derived one.derives one.words.type))
  -- of all declarations one alone has its leaf
  pub alone : (front : List Declared) (d : Declared) (back : List Declared)
      → s.declared.ordinary ≡ front ++ d ∷ back
      → is_linked s (sense_in senses) d.node ≡ true
      → (made_before d.node s.declared.ordinary ≡ front) × (ordinary_at s d.node ≡ Some d)
  pub internal : (leaf m n : ℕ)
      → is_linked s (sense_in senses) leaf ≡ true
      → outermost_of s leaf ≡ Some m
      → m ≤ n
      → is_internal s (sense_in (take n senses)) leaf ≡ is_internal s (sense_in senses) leaf
  pub before : (leaf m n : ℕ) → is_linked s (sense_in senses) leaf ≡ true → outermost_of s leaf ≡ Some m → m ≤ n
      → internal_among s (sense_in (take n senses)) (made_before leaf s.declared.ordinary)
      (ordinary_at s leaf)
      ≡ internal_among s (sense_in senses) (made_before leaf s.declared.ordinary) (ordinary_at s leaf)
  pub types : (leaf m n : ℕ) → is_linked s (sense_in senses) leaf ≡ true → outermost_of s leaf ≡ Some m → m ≤ n
      → types_of s (sense_in (take n senses))
      (internal_among s (sense_in (take n senses)) (made_before leaf s.declared.ordinary)
      (ordinary_at s leaf))
      ≡ types_of s (sense_in senses)
      (internal_among s (sense_in senses) (made_before leaf s.declared.ordinary) (ordinary_at s leaf))

-- so it is in each unit that is read, whose rows all fit
abbrev pub DeclaredOnce : Type 0
DeclaredOnce =
    (tokens : Tokens) (unit : ℕ) (tree : Tree) (tag_number : ℕ → ℕ) (senses : List Sense)
    → IsTokens tokens.text.now tokens.list.items
    → IsUnit tokens unit tree
    → AreSenses (numbered tag_number (source_of tokens tree)) senses
    → length senses ≡ length (numbered tag_number (source_of tokens tree)).nodes
    → IsDeclaredOnce (numbered tag_number (source_of tokens tree)) senses
