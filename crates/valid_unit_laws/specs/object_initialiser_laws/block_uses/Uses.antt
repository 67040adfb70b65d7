-- Where names are used that a block declares.
use Rattle.std.specs.Prelude.{ℕ, ◌≡◌, true, List, ◌∷◌, Some, ◌⊎◌}
use Rattle.c_lexer.specs.declared.Tokens.{Tokens}
use Rattle.c_grammar.specs.declared.trees.Tree.{Tree}
use Rattle.c_grammar.specs.Productions.{p_rest, p_declaration, p_block, p_statement}
use Rattle.c_grammar.specs.Words.{word_for}
use Rattle.c_parser.specs.c_units.Units.{IsUnit}
use Rattle.c_scope.specs.declared.kinds.Declared.{Declared}
use Rattle.c_senses.specs.Names.{source_of, numbered, ordinary_at}
use Rattle.c_senses.specs.Tree.{Source, is_a, has_word, children_at, paired}
use Rattle.c_senses.specs.Declarators.{outermost_of}
use Rattle.c_senses.specs.Declarators as declarators
use Rattle.valid_unit_laws.specs.object_initialiser_laws.internal_name_laws.passed.declared_type_laws.declared_leaves.Leaves.{IsNamed}
use Rattle.declaration_laws.specs.declared_type_laws.owner_laws.passed.definition_laws.scope_laws.Beneath.{Beneath}
use Rattle.declaration_laws.specs.declared_type_laws.owner_laws.passed.definition_laws.scope_laws.Scoped.{IsPart}

-- a block that is a statement's, or a `for` statement: its scope is its own
abbrev pub OpensOwn : Source → ℕ → Type 0
OpensOwn s b =
    ((is_a s p_block b ≡ true) × ((a : ℕ) × IsPart s a b × (is_a s p_statement a ≡ true)))
    ⊎ ((is_a s p_statement b ≡ true)
    × ((first : ℕ) × (rest : List ℕ) × (children_at s b ≡ first ∷ rest)
    × (has_word s word_for first ≡ true)))

-- a name by its outermost declarator, which is a part of a declaration in the block or of the rest of one
pub record DeclaredIn (s : Source) (b leaf : ℕ) : Type 0 where
  pub declaration : ℕ
  pub child : IsPart s b declaration
  pub is : is_a s p_declaration declaration ≡ true
  pub declarator : ℕ
  pub place : IsPart s declaration declarator
      ⊎ ((r : ℕ) × IsPart s declaration r × (is_a s p_rest r ≡ true) × IsPart s r declarator)
  pub outermost : outermost_of s leaf ≡ Some declarator
  pub declares : declarators.is_declarator s declarator ≡ true
  pub named : IsNamed s declarator leaf

-- its uses stand below the block
abbrev pub UsesStayWithin : Type 0
UsesStayWithin =
    (tokens : Tokens) (unit : ℕ) (tree : Tree) (tag_number : ℕ → ℕ)
    → IsUnit tokens unit tree
    → (b leaf at : ℕ) (d : Declared)
    → OpensOwn (numbered tag_number (source_of tokens tree)) b
    → DeclaredIn (numbered tag_number (source_of tokens tree)) b leaf
    → ordinary_at (numbered tag_number (source_of tokens tree)) leaf ≡ Some d
    → paired (numbered tag_number (source_of tokens tree)).uses at ≡ Some leaf
    → Beneath (IsPart (numbered tag_number (source_of tokens tree))) b at
