-- A name and what it means, where that has no linkage, stand in one external declaration (C11 6.2.1).
use Rattle.std.specs.Prelude.{ℕ, ◌≡◌, ◌<◌, true, false, Some, slice_get}
use Rattle.c_lexer.specs.declared.Tokens.{Tokens}
use Rattle.c_grammar.specs.declared.trees.Tree.{Tree}
use Rattle.c_grammar.specs.Productions.{p_unit, p_external, p_suffix, p_parameter, p_enumerator}
use Rattle.c_grammar.specs.Terminals.{contains}
use Rattle.c_mentions.specs.Syntax.{nodes_of}
use Rattle.c_mentions.specs.Declarators.{is_list}
use Rattle.c_scope.specs.declared.kinds.Declared.{Declared}
use Rattle.c_senses.specs.Names.{source_of, numbered, ordinary_at, has_linkage, names_type}
use Rattle.c_senses.specs.Tree.{Source, is_a, is_name, children_at, paired}
use Rattle.declaration_laws.specs.definition_laws.scope_laws.Beneath.{Beneath}

abbrev pub IsPart : Source → ℕ → ℕ → Type 0
IsPart s i c = contains (children_at s i) c ≡ true

-- parts stand before their node, and below one alone; and an external declaration is a part of the root alone,
-- which is a part of nothing
pub record Rooted (s : Source) : Type 0 where
  pub before : (i c : ℕ) → IsPart s i c → c < i
  pub single : (i j c : ℕ) → IsPart s i c → IsPart s j c → i ≡ j
  pub externals : (i c : ℕ) → IsPart s i c → is_a s p_external c ≡ true → is_a s p_unit i ≡ true
  pub units : (i c : ℕ) → IsPart s i c → is_a s p_unit c ≡ false

-- 6.7.6.3: a parameter is a part of a parameter list
abbrev pub ParametersListed : Tokens → Tree → Source → Type 0
ParametersListed tokens tree s =
    (c : ℕ)
    → is_a s p_parameter c ≡ true
    → (i : ℕ) × IsPart s i c × (is_a s p_suffix i ≡ true)
    × (is_list tokens.list.items (nodes_of tree.nodes.items) i ≡ true)

-- what stands below an external declaration and names what has no linkage, is no type and no enumerator names what
-- is declared below it
abbrev pub UsesStay : Type 0
UsesStay =
    (tokens : Tokens) (tree : Tree) (tag_number : ℕ → ℕ)
    → Rooted (numbered tag_number (source_of tokens tree))
    → ParametersListed tokens tree (numbered tag_number (source_of tokens tree))
    → (p at leaf : ℕ) (d : Declared)
    → is_a (numbered tag_number (source_of tokens tree)) p_external p ≡ true
    → Beneath (IsPart (numbered tag_number (source_of tokens tree))) p at
    → paired (numbered tag_number (source_of tokens tree)).uses at ≡ Some leaf
    → ordinary_at (numbered tag_number (source_of tokens tree)) leaf ≡ Some d
    → has_linkage d ≡ false
    → names_type d ≡ false
    → ((i : ℕ) → IsPart (numbered tag_number (source_of tokens tree)) i leaf
    → is_a (numbered tag_number (source_of tokens tree)) p_enumerator i ≡ false)
    → Beneath (IsPart (numbered tag_number (source_of tokens tree))) p leaf

-- each leaf is declared once: an ordinary name is not declared again, and is no tag
pub record DeclaredOnce (s : Source) : Type 0 where
  pub names : (i j : ℕ) (d e : Declared)
      → slice_get s.declared.ordinary i ≡ Some d
      → slice_get s.declared.ordinary j ≡ Some e
      → d.node ≡ e.node
      → i ≡ j
  pub tags : (i j : ℕ) (d e : Declared)
      → slice_get s.declared.ordinary i ≡ Some d
      → slice_get s.declared.tags j ≡ Some e
      → d.node ≡ e.node
      → ⊥

abbrev pub NamesDeclaredOnce : Type 0
NamesDeclaredOnce =
    (tokens : Tokens) (tree : Tree) (tag_number : ℕ → ℕ)
    → Rooted (numbered tag_number (source_of tokens tree))
    → DeclaredOnce (numbered tag_number (source_of tokens tree))

-- what is declared with linkage is the leaf of an identifier
abbrev pub LinkedAreNames : Type 0
LinkedAreNames =
    (tokens : Tokens) (tree : Tree) (tag_number : ℕ → ℕ)
    → Rooted (numbered tag_number (source_of tokens tree))
    → (i : ℕ) (d : Declared)
    → slice_get (numbered tag_number (source_of tokens tree)).declared.ordinary i ≡ Some d
    → has_linkage d ≡ true → is_name (numbered tag_number (source_of tokens tree)) d.node ≡ true
