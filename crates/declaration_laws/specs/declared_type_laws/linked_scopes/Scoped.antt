-- The scopes in which names with linkage are declared and seen (C11 6.2.1p4, 6.2.2p4).
use Rattle.std.specs.Prelude.{ℕ, ◌≡◌, true, false, [], ◌∷◌, Some, length}
use Rattle.c_lexer.specs.declared.Tokens.{Tokens}
use Rattle.c_lexer.specs.Cut.{IsTokens}
use Rattle.c_grammar.specs.declared.trees.Tree.{Tree}
use Rattle.c_parser.specs.c_units.Units.{IsUnit}
use Rattle.c_scope.specs.declared.kinds.Declared.{Declared}
use Rattle.c_senses.specs.Names.{source_of, numbered, has_linkage, linked_before, scopes_at}
use Rattle.c_senses.specs.Tree.{Source}
use Rattle.c_senses.specs.Entities.{is_at_file}
use Rattle.c_senses.specs.Sense.{Sense}
use Rattle.declaration_laws.specs.declared_type_laws.seen_onward.Seen.{In}

-- the file's scope has the number of all nodes
pub record AreScoped (s : Source) : Type 0 where
  -- a declaration at file scope stands in that scope alone, and one in a block has another
  pub file : (sense : ℕ → Sense) (x : Declared)
      → In x s.declared.ordinary
      → has_linkage x ≡ true
      → is_at_file s sense x.node ≡ true
      → (x.scope ≡ length s.nodes) × (scopes_at s x.node ≡ length s.nodes ∷ [])
  pub inner : (sense : ℕ → Sense) (x : Declared)
      → In x s.declared.ordinary
      → has_linkage x ≡ true
      → is_at_file s sense x.node ≡ false
      → x.scope ≡ length s.nodes
      → ⊥
  -- what is seen at file scope is seen by each declaration in a block that is seen
  pub outer : (x d e : Declared)
      → In x s.declared.ordinary
      → has_linkage x ≡ true
      → In d (linked_before s (Some x))
      → In e (linked_before s (Some x))
      → (d.scope ≡ length s.nodes → ⊥)
      → e.scope ≡ length s.nodes
      → In e (linked_before s (Some d))

-- so it is in each unit that is read
abbrev pub LinkedScoped : Type 0
LinkedScoped =
    (tokens : Tokens) (unit : ℕ) (tree : Tree) (tag_number : ℕ → ℕ)
    → IsTokens tokens.text.now tokens.list.items
    → IsUnit tokens unit tree
    → AreScoped (numbered tag_number (source_of tokens tree))
