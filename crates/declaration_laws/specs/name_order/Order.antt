-- By which nodes names are declared.
use Rattle.std.specs.Prelude.{ℕ, ◌+◌, ◌<◌, ◌≤◌, ◌≡◌, true, ◌||◌, List, [], ◌∷◌, Some, length}
use Rattle.c_lexer.specs.declared.Tokens.{Tokens}
use Rattle.c_lexer.specs.Cut.{IsTokens}
use Rattle.c_grammar.specs.declared.trees.Tree.{Tree}
use Rattle.c_grammar.specs.Productions.{p_external, p_rest, p_declaration, p_parameter, p_declarator, p_either}
use Rattle.c_grammar.specs.Productions.{p_enumerator, p_primary}
use Rattle.c_grammar.specs.Terminals.{contains}
use Rattle.c_parser.specs.c_units.Units.{IsUnit}
use Rattle.c_scope.specs.declared.kinds.Declared.{Declared}
use Rattle.c_senses.specs.Tree.{Source, is_a, is_name, production_at, children_at, paired}
use Rattle.c_senses.specs.Names.{source_of, numbered, has_linkage, ordinary_at}

-- what stands directly in one of these declares a name
abbrev pub declaring : List ℕ
declaring = p_external ∷ p_rest ∷ p_declaration ∷ p_parameter ∷ []

-- and in one of these a name that may have linkage
abbrev pub linking : List ℕ
linking = p_external ∷ p_rest ∷ p_declaration ∷ []

module _ (s : Source) where
  -- the name of a declarator: a part of it, or the name of a declarator within its parentheses
  pub data IsNameOf : ℕ → ℕ → Type 0 where
    Own : {m leaf : ℕ} → contains (children_at s m) leaf ≡ true → is_name s leaf ≡ true → IsNameOf m leaf
    Inner : {m c leaf : ℕ}
        → contains (children_at s m) c ≡ true
        → (is_a s p_declarator c || is_a s p_either c) ≡ true
        → IsNameOf c leaf
        → IsNameOf m leaf

  -- a node that declares a name at its end
  pub data Declares : ℕ → ℕ → Type 0 where
    Enumerates : {m leaf : ℕ}
        → is_a s p_enumerator m ≡ true
        → contains (children_at s m) leaf ≡ true
        → Declares m leaf
    Names : {m leaf : ℕ} (p : ℕ)
        → (is_a s p_declarator m || is_a s p_either m) ≡ true
        → contains (children_at s p) m ≡ true
        → contains declaring (production_at s p) ≡ true
        → IsNameOf m leaf
        → Declares m leaf

  -- declarations that are made one after another, from one node on and before another
  abbrev pub Rises : ℕ → ℕ → List Declared → Type 0
  Rises low high [] = low ≤ high
  Rises low high (d ∷ ds) = (m : ℕ) × (low ≤ m) × Declares m d.node × Rises (m + 1) high ds

  -- an outermost declarator of a name that may have linkage
  pub record Links (m leaf : ℕ) : Type 0 where
    pub above : ℕ
    pub is : (is_a s p_declarator m || is_a s p_either m) ≡ true
    pub inside : contains (children_at s above) m ≡ true
    pub part : contains linking (production_at s above) ≡ true
    pub named : IsNameOf m leaf

pub record IsOrdered (s : Source) : Type 0 where
  pub names : Rises s 0 (length s.nodes) s.declared.ordinary
  pub uses : (n x p : ℕ)
      → paired s.uses n ≡ Some x
      → is_a s p_primary p ≡ true
      → contains (children_at s p) n ≡ true
      → (m : ℕ) × (m < n) × Declares s m x
  pub linked : (x : ℕ) (d : Declared) → ordinary_at s x ≡ Some d → has_linkage d ≡ true → (m : ℕ) × Links s m x

abbrev pub UnitsOrdered : Type 0
UnitsOrdered =
    (tokens : Tokens) (unit : ℕ) (tree : Tree) (tag_number : ℕ → ℕ)
    → IsTokens tokens.text.now tokens.list.items
    → IsUnit tokens unit tree
    → IsOrdered (numbered tag_number (source_of tokens tree))
