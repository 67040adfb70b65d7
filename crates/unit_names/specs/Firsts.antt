-- By which declarations internal names are known, and what a leaf may declare.
use Rattle.std.specs.Prelude.{ℕ, ◌≡◌, Bool, true, ◌&&◌, not, List, Some}
use Rattle.std.specs.BTreeMap.{BTreeMap}
use Rattle.core_tree.specs.declared.node.Unit.{Unit}
use Rattle.c_scope.specs.declared.kinds.Declared.{Declared}
use Rattle.c_results.specs.declared.made.Made.{Made}
use Rattle.c_results.specs.Standing.{senses_made}
use Rattle.c_senses.specs.Tree.{Source}
use Rattle.c_senses.specs.Names.{ordinary_at}
use Rattle.c_senses.specs.Sense.{Sense, sense_in}
use Rattle.c_senses.specs.Entities.{is_internal, is_typedef, entity_of}
use Rattle.c_senses.specs.Right.{is_declaring, stands_in_declaration}
use Rattle.name_chains.specs.symbol_lists.Symbols.{kept_at}
use Rattle.tree_reads.specs.declared.syntax.Syntax.{Syntax}
use Rattle.tree_reads.specs.Sources.{source_in}

-- each declaration of a symbol that gives it internal linkage is known by that leaf
abbrev pub IsKnownBy : Syntax → List Made → ℕ → ℕ → Type 0
IsKnownBy syntax results symbol first =
    (u : Unit) (uses : List (ℕ × ℕ)) (leaf : ℕ) (d : Declared)
    → ordinary_at (source_in syntax uses) leaf ≡ Some d
    → d.symbol ≡ symbol
    → is_internal (source_in syntax uses) (sense_in (senses_made u results)) leaf ≡ true
    → first ≡ entity_of (source_in syntax uses) (sense_in (senses_made u results)) leaf

-- the leaves by symbols
pub record AreFirsts (syntax : Syntax) (results : List Made) (firsts : BTreeMap ℕ ℕ) : Type 0 where
  pub each : (symbol first : ℕ) → kept_at firsts symbol ≡ Some first → IsKnownBy syntax results symbol first

-- a leaf stands in a declaration and is no typedef name
abbrev pub is_declared_there : Source → List Sense → ℕ → Bool
is_declared_there s senses leaf = stands_in_declaration s senses leaf && not (is_typedef s (sense_in senses) leaf)

-- and it is the name of a declarator
abbrev pub may_declare : Source → List Sense → ℕ → Bool
may_declare s senses leaf = is_declaring s senses leaf && is_declared_there s senses leaf
