-- The lists of the declarations of a unit by their symbols.
use Rattle.std.specs.Prelude.{ℕ, ◌≡◌, ◌<◌, Bool, true, false, List, [], ◌∷◌, All, length, None}
use Rattle.c_types.specs.Trees.{Ctype}
use Rattle.c_scope.specs.declared.kinds.Declared.{Declared}
use Rattle.c_senses.specs.Tree.{Source}
use Rattle.c_senses.specs.Names.{made_before, before_in_scope, ordinary_at}
use Rattle.c_senses.specs.World.{World}
use Rattle.c_senses.specs.Sense.{Sense}
use Rattle.c_senses.specs.Entities.{keep, is_internal, internal_before, all_same, all_together, types_of, some_such}
use Rattle.c_senses.specs.Entities.{defines}
use Rattle.tree_reads.specs.declared.syntax.Syntax.{Syntax}
use Rattle.tree_reads.specs.Sources.{source_read}
use Rattle.name_chains.specs.declared.symbol_lists.lists.SymbolLists.{SymbolLists}
use Rattle.name_chains.specs.symbol_lists.Lists.{AreOf}
use Rattle.name_chains.specs.symbol_lists.Symbols.{of_symbol}
use Rattle.c_named.specs.Lists.{leaves_of, all_of, types_at, some_defines}

-- they are those of the unit's ordinary names, each of which is declared at a node
pub record AreListed (syntax : Syntax) (lists : SymbolLists) : Type 0 where
  pub those : AreOf (source_read syntax).declared.ordinary lists
  pub nodes : All (λ d. d.node < length syntax.tree.now.nodes.items) (source_read syntax).declared.ordinary

-- a leaf, if it is wanted
abbrev pub leaf_if : Bool → ℕ → List ℕ
leaf_if true leaf = leaf ∷ []
leaf_if false leaf = []

-- the leaves of those among some declarations that stand before a leaf and give their name internal linkage
abbrev pub internal_leaves : Source → (ℕ → Sense) → ℕ → List Declared → List ℕ
internal_leaves s sense leaf ds = leaves_of (keep s sense (λ d. is_internal s sense d.node) (made_before leaf ds))

-- the leaves of the declarations of a symbol before a leaf that give it internal linkage
abbrev pub internal_of : Source → (ℕ → Sense) → ℕ → ℕ → List ℕ
internal_of s sense symbol leaf = internal_leaves s sense leaf (of_symbol symbol s.declared.ordinary)

-- some leaves have each type that all declarations before one in its scope have
abbrev pub GiveSame : World → Source → (ℕ → Sense) → ℕ → List ℕ → Type 0
GiveSame w s sense leaf leaves =
    (t : Ctype) → all_of s sense t leaves ≡ all_same w s sense t (before_in_scope s (ordinary_at s leaf))

-- some leaves give the type that all declarations before one with internal linkage give, and one of them defines
-- where one of those does
pub record GiveInternal (w : World) (s : Source) (sense : ℕ → Sense) (leaf : ℕ) (leaves : List ℕ) : Type 0 where
  pub types : all_together None (types_at s sense leaves)
      ≡ all_together None (types_of s sense (internal_before w s sense leaf))
  pub defined : some_defines s sense leaves
      ≡ some_such s sense (λ d. defines w s sense d.node) (internal_before w s sense leaf)
