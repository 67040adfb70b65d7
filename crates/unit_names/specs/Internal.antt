-- The declarations of internal names, by their leaves.
use Rattle.std.specs.Prelude.{ℕ, Bool, true, false, List, [], ◌∷◌}
use Rattle.c_senses.specs.Tree.{Source}
use Rattle.c_senses.specs.Sense.{Sense}
use Rattle.c_senses.specs.Entities.{keep, is_internal}
use Rattle.name_chains.specs.symbol_lists.Symbols.{of_symbol}
use Rattle.c_named.specs.Lists.{leaves_of}

-- a leaf, if it is wanted
abbrev pub leaf_if : Bool → ℕ → List ℕ
leaf_if true leaf = leaf ∷ []
leaf_if false leaf = []

-- the declarations of a symbol that give it internal linkage
abbrev pub internal_of : Source → (ℕ → Sense) → ℕ → List ℕ
internal_of s sense symbol =
    leaves_of (keep s sense (λ d. is_internal s sense d.node) (of_symbol symbol s.declared.ordinary))
