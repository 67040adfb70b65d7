-- The rows of expressions of a whole unit, as they are built (C11 6.5): names whose meanings no declarations give
-- say that they aren't.
use Rattle.std.specs.Prelude.{ℕ, ℤ, pos, neg_ℤ, int_le, ◌==◌, ◌≡◌, ◌⊎◌, Bool, false, not, nat_lt, ◌&&◌, List, []}
use Rattle.std.specs.Prelude.{◌∷◌, length, Option, Some, if◌then◌else◌}
use Rattle.pta_base.specs.declared.kind.Kind.TheVariants.{NotBuilt}
use Rattle.c_grammar.specs.Productions.{p_primary}
use Rattle.c_senses.specs.Tree.{Source, is_identifier, kind_at}
use Rattle.c_senses.specs.Given.{Given, Refuses}
use Rattle.c_senses.specs.World.{World, Meaning, Object, Value}
use Rattle.c_senses.specs.Sense.{Sense}
use Rattle.c_senses.specs.Expressions.{expression_row}
use Rattle.expression_rows.specs.Built.{built_row}

abbrev pub is_int : ℤ → Bool
is_int n = int_le (neg_ℤ (pos 2147483648)) n && int_le n (pos 2147483647)

-- what no declaration makes a name mean in a tree of so many nodes: an enumerator whose value isn't in the range of
-- int (6.7.2.2p2), or an object that no node of the tree declares
abbrev pub is_strange : ℕ → Option Meaning → Bool
is_strange count (Some (Value n)) = not (is_int n)
is_strange count (Some (Object entity t)) = not (nat_lt entity count)
is_strange count m = false

-- the name that a primary is, where nothing stands behind it
abbrev pub alone_is_strange : World → Source → ℕ → List ℕ → Bool
alone_is_strange w s first [] = is_strange (length s.nodes) (w.meaning first)
alone_is_strange w s first (c ∷ rest) = false

abbrev pub first_is_strange : World → Source → List ℕ → Bool
first_is_strange w s [] = false
first_is_strange w s (first ∷ rest) = is_identifier (kind_at s first) && alone_is_strange w s first rest

abbrev pub names_strangely : World → Source → ℕ → List ℕ → Bool
names_strangely w s production children = (production == p_primary) && first_is_strange w s children

abbrev pub named_row : World → Source → (ℕ → Sense) → ℕ → ℕ → List ℕ → Given Sense
named_row w s sense production at children =
    if names_strangely w s production children then Refuses NotBuilt at
    else built_row w s sense production at children

-- such a row is that of C11 6.5, or says at its node that it isn't built
abbrev pub RowsArePart : Type 0
RowsArePart =
    (w : World) (s : Source) (sense : ℕ → Sense) (production at : ℕ) (children : List ℕ)
    → (named_row w s sense production at children ≡ expression_row w s sense production at children)
    ⊎ (named_row w s sense production at children ≡ Refuses NotBuilt at)
