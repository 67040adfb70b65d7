-- Senses of which it is known that their constants can be computed, and that the names of declarators are nodes.
use Rattle.std.specs.Prelude.{ℕ, ◌≡◌, ◌==◌, ◌&&◌, ◌||◌, Bool, true, nat_le, List}
use Rattle.c_grammar.specs.Productions.{p_declarator, p_abstract, p_either, p_init, p_items, p_expression}
use Rattle.c_grammar.specs.Productions.{p_primary}
use Rattle.c_senses.specs.Tree.{Source}
use Rattle.c_senses.specs.World.{World}
use Rattle.c_senses.specs.Sense.{Sense}
use Rattle.c_senses.specs.Rows.{row_of}
use Rattle.parsed_tree_laws.specs.sense_laws.Sound.{Gives}
use Rattle.name_places.specs.Named.{IsNamedSense}
use Rattle.parsed_tree_laws.specs.sense_laws.row_trees.Trees.{SenseHasRows}
use Rattle.statement_rows.specs.Kept.{RunHasRows, HasAllRows}

-- in a tree of so many nodes
abbrev pub Keeps : ℕ → Sense → Type 0
Keeps count x = SenseHasRows x × (RunHasRows x × IsNamedSense count x)

-- the productions of expressions, of declarators, and of initialisers and the lists of compound literals
abbrev pub is_expression : ℕ → Bool
is_expression production = nat_le p_expression production && nat_le production p_primary

abbrev pub is_declarator : ℕ → Bool
is_declarator production = (production == p_declarator) || ((production == p_abstract) || (production == p_either))

abbrev pub is_initial : ℕ → Bool
is_initial production = (production == p_init) || (production == p_items)

-- what a row gives over such senses, where it is known of an expression's and an initialiser's trees, and of a
-- declarator's name
abbrev pub RowsKeep : Type 0
RowsKeep =
    (count : ℕ) (w : World) (s : Source) (sense : ℕ → Sense)
    → ((i : ℕ) → Keeps count (sense i))
    → (production at : ℕ) (children : List ℕ)
    → (is_expression production ≡ true → Gives SenseHasRows (row_of w s sense production at children))
    → (is_initial production ≡ true → Gives HasAllRows (row_of w s sense production at children))
    → (is_declarator production ≡ true → Gives (IsNamedSense count) (row_of w s sense production at children))
    → Gives (Keeps count) (row_of w s sense production at children)
