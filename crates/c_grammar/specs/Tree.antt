-- Which productions make a node, and which ones nest.
use Rattle.std.specs.Prelude.{ℕ, Bool, nat_lt, ◌∷◌, [], if◌then◌else◌}
use Rattle.c_grammar.specs.Terminals.{contains}
use Rattle.c_grammar.specs.Productions.{p_nothing, p_statement, p_assignment, p_conditional, p_cast, p_declarator}
use Rattle.c_grammar.specs.Productions.{p_abstract, p_either, p_struct, p_init}

-- the productions that only the table needs make no node: their children are those of the production that uses them
unfoldable pub makes_node : ℕ → Bool
makes_node production = nat_lt production p_nothing

-- the productions that count for the nesting
unfoldable pub nests : ℕ → ℕ
nests production =
    if contains
    (p_statement ∷ p_assignment ∷ p_conditional ∷ p_cast ∷ p_declarator ∷ p_abstract ∷ p_either ∷ p_struct
    ∷ p_init ∷ [])
    production
    then 1 else 0
