-- Where the own token of a node is, as the code says it.
use Rattle.std.specs.Prelude.{ℕ, ◌||◌, if◌then◌else◌}
use Rattle.c_grammar.specs.Productions.{p_init, p_statement, p_cast, p_unary, p_primary}
use Rattle.c_senses.specs.Tree.{Source, is_a, children_at}
use Rattle.c_senses.specs.Places as places
use Rattle.c_statements.specs.declared.places.Own.{Own}
use Rattle.c_statements.specs.declared.places.Own.TheVariants.{First, At, OfPart}

abbrev pub own_seen : Own → places.Own
own_seen First = places.First
own_seen (At leaf) = places.At leaf
own_seen (OfPart part) = places.OfPart part

-- of a node that is neither a declarator nor a member nor a parameter
abbrev pub own_of_others : Source → ℕ → places.Own
own_of_others s i =
    let children = children_at s i in
    if places.is_operators s i then places.own_of_operators s children
    else if is_a s p_primary i then places.own_of_primary s children
    else if is_a s p_cast i then places.own_of_cast s children
    else if is_a s p_unary i || is_a s p_init i then places.own_of_parts s children
    else if is_a s p_statement i then places.own_of_statement s children
    else places.First
