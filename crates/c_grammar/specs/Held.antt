-- Children as they are held.
use Rattle.std.specs.Prelude.{ℕ, List, [], ◌∷◌}
use Rattle.c_grammar.specs.declared.children.Held.{Held}
use Rattle.c_grammar.specs.declared.children.Held.TheVariants.{Nothing, One, Two, Three, Many}

abbrev pub items_held : Held → List ℕ
items_held Nothing = []
items_held (One a) = a ∷ []
items_held (Two both) = both
items_held (Three all) = all
items_held (Many list) = list.value.items
