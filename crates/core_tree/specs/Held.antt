-- What a node holds, in little room.
use Rattle.std.specs.Prelude.{ℕ, ℤ, ◌+◌, ◌*◌, List, [], ◌∷◌}
use Rattle.std.specs.Int.{w128, cast_signed}
use Rattle.core_tree.specs.declared.held.Held.{Held}
use Rattle.core_tree.specs.declared.held.Held.TheVariants.{Nothing, One, Two, Three, Many}

-- the children that are held
abbrev pub children_held : Held → List ℕ
children_held Nothing = []
children_held (One one) = one ∷ []
children_held (Two both) = both
children_held (Three all) = all
children_held (Many list) = list.value.items

-- the number whose bits are those of two halves
abbrev pub number_of : ℕ → ℕ → ℤ
number_of high low = cast_signed w128 (18446744073709551616 * high + low)
