-- The rows of constants and strings, as far as they are built: an integer constant of 2^64 or more, and a string
-- with an escape of 256 or more, which the tokens of a text don't have, aren't (C11 6.4.4, 6.4.5, 6.5.1).
use Rattle.std.specs.Prelude.{ℕ, pos, Bool, List, ◌^◌, nat_lt}
use Rattle.std.specs.List.{list_all}
use Rattle.pta_base.specs.declared.kind.Kind.TheVariants.{NotBuilt}
use Rattle.pta_base.specs.declared.place.Place.{Place}
use Rattle.core_tree.specs.declared.node.NodeKind.TheVariants.{Number}
use Rattle.core_tree.specs.Rows.{int}
use Rattle.c_consts.specs.Core.{Core, leaf}
use Rattle.c_senses.specs.Given.{Given, Fits, given_if}
use Rattle.c_senses.specs.Literals.{value_of_integer, type_of_integer, value_of_character}
use Rattle.c_senses.specs.Objects.{text_core}

abbrev pub integer_core : Place → List ℕ → Core
integer_core place bytes = leaf (Number (pos (value_of_integer bytes))) place (type_of_integer bytes)

abbrev pub built_integer : ℕ → Place → List ℕ → Given Core
built_integer at place bytes =
    given_if (nat_lt (value_of_integer bytes) (2 ^ 64)) NotBuilt at (Fits (integer_core place bytes))

abbrev pub character_core : Place → List ℕ → Core
character_core place bytes = leaf (Number (value_of_character bytes)) place int

abbrev pub are_bytes : List ℕ → Bool
are_bytes bytes = list_all (λ b. nat_lt b 256) bytes

abbrev pub built_text : ℕ → Place → List ℕ → Given Core
built_text at place bytes = given_if (are_bytes bytes) NotBuilt at (Fits (text_core place bytes))
