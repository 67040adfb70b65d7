-- What the leaf of a name means, as the code is told.
use Rattle.std.specs.Prelude.{ℕ, ◌≡◌, ◌<◌, ⊤, List, length, Option, Some, None}
use Rattle.c_types.specs.Table.{type_of}
use Rattle.core_tree.specs.declared.node.Unit.{Unit}
use Rattle.core_tree.specs.Typed.{Holds}
use Rattle.core_tree.specs.Rows.{int}
use Rattle.c_senses.specs.World.{World, Meaning, TypeName, Tag}
use Rattle.c_senses.specs.World as world
use Rattle.expression_rows.specs.declared.c_rows.names.Named.{Named}
use Rattle.expression_rows.specs.declared.c_rows.names.Named.TheVariants.{Undeclared, Object, Function, Value}
use Rattle.expression_rows.specs.declared.c_rows.names.Named.TheVariants.{NoValue}

abbrev pub NamesNoValue : Option Meaning → Type 0
NamesNoValue (Some (TypeName t)) = ⊤
NamesNoValue (Some (Tag tag)) = ⊤
NamesNoValue m = ⊥

-- nothing that is declared; an object, and whether it may be named here; a function; an enumerator; or a type or a
-- tag
abbrev pub IsNamed : World → Unit → Named → Option Meaning → Type 0
IsNamed w u Undeclared m = m ≡ None
IsNamed w u (Object entity ty allowed) m =
    (m ≡ Some (world.Object entity (type_of u.types ty.0))) × (w.may_name entity ≡ allowed)
IsNamed w u (Function entity ty) m = m ≡ Some (world.Function entity (type_of u.types ty.0))
IsNamed w u (Value n) m = m ≡ Some (world.Value n)
IsNamed w u NoValue m = NamesNoValue m

-- such a name, and the own name of the function whose body is read, of which only a name that means nothing asks
pub record NameFits (w : World) (u : Unit) (named : Named) (own_name : Option (List ℕ))
    (m : Option Meaning) : Type 0 where
  pub meant : IsNamed w u named m
  pub own : m ≡ None → w.own_name ≡ own_name

-- its type is the unit's, and an enumerator's value an int (6.7.2.2)
abbrev pub IsNamedWithin : Unit → Named → Type 0
IsNamedWithin u Undeclared = ⊤
IsNamedWithin u (Object entity ty allowed) = ty.0 < length u.types.terms
IsNamedWithin u (Function entity ty) = ty.0 < length u.types.terms
IsNamedWithin u (Value n) = Holds int n
IsNamedWithin u NoValue = ⊤
