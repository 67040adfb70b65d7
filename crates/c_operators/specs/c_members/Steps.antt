-- What refuses a member by its type alone (C11 6.5.2.3).
use Rattle.std.specs.Prelude.{ℕ, Bool, ◌&&◌, not, Option, Some, None, if◌then◌else◌}
use Rattle.pta_base.specs.declared.kind.Kind.{Kind}
use Rattle.pta_base.specs.declared.kind.Kind.TheVariants.{ArrayOfValue, FlexibleMember, Floating}
use Rattle.c_types.specs.Trees.{Ctype, FloatingType, VaListType}
use Rattle.c_senses.specs.Given.{Given, Fits, Refuses}
use Rattle.c_senses.specs.Objects.{lacks_length, is_array}

-- a type that no expression has
abbrev pub type_refusal : Ctype → Option Kind
type_refusal FloatingType = Some Floating
type_refusal t = None

-- why a member of that type isn't reached, in a place or in a value: a flexible array, an array of a value, a type
-- that no expression has
abbrev pub member_refusal : Ctype → Bool → Option Kind
member_refusal t of_place =
    if lacks_length t then Some FlexibleMember
    else if is_array t && not of_place then Some ArrayOfValue
    else type_refusal t

-- what is there, unless it is refused
abbrev pub unless_refused : {A : Type 0} → Option Kind → ℕ → A → Given A
unless_refused None at x = Fits x
unless_refused (Some kind) at x = Refuses kind at
