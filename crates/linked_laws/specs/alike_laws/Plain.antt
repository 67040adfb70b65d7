-- Functions that are defined with () have no parameters, in units and in the program that is linked from them (C11
-- 6.7.6.3p14).
use Rattle.std.specs.Prelude.{ℕ, ◌≡◌, ⊤, List, Some, slice_get}
use Rattle.c_types.specs.declared.term.Form.TheVariants.{Unspecified}
use Rattle.c_types.specs.Trees.{Ctype, MoreTypes, FunctionFrom}
use Rattle.c_types.specs.Table.{type_of}
use Rattle.core_tree.specs.declared.node.Storage.TheVariants.{FunctionBody}
use Rattle.core_tree.specs.declared.node.Unit.{Unit}
use Rattle.core_tree.specs.declared.node.Program.{Program}
use Rattle.core_tree.specs.Range.{EachEntity}
use Rattle.core_tree.specs.Typed.{CoreTrees, trees_of, trees_in}
use Rattle.unit_link.specs.Linked.{LinkedAt}
use Rattle.unit_link.specs.Needs.{AreLinkable}

-- a function type with () has no parameters
abbrev pub IsPlain : Ctype → Type 0
IsPlain (FunctionFrom result (MoreTypes first rest) Unspecified) = ⊥
IsPlain t = ⊤

-- so it is with the functions that are defined
abbrev pub DefinesPlain : CoreTrees → Type 0
DefinesPlain u = EachEntity u (λ e entity. entity.storage ≡ FunctionBody → IsPlain (type_of u.types entity.ty.0))

abbrev pub DefinePlain : List Unit → Type 0
DefinePlain units = (k : ℕ) (u : Unit) → slice_get units k ≡ Some u → DefinesPlain (trees_of u)

abbrev pub LinkedPlain : Type 0
LinkedPlain =
    (names : List (List ℕ)) (units : List Unit) (p : Program)
    → AreLinkable units
    → DefinePlain units
    → LinkedAt names units p
    → DefinesPlain (trees_in p)
