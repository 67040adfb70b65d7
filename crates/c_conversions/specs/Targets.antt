-- How the code's sorts of what pointers point to, and what the table says of two of them, are those of the
-- definitions.
use Rattle.std.specs.Prelude.{ℕ, Bool, ◌≡◌, ◌<◌, length, ⊤, Option, Some, None, Result, Ok, Err}
use Rattle.pta_base.specs.declared.kind.Kind.{Kind}
use Rattle.c_types.specs.Trees.{Ctype, PointerTo}
use Rattle.c_types.specs.Table.{Table, type_of}
use Rattle.c_types.specs.declared.term.TypeId.{TypeId}
use Rattle.core_tree.specs.declared.node.Unit.{Unit}
use Rattle.c_consts.specs.Core.{Core}
use Rattle.core_nodes.specs.passed.c_senses.Given.{Given, Fits, Refuses}
use Rattle.core_nodes.specs.passed.c_senses.World.{World}
use Rattle.core_nodes.specs.passed.c_senses.Conversions as spec
use Rattle.core_nodes.specs.Standing.{core_at, Made}
use Rattle.core_nodes.specs.declared.fault.CheckFault.{CheckFault}
use Rattle.core_nodes.specs.declared.fault.CheckFault.TheVariants.{BadOperand, Unsupported, OutOfMemory}
use Rattle.c_conversions.specs.declared.targets.Target.{Target}
use Rattle.c_conversions.specs.declared.targets.Target.TheVariants.{Void, Function, Whole, Pointer, Structure}
use Rattle.c_conversions.specs.declared.targets.Target.TheVariants.{Union, Other}
use Rattle.c_conversions.specs.declared.targets.PointerRow.{PointerRow}
use Rattle.c_conversions.specs.declared.targets.PointerRow.TheVariants.{Converts, Upcasts, Refused}

abbrev pub target_seen : Target → spec.Target
target_seen Void = spec.ToVoid
target_seen Function = spec.ToFunction
target_seen (Whole size) = spec.ToWhole size
target_seen Pointer = spec.ToPointer
target_seen (Structure tag) = spec.ToStructure tag
target_seen (Union tag) = spec.ToUnion tag
target_seen Other = spec.ToOther

-- what the table gives by what it says of two targets
abbrev pub given_by : World → Bool → ℕ → Core → Ctype → Ctype → PointerRow → Given Core
given_by w cast at v from to Converts = Fits (spec.converted (PointerTo to) v)
given_by w cast at v from to (Upcasts kind) = spec.from_structure w cast at v from to kind
given_by w cast at v from to (Refused kind) = Refuses kind at

-- that is what the table gives for them, where the second type is one of characters or isn't
abbrev pub IsRowOf : spec.Target → spec.Target → Bool → PointerRow → Type 0
IsRowOf a b character row =
    (w : World) (cast : Bool) (at : ℕ) (v : Core) (from to : Ctype)
    → spec.is_character to ≡ character
    → given_by w cast at v from to row ≡ spec.pointers w cast at v from to a b

-- a fault that says of any unit that it is refused so
pub record IsRefusal (fault : CheckFault) (kind : Kind) (at : ℕ) : Type 0 where
  pub says : (u : Unit) → Made u (Err fault) (Refuses kind at)

-- a type that may be there
abbrev pub type_seen : Table → Option TypeId → Option Ctype
type_seen table None = None
type_seen table (Some ty) = Some (type_of table ty.0)

-- what a call answers of upcasts: the last one, or that there is none
abbrev pub UpcastMade : Unit → Result (Option ℕ) CheckFault → Option Core → Type 0
UpcastMade u (Ok None) c = c ≡ None
UpcastMade u (Ok (Some i)) c = c ≡ Some (core_at u i)
UpcastMade u (Err (BadOperand node)) c = ⊥
UpcastMade u (Err (Unsupported kind node)) c = ⊥
UpcastMade u (Err OutOfMemory) c = ⊤

abbrev pub IsUpcastWithin : Unit → Option ℕ → Type 0
IsUpcastWithin u None = ⊤
IsUpcastWithin u (Some i) = i < length u.nodes.items
