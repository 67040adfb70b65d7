-- What the nodes and the calls of a function's body themselves read and write.
use Rattle.std.specs.Prelude.{◌≡◌, ◌⊎◌, ℕ, ⊤, Bool, true, false, IsTrue, List, Option, Some, None, IsSome, Contains}
use Rattle.std.specs.Prelude.{slice_get}
use Rattle.c_types.specs.declared.key.ObjectKey.TheVariants.{Entity as EntityKey, Library}
use Rattle.c_types.specs.Trees.{Ctype, VaListType}
use Rattle.c_types.specs.Table.{type_of}
use Rattle.core_tree.specs.declared.node.Node.{Node}
use Rattle.core_tree.specs.declared.node.NodeKind.{NodeKind}
use Rattle.core_tree.specs.declared.node.NodeKind.TheVariants.{Fetch, Assign, Update, Literal, Initialise}
use Rattle.core_tree.specs.declared.node.NodeKind.TheVariants.{NextArg}
use Rattle.sol_model.specs.declared.system.System.{System}
use Rattle.sol_model.specs.declared.system.CallSite.{CallSite}
use Rattle.sol_model.specs.declared.system.Function.{Function}
use Rattle.sol_model.specs.Families.{Family, Has}
use Rattle.sol_model.specs.Rules.{IsTarget}
use Rattle.obj_space.specs.View.{SpaceView}
use Rattle.row_numbers.specs.Numbers.{type_number}
use Rattle.row_numbers.specs.Objects.{entity_key}
use Rattle.row_numbers.specs.Setting.{Setting, row, list_row}
use Rattle.mod_ref.specs.declared.access.Access.{Access}
use Rattle.mod_ref.specs.declared.access.Access.TheVariants.{Read, Write}
use Rattle.mod_ref.specs.Places.{IsUnder, IsReachedBy}

-- ---- nodes
-- the place that a node of a kind reads or writes: the value of a place is read (C11 6.3.2.1p2), an assignment writes
-- one (6.5.16.1), and an increment, a decrement or a compound assignment does both (6.5.2.4, 6.5.3.1, 6.5.16.2), as
-- does with a list what takes its next argument (7.16.1.1)
abbrev pub place_of : Access → NodeKind → List ℕ → Option ℕ
place_of Read Fetch children = slice_get children 0
place_of Write Assign children = slice_get children 0
place_of access (Update op post) children = slice_get children 0
place_of access NextArg children = slice_get children 0
place_of access kind children = None

-- the type at which a node of a kind and a type does so: its own; but a list is read and written as a list
abbrev pub accessed : NodeKind → Ctype → Ctype
accessed NextArg t = VaListType
accessed kind t = t

-- whether a node of a kind reads one of the arguments that its list leads to (7.16.1.1)
abbrev pub takes_argument : Access → NodeKind → Bool
takes_argument Read NextArg = true
takes_argument access kind = false

-- a location of such arguments: one that the row of the list has
abbrev pub IsTaken : Setting → Family → Access → ℕ → NodeKind → ℕ → Type 0
IsTaken w F access n kind location =
    IsTrue (takes_argument access kind) × Has F (list_row w.trees w.space n) location

-- the entity whose object a node of a kind writes whole: an initialiser (6.7.9), and a compound literal (6.5.2.5)
abbrev pub filled_by : Access → NodeKind → Option ℕ
filled_by Write (Literal e) = Some e
filled_by Write (Initialise e paths) = Some e
filled_by access kind = None

-- a node of the object of an entity
abbrev pub IsOfEntity : Setting → System → ℕ → ℕ → Type 0
IsOfEntity w S e location =
    (first : ℕ) × (w.space.first (entity_key e (slice_get w.trees.entities e)) ≡ Some first)
    × IsUnder S first location

-- a location that the place of a node has, at the type at which the node reads or writes it
abbrev pub IsAccessed : Setting → System → Family → Access → Node → ℕ → Type 0
IsAccessed w S F access node location =
    (p : ℕ) × (place_of access node.kind node.children ≡ Some p)
    × IsReachedBy S F
    (Some (type_number (accessed node.kind (type_of w.trees.types node.ty.0))))
    (row w.trees w.space p)
    location

-- a location of the object that a node fills
abbrev pub IsFilled : Setting → System → Access → NodeKind → ℕ → Type 0
IsFilled w S access kind location = (e : ℕ) × (filled_by access kind ≡ Some e) × IsOfEntity w S e location

-- the core node of number n reads or writes the location: one that its place has, one of the object that it fills, or
-- one of the arguments that it may take
abbrev pub NodeTouches : Setting → System → Family → Access → ℕ → Node → ℕ → Type 0
NodeTouches w S F access n node location =
    IsAccessed w S F access node location
    ⊎ (IsFilled w S access node.kind location ⊎ IsTaken w F access n node.kind location)

-- the core node of number n stands in the body of the function of number f, which stands at its entity's location
pub record IsInBody (w : Setting) (S : System) (f n : ℕ) : Type 0 where
  pub entity : ℕ
  pub around : slice_get w.owners n ≡ Some (Some entity)
  pub function : Function
  pub known : slice_get S.functions f ≡ Some function
  pub stands : w.space.first (EntityKey entity) ≡ Some function.location

-- the core node of number n stands in the function's body, and reads or writes the location
pub record OwnTouches (w : Setting) (S : System) (F : Family) (access : Access) (n f location : ℕ) : Type 0 where
  pub node : Node
  pub there : slice_get w.trees.nodes n ≡ Some node
  pub inside : IsInBody w S f n
  pub touches : NodeTouches w S F access n node location

-- some core node does
abbrev pub BodyTouches : Setting → System → Family → Access → ℕ → ℕ → Type 0
BodyTouches w S F access f location = (n : ℕ) × OwnTouches w S F access n f location

-- ---- calls of the library
-- a library function that the call reaches
pub record IsLibraryTarget (S : System) (F : Family) (call : CallSite) (number : ℕ) (function : Function) : Type 0 where
  pub target : IsTarget S F call number function
  pub library : IsSome function.library

-- a node under a location that an argument has
pub record IsInArguments (S : System) (F : Family) (call : CallSite) (location : ℕ) : Type 0 where
  pub rows : List ℕ
  pub argument : Contains call.arguments rows
  pub row : ℕ
  pub listed : Contains rows row
  pub reached : IsReachedBy S F None row location

-- the function with that number among the library's names is __ctype_b_loc, and the location is <ctypes>, the table of
-- the classes of characters, to which it leads
abbrev pub IsClassTable : SpaceView → Option ℕ → ℕ → Type 0
IsClassTable s library location = (library ≡ Some 53) × (s.first (Library 8) ≡ Some location)

-- a node of the object that the call gets from a library function, or the table of classes that the function makes
abbrev pub IsMade : SpaceView → System → CallSite → ℕ → Function → ℕ → Type 0
IsMade s S call number function location =
    ((object : ℕ) × Contains call.fresh (number, object) × IsUnder S object location)
    ⊎ IsClassTable s function.library location

-- only a write
abbrev pub IsWrite : Access → Type 0
IsWrite Read = ⊥
IsWrite Write = ⊤

-- a call that reaches a library function reads and writes what its arguments lead to, and writes what it is given
abbrev pub CallTouches : SpaceView → System → Family → Access → CallSite → ℕ → Type 0
CallTouches s S F access call location =
    (number : ℕ) × (function : Function) × IsLibraryTarget S F call number function
    × (IsInArguments S F call location ⊎ (IsWrite access × IsMade s S call number function location))

-- a call of the function does
pub record CallsTouch (w : Setting) (S : System) (F : Family) (access : Access) (f location : ℕ) : Type 0 where
  pub call : CallSite
  pub there : Contains S.calls call
  pub caller : call.caller ≡ f
  pub touches : CallTouches w.space S F access call location

-- ---- both
-- the function of number f itself reads or writes the location
abbrev pub Touches : Setting → System → Family → Access → ℕ → ℕ → Type 0
Touches w S F access f location = BodyTouches w S F access f location ⊎ CallsTouch w S F access f location
