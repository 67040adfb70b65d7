-- Where an item of a braced list is placed.
use Rattle.std.specs.Prelude.{ℕ, Bool, true, false, Option, Some, None}
use Rattle.c_types.specs.Table.{Table, type_of}
use Rattle.c_inits.specs.declared.cursor.Expression.{Expression}
use Rattle.c_inits.specs.Shapes.{Path, SubObject}
use Rattle.c_inits.specs.Initial.{Start, At, Nothing, first_fit, first_of}

-- the place of the item before, where there is one
abbrev pub before_of : (started : Bool) → Path → Option Path
before_of true path = Some path
before_of false path = None

-- a sub-object, or the node that has no place
pub data Placing : Type 0 where
  OnPlace : SubObject → Placing
  NoWhere : (node : ℕ) → Placing

abbrev pub or_nowhere : ℕ → Option SubObject → Placing
or_nowhere node None = NoWhere node
or_nowhere node (Some s) = OnPlace s

-- an expression has the first that it initialises, a braced list the first of all
abbrev pub placing : Table → (node : ℕ) → Option Expression → Start → Placing
placing table node value (Nothing bad) = NoWhere bad
placing table node None (At subs) = or_nowhere node (first_of subs)
placing table node (Some e) (At subs) = or_nowhere node (first_fit (type_of table e.ty.0) e.text subs)
