-- The rows machine. A state is a family of sets and a mark; an event adds one fact, sets the mark, or only looks.
use Rattle.std.specs.Prelude.{◌≡◌, ℕ, Bool, true, false, ◌&&◌, ◌||◌, ◌==◌, List, [], ◌∷◌, ◌++◌}
use Rattle.sol_model.specs.declared.system.System.{System}
use Rattle.sol_model.specs.Families.{Family, IsInside, members}
use Rattle.sol_model.specs.Solutions.{IsClosed, IsBelow, IsLeast, IsGiven}
use Rattle.sol_model.specs.Systems.{IsValid}
use Rattle.set_rows.specs.declared.rows_core.event.Event.{Event}
use Rattle.set_rows.specs.declared.rows_core.event.Event.TheVariants.{Or, Shut, Look}
use Rattle.set_rows.specs.declared.rows_core.event.RowsState.{RowsState}

pub record Machine : Type 0 where
  pub rows : Family
  pub shut : Bool

abbrev pub start : Machine
start = record { rows = λ row location. false; shut = false }

-- the machine's state that a value is
abbrev pub machine_of : RowsState → Machine
machine_of state = record { rows = members state.rows; shut = state.shut }

abbrev pub with_fact : Family → ℕ → ℕ → Family
with_fact F r l = λ row location. F row location || ((row == r) && (location == l))

-- a fact is licensed where one constraint demands it from facts in the rows, and the mark where the rows are closed
abbrev pub Licensed : System → Machine → Event → Type 0
Licensed S m (Or row location) = IsGiven S m.rows row location
Licensed S m Shut = IsClosed S m.rows
Licensed S m Look = Unit {0}

abbrev pub next : Machine → Event → Machine
next m (Or row location) = record { rows = with_fact m.rows row location; shut = m.shut }
next m Shut = record { rows = m.rows; shut = true }
next m Look = m

abbrev pub run : Machine → List Event → Machine
run m [] = m
run m (e ∷ es) = run (next m e) es

-- each event is licensed when it comes
abbrev pub AllLicensed : System → Machine → List Event → Type 0
AllLicensed S m [] = Unit {0}
AllLicensed S m (e ∷ es) = Licensed S m e × AllLicensed S (next m e) es

abbrev pub RowsStayBelow : Type 0
RowsStayBelow = (S : System) (es : List Event) → IsValid S → AllLicensed S start es → IsBelow S (run start es).rows

abbrev pub RowsOnlyGrow : Type 0
RowsOnlyGrow =
    (S : System) (es : List Event) (e : Event)
    → IsValid S
    → AllLicensed S start (es ++ e ∷ [])
    → IsInside (run start es).rows (run start (es ++ e ∷ [])).rows

abbrev pub ShutRowsAreLeast : Type 0
ShutRowsAreLeast = (S : System) (es later : List Event) → IsValid S → AllLicensed S start (es ++ Shut ∷ later)
    → IsLeast S (run start (es ++ Shut ∷ [])).rows
    × ((run start (es ++ Shut ∷ later)).rows ≡ (run start (es ++ Shut ∷ [])).rows)
