-- What a frame has still to do, the top item first.
use Rattle.std.specs.Prelude.{ℕ, ◌-◌, List, [], ◌∷◌, ◌++◌, Option, Some, None, take, drop, remove, length}
use Rattle.std.specs.Prelude.{slice_get, slice_set}
use Rattle.ref_cells.specs.declared.cells.Value.{Value}
use Rattle.ref_state.specs.declared.items.Item.{Item}
use Rattle.ref_state.specs.declared.items.Item.TheVariants.{Do, Wait}
use Rattle.ref_state.specs.Values.{no_value}

-- an item that waits takes the value of a node; another one lets it go
abbrev pub given : ℕ → Value → Item → Item
given n v (Wait m left values) = Wait m left (values ++ (n, v) ∷ [])
given n v item = item

-- a value goes to the top item
abbrev pub deliver : ℕ → Value → List Item → List Item
deliver n v [] = []
deliver n v (item ∷ rest) = given n v item ∷ rest

-- the top item is done: the value of its node goes to the item below
abbrev pub settled : ℕ → Value → List Item → List Item
settled n v items = deliver n v (drop 1 items)

-- the operands that are left to an item
abbrev pub left_of : Item → List ℕ
left_of (Wait n left values) = left
left_of item = []

abbrev pub values_of : Item → List (ℕ × Value)
values_of (Wait n left values) = values
values_of item = []

-- the values that the top item has
abbrev pub top_values : List Item → List (ℕ × Value)
top_values [] = []
top_values (item ∷ rest) = values_of item

-- the operands that are left to the top item
abbrev pub top_left : List Item → List ℕ
top_left [] = []
top_left (item ∷ rest) = left_of item

-- an item with these operands left
abbrev pub with_left : List ℕ → Item → Item
with_left others (Wait n left values) = Wait n others values
with_left others item = item

-- one operand less
abbrev pub less : ℕ → Item → Item
less i item = with_left (remove (left_of item) i) item

abbrev pub taken_from : ℕ → Item → List Item → Option ℕ → List Item
taken_from i item rest None = item ∷ rest
taken_from i item rest (Some c) = Do c ∷ less i item ∷ rest

-- the i-th operand of the top item is done next
abbrev pub operand_taken : ℕ → List Item → List Item
operand_taken i [] = []
operand_taken i (item ∷ rest) = taken_from i item rest (slice_get (left_of item) i)

-- items put in place of so many at the top
abbrev pub replaced : ℕ → List Item → List Item → List Item
replaced off on items = on ++ drop off items

-- the item below the top one is changed
abbrev pub on_second : (Item → Item) → List Item → List Item
on_second change [] = []
on_second change (top ∷ []) = top ∷ []
on_second change (top ∷ item ∷ rest) = top ∷ change item ∷ rest

-- How the code gives a value that isn't there yet: a place for it is opened below the top item, and then filled or
-- shut.

abbrev pub opened : ℕ → List Item → List Item
opened n [] = []
opened n (top ∷ rest) = top ∷ deliver n no_value rest

abbrev pub put_last : Value → List (ℕ × Value) → Option (ℕ × Value) → List (ℕ × Value)
put_last v values None = values
put_last v values (Some e) = slice_set values (length values - 1) (e.0, v)

abbrev pub filled : Value → Item → Item
filled v (Wait n left values) = Wait n left (put_last v values (slice_get values (length values - 1)))
filled v item = item

abbrev pub below_filled : Value → List Item → List Item
below_filled v [] = []
below_filled v (top ∷ []) = []
below_filled v (top ∷ item ∷ rest) = filled v item ∷ rest

abbrev pub shut : Item → Item
shut (Wait n left values) = Wait n left (take (length values - 1) values)
shut item = item

abbrev pub below_shut : List Item → List Item
below_shut [] = []
below_shut (top ∷ []) = top ∷ []
below_shut (top ∷ item ∷ rest) = top ∷ shut item ∷ rest
