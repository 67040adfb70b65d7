-- Frames, one of which has other items.
use Rattle.std.specs.Prelude.{ℕ, zero, suc, List, [], ◌∷◌}
use Rattle.ref_state.specs.declared.items.Item.{Item}
use Rattle.ref_state.specs.declared.frames.Frame.{Frame}

-- the items of the k-th frame are changed
abbrev pub items_at : (List Item → List Item) → ℕ → List Frame → List Frame
items_at change k [] = []
items_at change zero (f ∷ rest) = record f { items = change f.items } ∷ rest
items_at change (suc k) (f ∷ rest) = f ∷ items_at change k rest

-- another item in place of the top one
abbrev pub with_top : Item → List Item → List Item
with_top item [] = []
with_top item (top ∷ rest) = item ∷ rest
