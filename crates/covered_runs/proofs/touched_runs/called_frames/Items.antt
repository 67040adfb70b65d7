-- Items stay layered where a value goes to the top one, where an operand is taken, and where others that call nothing come on top.
use Rattle.std.proofs.Common.{ℕ, zero, suc, List, [], ◌∷◌, ◌++◌, drop, Option, Some, None, slice_get}
use Rattle.c_types.specs.declared.key.ObjectKey.{ObjectKey}
use Rattle.ref_cells.specs.declared.cells.Value.{Value}
use Rattle.ref_state.specs.declared.items.Item.{Item}
use Rattle.ref_state.specs.declared.items.Item.TheVariants.{Do, Wait, Library, Result as Returned}
use Rattle.ref_state.specs.Items.{deliver, settled, left_of, taken_from, operand_taken}
use Rattle.covering_laws.specs.covered_state.Items.{Each}
use Rattle.covered_runs.specs.touched_runs.called_frames.Layers.{AreLayered}

-- an item that is no call of the library
abbrev pub IsNoCall : Item → Type 0
IsNoCall (Library n k arguments) = ⊥
IsNoCall item = Unit {0}

module _ (f : ObjectKey) where
  layered_rest : (item : Item) (rest : List Item) → AreLayered f (item ∷ rest) → AreLayered f rest
  layered_rest (Do n) rest h = h
  layered_rest (Wait n left values) rest h = h
  layered_rest (Library n k arguments) rest h = h.1
  layered_rest (Returned v) rest h = h

  pub layered_drop : (k : ℕ) (items : List Item) → AreLayered f items → AreLayered f (drop k items)
  layered_drop zero items h = h
  layered_drop (suc k) [] h = tt
  layered_drop (suc k) (item ∷ rest) h = layered_drop k rest (layered_rest item rest h)

  layered_given : (n : ℕ) (v : Value) (items : List Item) → AreLayered f items → AreLayered f (deliver n v items)
  layered_given n v [] h = tt
  layered_given n v (Do m ∷ rest) h = h
  layered_given n v (Wait m left values ∷ rest) h = h
  layered_given n v (Library m k arguments ∷ rest) h = h
  layered_given n v (Returned r ∷ rest) h = h

  pub layered_settled : (n : ℕ) (v : Value) (items : List Item) → AreLayered f items → AreLayered f (settled n v items)
  layered_settled n v items h = layered_given n v (drop 1 items) (layered_drop 1 items h)

  layered_from : (i : ℕ) (item : Item) (rest : List Item) (o : Option ℕ) → AreLayered f (item ∷ rest) → AreLayered f (taken_from i item rest o)
  layered_from i item rest None h = h
  layered_from i (Do m) rest (Some c) h = h
  layered_from i (Wait m left values) rest (Some c) h = h
  layered_from i (Library m k arguments) rest (Some c) h = h
  layered_from i (Returned v) rest (Some c) h = h

  pub layered_taken : (i : ℕ) (items : List Item) → AreLayered f items → AreLayered f (operand_taken i items)
  layered_taken i [] h = tt
  layered_taken i (item ∷ rest) h = layered_from i item rest (slice_get (left_of item) i) h

  pub layered_on : (on items : List Item) → Each IsNoCall on → AreLayered f items → AreLayered f (on ++ items)
  layered_on [] items h g = g
  layered_on (Do n ∷ rest) items h g = layered_on rest items h.1 g
  layered_on (Wait n left values ∷ rest) items h g = layered_on rest items h.1 g
  layered_on (Library n k arguments ∷ rest) items h g = absurd h.0
  layered_on (Returned v ∷ rest) items h g = layered_on rest items h.1 g
