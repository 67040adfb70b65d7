-- An item or a frame that a step doesn't touch stays covered, and the item that takes a covered value is covered.
use Rattle.std.proofs.Common.{inl, inr, ℕ, List, [], ◌∷◌, ◌++◌, Some}
use Rattle.c_types.specs.declared.key.ObjectKey.{ObjectKey}
use Rattle.c_types.specs.declared.key.ObjectKey.TheVariants.{Entity as EntityKey, Text as TextKey, Call as CallKey, Library as LibraryKey, Star as StarKey, Function as FunctionKey}
use Rattle.c_types.specs.declared.key.ObjectKey.TheVariants.{Varargs as VarargsKey, Outside as OutsideKey}
use Rattle.c_types.specs.declared.term.TypeId.{TypeId}
use Rattle.core_tree.specs.Typed.{Sort, NoNode, PlaceNode, ValueNode, StatementNode, sort_at, type_at}
use Rattle.row_numbers.specs.Kept.{kept_row}
use Rattle.row_numbers.specs.Functions.{number_of}
use Rattle.row_numbers.specs.Setting.{result_row}
use Rattle.ref_cells.specs.declared.cells.Cell.{Cell}
use Rattle.ref_cells.specs.declared.cells.Cell.TheVariants.{Unset, Number, Null, Pointer, Function}
use Rattle.ref_cells.specs.declared.cells.Value.{Value}
use Rattle.ref_cells.specs.declared.instance.Instance.{Instance}
use Rattle.ref_state.specs.declared.items.Item.{Item}
use Rattle.ref_state.specs.declared.items.Item.TheVariants.{Do, Wait, Library, Result}
use Rattle.ref_state.specs.declared.frames.Frame.{Frame}
use Rattle.ref_state.specs.Items.{given, deliver, settled}
use Rattle.ref_state.specs.Values.{cell_of}
use Rattle.normal_form.specs.Assignments.{row_in, given_type, type_nodes}
use Rattle.covering_laws.specs.covered_memory.Cells.{EachCell}
use Rattle.covering_laws.specs.covered_memory.Covered.{Sets, Extends, outside_row}
use Rattle.covering_laws.proofs.covered_memory.Cells.{each_change as cells_change}
use Rattle.covering_laws.proofs.covered_memory.Stays.{cell_stays, value_stays}
use Rattle.covering_laws.specs.covered_rows.Nodes.{node_row}
use Rattle.covering_laws.specs.covered_state.World.{World, trees_of, view_in, sets_of, setting_in}
use Rattle.covering_laws.specs.covered_state.Items.{Each, SortIn, NodeIn, ReturnedIn, ArgumentsIn, ExistsIn, IsPendingBack, ItemIn}
use Rattle.covering_laws.specs.covered_state.State.{FrameIn, HandedIn}

pub each_change : {X : Type 0} (P Q : X → Type 0) → ((x : X) → P x → Q x) → (xs : List X) → Each P xs → Each Q xs
each_change P Q f [] h = tt
each_change P Q f (x ∷ xs) h = (f x h.0, each_change P Q f xs h.1)

pub each_append : {X : Type 0} (P : X → Type 0) (xs ys : List X) → Each P xs → Each P ys → Each P (xs ++ ys)
each_append P [] ys h g = g
each_append P (x ∷ xs) ys h g = (h.0, each_append P xs ys h.1 g)

module _ (world : World) (old new : List Instance) (extends : Extends (sets_of world) old new) where
  abbrev g : Sets
  g = sets_of world

  sort_stays : (sort : Sort) (n : ℕ) (v : Value) → SortIn world old sort n v → SortIn world new sort n v
  sort_stays NoNode n v h = h
  sort_stays PlaceNode n v h = (cell_stays g old new extends (Some (row_in (setting_in world) n)) (cell_of v) h.0, h.1)
  sort_stays ValueNode n v h = (value_stays g old new extends (node_row (setting_in world) n) (type_at (trees_of world) n) v h.0, h.1)
  sort_stays StatementNode n v h = h

  pub node_stays : (n : ℕ) (v : Value) → NodeIn world old n v → NodeIn world new n v
  node_stays n v h = sort_stays (sort_at (trees_of world) n) n v h

  returned_stays : (f : ObjectKey) (v : Value) → ReturnedIn world old f v → ReturnedIn world new f v
  returned_stays (EntityKey f) v h =
      value_stays g old new extends
      (kept_row (result_row (trees_of world) (view_in world) (number_of (trees_of world) (view_in world) f)) (type_nodes (setting_in world) (given_type (setting_in world) f))) (given_type (setting_in world) f) v h
  returned_stays (TextKey n) v h = absurd h
  returned_stays (CallKey n) v h = absurd h
  returned_stays (LibraryKey n) v h = absurd h
  returned_stays (StarKey n) v h = absurd h
  returned_stays OutsideKey v h = absurd h
  returned_stays (VarargsKey n) v h = absurd h
  returned_stays (FunctionKey n) v h = absurd h

  arguments_stay : (nodes : List ℕ) (values : List Value) → ArgumentsIn world old nodes values → ArgumentsIn world new nodes values
  arguments_stay [] values h = tt
  arguments_stay (a ∷ nodes) [] h = tt
  arguments_stay (a ∷ nodes) (v ∷ values) h = (value_stays g old new extends (node_row (setting_in world) a) (type_at (trees_of world) a) v h.0, arguments_stay nodes values h.1)

  exists_stays : (c : Cell) → ExistsIn world old c → ExistsIn world new c
  exists_stays (Pointer i path past) h = let b = extends i h.0 h.1 in (b.0, b.1, b.2.in_tree path h.2)
  exists_stays (Function key) h = tt
  exists_stays Unset h = tt
  exists_stays (Number n) h = tt
  exists_stays Null h = tt

  pub back_stays : (n function : ℕ) (arguments : List Value) → IsPendingBack world old n function arguments → IsPendingBack world new n function arguments
  back_stays n function arguments h = record {
    library = h.library;
    back = h.back;
    called = h.called;
    exist = each_change (λ v. EachCell (λ path cell. ExistsIn world old cell) v.cells) (λ v. EachCell (λ path cell. ExistsIn world new cell) v.cells)
        (λ v x. cells_change (λ path cell. ExistsIn world old cell) (λ path cell. ExistsIn world new cell) v.cells (λ path cell y. exists_stays cell y) x) arguments h.exist;
  }

  pub item_stays : (f : ObjectKey) (item : Item) → ItemIn world old f item → ItemIn world new f item
  item_stays f (Do n) h = h
  item_stays f (Wait n left values) h = (h.0, h.1, each_change (λ v. NodeIn world old v.0 v.1) (λ v. NodeIn world new v.0 v.1) (λ v. node_stays v.0 v.1) values h.2)
  item_stays f (Library n function arguments) (inl h) = inl (record { node = h.node; there = h.there; target = h.target; fits = h.fits; arguments_in = arguments_stay _ arguments h.arguments_in; all = h.all })
  item_stays f (Library n function arguments) (inr h) = inr (back_stays n function arguments h)
  item_stays f (Result v) h = returned_stays f v h

  pub items_stay : (f : ObjectKey) (items : List Item) → Each (ItemIn world old f) items → Each (ItemIn world new f) items
  items_stay f items h = each_change (ItemIn world old f) (ItemIn world new f) (item_stays f) items h

  -- What a step doesn't touch stays covered.
  pub frame_stays : (f : Frame) → FrameIn world old f → FrameIn world new f
  frame_stays f h = record { called = h.called; back = h.back; entered = h.entered; items = items_stay f.function f.items h.items }

  pub frames_stay : (frames : List Frame) → Each (FrameIn world old) frames → Each (FrameIn world new) frames
  frames_stay frames h = each_change (FrameIn world old) (FrameIn world new) frame_stays frames h

  pub handed_stay : (handed : List (TypeId × Cell)) → Each (HandedIn world old) handed → Each (HandedIn world new) handed
  handed_stay handed h = each_change (HandedIn world old) (HandedIn world new) (λ entry x. cell_stays g old new extends (outside_row g) entry.1 x) handed h

-- a covered value goes to the item below
module _ (world : World) (memory : List Instance) (f : ObjectKey) where
  given_in : (n : ℕ) (v : Value) (item : Item) → NodeIn world memory n v → ItemIn world memory f item → ItemIn world memory f (given n v item)
  given_in n v (Wait m left values) h i = (i.0, i.1, each_append (λ e. NodeIn world memory e.0 e.1) values ((n, v) ∷ []) i.2 (h, tt))
  given_in n v (Do m) h i = i
  given_in n v (Library m function arguments) h i = i
  given_in n v (Result r) h i = i

  pub deliver_in : (n : ℕ) (v : Value) (items : List Item) → NodeIn world memory n v → Each (ItemIn world memory f) items → Each (ItemIn world memory f) (deliver n v items)
  deliver_in n v [] h i = tt
  deliver_in n v (item ∷ rest) h i = (given_in n v item h i.0, i.1)

  -- The step that computes a node: its covered value goes to the item below.
  pub settled_in : (n : ℕ) (v : Value) (items : List Item) → NodeIn world memory n v → Each (ItemIn world memory f) items → Each (ItemIn world memory f) (settled n v items)
  settled_in n v [] h i = tt
  settled_in n v (item ∷ rest) h i = deliver_in n v rest h i.1
