-- Items stay stacked, whatever a step adds to the memory.
use Rattle.std.proofs.Common.{inl, inr, ℕ, List, [], ◌∷◌}
use Rattle.core_tree.specs.Typed.{type_at}
use Rattle.ref_cells.specs.declared.cells.Value.{Value}
use Rattle.ref_cells.specs.declared.instance.Instance.{Instance}
use Rattle.ref_state.specs.declared.items.Item.{Item}
use Rattle.ref_state.specs.declared.items.Item.TheVariants.{Do, Wait, Library, Result as Returned}
use Rattle.ref_state.specs.declared.frames.Frame.{Frame}
use Rattle.covering_laws.specs.covered_memory.Covered.{Extends}
use Rattle.covering_laws.proofs.covered_memory.Stays.{value_stays}
use Rattle.covering_laws.specs.covered_rows.Nodes.{node_row}
use Rattle.covering_laws.specs.covered_state.World.{World, trees_of, sets_of, setting_in}
use Rattle.covering_laws.specs.covered_state.Items.{ArgumentsIn}
use Rattle.covering_laws.proofs.covered_state.Stays.{back_stays}
use Rattle.covered_runs.specs.covered_steps.covered_statements.Stacked.{PendingOn, Stacked, FramesStand}

module _ (world : World) (old new : List Instance) (extends : Extends (sets_of world) old new) where
  arguments_stay : (nodes : List ℕ) (values : List Value) → ArgumentsIn world old nodes values → ArgumentsIn world new nodes values
  arguments_stay [] values h = tt
  arguments_stay (a ∷ nodes) [] h = tt
  arguments_stay (a ∷ nodes) (v ∷ values) h = (value_stays (sets_of world) old new extends (node_row (setting_in world) a) (type_at (trees_of world) a) v h.0, arguments_stay nodes values h.1)

  pub pending_stays : (n function : ℕ) (arguments : List Value) (items : List Item) → PendingOn world old n function arguments items → PendingOn world new n function arguments items
  pending_stays n function arguments items (inl h) =
      inl (h.0, record { node = h.1.node; there = h.1.there; target = h.1.target; fits = h.1.fits; arguments_in = arguments_stay _ arguments h.1.arguments_in; all = h.1.all })
  pending_stays n function arguments items (inr h) = inr (h.0, back_stays world old new extends n function arguments h.1)

  pub stacked_stays : (items : List Item) → Stacked (trees_of world).nodes (PendingOn world old) items → Stacked (trees_of world).nodes (PendingOn world new) items
  stacked_stays [] h = tt
  stacked_stays (Do n ∷ rest) h = (tt, h.1, stacked_stays rest h.2)
  stacked_stays (Wait n left values ∷ rest) h = (h.0, h.1, stacked_stays rest h.2)
  stacked_stays (Library n function arguments ∷ rest) h = (pending_stays n function arguments rest h.0, h.1, stacked_stays rest h.2)
  stacked_stays (Returned v ∷ rest) h = (tt, tt, stacked_stays rest h.2)

  pub frames_stacked : (frames : List Frame) → FramesStand world old frames → FramesStand world new frames
  frames_stacked [] h = tt
  frames_stacked (f ∷ rest) h = (stacked_stays f.items h.0, h.1, frames_stacked rest h.2)
