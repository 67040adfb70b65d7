use Rattle.std.proofs.Common.{◌≡◌, ◌+◌, ◌*◌, ◌++◌, [], List, map, drop, false, None}
use Rattle.c_inits.specs.Initial.{Action, and_rest, acts_under, listed}
use Rattle.c_inits.specs.Items.{action_of}
use Rattle.c_inits.specs.Tables.{type_shape}
use Rattle.c_inits.specs.Cursor.{Stands, path_of}
use Rattle.c_inits.specs.Places.{before_of}
use Rattle.c_initialise.specs.c_braces.Tree.{init_at, items_over}
use Rattle.c_initialise.proofs.c_braces.lists.+filling.Given as goal

-- the actions of the items so far are put, and what is left of the list goes on behind the last place
abbrev pub invariant-fill_list-loop-entry : goal.invariant-fill_list-loop-entry
invariant-fill_list-loop-entry l = record {
  done : (actions : List Action)
      × (listed (type_shape l.walk.types.now l.walk.limit l.fn.id.0) None (items_over (init_at l.walk.types.now l.walk.inits.now) l.items)
      ≡ and_rest actions (listed (type_shape l.walk.types.now l.walk.limit l.fn.id.0) (before_of l.started (path_of l.frames.items)) (items_over (init_at l.walk.types.now l.walk.inits.now) (drop l.entry-index l.items))))
      × (map action_of l.actions.items ≡ map action_of l.initial.actions.items ++ map (acts_under l.path) actions);
  stands : Stands l.walk.types.now l.walk.limit (type_shape l.walk.types.now l.walk.limit l.fn.id.0) l.frames.items;
  fresh : l.started ≡ false → l.frames.items ≡ [];
}

abbrev pub decreases-fill : goal.decreases-fill
decreases-fill l = 3 * l.at + 2

abbrev pub decreases-fill_list : goal.decreases-fill_list
decreases-fill_list l = 3 * l.at + 1

abbrev pub decreases-fill_item : goal.decreases-fill_item
decreases-fill_item l = 3 * l.entry.now.init + 3
