use Rattle.std.proofs.Common.{◌≡◌, ◌++◌, List, map, reverse, length}
use Rattle.c_inits.specs.declared.items.InitAction.{InitAction}
use Rattle.c_inits.specs.Items.{placed_of, action_of}
use Rattle.c_inits.proofs.Lasting.{Knows, survivors}
use Rattle.c_inits.proofs.items.lasting_items.Given as goal

-- some last actions are taken in: the set knows what they clear, and the items are those of them that last, backwards
abbrev pub invariant-loop-action : goal.invariant-loop-action
invariant-loop-action l =
    (done : List InitAction)
    × (l.rest.items ++ done ≡ l.fn.actions.items)
    × Knows l.cleared (map action_of done)
    × (map placed_of l.items.items ≡ reverse (survivors (map action_of done)))

abbrev pub decreases-loop-action : goal.decreases-loop-action
decreases-loop-action l = length l.rest.items
