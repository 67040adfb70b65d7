use Rattle.std.proofs.Common.{◌≡◌, ◌++◌, map}
use Rattle.c_inits.specs.Initial.{acts_under, characters}
use Rattle.c_inits.specs.Items.{action_of}
use Rattle.c_inits.proofs.filling.put_characters.Given as goal

-- the characters before this one are put
abbrev pub invariant-loop-k : goal.invariant-loop-k
invariant-loop-k l = map action_of l.actions.items ≡ map action_of l.initial.actions.items ++ map (acts_under l.path) (characters l.node 0 l.k)
