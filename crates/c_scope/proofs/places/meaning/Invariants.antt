use Rattle.std.proofs.Common.{◌≡◌, ℕ, List, Option}
use Rattle.c_mentions.specs.Settings.{IsChain}
use Rattle.c_scope.specs.declared.places.Found.{Found}
use Rattle.c_scope.specs.declared.kinds.Declared.{Declared}
use Rattle.c_scope.specs.Known.{innermost}
use Rattle.c_scope.specs.Places.{Says, found_of}
use Rattle.c_scope.proofs.places.meaning.Given as goal

-- what is found from this scope outwards is found from the first one
abbrev pub invariant-loop-here : goal.invariant-loop-here
invariant-loop-here l = (chain : List ℕ) (ds : List Declared) → IsChain l.scopes l.scope chain → Says l.places ds → (r : Option Found)
    → ((rest : List ℕ) → IsChain l.scopes l.place rest → r ≡ found_of (innermost rest l.symbol ds)) → r ≡ found_of (innermost chain l.symbol ds)

abbrev pub decreases-loop-here : goal.decreases-loop-here
decreases-loop-here l = l.place
