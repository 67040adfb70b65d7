use Rattle.std.proofs.Common.{◌≡◌, ◌++◌, ℕ, List}
use Rattle.c_mentions.specs.Settings.{IsChain}
use Rattle.name_chains.proofs.scopes.scopes_from.Given as goal

-- what is listed and the scopes from here outwards are all
abbrev pub invariant-loop-here : goal.invariant-loop-here
invariant-loop-here l = (chain : List ℕ) → IsChain l.scopes l.place chain → (rest : List ℕ) × IsChain l.scopes l.at rest × (chain ≡ l.list.items ++ rest)

abbrev pub decreases-loop-here : goal.decreases-loop-here
decreases-loop-here l = l.at
