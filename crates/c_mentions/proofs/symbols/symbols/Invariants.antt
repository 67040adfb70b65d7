use Rattle.std.proofs.Common.{◌≡◌, ◌<◌, ℕ, List, length, take, get_or}
use Rattle.c_mentions.specs.Symbols.{known, first_token, symbol_of}
use Rattle.c_mentions.specs.Recent.{Recent}
use Rattle.c_mentions.proofs.symbols.symbols.Given as goal

abbrev pub invariant-loop-token : goal.invariant-loop-token
invariant-loop-token l =
    ((other : List ℕ) → known l.firsts other ≡ first_token l.text (take l.token l.tokens) other)
    × Recent l.text l.tokens (known l.firsts) l.recent.items
    × (length l.symbols.items ≡ l.token)
    × ((k : ℕ) → k < l.token → get_or l.symbols.items k 0 ≡ symbol_of l.text l.tokens k)
