-- Levels of expressions that are open one within the other, each as the first part of the one before.
use Rattle.std.specs.Prelude.{ℕ, zero, suc, ◌+◌, ◌-◌, Bool, ◌&&◌, nat_le, nat_lt}
use Rattle.std.specs.Prelude.{if◌then◌else◌}
use Rattle.c_grammar.specs.Productions.{p_expression, p_cast}
use Rattle.c_grammar.specs.Tree.{nests}
use Rattle.c_parser.specs.Lone.{ends_within}

-- a production is a level within others, from an outermost one on
unfoldable pub is_run : ℕ → ℕ → Bool
is_run outermost production =
    nat_le p_expression outermost && (nat_lt outermost production && nat_le production p_cast)

-- how many levels are open outside of a production, from an outermost one on
abbrev pub outside : ℕ → ℕ → ℕ
outside outermost production = if is_run outermost production then production - outermost else 0

-- how many constructs nest from a level on, so many levels outwards
abbrev pub nested : ℕ → ℕ → ℕ
nested zero level = nests level
nested (suc n) level = nests level + nested n (level - 1)

-- a level is opened with all levels within it, down to a cast; they nest three deep
unfoldable pub is_chained : ℕ → ℕ → Bool
is_chained production depth =
    nat_le p_expression production && (nat_lt production p_cast && nat_le depth 253)

-- a level ends behind its first part at a terminal
unfoldable pub stays : ℕ → ℕ → ℕ → Bool
stays level first depth = ends_within level first && nat_le depth 256
