-- Which nodes are those by which tags are known.
use Rattle.std.specs.Prelude.{ℕ, ◌≡◌, ◌==◌, Bool, false, ◌&&◌, List, length, get_or}
use Rattle.c_grammar.specs.Productions.{p_struct}
use Rattle.c_senses.specs.Tree.{Source, is_a, any_where, numbers_from}
use Rattle.c_senses.specs.Tags.{tag_declared}

-- one of the first so many nodes is a specifier whose tag is known by the node
abbrev pub is_tag_below : Source → ℕ → ℕ → Bool
is_tag_below s count d = any_where (λ i. is_a s p_struct i && (tag_declared s i == d)) (numbers_from 0 count)

abbrev pub FlagsBelow : Source → ℕ → List Bool → Type 0
FlagsBelow s count flags = (d : ℕ) → get_or flags d false ≡ is_tag_below s count d

-- a flag for each node, and none for another number
pub record AreFlags (s : Source) (flags : List Bool) : Type 0 where
  pub long : length flags ≡ length s.nodes
  pub each : FlagsBelow s (length s.nodes) flags
