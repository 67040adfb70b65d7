-- The numbers of structures and unions in the order of their first specifiers (C11 6.7.2.3).
use Rattle.std.specs.Prelude.{ℕ, ◌≡◌, ◌==◌, Bool, ◌&&◌, not, nat_lt, Option, List, length, position, unwrap_or}
use Rattle.std.specs.Prelude.{if◌then◌else◌}
use Rattle.c_grammar.specs.Productions.{p_struct}
use Rattle.c_senses.specs.Tree.{Source, is_a, any_where, all_where, numbers_from}
use Rattle.c_senses.specs.Tags.{tag_declared}

-- a specifier of a structure or union before which none has the same tag
abbrev pub is_first : Source → ℕ → Bool
is_first s i =
    is_a s p_struct i
    && not (any_where (λ j. is_a s p_struct j && (tag_declared s j == tag_declared s i)) (numbers_from 0 i))

-- those among so many nodes, in order
abbrev pub first_specifiers : Source → ℕ → List ℕ
first_specifiers s n = all_where (is_first s) (numbers_from 0 n)

-- the place of a tag's first specifier among those of all tags, by the node by which the tag is known
abbrev pub place_of_tag : Source → ℕ → Option ℕ
place_of_tag s d = position (λ i. tag_declared s i == d) (first_specifiers s (length s.nodes))

-- that is the number of a tag; a node by which no tag is known has 0, and what is no node has itself
abbrev pub number_of_tag : Source → ℕ → ℕ
number_of_tag s d = if nat_lt d (length s.nodes) then unwrap_or (place_of_tag s d) 0 else d

pub record AreInOrder (s : Source) : Type 0 where
  pub each : (d : ℕ) → s.tag_number d ≡ number_of_tag s d
