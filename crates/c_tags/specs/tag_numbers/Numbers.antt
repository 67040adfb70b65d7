-- Numbers of structures and unions, in the order of their first specifiers.
use Rattle.std.specs.Prelude.{ℕ, ◌≡◌, ◌<◌, ◌≤◌, ◌==◌, Bool, true, false, ◌&&◌, Option, Some, None, is_some, is_none}
use Rattle.std.specs.Prelude.{unwrap_or, List, length, slice_index, get_or}
use Rattle.tree_reads.specs.leaf_maps.Numbers.{number_at}
use Rattle.c_grammar.specs.Productions.{p_struct, p_members}
use Rattle.c_senses.specs.Tree.{Source, is_a, any_where, child_of, numbers_from}
use Rattle.c_senses.specs.Tags.{tag_declared, tag_of, has_list, is_tag_specifier, specifiers_before}
use Rattle.c_tags.specs.declared.specifiers.SeenTag.{SeenTag}
use Rattle.c_tags.specs.Seen.{IsSeen}
use Rattle.c_tags.specs.tag_numbers.Ordered.{first_specifiers}
use Rattle.c_tags.specs.declared.tag_numbers.numbers.Numbering.{Numbering}
use Rattle.c_tags.specs.declared.tag_numbers.seen.SeenTags.{SeenTags}

-- the specifiers before node `i` have given their tags the numbers, by the nodes by which tags are known; the first
-- specifier of each number is kept
pub record AreNumbered (s : Source) (numbers : ℕ → Option ℕ) (firsts : List ℕ) (i : ℕ) : Type 0 where
  pub each : (j : ℕ) → j < i → is_a s p_struct j ≡ true → (k : ℕ) × (numbers (tag_declared s j) ≡ Some k)
  pub back : (d k : ℕ) → numbers d ≡ Some k → (k < length firsts) × (tag_declared s (slice_index firsts k) ≡ d)
  pub firsts_are : (k : ℕ)
      → k < length firsts
      → (slice_index firsts k < i) × (is_a s p_struct (slice_index firsts k) ≡ true)
  pub known : (k : ℕ) → k < length firsts → numbers (tag_declared s (slice_index firsts k)) ≡ Some k
  pub least : (j k : ℕ)
      → j < i
      → is_a s p_struct j ≡ true
      → numbers (tag_declared s j) ≡ Some k
      → slice_index firsts k ≤ j
  pub within : (k : ℕ) → k < length firsts → tag_declared s (slice_index firsts k) < length s.nodes
  pub all : firsts ≡ first_specifiers s i

abbrev pub AreNumbers : Source → Numbering → ℕ → Type 0
AreNumbers s n i = AreNumbered s (number_at n.numbers) n.firsts.items i

-- no node from one to another is a specifier
abbrev pub NoSpecifier : Source → ℕ → ℕ → Type 0
NoSpecifier s from to = (j : ℕ) → from ≤ j → j < to → is_tag_specifier s j ≡ false

-- the tags that have had a list before a node
abbrev pub ListedBefore : Source → ℕ → List Bool → Type 0
ListedBefore s i listed =
    (d : ℕ)
    → get_or listed d false ≡ any_where (λ j. has_list s j && (tag_declared s j == d)) (specifiers_before s i)

-- what is known of the tags of the specifiers before a node
abbrev pub seen_in : SeenTags → ℕ → SeenTag
seen_in seen j = record { number = unwrap_or (number_at seen.numbers j) 0; fits = is_none (number_at seen.unfit j) }

pub record AreSeen (s : Source) (seen : SeenTags) (i : ℕ) : Type 0 where
  pub each : (j : ℕ) → j < i → is_tag_specifier s j ≡ true → IsSeen s j (seen_in seen j)
  -- of no node from there on is anything known yet
  pub later : (j : ℕ) → i ≤ j → (number_at seen.numbers j ≡ None) × (number_at seen.unfit j ≡ None)

-- a specifier with a list of members
abbrev pub completes : Source → ℕ → Bool
completes s i = is_a s p_struct i && is_some (child_of s p_members i)

-- the tags that have a list of members before a node
abbrev pub MarkedBefore : Source → ℕ → List Bool → Type 0
MarkedBefore s i flags =
    (n : ℕ) → get_or flags n false ≡ any_where (λ j. completes s j && (tag_of s j == n)) (numbers_from 0 i)
