-- What is known of the tags of a unit before its rows.
use Rattle.std.specs.Prelude.{ℕ, ◌≡◌, ◌<◌, true, false, ◌≤◌, List, length, slice_index, get_or}
use Rattle.c_grammar.specs.Productions.{p_struct}
use Rattle.c_senses.specs.Tree.{Source, is_a}
use Rattle.c_senses.specs.World.{World}
use Rattle.c_senses.specs.Sense.{Sense}
use Rattle.c_senses.specs.Tags.{is_tag_specifier, tag_of, tags_below}
use Rattle.c_senses.specs.Right.{is_tag, TagsDiffer}
use Rattle.c_senses.specs.Entities.{is_completed_somewhere}
use Rattle.c_tags.specs.Seen.{IsSeen}
use Rattle.c_tags.specs.tag_numbers.Ordered.{AreInOrder}
use Rattle.c_tags.specs.tag_numbers.Numbers.{seen_in}
use Rattle.c_tags.specs.declared.tag_numbers.tags.Tags.{Tags}

-- the numbers of a source's structures and unions are those below the number of their first specifiers, each of one
-- tag
pub record AreTagNumbers (s : Source) (firsts : List ℕ) : Type 0 where
  pub count : length firsts ≡ tags_below s
  pub differ : TagsDiffer s
  pub below : (d : ℕ) → is_tag s d ≡ true → s.tag_number d < length firsts
  pub onto : (n : ℕ) → n < length firsts → (d : ℕ) × (is_tag s d ≡ true) × (s.tag_number d ≡ n)
  -- the first specifier of each tag
  pub firsts_are : (n : ℕ)
      → n < length firsts
      → (is_a s p_struct (slice_index firsts n) ≡ true) × (tag_of s (slice_index firsts n) ≡ n)
  pub least : (i : ℕ) → i < length s.nodes → is_a s p_struct i ≡ true → slice_index firsts (tag_of s i) ≤ i
  -- in their order
  pub ordered : AreInOrder s

-- what is known of the tags
pub record AreTags (s : Source) (t : Tags) : Type 0 where
  -- tags are the numbers below the count
  pub count : t.count ≡ tags_below s
  pub differ : TagsDiffer s
  pub below : (d : ℕ) → is_tag s d ≡ true → s.tag_number d < t.count
  pub onto : (n : ℕ) → n < t.count → (d : ℕ) × (is_tag s d ≡ true) × (s.tag_number d ≡ n)
  -- what is known of each specifier
  pub seen : (i : ℕ) → is_tag_specifier s i ≡ true → IsSeen s i (seen_in t.seen i)
  -- the first specifier of each tag
  pub firsts_are : (n : ℕ)
      → n < t.count
      → (is_a s p_struct (slice_index t.firsts.items n) ≡ true) × (tag_of s (slice_index t.firsts.items n) ≡ n)
  pub least : (i : ℕ) → i < length s.nodes → is_a s p_struct i ≡ true → slice_index t.firsts.items (tag_of s i) ≤ i
  -- which tags have a list of members
  pub completed : (w : World) (sense : ℕ → Sense) (n : ℕ)
      → get_or t.completed.items n false ≡ is_completed_somewhere w s sense n
