-- The tags that an expression itself declares.
use Rattle.std.specs.Prelude.{ℕ, suc, ◌≡◌, ◌<◌, ◌≤◌, ◌+◌, ◌==◌, ◌&&◌, ◌||◌, nat_lt, Bool, true, false, List, []}
use Rattle.std.specs.Prelude.{◌∷◌, length, get_or, Option, Some, None, is_some, is_none}
use Rattle.c_types.specs.Trees.{Ctype}
use Rattle.c_types.specs.Table.{Table, type_of}
use Rattle.c_inits.specs.Tables.{tagged}
use Rattle.c_grammar.specs.Productions.{p_struct}
use Rattle.c_senses.specs.Tree.{Source, is_a, all_where, numbers_from, nearest_above}
use Rattle.c_senses.specs.Tags.{tag_of, tag_declared, tags_below, is_union}
use Rattle.c_check.specs.declared.known_tags.known.Meaning.{Meaning}
use Rattle.c_check.specs.declared.known_tags.known.Meaning.TheVariants.{Tag}
use Rattle.c_check.specs.known_tags.Known.{known_at, tag_known, IsTagType}

-- a node stands under another one, which is above it
abbrev pub is_under : Source → ℕ → ℕ → Bool
is_under s top i = is_some (nearest_above s (λ p. p == top) i)

-- flags of nodes, which say which of all nodes stand under one
abbrev pub flag_at : List Bool → ℕ → Bool
flag_at flags i = get_or flags i false

pub record AreUnder (s : Source) (top : ℕ) (flags : List Bool) : Type 0 where
  pub each : (i : ℕ) → flag_at flags i ≡ is_under s top i

-- the same by the parent
abbrev pub by_parent : ℕ → List Bool → Option ℕ → Bool
by_parent top flags None = false
by_parent top flags (Some p) = p == top || (nat_lt p top && flag_at flags p)

-- the first specifiers of the tags of a source, by number
pub record AreFirsts (s : Source) (first : ℕ → ℕ) : Type 0 where
  pub specifiers : (k : ℕ) → k < tags_below s → is_a s p_struct (first k) ≡ true
  pub numbers : (k : ℕ) → k < tags_below s → tag_of s (first k) ≡ k
  pub least : (i : ℕ) → i < length s.nodes → is_a s p_struct i ≡ true → first (tag_of s i) ≤ i

-- a tag is the expression's own: its first specifier stands under the expression's node, and nothing is known of
-- its declaration
abbrev pub is_own_first : Source → ℕ → List (ℕ × Meaning) → ℕ → Bool
is_own_first s node list first = is_under s node first && is_none (known_at list (tag_declared s first))

-- such tags among the first so many, in order
abbrev pub own_tags : Source → (ℕ → ℕ) → ℕ → List (ℕ × Meaning) → ℕ → List ℕ
own_tags s first node list count = all_where (λ k. is_own_first s node list (first k)) (numbers_from 0 count)

-- they get the numbers from the next one on, in their order: that of one of them, and all with the nodes of their
-- declarations
abbrev pub own_number : Source → (ℕ → ℕ) → ℕ → List (ℕ × Meaning) → ℕ → ℕ → ℕ
own_number s first node list next k = next + length (own_tags s first node list k)

abbrev pub numbered_from : Source → (ℕ → ℕ) → ℕ → List ℕ → List (ℕ × Meaning)
numbered_from s first next [] = []
numbered_from s first next (k ∷ rest) = (tag_declared s (first k), Tag next) ∷ numbered_from s first (suc next) rest

abbrev pub own_pairs : Source → (ℕ → ℕ) → ℕ → List (ℕ × Meaning) → ℕ → ℕ → List (ℕ × Meaning)
own_pairs s first node list next count = numbered_from s first next (own_tags s first node list count)

-- the type of a tag in a unit: an own one has that of its number, another one that of the number that is known,
-- exactly where the table that was has it
abbrev pub IsTypeGiven : Bool → Ctype → Table → Bool → Option ℕ → Option Ctype → Type 0
IsTypeGiven true own table is_union known type = type ≡ Some own
IsTypeGiven false own table is_union known type = IsTagType table is_union known type

pub record AreTypesGiven (s : Source) (first : ℕ → ℕ) (node : ℕ) (list : List (ℕ × Meaning)) (table : Table)
    (type : ℕ → Option Ctype) : Type 0 where
  pub each : (k : ℕ)
      → k < tags_below s
      → IsTypeGiven (is_own_first s node list (first k))
      (tagged (is_union s (first k)) (own_number s first node list table.tags k)) table (is_union s (first k))
      (tag_known list (tag_declared s (first k))) (type k)
  pub past : (k : ℕ) → tags_below s ≤ k → type k ≡ None

-- the number of the type of a tag, when own tags are opened in a table
abbrev pub id_at : List (Option ℕ) → ℕ → Option ℕ
id_at ids k = get_or ids k None

abbrev pub IsOpened : Bool → Table → Ctype → Option ℕ → Option ℕ → Type 0
IsOpened true table t known id = (i : ℕ) × (id ≡ Some i) × (type_of table i ≡ t)
IsOpened false table t known id = id ≡ known

abbrev pub pair_if : Bool → ℕ → ℕ → List (ℕ × Meaning)
pair_if true declared number = (declared, Tag number) ∷ []
pair_if false declared number = []

pub record AreOpened (s : Source) (first : ℕ → ℕ) (node : ℕ) (list : List (ℕ × Meaning)) (next : ℕ)
    (table : Table) (known : List (Option ℕ)) (count : ℕ) (ids : List (Option ℕ))
    (pairs : List (ℕ × Meaning)) : Type 0 where
  pub each : (k : ℕ)
      → k < count
      → IsOpened (is_own_first s node list (first k)) table
      (tagged (is_union s (first k)) (own_number s first node list next k)) (id_at known k) (id_at ids k)
  pub pairs_are : pairs ≡ own_pairs s first node list next count
