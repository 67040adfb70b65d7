-- The name by which a specifier without a tag has its key.
use Rattle.std.specs.Prelude.{ℕ, ◌≡◌, ◌<◌, ◌≤◌, Bool, true, List, [], ◌∷◌, Option, Some, None, option_map}
use Rattle.std.specs.Prelude.{if◌then◌else◌}
use Rattle.c_grammar.specs.Productions.{p_declarator}
use Rattle.c_senses.specs.Tree.{Source, is_a, spelling_at}
use Rattle.c_senses.specs.Keys.{first_free, is_taken, names_with}
use Rattle.c_senses.specs.Sense.{Sense, IsDeclarator}
use Rattle.tree_reads.specs.leaf_maps.Numbers.{number_at}
use Rattle.unit_keys.specs.Specifiers.{is_specifier}

-- the name in a sense
abbrev pub name_in : Sense → Option ℕ
name_in (IsDeclarator name ds) = name
name_in x = None

-- the leaf that a declarator declares
abbrev pub leaf_in : Source → (ℕ → Sense) → ℕ → Option ℕ
leaf_in s sense c = if is_a s p_declarator c then name_in (sense c) else None

-- the first word of a list that isn't taken
abbrev pub first_untaken : (List ℕ → Bool) → List (List ℕ) → Option (List ℕ)
first_untaken taken [] = None
first_untaken taken (word ∷ rest) = if taken word then first_untaken taken rest else Some word

-- the words that are taken are the names that are declared with the first so many nodes
abbrev pub TakenBelow : Source → (ℕ → Sense) → (List ℕ → Bool) → ℕ → Type 0
TakenBelow s sense taken count = (name : List ℕ) → taken name ≡ is_taken s sense name count

-- for each of the first so many nodes that is a specifier the leaf of the first free name that is declared with it
pub record AreFree (s : Source) (sense : ℕ → Sense) (free : List (ℕ × ℕ)) (count : ℕ) : Type 0 where
  pub each : (i : ℕ)
      → i < count
      → is_specifier s i ≡ true
      → option_map (spelling_at s) (number_at free i) ≡ first_free s sense i (names_with s sense i)
  pub fresh : (i : ℕ) → count ≤ i → number_at free i ≡ None
