-- The key of each specifier by those of the specifiers behind it.
use Rattle.std.specs.Prelude.{ℕ, List, ◌++◌, codes, decimal, Option, Some, None, option_map, option_and_then}
use Rattle.std.specs.Prelude.{length, if◌then◌else◌}
use Rattle.c_senses.specs.Tree.{Source, spelling_at, parent_of}
use Rattle.c_senses.specs.Tags.{tag_leaf}
use Rattle.c_senses.specs.Keys.{word_of_key, has_members, position_in, list_around, key_of}
use Rattle.c_senses.specs.Sense.{Sense}
use Rattle.tree_reads.specs.node_roles.Roles.{AreRoles}
use Rattle.unit_keys.specs.Free.{AreFree}
use Rattle.unit_keys.specs.Placed.{AreInner, ArePositions}
use Rattle.unit_keys.specs.declared.given_keys.placed.Known.{Known}

-- the key of the structure in whose members a specifier stands
abbrev pub key_around : Source → (ℕ → Sense) → ℕ → Option (List ℕ)
key_around s sense i = option_and_then (key_of s sense) (option_and_then (parent_of s) (list_around s sense i))

-- a key by that of the structure around and the position there
abbrev pub inherited : Source → (ℕ → Sense) → ℕ → Option (List ℕ) → Option (List ℕ)
inherited s sense i around =
    if has_members s sense i
    then option_map
    (λ key. word_of_key s i ++ (key ++ (codes ":" ++ decimal (position_in s sense i)))) around
    else None

-- a key by a free name, or else by the key around
abbrev pub key_without_tag : Source → (ℕ → Sense) → ℕ → Option (List ℕ) → Option (List ℕ) → Option (List ℕ)
key_without_tag s sense i free around =
    elim free [ Some name ↦ Some (word_of_key s i ++ (codes ":" ++ name)) | None ↦ inherited s sense i around ]

-- a key by what is known of a node: by its tag, its free name, or the key around and the position
abbrev pub key_by : Source → (ℕ → Sense) → ℕ → Option (List ℕ) → Option (List ℕ) → Option (List ℕ)
key_by s sense i free around =
    elim
    (tag_leaf s i) [
      | Some leaf ↦ Some
          (word_of_key s i ++ spelling_at s leaf)
      | None ↦ key_without_tag s sense i free around
    ]

-- what is known before the keys
pub record IsKnown (s : Source) (sense : ℕ → Sense) (known : Known) : Type 0 where
  pub roles : AreRoles s known.roles.now
  pub inner : AreInner s sense known.inner.now (length s.nodes)
  pub free : AreFree s sense known.free.now (length s.nodes)
  pub positions : ArePositions s sense known.positions.now (length s.nodes)
