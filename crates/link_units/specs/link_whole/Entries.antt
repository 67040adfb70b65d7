-- The entities that names are of.
use Rattle.std.specs.Prelude.{ℕ, ◌≡◌, List}
use Rattle.core_tree.specs.declared.node.Entity.{Entity}
use Rattle.link_names.specs.Externals.{IsExternal}
use Rattle.unit_link.specs.Linked.{Stands}

-- the entity of that number is the object or function of an external name
abbrev pub IsEntryOf : List Entity → List ℕ → ℕ → Type 0
IsEntryOf list name e = Stands list e (λ x. IsExternal x × (x.name ≡ name))

abbrev pub HasEntryOf : List Entity → List ℕ → Type 0
HasEntryOf list name = (e : ℕ) × IsEntryOf list name e
