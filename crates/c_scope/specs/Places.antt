-- How a map of declarations by scope and symbol stands for the list of declarations.
use Rattle.std.specs.Prelude.{◌≡◌, ℕ, ◌==◌, Bool, false, ◌&&◌, not, Option, Some, None, List, [], ◌∷◌}
use Rattle.std.specs.Prelude.{if◌then◌else◌}
use Rattle.std.specs.BTreeMap.{BTreeMap}
use Rattle.std.specs.Map.{lookup}
use Rattle.c_scope.specs.declared.kinds.Kind.{Kind}
use Rattle.c_scope.specs.declared.kinds.Kind.TheVariants.{Linked, Typedef, Plain}
use Rattle.c_scope.specs.declared.places.Entry.{Entry}
use Rattle.c_scope.specs.declared.places.Found.{Found}
use Rattle.c_scope.specs.Known as known
use Rattle.c_scope.specs.declared.kinds.Declared.{Declared}
use Rattle.c_scope.specs.Known.{those_at}

abbrev pub agrees : Kind → Kind → Bool
agrees one other = known.agrees one other

-- what two declarations together are to a further one
abbrev pub merged : Kind → Kind → Kind
merged Linked Linked = Linked
merged Typedef Typedef = Typedef
merged _ _ = Plain

abbrev pub joined : Option Entry → Entry → Entry
joined None entry = entry
joined (Some before) entry =
    record { node = entry.node; kind = merged before.kind entry.kind; is_function = entry.is_function }

abbrev pub clash : Option Entry → Kind → Bool
clash None kind = false
clash (Some before) kind = not (agrees before.kind kind)

abbrev pub entry_of : Declared → Entry
entry_of d = record { node = d.node; kind = d.kind; is_function = d.is_function }

-- the declarations of one name in one scope taken together
abbrev pub together : Option Entry → List Declared → Option Entry
together before [] = before
together before (d ∷ ds) = together (Some (joined before (entry_of d))) ds

abbrev pub declared_at : ℕ → ℕ → Entry → Declared
declared_at scope symbol entry =
    record { node = entry.node; symbol = symbol; scope = scope; kind = entry.kind; is_function = entry.is_function }

-- what a map says of a symbol in a scope
abbrev pub entry_at : BTreeMap (ℕ × ℕ) Entry → ℕ → ℕ → Option Entry
entry_at places scope symbol = lookup (λ k. scope == k.0 && symbol == k.1) places.entries

abbrev pub entry_after : BTreeMap (ℕ × ℕ) Entry → ℕ → ℕ → Entry → ℕ → ℕ → Option Entry
entry_after before scope symbol entry other sign =
    if scope == other && symbol == sign then Some entry else entry_at before other sign

-- a map says of each symbol in each scope what its declarations there are together
abbrev pub Says : BTreeMap (ℕ × ℕ) Entry → List Declared → Type 0
Says places ds = (scope symbol : ℕ) → entry_at places scope symbol ≡ together None (those_at scope symbol ds)

abbrev pub seen : Entry → Found
seen entry = record { node = entry.node; is_function = entry.is_function }

abbrev pub found_of : Option Declared → Option Found
found_of None = None
found_of (Some d) = Some (record { node = d.node; is_function = d.is_function })
