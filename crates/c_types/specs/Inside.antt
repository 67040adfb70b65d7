-- What the table keeps beside each term.
use Rattle.std.specs.Prelude.{ℕ, ◌≡◌, ◌<◌, ◌≤◌, ◌*◌, ◌^◌, ◌+◌, List, [], ◌∷◌, ◌++◌, Option, Some, None, map, length}
use Rattle.std.specs.Prelude.{All, slice_get, slice_index}
use Rattle.std.specs.Option.{option_and_then}
use Rattle.c_types.specs.declared.term.MemberTerm.{MemberTerm}
use Rattle.c_types.specs.Parts.{unless_flexible}
use Rattle.c_types.specs.declared.term.Term.{Term}
use Rattle.c_types.specs.declared.table.Entry.{Entry}
use Rattle.c_types.specs.declared.table.TypeTable.TheInside.{Inside}
use Rattle.c_types.specs.Trees.{Ctype, ArrayOf, StructureOf, UnionOf, tree_at, grow, grown}
use Rattle.c_types.specs.Table.{Table, TagMembers, IsAfter, HasTag, completions, look_in, members_in, extents_in}
use Rattle.c_types.specs.declared.table.TagLayout.{TagLayout}
use Rattle.c_types.specs.declared.layout.Bounds.{Bounds}
use Rattle.c_types.specs.Layout.{Extent, laid_out, structure_of, union_of}
use Rattle.c_types.specs.Bounds.{bounds, cap}
use Rattle.c_types.specs.Made.{IsMade}
use Rattle.c_types.specs.Keys.{IsIndex}

-- a type with arrays taken off
abbrev pub element_of : Ctype → Ctype
element_of (ArrayOf of length) = element_of of
element_of t = t

-- a type that is no array
abbrev pub IsPlain : Ctype → Type 0
IsPlain (ArrayOf of length) = ⊥
IsPlain t = Unit {0}

-- the place of a member that has a node
abbrev pub member_place : List Ctype → List MemberTerm → ℕ → ℕ → Option ℕ
member_place types members k n =
    option_and_then (λ m. unless_flexible (tree_at types m.ty.0) n) (slice_get members k)

-- a node lies in the member of position k, whose element is `part` and whose nodes start at `start`
pub record LiesIn (types : List Ctype) (members : List MemberTerm) (positions : List ℕ)
    (node k part start : ℕ) : Type 0 where
  pub within : k < length members
  pub before : part < length types
  pub element : (m : MemberTerm)
      → slice_get members k ≡ Some m
      → tree_at types part ≡ element_of (tree_at types m.ty.0)
  pub begin : start ≡ slice_index positions k
  pub up_to : (j : ℕ) → j < k + 1 → slice_index positions j ≤ node
  pub past : (j : ℕ) → k + 1 ≤ j → j < length positions → node < slice_index positions j

abbrev pub times : Option ℕ → Option ℕ → Option ℕ
times None c = None
times (Some n) None = None
times (Some n) (Some c) = Some (n * c)

-- how many elements an array of arrays has, where each length is known
abbrev pub count_of : Ctype → Option ℕ
count_of (ArrayOf of length) = times length (count_of of)
count_of t = Some 1

abbrev pub capped : Option ℕ → Option ℕ
capped None = None
capped (Some n) = Some (cap n)

abbrev pub terms_of : List Entry → List Term
terms_of entries = map (λ e. e.term) entries

-- what stands beside one term, given all types
pub record IsEntry (types : List Ctype) (i : ℕ) (e : Entry) : Type 0 where
  pub term : tree_at types i ≡ grow types e.term
  pub after : IsAfter i e.term
  pub element_before : e.element ≤ i
  pub element : tree_at types e.element ≡ element_of (tree_at types i)
  pub count : e.count ≡ capped (count_of (tree_at types i))
  pub first_before : e.first ≤ i
  pub first_same : tree_at types e.first ≡ tree_at types i
  pub first_least : (j : ℕ) → j < e.first → tree_at types j ≡ tree_at types i → ⊥

-- each entry is right for the types of all
pub record AreEntries (entries : List Entry) (tags : ℕ) : Type 0 where
  pub room : length entries < 2 ^ 32
  pub tagged : (i : ℕ) (e : Entry) → slice_get entries i ≡ Some e → HasTag tags e.term
  pub each : (i : ℕ) (e : Entry) → slice_get entries i ≡ Some e → IsEntry (grown [] (terms_of entries)) i e

-- what is known of the entry that comes next
pub record IsNext (entries : List Entry) (e : Entry) : Type 0 where
  pub after : IsAfter (length entries) e.term
  pub element : tree_at
      (grown [] (terms_of entries) ++ grow (grown [] (terms_of entries)) e.term ∷ []) e.element
      ≡ element_of (grow (grown [] (terms_of entries)) e.term)
  pub element_before : e.element ≤ length entries
  pub count : e.count ≡ capped (count_of (grow (grown [] (terms_of entries)) e.term))
  pub first_before : e.first ≤ length entries
  pub first : e.first < length entries
      → tree_at (grown [] (terms_of entries)) e.first ≡ grow (grown [] (terms_of entries)) e.term
  pub first_least : (j : ℕ)
      → j < e.first
      → tree_at (grown [] (terms_of entries)) j ≡ grow (grown [] (terms_of entries)) e.term
      → ⊥

abbrev pub members_of : TagLayout → TagMembers
members_of l = record { tag = l.tag; members = l.members.items }

-- the table that these entries, tags and layouts are
abbrev pub table_of : List Entry → List (Option ℕ) → List TagLayout → Table
table_of entries tags completed =
    record { terms = terms_of entries; tags = length tags; completed = map members_of completed }

abbrev pub seen : Inside → Table
seen t = table_of t.entries.items t.tags.items t.completed.items

-- the positions of members' nodes, the first of them at n
abbrev pub starts : ℕ → List Extent → List ℕ
starts n [] = []
starts n (e ∷ rest) = cap n ∷ starts (n + length e.nodes) rest

-- what is kept of a completed tag
abbrev pub kept_of : TagLayout → ℕ × Bounds × Bounds × List ℕ
kept_of l = (l.tag, l.structure, l.union, l.positions.items)

abbrev pub bounds_of : ℕ × List Extent → ℕ × Bounds × Bounds × List ℕ
bounds_of entry = (
  entry.0,
  bounds (structure_of (StructureOf entry.0) entry.1),
  bounds (union_of (UnionOf entry.0) entry.1),
  starts 1 entry.1,
)

pub record AreLayouts (table : Table) (tags : List (Option ℕ)) (completed : List TagLayout) : Type 0 where
  pub room : length completed < 2 ^ 32
  pub many : length tags < 2 ^ 32
  pub tagged : (k : ℕ) (l : TagLayout) → slice_get completed k ≡ Some l → slice_get tags l.tag ≡ Some (Some k)
  pub known : (t k : ℕ)
      → slice_get tags t ≡ Some (Some k)
      → (l : TagLayout) × (slice_get completed k ≡ Some l) × (l.tag ≡ t)
  pub before : (k : ℕ) (l : TagLayout)
      → slice_get completed k ≡ Some l
      → All (λ m. m.ty.0 < length table.terms) l.members.items
  pub laid : map kept_of completed ≡ map bounds_of (laid_out [] (completions table))

-- what is kept of a complete tag
pub record IsLayoutOf (table : Table) (tag : ℕ) (l : TagLayout) : Type 0 where
  pub members : members_in table tag ≡ Some l.members.items
  pub look : look_in table tag ≡ Some (extents_in table l.members.items)
  pub positions : l.positions.items ≡ starts 1 (extents_in table l.members.items)
  pub within : All (λ m. m.ty.0 < length table.terms) l.members.items

pub record AreRight (entries : List Entry) (tags : List (Option ℕ)) (completed : List TagLayout) : Type 0 where
  pub entries_right : AreEntries entries (length tags)
  pub layouts_right : AreLayouts (table_of entries tags completed) tags completed
  pub made : IsMade (table_of entries tags completed)

pub record IsTable (t : Inside) : Type 0 where
  pub right : AreRight t.entries.items t.tags.items t.completed.items
  pub index : IsIndex t.entries.items t.index
