-- Tags and types of units as nodes: a type's kids are the types and the tag of its term, a tag's kids the types of
-- the members of the list that counts for it.
use Rattle.std.specs.Prelude.{ℕ, ◌≡◌, ◌+◌, ◌<◌, ◌≤◌, List, [], ◌∷◌, ◌++◌, Option, Some, None, length, map, take}
use Rattle.std.specs.Prelude.{slice_index}
use Rattle.std.specs.List.{slice_index_or}
use Rattle.c_types.specs.declared.term.Term.{Term}
use Rattle.c_types.specs.declared.term.Term.TheVariants.{Pointer, Array, Function, Structure, Union}
use Rattle.c_types.specs.declared.term.MemberTerm.{MemberTerm}
use Rattle.c_types.specs.Table.{Table}
use Rattle.core_tree.specs.declared.node.Unit.{Unit}
use Rattle.link_model.specs.declared.item.Item.{Item}
use Rattle.link_model.specs.Units.{item, list_at}
use Rattle.unit_link.specs.link_program.Alike.{AreAlike}
use Rattle.link_merge.specs.Codes.{AreFirstIds}
use Rattle.link_merge.specs.Parted.{AreParted}

-- the kids of a term of a unit whose types and tags begin at those numbers
abbrev pub term_kids : ℕ → ℕ → Term → List ℕ
term_kids types tags (Pointer to) = (types + to.0) ∷ []
term_kids types tags (Array of n) = (types + of.0) ∷ []
term_kids types tags (Function result parameters form) = (types + result.0) ∷ map (λ id. types + id.0) parameters
term_kids types tags (Structure tag) = (tags + tag) ∷ []
term_kids types tags (Union tag) = (tags + tag) ∷ []
term_kids types tags t = []

abbrev pub list_kids : ℕ → Option (List MemberTerm) → List ℕ
list_kids types None = []
list_kids types (Some members) = map (λ m. types + m.ty.0) members

-- the kids of a tag by the list that it has in its own unit
abbrev pub own_kids : List Unit → List ℕ → Item → List ℕ
own_kids units nodes a = list_kids (slice_index nodes a.unit) (list_at units a)

-- the kids of a tag by the place of the tag whose list counts
abbrev pub tag_kids : List Unit → List ℕ → List Item → Option ℕ → List ℕ
tag_kids units nodes tags None = []
tag_kids units nodes tags (Some h) = own_kids units nodes (slice_index_or tags h (item 0 0))

-- the kids of the types of the units from one on
abbrev pub types_kids : List ℕ → List ℕ → ℕ → List Unit → List (List ℕ)
types_kids nodes tag_starts u [] = []
types_kids nodes tag_starts u (x ∷ units) =
    map (term_kids (slice_index nodes u) (slice_index tag_starts u)) x.types.terms
    ++ types_kids nodes tag_starts (u + 1) units

-- The kids of all nodes: first all tags, then the types of each unit, where the nodes of those of unit u begin at a
-- number.
abbrev pub all_kids : List Unit → List ℕ → List ℕ → List Item → List (Option ℕ) → List (List ℕ)
all_kids units nodes tag_starts tags counted =
    map (tag_kids units nodes tags) counted ++ types_kids nodes tag_starts 0 units

-- the class in which each node begins: tags with their leaders, types with the first of the same type
abbrev pub begun : List ℕ → List ℕ → List ℕ
begun leaders firsts = leaders ++ map (λ k. length leaders + k) firsts

-- the leaders of tags whose classes are told apart by their kids
pub record IsSpread (leaders firsts : List ℕ) (kids : List (List ℕ)) (now : List ℕ) : Type 0 where
  pub class : List ℕ
  pub parted : AreParted (begun leaders firsts) kids class
  pub alike : AreAlike (map (λ c. Some (c ∷ [])) (take (length leaders) class)) now

-- such leaders, by the first same type for each type of a table
pub record IsTold (table : Table) (leaders : List ℕ) (kids : List (List ℕ)) (now : List ℕ) : Type 0 where
  pub firsts : List ℕ
  pub firsts_are : AreFirstIds table firsts
  pub spread : IsSpread leaders firsts kids now

-- leaders of smaller classes
pub record AreFiner (leaders now : List ℕ) : Type 0 where
  pub all : length now ≡ length leaders
  pub up : (k : ℕ) → k < length leaders → slice_index leaders k ≤ slice_index now k
  pub below : (k : ℕ) → k < length now → slice_index now k < length leaders
