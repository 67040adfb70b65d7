-- What a call answers of an expression.
use Rattle.std.specs.Prelude.{ℕ, ◌≡◌, ◌+◌, ◌<◌, ◌≤◌, ◌++◌, ◌⊎◌, ⊤, List, map, take, length, get_or, None, Some}
use Rattle.std.specs.Prelude.{Option, Result, Ok, Err}
use Rattle.pta_base.specs.declared.kind.Kind.TheVariants.{Operand}
use Rattle.c_types.specs.Trees.{Ctype}
use Rattle.c_types.specs.Layout.{Extent}
use Rattle.c_types.specs.Table.{Table, type_of, extent_in}
use Rattle.c_inits.specs.Made.{Part}
use Rattle.core_tree.specs.declared.node.Unit.{Unit}
use Rattle.c_consts.specs.Core.{Core}
use Rattle.core_nodes.specs.Standing.{core_at}
use Rattle.core_nodes.specs.declared.fault.CheckFault.{CheckFault}
use Rattle.core_nodes.specs.declared.fault.CheckFault.TheVariants.{BadOperand, Unsupported, OutOfMemory}
use Rattle.c_senses.specs.Tree.{Source}
use Rattle.c_senses.specs.Names.{numbered}
use Rattle.c_senses.specs.Rows.{AreSenses, world_at}
use Rattle.c_senses.specs.Sense.{Sense, IsCore, sense_in}
use Rattle.c_senses.specs.Tags.{tag_declared, tags_below, is_union}
use Rattle.c_results.specs.Parts.{core_in}
use Rattle.unit_walk.specs.Walked.{AreDense}
use Rattle.unit_walk.specs.Stopping.{RefusedWithin}
use Rattle.carried_trees.specs.carried_types.Terms.{AreTagIds}
use Rattle.carried_trees.specs.Extends.{parts_at, IsMissing, IsWhole}
use Rattle.c_check.specs.declared.known_tags.known.Meaning.{Meaning}
use Rattle.c_check.specs.known_tags.Known.{entity_known, tag_known}
use Rattle.c_check.specs.known_tags.Given.{IsIdOf}
use Rattle.c_check.specs.known_tags.Own.{AreFirsts, AreTypesGiven, AreOpened, own_pairs}
use Rattle.c_check.specs.known_tags.Values.{own_values}
use Rattle.c_check.specs.literal_entities.Entities.{literal_entity}

-- the trees are what they were, and so are the types, and the members and layouts of the tags that have them;
-- entities stand behind those that there were
pub record Grows (old new : Unit) : Type 0 where
  pub more : length old.nodes.items ≤ length new.nodes.items
  pub cores : (i : ℕ) → i < length old.nodes.items → core_at new i ≡ core_at old i
  pub terms : length old.types.terms ≤ length new.types.terms
  pub types : (id : ℕ) → id < length old.types.terms → type_of new.types id ≡ type_of old.types id
  pub tags : old.types.tags ≤ new.types.tags
  pub parts : (tag : ℕ) (parts : List Part) → parts_at old tag ≡ Some parts → parts_at new tag ≡ Some parts
  pub extents : (t : Ctype) (e : Extent) → extent_in old.types t ≡ Some e → extent_in new.types t ≡ Some e
  pub entities : take (length old.entities.items) new.entities.items ≡ old.entities.items

-- the rows of all nodes fit up to a node, which has that sense
pub record HasSense (s : Source) (node : ℕ) (x : Sense) : Type 0 where
  pub senses : List Sense
  pub are : AreSenses s senses
  pub long : length senses ≡ node + 1
  pub last : sense_in senses node ≡ x

-- the rows fit up to a node that stands for a tree; the types that the tags have in the unit: those that the
-- expression itself declares are new there
pub record HasTree (s : Source) (node : ℕ) (list : List (ℕ × Meaning)) (old : Unit) : Type 0 where
  pub core : Core
  pub sense : HasSense s node (IsCore core)
  pub first : ℕ → ℕ
  pub firsts : AreFirsts s first
  pub type : ℕ → Option Ctype
  pub tags : AreTypesGiven s first node list old.types type

-- the members of tags behind some senses
abbrev pub members_behind : Source → List Sense → ℕ → Option (List Part)
members_behind s senses = (world_at s senses (length senses)).members

-- its tree stands in a unit, under the known numbers, and the unit gains the entities of its compound literals and
-- no others; what is known gains the tags that the expression itself declares, which are the only new ones, and
-- then its enumerators
pub record IsCarried (s : Source) (node : ℕ) (list more : List (ℕ × Meaning)) (owner : Option ℕ)
    (old new : Unit) (i : ℕ) : Type 0 where
  pub tree : HasTree s node list old
  pub literals : List (ℕ × ℕ)
  pub whole : IsWhole (entity_known list) tree.type
      (members_behind s tree.sense.senses) tree.core old new i literals
  pub entities : new.entities.items
      ≡ old.entities.items ++ map (literal_entity s tree.sense.senses owner new.nodes.items) literals
  pub known : more
      ≡ list
      ++ (own_pairs s tree.first node list old.types.tags (tags_below s)
      ++ own_values s (sense_in tree.sense.senses) node list node)
  pub numbers : new.types.tags
      ≡ old.types.tags + length (own_pairs s tree.first node list old.types.tags (tags_below s))

-- its tree names what isn't known, or lists objects as a statement does, or a member of a tag has a type with a tag
-- that isn't known
pub record IsUnknown (s : Source) (node : ℕ) (list : List (ℕ × Meaning)) (old : Unit) : Type 0 where
  pub tree : HasTree s node list old
  pub missing : IsMissing (entity_known list) tree.type (members_behind s tree.sense.senses) tree.core old

-- it stands for no tree
pub record HasNoTree (s : Source) (node : ℕ) : Type 0 where
  pub sense : Sense
  pub has : HasSense s node sense
  pub none : core_in sense ≡ None

abbrev pub Answers : Source
    → ℕ
    → List (ℕ × Meaning)
    → List (ℕ × Meaning)
    → Option ℕ
    → Unit
    → Unit
    → Result ℕ CheckFault
    → Type 0
Answers s node list more owner old new (Ok i) = IsCarried s node list more owner old new i
Answers s node list more owner old new (Err (BadOperand named)) = RefusedWithin s (node + 1) Operand named
    ⊎ ((named ≡ node) × HasNoTree s node)
Answers s node list more owner old new (Err (Unsupported kind named)) = RefusedWithin s (node + 1) kind named
Answers s node list more owner old new (Err OutOfMemory) = ⊤

-- The rows of a unit's nodes fit up to the expression's own, whose tree then stands in the unit; or the first one
-- that doesn't fit refuses. The unit's tags are numbered in the order of their first specifiers.
pub record Expressed (s : Source) (node : ℕ) (list more : List (ℕ × Meaning)) (owner : Option ℕ)
    (old new : Unit) (result : Result ℕ CheckFault) : Type 0 where
  pub tag_number : ℕ → ℕ
  pub dense : AreDense (numbered tag_number s)
  pub answer : Answers (numbered tag_number s) node list more owner old new result

-- unless memory wants
abbrev pub IsAnswer : Source
    → ℕ
    → List (ℕ × Meaning)
    → List (ℕ × Meaning)
    → Option ℕ
    → Unit
    → Unit
    → Result ℕ CheckFault
    → Type 0
IsAnswer s node list more owner old new (Err OutOfMemory) = ⊤
IsAnswer s node list more owner old new result = Expressed s node list more owner old new result

-- the numbers of the types of all tags, those that the expression itself declares among them
pub record AreOwn (s : Source) (first : ℕ → ℕ) (node : ℕ) (list : List (ℕ × Meaning)) (count : ℕ)
    (old new : Table) (ids : List (Option ℕ)) (pairs : List (ℕ × Meaning)) : Type 0 where
  pub known : List (Option ℕ)
  pub within : AreTagIds known old
  pub typed : (k : ℕ)
      → k < count
      → IsIdOf old (is_union s (first k)) (tag_known list (tag_declared s (first k))) (get_or known k None)
  pub opened : AreOpened s first node list old.tags new known count ids pairs
  pub long : length ids ≡ count

-- and what the expression itself declares: such tags, and then enumerators
pub record AreOwnNames (s : Source) (sense : ℕ → Sense) (first : ℕ → ℕ) (node : ℕ)
    (list : List (ℕ × Meaning))
    (count : ℕ) (old new : Table) (ids : List (Option ℕ)) (all : List (ℕ × Meaning)) : Type 0 where
  pub pairs : List (ℕ × Meaning)
  pub own : AreOwn s first node list count old new ids pairs
  pub numbers : new.tags ≡ old.tags + length pairs
  pub all_are : all ≡ pairs ++ own_values s sense node list node
