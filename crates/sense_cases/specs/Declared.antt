-- What a unit's names declare, its tags and its keys, by columns.
use Rattle.std.specs.Prelude.{◌≡◌, ℕ, true, false, List, [], ◌∷◌, ◌++◌, Option, Some, None, option_map}
use Rattle.pta_base.specs.declared.kind.Kind.{Kind}
use Rattle.c_types.specs.Trees.{Ctype}
use Rattle.core_tree.specs.declared.node.Linkage.{Linkage}
use Rattle.core_tree.specs.declared.node.Linkage.TheVariants.{External, Internal, Local}
use Rattle.core_tree.specs.declared.node.Storage.{Storage}
use Rattle.core_tree.specs.declared.node.Storage.TheVariants.{Static, Automatic, FunctionBody, Parameter}
use Rattle.core_tree.specs.declared.node.Storage.TheVariants.{Declared as DeclaredStorage}
use Rattle.c_consts.specs.Core.{Core}
use Rattle.c_inits.specs.Made.{Part, TagParts}
use Rattle.c_senses.specs.Tree.{Source, all_nodes}
use Rattle.c_senses.specs.Names.{numbered}
use Rattle.c_senses.specs.Given.{Given, Fits, Refuses}
use Rattle.c_senses.specs.Sense.{Sense, sense_in}
use Rattle.c_senses.specs.Tags.{completed_from, members_under}
use Rattle.c_senses.specs.Right.{Declared, declared_name, is_tag, key_of_tag}
use Rattle.sense_cases.specs.Branches.{Branch, source}
use Rattle.sense_cases.specs.Columns.{column_of, type_by, core_by}
use Rattle.sense_cases.specs.Cores.{initialised}
use Rattle.sense_cases.specs.Run.{all_senses}

-- an entity by the column of the name by which it is known, with the column of its place, its type, linkage and
-- storage, the function in which it is declared, and its body
pub record Told : Type 0 where
  pub known_at : ℕ
  pub placed_at : ℕ
  pub type : Ctype
  pub linkage : Linkage
  pub storage : Storage
  pub owner : Option ℕ
  pub body : Option Core

-- a tag by the column of its first declaration, with its members and its key
pub record TaggedAs : Type 0 where
  pub known_at : ℕ
  pub members : Option (List Part)
  pub key : Option (List ℕ)

pub data Contents : Type 0 where
  Declares : (entities : List Told) (tags : List TaggedAs) → Contents
  Stops : (kind : Kind) (node : ℕ) → Contents

abbrev pub part_by : Source → Part → Part
part_by s m = record m { type = type_by s m.type }

abbrev pub parts_by : Source → List Part → List Part
parts_by s [] = []
parts_by s (m ∷ rest) = part_by s m ∷ parts_by s rest

abbrev pub told_of : Source → ℕ → Declared → Told
told_of s i d = record {
  known_at = column_of s i;
  placed_at = d.place.column;
  type = type_by s d.type;
  linkage = d.linkage;
  storage = d.storage;
  owner = option_map (column_of s) d.owner;
  body = option_map (core_by s) d.body;
}

abbrev pub one_told : Source → ℕ → Option Declared → List Told
one_told s i None = []
one_told s i (Some d) = told_of s i d ∷ []

abbrev pub all_told : Source → List Sense → List ℕ → List Told
all_told s senses [] = []
all_told s senses (i ∷ rest) = one_told s i (declared_name s senses i) ++ all_told s senses rest

abbrev pub tagged : Source → List Sense → ℕ → TaggedAs
tagged s senses i = record {
  known_at = column_of s i;
  members = option_map (parts_by s) (members_under (completed_from s senses (sense_in senses) 0) (s.tag_number i));
  key = key_of_tag s (sense_in senses) i;
}

abbrev pub all_tagged : Source → List Sense → List ℕ → List TaggedAs
all_tagged s senses [] = []
all_tagged s senses (i ∷ rest) =
    elim (is_tag s i) [ true ↦ tagged s senses i ∷ all_tagged s senses rest | false ↦ all_tagged s senses rest ]

abbrev pub unit_of : Source → Given (List Sense) → Contents
unit_of s (Fits senses) = Declares (all_told s senses (all_nodes s)) (all_tagged s senses (all_nodes s))
unit_of s (Refuses kind node) = Stops kind node

abbrev pub declared_in : Branch → Contents
declared_in b = let s = source b in unit_of s (all_senses s)

abbrev pub IsUnit : Branch → List Told → List TaggedAs → Type 0
IsUnit b entities tags = declared_in b ≡ Declares entities tags

-- the structures and unions that a unit completes, where tags have other numbers
abbrev pub completed_in : Source → Given (List Sense) → List TagParts
completed_in s (Fits senses) = completed_from s senses (sense_in senses) 0
completed_in s (Refuses kind node) = []

abbrev pub completed_by : (ℕ → ℕ) → Source → List TagParts
completed_by number s = completed_in (numbered number s) (all_senses (numbered number s))

abbrev pub HasTags : Branch → (ℕ → ℕ) → List TagParts → Type 0
HasTags b number tags = completed_by number (source b) ≡ tags

-- an object at file scope, a function that is only declared, one that is defined, a local object of a function, its
-- parameter, and an internal object with the column of its place
abbrev pub file_object : ℕ → Ctype → Option Core → Told
file_object column t body =
    record {
      known_at = column;
      placed_at = column;
      type = t;
      linkage = External;
      storage = Static;
      owner = None;
      body = body;
    }

abbrev pub only_declared : ℕ → Ctype → Told
only_declared column t =
    record {
      known_at = column;
      placed_at = column;
      type = t;
      linkage = External;
      storage = DeclaredStorage;
      owner = None;
      body = None;
    }

abbrev pub defined : ℕ → Ctype → Core → Told
defined column t body =
    record {
      known_at = column;
      placed_at = column;
      type = t;
      linkage = External;
      storage = FunctionBody;
      owner = None;
      body = Some body;
    }

abbrev pub local : ℕ → ℕ → Ctype → Option Core → Told
local function column t body =
    record {
      known_at = column;
      placed_at = column;
      type = t;
      linkage = Local;
      storage = Automatic;
      owner = Some function;
      body = body;
    }

abbrev pub parameter : ℕ → ℕ → Ctype → Told
parameter function column t = record (local function column t None) { storage = Parameter }

abbrev pub internal : ℕ → ℕ → Ctype → Option Core → Told
internal column place t body =
    record {
      known_at = column;
      placed_at = place;
      type = t;
      linkage = Internal;
      storage = Static;
      owner = None;
      body = body;
    }

-- the body of an object that is initialised as a whole
abbrev pub whole : List Core → ℕ → ℕ → Option Core
whole values entity column = Some (initialised entity column ([] ∷ []) values)

-- members, with and without a name, and a complete tag
abbrev pub part : List ℕ → Ctype → Part
part name t = record { name = Some name; type = t; bits = None }

abbrev pub unnamed : Ctype → Part
unnamed t = record { name = None; type = t; bits = None }

abbrev pub tag : ℕ → List Part → Option (List ℕ) → TaggedAs
tag column members key = record { known_at = column; members = Some members; key = key }
