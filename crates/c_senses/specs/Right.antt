-- What it is that a unit is what its syntax tree says, up to the numbers of entities and nodes; those of tags are
-- the source's.
use Rattle.std.specs.Prelude.{⊤, ℕ, ◌==◌, ◌≡◌, ◌<◌, Bool, true, false, ◌&&◌, ◌||◌, not, List, [], ◌∷◌, length}
use Rattle.std.specs.Prelude.{Option, Some, None, slice_get, is_some, option_and_then, option_map, ◌⊎◌}
use Rattle.std.specs.Prelude.{if◌then◌else◌}
use Rattle.c_scope.specs.passed.pta_base.declared.place.Place.{Place}
use Rattle.c_inits.specs.passed.c_types.Trees.{Ctype}
use Rattle.c_inits.specs.passed.c_types.Table.{type_of, members_in}
use Rattle.c_consts.specs.passed.core_tree.declared.node.NodeKind.{NodeKind}
use Rattle.c_consts.specs.passed.core_tree.declared.node.NodeKind.TheVariants.{VarArgs}
use Rattle.c_consts.specs.passed.core_tree.declared.node.NodeKind.TheVariants.{Named, Literal, FunctionName, Block}
use Rattle.c_consts.specs.passed.core_tree.declared.node.NodeKind.TheVariants.{For, Initialise}
use Rattle.c_consts.specs.passed.core_tree.declared.node.Node.{Node}
use Rattle.c_consts.specs.passed.core_tree.declared.node.Entity.{Entity}
use Rattle.c_consts.specs.passed.core_tree.declared.node.Linkage.{Linkage}
use Rattle.c_consts.specs.passed.core_tree.declared.node.Linkage.TheVariants.{Internal, Local}
use Rattle.c_consts.specs.passed.core_tree.declared.node.Storage.{Storage}
use Rattle.c_consts.specs.passed.core_tree.declared.node.Storage.TheVariants.{Static, Automatic}
use Rattle.c_consts.specs.passed.core_tree.declared.node.Storage.TheVariants.{Declared as DeclaredStorage}
use Rattle.c_consts.specs.passed.core_tree.declared.node.Unit.{Unit}
use Rattle.c_consts.specs.passed.core_tree.Typed.{trees_of}
use Rattle.c_consts.specs.passed.core_tree.Rows.{Initialises}
use Rattle.c_consts.specs.passed.core_tree.Valid.{ValidUnit, IsChild, entity_at}
use Rattle.c_inits.specs.passed.c_grammar.Productions.{p_external, p_declaration, p_struct, p_parameter, p_block}
use Rattle.c_inits.specs.passed.c_grammar.Words.{word_extern}
use Rattle.c_consts.specs.Core.{Core, Cores, Of, NoCores, MoreCores, kind_of, ctype_of, cores_under, core_in}
use Rattle.c_inits.specs.Tables.{parts_in}
use Rattle.c_scope.specs.declared.kinds.Declared.{Declared as Declaration}
use Rattle.c_senses.specs.Names.{ordinary_at}
use Rattle.c_senses.specs.Tree.{Source, is_a, is_name, place_at, spelling_at, any_where, child_of, parent_of}
use Rattle.c_senses.specs.Tree.{all_nodes}
use Rattle.c_senses.specs.World.{same_length}
use Rattle.c_senses.specs.Declarators.{outermost_of, is_defined_list}
use Rattle.c_senses.specs.Tags.{tag_declared, declaring_specifier, completed_from, members_under}
use Rattle.c_senses.specs.Limits.{lacks_a_length}
use Rattle.c_senses.specs.Entities.{own_type, all_together, types_of, keep, first_of, internal_among}
use Rattle.c_senses.specs.Entities.{declares_function, is_typedef, is_defined, linkage_of, entity_of, storage_of}
use Rattle.c_senses.specs.Entities.{function_around, initialiser_for, has_storage, declaration_of, with_length}
use Rattle.c_senses.specs.Keys.{key_of}
use Rattle.c_senses.specs.Rows.{AreSenses, world_at}
use Rattle.c_senses.specs.Sense.{Sense, IsCore, IsDeclarator, IsInitial, sense_in}

-- the number of each entity, by the leaf by which it is known
abbrev pub Numbering : Type 0
Numbering = ℕ → Option ℕ

-- the entities of a list, in order
abbrev pub SameEntities : Numbering → List ℕ → List ℕ → Type 0
SameEntities n [] [] = ⊤
SameEntities n (d ∷ ds) (e ∷ es) = (n d ≡ Some e) × SameEntities n ds es
SameEntities n ds es = ⊥

-- one kind, but for the numbers of entities
abbrev pub SameKind : Numbering → NodeKind → NodeKind → Type 0
SameKind n (Named d) (Named e) = n d ≡ Some e
SameKind n (FunctionName d) (FunctionName e) = n d ≡ Some e
SameKind n (Literal d) (Literal e) = n d ≡ Some e
SameKind n (VarArgs d) (VarArgs e) = n d ≡ Some e
SameKind n (Initialise d paths) (Initialise e others) = (n d ≡ Some e) × (paths ≡ others)
SameKind n (Block ds) (Block es) = SameEntities n ds es
SameKind n (For ds c a) (For es d b) = SameEntities n ds es × (c ≡ d) × (a ≡ b)
SameKind n a b = a ≡ b

-- the node of that number, and what is under it, are that tree, up to the numbers of entities
abbrev mutual
  pub StandsBy : Numbering → Unit → ℕ → Core → Type 0
  StandsBy m u i (Of kind place type under) =
      (node : Node) × (slice_get u.nodes.items i ≡ Some node) × SameKind m kind node.kind
      × (node.place ≡ place) × (type_of u.types node.ty.0 ≡ type) × AllStandBy m u node.children under

  pub AllStandBy : Numbering → Unit → List ℕ → Cores → Type 0
  AllStandBy m u is NoCores = is ≡ []
  AllStandBy m u is (MoreCores c rest) =
      (i : ℕ) × (more : List ℕ) × (is ≡ i ∷ more) × StandsBy m u i c × AllStandBy m u more rest

-- what is declared
pub record Declared : Type 0 where
  pub name : List ℕ
  pub place : Place
  pub type : Ctype
  pub linkage : Linkage
  pub storage : Storage
  pub owner : Option ℕ
  pub body : Option Core

module _ (s : Source) (senses : List Sense) where
  abbrev pub sense_of : ℕ → Sense
  sense_of i = sense_in senses i

  -- the leaves that declare objects and functions: those of declarations, and the parameters of definitions
  abbrev pub is_declaring : ℕ → Bool
  is_declaring i =
      is_name s i
      && (elim
      (outermost_of s i) [
        | None ↦ false
        | Some d ↦ elim
            (sense_of d) [ IsDeclarator name ds ↦ same_length name (Some i) | _ ↦ false ]
      ])

  abbrev pub is_defined_parameter : ℕ → Bool
  is_defined_parameter i =
      elim
      (option_and_then (parent_of s) (declaration_of s sense_of i))
      [ None ↦ false | Some suffix ↦ is_defined_list (world_at s senses suffix) s sense_of suffix ]

  abbrev pub stands_in_declaration : ℕ → Bool
  stands_in_declaration i =
      elim
      (declaration_of s sense_of i) [
        | None ↦ false
        | Some p ↦ is_a s p_external p
            || (is_a s p_declaration p || (is_a s p_parameter p && is_defined_parameter i))
      ]

  abbrev pub declares_entity : ℕ → Bool
  declares_entity i =
      is_declaring i
      && (stands_in_declaration i && (not (is_typedef s sense_of i) && (entity_of s sense_of i == i)))

  -- all declarations of an internal name, in order
  abbrev pub of_internal : ℕ → List Declaration
  of_internal i = internal_among s sense_of s.declared.ordinary (ordinary_at s i)

  -- an internal object that has a length in no declaration gets one element
  abbrev pub with_one : Ctype → Ctype
  with_one t = if lacks_a_length t then with_length (Some 1) t else t

  -- an internal name has its place at its definition, else at its first tentative definition, else at its first
  -- declaration
  abbrev pub is_definition_at : Declaration → Bool
  is_definition_at d = is_defined s sense_of d.node || is_some (initialiser_for s sense_of d.node)

  abbrev pub is_tentative : Declaration → Bool
  is_tentative d = not (declares_function s sense_of d.node || has_storage s sense_of word_extern d.node)

  abbrev pub representative : ℕ → ℕ
  representative i =
      elim (linkage_of s sense_of i) [
        | Internal ↦ first_of s sense_of
            (first_of s sense_of i (keep s sense_of is_tentative (of_internal i)))
            (keep s sense_of is_definition_at (of_internal i))
        | _ ↦ i
      ]

  -- the type of an internal name is that of all its declarations; of a function it is the definition's, where there
  -- is one
  abbrev pub internal_type : ℕ → Option Ctype
  internal_type i =
      if is_defined s sense_of (representative i) then own_type s sense_of (representative i)
      else option_map with_one (all_together None (types_of s sense_of (of_internal i)))

  abbrev pub entity_type : ℕ → Option Ctype
  entity_type i = elim (linkage_of s sense_of i) [ Internal ↦ internal_type i | _ ↦ own_type s sense_of i ]

  abbrev pub storage_at : ℕ → Storage
  storage_at i =
      elim
      (linkage_of s sense_of i) [
        | Internal ↦
            (elim
            (storage_of s sense_of (representative i)) [
              | DeclaredStorage ↦ if declares_function s sense_of i then DeclaredStorage
                  else Static
              | other ↦ other
            ])
        | _ ↦ storage_of s sense_of i
      ]

  abbrev pub owner_at : ℕ → Option ℕ
  owner_at i =
      elim
      (linkage_of s sense_of i)
      [ Local ↦ option_map (entity_of s sense_of) (function_around s sense_of i) | _ ↦ None ]

  -- a function's body is its block, an object's is its Initialise
  abbrev pub core_of_sense : Sense → Option Core
  core_of_sense (IsCore c) = Some c
  core_of_sense (IsInitial c n) = Some c
  core_of_sense x = None

  abbrev pub block_for : ℕ → Option ℕ
  block_for i = option_and_then (child_of s p_block) (declaration_of s sense_of i)

  abbrev pub body_at : ℕ → Option Core
  body_at i =
      if is_defined s sense_of i then option_and_then (λ b. core_of_sense (sense_of b)) (block_for i)
      else option_and_then (λ init. core_of_sense (sense_of init)) (initialiser_for s sense_of i)

  abbrev pub declared_as : ℕ → Ctype → Declared
  declared_as i t = record {
    name = spelling_at s i;
    place = place_at s (representative i);
    type = t;
    linkage = linkage_of s sense_of i;
    storage = storage_at i;
    owner = owner_at i;
    body = body_at (representative i);
  }

  -- what a leaf of a name declares
  abbrev pub declared_name : ℕ → Option Declared
  declared_name i = if declares_entity i then option_map (declared_as i) (entity_type i) else None

  -- a compound literal has an object where its node stands in a body
  abbrev pub IsPart : Core → Core → Type 0
  IsPart part c = (k : ℕ) × (core_in (cores_under c) k ≡ Some part)

  pub data Within : Core → Core → Type 0 where
    Itself : {c : Core} → Within c c
    Below : {c d part : Core} → IsPart part c → Within d part → Within d c

  abbrev pub literal_storage : ℕ → Storage
  literal_storage i = if is_some (function_around s sense_of i) then Automatic else Static

  abbrev pub literal_as : ℕ → Core → Declared
  literal_as i c = record {
    name = [];
    place = place_at s i;
    type = ctype_of c;
    linkage = Local;
    storage = literal_storage i;
    owner = option_map (entity_of s sense_of) (function_around s sense_of i);
    body = core_in (cores_under c) 0;
  }

  abbrev pub IsLiteralOf : ℕ → Core → Type 0
  IsLiteralOf i c =
      (kind_of c ≡ Literal i)
      × ((d : ℕ) × (what : Declared) × (body : Core) × (declared_name d ≡ Some what) × (what.body ≡ Some body)
      × Within c body)

  -- what is declared at a leaf: by a name, or as a compound literal at its parenthesis
  abbrev pub IsDeclaredAt : ℕ → Declared → Type 0
  IsDeclaredAt i what = (declared_name i ≡ Some what) ⊎ ((c : Core) × IsLiteralOf i c × (what ≡ literal_as i c))

abbrev pub SameOwner : Numbering → Option ℕ → Option ℕ → Type 0
SameOwner n None None = ⊤
SameOwner n (Some d) (Some e) = n d ≡ Some e
SameOwner n a b = ⊥

abbrev pub SameBody : Numbering → Unit → Option Core → Option ℕ → Type 0
SameBody n u None None = ⊤
SameBody n u (Some c) (Some b) = StandsBy n u b c
SameBody n u a b = ⊥

-- an entity is what is declared
pub record IsEntityOf (n : Numbering) (u : Unit) (unit : ℕ) (what : Declared) (e : Entity) : Type 0 where
  pub name : e.name ≡ what.name
  pub unit_is : e.unit ≡ unit
  pub place : e.place ≡ what.place
  pub type : type_of u.types e.ty.0 ≡ what.type
  pub linkage : e.linkage ≡ what.linkage
  pub storage : e.storage ≡ what.storage
  pub owner : SameOwner n what.owner e.owner
  pub body : SameBody n u what.body e.body

-- a tag is known by its first declaration; one of a structure or union has a number
abbrev pub is_tag : Source → ℕ → Bool
is_tag s d = any_where (λ i. is_a s p_struct i && (tag_declared s i == d)) (all_nodes s)

-- different tags have different numbers
abbrev pub TagsDiffer : Source → Type 0
TagsDiffer s = (c d : ℕ) → is_tag s c ≡ true → is_tag s d ≡ true → s.tag_number c ≡ s.tag_number d → c ≡ d

-- the place of the specifier that declares a tag decides its key; a key that an earlier tag has is none
abbrev pub key_of_tag : Source → (ℕ → Sense) → ℕ → Option (List ℕ)
key_of_tag s sense d = option_and_then (key_of s sense) (declaring_specifier s d)

pub record KeysRight (s : Source) (sense : ℕ → Sense) (keys : List (Option (List ℕ))) : Type 0 where
  pub none : (d : ℕ) → is_tag s d ≡ true → key_of_tag s sense d ≡ None → slice_get keys (s.tag_number d) ≡ Some None
  pub first : (d : ℕ) (key : List ℕ)
      → is_tag s d ≡ true
      → key_of_tag s sense d ≡ Some key
      → ((c : ℕ) → c < d → is_tag s c ≡ true → key_of_tag s sense c ≡ Some key → ⊥)
      → slice_get keys (s.tag_number d) ≡ Some (Some key)
  pub again : (c d : ℕ) (key : List ℕ)
      → is_tag s d ≡ true
      → key_of_tag s sense d ≡ Some key
      → c < d
      → is_tag s c ≡ true
      → key_of_tag s sense c ≡ Some key
      → slice_get keys (s.tag_number d) ≡ Some None

-- each Initialise is its entity's body
abbrev pub InitialisesOnce : Unit → Type 0
InitialisesOnce u =
    (i e : ℕ)
    → Initialises (trees_of u) i e
    → (entity : Entity) × (entity_at (trees_of u) e ≡ Some entity) × (entity.body ≡ Some i)

-- a node is a body or a child
abbrev pub IsBody : Unit → ℕ → Type 0
IsBody u b = (e : ℕ) × (entity : Entity) × (entity_at (trees_of u) e ≡ Some entity) × (entity.body ≡ Some b)

-- The unit is what the rows give for the tree, and has nothing else.
pub record Right (s : Source) (name : List ℕ) (u : Unit) : Type 0 where
  pub valid : ValidUnit u
  pub named : u.name ≡ name
  pub senses : List Sense
  pub are_senses : AreSenses s senses
  pub whole : length senses ≡ length s.nodes
  pub numbering : Numbering
  -- entities: each thing that is declared has one, and there are no others
  pub entity_once : (c d e : ℕ) → numbering c ≡ Some e → numbering d ≡ Some e → c ≡ d
  pub each_declared : (d : ℕ) (what : Declared)
      → IsDeclaredAt s senses d what
      → (e : ℕ) × (entity : Entity) × (numbering d ≡ Some e) × (entity_at (trees_of u) e ≡ Some entity)
      × IsEntityOf numbering u s.unit what entity
  pub no_other_entity : (e : ℕ)
      → e < length u.entities.items
      → (d : ℕ) × (what : Declared) × IsDeclaredAt s senses d what × (numbering d ≡ Some e)
  -- tags: each one has a number of its own, with its members and its key, and there are no others
  pub tag_once : TagsDiffer s
  pub each_tag : (d : ℕ) → is_tag s d ≡ true → s.tag_number d < u.types.tags
  pub no_other_tag : (t : ℕ) → t < u.types.tags → (d : ℕ) × (is_tag s d ≡ true) × (s.tag_number d ≡ t)
  pub members : (d : ℕ)
      → is_tag s d ≡ true
      → parts_in u.types (members_in u.types (s.tag_number d))
      ≡ members_under (completed_from s senses (sense_in senses) 0) (s.tag_number d)
  pub keys : KeysRight s (sense_in senses) u.tags.items
  -- nodes: each one is a body or stands under one, and each initialiser is a body
  pub initialises_once : InitialisesOnce u
  pub no_other_node : (i : ℕ) → i < length u.nodes.items → IsBody u i ⊎ ((p : ℕ) × IsChild (trees_of u) p i)
