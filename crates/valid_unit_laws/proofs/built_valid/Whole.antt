-- The fields of a valid unit, one by one.
use Rattle.std.proofs.Common.{◌≡◌, ◌<◌, ap, ℕ, ◌⊎◌, inl, inr, List, Option, Some, None, length, refl, subst}
use Rattle.std.specs.Prelude.{IfSome, ⊤}
use Rattle.std.proofs.lemmas.Option.{slice_get_within}
use Rattle.c_lexer.specs.declared.Tokens.{Tokens}
use Rattle.c_lexer.specs.Cut.{IsTokens}
use Rattle.c_types.specs.Trees.{Ctype}
use Rattle.c_grammar.specs.declared.trees.Tree.{Tree}
use Rattle.c_parser.specs.c_units.Units.{IsUnit}
use Rattle.core_tree.specs.declared.node.Node.{Node}
use Rattle.core_tree.specs.declared.node.Unit.{Unit}
use Rattle.core_tree.specs.declared.node.Entity.{Entity}
use Rattle.core_tree.specs.declared.node.Storage.{Storage}
use Rattle.core_tree.specs.declared.node.Storage.TheVariants.{Static, Automatic, FunctionBody, Parameter, Declared}
use Rattle.core_tree.specs.declared.node.NodeKind.{NodeKind}
use Rattle.core_tree.specs.declared.node.NodeKind.TheVariants.{CallNode, Literal}
use Rattle.core_tree.specs.Typed.{CoreTrees, trees_of}
use Rattle.core_tree.specs.Range.{node_at, entity_at}
use Rattle.core_tree.specs.Rows.{Initialises}
use Rattle.core_tree.specs.Linkages.{Linkages}
use Rattle.core_tree.specs.Valid.{InRows, FixedStatics, Owned, Bodied, HasBody, IsFunctionBody, IsObjectBody, Measured, AllListed, MayStand, IsLiteralOf, IsLiteral, IsLasting, Valid, ValidUnit, InSomeBody}
use Rattle.c_scope.specs.declared.resolving.Bound.{Bound}
use Rattle.c_scope.specs.Resolves.{IsBound}
use Rattle.c_senses.specs.Names.{source_of, numbered}
use Rattle.c_senses.specs.Tree.{Source}
use Rattle.c_senses.specs.World.{World}
use Rattle.c_senses.specs.Sense.{Sense, sense_in}
use Rattle.c_senses.specs.Rows.{world_at}
use Rattle.parsed_tree_laws.specs.sense_laws.Senses.{SoundSense}
use Rattle.parsed_tree_laws.proofs.sense_laws.parsed_laws.Constants.{constants_fit}
use Rattle.core_node_laws.specs.standing_laws.Standing.{IsGrown, IsMade, BodiesKnown, StatementStands}
use Rattle.core_node_laws.specs.built_unit_laws.built_units.Built.{IsBuilt}
use Rattle.core_node_laws.proofs.built_unit_laws.built_laws.Range.{in_range}
use Rattle.core_node_laws.proofs.built_unit_laws.built_laws.Keys.{keyed}
use Rattle.core_node_laws.proofs.built_unit_laws.built_laws.Uses.{uses_right}
use Rattle.core_node_laws.specs.built_unit_laws.built_rows.Rows.{types_declared}
use Rattle.core_node_laws.proofs.built_unit_laws.built_rows.Placed.{rows_asked}
use Rattle.core_node_laws.proofs.built_unit_laws.built_standing.Built.{statements_built}
use Rattle.declaration_laws.proofs.declared_type_laws.owner_laws.passed.definition_laws.linkage_laws.Unlinked.{entities_unlinked}
use Rattle.valid_unit_laws.proofs.object_initialiser_laws.internal_name_laws.passed.declared_type_laws.declared_uses.Reading.{uses_declared}
use Rattle.core_node_laws.proofs.built_unit_laws.unlinked_laws.Unlinked.{literals_unlinked}
use Rattle.valid_unit_laws.specs.object_initialiser_laws.internal_name_laws.passed.function_laws.body_laws.Bodies.{BodiesInitialise, BodiesApart}
use Rattle.valid_unit_laws.proofs.object_initialiser_laws.internal_name_laws.passed.function_laws.body_laws.Apart.{one_body_each}
use Rattle.valid_unit_laws.proofs.object_initialiser_laws.internal_name_laws.passed.function_laws.Functions.{functions_fit}
use Rattle.valid_unit_laws.proofs.object_initialiser_laws.internal_name_laws.passed.function_laws.case_laws.Cases.{cases_differ}
use Rattle.core_node_laws.proofs.built_unit_laws.lasting_literals.Lasting.{literals_last}
use Rattle.core_node_laws.specs.count_laws.once_nodes.Once.{IsLaid}
use Rattle.declaration_laws.proofs.declared_type_laws.owner_laws.passed.definition_laws.block_laws.Whole.{blocks_differ}
use Rattle.core_node_laws.proofs.count_laws.single_nodes.Whole.{literals_once}
use Rattle.valid_unit_laws.specs.object_size_laws.passed.object_initialiser_laws.owners_known.Known.{OwnersRight}
use Rattle.valid_unit_laws.proofs.object_size_laws.passed.object_initialiser_laws.owners_known.Known.{owners_known}
use Rattle.valid_unit_laws.proofs.object_size_laws.passed.object_initialiser_laws.all_listed.Whole.{units_list}
use Rattle.declaration_laws.specs.declared_type_laws.owner_laws.Owners.{Forward}
use Rattle.valid_unit_laws.proofs.object_size_laws.passed.object_initialiser_laws.all_listed.PassedOn.{initialisers_owned}
use Rattle.valid_unit_laws.specs.object_initialiser_laws.internal_name_laws.passed.function_laws.function_bodies.Bodies.{FunctionFits}
use Rattle.valid_unit_laws.proofs.object_initialiser_laws.internal_name_laws.passed.function_laws.function_bodies.Reading.{functions_stand}
use Rattle.valid_unit_laws.proofs.object_initialiser_laws.internal_name_laws.passed.function_laws.named_definitions.Naming.{definitions_named}
use Rattle.valid_unit_laws.proofs.object_initialiser_laws.internal_name_laws.passed.function_laws.result_laws.Results.{results_sized}
use Rattle.valid_unit_laws.proofs.object_initialiser_laws.static_value_laws.static_literals.PassedOn.{fixed_whole}
use Rattle.valid_unit_laws.proofs.object_initialiser_laws.static_value_laws.static_literals.Whole.{literals_built}
use Rattle.type_rules.specs.Sizes.{TagsHaveSizes}
use Rattle.core_node_laws.specs.built_unit_laws.tag_sizes.Sizes.{TagsSpecified}
use Rattle.core_node_laws.proofs.built_unit_laws.tag_sizes.Sizes.{tags_sized}
use Rattle.valid_unit_laws.specs.object_size_laws.passed.object_initialiser_laws.bodies_fit.PassedOn.{InternalFit}
use Rattle.valid_unit_laws.proofs.object_size_laws.entity_sizes.Whole.{entities_sized}
use Rattle.valid_unit_laws.proofs.object_size_laws.passed.limit_laws.member_laws.Measured.{values_have_sizes}
use Rattle.valid_unit_laws.proofs.object_size_laws.passed.object_initialiser_laws.bodies_fit.Fitting.{bodies_fit}
use Rattle.declaration_laws.proofs.declared_type_laws.owner_laws.internal_laws.Reading as internal_laws
use Rattle.valid_unit_laws.proofs.object_initialiser_laws.static_value_laws.built_filled.Filling.{built_are_filled}
use Rattle.core_node_laws.proofs.built_unit_laws.built_standing.Built.{parameters_built}
use Rattle.link_model.proofs.calling_laws.Calls.{calls_stand}
use Rattle.valid_unit_laws.specs.built_valid.Whole.{BuiltIsValid}
use Rattle.valid_unit_laws.proofs.built_valid.Sound.{senses_grown, senses_internal, senses_asked, senses_sound}

is_function : (s : Storage) → (s ≡ FunctionBody) ⊎ (s ≡ FunctionBody → ⊥)
is_function Static = inr (λ e. cc)
is_function Automatic = inr (λ e. cc)
is_function FunctionBody = inl refl
is_function Parameter = inr (λ e. cc)
is_function Declared = inr (λ e. cc)

-- a call stands in the body of a function
abbrev CallStands : CoreTrees → ℕ → NodeKind → Type 0
CallStands u n CallNode = InSomeBody u n
CallStands u n kind = ⊤

of_call : (u : CoreTrees) (n : ℕ) (kind : NodeKind) → (kind ≡ CallNode → InSomeBody u n) → CallStands u n kind
of_call u n CallNode h = h refl
of_call u n kind h = tt

-- a node that is no call, and a call
may_stand : (u : CoreTrees) (n : ℕ) (kind : NodeKind) → StatementStands u n kind → CallStands u n kind → MayStand u n kind
may_stand u n CallNode h c = c
may_stand u n kind h c = h

of_kind : (kind : NodeKind) (e : ℕ) → IsLiteralOf kind e → kind ≡ Literal e
of_kind (Literal o) e h = ap Literal h
of_kind kind e h = absurd h

entity_within : (u : CoreTrees) (e : ℕ) (o : Option Entity) → entity_at u e ≡ o → IsLasting o → e < length u.entities
entity_within u e None at h = absurd h
entity_within u e (Some x) at h = slice_get_within u.entities e x at

module _ (tokens : Tokens) (unit : ℕ) (tree : Tree) (tag_number : ℕ → ℕ) (name : List ℕ) (u : Unit) (bound : Bound) (cut : IsTokens tokens.text.now tokens.list.items) (is : IsUnit tokens unit tree) (bind : IsBound tokens tree bound) (built : IsBuilt (numbered tag_number (source_of tokens tree)) name u) (specified : TagsSpecified (numbered tag_number (source_of tokens tree)) u.types) where
  abbrev s : Source
  s = numbered tag_number (source_of tokens tree)

  abbrev senses : List Sense
  senses = built.senses

  abbrev types : ℕ → Option Ctype
  types = types_declared s senses

  abbrev w : World
  w = world_at s senses (length senses)

  grown : IsGrown s
  grown = senses_grown tokens unit tree tag_number senses cut is built.are_senses built.whole

  internals : InternalFit s senses
  internals = senses_internal tokens unit tree tag_number senses cut is built.are_senses built.whole

  rows : InRows (trees_of u)
  rows = rows_asked s name u built grown.first (constants_fit tokens tree tag_number cut) grown.statements (senses_asked tokens unit tree tag_number senses cut is built.are_senses built.whole)

  sound : (i : ℕ) → SoundSense w types (sense_in senses i)
  sound = senses_sound tokens unit tree tag_number senses cut is built.are_senses built.whole

  fixed : FixedStatics (trees_of u)
  fixed = fixed_whole tokens unit tree tag_number name u cut is built (literals_built tokens unit tree tag_number name u cut is built) rows

  -- bodies
  object : (e : ℕ) (entity : Entity) (b : ℕ) → entity_at (trees_of u) e ≡ Some entity → (entity.storage ≡ FunctionBody → ⊥) → entity.body ≡ Some b → IsObjectBody (trees_of u) e entity b
  object e entity b at not held = bodies_fit tokens unit tree tag_number name u cut is built internals e entity at not b held

  objects : BodiesInitialise u
  objects e entity at not b is = (object e entity b at not is).initialises

  apart : BodiesApart u
  apart = one_body_each s name u built objects

  some_body : (e : ℕ) (entity : Entity) (b : ℕ) → entity_at (trees_of u) e ≡ Some entity → entity.body ≡ Some b → FunctionFits (trees_of u) entity (Some b) → IsFunctionBody (trees_of u) entity b ⊎ IsObjectBody (trees_of u) e entity b
  some_body e entity b at is fits = elim (is_function entity.storage) [
    | inl f ↦ let both = fits f in inl (record { function = both.0; storage = f; block = both.1; top = built.tops e entity at f b is })
    | inr not ↦ inr (object e entity b at not is)
  ]

  has_body : (e : ℕ) (entity : Entity) (body : Option ℕ) → entity_at (trees_of u) e ≡ Some entity → entity.body ≡ body → FunctionFits (trees_of u) entity body → HasBody (trees_of u) e entity body
  has_body e entity None at is fits = fits
  has_body e entity (Some b) at is fits = (some_body e entity b at is fits, apart e entity at b is)

  bodied : Bodied (trees_of u)
  bodied e entity at = has_body e entity entity.body at refl (functions_stand tokens unit tree tag_number name u cut is built e entity at)

  body_known : (e : ℕ) (entity : Entity) (body : Option ℕ) → HasBody (trees_of u) e entity body → IfSome body (λ b. (entity.storage ≡ FunctionBody) ⊎ Initialises (trees_of u) b e)
  body_known e entity None h = tt
  body_known e entity (Some b) (inl f, only) = inl f.storage
  body_known e entity (Some b) (inr o, only) = inr o.initialises

  known : BodiesKnown (trees_of u)
  known e entity at = body_known e entity entity.body (bodied e entity at)

  owned : Owned (trees_of u)
  owned = internal_laws.owners_known tokens unit tree tag_number name u cut is built

  forward : Forward (trees_of u)
  forward = initialisers_owned tokens unit tree tag_number name u cut is built (record { rows = rows; bodied = bodied; fixed = fixed })

  owners : OwnersRight (trees_of u)
  owners =
      owners_known tokens unit tree tag_number name u cut is built (definitions_named tokens unit tree tag_number senses cut is built.are_senses built.whole) (record { rows = rows; owned = owned; bodied = bodied; fixed = fixed; forward = forward })

  -- compound literals
  made : IsMade s senses built.numbering u
  made = record {
    are_senses = built.are_senses;
    whole = built.whole;
    each_declared = built.each_declared;
    no_other_entity = built.no_other_entity;
    ready = built.ready;
    no_other_node = built.no_other_node;
  }

  body_kind : (e b : ℕ) (entity : Entity) (body : Option ℕ) → body ≡ Some b → IfSome body (λ c. (entity.storage ≡ FunctionBody) ⊎ Initialises (trees_of u) c e) → (entity.storage ≡ FunctionBody) ⊎ Initialises (trees_of u) b e
  body_kind e b entity None is h = cc
  body_kind e b entity (Some c) is h = let same : c ≡ b = cc in subst (λ (n : ℕ). (entity.storage ≡ FunctionBody) ⊎ Initialises (trees_of u) n e) same h

  laid : IsLaid s senses built.numbering u
  laid = record {
    are_senses = built.are_senses;
    whole = built.whole;
    entity_once = built.entity_once;
    each_declared = built.each_declared;
    no_other_entity = built.no_other_entity;
    initialises_once = built.initialises_once;
    no_other_node = built.no_other_node;
    children_first = built.ready.children;
    bodies = λ e b entity at body. body_kind e b entity entity.body body (known e entity at);
    blocks = blocks_differ tokens unit tree tag_number senses is built.are_senses built.whole;
  }

  listed : AllListed (trees_of u)
  listed = units_list tokens unit tree tag_number name u cut is built laid owners.in_owner forward

  literal : (n : ℕ) (node : Node) (kind : NodeKind) → node_at (trees_of u) n ≡ Some node → node.kind ≡ kind → IsLiteral (trees_of u) n kind
  literal n node (Literal e) at is_one =
      let lasts = literals_last s senses built.numbering u grown made n node at e is_one in (
        lasts,
        λ m other there h. literals_once tokens unit tree tag_number senses built.numbering u cut is laid m n e other node (entity_within (trees_of u) e (entity_at (trees_of u) e) refl lasts) there at (of_kind other.kind e h) is_one,
      )
  literal n node kind at is_one = tt

  calls : (n : ℕ) (node : Node) → node_at (trees_of u) n ≡ Some node → node.kind ≡ CallNode → InSomeBody (trees_of u) n
  calls = calls_stand (trees_of u) (record {
    in_range = in_range s name u built;
    rows = rows;
    owned = owned;
    bodied = bodied;
    in_owner = owners.in_owner;
    literals = λ n node at. literal n node node.kind at refl;
    listed = listed;
    fixed = fixed;
    no_other_node = built.no_other_node;
    initialised = let filled = built_are_filled tokens unit tree tag_number name u is built in filled.each;
    parameters = parameters_built tokens unit tree tag_number name u cut is built;
  })

  tags : TagsHaveSizes u.types
  tags = tags_sized s name u built grown.first grown.families specified

  measured : Measured (trees_of u)
  measured = record { objects = entities_sized tokens unit tree tag_number name u cut is built sound tags; tags = tags; values = values_have_sizes s name u built grown.first grown.families rows tags; results = λ e entity at storage. results_sized tokens unit tree tag_number name u cut is built bodied e entity at storage }

  trees : Valid (trees_of u)
  trees = record {
    in_range = in_range s name u built;
    child_once = built.child_once;
    rows = rows;
    owned = owned;
    bodied = bodied;
    in_owner = owners.in_owner;
    literals = λ n node at. literal n node node.kind at refl;
    listed = listed;
    lists = owners.lists;
    fixed = fixed;
    standing = λ n node at. may_stand (trees_of u) n node.kind (statements_built tokens unit tree tag_number name u cut is built w types sound rows known n node at) (of_call (trees_of u) n node.kind (calls n node at));
    functions = λ n node at. functions_fit tokens unit tree tag_number name u bound cut is bind built w types sound rows bodied n node at;
    cases = λ n node at. cases_differ tokens unit tree tag_number name u cut is built w types sound rows known n node at;
    uses = uses_right s name u built;
    measured = measured;
  }

  linkages : Linkages (trees_of u)
  linkages = record {
    entities = entities_unlinked tokens unit tree tag_number name u cut is built;
    nodes = λ n node at. record { literal = literals_unlinked s name u built n node at; declared = uses_declared tokens unit tree tag_number name u cut is built n node at };
  }

  whole : ValidUnit u
  whole = record { trees = trees; keys = keyed s name u built; linkages = linkages }

pub built_is_valid : BuiltIsValid
built_is_valid tokens unit tree tag_number name u bound cut is bind built specified = whole tokens unit tree tag_number name u bound cut is bind built specified
