-- The initialiser of a compound literal within a function stands in the body of the literal's owner.
use Rattle.std.proofs.Common.{◌≡◌, ℕ, zero, suc, List, [], ◌∷◌, Option, Some, None, slice_get, refl, sym, ap, ◌∙◌, subst, inl}
use Rattle.std.specs.Prelude.{option_map}
use Rattle.c_lexer.specs.declared.Tokens.{Tokens}
use Rattle.c_lexer.specs.Cut.{IsTokens}
use Rattle.c_grammar.specs.declared.trees.Tree.{Tree}
use Rattle.c_parser.specs.c_units.Units.{IsUnit}
use Rattle.c_types.specs.Trees.{Ctype}
use Rattle.c_types.specs.Table.{type_of}
use Rattle.core_tree.specs.declared.node.Unit.{Unit}
use Rattle.core_tree.specs.declared.node.Node.{Node}
use Rattle.core_tree.specs.declared.node.Entity.{Entity}
use Rattle.core_tree.specs.declared.node.NodeKind.{NodeKind}
use Rattle.core_tree.specs.declared.node.NodeKind.TheVariants.{Literal}
use Rattle.core_tree.specs.declared.node.Storage.{Storage}
use Rattle.core_tree.specs.declared.node.Storage.TheVariants.{Static, Automatic, FunctionBody, Parameter, Declared}
use Rattle.core_tree.specs.Typed.{CoreTrees, trees_of}
use Rattle.core_tree.specs.Rows.{RowOf, LiteralRow, Initialises}
use Rattle.core_tree.specs.Range.{Under, here, below, IsChild, EachNode, child_in, node_at, entity_at}
use Rattle.core_tree.specs.Valid.{InRows, Bodied, FixedStatics, IsLocal, IsLasting, LivesForTheRun}
use Rattle.link_model.specs.filled_units.Filled.{IsFilled}
use Rattle.c_consts.specs.Core.{Core, Cores, Of, NoCores, MoreCores, kind_of, core_in}
use Rattle.c_senses.specs.Names.{source_of, numbered}
use Rattle.c_senses.specs.Tree.{Source}
use Rattle.c_senses.specs.Sense.{Sense, IsCore, sense_in}
use Rattle.c_senses.specs.Entities.{entity_of, function_around}
use Rattle.c_senses.specs.Right.{Numbering, StandsBy, AllStandBy, SameKind, SameBody, SameOwner, IsEntityOf, Declared as Declares, declared_name, IsPart, Within, Itself, Below, IsLiteralOf, literal_as}
use Rattle.declaration_laws.specs.declared_type_laws.owner_laws.passed.definition_laws.scope_laws.Beneath.{part}
use Rattle.declaration_laws.specs.declared_type_laws.owner_laws.passed.definition_laws.scope_laws.Scoped.{ParametersListed}
use Rattle.core_node_laws.specs.near_nodes.Holding.{Holds, OfSense}
use Rattle.core_node_laws.specs.standing_laws.Standing.{IsGrown, IsMade}
use Rattle.core_node_laws.proofs.built_unit_laws.parameter_bodies.Bare.{parameters_bare}
use Rattle.core_node_laws.proofs.built_unit_laws.lasting_literals.Lasting.{literals_last}
use Rattle.core_node_laws.specs.built_unit_laws.built_units.Built.{IsBuilt}
use Rattle.valid_unit_laws.proofs.object_initialiser_laws.static_value_laws.built_filled.Filling.{built_are_filled}
use Rattle.declaration_laws.specs.declared_type_laws.owner_laws.Owners.{LeftsStand, DefinitionsNamed, FurtherKnown}
use Rattle.declaration_laws.proofs.declared_type_laws.owner_laws.Defined.{FunctionTree, function_tree}
use Rattle.declaration_laws.proofs.declared_type_laws.owner_laws.Below.{Near, Stands, around_is, trees_stand}
use Rattle.valid_unit_laws.proofs.object_initialiser_laws.internal_name_laws.internal_names.PassedOn.{further_known}
use Rattle.declaration_laws.proofs.declared_type_laws.owner_laws.Walk.{stood, under_further, literal_is}
use Rattle.declaration_laws.proofs.declared_type_laws.owner_laws.Fixed.{literal_global}
use Rattle.declaration_laws.proofs.declared_type_laws.owner_laws.Whole.{grown_of, made_of}
use Rattle.declaration_laws.proofs.declared_type_laws.owner_laws.left_laws.Left.{lefts_stand}
use Rattle.declaration_laws.proofs.declared_type_laws.owner_laws.passed.definition_laws.parameter_lists.Whole.{parameters_listed}
use Rattle.valid_unit_laws.proofs.object_initialiser_laws.internal_name_laws.passed.function_laws.named_definitions.Naming.{definitions_named}
use Rattle.valid_unit_laws.proofs.object_initialiser_laws.owned_initialisers.Function.{some_same}
use Rattle.valid_unit_laws.proofs.object_initialiser_laws.owned_initialisers.Names.{Owns, own_initialise, name_owned}

-- ---- the node of a tree within another one

abbrev NodeBy : Numbering → Unit → ℕ → Core → Type 0
NodeBy m u b c = (n : ℕ) × Under (trees_of u) b n × StandsBy m u n c

abbrev Among : Numbering → Unit → List ℕ → Core → Type 0
Among m u is c = (k child : ℕ) × (slice_get is k ≡ Some child) × StandsBy m u child c

among : (m : Numbering) (u : Unit) (c : Core) (is : List ℕ) (under : Cores) (k : ℕ) → AllStandBy m u is under → core_in under k ≡ Some c → Among m u is c
among m u c is NoCores k are e = cc
among m u c is (MoreCores x rest) zero (i, more, same, own, others) e = (0, i, ap (λ (l : List ℕ). slice_get l 0) same, subst (λ (y : Core). StandsBy m u i y) (let one : x ≡ c = some_same e in one) own)
among m u c is (MoreCores x rest) (suc k) (i, more, same, own, others) e =
    let (j, child, at, stands) = among m u c more rest k others e in
    (suc j, child, ap (λ (l : List ℕ). slice_get l (suc j)) same ∙ at, stands)

part_node : (s : Source) (senses : List Sense) (m : Numbering) (u : Unit) (x whole : Core) (b : ℕ) → StandsBy m u b whole → IsPart s senses x whole → NodeBy m u b x
part_node s senses m u x (Of kind place type under) b (node, at, same, place_is, type_is, are) p =
    let (k, child, e, stands) = among m u x node.children under p.0 are p.1 in
    (child, below here (k, ap (λ (o : Option Node). child_in o k) at ∙ e), stands)

within_node : (s : Source) (senses : List Sense) (m : Numbering) (u : Unit) (c whole : Core) → Within s senses c whole → (b : ℕ) → StandsBy m u b whole → NodeBy m u b c
within_node s senses m u c whole Itself b h = (b, here, h)
within_node s senses m u c whole (Below {part = x} p inner) b h =
    let (child, down, stands) = part_node s senses m u x whole b h p in
    let (n, further, own) = within_node s senses m u c x inner child stands in
    (n, under_further u b child n down further, own)

-- ---- a literal's node

literal_kind : (m : Numbering) (leaf : ℕ) (kind : NodeKind) → SameKind m (Literal leaf) kind → (e : ℕ) × (kind ≡ Literal e) × (m leaf ≡ Some e)
literal_kind m leaf (Literal e) h = (e, refl, h)
literal_kind m leaf kind h = absurd (let bad : Literal leaf ≡ kind = h in cc)

-- the node of a literal, of the entity that has its leaf's number
literal_node : (m : Numbering) (u : Unit) (leaf n : ℕ) (c : Core) → kind_of c ≡ Literal leaf → StandsBy m u n c → (node : Node) × (e : ℕ) × (node_at (trees_of u) n ≡ Some node) × (node.kind ≡ Literal e) × (m leaf ≡ Some e)
literal_node m u leaf n (Of kind place type under) is (node, at, same, place_is, type_is, are) =
    let own = literal_kind m leaf node.kind (subst (λ (k : NodeKind). SameKind m k node.kind) is same) in
    (node, own.0, at, own.1, own.2)

-- a literal has its Initialise
literal_child : (u : CoreTrees) (kind : NodeKind) (t : Ctype) (children : List ℕ) (e : ℕ) → RowOf u kind t children → kind ≡ Literal e → (i : ℕ) × (slice_get children 0 ≡ Some i) × Initialises u i e
literal_child u kind t children e row is = by children (subst (λ (k : NodeKind). RowOf u k t children) is row)
  where
    by : (list : List ℕ) → LiteralRow u e t list → (i : ℕ) × (slice_get list 0 ≡ Some i) × Initialises u i e
    by [] h = absurd h
    by (i ∷ []) h = (i, refl, h.1)
    by (i ∷ j ∷ list) h = absurd h

module _
    (tokens : Tokens) (unit : ℕ) (tree : Tree) (tag_number : ℕ → ℕ) (name : List ℕ) (u : Unit) (cut : IsTokens tokens.text.now tokens.list.items) (is : IsUnit tokens unit tree)
    (built : IsBuilt (numbered tag_number (source_of tokens tree)) name u) (bodied : Bodied (trees_of u)) (rows : InRows (trees_of u)) (fixed : FixedStatics (trees_of u))
  where
    abbrev s : Source
    s = numbered tag_number (source_of tokens tree)

    abbrev senses : List Sense
    senses = built.senses

    abbrev sense : ℕ → Sense
    sense i = sense_in built.senses i

    abbrev m : Numbering
    m = built.numbering

    abbrev Owned_by : Option ℕ → ℕ → Type 0
    Owned_by owner n = Owns tokens unit tree tag_number name u cut is built bodied owner n

    grown : IsGrown s
    grown = grown_of tokens unit tree tag_number cut is

    made : IsMade s senses m u
    made = made_of s name u built

    names : DefinitionsNamed s senses
    names = definitions_named tokens unit tree tag_number senses cut is built.are_senses built.whole

    lefts : LeftsStand s
    lefts = lefts_stand tokens unit tree tag_number is

    listed : ParametersListed tokens tree s
    listed = parameters_listed tokens unit tree tag_number cut is

    further : FurtherKnown s senses
    further = further_known tokens unit tree tag_number senses cut is built.are_senses built.whole

    filled : IsFilled u
    filled = built_are_filled tokens unit tree tag_number name u is built

    -- ---- a literal below a function's body

    module _ (f top n e leaf : ℕ) (function : Entity) (node : Node) (at : entity_at (trees_of u) f ≡ Some function) (storage : function.storage ≡ FunctionBody) (body : function.body ≡ Some top) (under : Under (trees_of u) top n)
        (there : node_at (trees_of u) n ≡ Some node) (kind : node.kind ≡ Literal e) (number : m leaf ≡ Some e) where
      t : FunctionTree s senses m u grown made names f top
      t = function_tree s senses m u grown made names f function top at storage body

      abbrev N : ℕ → Type 0
      N i = Near s grown lefts t.external i

      abbrev A : Core → Type 0
      A = Stands tokens tree tag_number grown lefts listed senses made.are_senses t.external t.definition

      tree_held : OfSense s N A (IsCore t.core)
      tree_held = subst (λ (x : Sense). OfSense s N A x) t.sensed (trees_stand tokens tree tag_number grown lefts listed senses made.are_senses t.external t.definition further t.block (part t.part))

      leaf_near : N leaf
      leaf_near = by (stood A m u top n under (t.core, t.stands, tree_held))
        where
          by : (c : Core) × StandsBy m u n c × Holds A c → N leaf
          by (Of own place type children, (x, is_node, same, place_is, type_is, under_are), hold) =
              let one : x ≡ node = some_same (sym is_node ∙ there) in
              let told = literal_is m own x.kind e same (ap (λ (y : Node). y.kind) one ∙ kind) in
              let near : N told.0 = (subst (λ (k : NodeKind). Holds A (Of k place type children)) told.1 hold).0 in
              subst N (built.entity_once told.0 leaf e told.2 number) near

      -- its owner is the function
      owner_named : option_map (entity_of s sense) (function_around s sense leaf) ≡ Some t.name
      owner_named =
          let around : function_around s sense leaf ≡ function_around s sense t.block = around_is s grown lefts t.external t.definition sense leaf leaf_near ∙ sym (around_is s grown lefts t.external t.definition sense t.block (part t.part)) in
          ap (option_map (entity_of s sense)) around ∙ t.named

      literal_owner : (owner : Option ℕ) → SameOwner m (option_map (entity_of s sense) (function_around s sense leaf)) owner → owner ≡ Some f
      literal_owner owner same = by owner (subst (λ (o : Option ℕ). SameOwner m o owner) owner_named same)
        where
          by : (o : Option ℕ) → SameOwner m (Some t.name) o → o ≡ Some f
          by None h = absurd h
          by (Some k) h = sym h ∙ t.numbered

    -- ---- a literal's entity

    module _ (e leaf b : ℕ) (entity : Entity) (what : Declares) (at : entity_at (trees_of u) e ≡ Some entity) (number : m leaf ≡ Some e) (c : Core) (literal : IsLiteralOf s senses leaf c) (told : what ≡ literal_as s senses leaf c)
        (same : IsEntityOf m u s.unit what entity) (auto : entity.storage ≡ Automatic) (body : entity.body ≡ Some b) where
      owners : SameOwner m (option_map (entity_of s sense) (function_around s sense leaf)) entity.owner
      owners = subst (λ (o : Option ℕ). SameOwner m o entity.owner) (ap (λ (x : Declares). x.owner) told) same.owner

      -- its node, with the Initialise below
      record HasNode (n : ℕ) : Type 0 where
        node : Node
        there : node_at (trees_of u) n ≡ Some node
        kind : node.kind ≡ Literal e
        child : IsChild (trees_of u) n b

      has_node : (n : ℕ) → StandsBy m u n c → HasNode n
      has_node n stands =
          let (node, e2, there, kind2, number2) = literal_node m u leaf n c literal.0 stands in
          let one : e2 ≡ e = some_same (sym number2 ∙ number) in
          let kind : node.kind ≡ Literal e = kind2 ∙ ap Literal one in
          let own = literal_child (trees_of u) node.kind (type_of u.types node.ty.0) node.children e (rows n node there) kind in
          let (x, x_at, x_body) = built.initialises_once own.0 e own.2 in
          let entity_is : x ≡ entity = some_same (sym x_at ∙ at) in
          let child_is : own.0 ≡ b = some_same (sym x_body ∙ (ap (λ (y : Entity). y.body) entity_is ∙ body)) in
          record {
            node = node;
            there = there;
            kind = kind;
            child = (0, ap (λ (o : Option Node). child_in o 0) there ∙ (own.1 ∙ ap (λ (k : ℕ). Some k) child_is));
          }

      in_function : (f top n : ℕ) (function : Entity) → entity_at (trees_of u) f ≡ Some function → function.storage ≡ FunctionBody → function.body ≡ Some top → Under (trees_of u) top n → HasNode n → Owned_by entity.owner b
      in_function f top n function there storage top_is under h = record {
        function = f;
        owned_is = literal_owner f top n e leaf function h.node there storage top_is under h.there h.kind number entity.owner owners;
        entity = function;
        at = there;
        storage = storage;
        top = top;
        body = top_is;
        under = below under h.child;
      }

      lasting : EachNode (trees_of u) (λ k x. (o : ℕ) → x.kind ≡ Literal o → IsLasting (entity_at (trees_of u) o))
      lasting = literals_last s senses m u grown made

      -- below what is declared with a name
      module _ (d d_number top : ℕ) (holder : Entity) (other : Declares) (d_at : entity_at (trees_of u) d_number ≡ Some holder) (d_numbered : m d ≡ Some d_number) (declared : declared_name s senses d ≡ Some other)
          (holds : IsEntityOf m u s.unit other holder) (top_is : holder.body ≡ Some top) (n : ℕ) (under : Under (trees_of u) top n) (h : HasNode n) where
        no_function : (x : Storage) → holder.storage ≡ x → (x ≡ FunctionBody → ⊥) → Initialises (trees_of u) top d_number
        no_function x is_one differs = own_initialise tokens unit tree tag_number name u cut is built bodied d_number top holder d_at (λ e. differs (sym is_one ∙ e)) top_is

        in_static : holder.storage ≡ Static → ⊥
        in_static is_one =
            let init = no_function Static is_one (λ e. cc) in
            let lives : LivesForTheRun (entity_at (trees_of u) d_number) = subst LivesForTheRun (sym d_at) is_one in
            literal_global (trees_of u) rows fixed lasting top n h.node e entity under (d_number, init, lives) h.there h.kind at (subst IsLocal (sym auto) tt)

        in_declared : holder.storage ≡ Declared → ⊥
        in_declared is_one =
            let own = filled.each top d_number (no_function Declared is_one (λ e. cc)) in
            let one : holder ≡ own.0 = some_same (sym d_at ∙ own.1) in
            own.4 (ap (λ (x : Entity). x.storage) (sym one) ∙ is_one)

        in_object : holder.storage ≡ Automatic → Owned_by entity.owner b
        in_object is_one =
            let owns = name_owned tokens unit tree tag_number name u cut is built bodied d_number d top holder other d_at d_numbered declared holds is_one top_is in
            in_function owns.function owns.top n owns.entity owns.at owns.storage owns.body (under_further u owns.top top n owns.under under) h

        by_storage : (x : Storage) → holder.storage ≡ x → Owned_by entity.owner b
        by_storage FunctionBody is_one = in_function d_number top n holder d_at is_one top_is under h
        by_storage Automatic is_one = in_object is_one
        by_storage Static is_one = absurd (in_static is_one)
        by_storage Declared is_one = absurd (in_declared is_one)
        by_storage Parameter is_one = absurd (let none : Some top ≡ None = sym top_is ∙ parameters_bare s senses m u grown made d_number holder d_at is_one in cc)

      of_body : (d : ℕ) (other : Declares) (whole : Core) → declared_name s senses d ≡ Some other → other.body ≡ Some whole → Within s senses c whole → Owned_by entity.owner b
      of_body d other whole declared whole_is within =
          let (k, holder, d_numbered, d_at, holds) = built.each_declared d other (inl declared) in
          by k holder d_numbered d_at holds holder.body refl (subst (λ (o : Option Core). SameBody m u o holder.body) whole_is holds.body)
        where
          by : (k : ℕ) (holder : Entity) → m d ≡ Some k → entity_at (trees_of u) k ≡ Some holder → IsEntityOf m u s.unit other holder → (o : Option ℕ) → holder.body ≡ o → SameBody m u (Some whole) holder.body → Owned_by entity.owner b
          by k holder d_numbered d_at holds None top_is stands = absurd (subst (λ (o : Option ℕ). SameBody m u (Some whole) o) top_is stands)
          by k holder d_numbered d_at holds (Some top) top_is stands =
              let (n, under, own) = within_node s senses m u c whole within top (subst (λ (o : Option ℕ). SameBody m u (Some whole) o) top_is stands) in
              by_storage d k top holder other d_at d_numbered declared holds top_is n under (has_node n own) holder.storage refl

      pub literal_owned : Owned_by entity.owner b
      literal_owned = by literal
        where
          by : IsLiteralOf s senses leaf c → Owned_by entity.owner b
          by (kind, (d, other, whole, declared, whole_is, within)) = of_body d other whole declared whole_is within
