-- Names and literals of locals stand in their owner's body.
use Rattle.std.proofs.Common.{◌≡◌, ◌<◌, ℕ, Bool, true, false, List, Option, Some, None, length, slice_get, refl, sym, ap, ◌∙◌, subst, ◌⊎◌, inl, inr}
use Rattle.std.specs.Prelude.{IfSome, option_map, if◌then◌else◌}
use Rattle.std.proofs.lemmas.Option.{slice_get_within}
use Rattle.c_lexer.specs.declared.Tokens.{Tokens}
use Rattle.c_lexer.specs.Cut.{IsTokens}
use Rattle.c_grammar.specs.declared.trees.Tree.{Tree}
use Rattle.c_parser.specs.c_units.Units.{IsUnit}
use Rattle.c_types.specs.Trees.{Ctype}
use Rattle.core_tree.specs.declared.node.Unit.{Unit}
use Rattle.core_tree.specs.declared.node.Node.{Node}
use Rattle.core_tree.specs.declared.node.Entity.{Entity}
use Rattle.core_tree.specs.declared.node.NodeKind.{NodeKind}
use Rattle.core_tree.specs.declared.node.NodeKind.TheVariants.{Named, Literal, VarArgs}
use Rattle.core_tree.specs.declared.node.Linkage.{Linkage}
use Rattle.core_tree.specs.declared.node.Linkage.TheVariants.{External, Internal, Local}
use Rattle.core_tree.specs.declared.node.Storage.{Storage}
use Rattle.core_tree.specs.declared.node.Storage.TheVariants.{Static, Automatic, FunctionBody, Parameter, Declared}
use Rattle.core_tree.specs.Typed.{trees_of}
use Rattle.core_tree.specs.Rows.{Initialises}
use Rattle.core_tree.specs.Range.{Under, EachNode, node_at, entity_at}
use Rattle.core_tree.specs.Valid.{IsFunctionEntity, IsLocal, IsOwned, HasBody, IsFunctionBody, IsObjectBody, OnlyBody, UnderBody, InBodyOf, InBody, InOwnersBody, InOwnerIn, IsInOwner, InOwner, IsLasting, LivesForTheRun}
use Rattle.c_consts.specs.Core.{Core, Of}
use Rattle.c_senses.specs.Names.{source_of, numbered}
use Rattle.c_senses.specs.Tree.{Source}
use Rattle.c_senses.specs.Sense.{Sense, IsCore, sense_in}
use Rattle.c_senses.specs.Entities.{is_internal, is_linked, linkage_of, entity_of, function_around, defined_name}
use Rattle.c_senses.specs.Right.{Numbering, Declared as Declares, IsDeclaredAt, SameOwner, declares_entity, entity_type, declared_as, owner_at}
use Rattle.declaration_laws.specs.definition_laws.passed.built_unit_laws.built_units.Built.{IsBuilt}
use Rattle.parsed_tree_laws.proofs.sense_laws.parsed_laws.InOrder.{children_first}
use Rattle.parsed_tree_laws.proofs.sense_laws.statement_laws.Grammar.{statements_parsed}
use Rattle.core_node_laws.proofs.passed.parsed_tree_laws.family_laws.Reading.{units_families}
use Rattle.core_node_laws.proofs.passed.parsed_tree_laws.nesting_laws.Nesting.{units_nest}
use Rattle.core_node_laws.specs.near_nodes.Holding.{Holds, OfSense}
use Rattle.declaration_laws.specs.definition_laws.scope_laws.Beneath.{part}
use Rattle.declaration_laws.specs.definition_laws.scope_laws.Scoped.{ParametersListed}
use Rattle.declaration_laws.specs.definition_laws.passed.built_unit_laws.parameter_bodies.PassedOn.{IsGrown, IsMade}
use Rattle.declaration_laws.proofs.definition_laws.passed.built_unit_laws.parameter_bodies.PassedOn.{Above, above}
use Rattle.declaration_laws.proofs.definition_laws.passed.built_unit_laws.parameter_bodies.Bare.{parameters_bare}
use Rattle.declaration_laws.proofs.definition_laws.passed.built_unit_laws.lasting_literals.Lasting.{literals_last}
use Rattle.declaration_laws.specs.declared_type_laws.owner_laws.Owners.{LeftsStand, DefinitionsNamed, FurtherKnown, IsOwnable, OwnersBuilt}
use Rattle.declaration_laws.proofs.declared_type_laws.owner_laws.Defined.{FunctionTree, function_tree, EntityOf, entity_of_leaf, some_same}
use Rattle.declaration_laws.proofs.declared_type_laws.owner_laws.Below.{Near, Stands, rooted_of, around_is, trees_stand}
use Rattle.declaration_laws.proofs.declared_type_laws.owner_laws.Unnamed.{literal_unlinked}
use Rattle.declaration_laws.proofs.declared_type_laws.owner_laws.Walk.{Stood, stood, under_further, named_is, literal_is, list_is}
use Rattle.declaration_laws.proofs.declared_type_laws.owner_laws.Fixed.{named_global, literal_global, list_global}

pub grown_of : (tokens : Tokens) (unit : ℕ) (tree : Tree) (tag_number : ℕ → ℕ) → IsTokens tokens.text.now tokens.list.items → IsUnit tokens unit tree → IsGrown (numbered tag_number (source_of tokens tree))
grown_of tokens unit tree tag_number cut is = record {
  first = children_first tokens unit tree tag_number is;
  families = units_families tokens unit tree tag_number cut is;
  statements = statements_parsed tokens unit tree tag_number is;
  nested = units_nest tokens unit tree tag_number is;
}

pub made_of : (s : Source) (name : List ℕ) (u : Unit) (built : IsBuilt s name u) → IsMade s built.senses built.numbering u
made_of s name u built = record {
  are_senses = built.are_senses;
  whole = built.whole;
  each_declared = built.each_declared;
  no_other_entity = built.no_other_entity;
  ready = built.ready;
  no_other_node = built.no_other_node;
}

no_local : IsLocal Static → ⊥
no_local h = h

module _
    (tokens : Tokens) (tree : Tree) (tag_number : ℕ → ℕ) (senses : List Sense) (numbering : Numbering) (u : Unit) (grown : IsGrown (numbered tag_number (source_of tokens tree))) (made : IsMade (numbered tag_number (source_of tokens tree)) senses numbering u)
    (once : (c d e : ℕ) → numbering c ≡ Some e → numbering d ≡ Some e → c ≡ d) (listed : ParametersListed tokens tree (numbered tag_number (source_of tokens tree))) (lefts : LeftsStand (numbered tag_number (source_of tokens tree)))
    (names : DefinitionsNamed (numbered tag_number (source_of tokens tree)) senses) (further : FurtherKnown (numbered tag_number (source_of tokens tree)) senses) (ownable : IsOwnable u)
  where
    abbrev pub s : Source
    s = numbered tag_number (source_of tokens tree)

    abbrev pub sense : ℕ → Sense
    sense = sense_in senses

    abbrev pub Tree_of : ℕ → ℕ → Type 0
    Tree_of f b = FunctionTree s senses numbering u grown made names f b

    -- the owner of a local, by the leaf by which the local is known
    pub record OwnerOf (e : ℕ) (owner : Option ℕ) : Type 0 where
      pub leaf : ℕ
      pub number : numbering leaf ≡ Some e
      pub function : ℕ
      pub owner_is : owner ≡ Some function
      pub name : ℕ
      pub numbered : numbering name ≡ Some function
      pub around : option_map (entity_of s sense) (function_around s sense leaf) ≡ Some name
      pub unlinked : is_linked s sense leaf ≡ false

    same_owner : (a : Option ℕ) (f : ℕ) → SameOwner numbering a (Some f) → (g : ℕ) × (a ≡ Some g) × (numbering g ≡ Some f)
    same_owner None f h = absurd h
    same_owner (Some g) f h = (g, refl, h)

    local_unlinked : (leaf : ℕ) → linkage_of s sense leaf ≡ Local → is_linked s sense leaf ≡ false
    local_unlinked leaf e = by (is_internal s sense leaf) (is_linked s sense leaf) e
      where
        by : (a b : Bool) → (if a then Internal else (if b then External else Local)) ≡ Local → b ≡ false
        by true b e = cc
        by false true e = cc
        by false false e = refl

    name_owner : (leaf g : ℕ) → owner_at s senses leaf ≡ Some g → (linkage_of s sense leaf ≡ Local) × (option_map (entity_of s sense) (function_around s sense leaf) ≡ Some g)
    name_owner leaf g e = by (linkage_of s sense leaf) refl e
      where
        by : (l : Linkage) → linkage_of s sense leaf ≡ l → (elim l as (λ _. Option ℕ) [ Local ↦ option_map (entity_of s sense) (function_around s sense leaf) | _ ↦ None ]) ≡ Some g
            → (linkage_of s sense leaf ≡ Local) × (option_map (entity_of s sense) (function_around s sense leaf) ≡ Some g)
        by Local is e = (is, e)
        by External is e = cc
        by Internal is e = cc

    told_name : (b : Bool) (leaf : ℕ) (t : Option Ctype) (what : Declares) → (if b then option_map (declared_as s senses leaf) t else None) ≡ Some what → what.owner ≡ owner_at s senses leaf
    told_name false leaf t what e = cc
    told_name true leaf None what e = cc
    told_name true leaf (Some t) what e = let same : declared_as s senses leaf t ≡ what = some_same e in ap (λ (x : Declares). x.owner) (sym same)

    own_owner : (leaf g : ℕ) (what : Declares) → IsDeclaredAt s senses leaf what → what.owner ≡ Some g → (is_linked s sense leaf ≡ false) × (option_map (entity_of s sense) (function_around s sense leaf) ≡ Some g)
    own_owner leaf g what (inl is) e =
        let own = name_owner leaf g (sym (told_name (declares_entity s senses leaf) leaf (entity_type s senses leaf) what is) ∙ e) in
        (local_unlinked leaf own.0, own.1)
    own_owner leaf g what (inr (c, literal, is)) e =
        (literal_unlinked tokens tree tag_number (rooted_of s grown) senses made.are_senses leaf c literal, sym (ap (λ (x : Declares). x.owner) is) ∙ e)

    pub owner_of : (e : ℕ) (entity : Entity) → entity_at (trees_of u) e ≡ Some entity → IsLocal entity.storage → OwnerOf e entity.owner
    owner_of e entity at local = by entity.owner refl (ownable.owned e entity at)
      where
        own : EntityOf s senses numbering u grown made names e entity
        own = entity_of_leaf s senses numbering u grown made names e entity at

        by : (o : Option ℕ) → entity.owner ≡ o → IsOwned (trees_of u) entity.storage o → OwnerOf e entity.owner
        by None is h = absurd (h local)
        by (Some f) is h =
            let owner = same_owner own.what.owner f (subst (λ (o : Option ℕ). SameOwner numbering own.what.owner o) is own.is.owner) in
            let told = own_owner own.leaf owner.0 own.what own.declared owner.1 in
            record { leaf = own.leaf; number = own.number; function = f; owner_is = is; name = owner.0; numbered = owner.2; around = told.1; unlinked = told.0 }

    -- a function's body
    function_body : (f b : ℕ) (entity : Entity) → entity_at (trees_of u) f ≡ Some entity → entity.storage ≡ FunctionBody → entity.body ≡ Some b → IsFunctionEntity (trees_of u) entity
    function_body f b entity at storage body = by (subst (λ (o : Option ℕ). HasBody (trees_of u) f entity o) body (ownable.bodied f entity at))
      where
        by : (IsFunctionBody (trees_of u) entity b ⊎ IsObjectBody (trees_of u) f entity b) × OnlyBody (trees_of u) f b → IsFunctionEntity (trees_of u) entity
        by (inl h, only) = h.function
        by (inr h, only) = absurd (h.storage storage)

    in_body : (f b n : ℕ) (entity : Entity) → entity_at (trees_of u) f ≡ Some entity → entity.storage ≡ FunctionBody → entity.body ≡ Some b → Under (trees_of u) b n → InBody (trees_of u) f n
    in_body f b n entity at storage body under =
        subst (λ (o : Option Entity). InBodyOf (trees_of u) o n) (sym at) (function_body f b entity at storage body, subst (λ (o : Option ℕ). UnderBody (trees_of u) o n) (sym body) under)

    abbrev pub N_of : (f b : ℕ) → Tree_of f b → ℕ → Type 0
    N_of f b t i = Near s grown lefts t.external i

    -- what stands below a function's definition is owned by it
    owner_same : (f b e : ℕ) (owner : Option ℕ) (t : Tree_of f b) (d : ℕ) → numbering d ≡ Some e → OwnerOf e owner → N_of f b t d → owner ≡ Some f
    owner_same f b e owner t d number own near =
        let leaf : d ≡ own.leaf = once d own.leaf e number own.number in
        let around : function_around s sense d ≡ function_around s sense t.block =
        around_is s grown lefts t.external t.definition sense d near ∙ sym (around_is s grown lefts t.external t.definition sense t.block (part t.part)) in
        let one : ◌≡◌ {A = Option ℕ} (Some own.name) (Some t.name) =
        sym own.around ∙ (ap (λ (k : ℕ). option_map (entity_of s sense) (function_around s sense k)) (sym leaf) ∙ (ap (option_map (entity_of s sense)) around ∙ t.named)) in
        let name : own.name ≡ t.name = some_same one in
        own.owner_is ∙ (sym own.numbered ∙ (ap numbering name ∙ t.numbered))

    module _ (f b n : ℕ) (entity : Entity) (at : entity_at (trees_of u) f ≡ Some entity) (storage : entity.storage ≡ FunctionBody) (body : entity.body ≡ Some b) (under : Under (trees_of u) b n) (node : Node) (there : node_at (trees_of u) n ≡ Some node) where
      abbrev pub t : Tree_of f b
      t = function_tree s senses numbering u grown made names f entity b at storage body

      abbrev pub A : Core → Type 0
      A = Stands tokens tree tag_number grown lefts listed senses made.are_senses t.external t.definition

      tree_held : OfSense s (Near s grown lefts t.external) A (IsCore t.core)
      tree_held = subst (λ (x : Sense). OfSense s (Near s grown lefts t.external) A x) t.sensed (trees_stand tokens tree tag_number grown lefts listed senses made.are_senses t.external t.definition further t.block (part t.part))

      pub node_held : Stood A numbering u n
      node_held = stood A numbering u b n under (t.core, t.stands, tree_held)

      same_node : (x : Node) → slice_get u.nodes.items n ≡ Some x → x ≡ node
      same_node x is = some_same (sym is ∙ there)

      pub local_at : (e d : ℕ) (x : Entity) → numbering d ≡ Some e → entity_at (trees_of u) e ≡ Some x → IsLocal x.storage → (is_linked s sense d ≡ false → N_of f b t d) → InOwnersBody (trees_of u) x.owner n
      local_at e d x number is local near =
          let own = owner_of e x is local in
          let leaf : d ≡ own.leaf = once d own.leaf e number own.number in
          let owner = owner_same f b e x.owner t d number own (near (subst (λ (k : ℕ). is_linked s sense k ≡ false) (sym leaf) own.unlinked)) in
          subst (λ (o : Option ℕ). InOwnersBody (trees_of u) o n) (sym owner) (in_body f b n entity at storage body under)

      owner_in : (e d : ℕ) → numbering d ≡ Some e → (is_linked s sense d ≡ false → N_of f b t d) → InOwnerIn (trees_of u) (entity_at (trees_of u) e) n
      owner_in e d number near = by (entity_at (trees_of u) e) refl
        where
          by : (o : Option Entity) → entity_at (trees_of u) e ≡ o → InOwnerIn (trees_of u) o n
          by None is = tt
          by (Some x) is = λ local. local_at e d x number is local near

      function_owns : IsInOwner (trees_of u) n node.kind
      function_owns = by node.kind refl node_held
        where
          by : (kind : NodeKind) → node.kind ≡ kind → Stood A numbering u n → IsInOwner (trees_of u) n kind
          by (Named e) is (Of kind place type children, (x, own, same, place_is, type_is, under_are), hold) =
              let told = named_is numbering kind x.kind e same (ap (λ (y : Node). y.kind) (same_node x own) ∙ is) in
              owner_in e told.0 told.2 (subst (λ (k : NodeKind). Holds A (Of k place type children)) told.1 hold).0
          by (Literal e) is (Of kind place type children, (x, own, same, place_is, type_is, under_are), hold) =
              let told = literal_is numbering kind x.kind e same (ap (λ (y : Node). y.kind) (same_node x own) ∙ is) in
              let near = (subst (λ (k : NodeKind). Holds A (Of k place type children)) told.1 hold).0 in
              owner_in e told.0 told.2 (λ off. near)
          by (VarArgs e) is (Of kind place type children, (x, own, same, place_is, type_is, under_are), hold) =
              let told = list_is numbering kind x.kind e same (ap (λ (y : Node). y.kind) (same_node x own) ∙ is) in
              let named : option_map (entity_of s sense) (defined_name s sense t.external) ≡ Some told.0 = (subst (λ (k : NodeKind). Holds A (Of k place type children)) told.1 hold).0 in
              let around : function_around s sense t.block ≡ defined_name s sense t.external = around_is s grown lefts t.external t.definition sense t.block (part t.part) in
              let name : told.0 ≡ t.name = some_same (sym named ∙ (sym (ap (option_map (entity_of s sense)) around) ∙ t.named)) in
              let one : e ≡ f = some_same (sym told.2 ∙ (ap numbering name ∙ t.numbered)) in
              subst (λ (k : ℕ). InBody (trees_of u) k n) (sym one) (in_body f b n entity at storage body under)
          by kind is h = tt

    -- where a node stands
    pub data Place (n : ℕ) : Type 0 where
      in_function : (f b : ℕ) (entity : Entity) → entity_at (trees_of u) f ≡ Some entity → entity.storage ≡ FunctionBody → entity.body ≡ Some b → Under (trees_of u) b n → Place n
      in_static : (e b : ℕ) (entity : Entity) → entity_at (trees_of u) e ≡ Some entity → entity.storage ≡ Static → Initialises (trees_of u) b e → Under (trees_of u) b n → Place n

    initial_body : (e b : ℕ) (entity : Entity) → entity_at (trees_of u) e ≡ Some entity → (entity.storage ≡ FunctionBody → ⊥) → entity.body ≡ Some b → Initialises (trees_of u) b e
    initial_body e b entity at other body = by (subst (λ (o : Option ℕ). HasBody (trees_of u) e entity o) body (ownable.bodied e entity at))
      where
        by : (IsFunctionBody (trees_of u) entity b ⊎ IsObjectBody (trees_of u) e entity b) × OnlyBody (trees_of u) e b → Initialises (trees_of u) b e
        by (inl h, only) = absurd (other h.storage)
        by (inr h, only) = h.initialises

    owned_place : (o : Option ℕ) (b n : ℕ) → InOwnersBody (trees_of u) o b → Under (trees_of u) b n → Place n
    owned_place None b n h under = absurd h
    owned_place (Some f) b n h under = by (entity_at (trees_of u) f) refl h
      where
        of_body : (entity : Entity) → entity_at (trees_of u) f ≡ Some entity → IsFunctionEntity (trees_of u) entity → (o : Option ℕ) → entity.body ≡ o → UnderBody (trees_of u) o b → Place n
        of_body entity at function None is h = absurd h
        of_body entity at function (Some top) is h = pick (subst (λ (o : Option ℕ). HasBody (trees_of u) f entity o) is (ownable.bodied f entity at))
          where
            pick : (IsFunctionBody (trees_of u) entity top ⊎ IsObjectBody (trees_of u) f entity top) × OnlyBody (trees_of u) f top → Place n
            pick (inl own, only) = in_function f top entity at own.storage is (under_further u top b n h under)
            pick (inr own, only) = absurd (own.object function)

        by : (o : Option Entity) → entity_at (trees_of u) f ≡ o → InBodyOf (trees_of u) o b → Place n
        by None at h = absurd h
        by (Some entity) at h = of_body entity at h.0 entity.body refl h.1

    pub place_of : (n : ℕ) → n < length u.nodes.items → Place n
    place_of n lt = by up.entity.storage refl
      where
        up : Above s senses numbering u grown made n
        up = above s senses numbering u grown made n lt

        no_declared : (i e : ℕ) → Initialises (trees_of u) i e → (entity : Entity) → entity_at (trees_of u) e ≡ Some entity → entity.storage ≡ Declared → ⊥
        no_declared i e init entity at storage =
            let own = ownable.filled.each i e init in
            let same : entity ≡ own.0 = some_same (sym at ∙ own.1) in
            own.4 (ap (λ (x : Entity). x.storage) (sym same) ∙ storage)

        by : (x : Storage) → up.entity.storage ≡ x → Place n
        by FunctionBody is = in_function up.number up.top up.entity up.stands is up.body up.under
        by Automatic is = owned_place up.entity.owner up.top n (subst (λ (o : Option ℕ). IfSome o (λ b. InOwnersBody (trees_of u) up.entity.owner b)) up.body (ownable.forward up.number up.entity up.stands is)) up.under
        by Static is = in_static up.number up.top up.entity up.stands is (initial_body up.number up.top up.entity up.stands (λ f. let both : Static ≡ FunctionBody = sym is ∙ f in cc) up.body) up.under
        by Parameter is = absurd (let none : Some up.top ≡ None = sym up.body ∙ parameters_bare s senses numbering u grown made up.number up.entity up.stands is in cc)
        by Declared is =
            absurd (no_declared up.top up.number (initial_body up.number up.top up.entity up.stands (λ f. let both : Declared ≡ FunctionBody = sym is ∙ f in cc) up.body) up.entity up.stands is)

    static_owns : (n e b : ℕ) (entity : Entity) (node : Node) → node_at (trees_of u) n ≡ Some node → entity_at (trees_of u) e ≡ Some entity → entity.storage ≡ Static → Initialises (trees_of u) b e → Under (trees_of u) b n
        → IsInOwner (trees_of u) n node.kind
    static_owns n e b entity node there at storage init under = by node.kind refl
      where
        lives : LivesForTheRun (entity_at (trees_of u) e)
        lives = subst LivesForTheRun (sym at) storage

        lasting : EachNode (trees_of u) (λ m x. (o : ℕ) → x.kind ≡ Literal o → IsLasting (entity_at (trees_of u) o))
        lasting = literals_last s senses numbering u grown made

        name_in : (o : ℕ) → node.kind ≡ Named o → (x : Option Entity) → entity_at (trees_of u) o ≡ x → InOwnerIn (trees_of u) x n
        name_in o is None own = tt
        name_in o is (Some x) own = λ local. absurd (named_global (trees_of u) ownable.rows ownable.fixed lasting b n node o x under (e, init, lives) there is own local)

        literal_in : (o : ℕ) → node.kind ≡ Literal o → (x : Option Entity) → entity_at (trees_of u) o ≡ x → InOwnerIn (trees_of u) x n
        literal_in o is None own = tt
        literal_in o is (Some x) own = λ local. absurd (literal_global (trees_of u) ownable.rows ownable.fixed lasting b n node o x under (e, init, lives) there is own local)

        by : (kind : NodeKind) → node.kind ≡ kind → IsInOwner (trees_of u) n kind
        by (Named o) is = name_in o is (entity_at (trees_of u) o) refl
        by (Literal o) is = literal_in o is (entity_at (trees_of u) o) refl
        by (VarArgs o) is = absurd (list_global (trees_of u) ownable.rows ownable.fixed lasting b n node o under (e, init, lives) there is)
        by kind is = tt

    pub in_owner : InOwner (trees_of u)
    in_owner n node there = by (place_of n (slice_get_within u.nodes.items n node there))
      where
        by : Place n → IsInOwner (trees_of u) n node.kind
        by (in_function f b entity at storage body under) = function_owns f b n entity at storage body under node there
        by (in_static e b entity at storage init under) = static_owns n e b entity node there at storage init under

pub owners_built : OwnersBuilt
owners_built tokens unit tree tag_number name u cut is built listed lefts names further ownable =
    let s : Source = numbered tag_number (source_of tokens tree) in
    in_owner tokens tree tag_number built.senses built.numbering u (grown_of tokens unit tree tag_number cut is) (made_of s name u built) built.entity_once listed lefts names further ownable
