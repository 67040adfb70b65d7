-- The initialiser of an automatic object that has a name stands in the body of the object's owner.
use Rattle.std.proofs.Common.{◌≡◌, ℕ, zero, suc, ◌&&◌, ◌||◌, Bool, true, false, List, Option, Some, None, length, refl, sym, ap, ◌∙◌, subst, ◌⊎◌, inl, inr}
use Rattle.std.specs.Prelude.{is_none, is_some, option_and_then, option_map, if◌then◌else◌}
use Rattle.c_lexer.specs.declared.Tokens.{Tokens}
use Rattle.c_lexer.specs.Cut.{IsTokens}
use Rattle.c_grammar.specs.declared.trees.Tree.{Tree}
use Rattle.c_grammar.specs.Productions.{p_external, p_declarator, p_block}
use Rattle.c_grammar.specs.Words.{word_extern, word_static}
use Rattle.c_parser.specs.c_units.Units.{IsUnit}
use Rattle.c_types.specs.Trees.{Ctype}
use Rattle.core_tree.specs.declared.node.Unit.{Unit}
use Rattle.core_tree.specs.declared.node.Node.{Node}
use Rattle.core_tree.specs.declared.node.Entity.{Entity}
use Rattle.core_tree.specs.declared.node.NodeKind.{NodeKind}
use Rattle.core_tree.specs.declared.node.NodeKind.TheVariants.{Initialise}
use Rattle.core_tree.specs.declared.node.Linkage.{Linkage}
use Rattle.core_tree.specs.declared.node.Linkage.TheVariants.{Internal, Local}
use Rattle.core_tree.specs.declared.node.Storage.{Storage}
use Rattle.core_tree.specs.declared.node.Storage.TheVariants.{Static, Automatic, FunctionBody, Parameter, Declared}
use Rattle.core_tree.specs.Typed.{trees_of}
use Rattle.core_tree.specs.Rows.{Initialises, InitialisesIn, InitialisesEntity}
use Rattle.core_tree.specs.Range.{Under, entity_at}
use Rattle.core_tree.specs.Valid.{IsLocal, IsOwned, Owned, Bodied, HasBody, IsFunctionBody, IsObjectBody, OnlyBody}
use Rattle.c_consts.specs.Core.{Core, Of, kind_of}
use Rattle.c_inits.specs.Shapes.{Path}
use Rattle.c_senses.specs.Names.{source_of, numbered}
use Rattle.c_senses.specs.Tree.{Source, is_a, child_of, parent_of, above_within, nearest_above}
use Rattle.c_senses.specs.Sense.{Sense, sense_in}
use Rattle.c_senses.specs.Declarators.{is_outermost, outermost_of}
use Rattle.c_senses.specs.Entities.{keep, first_of, is_defined, is_parameter, is_at_file, declares_function, has_storage, declaration_of, storage_of, linkage_of, entity_of, initialiser_of, initialiser_for, function_around, defined_name}
use Rattle.c_senses.specs.Right.{Numbering, StandsBy, SameKind, SameBody, SameOwner, IsEntityOf, Declared as Declares, core_of_sense, block_for, body_at, of_internal, is_definition_at, is_tentative, representative, storage_at, declared_as, declared_name, declares_entity, entity_type}
use Rattle.declaration_laws.specs.declared_type_laws.owner_laws.passed.definition_laws.Definitions.{is_definition}
use Rattle.declaration_laws.proofs.declared_type_laws.owner_laws.passed.definition_laws.Locals.{locals}
use Rattle.declaration_laws.specs.declared_type_laws.owner_laws.passed.definition_laws.function_definitions.Defined.{Defines}
use Rattle.declaration_laws.proofs.declared_type_laws.owner_laws.passed.definition_laws.function_definitions.Reading.{definitions_declare}
use Rattle.core_node_laws.specs.built_unit_laws.built_units.Built.{IsBuilt}
use Rattle.declaration_laws.proofs.declared_type_laws.owner_laws.passed.definition_laws.linkage_laws.Linked as linked
use Rattle.declaration_laws.proofs.declared_type_laws.owner_laws.passed.definition_laws.linkage_laws.Reading.{tree_is}
use Rattle.declaration_laws.proofs.declared_type_laws.owner_laws.passed.definition_laws.linkage_laws.Unlinked.{lives, local}
use Rattle.valid_unit_laws.specs.object_initialiser_laws.placed_initialisers.PassedOn.{IsPlaced}
use Rattle.valid_unit_laws.proofs.object_initialiser_laws.placed_initialisers.Whole.{units_place}
use Rattle.valid_unit_laws.specs.object_initialiser_laws.initial_entities.Own.{IsOwnInitial}
use Rattle.valid_unit_laws.proofs.object_initialiser_laws.initial_entities.Rows.{initialisers_own}
use Rattle.declaration_laws.proofs.declared_type_laws.owner_laws.internal_laws.Reading as internal_laws
use Rattle.declaration_laws.proofs.declared_type_laws.owner_laws.owned_laws.Owners.{IsOwner, owner_is}
use Rattle.declaration_laws.specs.declared_type_laws.owner_laws.held_runs.Runs.{BlockWith, NodeOf}
use Rattle.declaration_laws.proofs.declared_type_laws.owner_laws.around_runs.Whole.{initialisers_stand}
use Rattle.valid_unit_laws.proofs.object_initialiser_laws.owned_initialisers.Function.{some_same, function_top}

-- what is found above passes
found_above : (s : Source) (test : ℕ → Bool) (fuel d : ℕ) (o : Option ℕ) → above_within s test fuel o ≡ Some d → test d ≡ true
found_above s test zero d o e = cc
found_above s test (suc fuel) d None e = cc
found_above s test (suc fuel) d (Some p) e = by (test p) refl e (λ f. found_above s test fuel d (parent_of s p) f)
  where
    by : (b : Bool) → test p ≡ b → (if b then Some p else above_within s test fuel (parent_of s p)) ≡ Some d → (above_within s test fuel (parent_of s p) ≡ Some d → test d ≡ true) → test d ≡ true
    by true is e later = ap test (sym (some_same e)) ∙ is
    by false is e later = later e

and_then_some : {A B : Type 0} → (o : Option A) (k : A → Option B) (y : B) → option_and_then k o ≡ Some y → (x : A) × (o ≡ Some x) × (k x ≡ Some y)
and_then_some None k y e = cc
and_then_some (Some x) k y e = (x, refl, e)

map_some : {A B : Type 0} → (o : Option A) (k : A → B) (y : B) → option_map k o ≡ Some y → (x : A) × (o ≡ Some x) × (k x ≡ y)
map_some None k y e = cc
map_some (Some x) k y e = (x, refl, some_same e)

-- an automatic name isn't declared at file scope
not_at_file : (p f d x a w : Bool) → (if p then Parameter else if f then (if d then FunctionBody else Declared) else if x then Declared else if a || w then Static else Automatic) ≡ Automatic → a ≡ false
not_at_file true f d x a w e = cc
not_at_file false true true x a w e = cc
not_at_file false true false x a w e = cc
not_at_file false false d true a w e = cc
not_at_file false false d false true w e = cc
not_at_file false false d false false w e = refl

-- what stands by an Initialise is of the entity that has its name's number
own_number : (m : Numbering) (u : Unit) (b d e : ℕ) (paths : List Path) (c : Core) → StandsBy m u b c → kind_of c ≡ Initialise d paths → Initialises (trees_of u) b e → m d ≡ Some e
own_number m u b d e paths (Of kind place type under) (node, at, same, place_is, type_is, are) is init =
    by node.kind (subst (λ (k : NodeKind). SameKind m k node.kind) is same) (subst (λ (o : Option Node). InitialisesIn o e) at init)
  where
    by : (k : NodeKind) → SameKind m (Initialise d paths) k → InitialisesEntity k e → m d ≡ Some e
    by (Initialise o others) h own = h.0 ∙ ap (λ (k : ℕ). Some k) own
    by k h own = absurd own

module _
    (tokens : Tokens) (unit : ℕ) (tree : Tree) (tag_number : ℕ → ℕ) (name : List ℕ) (u : Unit) (cut : IsTokens tokens.text.now tokens.list.items) (is : IsUnit tokens unit tree)
    (built : IsBuilt (numbered tag_number (source_of tokens tree)) name u) (bodied : Bodied (trees_of u))
  where
    abbrev s : Source
    s = numbered tag_number (source_of tokens tree)

    abbrev senses : List Sense
    senses = built.senses

    abbrev sense : ℕ → Sense
    sense i = sense_in built.senses i

    defines : (p : ℕ) → is_definition s p ≡ true → Defines s senses p
    defines p h = definitions_declare tokens unit tree tag_number senses p cut is built.are_senses built.whole h

    pub owned : Owned (trees_of u)
    owned = internal_laws.owners_known tokens unit tree tag_number name u cut is built

    -- an object's body is its own Initialise
    pub own_initialise : (e b : ℕ) (entity : Entity) → entity_at (trees_of u) e ≡ Some entity → (entity.storage ≡ FunctionBody → ⊥) → entity.body ≡ Some b → Initialises (trees_of u) b e
    own_initialise e b entity at other body = by (subst (λ (o : Option ℕ). HasBody (trees_of u) e entity o) body (bodied e entity at))
      where
        by : (IsFunctionBody (trees_of u) entity b ⊎ IsObjectBody (trees_of u) e entity b) × OnlyBody (trees_of u) e b → Initialises (trees_of u) b e
        by (inl h, only) = absurd (other h.storage)
        by (inr h, only) = h.initialises

    -- an owner, in whose body a node stands
    pub record Owns (owner : Option ℕ) (n : ℕ) : Type 0 where
      pub function : ℕ
      pub owned_is : owner ≡ Some function
      pub entity : Entity
      pub at : entity_at (trees_of u) function ≡ Some entity
      pub storage : entity.storage ≡ FunctionBody
      pub top : ℕ
      pub body : entity.body ≡ Some top
      pub under : Under (trees_of u) top n

    -- a function that owns is the one that a definition above defines
    function_of : (leaf z g f : ℕ) → function_around s sense leaf ≡ Some z → entity_of s sense z ≡ g → built.numbering g ≡ Some f → (entity : Entity) × (entity_at (trees_of u) f ≡ Some entity) × IsOwner u entity
    function_of leaf z g f around same number =
        let t = tree_is tokens unit tree is tag_number in
        owner_is s name u built (λ l h. linked.stands_linked s t senses built.are_senses built.whole l h) defines (internal_laws.definitions_known tokens unit tree tag_number senses cut is built.are_senses built.whole)
        (λ l h. (linked.linked_named s t senses built.are_senses built.whole l h).3.reached.named) (λ l p e other stands. locals tokens unit tree tag_number senses l p cut is e other stands) g f
        (record { node = leaf; function = z; around = around; is = same }) number

    -- ---- an automatic name

    module _ (e leaf b : ℕ) (entity : Entity) (what : Declares) (at : entity_at (trees_of u) e ≡ Some entity) (number : built.numbering leaf ≡ Some e) (same : IsEntityOf built.numbering u s.unit what entity) (auto : entity.storage ≡ Automatic)
        (body : entity.body ≡ Some b) (declares : declares_entity s senses leaf ≡ true) (t : Ctype) (told : declared_as s senses leaf t ≡ what) where
      stored : storage_at s senses leaf ≡ Automatic
      stored = ap (λ (x : Declares). x.storage) told ∙ (sym same.storage ∙ auto)

      is_local : linkage_of s sense leaf ≡ Local
      is_local = local s senses (λ l h. linked.stands_linked s (tree_is tokens unit tree is tag_number) senses built.are_senses built.whole l h) leaf (ap lives stored)

      abbrev chosen : Linkage → ℕ
      chosen linkage =
          elim linkage [
            | Internal ↦ first_of s sense (first_of s sense leaf (keep s sense (is_tentative s senses) (of_internal s senses leaf))) (keep s sense (is_definition_at s senses) (of_internal s senses leaf))
            | _ ↦ leaf
          ]

      itself : representative s senses leaf ≡ leaf
      itself = ap chosen is_local

      own_storage : storage_of s sense leaf ≡ Automatic
      own_storage =
          sym (ap (λ (l : Linkage). elim l as (λ _. Storage) [ Internal ↦ (elim (storage_of s sense (representative s senses leaf)) as (λ _. Storage) [ Declared ↦ if declares_function s sense leaf then Declared else Static | other ↦ other ]) | _ ↦ storage_of s sense leaf ]) is_local)
          ∙ stored

      own_owner : what.owner ≡ option_map (entity_of s sense) (function_around s sense leaf)
      own_owner =
          ap (λ (x : Declares). x.owner) (sym told) ∙ ap (λ (l : Linkage). elim l as (λ _. Option ℕ) [ Local ↦ option_map (entity_of s sense) (function_around s sense leaf) | _ ↦ None ]) is_local

      plain : is_defined s sense leaf ≡ false
      plain = by (declaration_of s sense leaf) refl
        where
          off : is_at_file s sense leaf ≡ false
          off =
              not_at_file (is_parameter s sense leaf) (declares_function s sense leaf) (is_defined s sense leaf) (has_storage s sense word_extern leaf && is_none (initialiser_for s sense leaf)) (is_at_file s sense leaf)
              (has_storage s sense word_static leaf || has_storage s sense word_extern leaf) own_storage

          by : (o : Option ℕ) → declaration_of s sense leaf ≡ o → (elim o as (λ _. Bool) [ None ↦ false | Some p ↦ is_a s p_external p && is_some (child_of s p_block p) ]) ≡ false
          by None h = refl
          by (Some p) h =
              let no : is_a s p_external p ≡ false = sym (ap (λ (o : Option ℕ). elim o as (λ _. Bool) [ None ↦ false | Some q ↦ is_a s p_external q ]) h) ∙ off in
              ap (λ (x : Bool). x && is_some (child_of s p_block p)) no

      init_body : SameBody built.numbering u (option_and_then (λ i. core_of_sense s senses (sense i)) (initialiser_for s sense leaf)) (Some b)
      init_body =
          subst (λ (o : Option Core). SameBody built.numbering u o (Some b))
          (ap (λ (x : Declares). x.body) (sym told)
          ∙ (ap (body_at s senses) itself ∙ ap (λ (x : Bool). if x then option_and_then (λ i. core_of_sense s senses (sense i)) (block_for s senses leaf) else option_and_then (λ i. core_of_sense s senses (sense i)) (initialiser_for s sense leaf)) plain))
          (subst (λ (o : Option ℕ). SameBody built.numbering u what.body o) body same.body)

      -- the initialiser, and the definition around
      module _ (init : ℕ) (initial : initialiser_for s sense leaf ≡ Some init) (z g f p : ℕ) (owner : entity.owner ≡ Some f) (known : built.numbering g ≡ Some f) (around : function_around s sense leaf ≡ Some z) (is_name : entity_of s sense z ≡ g)
          (above : nearest_above s (is_definition s) leaf ≡ Some p) (named : defined_name s sense p ≡ Some z) where
        outer : (o : ℕ) × (outermost_of s leaf ≡ Some o) × (initialiser_of s sense o ≡ Some init)
        outer = and_then_some (outermost_of s leaf) (initialiser_of s sense) init initial

        place : IsPlaced s outer.0 init
        place = units_place tokens unit tree tag_number senses cut is outer.0 init (found_above s (is_outermost s) (length s.nodes) outer.0 (parent_of s leaf) outer.1) outer.2

        own : IsOwnInitial s senses init
        own = initialisers_own tokens unit tree tag_number senses cut is built.are_senses built.whole init place.above place.initialiser place.parent place.rest

        one_declarator : (o : ℕ) → outermost_of s leaf ≡ Some o → is_a s p_declarator o ≡ true
        one_declarator o h = subst (λ (k : ℕ). is_a s p_declarator k ≡ true) (some_same (sym outer.1 ∙ h)) place.declarator

        stands : StandsBy built.numbering u b own.core
        stands =
            subst (λ (x : Sense). SameBody built.numbering u (core_of_sense s senses x) (Some b)) own.is (subst (λ (o : Option ℕ). SameBody built.numbering u (option_and_then (λ i. core_of_sense s senses (sense i)) o) (Some b)) initial init_body)

        definition : is_definition s p ≡ true
        definition = found_above s (is_definition s) (length s.nodes) p (parent_of s leaf) above

        h : Defines s senses p
        h = defines p definition

        held : (block : BlockWith s senses p own.core) × ((k : ℕ) → StandsBy built.numbering u k block.core → NodeOf built.numbering u k own.core)
        held = initialisers_stand tokens unit tree tag_number name u cut is built leaf init p own.core own.length_given declares own_storage one_declarator initial own.is above

        owns : Owns entity.owner b
        owns =
            let function = function_of leaf z g f around is_name known in
            let its : built.numbering (entity_of s sense h.name) ≡ Some f = ap (λ (k : ℕ). built.numbering (entity_of s sense k)) (some_same (sym h.named ∙ named)) ∙ (ap built.numbering is_name ∙ known) in
            let block = held.0 in
            let top = function_top tokens unit tree tag_number name u cut is built p block.block f block.core function.0 definition h block.part block.is_block block.sensed its function.1 function.2.storage in
            let node = held.1 top.top top.stands in
            let init_of = own_initialise e b entity at (λ x. let bad : Automatic ≡ FunctionBody = sym auto ∙ x in cc) body in
            let own_body = node.body (entity_of s sense own.leaf) e own.paths own.kind (own_number built.numbering u b (entity_of s sense own.leaf) e own.paths own.core stands own.kind init_of) in
            let one : own_body.0 ≡ entity = some_same (sym own_body.1 ∙ at) in
            let there : node.node ≡ b = some_same (sym own_body.2 ∙ (ap (λ (x : Entity). x.body) one ∙ body)) in
            record { function = f; owned_is = owner; entity = function.0; at = function.1; storage = function.2.storage; top = top.top; body = top.body; under = subst (λ (k : ℕ). Under (trees_of u) top.top k) there node.under }

      owned_by : Owns entity.owner b
      owned_by = by entity.owner refl what.owner refl same.owner (owned e entity at)
        where
          of_init : (g f : ℕ) → entity.owner ≡ Some f → what.owner ≡ Some g → built.numbering g ≡ Some f → (o : Option ℕ) → initialiser_for s sense leaf ≡ o
              → SameBody built.numbering u (option_and_then (λ i. core_of_sense s senses (sense i)) o) (Some b) → Owns entity.owner b
          of_init g f owner has known None initial h = absurd h
          of_init g f owner has known (Some init) initial h =
              let z = map_some (function_around s sense leaf) (entity_of s sense) g (sym own_owner ∙ has) in
              let p = and_then_some (nearest_above s (is_definition s) leaf) (defined_name s sense) z.0 z.1 in
              owns init initial z.0 g f p.0 owner known z.1 z.2 p.1 p.2

          by : (o : Option ℕ) → entity.owner ≡ o → (w : Option ℕ) → what.owner ≡ w → SameOwner built.numbering w entity.owner → IsOwned (trees_of u) entity.storage entity.owner → Owns entity.owner b
          by None is_none w has same_one owned_is = absurd (subst (λ (o : Option ℕ). IsOwned (trees_of u) entity.storage o) is_none owned_is (subst IsLocal (sym auto) tt))
          by (Some f) is_one None has same_one owned_is = absurd (subst (λ (o : Option ℕ). SameOwner built.numbering None o) is_one same_one)
          by (Some f) is_one (Some g) has same_one owned_is = of_init g f is_one has (subst (λ (o : Option ℕ). SameOwner built.numbering (Some g) o) is_one same_one) (initialiser_for s sense leaf) refl init_body

    pub name_owned : (e leaf b : ℕ) (entity : Entity) (what : Declares) → entity_at (trees_of u) e ≡ Some entity → built.numbering leaf ≡ Some e → declared_name s senses leaf ≡ Some what → IsEntityOf built.numbering u s.unit what entity
        → entity.storage ≡ Automatic → entity.body ≡ Some b → Owns entity.owner b
    name_owned e leaf b entity what at number told same auto body = pick (declares_entity s senses leaf) refl (entity_type s senses leaf) told
      where
        pick : (a : Bool) → declares_entity s senses leaf ≡ a → (o : Option Ctype) → (if a then option_map (declared_as s senses leaf) o else None) ≡ Some what → Owns entity.owner b
        pick false declares o h = cc
        pick true declares None h = cc
        pick true declares (Some t) h = owned_by e leaf b entity what at number same auto body declares t (some_same h)
