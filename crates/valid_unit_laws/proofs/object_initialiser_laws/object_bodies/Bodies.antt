-- The bodies of named objects.
use Rattle.std.proofs.Common.{◌≡◌, ◌≢◌, ℕ, zero, suc, ◌&&◌, Bool, true, false, List, Option, Some, None, length, slice_get, refl, sym, ap, ◌∙◌, subst, inl, inr}
use Rattle.std.specs.Prelude.{option_and_then, option_map, if◌then◌else◌, is_none, is_some}
use Rattle.std.proofs.lemmas.Bool.{eqb-true}
use Rattle.c_lexer.specs.declared.Tokens.{Tokens}
use Rattle.c_lexer.specs.Cut.{IsTokens}
use Rattle.c_types.specs.Trees.{Ctype}
use Rattle.c_grammar.specs.declared.trees.Tree.{Tree as SyntaxTree}
use Rattle.c_grammar.specs.Productions.{p_external, p_rest, p_init, p_block}
use Rattle.c_grammar.specs.Words.{word_extern}
use Rattle.c_parser.specs.c_units.Units.{IsUnit}
use Rattle.core_tree.specs.declared.node.Node.{Node}
use Rattle.core_tree.specs.declared.node.NodeKind.{NodeKind}
use Rattle.core_tree.specs.declared.node.NodeKind.TheVariants.{Initialise}
use Rattle.core_tree.specs.declared.node.Entity.{Entity}
use Rattle.core_tree.specs.declared.node.Unit.{Unit}
use Rattle.core_tree.specs.declared.node.Linkage.{Linkage}
use Rattle.core_tree.specs.declared.node.Linkage.TheVariants.{External, Internal, Local}
use Rattle.core_tree.specs.declared.node.Storage.{Storage}
use Rattle.core_tree.specs.declared.node.Storage.TheVariants.{Static, Automatic, FunctionBody, Parameter, Declared}
use Rattle.core_tree.specs.Typed.{trees_of}
use Rattle.core_tree.specs.Rows.{Initialises, InitialisesIn, InitialisesEntity}
use Rattle.c_consts.specs.Core.{Core, Of, kind_of}
use Rattle.c_inits.specs.Shapes.{Path}
use Rattle.c_senses.specs.Tree.{Source, is_a, is_name, child_of, parent_of, above_within}
use Rattle.c_senses.specs.Names.{source_of, numbered}
use Rattle.c_senses.specs.World.{same_length}
use Rattle.c_senses.specs.Declarators.{is_outermost, outermost_of}
use Rattle.c_senses.specs.Entities.{declaration_of, is_defined, is_parameter, declares_function, has_storage, is_static_object, storage_of, linkage_of, entity_of, initialiser_of, initialiser_for, keep, first_of, is_internal, is_linked}
use Rattle.c_senses.specs.Sense.{Sense, IsDeclarator, Derivation, sense_in}
use Rattle.c_senses.specs.Right.{Numbering, Declared as Declares, IsDeclaredAt, IsEntityOf, StandsBy, SameKind, SameBody, declares_entity, declared_as, declared_name, entity_type, is_declaring, stands_in_declaration, representative, core_of_sense, body_at, block_for, storage_at, of_internal, is_tentative, is_definition_at}
use Rattle.core_node_laws.specs.built_unit_laws.built_units.Built.{IsBuilt}
use Rattle.declaration_laws.proofs.declared_type_laws.owner_laws.passed.definition_laws.initialiser_laws.Found.{initialisers_found}
use Rattle.valid_unit_laws.specs.object_initialiser_laws.initial_entities.Own.{IsOwnInitial}
use Rattle.valid_unit_laws.proofs.object_initialiser_laws.initial_entities.Rows.{initialisers_own}
use Rattle.declaration_laws.proofs.declared_type_laws.owner_laws.passed.definition_laws.linkage_laws.Seen.{some_same, none_some}
use Rattle.declaration_laws.proofs.declared_type_laws.owner_laws.passed.definition_laws.linkage_laws.Linked.{stands_linked}
use Rattle.declaration_laws.proofs.declared_type_laws.owner_laws.passed.definition_laws.linkage_laws.Reading.{tree_is}
use Rattle.declaration_laws.proofs.declared_type_laws.owner_laws.passed.definition_laws.linkage_laws.Unlinked.{made, Made}
use Rattle.valid_unit_laws.specs.object_initialiser_laws.internal_name_laws.passed.function_laws.function_bodies.PassedOn.{Defines}
use Rattle.valid_unit_laws.proofs.object_initialiser_laws.internal_name_laws.passed.function_laws.function_bodies.PassedOn.{definitions_declare}
use Rattle.valid_unit_laws.proofs.object_initialiser_laws.internal_name_laws.passed.function_laws.function_bodies.Reading.{parts_of, declarators_of}
use Rattle.valid_unit_laws.proofs.object_initialiser_laws.internal_name_laws.passed.function_laws.function_bodies.Standing.{named_by}
use Rattle.valid_unit_laws.specs.object_initialiser_laws.internal_name_laws.representative_names.Representatives.{IsKnown}
use Rattle.valid_unit_laws.proofs.object_initialiser_laws.internal_name_laws.representative_names.Standing.{representatives_known}
use Rattle.valid_unit_laws.specs.object_initialiser_laws.object_bodies.Objects.{IsPlaced, InitialisersPlaced, NamedInitialises, NamedObjectsInitialise}

left : (a b : Bool) → (a && b) ≡ true → a ≡ true
left true b e = refl
left false b e = cc

right : (a b : Bool) → (a && b) ≡ true → b ≡ true
right true b e = e
right false b e = cc

and_then_some : {A B : Type 0} → (o : Option A) (k : A → Option B) (y : B) → option_and_then k o ≡ Some y → (x : A) × (o ≡ Some x) × (k x ≡ Some y)
and_then_some None k y e = absurd (none_some e)
and_then_some (Some x) k y e = (x, refl, e)

-- an outermost declarator above a node is one
found_above : (s : Source) (test : ℕ → Bool) (fuel d : ℕ) (o : Option ℕ) → above_within s test fuel o ≡ Some d → test d ≡ true
found_above s test zero d o e = absurd (none_some e)
found_above s test (suc fuel) d None e = absurd (none_some e)
found_above s test (suc fuel) d (Some p) e = by (test p) refl e (λ f. found_above s test fuel d (parent_of s p) f)
  where
    by : (b : Bool) → test p ≡ b → (if b then Some p else above_within s test fuel (parent_of s p)) ≡ Some d → (above_within s test fuel (parent_of s p) ≡ Some d → test d ≡ true) → test d ≡ true
    by true is e later = ap test (sym (some_same e)) ∙ is
    by false is e later = later e

-- what stands by an Initialise is one of the entity of that number
initialises : (n : Numbering) (u : Unit) (b d e : ℕ) (paths : List Path) (c : Core) → StandsBy n u b c → kind_of c ≡ Initialise d paths → n d ≡ Some e → Initialises (trees_of u) b e
initialises n u b d e paths (Of kind place type under) h is number = subst (λ (o : Option Node). InitialisesIn o e) (sym h.1) (by h.0.kind (subst (λ (k : NodeKind). SameKind n k h.0.kind) is h.2))
  where
    by : (k : NodeKind) → SameKind n (Initialise d paths) k → InitialisesEntity k e
    by (Initialise other others) same = some_same (sym same.0 ∙ number)
    by k same = absurd (let bad : Initialise d paths ≡ k = same in cc)

module _ (tokens : Tokens) (unit : ℕ) (tree : SyntaxTree) (tag_number : ℕ → ℕ) (name : List ℕ) (u : Unit) (cut : IsTokens tokens.text.now tokens.list.items) (is : IsUnit tokens unit tree) (b : IsBuilt (numbered tag_number (source_of tokens tree)) name u)
    (placed : InitialisersPlaced (numbered tag_number (source_of tokens tree)) b.senses) where
  abbrev s : Source
  s = numbered tag_number (source_of tokens tree)

  abbrev f : ℕ → Sense
  f i = sense_in b.senses i

  -- a name that is defined as a function is stored as one
  defined_stored : (d : ℕ) → is_declaring s b.senses d ≡ true → is_defined s f d ≡ true → storage_of s f d ≡ FunctionBody
  defined_stored d declares defined = by (declaration_of s f d) refl defined
    where
      choose : (p x n t : Bool) → p ≡ false → x ≡ true → (if p then Parameter else if x then (if is_defined s f d then FunctionBody else Declared) else if n then Declared else if t then Static else Automatic) ≡ FunctionBody
      choose true x n t e h = cc
      choose false true n t e h = ap (λ (z : Bool). if z then FunctionBody else Declared) defined
      choose false false n t e h = cc

      by : (o : Option ℕ) → declaration_of s f d ≡ o → (elim o as (λ _. Bool) [ None ↦ false | Some p ↦ is_a s p_external p && is_some (child_of s p_block p) ]) ≡ true → storage_of s f d ≡ FunctionBody
      by None e k = cc
      by (Some q) e k =
          let h : Defines s b.senses q = definitions_declare tokens unit tree tag_number b.senses q cut is b.are_senses b.whole k in
          let same : d ≡ h.name =
          named_by s (tree_is tokens unit tree is tag_number) b.senses b.are_senses b.whole (λ p z. parts_of tokens unit tree tag_number is p z) (λ p z. definitions_declare tokens unit tree tag_number b.senses p cut is b.are_senses b.whole z)
          (λ p z. declarators_of tokens unit tree tag_number b.senses cut is b.are_senses b.whole p z) d q k e (inl declares) in
          let stands = stands_linked s (tree_is tokens unit tree is tag_number) b.senses b.are_senses b.whole h.name h.linked in
          choose (is_parameter s f d) (declares_function s f d) (has_storage s f word_extern d && is_none (initialiser_for s f d)) (is_static_object s f d) (ap (is_parameter s f) same ∙ stands.parameter) (ap (declares_function s f) same ∙ h.function)

  plain_representative : (d : ℕ) (l : Linkage) → linkage_of s f d ≡ l → l ≢ Internal → representative s b.senses d ≡ d
  plain_representative d l e not_internal =
      ap (λ (x : Linkage). elim x as (λ _. ℕ) [ Internal ↦ first_of s f (first_of s f d (keep s f (is_tentative s b.senses) (of_internal s b.senses d))) (keep s f (is_definition_at s b.senses) (of_internal s b.senses d)) | _ ↦ d ]) e ∙ by l not_internal
    where
      by : (x : Linkage) → x ≢ Internal → (elim x as (λ _. ℕ) [ Internal ↦ first_of s f (first_of s f d (keep s f (is_tentative s b.senses) (of_internal s b.senses d))) (keep s f (is_definition_at s b.senses) (of_internal s b.senses d)) | _ ↦ d ]) ≡ d
      by Internal differs = absurd (differs refl)
      by External differs = refl
      by Local differs = refl

  plain_storage : (d : ℕ) (l : Linkage) → linkage_of s f d ≡ l → l ≢ Internal → storage_at s b.senses d ≡ storage_of s f d
  plain_storage d l e not_internal =
      ap (λ (x : Linkage). elim x as (λ _. Storage) [ Internal ↦ (elim (storage_of s f (representative s b.senses d)) as (λ _. Storage) [ Declared ↦ if declares_function s f d then Declared else Static | other ↦ other ]) | _ ↦ storage_of s f d ]) e ∙ by l not_internal
    where
      by : (x : Linkage) → x ≢ Internal → (elim x as (λ _. Storage) [ Internal ↦ (elim (storage_of s f (representative s b.senses d)) as (λ _. Storage) [ Declared ↦ if declares_function s f d then Declared else Static | other ↦ other ]) | _ ↦ storage_of s f d ]) ≡ storage_of s f d
      by Internal differs = absurd (differs refl)
      by External differs = refl
      by Local differs = refl

  -- the name in a declarator's sense is the one that it declares
  same_leaf : (d o leaf : ℕ) (ds : List Derivation) → is_declaring s b.senses d ≡ true → outermost_of s d ≡ Some o → f o ≡ IsDeclarator (Some leaf) ds → leaf ≡ d
  same_leaf d o leaf ds declares outer named =
      let told : (elim (f o) as (λ _. Bool) [ IsDeclarator n xs ↦ same_length n (Some d) | _ ↦ false ]) ≡ true =
      sym (ap (λ (x : Option ℕ). elim x as (λ _. Bool) [ None ↦ false | Some y ↦ elim (f y) as (λ _. Bool) [ IsDeclarator n xs ↦ same_length n (Some d) | _ ↦ false ] ]) outer) ∙ right (is_name s d) _ declares in
      eqb-true leaf d (sym (ap (λ (x : Sense). elim x as (λ _. Bool) [ IsDeclarator n xs ↦ same_length n (Some d) | _ ↦ false ]) named) ∙ told)

  -- how the body of an object stands: by an initialiser of the entity of that leaf
  pub record OwnBody (d k : ℕ) : Type 0 where
    pub init : ℕ
    pub above : ℕ
    pub starts : is_a s p_init init ≡ true
    pub parent : parent_of s init ≡ Some above
    pub rest : is_a s p_rest above ≡ true
    pub own : IsOwnInitial s b.senses init
    pub entity : entity_of s f own.leaf ≡ d
    pub stands : StandsBy b.numbering u k own.core

  -- of a declaration of the entity of d that has an initialiser
  body_of : (r d k : ℕ) → is_declaring s b.senses r ≡ true → entity_of s f r ≡ d → is_defined s f r ≡ false → SameBody b.numbering u (body_at s b.senses r) (Some k) → OwnBody d k
  body_of r d k declares own plain same =
      let first : SameBody b.numbering u (option_and_then (λ x. core_of_sense s b.senses (f x)) (initialiser_for s f r)) (Some k) =
      subst (λ (z : Option Core). SameBody b.numbering u z (Some k)) (ap (λ (z : Bool). if z then option_and_then (λ x. core_of_sense s b.senses (f x)) (block_for s b.senses r) else option_and_then (λ x. core_of_sense s b.senses (f x)) (initialiser_for s f r)) plain) same in
      by (initialiser_for s f r) refl first
    where
      by : (o : Option ℕ) → initialiser_for s f r ≡ o → SameBody b.numbering u (option_and_then (λ x. core_of_sense s b.senses (f x)) o) (Some k) → OwnBody d k
      by None at h = absurd h
      by (Some init) at h =
          let outer = and_then_some (outermost_of s r) (initialiser_of s f) init at in
          let place : IsPlaced s outer.0 init = placed outer.0 init (found_above s (is_outermost s) (length s.nodes) outer.0 (parent_of s r) outer.1) outer.2 in
          let i : IsOwnInitial s b.senses init = initialisers_own tokens unit tree tag_number b.senses cut is b.are_senses b.whole init place.above place.initialiser place.parent place.rest in
          let found = initialisers_found tokens unit tree tag_number cut is f outer.0 init place.declarator outer.2 in
          let one : i.declarator ≡ outer.0 = some_same (sym i.by_it ∙ found) in
          let leaf : i.leaf ≡ r = same_leaf r outer.0 i.leaf i.derives declares outer.1 (ap f (sym one) ∙ i.named) in
          record {
            init = init;
            above = place.above;
            starts = place.initialiser;
            parent = place.parent;
            rest = place.rest;
            own = i;
            entity = ap (entity_of s f) leaf ∙ own;
            stands = subst (λ (x : Sense). SameBody b.numbering u (core_of_sense s b.senses x) (Some k)) i.is h;
          }

  -- the declaration that stands for a name declares its entity, and is stored as a function only where the entity is
  record IsStood (d : ℕ) : Type 0 where
    declares : is_declaring s b.senses (representative s b.senses d) ≡ true
    entity : entity_of s f (representative s b.senses d) ≡ d
    stored : storage_of s f (representative s b.senses d) ≡ FunctionBody → storage_at s b.senses d ≡ FunctionBody

  abbrev linkage : ℕ → Bool → Linkage
  linkage d x = if x then Internal else (if is_linked s f d then External else Local)

  abbrev shown : ℕ → Storage → Storage
  shown d x = elim x as (λ _. Storage) [ Declared ↦ if declares_function s f d then Declared else Static | other ↦ other ]

  abbrev standing : ℕ → ℕ
  standing d = representative s b.senses d

  stood : (d : ℕ) → is_declaring s b.senses d ≡ true → entity_of s f d ≡ d → IsStood d
  stood d declares own = by (is_internal s f d) refl
    where
      no_linkage : (x : Bool) → (if x then External else Local) ≢ Internal
      no_linkage true e = cc
      no_linkage false e = cc

      by : (x : Bool) → is_internal s f d ≡ x → IsStood d
      by true e =
          let known : IsKnown s b.senses d = representatives_known tokens unit tree tag_number b.senses cut is b.are_senses b.whole d e in
          record { declares = known.declares; entity = known.entity ∙ own; stored = λ h. ap (λ (x : Linkage). elim x as (λ _. Storage) [ Internal ↦ shown d (storage_of s f (standing d)) | _ ↦ storage_of s f d ]) (ap (linkage d) e) ∙ ap (shown d) h }
      by false e =
          let other : linkage_of s f d ≢ Internal = λ same. no_linkage (is_linked s f d) (sym (ap (linkage d) e) ∙ same) in
          let itself : standing d ≡ d = plain_representative d (linkage_of s f d) refl other in
          record {
            declares = subst (λ (k : ℕ). is_declaring s b.senses k ≡ true) (sym itself) declares;
            entity = ap (entity_of s f) itself ∙ own;
            stored = λ h. plain_storage d (linkage_of s f d) refl other ∙ (ap (storage_of s f) (sym itself) ∙ h);
          }

  -- so the body of what a name declares as an object
  pub named_body : (d : ℕ) (what : Declares) (entity : Entity) → declared_name s b.senses d ≡ Some what → IsEntityOf b.numbering u s.unit what entity → entity.storage ≢ FunctionBody → (k : ℕ) → entity.body ≡ Some k → OwnBody d k
  named_body d what entity told is_one object k body = by (declares_entity s b.senses d) refl (entity_type s b.senses d) told
    where
      cases : (x : Bool) → is_defined s f (standing d) ≡ x → IsStood d → storage_at s b.senses d ≡ entity.storage → SameBody b.numbering u (body_at s b.senses (standing d)) (Some k) → OwnBody d k
      cases true defined at storage same = absurd (object (sym storage ∙ at.stored (defined_stored (standing d) at.declares defined)))
      cases false plain at storage same = body_of (standing d) d k at.declares at.entity plain same

      by : (x : Bool) → declares_entity s b.senses d ≡ x → (o : Option Ctype) → (if x then option_map (declared_as s b.senses d) o else None) ≡ Some what → OwnBody d k
      by false g o h = absurd (none_some h)
      by true g None h = absurd (none_some h)
      by true g (Some t) h =
          let same : declared_as s b.senses d t ≡ what = some_same h in
          let declares = left (is_declaring s b.senses d) _ g in
          let own : entity_of s f d ≡ d = eqb-true (entity_of s f d) d (right _ _ (right (stands_in_declaration s b.senses d) _ (right (is_declaring s b.senses d) _ g))) in
          let storage : storage_at s b.senses d ≡ entity.storage = ap (λ (x : Declares). x.storage) same ∙ sym is_one.storage in
          let bodied : SameBody b.numbering u (body_at s b.senses (standing d)) (Some k) =
          subst (λ (z : Option Core). SameBody b.numbering u z (Some k)) (ap (λ (x : Declares). x.body) (sym same)) (subst (λ (z : Option ℕ). SameBody b.numbering u what.body z) body is_one.body) in
          cases (is_defined s f (standing d)) refl (stood d declares own) storage bodied

  -- and it is its own Initialise
  pub body_initialises : (d e k : ℕ) → b.numbering d ≡ Some e → OwnBody d k → Initialises (trees_of u) k e
  body_initialises d e k number body = initialises b.numbering u k d e body.own.paths body.own.core body.stands (body.own.kind ∙ ap (λ (x : ℕ). Initialise x body.own.paths) body.entity) number

  fits : (e : ℕ) (entity : Entity) → slice_get u.entities.items e ≡ Some entity → NamedInitialises (trees_of u) e entity
  fits e entity at stored named k body = pick (made s name u b e entity at)
    where
      pick : Made s name u b e entity → Initialises (trees_of u) k e
      pick m = which m.declared
        where
          which : IsDeclaredAt s b.senses m.leaf m.what → Initialises (trees_of u) k e
          which (inr (c, literal, same)) = absurd (named (m.is.name ∙ ap (λ (x : Declares). x.name) same))
          which (inl told) = body_initialises m.leaf e k m.number (named_body m.leaf m.what entity told m.is stored k body)

pub named_objects_initialise : NamedObjectsInitialise
named_objects_initialise tokens unit tree tag_number name u cut is b placed e entity at = fits tokens unit tree tag_number name u cut is b placed e entity at
