-- The functions that definitions define are known by what they define.
use Rattle.std.proofs.Common.{◌≡◌, ◌≢◌, ℕ, zero, suc, ◌&&◌, Bool, true, false, List, [], ◌∷◌, Option, Some, None, length, refl, sym, ap, ◌∙◌, subst, inl, inr}
use Rattle.std.specs.Prelude.{⊤, is_none, is_some, option_and_then, option_map, if◌then◌else◌}
use Rattle.std.proofs.lemmas.Option.{slice_get_within}
use Rattle.c_types.specs.Trees.{Ctype}
use Rattle.c_grammar.specs.Productions.{p_external, p_parameter, p_block}
use Rattle.c_grammar.specs.Words.{word_extern}
use Rattle.core_tree.specs.declared.node.Unit.{Unit}
use Rattle.core_tree.specs.declared.node.Entity.{Entity}
use Rattle.core_tree.specs.declared.node.Linkage.{Linkage}
use Rattle.core_tree.specs.declared.node.Linkage.TheVariants.{External, Internal, Local}
use Rattle.core_tree.specs.declared.node.Storage.{Storage}
use Rattle.core_tree.specs.declared.node.Storage.TheVariants.{Static, Automatic, FunctionBody, Parameter, Declared}
use Rattle.core_tree.specs.declared.node.NodeKind.TheVariants.{Literal}
use Rattle.core_tree.specs.Typed.{trees_of}
use Rattle.core_tree.specs.Range.{entity_at}
use Rattle.c_consts.specs.Core.{Core, Of, kind_of}
use Rattle.c_scope.specs.declared.kinds.Declared.{Declared as Declaration}
use Rattle.c_senses.specs.Tree.{Source, is_a, is_name, child_of, parent_of, above_within, nearest_above}
use Rattle.c_senses.specs.Names.{ordinary_at}
use Rattle.c_senses.specs.Sense.{Sense, sense_in}
use Rattle.c_senses.specs.Entities.{is_parameter, is_defined, is_linked, is_internal, is_static_object, has_storage, initialiser_for, declares_function, storage_of, linkage_of, entity_of, first_of, internal_among, function_around, defined_name}
use Rattle.c_senses.specs.Right.{Numbering, Declared as Declares, IsDeclaredAt, IsEntityOf, declares_entity, declared_as, declared_name, entity_type, representative, storage_at, of_internal}
use Rattle.declaration_laws.specs.declared_type_laws.owner_laws.passed.definition_laws.Definitions.{is_definition}
use Rattle.core_node_laws.specs.built_unit_laws.passed.core_node_laws.literal_nodes.Holding.{Holds}
use Rattle.core_node_laws.specs.built_unit_laws.passed.core_node_laws.literal_nodes.Unnamed.{IsUnnamed}
use Rattle.core_node_laws.proofs.built_unit_laws.passed.core_node_laws.literal_nodes.Unnamed.{unnamed}
use Rattle.core_node_laws.proofs.built_unit_laws.unlinked_laws.Inside.{in_body_holds}
use Rattle.declaration_laws.specs.declared_type_laws.owner_laws.passed.definition_laws.linkage_laws.Linked.{StandsLinked}
use Rattle.declaration_laws.proofs.declared_type_laws.owner_laws.passed.definition_laws.linkage_laws.Seen.{some_same, none_some, no_both, apart}
use Rattle.declaration_laws.proofs.declared_type_laws.owner_laws.passed.definition_laws.linkage_laws.Unlinked.{all_internal}
use Rattle.declaration_laws.specs.declared_type_laws.owner_laws.passed.definition_laws.function_definitions.Defined.{Defines}
use Rattle.declaration_laws.specs.declared_type_laws.owner_laws.owned_laws.Owned.{InternalsDefined}
use Rattle.declaration_laws.specs.declared_type_laws.owned_locals.Numbers.{AreNumbered}

and_then_some : {A B : Type 0} → (o : Option A) (k : A → Option B) (y : B) → option_and_then k o ≡ Some y → (x : A) × (o ≡ Some x) × (k x ≡ Some y)
and_then_some None k y e = absurd (none_some e)
and_then_some (Some x) k y e = (x, refl, e)

-- what is found above passes
found_above : (s : Source) (test : ℕ → Bool) (fuel d : ℕ) (o : Option ℕ) → above_within s test fuel o ≡ Some d → test d ≡ true
found_above s test zero d o e = absurd (none_some e)
found_above s test (suc fuel) d None e = absurd (none_some e)
found_above s test (suc fuel) d (Some p) e = by (test p) refl e (λ f. found_above s test fuel d (parent_of s p) f)
  where
    by : (b : Bool) → test p ≡ b → (if b then Some p else above_within s test fuel (parent_of s p)) ≡ Some d → (above_within s test fuel (parent_of s p) ≡ Some d → test d ≡ true) → test d ≡ true
    by true is e later = ap test (sym (some_same e)) ∙ is
    by false is e later = later e

-- an entity of what is declared
pub record IsMade (s : Source) (senses : List Sense) (n : Numbering) (u : Unit) (e : ℕ) (entity : Entity) : Type 0 where
  pub leaf : ℕ
  pub what : Declares
  pub declared : IsDeclaredAt s senses leaf what
  pub number : n leaf ≡ Some e
  pub is : IsEntityOf n u s.unit what entity

pub made : (s : Source) (senses : List Sense) (n : Numbering) (u : Unit) → AreNumbered s senses n u → (e : ℕ) (entity : Entity) → entity_at (trees_of u) e ≡ Some entity → IsMade s senses n u e entity
made s senses n u b e entity at =
    let (d, what, declared, number) = b.other e (slice_get_within u.entities.items e entity at) in
    let (f, x, numbered, there, is) = b.each d what declared in
    let same : f ≡ e = some_same (sym numbered ∙ number) in
    let one : x ≡ entity = some_same (sym there ∙ (ap (λ (k : ℕ). entity_at (trees_of u) k) same ∙ at)) in
    record { leaf = d; what = what; declared = declared; number = number; is = subst (λ (y : Entity). IsEntityOf n u s.unit what y) one is }

-- what an owner is
pub record IsOwner (entity : Entity) : Type 0 where
  pub storage : entity.storage ≡ FunctionBody
  pub linkage : entity.linkage ≢ Local

module _ (s : Source) (senses : List Sense) (n : Numbering) (u : Unit) (b : AreNumbered s senses n u) (linked_stands : (leaf : ℕ) → is_linked s (sense_in senses) leaf ≡ true → StandsLinked s (sense_in senses) leaf) (internals : InternalsDefined s senses)
    (named : (leaf : ℕ) → is_linked s (sense_in senses) leaf ≡ true → is_name s leaf ≡ true) where
  abbrev f : ℕ → Sense
  f = sense_in senses

  -- what declares something by a name declares it by that
  by_name : (leaf : ℕ) (what : Declares) → IsDeclaredAt s senses leaf what → is_name s leaf ≡ true → declared_name s senses leaf ≡ Some what
  by_name leaf what (inl told) is_one = told
  by_name leaf what (inr (c, literal, told)) is_one =
      let holds = in_body_holds (IsUnnamed s) s senses (λ i. unnamed s senses b.are_senses i) c (record { leaf = literal.1.0; what = literal.1.1; body = literal.1.2; declared = literal.1.3; has = literal.1.4; within = literal.1.5 }) in
      absurd (no_both (is_name s leaf) is_one (unnamed_literal c leaf literal.0 holds))
    where
      unnamed_literal : (c : Core) (i : ℕ) → kind_of c ≡ Literal i → Holds (IsUnnamed s) c → is_name s i ≡ false
      unnamed_literal (Of (Literal j) place type under) i e h = let same : j ≡ i = cc in subst (λ (k : ℕ). is_name s k ≡ false) same h.0
      unnamed_literal (Of kind place type under) i e h = cc

  as_declared : (leaf : ℕ) (what : Declares) (a : Bool) (o : Option Ctype) → (if a then option_map (declared_as s senses leaf) o else None) ≡ Some what → (what.storage ≡ storage_at s senses leaf) × (what.linkage ≡ linkage_of s f leaf)
  as_declared leaf what false o e = absurd (none_some e)
  as_declared leaf what true None e = absurd (none_some e)
  as_declared leaf what true (Some t) e = let same : declared_as s senses leaf t ≡ what = some_same e in (sym (ap (λ (x : Declares). x.storage) same), sym (ap (λ (x : Declares). x.linkage) same))

  abbrev AllInternal : List Declaration → Type 0
  AllInternal [] = ⊤
  AllInternal (d ∷ ds) = (is_internal s f d.node ≡ true) × AllInternal ds

  first_internal : (leaf : ℕ) (ds : List Declaration) → AllInternal ds → is_internal s f leaf ≡ true → is_internal s f (first_of s f leaf ds) ≡ true
  first_internal leaf [] a own = own
  first_internal leaf (d ∷ ds) a own = a.0

  -- the function around a node is the name of a definition
  pub around_defines : (defines : (d : ℕ) → is_definition s d ≡ true → Defines s senses d) (i g : ℕ) → function_around s f i ≡ Some g → (d : ℕ) × (h : Defines s senses d) × (is_definition s d ≡ true) × (g ≡ h.name)
  around_defines defines i g e =
      let a = and_then_some (nearest_above s (is_definition s) i) (defined_name s f) g e in
      let is = found_above s (is_definition s) (length s.nodes) a.0 (parent_of s i) a.1 in
      let h = defines a.0 is in
      (a.0, h, is, some_same (sym a.2 ∙ h.named))

  -- ---- a function that is defined

  module _ (d : ℕ) (is : is_definition s d ≡ true) (h : Defines s senses d) where
    defined : is_defined s f h.name ≡ true
    defined = ap (λ (x : Option ℕ). elim x as (λ _. Bool) [ None ↦ false | Some p ↦ is_a s p_external p && is_some (child_of s p_block p) ]) h.declaration ∙ is

    external : is_a s p_external d ≡ true
    external = left (is_a s p_external d) (is_some (child_of s p_block d)) is
      where
        left : (a b : Bool) → (a && b) ≡ true → a ≡ true
        left true b e = refl
        left false b e = cc

    no_parameter : is_parameter s f h.name ≡ false
    no_parameter = ap (λ (x : Option ℕ). elim x as (λ _. Bool) [ None ↦ false | Some p ↦ is_a s p_parameter p ]) h.declaration ∙ apart s d p_external p_parameter external refl

    body_storage : storage_of s f h.name ≡ FunctionBody
    body_storage = by (is_parameter s f h.name) (declares_function s f h.name) (is_defined s f h.name) (has_storage s f word_extern h.name && is_none (initialiser_for s f h.name)) (is_static_object s f h.name) no_parameter h.function defined
      where
        by : (p x z e t : Bool) → p ≡ false → x ≡ true → z ≡ true → (if p then Parameter else if x then (if z then FunctionBody else Declared) else if e then Declared else if t then Static else Automatic) ≡ FunctionBody
        by true x z e t a b c = cc
        by false false z e t a b c = cc
        by false true false e t a b c = cc
        by false true true e t a b c = refl

    -- the entity by which it is known
    pub owner_is : (k : ℕ) (entity : Entity) → n (entity_of s f h.name) ≡ Some k → entity_at (trees_of u) k ≡ Some entity → IsOwner entity
    owner_is k entity number at = by (is_internal s f h.name) refl
      where
        m : IsMade s senses n u k entity
        m = made s senses n u b k entity at

        leaf_is : m.leaf ≡ entity_of s f h.name
        leaf_is = b.once m.leaf (entity_of s f h.name) k m.number number

        finish : (e0 : ℕ) → entity_of s f h.name ≡ e0 → is_name s e0 ≡ true → storage_at s senses e0 ≡ FunctionBody → linkage_of s f e0 ≢ Local → IsOwner entity
        finish e0 same is_one storage linkage =
            let told : declared_name s senses e0 ≡ Some m.what = by_name e0 m.what (subst (λ (x : ℕ). IsDeclaredAt s senses x m.what) (leaf_is ∙ same) m.declared) is_one in
            let what = as_declared e0 m.what (declares_entity s senses e0) (entity_type s senses e0) told in
            record { storage = m.is.storage ∙ (what.0 ∙ storage); linkage = λ e. linkage (sym what.1 ∙ (sym m.is.linkage ∙ e)) }

        left : (x z : Bool) → (x && z) ≡ true → x ≡ true
        left true z e = refl
        left false z e = cc

        by : (a : Bool) → is_internal s f h.name ≡ a → IsOwner entity
        by false off =
            let linkage : linkage_of s f h.name ≡ External = ap (λ (a : Bool). if a then Internal else (if is_linked s f h.name then External else Local)) off ∙ ap (λ (a : Bool). if a then External else Local) h.linked in
            finish h.name (ap (λ (a : Bool). if a then first_of s f h.name (internal_among s f s.declared.ordinary (ordinary_at s h.name)) else h.name) off) (named h.name h.linked)
            (ap (λ (l : Linkage). elim l as (λ _. Storage) [ Internal ↦ (elim (storage_of s f (representative s senses h.name)) as (λ _. Storage) [ Declared ↦ if declares_function s f h.name then Declared else Static | other ↦ other ]) | _ ↦ storage_of s f h.name ]) linkage ∙ body_storage)
            (λ e. let bad : External ≡ Local = sym linkage ∙ e in cc)
        by true on =
            let e0 = entity_of s f h.name in
            let inside : is_internal s f (entity_of s f h.name) ≡ true
            = subst (λ (k : ℕ). is_internal s f k ≡ true) (sym (ap (λ (a : Bool). if a then first_of s f h.name (internal_among s f s.declared.ordinary (ordinary_at s h.name)) else h.name) on)) (first_internal h.name (of_internal s senses h.name) (all_internal s senses linked_stands h.name) on) in
            let linkage : linkage_of s f (entity_of s f h.name) ≡ Internal = ap (λ (a : Bool). if a then Internal else (if is_linked s f (entity_of s f h.name) then External else Local)) inside in
            let known : representative s senses (entity_of s f h.name) ≡ h.name = internals d is h on in
            finish (entity_of s f h.name) refl (named (entity_of s f h.name) (left (is_linked s f (entity_of s f h.name)) _ inside))
            (ap (λ (l : Linkage). elim l as (λ _. Storage) [ Internal ↦ (elim (storage_of s f (representative s senses (entity_of s f h.name))) as (λ _. Storage) [ Declared ↦ if declares_function s f (entity_of s f h.name) then Declared else Static | other ↦ other ]) | _ ↦ storage_of s f (entity_of s f h.name) ]) linkage
            ∙ ap (λ (x : Storage). elim x as (λ _. Storage) [ Declared ↦ if declares_function s f (entity_of s f h.name) then Declared else Static | other ↦ other ]) (ap (storage_of s f) known ∙ body_storage))
            (λ e. let bad : Internal ≡ Local = sym linkage ∙ e in cc)
