-- The owner of what is declared.
use Rattle.std.proofs.Common.{◌≡◌, ◌≢◌, ℕ, zero, suc, ◌||◌, ◌&&◌, Bool, true, false, List, [], ◌∷◌, Option, Some, None, length, refl, sym, ap, ◌∙◌, subst, inl, inr}
use Rattle.std.specs.Prelude.{⊤, is_none, is_some, option_and_then, option_map, if◌then◌else◌}
use Rattle.c_types.specs.Trees.{Ctype, FunctionFrom}
use Rattle.c_types.specs.Table.{type_of}
use Rattle.c_grammar.specs.Productions.{p_external, p_declaration, p_parameter, p_block}
use Rattle.c_grammar.specs.Words.{word_extern, word_static}
use Rattle.core_tree.specs.declared.node.Unit.{Unit}
use Rattle.core_tree.specs.declared.node.Entity.{Entity}
use Rattle.core_tree.specs.declared.node.Linkage.{Linkage}
use Rattle.core_tree.specs.declared.node.Linkage.TheVariants.{External, Internal, Local}
use Rattle.core_tree.specs.declared.node.Storage.{Storage}
use Rattle.core_tree.specs.declared.node.Storage.TheVariants.{Static, Automatic, FunctionBody, Parameter, Declared}
use Rattle.core_tree.specs.declared.node.NodeKind.TheVariants.{Literal}
use Rattle.core_tree.specs.Typed.{trees_of}
use Rattle.core_tree.specs.Range.{entity_at}
use Rattle.core_tree.specs.Rows.{IsFunction}
use Rattle.core_tree.specs.Valid.{IsLocal, IsOwned, IsFunctionIn, Owned}
use Rattle.c_consts.specs.Core.{Core, Of, kind_of}
use Rattle.c_scope.specs.declared.kinds.Declared.{Declared as Declaration}
use Rattle.c_senses.specs.Tree.{Source, is_a, is_name, child_of, parent_of, above_within, nearest_above}
use Rattle.c_senses.specs.Names.{source_of, numbered, ordinary_at}
use Rattle.c_senses.specs.Sense.{Sense, sense_in}
use Rattle.c_senses.specs.Entities.{declaration_of, is_at_file, is_parameter, is_defined, is_linked, is_internal, is_static_object, has_storage, initialiser_for, declares_function, own_type, storage_of, linkage_of, entity_of, first_of, internal_among, function_around, defined_name, all_together, types_of}
use Rattle.c_senses.specs.Right.{SameOwner, Declared as Declares, IsDeclaredAt, is_declaring, stands_in_declaration, is_defined_parameter, declares_entity, declared_as, declared_name, entity_type, internal_type, representative, storage_at, owner_at, of_internal, with_one}
use Rattle.declaration_laws.specs.definition_laws.linkage_laws.PassedOn.{is_definition, HasDefinition}
use Rattle.declaration_laws.proofs.definition_laws.linkage_laws.PassedOn.{locals}
use Rattle.declaration_laws.specs.definition_laws.linkage_laws.PassedOn.{IsBuilt}
use Rattle.core_node_laws.specs.literal_nodes.Holding.{Holds}
use Rattle.core_node_laws.specs.literal_nodes.Unnamed.{IsUnnamed}
use Rattle.core_node_laws.proofs.literal_nodes.Unnamed.{unnamed}
use Rattle.declaration_laws.proofs.definition_laws.passed.built_unit_laws.unlinked_laws.Inside.{in_body_holds}
use Rattle.declaration_laws.specs.definition_laws.linkage_laws.Linked.{StandsLinked}
use Rattle.declaration_laws.proofs.definition_laws.linkage_laws.Seen.{some_same, none_some, no_both, apart}
use Rattle.declaration_laws.proofs.definition_laws.linkage_laws.Linked as linked
use Rattle.declaration_laws.proofs.definition_laws.linkage_laws.Reading.{tree_is}
use Rattle.declaration_laws.proofs.definition_laws.linkage_laws.Unlinked.{lives, made, Made, local, all_internal}
use Rattle.declaration_laws.specs.definition_laws.function_definitions.Defined.{Defines}
use Rattle.declaration_laws.proofs.definition_laws.function_definitions.Reading.{definitions_declare}
use Rattle.declaration_laws.specs.declared_type_laws.owner_laws.owned_laws.Owned.{InternalsDefined, OwnersStand}

-- what is found above passes
found_above : (s : Source) (test : ℕ → Bool) (fuel d : ℕ) (o : Option ℕ) → above_within s test fuel o ≡ Some d → test d ≡ true
found_above s test zero d o e = absurd (none_some e)
found_above s test (suc fuel) d None e = absurd (none_some e)
found_above s test (suc fuel) d (Some p) e = by (test p) refl e (λ f. found_above s test fuel d (parent_of s p) f)
  where
    by : (b : Bool) → test p ≡ b → (if b then Some p else above_within s test fuel (parent_of s p)) ≡ Some d → (above_within s test fuel (parent_of s p) ≡ Some d → test d ≡ true) → test d ≡ true
    by true is e later = ap test (sym (some_same e)) ∙ is
    by false is e later = later e

and_then_some : {A B : Type 0} → (o : Option A) (k : A → Option B) (y : B) → option_and_then k o ≡ Some y → (x : A) × (o ≡ Some x) × (k x ≡ Some y)
and_then_some None k y e = absurd (none_some e)
and_then_some (Some x) k y e = (x, refl, e)

map_some : {A B : Type 0} → (o : Option A) (k : A → B) (y : B) → option_map k o ≡ Some y → (x : A) × (o ≡ Some x) × (k x ≡ y)
map_some None k y e = absurd (none_some e)
map_some (Some x) k y e = (x, refl, some_same e)

-- what an owner is
pub record IsOwner (u : Unit) (entity : Entity) : Type 0 where
  pub function : IsFunction (type_of u.types entity.ty.0)
  pub storage : entity.storage ≡ FunctionBody
  pub linkage : entity.linkage ≢ Local

module _ (s : Source) (name : List ℕ) (u : Unit) (b : IsBuilt s name u) (linked_stands : (leaf : ℕ) → is_linked s (sense_in b.senses) leaf ≡ true → StandsLinked s (sense_in b.senses) leaf) (defines : (d : ℕ) → is_definition s d ≡ true → Defines s b.senses d) (internals : InternalsDefined s b.senses)
    (named : (leaf : ℕ) → is_linked s (sense_in b.senses) leaf ≡ true → is_name s leaf ≡ true)
    (located : (leaf p : ℕ) → declaration_of s (sense_in b.senses) leaf ≡ Some p → is_a s p_external p ≡ false → stands_in_declaration s b.senses leaf ≡ true → HasDefinition s leaf) where
  abbrev f : ℕ → Sense
  f i = sense_in b.senses i

  abbrev AllInternal : List Declaration → Type 0
  AllInternal [] = ⊤
  AllInternal (d ∷ ds) = (is_internal s f d.node ≡ true) × AllInternal ds

  -- the function around a node is the name of a definition
  around_defines : (i g : ℕ) → function_around s f i ≡ Some g → (d : ℕ) × (h : Defines s b.senses d) × (is_definition s d ≡ true) × (g ≡ h.name)
  around_defines i g e =
      let a = and_then_some (nearest_above s (is_definition s) i) (defined_name s f) g e in
      let is = found_above s (is_definition s) (length s.nodes) a.0 (parent_of s i) a.1 in
      let h = defines a.0 is in
      (a.0, h, is, some_same (sym a.2 ∙ h.named))

  module _ (d : ℕ) (is : is_definition s d ≡ true) (h : Defines s b.senses d) where
    g : ℕ
    g = h.name

    defined : is_defined s f h.name ≡ true
    defined = ap (λ (x : Option ℕ). elim x as (λ _. Bool) [ None ↦ false | Some p ↦ is_a s p_external p && is_some (child_of s p_block p) ]) h.declaration ∙ is

    external : is_a s p_external d ≡ true
    external = left (is_a s p_external d) (is_some (child_of s p_block d)) is
      where
        left : (a b : Bool) → (a && b) ≡ true → a ≡ true
        left true b e = refl
        left false b e = cc

    no_parameter : is_parameter s f h.name ≡ false
    no_parameter = ap (λ (x : Option ℕ). elim x as (λ _. Bool) [ None ↦ false | Some p ↦ is_a s p_parameter p ]) h.declaration ∙ apart s d p_external p_parameter external refl

    body_storage : storage_of s f h.name ≡ FunctionBody
    body_storage = by (is_parameter s f h.name) (declares_function s f h.name) (is_defined s f h.name) (has_storage s f word_extern h.name && is_none (initialiser_for s f h.name)) (is_static_object s f h.name) no_parameter h.function defined
      where
        by : (p x z e t : Bool) → p ≡ false → x ≡ true → z ≡ true → (if p then Parameter else if x then (if z then FunctionBody else Declared) else if e then Declared else if t then Static else Automatic) ≡ FunctionBody
        by true x z e t a b c = cc
        by false false z e t a b c = cc
        by false true false e t a b c = cc
        by false true true e t a b c = refl

    -- the entity by which the function is known
    owner_known : (k : ℕ) (entity : Entity) → b.numbering (entity_of s f h.name) ≡ Some k → entity_at (trees_of u) k ≡ Some entity → IsOwner u entity
    owner_known k entity number at = by (linkage_of s f h.name) refl
      where
        m : Made s name u b k entity
        m = made s name u b k entity at

        leaf_is : m.leaf ≡ entity_of s f h.name
        leaf_is = b.entity_once m.leaf (entity_of s f h.name) k m.number number

        of_entity : (e0 : ℕ) → entity_of s f h.name ≡ e0 → is_name s e0 ≡ true → IsDeclaredAt s b.senses m.leaf m.what → declared_name s b.senses e0 ≡ Some m.what
        of_entity e0 same is_one (inl told) = ap (declared_name s b.senses) (sym (leaf_is ∙ same)) ∙ told
        of_entity e0 same is_one (inr (c, literal, told)) =
            let holds = in_body_holds (IsUnnamed s) s b.senses (λ i. unnamed s b.senses b.are_senses i) c (record { leaf = literal.1.0; what = literal.1.1; body = literal.1.2; declared = literal.1.3; has = literal.1.4; within = literal.1.5 }) in
            absurd (no_both (is_name s e0) is_one (subst (λ (k : ℕ). is_name s k ≡ false) (leaf_is ∙ same) (unnamed_literal c m.leaf literal.0 holds)))
          where
            unnamed_literal : (c : Core) (i : ℕ) → kind_of c ≡ Literal i → Holds (IsUnnamed s) c → is_name s i ≡ false
            unnamed_literal (Of (Literal j) place type under) i e h = let same : j ≡ i = cc in subst (λ (k : ℕ). is_name s k ≡ false) same h.0
            unnamed_literal (Of kind place type under) i e h = cc

        linkage_two : (a c : Bool) → c ≡ true → (if a then Internal else (if c then External else Local)) ≡ Local → ⊥
        linkage_two true c e k = cc
        linkage_two false true e k = cc
        linkage_two false false e k = cc

        not_internal : (a c : Bool) → (if a then Internal else (if c then External else Local)) ≡ External → a ≡ false
        not_internal true c e = cc
        not_internal false c e = refl

        is_internal_one : (a c : Bool) → (if a then Internal else (if c then External else Local)) ≡ Internal → a ≡ true
        is_internal_one true c e = refl
        is_internal_one false true e = cc
        is_internal_one false false e = cc

        -- what a name declares, by its type
        from_name : (e0 : ℕ) → declared_name s b.senses e0 ≡ Some m.what → (t : Ctype) × (entity_type s b.senses e0 ≡ Some t) × (declared_as s b.senses e0 t ≡ m.what)
        from_name e0 told = pick (declares_entity s b.senses e0) (entity_type s b.senses e0) told
          where
            pick : (a : Bool) (o : Option Ctype) → (if a then option_map (declared_as s b.senses e0) o else None) ≡ Some m.what → (t : Ctype) × (o ≡ Some t) × (declared_as s b.senses e0 t ≡ m.what)
            pick true o e = map_some o (declared_as s b.senses e0) m.what e
            pick false o e = absurd (none_some e)

        finish : (e0 : ℕ) → declared_name s b.senses e0 ≡ Some m.what → entity_type s b.senses e0 ≡ own_type s f h.name → storage_at s b.senses e0 ≡ FunctionBody → linkage_of s f e0 ≢ Local → IsOwner u entity
        finish e0 told type storage linkage =
            let n = from_name e0 told in
            let t_is : n.0 ≡ FunctionFrom h.result h.parameters h.form = some_same (sym n.1 ∙ (type ∙ h.type)) in
            let what_type : m.what.type ≡ FunctionFrom h.result h.parameters h.form = ap (λ (x : Declares). x.type) (sym n.2) ∙ t_is in
            record {
              function = subst IsFunction (sym (m.is.type ∙ what_type)) tt;
              storage = m.is.storage ∙ (ap (λ (x : Declares). x.storage) (sym n.2) ∙ storage);
              linkage = λ e. linkage (ap (λ (x : Declares). x.linkage) n.2 ∙ (sym m.is.linkage ∙ e));
            }

        first_internal : (leaf : ℕ) (ds : List Declaration) → AllInternal ds → is_internal s f leaf ≡ true → is_internal s f (first_of s f leaf ds) ≡ true
        first_internal leaf [] a own = own
        first_internal leaf (d ∷ ds) a own = a.0

        entity_internal : is_internal s f h.name ≡ true → is_internal s f (entity_of s f h.name) ≡ true
        entity_internal own = pick (is_internal s f h.name) own
          where
            pick : (a : Bool) → a ≡ true → is_internal s f (if a then first_of s f h.name (internal_among s f s.declared.ordinary (ordinary_at s h.name)) else h.name) ≡ true
            pick true e = first_internal h.name (of_internal s b.senses h.name) (all_internal s b.senses linked_stands h.name) own
            pick false e = own

        linkage_internal : (e0 : ℕ) → is_internal s f e0 ≡ true → linkage_of s f e0 ≡ Internal
        linkage_internal e0 e = ap (λ (a : Bool). if a then Internal else (if is_linked s f e0 then External else Local)) e

        left : (x z : Bool) → (x && z) ≡ true → x ≡ true
        left true z e = refl
        left false z e = cc

        by : (l : Linkage) → linkage_of s f h.name ≡ l → IsOwner u entity
        by Local e = absurd (linkage_two (is_internal s f h.name) (is_linked s f h.name) h.linked e)
        by External e =
            let none = not_internal (is_internal s f h.name) (is_linked s f h.name) e in
            let same : entity_of s f h.name ≡ h.name = ap (λ (a : Bool). if a then first_of s f h.name (internal_among s f s.declared.ordinary (ordinary_at s h.name)) else h.name) none in
            finish h.name (of_entity h.name same (named h.name h.linked) m.declared)
            (ap (λ (l : Linkage). elim l as (λ _. Option Ctype) [ Internal ↦ internal_type s b.senses h.name | _ ↦ own_type s f h.name ]) e)
            (ap (λ (l : Linkage). elim l as (λ _. Storage) [ Internal ↦ (elim (storage_of s f (representative s b.senses h.name)) as (λ _. Storage) [ Declared ↦ if declares_function s f h.name then Declared else Static | other ↦ other ]) | _ ↦ storage_of s f h.name ]) e ∙ body_storage)
            (λ k. let bad : External ≡ Local = sym e ∙ k in cc)
        by Internal e =
            let own = is_internal_one (is_internal s f h.name) (is_linked s f h.name) e in
            let e0 = entity_of s f h.name in
            let inside = entity_internal own in
            let linkage = linkage_internal (entity_of s f h.name) inside in
            let known : representative s b.senses (entity_of s f h.name) ≡ h.name = internals d is h own in
            finish (entity_of s f h.name) (of_entity (entity_of s f h.name) refl (named (entity_of s f h.name) (left (is_linked s f (entity_of s f h.name)) _ inside)) m.declared)
            (ap (λ (l : Linkage). elim l as (λ _. Option Ctype) [ Internal ↦ internal_type s b.senses (entity_of s f h.name) | _ ↦ own_type s f (entity_of s f h.name) ]) linkage
            ∙ (ap (λ (r : ℕ). if is_defined s f r then own_type s f r else option_map (with_one s b.senses) (all_together None (types_of s f (of_internal s b.senses (entity_of s f h.name))))) known
            ∙ ap (λ (a : Bool). if a then own_type s f h.name else option_map (with_one s b.senses) (all_together None (types_of s f (of_internal s b.senses (entity_of s f h.name))))) defined))
            (ap (λ (l : Linkage). elim l as (λ _. Storage) [ Internal ↦ (elim (storage_of s f (representative s b.senses (entity_of s f h.name))) as (λ _. Storage) [ Declared ↦ if declares_function s f (entity_of s f h.name) then Declared else Static | other ↦ other ]) | _ ↦ storage_of s f (entity_of s f h.name) ]) linkage
            ∙ ap (λ (x : Storage). elim x as (λ _. Storage) [ Declared ↦ if declares_function s f (entity_of s f h.name) then Declared else Static | other ↦ other ]) (ap (storage_of s f) known ∙ body_storage))
            (λ k. let bad : Internal ≡ Local = sym linkage ∙ k in cc)

  -- ---- the owner of what is declared

  -- what owns is the entity of the function around
  pub record Around (d : ℕ) : Type 0 where
    pub node : ℕ
    pub function : ℕ
    pub around : function_around s f node ≡ Some function
    pub is : entity_of s f function ≡ d

  pub owner_around : (leaf : ℕ) (what : Declares) → IsDeclaredAt s b.senses leaf what → (d : ℕ) → what.owner ≡ Some d → Around d
  owner_around leaf what (inr (c, literal, told)) d e =
      let a = map_some (function_around s f leaf) (entity_of s f) d (sym (ap (λ (x : Declares). x.owner) told) ∙ e) in
      record { node = leaf; function = a.0; around = a.1; is = a.2 }
  owner_around leaf what (inl told) d e = pick (declares_entity s b.senses leaf) (entity_type s b.senses leaf) told
    where
      own : (l : Linkage) → (elim l as (λ _. Option ℕ) [ Local ↦ option_map (entity_of s f) (function_around s f leaf) | _ ↦ None ]) ≡ Some d → Around d
      own Local k = let a = map_some (function_around s f leaf) (entity_of s f) d k in record { node = leaf; function = a.0; around = a.1; is = a.2 }
      own External k = absurd (none_some k)
      own Internal k = absurd (none_some k)

      pick : (a : Bool) (o : Option Ctype) → (if a then option_map (declared_as s b.senses leaf) o else None) ≡ Some what → Around d
      pick false o k = absurd (none_some k)
      pick true None k = absurd (none_some k)
      pick true (Some t) k = own (linkage_of s f leaf) (ap (λ (x : Declares). x.owner) (some_same k) ∙ e)

  no_function : (leaf p : ℕ) → declaration_of s f leaf ≡ Some p → is_a s p_external p ≡ false → stands_in_declaration s b.senses leaf ≡ true → function_around s f leaf ≡ None → ⊥
  no_function leaf p e other stands none =
      let h = located leaf p e other stands in
      let d = defines h.definition h.is in
      let there : function_around s f leaf ≡ Some d.name = ap (option_and_then (defined_name s f)) h.nearest ∙ d.named in
      none_some (sym none ∙ there)

  -- what stands at file scope doesn't live in a function
  at_file_stays : (leaf p : ℕ) → declaration_of s f leaf ≡ Some p → is_a s p_external p ≡ true → lives (storage_of s f leaf) ≡ false
  at_file_stays leaf p e external =
      by (is_parameter s f leaf) (declares_function s f leaf) (is_defined s f leaf) (has_storage s f word_extern leaf && is_none (initialiser_for s f leaf)) (is_at_file s f leaf) (has_storage s f word_static leaf || has_storage s f word_extern leaf)
      (ap (λ (x : Option ℕ). elim x as (λ _. Bool) [ None ↦ false | Some q ↦ is_a s p_parameter q ]) e ∙ apart s p p_external p_parameter external refl)
      (ap (λ (x : Option ℕ). elim x as (λ _. Bool) [ None ↦ false | Some q ↦ is_a s p_external q ]) e ∙ external)
    where
      by : (q x z n a w : Bool) → q ≡ false → a ≡ true → lives (if q then Parameter else if x then (if z then FunctionBody else Declared) else if n then Declared else if a || w then Static else Automatic) ≡ false
      by true x z n a w h k = cc
      by false true true n a w h k = refl
      by false true false n a w h k = refl
      by false false z true a w h k = refl
      by false false z false true w h k = refl
      by false false z false false w h k = cc

  owner_there : (leaf : ℕ) (what : Declares) → IsDeclaredAt s b.senses leaf what → lives what.storage ≡ true → what.owner ≡ None → ⊥
  owner_there leaf what (inr (c, literal, told)) living none =
      by (function_around s f leaf) (sym (ap (λ (x : Declares). x.owner) told) ∙ none) (ap (λ (x : Declares). lives x.storage) (sym told) ∙ living)
    where
      by : (o : Option ℕ) → option_map (entity_of s f) o ≡ None → lives (if is_some o then Automatic else Static) ≡ true → ⊥
      by None e k = cc
      by (Some x) e k = none_some (sym e)
  owner_there leaf what (inl told) living none = pick (declares_entity s b.senses leaf) refl (entity_type s b.senses leaf) told
    where
      both : (x z : Bool) → (x && z) ≡ true → (x ≡ true) × (z ≡ true)
      both true true e = (refl, refl)
      both true false e = cc
      both false z e = cc

      own : (l : Linkage) → linkage_of s f leaf ≡ l → l ≡ Local → stands_in_declaration s b.senses leaf ≡ true → owner_at s b.senses leaf ≡ None → lives (storage_at s b.senses leaf) ≡ true → ⊥
      own External e k stands owner living = cc
      own Internal e k stands owner living = cc
      own Local e k stands owner living = place (declaration_of s f leaf) refl stands
        where
          storage : lives (storage_of s f leaf) ≡ true
          storage = sym (ap (λ (l : Linkage). lives (elim l as (λ _. Storage) [ Internal ↦ (elim (storage_of s f (representative s b.senses leaf)) as (λ _. Storage) [ Declared ↦ if declares_function s f leaf then Declared else Static | other ↦ other ]) | _ ↦ storage_of s f leaf ])) e) ∙ living

          none_around : function_around s f leaf ≡ None
          none_around = empty (function_around s f leaf) (sym (ap (λ (l : Linkage). elim l as (λ _. Option ℕ) [ Local ↦ option_map (entity_of s f) (function_around s f leaf) | _ ↦ None ]) e) ∙ owner)
            where
              empty : (o : Option ℕ) → option_map (entity_of s f) o ≡ None → o ≡ None
              empty None e = refl
              empty (Some x) e = absurd (none_some (sym e))

          place : (o : Option ℕ) → declaration_of s f leaf ≡ o → (elim o as (λ _. Bool) [ None ↦ false | Some p ↦ is_a s p_external p || (is_a s p_declaration p || (is_a s p_parameter p && is_defined_parameter s b.senses leaf)) ]) ≡ true → ⊥
          place None at h = cc
          place (Some p) at h = which (is_a s p_external p) refl
            where
              which : (a : Bool) → is_a s p_external p ≡ a → ⊥
              which true external = no_both (lives (storage_of s f leaf)) storage (at_file_stays leaf p at external)
              which false other = no_function leaf p at other stands none_around

      pick : (a : Bool) → declares_entity s b.senses leaf ≡ a → (o : Option Ctype) → (if a then option_map (declared_as s b.senses leaf) o else None) ≡ Some what → ⊥
      pick false is o k = none_some k
      pick true is None k = none_some k
      pick true is (Some t) k =
          let same = some_same k in
          let live : lives (storage_at s b.senses leaf) ≡ true = ap (λ (x : Declares). lives x.storage) same ∙ living in
          let stands = (both (stands_in_declaration s b.senses leaf) _ (both (is_declaring s b.senses leaf) _ is).1).0 in
          own (linkage_of s f leaf) refl (local s b.senses linked_stands leaf live) stands (ap (λ (x : Declares). x.owner) same ∙ none) live

  lives_local : (storage : Storage) → IsLocal storage → lives storage ≡ true
  lives_local Automatic h = refl
  lives_local Parameter h = refl
  lives_local Static h = absurd h
  lives_local FunctionBody h = absurd h
  lives_local Declared h = absurd h

  pub owner_is : (d k : ℕ) → Around d → b.numbering d ≡ Some k → (entity : Entity) × (entity_at (trees_of u) k ≡ Some entity) × IsOwner u entity
  owner_is d k a number =
      let h = around_defines a.node a.function a.around in
      let known : b.numbering (entity_of s f h.1.name) ≡ Some k = ap (λ (x : ℕ). b.numbering (entity_of s f x)) (sym h.3) ∙ (ap b.numbering a.is ∙ number) in
      let (declared, what, is, numbered) = b.no_other_entity k (b.numbered d k number) in
      let (e2, entity, same, there, entered) = b.each_declared declared what is in
      let one : e2 ≡ k = some_same (sym same ∙ numbered) in
      let at : entity_at (trees_of u) k ≡ Some entity = ap (λ (x : ℕ). entity_at (trees_of u) x) (sym one) ∙ there in
      (entity, at, owner_known h.0 h.2 h.1 k entity known at)

  pub owned : Owned (trees_of u)
  owned e entity at =
      let m = made s name u b e entity at in
      by (m.what.owner) refl entity.owner m.is.owner
    where
      m : Made s name u b e entity
      m = made s name u b e entity at

      by : (o : Option ℕ) → m.what.owner ≡ o → (p : Option ℕ) → SameOwner b.numbering o p → IsOwned (trees_of u) entity.storage p
      by None none None same = λ h. owner_there m.leaf m.what m.declared (ap lives (sym m.is.storage) ∙ lives_local entity.storage h) none
      by None none (Some k) same = absurd same
      by (Some d) some None same = absurd same
      by (Some d) some (Some k) same =
          let o = owner_is d k (owner_around m.leaf m.what m.declared d some) same in
          subst (IsFunctionIn (trees_of u)) (sym o.1) o.2.function

pub owners_stand : OwnersStand
owners_stand tokens unit tree tag_number name u cut is b internals =
    let s = numbered tag_number (source_of tokens tree) in
    let t = tree_is tokens unit tree is tag_number in
    owned s name u b (λ leaf h. linked.stands_linked s t b.senses b.are_senses b.whole leaf h) (λ d h. definitions_declare tokens unit tree tag_number b.senses d cut is b.are_senses b.whole h) internals
    (λ leaf h. (linked.linked_named s t b.senses b.are_senses b.whole leaf h).3.reached.named) (λ leaf p e other stands. locals tokens unit tree tag_number b.senses leaf p cut is e other stands)
