-- Each entity has a size, or is only declared.
use Rattle.std.proofs.Common.{◌≡◌, ◌<◌, ◌⊎◌, inl, inr, ◌==◌, ℕ, nat_eq, Bool, true, false, ◌&&◌, ◌||◌, not, List, length, Option, Some, None, refl, sym, ap, ◌∙◌, subst}
use Rattle.std.specs.Prelude.{is_none, is_some, option_map, if◌then◌else◌}
use Rattle.std.proofs.lemmas.Bool.{eqb-true}
use Rattle.c_lexer.specs.declared.Tokens.{Tokens}
use Rattle.c_lexer.specs.Cut.{IsTokens}
use Rattle.c_types.specs.declared.term.MemberTerm.{MemberTerm}
use Rattle.c_types.specs.Trees.{Ctype, VoidType, ArrayOf, FunctionFrom, StructureOf, UnionOf}
use Rattle.c_types.specs.Table.{Table, type_of, members_in}
use Rattle.c_grammar.specs.declared.trees.Tree.{Tree as SyntaxTree}
use Rattle.c_grammar.specs.Productions.{p_external, p_declaration, p_parameter, p_block}
use Rattle.c_grammar.specs.Words.{word_extern}
use Rattle.c_parser.specs.c_units.Units.{IsUnit}
use Rattle.type_rules.specs.Kinds.{IsAggregate, LacksLength}
use Rattle.type_rules.specs.Sizes.{IsObject, HasSize, IsOpenIn, TagsHaveSizes, with_one}
use Rattle.core_tree.specs.declared.node.Entity.{Entity}
use Rattle.core_tree.specs.declared.node.Unit.{Unit}
use Rattle.core_tree.specs.declared.node.Linkage.{Linkage}
use Rattle.core_tree.specs.declared.node.Linkage.TheVariants.{External, Internal, Local}
use Rattle.core_tree.specs.declared.node.Storage.{Storage}
use Rattle.core_tree.specs.declared.node.Storage.TheVariants.{Static, Automatic, FunctionBody, Parameter, Declared}
use Rattle.core_tree.specs.Typed.{trees_of}
use Rattle.core_tree.specs.Range.{entity_at}
use Rattle.core_tree.specs.Rows.{IsFunction, int}
use Rattle.core_tree.specs.Valid.{EntitySized}
use Rattle.c_consts.specs.Core.{Core, ctype_of}
use Rattle.c_senses.specs.Names.{source_of, numbered}
use Rattle.c_senses.specs.Tree.{Source, production_at, is_a, child_of}
use Rattle.c_senses.specs.Entities.{declaration_of, is_parameter, is_typedef, is_defined, is_linked, is_internal, is_static_object, declares_function, has_storage, initialiser_for, own_type, storage_of, linkage_of, entity_of, all_together, types_of}
use Rattle.c_senses.specs.Rows.{world_at}
use Rattle.c_senses.specs.Right.{Declared as Declares, IsDeclaredAt, IsLiteralOf, is_declaring, is_defined_parameter, stands_in_declaration, declares_entity, declared_as, entity_type, internal_type, representative, storage_at, of_internal}
use Rattle.c_senses.specs.Right as right
use Rattle.c_senses.specs.Sense.{Sense, sense_in}
use Rattle.parsed_tree_laws.specs.sense_laws.Senses.{SoundSense}
use Rattle.core_node_laws.specs.built_unit_laws.built_rows.Rows.{types_declared}
use Rattle.core_node_laws.specs.built_unit_laws.built_units.Built.{IsBuilt}
use Rattle.core_node_laws.specs.standing_laws.Standing.{IsGrown}
use Rattle.parsed_tree_laws.proofs.placed_laws.Climbing.{Grown}
use Rattle.parsed_tree_laws.specs.grown_parts.Parts.{IsBrought}
use Rattle.parsed_tree_laws.proofs.grown_parts.Reading.{units_bring}
use Rattle.declaration_laws.proofs.function_laws.body_returns.Built.{grown, placed}
use Rattle.declaration_laws.proofs.name_order.Ordered.{units_ordered}
use Rattle.declaration_laws.proofs.function_laws.passed.definition_laws.linkage_laws.Linked.{stands_linked}
use Rattle.declaration_laws.proofs.function_laws.passed.definition_laws.linkage_laws.Reading.{tree_is}
use Rattle.declaration_laws.proofs.function_laws.passed.definition_laws.linkage_laws.Unlinked.{Made, made, stands_for}
use Rattle.declaration_laws.specs.function_laws.passed.definition_laws.function_definitions.Defined.{Defines}
use Rattle.declaration_laws.proofs.function_laws.passed.definition_laws.function_definitions.Reading.{definitions_declare}
use Rattle.declaration_laws.specs.function_laws.function_bodies.Bodies.{FunctionFits}
use Rattle.declaration_laws.proofs.function_laws.function_bodies.Reading.{parts_of, declarators_of, functions_stand}
use Rattle.core_node_laws.proofs.built_unit_laws.value_laws.Shapes.{structure_complete, union_complete}
use Rattle.declaration_laws.proofs.function_laws.function_bodies.Standing.{named_by}
use Rattle.valid_unit_laws.specs.object_size_laws.parameter_sizes.PassedOn.{TypeSized, Sized, Complete, Open, IsSizedType}
use Rattle.valid_unit_laws.proofs.object_size_laws.parameter_sizes.PassedOn.{objects_sized}
use Rattle.valid_unit_laws.proofs.object_size_laws.parameter_sizes.Sizes.{parameters_sized}
use Rattle.valid_unit_laws.proofs.object_size_laws.literal_sizes.Sizes.{literals_sized}
use Rattle.declaration_laws.specs.declared_type_laws.function_types.Typed.{FunctionsTyped, IsNamedType}
use Rattle.declaration_laws.proofs.declared_type_laws.function_types.Reading.{functions_given}
use Rattle.valid_unit_laws.specs.object_size_laws.entity_sizes.Entities.{EntitiesSized}
use Rattle.valid_unit_laws.proofs.object_size_laws.entity_sizes.Known.{LinkedKnown, linked_known}
use Rattle.valid_unit_laws.proofs.object_size_laws.entity_sizes.Placed.{object_placed}
use Rattle.valid_unit_laws.proofs.object_size_laws.entity_sizes.Types.{one_is, one_again, one_closed, one_function, one_aggregate, aggregate_closed}
use Rattle.valid_unit_laws.proofs.object_size_laws.entity_sizes.Internals.{internal_typed, named_closed}

some_one : {X : Type 0} → {x y : X} → ◌≡◌ {A = Option X} (Some x) (Some y) → x ≡ y
some_one h = cc

none_some : {X : Type 0} → {x : X} → ◌≡◌ {A = Option X} None (Some x) → ⊥
none_some h = cc

both : (a b : Bool) → (a && b) ≡ true → (a ≡ true) × (b ≡ true)
both true b e = (refl, e)
both false b e = cc

no_both : (b : Bool) → b ≡ true → b ≡ false → ⊥
no_both b e f = let both : true ≡ false = sym e ∙ f in cc

not_true : (b : Bool) → not b ≡ true → b ≡ false
not_true true e = cc
not_true false e = refl

map_some : {A B : Type 0} → (o : Option A) (k : A → B) (y : B) → option_map k o ≡ Some y → (x : A) × (o ≡ Some x) × (k x ≡ y)
map_some None k y e = absurd (none_some e)
map_some (Some x) k y e = (x, refl, some_one e)

plain_closed : (t : Ctype) → IsFunction t ⊎ IsNamedType t → LacksLength t → ⊥
plain_closed (ArrayOf of None) (inl h) k = h
plain_closed (ArrayOf of None) (inr h) k = let no : ArrayOf of None ≡ int = h in cc
plain_closed (ArrayOf of (Some n)) h k = k
plain_closed t h k = k

open_closed : (types : Table) (t : Ctype) → IsOpenIn types t → LacksLength t → ⊥
open_closed types VoidType o k = k
open_closed types (StructureOf tag) o k = k
open_closed types (UnionOf tag) o k = k
open_closed types t o k = o

module _ (tokens : Tokens) (unit : ℕ) (tree : SyntaxTree) (tag_number : ℕ → ℕ) (name : List ℕ) (u : Unit) (cut : IsTokens tokens.text.now tokens.list.items) (is : IsUnit tokens unit tree) (b : IsBuilt (numbered tag_number (source_of tokens tree)) name u)
    (functions : FunctionsTyped (numbered tag_number (source_of tokens tree)) b.senses)
    (sound : (i : ℕ) → SoundSense (world_at (numbered tag_number (source_of tokens tree)) b.senses (length b.senses)) (types_declared (numbered tag_number (source_of tokens tree)) b.senses) (sense_in b.senses i)) (tags : TagsHaveSizes u.types) where
  abbrev s : Source
  s = numbered tag_number (source_of tokens tree)

  abbrev f : ℕ → Sense
  f = sense_in b.senses

  grows : IsGrown s
  grows = grown tokens unit tree tag_number cut is

  grew : Grown s
  grew = placed tokens unit tree tag_number is

  brought : IsBrought s
  brought = units_bring tokens unit tree tag_number is

  known : LinkedKnown s b.senses
  known = linked_known tokens unit tree tag_number b.senses cut is b.are_senses b.whole

  plain : (leaf : ℕ) → is_linked s f leaf ≡ true → is_parameter s f leaf ≡ false
  plain leaf h = let st = stands_linked s (tree_is tokens unit tree is tag_number) b.senses b.are_senses b.whole leaf h in st.parameter

  -- ---- the entity

  module _ (e : ℕ) (entity : Entity) (at : entity_at (trees_of u) e ≡ Some entity) where
    abbrev T : Ctype
    T = type_of u.types entity.ty.0

    inside : entity.ty.0 < length u.types.terms
    inside = let entered = b.entered e entity at in entered.type

    complete : (t : Ctype) → T ≡ t → IsAggregate t → IsObject u.types t → HasSize u.types (with_one T) × (LacksLength T → ⊥)
    complete t same g o =
        let own : IsAggregate T = subst IsAggregate (sym same) g in
        let size : HasSize u.types T = tags entity.ty.0 inside own (subst (IsObject u.types) (sym same) o) in
        (subst (HasSize u.types) (sym (one_aggregate T own)) size, aggregate_closed T own)

    of_size : HasSize u.types (with_one T) → (LacksLength T → entity.linkage ≡ External) → EntitySized (trees_of u) entity
    of_size size length = inr (record { measured = inl size; length = length })

    of_sized : (t : Ctype) → T ≡ t → IsSizedType u.types t → EntitySized (trees_of u) entity
    of_sized t same (inl h) = of_size (subst (λ (x : Ctype). HasSize u.types (with_one x)) (sym same) h.0) (λ lacks. absurd (h.1 (subst LacksLength same lacks)))
    of_sized t same (inr h) = let c = complete t same h.0 h.1 in of_size c.0 (λ lacks. absurd (c.1 lacks))

    of_function : (t : Ctype) → T ≡ t → IsFunction t → EntitySized (trees_of u) entity
    of_function t same h = inl (subst IsFunction (sym same) h)

    -- a structure or union of what is only declared
    of_open : (t : Ctype) → T ≡ t → IsAggregate t → entity.storage ≡ Declared → EntitySized (trees_of u) entity
    of_open (StructureOf tag) same g storage = by (members_in u.types tag) refl
      where
        by : (o : Option (List MemberTerm)) → members_in u.types tag ≡ o → EntitySized (trees_of u) entity
        by None at = inr (record { measured = inr (storage, subst (IsOpenIn u.types) (sym same) at); length = λ lacks. absurd (subst LacksLength same lacks) })
        by (Some ms) at = let c = complete (StructureOf tag) same tt (structure_complete u.types tag (ap is_some at)) in of_size c.0 (λ lacks. absurd (c.1 lacks))
    of_open (UnionOf tag) same g storage = by (members_in u.types tag) refl
      where
        by : (o : Option (List MemberTerm)) → members_in u.types tag ≡ o → EntitySized (trees_of u) entity
        by None at = inr (record { measured = inr (storage, subst (IsOpenIn u.types) (sym same) at); length = λ lacks. absurd (subst LacksLength same lacks) })
        by (Some ms) at = let c = complete (UnionOf tag) same tt (union_complete u.types tag (ap is_some at)) in of_size c.0 (λ lacks. absurd (c.1 lacks))
    of_open t same g storage = absurd g

    -- what is stored as a function's body is a function
    of_body : entity.storage ≡ FunctionBody → EntitySized (trees_of u) entity
    of_body storage = by entity.body (functions_stand tokens unit tree tag_number name u cut is b e entity at)
      where
        by : (o : Option ℕ) → FunctionFits (trees_of u) entity o → EntitySized (trees_of u) entity
        by None fits = absurd (fits storage)
        by (Some body) fits = inl (fits storage).0

    -- a compound literal's object
    of_literal : (leaf : ℕ) (c : Core) → IsLiteralOf s b.senses leaf c → T ≡ ctype_of c → EntitySized (trees_of u) entity
    of_literal leaf c literal same = of_sized (ctype_of c) same (inl (literals_sized tokens unit tree tag_number name u cut is b sound leaf c literal))

    -- a name
    module _ (leaf : ℕ) (declaring : is_declaring s b.senses leaf ≡ true) (standing : stands_in_declaration s b.senses leaf ≡ true) (no_typedef : is_typedef s f leaf ≡ false) where
      abbrev Stands : Option ℕ → Type 0
      Stands o = (elim o as (λ _. Bool) [ None ↦ false | Some p ↦ is_a s p_external p || (is_a s p_declaration p || (is_a s p_parameter p && is_defined_parameter s b.senses leaf)) ]) ≡ true

      abbrev Asks : Option ℕ → Bool → Type 0
      Asks o x = (elim o as (λ _. Bool) [ None ↦ false | Some p ↦ is_a s p_parameter p ]) ≡ x

      apart : (q : ℕ) → is_a s p_parameter q ≡ true → (is_a s p_external q ≡ false) × (is_a s p_declaration q ≡ false)
      apart q h = subst (λ (x : ℕ). (nat_eq x p_external ≡ false) × (nat_eq x p_declaration ≡ false)) (sym (eqb-true (production_at s q) p_parameter h)) (refl, refl)

      defined_parameter : is_parameter s f leaf ≡ true → is_defined_parameter s b.senses leaf ≡ true
      defined_parameter h = by (declaration_of s f leaf) standing h
        where
          by : (o : Option ℕ) → Stands o → Asks o true → is_defined_parameter s b.senses leaf ≡ true
          by None k l = cc
          by (Some q) k l =
              let a = apart q l in
              (both (is_a s p_parameter q) (is_defined_parameter s b.senses leaf)
              (sym (ap (λ (x : Bool). x || (is_a s p_declaration q || (is_a s p_parameter q && is_defined_parameter s b.senses leaf))) a.0 ∙ ap (λ (x : Bool). x || (is_a s p_parameter q && is_defined_parameter s b.senses leaf)) a.1) ∙ k)).1

      object : (t : Ctype) → is_parameter s f leaf ≡ false → declares_function s f leaf ≡ false → own_type s f leaf ≡ Some t → TypeSized s f u.types leaf t
      object t parameter function own =
          let d = object_placed s b.senses grows grew brought b.are_senses leaf declaring standing parameter in
          objects_sized tokens unit tree tag_number name u cut is b leaf d.0 d.1 t d.2 d.3 d.4 parameter no_typedef function own

      -- one that has no internal linkage
      module _ (t : Ctype) (same : T ≡ t) (own : own_type s f leaf ≡ Some t) (internal : is_internal s f leaf ≡ false) (linkage : entity.linkage ≡ linkage_of s f leaf) (storage : entity.storage ≡ storage_of s f leaf) where
        of_object : is_parameter s f leaf ≡ false → declares_function s f leaf ≡ false → TypeSized s f u.types leaf t → EntitySized (trees_of u) entity
        of_object parameter function (Sized h lacks) =
            of_size (subst (λ (x : Ctype). HasSize u.types (with_one x)) (sym same) h)
            (λ k. linkage ∙ (ap (λ (x : Bool). if x then Internal else (if is_linked s f leaf then External else Local)) internal ∙ ap (λ (x : Bool). if x then External else Local) (lacks (subst LacksLength same k))))
        of_object parameter function (Complete g o) = let c = complete t same g o in of_size c.0 (λ lacks. absurd (c.1 lacks))
        of_object parameter function (Open o extern none) =
            inr (record {
              measured = inr (storage ∙ by (is_parameter s f leaf) (declares_function s f leaf) (has_storage s f word_extern leaf) (initialiser_for s f leaf) parameter function extern none, subst (IsOpenIn u.types) (sym same) o);
              length = λ lacks. absurd (open_closed u.types t o (subst LacksLength same lacks));
            })
          where
            by : (p x w : Bool) (i : Option ℕ) → p ≡ false → x ≡ false → w ≡ true → i ≡ None
                → (if p then Parameter else if x then (if is_defined s f leaf then FunctionBody else Declared) else if w && is_none i then Declared else if is_static_object s f leaf then Static else Automatic) ≡ Declared
            by false false true None ep ex ew ei = refl
            by true x w i ep ex ew ei = cc
            by false true w i ep ex ew ei = cc
            by false false false i ep ex ew ei = cc
            by false false true (Some j) ep ex ew ei = cc

        of_plain : EntitySized (trees_of u) entity
        of_plain = by (is_parameter s f leaf) refl
          where
            -- declared as a function, by a type that isn't a function's
            given : is_parameter s f leaf ≡ false → declares_function s f leaf ≡ true → IsAggregate t ⊎ HasSize u.types (with_one t) → EntitySized (trees_of u) entity
            given parameter function (inl g) = pick (is_defined s f leaf) refl
              where
                stored : (p x d : Bool) → p ≡ false → x ≡ true
                    → (if p then Parameter else if x then (if d then FunctionBody else Declared) else if has_storage s f word_extern leaf && is_none (initialiser_for s f leaf) then Declared else if is_static_object s f leaf then Static else Automatic)
                    ≡ (if d then FunctionBody else Declared)
                stored false true d ep ex = refl
                stored true x d ep ex = cc
                stored false false d ep ex = cc

                pick : (d : Bool) → is_defined s f leaf ≡ d → EntitySized (trees_of u) entity
                pick true defined = of_body (storage ∙ (stored (is_parameter s f leaf) (declares_function s f leaf) (is_defined s f leaf) parameter function ∙ ap (λ (d : Bool). if d then FunctionBody else Declared) defined))
                pick false defined = of_open t same g (storage ∙ (stored (is_parameter s f leaf) (declares_function s f leaf) (is_defined s f leaf) parameter function ∙ ap (λ (d : Bool). if d then FunctionBody else Declared) defined))
            given parameter function (inr h) = of_size (subst (λ (x : Ctype). HasSize u.types (with_one x)) (sym same) h) (λ lacks. absurd (plain_closed t (functions leaf t function own) (subst LacksLength same lacks)))

            told : is_parameter s f leaf ≡ false → declares_function s f leaf ≡ true → IsFunction t ⊎ IsNamedType t → EntitySized (trees_of u) entity
            told parameter function (inl h) = of_function t same h
            told parameter function (inr h) = given parameter function (named_closed u.types t h)

            named : is_parameter s f leaf ≡ false → (x : Bool) → declares_function s f leaf ≡ x → EntitySized (trees_of u) entity
            named parameter true function = told parameter function (functions leaf t function own)
            named parameter false function = of_object parameter function (object t parameter function own)

            by : (x : Bool) → is_parameter s f leaf ≡ x → EntitySized (trees_of u) entity
            by true parameter = of_sized t same (parameters_sized tokens unit tree tag_number name u cut is b leaf t declaring parameter (defined_parameter parameter) own)
            by false parameter = named parameter (declares_function s f leaf) refl

      -- an internal one
      module _ (t : Ctype) (same : T ≡ t) (typed : internal_type s b.senses leaf ≡ Some t) (linkage : linkage_of s f leaf ≡ Internal) (internal : is_internal s f leaf ≡ true) (own_entity : entity_of s f leaf ≡ leaf) (storage : entity.storage ≡ storage_at s b.senses leaf) where
        of_definition : is_defined s f (representative s b.senses leaf) ≡ true → own_type s f (representative s b.senses leaf) ≡ Some t → EntitySized (trees_of u) entity
        of_definition defined own = by (declaration_of s f (representative s b.senses leaf)) refl defined
          where
            r : ℕ
            r = representative s b.senses leaf

            by : (o : Option ℕ) → declaration_of s f (representative s b.senses leaf) ≡ o → (elim o as (λ _. Bool) [ None ↦ false | Some p ↦ is_a s p_external p && is_some (child_of s p_block p) ]) ≡ true → EntitySized (trees_of u) entity
            by None at k = cc
            by (Some q) at k =
                let h : Defines s b.senses q = definitions_declare tokens unit tree tag_number b.senses q cut is b.are_senses b.whole k in
                let each = λ (leaf : ℕ). stands_linked s (tree_is tokens unit tree is tag_number) b.senses b.are_senses b.whole leaf in
                let internal : is_internal s f (representative s b.senses leaf) ≡ true = stands_for s b.senses each leaf linkage in
                let one : representative s b.senses leaf ≡ h.name =
                named_by s (tree_is tokens unit tree is tag_number) b.senses b.are_senses b.whole (λ p z. parts_of tokens unit tree tag_number is p z) (λ p z. definitions_declare tokens unit tree tag_number b.senses p cut is b.are_senses b.whole z)
                (λ p z. declarators_of tokens unit tree tag_number b.senses cut is b.are_senses b.whole p z) (representative s b.senses leaf) q k at (inr (both (is_linked s f (representative s b.senses leaf)) _ internal).0) in
                let type : FunctionFrom h.result h.parameters h.form ≡ t = some_one (sym h.type ∙ (ap (own_type s f) (sym one) ∙ own)) in
                of_function t same (subst IsFunction type tt)

        of_together : (x : Ctype) → is_defined s f (representative s b.senses leaf) ≡ false → all_together None (types_of s f (of_internal s b.senses leaf)) ≡ Some x → right.with_one s b.senses x ≡ t → EntitySized (trees_of u) entity
        of_together x undefined all one =
            by (internal_typed s b.senses grew (let o = units_ordered tokens unit tree tag_number cut is in o.names) b.are_senses known functions u.types plain (objects_sized tokens unit tree tag_number name u cut is b) leaf x internal linkage own_entity undefined all)
          where
            whole : T ≡ with_one x
            whole = same ∙ (sym one ∙ one_is s b.senses x)

            closed : LacksLength T → ⊥
            closed lacks = one_closed x (subst LacksLength whole lacks)

            declared_only : declares_function s f leaf ≡ true → storage_of s f (representative s b.senses leaf) ≡ Declared → entity.storage ≡ Declared
            declared_only function stored =
                storage
                ∙ (ap (λ (l : Linkage). elim l as (λ _. Storage) [ Internal ↦ (elim (storage_of s f (representative s b.senses leaf)) as (λ _. Storage) [ Declared ↦ if declares_function s f leaf then Declared else Static | other ↦ other ]) | _ ↦ storage_of s f leaf ]) linkage
                ∙ (ap (λ (y : Storage). elim y as (λ _. Storage) [ Declared ↦ if declares_function s f leaf then Declared else Static | other ↦ other ]) stored ∙ ap (λ (z : Bool). if z then Declared else Static) function))

            by : IsFunction x ⊎ ((HasSize u.types (with_one x) ⊎ (IsAggregate x × IsObject u.types x)) ⊎ (IsAggregate x × (declares_function s f leaf ≡ true) × (storage_of s f (representative s b.senses leaf) ≡ Declared))) → EntitySized (trees_of u) entity
            by (inl h) = of_function (with_one x) whole (one_function x h)
            by (inr (inl (inl h))) = of_size (subst (HasSize u.types) (sym (ap with_one whole ∙ one_again x)) h) (λ lacks. absurd (closed lacks))
            by (inr (inl (inr h))) = let c = complete x (whole ∙ one_aggregate x h.0) h.0 h.1 in of_size c.0 (λ lacks. absurd (closed lacks))
            by (inr (inr h)) = of_open x (whole ∙ one_aggregate x h.0) h.0 (declared_only h.1 h.2)

        of_internal_name : EntitySized (trees_of u) entity
        of_internal_name = by (is_defined s f (representative s b.senses leaf)) refl typed
          where
            by : (x : Bool) → is_defined s f (representative s b.senses leaf) ≡ x
                → (if x then own_type s f (representative s b.senses leaf) else option_map (right.with_one s b.senses) (all_together None (types_of s f (of_internal s b.senses leaf)))) ≡ Some t → EntitySized (trees_of u) entity
            by true defined k = of_definition defined k
            by false defined k = let m = map_some (all_together None (types_of s f (of_internal s b.senses leaf))) (right.with_one s b.senses) t k in of_together m.0 defined m.1 m.2

      abbrev link : Bool → Bool → Linkage
      link x y = if x then Internal else (if y then External else Local)

      abbrev type_by : Linkage → Option Ctype
      type_by l = elim l as (λ _. Option Ctype) [ Internal ↦ internal_type s b.senses leaf | _ ↦ own_type s f leaf ]

      abbrev storage_by : Linkage → Storage
      storage_by l =
          elim l as (λ _. Storage) [ Internal ↦ (elim (storage_of s f (representative s b.senses leaf)) as (λ _. Storage) [ Declared ↦ if declares_function s f leaf then Declared else Static | other ↦ other ]) | _ ↦ storage_of s f leaf ]

      of_name : (t : Ctype) → T ≡ t → entity_type s b.senses leaf ≡ Some t → entity_of s f leaf ≡ leaf → entity.linkage ≡ linkage_of s f leaf → entity.storage ≡ storage_at s b.senses leaf → EntitySized (trees_of u) entity
      of_name t same typed own_entity linkage storage = by (is_internal s f leaf) refl
        where
          other : (y : Bool) → (type_by (link false y) ≡ own_type s f leaf) × (storage_by (link false y) ≡ storage_of s f leaf)
          other true = (refl, refl)
          other false = (refl, refl)

          by : (x : Bool) → is_internal s f leaf ≡ x → EntitySized (trees_of u) entity
          by true internal =
              let one : linkage_of s f leaf ≡ Internal = ap (λ (x : Bool). link x (is_linked s f leaf)) internal in
              of_internal_name t same (sym (ap type_by one) ∙ typed) one internal own_entity storage
          by false internal =
              let one : linkage_of s f leaf ≡ link false (is_linked s f leaf) = ap (λ (x : Bool). link x (is_linked s f leaf)) internal in
              let o = other (is_linked s f leaf) in
              of_plain t same (sym (ap type_by one ∙ o.0) ∙ typed) internal linkage (storage ∙ (ap storage_by one ∙ o.1))

    sized : EntitySized (trees_of u) entity
    sized = by (made (numbered tag_number (source_of tokens tree)) name u b e entity at)
      where
        by : Made s name u b e entity → EntitySized (trees_of u) entity
        by m = which m.declared
          where
            type_is : T ≡ m.what.type
            type_is = m.is.type

            pick : (x : Bool) (o : Option Ctype) → declares_entity s b.senses m.leaf ≡ x → entity_type s b.senses m.leaf ≡ o → (if x then option_map (declared_as s b.senses m.leaf) o else None) ≡ Some m.what → EntitySized (trees_of u) entity
            pick false o entitled typed k = absurd (none_some k)
            pick true None entitled typed k = absurd (none_some k)
            pick true (Some t) entitled typed k =
                let same : declared_as s b.senses m.leaf t ≡ m.what = some_one k in
                let one = both (is_declaring s b.senses m.leaf) _ entitled in
                let two = both (stands_in_declaration s b.senses m.leaf) _ one.1 in
                let three = both (not (is_typedef s f m.leaf)) (entity_of s f m.leaf == m.leaf) two.1 in
                of_name m.leaf one.0 two.0 (not_true (is_typedef s f m.leaf) three.0) t (type_is ∙ ap (λ (x : Declares). x.type) (sym same)) typed (eqb-true (entity_of s f m.leaf) m.leaf three.1) (m.is.linkage ∙ ap (λ (x : Declares). x.linkage) (sym same))
                (m.is.storage ∙ ap (λ (x : Declares). x.storage) (sym same))

            which : IsDeclaredAt s b.senses m.leaf m.what → EntitySized (trees_of u) entity
            which (inl told) = pick (declares_entity s b.senses m.leaf) (entity_type s b.senses m.leaf) refl refl told
            which (inr (c, literal, told)) = of_literal m.leaf c literal (type_is ∙ ap (λ (x : Declares). x.type) told)

pub entities_sized : EntitiesSized
entities_sized tokens unit tree tag_number name u cut is b sound tags e entity at = sized tokens unit tree tag_number name u cut is b (functions_given tokens unit tree tag_number b.senses is b.are_senses b.whole) sound tags e entity at
