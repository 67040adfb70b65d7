-- The block of a definition is the body of what the definition's name declares.
use Rattle.std.proofs.Common.{arith, ◌≡◌, ◌≤◌, ℕ, nat_eq, not, ◌&&◌, ◌||◌, Bool, true, false, List, [], ◌∷◌, Option, Some, None, length, slice_get, eq-eqb, refl, sym, ap, ◌∙◌, subst, ◌⊎◌, inl, inr}
use Rattle.std.specs.Prelude.{⊤, is_none, is_some, option_and_then, option_map, if◌then◌else◌}
use Rattle.std.proofs.lemmas.Bool.{eqb-true}
use Rattle.c_lexer.specs.declared.Tokens.{Tokens}
use Rattle.c_lexer.specs.Cut.{IsTokens}
use Rattle.c_grammar.specs.declared.trees.Tree.{Tree}
use Rattle.c_grammar.specs.Productions.{p_external, p_rest, p_declaration, p_parameter, p_block}
use Rattle.c_grammar.specs.Words.{word_extern}
use Rattle.c_scope.specs.declared.kinds.Declared.{Declared as Declaration}
use Rattle.c_scope.specs.declared.kinds.Kind.{Kind}
use Rattle.c_scope.specs.declared.kinds.Kind.TheVariants.{Linked}
use Rattle.c_parser.specs.c_units.Units.{IsUnit}
use Rattle.c_types.specs.Trees.{Ctype, FunctionFrom}
use Rattle.core_tree.specs.declared.node.Linkage.{Linkage}
use Rattle.core_tree.specs.declared.node.Linkage.TheVariants.{External, Internal, Local}
use Rattle.core_tree.specs.declared.node.Storage.{Storage}
use Rattle.core_tree.specs.declared.node.Storage.TheVariants.{Static, Automatic, FunctionBody, Parameter, Declared}
use Rattle.c_consts.specs.Core.{Core}
use Rattle.c_senses.specs.Names.{source_of, numbered, ordinary_at, names_type, is_linked_kind, is_typedef_kind}
use Rattle.c_senses.specs.Tree.{Source, is_a, child_of, children_at, all_where}
use Rattle.c_senses.specs.Sense.{Sense, IsCore, sense_in}
use Rattle.c_senses.specs.Rows.{AreSenses}
use Rattle.c_senses.specs.Entities.{keep, first_of, internal_among, is_typedef, is_internal, is_linked, is_defined, is_parameter, is_static_object, declares_function, has_storage, storage_of, linkage_of, entity_of, initialiser_for, own_type, all_together, types_of}
use Rattle.c_senses.specs.Right.{Declared as Declares, core_of_sense, block_for, body_at, of_internal, is_definition_at, is_tentative, with_one, representative, storage_at, declared_as, declared_name, declares_entity, is_declaring, is_defined_parameter, stands_in_declaration, entity_type, internal_type}
use Rattle.declaration_laws.specs.function_laws.passed.definition_laws.scope_laws.Scoped.{IsPart}
use Rattle.core_node_laws.proofs.standing_laws.Climbing.{in_list}
use Rattle.core_node_laws.proofs.standing_laws.Bodies.{found_part}
use Rattle.declaration_laws.proofs.function_laws.body_returns.Body.{two_counted}
use Rattle.parsed_tree_laws.specs.counted_parts.Counted.{is_ending}
use Rattle.parsed_tree_laws.proofs.counted_parts.Read.{parts_are_counted}
use Rattle.declaration_laws.specs.function_laws.passed.definition_laws.Definitions.{is_definition}
use Rattle.declaration_laws.specs.function_laws.passed.definition_laws.function_definitions.Defined.{Defines}
use Rattle.declaration_laws.proofs.function_laws.passed.definition_laws.function_definitions.Reading.{definitions_declare}
use Rattle.declaration_laws.proofs.function_laws.passed.definition_laws.linkage_laws.Seen.{apart}
use Rattle.declaration_laws.proofs.function_laws.passed.definition_laws.linkage_laws.Linked as linked
use Rattle.declaration_laws.proofs.function_laws.passed.definition_laws.linkage_laws.Reading.{tree_is}
use Rattle.declaration_laws.proofs.function_laws.passed.definition_laws.linkage_laws.Unlinked.{all_internal}
use Rattle.parsed_tree_laws.proofs.grown_parts.Reading.{units_bring}
use Rattle.declaration_laws.proofs.name_order.Ordered.{units_ordered}
use Rattle.declaration_laws.proofs.declared_type_laws.passed.owner_laws.Whole.{grown_of}
use Rattle.valid_unit_laws.specs.object_initialiser_laws.passed.internal_name_laws.representative_names.Representatives.{IsKnown}
use Rattle.valid_unit_laws.proofs.object_initialiser_laws.passed.internal_name_laws.representative_names.Declaring.{linked_declares}
use Rattle.valid_unit_laws.proofs.object_initialiser_laws.passed.internal_name_laws.representative_names.Standing.{representatives_known}
use Rattle.declaration_laws.proofs.declared_type_laws.passed.owner_laws.internal_laws.Reading.{definitions_known}
use Rattle.valid_unit_laws.proofs.body_node_laws.own_initials.Names.{both}

or_left : (a b : Bool) → a ≡ true → (a || b) ≡ true
or_left true b e = refl
or_left false b e = cc

or_right : (a b : Bool) → b ≡ true → (a || b) ≡ true
or_right true b e = refl
or_right false b e = e

both_true : (a b : Bool) → a ≡ true → b ≡ true → (a && b) ≡ true
both_true true true e f = refl
both_true true false e f = cc
both_true false b e f = cc

decide : (x y : ℕ) → (x ≡ y) ⊎ (x ≡ y → ⊥)
decide x y = by (nat_eq x y) refl
  where
    same_is : (x : ℕ) → nat_eq x x ≡ true
    same_is x = grind (arith)

    by : (b : Bool) → nat_eq x y ≡ b → (x ≡ y) ⊎ (x ≡ y → ⊥)
    by true e = inl (eqb-true x y e)
    by false e = inr (λ same. let t : nat_eq x x ≡ false = subst (λ (z : ℕ). nat_eq x z ≡ false) (sym same) e in let u : nat_eq x x ≡ true = same_is x in cc)

only_one : (test : ℕ → Bool) (ks : List ℕ) (j k x y : ℕ) → length (all_where test ks) ≤ 1 → slice_get ks j ≡ Some x → slice_get ks k ≡ Some y → test x ≡ true → test y ≡ true → x ≡ y
only_one test ks j k x y few e f h i = by (decide x y)
  where
    by : (x ≡ y) ⊎ (x ≡ y → ⊥) → x ≡ y
    by (inl same) = same
    by (inr differ) = let two = two_counted test ks j k x y e f h i differ in absurd (omega (arith, two, few))

no_local : (a c : Bool) → c ≡ true → (if a then Internal else (if c then External else Local)) ≡ Local → ⊥
no_local true c e k = cc
no_local false true e k = cc
no_local false false e k = cc

not_internal : (a c : Bool) → (if a then Internal else (if c then External else Local)) ≡ External → a ≡ false
not_internal true c e = cc
not_internal false c e = refl

internal_one : (a c : Bool) → (if a then Internal else (if c then External else Local)) ≡ Internal → a ≡ true
internal_one true c e = refl
internal_one false true e = cc
internal_one false false e = cc

module _ (tokens : Tokens) (unit : ℕ) (tree : Tree) (tag_number : ℕ → ℕ) (senses : List Sense) (cut : IsTokens tokens.text.now tokens.list.items) (read : IsUnit tokens unit tree)
    (are : AreSenses (numbered tag_number (source_of tokens tree)) senses) (whole : length senses ≡ length (numbered tag_number (source_of tokens tree)).nodes)
  where
    abbrev s : Source
    s = numbered tag_number (source_of tokens tree)

    abbrev sense : ℕ → Sense
    sense i = sense_in senses i

    abbrev t : linked.Tree s
    t = tree_is tokens unit tree read tag_number

    abbrev AllInternal : List Declaration → Type 0
    AllInternal [] = ⊤
    AllInternal (d ∷ ds) = (is_internal s sense d.node ≡ true) × AllInternal ds

    -- a function whose body it is
    pub record IsBodyOf (core : Core) : Type 0 where
      pub function : ℕ
      pub what : Declares
      pub declares : declared_name s senses function ≡ Some what
      pub storage : what.storage ≡ FunctionBody
      pub body : what.body ≡ Some core

    -- a linked name by which its entity is known declares it
    linked_entity : (e : ℕ) → is_linked s sense e ≡ true → entity_of s sense e ≡ e → declares_entity s senses e ≡ true
    linked_entity e is own = by (linked.linked_named s t senses are whole e is)
      where
        by : (y : Declaration) × (ordinary_at s e ≡ Some y) × (y.kind ≡ Linked) × linked.Named s t e y → declares_entity s senses e ≡ true
        by (y, at, kind, n) =
            let declaring = linked_declares s senses are whole (grown_of tokens unit tree tag_number cut read) t.grown (units_bring tokens unit tree tag_number read) (units_ordered tokens unit tree tag_number cut read) e y at (ap is_linked_kind kind) in
            let stands : stands_in_declaration s senses e ≡ true =
            ap (λ (o : Option ℕ). elim o as (λ _. Bool) [ None ↦ false | Some p ↦ is_a s p_external p || (is_a s p_declaration p || (is_a s p_parameter p && is_defined_parameter s senses e)) ]) (linked.declaration_is s t senses are whole e y n) ∙ placed n.at.declaration n.at.is in
            let typed : not (is_typedef s sense e) ≡ true = ap (λ (o : Option Declaration). not (elim o as (λ _. Bool) [ None ↦ false | Some d ↦ names_type d ])) at ∙ ap (λ (k : Kind). not (is_typedef_kind k)) kind in
            both_true (is_declaring s senses e) _ declaring (both_true (stands_in_declaration s senses e) _ stands (both_true (not (is_typedef s sense e)) _ typed (eq-eqb (entity_of s sense e) e own)))
          where
            placed : (p : ℕ) → (is_a s p_external p ≡ true) ⊎ (is_a s p_declaration p ≡ true) → (is_a s p_external p || (is_a s p_declaration p || (is_a s p_parameter p && is_defined_parameter s senses e))) ≡ true
            placed p (inl h) = or_left (is_a s p_external p) _ h
            placed p (inr h) = or_right (is_a s p_external p) _ (or_left (is_a s p_declaration p) _ h)

    -- a block of a definition is the one
    block_is : (p block : ℕ) → is_definition s p ≡ true → IsPart s p block → is_a s p_block block ≡ true → child_of s p_block p ≡ Some block
    block_is p block definition part is_block = by (child_of s p_block p) refl (both (is_a s p_external p) (is_some (child_of s p_block p)) definition).1
      where
        by : (o : Option ℕ) → child_of s p_block p ≡ o → is_some o ≡ true → o ≡ Some block
        by None e h = cc
        by (Some c) e h =
            let found = found_part (is_a s p_block) (children_at s p) c e in
            let at = in_list (children_at s p) block part in
            let few = (parts_are_counted tokens unit tree tag_number read).endings p (both (is_a s p_external p) (is_some (child_of s p_block p)) definition).0 in
            ap (λ (k : ℕ). Some k) (only_one (is_ending s) (children_at s p) found.0.0 at.0 c block few found.0.1 at.1 (or_left (is_a s p_block c) (is_a s p_rest c) found.1) (or_left (is_a s p_block block) (is_a s p_rest block) is_block))

    module _ (p block : ℕ) (core : Core) (definition : is_definition s p ≡ true) (part : IsPart s p block) (is_block : is_a s p_block block ≡ true) (sensed : sense block ≡ IsCore core) where
      pub child : child_of s p_block p ≡ Some block
      child = block_is p block definition part is_block

      h : Defines s senses p
      h = definitions_declare tokens unit tree tag_number senses p cut read are whole definition

      defined : is_defined s sense h.name ≡ true
      defined = ap (λ (x : Option ℕ). elim x as (λ _. Bool) [ None ↦ false | Some q ↦ is_a s p_external q && is_some (child_of s p_block q) ]) h.declaration ∙ definition

      no_parameter : is_parameter s sense h.name ≡ false
      no_parameter =
          ap (λ (x : Option ℕ). elim x as (λ _. Bool) [ None ↦ false | Some q ↦ is_a s p_parameter q ]) h.declaration
          ∙ apart s p p_external p_parameter (both (is_a s p_external p) (is_some (child_of s p_block p)) definition).0 refl

      body_storage : storage_of s sense h.name ≡ FunctionBody
      body_storage = by (is_parameter s sense h.name) (declares_function s sense h.name) (is_defined s sense h.name) (has_storage s sense word_extern h.name && is_none (initialiser_for s sense h.name)) (is_static_object s sense h.name) no_parameter h.function defined
        where
          by : (a x z e u : Bool) → a ≡ false → x ≡ true → z ≡ true → (if a then Parameter else if x then (if z then FunctionBody else Declared) else if e then Declared else if u then Static else Automatic) ≡ FunctionBody
          by true x z e u f g k = cc
          by false false z e u f g k = cc
          by false true false e u f g k = cc
          by false true true e u f g k = refl

      own_body : body_at s senses h.name ≡ Some core
      own_body =
          ap (λ (d : Bool). if d then option_and_then (λ b. core_of_sense s senses (sense b)) (block_for s senses h.name) else option_and_then (λ i. core_of_sense s senses (sense i)) (initialiser_for s sense h.name)) defined
          ∙ (ap (λ (o : Option ℕ). option_and_then (λ b. core_of_sense s senses (sense b)) (option_and_then (child_of s p_block) o)) h.declaration
          ∙ (ap (λ (o : Option ℕ). option_and_then (λ b. core_of_sense s senses (sense b)) o) child ∙ ap (core_of_sense s senses) sensed))

      finish : (e : ℕ) → is_linked s sense e ≡ true → entity_of s sense e ≡ e → entity_type s senses e ≡ own_type s sense h.name → storage_at s senses e ≡ FunctionBody → representative s senses e ≡ h.name → IsBodyOf core
      finish e is own type storage known = record {
        function = e;
        what = declared_as s senses e (FunctionFrom h.result h.parameters h.form);
        declares =
            ap (λ (b : Bool). if b then option_map (declared_as s senses e) (entity_type s senses e) else None) (linked_entity e is own)
            ∙ ap (option_map (declared_as s senses e)) (type ∙ h.type);
        storage = storage;
        body = ap (body_at s senses) known ∙ own_body;
      }

      abbrev chosen : ℕ → Linkage → ℕ
      chosen d linkage =
          elim linkage [
            | Internal ↦ first_of s sense (first_of s sense d (keep s sense (is_tentative s senses) (of_internal s senses d))) (keep s sense (is_definition_at s senses) (of_internal s senses d))
            | _ ↦ d
          ]

      abbrev typed : ℕ → Linkage → Option Ctype
      typed d linkage = elim linkage [ Internal ↦ internal_type s senses d | _ ↦ own_type s sense d ]

      abbrev shown : ℕ → Storage → Storage
      shown d x = elim x [ Declared ↦ if declares_function s sense d then Declared else Static | other ↦ other ]

      abbrev stored : ℕ → Linkage → Storage
      stored d linkage = elim linkage [ Internal ↦ shown d (storage_of s sense (representative s senses d)) | _ ↦ storage_of s sense d ]

      entity_internal : is_internal s sense h.name ≡ true → is_internal s sense (entity_of s sense h.name) ≡ true
      entity_internal own = pick (is_internal s sense h.name) own
        where
          first : (ds : List Declaration) → AllInternal ds → is_internal s sense (first_of s sense h.name ds) ≡ true
          first [] a = own
          first (d ∷ ds) a = a.0

          pick : (a : Bool) → a ≡ true → is_internal s sense (if a then first_of s sense h.name (internal_among s sense s.declared.ordinary (ordinary_at s h.name)) else h.name) ≡ true
          pick true e = first (of_internal s senses h.name) (all_internal s senses (λ l k. linked.stands_linked s t senses are whole l k) h.name)
          pick false e = own

      pub function_of : IsBodyOf core
      function_of = by (linkage_of s sense h.name) refl
        where
          by : (l : Linkage) → linkage_of s sense h.name ≡ l → IsBodyOf core
          by Local e = absurd (no_local (is_internal s sense h.name) (is_linked s sense h.name) h.linked e)
          by External e =
              let none = not_internal (is_internal s sense h.name) (is_linked s sense h.name) e in
              let same : entity_of s sense h.name ≡ h.name = ap (λ (a : Bool). if a then first_of s sense h.name (internal_among s sense s.declared.ordinary (ordinary_at s h.name)) else h.name) none in
              finish h.name h.linked same (ap (typed h.name) e) (ap (stored h.name) e ∙ body_storage) (ap (chosen h.name) e)
          by Internal e =
              let own = internal_one (is_internal s sense h.name) (is_linked s sense h.name) e in
              let d = entity_of s sense h.name in
              let inside = entity_internal own in
              let linkage : linkage_of s sense d ≡ Internal = ap (λ (a : Bool). if a then Internal else (if is_linked s sense d then External else Local)) inside in
              let known : representative s senses d ≡ h.name = definitions_known tokens unit tree tag_number senses cut read are whole p definition h own in
              let one : IsKnown s senses d = representatives_known tokens unit tree tag_number senses cut read are whole d inside in
              finish d (both (is_linked s sense d) _ inside).0 (sym one.entity ∙ ap (entity_of s sense) known)
              (ap (typed d) linkage
              ∙ (ap (λ (r : ℕ). if is_defined s sense r then own_type s sense r else option_map (with_one s senses) (all_together None (types_of s sense (of_internal s senses d)))) known
              ∙ ap (λ (a : Bool). if a then own_type s sense h.name else option_map (with_one s senses) (all_together None (types_of s sense (of_internal s senses d)))) defined))
              (ap (stored d) linkage ∙ ap (shown d) (ap (storage_of s sense) known ∙ body_storage)) known
