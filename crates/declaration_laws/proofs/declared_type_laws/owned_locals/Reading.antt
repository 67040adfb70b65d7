-- What has no linkage in the units that are built of texts.
use Rattle.std.proofs.Common.{arith, ◌≡◌, ℕ, zero, suc, ◌||◌, ◌&&◌, not, Bool, true, false, List, [], ◌∷◌, slice_get, Option, Some, None, refl, sym, ap, ◌∙◌, subst, inl, inr, length}
use Rattle.std.specs.Prelude.{◌<◌, IfSome, option_and_then, option_map, is_none, is_some, if◌then◌else◌}
use Rattle.c_types.specs.Trees.{Ctype}
use Rattle.c_grammar.specs.Productions.{p_external, p_declaration, p_parameter, p_block}
use Rattle.c_grammar.specs.Words.{word_extern}
use Rattle.core_tree.specs.declared.node.Unit.{Unit}
use Rattle.c_lexer.specs.declared.Tokens.{Tokens}
use Rattle.c_lexer.specs.Cut.{IsTokens}
use Rattle.c_grammar.specs.declared.trees.Tree.{Tree as SyntaxTree}
use Rattle.c_parser.specs.c_units.Units.{IsUnit}
use Rattle.core_tree.specs.declared.node.Entity.{Entity}
use Rattle.core_tree.specs.Typed.{trees_of}
use Rattle.core_tree.specs.Range.{entity_at}
use Rattle.core_tree.specs.declared.node.Linkage.{Linkage}
use Rattle.core_tree.specs.declared.node.Linkage.TheVariants.{External, Internal, Local}
use Rattle.core_tree.specs.declared.node.Storage.{Storage}
use Rattle.core_tree.specs.declared.node.Storage.TheVariants.{Automatic, Declared as DeclaredStorage, FunctionBody, Parameter, Static}
use Rattle.c_senses.specs.Tree.{Source, is_a, is_name, child_of}
use Rattle.c_senses.specs.Names.{source_of, numbered}
use Rattle.c_senses.specs.Sense.{Sense, sense_in}
use Rattle.c_senses.specs.Entities.{declaration_of, is_linked, is_internal, is_typedef, is_parameter, is_defined, is_static_object, has_storage, initialiser_for, declares_function, storage_of, linkage_of, entity_of, function_around, defined_name}
use Rattle.c_senses.specs.Right.{Numbering, Right, SameOwner, Declared as Declares, IsDeclaredAt, is_declaring, stands_in_declaration, is_defined_parameter, declares_entity, declared_as, entity_type, storage_at, representative}
use Rattle.core_node_laws.proofs.count_laws.passed.parsed_tree_laws.span_laws.Whole.{units_are_spanned}
use Rattle.core_node_laws.proofs.count_laws.passed.parsed_tree_laws.sign_parts.Reading as sign_parts
use Rattle.core_node_laws.proofs.count_laws.passed.parsed_tree_laws.grown_parts.Reading.{units_bring}
use Rattle.declaration_laws.specs.declared_type_laws.owner_laws.passed.definition_laws.Definitions.{is_definition, HasDefinition}
use Rattle.declaration_laws.proofs.declared_type_laws.owner_laws.passed.definition_laws.Locals.{locals}
use Rattle.declaration_laws.specs.declared_type_laws.owner_laws.passed.definition_laws.linkage_laws.Linked.{StandsLinked}
use Rattle.declaration_laws.proofs.declared_type_laws.owner_laws.passed.definition_laws.linkage_laws.Linked as linked
use Rattle.declaration_laws.proofs.declared_type_laws.owner_laws.passed.definition_laws.linkage_laws.Reading.{tree_is}
use Rattle.core_node_laws.proofs.built_unit_laws.built_laws.Placed.{made as built_made}
use Rattle.declaration_laws.specs.declared_type_laws.owner_laws.passed.definition_laws.function_definitions.Defined.{Defines}
use Rattle.declaration_laws.proofs.declared_type_laws.owner_laws.passed.definition_laws.function_definitions.Reading.{definitions_declare}
use Rattle.declaration_laws.specs.declared_type_laws.owner_laws.owned_laws.Owned.{InternalsDefined}
use Rattle.declaration_laws.proofs.declared_type_laws.owner_laws.internal_laws.Reading.{definitions_known}
use Rattle.declaration_laws.proofs.declared_type_laws.seen_onward.Reading.{shape}
use Rattle.core_node_laws.specs.count_laws.passed.location_laws.named_laws.Units.{IsLocalOf, HasFunction}
use Rattle.declaration_laws.specs.declared_type_laws.owned_locals.Locals.{FileNamesLinked, LocalsOwned, RightLocalsOwned, RightBodiesLinked}
use Rattle.declaration_laws.specs.declared_type_laws.owned_locals.Numbers.{AreNumbered}
use Rattle.declaration_laws.proofs.declared_type_laws.owned_locals.Owning.{IsMade, made, around_defines, owner_is}
use Rattle.declaration_laws.proofs.declared_type_laws.owned_locals.File.{file_linked}
use Rattle.declaration_laws.proofs.declared_type_laws.owned_locals.Literals.{has_literal}

-- an element that is there
slice_get_some : {A : Type 0} → (xs : List A) (k : ℕ) → k < length xs → (x : A) × (slice_get xs k ≡ Some x)
slice_get_some [] k lt = absurd (omega (arith, lt))
slice_get_some (x ∷ xs) zero lt = (x, refl)
slice_get_some (x ∷ xs) (suc k) lt = slice_get_some xs k (omega (arith, lt))

none_some : {A : Type 0} → {x : A} → ◌≡◌ {A = Option A} None (Some x) → ⊥
none_some e = cc

some_same : {A : Type 0} → {x y : A} → ◌≡◌ {A = Option A} (Some x) (Some y) → x ≡ y
some_same e = cc

no_both : (b : Bool) → b ≡ true → b ≡ false → ⊥
no_both b e f = let both : true ≡ false = sym e ∙ f in cc

two : (a b : Bool) → (a && b) ≡ true → (a ≡ true) × (b ≡ true)
two true true e = (refl, refl)
two true false e = cc
two false b e = cc

pub file_names : FileNamesLinked
unfolding source_of
file_names tokens unit tree tag_number senses leaf p cut is are whole declares declaration external plain =
    let s = numbered tag_number (source_of tokens tree) in
    let t = tree_is tokens unit tree is tag_number in
    file_linked s t (shape s t (units_are_spanned tokens unit tree tag_number is) (sign_parts.units_bring tokens unit tree tag_number is)) (units_bring tokens unit tree tag_number is) senses are whole leaf p declares declaration external plain

module _ (s : Source) (senses : List Sense) (n : Numbering) (u : Unit) (b : AreNumbered s senses n u) (linked_stands : (leaf : ℕ) → is_linked s (sense_in senses) leaf ≡ true → StandsLinked s (sense_in senses) leaf) (defines : (d : ℕ) → is_definition s d ≡ true → Defines s senses d) (internals : InternalsDefined s senses)
    (named : (leaf : ℕ) → is_linked s (sense_in senses) leaf ≡ true → is_name s leaf ≡ true)
    (located : (leaf p : ℕ) → declaration_of s (sense_in senses) leaf ≡ Some p → is_a s p_external p ≡ false → stands_in_declaration s senses leaf ≡ true → HasDefinition s leaf)
    (outside : (leaf p : ℕ) → is_declaring s senses leaf ≡ true → declaration_of s (sense_in senses) leaf ≡ Some p → is_a s p_external p ≡ true → is_typedef s (sense_in senses) leaf ≡ false → is_linked s (sense_in senses) leaf ≡ true)
  where
    abbrev f : ℕ → Sense
    f = sense_in senses

    -- what has no linkage has a function around it
    record Inside (leaf : ℕ) : Type 0 where
      function : ℕ
      around : function_around s (sense_in senses) leaf ≡ Some function

    inside : (leaf : ℕ) → is_declaring s senses leaf ≡ true → stands_in_declaration s senses leaf ≡ true → is_typedef s f leaf ≡ false → linkage_of s f leaf ≡ Local → Inside leaf
    inside leaf declares stands plain local = by (declaration_of s f leaf) refl stands
      where
        not_linked : is_linked s f leaf ≡ true → ⊥
        not_linked e = pick (is_internal s f leaf) (is_linked s f leaf) e local
          where
            pick : (a c : Bool) → c ≡ true → (if a then Internal else (if c then External else Local)) ≡ Local → ⊥
            pick true c h k = cc
            pick false true h k = cc
            pick false false h k = cc

        by : (o : Option ℕ) → declaration_of s f leaf ≡ o → (elim o as (λ _. Bool) [ None ↦ false | Some p ↦ is_a s p_external p || (is_a s p_declaration p || (is_a s p_parameter p && is_defined_parameter s senses leaf)) ]) ≡ true → Inside leaf
        by None e h = absurd (cc)
        by (Some p) e h = which (is_a s p_external p) refl
          where
            which : (a : Bool) → is_a s p_external p ≡ a → Inside leaf
            which true external = absurd (not_linked (outside leaf p declares e external plain))
            which false other =
                let h2 = located leaf p e other stands in
                let d = defines h2.definition h2.is in
                record { function = d.name; around = ap (option_and_then (defined_name s f)) h2.nearest ∙ d.named }

    -- its owner
    function_of : (e : ℕ) (y : Entity) (leaf function : ℕ) → entity_at (trees_of u) e ≡ Some y → function_around s f leaf ≡ Some function → SameOwner n (Some (entity_of s f function)) y.owner → HasFunction u y
    function_of e y leaf function at around same = by y.owner refl same
      where
        entity_there : (k : ℕ) → k < length u.entities.items → (x : Entity) × (entity_at (trees_of u) k ≡ Some x)
        entity_there k lt = slice_get_some u.entities.items k lt

        by : (o : Option ℕ) → y.owner ≡ o → SameOwner n (Some (entity_of s f function)) o → HasFunction u y
        by None owner k = absurd k
        by (Some k) owner number =
            let x = entity_there k (b.owners e k y at owner) in
            let d = around_defines s senses n u b linked_stands internals named defines leaf function around in
            let o = owner_is s senses n u b linked_stands internals named d.0 d.2 d.1 k x.0 (subst (λ (g : ℕ). n (entity_of s f g) ≡ Some k) d.3 number) x.1 in
            record { function = k; owner = owner; entity = x.0; entity_is = x.1; body = o.storage; linked = o.linkage }

    by_name : (e : ℕ) (y : Entity) (leaf : ℕ) (what : Declares) → entity_at (trees_of u) e ≡ Some y → y.linkage ≡ Local → y.linkage ≡ what.linkage → SameOwner n what.owner y.owner → (a : Bool) → declares_entity s senses leaf ≡ a → (o : Option Ctype)
        → (if a then option_map (declared_as s senses leaf) o else None) ≡ Some what → HasFunction u y
    by_name e y leaf what at local linkage same false is o k = absurd (none_some k)
    by_name e y leaf what at local linkage same true is None k = absurd (none_some k)
    by_name e y leaf what at local linkage same true is (Some t) k =
        let told : declared_as s senses leaf t ≡ what = some_same k in
        let own : linkage_of s f leaf ≡ Local = ap (λ (x : Declares). x.linkage) told ∙ (sym linkage ∙ local) in
        let one = two (is_declaring s senses leaf) _ is in
        let other = two (stands_in_declaration s senses leaf) _ one.1 in
        let plain = no_type (is_typedef s f leaf) _ other.1 in
        let around = inside leaf one.0 other.0 plain own in
        let owner : what.owner ≡ Some (entity_of s f around.function) =
        sym (ap (λ (x : Declares). x.owner) told) ∙ (ap (λ (l : Linkage). elim l as (λ _. Option ℕ) [ Local ↦ option_map (entity_of s f) (function_around s f leaf) | _ ↦ None ]) own ∙ ap (option_map (entity_of s f)) around.around) in
        function_of e y leaf around.function at around.around (subst (λ (o : Option ℕ). SameOwner n o y.owner) owner same)
      where
        no_type : (a c : Bool) → (not a && c) ≡ true → a ≡ false
        no_type true c h = cc
        no_type false c h = refl

    pub owned : (e : ℕ) (y : Entity) → IsLocalOf u e y → HasFunction u y
    owned e y h = by (made s senses n u b e y h.entity)
      where
        by : IsMade s senses n u e y → HasFunction u y
        by m = pick m.declared
          where
            pick : IsDeclaredAt s senses m.leaf m.what → HasFunction u y
            pick (inr (c, literal, told)) = absurd (no_both _ (has_literal s senses n u b m.leaf e c literal m.number) h.plain)
            pick (inl told) = by_name e y m.leaf m.what h.entity h.local m.is.linkage m.is.owner (declares_entity s senses m.leaf) refl (entity_type s senses m.leaf) told

    -- what is defined as a function has linkage
    body_defined : (leaf : ℕ) → storage_of s f leaf ≡ FunctionBody → is_defined s f leaf ≡ true
    body_defined leaf = by (is_parameter s f leaf) (declares_function s f leaf) (is_defined s f leaf) (has_storage s f word_extern leaf && is_none (initialiser_for s f leaf)) (is_static_object s f leaf)
      where
        by : (p x z e t : Bool) → (if p then Parameter else if x then (if z then FunctionBody else DeclaredStorage) else if e then DeclaredStorage else if t then Static else Automatic) ≡ FunctionBody → z ≡ true
        by true x z e t h = cc
        by false true true e t h = refl
        by false true false e t h = cc
        by false false z true t h = cc
        by false false z false true h = cc
        by false false z false false h = cc

    linked_by_name : (e : ℕ) (y : Entity) (leaf : ℕ) (what : Declares) → y.storage ≡ FunctionBody → y.linkage ≡ Local → y.linkage ≡ what.linkage → y.storage ≡ what.storage → (a : Bool) → declares_entity s senses leaf ≡ a → (o : Option Ctype)
        → (if a then option_map (declared_as s senses leaf) o else None) ≡ Some what → ⊥
    linked_by_name e y leaf what body local linkage storage false is o k = none_some k
    linked_by_name e y leaf what body local linkage storage true is None k = none_some k
    linked_by_name e y leaf what body local linkage storage true is (Some t) k =
        let told : declared_as s senses leaf t ≡ what = some_same k in
        let own : linkage_of s f leaf ≡ Local = ap (λ (x : Declares). x.linkage) told ∙ (sym linkage ∙ local) in
        let at : storage_at s senses leaf ≡ FunctionBody = ap (λ (x : Declares). x.storage) told ∙ (sym storage ∙ body) in
        let plain_storage : storage_at s senses leaf ≡ storage_of s f leaf = ap (λ (l : Linkage). elim l as (λ _. Storage) [ Internal ↦ (elim (storage_of s f (representative s senses leaf)) as (λ _. Storage) [ DeclaredStorage ↦ if declares_function s f leaf then DeclaredStorage else Static | other ↦ other ]) | _ ↦ storage_of s f leaf ]) own in
        let one = two (is_declaring s senses leaf) _ is in
        let other = two (stands_in_declaration s senses leaf) _ one.1 in
        let plain = no_type (is_typedef s f leaf) _ other.1 in
        by_declaration leaf one.0 plain own (declaration_of s f leaf) refl (body_defined leaf (sym plain_storage ∙ at))
      where
        no_type : (a c : Bool) → (not a && c) ≡ true → a ≡ false
        no_type true c h = cc
        no_type false c h = refl

        not_local : (a c : Bool) → c ≡ true → (if a then Internal else (if c then External else Local)) ≡ Local → ⊥
        not_local true c h k = cc
        not_local false true h k = cc
        not_local false false h k = cc

        by_declaration : (leaf : ℕ) → is_declaring s senses leaf ≡ true → is_typedef s f leaf ≡ false → linkage_of s f leaf ≡ Local → (o : Option ℕ) → declaration_of s f leaf ≡ o
            → (elim o as (λ _. Bool) [ None ↦ false | Some p ↦ is_a s p_external p && is_some (child_of s p_block p) ]) ≡ true → ⊥
        by_declaration leaf declares plain local None e h = absurd (let never : false ≡ true = h in cc)
        by_declaration leaf declares plain local (Some p) e h = not_local (is_internal s f leaf) (is_linked s f leaf) (outside leaf p declares e (two (is_a s p_external p) _ h).0 plain) local

    pub body_linked : (e : ℕ) (y : Entity) → entity_at (trees_of u) e ≡ Some y → y.storage ≡ FunctionBody → y.linkage ≡ Local → ⊥
    body_linked e y at body local = by (made s senses n u b e y at)
      where
        no_body : (b : Bool) → (if b then Automatic else Static) ≡ FunctionBody → ⊥
        no_body true h = cc
        no_body false h = cc

        by : IsMade s senses n u e y → ⊥
        by m = pick m.declared
          where
            pick : IsDeclaredAt s senses m.leaf m.what → ⊥
            pick (inr (c, literal, told)) = no_body (is_some (function_around s f m.leaf)) (sym (ap (λ (x : Declares). x.storage) told) ∙ (sym m.is.storage ∙ body))
            pick (inl told) = linked_by_name e y m.leaf m.what body local m.is.linkage m.is.storage (declares_entity s senses m.leaf) refl (entity_type s senses m.leaf) told

-- in a text's unit
text_owned : (tokens : Tokens) (unit : ℕ) (tree : SyntaxTree) (tag_number : ℕ → ℕ) (senses : List Sense) (n : Numbering) (u : Unit) → IsTokens tokens.text.now tokens.list.items → IsUnit tokens unit tree
    → AreNumbered (numbered tag_number (source_of tokens tree)) senses n u → (e : ℕ) (y : Entity) → IsLocalOf u e y → HasFunction u y
text_owned tokens unit tree tag_number senses n u cut is b =
    let s = numbered tag_number (source_of tokens tree) in
    let t = tree_is tokens unit tree is tag_number in
    owned s senses n u b (λ leaf h. linked.stands_linked s t senses b.are_senses b.whole leaf h) (λ d h. definitions_declare tokens unit tree tag_number senses d cut is b.are_senses b.whole h) (definitions_known tokens unit tree tag_number senses cut is b.are_senses b.whole)
    (λ leaf h. (linked.linked_named s t senses b.are_senses b.whole leaf h).3.reached.named) (λ leaf p e other stands. locals tokens unit tree tag_number senses leaf p cut is e other stands)
    (λ leaf p declares declaration external plain. file_names tokens unit tree tag_number senses leaf p cut is b.are_senses b.whole declares declaration external plain)

text_linked : (tokens : Tokens) (unit : ℕ) (tree : SyntaxTree) (tag_number : ℕ → ℕ) (senses : List Sense) (n : Numbering) (u : Unit) → IsTokens tokens.text.now tokens.list.items → IsUnit tokens unit tree
    → AreNumbered (numbered tag_number (source_of tokens tree)) senses n u → (e : ℕ) (y : Entity) → entity_at (trees_of u) e ≡ Some y → y.storage ≡ FunctionBody → y.linkage ≡ Local → ⊥
text_linked tokens unit tree tag_number senses n u cut is b =
    let s = numbered tag_number (source_of tokens tree) in
    let t = tree_is tokens unit tree is tag_number in
    body_linked s senses n u b (λ leaf h. linked.stands_linked s t senses b.are_senses b.whole leaf h) (λ d h. definitions_declare tokens unit tree tag_number senses d cut is b.are_senses b.whole h) (definitions_known tokens unit tree tag_number senses cut is b.are_senses b.whole)
    (λ leaf h. (linked.linked_named s t senses b.are_senses b.whole leaf h).3.reached.named) (λ leaf p e other stands. locals tokens unit tree tag_number senses leaf p cut is e other stands)
    (λ leaf p declares declaration external plain. file_names tokens unit tree tag_number senses leaf p cut is b.are_senses b.whole declares declaration external plain)

pub locals_owned : LocalsOwned
locals_owned tokens unit tree tag_number name u cut is b =
    text_owned tokens unit tree tag_number b.senses b.numbering u cut is (record { are_senses = b.are_senses; whole = b.whole; once = b.entity_once; each = b.each_declared; other = b.no_other_entity; owners = λ e k entity at owner. owner_there e k entity at owner })
  where
    s : Source
    s = numbered tag_number (source_of tokens tree)

    same_there : (o : Option ℕ) (p : Option ℕ) (k : ℕ) → p ≡ Some k → SameOwner b.numbering o p → k < length u.entities.items
    same_there None None k e same = absurd (none_some e)
    same_there None (Some j) k e same = absurd same
    same_there (Some d) None k e same = absurd (none_some e)
    same_there (Some d) (Some j) k e same = subst (λ (x : ℕ). x < length u.entities.items) (some_same e) (b.numbered d j same)

    owner_there : (e k : ℕ) (entity : Entity) → entity_at (trees_of u) e ≡ Some entity → entity.owner ≡ Some k → k < length u.entities.items
    owner_there e k entity at owner =
        let m = built_made (numbered tag_number (source_of tokens tree)) name u b e entity at in same_there m.what.owner entity.owner k owner m.is.owner

-- a right unit's entities have numbers
right_numbered : (tokens : Tokens) (tree : SyntaxTree) (tag_number : ℕ → ℕ) (name : List ℕ) (u : Unit) (r : Right (numbered tag_number (source_of tokens tree)) name u) → AreNumbered (numbered tag_number (source_of tokens tree)) r.senses r.numbering u
right_numbered tokens tree tag_number name u r =
    record { are_senses = r.are_senses; whole = r.whole; once = r.entity_once; each = r.each_declared; other = r.no_other_entity; owners = λ e k entity at owner. in_range entity.owner k owner (r.valid.trees.in_range.owners e entity at) }
  where
    in_range : (o : Option ℕ) (k : ℕ) → o ≡ Some k → IfSome o (λ g. g < length u.entities.items) → k < length u.entities.items
    in_range None k e h = absurd (none_some e)
    in_range (Some j) k e h = subst (λ (x : ℕ). x < length u.entities.items) (some_same e) h

pub right_owned : RightLocalsOwned
right_owned tokens unit tree tag_number name u cut is r = text_owned tokens unit tree tag_number r.senses r.numbering u cut is (right_numbered tokens tree tag_number name u r)

pub right_linked : RightBodiesLinked
right_linked tokens unit tree tag_number name u cut is r e y at body =
    λ local. text_linked tokens unit tree tag_number r.senses r.numbering u cut is (right_numbered tokens tree tag_number name u r) e y at body local
