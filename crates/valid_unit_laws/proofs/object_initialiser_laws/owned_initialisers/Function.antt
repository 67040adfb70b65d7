-- The body of the function that a definition defines stands by the definition's block.
use Rattle.std.proofs.Common.{arith, ◌≡◌, ◌≤◌, ℕ, nat_eq, ◌&&◌, ◌||◌, Bool, true, false, List, Option, Some, None, length, slice_get, refl, sym, ap, ◌∙◌, subst, ◌⊎◌, inl, inr}
use Rattle.std.specs.Prelude.{is_some, option_and_then, option_map, if◌then◌else◌}
use Rattle.std.proofs.lemmas.Bool.{eqb-true}
use Rattle.c_lexer.specs.declared.Tokens.{Tokens}
use Rattle.c_lexer.specs.Cut.{IsTokens}
use Rattle.c_grammar.specs.declared.trees.Tree.{Tree}
use Rattle.c_grammar.specs.Productions.{p_external, p_rest, p_block}
use Rattle.c_parser.specs.c_units.Units.{IsUnit}
use Rattle.c_types.specs.Trees.{Ctype}
use Rattle.core_tree.specs.declared.node.Unit.{Unit}
use Rattle.core_tree.specs.declared.node.Entity.{Entity}
use Rattle.core_tree.specs.declared.node.Linkage.{Linkage}
use Rattle.core_tree.specs.declared.node.Linkage.TheVariants.{External, Internal, Local}
use Rattle.core_tree.specs.declared.node.Storage.TheVariants.{Static, Automatic, FunctionBody}
use Rattle.core_tree.specs.Typed.{trees_of}
use Rattle.core_tree.specs.Range.{entity_at}
use Rattle.c_consts.specs.Core.{Core}
use Rattle.c_senses.specs.Names.{source_of, numbered, ordinary_at}
use Rattle.c_senses.specs.Tree.{Source, children_at, is_a, child_of, all_where}
use Rattle.c_senses.specs.Sense.{Sense, IsCore, sense_in}
use Rattle.c_senses.specs.Entities.{keep, first_of, internal_among, is_internal, is_linked, is_defined, linkage_of, entity_of, initialiser_for, function_around}
use Rattle.c_senses.specs.Right.{StandsBy, SameBody, Declared as Declares, IsDeclaredAt, core_of_sense, block_for, body_at, of_internal, is_definition_at, is_tentative, representative, declared_as, declares_entity, entity_type}
use Rattle.declaration_laws.specs.declared_type_laws.owner_laws.passed.definition_laws.scope_laws.Scoped.{IsPart}
use Rattle.core_node_laws.proofs.standing_laws.Climbing.{in_list}
use Rattle.core_node_laws.proofs.standing_laws.Bodies.{found_part}
use Rattle.valid_unit_laws.proofs.object_initialiser_laws.internal_name_laws.passed.function_laws.body_returns.Body.{two_counted}
use Rattle.parsed_tree_laws.specs.counted_parts.Counted.{CountedParts, is_ending}
use Rattle.parsed_tree_laws.proofs.counted_parts.Read.{parts_are_counted}
use Rattle.declaration_laws.specs.declared_type_laws.owner_laws.passed.definition_laws.Definitions.{is_definition}
use Rattle.declaration_laws.specs.declared_type_laws.owner_laws.passed.definition_laws.function_definitions.Defined.{Defines}
use Rattle.core_node_laws.specs.built_unit_laws.built_units.Built.{IsBuilt}
use Rattle.declaration_laws.proofs.declared_type_laws.owner_laws.passed.definition_laws.linkage_laws.Unlinked.{Made, made}
use Rattle.declaration_laws.specs.declared_type_laws.owner_laws.owned_laws.Owned.{InternalsDefined}
use Rattle.declaration_laws.proofs.declared_type_laws.owner_laws.internal_laws.Reading.{definitions_known}

pub some_same : {A : Type 0} → {x y : A} → ◌≡◌ {A = Option A} (Some x) (Some y) → x ≡ y
some_same e = cc

pub both : (a b : Bool) → (a && b) ≡ true → (a ≡ true) × (b ≡ true)
both true true e = (refl, refl)
both true false e = cc
both false b e = cc

or_left : (a b : Bool) → a ≡ true → (a || b) ≡ true
or_left true b e = refl
or_left false b e = cc

decide : (x y : ℕ) → (x ≡ y) ⊎ (x ≡ y → ⊥)
decide x y = by (nat_eq x y) refl
  where
    same_is : (x : ℕ) → nat_eq x x ≡ true
    same_is x = grind (arith)

    by : (b : Bool) → nat_eq x y ≡ b → (x ≡ y) ⊎ (x ≡ y → ⊥)
    by true e = inl (eqb-true x y e)
    by false e = inr (λ same. let t : nat_eq x x ≡ false = subst (λ (z : ℕ). nat_eq x z ≡ false) (sym same) e in let u : nat_eq x x ≡ true = same_is x in cc)

only_one : (test : ℕ → Bool) (ks : List ℕ) (j k x y : ℕ) → length (all_where test ks) ≤ 1 → slice_get ks j ≡ Some x → slice_get ks k ≡ Some y → test x ≡ true → test y ≡ true → x ≡ y
only_one test ks j k x y few e f h i = by (decide x y)
  where
    by : (x ≡ y) ⊎ (x ≡ y → ⊥) → x ≡ y
    by (inl same) = same
    by (inr differ) = let two = two_counted test ks j k x y e f h i differ in absurd (omega (arith, two, few))

no_local : (a c : Bool) → c ≡ true → (if a then Internal else (if c then External else Local)) ≡ Local → ⊥
no_local true c e k = cc
no_local false true e k = cc
no_local false false e k = cc

not_internal : (a c : Bool) → (if a then Internal else (if c then External else Local)) ≡ External → a ≡ false
not_internal true c e = cc
not_internal false c e = refl

internal_one : (a c : Bool) → (if a then Internal else (if c then External else Local)) ≡ Internal → a ≡ true
internal_one true c e = refl
internal_one false true e = cc
internal_one false false e = cc

module _
    (tokens : Tokens) (unit : ℕ) (tree : Tree) (tag_number : ℕ → ℕ) (name : List ℕ) (u : Unit) (cut : IsTokens tokens.text.now tokens.list.items) (is : IsUnit tokens unit tree)
    (built : IsBuilt (numbered tag_number (source_of tokens tree)) name u)
  where
    abbrev s : Source
    s = numbered tag_number (source_of tokens tree)

    abbrev senses : List Sense
    senses = built.senses

    abbrev sense : ℕ → Sense
    sense i = sense_in built.senses i

    internals : InternalsDefined s senses
    internals = definitions_known tokens unit tree tag_number senses cut is built.are_senses built.whole

    counted : CountedParts s
    counted = parts_are_counted tokens unit tree tag_number is

    abbrev chosen : ℕ → Linkage → ℕ
    chosen d linkage =
        elim linkage [
          | Internal ↦ first_of s sense (first_of s sense d (keep s sense (is_tentative s senses) (of_internal s senses d))) (keep s sense (is_definition_at s senses) (of_internal s senses d))
          | _ ↦ d
        ]

    -- the entity of a function that is defined is known by the definition
    known_by : (p : ℕ) → is_definition s p ≡ true → (h : Defines s senses p) → representative s senses (entity_of s sense h.name) ≡ h.name
    known_by p definition h = by (linkage_of s sense h.name) refl
      where
        by : (l : Linkage) → linkage_of s sense h.name ≡ l → representative s senses (entity_of s sense h.name) ≡ h.name
        by Local e = absurd (no_local (is_internal s sense h.name) (is_linked s sense h.name) h.linked e)
        by Internal e = internals p definition h (internal_one (is_internal s sense h.name) (is_linked s sense h.name) e)
        by External e =
            let none = not_internal (is_internal s sense h.name) (is_linked s sense h.name) e in
            let same : entity_of s sense h.name ≡ h.name = ap (λ (a : Bool). if a then first_of s sense h.name (internal_among s sense s.declared.ordinary (ordinary_at s h.name)) else h.name) none in
            ap (representative s senses) same ∙ ap (chosen h.name) e

    -- a block of a definition is the one
    block_is : (p block : ℕ) → is_definition s p ≡ true → IsPart s p block → is_a s p_block block ≡ true → child_of s p_block p ≡ Some block
    block_is p block definition part is_block = by (child_of s p_block p) refl (both (is_a s p_external p) (is_some (child_of s p_block p)) definition).1
      where
        by : (o : Option ℕ) → child_of s p_block p ≡ o → is_some o ≡ true → o ≡ Some block
        by None e h = cc
        by (Some c) e h =
            let found = found_part (is_a s p_block) (children_at s p) c e in
            let at = in_list (children_at s p) block part in
            let few = counted.endings p (both (is_a s p_external p) (is_some (child_of s p_block p)) definition).0 in
            ap (λ (k : ℕ). Some k) (only_one (is_ending s) (children_at s p) found.0.0 at.0 c block few found.0.1 at.1 (or_left (is_a s p_block c) (is_a s p_rest c) found.1) (or_left (is_a s p_block block) (is_a s p_rest block) is_block))

    -- a body that stands by a tree
    pub record TopOf (entity : Entity) (core : Core) : Type 0 where
      pub top : ℕ
      pub body : entity.body ≡ Some top
      pub stands : StandsBy built.numbering u top core

    top_of : (entity : Entity) (core : Core) (o : Option ℕ) → entity.body ≡ o → SameBody built.numbering u (Some core) o → TopOf entity core
    top_of entity core None e h = absurd h
    top_of entity core (Some top) e h = record { top = top; body = e; stands = h }

    module _ (p block f : ℕ) (core : Core) (entity : Entity) (definition : is_definition s p ≡ true) (h : Defines s senses p) (part : IsPart s p block) (is_block : is_a s p_block block ≡ true) (sensed : sense block ≡ IsCore core)
        (number : built.numbering (entity_of s sense h.name) ≡ Some f) (at : entity_at (trees_of u) f ≡ Some entity) (storage : entity.storage ≡ FunctionBody) where
      m : Made s name u built f entity
      m = made s name u built f entity at

      defined : is_defined s sense h.name ≡ true
      defined = ap (λ (x : Option ℕ). elim x as (λ _. Bool) [ None ↦ false | Some q ↦ is_a s p_external q && is_some (child_of s p_block q) ]) h.declaration ∙ definition

      own_body : body_at s senses (representative s senses m.leaf) ≡ Some core
      own_body =
          let leaf : m.leaf ≡ entity_of s sense h.name = built.entity_once m.leaf (entity_of s sense h.name) f m.number number in
          ap (body_at s senses) (ap (representative s senses) leaf ∙ known_by p definition h)
          ∙ (ap (λ (d : Bool). if d then option_and_then (λ b. core_of_sense s senses (sense b)) (block_for s senses h.name) else option_and_then (λ i. core_of_sense s senses (sense i)) (initialiser_for s sense h.name)) defined
          ∙ (ap (λ (o : Option ℕ). option_and_then (λ b. core_of_sense s senses (sense b)) (option_and_then (child_of s p_block) o)) h.declaration
          ∙ (ap (λ (o : Option ℕ). option_and_then (λ b. core_of_sense s senses (sense b)) o) (block_is p block definition part is_block) ∙ ap (core_of_sense s senses) sensed)))

      no_literal : (b : Bool) → (if b then Automatic else Static) ≡ FunctionBody → ⊥
      no_literal true e = cc
      no_literal false e = cc

      declared_body : (what : Declares) → IsDeclaredAt s senses m.leaf what → what.storage ≡ FunctionBody → what.body ≡ Some core
      declared_body what (inr (c, literal, same)) stored = absurd (no_literal (is_some (function_around s sense m.leaf)) (ap (λ (x : Declares). x.storage) (sym same) ∙ stored))
      declared_body what (inl told) stored = pick (declares_entity s senses m.leaf) (entity_type s senses m.leaf) told
        where
          pick : (a : Bool) (t : Option Ctype) → (if a then option_map (declared_as s senses m.leaf) t else None) ≡ Some what → what.body ≡ Some core
          pick false t e = cc
          pick true None e = cc
          pick true (Some t) e = let same : declared_as s senses m.leaf t ≡ what = some_same e in ap (λ (x : Declares). x.body) (sym same) ∙ own_body

      -- the function's body stands by the block
      pub function_top : TopOf entity core
      function_top = top_of entity core entity.body refl (subst (λ (o : Option Core). SameBody built.numbering u o entity.body) (declared_body m.what m.declared (sym m.is.storage ∙ storage)) m.is.body)
