-- The body of a function is the tree of the block of its definition.
use Rattle.std.proofs.Common.{arith, ◌≡◌, ◌<◌, ℕ, ◌&&◌, Bool, true, false, List, Option, Some, None, length, slice_get, refl, sym, ap, ◌∙◌, subst, inl, inr}
use Rattle.std.specs.Prelude.{is_none, is_some, option_and_then, option_map, if◌then◌else◌}
use Rattle.std.proofs.lemmas.Option.{slice_get_within}
use Rattle.c_types.specs.Trees.{Ctype}
use Rattle.c_grammar.specs.Productions.{p_external, p_block}
use Rattle.c_grammar.specs.Terminals.{contains}
use Rattle.c_grammar.specs.Words.{word_extern}
use Rattle.core_tree.specs.declared.node.Unit.{Unit}
use Rattle.core_tree.specs.declared.node.Entity.{Entity}
use Rattle.core_tree.specs.declared.node.NodeKind.TheVariants.{Block}
use Rattle.core_tree.specs.declared.node.Linkage.{Linkage}
use Rattle.core_tree.specs.declared.node.Linkage.TheVariants.{External, Internal, Local}
use Rattle.core_tree.specs.declared.node.Storage.{Storage}
use Rattle.core_tree.specs.declared.node.Storage.TheVariants.{Static, Automatic, FunctionBody, Parameter, Declared}
use Rattle.core_tree.specs.Typed.{trees_of}
use Rattle.core_tree.specs.Range.{entity_at}
use Rattle.c_consts.specs.Core.{Core}
use Rattle.c_senses.specs.Tree.{Source, children_at, is_a, child_of, place_at}
use Rattle.c_senses.specs.Given.{Fits}
use Rattle.c_senses.specs.Sense.{Sense, IsCore, sense_in}
use Rattle.c_senses.specs.Statements.{statement, objects_in, cores_in}
use Rattle.c_senses.specs.Entities.{keep, first_of, entity_of, declares_function, initialiser_for, is_defined, is_parameter, is_static_object, declaration_of, has_storage, storage_of, linkage_of, function_around}
use Rattle.c_senses.specs.Right.{Numbering, StandsBy, SameBody, IsEntityOf, Declared as Declares, core_of_sense, block_for, body_at, of_internal, is_definition_at, is_tentative, representative, storage_at, declared_as, declares_entity, entity_type, IsDeclaredAt}
use Rattle.declaration_laws.specs.definition_laws.passed.built_unit_laws.parameter_bodies.PassedOn.{IsGrown, IsMade}
use Rattle.declaration_laws.proofs.definition_laws.passed.built_unit_laws.parameter_bodies.PassedOn.{child_inside, list_in}
use Rattle.declaration_laws.proofs.definition_laws.passed.built_unit_laws.parameter_bodies.PassedOn.{W, F, row_there, same_given}
use Rattle.declaration_laws.proofs.definition_laws.passed.built_unit_laws.parameter_bodies.PassedOn.{found_part}
use Rattle.declaration_laws.specs.declared_type_laws.owner_laws.Owners.{DefinitionsNamed}

pub some_same : {A : Type 0} → {x y : A} → ◌≡◌ {A = Option A} (Some x) (Some y) → x ≡ y
some_same e = cc

pub both : (a b : Bool) → (a && b) ≡ true → (a ≡ true) × (b ≡ true)
both true true e = (refl, refl)
both true false e = cc
both false b e = cc

-- an external declaration with a block
abbrev pub is_definition : Source → ℕ → Bool
is_definition s p = is_a s p_external p && is_some (child_of s p_block p)

module _ (s : Source) (senses : List Sense) (numbering : Numbering) (u : Unit) (grown : IsGrown s) (made : IsMade s senses numbering u) (names : DefinitionsNamed s senses) where
  abbrev sense : ℕ → Sense
  sense i = sense_in senses i

  -- the definition whose block a function's body is
  pub record FunctionTree (e b : ℕ) : Type 0 where
    pub name : ℕ
    pub numbered : numbering name ≡ Some e
    pub external : ℕ
    pub block : ℕ
    pub core : Core
    pub definition : is_definition s external ≡ true
    pub part : contains (children_at s external) block ≡ true
    pub sensed : sense block ≡ IsCore core
    pub stands : StandsBy numbering u b core
    pub named : option_map (entity_of s sense) (function_around s sense block) ≡ Some name

  defined : (r : ℕ) → storage_of s sense r ≡ FunctionBody → is_defined s sense r ≡ true
  defined r h = by (is_parameter s sense r) (declares_function s sense r) (is_defined s sense r) (has_storage s sense word_extern r && is_none (initialiser_for s sense r)) (is_static_object s sense r) h
    where
      by : (p f d e t : Bool) → (if p then Parameter else if f then (if d then FunctionBody else Declared) else if e then Declared else if t then Static else Automatic) ≡ FunctionBody → d ≡ true
      by true f d e t h = cc
      by false true true e t h = refl
      by false true false e t h = cc
      by false false d true t h = cc
      by false false d false true h = cc
      by false false d false false h = cc

  kept_storage : (x : Storage) (function : Bool) → (elim x as (λ _. Storage) [ Declared ↦ if function then Declared else Static | other ↦ other ]) ≡ FunctionBody → x ≡ FunctionBody
  kept_storage FunctionBody function h = refl
  kept_storage Declared true h = cc
  kept_storage Declared false h = cc
  kept_storage x function h = h

  abbrev chosen : ℕ → Linkage → ℕ
  chosen d linkage =
      elim linkage [
        | Internal ↦ first_of s sense (first_of s sense d (keep s sense (is_tentative s senses) (of_internal s senses d))) (keep s sense (is_definition_at s senses) (of_internal s senses d))
        | _ ↦ d
      ]

  own_storage : (d : ℕ) → storage_at s senses d ≡ FunctionBody → storage_of s sense (representative s senses d) ≡ FunctionBody
  own_storage d h = by (linkage_of s sense d) refl h
    where
      by : (linkage : Linkage) → linkage_of s sense d ≡ linkage
          → (elim linkage as (λ _. Storage) [ Internal ↦ (elim (storage_of s sense (representative s senses d)) as (λ _. Storage) [ Declared ↦ if declares_function s sense d then Declared else Static | other ↦ other ]) | _ ↦ storage_of s sense d ]) ≡ FunctionBody
          → storage_of s sense (representative s senses d) ≡ FunctionBody
      by Internal is h = kept_storage (storage_of s sense (representative s senses d)) (declares_function s sense d) h
      by External is h = let same : representative s senses d ≡ d = ap (chosen d) is in subst (λ (x : ℕ). storage_of s sense x ≡ FunctionBody) (sym same) h
      by Local is h = let same : representative s senses d ≡ d = ap (chosen d) is in subst (λ (x : ℕ). storage_of s sense x ≡ FunctionBody) (sym same) h

  -- a block's tree
  block_core : (b : ℕ) (c : Core) → is_a s p_block b ≡ true → core_of_sense s senses (sense b) ≡ Some c → b < length senses → sense b ≡ IsCore c
  block_core b c is e inside =
      let block : Core = statement (Block (objects_in (W s senses grown made.are_senses made.whole b) s (F s senses grown made.are_senses made.whole b) (children_at s b))) (place_at s b) (cores_in (W s senses grown made.are_senses made.whole b) s (F s senses grown made.are_senses made.whole b) (children_at s b)) in
      let own : Fits (IsCore block) ≡ Fits (sense b) = row_there s senses grown made.are_senses made.whole b p_block inside is in
      let same = same_given (IsCore block) (sense b) own in
      let core : Some block ≡ Some c = ap (λ (x : Sense). core_of_sense s senses x) same ∙ e in
      sym same ∙ ap IsCore (some_same core)

  module _ (d e b : ℕ) (c : Core) (number : numbering d ≡ Some e) (declares : declares_entity s senses d ≡ true) (stands : StandsBy numbering u b c) where
    abbrev r : ℕ
    r = representative s senses d

    whole : (x : Bool) → x ≡ true → (if x then option_and_then (λ b. core_of_sense s senses (sense b)) (block_for s senses r) else option_and_then (λ init. core_of_sense s senses (sense init)) (initialiser_for s sense r)) ≡ Some c
        → option_and_then (λ b. core_of_sense s senses (sense b)) (block_for s senses r) ≡ Some c
    whole true e h = h
    whole false e h = cc

    within : (p k x : ℕ) → slice_get (children_at s p) k ≡ Some x → x < length senses
    within p k x h =
        let lt = grown.first p k x h in
        let inside = child_inside (slice_get s.nodes p) s.nodes p k x refl h in
        omega (arith, lt, inside, made.whole)

    in_external : (p : ℕ) (o : Option ℕ) → child_of s p_block p ≡ o → block_for s senses r ≡ o → is_defined s sense r ≡ true → is_definition s p ≡ true → option_and_then (λ b. core_of_sense s senses (sense b)) o ≡ Some c → FunctionTree e b
    in_external p None is own defines definition e = cc
    in_external p (Some block) is own defines definition e =
        let found = found_part (is_a s p_block) (children_at s p) block is in
        let inside = within p found.0.0 block found.0.1 in
        record {
          name = d;
          numbered = number;
          external = p;
          block = block;
          core = c;
          definition = definition;
          part = list_in (children_at s p) found.0.0 block found.0.1;
          sensed = block_core block c found.1 e inside;
          stands = stands;
          named = names d block declares defines own;
        }

    of_block : is_defined s sense r ≡ true → body_at s senses r ≡ Some c → FunctionTree e b
    of_block defines body = by (declaration_of s sense r) refl defines (whole (is_defined s sense r) defines body)
      where
        by : (o : Option ℕ) → declaration_of s sense r ≡ o → (elim o as (λ _. Bool) [ None ↦ false | Some p ↦ is_a s p_external p && is_some (child_of s p_block p) ]) ≡ true
            → option_and_then (λ b. core_of_sense s senses (sense b)) (block_for s senses r) ≡ Some c → FunctionTree e b
        by None is h e = cc
        by (Some p) is h e =
            let own : block_for s senses r ≡ child_of s p_block p = ap (λ (o : Option ℕ). option_and_then (child_of s p_block) o) is in
            in_external p (child_of s p_block p) refl own defines h (sym (ap (λ (o : Option ℕ). option_and_then (λ b. core_of_sense s senses (sense b)) o) own) ∙ e)

  and_then : {A : Type 0} (x : Bool) (o : Option A) (y : A) → (if x then o else None) ≡ Some y → (x ≡ true) × (o ≡ Some y)
  and_then true o y e = (refl, e)
  and_then false o y e = cc

  declared_tree : (d e b : ℕ) (what : Declares) → numbering d ≡ Some e → IsDeclaredAt s senses d what → what.storage ≡ FunctionBody → SameBody numbering u what.body (Some b) → FunctionTree e b
  declared_tree d e b what number (inr (c, literal, is)) storage body = absurd (by (is_some (function_around s sense d)) (ap (λ (x : Declares). x.storage) (sym is) ∙ storage))
    where
      by : (b : Bool) → (if b then Automatic else Static) ≡ FunctionBody → ⊥
      by true e = cc
      by false e = cc
  declared_tree d e b what number (inl is) storage body = by (entity_type s senses d) whole.1
    where
      whole : (declares_entity s senses d ≡ true) × (option_map (declared_as s senses d) (entity_type s senses d) ≡ Some what)
      whole = and_then (declares_entity s senses d) (option_map (declared_as s senses d) (entity_type s senses d)) what is

      by_body : (o : Option Core) → body_at s senses (representative s senses d) ≡ o → storage_at s senses d ≡ FunctionBody → SameBody numbering u o (Some b) → FunctionTree e b
      by_body None at storage body = absurd body
      by_body (Some c) at storage body = of_block d e b c number whole.0 body (defined (representative s senses d) (own_storage d storage)) at

      by : (t : Option Ctype) → option_map (declared_as s senses d) t ≡ Some what → FunctionTree e b
      by None is = cc
      by (Some t) is =
          let same : declared_as s senses d t ≡ what = some_same is in
          by_body (body_at s senses (representative s senses d)) refl (ap (λ (x : Declares). x.storage) same ∙ storage) (subst (λ (x : Declares). SameBody numbering u x.body (Some b)) (sym same) body)

  -- what an entity is declared as
  pub record EntityOf (e : ℕ) (entity : Entity) : Type 0 where
    pub leaf : ℕ
    pub what : Declares
    pub declared : IsDeclaredAt s senses leaf what
    pub number : numbering leaf ≡ Some e
    pub is : IsEntityOf numbering u s.unit what entity

  pub entity_of_leaf : (e : ℕ) (entity : Entity) → entity_at (trees_of u) e ≡ Some entity → EntityOf e entity
  entity_of_leaf e entity at =
      let lt : e < length u.entities.items = slice_get_within u.entities.items e entity at in
      let (d, what, declared, number) = made.no_other_entity e lt in
      let (e2, x2, number2, at2, is) = made.each_declared d what declared in
      let same_number : e2 ≡ e = some_same (sym number2 ∙ number) in
      let same : x2 ≡ entity = some_same (sym at2 ∙ (ap (λ (k : ℕ). slice_get u.entities.items k) same_number ∙ at)) in
      record { leaf = d; what = what; declared = declared; number = number; is = subst (λ (x : Entity). IsEntityOf numbering u s.unit what x) same is }

  pub function_tree : (e : ℕ) (entity : Entity) (b : ℕ) → entity_at (trees_of u) e ≡ Some entity → entity.storage ≡ FunctionBody → entity.body ≡ Some b → FunctionTree e b
  function_tree e entity b at storage body =
      let own = entity_of_leaf e entity at in
      declared_tree own.leaf e b own.what own.number own.declared (sym own.is.storage ∙ storage) (subst (λ (o : Option ℕ). SameBody numbering u own.what.body o) body own.is.body)
