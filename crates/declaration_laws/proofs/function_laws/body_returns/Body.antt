-- The function that a body is of: the leaf of its name, and its type.
use Rattle.std.proofs.Common.{arith, ◌≡◌, ◌<◌, ◌≤◌, ◌+◌, ℕ, zero, suc, ◌&&◌, ◌||◌, nat_eq, Bool, true, false, cond, List, [], ◌∷◌, Option, Some, None, length, slice_get, refl, sym, ap, ◌∙◌, subst, ◌⊎◌, inl, inr}
use Rattle.std.specs.Prelude.{is_none, is_some, option_and_then, option_map, if◌then◌else◌}
use Rattle.std.proofs.lemmas.Bool.{eqb-true}
use Rattle.std.proofs.lemmas.Option.{slice_get_within}
use Rattle.c_types.specs.Trees.{Ctype}
use Rattle.c_types.specs.Table.{type_of}
use Rattle.c_grammar.specs.Productions.{p_external, p_rest, p_field, p_declarator, p_abstract, p_either, p_block}
use Rattle.c_grammar.specs.Words.{word_extern}
use Rattle.core_tree.specs.declared.node.Unit.{Unit}
use Rattle.core_tree.specs.declared.node.Entity.{Entity}
use Rattle.core_tree.specs.declared.node.NodeKind.TheVariants.{Block}
use Rattle.core_tree.specs.declared.node.Linkage.{Linkage}
use Rattle.core_tree.specs.declared.node.Linkage.TheVariants.{External, Internal, Local}
use Rattle.core_tree.specs.declared.node.Storage.{Storage}
use Rattle.core_tree.specs.declared.node.Storage.TheVariants.{Static, Automatic, FunctionBody, Parameter, Declared}
use Rattle.core_tree.specs.Typed.{trees_of, StatementNode}
use Rattle.core_tree.specs.Range.{entity_at}
use Rattle.c_consts.specs.Core.{Core, core_sort}
use Rattle.c_senses.specs.Tree.{Source, production_at, children_at, is_a, child_of, all_where, parent_of, place_at}
use Rattle.c_senses.specs.Given.{Fits}
use Rattle.c_senses.specs.Sense.{Sense, IsCore, sense_in}
use Rattle.c_senses.specs.Statements.{statement, objects_in, cores_in}
use Rattle.c_senses.specs.Declarators.{is_declarator, is_outermost, declaration_around}
use Rattle.c_senses.specs.Entities.{keep, first_of, all_together, types_of, own_type, declares_function, initialiser_for, is_defined, is_parameter, is_static_object, declaration_of, has_storage, storage_of, linkage_of, function_around}
use Rattle.c_senses.specs.Right.{Numbering, StandsBy, SameBody, IsEntityOf, Declared as Declares, core_of_sense, block_for, body_at, of_internal, is_definition_at, is_tentative, representative, storage_at, declared_as, declares_entity, entity_type, internal_type, with_one, IsDeclaredAt}
use Rattle.parsed_tree_laws.specs.family_laws.Families.{IsChild as IsPart}
use Rattle.declaration_laws.specs.passed.core_node_laws.standing_laws.Standing.{IsGrown, IsMade}
use Rattle.declaration_laws.proofs.passed.core_node_laws.standing_laws.Climbing.{child_inside, parent_holds, in_list}
use Rattle.declaration_laws.proofs.passed.core_node_laws.standing_laws.Bodies.{found_part}
use Rattle.declaration_laws.proofs.passed.core_node_laws.standing_laws.Descending.{W, F, row_there, same_given}
use Rattle.parsed_tree_laws.specs.counted_parts.Counted.{is_inner, is_ending, CountedParts}

pub some_same : {A : Type 0} → {x y : A} → ◌≡◌ {A = Option A} (Some x) (Some y) → x ≡ y
some_same e = cc

both : (a b : Bool) → (a && b) ≡ true → (a ≡ true) × (b ≡ true)
both true b e = (refl, e)
both false b e = cc

left_on : (a b : Bool) → a ≡ true → (a || b) ≡ true
left_on true b e = refl
left_on false b e = cc

right_on : (a b : Bool) → b ≡ true → (a || b) ≡ true
right_on true b e = refl
right_on false b e = e

when_true : {A : Type 0} (b : Bool) (x y : A) → b ≡ true → cond b x y ≡ x
when_true true x y e = refl
when_true false x y e = cc

-- ---- numbers of a list that pass a test

counted_more : (b : Bool) (k : ℕ) (ks : List ℕ) (n : ℕ) → n ≤ length ks → n ≤ length (if b then k ∷ ks else ks)
counted_more true k ks n h = omega (arith, h)
counted_more false k ks n h = h

counted_own : (b : Bool) (k : ℕ) (ks : List ℕ) (n : ℕ) → b ≡ true → n ≤ length ks → n + 1 ≤ length (if b then k ∷ ks else ks)
counted_own true k ks n e h = omega (arith, h)
counted_own false k ks n e h = cc

-- one that passes is counted
pub some_counted : (test : ℕ → Bool) (ks : List ℕ) (k x : ℕ) → slice_get ks k ≡ Some x → test x ≡ true → 1 ≤ length (all_where test ks)
some_counted test [] k x e h = cc
some_counted test (y ∷ ks) zero x e h = let same : y ≡ x = cc in let own = counted_own (test y) y (all_where test ks) 0 (subst (λ (z : ℕ). test z ≡ true) (sym same) h) (omega arith) in omega (arith, own)
some_counted test (y ∷ ks) (suc k) x e h = counted_more (test y) y (all_where test ks) 1 (some_counted test ks k x e h)

-- and two that differ
pub two_counted : (test : ℕ → Bool) (ks : List ℕ) (j k x y : ℕ) → slice_get ks j ≡ Some x → slice_get ks k ≡ Some y → test x ≡ true → test y ≡ true → (x ≡ y → ⊥) → 2 ≤ length (all_where test ks)
two_counted test [] j k x y e f h i differ = cc
two_counted test (z ∷ ks) zero zero x y e f h i differ = let same : x ≡ y = cc in absurd (differ same)
two_counted test (z ∷ ks) zero (suc k) x y e f h i differ = let same : z ≡ x = cc in let own = counted_own (test z) z (all_where test ks) 1 (subst (λ (a : ℕ). test a ≡ true) (sym same) h) (some_counted test ks k y f i) in omega (arith, own)
two_counted test (z ∷ ks) (suc j) zero x y e f h i differ = let same : z ≡ y = cc in let own = counted_own (test z) z (all_where test ks) 1 (subst (λ (a : ℕ). test a ≡ true) (sym same) i) (some_counted test ks j x e h) in omega (arith, own)
two_counted test (z ∷ ks) (suc j) (suc k) x y e f h i differ = counted_more (test z) z (all_where test ks) 2 (two_counted test ks j k x y e f h i differ)

decide : (x y : ℕ) → (x ≡ y) ⊎ (x ≡ y → ⊥)
decide x y = by (nat_eq x y) refl
  where
    by : (b : Bool) → nat_eq x y ≡ b → (x ≡ y) ⊎ (x ≡ y → ⊥)
    by true e = inl (eqb-true x y e)
    by false e = inr (λ same. let t : nat_eq x x ≡ false = subst (λ (z : ℕ). nat_eq x z ≡ false) (sym same) e in let u : nat_eq x x ≡ true = same_is x in cc)
      where
        same_is : (x : ℕ) → nat_eq x x ≡ true
        same_is x = grind (arith)

-- where one at most passes, the first is the only one
only_one : (test : ℕ → Bool) (ks : List ℕ) (j k x y : ℕ) → length (all_where test ks) ≤ 1 → slice_get ks j ≡ Some x → slice_get ks k ≡ Some y → test x ≡ true → test y ≡ true → x ≡ y
only_one test ks j k x y few e f h i = by (decide x y)
  where
    by : (x ≡ y) ⊎ (x ≡ y → ⊥) → x ≡ y
    by (inl same) = same
    by (inr differ) = let two = two_counted test ks j k x y e f h i differ in absurd (omega (arith, two, few))

module _ (s : Source) (senses : List Sense) (numbering : Numbering) (u : Unit) (grown : IsGrown s) (made : IsMade s senses numbering u) where
  abbrev sense : ℕ → Sense
  sense i = sense_in senses i

  -- a function's body with the leaf that names the function
  pub record Definition (entity : Entity) (b : ℕ) : Type 0 where
    pub name : ℕ
    pub external : ℕ
    pub block : ℕ
    pub core : Core
    pub declared : declaration_of s sense name ≡ Some external
    pub function : declares_function s sense name ≡ true
    pub type : own_type s sense name ≡ Some (type_of u.types entity.ty.0)
    pub is_external : is_a s p_external external ≡ true
    pub child : child_of s p_block external ≡ Some block
    pub part : IsPart s external block
    pub is_block : is_a s p_block block ≡ true
    pub inside : block < length senses
    pub sensed : sense block ≡ IsCore core
    pub sorted : core_sort core ≡ StatementNode
    pub stands : StandsBy numbering u b core

  abbrev left_over : ℕ → Storage
  left_over r = if is_static_object s sense r then Static else Automatic

  -- what has the storage of a function's body is a function that is defined
  told : (r : ℕ) → storage_of s sense r ≡ FunctionBody → (declares_function s sense r ≡ true) × (is_defined s sense r ≡ true)
  told r h = by (is_parameter s sense r) (declares_function s sense r) (is_defined s sense r) (has_storage s sense word_extern r && is_none (initialiser_for s sense r)) (is_static_object s sense r) h
    where
      by : (p f d e t : Bool) → (if p then Parameter else if f then (if d then FunctionBody else Declared) else if e then Declared else if t then Static else Automatic) ≡ FunctionBody → (f ≡ true) × (d ≡ true)
      by true f d e t h = cc
      by false true true e t h = (refl, refl)
      by false true false e t h = cc
      by false false d true t h = cc
      by false false d false true h = cc
      by false false d false false h = cc

  kept_storage : (x : Storage) (function : Bool) → (elim x as (λ _. Storage) [ Declared ↦ if function then Declared else Static | other ↦ other ]) ≡ FunctionBody → x ≡ FunctionBody
  kept_storage FunctionBody function h = refl
  kept_storage Declared true h = cc
  kept_storage Declared false h = cc
  kept_storage Static function h = cc
  kept_storage Automatic function h = cc
  kept_storage Parameter function h = cc

  abbrev chosen : ℕ → Linkage → ℕ
  chosen d linkage =
      elim linkage [
        | Internal ↦ first_of s sense (first_of s sense d (keep s sense (is_tentative s senses) (of_internal s senses d))) (keep s sense (is_definition_at s senses) (of_internal s senses d))
        | _ ↦ d
      ]

  own_storage : (d : ℕ) → storage_at s senses d ≡ FunctionBody → storage_of s sense (representative s senses d) ≡ FunctionBody
  own_storage d h = by (linkage_of s sense d) refl h
    where
      by : (linkage : Linkage) → linkage_of s sense d ≡ linkage
          → (elim linkage as (λ _. Storage) [ Internal ↦ (elim (storage_of s sense (representative s senses d)) as (λ _. Storage) [ Declared ↦ if declares_function s sense d then Declared else Static | other ↦ other ]) | _ ↦ storage_of s sense d ]) ≡ FunctionBody
          → storage_of s sense (representative s senses d) ≡ FunctionBody
      by Internal is h = kept_storage (storage_of s sense (representative s senses d)) (declares_function s sense d) h
      by External is h = let same : representative s senses d ≡ d = ap (chosen d) is in subst (λ (x : ℕ). storage_of s sense x ≡ FunctionBody) (sym same) h
      by Local is h = let same : representative s senses d ≡ d = ap (chosen d) is in subst (λ (x : ℕ). storage_of s sense x ≡ FunctionBody) (sym same) h

  -- a defined function has its definition's type
  defined_type : (d : ℕ) (t : Ctype) → is_defined s sense (representative s senses d) ≡ true → entity_type s senses d ≡ Some t → own_type s sense (representative s senses d) ≡ Some t
  defined_type d t defined h = by (linkage_of s sense d) refl h
    where
      by : (linkage : Linkage) → linkage_of s sense d ≡ linkage → (elim linkage as (λ _. Option Ctype) [ Internal ↦ internal_type s senses d | _ ↦ own_type s sense d ]) ≡ Some t → own_type s sense (representative s senses d) ≡ Some t
      by Internal is h = sym (when_true (is_defined s sense (representative s senses d)) (own_type s sense (representative s senses d)) (option_map (with_one s senses) (all_together None (types_of s sense (of_internal s senses d)))) defined) ∙ h
      by External is h = let same : representative s senses d ≡ d = ap (chosen d) is in subst (λ (x : ℕ). own_type s sense x ≡ Some t) (sym same) h
      by Local is h = let same : representative s senses d ≡ d = ap (chosen d) is in subst (λ (x : ℕ). own_type s sense x ≡ Some t) (sym same) h

  -- a block's tree
  block_core : (b : ℕ) (c : Core) → is_a s p_block b ≡ true → core_of_sense s senses (sense b) ≡ Some c → b < length senses → (sense b ≡ IsCore c) × (core_sort c ≡ StatementNode)
  block_core b c is e inside =
      let w = W s senses grown made.are_senses made.whole b in
      let before = F s senses grown made.are_senses made.whole b in
      let block : Core = statement (Block (objects_in w s before (children_at s b))) (place_at s b) (cores_in w s before (children_at s b)) in
      let own : Fits (IsCore block) ≡ Fits (sense b) = row_there s senses grown made.are_senses made.whole b p_block inside is in
      let same = same_given (IsCore block) (sense b) own in
      let core : Some block ≡ Some c = ap (λ (x : Sense). core_of_sense s senses x) same ∙ e in
      (sym same ∙ ap IsCore (some_same core), subst (λ (x : Core). core_sort x ≡ StatementNode) (some_same core) refl)

  block_at : (entity : Entity) (r : ℕ) (c : Core) (b : ℕ) → declares_function s sense r ≡ true → is_defined s sense r ≡ true → own_type s sense r ≡ Some (type_of u.types entity.ty.0) → body_at s senses r ≡ Some c → StandsBy numbering u b c → Definition entity b
  block_at entity r c b function defined type body stands = by (declaration_of s sense r) refl defined (whole (is_defined s sense r) defined body)
    where
      whole : (d : Bool) → d ≡ true → (if d then option_and_then (λ b. core_of_sense s senses (sense b)) (block_for s senses r) else option_and_then (λ init. core_of_sense s senses (sense init)) (initialiser_for s sense r)) ≡ Some c
          → option_and_then (λ b. core_of_sense s senses (sense b)) (block_for s senses r) ≡ Some c
      whole true e h = h
      whole false e h = cc

      within : (d k c : ℕ) → slice_get (children_at s d) k ≡ Some c → c < length senses
      within d k c h =
          let lt = grown.first d k c h in
          let inside = child_inside (slice_get s.nodes d) s.nodes d k c refl h in
          omega (arith, lt, inside, made.whole)

      in_external : (d : ℕ) (o : Option ℕ) → child_of s p_block d ≡ o → declaration_of s sense r ≡ Some d → is_a s p_external d ≡ true → option_and_then (λ b. core_of_sense s senses (sense b)) o ≡ Some c → Definition entity b
      in_external d None is at external e = cc
      in_external d (Some block) is at external e =
          let found = found_part (is_a s p_block) (children_at s d) block is in
          let inside = within d found.0.0 block found.0.1 in
          let told = block_core block c found.1 e inside in
          record {
            name = r;
            external = d;
            block = block;
            core = c;
            declared = at;
            function = function;
            type = type;
            is_external = external;
            child = is;
            part = found.0;
            is_block = found.1;
            inside = inside;
            sensed = told.0;
            sorted = told.1;
            stands = stands;
          }

      by : (o : Option ℕ) → declaration_of s sense r ≡ o → (elim o as (λ _. Bool) [ None ↦ false | Some p ↦ is_a s p_external p && is_some (child_of s p_block p) ]) ≡ true
          → option_and_then (λ b. core_of_sense s senses (sense b)) (option_and_then (child_of s p_block) o) ≡ Some c → Definition entity b
      by None at h e = cc
      by (Some d) at h e = in_external d (child_of s p_block d) refl at (both (is_a s p_external d) (is_some (child_of s p_block d)) h).0 e

  declared_block : (entity : Entity) (d b : ℕ) (what : Declares) → IsDeclaredAt s senses d what → what.storage ≡ FunctionBody → type_of u.types entity.ty.0 ≡ what.type → SameBody numbering u what.body (Some b) → Definition entity b
  declared_block entity d b what (inr (c, literal, is)) storage type body = absurd (by (is_some (function_around s sense d)) (ap (λ (x : Declares). x.storage) (sym is) ∙ storage))
    where
      by : (b : Bool) → (if b then Automatic else Static) ≡ FunctionBody → ⊥
      by true e = cc
      by false e = cc
  declared_block entity d b what (inl is) storage type body = by (declares_entity s senses d) (entity_type s senses d) refl is
    where
      r : ℕ
      r = representative s senses d

      by_body : (t : Ctype) → entity_type s senses d ≡ Some t → type_of u.types entity.ty.0 ≡ t → (o : Option Core) → body_at s senses (representative s senses d) ≡ o → storage_at s senses d ≡ FunctionBody → SameBody numbering u o (Some b) → Definition entity b
      by_body t own same None at storage body = absurd body
      by_body t own same (Some c) at storage body =
          let is = told (representative s senses d) (own_storage d storage) in
          block_at entity (representative s senses d) c b is.0 is.1 (defined_type d t is.1 own ∙ ap (λ (x : Ctype). Some x) (sym same)) at body

      by : (x : Bool) (t : Option Ctype) → entity_type s senses d ≡ t → (if x then option_map (declared_as s senses d) t else None) ≡ Some what → Definition entity b
      by false t own is = cc
      by true None own is = cc
      by true (Some t) own is =
          let same : declared_as s senses d t ≡ what = some_same is in
          let its : t ≡ what.type = ap (λ (x : Declares). x.type) same in
          by_body t own (type ∙ sym its) (body_at s senses (representative s senses d)) refl (ap (λ (x : Declares). x.storage) same ∙ storage) (subst (λ (x : Declares). SameBody numbering u x.body (Some b)) (sym same) body)

  -- a function's body is the tree of its definition's block
  pub definition : (e : ℕ) (entity : Entity) (b : ℕ) → entity_at (trees_of u) e ≡ Some entity → entity.storage ≡ FunctionBody → entity.body ≡ Some b → Definition entity b
  definition e entity b at storage body =
      let lt : e < length u.entities.items = slice_get_within u.entities.items e entity at in
      let (d, what, declared, number) = made.no_other_entity e lt in
      let (e2, x2, number2, at2, is) = made.each_declared d what declared in
      let same_number : e2 ≡ e = some_same (sym number2 ∙ number) in
      let same : x2 ≡ entity = some_same (sym at2 ∙ (ap (λ (k : ℕ). slice_get u.entities.items k) same_number ∙ at)) in
      let own : IsEntityOf numbering u s.unit what entity = subst (λ (x : Entity). IsEntityOf numbering u s.unit what x) same is in
      declared_block entity d b what declared (sym own.storage ∙ storage) own.type (subst (λ (o : Option ℕ). SameBody numbering u what.body o) body own.body)

  -- ---- the declarator of a definition

  module _ (counted : CountedParts s) where
    -- the outermost declarator of the name is the only one of the external declaration
    module _ (d block : ℕ) (external : is_a s p_external d ≡ true) (blocked : child_of s p_block d ≡ Some block) where
      no_inner : (c : ℕ) → IsPart s d c → is_inner s c ≡ true → ⊥
      no_inner c part h =
          let some = some_counted (is_inner s) (children_at s d) part.0 c part.1 h in
          let none = counted.inner d external in
          omega (arith, some, none)

      no_rest : (c : ℕ) → IsPart s d c → is_a s p_rest c ≡ true → ⊥
      no_rest c part h =
          let found = found_part (is_a s p_block) (children_at s d) block blocked in
          let same : block ≡ c = only_one (is_ending s) (children_at s d) found.0.0 part.0 block c (counted.endings d external) found.0.1 part.1 (left_on (is_a s p_block block) (is_a s p_rest block) found.1) (right_on (is_a s p_block c) (is_a s p_rest c) h) in
          let one : is_a s p_block c ≡ true = subst (λ (x : ℕ). is_a s p_block x ≡ true) same found.1 in
          let a = eqb-true (production_at s c) p_block one in
          let b = eqb-true (production_at s c) p_rest h in
          omega (arith, a, b)

      part_of : (p c : ℕ) → parent_of s c ≡ Some p → IsPart s p c
      part_of p c e = in_list (children_at s p) c (parent_holds s grown p c e)

      -- the node in which the declarator stands is the external declaration itself
      pub around_is : (p : ℕ) → declaration_around s p ≡ Some d → p ≡ d
      around_is p h = by (is_a s p_rest p) (is_a s p_field p) refl refl h
        where
          by : (a b : Bool) → is_a s p_rest p ≡ a → is_a s p_field p ≡ b → (if a || b then parent_of s p else Some p) ≡ Some d → p ≡ d
          by false false ea eb h = some_same h
          by true b ea eb h = absurd (no_rest p (part_of d p h) ea)
          by false true ea eb h = absurd (no_inner p (part_of d p h) (left_on (is_a s p_field p) _ eb))

      declarator_is : (o : ℕ) → IsPart s d o → is_declarator s o ≡ true → is_a s p_declarator o ≡ true
      declarator_is o part h = by (is_a s p_declarator o) (is_a s p_abstract o) (is_a s p_either o) refl refl refl h
        where
          by : (a b c : Bool) → is_a s p_declarator o ≡ a → is_a s p_abstract o ≡ b → is_a s p_either o ≡ c → (a || b || c) ≡ true → is_a s p_declarator o ≡ true
          by true b c ea eb ec h = ea
          by false true c ea eb ec h = absurd (no_inner o part (right_on (is_a s p_field o) _ (left_on (is_a s p_abstract o) _ eb)))
          by false false true ea eb ec h = absurd (no_inner o part (right_on (is_a s p_field o) _ (right_on (is_a s p_abstract o) _ ec)))
          by false false false ea eb ec h = cc

      pub only_declarator : (o : ℕ) → is_outermost s o ≡ true → option_and_then (declaration_around s) (parent_of s o) ≡ Some d → (c : ℕ) → child_of s p_declarator d ≡ Some c → c ≡ o
      only_declarator o outer h c first = by (parent_of s o) refl h
        where
          by : (p : Option ℕ) → parent_of s o ≡ p → option_and_then (declaration_around s) p ≡ Some d → c ≡ o
          by None at h = cc
          by (Some p) at h =
              let same = around_is p h in
              let part : IsPart s d o = subst (λ (x : ℕ). IsPart s x o) same (part_of p o at) in
              let found = found_part (is_a s p_declarator) (children_at s d) c first in
              let own : is_declarator s o ≡ true = (both (is_declarator s o) _ outer).0 in
              only_one (is_a s p_declarator) (children_at s d) found.0.0 part.0 c o (counted.declarators d external) found.0.1 part.1 found.1 (declarator_is o part own)
