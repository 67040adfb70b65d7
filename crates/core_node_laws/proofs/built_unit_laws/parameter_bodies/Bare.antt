-- A parameter's declaration has no initialiser.
use Rattle.std.proofs.Common.{◌≡◌, ◌<◌, ℕ, suc, ◌&&◌, ◌||◌, nat_eq, Bool, true, false, cond, List, [], ◌∷◌, Option, Some, None, length, slice_get, refl, sym, ap, ◌∙◌, subst, inl, inr}
use Rattle.std.specs.Prelude.{is_none, is_some, option_and_then, option_map, if◌then◌else◌}
use Rattle.std.proofs.lemmas.Bool.{eqb-true}
use Rattle.std.proofs.lemmas.Option.{slice_get_within}
use Rattle.c_types.specs.Trees.{Ctype}
use Rattle.c_grammar.specs.Productions.{p_external, p_rest, p_declaration, p_asm_name, p_field, p_parameter, p_block}
use Rattle.c_grammar.specs.Words.{word_extern}
use Rattle.core_tree.specs.declared.node.Unit.{Unit}
use Rattle.core_tree.specs.declared.node.Entity.{Entity}
use Rattle.core_tree.specs.declared.node.Linkage.{Linkage}
use Rattle.core_tree.specs.declared.node.Linkage.TheVariants.{External, Internal, Local}
use Rattle.core_tree.specs.declared.node.Storage.{Storage}
use Rattle.core_tree.specs.declared.node.Storage.TheVariants.{Static, Automatic, FunctionBody, Parameter, Declared}
use Rattle.core_tree.specs.Rows.{Has}
use Rattle.c_consts.specs.Core.{Core}
use Rattle.c_senses.specs.Tree.{Source, children_at, production_at, is_a, child_of, parent_of}
use Rattle.c_senses.specs.Sense.{Sense, sense_in}
use Rattle.c_senses.specs.Declarators.{outermost_of, declaration_around}
use Rattle.c_senses.specs.Entities.{behind, without_asm, in_rest, initialiser_in, initialiser_of, initialiser_for, keep, first_of, declares_function, is_defined, is_parameter, is_static_object, declaration_of, has_storage, storage_of, linkage_of, function_around}
use Rattle.c_senses.specs.Right.{Numbering, SameBody, IsEntityOf, Declared as Declares, core_of_sense, block_for, body_at, of_internal, is_definition_at, is_tentative, representative, storage_at, declared_as, declares_entity, entity_type, IsDeclaredAt}
use Rattle.core_node_laws.specs.standing_laws.Standing.{IsGrown, IsMade}
use Rattle.core_node_laws.proofs.standing_laws.Climbing.{in_list, list_in, parent_holds}
use Rattle.core_node_laws.specs.built_unit_laws.parameter_bodies.Bare.{ParametersBare}

some_same : {A : Type 0} → {x y : A} → ◌≡◌ {A = Option A} (Some x) (Some y) → x ≡ y
some_same e = cc

no_both : (b : Bool) → b ≡ true → b ≡ false → ⊥
no_both b e f = let both : true ≡ false = sym e ∙ f in cc

when_false : {A : Type 0} (b : Bool) (x y : A) → b ≡ false → cond b x y ≡ y
when_false true x y e = cc
when_false false x y e = refl

behind_has : (i : ℕ) (list : List ℕ) (c : ℕ) → Has (behind i list) c → Has list c
behind_has i [] c h = h
behind_has i (x ∷ list) c h = by (nat_eq x i) h (λ more. behind_has i list c more)
  where
    by : (b : Bool) → Has (if b then list else behind i list) c → (Has (behind i list) c → Has list c) → Has (x ∷ list) c
    by true h later = (suc h.0, h.1)
    by false h later = let more = later h in (suc more.0, more.1)

module _ (s : Source) (senses : List Sense) (numbering : Numbering) (u : Unit) (grown : IsGrown s) (made : IsMade s senses numbering u) where
  abbrev sense : ℕ → Sense
  sense i = sense_in senses i

  apart : (i a b : ℕ) → is_a s a i ≡ true → nat_eq a b ≡ false → is_a s b i ≡ false
  apart i a b h differ = ap (λ (q : ℕ). nat_eq q b) (eqb-true (production_at s i) a h) ∙ differ

  plain_has : (list : List ℕ) (c : ℕ) → Has (without_asm s sense list) c → Has list c
  plain_has [] c h = h
  plain_has (x ∷ list) c h = by (is_a s p_asm_name x) h
    where
      by : (b : Bool) → Has (if b then list else x ∷ list) c → Has (x ∷ list) c
      by true h = (suc h.0, h.1)
      by false h = h

  rest_none : (list : List ℕ) → ((c : ℕ) → Has list c → is_a s p_rest c ≡ false) → in_rest s sense list ≡ None
  rest_none [] h = refl
  rest_none (c ∷ list) h = when_false (is_a s p_rest c) (initialiser_in s sense (children_at s c)) None (h c (0, refl))

  abbrev initial_in : ℕ → Option ℕ → Option ℕ
  initial_in o parent =
      elim parent [
        | None ↦ None
        | Some p ↦ let list = without_asm s sense (behind o (children_at s p)) in if is_a s p_rest p then initialiser_in s sense list else in_rest s sense list
      ]

  -- the rest of a declaration is no part of a parameter
  no_rest : (p c : ℕ) → is_a s p_parameter p ≡ true → Has (children_at s p) c → is_a s p_rest c ≡ true → ⊥
  no_rest p c parameter child rest =
      by (is_a s p_external p) (is_a s p_declaration p) (apart p p_parameter p_external parameter refl) (apart p p_parameter p_declaration parameter refl) (grown.nested.rests p c (list_in (children_at s p) child.0 c child.1) rest)
    where
      by : (a b : Bool) → a ≡ false → b ≡ false → (a || b) ≡ true → ⊥
      by true b ea eb h = cc
      by false true ea eb h = cc
      by false false ea eb h = cc

  module _ (p : ℕ) (parameter : is_a s p_parameter p ≡ true) where
    -- where the rest of a declaration is a part of a node, that node is its own declaration
    own_around : (q c : ℕ) → declaration_around s q ≡ Some p → is_a s p_rest q ≡ false → Has (children_at s q) c → is_a s p_rest c ≡ true → ⊥
    own_around q c around no_rest_at child rest = by (is_a s p_field q) refl (sym (ap (λ (b : Bool). if b || is_a s p_field q then parent_of s q else Some q) no_rest_at) ∙ around)
      where
        either : (a b : Bool) → is_a s p_external q ≡ a → is_a s p_declaration q ≡ b → (a || b) ≡ true → is_a s p_field q ≡ true → ⊥
        either true b ea eb h field = no_both (is_a s p_field q) field (apart q p_external p_field ea refl)
        either false true ea eb h field = no_both (is_a s p_field q) field (apart q p_declaration p_field eb refl)
        either false false ea eb h field = cc

        by : (b : Bool) → is_a s p_field q ≡ b → (if b then parent_of s q else Some q) ≡ Some p → ⊥
        by true field e = either (is_a s p_external q) (is_a s p_declaration q) refl refl (grown.nested.rests q c (list_in (children_at s q) child.0 c child.1) rest) field
        by false field e = let same : q ≡ p = some_same e in no_rest p c parameter (subst (λ (x : ℕ). Has (children_at s x) c) same child) rest

    in_parent : (o q : ℕ) → declaration_around s q ≡ Some p → initial_in o (Some q) ≡ None
    in_parent o q around = by (is_a s p_rest q) refl
      where
        list : List ℕ
        list = without_asm s sense (behind o (children_at s q))

        part_no_rest : (c : ℕ) → is_a s p_rest q ≡ false → Has (children_at s q) c → is_a s p_rest c ≡ false
        part_no_rest c quiet child = decide (is_a s p_rest c) refl
          where
            decide : (b : Bool) → is_a s p_rest c ≡ b → b ≡ false
            decide true e = absurd (own_around q c around quiet child e)
            decide false e = refl

        above : is_a s p_rest q ≡ true → parent_of s q ≡ Some p
        above e = sym (ap (λ (b : Bool). if b || is_a s p_field q then parent_of s q else Some q) e) ∙ around

        held : (c : ℕ) → parent_of s q ≡ Some c → Has (children_at s c) q
        held c e = in_list (children_at s c) q (parent_holds s grown c q e)

        by : (b : Bool) → is_a s p_rest q ≡ b → (if b then initialiser_in s sense (without_asm s sense (behind o (children_at s q))) else in_rest s sense (without_asm s sense (behind o (children_at s q)))) ≡ None
        by true e = absurd (no_rest p q parameter (held p (above e)) e)
        by false e = rest_none (without_asm s sense (behind o (children_at s q))) (λ c h. part_no_rest c e (behind_has o (children_at s q) c (plain_has (behind o (children_at s q)) c h)))

    no_initial : (r : ℕ) → declaration_of s sense r ≡ Some p → initialiser_for s sense r ≡ None
    no_initial r around = by (outermost_of s r) around
      where
        up : (o : ℕ) (parent : Option ℕ) → option_and_then (declaration_around s) parent ≡ Some p → initial_in o parent ≡ None
        up o None e = refl
        up o (Some q) e = in_parent o q e

        by : (o : Option ℕ) → option_and_then (declaration_around s) (option_and_then (parent_of s) o) ≡ Some p → option_and_then (initialiser_of s sense) o ≡ None
        by None e = refl
        by (Some o) e = up o (parent_of s o) e

  bare : (r : ℕ) → is_parameter s sense r ≡ true → body_at s senses r ≡ None
  bare r h = by (declaration_of s sense r) refl h
    where
      undefined : (o : Option ℕ) (p : ℕ) → o ≡ Some p → is_a s p_parameter p ≡ true → (elim o as (λ _. Bool) [ None ↦ false | Some x ↦ is_a s p_external x && is_some (child_of s p_block x) ]) ≡ false
      undefined None p e parameter = cc
      undefined (Some x) p e parameter =
          let same : x ≡ p = some_same e in
          ap (λ (b : Bool). b && is_some (child_of s p_block x)) (ap (λ (y : ℕ). is_a s p_external y) same ∙ apart p p_parameter p_external parameter refl)

      by : (o : Option ℕ) → declaration_of s sense r ≡ o → (elim o as (λ _. Bool) [ None ↦ false | Some p ↦ is_a s p_parameter p ]) ≡ true → body_at s senses r ≡ None
      by None at h = cc
      by (Some p) at parameter =
          when_false (is_defined s sense r) (option_and_then (λ b. core_of_sense s senses (sense b)) (block_for s senses r)) (option_and_then (λ init. core_of_sense s senses (sense init)) (initialiser_for s sense r)) (undefined (declaration_of s sense r) p at parameter)
          ∙ ap (λ (o : Option ℕ). option_and_then (λ init. core_of_sense s senses (sense init)) o) (no_initial p parameter r at)

  abbrev left_over : ℕ → Storage
  left_over r = if is_static_object s sense r then Static else Automatic

  parameter_is : (r : ℕ) → storage_of s sense r ≡ Parameter → is_parameter s sense r ≡ true
  parameter_is r h = by (is_parameter s sense r) (declares_function s sense r) (is_defined s sense r) (has_storage s sense word_extern r && is_none (initialiser_for s sense r)) (is_static_object s sense r) h
    where
      by : (p f d e t : Bool) → (if p then Parameter else if f then (if d then FunctionBody else Declared) else if e then Declared else if t then Static else Automatic) ≡ Parameter → p ≡ true
      by true f d e t h = refl
      by false true true e t h = cc
      by false true false e t h = cc
      by false false d true t h = cc
      by false false d false true h = cc
      by false false d false false h = cc

  kept_storage : (x : Storage) (function : Bool) → (elim x as (λ _. Storage) [ Declared ↦ if function then Declared else Static | other ↦ other ]) ≡ Parameter → x ≡ Parameter
  kept_storage Declared true h = cc
  kept_storage Declared false h = cc
  kept_storage x function h = h

  abbrev chosen : ℕ → Linkage → ℕ
  chosen d linkage =
      elim linkage [
        | Internal ↦ first_of s sense (first_of s sense d (keep s sense (is_tentative s senses) (of_internal s senses d))) (keep s sense (is_definition_at s senses) (of_internal s senses d))
        | _ ↦ d
      ]

  own_storage : (d : ℕ) → storage_at s senses d ≡ Parameter → storage_of s sense (representative s senses d) ≡ Parameter
  own_storage d h = by (linkage_of s sense d) refl h
    where
      by : (linkage : Linkage) → linkage_of s sense d ≡ linkage
          → (elim linkage as (λ _. Storage) [ Internal ↦ (elim (storage_of s sense (representative s senses d)) as (λ _. Storage) [ Declared ↦ if declares_function s sense d then Declared else Static | other ↦ other ]) | _ ↦ storage_of s sense d ]) ≡ Parameter
          → storage_of s sense (representative s senses d) ≡ Parameter
      by Internal is h = kept_storage (storage_of s sense (representative s senses d)) (declares_function s sense d) h
      by External is h = let same : representative s senses d ≡ d = ap (chosen d) is in subst (λ (x : ℕ). storage_of s sense x ≡ Parameter) (sym same) h
      by Local is h = let same : representative s senses d ≡ d = ap (chosen d) is in subst (λ (x : ℕ). storage_of s sense x ≡ Parameter) (sym same) h

  declared_bare : (d : ℕ) (what : Declares) → IsDeclaredAt s senses d what → what.storage ≡ Parameter → what.body ≡ None
  declared_bare d what (inr (c, literal, is)) storage = absurd (by (is_some (function_around s sense d)) (ap (λ (x : Declares). x.storage) (sym is) ∙ storage))
    where
      by : (b : Bool) → (if b then Automatic else Static) ≡ Parameter → ⊥
      by true e = cc
      by false e = cc
  declared_bare d what (inl is) storage = by (declares_entity s senses d) (entity_type s senses d) is
    where
      by : (x : Bool) (t : Option Ctype) → (if x then option_map (declared_as s senses d) t else None) ≡ Some what → what.body ≡ None
      by false t is = cc
      by true None is = cc
      by true (Some t) is =
          let same : declared_as s senses d t ≡ what = some_same is in
          let own = own_storage d (ap (λ (x : Declares). x.storage) same ∙ storage) in
          sym (ap (λ (x : Declares). x.body) same) ∙ bare (representative s senses d) (parameter_is (representative s senses d) own)

  no_body : (body : Option Core) (b : Option ℕ) → SameBody numbering u body b → body ≡ None → b ≡ None
  no_body None None same e = refl
  no_body None (Some b) same e = absurd same
  no_body (Some c) b same e = cc

pub parameters_bare : ParametersBare
parameters_bare s senses numbering u grown made e entity at storage =
    let lt : e < length u.entities.items = slice_get_within u.entities.items e entity at in
    let (d, what, declared, number) = made.no_other_entity e lt in
    let (e2, x2, number2, at2, is) = made.each_declared d what declared in
    let same_number : e2 ≡ e = some_same (sym number2 ∙ number) in
    let same : x2 ≡ entity = some_same (sym at2 ∙ (ap (λ (k : ℕ). slice_get u.entities.items k) same_number ∙ at)) in
    let own : IsEntityOf numbering u s.unit what entity = subst (λ (x : Entity). IsEntityOf numbering u s.unit what x) same is in
    no_body s senses numbering u grown made what.body entity.body own.body (declared_bare s senses numbering u grown made d what declared (sym own.storage ∙ storage))
