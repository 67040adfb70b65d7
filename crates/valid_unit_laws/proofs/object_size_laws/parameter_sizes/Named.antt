-- What the row of a parameter's declarator asks, where the parameter is one of a definition.
use Rattle.std.proofs.Common.{arith, ◌≡◌, ◌<◌, ◌≤◌, ◌⊎◌, inl, inr, ℕ, zero, suc, Bool, true, false, ◌&&◌, ◌||◌, not, cond, List, [], ◌∷◌, Option, Some, None, refl, sym, ap, ◌∙◌}
use Rattle.std.specs.Prelude.{if◌then◌else◌}
use Rattle.pta_base.specs.declared.kind.Kind.TheVariants.{Operand}
use Rattle.c_types.specs.Trees.{Ctype}
use Rattle.c_grammar.specs.Productions.{p_field, p_parameter}
use Rattle.c_senses.specs.Tree.{Source, children_at, is_a, parent_of}
use Rattle.c_senses.specs.World.{World}
use Rattle.c_senses.specs.Given.{Given, Fits, given_if}
use Rattle.c_senses.specs.Declarators.{inner_derivations, derives_nothing, is_first_suffix, is_next_to_name, is_defined_list}
use Rattle.c_senses.specs.Entities.{defined_parameter, is_parameter_complete, parameter_named, named_row, by_place}
use Rattle.c_senses.specs.Sense.{Sense, IsDeclarator, Derivation, sense_in}
use Rattle.parsed_tree_laws.specs.family_laws.Families.{Ascend}
use Rattle.core_node_laws.proofs.built_unit_laws.run_laws.Times.{known_at, known, unknown}

when_true : {A : Type 0} (b : Bool) (x y : A) → b ≡ true → cond b x y ≡ x
when_true true x y e = refl
when_true false x y e = cc

when_false : {A : Type 0} (b : Bool) (x y : A) → b ≡ false → cond b x y ≡ y
when_false true x y e = cc
when_false false x y e = refl

and_left : (a b : Bool) → (a && b) ≡ true → a ≡ true
and_left true b e = refl
and_left false b e = cc

and_right : (a b : Bool) → (a && b) ≡ true → b ≡ true
and_right true b e = e
and_right false b e = cc

and_both : (a b : Bool) → a ≡ true → b ≡ true → (a && b) ≡ true
and_both true b e h = h
and_both false b e h = cc

module _ (w : World) (s : Source) (sense : ℕ → Sense) (at : ℕ) where
  pub parameter_told : (r : ℕ) (t adjusted : Ctype) (g : Given Sense) (x : Sense) → by_place w s sense at r t adjusted g ≡ Fits x → (p : ℕ) → parent_of s at ≡ Some p → is_a s p_field p ≡ false → is_a s p_parameter p ≡ true → defined_parameter w s sense at ≡ true
      → is_parameter_complete w s sense adjusted ≡ true
  parameter_told r t adjusted g x e p parent field parameter defined =
      let other : Given Sense = if is_a s p_parameter p then parameter_named w s sense at r adjusted g else named_row w s sense at r t g in
      let told : (if is_a s p_field p then g else other) ≡ Fits x =
      sym (ap (λ (o : Option ℕ). elim o as (λ _. Given Sense) [
        | None ↦ g
        | Some q ↦ if is_a s p_field q then g else (if is_a s p_parameter q then parameter_named w s sense at r adjusted g else named_row w s sense at r t g)
      ]) parent) ∙ e in
      by (defined_parameter w s sense at) (is_parameter_complete w s sense adjusted) defined
      (sym (when_true (is_a s p_parameter p) (parameter_named w s sense at r adjusted g) (named_row w s sense at r t g) parameter) ∙ (sym (when_false (is_a s p_field p) g other field) ∙ told))
    where
      by : (a b : Bool) → a ≡ true → given_if (not a || b) Operand r g ≡ Fits x → b ≡ true
      by true true e k = refl
      by true false e k = cc
      by false b e k = cc

-- a list is that of a definition where the declarator stands, if it is at the end
module _ (s : Source) (senses : List Sense) (m : ℕ) (w v : World) where
  abbrev f : ℕ → Sense
  f = sense_in senses

  abbrev F : ℕ → Sense
  F = known_at s senses m

  abbrev with_declarator : Sense → List Derivation → List Derivation
  with_declarator x rest = elim x as (λ _. List Derivation) [ IsDeclarator name ds ↦ ds | _ ↦ rest ]

  decide : (a b : ℕ) → (a < b) ⊎ (b ≤ a)
  decide a zero = inr (omega arith)
  decide zero (suc b) = inl (omega arith)
  decide (suc a) (suc b) = elim (decide a b) [ inl lt ↦ inl (omega (arith, lt)) | inr le ↦ inr (omega (arith, le)) ]

  none_known : (low : ℕ) (ks : List ℕ) → m ≤ low → Ascend low ks → inner_derivations w s F ks ≡ []
  none_known low [] le h = refl
  none_known low (k ∷ ks) le h = let first = h.0 in ap (λ (x : Sense). with_declarator x (inner_derivations w s F ks)) (unknown s senses m k (omega (arith, le, first))) ∙ none_known (suc k) ks (omega (arith, le, first)) h.1

  nothing_derived : (low : ℕ) (ks : List ℕ) → Ascend low ks → derives_nothing v s f (inner_derivations v s f ks) ≡ true → derives_nothing w s F (inner_derivations w s F ks) ≡ true
  nothing_derived low [] h e = refl
  nothing_derived low (k ∷ ks) h e = elim (decide k m) [
    | inl lt ↦ ap (λ (x : Sense). derives_nothing w s F (with_declarator x (inner_derivations w s F ks))) (known s senses m k lt) ∙ by (f k) e (nothing_derived (suc k) ks h.1)
    | inr le ↦ ap (λ (x : Sense). derives_nothing w s F (with_declarator x (inner_derivations w s F ks))) (unknown s senses m k le) ∙ ap (λ (ds : List Derivation). derives_nothing w s F ds) (none_known (suc k) ks (omega (arith, le)) h.1)
  ]
    where
      by : (x : Sense) → derives_nothing v s f (with_declarator x (inner_derivations v s f ks)) ≡ true → (derives_nothing v s f (inner_derivations v s f ks) ≡ true → derives_nothing w s F (inner_derivations w s F ks) ≡ true)
          → derives_nothing w s F (with_declarator x (inner_derivations w s F ks)) ≡ true
      by (IsDeclarator name []) k more = refl
      by (IsDeclarator name (d ∷ ds)) k more = cc
      by x k more = more k

  pub list_defined : ((i : ℕ) → Ascend 0 (children_at s i)) → (suffix : ℕ) → is_defined_list v s f suffix ≡ true → is_defined_list w s F suffix ≡ true
  list_defined ascend suffix h = and_both (is_next_to_name w s F suffix) _ (by (parent_of s suffix) (and_left (is_next_to_name v s f suffix) _ h)) (and_right (is_next_to_name v s f suffix) _ h)
    where
      by : (o : Option ℕ) → (elim o as (λ _. Bool) [ None ↦ false | Some d ↦ is_first_suffix v s f d suffix && derives_nothing v s f (inner_derivations v s f (children_at s d)) ]) ≡ true
          → (elim o as (λ _. Bool) [ None ↦ false | Some d ↦ is_first_suffix w s F d suffix && derives_nothing w s F (inner_derivations w s F (children_at s d)) ]) ≡ true
      by None k = cc
      by (Some d) k = and_both (is_first_suffix w s F d suffix) _ (and_left (is_first_suffix v s f d suffix) _ k) (nothing_derived 0 (children_at s d) (ascend d) (and_right (is_first_suffix v s f d suffix) _ k))
