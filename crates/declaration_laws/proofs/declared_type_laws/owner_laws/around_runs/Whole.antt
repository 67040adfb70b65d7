-- The definition around a name stands above the name's declaration.
use Rattle.std.proofs.Common.{◌≡◌, nat_eq, ℕ, zero, suc, ◌&&◌, ◌||◌, Bool, true, false, Option, Some, None, length, refl, sym, ap, ◌∙◌, subst, inl, inr}
use Rattle.std.specs.Prelude.{is_some, option_and_then, if◌then◌else◌}
use Rattle.std.proofs.lemmas.Bool.{eqb-true}
use Rattle.c_grammar.specs.Productions.{p_unit, p_external, p_rest, p_field, p_declaration, p_block}
use Rattle.c_senses.specs.Names.{source_of, numbered}
use Rattle.c_senses.specs.Tree.{Source, production_at, is_a, child_of, parent_of, above_within, nearest_above}
use Rattle.c_senses.specs.Sense.{Sense, sense_in}
use Rattle.c_senses.specs.Declarators.{is_outermost, outermost_of, declaration_around}
use Rattle.c_senses.specs.Entities.{declaration_of}
use Rattle.declaration_laws.specs.definition_laws.scope_laws.Beneath.{Beneath, part, deeper}
use Rattle.declaration_laws.specs.definition_laws.scope_laws.Scoped.{IsPart}
use Rattle.declaration_laws.proofs.definition_laws.scope_laws.Tree.{further, compare, Order}
use Rattle.core_node_laws.specs.standing_laws.Standing.{IsGrown}
use Rattle.core_node_laws.proofs.standing_laws.Climbing.{parent_holds}
use Rattle.declaration_laws.proofs.declared_type_laws.owner_laws.Below.{rooted_of}
use Rattle.declaration_laws.proofs.declared_type_laws.owner_laws.Whole.{grown_of}
use Rattle.declaration_laws.proofs.declared_type_laws.owner_laws.automatic_runs.Whole.{automatic_runs}
use Rattle.declaration_laws.proofs.declared_type_laws.owner_laws.held_runs.Whole.{runs_are_held}
use Rattle.declaration_laws.specs.declared_type_laws.owner_laws.around_runs.Around.{InitialisersStand}

none_some : {A : Type 0} → {x : A} → ◌≡◌ {A = Option A} None (Some x) → ⊥
none_some e = cc

some_same : {A : Type 0} → {x y : A} → ◌≡◌ {A = Option A} (Some x) (Some y) → x ≡ y
some_same e = cc

clash : {X : Type 0} → (b : Bool) → b ≡ true → b ≡ false → X
clash true e f = cc
clash false e f = cc

left_true : (a b : Bool) → (a && b) ≡ true → a ≡ true
left_true true b e = refl
left_true false b e = cc

module _ (s : Source) (grown : IsGrown s) where
  -- what is found above a node stands above it
  found_above : (test : ℕ → Bool) (fuel p q c : ℕ) → IsPart s p c → above_within s test fuel (Some p) ≡ Some q → Beneath (IsPart s) q c
  found_above test zero p q c r e = cc
  found_above test (suc fuel) p q c r e = by (test p) (parent_of s p) refl e (λ x h f. found_above test fuel x q p h f)
    where
      by : (b : Bool) (o : Option ℕ) → parent_of s p ≡ o → (if b then Some p else above_within s test fuel (parent_of s p)) ≡ Some q
          → ((x : ℕ) → IsPart s x p → above_within s test fuel (Some x) ≡ Some q → Beneath (IsPart s) q p) → Beneath (IsPart s) q c
      by true o up e more = subst (λ (k : ℕ). Beneath (IsPart s) k c) (some_same e) (part r)
      by false None up e more = absurd (none_some (sym (nothing fuel) ∙ (sym (ap (above_within s test fuel) up) ∙ e)))
        where
          nothing : (fuel : ℕ) → above_within s test fuel None ≡ None
          nothing zero = refl
          nothing (suc fuel) = refl
      by false (Some x) up e more = deeper (more x (parent_holds s grown x p up) (sym (ap (above_within s test fuel) up) ∙ e)) r

  nearest_beneath : (test : ℕ → Bool) (c q : ℕ) → nearest_above s test c ≡ Some q → Beneath (IsPart s) q c
  nearest_beneath test c q e = by (parent_of s c) refl e
    where
      nothing : (fuel : ℕ) → above_within s test fuel None ≡ None
      nothing zero = refl
      nothing (suc fuel) = refl

      by : (o : Option ℕ) → parent_of s c ≡ o → above_within s test (length s.nodes) (parent_of s c) ≡ Some q → Beneath (IsPart s) q c
      by None up e = absurd (none_some (sym (nothing (length s.nodes)) ∙ (sym (ap (above_within s test (length s.nodes)) up) ∙ e)))
      by (Some p) up e = found_above test (length s.nodes) p q c (parent_holds s grown p c up) (sym (ap (above_within s test (length s.nodes)) up) ∙ e)

  around_above : (r d x : ℕ) → declaration_around s r ≡ Some d → IsPart s r x → Beneath (IsPart s) d x
  around_above r d x e h = by (is_a s p_rest r || is_a s p_field r) e
    where
      by : (b : Bool) → (if b then parent_of s r else Some r) ≡ Some d → Beneath (IsPart s) d x
      by true f = deeper (part (parent_holds s grown d r f)) h
      by false f = subst (λ (k : ℕ). Beneath (IsPart s) k x) (some_same f) (part h)

  -- the declarator and the declaration of a name stand above it
  pub record DeclaredIn (sense : ℕ → Sense) (leaf d : ℕ) : Type 0 where
    pub declarator : ℕ
    pub outermost : outermost_of s leaf ≡ Some declarator
    pub around : option_and_then (declaration_around s) (parent_of s declarator) ≡ Some d
    pub above : Beneath (IsPart s) d leaf

  declared_in : (sense : ℕ → Sense) (leaf d : ℕ) → declaration_of s sense leaf ≡ Some d → DeclaredIn sense leaf d
  declared_in sense leaf d e = by (outermost_of s leaf) refl e
    where
      of_parent : (q : ℕ) → outermost_of s leaf ≡ Some q → (o : Option ℕ) → parent_of s q ≡ o → option_and_then (declaration_around s) o ≡ Some d → DeclaredIn sense leaf d
      of_parent q at None up e = cc
      of_parent q at (Some r) up e = record {
        declarator = q;
        outermost = at;
        around = ap (option_and_then (declaration_around s)) up ∙ e;
        above = further (IsPart s) d q leaf (around_above r d q e (parent_holds s grown r q up)) (nearest_beneath (is_outermost s) leaf q at);
      }

      by : (o : Option ℕ) → outermost_of s leaf ≡ o → option_and_then (declaration_around s) (option_and_then (parent_of s) o) ≡ Some d → DeclaredIn sense leaf d
      by None at e = cc
      by (Some q) at e = of_parent q at (parent_of s q) refl e

  -- what passes a test above
  found_passes : (test : ℕ → Bool) (fuel : ℕ) (o : Option ℕ) (q : ℕ) → above_within s test fuel o ≡ Some q → test q ≡ true
  found_passes test zero o q e = cc
  found_passes test (suc fuel) None q e = cc
  found_passes test (suc fuel) (Some p) q e = by (test p) refl e (λ f. found_passes test fuel (parent_of s p) q f)
    where
      by : (b : Bool) → test p ≡ b → (if b then Some p else above_within s test fuel (parent_of s p)) ≡ Some q → (above_within s test fuel (parent_of s p) ≡ Some q → test q ≡ true) → test q ≡ true
      by true is e later = subst (λ (k : ℕ). test k ≡ true) (some_same e) is
      by false is e later = later e

  no_two : (x p q : ℕ) → is_a s p x ≡ true → nat_eq p q ≡ false → is_a s q x ≡ true → ⊥
  no_two x p q is differ other = clash (is_a s q x) other (subst (λ (y : ℕ). nat_eq y q ≡ false) (sym (eqb-true (production_at s x) p is)) differ)

  -- no external declaration stands below a declaration
  none_below : (d p : ℕ) → is_a s p_declaration d ≡ true → Beneath (IsPart s) d p → is_a s p_external p ≡ true → ⊥
  none_below d p is (part r) external = no_two d p_declaration p_unit is refl (grown.nested.externals d p r external)
  none_below d p is (deeper {i = i} b r) external = no_unit i b (grown.nested.externals i p r external)
    where
      no_unit : (c : ℕ) → Beneath (IsPart s) d c → is_a s p_unit c ≡ true → ⊥
      no_unit c (part h) e = clash (is_a s p_unit c) e (grown.nested.units d c h)
      no_unit c (deeper {i = j} x h) e = clash (is_a s p_unit c) e (grown.nested.units j c h)

  pub below_definition : (sense : ℕ → Sense) (leaf d p : ℕ) → declaration_of s sense leaf ≡ Some d → is_a s p_declaration d ≡ true → nearest_above s (λ q. is_a s p_external q && is_some (child_of s p_block q)) leaf ≡ Some p
      → (is_a s p_external p ≡ true) × Beneath (IsPart s) p d
  below_definition sense leaf d p declares is above =
      let external : is_a s p_external p ≡ true = left_true (is_a s p_external p) _ (found_passes (λ q. is_a s p_external q && is_some (child_of s p_block q)) (length s.nodes) (parent_of s leaf) p above) in
      (external, by external (compare (IsPart s) (rooted_of s grown).single d p leaf (declared_in sense leaf d declares).above (nearest_beneath (λ q. is_a s p_external q && is_some (child_of s p_block q)) leaf p above)))
    where
      by : is_a s p_external p ≡ true → Order (IsPart s) d p → Beneath (IsPart s) p d
      by external (inl same) = absurd (no_two d p_declaration p_external is refl (subst (λ (k : ℕ). is_a s p_external k ≡ true) (sym same) external))
      by external (inr (inl down)) = absurd (none_below d p is down external)
      by external (inr (inr up)) = up

pub initialisers_stand : InitialisersStand
initialisers_stand tokens unit tree tag_number name u cut is built leaf init p x n declares auto outer initial sensed above =
    let s : Source = numbered tag_number (source_of tokens tree) in
    let run = automatic_runs tokens unit tree tag_number built.senses cut is built.are_senses built.whole leaf init x n declares auto outer initial sensed in
    let own = below_definition s (grown_of tokens unit tree tag_number cut is) (sense_in built.senses) leaf run.declaration p run.declares run.is_declaration above in
    runs_are_held tokens unit tree tag_number name u cut is built run.declaration p x run.is_declaration own.0 own.1 run.runs
