-- The nodes of a function's block that stand neither above a block in it nor below that one.
use Rattle.std.proofs.Common.{arith, ◌≡◌, ◌<◌, ◌||◌, nat_eq, ℕ, Bool, true, false, List, ◌∷◌, refl, sym, subst, ◌⊎◌, inl, inr}
use Rattle.std.proofs.lemmas.Bool.{eqb-true}
use Rattle.c_grammar.specs.Productions.{p_unit, p_external, p_block, p_statement, p_cast, p_unary, p_post}
use Rattle.c_senses.specs.Tree.{Source, production_at, children_at, is_a, left_of}
use Rattle.core_node_laws.specs.near_nodes.Holding.{Closed}
use Rattle.parsed_tree_laws.specs.nesting_laws.Nested.{Nested}
use Rattle.parsed_tree_laws.proofs.placed_laws.Climbing.{Grown}
use Rattle.parsed_tree_laws.specs.span_laws.Spans.{Spanned}
use Rattle.declaration_laws.specs.declared_type_laws.owner_laws.passed.definition_laws.scope_laws.Beneath.{Beneath, part, deeper}
use Rattle.declaration_laws.specs.declared_type_laws.owner_laws.passed.definition_laws.scope_laws.Scoped.{IsPart}
use Rattle.declaration_laws.proofs.declared_type_laws.owner_laws.passed.definition_laws.scope_laws.Tree.{further}
use Rattle.core_node_laws.proofs.standing_laws.Climbing.{in_list, list_in}

clash : {X : Type 0} → (b : Bool) → b ≡ true → b ≡ false → X
clash true e f = cc
clash false e f = cc

module _ (s : Source) (grown : Grown s) (nested : Nested s) (block b : ℕ) where
  abbrev pub Down : ℕ → ℕ → Type 0
  Down a c = Beneath (IsPart s) a c

  abbrev pub IsBlockish : ℕ → Type 0
  IsBlockish i = (is_a s p_block i || is_a s p_statement i) ≡ true

  pub smaller : (a c : ℕ) → Down a c → c < a
  smaller a c (part r) = grown.before a c r
  smaller a c (deeper {i = i} d r) = let one = smaller a i d in let two = grown.before i c r in omega (arith, one, two)

  -- what stands above a part stands above its node, or is that one
  pub up_one : (a i c : ℕ) → IsPart s i c → Down a c → (a ≡ i) ⊎ Down a i
  up_one a i c r (part q) = inl (grown.once a i c q r)
  up_one a i c r (deeper {i = j} d q) = inr (subst (λ (k : ℕ). Down a k) (grown.once j i c q r) d)

  no_two : {X : Type 0} → (x p q : ℕ) → is_a s p x ≡ true → nat_eq p q ≡ false → is_a s q x ≡ true → X
  no_two x p q is differ other = clash (is_a s q x) other (subst (λ (y : ℕ). nat_eq y q ≡ false) (sym (eqb-true (production_at s x) p is)) differ)

  -- above blocks and statements stand blocks, statements, external declarations and the root
  abbrev pub Above : ℕ → Type 0
  Above i = IsBlockish i ⊎ ((is_a s p_external i ≡ true) ⊎ (is_a s p_unit i ≡ true))

  or_right : (x y : Bool) → y ≡ true → (x || y) ≡ true
  or_right true y e = refl
  or_right false y e = e

  pub parent_kind : (i c : ℕ) → IsPart s i c → IsBlockish c → (is_a s p_external i ≡ true) ⊎ IsBlockish i
  parent_kind i c r is = by (is_a s p_block c) (is_a s p_statement c) refl refl is
    where
      of_block : (x y : Bool) → is_a s p_external i ≡ x → is_a s p_statement i ≡ y → (x || y) ≡ true → (is_a s p_external i ≡ true) ⊎ IsBlockish i
      of_block true y ex ey h = inl ex
      of_block false true ex ey h = inr (or_right (is_a s p_block i) (is_a s p_statement i) ey)
      of_block false false ex ey h = cc

      by : (x y : Bool) → is_a s p_block c ≡ x → is_a s p_statement c ≡ y → (x || y) ≡ true → (is_a s p_external i ≡ true) ⊎ IsBlockish i
      by true y ex ey h = of_block (is_a s p_external i) (is_a s p_statement i) refl refl (nested.blocks i c r ex)
      by false true ex ey h = inr (nested.statements i c r ey)
      by false false ex ey h = cc

  above_one : (i c : ℕ) → IsPart s i c → Above c → Above i
  above_one i c r (inl is) = by (parent_kind i c r is)
    where
      by : (is_a s p_external i ≡ true) ⊎ IsBlockish i → Above i
      by (inl e) = inr (inl e)
      by (inr e) = inl e
  above_one i c r (inr (inl is)) = inr (inr (nested.externals i c r is))
  above_one i c r (inr (inr is)) = clash (is_a s p_unit c) is (nested.units i c r)

  pub above_blocks : (a c : ℕ) → Down a c → Above c → Above a
  above_blocks a c (part r) h = above_one a c r h
  above_blocks a c (deeper {i = i} d r) h = above_blocks a i d (above_one i c r h)

  abbrev pub Off : ℕ → Type 0
  Off i = Down block i × (i ≡ b → ⊥) × (Down b i → ⊥) × (Down i b → ⊥)

  off_part : (i c : ℕ) → Off i → IsPart s i c → Off c
  off_part i c off r = (
    deeper off.0 r,
    λ same. off.3 (part (subst (λ (k : ℕ). IsPart s i k) same r)),
    λ down. by (up_one b i c r down),
    λ up. off.3 (further (IsPart s) i c b (part r) up),
  )
    where
      by : (b ≡ i) ⊎ Down b i → ⊥
      by (inl same) = off.1 (sym same)
      by (inr down) = off.2 down

  module _ (blockish : IsBlockish b) (spanned : Spanned s) (lefts : (i first p : ℕ) (rest : List ℕ) → is_a s p_post i ≡ true → children_at s i ≡ first ∷ rest → IsPart s p i → IsPart s p (left_of s first)) where
    -- an expression isn't above the block
    no_above : (p : ℕ) → (is_a s p_unary p || is_a s p_cast p) ≡ true → Down p b → ⊥
    no_above p is up = by (is_a s p_unary p) (is_a s p_cast p) refl refl is
      where
        never : (q : ℕ) → is_a s q p ≡ true → nat_eq q p_block ≡ false → nat_eq q p_statement ≡ false → nat_eq q p_external ≡ false → nat_eq q p_unit ≡ false → Above p → ⊥
        never q e x y z u (inl h) = pick (is_a s p_block p) (is_a s p_statement p) refl refl h
          where
            pick : (m n : Bool) → is_a s p_block p ≡ m → is_a s p_statement p ≡ n → (m || n) ≡ true → ⊥
            pick true n em en h = no_two p q p_block e x em
            pick false true em en h = no_two p q p_statement e y en
            pick false false em en h = cc
        never q e x y z u (inr (inl h)) = no_two p q p_external e z h
        never q e x y z u (inr (inr h)) = no_two p q p_unit e u h

        by : (x y : Bool) → is_a s p_unary p ≡ x → is_a s p_cast p ≡ y → (x || y) ≡ true → ⊥
        by true y ex ey h = never p_unary ex refl refl refl refl (above_blocks p b up (inl blockish))
        by false true ex ey h = never p_cast ey refl refl refl refl (above_blocks p b up (inl blockish))
        by false false ex ey h = cc

    left_off : (i first p : ℕ) (rest : List ℕ) → is_a s p_post i ≡ true → children_at s i ≡ first ∷ rest → IsPart s p i → ((c : ℕ) → IsPart s p c → Down block c) → Off i → Off (left_of s first)
    left_off i first p rest post e r inside off =
        let own : IsPart s p (left_of s first) = lefts i first p rest post e r in
        let k = in_list (children_at s p) i r in
        let over = spanned.parents p k.0 i k.1 post in (
          inside (left_of s first) own,
          λ same. no_above p over (part (subst (λ (x : ℕ). IsPart s p x) same own)),
          λ down. by (up_one b p (left_of s first) own down),
          λ up. no_above p over (further (IsPart s) p (left_of s first) b (part own) up),
        )
      where
        by : (b ≡ p) ⊎ Down b p → ⊥
        by (inl same) = off.2 (part (subst (λ (x : ℕ). IsPart s x i) (sym same) r))
        by (inr down) = off.2 (deeper down r)

    pub closed : Closed s Off
    closed = record {
      parts = λ i c has off. off_part i c off (list_in (children_at s i) has.0 c has.1);
      lefts = λ i first rest post e off. left i first rest post e off off.0;
    }
      where
        left : (i first : ℕ) (rest : List ℕ) → is_a s p_post i ≡ true → children_at s i ≡ first ∷ rest → Off i → Down block i → Off (left_of s first)
        left i first rest post e off (part r) = left_off i first block rest post e r (λ c h. part h) off
        left i first rest post e off (deeper {i = p} d r) = left_off i first p rest post e r (λ c h. deeper d h) off
