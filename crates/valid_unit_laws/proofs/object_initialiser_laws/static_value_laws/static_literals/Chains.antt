-- Where what is kept of a tree stands: in a block, or in an external declaration without one.
use Rattle.std.proofs.Common.{arith, ◌≡◌, ◌<◌, ◌≤◌, ◌+◌, ◌⊎◌, inl, inr, ℕ, zero, suc, nat_eq, ◌==◌, ◌&&◌, ◌||◌, not, Bool, true, false, List, [], ◌∷◌, map, length, Option, Some, None, refl, sym, ap, ◌∙◌, subst}
use Rattle.std.specs.Prelude.{is_some, if◌then◌else◌}
use Rattle.std.proofs.lemmas.Bool.{eqb-true}
use Rattle.c_grammar.specs.Terminals.{contains}
use Rattle.c_grammar.specs.Productions.{p_unit, p_external, p_rest, p_declaration, p_block, p_statement}
use Rattle.c_senses.specs.Tree.{Source, is_a, production_at, children_at, parent_of, child_of, above_within, nearest_above}
use Rattle.parsed_tree_laws.proofs.placed_laws.Climbing.{Grown}
use Rattle.core_node_laws.specs.standing_laws.Standing.{IsGrown}
use Rattle.core_node_laws.proofs.standing_laws.Climbing.{parent_is, parent_holds, none_above}
use Rattle.declaration_laws.proofs.function_laws.passed.definition_laws.linkage_laws.Seen.{list_in}
use Rattle.parsed_tree_laws.specs.family_laws.Families.{IsChild}
use Rattle.parsed_tree_laws.specs.grown_parts.Parts.{Brings, IsBrought}
use Rattle.parsed_tree_laws.proofs.grown_parts.Declaring.{AllIn}
use Rattle.core_node_laws.proofs.count_laws.once_nodes.Rooted.{found_where}
use Rattle.declaration_laws.specs.function_laws.passed.definition_laws.Definitions.{is_definition, InDefinition, itself, below}
use Rattle.valid_unit_laws.proofs.object_initialiser_laws.static_value_laws.static_literals.Lists.{block_parts, name_parts, external_list}

no_both : (b : Bool) → b ≡ true → b ≡ false → ⊥
no_both b e f = let both : true ≡ false = sym e ∙ f in cc

-- a block, or an external declaration without one
abbrev pub is_top : Source → ℕ → Bool
is_top s i = is_a s p_block i || (is_a s p_external i && not (is_some (child_of s p_block i)))

-- it stands in a node that passes
pub data Chained (s : Source) (test : ℕ → Bool) : ℕ → Type 0 where
  top : {p i : ℕ} → test p ≡ true → IsChild s p i → Chained s test i
  up : {p i : ℕ} → Chained s test p → IsChild s p i → Chained s test i

in_all : (allowed : List ℕ) (f : ℕ → ℕ) (ks : List ℕ) (c : ℕ) → AllIn allowed (map f ks) → contains ks c ≡ true → contains allowed (f c) ≡ true
in_all allowed f [] c h at = cc
in_all allowed f (k ∷ ks) c h at = by (nat_eq k c) refl at (λ more. in_all allowed f ks c h.1 more)
  where
    by : (b : Bool) → nat_eq k c ≡ b → (b || contains ks c) ≡ true → (contains ks c ≡ true → contains allowed (f c) ≡ true) → contains allowed (f c) ≡ true
    by true same e later = subst (λ (x : ℕ). contains allowed (f x) ≡ true) (eqb-true k c same) h.0
    by false other e later = later e

module _ (s : Source) (grown : IsGrown s) (tree : Grown s) (brought : IsBrought s) where
  child_in : (p c : ℕ) → IsChild s p c → contains (children_at s p) c ≡ true
  child_in p c h = list_in (children_at s p) h.0 c h.1

  apart : (i a b : ℕ) → is_a s a i ≡ true → (a == b) ≡ false → is_a s b i ≡ false
  apart i a b is other = ap (λ (q : ℕ). q == b) (eqb-true (production_at s i) a is) ∙ other

  -- the way up is long enough
  found : (test : ℕ → Bool) (fuel p : ℕ) → (test p ≡ true) ⊎ Chained s test p → p < length s.nodes → length s.nodes ≤ p + fuel → is_some (above_within s test fuel (Some p)) ≡ true
  found test zero p h inside enough = absurd (omega (arith, inside, enough))
  found test (suc fuel) p h inside enough = by (test p) refl h (λ q child more. found test fuel q more (tree.within q p (child_in q p child)) (let lt = tree.before q p (child_in q p child) in omega (arith, lt, enough)))
    where
      Later : Type 0
      Later = (q : ℕ) → IsChild s q p → (test q ≡ true) ⊎ Chained s test q → is_some (above_within s test fuel (Some q)) ≡ true

      by : (b : Bool) → test p ≡ b → (test p ≡ true) ⊎ Chained s test p → ((q : ℕ) → IsChild s q p → (test q ≡ true) ⊎ Chained s test q → is_some (above_within s test fuel (Some q)) ≡ true)
          → is_some (if b then Some p else above_within s test fuel (parent_of s p)) ≡ true
      by true e h later = refl
      by false e (inl is) later = absurd (no_both (test p) is e)
      by false e (inr (top {p = q} is child)) later = ap (λ (o : Option ℕ). is_some (above_within s test fuel o)) (parent_is s grown q p child) ∙ later q child (inl is)
      by false e (inr (up {p = q} more child)) later = ap (λ (o : Option ℕ). is_some (above_within s test fuel o)) (parent_is s grown q p child) ∙ later q child (inr more)

  pub chain_found : (test : ℕ → Bool) (i : ℕ) → Chained s test i → is_some (nearest_above s test i) ≡ true
  chain_found test i (top {p = p} is child) =
      ap (λ (o : Option ℕ). is_some (above_within s test (length s.nodes) o)) (parent_is s grown p i child) ∙ found test (length s.nodes) p (inl is) (tree.within p i (child_in p i child)) (omega arith)
  chain_found test i (up {p = p} more child) =
      ap (λ (o : Option ℕ). is_some (above_within s test (length s.nodes) o)) (parent_is s grown p i child) ∙ found test (length s.nodes) p (inr more) (tree.within p i (child_in p i child)) (omega arith)

  -- what stands in a statement or a declaration within a definition stands in a block
  pub in_block : (i : ℕ) → (is_a s p_declaration i ≡ true) ⊎ (is_a s p_statement i ≡ true) → InDefinition s i → Chained s (is_top s) i
  in_block i which (itself is) = absurd (no_both (is_a s p_external i) (left (is_a s p_external i) _ is) (by which))
    where
      left : (a b : Bool) → (a && b) ≡ true → a ≡ true
      left true b e = refl
      left false b e = cc

      by : (is_a s p_declaration i ≡ true) ⊎ (is_a s p_statement i ≡ true) → is_a s p_external i ≡ false
      by (inl h) = apart i p_declaration p_external h refl
      by (inr h) = apart i p_statement p_external h refl
  in_block i which (below {p = p} child more) = pick (is_a s p_block p) refl (is_a s p_statement p) refl (around which) (λ statement. in_block p (inr statement) more)
    where
      around : (is_a s p_declaration i ≡ true) ⊎ (is_a s p_statement i ≡ true) → (is_a s p_block p || is_a s p_statement p) ≡ true
      around (inl h) = grown.nested.declarations p i (child_in p i child) h
      around (inr h) = grown.nested.statements p i (child_in p i child) h

      pick : (a : Bool) → is_a s p_block p ≡ a → (b : Bool) → is_a s p_statement p ≡ b → (a || b) ≡ true → (is_a s p_statement p ≡ true → Chained s (is_top s) p) → Chained s (is_top s) i
      pick true e b f h later = top (ap (λ (x : Bool). x || (is_a s p_external p && not (is_some (child_of s p_block p)))) e) child
      pick false e true f h later = up (later f) child
      pick false e false f h later = cc

  -- an external declaration with the rest of one has no block
  rest_alone : (p q : ℕ) → is_a s p_external p ≡ true → IsChild s p q → is_a s p_rest q ≡ true → is_some (child_of s p_block p) ≡ false
  rest_alone p q is child rest = lists (external_list _ (subst (λ (k : ℕ). Brings k 0 (map (production_at s) (children_at s p))) (eqb-true (production_at s p) p_external is) (brought p)))
    where
      none : (o : Option ℕ) → child_of s p_block p ≡ o → AllIn name_parts (map (production_at s) (children_at s p)) → is_some o ≡ false
      none None e h = refl
      none (Some b) e h =
          let there = found_where (is_a s p_block) (children_at s p) b e in
          let allowed : contains name_parts (production_at s b) ≡ true = in_all name_parts (production_at s) (children_at s p) b h (list_in (children_at s p) there.1.0 b there.1.1) in
          absurd (let bad : contains name_parts p_block ≡ true = ap (contains name_parts) (sym (eqb-true (production_at s b) p_block there.0)) ∙ allowed in never bad)
        where
          never : contains name_parts p_block ≡ true → ⊥
          never e = cc

      lists : AllIn block_parts (map (production_at s) (children_at s p)) ⊎ AllIn name_parts (map (production_at s) (children_at s p)) → is_some (child_of s p_block p) ≡ false
      lists (inl h) =
          let allowed : contains block_parts (production_at s q) ≡ true = in_all block_parts (production_at s) (children_at s p) q h (child_in p q child) in
          absurd (never (ap (contains block_parts) (sym (eqb-true (production_at s q) p_rest rest)) ∙ allowed))
        where
          never : contains block_parts p_rest ≡ true → ⊥
          never e = cc
      lists (inr h) = none (child_of s p_block p) refl h

  -- so what stands in the rest of a declaration is kept
  pub rest_chained : (a q i : ℕ) → IsChild s a q → IsChild s q i → is_a s p_rest q ≡ true → (is_a s p_declaration a ≡ true → InDefinition s a) → Chained s (is_top s) i
  rest_chained a q i outer child rest defined = pick (is_a s p_external a) refl (is_a s p_declaration a) refl (grown.nested.rests a q (child_in a q outer) rest)
    where
      or_then : (x y : Bool) → y ≡ true → (x || y) ≡ true
      or_then true y e = refl
      or_then false y e = e

      pick : (x : Bool) → is_a s p_external a ≡ x → (y : Bool) → is_a s p_declaration a ≡ y → (x || y) ≡ true → Chained s (is_top s) i
      pick true e y f h =
          let alone : is_some (child_of s p_block a) ≡ false = rest_alone a q e outer rest in
          up (top (or_then (is_a s p_block a) _ (ap (λ (b : Bool). b && not (is_some (child_of s p_block a))) e ∙ ap not alone)) outer) child
      pick false e true f h = up (up (in_block a (inl f) (defined f)) outer) child
      pick false e false f h = cc

  -- ---- outside of blocks

  -- a node that stands in something that does is no external declaration
  never_external : (i : ℕ) → Chained s (is_top s) i → is_a s p_external i ≡ false
  never_external i chain = by (is_a s p_external i) refl chain
    where
      not_unit : (r : ℕ) → is_a s p_unit r ≡ true → is_top s r ≡ false
      not_unit r h = two (is_a s p_block r) (is_a s p_external r) (not (is_some (child_of s p_block r))) (apart r p_unit p_block h refl) (apart r p_unit p_external h refl)
        where
          two : (a b c : Bool) → a ≡ false → b ≡ false → (a || (b && c)) ≡ false
          two true b c e f = cc
          two false true c e f = cc
          two false false c e f = refl

      no_more : (r : ℕ) → is_a s p_unit r ≡ true → Chained s (is_top s) r → ⊥
      no_more r h (top {p = q} is child) = no_both (is_a s p_unit r) h (grown.nested.units q r (child_in q r child))
      no_more r h (up {p = q} more child) = no_both (is_a s p_unit r) h (grown.nested.units q r (child_in q r child))

      by : (b : Bool) → is_a s p_external i ≡ b → Chained s (is_top s) i → b ≡ false
      by false e chain = refl
      by true e (top {p = p} is child) = let unit = grown.nested.externals p i (child_in p i child) e in absurd (no_both (is_top s p) is (not_unit p unit))
      by true e (up {p = p} more child) = absurd (no_more p (grown.nested.externals p i (child_in p i child) e) more)

  nothing_above : (test : ℕ → Bool) (n : ℕ) → above_within s test n None ≡ None
  nothing_above test zero = refl
  nothing_above test (suc n) = refl

  -- no definition is above an external declaration
  above_external : (p : ℕ) → is_a s p_external p ≡ true → nearest_above s (is_definition s) p ≡ None
  above_external p is = by (length s.nodes) (parent_of s p) refl
    where
      over_root : (n r : ℕ) → is_a s p_unit r ≡ true → above_within s (is_definition s) n (parent_of s r) ≡ None
      over_root n r unit = at (parent_of s r) refl
        where
          at : (o : Option ℕ) → parent_of s r ≡ o → above_within s (is_definition s) n o ≡ None
          at None e = nothing_above (is_definition s) n
          at (Some q) e = absurd (no_both (is_a s p_unit r) unit (grown.nested.units q r (parent_holds s grown q r e)))

      by : (n : ℕ) (o : Option ℕ) → parent_of s p ≡ o → above_within s (is_definition s) n o ≡ None
      by zero o e = refl
      by (suc n) None e = refl
      by (suc n) (Some r) e =
          let unit = grown.nested.externals r p (parent_holds s grown r p e) is in
          let off : is_definition s r ≡ false = ap (λ (b : Bool). b && is_some (child_of s p_block r)) (apart r p_unit p_external unit refl) in
          ap (λ (b : Bool). if b then Some r else above_within s (is_definition s) n (parent_of s r)) off ∙ over_root n r unit

  -- what stands in no block stands in no definition
  pub no_definition : (i : ℕ) → Chained s (is_top s) i → (Chained s (λ k. is_a s p_block k) i → ⊥) → nearest_above s (is_definition s) i ≡ None
  no_definition i (top {p = p} is child) none = pick (is_a s p_block p) refl (is_a s p_external p) refl (is_some (child_of s p_block p)) refl is
    where
      pick : (a : Bool) → is_a s p_block p ≡ a → (b : Bool) → is_a s p_external p ≡ b → (c : Bool) → is_some (child_of s p_block p) ≡ c → (a || (b && not c)) ≡ true → nearest_above s (is_definition s) i ≡ None
      pick true e b f c g h = absurd (none (top e child))
      pick false e true f false g h = none_above s grown (is_definition s) p i child (ap (λ (x : Bool). is_a s p_external p && x) g ∙ ap (λ (x : Bool). x && false) f) (above_external p f)
      pick false e true f true g h = cc
      pick false e false f c g h = cc
  no_definition i (up {p = p} more child) none =
      none_above s grown (is_definition s) p i child (ap (λ (b : Bool). b && is_some (child_of s p_block p)) (never_external p more)) (no_definition p more (λ chain. none (up chain child)))
