-- What stands above a node of a tree.
use Rattle.std.proofs.Common.{arith, ◌≡◌, ◌<◌, ◌≤◌, ◌+◌, ℕ, zero, suc, ◌||◌, nat_eq, Bool, true, false, List, [], ◌∷◌, Option, Some, None, length, slice_get, eq-eqb, refl, sym, ap, ◌∙◌, subst}
use Rattle.std.specs.Prelude.{if◌then◌else◌}
use Rattle.std.proofs.lemmas.Bool.{eqb-true, eqb-false}
use Rattle.std.proofs.lemmas.Option.{slice_get_within}
use Rattle.c_grammar.specs.declared.trees.SyntaxNode.{SyntaxNode}
use Rattle.c_grammar.specs.Productions.{p_unit, p_external}
use Rattle.c_grammar.specs.Terminals.{contains}
use Rattle.core_nodes.specs.passed.c_senses.Tree.{Source, children_of, children_at, is_a, first_where, numbers_from, all_nodes, parent_of, above_within, nearest_above}
use Rattle.parsed_tree_laws.specs.family_laws.Families.{IsChild}
use Rattle.core_node_laws.specs.standing_laws.Standing.{IsGrown}

pub found_where : (test : ℕ → Bool) (ks : List ℕ) (x : ℕ) → first_where test ks ≡ Some x → test x ≡ true
found_where test [] x e = cc
found_where test (k ∷ ks) x e = by (test k) refl e (found_where test ks x)
  where
    by : (b : Bool) → test k ≡ b → (if b then Some k else first_where test ks) ≡ Some x → (first_where test ks ≡ Some x → test x ≡ true) → test x ≡ true
    by true is e f = let same : k ≡ x = cc in subst (λ (y : ℕ). test y ≡ true) same is
    by false is e f = f e

pub in_list : (list : List ℕ) (i : ℕ) → contains list i ≡ true → (k : ℕ) × (slice_get list k ≡ Some i)
in_list [] i h = cc
in_list (x ∷ list) i h = by (in_list list i) (nat_eq x i) refl h
  where
    by : (contains list i ≡ true → (k : ℕ) × (slice_get list k ≡ Some i)) → (b : Bool) → nat_eq x i ≡ b → (b || contains list i) ≡ true → (k : ℕ) × (slice_get (x ∷ list) k ≡ Some i)
    by rest true e h = (0, ap Some (eqb-true x i e))
    by rest false e h = let more = rest h in (suc more.0, more.1)

pub list_in : (list : List ℕ) (k i : ℕ) → slice_get list k ≡ Some i → contains list i ≡ true
list_in [] k i h = cc
list_in (x ∷ list) zero i h = let same : x ≡ i = cc in ap (λ (b : Bool). b || contains list i) (eq-eqb x i same)
list_in (x ∷ list) (suc k) i h = by (nat_eq x i) (list_in list k i h)
  where
    by : (b : Bool) → contains list i ≡ true → (b || contains list i) ≡ true
    by true e = refl
    by false e = e

pub child_inside : (o : Option SyntaxNode) (nodes : List SyntaxNode) (p k c : ℕ) → slice_get nodes p ≡ o → slice_get (children_of o) k ≡ Some c → p < length nodes
child_inside None nodes p k c e h = cc
child_inside (Some n) nodes p k c e h = slice_get_within nodes p n e

-- a number that passes, from some number on, is found if no other one passes
found_first : (test : ℕ → Bool) (from count p : ℕ) → from ≤ p → p < from + count → test p ≡ true → ((q : ℕ) → test q ≡ true → q ≡ p) → first_where test (numbers_from from count) ≡ Some p
found_first test from zero p low high is only = absurd (omega (arith, low, high))
found_first test from (suc count) p low high is only = by (test from) refl (λ less. found_first test (suc from) count p less (omega (arith, high)) is only)
  where
    apart : (b : Bool) → nat_eq from p ≡ b → test from ≡ false → suc from ≤ p
    apart true same e = let none : false ≡ true = sym e ∙ (ap test (eqb-true from p same) ∙ is) in cc
    apart false other e = let differ = eqb-false from p other in omega (arith, low, differ)

    by : (b : Bool) → test from ≡ b → (suc from ≤ p → first_where test (numbers_from (suc from) count) ≡ Some p) → (if b then Some from else first_where test (numbers_from (suc from) count)) ≡ Some p
    by true e later = ap Some (only from e)
    by false e later = later (apart (nat_eq from p) refl e)

module _ (s : Source) (grown : IsGrown s) where
  pub parent_is : (p c : ℕ) → IsChild s p c → parent_of s c ≡ Some p
  parent_is p c h =
      let inside : p < length s.nodes = child_inside (slice_get s.nodes p) s.nodes p h.0 c refl h.1 in
      found_first (λ q. contains (children_at s q) c) 0 (length s.nodes) p (omega arith) (omega (arith, inside)) (list_in (children_at s p) h.0 c h.1)
      (λ q e. let other = in_list (children_at s q) c e in grown.families.single q p c other h)

  pub parent_holds : (p c : ℕ) → parent_of s c ≡ Some p → contains (children_at s p) c ≡ true
  parent_holds p c e = found_where (λ (q : ℕ). contains (children_at s q) c) (all_nodes s) p e

  -- with fewer levels no more is found
  pub fewer : (test : ℕ → Bool) (n : ℕ) (o : Option ℕ) → above_within s test (suc n) o ≡ None → above_within s test n o ≡ None
  fewer test zero o e = refl
  fewer test (suc n) None e = refl
  fewer test (suc n) (Some p) e = by (test p) e (λ h. fewer test n (parent_of s p) h)
    where
      by : (b : Bool) → (if b then Some p else above_within s test (suc n) (parent_of s p)) ≡ None → (above_within s test (suc n) (parent_of s p) ≡ None → above_within s test n (parent_of s p) ≡ None)
          → (if b then Some p else above_within s test n (parent_of s p)) ≡ None
      by true e later = cc
      by false e later = later e

  -- where nothing is found above a node that doesn't pass, nothing is above its parts
  pub none_above : (test : ℕ → Bool) (i c : ℕ) → IsChild s i c → test i ≡ false → nearest_above s test i ≡ None → nearest_above s test c ≡ None
  none_above test i c h off e = by (length s.nodes) e
    where
      skip : (b : Bool) (n : ℕ) → b ≡ false → above_within s test n (parent_of s i) ≡ None → (if b then Some i else above_within s test n (parent_of s i)) ≡ None
      skip true n e f = cc
      skip false n e f = f

      levels : (n : ℕ) → above_within s test n (parent_of s i) ≡ None → above_within s test n (Some i) ≡ None
      levels zero e = refl
      levels (suc n) e = skip (test i) n off (fewer test n (parent_of s i) e)

      by : (n : ℕ) → above_within s test n (parent_of s i) ≡ None → above_within s test n (parent_of s c) ≡ None
      by n e = subst (λ (o : Option ℕ). above_within s test n o ≡ None) (sym (parent_is i c h)) (levels n e)

  above_nothing : (test : ℕ → Bool) (n : ℕ) → above_within s test n None ≡ None
  above_nothing test zero = refl
  above_nothing test (suc n) = refl

  -- above the parts of an external declaration stands it alone, and the root
  module _ (test : ℕ → Bool) (external : (i : ℕ) → is_a s p_external i ≡ true → test i ≡ false) (root : (i : ℕ) → is_a s p_unit i ≡ true → test i ≡ false) where
    pass_by : (n p : ℕ) → test p ≡ false → ((m : ℕ) → above_within s test m (parent_of s p) ≡ None) → above_within s test n (Some p) ≡ None
    pass_by zero p off above = refl
    pass_by (suc n) p off above = by (test p) off (above n)
      where
        by : (b : Bool) → b ≡ false → above_within s test n (parent_of s p) ≡ None → (if b then Some p else above_within s test n (parent_of s p)) ≡ None
        by true e f = cc
        by false e f = f

    above_root : (r n : ℕ) → is_a s p_unit r ≡ true → above_within s test n (parent_of s r) ≡ None
    above_root r n is = by (parent_of s r) refl
      where
        by : (o : Option ℕ) → parent_of s r ≡ o → above_within s test n o ≡ None
        by None e = above_nothing test n
        by (Some q) e = let no : true ≡ false = sym is ∙ grown.nested.units q r (parent_holds q r e) in cc

    above_external : (d n : ℕ) → is_a s p_external d ≡ true → above_within s test n (parent_of s d) ≡ None
    above_external d n is = by (parent_of s d) refl
      where
        by : (o : Option ℕ) → parent_of s d ≡ o → above_within s test n o ≡ None
        by None e = above_nothing test n
        by (Some r) e = let top = grown.nested.externals r d (parent_holds r d e) is in pass_by n r (root r top) (λ m. above_root r m top)

    pub above_part : (d c : ℕ) → is_a s p_external d ≡ true → IsChild s d c → nearest_above s test c ≡ None
    above_part d c is h = subst (λ (o : Option ℕ). above_within s test (length s.nodes) o ≡ None) (sym (parent_is d c h)) (pass_by (length s.nodes) d (external d is) (λ m. above_external d m is))
