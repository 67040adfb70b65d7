-- The parent of a node, and rows that give nothing below it.
use Rattle.std.proofs.Common.{arith, ◌≡◌, ◌<◌, ◌≤◌, ◌+◌, ℕ, zero, suc, ◌||◌, nat_eq, Bool, true, false, List, [], ◌∷◌, Option, Some, None, length, slice_get, eq-eqb, refl, sym, ap, ◌∙◌}
use Rattle.std.specs.Prelude.{if◌then◌else◌}
use Rattle.std.proofs.lemmas.Bool.{eqb-true, eqb-false}
use Rattle.std.proofs.lemmas.Option.{slice_get_within}
use Rattle.c_grammar.specs.declared.trees.SyntaxNode.{SyntaxNode}
use Rattle.c_grammar.specs.Productions.{p_external, p_rest, p_init, p_items, p_cast, p_unary, p_type_name}
use Rattle.c_grammar.specs.Terminals.{contains}
use Rattle.c_senses.specs.Given.{Given, Fits}
use Rattle.c_senses.specs.World.{World}
use Rattle.c_senses.specs.Entities.{initialised_by}
use Rattle.c_senses.specs.Initialised.{init_in, literal_in}
use Rattle.c_senses.specs.Sense.{Sense, Nothing}
use Rattle.c_senses.specs.Rows.{row_of}
use Rattle.c_senses.specs.Tree.{Source, children_of, children_at, is_a, child_of, first_where, numbers_from, parent_of}
use Rattle.parsed_tree_laws.specs.family_laws.Families.{Families, IsChild}

in_list : (list : List ℕ) (i : ℕ) → contains list i ≡ true → (k : ℕ) × (slice_get list k ≡ Some i)
in_list [] i h = cc
in_list (x ∷ list) i h = by (in_list list i) (nat_eq x i) refl h
  where
    by : (contains list i ≡ true → (k : ℕ) × (slice_get list k ≡ Some i)) → (b : Bool) → nat_eq x i ≡ b → (b || contains list i) ≡ true → (k : ℕ) × (slice_get (x ∷ list) k ≡ Some i)
    by rest true e h = (0, ap Some (eqb-true x i e))
    by rest false e h = let more = rest h in (suc more.0, more.1)

list_in : (list : List ℕ) (k i : ℕ) → slice_get list k ≡ Some i → contains list i ≡ true
list_in [] k i h = cc
list_in (x ∷ list) zero i h = let same : x ≡ i = cc in ap (λ (b : Bool). b || contains list i) (eq-eqb x i same)
list_in (x ∷ list) (suc k) i h = by (nat_eq x i) (list_in list k i h)
  where
    by : (b : Bool) → contains list i ≡ true → (b || contains list i) ≡ true
    by true e = refl
    by false e = e

child_inside : (o : Option SyntaxNode) (nodes : List SyntaxNode) (p k c : ℕ) → slice_get nodes p ≡ o → slice_get (children_of o) k ≡ Some c → p < length nodes
child_inside None nodes p k c e h = cc
child_inside (Some n) nodes p k c e h = slice_get_within nodes p n e

-- a number that passes, from some number on, is found if no other one passes
found_first : (test : ℕ → Bool) (from count p : ℕ) → from ≤ p → p < from + count → test p ≡ true → ((q : ℕ) → test q ≡ true → q ≡ p) → first_where test (numbers_from from count) ≡ Some p
found_first test from zero p low high is only = absurd (omega (arith, low, high))
found_first test from (suc count) p low high is only = by (test from) refl (λ less. found_first test (suc from) count p less (omega (arith, high)) is only)
  where
    apart : (b : Bool) → nat_eq from p ≡ b → test from ≡ false → suc from ≤ p
    apart true same e = let none : false ≡ true = sym e ∙ (ap test (eqb-true from p same) ∙ is) in cc
    apart false other e = let differ = eqb-false from p other in omega (arith, low, differ)

    by : (b : Bool) → test from ≡ b → (suc from ≤ p → first_where test (numbers_from (suc from) count) ≡ Some p) → (if b then Some from else first_where test (numbers_from (suc from) count)) ≡ Some p
    by true e later = ap Some (only from e)
    by false e later = later (apart (nat_eq from p) refl e)

pub parent_is : (s : Source) → Families s → (p c : ℕ) → IsChild s p c → parent_of s c ≡ Some p
parent_is s families p c h =
    let inside : p < length s.nodes = child_inside (slice_get s.nodes p) s.nodes p h.0 c refl h.1 in
    found_first (λ q. contains (children_at s q) c) 0 (length s.nodes) p (omega arith) (omega (arith, inside)) (list_in (children_at s p) h.0 c h.1)
    (λ q e. let other = in_list (children_at s q) c e in families.single q p c other h)

module _ (w : World) (s : Source) (sense : ℕ → Sense) where
  -- no row: an external declaration
  pub external_none : (at : ℕ) (children : List ℕ) → row_of w s sense p_external at children ≡ Fits Nothing
  external_none at children = refl

  init_by : (at : ℕ) (o : Option ℕ) (p : ℕ) → o ≡ Some p → is_a s p_rest p ≡ false → (elim o as (λ _. Given Sense) [ None ↦ Fits Nothing | Some p ↦ if is_a s p_rest p then init_in w s sense at (initialised_by s sense at) else Fits Nothing ]) ≡ Fits Nothing
  init_by at None p e off = refl
  init_by at (Some q) p e off =
      let same : q ≡ p = cc in
      ap (λ (b : Bool). if b then init_in w s sense at (initialised_by s sense at) else Fits Nothing) (ap (is_a s p_rest) same ∙ off)

  -- an initialiser within braces, and a list that is no compound literal's
  pub init_none : (at : ℕ) (children : List ℕ) (p : ℕ) → parent_of s at ≡ Some p → is_a s p_rest p ≡ false → row_of w s sense p_init at children ≡ Fits Nothing
  init_none at children p e off = init_by at (parent_of s at) p e off

  items_by : (at : ℕ) (o : Option ℕ) (p : ℕ) → o ≡ Some p → (is_a s p_cast p || is_a s p_unary p) ≡ false
      → (elim o as (λ _. Given Sense) [ None ↦ Fits Nothing | Some p ↦ if is_a s p_cast p || is_a s p_unary p then literal_in w s sense at p (child_of s p_type_name p) else Fits Nothing ]) ≡ Fits Nothing
  items_by at None p e off = refl
  items_by at (Some q) p e off =
      let same : q ≡ p = cc in
      ap (λ (b : Bool). if b then literal_in w s sense at q (child_of s p_type_name q) else Fits Nothing) (ap (λ (x : ℕ). is_a s p_cast x || is_a s p_unary x) same ∙ off)

  pub items_none : (at : ℕ) (children : List ℕ) (p : ℕ) → parent_of s at ≡ Some p → (is_a s p_cast p || is_a s p_unary p) ≡ false → row_of w s sense p_items at children ≡ Fits Nothing
  items_none at children p e off = items_by at (parent_of s at) p e off
