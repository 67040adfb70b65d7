-- No function is around what is no node.
use Rattle.std.proofs.Common.{arith, ◌≡◌, ℕ, zero, suc, ◌≤◌, ◌<◌, Bool, true, false, ◌||◌, ◌&&◌, List, [], ◌∷◌, Option, Some, None, option_and_then, length, slice_get, refl, ap, ◌∙◌}
use Rattle.std.specs.Prelude.{if◌then◌else◌, nat_eq, is_some}
use Rattle.std.proofs.lemmas.Bool.{eqb-true}
use Rattle.std.proofs.lemmas.Option.{slice_get_within}
use Rattle.c_grammar.specs.declared.trees.SyntaxNode.{SyntaxNode}
use Rattle.c_grammar.specs.Terminals.{contains}
use Rattle.c_senses.specs.Tree.{Source, is_a, child_of, children_of, children_at, first_where, all_nodes, parent_of, above_within}
use Rattle.c_grammar.specs.Productions.{p_external, p_block}
use Rattle.c_senses.specs.Sense.{Sense}
use Rattle.c_senses.specs.Entities.{defined_name, function_around}
use Rattle.parsed_tree_laws.specs.sense_laws.Senses.{ChildrenFirst}

there : (list : List ℕ) (i : ℕ) → contains list i ≡ true → (k : ℕ) × (slice_get list k ≡ Some i)
there [] i h = cc
there (x ∷ list) i h = by (there list i) (nat_eq x i) refl h
  where
    by : (contains list i ≡ true → (k : ℕ) × (slice_get list k ≡ Some i)) → (b : Bool) → nat_eq x i ≡ b → (b || contains list i) ≡ true → (k : ℕ) × (slice_get (x ∷ list) k ≡ Some i)
    by rest true e h = (0, ap Some (eqb-true x i e))
    by rest false e h = let found = rest h in (suc found.0, found.1)

none_passes : (test : ℕ → Bool) → ((p : ℕ) → test p ≡ false) → (list : List ℕ) → first_where test list ≡ None
none_passes test never [] = refl
none_passes test never (p ∷ list) = ap (λ (b : Bool). if b then Some p else first_where test list) (never p) ∙ none_passes test never list

module _ (s : Source) (first : ChildrenFirst s) (i : ℕ) (past : length s.nodes ≤ i) where
  no_child : (p : ℕ) → contains (children_at s p) i ≡ false
  no_child p = by (contains (children_at s p) i) refl
    where
      stands : (o : Option SyntaxNode) → slice_get s.nodes p ≡ o → contains (children_of o) i ≡ true → p < length s.nodes
      stands None e h = cc
      stands (Some n) e h = slice_get_within s.nodes p n e

      by : (b : Bool) → contains (children_at s p) i ≡ b → b ≡ false
      by true h =
          let child = there (children_at s p) i h in
          let below : i < p = first p child.0 i child.1 in
          let inside : p < length s.nodes = stands (slice_get s.nodes p) refl h in
          absurd (omega (arith, below, inside, past))
      by false h = refl

  no_parent : parent_of s i ≡ None
  no_parent = none_passes (λ p. contains (children_at s p) i) no_child (all_nodes s)

nothing_above : (s : Source) (test : ℕ → Bool) (n : ℕ) → above_within s test n None ≡ None
nothing_above s test zero = refl
nothing_above s test (suc n) = refl

pub around_past : (s : Source) (sense : ℕ → Sense) (i : ℕ) → ChildrenFirst s → length s.nodes ≤ i → function_around s sense i ≡ None
around_past s sense i first past =
    ap (λ (o : Option ℕ). option_and_then (defined_name s sense) (above_within s (λ p. is_a s p_external p && is_some (child_of s p_block p)) (length s.nodes) o)) (no_parent s first i past)
    ∙ ap (option_and_then (defined_name s sense)) (nothing_above s (λ p. is_a s p_external p && is_some (child_of s p_block p)) (length s.nodes))
