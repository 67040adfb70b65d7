-- Parameters that have the types of a list, one after another.
use Rattle.std.proofs.Common.{arith, ◌≡◌, ◌≢◌, ◌==◌, ◌⊎◌, inl, inr, eqb, length-drop, ℕ, ◌+◌, ◌-◌, ◌≤◌, List, [], ◌∷◌, length, Some, Bool, true, false, ◌&&◌, map, drop, slice_get, refl, ap, sym, ◌∙◌}
use Rattle.std.proofs.lemmas.Bool.Decides.{eqb_tells}
use Rattle.std.proofs.Math.ListN.{drop_of_length-le}
use Rattle.c_types.specs.declared.term.TypeId.{TypeId}
use Rattle.c_types.specs.declared.key.ObjectKey.TheVariants.{Entity as EntityKey}
use Rattle.c_types.specs.Trees.{Ctype, tree_at, trees_at}
use Rattle.core_tree.specs.Typed.{CoreTrees}
use Rattle.row_numbers.specs.Functions.{key_id}
use Rattle.ref_frames.specs.Frames.{is_typed, have_types}
use Rattle.ref_frames.proofs.Arguments.{drop_next}

both_more : (b r : Bool) → b ≡ true → (b && r) ≡ r
both_more true r h = refl
both_more false r h = cc

both_less : (b r : Bool) → b ≡ false → (b && r) ≡ false
both_less true r h = cc
both_less false r h = refl

module _ (u : CoreTrees) (trees : List Ctype) (ps : List ℕ) (list : List TypeId) where
  -- whether those from the i-th on have their types
  abbrev pub typed_from : ℕ → Bool
  typed_from i = have_types u (map EntityKey (drop i ps)) (trees_at trees (drop i list))

  step : (i p : ℕ) (id : TypeId) → slice_get ps i ≡ Some p → slice_get list i ≡ Some id
      → typed_from i ≡ (is_typed u.types (key_id u (EntityKey p)) (tree_at trees id.0) && typed_from (i + 1))
  step i p id at_p at_id =
      ap (λ (xs : List ℕ). have_types u (map EntityKey xs) (trees_at trees (drop i list))) (drop_next ps i p at_p)
      ∙ ap (λ (ys : List TypeId). have_types u (EntityKey p ∷ map EntityKey (drop (i + 1) ps)) (trees_at trees ys)) (drop_next list i id at_id)

  -- the i-th parameter has its type: the others decide
  pub typed_next : (i p : ℕ) (id : TypeId) → slice_get ps i ≡ Some p → slice_get list i ≡ Some id
      → is_typed u.types (key_id u (EntityKey p)) (tree_at trees id.0) ≡ true → typed_from (i + 1) ≡ typed_from i
  typed_next i p id at_p at_id typed =
      sym (step i p id at_p at_id ∙ both_more (is_typed u.types (key_id u (EntityKey p)) (tree_at trees id.0)) (typed_from (i + 1)) typed)

  pub typed_otherwise : (i p : ℕ) (id : TypeId) → slice_get ps i ≡ Some p → slice_get list i ≡ Some id
      → is_typed u.types (key_id u (EntityKey p)) (tree_at trees id.0) ≡ false → typed_from i ≡ false
  typed_otherwise i p id at_p at_id typed =
      step i p id at_p at_id ∙ both_less (is_typed u.types (key_id u (EntityKey p)) (tree_at trees id.0)) (typed_from (i + 1)) typed

  -- the list is at its end before the parameters are
  pub list_shorter : (i p : ℕ) → slice_get ps i ≡ Some p → length list ≤ i → typed_from i ≡ false
  list_shorter i p at_p past =
      ap (λ (xs : List ℕ). have_types u (map EntityKey xs) (trees_at trees (drop i list))) (drop_next ps i p at_p)
      ∙ ap (λ (ys : List TypeId). have_types u (EntityKey p ∷ map EntityKey (drop (i + 1) ps)) (trees_at trees ys)) (drop_of_length-le list past)

  ended : (ys : List TypeId) (m n : ℕ) → length ys ≡ n - m → m ≤ n → ((eqb m n ≡ true) × (m ≡ n)) ⊎ ((eqb m n ≡ false) × (m ≢ n))
      → (m == n) ≡ have_types u [] (trees_at trees ys)
  ended [] m n e le (inl p) = p.0
  ended [] m n e le (inr p) = absurd (p.1 (omega (arith, e, le)))
  ended (y ∷ ys) m n e le (inl p) = absurd (omega (arith, e, le, p.1))
  ended (y ∷ ys) m n e le (inr p) = p.0

  -- the parameters are at their end
  pub typed_end : (i : ℕ) → length ps ≡ i → i ≤ length list → (i == length list) ≡ typed_from i
  typed_end i past le =
      ended (drop i list) i (length list) (length-drop i list) le (eqb_tells i (length list))
      ∙ sym (ap (λ (xs : List ℕ). have_types u (map EntityKey xs) (trees_at trees (drop i list))) (drop_of_length-le ps (omega (arith, past))))
