-- Lists of types that are compared one by one.
use Rattle.std.proofs.Common.{arith, ◌≡◌, ◌≢◌, ◌==◌, ◌⊎◌, inl, inr, eqb, length-drop, ℕ, zero, suc, ◌+◌, ◌-◌, ◌<◌, ◌≤◌, List, [], ◌∷◌, length, Option, Some, Bool, true, false, ◌&&◌, drop, slice_get, All, refl, ap, sym, ◌∙◌}
use Rattle.std.specs.List.{cons_option}
use Rattle.std.specs.Option.{option_map}
use Rattle.std.proofs.lemmas.Bool.Decides.{eqb_tells}
use Rattle.std.proofs.lemmas.List.Elements.{All-head, All-tail}
use Rattle.std.proofs.lemmas.Option.{slice_get_cases}
use Rattle.std.proofs.Math.ListN.{drop_of_length-le}
use Rattle.c_types.specs.declared.term.TypeId.{TypeId}
use Rattle.c_types.specs.Trees.{Ctype, NoTypes, MoreTypes, tree_at, trees_at}
use Rattle.core_tree.specs.declared.node.Node.{Node}
use Rattle.call_sites.specs.Calls.{ids_of}
use Rattle.call_sites.specs.Signatures.{void_pointer, two_pointers}
use Rattle.ref_elements.specs.Types.{same_type, same_types}
use Rattle.ref_frames.proofs.Arguments.{drop_next}

both_more : (b r : Bool) → b ≡ true → (b && r) ≡ r
both_more true r h = refl
both_more false r h = cc

both_less : (b r : Bool) → b ≡ false → (b && r) ≡ false
both_less true r h = cc
both_less false r h = refl

module _ (trees : List Ctype) (a b : List TypeId) where
  -- whether those from the i-th on are the same
  abbrev pub same_from : ℕ → Bool
  same_from i = same_types (trees_at trees (drop i a)) (trees_at trees (drop i b))

  step : (i : ℕ) (x y : TypeId) → slice_get a i ≡ Some x → slice_get b i ≡ Some y
      → same_from i ≡ (same_type (tree_at trees x.0) (tree_at trees y.0) && same_from (i + 1))
  step i x y at_a at_b =
      ap (λ (xs : List TypeId). same_types (trees_at trees xs) (trees_at trees (drop i b))) (drop_next a i x at_a)
      ∙ ap (λ (ys : List TypeId). same_types (MoreTypes (tree_at trees x.0) (trees_at trees (drop (i + 1) a))) (trees_at trees ys)) (drop_next b i y at_b)

  -- the i-th types are one: the others decide
  pub types_next : (i : ℕ) (x y : TypeId) → slice_get a i ≡ Some x → slice_get b i ≡ Some y
      → same_type (tree_at trees x.0) (tree_at trees y.0) ≡ true → same_from (i + 1) ≡ same_from i
  types_next i x y at_a at_b same =
      sym (step i x y at_a at_b ∙ both_more (same_type (tree_at trees x.0) (tree_at trees y.0)) (same_from (i + 1)) same)

  pub types_differ : (i : ℕ) (x y : TypeId) → slice_get a i ≡ Some x → slice_get b i ≡ Some y
      → same_type (tree_at trees x.0) (tree_at trees y.0) ≡ false → same_from i ≡ false
  types_differ i x y at_a at_b same =
      step i x y at_a at_b ∙ both_less (same_type (tree_at trees x.0) (tree_at trees y.0)) (same_from (i + 1)) same

  -- the other list is at its end
  pub types_longer : (i : ℕ) (x : TypeId) → slice_get a i ≡ Some x → length b ≤ i → same_from i ≡ false
  types_longer i x at_a past =
      ap (λ (xs : List TypeId). same_types (trees_at trees xs) (trees_at trees (drop i b))) (drop_next a i x at_a)
      ∙ ap (λ (ys : List TypeId). same_types (MoreTypes (tree_at trees x.0) (trees_at trees (drop (i + 1) a))) (trees_at trees ys)) (drop_of_length-le b past)

  ended : (ys : List TypeId) (m n : ℕ) → length ys ≡ n - m → m ≤ n → ((eqb m n ≡ true) × (m ≡ n)) ⊎ ((eqb m n ≡ false) × (m ≢ n))
      → (m == n) ≡ same_types NoTypes (trees_at trees ys)
  ended [] m n e le (inl p) = p.0
  ended [] m n e le (inr p) = absurd (p.1 (omega (arith, e, le)))
  ended (y ∷ ys) m n e le (inl p) = absurd (omega (arith, e, le, p.1))
  ended (y ∷ ys) m n e le (inr p) = p.0

  -- the first list is at its end
  pub types_end : (i : ℕ) → length a ≤ i → i ≤ length b → (i == length b) ≡ same_from i
  types_end i past le =
      ended (drop i b) i (length b) (length-drop i b) le (eqb_tells i (length b))
      ∙ sym (ap (λ (xs : List TypeId). same_types (trees_at trees xs) (trees_at trees (drop i b))) (drop_of_length-le a past))

module _ (nodes : List Node) where
  abbrev There : List ℕ → Type 0
  There values = All (λ n. n < length nodes) values

  one_id : (v : ℕ) (rest : List ℕ) (node : Node) → slice_get nodes v ≡ Some node → ids_of nodes (v ∷ rest) ≡ node.ty ∷ ids_of nodes rest
  one_id v rest node there = ap (λ (o : Option Node). cons_option (option_map (λ (n : Node). n.ty) o) (ids_of nodes rest)) there

  -- the first one's node
  first_node : (v : ℕ) → v < length nodes → (node : Node) × (slice_get nodes v ≡ Some node)
  first_node v lt =
      elim (slice_get_cases nodes v).1 [ inl p ↦ (p.0, p.2) | inr p ↦ absurd (omega (arith, lt, p.0)) ]

  -- the types of values that are there: as many, each that of its node
  pub ids_length : (values : List ℕ) → There values → length (ids_of nodes values) ≡ length values
  ids_length [] known = refl
  ids_length (v ∷ values) known =
      let rest = ids_length values (All-tail (λ n. n < length nodes) v values known) in
      let first = first_node v (All-head (λ n. n < length nodes) v values known) in
      let more : length (ids_of nodes (v ∷ values)) ≡ length (first.0.ty ∷ ids_of nodes values) = ap length (one_id v values first.0 first.1) in
      more ∙ ap (λ (n : ℕ). suc n) rest

  pub ids_at : (values : List ℕ) (i v : ℕ) (node : Node) → There values
      → slice_get values i ≡ Some v → slice_get nodes v ≡ Some node → slice_get (ids_of nodes values) i ≡ Some node.ty
  ids_at [] i v node known at there = cc
  ids_at (x ∷ values) zero v node known at there =
      let e : x ≡ v = cc in
      ap (λ (xs : List TypeId). slice_get xs 0) (ap (λ (n : ℕ). ids_of nodes (n ∷ values)) e ∙ one_id v values node there)
  ids_at (x ∷ values) (suc i) v node known at there =
      let first = first_node x (All-head (λ n. n < length nodes) x values known) in
      ap (λ (xs : List TypeId). slice_get xs (suc i)) (one_id x values first.0 first.1)
      ∙ ids_at values i v node (All-tail (λ n. n < length nodes) x values known) at there

and_false : (b : Bool) → false ≡ (b && false)
and_false true = refl
and_false false = refl

pub none_same : (trees : List Ctype) (ids : List TypeId) → 1 ≤ length ids → false ≡ same_types (trees_at trees ids) NoTypes
none_same trees [] le = absurd (omega (arith, le))
none_same trees (x ∷ ids) le = refl

-- no two pointers
pub one_differs : (trees : List Ctype) (ids : List TypeId) → 1 ≤ length ids → length ids < 2 → false ≡ same_types (trees_at trees ids) two_pointers
one_differs trees [] le lt = absurd (omega (arith, le))
one_differs trees (x ∷ []) le lt = and_false (same_type (tree_at trees x.0) void_pointer)
one_differs trees (x ∷ y ∷ ids) le lt = absurd (omega (arith, lt))

pub three_differ : (trees : List Ctype) (ids : List TypeId) → 3 ≤ length ids → false ≡ same_types (trees_at trees ids) two_pointers
three_differ trees [] le = absurd (omega (arith, le))
three_differ trees (x ∷ []) le = absurd (omega (arith, le))
three_differ trees (x ∷ y ∷ []) le = absurd (omega (arith, le))
three_differ trees (x ∷ y ∷ z ∷ ids) le =
    and_false (same_type (tree_at trees x.0) void_pointer)
    ∙ ap (λ (b : Bool). same_type (tree_at trees x.0) void_pointer && b) (and_false (same_type (tree_at trees y.0) void_pointer))
