-- Fixed values, each from those of its operands.
use Rattle.std.proofs.Common.{arith, ◌≡◌, ℕ, zero, suc, ◌+◌, ◌<◌, List, [], ◌∷◌, ◌++◌, Option, Some, None, Result, Ok, Err, Bool, true, false, All, drop, get_or, slice_get, refl, ap, sym, ◌∙◌, append_assoc}
use Rattle.std.specs.Option.{option_and_then}
use Rattle.std.proofs.lemmas.List.Elements.{All-head, All-tail}
use Rattle.core_tree.specs.declared.node.Node.{Node}
use Rattle.core_tree.specs.Range.{InRange}
use Rattle.core_tree.specs.Typed.{CoreTrees}
use Rattle.ref_cells.specs.declared.cells.Reason.{Reason}
use Rattle.ref_cells.specs.declared.cells.Value.{Value}
use Rattle.ref_cells.specs.declared.instance.Instance.{Instance}
use Rattle.ref_state.specs.Values.{cell_of}
use Rattle.ref_values.specs.Values.{is_true}
use Rattle.ref_frames.proofs.Arguments.{drop_next}
use Rattle.ref_start.specs.declared.fixed.Way.{Way}
use Rattle.ref_start.specs.declared.fixed.Way.TheVariants.{Computed, Alone, Kept, Chosen, Never}
use Rattle.ref_start.specs.Fixed.{Fixing, with_value, all_fixed, value_over, kept_by, branch_if, branch_by, chosen_by, way_of, fixed_by, fixed_in, fixed_to, fixed, value_at, PartsGiven}

-- what gives the operands the same values makes the same value of them
module _ (f g : Fixing) where
  abbrev Same : List ℕ → Type 0
  Same cs = All (λ c. f c ≡ g c) cs

  all_same : (cs : List ℕ) → Same cs → all_fixed f cs ≡ all_fixed g cs
  all_same [] h = refl
  all_same (c ∷ cs) h =
      ap (λ (o : Option Value). with_value c o (all_fixed f cs)) (All-head (λ c. f c ≡ g c) c cs h)
      ∙ ap (with_value c (g c)) (all_same cs (All-tail (λ c. f c ≡ g c) c cs h))

  kept_same : (cs : List ℕ) → Same cs → kept_by f cs ≡ kept_by g cs
  kept_same [] h = refl
  kept_same (v ∷ []) h = All-head (λ c. f c ≡ g c) v [] h
  kept_same (v ∷ w ∷ cs) h = refl

  if_same : (a b : ℕ) → f a ≡ g a → f b ≡ g b → (r : Result Bool Reason) → branch_if f a b r ≡ branch_if g a b r
  if_same a b p q (Ok true) = p
  if_same a b p q (Ok false) = q
  if_same a b p q (Err reason) = refl

  branch_same : (a b : ℕ) → f a ≡ g a → f b ≡ g b → (o : Option Value) → branch_by f a b o ≡ branch_by g a b o
  branch_same a b p q None = refl
  branch_same a b p q (Some condition) = if_same a b p q (is_true (cell_of condition))

  chosen_same : (cs : List ℕ) → Same cs → chosen_by f cs ≡ chosen_by g cs
  chosen_same [] h = refl
  chosen_same (c ∷ []) h = refl
  chosen_same (c ∷ a ∷ []) h = refl
  chosen_same (c ∷ a ∷ b ∷ []) h =
      let p = All-tail (λ c. f c ≡ g c) c (a ∷ b ∷ []) h in
      let q = All-tail (λ c. f c ≡ g c) a (b ∷ []) p in
      ap (branch_by f a b) (All-head (λ c. f c ≡ g c) c (a ∷ b ∷ []) h)
      ∙ branch_same a b (All-head (λ c. f c ≡ g c) a (b ∷ []) p) (All-head (λ c. f c ≡ g c) b [] q) (g c)
  chosen_same (c ∷ a ∷ b ∷ d ∷ cs) h = refl

  by_same : (u : CoreTrees) (memory : List Instance) (m : ℕ) (node : Node) → Same node.children → (way : Way) → fixed_by u memory f m node way ≡ fixed_by u memory g m node way
  by_same u memory m node h Computed = ap (option_and_then (value_over u memory m node)) (all_same node.children h)
  by_same u memory m node h Alone = refl
  by_same u memory m node h Kept = kept_same node.children h
  by_same u memory m node h Chosen = chosen_same node.children h
  by_same u memory m node h Never = refl

module _ (u : CoreTrees) (memory : List Instance) (range : InRange u) where
  in_same : (n : ℕ) (f g : Fixing) → ((c : ℕ) → c < n → f c ≡ g c) → (o : Option Node) → slice_get u.nodes n ≡ o
      → fixed_in u memory f n o ≡ fixed_in u memory g n o
  in_same n f g same None there = refl
  in_same n f g same (Some node) there =
      by_same f g u memory n node (λ j d lt. same (get_or node.children j d) (range.children n node there j d lt))
      (way_of node.kind (slice_get u.types.terms node.ty.0))

  more_fuel : (k m n : ℕ) → n < k → n < m → fixed_to u memory k n ≡ fixed_to u memory m n
  more_fuel zero m n p q = absurd (omega (arith, p))
  more_fuel (suc k) zero n p q = absurd (omega (arith, q))
  more_fuel (suc k) (suc m) n p q =
      in_same n (fixed_to u memory k) (fixed_to u memory m) (λ c lt. more_fuel k m c (omega (arith, p, lt)) (omega (arith, q, lt))) (slice_get u.nodes n) refl

  enough : (k n : ℕ) → n < k → fixed_to u memory k n ≡ fixed u memory n
  unfolding fixed
  enough k n p = more_fuel k (n + 1) n p (omega arith)

  -- a fixed value is made of those of its operands
  fixed_is : (n : ℕ) → fixed u memory n ≡ fixed_in u memory (fixed u memory) n (slice_get u.nodes n)
  fixed_is n =
      sym (enough (suc n) n (omega arith))
      ∙ in_same n (fixed_to u memory n) (fixed u memory) (λ c lt. enough n c lt) (slice_get u.nodes n) refl

  -- what a table that has the operands' values makes of them is the fixed value
  pub is_by : (table : List (Option Value)) (n : ℕ) (node : Node) (way : Way) (v : Option Value)
      → PartsGiven u memory table n
      → slice_get u.nodes n ≡ Some node
      → way_of node.kind (slice_get u.types.terms node.ty.0) ≡ way
      → fixed_by u memory (value_at table) n node way ≡ v
      → v ≡ fixed u memory n
  is_by table n node way v given there is made =
      sym (fixed_is n
      ∙ (ap (fixed_in u memory (fixed u memory) n) there
      ∙ (ap (fixed_by u memory (fixed u memory) n node) is
      ∙ (sym (by_same (value_at table) (fixed u memory) u memory n node (given node there) way) ∙ made))))

-- values behind others
abbrev pub with_more : List (ℕ × Value) → Option (List (ℕ × Value)) → Option (List (ℕ × Value))
with_more front None = None
with_more front (Some values) = Some (front ++ values)

more_one : (front : List (ℕ × Value)) (c : ℕ) (v : Value) (r : Option (List (ℕ × Value)))
    → with_more (front ++ (c, v) ∷ []) r ≡ with_more front (with_value c (Some v) r)
more_one front c v None = refl
more_one front c v (Some values) = ap (λ (xs : List (ℕ × Value)). Some xs) (append_assoc front ((c, v) ∷ []) values)

pub all_next : (fix : Fixing) (cs : List ℕ) (i c : ℕ) (v : Value) (front : List (ℕ × Value)) (all : Option (List (ℕ × Value)))
    → slice_get cs i ≡ Some c → fix c ≡ Some v → with_more front (all_fixed fix (drop i cs)) ≡ all
    → with_more (front ++ (c, v) ∷ []) (all_fixed fix (drop (i + 1) cs)) ≡ all
all_next fix cs i c v front all at given h =
    more_one front c v (all_fixed fix (drop (i + 1) cs))
    ∙ (sym (ap (λ (o : Option Value). with_more front (with_value c o (all_fixed fix (drop (i + 1) cs)))) given)
    ∙ (sym (ap (λ (xs : List ℕ). with_more front (all_fixed fix xs)) (drop_next cs i c at)) ∙ h))
