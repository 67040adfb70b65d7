-- The senses that are known at a node, and its row.
use Rattle.std.proofs.Common.{arith, ◌≡◌, ◌<◌, ◌≤◌, ◌⊎◌, ℕ, zero, suc, true, List, [], ◌∷◌, take, length, get_or, Option, Some, None, slice_get, refl, sym, ap, ◌∙◌, subst, inl, inr}
use Rattle.std.proofs.lemmas.List.{get_or-take}
use Rattle.std.proofs.lemmas.Option.{slice_get-get_or}
use Rattle.std.proofs.lemmas.Bool.{eqb-true}
use Rattle.c_grammar.specs.declared.trees.SyntaxNode.{SyntaxNode}
use Rattle.c_senses.specs.Tree.{Source, production_of, children_of, production_at, children_at, is_a}
use Rattle.c_senses.specs.Given.{Given, Fits}
use Rattle.c_senses.specs.World.{World}
use Rattle.c_senses.specs.Sense.{Sense, Nothing, sense_in}
use Rattle.c_senses.specs.Rows.{AreSenses, world_at, row_of}
use Rattle.core_node_laws.specs.standing_laws.PassedOn.{Gives}

none_past : {A : Type 0} (xs : List A) (n : ℕ) → slice_get xs n ≡ None → n < length xs → ⊥
none_past [] n e lt = omega arith
none_past (x ∷ xs) zero e lt = cc
none_past (x ∷ xs) (suc n) e lt = none_past xs n e (omega arith)

taken_past : (xs : List Sense) (n j : ℕ) → n ≤ j → get_or (take n xs) j Nothing ≡ Nothing
taken_past xs zero j le = refl
taken_past [] (suc n) j le = refl
taken_past (x ∷ xs) (suc n) zero le = absurd (omega (arith, le))
taken_past (x ∷ xs) (suc n) (suc j) le = taken_past xs n j (omega (arith, le))

-- what a row that fits gives
pub fitted : {A : Type 0} (P : A → Type 0) (g : Given A) (x : A) → g ≡ Fits x → Gives P g → P x
fitted P g x e h = subst (λ (k : Given _). Gives P k) e h

module _ (s : Source) (senses : List Sense) where
  -- the senses that are known at node n, and the world there
  abbrev pub known_at : ℕ → ℕ → Sense
  known_at n = sense_in (take n senses)

  abbrev pub world_of : ℕ → World
  world_of n = world_at s (take n senses) n

  pub known : (n j : ℕ) → j < n → known_at n j ≡ sense_in senses j
  known n j lt = get_or-take n senses j Nothing lt

  pub unknown : (n j : ℕ) → n ≤ j → known_at n j ≡ Nothing
  unknown n j le = taken_past senses n j le

  -- a node whose sense is known stands before
  pub told_before : (n j : ℕ) (x : Sense) → known_at n j ≡ x → (x ≡ Nothing → ⊥) → j < n
  told_before n j x e some = elim (dec j n) [ inl lt ↦ lt | inr le ↦ absurd (some (sym e ∙ unknown n j le)) ]
    where
      dec : (a b : ℕ) → (a < b) ⊎ (b ≤ a)
      dec a zero = inr (omega arith)
      dec zero (suc b) = inl (omega arith)
      dec (suc a) (suc b) = elim (dec a b) [ inl lt ↦ inl (omega (arith, lt)) | inr le ↦ inr (omega (arith, le)) ]

  -- it is the same at all later nodes
  pub told_later : (n m j : ℕ) (x : Sense) → known_at n j ≡ x → (x ≡ Nothing → ⊥) → n ≤ m → known_at m j ≡ x
  told_later n m j x e some le =
      let lt : j < n = told_before n j x e some in known m j (omega (arith, lt, le)) ∙ (sym (known n j lt) ∙ e)

  module _ (are : AreSenses s senses) where
    pub row_at : (j : ℕ) → j < length senses → row_of (world_of j) s (known_at j) (production_at s j) j (children_at s j) ≡ Fits (sense_in senses j)
    row_at j lt = by (slice_get s.nodes j) refl
      where
        by : (o : Option SyntaxNode) → slice_get s.nodes j ≡ o → row_of (world_of j) s (known_at j) (production_at s j) j (children_at s j) ≡ Fits (sense_in senses j)
        by None at = absurd (none_past s.nodes j at (let w = are.within in omega (arith, w, lt)))
        by (Some node) at =
            ap (λ (p : ℕ). row_of (world_of j) s (known_at j) p j (children_at s j)) (ap production_of at)
            ∙ (ap (λ (c : List ℕ). row_of (world_of j) s (known_at j) node.production j c) (ap children_of at) ∙ are.each j node (sense_in senses j) at (slice_get-get_or senses j Nothing lt))

    pub row_as : (p j : ℕ) → j < length senses → is_a s p j ≡ true → row_of (world_of j) s (known_at j) p j (children_at s j) ≡ Fits (sense_in senses j)
    row_as p j lt is = ap (λ (q : ℕ). row_of (world_of j) s (known_at j) q j (children_at s j)) (sym (eqb-true (production_at s j) p is)) ∙ row_at j lt
