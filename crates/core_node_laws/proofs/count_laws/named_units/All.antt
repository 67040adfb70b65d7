-- The places of all senses of a tree, one after another.
use Rattle.std.proofs.Common.{arith, ◌≡◌, ℕ, zero, suc, ◌<◌, ◌≤◌, List, [], ◌∷◌, ◌++◌, take, length, Option, Some, None, slice_get, refl, sym, ap, subst}
use Rattle.std.proofs.lemmas.Option.{slice_get-get_or}
use Rattle.c_grammar.specs.declared.trees.SyntaxNode.{SyntaxNode}
use Rattle.c_senses.specs.Tree.{Source}
use Rattle.c_senses.specs.Given.{Given}
use Rattle.c_senses.specs.Sense.{Sense, Nothing, sense_in}
use Rattle.c_senses.specs.Rows.{AreSenses, world_at}
use Rattle.core_node_laws.proofs.count_laws.named_units.Giving.{Gives}
use Rattle.core_node_laws.proofs.count_laws.named_units.Expressions.{OfSense}
use Rattle.core_node_laws.proofs.count_laws.named_units.Rows.{row_kept}

-- a fact of each sense by its number, where one sense is added
one_more : (P : Sense → Type 0) (xs : List Sense) (x : Sense) → ((i : ℕ) → P (sense_in xs i)) → P x → P Nothing → (i : ℕ) → P (sense_in (xs ++ x ∷ []) i)
one_more P [] x each h n zero = h
one_more P [] x each h n (suc i) = n
one_more P (y ∷ ys) x each h n zero = each 0
one_more P (y ∷ ys) x each h n (suc i) = one_more P ys x (λ k. each (suc k)) h n i

take_one : (xs : List Sense) (n : ℕ) (x : Sense) → slice_get xs n ≡ Some x → take (suc n) xs ≡ take n xs ++ x ∷ []
take_one [] n x e = cc
take_one (y ∷ ys) zero x e = let same : y ≡ x = cc in ap (λ (z : Sense). z ∷ []) same
take_one (y ∷ ys) (suc n) x e = ap (λ (zs : List Sense). y ∷ zs) (take_one ys n x e)

no_past : (xs : List SyntaxNode) (n : ℕ) → slice_get xs n ≡ None → n < length xs → ⊥
no_past [] n e lt = omega arith
no_past (x ∷ xs) zero e lt = cc
no_past (x ∷ xs) (suc n) e lt = no_past xs n e (omega arith)

take_whole : (xs : List Sense) → take (length xs) xs ≡ xs
take_whole [] = refl
take_whole (x ∷ xs) = ap (λ (zs : List Sense). x ∷ zs) (take_whole xs)

node_found : (s : Source) (o : Option SyntaxNode) (n : ℕ) → slice_get s.nodes n ≡ o → n < length s.nodes → (node : SyntaxNode) × (slice_get s.nodes n ≡ Some node)
node_found s (Some node) n e lt = (node, e)
node_found s None n e lt = absurd (no_past s.nodes n e lt)

module _ (s : Source) (senses : List Sense) (are : AreSenses s senses) where
  up_to : (n : ℕ) → n ≤ length senses → (i : ℕ) → OfSense s (sense_in (take n senses) i)
  up_to zero le i = tt
  up_to (suc n) le i =
      let lt : n < length senses = omega (arith, le) in
      let before : (k : ℕ) → OfSense s (sense_in (take n senses) k) = up_to n (omega (arith, le)) in
      let x : Sense = sense_in senses n in
      let is : slice_get senses n ≡ Some x = slice_get-get_or senses n Nothing lt in
      let node = node_found s (slice_get s.nodes n) n refl (omega (arith, are.within)) in
      let here : OfSense s x =
      subst (λ (g : Given Sense). Gives (OfSense s) g) (are.each n node.0 x node.1 is) (row_kept (world_at s (take n senses) n) s (sense_in (take n senses)) before node.0.production n node.0.children.items) in
      subst (λ (xs : List Sense). OfSense s (sense_in xs i)) (sym (take_one senses n x is)) (one_more (OfSense s) (take n senses) x before here tt i)

  pub all_kept : (i : ℕ) → OfSense s (sense_in senses i)
  all_kept i = subst (λ (xs : List Sense). OfSense s (sense_in xs i)) (take_whole senses) (up_to (length senses) (omega arith) i)
