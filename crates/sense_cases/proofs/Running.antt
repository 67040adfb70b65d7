-- What the run over a tree's nodes comes to is what the rows give.
use Rattle.std.proofs.Common.{arith, ◌≡◌, ℕ, ◌+◌, ◌<◌, List, [], ◌∷◌, ◌++◌, Some, length, slice_get, refl, sym, ap, ◌∙◌, subst}
use Rattle.std.proofs.lemmas.Option.{slice_get-get_or}
use Rattle.std.proofs.lemmas.List.{append_assoc, length-append}
use Rattle.std.proofs.Math.Seq.{get_or-append_seam}
use Rattle.c_grammar.specs.declared.trees.SyntaxNode.{SyntaxNode}
use Rattle.c_senses.specs.Given.{Given, Fits, Refuses, ◌>>=◌}
use Rattle.c_senses.specs.Tree.{Source}
use Rattle.c_senses.specs.Sense.{Sense}
use Rattle.c_senses.specs.Rows.{row, AreSenses, RefusedAt}
use Rattle.sense_cases.specs.Run.{run, all_senses}
use Rattle.sense_cases.proofs.Readings.{one_more, nothing_yet}

abbrev pub Comes : Source → Given (List Sense) → Type 0
Comes s (Fits senses) = AreSenses s senses × (length senses ≡ length s.nodes)
Comes s (Refuses kind named) = RefusedAt s kind named

module _ (s : Source) where
  abbrev Ahead : List SyntaxNode → Type 0
  Ahead rest = (front : List SyntaxNode) (senses : List Sense) → s.nodes ≡ front ++ rest → length senses ≡ length front → AreSenses s senses → Comes s (run s senses rest)

  stands : (front : List SyntaxNode) (n : SyntaxNode) (rest : List SyntaxNode) (senses : List Sense) → s.nodes ≡ front ++ n ∷ rest → length senses ≡ length front → slice_get s.nodes (length senses) ≡ Some n
  stands front n rest senses e l =
      let all : length (front ++ n ∷ rest) ≡ length front + length (n ∷ rest) = length-append front (n ∷ rest) in
      let lt : length front < length (front ++ n ∷ rest) = omega (arith, all) in
      let at : slice_get (front ++ n ∷ rest) (length front) ≡ Some n = slice_get-get_or (front ++ n ∷ rest) (length front) n lt ∙ ap Some (get_or-append_seam front n rest n) in
      subst (λ (i : ℕ). slice_get s.nodes i ≡ Some n) (sym l) (subst (λ (l : List SyntaxNode). slice_get l (length front) ≡ Some n) (sym e) at)

  by_row : (front : List SyntaxNode) (n : SyntaxNode) (rest : List SyntaxNode) (senses : List Sense) → s.nodes ≡ front ++ n ∷ rest → length senses ≡ length front → AreSenses s senses → Ahead rest
      → (g : Given Sense) → row s senses (length senses) n ≡ g → Comes s (g >>= (λ x. run s (senses ++ x ∷ []) rest))
  by_row front n rest senses e l before ahead (Fits x) r =
      let there : slice_get s.nodes (length senses) ≡ Some n = stands front n rest senses e l in
      let a : length (senses ++ x ∷ []) ≡ length senses + 1 = length-append senses (x ∷ []) in
      let b : length (front ++ n ∷ []) ≡ length front + 1 = length-append front (n ∷ []) in
      ahead (front ++ n ∷ []) (senses ++ x ∷ []) (e ∙ sym (append_assoc front (n ∷ []) rest)) (omega (arith, a, b, l)) (one_more s senses n x before there r)
  by_row front n rest senses e l before ahead (Refuses kind named) r =
      record { senses = senses; before = before; node = n; stands = stands front n rest senses e l; refuses = r }

  from : (rest : List SyntaxNode) → Ahead rest
  from [] front senses e l before =
      let a : length (front ++ []) ≡ length front + length {A = SyntaxNode} [] = length-append front [] in
      let b : length s.nodes ≡ length (front ++ []) = ap length e in
      (before, omega (arith, a, b, l))
  from (n ∷ rest) front senses e l before = by_row front n rest senses e l before (from rest) (row s senses (length senses) n) refl

  pub comes : Comes s (all_senses s)
  comes = from s.nodes [] [] refl refl (nothing_yet s)

pub come_to : (s : Source) (g : Given (List Sense)) → all_senses s ≡ g → Comes s g
come_to s g e = subst (λ (h : Given (List Sense)). Comes s h) e (comes s)
