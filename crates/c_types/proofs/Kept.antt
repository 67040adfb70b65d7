-- The types of a table with one term more.
use Rattle.std.proofs.Common.{arith, ◌≡◌, ℕ, ◌<◌, List, [], ◌∷◌, ◌++◌, length, ap, ◌∙◌}
use Rattle.std.proofs.lemmas.List.{get_or_push}
use Rattle.c_types.specs.declared.term.Term.{Term}
use Rattle.c_types.specs.Trees.{VoidType, tree_at, grow, grown}
use Rattle.c_types.proofs.Grow.{grown_push, grown_length, tree_before}

pub type_kept : (terms : List Term) (t : Term) (i : ℕ) → i < length terms → tree_at (grown [] (terms ++ t ∷ [])) i ≡ tree_at (grown [] terms) i
type_kept terms t i h =
    ap (λ ts. tree_at ts i) (grown_push terms t) ∙ tree_before (grown [] terms) (grow (grown [] terms) t ∷ []) i (omega (arith, grown_length [] terms))

pub type_new : (terms : List Term) (t : Term) (i : ℕ) → i ≡ length terms → tree_at (grown [] (terms ++ t ∷ [])) i ≡ grow (grown [] terms) t
type_new terms t i h =
    ap (λ ts. tree_at ts i) (grown_push terms t) ∙ get_or_push (grown [] terms) (grow (grown [] terms) t) VoidType i (omega (arith, grown_length [] terms))
