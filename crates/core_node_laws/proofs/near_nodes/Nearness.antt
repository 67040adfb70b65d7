-- Lists of nodes that are near.
use Rattle.std.proofs.Common.{◌≡◌, ℕ, zero, suc, Bool, true, false, List, [], ◌∷◌, Option, Some, None, slice_get, refl, subst}
use Rattle.std.specs.Prelude.{⊤, if◌then◌else◌}
use Rattle.core_tree.specs.Rows.{Has}
use Rattle.core_nodes.specs.passed.c_senses.Tree.{first_where, last_or, last_where, all_where}
use Rattle.core_nodes.specs.passed.c_senses.Sense.{last_of}

module _ (near : ℕ → Type 0) where
  abbrev pub AllNear : List ℕ → Type 0
  AllNear [] = ⊤
  AllNear (c ∷ rest) = near c × AllNear rest

  abbrev pub IfNear : Option ℕ → Type 0
  IfNear None = ⊤
  IfNear (Some c) = near c

  pub all_near : (list : List ℕ) → ((c : ℕ) → Has list c → near c) → AllNear list
  all_near [] h = tt
  all_near (c ∷ rest) h = (h c (0, refl), all_near rest (λ d k. h d (suc k.0, k.1)))

  pub one_near : (list : List ℕ) (c : ℕ) → AllNear list → Has list c → near c
  one_near [] c h (k, e) = cc
  one_near (x ∷ rest) c h (k, e) = by k e (λ j f. one_near rest c h.1 (j, f))
    where
      by : (k : ℕ) → slice_get (x ∷ rest) k ≡ Some c → ((j : ℕ) → slice_get rest j ≡ Some c → near c) → near c
      by zero e later = subst near (let same : x ≡ c = cc in same) h.0
      by (suc k) e later = later k e

  pub chosen_near : (test : ℕ → Bool) (list : List ℕ) → AllNear list → AllNear (all_where test list)
  chosen_near test [] h = tt
  chosen_near test (c ∷ rest) h = by (test c) (chosen_near test rest h.1)
    where
      by : (b : Bool) → AllNear (all_where test rest) → AllNear (if b then c ∷ all_where test rest else all_where test rest)
      by true more = (h.0, more)
      by false more = more

  pub first_near : (test : ℕ → Bool) (list : List ℕ) → AllNear list → IfNear (first_where test list)
  first_near test [] h = tt
  first_near test (c ∷ rest) h = by (test c) (first_near test rest h.1)
    where
      by : (b : Bool) → IfNear (first_where test rest) → IfNear (if b then Some c else first_where test rest)
      by true more = h.0
      by false more = more

  or_near : (a b : Option ℕ) → IfNear a → IfNear b → IfNear (last_or a b)
  or_near None b h k = k
  or_near (Some x) b h k = h

  pub last_near : (test : ℕ → Bool) (list : List ℕ) → AllNear list → IfNear (last_where test list)
  last_near test [] h = tt
  last_near test (c ∷ rest) h = or_near (last_where test rest) (if test c then Some c else None) (last_near test rest h.1) (by (test c))
    where
      by : (b : Bool) → IfNear (if b then Some c else None)
      by true = h.0
      by false = tt

  pub end_near : (first : ℕ) (rest : List ℕ) → near first → AllNear rest → near (last_of first rest)
  end_near first [] h k = h
  end_near first (x ∷ rest) h k = end_near x rest k.0 k.1
