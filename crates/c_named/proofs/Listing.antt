-- What declarations give, by their leaves.
use Rattle.std.proofs.Common.{◌≡◌, ℕ, Bool, false, ◌&&◌, ◌||◌, List, [], ◌∷◌, Option, Some, None, refl, ap, ◌∙◌}
use Rattle.c_scope.specs.declared.kinds.Declared.{Declared as Declaration}
use Rattle.c_types.specs.Trees.{Ctype}
use Rattle.c_senses.specs.Tree.{Source}
use Rattle.c_senses.specs.World.{World, same_type}
use Rattle.c_senses.specs.Sense.{Sense}
use Rattle.c_senses.specs.Entities.{own_type, all_same, types_of, some_such, defines}
use Rattle.c_named.specs.Lists.{is_of, all_of, with_type, types_at, defines_at, some_defines, leaves_of}

of_elim : (t : Ctype) (o : Option Ctype) → is_of t o ≡ elim o [ None ↦ false | Some other ↦ same_type other t ]
of_elim t None = refl
of_elim t (Some other) = refl

with_elim : (o : Option Ctype) (rest : List Ctype) → with_type o rest ≡ elim o [ None ↦ rest | Some t ↦ t ∷ rest ]
with_elim None rest = refl
with_elim (Some t) rest = refl

module _ (w : World) (s : Source) (sense : ℕ → Sense) where
  pub same_all : (t : Ctype) (ds : List Declaration) → all_of s sense t (leaves_of ds) ≡ all_same w s sense t ds
  same_all t [] = refl
  same_all t (d ∷ rest) =
      ap (λ (b : Bool). b && all_of s sense t (leaves_of rest)) (of_elim t (own_type s sense d.node))
      ∙ ap (λ (b : Bool). (elim (own_type s sense d.node) [ None ↦ false | Some other ↦ same_type other t ]) && b) (same_all t rest)

  pub types_all : (ds : List Declaration) → types_at s sense (leaves_of ds) ≡ types_of s sense ds
  types_all [] = refl
  types_all (d ∷ rest) =
      with_elim (own_type s sense d.node) (types_at s sense (leaves_of rest))
      ∙ ap (λ (ts : List Ctype). elim (own_type s sense d.node) [ None ↦ ts | Some t ↦ t ∷ ts ]) (types_all rest)

  pub defines_all : (ds : List Declaration) → some_defines s sense (leaves_of ds) ≡ some_such s sense (λ d. defines w s sense d.node) ds
  defines_all [] = refl
  defines_all (d ∷ rest) = ap (λ (b : Bool). defines_at s sense d.node || b) (defines_all rest)
