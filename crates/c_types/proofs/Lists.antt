-- Lists of types.
use Rattle.std.proofs.Common.{arith, ◌≡◌, ℕ, zero, suc, List, [], ◌∷◌, length, refl, ap}
use Rattle.c_types.specs.declared.term.TypeId.{TypeId}
use Rattle.c_types.specs.Trees.{Ctype, Ctypes, NoTypes, MoreTypes, trees_at, SameBefore}

counted : Ctypes → ℕ
counted NoTypes = 0
counted (MoreTypes t rest) = suc (counted rest)

counted-trees : (trees : List Ctype) (a : List TypeId) → counted (trees_at trees a) ≡ length a
unfolding counted
counted-trees trees [] = refl
counted-trees trees (x ∷ a) = ap suc (counted-trees trees a)

pub trees_length : (trees : List Ctype) (a b : List TypeId) → trees_at trees a ≡ trees_at trees b → length a ≡ length b
trees_length trees a b e = cc (counted-trees trees a, counted-trees trees b, ap counted e)

pub trees_same : (trees : List Ctype) (a b : List TypeId) → length a ≡ length b → SameBefore trees a b (length a) → trees_at trees a ≡ trees_at trees b
trees_same trees [] [] e h = refl
trees_same trees [] (y ∷ b) e h = absurd (omega arith)
trees_same trees (x ∷ a) [] e h = absurd (omega arith)
trees_same trees (x ∷ a) (y ∷ b) e h =
    let rest = trees_same trees a b (omega arith) (λ k lt. h (suc k) (omega arith)) in
    let first = h 0 (omega arith) in
    cc

pub trees_each : (trees : List Ctype) (a b : List TypeId) → trees_at trees a ≡ trees_at trees b → (n : ℕ) → SameBefore trees a b n
trees_each trees [] [] e n k lt = refl
trees_each trees [] (y ∷ b) e n k lt = cc
trees_each trees (x ∷ a) [] e n k lt = cc
trees_each trees (x ∷ a) (y ∷ b) e n zero lt = cc
trees_each trees (x ∷ a) (y ∷ b) e n (suc k) lt =
    let rest : trees_at trees a ≡ trees_at trees b = cc in
    trees_each trees a b rest (suc k) k (omega arith)
