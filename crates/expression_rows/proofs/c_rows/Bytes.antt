-- The bytes of string literals side by side.
use Rattle.std.proofs.Common.{arith, ◌≡◌, ℕ, zero, suc, ◌+◌, ◌<◌, ◌↔◌, ◌&&◌, nat_lt, Bool, true, false, IsTrue, List, [], ◌∷◌, ◌++◌, append_assoc, length, get_or, drop, drop-cons, All, refl, sym, ap, ◌∙◌}
use Rattle.std.proofs.lemmas.Bool.{le-leb, leb-true, false≢true}
use Rattle.std.proofs.lemmas.List.Elements.{All-head, All-tail}
use Rattle.std.proofs.lemmas.List.Folds.{list_all-append}
use Rattle.core_nodes.specs.declared.fault.CheckFault.{CheckFault}
use Rattle.core_nodes.specs.declared.fault.CheckFault.TheVariants.{BadOperand, Unsupported, OutOfMemory}
use Rattle.c_senses.specs.Tree.{Source}
use Rattle.expression_rows.specs.c_rows.Literals.{are_bytes}
use Rattle.expression_rows.specs.c_rows.Pieces.{piece_at, pieces, IsUnbuilt}

pub and_both : (a b : Bool) → a ≡ true → b ≡ true → (a && b) ≡ true
and_both true b e f = f
and_both false b e f = e

and_left : (a b : Bool) → (a && b) ≡ true → a ≡ true
and_left true b h = refl
and_left false b h = absurd (false≢true h)

and_right : (a b : Bool) → (a && b) ≡ true → b ≡ true
and_right true b h = h
and_right false b h = absurd (false≢true h)

pub tested : (xs : List ℕ) → All (λ b. b < 256) xs → are_bytes xs ≡ true
tested [] h = refl
tested (x ∷ xs) h =
    let below : x < 256 = All-head (λ b. b < 256) x xs h in
    and_both (nat_lt x 256) (are_bytes xs) (le-leb (suc x) 256 (omega arith)) (tested xs (All-tail (λ b. b < 256) x xs h))

one_more : (x : ℕ) (xs : List ℕ) → x < 256 → All (λ b. b < 256) xs → (k d : ℕ) → k < length (x ∷ xs) → get_or (x ∷ xs) k d < 256
one_more x xs p h zero d lt = p
one_more x xs p h (suc k) d lt = h k d (omega arith)

below_all : (xs : List ℕ) → are_bytes xs ≡ true → All (λ b. b < 256) xs
below_all [] e = λ k d lt. absurd (omega arith)
below_all (x ∷ xs) e =
    let first : suc x < 257 = omega (arith, leb-true (suc x) 256 (and_left (nat_lt x 256) (are_bytes xs) e)) in
    one_more x xs (omega arith) (below_all xs (and_right (nat_lt x 256) (are_bytes xs) e))

-- a test that all of them are bytes
pub bytes_is : (r : Bool) (xs : List ℕ) → IsTrue r ↔ All (λ b. b < 256) xs → are_bytes xs ≡ r
bytes_is r xs h = by_test r (are_bytes xs) refl h
  where
    by_test : (r t : Bool) → t ≡ are_bytes xs → IsTrue r ↔ All (λ b. b < 256) xs → t ≡ r
    by_test true true e h = refl
    by_test false false e h = refl
    by_test true false e h = e ∙ tested xs (h.0 refl)
    by_test false true e h = sym (h.1 (below_all xs (sym e)))

-- one piece more
pub piece_more : (s : Source) (text more : List ℕ) (leaves : List ℕ) (i : ℕ) → i < length leaves → more ≡ text ++ piece_at s (get_or leaves i 0) → more ++ pieces s (drop (i + 1) leaves) ≡ text ++ pieces s (drop i leaves)
piece_more s text more leaves i lt e =
    let step : suc i ≡ i + 1 = omega arith in
    let rest : drop i leaves ≡ get_or leaves i 0 ∷ drop (i + 1) leaves = drop-cons leaves i 0 lt ∙ ap (λ (j : ℕ). get_or leaves i 0 ∷ drop j leaves) step in
    ap (λ (t : List ℕ). t ++ pieces s (drop (i + 1) leaves)) e
    ∙ (append_assoc text (piece_at s (get_or leaves i 0)) (pieces s (drop (i + 1) leaves)) ∙ sym (ap (λ (l : List ℕ). text ++ pieces s l) rest))

pub joined_bytes : (a b all : List ℕ) → all ≡ a ++ b → are_bytes a ≡ true → are_bytes b ≡ true → are_bytes all ≡ true
joined_bytes a b all e ea eb = ap are_bytes e ∙ (list_all-append (λ x. nat_lt x 256) a b ∙ and_both (are_bytes a) (are_bytes b) ea eb)

and_false_right : (a b : Bool) → b ≡ false → (a && b) ≡ false
and_false_right true b e = e
and_false_right false b e = refl

and_false_left : (a b : Bool) → a ≡ false → (a && b) ≡ false
and_false_left false b e = refl
and_false_left true b e = absurd (false≢true (sym e))

-- a piece that is no bytes
pub piece_fails : (s : Source) (text all : List ℕ) (leaves : List ℕ) (i : ℕ) → i < length leaves → text ++ pieces s (drop i leaves) ≡ all → are_bytes (piece_at s (get_or leaves i 0)) ≡ false → are_bytes all ≡ false
piece_fails s text all leaves i lt e f =
    let piece = piece_at s (get_or leaves i 0) in
    let step : suc i ≡ i + 1 = omega arith in
    let rest : drop i leaves ≡ get_or leaves i 0 ∷ drop (i + 1) leaves = drop-cons leaves i 0 lt ∙ ap (λ (j : ℕ). get_or leaves i 0 ∷ drop j leaves) step in
    let tail : are_bytes (piece ++ pieces s (drop (i + 1) leaves)) ≡ false =
    list_all-append (λ x. nat_lt x 256) piece (pieces s (drop (i + 1) leaves)) ∙ and_false_left (are_bytes piece) (are_bytes (pieces s (drop (i + 1) leaves))) f in
    ap are_bytes (sym e) ∙ (ap (λ (l : List ℕ). are_bytes (text ++ pieces s l)) rest
    ∙ (list_all-append (λ x. nat_lt x 256) text (piece ++ pieces s (drop (i + 1) leaves)) ∙ and_false_right (are_bytes text) (are_bytes (piece ++ pieces s (drop (i + 1) leaves))) tail))

pub unbuilt_too : (f : CheckFault) (at : ℕ) (a b : List ℕ) → (are_bytes a ≡ false → are_bytes b ≡ false) → IsUnbuilt f at a → IsUnbuilt f at b
unbuilt_too (BadOperand node) at a b h u = u
unbuilt_too (Unsupported kind node) at a b h u = (u.0, u.1, h u.2)
unbuilt_too OutOfMemory at a b h u = tt
