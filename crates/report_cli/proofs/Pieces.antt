-- A text that is read piece by piece.
use Rattle.std.proofs.Common.{◌≡◌, ℕ, ◌+◌, ◌≤◌, Option, Some, None, List, ◌++◌, length, take, drop, sym, ap, ◌∙◌, subst, arith}
use Rattle.std.specs.Option.{IfSome}
use Rattle.std.proofs.lemmas.List.{take-append-le, length-append, length-take}
use Rattle.std.proofs.Math.Seq.{take-add}
use Rattle.pta_base.specs.Outside.{IsCopied}

-- what was read is a front of the text, and so it is with a piece more
front_more : (told text piece rest : List ℕ) (count : ℕ) → text ≡ take (length text) told → IsCopied told (length text) count piece → count ≤ length piece
    → text ++ take count (piece ++ rest) ≡ take (length (text ++ take count (piece ++ rest))) told
front_more told text piece rest count front copy within =
    let n = length text in
    let piece_is : take count (piece ++ rest) ≡ take count piece = take-append-le count piece rest within in
    let size : length (take count (piece ++ rest)) ≡ count = ap length piece_is ∙ simp length-take (omega arith) in
    let whole : length (text ++ take count (piece ++ rest)) ≡ n + count = length-append text (take count (piece ++ rest)) ∙ ap (λ k. n + k) size in
    ap (λ xs. text ++ xs) (piece_is ∙ copy.copied)
    ∙ (ap (λ xs. xs ++ take count (drop n told)) front
    ∙ (sym (take-add n count told) ∙ ap (λ k. take k told) (sym whole)))

pub told_more : (before now : Option (List ℕ)) (text piece rest new : List ℕ) (count at : ℕ) → before ≡ now → at ≡ length text → new ≡ text ++ take count (piece ++ rest) → IfSome now (λ told. text ≡ take (length text) told)
    → IfSome before (λ told. IsCopied told at count piece) → count ≤ length piece → IfSome now (λ told. new ≡ take (length new) told)
told_more before None text piece rest new count at e a n f k w = tt
told_more before (Some told) text piece rest new count at e a n f k w =
    let c : IsCopied told at count piece = subst (λ (o : Option (List ℕ)). IfSome o (λ told. IsCopied told at count piece)) e k in
    subst (λ xs. xs ≡ take (length xs) told) (sym n) (front_more told text piece rest count f (subst (λ i. IsCopied told i count piece) a c) w)
