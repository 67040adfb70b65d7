-- Texts that get one line more.
use Rattle.std.proofs.Common.{◌≡◌, ℕ, ◌+◌, ◌<◌, Bool, true, false, cond, List, [], ◌∷◌, ◌++◌, map, flat_map, length, take, get_or, refl, sym, ◌∙◌, ap, arith, append_assoc, append-nil}
use Rattle.std.specs.Prelude.{codes}
use Rattle.std.specs.List.{filter, range_with_len}
use Rattle.std.proofs.lemmas.List.{take_more, map_more, map-append}
use Rattle.std.proofs.lemmas.Grind.{flat_map-append}
use Rattle.unit_report.specs.report_text.Report.{text_of}
use Rattle.call_graph.proofs.row_members.Ranges.{filter_range_more}

-- pieces for the items of a list, one item more
pub pieces_more : {X : Type 0} (f : X → List ℕ) (xs : List X) (i : ℕ) (x : X) (before so_far after : List ℕ) → i < length xs
    → so_far ≡ before ++ flat_map f (take i xs) → after ≡ so_far ++ f (get_or xs i x) → after ≡ before ++ flat_map f (take (i + 1) xs)
pieces_more f xs i x before so_far after lt e more =
    more ∙ ap (λ text. text ++ f (get_or xs i x)) e
    ∙ append_assoc before (flat_map f (take i xs)) (f (get_or xs i x))
    ∙ ap (λ (rest : List ℕ). before ++ rest)
    (ap (λ (end : List ℕ). flat_map f (take i xs) ++ end) (sym (append-nil (f (get_or xs i x))))
    ∙ sym (flat_map-append f (take i xs) (get_or xs i x ∷ []))
    ∙ ap (flat_map f) (sym (take_more xs i x lt)))

-- lines for the items of a list, one item more
pub line_more : {X : Type 0} (f : X → List ℕ) (xs : List X) (i : ℕ) (x : X) (before so_far after : List ℕ) → i < length xs
    → so_far ≡ before ++ text_of (map f (take i xs)) → after ≡ so_far ++ (f (get_or xs i x) ++ codes "\n") → after ≡ before ++ text_of (map f (take (i + 1) xs))
line_more f xs i x before so_far after lt e more =
    let last : List ℕ = f (get_or xs i x) ++ codes "\n" in
    more ∙ ap (λ text. text ++ last) e
    ∙ append_assoc before (text_of (map f (take i xs))) last
    ∙ ap (λ (rest : List ℕ). before ++ rest)
    (ap (λ (end : List ℕ). text_of (map f (take i xs)) ++ end) (sym (append-nil last))
    ∙ sym (flat_map-append (λ line. line ++ codes "\n") (map f (take i xs)) (f (get_or xs i x) ∷ []))
    ∙ ap text_of (sym (map_more f xs i x lt)))

-- a line for one number, or none
line_if : (f : ℕ → List ℕ) (n : ℕ) (b : Bool) → text_of (map f (cond b (n ∷ []) [])) ≡ cond b (f n ++ codes "\n") []
line_if f n true = append-nil (f n ++ codes "\n")
line_if f n false = refl

-- lines for the numbers that pass a test, one number more
pub tested_more : (f : ℕ → List ℕ) (p : ℕ → Bool) (n : ℕ) (before so_far after : List ℕ) → so_far ≡ before ++ text_of (map f (filter p (range_with_len 0 n)))
    → after ≡ so_far ++ cond (p n) (f n ++ codes "\n") [] → after ≡ before ++ text_of (map f (filter p (range_with_len 0 (n + 1))))
tested_more f p n before so_far after e more =
    let kept : List ℕ = filter p (range_with_len 0 n) in
    let last : List ℕ = cond (p n) (n ∷ []) [] in
    more ∙ ap (λ text. text ++ cond (p n) (f n ++ codes "\n") []) e
    ∙ append_assoc before (text_of (map f kept)) (cond (p n) (f n ++ codes "\n") [])
    ∙ ap (λ (rest : List ℕ). before ++ rest)
    (ap (λ (end : List ℕ). text_of (map f kept) ++ end) (sym (line_if f n (p n)))
    ∙ sym (flat_map-append (λ line. line ++ codes "\n") (map f kept) (map f last))
    ∙ ap text_of (sym (map-append f kept last))
    ∙ ap (λ (ns : List ℕ). text_of (map f ns)) (sym (filter_range_more p 0 n n (omega arith))))

-- the same by the answer of the test
pub tested_yes : (f : ℕ → List ℕ) (p : ℕ → Bool) (n : ℕ) (before so_far after : List ℕ) → p n ≡ true → so_far ≡ before ++ text_of (map f (filter p (range_with_len 0 n)))
    → after ≡ so_far ++ (f n ++ codes "\n") → after ≡ before ++ text_of (map f (filter p (range_with_len 0 (n + 1))))
tested_yes f p n before so_far after holds e more =
    tested_more f p n before so_far after e (more ∙ ap (λ (b : Bool). so_far ++ cond b (f n ++ codes "\n") []) (sym holds))

pub tested_no : (f : ℕ → List ℕ) (p : ℕ → Bool) (n : ℕ) (before so_far : List ℕ) → p n ≡ false → so_far ≡ before ++ text_of (map f (filter p (range_with_len 0 n)))
    → so_far ≡ before ++ text_of (map f (filter p (range_with_len 0 (n + 1))))
tested_no f p n before so_far fails e =
    tested_more f p n before so_far so_far e (sym (append-nil so_far) ∙ ap (λ (b : Bool). so_far ++ cond b (f n ++ codes "\n") []) (sym fails))

-- the lines of a report, part by part
pub whole_text : (sets calls edges : List (List ℕ)) (a b c d e : List ℕ) → a ≡ codes "pta 1\n" → b ≡ a ++ text_of sets → c ≡ b ++ text_of calls → d ≡ c ++ text_of edges → e ≡ d ++ codes "end\n"
    → e ≡ text_of (codes "pta 1" ∷ (sets ++ (calls ++ (edges ++ codes "end" ∷ []))))
whole_text sets calls edges a b c d e first second third fourth fifth =
    let S : List ℕ = text_of sets in
    let C : List ℕ = text_of calls in
    let E : List ℕ = text_of edges in
    let N : List ℕ = codes "end\n" in
    let lines : List ℕ → List ℕ = λ line. line ++ codes "\n" in
    fifth ∙ ap (λ (x : List ℕ). x ++ N) (fourth ∙ ap (λ (x : List ℕ). x ++ E) (third ∙ ap (λ (x : List ℕ). x ++ C) (second ∙ ap (λ (x : List ℕ). x ++ S) first)))
    ∙ append_assoc ((codes "pta 1\n" ++ S) ++ C) E N
    ∙ append_assoc (codes "pta 1\n" ++ S) C (E ++ N)
    ∙ append_assoc (codes "pta 1\n") S (C ++ (E ++ N))
    ∙ ap (λ (x : List ℕ). codes "pta 1\n" ++ x)
    (sym (flat_map-append lines sets (calls ++ (edges ++ codes "end" ∷ []))
    ∙ ap (λ (x : List ℕ). S ++ x) (flat_map-append lines calls (edges ++ codes "end" ∷ [])
    ∙ ap (λ (x : List ℕ). C ++ x) (flat_map-append lines edges (codes "end" ∷ [])))))
