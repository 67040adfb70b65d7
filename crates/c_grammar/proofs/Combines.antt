-- Type words that combine.
use Rattle.std.proofs.Common.{◌≡◌, ℕ, Bool, true, false, List, ◌∷◌, leb, ◌&&◌, refl, sym, ap, ◌∙◌}
use Rattle.std.specs.List.{list_all, count_by}
use Rattle.std.specs.Bool.{◌==◌}
use Rattle.std.proofs.lemmas.List.Recursion.{is_count_by}
use Rattle.c_grammar.specs.Fits.{times, is_part_of}

pub times_is : (word : ℕ) (words : List ℕ) → times word words ≡ count_by (λ w. w == word) words
times_is word words = is_count_by (λ ws. times word ws) (λ w. w == word) refl (λ w ws. refl) words

pub part_true : (word : ℕ) (words list : List ℕ) (r : Bool) → leb (times word (word ∷ words)) (times word list) ≡ true → r ≡ list_all (λ w. leb (times w (word ∷ words)) (times w list)) words → r ≡ is_part_of (word ∷ words) list
part_true word words list r e f = f ∙ ap (λ b. b && list_all (λ w. leb (times w (word ∷ words)) (times w list)) words) (sym e)

pub part_false : (word : ℕ) (words list : List ℕ) → leb (times word (word ∷ words)) (times word list) ≡ false → false ≡ is_part_of (word ∷ words) list
part_false word words list e = ap (λ b. b && list_all (λ w. leb (times w (word ∷ words)) (times w list)) words) (sym e)
