-- The suffixes of integer constants.
use Rattle.std.proofs.Common.{◌≡◌, ℕ, List, refl}
use Rattle.std.specs.List.{count_by}
use Rattle.std.proofs.lemmas.List.Recursion.{is_count_by}
use Rattle.c_senses.specs.Literals.{count_of_long, is_one_of}

pub count_of_long_is : (xs : List ℕ) → count_of_long xs ≡ count_by (is_one_of 76 108) xs
count_of_long_is xs = is_count_by count_of_long (is_one_of 76 108) refl (λ _ _. refl) xs
