-- The texts of names.
use Rattle.std.proofs.Common.{◌≡◌, ◌<◌, ◌∙◌, ℕ, List, Some, length, ap, slice_get, get_or, option_map, rules}
use Rattle.std.specs.Borrow.{Bor}
use Rattle.std.proofs.lemmas.Option.{slice_get-map, slice_get-get_or}
use Rattle.text_units.specs.Answers.{names_of}

pub some_same : (a b : List ℕ) → Some a ≡ Some b → a ≡ b
some_same a b same = search rules

pub text_at : (names : List (Bor (List ℕ))) (i : ℕ) (d : Bor (List ℕ)) → i < length names → slice_get (names_of names) i ≡ Some (get_or names i d).now
text_at names i d within = slice_get-map (λ (b : Bor (List ℕ)). b.now) names i ∙ ap (option_map (λ (b : Bor (List ℕ)). b.now)) (slice_get-get_or names i d within)
