-- The code's search of a table of words.
use Rattle.std.proofs.Common.{◌≡◌, ℕ, ◌+◌, ◌<◌, ◌≤◌, true, false, nat_eq, Some, None, List, length, map, drop, get_or, refl, sym, ap, ◌∙◌, drop-cons, add-one}
use Rattle.std.specs.Borrow.{Bor}
use Rattle.std.specs.Cmp.Lexicographic.{pointwise}
use Rattle.std.proofs.lemmas.List.{drop_all}
use Rattle.c_lexer.specs.Meanings.{lookup}

abbrev pub entries : List (Bor (List ℕ) × ℕ) → List (List ℕ × ℕ)
entries table = map (λ e. (e.0.now, e.1)) table

pub lookup_here : (table : List (Bor (List ℕ) × ℕ)) (i : ℕ) (d : Bor (List ℕ) × ℕ) (word : List ℕ) → i < length table → pointwise nat_eq (get_or table i d).0.now word ≡ true → lookup (entries (drop i table)) word ≡ Some (get_or table i d).1
unfolding lookup
lookup_here table i d word h e = ap (λ l. lookup (entries l) word) (drop-cons table i d h) ∙ rw e refl

pub lookup_next : (table : List (Bor (List ℕ) × ℕ)) (i : ℕ) (d : Bor (List ℕ) × ℕ) (word : List ℕ) → i < length table → pointwise nat_eq (get_or table i d).0.now word ≡ false → lookup (entries (drop (i + 1) table)) word ≡ lookup (entries (drop i table)) word
unfolding lookup
lookup_next table i d word h e = sym (ap (λ l. lookup (entries l) word) (drop-cons table i d h) ∙ rw (e, add-one) refl)

pub lookup_end : (table : List (Bor (List ℕ) × ℕ)) (i : ℕ) (word : List ℕ) → length table ≤ i → lookup (entries (drop i table)) word ≡ None
unfolding lookup
lookup_end table i word h = ap (λ l. lookup (entries l) word) (drop_all i table h)
