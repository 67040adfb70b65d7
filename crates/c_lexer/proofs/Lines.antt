-- The place behind one byte more.
use Rattle.std.proofs.Common.{◌≡◌, ℕ, ◌+◌, Bool, true, false, eqb, ◌&&◌, List, get_or, refl, sym, ap, ◌∙◌, arith, add-one}
use Rattle.std.proofs.lemmas.Bool.Decides.{nat_tests}
use Rattle.c_lexer.specs.declared.places.Place.{Place}
use Rattle.c_lexer.specs.Bytes.{is_blank}
use Rattle.c_lexer.specs.Places.{line_of, column_of, begins_line, IsPlace}

pub place_first : (text : List ℕ) → IsPlace text 0 (record { line = 1; column = 1; begins_line = true })
unfolding line_of column_of begins_line
place_first text = record { line = refl; column = refl; blank = refl; few_lines = omega arith; few_columns = omega arith }

no_feed : (c : ℕ) → (c ≡ 10 → ⊥) → eqb c 10 ≡ false
no_feed c n = grind (arith, nat_tests)

line_feed : (text : List ℕ) (n : ℕ) → get_or text n 0 ≡ 10 → (line_of text (n + 1) ≡ line_of text n + 1) × (column_of text (n + 1) ≡ 1) × (begins_line text (n + 1) ≡ true)
unfolding line_of column_of begins_line
line_feed text n e = (rw (add-one n, e) refl, rw (add-one n, e) refl, rw (add-one n, e) refl)

line_same : (text : List ℕ) (n : ℕ) → (get_or text n 0 ≡ 10 → ⊥) → (line_of text (n + 1) ≡ line_of text n) × (column_of text (n + 1) ≡ column_of text n + 1) × (begins_line text (n + 1) ≡ (is_blank (get_or text n 0) && begins_line text n))
unfolding line_of column_of begins_line
line_same text n e = let f = no_feed _ e in (rw (add-one n, f) refl, rw (add-one n, f) refl, rw (add-one n, f) refl)

pub place_feed : (text : List ℕ) (at : ℕ) (place : Place) → get_or text at 0 ≡ 10 → IsPlace text at place → IsPlace text (at + 1) (record { line = place.line + 1; column = 1; begins_line = true })
place_feed text at place e p =
    let f = line_feed text at e in
    record {
      line = ap (λ n. n + 1) p.line ∙ sym f.0;
      column = sym f.1;
      blank = sym f.2;
      few_lines = omega (arith, p.few_lines);
      few_columns = omega arith;
    }

pub place_same : (text : List ℕ) (at : ℕ) (place : Place) (blank : Bool) → (get_or text at 0 ≡ 10 → ⊥) → blank ≡ (is_blank (get_or text at 0) && place.begins_line) → IsPlace text at place → IsPlace text (at + 1) (record { line = place.line; column = place.column + 1; begins_line = blank })
place_same text at place blank n b p =
    let f = line_same text at n in
    record {
      line = p.line ∙ sym f.0;
      column = ap (λ n. n + 1) p.column ∙ sym f.1;
      blank = b ∙ (ap (λ x. is_blank (get_or text at 0) && x) p.blank ∙ sym f.2);
      few_lines = omega (arith, p.few_lines);
      few_columns = omega (arith, p.few_columns);
    }
