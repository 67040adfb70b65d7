-- Which bytes of a literal a backslash escapes, and where it closes.
use Rattle.std.proofs.Common.{◌≡◌, ℕ, ◌+◌, Bool, true, false, eqb, eq-eqb, ◌&&◌, not, inl, inr, List, get_or, refl, sym, ◌∙◌, arith, add-one}
use Rattle.std.proofs.lemmas.Bool.{cases_lt}
use Rattle.c_lexer.specs.Quotes.{is_escaped, Closes, Closed}

pub escaped_first : (text : List ℕ) (inside : ℕ) → is_escaped text inside 0 ≡ false
unfolding is_escaped
escaped_first text inside = refl

pub escaped_next : (text : List ℕ) (inside n : ℕ) (flag : Bool) → flag ≡ is_escaped text inside n → (eqb (get_or text (inside + n) 0) 92 && not flag) ≡ is_escaped text inside (n + 1)
unfolding is_escaped
escaped_next text inside n flag e = rw (add-one n, e) refl

both : (a b : ℕ) (flag escaped : Bool) → a ≡ b → flag ≡ escaped → escaped ≡ false → (eqb a b && not flag) ≡ true
both a b flag escaped e f g = let t = eq-eqb a b e in let n : flag ≡ false = f ∙ g in rw (t, n) refl

-- the test of a byte tells where a literal doesn't close
pub not_closed : (text : List ℕ) (quote n : ℕ) (mark : ℕ) (flag r : Bool) → mark ≡ get_or text quote 0 → flag ≡ is_escaped text (quote + 1) n → r ≡ (eqb (get_or text (quote + 1 + n) 0) mark && not flag) → r ≡ false → Closes text quote n → ⊥
not_closed text quote n mark flag r m f e off c = let t = both _ mark flag _ (c.0 ∙ sym m) f c.1 in cc

-- a literal has one end
pub closed_same : (text : List ℕ) (quote n m : ℕ) → Closed text quote n → Closed text quote m → n ≡ m
closed_same text quote n m a b =
    elim (cases_lt n m) [
      | inl l ↦ absurd (b.first n l a.closes)
      | inr l ↦ elim (cases_lt m n) [ inl k ↦ absurd (a.first m k b.closes) | inr k ↦ omega arith ]
    ]
