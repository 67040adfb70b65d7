-- How a literal opens.
use Rattle.std.proofs.Common.{◌≡◌, ℕ, ◌+◌, ◌-◌, ◌<◌, true, eqb, ◌⊎◌, inl, inr, cond, List, length, get_or, refl, sym, ap, ◌∙◌, subst, arith, add-zero}
use Rattle.std.proofs.lemmas.Bool.{cases_lt}
use Rattle.c_lexer.specs.declared.runs.Run.TheVariants.{Name}
use Rattle.c_lexer.specs.declared.quotes.Prefix.{Prefix}
use Rattle.c_lexer.specs.declared.quotes.Prefix.TheVariants.{Plain, Wide, Char16, Char32, Utf8}
use Rattle.c_lexer.specs.declared.quotes.Quote.{Quote}
use Rattle.c_lexer.specs.declared.quotes.Quote.TheVariants.{Character, Text}
use Rattle.c_lexer.specs.Bytes.{is_letter, is_digit}
use Rattle.c_lexer.specs.Quotes.{prefix, mark, Opens, Closed}
use Rattle.c_lexer.specs.Pieces.{follows, run, literal, quote_of, Stands}
use Rattle.c_lexer.proofs.Quoted.{closed_same}

-- the first byte of a literal: a quote, L, u or U
abbrev pub LiteralByte : ℕ → Type 0
LiteralByte c = (c ≡ 34) ⊎ ((c ≡ 39) ⊎ ((c ≡ 76) ⊎ ((c ≡ 117) ⊎ (c ≡ 85))))

first_spelled : (text : List ℕ) (from : ℕ) (p : Prefix) (q : Quote) → Opens text from p q → 0 < length (prefix p) → get_or text from 0 ≡ get_or (prefix p) 0 0
first_spelled text from p q o l = let e = o.spelled.1 0 l in rw add-zero at e

marked : (q : Quote) → (mark q ≡ 34) ⊎ (mark q ≡ 39)
marked Character = inr refl
marked Text = inl refl

plain_quote : (text : List ℕ) (from : ℕ) (q : Quote) → Opens text from Plain q → get_or text from 0 ≡ mark q
plain_quote text from q o = let e = o.quote in rw add-zero at e

pub literal_first : (text : List ℕ) (from : ℕ) (p : Prefix) (q : Quote) → Opens text from p q → LiteralByte (get_or text from 0)
literal_first text from Plain q o = elim (marked q) [ inl e ↦ inl (plain_quote text from q o ∙ e) | inr e ↦ inr (inl (plain_quote text from q o ∙ e)) ]
literal_first text from Wide q o = inr (inr (inl (first_spelled text from Wide q o (omega arith))))
literal_first text from Char16 q o = inr (inr (inr (inl (first_spelled text from Char16 q o (omega arith)))))
literal_first text from Char32 q o = inr (inr (inr (inr (first_spelled text from Char32 q o (omega arith)))))
literal_first text from Utf8 q o = inr (inr (inr (inl (first_spelled text from Utf8 q o (omega arith)))))

-- the prefix that two bytes leave open
abbrev by_bytes : ℕ → ℕ → Prefix
by_bytes a b = cond (eqb a 76) Wide (cond (eqb a 85) Char32 (cond (eqb a 117) (cond (eqb b 56) Utf8 Char16) Plain))

by_first : (text : List ℕ) (from : ℕ) (p : Prefix) (q : Quote) → Opens text from p q → p ≡ by_bytes (get_or text from 0) (get_or text (from + 1) 0)
by_first text from Plain Character o = let e = plain_quote text from Character o in rw e refl
by_first text from Plain Text o = let e = plain_quote text from Text o in rw e refl
by_first text from Wide q o = let e = first_spelled text from Wide q o (omega arith) in rw e refl
by_first text from Char16 Character o = let e = first_spelled text from Char16 Character o (omega arith) in let f = o.quote in rw (e, f) refl
by_first text from Char16 Text o = let e = first_spelled text from Char16 Text o (omega arith) in let f = o.quote in rw (e, f) refl
by_first text from Char32 q o = let e = first_spelled text from Char32 q o (omega arith) in rw e refl
by_first text from Utf8 q o = let e = first_spelled text from Utf8 q o (omega arith) in let f = o.spelled.1 1 (omega arith) in rw (e, f) refl

mark_same : (q q' : Quote) → mark q ≡ mark q' → q ≡ q'
mark_same Character Character e = refl
mark_same Character Text e = absurd (omega arith)
mark_same Text Character e = absurd (omega arith)
mark_same Text Text e = refl

-- at one place one literal opens
pub opens_same : (text : List ℕ) (from : ℕ) (p p' : Prefix) (q q' : Quote) → Opens text from p q → Opens text from p' q' → (p ≡ p') × (q ≡ q')
opens_same text from p p' q q' a b =
    let e : p ≡ p' = by_first text from p q a ∙ sym (by_first text from p' q' b) in
    (e, mark_same q q' (sym a.quote ∙ (ap (λ x. get_or text (quote_of x from) 0) e ∙ b.quote)))

not_in_name : (before : ℕ) (q : Quote) → follows Name before (mark q) ≡ true → ⊥
unfolding follows is_letter is_digit
not_in_name before Character e = cc
not_in_name before Text e = cc

not_a_letter : (q : Quote) → is_letter (mark q) ≡ true → ⊥
unfolding is_letter
not_a_letter Character e = cc
not_a_letter Text e = cc

-- an identifier ends at the quote at the latest
pub name_ends : (text : List ℕ) (from end : ℕ) (p : Prefix) (q : Quote) → Opens text from p q → Stands (run Name) text from end → quote_of p from < end → ⊥
name_ends text from end p q o s l =
    elim (cases_lt from (quote_of p from)) [
      | inl h ↦ not_in_name _ q (subst (λ c. follows Name (get_or text (quote_of p from - 1) 0) c ≡ true) o.quote (s.2 (quote_of p from) h l))
      | inr h ↦
          let e : from ≡ quote_of p from = omega arith in
          not_a_letter q (subst (λ c. is_letter c ≡ true) (ap (λ i. get_or text i 0) e ∙ o.quote) s.1)
    ]

-- at one place one literal stands
pub literal_same : (text : List ℕ) (from end end' : ℕ) (p p' : Prefix) (q q' : Quote) → Stands (literal p q) text from end → Stands (literal p' q') text from end' → (p ≡ p') × (q ≡ q') × (end ≡ end')
literal_same text from end end' p p' q q' a b =
    let e = opens_same text from p p' q q' a.0 b.0 in
    let c : Closed text (quote_of p from) b.1.0 = subst (λ x. Closed text (quote_of x from) b.1.0) (sym e.0) b.1.2 in
    let n = closed_same text (quote_of p from) a.1.0 b.1.0 a.1.2 c in
    let f : quote_of p from ≡ quote_of p' from = ap (λ x. quote_of x from) e.0 in
    (e.0, e.1, omega (arith, n, f, a.1.1, b.1.1))
