-- No longer piece stands where a piece ends, and one piece stands at a place.
use Rattle.std.proofs.Common.{◌≡◌, ℕ, ◌+◌, ◌-◌, ◌<◌, ◌≤◌, Bool, true, false, ◌||◌, ◌⊎◌, inl, inr, List, length, get_or, refl, sym, ap, ◌∙◌, subst, arith, add-zero}
use Rattle.std.proofs.lemmas.Bool.{cases_lt}
use Rattle.std.proofs.lemmas.Grind.{same_number_lists}
use Rattle.c_lexer.specs.declared.runs.Run.{Run}
use Rattle.c_lexer.specs.declared.runs.Run.TheVariants.{White, Line, Name, Number}
use Rattle.c_lexer.specs.declared.quotes.Prefix.{Prefix}
use Rattle.c_lexer.specs.declared.quotes.Quote.{Quote}
use Rattle.c_lexer.specs.Bytes.{is_white, is_letter, is_digit}
use Rattle.c_lexer.specs.Spells.{Spells}
use Rattle.c_lexer.specs.Spellings.{spelling}
use Rattle.c_lexer.specs.Quotes.{Opens, Closed}
use Rattle.c_lexer.specs.Pieces.{follows, Begins, Kind, run, sign, literal, quote_of, Stands, Piece, IsPiece, NoLiteral}
use Rattle.c_lexer.proofs.Tables.{longer_first, spelling_plain, spelling_same, spelled_byte}
use Rattle.c_lexer.proofs.Classes.{white_range, letter_range, digit_range}
use Rattle.c_lexer.proofs.Openings.{LiteralByte, literal_first, name_ends, literal_same}

-- what the first byte of a run is
abbrev First : Run → ℕ → Type 0
First White c = ((9 ≤ c) × (c ≤ 13)) ⊎ (c ≡ 32)
First Line c = c ≡ 35
First Name c = ((97 ≤ c) × (c ≤ 122)) ⊎ (((65 ≤ c) × (c ≤ 90)) ⊎ (c ≡ 95))
First Number c = ((48 ≤ c) × (c ≤ 57)) ⊎ (c ≡ 46)

first_of : (r : Run) (text : List ℕ) (at : ℕ) → Begins r text at → First r (get_or text at 0)
first_of White text at b = white_range _ b
first_of Line text at b = b.0
first_of Name text at b = letter_range _ b
first_of Number text at (inl b) = inl (digit_range _ b)
first_of Number text at (inr b) = inr b.0

-- at one place one kind of run begins
first_same : (r r' : Run) (c : ℕ) → First r c → First r' c → r ≡ r'
first_same White White c a b = refl
first_same White Line c a b = absurd (grind arith)
first_same White Name c a b = absurd (grind arith)
first_same White Number c a b = absurd (grind arith)
first_same Line White c a b = absurd (grind arith)
first_same Line Line c a b = refl
first_same Line Name c a b = absurd (grind arith)
first_same Line Number c a b = absurd (grind arith)
first_same Name White c a b = absurd (grind arith)
first_same Name Line c a b = absurd (grind arith)
first_same Name Name c a b = refl
first_same Name Number c a b = absurd (grind arith)
first_same Number White c a b = absurd (grind arith)
first_same Number Line c a b = absurd (grind arith)
first_same Number Name c a b = absurd (grind arith)
first_same Number Number c a b = refl

-- no literal begins like white space, a dropped line or a number, nor like a sign
white_clash : (c : ℕ) → First White c → LiteralByte c → ⊥
white_clash c a b = grind arith

line_clash : (c : ℕ) → First Line c → LiteralByte c → ⊥
line_clash c a b = grind arith

number_clash : (c : ℕ) → First Number c → LiteralByte c → ⊥
number_clash c a b = grind arith

-- a literal and a run that goes on behind its quote don't stand at one place
literal_run : (r : Run) (text : List ℕ) (from end end' : ℕ) (p : Prefix) (q : Quote) → Stands (literal p q) text from end → Stands (run r) text from end' → end ≤ end' → ⊥
literal_run White text from end end' p q a b l = white_clash _ (white_range _ b.1) (literal_first text from p q a.0)
literal_run Line text from end end' p q a b l = line_clash _ b.1.0 (literal_first text from p q a.0)
literal_run Name text from end end' p q a b l = name_ends text from end' p q a.0 b (omega (arith, a.1.1))
literal_run Number text from end end' p q a b l = number_clash _ (first_of Number text from b.1) (literal_first text from p q a.0)

-- the first byte of a spelling that stands
spelled_first : (text : List ℕ) (at k : ℕ) → k < 54 → Spells text at (spelling k) → get_or text at 0 ≡ get_or (spelling k) 0 0
spelled_first text at k l s = let p = (spelling_plain k l).some in let e = s.1 0 p in rw add-zero at e

a_letter : (c : ℕ) → (c ≡ 76) ⊎ ((c ≡ 117) ⊎ (c ≡ 85)) → is_letter c ≡ true
unfolding is_letter
a_letter c (inl e) = rw e refl
a_letter c (inr (inl e)) = rw e refl
a_letter c (inr (inr e)) = rw e refl

literal_sign : (text : List ℕ) (from end end' k : ℕ) (p : Prefix) (q : Quote) → Stands (literal p q) text from end → Stands (sign k) text from end' → ⊥
literal_sign text from end end' k p q a b =
    let e = spelled_first text from k b.1 b.3 in
    let plain = (spelling_plain k b.1).byte in
    elim (literal_first text from p q a.0) [
      | inl h ↦ plain.double (sym e ∙ h)
      | inr (inl h) ↦ plain.single (sym e ∙ h)
      | inr (inr h) ↦ plain.letter (sym (ap is_letter e) ∙ a_letter _ h)
    ]

-- a sign longer than one byte doesn't stand where a run stands, nor any sign where a run other than a number does
sign_in_run : (r : Run) (text : List ℕ) (at end k end' : ℕ) → Stands (run r) text at end → Stands (sign k) text at end' → at + 1 < end' → ⊥
sign_in_run White text at end k end' a b l = (spelling_plain k b.1).byte.white (sym (ap is_white (spelled_first text at k b.1 b.3)) ∙ a.1)
sign_in_run Line text at end k end' a b l = b.0 a.1
sign_in_run Name text at end k end' a b l = (spelling_plain k b.1).byte.letter (sym (ap is_letter (spelled_first text at k b.1 b.3)) ∙ a.1)
sign_in_run Number text at end k end' a b l =
    elim a.1 [
      | inl d ↦ (spelling_plain k b.1).byte.digit (sym (ap is_digit (spelled_first text at k b.1 b.3)) ∙ d)
      | inr d ↦
          let n : 1 < length (spelling k) = omega (arith, b.2) in
          let e : get_or text (at + 1) 0 ≡ 46 = b.3.1 1 n ∙ (spelling_plain k b.1).dots (sym (spelled_first text at k b.1 b.3) ∙ d.0) n in
          let g = digit_range _ d.2 in omega arith
    ]

true_false : (b : Bool) → b ≡ true → b ≡ false → ⊥
true_false b e f = cc

run_longest : (r : Run) (text : List ℕ) (from end : ℕ) → Stands (run r) text from end → NoLiteral text from → (end < length text → follows r (get_or text (end - 1) 0) (get_or text end 0) ≡ false) → (k : Kind) (end' : ℕ) → end < end' → end' ≤ length text → Stands k text from end' → ⊥
run_longest r text from end a none stop (run r') end' l m b =
    let e = first_same r' r _ (first_of r' text from b.1) (first_of r text from a.1) in
    let f = b.2 end a.0 l in
    true_false _ (subst (λ x. follows x (get_or text (end - 1) 0) (get_or text end 0) ≡ true) e f) (stop (omega arith))
run_longest r text from end a none stop (sign k) end' l m b = sign_in_run r text from end k end' a b (omega (arith, a.0))
run_longest r text from end a none stop (literal p q) end' l m b = none p q end' b

-- where no run begins the longest sign is the longest piece
sign_longest : (text : List ℕ) (from k : ℕ) → k < 54 → get_or (spelling k) 0 0 ≡ get_or text from 0 → ((j : ℕ) → j < k → Spells text from (spelling j) → ⊥) → ((r : Run) → Begins r text from → ⊥) → NoLiteral text from → (i : Kind) (end' : ℕ) → from + length (spelling k) < end' → end' ≤ length text → Stands i text from end' → ⊥
sign_longest text from k h first before none plain (run r) end' l m b = none r b.1
sign_longest text from k h first before none plain (sign j) end' l m b =
    elim (cases_lt j k) [
      | inl a ↦ before j a b.3
      | inr a ↦ let n = longer_first k j b.1 a (spelled_byte text from j b.1 b.3 ∙ sym first) in omega (arith, b.2)
    ]
sign_longest text from k h first before none plain (literal p q) end' l m b = plain p q end' b

-- where no run begins, and no literal and no sign stands, nothing does
pub nothing_stands : (text : List ℕ) (from : ℕ) → ((j : ℕ) → j < 54 → Spells text from (spelling j) → ⊥) → ((r : Run) → Begins r text from → ⊥) → NoLiteral text from → (i : Kind) (end' : ℕ) → end' ≤ length text → Stands i text from end' → ⊥
nothing_stands text from none runs plain (run r) end' m b = runs r b.1
nothing_stands text from none runs plain (sign j) end' m b = none j b.1 b.3
nothing_stands text from none runs plain (literal p q) end' m b = plain p q end' b

pub run_is_piece : (r : Run) (text : List ℕ) (from end : ℕ) → (from < end) × (end ≤ length text) → Begins r text from → NoLiteral text from → ((i : ℕ) → from < i → i < end → follows r (get_or text (i - 1) 0) (get_or text i 0) ≡ true) → (end < length text → follows r (get_or text (end - 1) 0) (get_or text end 0) ≡ false) → IsPiece text (record { kind = run r; from = from; end = end })
run_is_piece r text from end w b none each stop = record { within = w; stands = (w.0, b, each); longest = run_longest r text from end (w.0, b, each) none stop }

-- the tests for the four runs cover all that can begin
pub no_run : (text : List ℕ) (from : ℕ) → is_white (get_or text from 0) ≡ false → is_letter (get_or text from 0) ≡ false → (Begins Number text from → ⊥) → (Begins Line text from → ⊥) → (r : Run) → Begins r text from → ⊥
no_run text from w l n h White b = true_false _ b w
no_run text from w l n h Line b = h b
no_run text from w l n h Name b = true_false _ b l
no_run text from w l n h Number b = n b

pub sign_is_piece : (text : List ℕ) (from k : ℕ) → k < 54 → Spells text from (spelling k) → ((j : ℕ) → j < k → Spells text from (spelling j) → ⊥) → ((r : Run) → Begins r text from → ⊥) → NoLiteral text from → IsPiece text (record { kind = sign k; from = from; end = from + length (spelling k) })
sign_is_piece text from k h s before none plain = record {
  within = (let p = (spelling_plain k h).some in omega arith, s.0);
  stands = (λ b. none Line b, h, refl, s);
  longest = sign_longest text from k h (spelled_byte text from k h s) before none plain;
}

literal_longest : (text : List ℕ) (from end : ℕ) (p : Prefix) (q : Quote) → Stands (literal p q) text from end → (k : Kind) (end' : ℕ) → end < end' → end' ≤ length text → Stands k text from end' → ⊥
literal_longest text from end p q a (run r) end' l m b = literal_run r text from end end' p q a b (omega arith)
literal_longest text from end p q a (sign k) end' l m b = literal_sign text from end end' k p q a b
literal_longest text from end p q a (literal p' q') end' l m b = let e = (literal_same text from end end' p p' q q' a b).2 in omega arith

pub literal_is_piece : (text : List ℕ) (from n : ℕ) (p : Prefix) (q : Quote) → Opens text from p q → Closed text (quote_of p from) n → IsPiece text (record { kind = literal p q; from = from; end = quote_of p from + n + 2 })
literal_is_piece text from n p q o c = record {
  within = (omega arith, c.within);
  stands = (o, (n, refl, c));
  longest = literal_longest text from (quote_of p from + n + 2) p q (o, (n, refl, c));
}

or_true : (a : Bool) → (a || true) ≡ true
or_true true = refl
or_true false = refl

digit_follows : (before c : ℕ) → is_digit c ≡ true → follows Number before c ≡ true
unfolding follows
digit_follows before c e = rw (e, or_true (is_letter c)) refl

-- a number's run has two bytes at least where it begins with a dot
number_two : (text : List ℕ) (p : Piece) → IsPiece text p → p.kind ≡ run Number → get_or text p.from 0 ≡ 46 → (p.from + 1 < length text) × (is_digit (get_or text (p.from + 1) 0) ≡ true) → p.from + 1 < p.end
number_two text p i k d b =
    elim (cases_lt (p.from + 1) p.end) [
      | inl l ↦ l
      | inr l ↦ absurd (i.longest (run Number) (p.from + 2) (omega (arith, i.within.0)) (omega arith) (
        omega arith,
        inr (d, b.0, b.1),
        λ j f g.
            let e : j ≡ p.from + 1 = omega arith in
            digit_follows _ _ (subst (λ n. is_digit (get_or text n 0) ≡ true) (sym e) b.1),
      ))
    ]

run_sign : (r : Run) (text : List ℕ) (from end k : ℕ) → IsPiece text (record { kind = run r; from = from; end = end }) → Stands (sign k) text from end → ⊥
run_sign White text from end k i b = (spelling_plain k b.1).byte.white (sym (ap is_white (spelled_first text from k b.1 b.3)) ∙ i.stands.1)
run_sign Line text from end k i b = b.0 i.stands.1
run_sign Name text from end k i b = (spelling_plain k b.1).byte.letter (sym (ap is_letter (spelled_first text from k b.1 b.3)) ∙ i.stands.1)
run_sign Number text from end k i b =
    elim i.stands.1 [
      | inl d ↦ (spelling_plain k b.1).byte.digit (sym (ap is_digit (spelled_first text from k b.1 b.3)) ∙ d)
      | inr d ↦ sign_in_run Number text from end k end i.stands b (number_two text (record { kind = run Number; from = from; end = end }) i refl d.0 (d.1, d.2))
    ]

-- two words of one length that stand at one place are one
words_same : (text : List ℕ) (at : ℕ) (a b : List ℕ) → Spells text at a → Spells text at b → length a ≡ length b → a ≡ b
words_same text at a b s t l = same_number_lists a b l (λ i h. sym (s.1 i h) ∙ t.1 i (omega arith))

ends_same : (text : List ℕ) (p q : Piece) → IsPiece text p → IsPiece text q → p.from ≡ q.from → p.end ≡ q.end
ends_same text p q i j e =
    elim (cases_lt p.end q.end) [
      | inl l ↦ absurd (i.longest q.kind q.end l j.within.1 (subst (λ a. Stands q.kind text a q.end) (sym e) j.stands))
      | inr l ↦ elim (cases_lt q.end p.end) [
        | inl m ↦ absurd (j.longest p.kind p.end m i.within.1 (subst (λ a. Stands p.kind text a p.end) e i.stands))
        | inr m ↦ omega arith
      ]
    ]

one_kind : (text : List ℕ) (k k' : Kind) (from end : ℕ) → IsPiece text (record { kind = k; from = from; end = end }) → IsPiece text (record { kind = k'; from = from; end = end }) → k ≡ k'
one_kind text (run r) (run r') from end i j = ap run (first_same r r' _ (first_of r text from i.stands.1) (first_of r' text from j.stands.1))
one_kind text (run r) (sign k) from end i j = absurd (run_sign r text from end k i j.stands)
one_kind text (run r) (literal p q) from end i j = absurd (literal_run r text from end end p q j.stands i.stands (omega arith))
one_kind text (sign k) (run r) from end i j = absurd (run_sign r text from end k j i.stands)
one_kind text (sign k) (sign k') from end i j = ap sign (spelling_same k k' i.stands.1 j.stands.1 (words_same text from _ _ i.stands.3 j.stands.3 (omega (arith, i.stands.2, j.stands.2))))
one_kind text (sign k) (literal p q) from end i j = absurd (literal_sign text from end end k p q j.stands i.stands)
one_kind text (literal p q) (run r) from end i j = absurd (literal_run r text from end end p q i.stands j.stands (omega arith))
one_kind text (literal p q) (sign k) from end i j = absurd (literal_sign text from end end k p q i.stands j.stands)
one_kind text (literal p q) (literal p' q') from end i j =
    let e = literal_same text from end end p p' q q' i.stands j.stands in
    ap (λ x. literal x q) e.0 ∙ ap (λ x. literal p' x) e.1

abbrev piece : Kind → ℕ → ℕ → Piece
piece kind from end = record { kind = kind; from = from; end = end }

-- one piece begins at a place
pub one_piece : (text : List ℕ) (p q : Piece) → IsPiece text p → IsPiece text q → p.from ≡ q.from → p ≡ q
one_piece text p q i j e =
    let f = ends_same text p q i j e in
    let j' : IsPiece text (piece q.kind p.from p.end) = subst (λ a. IsPiece text (piece q.kind a p.end)) (sym e) (subst (λ a. IsPiece text (piece q.kind q.from a)) (sym f) j) in
    let k = one_kind text p.kind q.kind p.from p.end i j' in
    ap (λ x. piece x p.from p.end) k ∙ (ap (λ a. piece q.kind a p.end) e ∙ ap (λ a. piece q.kind q.from a) f)
