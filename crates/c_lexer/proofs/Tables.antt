-- The code's tables of spellings are those of the definitions, and facts that are tested over all of a table by computing.
use Rattle.std.proofs.Common.{◌≡◌, ℕ, zero, suc, ◌<◌, ◌≤◌, Bool, true, false, leb, eqb, eq-eqb, ◌&&◌, ◌||◌, not, T, List, [], ◌∷◌, ◌+◌, length, map, get_or, refl, ap, ◌∙◌, arith, nat_eq, sym, add-zero}
use Rattle.std.specs.List.{list_any, position_or_len}
use Rattle.std.specs.Cmp.Lexicographic.{pointwise}
use Rattle.std.proofs.lemmas.List.{get_or-map}
use lib.Dec.{leb→le, eqb→eq}
use lib.Ieee.Fits.{and_l, and_r}
use Rattle.c_lexer.specs.declared.spellings.TheConstants.{PUNCTUATORS, KEYWORDS, SUFFIXES}
use Rattle.c_lexer.specs.Bytes.{is_white, is_letter, is_digit}
use Rattle.c_lexer.specs.Spellings.{punctuators, keywords, suffixes, spelling, position, none_before}
use Rattle.c_lexer.specs.Spells.{Spells}
use Rattle.std.proofs.lemmas.Float.{T_from_true}
use Rattle.c_lexer.specs.Numbers.{is_suffix}

words_are : map (λ e. e.0.now) PUNCTUATORS ≡ map (λ e. e.0) punctuators
unfolding punctuators
words_are = refl

positions_are : map (λ e. e.1) PUNCTUATORS ≡ map (λ e. e.1) punctuators
unfolding punctuators
positions_are = refl

size : length punctuators ≡ 54
unfolding punctuators
size = refl

-- each word of the code's table is the spelling of its number
pub word_is : (k : ℕ) → k < 54 → get_or (map (λ e. e.0.now) PUNCTUATORS) k [] ≡ spelling k
unfolding spelling
word_is k h =
    let m : k < length punctuators = omega (arith, size) in
    ap (λ ws. get_or ws k []) words_are ∙ get_or-map (λ p. p.0) punctuators k ([], 0) [] m

pub position_is : (k : ℕ) → k < 54 → get_or (map (λ e. e.1) PUNCTUATORS) k 0 ≡ position k
unfolding position
position_is k h =
    let m : k < length punctuators = omega (arith, size) in
    ap (λ ws. get_or ws k 0) positions_are ∙ get_or-map (λ p. p.1) punctuators k ([], 0) 0 m

pub keywords_are : map (λ e. (e.0.now, e.1)) KEYWORDS ≡ keywords
unfolding keywords
keywords_are = refl

-- the code's search of the suffixes
pub any_suffix : (xs : List ℕ) → list_any (λ s. pointwise nat_eq s.now xs) SUFFIXES ≡ is_suffix xs
unfolding is_suffix suffixes
any_suffix xs = refl

-- a spelling has one byte or more, and begins with no white space, letter, digit or quote; one that begins with a dot is the
-- dot alone or has another dot behind it
abbrev plain_byte : ℕ → Bool
plain_byte c = not (is_white c) && (not (is_letter c) && (not (is_digit c) && (not (eqb c 34) && not (eqb c 39))))

abbrev plain : List ℕ → Bool
plain [] = false
plain (c ∷ []) = plain_byte c
plain (c ∷ d ∷ cs) = plain_byte c && (not (eqb c 46) || eqb d 46)

abbrev all_plain : List (List ℕ × ℕ) → Bool
all_plain [] = true
all_plain (w ∷ ws) = plain w.0 && all_plain ws

plain_at : (ws : List (List ℕ × ℕ)) (k : ℕ) → T (all_plain ws) → k < length ws → T (plain (get_or ws k ([], 0)).0)
plain_at [] k h l = absurd (omega arith)
plain_at (w ∷ ws) zero h l = and_l _ _ h
plain_at (w ∷ ws) (suc k) h l = plain_at ws k (and_r (plain w.0) _ h) (omega arith)

table_plain : T (all_plain punctuators)
unfolding punctuators is_white is_letter is_digit
table_plain = tt

or_other : (a b : Bool) → T (not a || b) → a ≡ true → T b
or_other true b h e = h
or_other false b h e = absurd (cc)

-- no later spelling that begins with the same byte is longer
abbrev shorter : ℕ → ℕ → List (List ℕ × ℕ) → Bool
shorter byte most [] = true
shorter byte most (w ∷ ws) = (not (eqb (get_or w.0 0 0) byte) || leb (length w.0) most) && shorter byte most ws

abbrev falling : List (List ℕ × ℕ) → Bool
falling [] = true
falling (w ∷ ws) = shorter (get_or w.0 0 0) (length w.0) ws && falling ws

shorter_at : (byte most : ℕ) (ws : List (List ℕ × ℕ)) (k : ℕ) → T (shorter byte most ws) → k < length ws → get_or (get_or ws k ([], 0)).0 0 0 ≡ byte → length (get_or ws k ([], 0)).0 ≤ most
shorter_at byte most [] k h l e = absurd (omega arith)
shorter_at byte most (w ∷ ws) zero h l e = leb→le (length w.0) most (or_other (eqb (get_or w.0 0 0) byte) (leb (length w.0) most) (and_l _ _ h) (eq-eqb (get_or w.0 0 0) byte e))
shorter_at byte most (w ∷ ws) (suc k) h l e = shorter_at byte most ws k (and_r (not (eqb (get_or w.0 0 0) byte) || leb (length w.0) most) _ h) (omega arith) e

falling_from : (ws : List (List ℕ × ℕ)) (j k : ℕ) → T (falling ws) → j ≤ k → k < length ws → get_or (get_or ws k ([], 0)).0 0 0 ≡ get_or (get_or ws j ([], 0)).0 0 0 → length (get_or ws k ([], 0)).0 ≤ length (get_or ws j ([], 0)).0
falling_from [] j k h a l e = absurd (omega arith)
falling_from (w ∷ ws) zero zero h a l e = omega arith
falling_from (w ∷ ws) zero (suc k) h a l e = shorter_at (get_or w.0 0 0) (length w.0) ws k (and_l _ _ h) (omega arith) e
falling_from (w ∷ ws) (suc j) zero h a l e = absurd (omega arith)
falling_from (w ∷ ws) (suc j) (suc k) h a l e = falling_from ws j k (and_r (shorter (get_or w.0 0 0) (length w.0) ws) _ h) (omega arith) (omega arith) e

table_falling : T (falling punctuators)
unfolding punctuators
table_falling = tt

pub longer_first : (j k : ℕ) → k < 54 → j ≤ k → get_or (spelling k) 0 0 ≡ get_or (spelling j) 0 0 → length (spelling k) ≤ length (spelling j)
unfolding spelling
longer_first j k l a e = falling_from punctuators j k table_falling a (omega (arith, size)) e

not_true : (b : Bool) → T (not b) → b ≡ true → ⊥
not_true true h e = h
not_true false h e = cc

-- a first byte that is no white space, letter, digit or quote
pub record PlainByte (c : ℕ) : Type 0 where
  pub white : is_white c ≡ true → ⊥
  pub letter : is_letter c ≡ true → ⊥
  pub digit : is_digit c ≡ true → ⊥
  pub double : c ≡ 34 → ⊥
  pub single : c ≡ 39 → ⊥

-- what a word that is a spelling is like
pub record Plain (word : List ℕ) : Type 0 where
  pub some : 0 < length word
  pub byte : PlainByte (get_or word 0 0)
  pub dots : get_or word 0 0 ≡ 46 → 1 < length word → get_or word 1 0 ≡ 46

from_plain_byte : (c : ℕ) → T (plain_byte c) → PlainByte c
from_plain_byte c h =
    let h1 = and_r (not (is_white c)) _ h in
    let h2 = and_r (not (is_letter c)) _ h1 in
    let h3 = and_r (not (is_digit c)) _ h2 in
    record {
      white = not_true _ (and_l _ _ h);
      letter = not_true _ (and_l _ _ h1);
      digit = not_true _ (and_l _ _ h2);
      double = λ e. not_true _ (and_l _ _ h3) (eq-eqb c 34 e);
      single = λ e. not_true _ (and_r (not (eqb c 34)) _ h3) (eq-eqb c 39 e);
    }

from_plain : (word : List ℕ) → T (plain word) → Plain word
from_plain [] h = absurd h
from_plain (c ∷ []) h = record { some = omega arith; byte = from_plain_byte c h; dots = λ e l. absurd (omega arith) }
from_plain (c ∷ d ∷ cs) h = record {
  some = omega arith;
  byte = from_plain_byte c (and_l _ _ h);
  dots = λ e l. eqb→eq d 46 (or_other (eqb c 46) (eqb d 46) (and_r (plain_byte c) _ h) (eq-eqb c 46 e));
}

pub spelling_plain : (k : ℕ) → k < 54 → Plain (spelling k)
unfolding spelling
spelling_plain k l = from_plain _ (plain_at punctuators k table_plain (omega (arith, size)))

-- the number of a word in the table
abbrev number_of : List ℕ → ℕ
number_of word = position_or_len (λ e. pointwise nat_eq e.0 word) punctuators

abbrev numbered : ℕ → List (List ℕ × ℕ) → Bool
numbered n [] = true
numbered n (w ∷ ws) = eqb (number_of w.0) n && numbered (n + 1) ws

table_numbered : T (numbered 0 punctuators)
unfolding punctuators
table_numbered = tt

numbered_at : (ws : List (List ℕ × ℕ)) (n k : ℕ) → T (numbered n ws) → k < length ws → number_of (get_or ws k ([], 0)).0 ≡ n + k
numbered_at [] n k h l = absurd (omega arith)
numbered_at (w ∷ ws) n zero h l = let e = eqb→eq (number_of w.0) n (and_l _ _ h) in omega arith
numbered_at (w ∷ ws) n (suc k) h l = let e = numbered_at ws (n + 1) k (and_r (eqb (number_of w.0) n) _ h) (omega arith) in omega arith

-- no word stands twice in the table
pub spelling_same : (j k : ℕ) → j < 54 → k < 54 → spelling j ≡ spelling k → j ≡ k
unfolding spelling
spelling_same j k l m e =
    let a = numbered_at punctuators 0 j table_numbered (omega (arith, size)) in
    let b = numbered_at punctuators 0 k table_numbered (omega (arith, size)) in
    let c : number_of (get_or punctuators j ([], 0)).0 ≡ number_of (get_or punctuators k ([], 0)).0 = ap number_of e in
    omega arith

before_at : (byte limit n : ℕ) (es : List (List ℕ × ℕ)) (j : ℕ) → T (none_before byte limit n es) → j < length es → n + j < limit → get_or (get_or es j ([], 0)).0 0 0 ≡ byte → ⊥
before_at byte limit n [] j h l m e = absurd (omega arith)
before_at byte limit n (w ∷ ws) zero h l m e = two (leb limit n) (eqb (get_or w.0 0 0) byte) (and_l _ _ h) (λ f. let g = leb→le limit n f in omega arith) (eq-eqb (get_or w.0 0 0) byte e)
  where
    two : (a b : Bool) → T (a || not b) → (T a → ⊥) → b ≡ true → ⊥
    two true b h f e = f tt
    two false true h f e = h
    two false false h f e = cc
before_at byte limit n (w ∷ ws) (suc j) h l m e = before_at byte limit (n + 1) ws j (and_r (leb limit n || not (eqb (get_or w.0 0 0) byte)) _ h) (omega arith) (omega arith) e

pub spelled_byte : (text : List ℕ) (at j : ℕ) → j < 54 → Spells text at (spelling j) → get_or (spelling j) 0 0 ≡ get_or text at 0
spelled_byte text at j l s = let p = (spelling_plain j l).some in let e = s.1 0 p in sym (rw add-zero at e)

-- no spelling below the start for a byte stands at the byte
pub not_before : (text : List ℕ) (at start : ℕ) → start ≤ 54 → none_before (get_or text at 0) start 0 punctuators ≡ true → (j : ℕ) → j < start → Spells text at (spelling j) → ⊥
unfolding spelling
not_before text at start w h j l s =
    let m : j < length punctuators = omega (arith, size) in
    before_at (get_or text at 0) start 0 punctuators j (T_from_true _ h) m (omega arith) (spelled_byte text at j (omega arith) s)
