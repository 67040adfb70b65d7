-- The code's sets of first terminals are those of the table.
use Rattle.std.proofs.Common.{◌≡◌, ℕ, zero, suc, ◌+◌, ◌^◌, ◌<◌, Bool, true, false, eqb, ltb, ◌&&◌, ◌||◌, T, List, [], ◌∷◌, length, get_or, max, cond, inl, inr, refl, sym, ap, ◌∙◌, subst, arith, eq-eqb, lt-ltb, le-ltb}
use Rattle.std.specs.Int.{bit_at}
use Rattle.std.specs.Int.Bits.{bit_or}
use Rattle.std.proofs.lemmas.Nat.Bits.{bit_at_or, bit_at-zero, bit_at-pow_same, bit_at-pow_other, bit_at_above}
use Rattle.std.proofs.lemmas.Bool.{cases_lt}
use lib.Dec.{eqb→eq, ltb→lt}
use lib.Ieee.Fits.{and_l, and_r}
use Rattle.c_grammar.specs.declared.firsts.TheConstants.{FIRSTS, TYPES, DECLARATIONS}
use Rattle.c_grammar.specs.Table.{table, row}
use Rattle.c_grammar.specs.First.{firsts, firsts_within, can_be_empty}
use Rattle.c_grammar.specs.Terminals.{contains}
use Rattle.c_grammar.specs.Fits.{has, types, declarations}

abbrev set_of : List ℕ → ℕ
set_of [] = 0
set_of (t ∷ ts) = bit_or (2 ^ t) (set_of ts)

abbrev agree : ℕ → List ℕ → Bool
agree p [] = true
agree p (set ∷ sets) = (eqb set (set_of (firsts p)) && ltb set (2 ^ 128)) && agree (suc p) sets

all_agree : T (agree 0 FIRSTS)
unfolding table row firsts firsts_within can_be_empty
all_agree = tt

agree_at : (sets : List ℕ) (n i : ℕ) → T (agree n sets) → i < length sets → (get_or sets i 0 ≡ set_of (firsts (n + i))) × (get_or sets i 0 < 2 ^ 128)
agree_at [] n i h l = absurd (omega arith)
agree_at (set ∷ sets) n zero h l =
    let a = and_l _ _ h in
    let e : n ≡ n + 0 = omega arith in
    (eqb→eq _ _ (and_l _ _ a) ∙ ap (λ x. set_of (firsts x)) e, ltb→lt _ _ (and_r (eqb set (set_of (firsts n))) _ a))
agree_at (set ∷ sets) n (suc i) h l =
    let t = agree_at sets (suc n) i (and_r (eqb set (set_of (firsts n)) && ltb set (2 ^ 128)) _ h) (omega arith) in
    let e : suc n + i ≡ n + suc i = omega arith in
    (t.0 ∙ ap (λ x. set_of (firsts x)) e, t.1)

no_both : (b : Bool) → b ≡ true → b ≡ false → ⊥
no_both b e f = cc

at_cons : (b : Bool) (x t s : ℕ) (c : Bool) → eqb x t ≡ b → bit_at s t ≡ cond c 1 0 → max (bit_at (2 ^ x) t) (bit_at s t) ≡ cond (b || c) 1 0
at_cons true x t s c e h =
    let q : x ≡ t = eqb→eq x t (subst T (sym e) tt) in
    let o : bit_at (2 ^ x) t ≡ 1 = subst (λ y. bit_at (2 ^ x) y ≡ 1) q (bit_at-pow_same x) in
    rw (o, h) (elim c as (λ y. max 1 (cond y 1 0) ≡ 1) [ true ↦ refl | false ↦ refl ])
at_cons false x t s c e h =
    let n : t ≡ x → ⊥ = λ q. no_both (eqb x t) (eq-eqb x t (sym q)) e in
    let o : bit_at (2 ^ x) t ≡ 0 = bit_at-pow_other x t n in
    rw (o, h) (elim c as (λ y. max 0 (cond y 1 0) ≡ cond y 1 0) [ true ↦ refl | false ↦ refl ])

bit_is : (ts : List ℕ) (t : ℕ) → bit_at (set_of ts) t ≡ cond (contains ts t) 1 0
bit_is [] t = bit_at-zero t
bit_is (x ∷ ts) t = bit_at_or (2 ^ x) (set_of ts) t ∙ at_cons (eqb x t) x t (set_of ts) (contains ts t) refl (bit_is ts t)

one_is : (c : Bool) → eqb (cond c 1 0) 1 ≡ c
one_is true = refl
one_is false = refl

zero_is : (c : Bool) → ◌≡◌ {A = ℕ} (cond c 1 0) 0 → c ≡ false
zero_is true e = absurd (omega arith)
zero_is false e = refl

pub firsts_are : (p t : ℕ) → p < 258 → has (get_or FIRSTS p 0) t ≡ contains (firsts p) t
unfolding has
firsts_are p t h =
    let l : p < length FIRSTS = omega arith in
    let a = agree_at FIRSTS 0 p all_agree l in
    let e : 0 + p ≡ p = omega arith in
    let s : get_or FIRSTS p 0 ≡ set_of (firsts p) = a.0 ∙ ap (λ x. set_of (firsts x)) e in
    let b : bit_at (get_or FIRSTS p 0) t ≡ cond (contains (firsts p) t) 1 0 = ap (λ x. bit_at x t) s ∙ bit_is (firsts p) t in
    elim (cases_lt t 128) [
      | inl m ↦ rw (lt-ltb t 128 m) (ap (λ x. eqb x 1) b ∙ one_is (contains (firsts p) t))
      | inr m ↦ rw (le-ltb t 128 m) (sym (zero_is _ (sym b ∙ bit_at_above (get_or FIRSTS p 0) 128 t a.1 m)))
    ]

in_set : (set t : ℕ) (ts : List ℕ) → T (eqb set (set_of ts) && ltb set (2 ^ 128)) → has set t ≡ contains ts t
unfolding has
in_set set t ts h =
    let s = eqb→eq set (set_of ts) (and_l _ _ h) in
    let below = ltb→lt set (2 ^ 128) (and_r (eqb set (set_of ts)) _ h) in
    let b : bit_at set t ≡ cond (contains ts t) 1 0 = ap (λ x. bit_at x t) s ∙ bit_is ts t in
    elim (cases_lt t 128) [
      | inl m ↦ rw (lt-ltb t 128 m) (ap (λ x. eqb x 1) b ∙ one_is (contains ts t))
      | inr m ↦ rw (le-ltb t 128 m) (sym (zero_is _ (sym b ∙ bit_at_above set 128 t below m)))
    ]

types_agree : T (eqb TYPES (set_of types) && ltb TYPES (2 ^ 128))
unfolding types table row firsts firsts_within can_be_empty
types_agree = tt

declarations_agree : T (eqb DECLARATIONS (set_of declarations) && ltb DECLARATIONS (2 ^ 128))
unfolding declarations types table row firsts firsts_within can_be_empty
declarations_agree = tt

pub types_are : (t : ℕ) → has TYPES t ≡ contains types t
types_are t = in_set TYPES t types types_agree

pub declarations_are : (t : ℕ) → has DECLARATIONS t ≡ contains declarations t
declarations_are t = in_set DECLARATIONS t declarations declarations_agree
