-- Where tokens stand: each has a byte of its own, and a line and a column tell the byte.
use Rattle.std.proofs.Common.{arith, ◌≡◌, ◌+◌, ◌-◌, ◌<◌, ◌≤◌, ℕ, zero, suc, Bool, true, false, ◌==◌, List, [], ◌∷◌, ◌++◌, Some, length, slice_get, refl, sym, ap, ◌∙◌, subst, append_assoc, ◌⊎◌, inl, inr}
use Rattle.std.specs.Prelude.{⊤, slice_index, if◌then◌else◌}
use Rattle.c_lexer.specs.declared.Token.{Token}
use Rattle.c_lexer.specs.declared.TokenKind.TheVariants.{End}
use Rattle.c_lexer.specs.declared.meanings.Meaning.{Meaning}
use Rattle.c_lexer.specs.declared.meanings.Meaning.TheVariants as means
use Rattle.c_lexer.specs.Places.{line_of, column_of}
use Rattle.c_lexer.specs.Pieces.{Piece}
use Rattle.c_lexer.specs.Meanings.{meaning}
use Rattle.c_lexer.specs.Cut.{Pieces, Ends, Step, Cut, token_at, tokens_of, all_tokens, IsTokens}

-- each token of a list starts behind the start of the one before, within the text, and has the line and the column of its first byte
abbrev pub Located : List ℕ → ℕ → List Token → Type 0
Located text from [] = ⊤
Located text from (t ∷ ts) = (from ≤ t.start) × (t.start ≤ length text) × (t.line ≡ line_of text t.start) × (t.column ≡ column_of text t.start) × Located text (suc t.start) ts

pieces_forward : (text : List ℕ) (a b : ℕ) (ps : List Piece) → Pieces text a ps b → a ≤ b
pieces_forward text a b [] p = omega (arith, p)
pieces_forward text a b (x ∷ ps) p =
    let w = x_within in
    let f = pieces_forward text x.end b ps p.2 in
    let e = p.0 in
    omega (arith, w, f, e)
  where
    x_within : x.from < x.end
    x_within = p.1.piece.within.0

ends_forward : (m : Meaning) (text : List ℕ) (at end : ℕ) → Ends m text at end → at ≤ end
ends_forward means.Nothing text at end e = omega (arith, e)
ends_forward means.Attribute text at end e = pieces_forward text at end e.0 e.1
ends_forward (means.Token kind) text at end e = omega (arith, e)

located_before : (text : List ℕ) (a b : ℕ) (ts : List Token) → a ≤ b → Located text b ts → Located text a ts
located_before text a b [] l o = tt
located_before text a b (t ∷ ts) l o = (let f = o.0 in omega (arith, l, f), o.1, o.2, o.3, o.4)

located_step : (m : Meaning) (text : List ℕ) (p : Piece) (at : ℕ) (ts : List Token) → p.from < p.end → p.end ≤ length text → Ends m text p.end at → Located text at ts → Located text p.from (tokens_of m text p ++ ts)
located_step means.Nothing text p at ts l w e o = located_before text p.from at ts (let f = ends_forward means.Nothing text p.end at e in omega (arith, l, f)) o
located_step means.Attribute text p at ts l w e o = located_before text p.from at ts (let f = ends_forward means.Attribute text p.end at e in omega (arith, l, f)) o
located_step (means.Token kind) text p at ts l w e o =
    let f = ends_forward (means.Token kind) text p.end at e in
    (omega arith, omega (arith, l, w), refl, refl, located_before text (suc p.from) at ts (omega (arith, l, f)) o)

located_cut : (text : List ℕ) (a : ℕ) (ss : List Step) → Cut text a ss (length text) → Located text a (all_tokens text ss ++ token_at text End (length text) (length text) ∷ [])
located_cut text a [] c = (omega (arith, c), omega arith, refl, refl, tt)
located_cut text a (s ∷ ss) c =
    let w = c.1.good.piece.within in
    let rest = located_cut text s.end ss c.2 in
    let o = located_step (meaning text s.piece) text s.piece s.end _ w.0 w.1 c.1.ends rest in
    subst (λ (x : ℕ). Located text x (all_tokens text (s ∷ ss) ++ token_at text End (length text) (length text) ∷ [])) c.0
    (subst (λ (l : List Token). Located text s.piece.from l) (sym (append_assoc (tokens_of (meaning text s.piece) text s.piece) (all_tokens text ss) (token_at text End (length text) (length text) ∷ []))) o)

pub located : (text : List ℕ) (ts : List Token) → IsTokens text ts → Located text 0 ts
located text ts i = subst (λ (l : List Token). Located text 0 l) (sym i.1.2) (located_cut text 0 i.1.0 i.1.1)

-- one token of a list
pub record IsLocated (text : List ℕ) (from : ℕ) (t : Token) : Type 0 where
  pub behind : from ≤ t.start
  pub within : t.start ≤ length text
  pub line : t.line ≡ line_of text t.start
  pub column : t.column ≡ column_of text t.start

pub one_located : (text : List ℕ) (from : ℕ) (ts : List Token) (k : ℕ) (t : Token) → Located text from ts → slice_get ts k ≡ Some t → IsLocated text from t
one_located text from [] k t l e = cc
one_located text from (x ∷ ts) zero t l e =
    let same : x ≡ t = cc in
    subst (λ (y : Token). IsLocated text from y) same (record { behind = l.0; within = l.1; line = l.2; column = l.3 })
one_located text from (x ∷ ts) (suc k) t l e =
    let rest = one_located text (suc x.start) ts k t l.4 e in
    let far : suc x.start ≤ t.start = rest.behind in
    let near : from ≤ x.start = l.0 in
    record { behind = omega (arith, far, near); within = rest.within; line = rest.line; column = rest.column }

-- so there are no more of them than bytes, but for the end
pub few_located : (text : List ℕ) (from : ℕ) (ts : List Token) → Located text from ts → length ts + from ≤ suc (length text) + from
few_located text from ts l = let h = fewer text from ts l in omega (arith, h)
  where
    fewer : (text : List ℕ) (from : ℕ) (ts : List Token) → Located text from ts → length ts ≤ suc (length text) - from
    fewer text from [] l = omega arith
    fewer text from (t ∷ ts) l =
        let rest = fewer text (suc t.start) ts l.4 in
        let low : from ≤ t.start = l.0 in
        let high : t.start ≤ length text = l.1 in
        omega (arith, rest, low, high)

-- tokens that start at one byte are one
pub one_start : (text : List ℕ) (from : ℕ) (ts : List Token) (j k : ℕ) (t u : Token) → Located text from ts → slice_get ts j ≡ Some t → slice_get ts k ≡ Some u → t.start ≡ u.start → j ≡ k
one_start text from [] j k t u l e f same = cc
one_start text from (x ∷ ts) zero zero t u l e f same = refl
one_start text from (x ∷ ts) zero (suc k) t u l e f same =
    let here : x ≡ t = cc in
    let start : x.start ≡ t.start = ap (λ (y : Token). y.start) here in
    let far : suc x.start ≤ u.start = (one_located text (suc x.start) ts k u l.4 f).behind in
    absurd (omega (arith, start, far, same))
one_start text from (x ∷ ts) (suc j) zero t u l e f same =
    let here : x ≡ u = cc in
    let start : x.start ≡ u.start = ap (λ (y : Token). y.start) here in
    let far : suc x.start ≤ t.start = (one_located text (suc x.start) ts j t l.4 e).behind in
    absurd (omega (arith, start, far, same))
one_start text from (x ∷ ts) (suc j) (suc k) t u l e f same = ap suc (one_start text (suc x.start) ts j k t u l.4 e f same)

-- ---- lines and columns

line_if : (b : Bool) (n : ℕ) → n ≤ (if b then n + 1 else n)
line_if true n = omega arith
line_if false n = omega arith

line_rises : (text : List ℕ) (n : ℕ) → line_of text n ≤ line_of text (suc n)
unfolding line_of
line_rises text n = line_if (slice_index text n == 10) (line_of text n)

lines_rise : (text : List ℕ) (a n : ℕ) → line_of text a ≤ line_of text (n + a)
lines_rise text a zero = let e : a ≡ zero + a = omega arith in subst (λ (k : ℕ). line_of text a ≤ line_of text k) e (omega arith)
lines_rise text a (suc n) =
    let before = lines_rise text a n in
    let here = line_rises text (n + a) in
    let e : suc (n + a) ≡ suc n + a = omega arith in
    subst (λ (k : ℕ). line_of text a ≤ line_of text k) e (omega (arith, before, here))

if_most : (b : Bool) (n m k : ℕ) → n ≤ k → m ≤ k → (if b then n else m) ≤ k
if_most true n m k h g = h
if_most false n m k h g = g

pub few_lines : (text : List ℕ) (n : ℕ) → line_of text n ≤ suc n
unfolding line_of
few_lines text zero = omega arith
few_lines text (suc n) = let before = few_lines text n in if_most (slice_index text n == 10) (line_of text n + 1) (line_of text n) (suc (suc n)) (omega (arith, before)) (omega (arith, before))

pub few_columns : (text : List ℕ) (n : ℕ) → column_of text n ≤ suc n
unfolding column_of
few_columns text zero = omega arith
few_columns text (suc n) = let before = few_columns text n in if_most (slice_index text n == 10) 1 (column_of text n + 1) (suc (suc n)) (omega arith) (omega (arith, before))

-- a byte more on one line is a column more
step_of : (b : Bool) (line low column : ℕ) → (if b then line + 1 else line) ≡ low → low ≤ line → (line ≡ low) × ((if b then 1 else column + 1) ≡ column + 1)
step_of true line low column e l = absurd (omega (arith, e, l))
step_of false line low column e l = (e, refl)

columns_rise : (text : List ℕ) (a n : ℕ) → line_of text (n + a) ≡ line_of text a → column_of text (n + a) ≡ n + column_of text a
unfolding line_of column_of
columns_rise text a zero e = let here : a ≡ zero + a = omega arith in subst (λ (k : ℕ). column_of text k ≡ zero + column_of text a) here (omega arith)
columns_rise text a (suc n) e =
    let shape : suc n + a ≡ suc (n + a) = omega arith in
    let line : line_of text (suc (n + a)) ≡ line_of text a = sym (ap (line_of text) shape) ∙ e in
    let here = step_of (slice_index text (n + a) == 10) (line_of text (n + a)) (line_of text a) (column_of text (n + a)) line (lines_rise text a n) in
    let before = columns_rise text a n here.0 in
    let there : column_of text (suc (n + a)) ≡ column_of text (n + a) + 1 = here.1 in
    ap (column_of text) shape ∙ (let plus : column_of text (suc (n + a)) ≡ suc n + column_of text a = omega (arith, there, before) in plus)

either_way : (a b : ℕ) → ((n : ℕ) × (b ≡ n + a)) ⊎ ((n : ℕ) × (a ≡ n + b))
either_way zero b = inl (b, omega arith)
either_way (suc a) zero = inr (suc a, omega arith)
either_way (suc a) (suc b) = by (either_way a b)
  where
    by : ((n : ℕ) × (b ≡ n + a)) ⊎ ((n : ℕ) × (a ≡ n + b)) → ((n : ℕ) × (suc b ≡ n + suc a)) ⊎ ((n : ℕ) × (suc a ≡ n + suc b))
    by (inl h) = let e = h.1 in inl (h.0, omega (arith, e))
    by (inr h) = let e = h.1 in inr (h.0, omega (arith, e))

-- a line and a column tell the byte
behind_same : (text : List ℕ) (a b n : ℕ) → b ≡ n + a → line_of text a ≡ line_of text b → column_of text a ≡ column_of text b → a ≡ b
behind_same text a b n e line column =
    let far = columns_rise text a n (sym (line ∙ ap (line_of text) e)) in
    let same : column_of text a ≡ column_of text (n + a) = column ∙ ap (column_of text) e in
    omega (arith, far, same, e)

pub one_byte : (text : List ℕ) (a b : ℕ) → line_of text a ≡ line_of text b → column_of text a ≡ column_of text b → a ≡ b
one_byte text a b line column = by (either_way a b)
  where
    by : ((n : ℕ) × (b ≡ n + a)) ⊎ ((n : ℕ) × (a ≡ n + b)) → a ≡ b
    by (inl h) = behind_same text a b h.0 h.1 line column
    by (inr h) = sym (behind_same text b a h.0 h.1 (sym line) (sym column))
