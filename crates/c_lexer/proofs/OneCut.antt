-- A text is cut in one way.
use Rattle.std.proofs.Common.{zero, suc, ◌≡◌, ℕ, ◌+◌, ◌<◌, ◌≤◌, ◌^◌, Bool, ◌⊎◌, inl, inr, Option, Some, None, MatchOption, List, [], ◌∷◌, ◌++◌, length, refl, sym, ap, ◌∙◌, subst, arith, append_assoc}
use Rattle.std.proofs.lemmas.Bool.{cases_lt}
use Rattle.c_lexer.specs.declared.Token.{Token}
use Rattle.c_lexer.specs.declared.TokenKind.TheVariants.{End}
use Rattle.c_lexer.specs.declared.LexFault.{LexFault}
use Rattle.c_lexer.specs.declared.LexFault.TheVariants.{BadByte, Unended, BadNumber, TooLong, OutOfMemory}
use Rattle.c_lexer.specs.declared.meanings.Meaning.{Meaning}
use Rattle.c_lexer.specs.declared.meanings.Meaning.TheVariants as means
use Rattle.c_lexer.specs.declared.groups.Need.{Need}
use Rattle.c_lexer.specs.declared.groups.Need.TheVariants.{Opening}
use Rattle.c_lexer.specs.declared.runs.Run.TheVariants.{White, Line, Name, Number}
use Rattle.c_lexer.specs.declared.quotes.Quote.{Quote}
use Rattle.c_lexer.specs.Pieces.{Kind, run, sign, literal, quote_of, Piece, Stands}
use Rattle.c_lexer.specs.Meanings.{meaning, FirstBad, LiteralFlaw, KindFlaw, Flaw}
use Rattle.c_lexer.specs.Cut.{Pieces, need_after, Meets, Step, Ends, IsStep, Cut, tokens_of, all_tokens, token_at, Bars, byte, quote, flaw, Blocks, barred, attribute, FirstFault, IsTokens, IsFault}
use Rattle.std.specs.List.{All}
use Rattle.std.proofs.lemmas.List.Elements.{All-append}
use Rattle.c_lexer.specs.Meanings.{IsGood}
use Rattle.c_lexer.specs.Laws as laws
use Rattle.c_lexer.specs.Laws.{TokensStand, OneCutting, Ordered, SpansInOrder}
use Rattle.c_lexer.proofs.Longest.{one_piece}
use Rattle.c_lexer.proofs.Steps.{no_good, no_good_end}

-- the first bad escape is one
bad_same : (wide : Bool) (text : List ℕ) (inside size n m : ℕ) → FirstBad wide text inside size n → FirstBad wide text inside size m → n ≡ m
bad_same wide text inside size n m a b =
    elim (cases_lt n m) [
      | inl l ↦ absurd (b.first n l a.bad)
      | inr l ↦ elim (cases_lt m n) [ inl k ↦ absurd (a.first m k b.bad) | inr k ↦ omega arith ]
    ]

literal_flaw_same : (wide : Bool) (q : Quote) (text : List ℕ) (at size : ℕ) (f g : LexFault) → LiteralFlaw wide q text at size f → LiteralFlaw wide q text at size g → f ≡ g
literal_flaw_same wide q text at size f g (inl a) (inl b) = a.2 ∙ sym b.2
literal_flaw_same wide q text at size f g (inl a) (inr b) = absurd (let w = b.1.within in omega (arith, a.1))
literal_flaw_same wide q text at size f g (inr a) (inl b) = absurd (let w = a.1.within in omega (arith, b.1))
literal_flaw_same wide q text at size f g (inr a) (inr b) = a.2 ∙ (ap (λ n. BadByte (at + 1 + n)) (bad_same wide text (at + 1) size a.0 b.0 a.1 b.1) ∙ sym b.2)

-- a piece has one flaw at most
flaw_same : (k : Kind) (text : List ℕ) (from end : ℕ) (f g : LexFault) → KindFlaw k text from end f → KindFlaw k text from end g → f ≡ g
flaw_same (run White) text from end f g a b = absurd a
flaw_same (run Line) text from end f g a b = absurd a
flaw_same (run Name) text from end f g a b = absurd a
flaw_same (run Number) text from end f g a b = a.1 ∙ sym b.1
flaw_same (sign k) text from end f g a b = absurd a
flaw_same (literal p q) text from end f g a b = literal_flaw_same _ q text (quote_of p from) _ f g a b

-- a place is barred for one reason
bars_same : (text : List ℕ) (at : ℕ) (f g : LexFault) → Bars text at f → Bars text at g → f ≡ g
bars_same text at _ _ (byte s n) (byte t m) = refl
bars_same text at _ _ (byte s n) (quote t m) = absurd (n m)
bars_same text at _ _ (byte s n) (flaw p g e i l) = absurd (s.1 p.kind p.end i.within.1 (subst (λ a. Stands p.kind text a p.end) e i.stands))
bars_same text at _ _ (quote s n) (byte t m) = absurd (m n)
bars_same text at _ _ (quote s n) (quote t m) = refl
bars_same text at _ _ (quote s n) (flaw p g e i l) = absurd (s.1 p.kind p.end i.within.1 (subst (λ a. Stands p.kind text a p.end) e i.stands))
bars_same text at _ _ (flaw p f e i l) (byte t m) = absurd (t.1 p.kind p.end i.within.1 (subst (λ a. Stands p.kind text a p.end) e i.stands))
bars_same text at _ _ (flaw p f e i l) (quote t m) = absurd (t.1 p.kind p.end i.within.1 (subst (λ a. Stands p.kind text a p.end) e i.stands))
bars_same text at _ _ (flaw p f e i l) (flaw q g d j m) =
    let same = one_piece text q p j i (d ∙ sym e) in
    flaw_same p.kind text p.from p.end f g l (subst (λ x. Flaw text x g) same m)

blocks_same : (text : List ℕ) (at : ℕ) (f g : LexFault) → Blocks text at f → Blocks text at g → f ≡ g
blocks_same text at _ _ (barred f a) (barred g b) = bars_same text at f g a b
blocks_same text at _ _ (barred f a) (attribute p e g m n) = absurd (no_good text at f a p e g)
blocks_same text at _ _ (attribute p e g m n) (barred f b) = absurd (no_good text at f b p e g)
blocks_same text at _ _ (attribute p e g m n) (attribute q d h o l) = refl

both_some : {C : Type 0} (o : Option Need) (ps qs : List Piece) → MatchOption o ⊥ (λ next. Meets next ps) → MatchOption o ⊥ (λ next. Meets next qs) → ((next : Need) → Meets next ps → Meets next qs → C) → C
both_some None ps qs h k f = absurd h
both_some (Some next) ps qs h k f = f next h k

-- what is needed is supplied in one way
supplied_same : (text : List ℕ) (need : Need) (a b c : ℕ) (ps qs : List Piece) → Pieces text a ps b → Pieces text a qs c → Meets need ps → Meets need qs → b ≡ c
supplied_same text need a b c [] [] p q m n = sym p ∙ q
supplied_same text need a b c [] (y ∷ qs) p q m n = absurd (n.0 m)
supplied_same text need a b c (x ∷ ps) [] p q m n = absurd (m.0 n)
supplied_same text need a b c (x ∷ ps) (y ∷ qs) p q m n =
    let e : y ≡ x = one_piece text y x q.1.piece p.1.piece (q.0 ∙ sym p.0) in
    both_some (need_after need x.kind) ps qs m.1 (subst (λ z. MatchOption (need_after need z.kind) ⊥ (λ next. Meets next qs)) e n.1)
    (λ next h k. supplied_same text next x.end b c ps qs p.2 (subst (λ z. Pieces text z.end qs c) e q.2) h k)

ends_one : (m : Meaning) (text : List ℕ) (at b c : ℕ) → Ends m text at b → Ends m text at c → b ≡ c
ends_one means.Nothing text at b c p q = p ∙ sym q
ends_one means.Attribute text at b c p q = supplied_same text Opening at b c p.0 q.0 p.1 q.1 p.2 q.2
ends_one (means.Token kind) text at b c p q = p ∙ sym q

abbrev step : Piece → ℕ → Step
step p end = record { piece = p; end = end }

-- one step begins at a place
one_step : (text : List ℕ) (s t : Step) → IsStep text s → IsStep text t → s.piece.from ≡ t.piece.from → s ≡ t
one_step text s t i j e =
    let p = one_piece text s.piece t.piece i.good.piece j.good.piece e in
    let f : s.end ≡ t.end = ends_one (meaning text t.piece) text t.piece.end s.end t.end (subst (λ x. Ends (meaning text x) text x.end s.end) p i.ends) j.ends in
    ap (λ x. step x s.end) p ∙ ap (λ n. step t.piece n) f

-- no step begins at a place
abbrev NoStep : List ℕ → ℕ → Type 0
NoStep text at = (s : Step) → s.piece.from ≡ at → IsStep text s → ⊥

blocked : (text : List ℕ) (at : ℕ) (f : LexFault) → Blocks text at f → NoStep text at
blocked text at _ (barred f b) s e i = no_good text at f b s.piece e i.good
blocked text at _ (attribute p d g m n) s e i =
    let same : s.piece ≡ p = one_piece text s.piece p i.good.piece g.piece (e ∙ sym d) in
    let group : Ends (meaning text p) text p.end s.end = subst (λ x. Ends (meaning text x) text x.end s.end) same i.ends in
    n s.end (subst (λ x. Ends x text p.end s.end) m group)

ended : (text : List ℕ) → NoStep text (length text)
ended text s e i = no_good_end text (length text) (omega arith) s.piece e i.good

-- two cuts that end where no step begins are one
cut_same : (text : List ℕ) (a b c : ℕ) (ss ts : List Step) → Cut text a ss b → Cut text a ts c → NoStep text b → NoStep text c → (b ≡ c) × (ss ≡ ts)
cut_same text a b c [] [] p q m n = (sym p ∙ q, refl)
cut_same text a b c [] (t ∷ ts) p q m n = absurd (m t (q.0 ∙ p) q.1)
cut_same text a b c (s ∷ ss) [] p q m n = absurd (n s (p.0 ∙ q) p.1)
cut_same text a b c (s ∷ ss) (t ∷ ts) p q m n =
    let e = one_step text t s q.1 p.1 (q.0 ∙ sym p.0) in
    let r = cut_same text s.end b c ss ts p.2 (subst (λ x. Cut text x.end ts c) e q.2) m n in
    (r.0, ap (λ l. s ∷ l) r.1 ∙ ap (λ x. x ∷ ts) (sym e))

tokens_same : (text : List ℕ) (ts us : List Token) → IsTokens text ts → IsTokens text us → ts ≡ us
tokens_same text ts us a b =
    let e = (cut_same text 0 (length text) (length text) a.1.0 b.1.0 a.1.1 b.1.1 (ended text) (ended text)).1 in
    a.1.2 ∙ (ap (λ ss. all_tokens text ss ++ token_at text End (length text) (length text) ∷ []) e ∙ sym b.1.2)

first_same : (text : List ℕ) (f g : LexFault) → FirstFault text f → FirstFault text g → f ≡ g
first_same text f g a b =
    let e = (cut_same text 0 a.1.1 b.1.1 a.1.0 b.1.0 a.1.2 b.1.2 (blocked text a.1.1 f a.1.3) (blocked text b.1.1 g b.1.3)).0 in
    blocks_same text b.1.1 f g (subst (λ n. Blocks text n f) e a.1.3) b.1.3

-- a fault other than the length and the memory is the first one
kept : (text : List ℕ) (f : LexFault) → (f ≡ OutOfMemory → ⊥) → IsFault text f → ((f ≡ TooLong) × (2 ^ 24 < length text)) ⊎ FirstFault text f
kept text (BadByte n) m i = inr i
kept text (Unended n) m i = inr i
kept text (BadNumber n) m i = inr i
kept text TooLong m i = inl (refl, i)
kept text OutOfMemory m i = absurd (m refl)

fault_same : (text : List ℕ) (f g : LexFault) → ((f ≡ TooLong) × (2 ^ 24 < length text)) ⊎ FirstFault text f → ((g ≡ TooLong) × (2 ^ 24 < length text)) ⊎ FirstFault text g → f ≡ g
fault_same text f g (inl a) (inl b) = a.0 ∙ sym b.0
fault_same text f g (inl a) (inr b) = absurd (let l = b.0 in let m = a.1 in omega arith)
fault_same text f g (inr a) (inl b) = absurd (let l = a.0 in let m = b.1 in omega arith)
fault_same text f g (inr a) (inr b) = first_same text f g a b

-- a place at which something is wrong lies before the end
bars_before : (text : List ℕ) (at : ℕ) (f : LexFault) → Bars text at f → at < length text
bars_before text at _ (byte s n) = s.0
bars_before text at _ (quote s n) = s.0
bars_before text at _ (flaw p f e i l) = let w = i.within in omega arith

blocks_before : (text : List ℕ) (at : ℕ) (f : LexFault) → Blocks text at f → at < length text
blocks_before text at _ (barred f b) = bars_before text at f b
blocks_before text at _ (attribute p e g m n) = let w = g.piece.within in omega arith

not_both : (text : List ℕ) (ts : List Token) (f : LexFault) → IsTokens text ts → ((f ≡ TooLong) × (2 ^ 24 < length text)) ⊎ FirstFault text f → ⊥
not_both text ts f a (inl b) = let l = a.0 in let m = b.1 in omega arith
not_both text ts f a (inr b) =
    let e = (cut_same text 0 (length text) b.1.1 a.1.0 b.1.0 a.1.1 b.1.2 (ended text) (blocked text b.1.1 f b.1.3)).0 in
    let l = blocks_before text b.1.1 f b.1.3 in
    omega arith

pub one_cut : OneCutting
one_cut = record {
  tokens = tokens_same;
  fault = λ text f g m n a b. fault_same text f g (kept text f m a) (kept text g n b);
  either = λ text ts f m a b. not_both text ts f a (kept text f m b);
}

pieces_forward : (text : List ℕ) (a b : ℕ) (ps : List Piece) → Pieces text a ps b → a ≤ b
pieces_forward text a b [] p = omega arith
pieces_forward text a b (x ∷ ps) p =
    let w = p.1.piece.within in
    let f = pieces_forward text x.end b ps p.2 in
    let e = p.0 in
    omega arith

ends_forward : (m : Meaning) (text : List ℕ) (at end : ℕ) → Ends m text at end → at ≤ end
ends_forward means.Nothing text at end e = omega arith
ends_forward means.Attribute text at end e = pieces_forward text at end e.0 e.1
ends_forward (means.Token kind) text at end e = omega arith

ordered_before : (a b end : ℕ) (ts : List Token) → a ≤ b → Ordered b end ts → Ordered a end ts
ordered_before a b end [] l o = omega arith
ordered_before a b end (t ∷ ts) l o = (let f = o.0 in omega arith, o.1, o.2)

ordered_step : (m : Meaning) (text : List ℕ) (p : Piece) (at end : ℕ) (ts : List Token) → p.from ≤ p.end → Ends m text p.end at → Ordered at end ts → Ordered p.from end (tokens_of m text p ++ ts)
ordered_step means.Nothing text p at end ts l e o = ordered_before p.from at end ts (omega arith) o
ordered_step means.Attribute text p at end ts l e o = ordered_before p.from at end ts (let f = ends_forward means.Attribute text p.end at e in omega arith) o
ordered_step (means.Token kind) text p at end ts l e o = (omega arith, l, ordered_before p.end at end ts (omega arith) o)

ordered_cut : (text : List ℕ) (a : ℕ) (ss : List Step) → Cut text a ss (length text) → Ordered a (length text) (all_tokens text ss ++ token_at text End (length text) (length text) ∷ [])
ordered_cut text a [] c = (omega arith, omega arith, omega arith)
ordered_cut text a (s ∷ ss) c =
    let w = c.1.good.piece.within in
    let rest = ordered_cut text s.end ss c.2 in
    let o = ordered_step (meaning text s.piece) text s.piece s.end (length text) _ (let l = w.0 in omega arith) c.1.ends rest in
    subst (λ x. Ordered x (length text) (all_tokens text (s ∷ ss) ++ token_at text End (length text) (length text) ∷ [])) c.0
    (subst (λ l. Ordered s.piece.from (length text) l) (sym (append_assoc (tokens_of (meaning text s.piece) text s.piece) (all_tokens text ss) (token_at text End (length text) (length text) ∷ []))) o)

pub ordered : SpansInOrder
ordered text ts i = subst (λ l. Ordered 0 (length text) l) (sym i.1.2) (ordered_cut text 0 i.1.0 i.1.1)

all_none : {A : Type 0} (P : A → Type 0) → All P []
all_none P k d h = absurd (omega arith)

all_one : {A : Type 0} (P : A → Type 0) (x : A) → P x → All P (x ∷ [])
all_one P x p zero d h = p
all_one P x p (suc k) d h = absurd (omega arith)

stand_piece : (m : Meaning) (text : List ℕ) (p : Piece) → meaning text p ≡ m → IsGood text p → All (laws.Stands text) (tokens_of m text p)
stand_piece means.Nothing text p e g = all_none (laws.Stands text)
stand_piece means.Attribute text p e g = all_none (laws.Stands text)
stand_piece (means.Token kind) text p e g = all_one (laws.Stands text) _ (inr (p, refl, refl, g, e))

stand_cut : (text : List ℕ) (a : ℕ) (ss : List Step) → Cut text a ss (length text) → All (laws.Stands text) (all_tokens text ss ++ token_at text End (length text) (length text) ∷ [])
stand_cut text a [] c = all_one (laws.Stands text) _ (inl (refl, refl, refl))
stand_cut text a (s ∷ ss) c =
    let rest = stand_cut text s.end ss c.2 in
    let here = stand_piece (meaning text s.piece) text s.piece refl c.1.good in
    let o = All-append (laws.Stands text) (tokens_of (meaning text s.piece) text s.piece) (all_tokens text ss ++ token_at text End (length text) (length text) ∷ []) here rest in
    subst (λ l. All (laws.Stands text) l) (sym (append_assoc (tokens_of (meaning text s.piece) text s.piece) (all_tokens text ss) (token_at text End (length text) (length text) ∷ []))) o

pub stand : TokensStand
stand text ts i = subst (λ l. All (laws.Stands text) l) (sym i.1.2) (stand_cut text 0 i.1.0 i.1.1)
