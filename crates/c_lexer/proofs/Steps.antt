-- How a cut grows by one piece, and what bars it.
use Rattle.std.proofs.Common.{◌≡◌, ℕ, ◌+◌, ◌≤◌, ◌^◌, inl, inr, Option, Some, None, MatchOption, List, [], ◌∷◌, ◌++◌, length, refl, sym, ap, ◌∙◌, subst, arith, rules, append_assoc, length-append}
use Rattle.c_lexer.specs.declared.Token.{Token}
use Rattle.c_lexer.specs.declared.TokenKind.{TokenKind}
use Rattle.c_lexer.specs.declared.LexFault.{LexFault}
use Rattle.c_lexer.specs.declared.LexFault.TheVariants.{BadByte, Unended, BadNumber, TooLong, OutOfMemory}
use Rattle.c_lexer.specs.declared.meanings.Meaning.TheVariants as means
use Rattle.c_lexer.specs.declared.groups.Need.{Need}
use Rattle.c_lexer.specs.declared.groups.Need.TheVariants.{Opening, Closings}
use Rattle.c_lexer.specs.declared.groups.Pending.{Pending}
use Rattle.c_lexer.specs.declared.runs.Run.TheVariants.{White, Line, Name, Number}
use Rattle.c_lexer.specs.Pieces.{Kind, run, sign, literal, Piece, Stands}
use Rattle.c_lexer.specs.Meanings.{meaning, KindFlaw, Flaw, IsGood}
use Rattle.c_lexer.specs.Cut.{Pieces, need_after, Meets, Supplies, Group, Step, Ends, IsStep, Cut, tokens_of, all_tokens, token_at, Bars, byte, quote, flaw, barred, attribute, IsFault}
use Rattle.c_lexer.specs.States.{Reached, IsPending, pushed}
use Rattle.c_lexer.proofs.Longest.{one_piece}

append_nothing : {A : Type 0} (xs : List A) → xs ++ [] ≡ xs
append_nothing xs = search rules

cut_more : (text : List ℕ) (a b : ℕ) (ss : List Step) (s : Step) → Cut text a ss b → s.piece.from ≡ b → IsStep text s → Cut text a (ss ++ s ∷ []) s.end
cut_more text a b [] s c e i = (e ∙ sym c, i, refl)
cut_more text a b (q ∷ ss) s c e i = (c.0, c.1, cut_more text q.end b ss s c.2 e i)

tokens_more : (text : List ℕ) (ss : List Step) (s : Step) → all_tokens text (ss ++ s ∷ []) ≡ all_tokens text ss ++ tokens_of (meaning text s.piece) text s.piece
tokens_more text [] s = append_nothing (tokens_of (meaning text s.piece) text s.piece)
tokens_more text (q ∷ ss) s = ap (λ ts. tokens_of (meaning text q.piece) text q.piece ++ ts) (tokens_more text ss s) ∙ sym (append_assoc (tokens_of (meaning text q.piece) text q.piece) (all_tokens text ss) (tokens_of (meaning text s.piece) text s.piece))

-- the cut reaches the end of a step that begins where it ends
pub reach_more : (text : List ℕ) (at : ℕ) (ts : List Token) (s : Step) → Reached text at ts → s.piece.from ≡ at → IsStep text s → Reached text s.end (ts ++ tokens_of (meaning text s.piece) text s.piece)
reach_more text at ts s r e i = (r.0 ++ s ∷ [], cut_more text 0 at r.0 s r.1 e i, ap (λ l. l ++ tokens_of (meaning text s.piece) text s.piece) r.2 ∙ sym (tokens_more text r.0 s))

-- a piece that means nothing
pub reach_nothing : (text : List ℕ) (p : Piece) (ts : List Token) → IsGood text p → meaning text p ≡ means.Nothing → Reached text p.from ts → Reached text p.end ts
reach_nothing text p ts g m r =
    let s = reach_more text p.from ts (record { piece = p; end = p.end }) r refl (record { good = g; ends = subst (λ x. Ends x text p.end p.end) (sym m) refl }) in
    subst (λ l. Reached text p.end l) (ap (λ x. ts ++ tokens_of x text p) m ∙ append_nothing ts) s

-- a piece that is a token
pub reach_token : (text : List ℕ) (p : Piece) (kind : TokenKind) (ts : List Token) → IsGood text p → meaning text p ≡ means.Token kind → Reached text p.from ts → Reached text p.end (ts ++ token_at text kind p.from p.end ∷ [])
reach_token text p kind ts g m r =
    let s = reach_more text p.from ts (record { piece = p; end = p.end }) r refl (record { good = g; ends = subst (λ x. Ends x text p.end p.end) (sym m) refl }) in
    subst (λ l. Reached text p.end l) (ap (λ x. ts ++ tokens_of x text p) m) s

-- an attribute with its group
reach_group : (text : List ℕ) (p : Piece) (end : ℕ) (ts : List Token) → IsGood text p → meaning text p ≡ means.Attribute → Group text p.end end → Reached text p.from ts → Reached text end ts
reach_group text p end ts g m group r =
    let s = reach_more text p.from ts (record { piece = p; end = end }) r refl (record { good = g; ends = subst (λ x. Ends x text p.end end) (sym m) group }) in
    subst (λ l. Reached text end l) (ap (λ x. ts ++ tokens_of x text p) m ∙ append_nothing ts) s

-- an attribute is pending behind its word
pub pending_first : (text : List ℕ) (p : Piece) (ts : List Token) → IsGood text p → meaning text p ≡ means.Attribute → Reached text p.from ts → IsPending text p.end ts (record { start = p.from; need = Opening })
pending_first text p ts g m r = record {
  reached = r;
  piece = p;
  from = refl;
  good = g;
  means = m;
  unmet = λ e. cc;
  forth = λ end h. h;
  back = λ end h. h;
}

from_some : (o : Option Need) (ps : List Piece) → MatchOption o ⊥ (λ next. Meets next ps) → (next : Need) × (o ≡ Some next) × Meets next ps
from_some None ps m = absurd m
from_some (Some next) ps m = (next, refl, m)

-- what is needed before a piece is that piece and what is needed behind it
supply_forth : (text : List ℕ) (p : Piece) (need : Need) (end : ℕ) → IsGood text p → (need ≡ Closings 0 → ⊥) → Supplies need text p.from end → (next : Need) × (need_after need p.kind ≡ Some next) × Supplies next text p.end end
supply_forth text p need end g unmet ([], cut, meets) = absurd (unmet meets)
supply_forth text p need end g unmet (q ∷ ps, cut, meets) =
    let e = one_piece text q p cut.1.piece g.piece cut.0 in
    let n = from_some (need_after need q.kind) ps meets.1 in
    (n.0, ap (λ x. need_after need x.kind) (sym e) ∙ n.1, (ps, subst (λ x. Pieces text x.end ps end) e cut.2, n.2))

supply_back : (text : List ℕ) (p : Piece) (need next : Need) (end : ℕ) → IsGood text p → (need ≡ Closings 0 → ⊥) → need_after need p.kind ≡ Some next → Supplies next text p.end end → Supplies need text p.from end
supply_back text p need next end g unmet e s = (p ∷ s.0, (refl, g, s.1), (unmet, subst (λ o. MatchOption o ⊥ (λ n. Meets n s.0)) (sym e) s.2))

-- nothing is supplied where no piece without a flaw begins
starved : (text : List ℕ) (at : ℕ) (need : Need) (end : ℕ) → ((p : Piece) → p.from ≡ at → IsGood text p → ⊥) → (need ≡ Closings 0 → ⊥) → Supplies need text at end → ⊥
starved text at need end none unmet ([], cut, meets) = unmet meets
starved text at need end none unmet (q ∷ ps, cut, meets) = none q cut.0 cut.1

some_same : (a b : Need) (o : Option Need) → o ≡ Some a → o ≡ Some b → a ≡ b
some_same a b o e f = cc

-- the attribute stays pending
pub pending_next : (text : List ℕ) (p : Piece) (ts : List Token) (pending : Pending) (next : Need) → IsGood text p → need_after pending.need p.kind ≡ Some next → (next ≡ Closings 0 → ⊥) → IsPending text p.from ts pending → IsPending text p.end ts (record { start = pending.start; need = next })
pending_next text p ts pending next g e unmet i = record {
  reached = i.reached;
  piece = i.piece;
  from = i.from;
  good = i.good;
  means = i.means;
  unmet = unmet;
  forth = λ end h.
      let n = supply_forth text p pending.need end g i.unmet (i.forth end h) in
      subst (λ x. Supplies x text p.end end) (some_same n.0 next _ n.1 e) n.2;
  back = λ end h. i.back end (supply_back text p pending.need next end g i.unmet e h);
}

-- its group is closed
pub pending_closed : (text : List ℕ) (p : Piece) (ts : List Token) (pending : Pending) (next : Need) → IsGood text p → need_after pending.need p.kind ≡ Some next → next ≡ Closings 0 → IsPending text p.from ts pending → Reached text p.end ts
pending_closed text p ts pending next g e met i =
    let group = i.back p.end (supply_back text p pending.need next p.end g i.unmet e ([], refl, met)) in
    reach_group text i.piece p.end ts i.good i.means group (subst (λ a. Reached text a ts) (sym i.from) i.reached)

-- an attribute that can't get its group is the first fault
no_group : (text : List ℕ) (at : ℕ) (ts : List Token) (pending : Pending) → length text ≤ 2 ^ 24 → IsPending text at ts pending → ((end : ℕ) → Supplies pending.need text at end → ⊥) → IsFault text (Unended pending.start)
no_group text at ts pending short i none =
    (short, (i.reached.0, pending.start, i.reached.1, attribute i.piece i.from i.good i.means (λ end h. none end (i.forth end h))))

some_none : (a : Need) (o : Option Need) → o ≡ Some a → o ≡ None → ⊥
some_none a o e f = cc

pub pending_broken : (text : List ℕ) (p : Piece) (ts : List Token) (pending : Pending) → length text ≤ 2 ^ 24 → IsGood text p → need_after pending.need p.kind ≡ None → IsPending text p.from ts pending → IsFault text (Unended pending.start)
pending_broken text p ts pending short g e i = no_group text p.from ts pending short i (λ end h. let n = supply_forth text p pending.need end g i.unmet h in some_none n.0 _ n.1 e)

pub pending_starved : (text : List ℕ) (at : ℕ) (ts : List Token) (pending : Pending) → length text ≤ 2 ^ 24 → ((p : Piece) → p.from ≡ at → IsGood text p → ⊥) → IsPending text at ts pending → IsFault text (Unended pending.start)
pending_starved text at ts pending short none i = no_group text at ts pending short i (λ end h. starved text at pending.need end none i.unmet h)

-- what bars a place lets no piece without a flaw begin there
pub no_good : (text : List ℕ) (at : ℕ) (fault : LexFault) → Bars text at fault → (p : Piece) → p.from ≡ at → IsGood text p → ⊥
no_good text at _ (byte s n) p e g = s.1 p.kind p.end g.piece.within.1 (subst (λ a. Stands p.kind text a p.end) e g.piece.stands)
no_good text at _ (quote s n) p e g = s.1 p.kind p.end g.piece.within.1 (subst (λ a. Stands p.kind text a p.end) e g.piece.stands)
no_good text at _ (flaw q fault f i l) p e g =
    let same = one_piece text q p i g.piece (f ∙ sym e) in
    g.flawless fault (subst (λ x. Flaw text x fault) same l)

-- at the end of the text no piece begins
pub no_good_end : (text : List ℕ) (at : ℕ) → length text ≤ at → (p : Piece) → p.from ≡ at → IsGood text p → ⊥
no_good_end text at l p e g = let w = g.piece.within in omega arith

no_long : (k : Kind) (text : List ℕ) (from end : ℕ) → KindFlaw k text from end TooLong → ⊥
no_long (run White) text from end l = l
no_long (run Line) text from end l = l
no_long (run Name) text from end l = l
no_long (run Number) text from end l = let e = l.1 in cc
no_long (sign k) text from end l = l
no_long (literal p q) text from end (inl l) = let e = l.2 in cc
no_long (literal p q) text from end (inr l) = let e = l.2 in cc

never_long : (text : List ℕ) (at : ℕ) → Bars text at TooLong → ⊥
never_long text at (flaw p _ e i l) = no_long p.kind text p.from p.end l

-- what bars the place that a cut reaches is the first fault
pub barred_fault : (text : List ℕ) (at : ℕ) (ts : List Token) (fault : LexFault) → length text ≤ 2 ^ 24 → Bars text at fault → Reached text at ts → IsFault text fault
barred_fault text at ts (BadByte n) short b r = (short, (r.0, at, r.1, barred _ b))
barred_fault text at ts (Unended n) short b r = (short, (r.0, at, r.1, barred _ b))
barred_fault text at ts (BadNumber n) short b r = (short, (r.0, at, r.1, barred _ b))
barred_fault text at ts TooLong short b r = absurd (never_long text at b)
barred_fault text at ts OutOfMemory short b r = tt

pub pushed_count : (text : List ℕ) (ts : List Token) (kind : Option TokenKind) (from end : ℕ) → length (pushed text ts kind from end) ≤ length ts + 1
pushed_count text ts None from end = omega arith
pushed_count text ts (Some kind) from end = omega (arith, length-append ts (token_at text kind from end ∷ []))
