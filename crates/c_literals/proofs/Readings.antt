-- No item of the grammar takes a wide literal, so none is among the tokens of a reading.
use Rattle.std.proofs.Common.{◌≡◌, ℕ, zero, suc, ◌+◌, ◌<◌, ◌≤◌, Bool, true, false, not, eqb, Some, Result, Ok, List, [], ◌∷◌, cond, get_or, slice_get, refl, sym, ap, ◌∙◌, subst, inl, inr, arith}
use Rattle.std.specs.Prelude.{nat_le, ◌&&◌}
use Rattle.std.specs.List.{list_all, All}
use Rattle.std.proofs.lemmas.List.Elements.{All-head, All-tail}
use Rattle.std.proofs.lemmas.Bool.{and_parts, cases_lt, cases_Bool, both_ways, cond-true, or_from, not-true}
use Rattle.c_lexer.specs.declared.Token.{Token}
use Rattle.c_lexer.specs.declared.TokenKind.{TokenKind}
use Rattle.c_lexer.specs.declared.TokenKind.TheVariants.{Identifier, Keyword, Punctuator, Integer, Floating, Character, Text, End}
use Rattle.c_grammar.specs.declared.rows.Item.{Item}
use Rattle.c_grammar.specs.declared.rows.Item.TheVariants as item
use Rattle.c_grammar.specs.Table.{table, row, item_of}
use Rattle.c_grammar.specs.Tree.{makes_node}
use Rattle.c_grammar.specs.Productions.{p_floating_name, p_typedef_name, p_list_pair_call, p_list_argument_call, p_list_end_call}
use Rattle.c_grammar.specs.Terminals.{terminal, terminal_of, terminal_of_kind, takes, contains, is_wide, spelled, floating_type, type_name, builtin_type, plain_name, typeof_name, builtin_name, wide_literal, string, list_name, list_names, list_pair, list_argument, list_end}
use Rattle.c_grammar.specs.Reads.{State, Fault, first, taken, scoped, opened, closed, Walks, Opens, at_end, token, no_token, use_of, no_use, choice, no_choice, no_alternative, again, no_again, scope, enough, deep, refused, whole, broken}
use Rattle.c_literals.specs.Laws.{LiteralFits}
use Rattle.c_literals.specs.Readings.{NotWide, StringsAreNarrow, ReadingsAreReadable}
use Rattle.c_literals.proofs.Literals.{fits}

-- an item's number is not that of wide literals
abbrev is_other : Item → Bool
is_other (item.Token (Keyword k)) = not (eqb k 104)
is_other (item.Token (Punctuator p)) = not (eqb (45 + p) 104)
is_other i = true

all_other : list_all (list_all is_other) table ≡ true
unfolding table
all_other = refl

all_at : {X : Type 0} (test : X → Bool) (xs : List X) (i : ℕ) (d : X) → list_all test xs ≡ true → test d ≡ true → test (get_or xs i d) ≡ true
all_at test [] i d e f = f
all_at test (x ∷ xs) zero d e f = (and_parts (test x) (list_all test xs) e).0
all_at test (x ∷ xs) (suc i) d e f = all_at test xs i d (and_parts (test x) (list_all test xs) e).1 f

all_some : {X : Type 0} (test : X → Bool) (xs : List X) (i : ℕ) (x : X) → list_all test xs ≡ true → slice_get xs i ≡ Some x → test x ≡ true
all_some test [] i x e f = absurd cc
all_some test (y ∷ xs) zero x e f = let same : y ≡ x = cc in ap test (sym same) ∙ (and_parts (test y) (list_all test xs) e).0
all_some test (y ∷ xs) (suc i) x e f = all_some test xs i x (and_parts (test y) (list_all test xs) e).1 f

item_other : (p at : ℕ) (i : Item) → item_of p at ≡ Some i → is_other i ≡ true
unfolding item_of row
item_other p at i e = all_some is_other (get_or table p []) at i (all_at (list_all is_other) table p [] all_other refl) e

-- no item takes a wide literal
list_none : (b c : Bool) → contains (cond b list_pair (cond c list_argument list_end) ∷ []) 104 ≡ false
list_none true c = refl
list_none false true = refl
list_none false false = refl

identifier_none : (p : ℕ) (b c d : Bool) → contains (elim b as (λ x. List ℕ) [ true ↦ floating_type ∷ [] | false ↦ elim c as (λ x. List ℕ) [ true ↦ type_name ∷ builtin_type ∷ [] | false ↦ elim d as (λ x. List ℕ) [ true ↦ list_name p ∷ [] | false ↦ plain_name ∷ type_name ∷ typeof_name ∷ builtin_name ∷ (builtin_type ∷ list_names) ] ] ]) 104 ≡ false
identifier_none p true c d = refl
identifier_none p false true d = refl
identifier_none p false false true = list_none (eqb p p_list_pair_call) (eqb p p_list_argument_call)
identifier_none p false false false = refl

takes_none : (p : ℕ) (k : TokenKind) → is_other (item.Token k) ≡ true → takes p k 104 ≡ false
unfolding takes
takes_none p Identifier e =
    identifier_none p (eqb p p_floating_name) (eqb p p_typedef_name) (nat_le p_list_pair_call p && nat_le p p_list_end_call)
takes_none p (Keyword k) e = or_from (eqb k 104) false (not-true (eqb k 104) e) refl
takes_none p (Punctuator n) e = or_from (eqb (45 + n) 104) false (not-true (eqb (45 + n) 104) e) refl
takes_none p Integer e = refl
takes_none p Floating e = refl
takes_none p Character e = refl
takes_none p Text e = refl
takes_none p End e = refl

wide_first : (text : List ℕ) (tokens : List Token) (s : State) (t : Token) → slice_get tokens s.place ≡ Some t → t.kind ≡ Text → is_wide (spelled text t) ≡ true → first text tokens s ≡ 104
unfolding terminal
wide_first text tokens s t e kind w =
    ap (terminal_of text s.scopes) e ∙ (ap (λ k. terminal_of_kind k s.scopes (spelled text t)) kind ∙ cond-true (is_wide (spelled text t)) wide_literal string w)

place_of : (b : Bool) (x s : State) → x.place ≡ s.place → (cond b x s).place ≡ s.place
place_of true x s e = e
place_of false x s e = refl

module _ (text : List ℕ) (tokens : List Token) where
  taken_narrow : (p at : ℕ) (k : TokenKind) (s : State) → item_of p at ≡ Some (item.Token k) → takes p k (first text tokens s) ≡ true → NotWide text tokens s.place
  taken_narrow p at k s h e t there kind =
      elim (cases_Bool (is_wide (spelled text t))) [
        | inr narrow ↦ narrow
        | inl wide ↦ absurd (both_ways (takes p k 104) (takes_none p k (item_other p at (item.Token k) h)) (ap (takes p k) (sym (wide_first text tokens s t there kind wide)) ∙ e))
      ]

  -- from one place to another
  abbrev Narrow : State → State → Type 0
  Narrow s t = (i : ℕ) → s.place ≤ i → i < t.place → NotWide text tokens i

  then : (s u t : State) → Narrow s u → Narrow u t → Narrow s t
  then s u t a b i l h = elim (cases_lt i u.place) [ inl m ↦ a i l m | inr m ↦ b i m h ]

  same_places : (s t u v : State) → s.place ≡ u.place → t.place ≡ v.place → Narrow u v → Narrow s t
  same_places s t u v e f a i l h = a i (omega arith) (omega arith)

  mutual
    walks_narrow : (p at d : ℕ) (s : State) (r : Result State Fault) → Walks text tokens p at d s r → (t : State) → r ≡ Ok t → Narrow s t
    walks_narrow p at d s r (at_end h) t e = let f : s ≡ t = cc in λ i l m. absurd (let g = ap (λ (x : State). x.place) f in omega arith)
    walks_narrow p at d s r (token {k = k} h e w) t f =
        then s (taken text tokens p s) t (λ i l m. let same : s.place ≡ i = omega arith in subst (NotWide text tokens) same (taken_narrow p at k s h e)) (walks_narrow p (at + 1) d (taken text tokens p s) r w t f)
    walks_narrow p at d s r (no_token h k) t e = absurd (cc)
    walks_narrow p at d s r (use_of {q = q} {t = u} h o w) t e = then s u t (opens_narrow q d s (Ok u) o u refl) (walks_narrow p (at + 1) d u r w t e)
    walks_narrow p at d s r (no_use h o) t e = absurd (cc)
    walks_narrow p at d s r (choice {t = u} h c o w) t e = then s u t (opens_narrow _ d s (Ok u) o u refl) (walks_narrow p (at + 1) d u r w t e)
    walks_narrow p at d s r (no_choice h c o) t e = absurd (cc)
    walks_narrow p at d s r (no_alternative h c) t e = absurd (cc)
    walks_narrow p at d s r (again {q = q} {t = u} h k o w) t e = then s u t (opens_narrow q d s (Ok u) o u refl) (walks_narrow p at d u r w t e)
    walks_narrow p at d s r (no_again h k o) t e = absurd (cc)
    walks_narrow p at d s r (scope {n = n} h w) t e = walks_narrow p (at + 1) d (scoped text tokens p n s) r w t e
    walks_narrow p at d s r (enough h k w) t e = walks_narrow p (at + 1) d s r w t e

    pub opens_narrow : (q d : ℕ) (s : State) (r : Result State Fault) → Opens text tokens q d s r → (t : State) → r ≡ Ok t → Narrow s t
    opens_narrow q d s r (deep h) t e = absurd (cc)
    opens_narrow q d s r (refused h k) t e = absurd (cc)
    opens_narrow q d s r (whole {t = u} h k w) t e =
        let f : closed q s u ≡ t = cc in
        let from : s.place ≡ (opened q s).place = sym (place_of (makes_node q) _ s refl) in
        let to : t.place ≡ u.place = ap (λ (x : State). x.place) (sym f) ∙ place_of (makes_node q) _ u refl in
        same_places s t (opened q s) u from to (walks_narrow q 0 _ (opened q s) (Ok u) w u refl)
    opens_narrow q d s r (broken h k w) t e = absurd (cc)

all_get : {X : Type 0} (P : X → Type 0) (xs : List X) (i : ℕ) (x : X) → All P xs → slice_get xs i ≡ Some x → P x
all_get P [] i x a e = absurd cc
all_get P (y ∷ xs) zero x a e = let same : y ≡ x = cc in subst P same (All-head P y xs a)
all_get P (y ∷ xs) (suc i) x a e = all_get P xs i x (All-tail P y xs a) e

pub narrow_strings : StringsAreNarrow
narrow_strings text tokens q d s t o = opens_narrow text tokens q d s (Ok t) o t refl

pub readable : ReadingsAreReadable
readable text tokens q d s t all cut o i x from to there =
    let literal = all_get (LiteralFits text) tokens i x (fits text tokens all cut) there in
    record {
      integer = literal.integer;
      string = λ kind. literal.string kind (narrow_strings text tokens q d s t o i from to x there kind);
    }
