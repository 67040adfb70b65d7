-- A cast or a unary expression with a type's name has the parenthesis before it.
use Rattle.std.proofs.Common.{arith, ◌≡◌, ℕ, zero, suc, ◌+◌, not, nat_eq, Bool, true, false, ◌&&◌, ◌||◌, cond, Result, Ok, List, [], ◌∷◌, ◌++◌, Some, None, length, slice_get, drop, refl, sym, ap, ◌∙◌, subst, ◌⊎◌, inl, inr}
use Rattle.std.proofs.lemmas.Bool.{eqb-true}
use Rattle.c_lexer.specs.declared.Token.{Token}
use Rattle.c_lexer.specs.declared.TokenKind.{TokenKind}
use Rattle.c_lexer.specs.declared.TokenKind.TheVariants.{Punctuator}
use Rattle.c_lexer.specs.Laws.{Stands}
use Rattle.c_grammar.specs.declared.rows.Item.{Item}
use Rattle.c_grammar.specs.declared.rows.Item.TheVariants as item
use Rattle.c_grammar.specs.Notes.{Noted}
use Rattle.c_grammar.specs.Table.{table, row, item_of}
use Rattle.c_grammar.specs.Fits.{fits, chosen}
use Rattle.c_grammar.specs.First.{can_be_empty}
use Rattle.c_grammar.specs.Terminals.{contains, terminal, takes}
use Rattle.c_grammar.specs.Tree.{makes_node}
use Rattle.c_grammar.specs.Reads.{State, Fault, Node, leaf, first, second, taken, scoped, opened, closed, Walks, Opens, at_end, token, no_token, use_of, no_use, choice, no_choice, no_alternative, again, no_again, scope, enough, deep, refused, whole, broken}
use Rattle.core_node_laws.proofs.count_laws.named_units.Parens.{IsParen, paren_taken}

left : (a b : Bool) → (a && b) ≡ true → a ≡ true
left true b e = refl
left false b e = cc

right : (a b : Bool) → (a && b) ≡ true → b ≡ true
right true b e = e
right false b e = cc

-- ---- rows: one that brings a type's name takes the parenthesis first

abbrev rows : List ℕ
rows = 48 ∷ 208 ∷ 209 ∷ 211 ∷ 216 ∷ 217 ∷ 218 ∷ 219 ∷ 220 ∷ 221 ∷ 222 ∷ 223 ∷ 224 ∷ 225 ∷ 226 ∷ 227 ∷ 228 ∷ 229 ∷ 230 ∷ 231 ∷ 232 ∷ 233 ∷ 234 ∷ 235 ∷ []

abbrev typed : List ℕ
typed = 44 ∷ 45 ∷ []

abbrev brings : ℕ → Bool
brings q = cond (makes_node q) (not (nat_eq q 24)) (contains rows q)

abbrev is_paren : TokenKind → Bool
is_paren (Punctuator g) = nat_eq g 2
is_paren kind = false

abbrev quiet : Item → Bool
quiet (item.Token k) = true
quiet (item.Use q) = brings q
quiet (item.Choice a b) = brings a && brings b
quiet (item.Repeat q) = brings q
quiet (item.Scope n) = true

abbrev takes_paren : Item → Bool
takes_paren (item.Token k) = is_paren k
takes_paren i = false

abbrev opens : List Item → Bool
opens [] = true
opens (i ∷ items) = takes_paren i || (quiet i && opens items)

abbrev each : List ℕ → Bool
each [] = true
each (p ∷ more) = opens (row p) && each more

rows_open : each rows ≡ true
unfolding table row makes_node
rows_open = refl

typed_open : each typed ≡ true
unfolding table row makes_node
typed_open = refl

or_false : (b c : Bool) → b ≡ false → (b || c) ≡ true → c ≡ true
or_false true c e h = cc
or_false false c e h = h

listed : (b : Bool) (p x : ℕ) → (nat_eq x p) ≡ b → opens (row x) ≡ true → (b ≡ false → opens (row p) ≡ true) → opens (row p) ≡ true
listed true p x e here later = subst (λ (y : ℕ). opens (row y) ≡ true) (eqb-true x p e) here
listed false p x e here later = later refl

of_each : (list : List ℕ) (p : ℕ) → each list ≡ true → contains list p ≡ true → opens (row p) ≡ true
of_each [] p h c = cc
of_each (x ∷ list) p h c = listed (nat_eq x p) p x refl (left (opens (row x)) (each list) h) (λ never. of_each list p (right (opens (row x)) (each list) h) (or_false (nat_eq x p) (contains list p) never c))

cut_here : (items : List Item) (at : ℕ) (i : Item) → slice_get items at ≡ Some i → drop at items ≡ i ∷ drop (suc at) items
cut_here [] at i e = cc
cut_here (x ∷ items) zero i e = let same : x ≡ i = cc in ap (λ (y : Item). y ∷ items) same
cut_here (x ∷ items) (suc at) i e = cut_here items at i e

from_item : (p at : ℕ) (i : Item) → item_of p at ≡ Some i → drop at (row p) ≡ i ∷ drop (at + 1) (row p)
unfolding item_of
from_item p at i e = cut_here (row p) at i e ∙ ap (λ (k : ℕ). i ∷ drop k (row p)) (let plus : suc at ≡ at + 1 = omega arith in plus)

picked : (x y : Bool) (a b q : ℕ) → cond x (Some a) (cond y (Some b) None) ≡ Some q → (a ≡ q) ⊎ (b ≡ q)
picked true y a b q e = inl cc
picked false true a b q e = inr cc
picked false false a b q e = absurd cc

one_chosen : (a b first second : ℕ) (notes : Noted) (q : ℕ) → chosen a b first second notes ≡ Some q → (a ≡ q) ⊎ (b ≡ q)
unfolding chosen
one_chosen a b first second notes q e = picked (fits a first second notes) (fits b first second notes || can_be_empty b) a b q e

chosen_brings : (a b q : ℕ) → (a ≡ q) ⊎ (b ≡ q) → (brings a && brings b) ≡ true → brings q ≡ true
chosen_brings a b q (inl e) h = subst (λ (x : ℕ). brings x ≡ true) e (left (brings a) (brings b) h)
chosen_brings a b q (inr e) h = subst (λ (x : ℕ). brings x ≡ true) e (right (brings a) (brings b) h)

when_true : {A : Type 0} (b : Bool) (x y : A) → b ≡ true → cond b x y ≡ x
when_true true x y e = refl
when_true false x y e = cc

when_false : {A : Type 0} (b : Bool) (x y : A) → b ≡ false → cond b x y ≡ y
when_false true x y e = cc
when_false false x y e = refl

-- ---- lists

or_last : {A : Type 0} (list : List A) (n m : A) (i : ℕ) → slice_get (list ++ n ∷ []) i ≡ Some m → (slice_get list i ≡ Some m) ⊎ ((i ≡ length list) × (n ≡ m))
or_last [] n m zero e = inr (refl, cc)
or_last [] n m (suc i) e = cc
or_last (x ∷ list) n m zero e = inl e
or_last (x ∷ list) n m (suc i) e = by (or_last list n m i e)
  where
    by : (slice_get list i ≡ Some m) ⊎ ((i ≡ length list) × (n ≡ m)) → (slice_get list i ≡ Some m) ⊎ ((suc i ≡ suc (length list)) × (n ≡ m))
    by (inl h) = inl h
    by (inr h) = inr (ap suc h.0, h.1)

at_more : {A : Type 0} (list : List A) (n m : A) (i : ℕ) → slice_get list i ≡ Some m → slice_get (list ++ n ∷ []) i ≡ Some m
at_more [] n m i e = cc
at_more (x ∷ list) n m zero e = e
at_more (x ∷ list) n m (suc i) e = at_more list n m i e

at_last : {A : Type 0} (list : List A) (n : A) → slice_get (list ++ n ∷ []) (length list) ≡ Some n
at_last [] n = refl
at_last (x ∷ list) n = at_last list n

-- ---- what is read

module _ (text : List ℕ) (tokens : List Token) (all : (k : ℕ) (t : Token) → slice_get tokens k ≡ Some t → Stands text t) where
  -- no child is a type's name
  abbrev pub IsPlain : List Node → List ℕ → Type 0
  IsPlain nodes ks = (r k : ℕ) → slice_get ks r ≡ Some k → (n : Node) × (slice_get nodes k ≡ Some n) × (nat_eq n.production 24 ≡ false)

  -- some child is the leaf of a parenthesis
  abbrev pub HasParen : List Node → List ℕ → Type 0
  HasParen nodes ks = (r : ℕ) × (k : ℕ) × (slice_get ks r ≡ Some k) × ((n : Node) × (slice_get nodes k ≡ Some n) × (n.production ≡ leaf) × IsParen (slice_get tokens n.token))

  abbrev pub IsOpened : List Node → List ℕ → Type 0
  IsOpened nodes ks = IsPlain nodes ks ⊎ HasParen nodes ks

  abbrev pub AllOpened : List Node → Type 0
  AllOpened nodes = (i : ℕ) (n : Node) → slice_get nodes i ≡ Some n → contains typed n.production ≡ true → IsOpened nodes n.children

  abbrev Grows : List Node → List Node → Type 0
  Grows a b = (k : ℕ) (n : Node) → slice_get a k ≡ Some n → slice_get b k ≡ Some n

  plain_on : (a b : List Node) (ks : List ℕ) → Grows a b → IsPlain a ks → IsPlain b ks
  plain_on a b ks g h r k e = let own = h r k e in (own.0, g k own.0 own.1, own.2)

  paren_on : (a b : List Node) (ks : List ℕ) → Grows a b → HasParen a ks → HasParen b ks
  paren_on a b ks g h = (h.0, h.1, h.2, (h.3.0, g h.1 h.3.0 h.3.1, h.3.2, h.3.3))

  opened_on : (a b : List Node) (ks : List ℕ) → Grows a b → IsOpened a ks → IsOpened b ks
  opened_on a b ks g (inl h) = inl (plain_on a b ks g h)
  opened_on a b ks g (inr h) = inr (paren_on a b ks g h)

  grows_one : (a : List Node) (n : Node) → Grows a (a ++ n ∷ [])
  grows_one a n k m e = at_more a n m k e

  plain_more : (a : List Node) (ks : List ℕ) (n : Node) → nat_eq n.production 24 ≡ false → IsPlain a ks → IsPlain (a ++ n ∷ []) (ks ++ length a ∷ [])
  plain_more a ks n other h r k e = by (or_last ks (length a) k r e)
    where
      by : (slice_get ks r ≡ Some k) ⊎ ((r ≡ length ks) × (length a ≡ k)) → (m : Node) × (slice_get (a ++ n ∷ []) k ≡ Some m) × (nat_eq m.production 24 ≡ false)
      by (inl f) = let own = h r k f in (own.0, at_more a n own.0 k own.1, own.2)
      by (inr f) = (n, subst (λ (x : ℕ). slice_get (a ++ n ∷ []) x ≡ Some n) f.1 (at_last a n), other)

  paren_more : (a : List Node) (ks : List ℕ) (n : Node) → HasParen a ks → HasParen (a ++ n ∷ []) (ks ++ length a ∷ [])
  paren_more a ks n h = (h.0, h.1, at_more ks (length a) h.1 h.0 h.2, (h.3.0, at_more a n h.3.0 h.1 h.3.1, h.3.2, h.3.3))

  opened_more : (a : List Node) (ks : List ℕ) (n : Node) → nat_eq n.production 24 ≡ false → IsOpened a ks → IsOpened (a ++ n ∷ []) (ks ++ length a ∷ [])
  opened_more a ks n other (inl h) = inl (plain_more a ks n other h)
  opened_more a ks n other (inr h) = inr (paren_more a ks n h)

  all_more : (a : List Node) (n : Node) → (contains typed n.production ≡ true → IsOpened a n.children) → AllOpened a → AllOpened (a ++ n ∷ [])
  all_more a n own h i m e is = by (or_last a n m i e)
    where
      by : (slice_get a i ≡ Some m) ⊎ ((i ≡ length a) × (n ≡ m)) → IsOpened (a ++ n ∷ []) m.children
      by (inl f) = opened_on a (a ++ n ∷ []) m.children (grows_one a n) (h i m f is)
      by (inr f) =
          let mine : IsOpened a n.children = own (subst (λ (x : Node). contains typed x.production ≡ true) (sym f.1) is) in
          subst (λ (x : Node). IsOpened (a ++ n ∷ []) x.children) f.1 (opened_on a (a ++ n ∷ []) n.children (grows_one a n) mine)

  -- what a reading leaves: by a row that opens, and by any
  record Kept (a b : List Node) (x y : List ℕ) (good : Bool) : Type 0 where
    grows : Grows a b
    paren : HasParen a x → HasParen b y
    all_of : AllOpened a → AllOpened b
    opened_by : good ≡ true → IsOpened a x → IsOpened b y

  kept_same : (a : List Node) (x : List ℕ) (good : Bool) → Kept a a x x good
  kept_same a x good = record { grows = λ k n e. e; paren = λ h. h; all_of = λ h. h; opened_by = λ g h. h }

  kept_then : (a b c : List Node) (x y z : List ℕ) (g h i : Bool) → (i ≡ true → g ≡ true) → (i ≡ true → h ≡ true) → Kept a b x y g → Kept b c y z h → Kept a c x z i
  kept_then a b c x y z g h i p q k m = record {
    grows = λ n e f. m.grows n e (k.grows n e f);
    paren = λ f. m.paren (k.paren f);
    all_of = λ f. m.all_of (k.all_of f);
    opened_by = λ e f. m.opened_by (q e) (k.opened_by (p e) f);
  }

  kept_weaker : (a b : List Node) (x y : List ℕ) (g h : Bool) → (h ≡ true → g ≡ true) → Kept a b x y g → Kept a b x y h
  kept_weaker a b x y g h p k = record { grows = k.grows; paren = k.paren; all_of = k.all_of; opened_by = λ e f. k.opened_by (p e) f }

  first_of : (p at : ℕ) (i : Item) → item_of p at ≡ Some i → takes_paren i ≡ false → opens (drop at (row p)) ≡ true → (quiet i && opens (drop (at + 1) (row p))) ≡ true
  first_of p at i e other h = or_false (takes_paren i) (quiet i && opens (drop (at + 1) (row p))) other (subst (λ (items : List Item). opens items ≡ true) (from_item p at i e) h)

  here : (p at : ℕ) (i : Item) → item_of p at ≡ Some i → takes_paren i ≡ false → opens (drop at (row p)) ≡ true → quiet i ≡ true
  here p at i e other h = left (quiet i) (opens (drop (at + 1) (row p))) (first_of p at i e other h)

  next : (p at : ℕ) (i : Item) → item_of p at ≡ Some i → takes_paren i ≡ false → opens (drop at (row p)) ≡ true → opens (drop (at + 1) (row p)) ≡ true
  next p at i e other h = right (quiet i) (opens (drop (at + 1) (row p))) (first_of p at i e other h)

  leaf_kept : (p at : ℕ) (s : State) (k : TokenKind) (b : List Node) (y : List ℕ) → item_of p at ≡ Some (item.Token k) → takes p k (first text tokens s) ≡ true
      → Kept (s.nodes ++ (record { production = leaf; token = s.place; children = [] }) ∷ []) b (s.children ++ length s.nodes ∷ []) y (opens (drop (at + 1) (row p))) → Kept s.nodes b s.children y (opens (drop at (row p)))
  unfolding terminal
  leaf_kept p at s k b y e h w =
      let n : Node = record { production = leaf; token = s.place; children = [] } in
      record {
        grows = λ i m f. w.grows i m (at_more s.nodes n m i f);
        paren = λ f. w.paren (paren_more s.nodes s.children n f);
        all_of = λ f. w.all_of (all_more s.nodes n (λ c. cc) f);
        opened_by = λ g f. by (is_paren k) refl g f;
      }
    where
      kind_is : is_paren k ≡ true → k ≡ Punctuator 2
      kind_is = kind_of k
        where
          kind_of : (k : TokenKind) → is_paren k ≡ true → k ≡ Punctuator 2
          kind_of (Punctuator g) f = ap Punctuator (eqb-true g 2 f)
          kind_of k f = absurd (let never : false ≡ true = f in cc)

      by : (c : Bool) → is_paren k ≡ c → opens (drop at (row p)) ≡ true → IsOpened s.nodes s.children → IsOpened b y
      by true is g f =
          let more : Node = record { production = leaf; token = s.place; children = [] } in
          let paren : IsParen (slice_get tokens s.place) =
          paren_taken text p s.scopes (slice_get tokens s.place) (λ t at_it. all s.place t at_it) (subst (λ (x : TokenKind). takes p x (first text tokens s) ≡ true) (kind_is is) h) in
          inr (w.paren (length s.children, length s.nodes, at_last s.children (length s.nodes), (more, at_last s.nodes more, refl, paren)))
      by false is g f = w.opened_by (next p at (item.Token k) e is g) (opened_more s.nodes s.children (record { production = leaf; token = s.place; children = [] }) refl f)

  -- a production by whether it makes a node
  closing : (b : Bool) (q : ℕ) (s u o x : State) → makes_node q ≡ b → o.nodes ≡ s.nodes → o.children ≡ [] → (x.nodes ≡ u.nodes ++ (record { production = q; token = s.place; children = u.children }) ∷ []) → (x.children ≡ s.children ++ length u.nodes ∷ [])
      → Kept (cond b o s).nodes u.nodes (cond b o s).children u.children (opens (row q)) → Kept s.nodes (cond b x u).nodes s.children (cond b x u).children (brings q)
  closing true q s u o x m en ec fn fc w =
      let n : Node = record { production = q; token = s.place; children = u.children } in
      let w1 : Kept s.nodes u.nodes o.children u.children (opens (row q)) = subst (λ (l : List Node). Kept l u.nodes o.children u.children (opens (row q))) en w in
      let w2 : Kept s.nodes u.nodes [] u.children (opens (row q)) = subst (λ (l : List ℕ). Kept s.nodes u.nodes l u.children (opens (row q))) ec w1 in
      let own : contains typed q ≡ true → IsOpened u.nodes u.children = λ c. w2.opened_by (of_each typed q typed_open c) (inl (λ r k e. cc)) in
      let r : Kept s.nodes (u.nodes ++ n ∷ []) s.children (s.children ++ length u.nodes ∷ []) (brings q) =
      record {
        grows = λ i k f. at_more u.nodes n k i (w2.grows i k f);
        paren = λ f. paren_more u.nodes s.children n (paren_on s.nodes u.nodes s.children w2.grows f);
        all_of = λ f. all_more u.nodes n own (w2.all_of f);
        opened_by = λ g f.
            opened_more u.nodes s.children n (negated (nat_eq q 24) (sym (when_true (makes_node q) (not (nat_eq q 24)) (contains rows q) m) ∙ g)) (opened_on s.nodes u.nodes s.children w2.grows f);
      } in
      subst (λ (l : List ℕ). Kept s.nodes x.nodes s.children l (brings q)) (sym fc) (subst (λ (l : List Node). Kept s.nodes l s.children (s.children ++ length u.nodes ∷ []) (brings q)) (sym fn) r)
    where
      negated : (b : Bool) → not b ≡ true → b ≡ false
      negated true e = cc
      negated false e = refl
  closing false q s u o x m en ec fn fc w = record {
    grows = w.grows;
    paren = w.paren;
    all_of = w.all_of;
    opened_by = λ g f. w.opened_by (of_each rows q rows_open (sym (when_false (makes_node q) (not (nat_eq q 24)) (contains rows q) m) ∙ g)) f;
  }

  mutual
    walks_kept : (p at d : ℕ) (s : State) (r : Result State Fault) → Walks text tokens p at d s r → (t : State) → r ≡ Ok t → Kept s.nodes t.nodes s.children t.children (opens (drop at (row p)))
    walks_kept p at d s r (at_end h) t e = let f : s ≡ t = cc in subst (λ (x : State). Kept s.nodes x.nodes s.children x.children (opens (drop at (row p)))) f (kept_same s.nodes s.children (opens (drop at (row p))))
    walks_kept p at d s r (token {k = k} h g w) t e = leaf_kept p at s k t.nodes t.children h g (walks_kept p (at + 1) d (taken text tokens p s) r w t e)
    walks_kept p at d s r (no_token h k) t e = absurd (cc)
    walks_kept p at d s r (use_of {q = q} {t = u} h o w) t e =
        kept_then s.nodes u.nodes t.nodes s.children u.children t.children (brings q) (opens (drop (at + 1) (row p))) (opens (drop at (row p))) (λ g. here p at (item.Use q) h refl g) (λ g. next p at (item.Use q) h refl g) (opens_kept q d s (Ok u) o u refl)
        (walks_kept p (at + 1) d u r w t e)
    walks_kept p at d s r (no_use h o) t e = absurd (cc)
    walks_kept p at d s r (choice {a = a} {b = b} {q = q} {t = u} h c o w) t e =
        kept_then s.nodes u.nodes t.nodes s.children u.children t.children (brings q) (opens (drop (at + 1) (row p))) (opens (drop at (row p)))
        (λ g. chosen_brings a b q (one_chosen a b (first text tokens s) (second text tokens s) s.notes q c) (here p at (item.Choice a b) h refl g)) (λ g. next p at (item.Choice a b) h refl g) (opens_kept q d s (Ok u) o u refl)
        (walks_kept p (at + 1) d u r w t e)
    walks_kept p at d s r (no_choice h c o) t e = absurd (cc)
    walks_kept p at d s r (no_alternative h c) t e = absurd (cc)
    walks_kept p at d s r (again {q = q} {t = u} h k o w) t e =
        kept_then s.nodes u.nodes t.nodes s.children u.children t.children (brings q) (opens (drop at (row p))) (opens (drop at (row p))) (λ g. here p at (item.Repeat q) h refl g) (λ g. g) (opens_kept q d s (Ok u) o u refl) (walks_kept p at d u r w t e)
    walks_kept p at d s r (no_again h k o) t e = absurd (cc)
    walks_kept p at d s r (scope {n = n} h w) t e = kept_weaker s.nodes t.nodes s.children t.children (opens (drop (at + 1) (row p))) (opens (drop at (row p))) (λ g. next p at (item.Scope n) h refl g) (walks_kept p (at + 1) d (scoped text tokens p n s) r w t e)
    walks_kept p at d s r (enough {q = q} h k w) t e = kept_weaker s.nodes t.nodes s.children t.children (opens (drop (at + 1) (row p))) (opens (drop at (row p))) (λ g. next p at (item.Repeat q) h refl g) (walks_kept p (at + 1) d s r w t e)

    opens_kept : (q d : ℕ) (s : State) (r : Result State Fault) → Opens text tokens q d s r → (t : State) → r ≡ Ok t → Kept s.nodes t.nodes s.children t.children (brings q)
    opens_kept q d s r (deep h) t e = absurd (cc)
    opens_kept q d s r (refused h k) t e = absurd (cc)
    opens_kept q d s r (whole {t = u} h k w) t e =
        let f : closed q s u ≡ t = cc in
        subst (λ (x : State). Kept s.nodes x.nodes s.children x.children (brings q)) f (closing (makes_node q) q s u _ _ refl refl refl refl refl (walks_kept q 0 _ (opened q s) (Ok u) w u refl))
    opens_kept q d s r (broken h k w) t e = absurd (cc)

  pub all_opened : (q d : ℕ) (s t : State) → Opens text tokens q d s (Ok t) → AllOpened s.nodes → AllOpened t.nodes
  all_opened q d s t o h = (opens_kept q d s (Ok t) o t refl).all_of h
