-- Where blocks, statements and declarations within blocks stand in a tree that is read.
use Rattle.std.proofs.Common.{arith, ◌≡◌, ◌≤◌, ℕ, zero, suc, ◌+◌, Bool, true, false, ◌||◌, cond, Result, Ok, List, [], ◌∷◌, ◌++◌, map, Some, length, slice_get, refl, sym, ap, ◌∙◌, subst, append_assoc, append-nil, ◌⊎◌, inl, inr}
use Rattle.std.specs.Prelude.{nat_eq}
use Rattle.std.proofs.lemmas.Option.{slice_get_within}
use Rattle.c_lexer.specs.declared.Token.{Token}
use Rattle.c_lexer.specs.declared.Tokens.{Tokens}
use Rattle.c_grammar.specs.declared.rows.Item.TheVariants as item
use Rattle.c_grammar.specs.declared.trees.Tree.{Tree}
use Rattle.c_grammar.specs.Names.{no_names}
use Rattle.c_grammar.specs.Productions.{p_unit}
use Rattle.c_grammar.specs.Terminals.{contains}
use Rattle.c_grammar.specs.Tree.{makes_node}
use Rattle.c_grammar.specs.Reads.{State, Fault, Node, leaf, node_of, first, second, taken, scoped, opened, closed, Walks, Opens, at_end, token, no_token, use_of, no_use, choice, no_choice, no_alternative, again, no_again, scope, enough, deep, refused, whole, broken}
use Rattle.c_parser.specs.Parse.{begin}
use Rattle.c_parser.specs.c_units.Units.{IsUnit}
use Rattle.declaration_laws.proofs.definition_laws.Rows.{Mode, Calm, Head, Free, free_rows, mode_of, may_use, item_fit, Made, free, external, calm, made_by, Passes, same, quiet, looser, passed_by, one_of, either_used}

abbrev pub Extends : List Node → List Node → Type 0
Extends before nodes = (more : List Node) × (nodes ≡ before ++ more)

abbrev pub IsIn : List ℕ → ℕ → Type 0
IsIn ks k = (r : ℕ) × (slice_get ks r ≡ Some k)

extends_same : (nodes : List Node) → Extends nodes nodes
extends_same nodes = ([], sym (append-nil nodes))

extends_then : (a b c : List Node) → Extends a b → Extends b c → Extends a c
extends_then a b c x y = (x.0 ++ y.0, y.1 ∙ (ap (λ (l : List Node). l ++ y.0) x.1 ∙ append_assoc a x.0 y.0))

get_more : (nodes more : List Node) (k : ℕ) (n : Node) → slice_get nodes k ≡ Some n → slice_get (nodes ++ more) k ≡ Some n
get_more [] more k n e = cc
get_more (m ∷ nodes) more zero n e = e
get_more (m ∷ nodes) more (suc k) n e = get_more nodes more k n e

get_on : (a b : List Node) (k : ℕ) (n : Node) → Extends a b → slice_get a k ≡ Some n → slice_get b k ≡ Some n
get_on a b k n x e = subst (λ (l : List Node). slice_get l k ≡ Some n) (sym x.1) (get_more a x.0 k n e)

at_last : (nodes : List Node) (n : Node) → slice_get (nodes ++ n ∷ []) (length nodes) ≡ Some n
at_last [] n = refl
at_last (m ∷ nodes) n = at_last nodes n

either_side : (nodes more : List Node) (i : ℕ) (n : Node) → slice_get (nodes ++ more) i ≡ Some n → (slice_get nodes i ≡ Some n) ⊎ (length nodes ≤ i)
either_side [] more i n e = inr (omega arith)
either_side (m ∷ nodes) more zero n e = inl e
either_side (m ∷ nodes) more (suc i) n e = by (either_side nodes more i n e)
  where
    by : (slice_get nodes i ≡ Some n) ⊎ (length nodes ≤ i) → (slice_get nodes i ≡ Some n) ⊎ (suc (length nodes) ≤ suc i)
    by (inl h) = inl h
    by (inr h) = inr (omega (arith, h))

side_of : (a b : List Node) (i : ℕ) (n : Node) → Extends a b → slice_get b i ≡ Some n → (slice_get a i ≡ Some n) ⊎ (length a ≤ i)
side_of a b i n x e = either_side a x.0 i n (subst (λ (l : List Node). slice_get l i ≡ Some n) x.1 e)

or_last : (nodes : List Node) (n m : Node) (i : ℕ) → slice_get (nodes ++ n ∷ []) i ≡ Some m → (slice_get nodes i ≡ Some m) ⊎ ((i ≡ length nodes) × (n ≡ m))
or_last [] n m zero e = inr (refl, cc)
or_last [] n m (suc i) e = cc
or_last (x ∷ nodes) n m zero e = inl e
or_last (x ∷ nodes) n m (suc i) e = by (or_last nodes n m i e)
  where
    by : (slice_get nodes i ≡ Some m) ⊎ ((i ≡ length nodes) × (n ≡ m)) → (slice_get nodes i ≡ Some m) ⊎ ((suc i ≡ suc (length nodes)) × (n ≡ m))
    by (inl h) = inl h
    by (inr h) = inr (ap suc h.0, h.1)

in_first : (xs ys : List ℕ) (k : ℕ) → IsIn xs k → IsIn (xs ++ ys) k
in_first [] ys k h = cc
in_first (x ∷ xs) ys k (zero, e) = (0, e)
in_first (x ∷ xs) ys k (suc r, e) = let more = in_first xs ys k (r, e) in (suc more.0, more.1)

in_then : (xs ys : List ℕ) (k : ℕ) → IsIn ys k → IsIn (xs ++ ys) k
in_then [] ys k h = h
in_then (x ∷ xs) ys k h = let more = in_then xs ys k h in (suc more.0, more.1)

-- ---- nodes above nodes

abbrev pub HasBlock : List Node → List ℕ → Type 0
HasBlock nodes ks = (k : ℕ) × IsIn ks k × ((m : Node) × (slice_get nodes k ≡ Some m) × (m.production ≡ 29))

pub data Beneath (nodes : List Node) : ℕ → Type 0 where
  top : {q : ℕ} {n : Node} → slice_get nodes q ≡ Some n → n.production ≡ 1 → HasBlock nodes n.children → Beneath nodes q
  under : {i c : ℕ} {n : Node} → slice_get nodes i ≡ Some n → IsIn n.children c → Beneath nodes i → Beneath nodes c

data Reaches (nodes : List Node) : ℕ → ℕ → Type 0 where
  here : {k : ℕ} → Reaches nodes k k
  down : {i c d : ℕ} {n : Node} → slice_get nodes i ≡ Some n → IsIn n.children c → Reaches nodes c d → Reaches nodes i d

abbrev UnderSome : List Node → List ℕ → ℕ → Type 0
UnderSome nodes ks d = (k : ℕ) × IsIn ks k × Reaches nodes k d

block_on : (a b : List Node) (ks : List ℕ) → Extends a b → HasBlock a ks → HasBlock b ks
block_on a b ks x h = (h.0, h.1, (h.2.0, get_on a b h.0 h.2.0 x h.2.1, h.2.2))

beneath_on : (a b : List Node) (d : ℕ) → Extends a b → Beneath a d → Beneath b d
beneath_on a b d x (top {n = n} e is block) = top (get_on a b d n x e) is (block_on a b n.children x block)
beneath_on a b d x (under {i = i} {n = n} e h above) = under (get_on a b i n x e) h (beneath_on a b i x above)

reaches_on : (a b : List Node) (k d : ℕ) → Extends a b → Reaches a k d → Reaches b k d
reaches_on a b k d x here = here
reaches_on a b k d x (down {c = c} {n = n} e h more) = down (get_on a b k n x e) h (reaches_on a b c d x more)

reaches_beneath : (nodes : List Node) (k d : ℕ) → Beneath nodes k → Reaches nodes k d → Beneath nodes d
reaches_beneath nodes k d above here = above
reaches_beneath nodes k d above (down {c = c} e h more) = reaches_beneath nodes c d (under e h above) more

some_on : (a b : List Node) (ks : List ℕ) (d : ℕ) → Extends a b → UnderSome a ks d → UnderSome b ks d
some_on a b ks d x h = (h.0, h.1, reaches_on a b h.0 d x h.2)

-- what stands in no definition yet
pub Loose : Mode → List Node → List ℕ → ℕ → Type 0
Loose Calm nodes ks d = Beneath nodes d
Loose Head nodes ks d = Beneath nodes d ⊎ (UnderSome nodes ks d × HasBlock nodes ks)
Loose Free nodes ks d = Beneath nodes d ⊎ UnderSome nodes ks d

beneath_any : (m : Mode) (nodes : List Node) (ks : List ℕ) (d : ℕ) → Beneath nodes d → Loose m nodes ks d
unfolding Loose
beneath_any Calm nodes ks d h = h
beneath_any Head nodes ks d h = inl h
beneath_any Free nodes ks d h = inl h

loose_on : (m : Mode) (a b : List Node) (ks more : List ℕ) (d : ℕ) → Extends a b → Loose m a ks d → Loose m b (ks ++ more) d
unfolding Loose
loose_on Calm a b ks more d x h = beneath_on a b d x h
loose_on Head a b ks more d x (inl h) = inl (beneath_on a b d x h)
loose_on Head a b ks more d x (inr h) = let s = some_on a b ks d x h.0 in let k = block_on a b ks x h.1 in inr ((s.0, in_first ks more s.0 s.1, s.2), (k.0, in_first ks more k.0 k.1, k.2))
loose_on Free a b ks more d x (inl h) = inl (beneath_on a b d x h)
loose_on Free a b ks more d x (inr h) = let s = some_on a b ks d x h in inr (s.0, in_first ks more s.0 s.1, s.2)

loose_then : (m : Mode) (b : List Node) (ks more : List ℕ) (d : ℕ) → Loose m b more d → Loose m b (ks ++ more) d
unfolding Loose
loose_then Calm b ks more d h = h
loose_then Head b ks more d (inl h) = inl h
loose_then Head b ks more d (inr h) = inr ((h.0.0, in_then ks more h.0.0 h.0.1, h.0.2), (h.1.0, in_then ks more h.1.0 h.1.1, h.1.2))
loose_then Free b ks more d (inl h) = inl h
loose_then Free b ks more d (inr h) = inr (h.0, in_then ks more h.0 h.1, h.2)

loose_passes : (m p : Mode) (b : List Node) (ks : List ℕ) (d : ℕ) → Passes m p → Loose m b ks d → Loose p b ks d
unfolding Loose
loose_passes m p b ks d same h = h
loose_passes m p b ks d quiet h = beneath_any p b ks d h
loose_passes m p b ks d looser (inl h) = inl h
loose_passes m p b ks d looser (inr h) = inr h.0

-- blocks, statements and declarations within blocks
abbrev pub parts : List ℕ
parts = 3 ∷ 29 ∷ 30 ∷ []

-- nodes are added, and these of them are the next children
record Grown (m : Mode) (a b : List Node) (more : List ℕ) : Type 0 where
  extends : Extends a b
  loose : (d : ℕ) (n : Node) → length a ≤ d → slice_get b d ≡ Some n → contains parts n.production ≡ true → Loose m b more d

grown_same : (m : Mode) (a : List Node) → Grown m a a []
grown_same m a = record { extends = extends_same a; loose = λ d n le e is. let inside = slice_get_within a d n e in absurd (omega (arith, le, inside)) }

grown_then : (m : Mode) (a b c : List Node) (xs ys : List ℕ) → Grown m a b xs → Grown m b c ys → Grown m a c (xs ++ ys)
grown_then m a b c xs ys s t = record {
  extends = extends_then a b c s.extends t.extends;
  loose = λ d n le e is. elim (side_of b c d n t.extends e) [ inl old ↦ loose_on m b c xs ys d t.extends (s.loose d n le old is) | inr new ↦ loose_then m c xs ys d (t.loose d n new e is) ];
}

grown_passes : (m p : Mode) (a b : List Node) (more : List ℕ) → Passes m p → Grown m a b more → Grown p a b more
grown_passes m p a b more h g = record { extends = g.extends; loose = λ d n le e is. loose_passes m p b more d h (g.loose d n le e is) }

grown_leaf : (m : Mode) (a : List Node) (place : ℕ) → Grown m a (a ++ (record { production = leaf; token = place; children = [] }) ∷ []) (length a ∷ [])
grown_leaf m a place = record {
  extends = ((record { production = leaf; token = place; children = [] }) ∷ [], refl);
  loose = λ d n le e is. by d n le (or_last a (record { production = leaf; token = place; children = [] }) n d e) is;
}
  where
    by : (d : ℕ) (n : Node) → length a ≤ d → (slice_get a d ≡ Some n) ⊎ ((d ≡ length a) × ((record { production = leaf; token = place; children = [] }) ≡ n)) → contains parts n.production ≡ true → Loose m (a ++ (record { production = leaf; token = place; children = [] }) ∷ []) (length a ∷ []) d
    by d n le (inl old) is = let inside = slice_get_within a d n old in absurd (omega (arith, le, inside))
    by d n le (inr new) is = absurd (let never : contains parts leaf ≡ true = subst (λ (x : Node). contains parts x.production ≡ true) (sym new.1) is in cc)

-- a node over what it has read
module _ (q place : ℕ) (a b : List Node) (ks : List ℕ) where
  abbrev made : Node
  made = record { production = q; token = place; children = ks }

  abbrev after : List Node
  after = b ++ made ∷ []

  on : Extends b after
  on = (made ∷ [], refl)

  within : (d : ℕ) → UnderSome b ks d → UnderSome after (length b ∷ []) d
  within d h = (length b, (0, refl), down (at_last b made) h.1 (reaches_on b after h.0 d on h.2))

  own : UnderSome after (length b ∷ []) (length b)
  own = (length b, (0, refl), here)

  free_node : (d : ℕ) (n : Node) → Loose Free b ks d ⊎ (d ≡ length b) → Beneath after d ⊎ UnderSome after (length b ∷ []) d
  unfolding Loose
  free_node d n (inl (inl h)) = inl (beneath_on b after d on h)
  free_node d n (inl (inr h)) = inr (within d h)
  free_node d n (inr e) = inr (subst (λ (x : ℕ). UnderSome after (length b ∷ []) x) (sym e) own)

  head_node : (d : ℕ) → q ≡ 1 → Loose Head b ks d → Beneath after d
  unfolding Loose
  head_node d is (inl h) = beneath_on b after d on h
  head_node d is (inr h) =
      let whole : Beneath after (length b) = top (at_last b made) is (block_on b after ks on h.1) in
      reaches_beneath after (length b) d whole (down (at_last b made) h.0.1 (reaches_on b after h.0.0 d on h.0.2))

  freed : (m : Mode) (d : ℕ) → (m ≡ Free) ⊎ ((m ≡ Head) × (q ≡ 29)) → Beneath after d ⊎ UnderSome after (length b ∷ []) d → Loose m after (length b ∷ []) d
  unfolding Loose
  freed m d (inl e) h = subst (λ (x : Mode). Loose x after (length b ∷ []) d) (sym e) h
  freed m d (inr e) (inl h) = subst (λ (x : Mode). Loose x after (length b ∷ []) d) (sym e.0) (inl h)
  freed m d (inr e) (inr h) = subst (λ (x : Mode). Loose x after (length b ∷ []) d) (sym e.0) (inr (h, (length b, (0, refl), (made, at_last b made, e.1))))

  parts_free : (n : Node) → made ≡ n → contains parts n.production ≡ true → contains parts q ≡ true
  parts_free n e is = subst (λ (x : Node). contains parts x.production ≡ true) (sym e) is

  quiet_is : (d : ℕ) → Loose Calm b ks d → Beneath b d
  unfolding Loose
  quiet_is d h = h

  no_external : q ≡ 1 → contains parts q ≡ true → ⊥
  no_external e is = let never : contains parts 1 ≡ true = subst (λ (x : ℕ). contains parts x ≡ true) e is in cc

  no_calm : contains free_rows q ≡ false → contains parts q ≡ true → ⊥
  no_calm e is = by (nat_eq 3 q) (nat_eq 29 q) (nat_eq 30 q) e is
    where
      by : (x y z : Bool) → (x || (y || (z || contains (136 ∷ 137 ∷ 138 ∷ 139 ∷ 141 ∷ 142 ∷ 143 ∷ 144 ∷ 145 ∷ 146 ∷ 147 ∷ 148 ∷ 158 ∷ 159 ∷ 160 ∷ 161 ∷ 162 ∷ 163 ∷ 164 ∷ 165 ∷ []) q))) ≡ false → (x || (y || (z || false))) ≡ true → ⊥
      by true y z e is = cc
      by false true z e is = cc
      by false false true e is = cc
      by false false false e is = cc

  grown_node : (m : Mode) → Made q m → Grown (mode_of q) a b ks → Grown m a after (length b ∷ [])
  grown_node m h g = record { extends = extends_then a b after g.extends on; loose = λ d n le e is. by d n le h (or_last b made n d e) is }
    where
      inner : (p : Mode) → mode_of q ≡ p → (d : ℕ) (n : Node) → length a ≤ d → slice_get b d ≡ Some n → contains parts n.production ≡ true → Loose p b ks d
      inner p e d n le old is = subst (λ (x : Mode). Loose x b ks d) e (g.loose d n le old is)

      by : (d : ℕ) (n : Node) → length a ≤ d → Made q m → (slice_get b d ≡ Some n) ⊎ ((d ≡ length b) × (made ≡ n)) → contains parts n.production ≡ true → Loose m after (length b ∷ []) d
      by d n le (free e f) (inl old) is = freed m d f (free_node d n (inl (inner Free e d n le old is)))
      by d n le (free e f) (inr new) is = freed m d f (free_node d n (inr new.0))
      by d n le (external e f) (inl old) is = beneath_any m after (length b ∷ []) d (head_node d f (inner Head e d n le old is))
      by d n le (external e f) (inr new) is = absurd (no_external f (parts_free n new.1 is))
      by d n le (calm e f) (inl old) is = beneath_any m after (length b ∷ []) d (beneath_on b after d on (quiet_is d (inner Calm e d n le old is)))
      by d n le (calm e f) (inr new) is = absurd (no_calm f (parts_free n new.1 is))

-- ---- what reading leaves

record Keeps (m : Mode) (a b : List Node) (x y : List ℕ) : Type 0 where
  more : List ℕ
  appends : y ≡ x ++ more
  grown : Grown m a b more

keeps_same : (m : Mode) (a : List Node) (x : List ℕ) → Keeps m a a x x
keeps_same m a x = record { more = []; appends = sym (append-nil x); grown = grown_same m a }

keeps_then : (m : Mode) (a b c : List Node) (x y z : List ℕ) → Keeps m a b x y → Keeps m b c y z → Keeps m a c x z
keeps_then m a b c x y z k l = record {
  more = k.more ++ l.more;
  appends = l.appends ∙ (ap (λ (w : List ℕ). w ++ l.more) k.appends ∙ append_assoc x k.more l.more);
  grown = grown_then m a b c k.more l.more k.grown l.grown;
}

keeps_leaf : (m : Mode) (a : List Node) (x : List ℕ) (place : ℕ) → Keeps m a (a ++ (record { production = leaf; token = place; children = [] }) ∷ []) x (x ++ length a ∷ [])
keeps_leaf m a x place = record { more = length a ∷ []; appends = refl; grown = grown_leaf m a place }

keeps_node : (m : Mode) (q place : ℕ) (a b : List Node) (x y : List ℕ) → Made q m → Keeps (mode_of q) a b [] y → Keeps m a (b ++ (record { production = q; token = place; children = y }) ∷ []) x (x ++ length b ∷ [])
keeps_node m q place a b x y h k = record { more = length b ∷ []; appends = refl; grown = grown_node q place a b y m h (subst (λ (l : List ℕ). Grown (mode_of q) a b l) (sym k.appends) k.grown) }

closing : (b : Bool) (m : Mode) (q : ℕ) (s u o x : State) → makes_node q ≡ b → may_use m q ≡ true → o.nodes ≡ s.nodes → o.children ≡ [] → (x.nodes ≡ u.nodes ++ (record { production = q; token = s.place; children = u.children }) ∷ [])
    → (x.children ≡ s.children ++ length u.nodes ∷ []) → Keeps (mode_of q) (cond b o s).nodes u.nodes (cond b o s).children u.children → Keeps m s.nodes (cond b x u).nodes s.children (cond b x u).children
closing true m q s u o x makes use_is en ec fn fc w =
    let w1 = subst (λ (l : List Node). Keeps (mode_of q) l u.nodes o.children u.children) en w in
    let w2 = subst (λ (l : List ℕ). Keeps (mode_of q) s.nodes u.nodes l u.children) ec w1 in
    let r = keeps_node m q s.place s.nodes u.nodes s.children u.children (made_by m q use_is makes) w2 in
    let r1 = subst (λ (l : List Node). Keeps m s.nodes l s.children (s.children ++ length u.nodes ∷ [])) (sym fn) r in
    subst (λ (l : List ℕ). Keeps m s.nodes x.nodes s.children l) (sym fc) r1
closing false m q s u o x makes use_is en ec fn fc w = record { more = w.more; appends = w.appends; grown = grown_passes (mode_of q) m s.nodes u.nodes w.more (passed_by m q use_is makes) w.grown }

module _ (text : List ℕ) (tokens : List Token) where
  mutual
    walks_keep : (p at d : ℕ) (s : State) (r : Result State Fault) → Walks text tokens p at d s r → (t : State) → r ≡ Ok t → Keeps (mode_of p) s.nodes t.nodes s.children t.children
    walks_keep p at d s r (at_end h) t e = let f : s ≡ t = cc in subst (λ (x : State). Keeps (mode_of p) s.nodes x.nodes s.children x.children) f (keeps_same (mode_of p) s.nodes s.children)
    walks_keep p at d s r (token h k w) t e = keeps_then (mode_of p) s.nodes _ t.nodes s.children _ t.children (keeps_leaf (mode_of p) s.nodes s.children s.place) (walks_keep p (at + 1) d (taken text tokens p s) r w t e)
    walks_keep p at d s r (no_token h k) t e = absurd (cc)
    walks_keep p at d s r (use_of {q = q} {t = u} h o w) t e =
        keeps_then (mode_of p) s.nodes u.nodes t.nodes s.children u.children t.children (opens_keep q d s (Ok u) o u refl (mode_of p) (item_fit p at (item.Use q) h)) (walks_keep p (at + 1) d u r w t e)
    walks_keep p at d s r (no_use h o) t e = absurd (cc)
    walks_keep p at d s r (choice {a = a} {b = b} {q = q} {t = u} h c o w) t e =
        keeps_then (mode_of p) s.nodes u.nodes t.nodes s.children u.children t.children
        (opens_keep q d s (Ok u) o u refl (mode_of p) (either_used (mode_of p) a b q (one_of a b (first text tokens s) (second text tokens s) s.notes q c) (item_fit p at (item.Choice a b) h))) (walks_keep p (at + 1) d u r w t e)
    walks_keep p at d s r (no_choice h c o) t e = absurd (cc)
    walks_keep p at d s r (no_alternative h c) t e = absurd (cc)
    walks_keep p at d s r (again {q = q} {t = u} h k o w) t e =
        keeps_then (mode_of p) s.nodes u.nodes t.nodes s.children u.children t.children (opens_keep q d s (Ok u) o u refl (mode_of p) (item_fit p at (item.Repeat q) h)) (walks_keep p at d u r w t e)
    walks_keep p at d s r (no_again h k o) t e = absurd (cc)
    walks_keep p at d s r (scope {n = n} h w) t e = walks_keep p (at + 1) d (scoped text tokens p n s) r w t e
    walks_keep p at d s r (enough h k w) t e = walks_keep p (at + 1) d s r w t e

    opens_keep : (q d : ℕ) (s : State) (r : Result State Fault) → Opens text tokens q d s r → (t : State) → r ≡ Ok t → (m : Mode) → may_use m q ≡ true → Keeps m s.nodes t.nodes s.children t.children
    opens_keep q d s r (deep h) t e m use_is = absurd (cc)
    opens_keep q d s r (refused h k) t e m use_is = absurd (cc)
    opens_keep q d s r (whole {t = u} h k w) t e m use_is =
        let f : closed q s u ≡ t = cc in
        subst (λ (x : State). Keeps m s.nodes x.nodes s.children x.children) f (closing (makes_node q) m q s u _ _ refl use_is refl refl refl refl (walks_keep q 0 _ (opened q s) (Ok u) w u refl))
    opens_keep q d s r (broken h k w) t e m use_is = absurd (cc)

-- each part of a block
pub all_beneath : (tokens : Tokens) (unit : ℕ) (tree : Tree) → IsUnit tokens unit tree → (d : ℕ) (n : Node) → slice_get (map node_of tree.nodes.items) d ≡ Some n → contains parts n.production ≡ true → Beneath (map node_of tree.nodes.items) d
unfolding Loose
all_beneath tokens unit tree is =
    let (st, reads, nodes) = is.0 in
    let kept = opens_keep tokens.text.now tokens.list.items p_unit 0 (begin 0 no_names []) (Ok st) reads st refl Calm refl in
    subst (λ (l : List Node). (d : ℕ) (n : Node) → slice_get l d ≡ Some n → contains parts n.production ≡ true → Beneath l d) nodes (λ d n e p. kept.grown.loose d n (omega arith) e p)
