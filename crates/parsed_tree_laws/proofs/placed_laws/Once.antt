-- In what is read each node is a part of one node at most.
use Rattle.std.proofs.Common.{◌≡◌, ℕ, zero, suc, ◌+◌, ◌<◌, ◌≤◌, ◌||◌, nat_eq, Bool, true, false, Result, Ok, List, [], ◌∷◌, ◌++◌, Option, Some, None, length, slice_get, cond, refl, sym, ap, ◌∙◌, subst, arith, append_assoc, append-nil, length-append, ◌⊎◌, inl, inr}
use Rattle.std.proofs.lemmas.Bool.{eqb-true}
use Rattle.c_lexer.specs.declared.Token.{Token}
use Rattle.c_grammar.specs.Tree.{makes_node}
use Rattle.c_grammar.specs.Terminals.{contains}
use Rattle.c_grammar.specs.Reads.{State, Fault, Node, leaf, scoped, opened, closed, Walks, Opens, at_end, token, no_token, use_of, no_use, choice, no_choice, no_alternative, again, no_again, scope, enough, deep, refused, whole, broken}

abbrev pub parts_of : Option Node → List ℕ
parts_of None = []
parts_of (Some n) = n.children

-- node c is a part of node i
abbrev pub Part : List Node → ℕ → ℕ → Type 0
Part nodes i c = contains (parts_of (slice_get nodes i)) c ≡ true

abbrev pub Extends : List Node → List Node → Type 0
Extends before nodes = (more : List Node) × (nodes ≡ before ++ more)

pub same : (nodes : List Node) → Extends nodes nodes
same nodes = ([], sym (append-nil nodes))

pub then : (a b c : List Node) → Extends a b → Extends b c → Extends a c
then a b c x y = (x.0 ++ y.0, y.1 ∙ (ap (λ (l : List Node). l ++ y.0) x.1 ∙ append_assoc a x.0 y.0))

pub shorter : (a b : List Node) → Extends a b → length a ≤ length b
shorter a b x = let e : length b ≡ length (a ++ x.0) = ap length x.1 in omega (arith, e, length-append a x.0)

pub longer : (nodes : List Node) (n : Node) → length (nodes ++ n ∷ []) ≡ length nodes + 1
longer nodes n = length-append nodes (n ∷ [])

-- a part of a node that stood before
part_before : (a more : List Node) (i c : ℕ) → i < length a → Part (a ++ more) i c → Part a i c
part_before [] more i c l h = absurd (omega (arith, l))
part_before (n ∷ a) more zero c l h = h
part_before (n ∷ a) more (suc i) c l h = part_before a more i c (omega (arith, l)) h

-- a part of one node more is a part of those before, or of that one
part_split : (nodes : List Node) (n : Node) (i c : ℕ) → Part (nodes ++ n ∷ []) i c → (Part nodes i c × (i < length nodes)) ⊎ ((i ≡ length nodes) × (contains n.children c ≡ true))
part_split [] n zero c h = inr (refl, h)
part_split [] n (suc i) c h = cc
part_split (m ∷ nodes) n zero c h = inl (h, omega arith)
part_split (m ∷ nodes) n (suc i) c h = by (part_split nodes n i c h)
  where
    by : (Part nodes i c × (i < length nodes)) ⊎ ((i ≡ length nodes) × (contains n.children c ≡ true)) → (Part nodes i c × (suc i < suc (length nodes))) ⊎ ((suc i ≡ suc (length nodes)) × (contains n.children c ≡ true))
    by (inl x) = inl (x.0, omega (arith, x.1))
    by (inr x) = inr (ap suc x.0, x.1)

one_of : (b r : Bool) → (b || r) ≡ true → (b ≡ true) ⊎ (r ≡ true)
one_of true r h = inl refl
one_of false r h = inr h

last_or : (ks : List ℕ) (k c : ℕ) → contains (ks ++ k ∷ []) c ≡ true → (contains ks c ≡ true) ⊎ (c ≡ k)
last_or [] k c h = by (nat_eq k c) refl h
  where
    by : (b : Bool) → nat_eq k c ≡ b → (b || false) ≡ true → (false ≡ true) ⊎ (c ≡ k)
    by true e h = inr (sym (eqb-true k c e))
    by false e h = cc
last_or (x ∷ ks) k c h = by (nat_eq x c) h (last_or ks k c)
  where
    by : (b : Bool) → (b || contains (ks ++ k ∷ []) c) ≡ true → (contains (ks ++ k ∷ []) c ≡ true → (contains ks c ≡ true) ⊎ (c ≡ k)) → ((b || contains ks c) ≡ true) ⊎ (c ≡ k)
    by true h f = inl refl
    by false h f = f h

-- each node is a part of one node at most, and the parts of the production that is being read are parts of none yet
pub record Sole (nodes : List Node) (children : List ℕ) : Type 0 where
  pub once : (i j c : ℕ) → Part nodes i c → Part nodes j c → i ≡ j
  pub free : (i c : ℕ) → Part nodes i c → contains children c ≡ true → ⊥
  pub below : (i c : ℕ) → Part nodes i c → c < length nodes
  pub own : (c : ℕ) → contains children c ≡ true → c < length nodes

-- what a reading leaves: nodes after those before, the parts of new nodes are new, and so are the children that were added
record Keeps (a b : List Node) (x y : List ℕ) : Type 0 where
  extends : Extends a b
  new : (i c : ℕ) → Part b i c → length a ≤ i → length a ≤ c
  added : (c : ℕ) → contains y c ≡ true → (contains x c ≡ true) ⊎ (length a ≤ c)
  sole : Sole a x → Sole b y

split_at : (i n : ℕ) → (i < n) ⊎ (n ≤ i)
split_at i zero = inr (omega arith)
split_at zero (suc n) = inl (omega arith)
split_at (suc i) (suc n) = by (split_at i n)
  where
    by : (i < n) ⊎ (n ≤ i) → (suc i < suc n) ⊎ (suc n ≤ suc i)
    by (inl l) = inl (omega (arith, l))
    by (inr l) = inr (omega (arith, l))

keeps_same : (a : List Node) (x : List ℕ) → Keeps a a x x
keeps_same a x = record { extends = same a; new = λ i c p l. absurd (none a i c p l); added = λ c h. inl h; sole = λ s. s }
  where
    none : (nodes : List Node) (i c : ℕ) → Part nodes i c → length nodes ≤ i → ⊥
    none [] i c p l = cc
    none (n ∷ nodes) zero c p l = omega (arith, l)
    none (n ∷ nodes) (suc i) c p l = none nodes i c p (omega (arith, l))

keeps_then : (a b d : List Node) (x y z : List ℕ) → Keeps a b x y → Keeps b d y z → Keeps a d x z
keeps_then a b d x y z k m =
    let ab : length a ≤ length b = shorter a b k.extends in
    record {
      extends = then a b d k.extends m.extends;
      new = λ i c p l. elim (split_at i (length b)) [
        | inl small ↦ k.new i c (part_before b m.extends.0 i c small (subst (λ (ns : List Node). Part ns i c) m.extends.1 p)) l
        | inr large ↦ let lt : length b ≤ c = m.new i c p large in omega (arith, ab, lt)
      ];
      added = λ c h. elim (m.added c h) [
        | inl here ↦ k.added c here
        | inr lt ↦ inr (omega (arith, ab, lt))
      ];
      sole = λ s. m.sole (k.sole s);
    }

-- a node more, whose parts were parts of none, and which is itself a part of none yet
sole_more : (a b : List Node) (x ys : List ℕ) (n : Node) → Extends a b → n.children ≡ ys → ((i c : ℕ) → Part b i c → length a ≤ i → length a ≤ c) → ((c : ℕ) → contains ys c ≡ true → length a ≤ c) → Sole a x → Sole b ys
    → Sole (b ++ n ∷ []) (x ++ length b ∷ [])
sole_more a b x ys n ext own new fresh s t =
    let ab : length a ≤ length b = shorter a b ext in
    let grown : length (b ++ n ∷ []) ≡ length b + 1 = longer b n in
    let in_own : (c : ℕ) → contains n.children c ≡ true → contains ys c ≡ true = λ c h. subst (λ (l : List ℕ). contains l c ≡ true) own h in
    let old : (i c : ℕ) → Part (b ++ n ∷ []) i c → contains x c ≡ true → ⊥ =
    λ i c p h.
    let c_small : c < length a = s.own c h in
    elim (part_split b n i c p) [
      | inl q ↦
          elim (split_at i (length a)) [
            | inl small ↦ s.free i c (part_before a ext.0 i c small (subst (λ (ns : List Node). Part ns i c) ext.1 q.0)) h
            | inr large ↦ let lt : length a ≤ c = new i c q.0 large in absurd (omega (arith, lt, c_small))
          ]
      | inr q ↦ let lt : length a ≤ c = fresh c (in_own c q.1) in absurd (omega (arith, lt, c_small))
    ] in
    let under : (i c : ℕ) → Part (b ++ n ∷ []) i c → c < length b =
    λ i c p. elim (part_split b n i c p) [ inl q ↦ t.below i c q.0 | inr q ↦ t.own c (in_own c q.1) ] in
    record {
      once = λ i j c p q. elim (part_split b n i c p) [
        | inl u ↦ elim (part_split b n j c q) [ inl v ↦ t.once i j c u.0 v.0 | inr v ↦ absurd (t.free i c u.0 (in_own c v.1)) ]
        | inr u ↦ elim (part_split b n j c q) [ inl v ↦ absurd (t.free j c v.0 (in_own c u.1)) | inr v ↦ u.0 ∙ sym v.0 ]
      ];
      free = λ i c p h. elim (last_or x (length b) c h) [
        | inl here ↦ old i c p here
        | inr last ↦ let lt : c < length b = under i c p in absurd (omega (arith, lt, last))
      ];
      below = λ i c p. let lt : c < length b = under i c p in omega (arith, lt, grown);
      own = λ c h. elim (last_or x (length b) c h) [
        | inl here ↦ let lt : c < length a = s.own c here in omega (arith, lt, ab, grown)
        | inr last ↦ omega (arith, last, grown)
      ];
    }

empty_sole : (a : List Node) (x : List ℕ) → Sole a x → Sole a []
empty_sole a x s = record { once = s.once; free = λ i c p h. cc; below = s.below; own = λ c h. cc }

-- one node more after a reading of its parts
keeps_node : (a b : List Node) (x ys : List ℕ) (n : Node) → n.children ≡ ys → Keeps a b [] ys → Keeps a (b ++ n ∷ []) x (x ++ length b ∷ [])
keeps_node a b x ys n own k =
    let ab : length a ≤ length b = shorter a b k.extends in
    let fresh : (c : ℕ) → contains ys c ≡ true → length a ≤ c = λ c h. elim (k.added c h) [ inl none ↦ cc | inr lt ↦ lt ] in
    record {
      extends = then a b (b ++ n ∷ []) k.extends (n ∷ [], refl);
      new = λ i c p l. elim (part_split b n i c p) [
        | inl q ↦ k.new i c q.0 l
        | inr q ↦ fresh c (subst (λ (list : List ℕ). contains list c ≡ true) own q.1)
      ];
      added = λ c h. elim (last_or x (length b) c h) [ inl here ↦ inl here | inr last ↦ inr (omega (arith, ab, last)) ];
      sole = λ s. sole_more a b x ys n k.extends own k.new fresh s (k.sole (empty_sole a x s));
    }

-- a production by whether it makes a node
closing : (b : Bool) (q : ℕ) (s u o x : State) → o.nodes ≡ s.nodes → o.children ≡ [] → (x.nodes ≡ u.nodes ++ (record { production = q; token = s.place; children = u.children }) ∷ []) → (x.children ≡ s.children ++ length u.nodes ∷ [])
    → Keeps (cond b o s).nodes u.nodes (cond b o s).children u.children → Keeps s.nodes (cond b x u).nodes s.children (cond b x u).children
closing true q s u o x en ec fn fc k =
    let k1 = subst (λ (l : List Node). Keeps l u.nodes o.children u.children) en k in
    let k2 = subst (λ (l : List ℕ). Keeps s.nodes u.nodes l u.children) ec k1 in
    let r = keeps_node s.nodes u.nodes s.children u.children (record { production = q; token = s.place; children = u.children }) refl k2 in
    let r1 = subst (λ (l : List Node). Keeps s.nodes l s.children (s.children ++ length u.nodes ∷ [])) (sym fn) r in
    subst (λ (l : List ℕ). Keeps s.nodes x.nodes s.children l) (sym fc) r1
closing false q s u o x en ec fn fc k = k

module _ (text : List ℕ) (tokens : List Token) where
  mutual
    walks_keep : (p at d : ℕ) (s : State) (r : Result State Fault) → Walks text tokens p at d s r → (t : State) → r ≡ Ok t → Keeps s.nodes t.nodes s.children t.children
    walks_keep p at d s r (at_end h) t e = let f : s ≡ t = cc in subst (λ (x : State). Keeps s.nodes x.nodes s.children x.children) f (keeps_same s.nodes s.children)
    walks_keep p at d s r (token h k w) t e =
        let n : Node = record { production = leaf; token = s.place; children = [] } in
        keeps_then s.nodes (s.nodes ++ n ∷ []) t.nodes s.children (s.children ++ length s.nodes ∷ []) t.children (keeps_node s.nodes s.nodes s.children [] n refl (keeps_same s.nodes [])) (walks_keep p (at + 1) d _ r w t e)
    walks_keep p at d s r (no_token h k) t e = absurd (cc)
    walks_keep p at d s r (use_of {q = q} {t = u} h o w) t e = keeps_then s.nodes u.nodes t.nodes s.children u.children t.children (opens_keep q d s (Ok u) o u refl) (walks_keep p (at + 1) d u r w t e)
    walks_keep p at d s r (no_use h o) t e = absurd (cc)
    walks_keep p at d s r (choice {t = u} h c o w) t e = keeps_then s.nodes u.nodes t.nodes s.children u.children t.children (opens_keep _ d s (Ok u) o u refl) (walks_keep p (at + 1) d u r w t e)
    walks_keep p at d s r (no_choice h c o) t e = absurd (cc)
    walks_keep p at d s r (no_alternative h c) t e = absurd (cc)
    walks_keep p at d s r (again {q = q} {t = u} h k o w) t e = keeps_then s.nodes u.nodes t.nodes s.children u.children t.children (opens_keep q d s (Ok u) o u refl) (walks_keep p at d u r w t e)
    walks_keep p at d s r (no_again h k o) t e = absurd (cc)
    walks_keep p at d s r (scope {n = n} h w) t e = walks_keep p (at + 1) d (scoped text tokens p n s) r w t e
    walks_keep p at d s r (enough h k w) t e = walks_keep p (at + 1) d s r w t e

    opens_keep : (q d : ℕ) (s : State) (r : Result State Fault) → Opens text tokens q d s r → (t : State) → r ≡ Ok t → Keeps s.nodes t.nodes s.children t.children
    opens_keep q d s r (deep h) t e = absurd (cc)
    opens_keep q d s r (refused h k) t e = absurd (cc)
    opens_keep q d s r (whole {t = u} h k w) t e =
        let f : closed q s u ≡ t = cc in
        subst (λ (x : State). Keeps s.nodes x.nodes s.children x.children) f (closing (makes_node q) q s u _ _ refl refl refl refl (walks_keep q 0 _ (opened q s) (Ok u) w u refl))
    opens_keep q d s r (broken h k w) t e = absurd (cc)

  pub walks_extend : (p at d : ℕ) (s t : State) → Walks text tokens p at d s (Ok t) → Extends s.nodes t.nodes
  walks_extend p at d s t w = (walks_keep p at d s (Ok t) w t refl).extends

  pub opens_extend : (q d : ℕ) (s t : State) → Opens text tokens q d s (Ok t) → Extends s.nodes t.nodes
  opens_extend q d s t o = (opens_keep q d s (Ok t) o t refl).extends

  pub opens_sole : (q d : ℕ) (s t : State) → Opens text tokens q d s (Ok t) → Sole s.nodes s.children → Sole t.nodes t.children
  opens_sole q d s t o sole = (opens_keep q d s (Ok t) o t refl).sole sole
