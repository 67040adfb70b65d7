-- Between two parts of a node there is a number from which on all stands that is under the second.
use Rattle.std.proofs.Common.{arith, ◌≡◌, ◌<◌, ◌≤◌, ◌+◌, ℕ, zero, suc, Bool, true, false, cond, Result, Ok, List, [], ◌∷◌, ◌++◌, Option, Some, None, length, slice_get, refl, sym, ap, ◌∙◌, subst, append_assoc, append-nil, length-append, ◌⊎◌, inl, inr}
use Rattle.c_lexer.specs.declared.Token.{Token}
use Rattle.c_grammar.specs.Tree.{makes_node}
use Rattle.c_grammar.specs.Reads.{State, Fault, Node, leaf, scoped, opened, closed, Walks, Opens, at_end, token, no_token, use_of, no_use, choice, no_choice, no_alternative, again, no_again, scope, enough, deep, refused, whole, broken}

abbrev pub IsIn : List ℕ → ℕ → Type 0
IsIn ks k = (r : ℕ) × (slice_get ks r ≡ Some k)

abbrev pub parts_of : Option Node → List ℕ
parts_of None = []
parts_of (Some n) = n.children

abbrev pub Part : List Node → ℕ → ℕ → Type 0
Part nodes i c = IsIn (parts_of (slice_get nodes i)) c

abbrev Extends : List Node → List Node → Type 0
Extends before nodes = (more : List Node) × (nodes ≡ before ++ more)

same : (nodes : List Node) → Extends nodes nodes
same nodes = ([], sym (append-nil nodes))

then : (a b c : List Node) → Extends a b → Extends b c → Extends a c
then a b c x y = (x.0 ++ y.0, y.1 ∙ (ap (λ (l : List Node). l ++ y.0) x.1 ∙ append_assoc a x.0 y.0))

longer : (a b : List Node) → Extends a b → length a ≤ length b
longer a b x = let e : length b ≡ length (a ++ x.0) = ap length x.1 in omega (arith, e, length-append a x.0)

one_more : (nodes : List Node) (n : Node) → length (nodes ++ n ∷ []) ≡ length nodes + 1
one_more nodes n = length-append nodes (n ∷ [])

part_before : (a more : List Node) (i c : ℕ) → i < length a → Part (a ++ more) i c → Part a i c
part_before [] more i c l h = absurd (omega (arith, l))
part_before (n ∷ a) more zero c l h = h
part_before (n ∷ a) more (suc i) c l h = part_before a more i c (omega (arith, l)) h

part_split : (nodes : List Node) (n : Node) (i c : ℕ) → Part (nodes ++ n ∷ []) i c → (Part nodes i c × (i < length nodes)) ⊎ ((i ≡ length nodes) × IsIn n.children c)
part_split [] n zero c h = inr (refl, h)
part_split [] n (suc i) c h = cc
part_split (m ∷ nodes) n zero c h = inl (h, omega arith)
part_split (m ∷ nodes) n (suc i) c h = by (part_split nodes n i c h)
  where
    by : (Part nodes i c × (i < length nodes)) ⊎ ((i ≡ length nodes) × IsIn n.children c) → (Part nodes i c × (suc i < suc (length nodes))) ⊎ ((suc i ≡ suc (length nodes)) × IsIn n.children c)
    by (inl x) = inl (x.0, omega (arith, x.1))
    by (inr x) = inr (ap suc x.0, x.1)

part_there : (nodes : List Node) (i c : ℕ) → Part nodes i c → i < length nodes
part_there [] i c h = cc
part_there (n ∷ nodes) zero c h = omega arith
part_there (n ∷ nodes) (suc i) c h = let lt = part_there nodes i c h in omega (arith, lt)

last_or : (ks : List ℕ) (k c : ℕ) → IsIn (ks ++ k ∷ []) c → IsIn ks c ⊎ (c ≡ k)
last_or [] k c (zero, e) = inr (let f : k ≡ c = cc in sym f)
last_or [] k c (suc r, e) = cc
last_or (x ∷ ks) k c (zero, e) = inl (0, e)
last_or (x ∷ ks) k c (suc r, e) = by (last_or ks k c (r, e))
  where
    by : IsIn ks c ⊎ (c ≡ k) → IsIn (x ∷ ks) c ⊎ (c ≡ k)
    by (inl h) = inl (suc h.0, h.1)
    by (inr h) = inr h

-- a number between two, from which on all stands that is under the second
pub record Cut (nodes : List Node) (x y : ℕ) : Type 0 where
  pub at : ℕ
  pub above : x < at
  pub below : at ≤ y
  pub closed_in : (i c : ℕ) → Part nodes i c → at ≤ i → i ≤ y → at ≤ c

cut_on : (a b : List Node) (x y : ℕ) → Extends a b → y < length a → Cut a x y → Cut b x y
cut_on a b x y ext lt k = record {
  at = k.at;
  above = k.above;
  below = k.below;
  closed_in = λ i c part low high. k.closed_in i c (part_before a ext.0 i c (omega (arith, lt, high)) (subst (λ (l : List Node). Part l i c) ext.1 part)) low high;
}

abbrev AllCut : List Node → List ℕ → Type 0
AllCut nodes ks = (x y : ℕ) → IsIn ks x → IsIn ks y → x < y → Cut nodes x y

abbrev Within : List Node → List ℕ → Type 0
Within nodes ks = (c : ℕ) → IsIn ks c → c < length nodes

-- the parts of each node
pub record AllGood (nodes : List Node) : Type 0 where
  pub within : (i c : ℕ) → Part nodes i c → c < length nodes
  pub cuts : (i x y : ℕ) → Part nodes i x → Part nodes i y → x < y → Cut nodes x y

-- what a reading leaves
record Keeps (a b : List Node) (x y : List ℕ) : Type 0 where
  extends : Extends a b
  new : (i c : ℕ) → Part b i c → length a ≤ i → length a ≤ c
  added : (c : ℕ) → IsIn y c → IsIn x c ⊎ (length a ≤ c)
  cuts : AllCut a x → Within a x → AllCut b y × Within b y
  good : AllGood a → AllGood b

keeps_same : (a : List Node) (x : List ℕ) → Keeps a a x x
keeps_same a x = record {
  extends = same a;
  new = λ i c part l. let lt = part_there a i c part in absurd (omega (arith, lt, l));
  added = λ c h. inl h;
  cuts = λ k w. (k, w);
  good = λ g. g;
}

side : (i n : ℕ) → (i < n) ⊎ (n ≤ i)
side i zero = inr (omega arith)
side zero (suc n) = inl (omega arith)
side (suc i) (suc n) = by (side i n)
  where
    by : (i < n) ⊎ (n ≤ i) → (suc i < suc n) ⊎ (suc n ≤ suc i)
    by (inl l) = inl (omega (arith, l))
    by (inr l) = inr (omega (arith, l))

keeps_then : (a b d : List Node) (x y z : List ℕ) → Keeps a b x y → Keeps b d y z → Keeps a d x z
keeps_then a b d x y z k m =
    let ab = longer a b k.extends in
    record {
      extends = then a b d k.extends m.extends;
      new = λ i c part l. elim (side i (length b)) [
        | inl small ↦ k.new i c (part_before b m.extends.0 i c small (subst (λ (ns : List Node). Part ns i c) m.extends.1 part)) l
        | inr large ↦ let lt = m.new i c part large in omega (arith, ab, lt)
      ];
      added = λ c h. elim (m.added c h) [
        | inl old ↦ k.added c old
        | inr lt ↦ inr (omega (arith, ab, lt))
      ];
      cuts = λ c w. let more = k.cuts c w in m.cuts more.0 more.1;
      good = λ g. m.good (k.good g);
    }

not_in : (c : ℕ) → IsIn [] c → ⊥
not_in c h = cc

-- one node more after a reading of its parts
keeps_node : (a b : List Node) (x ys : List ℕ) (n : Node) → n.children ≡ ys → Keeps a b [] ys → Keeps a (b ++ n ∷ []) x (x ++ length b ∷ [])
keeps_node a b x ys n own k =
    let ab = longer a b k.extends in
    let more = one_more b n in
    let step : Extends b (b ++ n ∷ []) = (n ∷ [], refl) in
    let fresh : (c : ℕ) → IsIn n.children c → length a ≤ c = λ c h. elim (k.added c (subst (λ (l : List ℕ). IsIn l c) own h)) [ inl old ↦ absurd (not_in c old) | inr lt ↦ lt ] in
    let new : (i c : ℕ) → Part (b ++ n ∷ []) i c → length a ≤ i → length a ≤ c =
    λ i c part l. elim (part_split b n i c part) [ inl q ↦ k.new i c q.0 l | inr q ↦ fresh c q.1 ] in
    let none = k.cuts (λ p q hp hq lt. absurd (not_in p hp)) (λ c h. absurd (not_in c h)) in
    record {
      extends = then a b (b ++ n ∷ []) k.extends step;
      new = new;
      added = λ c h. elim (last_or x (length b) c h) [ inl old ↦ inl old | inr last ↦ inr (omega (arith, ab, last)) ];
      cuts = λ c w. (
        λ p q hp hq lt. elim (last_or x (length b) q hq) [
          | inl old_q ↦
              elim (last_or x (length b) p hp) [
                | inl old_p ↦ cut_on a (b ++ n ∷ []) p q (then a b (b ++ n ∷ []) k.extends step) (w q old_q) (c p q old_p old_q lt)
                | inr last ↦ let small = w q old_q in absurd (omega (arith, small, last, lt, ab))
              ]
          | inr last_q ↦
              elim (last_or x (length b) p hp) [
                | inl old_p ↦ record { at = length a; above = w p old_p; below = omega (arith, ab, last_q); closed_in = λ i d part low high. new i d part low }
                | inr last ↦ absurd (omega (arith, last, last_q, lt))
              ]
        ],
        λ d h. elim (last_or x (length b) d h) [
          | inl old ↦ let small = w d old in omega (arith, small, ab, more)
          | inr last ↦ omega (arith, last, more)
        ],
      );
      good = λ g.
          let old = k.good g in
          record {
            within = λ i c part. elim (part_split b n i c part) [
              | inl q ↦ let lt = old.within i c q.0 in omega (arith, lt, more)
              | inr q ↦ let lt = none.1 c (subst (λ (l : List ℕ). IsIn l c) own q.1) in omega (arith, lt, more)
            ];
            cuts = λ i p q hp hq lt. elim (part_split b n i q hq) [
              | inl there ↦
                  elim (part_split b n i p hp) [
                    | inl here ↦ cut_on b (b ++ n ∷ []) p q step (old.within i q there.0) (old.cuts i p q here.0 there.0 lt)
                    | inr last ↦ let small = there.1 in absurd (omega (arith, small, last.0))
                  ]
              | inr there ↦
                  elim (part_split b n i p hp) [
                    | inl here ↦ let small = here.1 in absurd (omega (arith, small, there.0))
                    | inr last ↦
                        let hq2 = subst (λ (l : List ℕ). IsIn l q) own there.1 in
                        let hp2 = subst (λ (l : List ℕ). IsIn l p) own last.1 in
                        cut_on b (b ++ n ∷ []) p q step (none.1 q hq2) (none.0 p q hp2 hq2 lt)
                  ]
            ];
          };
    }

-- a production by whether it makes a node
closing : (b : Bool) (q : ℕ) (s u o x : State) → o.nodes ≡ s.nodes → o.children ≡ [] → (x.nodes ≡ u.nodes ++ (record { production = q; token = s.place; children = u.children }) ∷ []) → (x.children ≡ s.children ++ length u.nodes ∷ [])
    → Keeps (cond b o s).nodes u.nodes (cond b o s).children u.children → Keeps s.nodes (cond b x u).nodes s.children (cond b x u).children
closing true q s u o x en ec fn fc k =
    let k1 = subst (λ (l : List Node). Keeps l u.nodes o.children u.children) en k in
    let k2 = subst (λ (l : List ℕ). Keeps s.nodes u.nodes l u.children) ec k1 in
    let r = keeps_node s.nodes u.nodes s.children u.children (record { production = q; token = s.place; children = u.children }) refl k2 in
    let r1 = subst (λ (l : List Node). Keeps s.nodes l s.children (s.children ++ length u.nodes ∷ [])) (sym fn) r in
    subst (λ (l : List ℕ). Keeps s.nodes x.nodes s.children l) (sym fc) r1
closing false q s u o x en ec fn fc k = k

module _ (text : List ℕ) (tokens : List Token) where
  mutual
    walks_keep : (p at d : ℕ) (s : State) (r : Result State Fault) → Walks text tokens p at d s r → (t : State) → r ≡ Ok t → Keeps s.nodes t.nodes s.children t.children
    walks_keep p at d s r (at_end h) t e = let f : s ≡ t = cc in subst (λ (x : State). Keeps s.nodes x.nodes s.children x.children) f (keeps_same s.nodes s.children)
    walks_keep p at d s r (token h k w) t e =
        let n : Node = record { production = leaf; token = s.place; children = [] } in
        keeps_then s.nodes (s.nodes ++ n ∷ []) t.nodes s.children (s.children ++ length s.nodes ∷ []) t.children (keeps_node s.nodes s.nodes s.children [] n refl (keeps_same s.nodes [])) (walks_keep p (at + 1) d _ r w t e)
    walks_keep p at d s r (no_token h k) t e = absurd (cc)
    walks_keep p at d s r (use_of {q = q} {t = u} h o w) t e = keeps_then s.nodes u.nodes t.nodes s.children u.children t.children (opens_keep q d s (Ok u) o u refl) (walks_keep p (at + 1) d u r w t e)
    walks_keep p at d s r (no_use h o) t e = absurd (cc)
    walks_keep p at d s r (choice {t = u} h c o w) t e = keeps_then s.nodes u.nodes t.nodes s.children u.children t.children (opens_keep _ d s (Ok u) o u refl) (walks_keep p (at + 1) d u r w t e)
    walks_keep p at d s r (no_choice h c o) t e = absurd (cc)
    walks_keep p at d s r (no_alternative h c) t e = absurd (cc)
    walks_keep p at d s r (again {q = q} {t = u} h k o w) t e = keeps_then s.nodes u.nodes t.nodes s.children u.children t.children (opens_keep q d s (Ok u) o u refl) (walks_keep p at d u r w t e)
    walks_keep p at d s r (no_again h k o) t e = absurd (cc)
    walks_keep p at d s r (scope {n = n} h w) t e = walks_keep p (at + 1) d (scoped text tokens p n s) r w t e
    walks_keep p at d s r (enough h k w) t e = walks_keep p (at + 1) d s r w t e

    opens_keep : (q d : ℕ) (s : State) (r : Result State Fault) → Opens text tokens q d s r → (t : State) → r ≡ Ok t → Keeps s.nodes t.nodes s.children t.children
    opens_keep q d s r (deep h) t e = absurd (cc)
    opens_keep q d s r (refused h k) t e = absurd (cc)
    opens_keep q d s r (whole {t = u} h k w) t e =
        let f : closed q s u ≡ t = cc in
        subst (λ (x : State). Keeps s.nodes x.nodes s.children x.children) f (closing (makes_node q) q s u _ _ refl refl refl refl (walks_keep q 0 _ (opened q s) (Ok u) w u refl))
    opens_keep q d s r (broken h k w) t e = absurd (cc)

  pub all_good : (q d : ℕ) (s t : State) → s.nodes ≡ [] → Opens text tokens q d s (Ok t) → AllGood t.nodes
  all_good q d s t none o =
      (opens_keep q d s (Ok t) o t refl).good
      (subst AllGood (sym none) (record { within = λ i c h. cc; cuts = λ i x y h k lt. cc }))
