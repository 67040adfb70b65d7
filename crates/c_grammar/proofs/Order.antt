-- A reading keeps the list of nodes in order, and ends with the node of its production.
use Rattle.std.proofs.Common.{◌≡◌, ℕ, suc, ◌+◌, ◌<◌, ◌≤◌, Bool, true, false, Result, Ok, List, [], ◌∷◌, ◌++◌, length, cond, refl, sym, ap, ◌∙◌, subst, arith, append_assoc, append-nil, length-append}
use Rattle.c_lexer.specs.declared.Token.{Token}
use Rattle.c_grammar.specs.Tree.{makes_node}
use Rattle.c_grammar.specs.Reads.{State, Fault, Node, leaf, taken, scoped, opened, closed, Walks, Opens, at_end, token, no_token, use_of, no_use, choice, no_choice, no_alternative, again, no_again, scope, enough, deep, refused, whole, broken}
use Rattle.c_grammar.specs.Order.{AllBelow, ChildrenFirst, InOrder, EndsWith}

below_more : (m n : ℕ) (ns : List ℕ) → m ≤ n → AllBelow m ns → AllBelow n ns
below_more m n [] l h = tt
below_more m n (x ∷ ns) l h = (omega (arith, h.0), below_more m n ns l h.1)

below-append : (m : ℕ) (ns : List ℕ) (x : ℕ) → AllBelow m ns → x < m → AllBelow m (ns ++ x ∷ [])
below-append m [] x h l = (l, tt)
below-append m (n ∷ ns) x h l = (h.0, below-append m ns x h.1 l)

first-append : (before : ℕ) (nodes : List Node) (n : Node) → ChildrenFirst before nodes → AllBelow (before + length nodes) n.children → ChildrenFirst before (nodes ++ n ∷ [])
first-append before [] n h b = let e : before + 0 ≡ before = omega arith in (subst (λ x. AllBelow x n.children) e b, tt)
first-append before (m ∷ nodes) n h b =
    let e : before + suc (length nodes) ≡ before + 1 + length nodes = omega arith in
    (h.0, first-append (before + 1) nodes n h.1 (subst (λ x. AllBelow x n.children) e b))

longer : (nodes : List Node) (n : Node) → length (nodes ++ n ∷ []) ≡ length nodes + 1
longer nodes n = length-append nodes (n ∷ [])

-- a node behind the others, whose children are among them, is one more child of the production
one_more : (nodes : List Node) (children : List ℕ) (n : Node) → ChildrenFirst 0 nodes → AllBelow (length nodes) children → AllBelow (length nodes) n.children
    → ChildrenFirst 0 (nodes ++ n ∷ []) × AllBelow (length (nodes ++ n ∷ [])) (children ++ length nodes ∷ [])
one_more nodes children n h c b =
    let e : 0 + length nodes ≡ length nodes = omega arith in
    let more : length nodes ≤ length nodes + 1 = omega arith in
    let less : length nodes < length nodes + 1 = omega arith in (
      first-append 0 nodes n h (subst (λ x. AllBelow x n.children) (sym e) b),
      subst (λ x. AllBelow x (children ++ length nodes ∷ [])) (sym (longer nodes n)) (below-append (length nodes + 1) children (length nodes) (below_more (length nodes) (length nodes + 1) children more c) less),
    )

-- no node is taken away: some stand behind the ones before
abbrev Extends : List Node → List Node → Type 0
Extends before nodes = (more : List Node) × (nodes ≡ before ++ more)

same : (nodes : List Node) → Extends nodes nodes
same nodes = ([], sym (append-nil nodes))

then : (a b c : List Node) → Extends a b → Extends b c → Extends a c
then a b c x y = (x.0 ++ y.0, y.1 ∙ (ap (λ l. l ++ y.0) x.1 ∙ append_assoc a x.0 y.0))

shorter : (a b : List Node) → Extends a b → length a ≤ length b
shorter a b x = let e : length b ≡ length (a ++ x.0) = ap length x.1 in omega (arith, e, length-append a x.0)

-- what a reading leaves: the nodes before stand, and the order is kept
abbrev Keeps : State → State → Type 0
Keeps s t = Extends s.nodes t.nodes × (InOrder s → InOrder t)

keeps_then : (s u t : State) → Keeps s u → Keeps u t → Keeps s t
keeps_then s u t a b = (then s.nodes u.nodes t.nodes a.0 b.0, λ o. b.1 (a.1 o))

keeps_taken : (text : List ℕ) (tokens : List Token) (p : ℕ) (s : State) → Keeps s (taken text tokens p s)
keeps_taken text tokens p s = ((_, refl), λ o. one_more s.nodes s.children (record { production = leaf; token = s.place; children = [] }) o.0 o.1 tt)

-- the children of a production that makes a node are those of its own reading
opened_order : (b : Bool) (x s : State) → x.nodes ≡ s.nodes → x.children ≡ [] → InOrder s → InOrder (cond b x s)
opened_order true x s e f o = (subst (λ l. ChildrenFirst 0 l) (sym e) o.0, subst (λ l. AllBelow (length x.nodes) l) (sym f) tt)
opened_order false x s e f o = o

opened_nodes : (b : Bool) (x s : State) → x.nodes ≡ s.nodes → (cond b x s).nodes ≡ s.nodes
opened_nodes true x s e = e
opened_nodes false x s e = refl

closing : (b : Bool) (q : ℕ) (s t : State) (x : State) → (x.nodes ≡ t.nodes ++ (record { production = q; token = s.place; children = t.children }) ∷ []) → (x.children ≡ s.children ++ length t.nodes ∷ [])
    → Extends s.nodes t.nodes → (InOrder s → InOrder t) → Keeps s (cond b x t)
closing true q s t x e f m o =
    let n : Node = record { production = q; token = s.place; children = t.children } in (
      then s.nodes t.nodes x.nodes m (_, e),
      λ i.
          let j = o i in
          let k = one_more t.nodes s.children n j.0 (below_more (length s.nodes) (length t.nodes) s.children (shorter s.nodes t.nodes m) i.1) j.1 in
          (subst (λ l. ChildrenFirst 0 l) (sym e) k.0, let g : length x.nodes ≡ length (t.nodes ++ n ∷ []) = ap length e in subst (λ l. AllBelow (length x.nodes) l) (sym f) (subst (λ y. AllBelow y (s.children ++ length t.nodes ∷ [])) (sym g) k.1)),
    )
closing false q s t x e f m o = (m, o)

module _ (text : List ℕ) (tokens : List Token) where
  mutual
    walks_keep : (p at d : ℕ) (s : State) (r : Result State Fault) → Walks text tokens p at d s r → (t : State) → r ≡ Ok t → Keeps s t
    walks_keep p at d s r (at_end h) t e = let f : s ≡ t = cc in subst (λ x. Keeps s x) f (same s.nodes, λ o. o)
    walks_keep p at d s r (token h k w) t e = keeps_then s (taken text tokens p s) t (keeps_taken text tokens p s) (walks_keep p (at + 1) d _ r w t e)
    walks_keep p at d s r (no_token h k) t e = absurd (cc)
    walks_keep p at d s r (use_of {q = q} {t = u} h o w) t e = keeps_then s u t (opens_keep q d s (Ok u) o u refl) (walks_keep p (at + 1) d u r w t e)
    walks_keep p at d s r (no_use h o) t e = absurd (cc)
    walks_keep p at d s r (choice {t = u} h c o w) t e = keeps_then s u t (opens_keep _ d s (Ok u) o u refl) (walks_keep p (at + 1) d u r w t e)
    walks_keep p at d s r (no_choice h c o) t e = absurd (cc)
    walks_keep p at d s r (no_alternative h c) t e = absurd (cc)
    walks_keep p at d s r (again {q = q} {t = u} h k o w) t e = keeps_then s u t (opens_keep q d s (Ok u) o u refl) (walks_keep p at d u r w t e)
    walks_keep p at d s r (no_again h k o) t e = absurd (cc)
    walks_keep p at d s r (scope {n = n} h w) t e = walks_keep p (at + 1) d (scoped text tokens p n s) r w t e
    walks_keep p at d s r (enough h k w) t e = walks_keep p (at + 1) d s r w t e

    pub opens_keep : (q d : ℕ) (s : State) (r : Result State Fault) → Opens text tokens q d s r → (t : State) → r ≡ Ok t → Keeps s t
    opens_keep q d s r (deep h) t e = absurd (cc)
    opens_keep q d s r (refused h k) t e = absurd (cc)
    opens_keep q d s r (whole {t = u} h k w) t e =
        let f : closed q s u ≡ t = cc in
        let y = walks_keep q 0 _ (opened q s) (Ok u) w u refl in
        let m : Extends s.nodes u.nodes = subst (λ l. Extends l u.nodes) (opened_nodes (makes_node q) _ s refl) y.0 in
        subst (λ x. Keeps s x) f (closing (makes_node q) q s u _ refl refl m (λ o. y.1 (opened_order (makes_node q) _ s refl refl o)))
    opens_keep q d s r (broken h k w) t e = absurd (cc)

  closed_own : (q : ℕ) (s t : State) → makes_node q ≡ true → (closed q s t).nodes ≡ t.nodes ++ (record { production = q; token = s.place; children = t.children }) ∷ []
  closed_own q s t e = rw e refl

  pub opens_end : (q d : ℕ) (s : State) (r : Result State Fault) → makes_node q ≡ true → Opens text tokens q d s r → (t : State) → r ≡ Ok t → EndsWith q s.place s.nodes t.nodes
  opens_end q d s r n (deep h) t e = absurd (cc)
  opens_end q d s r n (refused h k) t e = absurd (cc)
  opens_end q d s r n (whole {t = u} h k w) t e =
      let f : closed q s u ≡ t = cc in
      let y = walks_keep q 0 _ (opened q s) (Ok u) w u refl in
      let m : Extends s.nodes u.nodes = subst (λ l. Extends l u.nodes) (opened_nodes (makes_node q) _ s refl) y.0 in
      let last : List Node = (record { production = q; token = s.place; children = u.children }) ∷ [] in
      (m.0, u.children, ap (λ x. x.nodes) (sym f) ∙ (closed_own q s u n ∙ (ap (λ l. l ++ last) m.1 ∙ append_assoc s.nodes m.0 last)))
  opens_end q d s r n (broken h k w) t e = absurd (cc)
