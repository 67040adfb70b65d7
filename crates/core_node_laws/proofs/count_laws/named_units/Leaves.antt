-- The leaves of a tree that is read: each has a token of its own.
use Rattle.std.proofs.Common.{arith, ◌≡◌, ◌<◌, ℕ, zero, suc, ◌+◌, Bool, true, false, cond, Result, Ok, List, [], ◌∷◌, ◌++◌, map, Some, length, slice_get, refl, sym, ap, ◌∙◌, subst, ◌⊎◌, inl, inr}
use Rattle.c_lexer.specs.declared.Token.{Token}
use Rattle.c_lexer.specs.declared.Tokens.{Tokens}
use Rattle.c_grammar.specs.declared.trees.SyntaxNode.{SyntaxNode}
use Rattle.c_grammar.specs.declared.trees.Tree.{Tree}
use Rattle.c_grammar.specs.Names.{no_names}
use Rattle.c_grammar.specs.Productions.{p_unit}
use Rattle.c_grammar.specs.Tree.{makes_node}
use Rattle.c_grammar.specs.Reads.{State, Fault, Node, leaf, node_of, taken, scoped, opened, closed, Walks, Opens, at_end, token, no_token, use_of, no_use, choice, no_choice, no_alternative, again, no_again, scope, enough, deep, refused, whole, broken}
use Rattle.c_parser.specs.Parse.{begin}
use Rattle.c_parser.specs.c_units.Units.{IsUnit}

or_last : (nodes : List Node) (n m : Node) (i : ℕ) → slice_get (nodes ++ n ∷ []) i ≡ Some m → (slice_get nodes i ≡ Some m) ⊎ ((i ≡ length nodes) × (n ≡ m))
or_last [] n m zero e = inr (refl, cc)
or_last [] n m (suc i) e = cc
or_last (x ∷ nodes) n m zero e = inl e
or_last (x ∷ nodes) n m (suc i) e = by (or_last nodes n m i e)
  where
    by : (slice_get nodes i ≡ Some m) ⊎ ((i ≡ length nodes) × (n ≡ m)) → (slice_get nodes i ≡ Some m) ⊎ ((suc i ≡ suc (length nodes)) × (n ≡ m))
    by (inl h) = inl h
    by (inr h) = inr (ap suc h.0, h.1)

-- the leaves so far have tokens before the next one, each its own
pub record Own (nodes : List Node) (place : ℕ) : Type 0 where
  pub below : (i : ℕ) (n : Node) → slice_get nodes i ≡ Some n → n.production ≡ leaf → n.token < place
  pub once : (i j : ℕ) (n m : Node) → slice_get nodes i ≡ Some n → slice_get nodes j ≡ Some m → n.production ≡ leaf → m.production ≡ leaf → n.token ≡ m.token → i ≡ j

own_leaf : (nodes : List Node) (place : ℕ) → Own nodes place → Own (nodes ++ (record { production = leaf; token = place; children = [] }) ∷ []) (place + 1)
own_leaf nodes place own = record { below = below; once = once }
  where
    more : Node
    more = record { production = leaf; token = place; children = [] }

    below : (i : ℕ) (n : Node) → slice_get (nodes ++ (record { production = leaf; token = place; children = [] }) ∷ []) i ≡ Some n → n.production ≡ leaf → n.token < place + 1
    below i n e is = by (or_last nodes (record { production = leaf; token = place; children = [] }) n i e)
      where
        by : (slice_get nodes i ≡ Some n) ⊎ ((i ≡ length nodes) × ((record { production = leaf; token = place; children = [] }) ≡ n)) → n.token < place + 1
        by (inl h) = let l = own.below i n h is in omega (arith, l)
        by (inr h) = let same : place ≡ n.token = ap (λ (x : Node). x.token) h.1 in omega (arith, same)

    once : (i j : ℕ) (n m : Node) → slice_get (nodes ++ (record { production = leaf; token = place; children = [] }) ∷ []) i ≡ Some n → slice_get (nodes ++ (record { production = leaf; token = place; children = [] }) ∷ []) j ≡ Some m
        → n.production ≡ leaf → m.production ≡ leaf → n.token ≡ m.token → i ≡ j
    once i j n m e f p q same = by (or_last nodes (record { production = leaf; token = place; children = [] }) n i e) (or_last nodes (record { production = leaf; token = place; children = [] }) m j f)
      where
        by : (slice_get nodes i ≡ Some n) ⊎ ((i ≡ length nodes) × ((record { production = leaf; token = place; children = [] }) ≡ n))
            → (slice_get nodes j ≡ Some m) ⊎ ((j ≡ length nodes) × ((record { production = leaf; token = place; children = [] }) ≡ m)) → i ≡ j
        by (inl h) (inl g) = own.once i j n m h g p q same
        by (inl h) (inr g) = let l = own.below i n h p in let at : place ≡ m.token = ap (λ (x : Node). x.token) g.1 in absurd (omega (arith, l, at, same))
        by (inr h) (inl g) = let l = own.below j m g q in let at : place ≡ n.token = ap (λ (x : Node). x.token) h.1 in absurd (omega (arith, l, at, same))
        by (inr h) (inr g) = h.0 ∙ sym g.0

own_node : (nodes : List Node) (more : Node) (place : ℕ) → (more.production ≡ leaf → ⊥) → Own nodes place → Own (nodes ++ more ∷ []) place
own_node nodes more place never own = record { below = below; once = once }
  where
    old : (i : ℕ) (n : Node) → slice_get (nodes ++ more ∷ []) i ≡ Some n → n.production ≡ leaf → slice_get nodes i ≡ Some n
    old i n e is = by (or_last nodes more n i e)
      where
        by : (slice_get nodes i ≡ Some n) ⊎ ((i ≡ length nodes) × (more ≡ n)) → slice_get nodes i ≡ Some n
        by (inl h) = h
        by (inr h) = absurd (never (ap (λ (x : Node). x.production) h.1 ∙ is))

    below : (i : ℕ) (n : Node) → slice_get (nodes ++ more ∷ []) i ≡ Some n → n.production ≡ leaf → n.token < place
    below i n e is = own.below i n (old i n e is) is

    once : (i j : ℕ) (n m : Node) → slice_get (nodes ++ more ∷ []) i ≡ Some n → slice_get (nodes ++ more ∷ []) j ≡ Some m → n.production ≡ leaf → m.production ≡ leaf → n.token ≡ m.token → i ≡ j
    once i j n m e f p q same = own.once i j n m (old i n e p) (old j m f q) p q same

-- what makes a node is no leaf
node_no_leaf : (q : ℕ) → makes_node q ≡ true → q ≡ leaf → ⊥
unfolding makes_node
node_no_leaf q m e = let never : makes_node leaf ≡ true = subst (λ (x : ℕ). makes_node x ≡ true) e m in cc

closing : (b : Bool) (q : ℕ) (u x : State) (own_token : ℕ) → makes_node q ≡ b → x.place ≡ u.place → (x.nodes ≡ u.nodes ++ (record { production = q; token = own_token; children = u.children }) ∷ []) → Own u.nodes u.place → Own (cond b x u).nodes (cond b x u).place
closing true q u x own_token makes at nodes own =
    let more : Node = record { production = q; token = own_token; children = u.children } in
    let grown : Own (u.nodes ++ more ∷ []) u.place = own_node u.nodes more u.place (node_no_leaf q makes) own in
    subst (λ (p : ℕ). Own x.nodes p) (sym at) (subst (λ (l : List Node). Own l u.place) (sym nodes) grown)
closing false q u x own_token makes at nodes own = own

opening : (b : Bool) (s o : State) → o.nodes ≡ s.nodes → o.place ≡ s.place → Own s.nodes s.place → Own (cond b o s).nodes (cond b o s).place
opening true s o nodes at own = subst (λ (p : ℕ). Own o.nodes p) (sym at) (subst (λ (l : List Node). Own l s.place) (sym nodes) own)
opening false s o nodes at own = own

module _ (text : List ℕ) (tokens : List Token) where
  mutual
    walks_own : (p at d : ℕ) (s : State) (r : Result State Fault) → Walks text tokens p at d s r → (t : State) → r ≡ Ok t → Own s.nodes s.place → Own t.nodes t.place
    walks_own p at d s r (at_end h) t e g = let f : s ≡ t = cc in subst (λ (x : State). Own x.nodes x.place) f g
    walks_own p at d s r (token h k w) t e g = walks_own p (at + 1) d (taken text tokens p s) r w t e (own_leaf s.nodes s.place g)
    walks_own p at d s r (no_token h k) t e g = absurd (cc)
    walks_own p at d s r (use_of {q = q} {t = u} h o w) t e g = walks_own p (at + 1) d u r w t e (opens_own q d s (Ok u) o u refl g)
    walks_own p at d s r (no_use h o) t e g = absurd (cc)
    walks_own p at d s r (choice {t = u} h c o w) t e g = walks_own p (at + 1) d u r w t e (opens_own _ d s (Ok u) o u refl g)
    walks_own p at d s r (no_choice h c o) t e g = absurd (cc)
    walks_own p at d s r (no_alternative h c) t e g = absurd (cc)
    walks_own p at d s r (again {q = q} {t = u} h k o w) t e g = walks_own p at d u r w t e (opens_own q d s (Ok u) o u refl g)
    walks_own p at d s r (no_again h k o) t e g = absurd (cc)
    walks_own p at d s r (scope {n = n} h w) t e g = walks_own p (at + 1) d (scoped text tokens p n s) r w t e g
    walks_own p at d s r (enough h k w) t e g = walks_own p (at + 1) d s r w t e g

    opens_own : (q d : ℕ) (s : State) (r : Result State Fault) → Opens text tokens q d s r → (t : State) → r ≡ Ok t → Own s.nodes s.place → Own t.nodes t.place
    opens_own q d s r (deep h) t e g = absurd (cc)
    opens_own q d s r (refused h k) t e g = absurd (cc)
    opens_own q d s r (whole {t = u} h k w) t e g =
        let f : closed q s u ≡ t = cc in
        let inner : Own u.nodes u.place = walks_own q 0 _ (opened q s) (Ok u) w u refl (opening (makes_node q) s _ refl refl g) in
        subst (λ (x : State). Own x.nodes x.place) f (closing (makes_node q) q u _ s.place refl refl refl inner)
    opens_own q d s r (broken h k w) t e g = absurd (cc)

-- the leaves of a unit's tree
pub own_leaves : (tokens : Tokens) (unit : ℕ) (tree : Tree) → IsUnit tokens unit tree → (place : ℕ) × Own (map node_of tree.nodes.items) place
own_leaves tokens unit tree is =
    let (st, reads, nodes) = is.0 in
    let none : Own [] 0 = record { below = λ i n e p. cc; once = λ i j n m e f p q same. cc } in
    let own : Own st.nodes st.place = opens_own tokens.text.now tokens.list.items p_unit 0 (begin 0 no_names []) (Ok st) reads st refl none in
    (st.place, subst (λ (l : List Node). Own l st.place) nodes own)

there_node : (items : List SyntaxNode) (i : ℕ) (n : SyntaxNode) → slice_get items i ≡ Some n → slice_get (map node_of items) i ≡ Some (node_of n)
there_node [] i n e = cc
there_node (m ∷ items) zero n e = let same : m ≡ n = cc in ap (λ (x : SyntaxNode). Some (node_of x)) same
there_node (m ∷ items) (suc i) n e = there_node items i n e

pub one_leaf : (items : List SyntaxNode) (place : ℕ) → Own (map node_of items) place → (i j : ℕ) (n m : SyntaxNode) → slice_get items i ≡ Some n → slice_get items j ≡ Some m → n.production ≡ leaf → m.production ≡ leaf → n.token ≡ m.token → i ≡ j
one_leaf items place own i j n m e f p q same = own.once i j (node_of n) (node_of m) (there_node items i n e) (there_node items j m f) p q same
