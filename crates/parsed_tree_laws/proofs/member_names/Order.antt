-- The order of the nodes of a tree that is read.
use Rattle.std.proofs.Common.{◌≡◌, ℕ, zero, suc, ◌+◌, Bool, true, false, cond, Result, Ok, List, [], ◌∷◌, ◌++◌, map, Option, Some, None, length, slice_get, refl, sym, ap, ◌∙◌, subst, append_assoc, append-nil}
use Rattle.c_lexer.specs.declared.Token.{Token}
use Rattle.c_lexer.specs.declared.Tokens.{Tokens}
use Rattle.c_grammar.specs.declared.trees.SyntaxNode.{SyntaxNode}
use Rattle.c_grammar.specs.declared.trees.Tree.{Tree}
use Rattle.c_grammar.specs.Names.{no_names}
use Rattle.c_grammar.specs.Productions.{p_unit}
use Rattle.c_grammar.specs.Tree.{makes_node}
use Rattle.c_grammar.specs.Reads.{State, Fault, Node, leaf, node_of, taken, scoped, opened, closed, Walks, Opens, at_end, token, no_token, use_of, no_use, choice, no_choice, no_alternative, again, no_again, scope, enough, deep, refused, whole, broken}
use Rattle.c_parser.specs.Parse.{begin}
use Rattle.parsed_tree_laws.specs.family_laws.PassedOn.{IsUnit}
use Rattle.c_senses.specs.Names.{source_of}
use Rattle.c_senses.specs.Tree.{children_of}
use Rattle.parsed_tree_laws.specs.member_names.Differ.{UnitsAreInOrder}
use Rattle.parsed_tree_laws.proofs.member_names.Steps.{Ordered, none_ordered, Steps, steps_same, steps_then, steps_node, steps_leaf}

-- what a reading leaves of nodes and children
record Keeps (a b : List Node) (x y : List ℕ) : Type 0 where
  more : List ℕ
  appends : y ≡ x ++ more
  steps : Steps a b more

keeps_same : (a : List Node) (x : List ℕ) → Keeps a a x x
keeps_same a x = record { more = []; appends = sym (append-nil x); steps = steps_same a }

keeps_then : (a b c : List Node) (x y z : List ℕ) → Keeps a b x y → Keeps b c y z → Keeps a c x z
keeps_then a b c x y z k m = record {
  more = k.more ++ m.more;
  appends = m.appends ∙ (ap (λ (l : List ℕ). l ++ m.more) k.appends ∙ append_assoc x k.more m.more);
  steps = steps_then a b c k.more m.more k.steps m.steps;
}

keeps_leaf : (a : List Node) (x : List ℕ) (place : ℕ) → Keeps a (a ++ (record { production = leaf; token = place; children = [] }) ∷ []) x (x ++ length a ∷ [])
keeps_leaf a x place = record { more = length a ∷ []; appends = refl; steps = steps_leaf a (record { production = leaf; token = place; children = [] }) refl }

keeps_node : (q place : ℕ) (a b : List Node) (x y : List ℕ) → Keeps a b [] y → Keeps a (b ++ (record { production = q; token = place; children = y }) ∷ []) x (x ++ length b ∷ [])
keeps_node q place a b x y k = record { more = length b ∷ []; appends = refl; steps = steps_node a b (record { production = q; token = place; children = y }) k.more k.steps k.appends }

closing : (b : Bool) (q : ℕ) (s u o x : State) → o.nodes ≡ s.nodes → o.children ≡ [] → (x.nodes ≡ u.nodes ++ (record { production = q; token = s.place; children = u.children }) ∷ []) → (x.children ≡ s.children ++ length u.nodes ∷ [])
    → Keeps (cond b o s).nodes u.nodes (cond b o s).children u.children → Keeps s.nodes (cond b x u).nodes s.children (cond b x u).children
closing true q s u o x en ec fn fc w =
    let w1 = subst (λ (l : List Node). Keeps l u.nodes o.children u.children) en w in
    let w2 = subst (λ (l : List ℕ). Keeps s.nodes u.nodes l u.children) ec w1 in
    let r = keeps_node q s.place s.nodes u.nodes s.children u.children w2 in
    let r1 = subst (λ (l : List Node). Keeps s.nodes l s.children (s.children ++ length u.nodes ∷ [])) (sym fn) r in
    subst (λ (l : List ℕ). Keeps s.nodes x.nodes s.children l) (sym fc) r1
closing false q s u o x en ec fn fc w = w

module _ (text : List ℕ) (tokens : List Token) where
  mutual
    walks_keep : (p at d : ℕ) (s : State) (r : Result State Fault) → Walks text tokens p at d s r → (t : State) → r ≡ Ok t → Keeps s.nodes t.nodes s.children t.children
    walks_keep p at d s r (at_end h) t e = let f : s ≡ t = cc in subst (λ (x : State). Keeps s.nodes x.nodes s.children x.children) f (keeps_same s.nodes s.children)
    walks_keep p at d s r (token h k w) t e = keeps_then s.nodes _ t.nodes s.children _ t.children (keeps_leaf s.nodes s.children s.place) (walks_keep p (at + 1) d (taken text tokens p s) r w t e)
    walks_keep p at d s r (no_token h k) t e = absurd (cc)
    walks_keep p at d s r (use_of {q = q} {t = u} h o w) t e = keeps_then s.nodes u.nodes t.nodes s.children u.children t.children (opens_keep q d s (Ok u) o u refl) (walks_keep p (at + 1) d u r w t e)
    walks_keep p at d s r (no_use h o) t e = absurd (cc)
    walks_keep p at d s r (choice {q = q} {t = u} h c o w) t e = keeps_then s.nodes u.nodes t.nodes s.children u.children t.children (opens_keep q d s (Ok u) o u refl) (walks_keep p (at + 1) d u r w t e)
    walks_keep p at d s r (no_choice h c o) t e = absurd (cc)
    walks_keep p at d s r (no_alternative h c) t e = absurd (cc)
    walks_keep p at d s r (again {q = q} {t = u} h k o w) t e = keeps_then s.nodes u.nodes t.nodes s.children u.children t.children (opens_keep q d s (Ok u) o u refl) (walks_keep p at d u r w t e)
    walks_keep p at d s r (no_again h k o) t e = absurd (cc)
    walks_keep p at d s r (scope {n = n} h w) t e = walks_keep p (at + 1) d (scoped text tokens p n s) r w t e
    walks_keep p at d s r (enough h k w) t e = walks_keep p (at + 1) d s r w t e

    opens_keep : (q d : ℕ) (s : State) (r : Result State Fault) → Opens text tokens q d s r → (t : State) → r ≡ Ok t → Keeps s.nodes t.nodes s.children t.children
    opens_keep q d s r (deep h) t e = absurd (cc)
    opens_keep q d s r (refused h k) t e = absurd (cc)
    opens_keep q d s r (whole {t = u} h k w) t e =
        let f : closed q s u ≡ t = cc in
        subst (λ (x : State). Keeps s.nodes x.nodes s.children x.children) f (closing (makes_node q) q s u _ _ refl refl refl refl (walks_keep q 0 _ (opened q s) (Ok u) w u refl))
    opens_keep q d s r (broken h k w) t e = absurd (cc)

pub ordered_nodes : (tokens : Tokens) (unit : ℕ) (tree : Tree) → IsUnit tokens unit tree → Ordered (map node_of tree.nodes.items)
ordered_nodes tokens unit tree is =
    let (st, reads, nodes) = is.0 in
    let kept = opens_keep tokens.text.now tokens.list.items p_unit 0 (begin 0 no_names []) (Ok st) reads st refl in
    subst Ordered nodes (kept.steps.ordered none_ordered)

-- ---- from the list of the tree's nodes

there_node : (items : List SyntaxNode) (k : ℕ) (n : SyntaxNode) → slice_get items k ≡ Some n → slice_get (map node_of items) k ≡ Some (node_of n)
there_node [] k n e = cc
there_node (x ∷ items) zero n e = let same : x ≡ n = cc in ap (λ (m : SyntaxNode). Some (node_of m)) same
there_node (x ∷ items) (suc k) n e = there_node items k n e

-- a node with a child stands there
child_there : (items : List SyntaxNode) (i k c : ℕ) (o : Option SyntaxNode) → slice_get items i ≡ o → slice_get (children_of o) k ≡ Some c → (n : SyntaxNode) × (slice_get items i ≡ Some n) × (slice_get n.children.items k ≡ Some c)
child_there items i k c None e h = cc
child_there items i k c (Some n) e h = (n, e, h)

pub units_in_order : UnitsAreInOrder
unfolding source_of
units_in_order tokens unit tree tag_number read =
    let all = ordered_nodes tokens unit tree read in
    let items : List SyntaxNode = tree.nodes.items in
    record {
      below = λ i c h. let n = child_there items i h.0 c (slice_get items i) refl h.1 in all.below i c (node_of n.0) (there_node items i n.0 n.1) (h.0, n.2);
      behind = λ i x y c f g lt h.
          let n = child_there items i f.0 x (slice_get items i) refl f.1 in
          let p = child_there items i g.0 y (slice_get items i) refl g.1 in
          let m = child_there items y h.0 c (slice_get items y) refl h.1 in
          let one : p.0 ≡ n.0 = some_one (sym p.1 ∙ n.1) in
          all.behind i x y c (node_of n.0) (node_of m.0) (there_node items i n.0 n.1) (f.0, n.2) (g.0, subst (λ (q : SyntaxNode). slice_get q.children.items g.0 ≡ Some y) one p.2) lt (there_node items y m.0 m.1) (h.0, m.2);
    }
  where
    some_one : {X : Type 0} → {x y : X} → ◌≡◌ {A = Option X} (Some x) (Some y) → x ≡ y
    some_one h = cc
