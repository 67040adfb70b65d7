-- The parts of each node that is read.
use Rattle.std.proofs.Common.{◌≡◌, ℕ, ◌+◌, Bool, true, false, cond, Result, Ok, List, [], ◌∷◌, ◌++◌, refl, sym, ap, ◌∙◌, subst}
use Rattle.c_lexer.specs.declared.Token.{Token}
use Rattle.c_lexer.specs.declared.TokenKind.{TokenKind}
use Rattle.c_grammar.specs.Terminals.{takes}
use Rattle.c_grammar.specs.Tree.{makes_node}
use Rattle.c_grammar.specs.Reads.{State, Fault, Node, leaf, first, taken, scoped, opened, closed, Walks, Opens, at_end, token, no_token, use_of, no_use, choice, no_choice, no_alternative, again, no_again, scope, enough, deep, refused, whole, broken}
use Rattle.parsed_tree_laws.proofs.placed_laws.Once.{Extends}
use Rattle.parsed_tree_laws.proofs.placed_laws.Adding.{All, all_on, row_adds}
use Rattle.parsed_tree_laws.proofs.nesting_laws.Rows.{barred, inner, any_token, free, inner_row, own_row, node_below, leaf_free}

-- a node that may be a part of one of that production
abbrev pub passes : ℕ → Node → Bool
passes p n = free (barred p) n.production

abbrev pub Good : List Node → Node → Type 0
Good nodes n = All (passes n.production) nodes n.children

abbrev pub AllGood : List Node → List Node → Type 0
AllGood nodes [] = Unit {0}
AllGood nodes (n ∷ rest) = Good nodes n × AllGood nodes rest

all_good_on : (a b list : List Node) → Extends a b → AllGood a list → AllGood b list
all_good_on a b [] x g = tt
all_good_on a b (n ∷ list) x g = (all_on (passes n.production) a b n.children x g.0, all_good_on a b list x g.1)

all_more : (a list : List Node) (n : Node) → AllGood a list → Good a n → AllGood a (list ++ n ∷ [])
all_more a [] n g h = (h, tt)
all_more a (m ∷ list) n g h = (g.0, all_more a list n g.1 h)

good_more : (nodes : List Node) (n : Node) → AllGood nodes nodes → Good nodes n → AllGood (nodes ++ n ∷ []) (nodes ++ n ∷ [])
good_more nodes n g h =
    all_more (nodes ++ n ∷ []) nodes n (all_good_on nodes (nodes ++ n ∷ []) nodes (n ∷ [], refl) g) (all_on (passes n.production) nodes (nodes ++ n ∷ []) n.children (n ∷ [], refl) h)

module _ (text : List ℕ) (tokens : List Token) where
  token_passes : (q p : ℕ) (k : TokenKind) (s : State) → any_token k ≡ true → takes p k (first text tokens s) ≡ true → passes q (record { production = leaf; token = s.place; children = [] }) ≡ true
  token_passes q p k s h t = leaf_free q

  node_passes : (q p place : ℕ) (children : List ℕ) → free (barred q) p ≡ true → passes q (record { production = p; token = place; children = children }) ≡ true
  node_passes q p place children h = h

  -- the node of the production that has been read
  own_good : (q place d : ℕ) (s u : State) → makes_node q ≡ true → s.children ≡ [] → Walks text tokens q 0 d s (Ok u) → Good u.nodes (record { production = q; token = place; children = u.children })
  own_good q place d s u node none w =
      let k = row_adds text tokens (passes q) any_token (free (barred q)) (inner q) (token_passes q) (node_passes q) (inner_row q) q 0 d s u w (own_row q (node_below q node)) in
      subst (λ (l : List ℕ). All (passes q) u.nodes l) (sym (k.are ∙ ap (λ (l : List ℕ). l ++ k.new) none)) k.all

  closing : (b : Bool) (q d : ℕ) (s u o x : State) → makes_node q ≡ b → o.nodes ≡ s.nodes → o.children ≡ [] → (x.nodes ≡ u.nodes ++ (record { production = q; token = s.place; children = u.children }) ∷ []) → Walks text tokens q 0 d (cond b o s) (Ok u)
      → (AllGood (cond b o s).nodes (cond b o s).nodes → AllGood u.nodes u.nodes) → AllGood s.nodes s.nodes → AllGood (cond b x u).nodes (cond b x u).nodes
  closing true q d s u o x m en ec fn w k g =
      let n : Node = record { production = q; token = s.place; children = u.children } in
      let inside = k (subst (λ (l : List Node). AllGood l l) (sym en) g) in
      subst (λ (l : List Node). AllGood l l) (sym fn) (good_more u.nodes n inside (own_good q s.place d o u m ec w))
  closing false q d s u o x m en ec fn w k g = k g

  mutual
    walks_good : (p at d : ℕ) (s : State) (r : Result State Fault) → Walks text tokens p at d s r → (t : State) → r ≡ Ok t → AllGood s.nodes s.nodes → AllGood t.nodes t.nodes
    walks_good p at d s r (at_end h) t e g = let f : s ≡ t = cc in subst (λ (x : State). AllGood x.nodes x.nodes) f g
    walks_good p at d s r (token h k w) t e g = walks_good p (at + 1) d (taken text tokens p s) r w t e (good_more s.nodes (record { production = leaf; token = s.place; children = [] }) g tt)
    walks_good p at d s r (no_token h k) t e g = absurd (cc)
    walks_good p at d s r (use_of {q = q} {t = u} h o w) t e g = walks_good p (at + 1) d u r w t e (opens_good q d s (Ok u) o u refl g)
    walks_good p at d s r (no_use h o) t e g = absurd (cc)
    walks_good p at d s r (choice {t = u} h c o w) t e g = walks_good p (at + 1) d u r w t e (opens_good _ d s (Ok u) o u refl g)
    walks_good p at d s r (no_choice h c o) t e g = absurd (cc)
    walks_good p at d s r (no_alternative h c) t e g = absurd (cc)
    walks_good p at d s r (again {q = q} {t = u} h k o w) t e g = walks_good p at d u r w t e (opens_good q d s (Ok u) o u refl g)
    walks_good p at d s r (no_again h k o) t e g = absurd (cc)
    walks_good p at d s r (scope {n = n} h w) t e g = walks_good p (at + 1) d (scoped text tokens p n s) r w t e g
    walks_good p at d s r (enough h k w) t e g = walks_good p (at + 1) d s r w t e g

    opens_good : (q d : ℕ) (s : State) (r : Result State Fault) → Opens text tokens q d s r → (t : State) → r ≡ Ok t → AllGood s.nodes s.nodes → AllGood t.nodes t.nodes
    opens_good q d s r (deep h) t e g = absurd (cc)
    opens_good q d s r (refused h k) t e g = absurd (cc)
    opens_good q d s r (whole {t = u} h k w) t e g =
        let f : closed q s u ≡ t = cc in
        subst (λ (x : State). AllGood x.nodes x.nodes) f (closing (makes_node q) q _ s u _ _ refl refl refl refl w (λ x. walks_good q 0 _ (opened q s) (Ok u) w u refl x) g)
    opens_good q d s r (broken h k w) t e g = absurd (cc)

  -- what is read from nothing on
  pub all_read : (q d : ℕ) (s t : State) → s.nodes ≡ [] → Opens text tokens q d s (Ok t) → AllGood t.nodes t.nodes
  all_read q d s t none o = opens_good q d s (Ok t) o t refl (subst (λ (l : List Node). AllGood l l) (sym none) tt)
