-- A fact of each node of a tree that is read, where reading its production gives it.
use Rattle.std.proofs.Common.{◌≡◌, ◌+◌, ℕ, zero, suc, Bool, true, false, cond, Result, Ok, List, [], ◌∷◌, ◌++◌, Some, slice_get, refl, sym, subst}
use Rattle.c_lexer.specs.declared.Token.{Token}
use Rattle.c_grammar.specs.Tree.{makes_node}
use Rattle.c_grammar.specs.Reads.{State, Fault, Node, leaf, taken, scoped, opened, closed, Walks, Opens, at_end, token, no_token, use_of, no_use, choice, no_choice, no_alternative, again, no_again, scope, enough, deep, refused, whole, broken}
use Rattle.core_node_laws.proofs.count_laws.passed.parsed_tree_laws.nesting_laws.PassedOn.{Extends}

module _
    (text : List ℕ) (tokens : List Token) (Good : List Node → Node → Type 0)
    (good_on : (a b : List Node) (n : Node) → Extends a b → Good a n → Good b n)
    (leaf_good : (nodes : List Node) (place : ℕ) → Good nodes (record { production = leaf; token = place; children = [] }))
    (own_good : (q d : ℕ) (s u : State) → makes_node q ≡ true → Walks text tokens q 0 d (opened q s) (Ok u) → Good u.nodes (record { production = q; token = s.place; children = u.children }))
  where
    abbrev pub AllGood : List Node → List Node → Type 0
    AllGood nodes [] = Unit {0}
    AllGood nodes (n ∷ rest) = Good nodes n × AllGood nodes rest

    all_good_on : (a b list : List Node) → Extends a b → AllGood a list → AllGood b list
    all_good_on a b [] x g = tt
    all_good_on a b (n ∷ list) x g = (good_on a b n x g.0, all_good_on a b list x g.1)

    all_more : (a list : List Node) (n : Node) → AllGood a list → Good a n → AllGood a (list ++ n ∷ [])
    all_more a [] n g h = (h, tt)
    all_more a (m ∷ list) n g h = (g.0, all_more a list n g.1 h)

    good_more : (nodes : List Node) (n : Node) → AllGood nodes nodes → Good nodes n → AllGood (nodes ++ n ∷ []) (nodes ++ n ∷ [])
    good_more nodes n g h = all_more (nodes ++ n ∷ []) nodes n (all_good_on nodes (nodes ++ n ∷ []) nodes (n ∷ [], refl) g) (good_on nodes (nodes ++ n ∷ []) n (n ∷ [], refl) h)

    opened_nodes : (b : Bool) (o s : State) → o.nodes ≡ s.nodes → (cond b o s).nodes ≡ s.nodes
    opened_nodes true o s e = e
    opened_nodes false o s e = refl

    closing : (b : Bool) (q d : ℕ) (s u x : State) → makes_node q ≡ b → (x.nodes ≡ u.nodes ++ (record { production = q; token = s.place; children = u.children }) ∷ []) → Walks text tokens q 0 d (opened q s) (Ok u)
        → AllGood u.nodes u.nodes → AllGood (cond b x u).nodes (cond b x u).nodes
    closing true q d s u x m fn w g = subst (λ (l : List Node). AllGood l l) (sym fn) (good_more u.nodes (record { production = q; token = s.place; children = u.children }) g (own_good q d s u m w))
    closing false q d s u x m fn w g = g

    mutual
      walks_good : (p at d : ℕ) (s : State) (r : Result State Fault) → Walks text tokens p at d s r → (t : State) → r ≡ Ok t → AllGood s.nodes s.nodes → AllGood t.nodes t.nodes
      walks_good p at d s r (at_end h) t e g = let f : s ≡ t = cc in subst (λ (x : State). AllGood x.nodes x.nodes) f g
      walks_good p at d s r (token h k w) t e g = walks_good p (at + 1) d (taken text tokens p s) r w t e (good_more s.nodes (record { production = leaf; token = s.place; children = [] }) g (leaf_good s.nodes s.place))
      walks_good p at d s r (no_token h k) t e g = absurd (cc)
      walks_good p at d s r (use_of {q = q} {t = u} h o w) t e g = walks_good p (at + 1) d u r w t e (opens_good q d s (Ok u) o u refl g)
      walks_good p at d s r (no_use h o) t e g = absurd (cc)
      walks_good p at d s r (choice {t = u} h c o w) t e g = walks_good p (at + 1) d u r w t e (opens_good _ d s (Ok u) o u refl g)
      walks_good p at d s r (no_choice h c o) t e g = absurd (cc)
      walks_good p at d s r (no_alternative h c) t e g = absurd (cc)
      walks_good p at d s r (again {q = q} {t = u} h k o w) t e g = walks_good p at d u r w t e (opens_good q d s (Ok u) o u refl g)
      walks_good p at d s r (no_again h k o) t e g = absurd (cc)
      walks_good p at d s r (scope {n = n} h w) t e g = walks_good p (at + 1) d (scoped text tokens p n s) r w t e g
      walks_good p at d s r (enough h k w) t e g = walks_good p (at + 1) d s r w t e g

      opens_good : (q d : ℕ) (s : State) (r : Result State Fault) → Opens text tokens q d s r → (t : State) → r ≡ Ok t → AllGood s.nodes s.nodes → AllGood t.nodes t.nodes
      opens_good q d s r (deep h) t e g = absurd (cc)
      opens_good q d s r (refused h k) t e g = absurd (cc)
      opens_good q d s r (whole {t = u} h k w) t e g =
          let f : closed q s u ≡ t = cc in
          let begun : AllGood (opened q s).nodes (opened q s).nodes = subst (λ (l : List Node). AllGood l l) (sym (opened_nodes (makes_node q) _ s refl)) g in
          subst (λ (x : State). AllGood x.nodes x.nodes) f (closing (makes_node q) q _ s u _ refl refl w (walks_good q 0 _ (opened q s) (Ok u) w u refl begun))
      opens_good q d s r (broken h k w) t e g = absurd (cc)

    at_each : (nodes list : List Node) (i : ℕ) (n : Node) → AllGood nodes list → slice_get list i ≡ Some n → Good nodes n
    at_each nodes [] i n g e = cc
    at_each nodes (m ∷ list) zero n g e = let same : m ≡ n = cc in subst (Good nodes) same g.0
    at_each nodes (m ∷ list) (suc i) n g e = at_each nodes list i n g.1 e

    -- each node of what is read from nothing on
    pub every : (q d : ℕ) (s t : State) → s.nodes ≡ [] → Opens text tokens q d s (Ok t) → (i : ℕ) (n : Node) → slice_get t.nodes i ≡ Some n → Good t.nodes n
    every q d s t none o i n e = at_each t.nodes t.nodes i n (opens_good q d s (Ok t) o t refl (subst (λ (l : List Node). AllGood l l) (sym none) tt)) e
