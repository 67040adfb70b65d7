-- The declarators and fields of a parsed tree.
use Rattle.std.proofs.Common.{◌≡◌, ℕ, ◌+◌, not, Bool, true, false, cond, Result, Ok, List, [], ◌∷◌, ◌++◌, refl, sym, ap, ◌∙◌, subst}
use Rattle.c_lexer.specs.declared.Token.{Token}
use Rattle.c_lexer.specs.declared.TokenKind.{TokenKind}
use Rattle.c_grammar.specs.Terminals.{contains, takes}
use Rattle.c_grammar.specs.Tree.{makes_node}
use Rattle.c_grammar.specs.Reads.{State, Fault, Node, leaf, first, taken, scoped, opened, closed, Walks, Opens, at_end, token, no_token, use_of, no_use, choice, no_choice, no_alternative, again, no_again, scope, enough, deep, refused, whole, broken}
use Rattle.parsed_tree_laws.proofs.placed_laws.Rows.{declarators, declarator_row, field_token, field_node, field_rows, part_row, field_row}
use Rattle.parsed_tree_laws.proofs.placed_laws.Once.{Extends, Sole, opens_sole}
use Rattle.parsed_tree_laws.proofs.placed_laws.Adding.{All, all_on, row_adds}
use Rattle.parsed_tree_laws.proofs.placed_laws.Single.{AtMost, most_on, row_adds_one}

-- no rest of a declaration
abbrev pub is_no_rest : Node → Bool
is_no_rest n = not (contains (2 ∷ []) n.production)

field_tokens : (text : List ℕ) (tokens : List Token) (p : ℕ) (k : TokenKind) (s : State) → field_token k ≡ true → takes p k (first text tokens s) ≡ true → is_no_rest (record { production = leaf; token = s.place; children = [] }) ≡ true
field_tokens text tokens p k s h t = refl

field_nodes : (q place : ℕ) (children : List ℕ) → field_node q ≡ true → is_no_rest (record { production = q; token = place; children = children }) ≡ true
field_nodes q place children h = h

module _ (text : List ℕ) (tokens : List Token) where
  -- a declarator has one name or one declarator in it at most, and a field no rest of a declaration
  pub record Good (nodes : List Node) (n : Node) : Type 0 where
    pub declarator : contains declarators n.production ≡ true → AtMost text tokens nodes n.children
    pub field : n.production ≡ 15 → All is_no_rest nodes n.children

  abbrev pub AllGood : List Node → List Node → Type 0
  AllGood nodes [] = Unit {0}
  AllGood nodes (n ∷ rest) = Good nodes n × AllGood nodes rest

  good_on : (a b : List Node) (n : Node) → Extends a b → Good a n → Good b n
  good_on a b n x g = record { declarator = λ h. most_on text tokens a b n.children x (g.declarator h); field = λ h. all_on is_no_rest a b n.children x (g.field h) }

  all_good_on : (a b list : List Node) → Extends a b → AllGood a list → AllGood b list
  all_good_on a b [] x g = tt
  all_good_on a b (n ∷ list) x g = (good_on a b n x g.0, all_good_on a b list x g.1)

  all_more : (a list : List Node) (n : Node) → AllGood a list → Good a n → AllGood a (list ++ n ∷ [])
  all_more a [] n g h = (h, tt)
  all_more a (m ∷ list) n g h = (g.0, all_more a list n g.1 h)

  good_more : (nodes : List Node) (n : Node) → AllGood nodes nodes → Good nodes n → AllGood (nodes ++ n ∷ []) (nodes ++ n ∷ [])
  good_more nodes n g h = all_more (nodes ++ n ∷ []) nodes n (all_good_on nodes (nodes ++ n ∷ []) nodes (n ∷ [], refl) g) (good_on nodes (nodes ++ n ∷ []) n (n ∷ [], refl) h)

  leaf_good : (nodes : List Node) (place : ℕ) → Good nodes (record { production = leaf; token = place; children = [] })
  leaf_good nodes place = record { declarator = λ h. tt; field = λ h. tt }

  -- the node of a production that has been read
  own_good : (q place d : ℕ) (s u : State) → s.children ≡ [] → Walks text tokens q 0 d s (Ok u) → Good u.nodes (record { production = q; token = place; children = u.children })
  own_good q place d s u none w = record {
    declarator = λ h.
        let k = row_adds_one text tokens q d s u w (declarator_row q h) in
        subst (λ (l : List ℕ). AtMost text tokens u.nodes l) (sym (k.are ∙ ap (λ (l : List ℕ). l ++ k.new) none)) k.most;
    field = λ h.
        let w1 = subst (λ (p : ℕ). Walks text tokens p 0 d s (Ok u)) h w in
        let k = row_adds text tokens is_no_rest field_token field_node field_rows (field_tokens text tokens) field_nodes part_row 15 0 d s u w1 field_row in
        subst (λ (l : List ℕ). All is_no_rest u.nodes l) (sym (k.are ∙ ap (λ (l : List ℕ). l ++ k.new) none)) k.all;
  }

  closing : (b : Bool) (q d : ℕ) (s u o x : State) → o.nodes ≡ s.nodes → o.children ≡ [] → (x.nodes ≡ u.nodes ++ (record { production = q; token = s.place; children = u.children }) ∷ []) → Walks text tokens q 0 d (cond b o s) (Ok u)
      → (AllGood (cond b o s).nodes (cond b o s).nodes → AllGood u.nodes u.nodes) → AllGood s.nodes s.nodes → AllGood (cond b x u).nodes (cond b x u).nodes
  closing true q d s u o x en ec fn w k g =
      let n : Node = record { production = q; token = s.place; children = u.children } in
      let inner = k (subst (λ (l : List Node). AllGood l l) (sym en) g) in
      subst (λ (l : List Node). AllGood l l) (sym fn) (good_more u.nodes n inner (own_good q s.place d o u ec w))
  closing false q d s u o x en ec fn w k g = k g

  mutual
    walks_good : (p at d : ℕ) (s : State) (r : Result State Fault) → Walks text tokens p at d s r → (t : State) → r ≡ Ok t → AllGood s.nodes s.nodes → AllGood t.nodes t.nodes
    walks_good p at d s r (at_end h) t e g = let f : s ≡ t = cc in subst (λ (x : State). AllGood x.nodes x.nodes) f g
    walks_good p at d s r (token h k w) t e g = walks_good p (at + 1) d (taken text tokens p s) r w t e (good_more s.nodes (record { production = leaf; token = s.place; children = [] }) g (leaf_good s.nodes s.place))
    walks_good p at d s r (no_token h k) t e g = absurd (cc)
    walks_good p at d s r (use_of {q = q} {t = u} h o w) t e g = walks_good p (at + 1) d u r w t e (opens_good q d s (Ok u) o u refl g)
    walks_good p at d s r (no_use h o) t e g = absurd (cc)
    walks_good p at d s r (choice {t = u} h c o w) t e g = walks_good p (at + 1) d u r w t e (opens_good _ d s (Ok u) o u refl g)
    walks_good p at d s r (no_choice h c o) t e g = absurd (cc)
    walks_good p at d s r (no_alternative h c) t e g = absurd (cc)
    walks_good p at d s r (again {q = q} {t = u} h k o w) t e g = walks_good p at d u r w t e (opens_good q d s (Ok u) o u refl g)
    walks_good p at d s r (no_again h k o) t e g = absurd (cc)
    walks_good p at d s r (scope {n = n} h w) t e g = walks_good p (at + 1) d (scoped text tokens p n s) r w t e g
    walks_good p at d s r (enough h k w) t e g = walks_good p (at + 1) d s r w t e g

    opens_good : (q d : ℕ) (s : State) (r : Result State Fault) → Opens text tokens q d s r → (t : State) → r ≡ Ok t → AllGood s.nodes s.nodes → AllGood t.nodes t.nodes
    opens_good q d s r (deep h) t e g = absurd (cc)
    opens_good q d s r (refused h k) t e g = absurd (cc)
    opens_good q d s r (whole {t = u} h k w) t e g =
        let f : closed q s u ≡ t = cc in
        subst (λ (x : State). AllGood x.nodes x.nodes) f (closing (makes_node q) q _ s u _ _ refl refl refl w (λ x. walks_good q 0 _ (opened q s) (Ok u) w u refl x) g)
    opens_good q d s r (broken h k w) t e g = absurd (cc)

  -- what is read from nothing on
  pub all_read : (q d : ℕ) (s t : State) → s.nodes ≡ [] → Opens text tokens q d s (Ok t) → AllGood t.nodes t.nodes
  all_read q d s t none o = opens_good q d s (Ok t) o t refl (subst (λ (l : List Node). AllGood l l) (sym none) tt)

  pub once_read : (q d : ℕ) (s t : State) → s.nodes ≡ [] → s.children ≡ [] → Opens text tokens q d s (Ok t) → Sole t.nodes t.children
  once_read q d s t none no_children o = opens_sole text tokens q d s t o (subst (λ (l : List Node). Sole l s.children) (sym none) (subst (λ (l : List ℕ). Sole [] l) (sym no_children) empty))
    where
      empty : Sole [] []
      empty = record { once = λ i j c p q. cc; free = λ i c p h. cc; below = λ i c p. cc; own = λ c h. cc }
