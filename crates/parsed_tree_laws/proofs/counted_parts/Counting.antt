-- How many of the parts that rows bring pass a test, at most.
use Rattle.std.proofs.Common.{arith, ◌≡◌, ◌<◌, ◌≤◌, ◌+◌, ℕ, zero, suc, nat_eq, Bool, true, false, ◌&&◌, cond, Result, Ok, List, [], ◌∷◌, ◌++◌, Option, Some, None, length, slice_get, drop, refl, sym, ap, ◌∙◌, subst, append_assoc, append-nil, inl, inr}
use Rattle.std.specs.Prelude.{nat_le}
use Rattle.std.proofs.lemmas.Bool.{eqb-true, leb-true, leb-false}
use Rattle.c_lexer.specs.declared.Token.{Token}
use Rattle.c_lexer.specs.declared.TokenKind.{TokenKind}
use Rattle.c_grammar.specs.declared.rows.Item.{Item}
use Rattle.c_grammar.specs.declared.rows.Item.TheVariants as item
use Rattle.c_grammar.specs.Table.{row, item_of}
use Rattle.c_grammar.specs.Terminals.{takes}
use Rattle.c_grammar.specs.Tree.{makes_node}
use Rattle.c_grammar.specs.Reads.{State, Fault, Node, leaf, first, second, taken, scoped, opened, closed, Walks, Opens, at_end, token, no_token, use_of, no_use, choice, no_choice, no_alternative, again, no_again, scope, enough, deep, refused, whole, broken}
use Rattle.parsed_tree_laws.proofs.counted_parts.Steps.{left, right, from_item, one_chosen, Extends, walks_extend}

abbrev pub number : Bool → ℕ
number true = 1
number false = 0

number_small : (b : Bool) → number b ≤ 1
number_small true = omega arith
number_small false = omega arith

get_more : (nodes more : List Node) (k : ℕ) (n : Node) → slice_get nodes k ≡ Some n → slice_get (nodes ++ more) k ≡ Some n
get_more [] more k n e = cc
get_more (m ∷ nodes) more zero n e = e
get_more (m ∷ nodes) more (suc k) n e = get_more nodes more k n e

at_last : (nodes : List Node) (n : Node) → slice_get (nodes ++ n ∷ []) (length nodes) ≡ Some n
at_last [] n = refl
at_last (m ∷ nodes) n = at_last nodes n

when_true : {A : Type 0} (b : Bool) (x y : A) → b ≡ true → cond b x y ≡ x
when_true true x y e = refl
when_true false x y e = cc

when_false : {A : Type 0} (b : Bool) (x y : A) → b ≡ false → cond b x y ≡ y
when_false true x y e = cc
when_false false x y e = refl

-- how many numbers are nodes that pass; one that is no node counts
module _ (P : Node → Bool) where
  abbrev pub passes_in : Option Node → Bool
  passes_in None = true
  passes_in (Some n) = P n

  abbrev pub tally : List Node → List ℕ → ℕ
  tally nodes [] = 0
  tally nodes (k ∷ ks) = number (passes_in (slice_get nodes k)) + tally nodes ks

  pub tally_on : (a b : List Node) (ks : List ℕ) → Extends a b → tally b ks ≤ tally a ks
  tally_on a b [] x = omega arith
  tally_on a b (k ∷ ks) x =
      let one = by (slice_get a k) refl in
      let more = tally_on a b ks x in
      omega (arith, one, more)
    where
      by : (o : Option Node) → slice_get a k ≡ o → number (passes_in (slice_get b k)) ≤ number (passes_in (slice_get a k))
      by None e = let own : number (passes_in (slice_get a k)) ≡ 1 = ap (λ (o : Option Node). number (passes_in o)) e in let small = number_small (passes_in (slice_get b k)) in omega (arith, own, small)
      by (Some n) e =
          let there : slice_get b k ≡ Some n = subst (λ (l : List Node). slice_get l k ≡ Some n) (sym x.1) (get_more a x.0 k n e) in
          let same : number (passes_in (slice_get b k)) ≡ number (passes_in (slice_get a k)) = ap (λ (o : Option Node). number (passes_in o)) (there ∙ sym e) in
          omega (arith, same)

  tally_both : (nodes : List Node) (xs ys : List ℕ) → tally nodes (xs ++ ys) ≡ tally nodes xs + tally nodes ys
  tally_both nodes [] ys = omega arith
  tally_both nodes (x ∷ xs) ys = let more = tally_both nodes xs ys in omega (arith, more)

  -- some children are added, of which so many pass at most
  pub record Adds (nodes : List Node) (x y : List ℕ) (most : ℕ) : Type 0 where
    pub new : List ℕ
    pub are : y ≡ x ++ new
    pub few : tally nodes new ≤ most

  adds_none : (a : List Node) (x : List ℕ) (c : ℕ) → Adds a x x c
  adds_none a x c = record { new = []; are = sym (append-nil x); few = omega arith }

  adds_then : (a b : List Node) (x y z : List ℕ) (c d e : ℕ) → Extends a b → c + d ≤ e → Adds a x y c → Adds b y z d → Adds b x z e
  adds_then a b x y z c d e ext sum k m =
      let on = tally_on a b k.new ext in
      let both = tally_both b k.new m.new in
      record {
        new = k.new ++ m.new;
        are = m.are ∙ (ap (λ (l : List ℕ). l ++ m.new) k.are ∙ append_assoc x k.new m.new);
        few = omega (arith, on, both, sum, k.few, m.few);
      }

  adds_last : (a : List Node) (x : List ℕ) (n : Node) (c : ℕ) → number (P n) ≤ c → Adds (a ++ n ∷ []) x (x ++ length a ∷ []) c
  adds_last a x n c h =
      let own : number (passes_in (slice_get (a ++ n ∷ []) (length a))) ≡ number (P n) = ap (λ (o : Option Node). number (passes_in o)) (at_last a n) in
      record { new = length a ∷ []; are = refl; few = omega (arith, own, h) }

-- what a row brings at most, where tokens, nodes, and productions without a node bring so many
module _ (token_cost : TokenKind → ℕ) (node_cost : ℕ → ℕ) (bounds : List (ℕ × ℕ)) where
  abbrev pub bound_in : List (ℕ × ℕ) → ℕ → ℕ
  bound_in [] q = 1000
  bound_in (b ∷ rest) q = cond (nat_eq b.0 q) b.1 (bound_in rest q)

  abbrev pub cost : ℕ → ℕ
  cost q = cond (makes_node q) (node_cost q) (bound_in bounds q)

  abbrev pub larger : ℕ → ℕ → ℕ
  larger a b = cond (nat_le a b) b a

  abbrev pub item_cost : Item → ℕ
  item_cost (item.Token k) = token_cost k
  item_cost (item.Use q) = cost q
  item_cost (item.Choice a b) = larger (cost a) (cost b)
  item_cost (item.Repeat q) = cond (nat_eq (cost q) 0) 0 1000
  item_cost (item.Scope n) = 0

  abbrev pub items_cost : List Item → ℕ
  items_cost [] = 0
  items_cost (i ∷ items) = item_cost i + items_cost items

  abbrev pub row_cost : ℕ → ℕ
  row_cost p = items_cost (row p)

  abbrev pub bounded : List (ℕ × ℕ) → Bool
  bounded [] = true
  bounded (b ∷ rest) = nat_le (row_cost b.0) b.1 && bounded rest

  row_bounded : (list : List (ℕ × ℕ)) (q : ℕ) → bounded list ≡ true → bound_in list q < 1000 → row_cost q ≤ bound_in list q
  row_bounded [] q h lt = absurd (omega (arith, lt))
  row_bounded (b ∷ rest) q h lt = by (nat_eq b.0 q) refl lt (row_bounded rest q (right (nat_le (row_cost b.0) b.1) (bounded rest) h))
    where
      by : (x : Bool) → nat_eq b.0 q ≡ x → cond x b.1 (bound_in rest q) < 1000 → (bound_in rest q < 1000 → row_cost q ≤ bound_in rest q) → row_cost q ≤ cond x b.1 (bound_in rest q)
      by true e lt later = subst (λ (p : ℕ). row_cost p ≤ b.1) (eqb-true b.0 q e) (leb-true (row_cost b.0) b.1 (left (nat_le (row_cost b.0) b.1) (bounded rest) h))
      by false e lt later = later lt

  larger_left : (a b : ℕ) → a ≤ larger a b
  larger_left a b = by (nat_le a b) refl
    where
      by : (x : Bool) → nat_le a b ≡ x → a ≤ cond x b a
      by true e = leb-true a b e
      by false e = omega arith

  larger_right : (a b : ℕ) → b ≤ larger a b
  larger_right a b = by (nat_le a b) refl
    where
      by : (x : Bool) → nat_le a b ≡ x → b ≤ cond x b a
      by true e = omega arith
      by false e = let lt = leb-false a b e in omega (arith, lt)

  repeated : (c : ℕ) → cond (nat_eq c 0) 0 1000 < 1000 → c ≡ 0
  repeated c lt = by (nat_eq c 0) refl lt
    where
      by : (x : Bool) → nat_eq c 0 ≡ x → cond x 0 1000 < 1000 → c ≡ 0
      by true e lt = eqb-true c 0 e
      by false e lt = absurd (omega (arith, lt))

  module _
      (text : List ℕ) (tokens : List Token) (P : Node → Bool)
      (token_counts : (p : ℕ) (k : TokenKind) (s : State) → takes p k (first text tokens s) ≡ true → number (P (record { production = leaf; token = s.place; children = [] })) ≤ token_cost k)
      (node_counts : (q place : ℕ) (children : List ℕ) → makes_node q ≡ true → number (P (record { production = q; token = place; children = children })) ≤ node_cost q) (all_bounded : bounded bounds ≡ true)
    where
      costs : (p at : ℕ) (i : Item) → item_of p at ≡ Some i → items_cost (drop at (row p)) ≡ item_cost i + items_cost (drop (at + 1) (row p))
      costs p at i e = ap (λ (l : List Item). items_cost l) (from_item p at i e)

      -- a production by whether it makes a node
      closing : (b : Bool) (q c : ℕ) (s u o x : State) → makes_node q ≡ b → (x.nodes ≡ u.nodes ++ (record { production = q; token = s.place; children = u.children }) ∷ []) → (x.children ≡ s.children ++ length u.nodes ∷ []) → cost q ≤ c → c < 1000
          → (row_cost q ≤ c → Adds P u.nodes (cond b o s).children u.children c) → Adds P (cond b x u).nodes s.children (cond b x u).children c
      closing true q c s u o x m fn fc h lt k =
          let n : Node = record { production = q; token = s.place; children = u.children } in
          let own = node_counts q s.place u.children m in
          let at : cost q ≡ node_cost q = when_true (makes_node q) (node_cost q) (bound_in bounds q) m in
          let r = adds_last P u.nodes s.children n c (omega (arith, own, at, h)) in
          subst (λ (l : List ℕ). Adds P x.nodes s.children l c) (sym fc) (subst (λ (l : List Node). Adds P l s.children (s.children ++ length u.nodes ∷ []) c) (sym fn) r)
      closing false q c s u o x m fn fc h lt k =
          let at : cost q ≡ bound_in bounds q = when_false (makes_node q) (node_cost q) (bound_in bounds q) m in
          let fits = row_bounded bounds q all_bounded (omega (arith, at, h, lt)) in
          k (omega (arith, fits, at, h))

      mutual
        walks_add : (p at d : ℕ) (s : State) (r : Result State Fault) → Walks text tokens p at d s r → (t : State) → r ≡ Ok t → (c : ℕ) → items_cost (drop at (row p)) ≤ c → c < 1000 → Adds P t.nodes s.children t.children c
        walks_add p at d s r (at_end h) t e c h2 lt = let f : s ≡ t = cc in subst (λ (x : State). Adds P x.nodes s.children x.children c) f (adds_none P s.nodes s.children c)
        walks_add p at d s r (token {k = kind} h k w) t e c h2 lt =
            let n : Node = record { production = leaf; token = s.place; children = [] } in
            let sum = costs p at (item.Token kind) h in
            let rest = items_cost (drop (at + 1) (row p)) in
            let own = adds_last P s.nodes s.children n (token_cost kind) (token_counts p kind s k) in
            let later = walks_add p (at + 1) d (taken text tokens p s) r w t e rest (omega arith) (omega (arith, sum, h2, lt)) in
            adds_then P (s.nodes ++ n ∷ []) t.nodes s.children (s.children ++ length s.nodes ∷ []) t.children (token_cost kind) rest c
            (walks_extend text tokens p (at + 1) d (taken text tokens p s) t (subst (λ (x : Result State Fault). Walks text tokens p (at + 1) d (taken text tokens p s) x) e w)) (omega (arith, sum, h2)) own later
        walks_add p at d s r (no_token h k) t e c h2 lt = absurd (cc)
        walks_add p at d s r (use_of {q = q} {t = u} h o w) t e c h2 lt =
            let sum = costs p at (item.Use q) h in
            let rest = items_cost (drop (at + 1) (row p)) in
            adds_then P u.nodes t.nodes s.children u.children t.children (cost q) rest c (walks_extend text tokens p (at + 1) d u t (subst (λ (x : Result State Fault). Walks text tokens p (at + 1) d u x) e w)) (omega (arith, sum, h2))
            (opens_add q d s (Ok u) o u refl (cost q) (omega arith) (omega (arith, sum, h2, lt))) (walks_add p (at + 1) d u r w t e rest (omega arith) (omega (arith, sum, h2, lt)))
        walks_add p at d s r (no_use h o) t e c h2 lt = absurd (cc)
        walks_add p at d s r (choice {a = a} {b = b} {q = q} {t = u} h ch o w) t e c h2 lt =
            let sum = costs p at (item.Choice a b) h in
            let rest = items_cost (drop (at + 1) (row p)) in
            let most = larger (cost a) (cost b) in
            let fits : cost q ≤ most = elim (one_chosen a b (first text tokens s) (second text tokens s) s.notes q ch) [
              | inl same ↦ subst (λ (x : ℕ). cost x ≤ most) same (larger_left (cost a) (cost b))
              | inr same ↦ subst (λ (x : ℕ). cost x ≤ most) same (larger_right (cost a) (cost b))
            ] in
            adds_then P u.nodes t.nodes s.children u.children t.children most rest c (walks_extend text tokens p (at + 1) d u t (subst (λ (x : Result State Fault). Walks text tokens p (at + 1) d u x) e w)) (omega (arith, sum, h2))
            (opens_add q d s (Ok u) o u refl most fits (omega (arith, sum, h2, lt))) (walks_add p (at + 1) d u r w t e rest (omega arith) (omega (arith, sum, h2, lt)))
        walks_add p at d s r (no_choice h ch o) t e c h2 lt = absurd (cc)
        walks_add p at d s r (no_alternative h ch) t e c h2 lt = absurd (cc)
        walks_add p at d s r (again {q = q} {t = u} h k o w) t e c h2 lt =
            let sum = costs p at (item.Repeat q) h in
            let none : cost q ≡ 0 = repeated (cost q) (omega (arith, sum, h2, lt)) in
            adds_then P u.nodes t.nodes s.children u.children t.children 0 c c (walks_extend text tokens p at d u t (subst (λ (x : Result State Fault). Walks text tokens p at d u x) e w)) (omega arith)
            (opens_add q d s (Ok u) o u refl 0 (omega (arith, none)) (omega arith)) (walks_add p at d u r w t e c h2 lt)
        walks_add p at d s r (no_again h k o) t e c h2 lt = absurd (cc)
        walks_add p at d s r (scope {n = n} h w) t e c h2 lt = let sum = costs p at (item.Scope n) h in walks_add p (at + 1) d (scoped text tokens p n s) r w t e c (omega (arith, sum, h2)) lt
        walks_add p at d s r (enough {q = q} h k w) t e c h2 lt = let sum = costs p at (item.Repeat q) h in walks_add p (at + 1) d s r w t e c (omega (arith, sum, h2)) lt

        opens_add : (q d : ℕ) (s : State) (r : Result State Fault) → Opens text tokens q d s r → (t : State) → r ≡ Ok t → (c : ℕ) → cost q ≤ c → c < 1000 → Adds P t.nodes s.children t.children c
        opens_add q d s r (deep h) t e c h2 lt = absurd (cc)
        opens_add q d s r (refused h k) t e c h2 lt = absurd (cc)
        opens_add q d s r (whole {t = u} h k w) t e c h2 lt =
            let f : closed q s u ≡ t = cc in
            subst (λ (x : State). Adds P x.nodes s.children x.children c) f (closing (makes_node q) q c s u _ _ refl refl refl h2 lt (λ fits. walks_add q 0 _ (opened q s) (Ok u) w u refl c fits lt))
        opens_add q d s r (broken h k w) t e c h2 lt = absurd (cc)

      -- ---- each node that is read

      abbrev pub Good : List Node → Node → Type 0
      Good nodes n = row_cost n.production < 1000 → tally P nodes n.children ≤ row_cost n.production

      abbrev pub AllGood : List Node → List Node → Type 0
      AllGood nodes [] = Unit {0}
      AllGood nodes (n ∷ rest) = Good nodes n × AllGood nodes rest

      good_on : (a b : List Node) (n : Node) → Extends a b → Good a n → Good b n
      good_on a b n x g lt = let own = g lt in let on = tally_on P a b n.children x in omega (arith, own, on)

      all_good_on : (a b list : List Node) → Extends a b → AllGood a list → AllGood b list
      all_good_on a b [] x g = tt
      all_good_on a b (n ∷ list) x g = (good_on a b n x g.0, all_good_on a b list x g.1)

      all_more : (a list : List Node) (n : Node) → AllGood a list → Good a n → AllGood a (list ++ n ∷ [])
      all_more a [] n g h = (h, tt)
      all_more a (m ∷ list) n g h = (g.0, all_more a list n g.1 h)

      good_more : (nodes : List Node) (n : Node) → AllGood nodes nodes → Good nodes n → AllGood (nodes ++ n ∷ []) (nodes ++ n ∷ [])
      good_more nodes n g h = all_more (nodes ++ n ∷ []) nodes n (all_good_on nodes (nodes ++ n ∷ []) nodes (n ∷ [], refl) g) (good_on nodes (nodes ++ n ∷ []) n (n ∷ [], refl) h)

      own_good : (q place d : ℕ) (s u : State) → s.children ≡ [] → Walks text tokens q 0 d s (Ok u) → Good u.nodes (record { production = q; token = place; children = u.children })
      own_good q place d s u none w lt =
          let k = walks_add q 0 d s (Ok u) w u refl (row_cost q) (omega arith) lt in
          let same : u.children ≡ k.new = k.are ∙ ap (λ (l : List ℕ). l ++ k.new) none in
          subst (λ (l : List ℕ). tally P u.nodes l ≤ row_cost q) (sym same) k.few

      good_closing : (b : Bool) (q d : ℕ) (s u o x : State) → o.nodes ≡ s.nodes → o.children ≡ [] → (x.nodes ≡ u.nodes ++ (record { production = q; token = s.place; children = u.children }) ∷ []) → Walks text tokens q 0 d (cond b o s) (Ok u)
          → (AllGood (cond b o s).nodes (cond b o s).nodes → AllGood u.nodes u.nodes) → AllGood s.nodes s.nodes → AllGood (cond b x u).nodes (cond b x u).nodes
      good_closing true q d s u o x en ec fn w k g =
          let n : Node = record { production = q; token = s.place; children = u.children } in
          let inside = k (subst (λ (l : List Node). AllGood l l) (sym en) g) in
          subst (λ (l : List Node). AllGood l l) (sym fn) (good_more u.nodes n inside (own_good q s.place d o u ec w))
      good_closing false q d s u o x en ec fn w k g = k g

      mutual
        walks_good : (p at d : ℕ) (s : State) (r : Result State Fault) → Walks text tokens p at d s r → (t : State) → r ≡ Ok t → AllGood s.nodes s.nodes → AllGood t.nodes t.nodes
        walks_good p at d s r (at_end h) t e g = let f : s ≡ t = cc in subst (λ (x : State). AllGood x.nodes x.nodes) f g
        walks_good p at d s r (token h k w) t e g = walks_good p (at + 1) d (taken text tokens p s) r w t e (good_more s.nodes (record { production = leaf; token = s.place; children = [] }) g (λ lt. omega arith))
        walks_good p at d s r (no_token h k) t e g = absurd (cc)
        walks_good p at d s r (use_of {q = q} {t = u} h o w) t e g = walks_good p (at + 1) d u r w t e (opens_good q d s (Ok u) o u refl g)
        walks_good p at d s r (no_use h o) t e g = absurd (cc)
        walks_good p at d s r (choice {t = u} h c o w) t e g = walks_good p (at + 1) d u r w t e (opens_good _ d s (Ok u) o u refl g)
        walks_good p at d s r (no_choice h c o) t e g = absurd (cc)
        walks_good p at d s r (no_alternative h c) t e g = absurd (cc)
        walks_good p at d s r (again {q = q} {t = u} h k o w) t e g = walks_good p at d u r w t e (opens_good q d s (Ok u) o u refl g)
        walks_good p at d s r (no_again h k o) t e g = absurd (cc)
        walks_good p at d s r (scope {n = n} h w) t e g = walks_good p (at + 1) d (scoped text tokens p n s) r w t e g
        walks_good p at d s r (enough h k w) t e g = walks_good p (at + 1) d s r w t e g

        opens_good : (q d : ℕ) (s : State) (r : Result State Fault) → Opens text tokens q d s r → (t : State) → r ≡ Ok t → AllGood s.nodes s.nodes → AllGood t.nodes t.nodes
        opens_good q d s r (deep h) t e g = absurd (cc)
        opens_good q d s r (refused h k) t e g = absurd (cc)
        opens_good q d s r (whole {t = u} h k w) t e g =
            let f : closed q s u ≡ t = cc in
            subst (λ (x : State). AllGood x.nodes x.nodes) f (good_closing (makes_node q) q _ s u _ _ refl refl refl w (λ x. walks_good q 0 _ (opened q s) (Ok u) w u refl x) g)
        opens_good q d s r (broken h k w) t e g = absurd (cc)

      pub all_read : (q d : ℕ) (s t : State) → s.nodes ≡ [] → Opens text tokens q d s (Ok t) → AllGood t.nodes t.nodes
      all_read q d s t none o = opens_good q d s (Ok t) o t refl (subst (λ (l : List Node). AllGood l l) (sym none) tt)
