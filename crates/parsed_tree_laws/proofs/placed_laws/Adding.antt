-- What is read of rows that bring parts of one kind alone.
use Rattle.std.proofs.Common.{◌≡◌, ℕ, zero, suc, ◌+◌, Bool, true, false, cond, Result, Ok, List, [], ◌∷◌, ◌++◌, Some, length, slice_get, drop, refl, sym, ap, ◌∙◌, subst, append_assoc, append-nil}
use Rattle.c_lexer.specs.declared.Token.{Token}
use Rattle.c_lexer.specs.declared.TokenKind.{TokenKind}
use Rattle.c_grammar.specs.declared.rows.Item.{Item}
use Rattle.c_grammar.specs.declared.rows.Item.TheVariants as item
use Rattle.c_grammar.specs.Table.{row, item_of}
use Rattle.c_grammar.specs.Terminals.{contains, takes}
use Rattle.c_grammar.specs.Tree.{makes_node}
use Rattle.c_grammar.specs.Reads.{State, Fault, Node, leaf, first, second, taken, scoped, opened, closed, Walks, Opens, at_end, token, no_token, use_of, no_use, choice, no_choice, no_alternative, again, no_again, scope, enough, deep, refused, whole, broken}
use Rattle.parsed_tree_laws.proofs.placed_laws.Rows.{left, right, brings, item_brings, all_bring, from_item, one_chosen, chosen_holds}
use Rattle.parsed_tree_laws.proofs.placed_laws.Once.{Extends, walks_extend}

get_more : (nodes more : List Node) (k : ℕ) (n : Node) → slice_get nodes k ≡ Some n → slice_get (nodes ++ more) k ≡ Some n
get_more [] more k n e = cc
get_more (m ∷ nodes) more zero n e = e
get_more (m ∷ nodes) more (suc k) n e = get_more nodes more k n e

at_last : (nodes : List Node) (n : Node) → slice_get (nodes ++ n ∷ []) (length nodes) ≡ Some n
at_last [] n = refl
at_last (m ∷ nodes) n = at_last nodes n

-- each of some numbers is a node that passes a test
module _ (P : Node → Bool) where
  abbrev pub Is : List Node → ℕ → Type 0
  Is nodes k = (n : Node) × (slice_get nodes k ≡ Some n) × (P n ≡ true)

  abbrev pub All : List Node → List ℕ → Type 0
  All nodes [] = Unit {0}
  All nodes (k ∷ ks) = Is nodes k × All nodes ks

  pub is_on : (a b : List Node) (k : ℕ) → Extends a b → Is a k → Is b k
  is_on a b k x h = (h.0, subst (λ (l : List Node). slice_get l k ≡ Some h.0) (sym x.1) (get_more a x.0 k h.0 h.1), h.2)

  pub all_on : (a b : List Node) (ks : List ℕ) → Extends a b → All a ks → All b ks
  all_on a b [] x h = tt
  all_on a b (k ∷ ks) x h = (is_on a b k x h.0, all_on a b ks x h.1)

  pub all_both : (a : List Node) (ks more : List ℕ) → All a ks → All a more → All a (ks ++ more)
  all_both a [] more h m = m
  all_both a (k ∷ ks) more h m = (h.0, all_both a ks more h.1 m)

  -- some children are added, and each of them passes
  pub record Adds (nodes : List Node) (x y : List ℕ) : Type 0 where
    pub new : List ℕ
    pub are : y ≡ x ++ new
    pub all : All nodes new

  pub adds_none : (a : List Node) (x : List ℕ) → Adds a x x
  adds_none a x = record { new = []; are = sym (append-nil x); all = tt }

  pub adds_then : (a b : List Node) (x y z : List ℕ) → Extends a b → Adds a x y → Adds b y z → Adds b x z
  adds_then a b x y z ext k m = record {
    new = k.new ++ m.new;
    are = m.are ∙ (ap (λ (l : List ℕ). l ++ m.new) k.are ∙ append_assoc x k.new m.new);
    all = all_both b k.new m.new (all_on a b k.new ext k.all) m.all;
  }

  pub adds_last : (a : List Node) (x : List ℕ) (n : Node) → P n ≡ true → Adds (a ++ n ∷ []) x (x ++ length a ∷ [])
  adds_last a x n h = record { new = length a ∷ []; are = refl; all = ((n, at_last a n, h), tt) }

when_true : {A : Type 0} (b : Bool) (x y : A) → b ≡ true → cond b x y ≡ x
when_true true x y e = refl
when_true false x y e = cc

when_false : {A : Type 0} (b : Bool) (x y : A) → b ≡ false → cond b x y ≡ y
when_false true x y e = cc
when_false false x y e = refl

-- rows whose tokens and nodes pass the test
module _
    (text : List ℕ) (tokens : List Token) (P : Node → Bool) (token_brings : TokenKind → Bool) (node_brings : ℕ → Bool) (rows : List ℕ)
    (token_passes : (p : ℕ) (k : TokenKind) (s : State) → token_brings k ≡ true → takes p k (first text tokens s) ≡ true → P (record { production = leaf; token = s.place; children = [] }) ≡ true)
    (node_passes : (q place : ℕ) (children : List ℕ) → node_brings q ≡ true → P (record { production = q; token = place; children = children }) ≡ true)
    (row_passes : (q : ℕ) → contains rows q ≡ true → all_bring token_brings node_brings rows (row q) ≡ true)
  where
    abbrev passes : ℕ → Bool
    passes q = brings token_brings node_brings rows q

    abbrev item_passes : Item → Bool
    item_passes i = item_brings token_brings node_brings rows i

    abbrev all_pass : List Item → Bool
    all_pass items = all_bring token_brings node_brings rows items

    here : (p at : ℕ) (i : Item) → item_of p at ≡ Some i → all_pass (drop at (row p)) ≡ true → item_passes i ≡ true
    here p at i e h = left (item_passes i) (all_pass (drop (at + 1) (row p))) (subst (λ (items : List Item). all_pass items ≡ true) (from_item p at i e) h)

    next : (p at : ℕ) (i : Item) → item_of p at ≡ Some i → all_pass (drop at (row p)) ≡ true → all_pass (drop (at + 1) (row p)) ≡ true
    next p at i e h = right (item_passes i) (all_pass (drop (at + 1) (row p))) (subst (λ (items : List Item). all_pass items ≡ true) (from_item p at i e) h)

    -- a production by whether it makes a node
    closing : (b : Bool) (q : ℕ) (s u o x : State) → makes_node q ≡ b → (x.nodes ≡ u.nodes ++ (record { production = q; token = s.place; children = u.children }) ∷ []) → (x.children ≡ s.children ++ length u.nodes ∷ []) → passes q ≡ true
        → (contains rows q ≡ true → Adds P u.nodes (cond b o s).children u.children) → Adds P (cond b x u).nodes s.children (cond b x u).children
    closing true q s u o x m fn fc h k =
        let n : Node = record { production = q; token = s.place; children = u.children } in
        let r = adds_last P u.nodes s.children n (node_passes q s.place u.children (sym (when_true (makes_node q) (node_brings q) (contains rows q) m) ∙ h)) in
        subst (λ (l : List ℕ). Adds P x.nodes s.children l) (sym fc) (subst (λ (l : List Node). Adds P l s.children (s.children ++ length u.nodes ∷ [])) (sym fn) r)
    closing false q s u o x m fn fc h k = k (sym (when_false (makes_node q) (node_brings q) (contains rows q) m) ∙ h)

    mutual
      walks_add : (p at d : ℕ) (s : State) (r : Result State Fault) → Walks text tokens p at d s r → (t : State) → r ≡ Ok t → all_pass (drop at (row p)) ≡ true → Adds P t.nodes s.children t.children
      walks_add p at d s r (at_end h) t e pass = let f : s ≡ t = cc in subst (λ (x : State). Adds P x.nodes s.children x.children) f (adds_none P s.nodes s.children)
      walks_add p at d s r (token {k = kind} h k w) t e pass =
          let n : Node = record { production = leaf; token = s.place; children = [] } in
          let own = adds_last P s.nodes s.children n (token_passes p kind s (here p at (item.Token kind) h pass) k) in
          let rest = walks_add p (at + 1) d (taken text tokens p s) r w t e (next p at (item.Token kind) h pass) in
          adds_then P (s.nodes ++ n ∷ []) t.nodes s.children (s.children ++ length s.nodes ∷ []) t.children (walks_extend text tokens p (at + 1) d (taken text tokens p s) t (subst (λ (x : Result State Fault). Walks text tokens p (at + 1) d (taken text tokens p s) x) e w)) own rest
      walks_add p at d s r (no_token h k) t e pass = absurd (cc)
      walks_add p at d s r (use_of {q = q} {t = u} h o w) t e pass =
          adds_then P u.nodes t.nodes s.children u.children t.children (walks_extend text tokens p (at + 1) d u t (subst (λ (x : Result State Fault). Walks text tokens p (at + 1) d u x) e w)) (opens_add q d s (Ok u) o u refl (here p at (item.Use q) h pass))
          (walks_add p (at + 1) d u r w t e (next p at (item.Use q) h pass))
      walks_add p at d s r (no_use h o) t e pass = absurd (cc)
      walks_add p at d s r (choice {a = a} {b = b} {q = q} {t = u} h c o w) t e pass =
          adds_then P u.nodes t.nodes s.children u.children t.children (walks_extend text tokens p (at + 1) d u t (subst (λ (x : Result State Fault). Walks text tokens p (at + 1) d u x) e w))
          (opens_add q d s (Ok u) o u refl (chosen_holds passes a b q (one_chosen a b (first text tokens s) (second text tokens s) s.notes q c) (here p at (item.Choice a b) h pass)))
          (walks_add p (at + 1) d u r w t e (next p at (item.Choice a b) h pass))
      walks_add p at d s r (no_choice h c o) t e pass = absurd (cc)
      walks_add p at d s r (no_alternative h c) t e pass = absurd (cc)
      walks_add p at d s r (again {q = q} {t = u} h k o w) t e pass =
          adds_then P u.nodes t.nodes s.children u.children t.children (walks_extend text tokens p at d u t (subst (λ (x : Result State Fault). Walks text tokens p at d u x) e w)) (opens_add q d s (Ok u) o u refl (here p at (item.Repeat q) h pass))
          (walks_add p at d u r w t e pass)
      walks_add p at d s r (no_again h k o) t e pass = absurd (cc)
      walks_add p at d s r (scope {n = n} h w) t e pass = walks_add p (at + 1) d (scoped text tokens p n s) r w t e (next p at (item.Scope n) h pass)
      walks_add p at d s r (enough {q = q} h k w) t e pass = walks_add p (at + 1) d s r w t e (next p at (item.Repeat q) h pass)

      opens_add : (q d : ℕ) (s : State) (r : Result State Fault) → Opens text tokens q d s r → (t : State) → r ≡ Ok t → passes q ≡ true → Adds P t.nodes s.children t.children
      opens_add q d s r (deep h) t e pass = absurd (cc)
      opens_add q d s r (refused h k) t e pass = absurd (cc)
      opens_add q d s r (whole {t = u} h k w) t e pass =
          let f : closed q s u ≡ t = cc in
          subst (λ (x : State). Adds P x.nodes s.children x.children) f (closing (makes_node q) q s u _ _ refl refl refl pass (λ c. walks_add q 0 _ (opened q s) (Ok u) w u refl (row_passes q c)))
      opens_add q d s r (broken h k w) t e pass = absurd (cc)

    pub row_adds : (p at d : ℕ) (s t : State) → Walks text tokens p at d s (Ok t) → all_pass (drop at (row p)) ≡ true → Adds P t.nodes s.children t.children
    row_adds p at d s t w pass = walks_add p at d s (Ok t) w t refl pass

    pub part_adds : (q d : ℕ) (s t : State) → Opens text tokens q d s (Ok t) → passes q ≡ true → Adds P t.nodes s.children t.children
    part_adds q d s t o pass = opens_add q d s (Ok t) o t refl pass
