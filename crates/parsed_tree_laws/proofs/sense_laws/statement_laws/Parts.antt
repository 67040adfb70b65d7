-- The children of blocks and statements as they are read.
use Rattle.std.proofs.Common.{◌≡◌, ℕ, zero, suc, ◌+◌, Bool, true, false, ◌&&◌, ◌||◌, cond, Result, Ok, Some, List, [], ◌∷◌, ◌++◌, length, drop, slice_get, refl, sym, ap, ◌∙◌, subst, append_assoc, append-nil, ◌⊎◌, inl, inr}
use Rattle.c_lexer.specs.declared.Token.{Token}
use Rattle.c_grammar.specs.declared.rows.Item.{Item}
use Rattle.c_grammar.specs.declared.rows.Item.TheVariants as item
use Rattle.c_grammar.specs.Table.{row, item_of}
use Rattle.c_grammar.specs.Terminals.{contains}
use Rattle.c_grammar.specs.Tree.{makes_node}
use Rattle.c_grammar.specs.Reads.{State, Fault, Node, leaf, first, second, scoped, opened, closed, Walks, Opens, at_end, token, no_token, use_of, no_use, choice, no_choice, no_alternative, again, no_again, scope, enough, deep, refused, whole, broken}
use Rattle.parsed_tree_laws.proofs.sense_laws.statement_laws.Rows.{left, right, brings, first_brings, block_rows, block_children, statement_rows, statement_children, statement_row_begins, item_in, from_item, one_of}

-- a child is a node of one of these productions
abbrev pub IsOf : List ℕ → List Node → ℕ → Type 0
IsOf list nodes k = (n : Node) × (slice_get nodes k ≡ Some n) × (contains list n.production ≡ true)

abbrev pub AreOf : List ℕ → List Node → List ℕ → Type 0
AreOf list nodes [] = Unit {0}
AreOf list nodes (k ∷ ks) = IsOf list nodes k × AreOf list nodes ks

abbrev pub FirstOf : List ℕ → List Node → List ℕ → Type 0
FirstOf list nodes [] = Unit {0}
FirstOf list nodes (k ∷ ks) = IsOf list nodes k

-- a block and a statement have the parts that they may have
pub record Good (nodes : List Node) (n : Node) : Type 0 where
  pub blocks : n.production ≡ 29 → AreOf block_children nodes n.children
  pub statements : n.production ≡ 30 → FirstOf statement_children nodes n.children

abbrev pub AllGood : List Node → List Node → Type 0
AllGood nodes [] = Unit {0}
AllGood nodes (n ∷ rest) = Good nodes n × AllGood nodes rest

abbrev Extends : List Node → List Node → Type 0
Extends before nodes = (more : List Node) × (nodes ≡ before ++ more)

abbrev Appends : List ℕ → List ℕ → Type 0
Appends before children = (more : List ℕ) × (children ≡ before ++ more)

-- nodes stay as more are added
get_more : (nodes more : List Node) (k : ℕ) (n : Node) → slice_get nodes k ≡ Some n → slice_get (nodes ++ more) k ≡ Some n
get_more [] more k n e = cc
get_more (m ∷ nodes) more zero n e = e
get_more (m ∷ nodes) more (suc k) n e = get_more nodes more k n e

at_last : (nodes : List Node) (n : Node) → slice_get (nodes ++ n ∷ []) (length nodes) ≡ Some n
at_last [] n = refl
at_last (m ∷ nodes) n = at_last nodes n

is_on : (list : List ℕ) (a b : List Node) (k : ℕ) → Extends a b → IsOf list a k → IsOf list b k
is_on list a b k x h = (h.0, subst (λ (l : List Node). slice_get l k ≡ Some h.0) (sym x.1) (get_more a x.0 k h.0 h.1), h.2)

are_on : (list : List ℕ) (a b : List Node) (ks : List ℕ) → Extends a b → AreOf list a ks → AreOf list b ks
are_on list a b [] x h = tt
are_on list a b (k ∷ ks) x h = (is_on list a b k x h.0, are_on list a b ks x h.1)

first_on : (list : List ℕ) (a b : List Node) (ks : List ℕ) → Extends a b → FirstOf list a ks → FirstOf list b ks
first_on list a b [] x h = tt
first_on list a b (k ∷ ks) x h = is_on list a b k x h

are_more : (list : List ℕ) (a : List Node) (ks : List ℕ) (k : ℕ) → AreOf list a ks → IsOf list a k → AreOf list a (ks ++ k ∷ [])
are_more list a [] k h i = (i, tt)
are_more list a (c ∷ ks) k h i = (h.0, are_more list a ks k h.1 i)

good_on : (a b : List Node) (n : Node) → Extends a b → Good a n → Good b n
good_on a b n x g = record {
  blocks = λ e. are_on block_children a b n.children x (g.blocks e);
  statements = λ e. first_on statement_children a b n.children x (g.statements e);
}

all_on : (a b list : List Node) → Extends a b → AllGood a list → AllGood b list
all_on a b [] x g = tt
all_on a b (n ∷ list) x g = (good_on a b n x g.0, all_on a b list x g.1)

all_more : (a list : List Node) (n : Node) → AllGood a list → Good a n → AllGood a (list ++ n ∷ [])
all_more a [] n g h = (h, tt)
all_more a (m ∷ list) n g h = (g.0, all_more a list n g.1 h)

-- one node more
good_more : (nodes : List Node) (n : Node) → AllGood nodes nodes → Good (nodes ++ n ∷ []) n → AllGood (nodes ++ n ∷ []) (nodes ++ n ∷ [])
good_more nodes n g h = all_more (nodes ++ n ∷ []) nodes n (all_on nodes (nodes ++ n ∷ []) nodes (n ∷ [], refl) g) h

same : (nodes : List Node) → Extends nodes nodes
same nodes = ([], sym (append-nil nodes))

then : (a b c : List Node) → Extends a b → Extends b c → Extends a c
then a b c x y = (x.0 ++ y.0, y.1 ∙ (ap (λ (l : List Node). l ++ y.0) x.1 ∙ append_assoc a x.0 y.0))

-- what a reading leaves of nodes and children
record Keeps (a b : List Node) (x y : List ℕ) : Type 0 where
  extends : Extends a b
  good : AllGood a a → AllGood b b
  appends : Appends x y

keeps_then : (a b c : List Node) (x y z : List ℕ) → Keeps a b x y → Keeps b c y z → Keeps a c x z
keeps_then a b c x y z k m = record {
  extends = then a b c k.extends m.extends;
  good = λ g. m.good (k.good g);
  appends = (k.appends.0 ++ m.appends.0, m.appends.1 ∙ (ap (λ (l : List ℕ). l ++ m.appends.0) k.appends.1 ∙ append_assoc x k.appends.0 m.appends.0));
}

keeps_same : (a : List Node) (x : List ℕ) → Keeps a a x x
keeps_same a x = record { extends = same a; good = λ g. g; appends = ([], sym (append-nil x)) }

-- one node that is a child of the production that is read
keeps_more : (a : List Node) (x : List ℕ) (n : Node) → (AllGood a a → Good (a ++ n ∷ []) n) → Keeps a (a ++ n ∷ []) x (x ++ length a ∷ [])
keeps_more a x n h = record { extends = (n ∷ [], refl); good = λ g. good_more a n g (h g); appends = (length a ∷ [], refl) }

record Walked (p at : ℕ) (a b : List Node) (x y : List ℕ) : Type 0 where
  keeps : Keeps a b x y
  block : contains block_rows p ≡ true → AreOf block_children a x → AreOf block_children b y
  first : contains statement_rows p ≡ true → first_brings statement_rows statement_children (drop at (row p)) ≡ true → x ≡ [] → FirstOf statement_children b y

record Read (q : ℕ) (a b : List Node) (x y : List ℕ) : Type 0 where
  keeps : Keeps a b x y
  block : brings block_rows block_children q ≡ true → AreOf block_children a x → AreOf block_children b y
  first : brings statement_rows statement_children q ≡ true → x ≡ [] → FirstOf statement_children b y
  some : makes_node q ≡ true → y ≡ [] → ⊥

-- the first child stays, or comes later
still_first : (a b : List Node) (x y z : List ℕ) → Keeps a b x y → x ≡ z → FirstOf statement_children a z → (x ≡ [] → FirstOf statement_children b y) → FirstOf statement_children b y
still_first a b x y [] k e h later = later e
still_first a b x y (c ∷ z) k e h later =
    let whole : y ≡ c ∷ (z ++ k.appends.0) = k.appends.1 ∙ ap (λ (l : List ℕ). l ++ k.appends.0) e in
    subst (λ (l : List ℕ). FirstOf statement_children b l) (sym whole) (is_on statement_children a b c k.extends h)

not_empty : (x : List ℕ) (k : ℕ) → x ++ k ∷ [] ≡ [] → ⊥
not_empty [] k e = cc
not_empty (c ∷ x) k e = cc

first_more : (a : List Node) (x : List ℕ) (k : ℕ) → x ≡ [] → IsOf statement_children a k → FirstOf statement_children a (x ++ k ∷ [])
first_more a x k e h = subst (λ (l : List ℕ). FirstOf statement_children a (l ++ k ∷ [])) (sym e) h

or_later : (b c : Bool) → (b ≡ true → ⊥) → (b || c) ≡ true → c ≡ true
or_later true c never h = absurd (never refl)
or_later false c never h = h

both_no : (b c : Bool) → (b ≡ true → c ≡ true → ⊥) → (b && c) ≡ true → ⊥
both_no true true never e = never refl refl
both_no true false never e = cc
both_no false c never e = cc

when_true : {A : Type 0} (b : Bool) (x y : A) → b ≡ true → cond b x y ≡ x
when_true true x y e = refl
when_true false x y e = cc

when_false : {A : Type 0} (b : Bool) (x y : A) → b ≡ false → cond b x y ≡ y
when_false true x y e = cc
when_false false x y e = refl

leaf_good : (nodes : List Node) (place : ℕ) → Good nodes (record { production = leaf; token = place; children = [] })
leaf_good nodes place = record { blocks = λ e. tt; statements = λ e. tt }

leaf_is : (list : List ℕ) (nodes : List Node) (place : ℕ) → contains list leaf ≡ true → IsOf list (nodes ++ (record { production = leaf; token = place; children = [] }) ∷ []) (length nodes)
leaf_is list nodes place c = (record { production = leaf; token = place; children = [] }, at_last nodes _, c)

-- the choice of an alternative
chosen_brings : (rows children : List ℕ) (a b q : ℕ) → (a ≡ q) ⊎ (b ≡ q) → (brings rows children a && brings rows children b) ≡ true → brings rows children q ≡ true
chosen_brings rows children a b q (inl e) h = subst (λ (x : ℕ). brings rows children x ≡ true) e (left (brings rows children a) (brings rows children b) h)
chosen_brings rows children a b q (inr e) h = subst (λ (x : ℕ). brings rows children x ≡ true) e (right (brings rows children a) (brings rows children b) h)

chosen_makes : (a b q : ℕ) → (a ≡ q) ⊎ (b ≡ q) → (makes_node q ≡ true → ⊥) → (makes_node a && makes_node b) ≡ true → ⊥
chosen_makes a b q (inl e) never h = never (subst (λ (x : ℕ). makes_node x ≡ true) e (left (makes_node a) (makes_node b) h))
chosen_makes a b q (inr e) never h = never (subst (λ (x : ℕ). makes_node x ≡ true) e (right (makes_node a) (makes_node b) h))

module _ (p at : ℕ) where
  starts_with : (i : Item) → item_of p at ≡ Some i → first_brings statement_rows statement_children (drop at (row p)) ≡ true → first_brings statement_rows statement_children (i ∷ drop (at + 1) (row p)) ≡ true
  starts_with i e h = subst (λ (items : List Item). first_brings statement_rows statement_children items ≡ true) (from_item p at i e) h

  -- a token
  token_walked : (a b : List Node) (x y : List ℕ) (place : ℕ) (i : Item) → Walked p (at + 1) (a ++ (record { production = leaf; token = place; children = [] }) ∷ []) b (x ++ length a ∷ []) y → Walked p at a b x y
  token_walked a b x y place i w =
      let n : Node = record { production = leaf; token = place; children = [] } in
      let k = keeps_more a x n (λ g. leaf_good (a ++ n ∷ []) place) in
      record {
        keeps = keeps_then a (a ++ n ∷ []) b x (x ++ length a ∷ []) y k w.keeps;
        block = λ c are. w.block c (are_more block_children (a ++ n ∷ []) x (length a) (are_on block_children a (a ++ n ∷ []) x (n ∷ [], refl) are) (leaf_is block_children a place refl));
        first = λ c h none. still_first (a ++ n ∷ []) b (x ++ length a ∷ []) y (x ++ length a ∷ []) w.keeps refl (first_more (a ++ n ∷ []) x (length a) none (leaf_is statement_children a place refl)) (λ e. absurd (not_empty x (length a) e));
      }

  -- a production, and what follows
  used_walked : (a b d : List Node) (x y z : List ℕ) (q : ℕ) → item_of p at ≡ Some (item.Use q) → Read q a b x y → Walked p (at + 1) b d y z → Walked p at a d x z
  used_walked a b d x y z q e r w = record {
    keeps = keeps_then a b d x y z r.keeps w.keeps;
    block = λ c are. w.block c (r.block (item_in p at (item.Use q) c e) are);
    first = λ c h none.
        let here = starts_with (item.Use q) e h in
        let rest = first_brings statement_rows statement_children (drop (at + 1) (row p)) in
        still_first b d y z y w.keeps refl (r.first (left (brings statement_rows statement_children q) (makes_node q || rest) here) none)
        (λ empty. w.first c (or_later (makes_node q) rest (λ m. r.some m empty) (right (brings statement_rows statement_children q) (makes_node q || rest) here)) empty);
  }

  chosen_walked : (a b d : List Node) (x y z : List ℕ) (one other q : ℕ) → item_of p at ≡ Some (item.Choice one other) → (one ≡ q) ⊎ (other ≡ q) → Read q a b x y → Walked p (at + 1) b d y z → Walked p at a d x z
  chosen_walked a b d x y z one other q e which r w = record {
    keeps = keeps_then a b d x y z r.keeps w.keeps;
    block = λ c are. w.block c (r.block (chosen_brings block_rows block_children one other q which (item_in p at (item.Choice one other) c e)) are);
    first = λ c h none.
        let here = starts_with (item.Choice one other) e h in
        let both = brings statement_rows statement_children one && brings statement_rows statement_children other in
        let rest = first_brings statement_rows statement_children (drop (at + 1) (row p)) in
        still_first b d y z y w.keeps refl (r.first (chosen_brings statement_rows statement_children one other q which (left both ((makes_node one && makes_node other) || rest) here)) none)
        (λ empty. w.first c (or_later (makes_node one && makes_node other) rest (chosen_makes one other q which (λ m. r.some m empty)) (right both ((makes_node one && makes_node other) || rest) here)) empty);
  }

  again_walked : (a b d : List Node) (x y z : List ℕ) (q : ℕ) → item_of p at ≡ Some (item.Repeat q) → Read q a b x y → Walked p at b d y z → Walked p at a d x z
  again_walked a b d x y z q e r w = record {
    keeps = keeps_then a b d x y z r.keeps w.keeps;
    block = λ c are. w.block c (r.block (item_in p at (item.Repeat q) c e) are);
    first = λ c h none.
        let here = starts_with (item.Repeat q) e h in
        let rest = first_brings statement_rows statement_children (drop (at + 1) (row p)) in
        still_first b d y z y w.keeps refl (r.first (left (brings statement_rows statement_children q) rest here) none) (λ empty. w.first c h empty);
  }

  enough_walked : (a b : List Node) (x y : List ℕ) (q : ℕ) → item_of p at ≡ Some (item.Repeat q) → Walked p (at + 1) a b x y → Walked p at a b x y
  enough_walked a b x y q e w = record {
    keeps = w.keeps;
    block = w.block;
    first = λ c h none. w.first c (right (brings statement_rows statement_children q) (first_brings statement_rows statement_children (drop (at + 1) (row p))) (starts_with (item.Repeat q) e h)) none;
  }

  scope_walked : (a b : List Node) (x y : List ℕ) (n : ℕ) → item_of p at ≡ Some (item.Scope n) → Walked p (at + 1) a b x y → Walked p at a b x y
  scope_walked a b x y n e w = record {
    keeps = w.keeps;
    block = w.block;
    first = λ c h none. w.first c (starts_with (item.Scope n) e h) none;
  }

  end_walked : (a : List Node) (x : List ℕ) → Walked p at a a x x
  end_walked a x = record {
    keeps = keeps_same a x;
    block = λ c are. are;
    first = λ c h none. subst (λ (l : List ℕ). FirstOf statement_children a l) (sym none) tt;
  }

-- the node of a production that has been read
own_good : (q place : ℕ) (a b : List Node) (y : List ℕ) → Walked q 0 a b [] y → Good (b ++ (record { production = q; token = place; children = y }) ∷ []) (record { production = q; token = place; children = y })
own_good q place a b y w =
    let n : Node = record { production = q; token = place; children = y } in
    record {
      blocks = λ e. are_on block_children b (b ++ n ∷ []) y (n ∷ [], refl) (w.block (subst (λ (r : ℕ). contains block_rows r ≡ true) (sym e) refl) tt);
      statements = λ e.
          let c : contains statement_rows q ≡ true = subst (λ (r : ℕ). contains statement_rows r ≡ true) (sym e) refl in
          first_on statement_children b (b ++ n ∷ []) y (n ∷ [], refl) (w.first c (statement_row_begins q c) refl);
    }

node_read : (q place : ℕ) (a b : List Node) (x y : List ℕ) → makes_node q ≡ true → Walked q 0 a b [] y → Read q a (b ++ (record { production = q; token = place; children = y }) ∷ []) x (x ++ length b ∷ [])
node_read q place a b x y m w =
    let n : Node = record { production = q; token = place; children = y } in
    let on : Extends a (b ++ n ∷ []) = then a b (b ++ n ∷ []) w.keeps.extends (n ∷ [], refl) in
    let own : (rows children : List ℕ) → brings rows children q ≡ true → IsOf children (b ++ n ∷ []) (length b) =
    λ rows children h. (n, at_last b n, sym (when_true (makes_node q) (contains children q) (contains rows q) m) ∙ h) in
    record {
      keeps = record { extends = on; good = λ g. good_more b n (w.keeps.good g) (own_good q place a b y w); appends = (length b ∷ [], refl) };
      block = λ h are. are_more block_children (b ++ n ∷ []) x (length b) (are_on block_children a (b ++ n ∷ []) x on are) (own block_rows block_children h);
      first = λ h none. first_more (b ++ n ∷ []) x (length b) none (own statement_rows statement_children h);
      some = λ h e. not_empty x (length b) e;
    }

no_both : (b : Bool) → b ≡ true → b ≡ false → ⊥
no_both b e f = cc

row_read : (q : ℕ) (a b : List Node) (x y : List ℕ) → makes_node q ≡ false → Walked q 0 a b x y → Read q a b x y
row_read q a b x y m w =
    let own : (rows children : List ℕ) → brings rows children q ≡ true → contains rows q ≡ true = λ rows children h. sym (when_false (makes_node q) (contains children q) (contains rows q) m) ∙ h in
    record {
      keeps = w.keeps;
      block = λ h are. w.block (own block_rows block_children h) are;
      first = λ h none. let c = own statement_rows statement_children h in w.first c (statement_row_begins q c) none;
      some = λ h e. no_both (makes_node q) h m;
    }

-- a production by whether it makes a node
closing : (b : Bool) (q : ℕ) (s u o x : State) → makes_node q ≡ b → o.nodes ≡ s.nodes → o.children ≡ [] → (x.nodes ≡ u.nodes ++ (record { production = q; token = s.place; children = u.children }) ∷ []) → (x.children ≡ s.children ++ length u.nodes ∷ [])
    → Walked q 0 (cond b o s).nodes u.nodes (cond b o s).children u.children → Read q s.nodes (cond b x u).nodes s.children (cond b x u).children
closing true q s u o x m en ec fn fc w =
    let w1 = subst (λ (l : List Node). Walked q 0 l u.nodes o.children u.children) en w in
    let w2 = subst (λ (l : List ℕ). Walked q 0 s.nodes u.nodes l u.children) ec w1 in
    let r = node_read q s.place s.nodes u.nodes s.children u.children m w2 in
    let r1 = subst (λ (l : List Node). Read q s.nodes l s.children (s.children ++ length u.nodes ∷ [])) (sym fn) r in
    subst (λ (l : List ℕ). Read q s.nodes x.nodes s.children l) (sym fc) r1
closing false q s u o x m en ec fn fc w = row_read q s.nodes u.nodes s.children u.children m w

module _ (text : List ℕ) (tokens : List Token) where
  mutual
    walks_walked : (p at d : ℕ) (s : State) (r : Result State Fault) → Walks text tokens p at d s r → (t : State) → r ≡ Ok t → Walked p at s.nodes t.nodes s.children t.children
    walks_walked p at d s r (at_end h) t e = let f : s ≡ t = cc in subst (λ (x : State). Walked p at s.nodes x.nodes s.children x.children) f (end_walked p at s.nodes s.children)
    walks_walked p at d s r (token h k w) t e = token_walked p at s.nodes t.nodes s.children t.children s.place (item.Use 0) (walks_walked p (at + 1) d _ r w t e)
    walks_walked p at d s r (no_token h k) t e = absurd (cc)
    walks_walked p at d s r (use_of {q = q} {t = u} h o w) t e =
        used_walked p at s.nodes u.nodes t.nodes s.children u.children t.children q h (opens_read q d s (Ok u) o u refl) (walks_walked p (at + 1) d u r w t e)
    walks_walked p at d s r (no_use h o) t e = absurd (cc)
    walks_walked p at d s r (choice {a = a} {b = b} {q = q} {t = u} h c o w) t e =
        chosen_walked p at s.nodes u.nodes t.nodes s.children u.children t.children a b q h (one_of a b (first text tokens s) (second text tokens s) s.notes q c) (opens_read q d s (Ok u) o u refl) (walks_walked p (at + 1) d u r w t e)
    walks_walked p at d s r (no_choice h c o) t e = absurd (cc)
    walks_walked p at d s r (no_alternative h c) t e = absurd (cc)
    walks_walked p at d s r (again {q = q} {t = u} h k o w) t e =
        again_walked p at s.nodes u.nodes t.nodes s.children u.children t.children q h (opens_read q d s (Ok u) o u refl) (walks_walked p at d u r w t e)
    walks_walked p at d s r (no_again h k o) t e = absurd (cc)
    walks_walked p at d s r (scope {n = n} h w) t e = scope_walked p at s.nodes t.nodes s.children t.children n h (walks_walked p (at + 1) d (scoped text tokens p n s) r w t e)
    walks_walked p at d s r (enough {q = q} h k w) t e = enough_walked p at s.nodes t.nodes s.children t.children q h (walks_walked p (at + 1) d s r w t e)

    opens_read : (q d : ℕ) (s : State) (r : Result State Fault) → Opens text tokens q d s r → (t : State) → r ≡ Ok t → Read q s.nodes t.nodes s.children t.children
    opens_read q d s r (deep h) t e = absurd (cc)
    opens_read q d s r (refused h k) t e = absurd (cc)
    opens_read q d s r (whole {t = u} h k w) t e =
        let f : closed q s u ≡ t = cc in
        subst (λ (x : State). Read q s.nodes x.nodes s.children x.children) f (closing (makes_node q) q s u _ _ refl refl refl refl refl (walks_walked q 0 _ (opened q s) (Ok u) w u refl))
    opens_read q d s r (broken h k w) t e = absurd (cc)

  -- all blocks and statements of what a production reads
  pub opens_good : (q d : ℕ) (s : State) (t : State) → Opens text tokens q d s (Ok t) → AllGood s.nodes s.nodes → AllGood t.nodes t.nodes
  opens_good q d s t o g = (opens_read q d s (Ok t) o t refl).keeps.good g
