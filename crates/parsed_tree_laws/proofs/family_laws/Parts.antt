-- The nodes of members and of structures as they are read.
use Rattle.std.proofs.Common.{arith, ◌≡◌, ◌≤◌, ℕ, zero, suc, ◌+◌, not, Bool, true, false, cond, Result, Ok, Some, None, Option, List, [], ◌∷◌, ◌++◌, length, slice_get, refl, sym, ap, ◌∙◌, subst, append_assoc, append-nil, ◌⊎◌, inl, inr}
use Rattle.std.specs.Prelude.{nat_eq}
use Rattle.c_lexer.specs.declared.Token.{Token}
use Rattle.c_lexer.specs.declared.TokenKind.{TokenKind}
use Rattle.c_lexer.specs.declared.TokenKind.TheVariants.{Identifier, Keyword}
use Rattle.c_lexer.specs.Laws.{Stands}
use Rattle.c_grammar.specs.declared.rows.Item.{Item}
use Rattle.c_grammar.specs.declared.rows.Item.TheVariants as item
use Rattle.c_grammar.specs.Names.{Names}
use Rattle.c_grammar.specs.Table.{item_of}
use Rattle.c_grammar.specs.Terminals.{contains, terminal, terminals, terminal_of, terminal_of_kind, takes, spelled}
use Rattle.c_grammar.specs.Tree.{makes_node}
use Rattle.c_grammar.specs.Reads.{State, Fault, Node, leaf, first, second, scoped, opened, closed, Walks, Opens, at_end, token, no_token, use_of, no_use, choice, no_choice, no_alternative, again, no_again, scope, enough, deep, refused, whole, broken}
use Rattle.parsed_tree_laws.proofs.family_laws.Owning.{Extends, Climbs, Owned, Steps, get_on, at_last, then, steps_same, steps_then, steps_node, steps_leaf}
use Rattle.parsed_tree_laws.proofs.family_laws.Rows.{right, brings, passes, item_passes, item_heads, behind_rows, word_rows, head_rows, list_rows, list_children, member_rows, member_children, list_item, member_item, behind_item, head_item, later_item, head_there, word_heads, word_no_node, node_no_leaf, one_of, either_of, Wanted, item_wanted, wanted_item, tag_no_node, list_is_node}
use Rattle.parsed_tree_laws.proofs.family_laws.Tokens.{IsName, name_taken}

-- a child is a node of one of these productions
abbrev pub IsOf : List ℕ → List Node → ℕ → Type 0
IsOf list nodes k = (n : Node) × (slice_get nodes k ≡ Some n) × (contains list n.production ≡ true)

abbrev pub AreOf : List ℕ → List Node → List ℕ → Type 0
AreOf list nodes [] = Unit {0}
AreOf list nodes (k ∷ ks) = IsOf list nodes k × AreOf list nodes ks

is_on : (list : List ℕ) (a b : List Node) (k : ℕ) → Extends a b → IsOf list a k → IsOf list b k
is_on list a b k x h = (h.0, get_on a b k h.0 x h.1, h.2)

are_on : (list : List ℕ) (a b : List Node) (ks : List ℕ) → Extends a b → AreOf list a ks → AreOf list b ks
are_on list a b [] x h = tt
are_on list a b (k ∷ ks) x h = (is_on list a b k x h.0, are_on list a b ks x h.1)

are_more : (list : List ℕ) (a : List Node) (ks : List ℕ) (k : ℕ) → AreOf list a ks → IsOf list a k → AreOf list a (ks ++ k ∷ [])
are_more list a [] k h i = (i, tt)
are_more list a (c ∷ ks) k h i = (h.0, are_more list a ks k h.1 i)

when_true : {A : Type 0} (b : Bool) (x y : A) → b ≡ true → cond b x y ≡ x
when_true true x y e = refl
when_true false x y e = cc

when_false : {A : Type 0} (b : Bool) (x y : A) → b ≡ false → cond b x y ≡ y
when_false true x y e = cc
when_false false x y e = refl

module _ (text : List ℕ) (tokens : List Token) (all : (k : ℕ) (t : Token) → slice_get tokens k ≡ Some t → Stands text t) where
  -- no leaf of the word `union`
  abbrev pub NoUnion : Option Token → Type 0
  NoUnion o = (t : Token) → o ≡ Some t → t.kind ≡ Keyword 29 → ⊥

  abbrev pub IsPlain : List Node → ℕ → Type 0
  IsPlain nodes k = (n : Node) × (slice_get nodes k ≡ Some n) × ((n.production ≡ leaf → ⊥) ⊎ NoUnion (slice_get tokens n.token))

  abbrev pub ArePlain : List Node → List ℕ → Type 0
  ArePlain nodes [] = Unit {0}
  ArePlain nodes (k ∷ ks) = IsPlain nodes k × ArePlain nodes ks

  abbrev pub IsLeafAt : ℕ → List Node → ℕ → Type 0
  IsLeafAt place nodes k = (n : Node) × (slice_get nodes k ≡ Some n) × (n.production ≡ leaf) × (n.token ≡ place)

  -- first the leaf of a token, then none of the word `union`
  abbrev pub IsHeaded : ℕ → List Node → List ℕ → Type 0
  IsHeaded place nodes [] = ⊥
  IsHeaded place nodes (k ∷ ks) = IsLeafAt place nodes k × ArePlain nodes ks

  -- a name, or a list of members
  abbrev pub IsTag : List Node → ℕ → Type 0
  IsTag nodes k = (n : Node) × (slice_get nodes k ≡ Some n) × ((n.production ≡ 13) ⊎ ((n.production ≡ leaf) × IsName (slice_get tokens n.token)))

  abbrev pub HasTag : List Node → List ℕ → Type 0
  HasTag nodes ks = (r : ℕ) × (k : ℕ) × (slice_get ks r ≡ Some k) × IsTag nodes k

  pub record Good (nodes : List Node) (n : Node) : Type 0 where
    pub low : ℕ
    pub high : ℕ
    pub ascends : Climbs low n.children high
    pub lists : n.production ≡ 13 → AreOf list_children nodes n.children
    pub members : n.production ≡ 14 → AreOf member_children nodes n.children
    pub structures : n.production ≡ 12 → IsHeaded n.token nodes n.children
    pub tagged : n.production ≡ 12 → HasTag nodes n.children

  abbrev pub AllGood : List Node → List Node → Type 0
  AllGood nodes [] = Unit {0}
  AllGood nodes (n ∷ rest) = Good nodes n × AllGood nodes rest

  plain_on : (a b : List Node) (ks : List ℕ) → Extends a b → ArePlain a ks → ArePlain b ks
  plain_on a b [] x h = tt
  plain_on a b (k ∷ ks) x h = ((h.0.0, get_on a b k h.0.0 x h.0.1, h.0.2), plain_on a b ks x h.1)

  plain_more : (a : List Node) (ks : List ℕ) (k : ℕ) → ArePlain a ks → IsPlain a k → ArePlain a (ks ++ k ∷ [])
  plain_more a [] k h i = (i, tt)
  plain_more a (c ∷ ks) k h i = (h.0, plain_more a ks k h.1 i)

  headed_on : (place : ℕ) (a b : List Node) (ks : List ℕ) → Extends a b → IsHeaded place a ks → IsHeaded place b ks
  headed_on place a b [] x h = h
  headed_on place a b (k ∷ ks) x h = ((h.0.0, get_on a b k h.0.0 x h.0.1, h.0.2, h.0.3), plain_on a b ks x h.1)

  headed_more : (place : ℕ) (a : List Node) (ks : List ℕ) (k : ℕ) → IsHeaded place a ks → IsPlain a k → IsHeaded place a (ks ++ k ∷ [])
  headed_more place a [] k h i = absurd h
  headed_more place a (c ∷ ks) k h i = (h.0, plain_more a ks k h.1 i)

  tag_on : (a b : List Node) (ks : List ℕ) → Extends a b → HasTag a ks → HasTag b ks
  tag_on a b ks x h = (h.0, h.1, h.2, (h.3.0, get_on a b h.1 h.3.0 x h.3.1, h.3.2))

  number_more : (ks more : List ℕ) (r k : ℕ) → slice_get ks r ≡ Some k → slice_get (ks ++ more) r ≡ Some k
  number_more [] more r k e = cc
  number_more (c ∷ ks) more zero k e = e
  number_more (c ∷ ks) more (suc r) k e = number_more ks more r k e

  number_last : (ks : List ℕ) (k : ℕ) → slice_get (ks ++ k ∷ []) (length ks) ≡ Some k
  number_last [] k = refl
  number_last (c ∷ ks) k = number_last ks k

  tag_last : (a : List Node) (ks : List ℕ) (k : ℕ) → IsTag a k → HasTag a (ks ++ k ∷ [])
  tag_last a ks k h = (length ks, k, number_last ks k, h)

  good_on : (a b : List Node) (n : Node) → Extends a b → Good a n → Good b n
  good_on a b n x g = record {
    low = g.low;
    high = g.high;
    ascends = g.ascends;
    lists = λ e. are_on list_children a b n.children x (g.lists e);
    members = λ e. are_on member_children a b n.children x (g.members e);
    structures = λ e. headed_on n.token a b n.children x (g.structures e);
    tagged = λ e. tag_on a b n.children x (g.tagged e);
  }

  all_on : (a b list : List Node) → Extends a b → AllGood a list → AllGood b list
  all_on a b [] x g = tt
  all_on a b (n ∷ list) x g = (good_on a b n x g.0, all_on a b list x g.1)

  all_more : (a list : List Node) (n : Node) → AllGood a list → Good a n → AllGood a (list ++ n ∷ [])
  all_more a [] n g h = (h, tt)
  all_more a (m ∷ list) n g h = (g.0, all_more a list n g.1 h)

  good_more : (nodes : List Node) (n : Node) → AllGood nodes nodes → Good (nodes ++ n ∷ []) n → AllGood (nodes ++ n ∷ []) (nodes ++ n ∷ [])
  good_more nodes n g h = all_more (nodes ++ n ∷ []) nodes n (all_on nodes (nodes ++ n ∷ []) nodes (n ∷ [], refl) g) h

  -- what a reading leaves of nodes and children
  record Keeps (a b : List Node) (x y : List ℕ) : Type 0 where
    more : List ℕ
    appends : y ≡ x ++ more
    steps : Steps a b more
    good : AllGood a a → AllGood b b

  keeps_then : (a b c : List Node) (x y z : List ℕ) → Keeps a b x y → Keeps b c y z → Keeps a c x z
  keeps_then a b c x y z k m = record {
    more = k.more ++ m.more;
    appends = m.appends ∙ (ap (λ (l : List ℕ). l ++ m.more) k.appends ∙ append_assoc x k.more m.more);
    steps = steps_then a b c k.more m.more k.steps m.steps;
    good = λ g. m.good (k.good g);
  }

  keeps_same : (a : List Node) (x : List ℕ) → Keeps a a x x
  keeps_same a x = record { more = []; appends = sym (append-nil x); steps = steps_same a; good = λ g. g }

  -- a tag stays
  tag_kept : (a b : List Node) (x y : List ℕ) → Keeps a b x y → HasTag a x → HasTag b y
  tag_kept a b x y k h =
      (h.0, h.1, subst (λ (l : List ℕ). slice_get l h.0 ≡ Some h.1) (sym k.appends) (number_more x k.more h.0 h.1 h.2), (h.3.0, get_on a b h.1 h.3.0 k.steps.extends h.3.1, h.3.2))

  record Walked (p at place : ℕ) (a b : List Node) (x y : List ℕ) : Type 0 where
    keeps : Keeps a b x y
    lists : contains list_rows p ≡ true → AreOf list_children a x → AreOf list_children b y
    members : contains member_rows p ≡ true → AreOf member_children a x → AreOf member_children b y
    behind : contains behind_rows p ≡ true → (there : ℕ) → IsHeaded there a x → IsHeaded there b y
    later : contains head_rows p ≡ true → 1 ≤ at → (there : ℕ) → IsHeaded there a x → IsHeaded there b y
    begun : contains head_rows p ≡ true → at ≡ 0 → x ≡ [] → IsHeaded place b y
    tagged : Wanted p at → HasTag b y

  record Read (q place : ℕ) (a b : List Node) (x y : List ℕ) : Type 0 where
    keeps : Keeps a b x y
    lists : brings list_rows list_children q ≡ true → AreOf list_children a x → AreOf list_children b y
    members : brings member_rows member_children q ≡ true → AreOf member_children a x → AreOf member_children b y
    behind : passes q ≡ true → (there : ℕ) → IsHeaded there a x → IsHeaded there b y
    begun : contains word_rows q ≡ true → x ≡ [] → IsHeaded place b y
    tagged : (104 ≡ q) ⊎ (13 ≡ q) → HasTag b y

  leaf_is : (list : List ℕ) (nodes : List Node) (place : ℕ) → contains list leaf ≡ true → IsOf list (nodes ++ (record { production = leaf; token = place; children = [] }) ∷ []) (length nodes)
  leaf_is list nodes place c = (record { production = leaf; token = place; children = [] }, at_last nodes _, c)

  leaf_good : (nodes : List Node) (place : ℕ) → Good nodes (record { production = leaf; token = place; children = [] })
  leaf_good nodes place = record {
    low = 0;
    high = 0;
    ascends = omega arith;
    lists = λ e. tt;
    members = λ e. tt;
    structures = λ e. let never : leaf ≡ 12 = e in absurd (omega (arith, never));
    tagged = λ e. let never : leaf ≡ 12 = e in absurd (omega (arith, never));
  }

  -- a token that an item takes which takes no `union`
  taken_plain : (p : ℕ) (k : TokenKind) (names : Names) (o : Option Token) → not (contains (terminals p k) 29) ≡ true → takes p k (terminal_of text names o) ≡ true → NoUnion o
  unfolding takes
  taken_plain p k names o avoids h t e is =
      let same : terminal_of text names o ≡ 29 = ap (terminal_of text names) e ∙ ap (λ (x : TokenKind). terminal_of_kind x names (spelled text t)) is in
      never (contains (terminals p k) 29) avoids (subst (λ (x : ℕ). contains (terminals p k) x ≡ true) same (right (not (nat_eq (terminal_of text names o) 103)) (contains (terminals p k) (terminal_of text names o)) h))
    where
      never : (b : Bool) → not b ≡ true → b ≡ true → ⊥
      never true a b = cc
      never false a b = cc

  module _ (p at : ℕ) where
    none_after : (c : 1 ≤ at) → at ≡ 0 → ⊥
    none_after c e = omega (arith, c, e)

    head_at : (i : Item) → item_of p at ≡ Some i → contains head_rows p ≡ true → at ≡ 0 → item_heads i ≡ true
    head_at i e c none = head_item p i c (subst (λ (k : ℕ). item_of p k ≡ Some i) none e)

    -- a token where a tag is wanted is a name
    token_name : (k : TokenKind) → item_of p at ≡ Some (item.Token k) → item_wanted (Some (item.Choice 102 103)) (Some (item.Choice 104 13)) (Some (item.Token Identifier)) p at
        → (names : Names) (o : Option Token) → ((t : Token) → o ≡ Some t → Stands text t) → takes p k (terminal_of text names o) ≡ true → IsName o
    token_name k e (inl h) names o stands g = let f = h.2 in absurd (cc)
    token_name k e (inr (inl h)) names o stands g = let f = h.2 in absurd (cc)
    token_name k e (inr (inr h)) names o stands g =
        let f = h.2 in
        let kind : k ≡ Identifier = cc in
        name_taken text names o stands (subst (λ (q : ℕ). takes q Identifier (terminal_of text names o) ≡ true) h.0 (subst (λ (x : TokenKind). takes p x (terminal_of text names o) ≡ true) kind g))

    -- any other item but a choice is none
    only_choices : (i : Item) → item_of p at ≡ Some i → ((one other : ℕ) → i ≡ item.Choice one other → ⊥) → ((k : TokenKind) → i ≡ item.Token k → ⊥) → Wanted p at → ⊥
    only_choices i e other_choice other_token want = by (wanted_item p at want)
      where
        by : item_wanted (Some (item.Choice 102 103)) (Some (item.Choice 104 13)) (Some (item.Token Identifier)) p at → ⊥
        by (inl h) = let f = h.2 in other_choice 102 103 (cc)
        by (inr (inl h)) = let f = h.2 in other_choice 104 13 (cc)
        by (inr (inr h)) = let f = h.2 in other_token Identifier (cc)

    ends_never : item_of p at ≡ None → Wanted p at → ⊥
    ends_never e want = by (wanted_item p at want)
      where
        by : item_wanted (Some (item.Choice 102 103)) (Some (item.Choice 104 13)) (Some (item.Token Identifier)) p at → ⊥
        by (inl h) = let f = h.2 in cc
        by (inr (inl h)) = let f = h.2 in cc
        by (inr (inr h)) = let f = h.2 in cc

    choice_tag : (one other q : ℕ) → item_of p at ≡ Some (item.Choice one other) → (one ≡ q) ⊎ (other ≡ q) → Wanted p at → Wanted p (at + 1) ⊎ ((104 ≡ q) ⊎ (13 ≡ q))
    choice_tag one other q e which want = by (wanted_item p at want)
      where
        by : item_wanted (Some (item.Choice 102 103)) (Some (item.Choice 104 13)) (Some (item.Token Identifier)) p at → Wanted p (at + 1) ⊎ ((104 ≡ q) ⊎ (13 ≡ q))
        by (inl h) = inl (inr (inl (h.0, (let z = h.1 in omega (arith, z)))))
        by (inr (inl h)) = inr (same which)
          where
            same : (one ≡ q) ⊎ (other ≡ q) → (104 ≡ q) ⊎ (13 ≡ q)
            same (inl g) = let f = h.2 in inl (cc)
            same (inr g) = let f = h.2 in inr (cc)
        by (inr (inr h)) = let f = h.2 in absurd (cc)

    -- a token
    token_walked : (s : State) (b : List Node) (y : List ℕ) (k : TokenKind) → item_of p at ≡ Some (item.Token k) → takes p k (first text tokens s) ≡ true → Walked p (at + 1) (s.place + 1) (s.nodes ++ (record { production = leaf; token = s.place; children = [] }) ∷ []) b (s.children ++ length s.nodes ∷ []) y → Walked p at s.place s.nodes b s.children y
    unfolding terminal
    token_walked s b y k e h w =
        let n : Node = record { production = leaf; token = s.place; children = [] } in
        let a = s.nodes in
        let x = s.children in
        let on : Extends a (a ++ n ∷ []) = (n ∷ [], refl) in
        let k1 : Keeps a (a ++ n ∷ []) x (x ++ length a ∷ []) = record { more = length a ∷ []; appends = refl; steps = steps_leaf a n refl; good = λ g. good_more a n g (leaf_good (a ++ n ∷ []) s.place) } in
        let plain : item_passes p (item.Token k) ≡ true → IsPlain (a ++ n ∷ []) (length a) = λ avoids. (n, at_last a n, inr (taken_plain p k s.scopes (slice_get tokens s.place) avoids h)) in
        record {
          keeps = keeps_then a (a ++ n ∷ []) b x (x ++ length a ∷ []) y k1 w.keeps;
          lists = λ c are. w.lists c (are_more list_children (a ++ n ∷ []) x (length a) (are_on list_children a (a ++ n ∷ []) x on are) (leaf_is list_children a s.place refl));
          members = λ c are. w.members c (are_more member_children (a ++ n ∷ []) x (length a) (are_on member_children a (a ++ n ∷ []) x on are) (leaf_is member_children a s.place refl));
          behind = λ c there is. w.behind c there (headed_more there (a ++ n ∷ []) x (length a) (headed_on there a (a ++ n ∷ []) x on is) (plain (behind_item p at (item.Token k) c e)));
          later = λ c some there is. w.later c (omega arith) there (headed_more there (a ++ n ∷ []) x (length a) (headed_on there a (a ++ n ∷ []) x on is) (plain (later_item p at (item.Token k) c some e)));
          begun = λ c none empty.
              w.later c (omega arith) s.place (subst (λ (l : List ℕ). IsHeaded s.place (a ++ n ∷ []) (l ++ length a ∷ [])) (sym empty) ((n, at_last a n, refl, refl), tt));
          tagged = λ want.
              tag_kept (a ++ n ∷ []) b (x ++ length a ∷ []) y w.keeps
              (tag_last (a ++ n ∷ []) x (length a) (n, at_last a n, inr (refl, token_name k e (wanted_item p at want) s.scopes (slice_get tokens s.place) (λ t f. all s.place t f) h)));
        }

    -- a production, and what follows
    used_walked : (place later : ℕ) (a b d : List Node) (x y z : List ℕ) (q : ℕ) → item_of p at ≡ Some (item.Use q) → Read q place a b x y → Walked p (at + 1) later b d y z → Walked p at place a d x z
    used_walked place later a b d x y z q e r w = record {
      keeps = keeps_then a b d x y z r.keeps w.keeps;
      lists = λ c are. w.lists c (r.lists (list_item p at (item.Use q) c e) are);
      members = λ c are. w.members c (r.members (member_item p at (item.Use q) c e) are);
      behind = λ c there is. w.behind c there (r.behind (behind_item p at (item.Use q) c e) there is);
      later = λ c some there is. w.later c (omega arith) there (r.behind (later_item p at (item.Use q) c some e) there is);
      begun = λ c none empty. let never : item_heads (item.Use q) ≡ true = head_at (item.Use q) e c none in cc;
      tagged = λ want. absurd (only_choices (item.Use q) e (λ one other f. cc) (λ k f. cc) want);
    }

    chosen_walked : (place later : ℕ) (a b d : List Node) (x y z : List ℕ) (one other q : ℕ) → item_of p at ≡ Some (item.Choice one other) → (one ≡ q) ⊎ (other ≡ q) → Read q place a b x y → Walked p (at + 1) later b d y z → Walked p at place a d x z
    chosen_walked place later a b d x y z one other q e which r w = record {
      keeps = keeps_then a b d x y z r.keeps w.keeps;
      lists = λ c are. w.lists c (r.lists (either_of (brings list_rows list_children) one other q which (list_item p at (item.Choice one other) c e)) are);
      members = λ c are. w.members c (r.members (either_of (brings member_rows member_children) one other q which (member_item p at (item.Choice one other) c e)) are);
      behind = λ c there is. w.behind c there (r.behind (either_of passes one other q which (behind_item p at (item.Choice one other) c e)) there is);
      later = λ c some there is. w.later c (omega arith) there (r.behind (either_of passes one other q which (later_item p at (item.Choice one other) c some e)) there is);
      begun = λ c none empty. w.later c (omega arith) place (r.begun (either_of (contains word_rows) one other q which (head_at (item.Choice one other) e c none)) empty);
      tagged = λ want. elim (choice_tag one other q e which want) [ inl next ↦ w.tagged next | inr is ↦ tag_kept b d y z w.keeps (r.tagged is) ];
    }

    again_walked : (place later : ℕ) (a b d : List Node) (x y z : List ℕ) (q : ℕ) → item_of p at ≡ Some (item.Repeat q) → Read q place a b x y → Walked p at later b d y z → Walked p at place a d x z
    again_walked place later a b d x y z q e r w = record {
      keeps = keeps_then a b d x y z r.keeps w.keeps;
      lists = λ c are. w.lists c (r.lists (list_item p at (item.Repeat q) c e) are);
      members = λ c are. w.members c (r.members (member_item p at (item.Repeat q) c e) are);
      behind = λ c there is. w.behind c there (r.behind (behind_item p at (item.Repeat q) c e) there is);
      later = λ c some there is. w.later c some there (r.behind (later_item p at (item.Repeat q) c some e) there is);
      begun = λ c none empty. let never : item_heads (item.Repeat q) ≡ true = head_at (item.Repeat q) e c none in cc;
      tagged = λ want. absurd (only_choices (item.Repeat q) e (λ one other f. cc) (λ k f. cc) want);
    }

    enough_walked : (place : ℕ) (a b : List Node) (x y : List ℕ) (q : ℕ) → item_of p at ≡ Some (item.Repeat q) → Walked p (at + 1) place a b x y → Walked p at place a b x y
    enough_walked place a b x y q e w = record {
      keeps = w.keeps;
      lists = w.lists;
      members = w.members;
      behind = w.behind;
      later = λ c some there is. w.later c (omega arith) there is;
      begun = λ c none empty. let never : item_heads (item.Repeat q) ≡ true = head_at (item.Repeat q) e c none in cc;
      tagged = λ want. absurd (only_choices (item.Repeat q) e (λ one other f. cc) (λ k f. cc) want);
    }

    scope_walked : (place : ℕ) (a b : List Node) (x y : List ℕ) (n : ℕ) → item_of p at ≡ Some (item.Scope n) → Walked p (at + 1) place a b x y → Walked p at place a b x y
    scope_walked place a b x y n e w = record {
      keeps = w.keeps;
      lists = w.lists;
      members = w.members;
      behind = w.behind;
      later = λ c some there is. w.later c (omega arith) there is;
      begun = λ c none empty. let never : item_heads (item.Scope n) ≡ true = head_at (item.Scope n) e c none in cc;
      tagged = λ want. absurd (only_choices (item.Scope n) e (λ one other f. cc) (λ k f. cc) want);
    }

    end_walked : (place : ℕ) (a : List Node) (x : List ℕ) → item_of p at ≡ None → Walked p at place a a x x
    end_walked place a x e = record {
      keeps = keeps_same a x;
      lists = λ c are. are;
      members = λ c are. are;
      behind = λ c there is. is;
      later = λ c some there is. is;
      begun = λ c none empty. absurd (head_there p c (subst (λ (k : ℕ). item_of p k ≡ None) none e));
      tagged = λ want. absurd (ends_never e want);
    }

  own_good : (q place : ℕ) (a b : List Node) (y : List ℕ) → Walked q 0 place a b [] y → Good (b ++ (record { production = q; token = place; children = y }) ∷ []) (record { production = q; token = place; children = y })
  own_good q place a b y w =
      let n : Node = record { production = q; token = place; children = y } in
      let on : Extends b (b ++ n ∷ []) = (n ∷ [], refl) in
      record {
        low = length a;
        high = length b;
        ascends = subst (λ (l : List ℕ). Climbs (length a) l (length b)) (sym w.keeps.appends) w.keeps.steps.climbs;
        lists = λ e. are_on list_children b (b ++ n ∷ []) y on (w.lists (subst (λ (r : ℕ). contains list_rows r ≡ true) (sym e) refl) tt);
        members = λ e. are_on member_children b (b ++ n ∷ []) y on (w.members (subst (λ (r : ℕ). contains member_rows r ≡ true) (sym e) refl) tt);
        structures = λ e. headed_on place b (b ++ n ∷ []) y on (w.begun (subst (λ (r : ℕ). contains head_rows r ≡ true) (sym e) refl) refl refl);
        tagged = λ e. tag_on b (b ++ n ∷ []) y on (w.tagged (inl (e, refl)));
      }

  node_read : (q place : ℕ) (a b : List Node) (x y : List ℕ) → makes_node q ≡ true → Walked q 0 place a b [] y → Read q place a (b ++ (record { production = q; token = place; children = y }) ∷ []) x (x ++ length b ∷ [])
  node_read q place a b x y m w =
      let n : Node = record { production = q; token = place; children = y } in
      let on : Extends a (b ++ n ∷ []) = then a b (b ++ n ∷ []) w.keeps.steps.extends (n ∷ [], refl) in
      let own : (rows children : List ℕ) → brings rows children q ≡ true → IsOf children (b ++ n ∷ []) (length b) =
      λ rows children h. (n, at_last b n, sym (when_true (makes_node q) (contains children q) (contains rows q) m) ∙ h) in
      record {
        keeps = record {
          more = length b ∷ [];
          appends = refl;
          steps = steps_node a b n w.keeps.more w.keeps.steps w.keeps.appends;
          good = λ g. good_more b n (w.keeps.good g) (own_good q place a b y w);
        };
        lists = λ h are. are_more list_children (b ++ n ∷ []) x (length b) (are_on list_children a (b ++ n ∷ []) x on are) (own list_rows list_children h);
        members = λ h are. are_more member_children (b ++ n ∷ []) x (length b) (are_on member_children a (b ++ n ∷ []) x on are) (own member_rows member_children h);
        behind = λ h there is. headed_more there (b ++ n ∷ []) x (length b) (headed_on there a (b ++ n ∷ []) x on is) (n, at_last b n, inl (node_no_leaf q m));
        begun = λ c empty. absurd (word_no_node q c m);
        tagged = λ is. elim is [ inl e ↦ absurd (tag_no_node q (sym e) m) | inr e ↦ tag_last (b ++ n ∷ []) x (length b) (n, at_last b n, inl (sym e)) ];
      }

  row_read : (q place : ℕ) (a b : List Node) (x y : List ℕ) → makes_node q ≡ false → Walked q 0 place a b x y → Read q place a b x y
  row_read q place a b x y m w =
      let own : (rows children : List ℕ) → brings rows children q ≡ true → contains rows q ≡ true = λ rows children h. sym (when_false (makes_node q) (contains children q) (contains rows q) m) ∙ h in
      record {
        keeps = w.keeps;
        lists = λ h are. w.lists (own list_rows list_children h) are;
        members = λ h are. w.members (own member_rows member_children h) are;
        behind = λ h there is. w.behind (sym (when_false (makes_node q) true (contains behind_rows q) m) ∙ h) there is;
        begun = λ c empty. w.begun (word_heads q c) refl empty;
        tagged = λ is. elim is [ inl e ↦ w.tagged (inr (inr (sym e, refl))) | inr e ↦ absurd (list_is_node q (sym e) m) ];
      }

  -- a production by whether it makes a node
  closing : (b : Bool) (q : ℕ) (s u o x : State) → makes_node q ≡ b → o.place ≡ s.place → o.nodes ≡ s.nodes → o.children ≡ [] → (x.nodes ≡ u.nodes ++ (record { production = q; token = s.place; children = u.children }) ∷ []) → (x.children ≡ s.children ++ length u.nodes ∷ [])
      → Walked q 0 (cond b o s).place (cond b o s).nodes u.nodes (cond b o s).children u.children → Read q s.place s.nodes (cond b x u).nodes s.children (cond b x u).children
  closing true q s u o x m ep en ec fn fc w =
      let w0 = subst (λ (l : ℕ). Walked q 0 l o.nodes u.nodes o.children u.children) ep w in
      let w1 = subst (λ (l : List Node). Walked q 0 s.place l u.nodes o.children u.children) en w0 in
      let w2 = subst (λ (l : List ℕ). Walked q 0 s.place s.nodes u.nodes l u.children) ec w1 in
      let r = node_read q s.place s.nodes u.nodes s.children u.children m w2 in
      let r1 = subst (λ (l : List Node). Read q s.place s.nodes l s.children (s.children ++ length u.nodes ∷ [])) (sym fn) r in
      subst (λ (l : List ℕ). Read q s.place s.nodes x.nodes s.children l) (sym fc) r1
  closing false q s u o x m ep en ec fn fc w = row_read q s.place s.nodes u.nodes s.children u.children m w

  mutual
    walks_walked : (p at d : ℕ) (s : State) (r : Result State Fault) → Walks text tokens p at d s r → (t : State) → r ≡ Ok t → Walked p at s.place s.nodes t.nodes s.children t.children
    walks_walked p at d s r (at_end h) t e = let f : s ≡ t = cc in subst (λ (x : State). Walked p at s.place s.nodes x.nodes s.children x.children) f (end_walked p at s.place s.nodes s.children h)
    walks_walked p at d s r (token {k = k} h g w) t e = token_walked p at s t.nodes t.children k h g (walks_walked p (at + 1) d _ r w t e)
    walks_walked p at d s r (no_token h k) t e = absurd (cc)
    walks_walked p at d s r (use_of {q = q} {t = u} h o w) t e =
        used_walked p at s.place u.place s.nodes u.nodes t.nodes s.children u.children t.children q h (opens_read q d s (Ok u) o u refl) (walks_walked p (at + 1) d u r w t e)
    walks_walked p at d s r (no_use h o) t e = absurd (cc)
    walks_walked p at d s r (choice {a = a} {b = b} {q = q} {t = u} h c o w) t e =
        chosen_walked p at s.place u.place s.nodes u.nodes t.nodes s.children u.children t.children a b q h (one_of a b (first text tokens s) (second text tokens s) s.notes q c) (opens_read q d s (Ok u) o u refl) (walks_walked p (at + 1) d u r w t e)
    walks_walked p at d s r (no_choice h c o) t e = absurd (cc)
    walks_walked p at d s r (no_alternative h c) t e = absurd (cc)
    walks_walked p at d s r (again {q = q} {t = u} h k o w) t e =
        again_walked p at s.place u.place s.nodes u.nodes t.nodes s.children u.children t.children q h (opens_read q d s (Ok u) o u refl) (walks_walked p at d u r w t e)
    walks_walked p at d s r (no_again h k o) t e = absurd (cc)
    walks_walked p at d s r (scope {n = n} h w) t e = scope_walked p at s.place s.nodes t.nodes s.children t.children n h (walks_walked p (at + 1) d (scoped text tokens p n s) r w t e)
    walks_walked p at d s r (enough {q = q} h k w) t e = enough_walked p at s.place s.nodes t.nodes s.children t.children q h (walks_walked p (at + 1) d s r w t e)

    opens_read : (q d : ℕ) (s : State) (r : Result State Fault) → Opens text tokens q d s r → (t : State) → r ≡ Ok t → Read q s.place s.nodes t.nodes s.children t.children
    opens_read q d s r (deep h) t e = absurd (cc)
    opens_read q d s r (refused h k) t e = absurd (cc)
    opens_read q d s r (whole {t = u} h k w) t e =
        let f : closed q s u ≡ t = cc in
        subst (λ (x : State). Read q s.place s.nodes x.nodes s.children x.children) f (closing (makes_node q) q s u _ _ refl refl refl refl refl refl (walks_walked q 0 _ (opened q s) (Ok u) w u refl))
    opens_read q d s r (broken h k w) t e = absurd (cc)

  -- all nodes of what a production reads
  pub opens_good : (q d : ℕ) (s : State) (t : State) → Opens text tokens q d s (Ok t) → AllGood s.nodes s.nodes → AllGood t.nodes t.nodes
  opens_good q d s t o g = (opens_read q d s (Ok t) o t refl).keeps.good g

  pub opens_owned : (q d : ℕ) (s : State) (t : State) → Opens text tokens q d s (Ok t) → Owned s.nodes → Owned t.nodes
  opens_owned q d s t o g = (opens_read q d s (Ok t) o t refl).keeps.steps.owned g
