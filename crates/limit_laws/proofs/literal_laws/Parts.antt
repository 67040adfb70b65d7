-- The children of primaries as they are read.
use Rattle.std.proofs.Common.{◌≡◌, ℕ, zero, suc, ◌+◌, ◌&&◌, ◌||◌, nat_eq, Bool, true, false, cond, Result, Ok, Some, None, List, [], ◌∷◌, ◌++◌, length, slice_get, refl, sym, ap, ◌∙◌, subst, append_assoc, append-nil, ◌⊎◌, inl, inr}
use Rattle.c_lexer.specs.declared.Token.{Token}
use Rattle.c_lexer.specs.declared.TokenKind.{TokenKind}
use Rattle.c_lexer.specs.declared.TokenKind.TheVariants.{Identifier, Keyword, Punctuator, Integer, Floating, Character, Text, End}
use Rattle.c_lexer.specs.Laws.{Stands}
use Rattle.c_grammar.specs.declared.rows.Item.{Item}
use Rattle.c_grammar.specs.declared.rows.Item.TheVariants as item
use Rattle.c_grammar.specs.Table.{item_of}
use Rattle.c_grammar.specs.Terminals.{contains, terminal, takes}
use Rattle.c_grammar.specs.Tree.{makes_node}
use Rattle.c_grammar.specs.Reads.{State, Fault, Node, leaf, first, second, scoped, opened, closed, Walks, Opens, at_end, token, no_token, use_of, no_use, choice, no_choice, no_alternative, again, no_again, scope, enough, deep, refused, whole, broken}
use Rattle.parsed_tree_laws.proofs.sense_laws.statement_laws.Rows.{one_of}
use Rattle.limit_laws.proofs.literal_laws.Texts.{IsText, IsOther, text_taken, other_taken}
use Rattle.limit_laws.proofs.literal_laws.Rows.{text_rows, other_rows, inner_rows, choice_rows, is_part, is_text, takes_other, chooses, text_no_node, other_no_node, inner_no_node, text_item, other_item, other_some, choice_item, choice_some, choice_end, part_is}

abbrev Extends : List Node → List Node → Type 0
Extends before nodes = (more : List Node) × (nodes ≡ before ++ more)

abbrev Appends : List ℕ → List ℕ → Type 0
Appends before children = (more : List ℕ) × (children ≡ before ++ more)

get_more : (nodes more : List Node) (k : ℕ) (n : Node) → slice_get nodes k ≡ Some n → slice_get (nodes ++ more) k ≡ Some n
get_more [] more k n e = cc
get_more (m ∷ nodes) more zero n e = e
get_more (m ∷ nodes) more (suc k) n e = get_more nodes more k n e

at_last : (nodes : List Node) (n : Node) → slice_get (nodes ++ n ∷ []) (length nodes) ≡ Some n
at_last [] n = refl
at_last (m ∷ nodes) n = at_last nodes n

same : (nodes : List Node) → Extends nodes nodes
same nodes = ([], sym (append-nil nodes))

then : (a b c : List Node) → Extends a b → Extends b c → Extends a c
then a b c x y = (x.0 ++ y.0, y.1 ∙ (ap (λ (l : List Node). l ++ y.0) x.1 ∙ append_assoc a x.0 y.0))

module _ (text : List ℕ) (tokens : List Token) (all : (k : ℕ) (t : Token) → slice_get tokens k ≡ Some t → Stands text t) where
  -- a child is a string that isn't wide, or none at all
  abbrev pub IsString : List Node → ℕ → Type 0
  IsString nodes k = (n : Node) × (slice_get nodes k ≡ Some n) × IsText text (slice_get tokens n.token)

  abbrev pub IsNone : List Node → ℕ → Type 0
  IsNone nodes k = (n : Node) × (slice_get nodes k ≡ Some n) × IsOther (slice_get tokens n.token)

  abbrev pub Strings : List Node → List ℕ → Type 0
  Strings nodes [] = Unit {0}
  Strings nodes (k ∷ ks) = IsString nodes k × Strings nodes ks

  abbrev pub FirstNone : List Node → List ℕ → Type 0
  FirstNone nodes [] = ⊥
  FirstNone nodes (k ∷ ks) = IsNone nodes k

  -- a primary's children are strings, or the first is none
  abbrev pub Shape : List Node → List ℕ → Type 0
  Shape nodes ks = Strings nodes ks ⊎ FirstNone nodes ks

  abbrev pub Good : List Node → Node → Type 0
  Good nodes n = n.production ≡ 47 → Shape nodes n.children

  abbrev pub AllGood : List Node → List Node → Type 0
  AllGood nodes [] = Unit {0}
  AllGood nodes (n ∷ rest) = Good nodes n × AllGood nodes rest

  string_on : (a b : List Node) (k : ℕ) → Extends a b → IsString a k → IsString b k
  string_on a b k x h = (h.0, subst (λ (l : List Node). slice_get l k ≡ Some h.0) (sym x.1) (get_more a x.0 k h.0 h.1), h.2)

  none_on : (a b : List Node) (k : ℕ) → Extends a b → IsNone a k → IsNone b k
  none_on a b k x h = (h.0, subst (λ (l : List Node). slice_get l k ≡ Some h.0) (sym x.1) (get_more a x.0 k h.0 h.1), h.2)

  strings_on : (a b : List Node) (ks : List ℕ) → Extends a b → Strings a ks → Strings b ks
  strings_on a b [] x h = tt
  strings_on a b (k ∷ ks) x h = (string_on a b k x h.0, strings_on a b ks x h.1)

  first_on : (a b : List Node) (ks : List ℕ) → Extends a b → FirstNone a ks → FirstNone b ks
  first_on a b [] x h = h
  first_on a b (k ∷ ks) x h = none_on a b k x h

  shape_on : (a b : List Node) (ks : List ℕ) → Extends a b → Shape a ks → Shape b ks
  shape_on a b ks x (inl h) = inl (strings_on a b ks x h)
  shape_on a b ks x (inr h) = inr (first_on a b ks x h)

  first_more : (a : List Node) (ks more : List ℕ) → FirstNone a ks → FirstNone a (ks ++ more)
  first_more a [] more h = absurd h
  first_more a (k ∷ ks) more h = h

  strings_more : (a : List Node) (ks : List ℕ) (k : ℕ) → Strings a ks → IsString a k → Strings a (ks ++ k ∷ [])
  strings_more a [] k h i = (i, tt)
  strings_more a (c ∷ ks) k h i = (h.0, strings_more a ks k h.1 i)

  all_on : (a b list : List Node) → Extends a b → AllGood a list → AllGood b list
  all_on a b [] x g = tt
  all_on a b (n ∷ list) x g = (λ e. shape_on a b n.children x (g.0 e), all_on a b list x g.1)

  all_more : (a list : List Node) (n : Node) → AllGood a list → Good a n → AllGood a (list ++ n ∷ [])
  all_more a [] n g h = (h, tt)
  all_more a (m ∷ list) n g h = (g.0, all_more a list n g.1 h)

  good_more : (nodes : List Node) (n : Node) → AllGood nodes nodes → Good (nodes ++ n ∷ []) n → AllGood (nodes ++ n ∷ []) (nodes ++ n ∷ [])
  good_more nodes n g h = all_more (nodes ++ n ∷ []) nodes n (all_on nodes (nodes ++ n ∷ []) nodes (n ∷ [], refl) g) h

  -- what a reading leaves of nodes and children
  record Keeps (a b : List Node) (x y : List ℕ) : Type 0 where
    extends : Extends a b
    good : AllGood a a → AllGood b b
    appends : Appends x y

  keeps_then : (a b c : List Node) (x y z : List ℕ) → Keeps a b x y → Keeps b c y z → Keeps a c x z
  keeps_then a b c x y z k m = record {
    extends = then a b c k.extends m.extends;
    good = λ g. m.good (k.good g);
    appends = (k.appends.0 ++ m.appends.0, m.appends.1 ∙ (ap (λ (l : List ℕ). l ++ m.appends.0) k.appends.1 ∙ append_assoc x k.appends.0 m.appends.0));
  }

  keeps_same : (a : List Node) (x : List ℕ) → Keeps a a x x
  keeps_same a x = record { extends = same a; good = λ g. g; appends = ([], sym (append-nil x)) }

  keeps_more : (a : List Node) (x : List ℕ) (n : Node) → Good (a ++ n ∷ []) n → Keeps a (a ++ n ∷ []) x (x ++ length a ∷ [])
  keeps_more a x n h = record { extends = (n ∷ [], refl); good = λ g. good_more a n g h; appends = (length a ∷ [], refl) }

  record Walked (p at : ℕ) (a b : List Node) (x y : List ℕ) : Type 0 where
    keeps : Keeps a b x y
    texts : contains text_rows p ≡ true → Strings a x → Strings b y
    other : contains other_rows p ≡ true → at ≡ 0 → x ≡ [] → FirstNone b y
    ended : contains choice_rows p ≡ true → at ≡ 1 → Shape a x → Shape b y
    chosen : contains choice_rows p ≡ true → at ≡ 0 → x ≡ [] → Shape b y

  record Read (q : ℕ) (a b : List Node) (x y : List ℕ) : Type 0 where
    keeps : Keeps a b x y
    texts : contains text_rows q ≡ true → Strings a x → Strings b y
    other : contains other_rows q ≡ true → x ≡ [] → FirstNone b y
    inner : contains inner_rows q ≡ true → x ≡ [] → Shape b y

  -- the first child stays
  still : (b d : List Node) (y z : List ℕ) → Keeps b d y z → FirstNone b y → FirstNone d z
  still b d y z k h = subst (λ (l : List ℕ). FirstNone d l) (sym k.appends.1) (first_more d y k.appends.0 (first_on b d y k.extends h))

  none_yet : (a : List Node) (x : List ℕ) → x ≡ [] → Strings a x
  none_yet a x e = subst (λ (l : List ℕ). Strings a l) (sym e) tt

  leaf_good : (nodes : List Node) (place : ℕ) → Good nodes (record { production = leaf; token = place; children = [] })
  leaf_good nodes place e = inl tt

  module _ (p at : ℕ) where
    ends_not : (i : Item) → item_of p at ≡ Some i → contains choice_rows p ≡ true → at ≡ 1 → ⊥
    ends_not i e c one = choice_end p i c (subst (λ (k : ℕ). item_of p k ≡ Some i) one e)

    other_at : (i : Item) → item_of p at ≡ Some i → contains other_rows p ≡ true → at ≡ 0 → takes_other p i ≡ true
    other_at i e c none = other_item p i c (subst (λ (k : ℕ). item_of p k ≡ Some i) none e)

    choice_at : (i : Item) → item_of p at ≡ Some i → contains choice_rows p ≡ true → at ≡ 0 → chooses i ≡ true
    choice_at i e c none = choice_item p i c (subst (λ (k : ℕ). item_of p k ≡ Some i) none e)

    is_string : (k : TokenKind) (place : ℕ) (t : ℕ) (a : List Node) → is_text k ≡ true → (takes p Text t ≡ true → IsText text (slice_get tokens place)) → takes p k t ≡ true → IsString (a ++ (record { production = leaf; token = place; children = [] }) ∷ []) (length a)
    is_string Text place t a e found h = (record { production = leaf; token = place; children = [] }, at_last a _, found h)
    is_string Identifier place t a e found h = cc
    is_string (Keyword k) place t a e found h = cc
    is_string (Punctuator k) place t a e found h = cc
    is_string Integer place t a e found h = cc
    is_string Floating place t a e found h = cc
    is_string Character place t a e found h = cc
    is_string End place t a e found h = cc

    -- a token
    token_walked : (s : State) (b : List Node) (y : List ℕ) (k : TokenKind) → item_of p at ≡ Some (item.Token k) → takes p k (first text tokens s) ≡ true → Walked p (at + 1) (s.nodes ++ (record { production = leaf; token = s.place; children = [] }) ∷ []) b (s.children ++ length s.nodes ∷ []) y → Walked p at s.nodes b s.children y
    unfolding terminal
    token_walked s b y k e h w =
        let n : Node = record { production = leaf; token = s.place; children = [] } in
        let a = s.nodes in
        let x = s.children in
        let k1 = keeps_more a x n (leaf_good (a ++ n ∷ []) s.place) in
        record {
          keeps = keeps_then a (a ++ n ∷ []) b x (x ++ length a ∷ []) y k1 w.keeps;
          texts = λ c are. w.texts c (strings_more (a ++ n ∷ []) x (length a) (strings_on a (a ++ n ∷ []) x (n ∷ [], refl) are)
              (is_string k s.place (first text tokens s) a (text_item p at (item.Token k) c e) (λ g. text_taken text p s.scopes (slice_get tokens s.place) (λ t f. all s.place t f) g) h));
          other = λ c none empty.
              let there : IsNone (a ++ n ∷ []) (length a) = (n, at_last a n, other_taken text p k s.scopes (slice_get tokens s.place) (other_at (item.Token k) e c none) h) in
              still (a ++ n ∷ []) b (x ++ length a ∷ []) y w.keeps (subst (λ (l : List ℕ). FirstNone (a ++ n ∷ []) (l ++ length a ∷ [])) (sym empty) there);
          ended = λ c one shape. absurd (ends_not (item.Token k) e c one);
          chosen = λ c none empty. let never : chooses (item.Token k) ≡ true = choice_at (item.Token k) e c none in cc;
        }

    -- a production, and what follows
    used_walked : (a b d : List Node) (x y z : List ℕ) (q : ℕ) → item_of p at ≡ Some (item.Use q) → Read q a b x y → Walked p (at + 1) b d y z → Walked p at a d x z
    used_walked a b d x y z q e r w = record {
      keeps = keeps_then a b d x y z r.keeps w.keeps;
      texts = λ c are. w.texts c (r.texts (text_item p at (item.Use q) c e) are);
      other = λ c none empty. let never : takes_other p (item.Use q) ≡ true = other_at (item.Use q) e c none in cc;
      ended = λ c one shape. absurd (ends_not (item.Use q) e c one);
      chosen = λ c none empty. let never : chooses (item.Use q) ≡ true = choice_at (item.Use q) e c none in cc;
    }

    picked : (P : ℕ → Bool) (one other q : ℕ) → (one ≡ q) ⊎ (other ≡ q) → (P one && P other) ≡ true → P q ≡ true
    picked P one other q (inl e) h = subst (λ (x : ℕ). P x ≡ true) e (by (P one) (P other) h)
      where
        by : (a b : Bool) → (a && b) ≡ true → a ≡ true
        by true b e = refl
        by false b e = cc
    picked P one other q (inr e) h = subst (λ (x : ℕ). P x ≡ true) e (by (P one) (P other) h)
      where
        by : (a b : Bool) → (a && b) ≡ true → b ≡ true
        by true b e = e
        by false b e = cc

    read_shape : (q : ℕ) (a b : List Node) (x y : List ℕ) → is_part q ≡ true → Read q a b x y → x ≡ [] → Shape b y
    read_shape q a b x y part r empty = elim (part_is q part) [
      | inl c ↦ inl (r.texts c (none_yet a x empty))
      | inr rest ↦ elim rest [
        | inl c ↦ inr (r.other c empty)
        | inr c ↦ r.inner c empty
      ]
    ]

    chosen_walked : (a b d : List Node) (x y z : List ℕ) (one other q : ℕ) → item_of p at ≡ Some (item.Choice one other) → (one ≡ q) ⊎ (other ≡ q) → Read q a b x y → Walked p (at + 1) b d y z → Walked p at a d x z
    chosen_walked a b d x y z one other q e which r w = record {
      keeps = keeps_then a b d x y z r.keeps w.keeps;
      texts = λ c are. w.texts c (r.texts (picked (λ (k : ℕ). contains text_rows k) one other q which (text_item p at (item.Choice one other) c e)) are);
      other = λ c none empty. let never : takes_other p (item.Choice one other) ≡ true = other_at (item.Choice one other) e c none in cc;
      ended = λ c one' shape. absurd (ends_not (item.Choice one other) e c one');
      chosen = λ c none empty. w.ended c (ap (λ (k : ℕ). k + 1) none) (read_shape q a b x y (picked is_part one other q which (choice_at (item.Choice one other) e c none)) r empty);
    }

    again_walked : (a b d : List Node) (x y z : List ℕ) (q : ℕ) → item_of p at ≡ Some (item.Repeat q) → Read q a b x y → Walked p at b d y z → Walked p at a d x z
    again_walked a b d x y z q e r w = record {
      keeps = keeps_then a b d x y z r.keeps w.keeps;
      texts = λ c are. w.texts c (r.texts (text_item p at (item.Repeat q) c e) are);
      other = λ c none empty. let never : takes_other p (item.Repeat q) ≡ true = other_at (item.Repeat q) e c none in cc;
      ended = λ c one shape. absurd (ends_not (item.Repeat q) e c one);
      chosen = λ c none empty. let never : chooses (item.Repeat q) ≡ true = choice_at (item.Repeat q) e c none in cc;
    }

    enough_walked : (a b : List Node) (x y : List ℕ) (q : ℕ) → item_of p at ≡ Some (item.Repeat q) → Walked p (at + 1) a b x y → Walked p at a b x y
    enough_walked a b x y q e w = record {
      keeps = w.keeps;
      texts = w.texts;
      other = λ c none empty. let never : takes_other p (item.Repeat q) ≡ true = other_at (item.Repeat q) e c none in cc;
      ended = λ c one shape. absurd (ends_not (item.Repeat q) e c one);
      chosen = λ c none empty. let never : chooses (item.Repeat q) ≡ true = choice_at (item.Repeat q) e c none in cc;
    }

    scope_walked : (a b : List Node) (x y : List ℕ) (n : ℕ) → item_of p at ≡ Some (item.Scope n) → Walked p (at + 1) a b x y → Walked p at a b x y
    scope_walked a b x y n e w = record {
      keeps = w.keeps;
      texts = w.texts;
      other = λ c none empty. let never : takes_other p (item.Scope n) ≡ true = other_at (item.Scope n) e c none in cc;
      ended = λ c one shape. absurd (ends_not (item.Scope n) e c one);
      chosen = λ c none empty. let never : chooses (item.Scope n) ≡ true = choice_at (item.Scope n) e c none in cc;
    }

    end_walked : (a : List Node) (x : List ℕ) → item_of p at ≡ None → Walked p at a a x x
    end_walked a x e = record {
      keeps = keeps_same a x;
      texts = λ c are. are;
      other = λ c none empty. absurd (other_some p c (subst (λ (k : ℕ). item_of p k ≡ None) none e));
      ended = λ c one shape. shape;
      chosen = λ c none empty. absurd (choice_some p c (subst (λ (k : ℕ). item_of p k ≡ None) none e));
    }

  inner_choice : (q : ℕ) → contains inner_rows q ≡ true → contains choice_rows q ≡ true
  inner_choice q c = by (nat_eq 47 q) c
    where
      by : (b : Bool) → contains inner_rows q ≡ true → (b || contains inner_rows q) ≡ true
      by true c = refl
      by false c = c

  node_read : (q place : ℕ) (a b : List Node) (x y : List ℕ) → makes_node q ≡ true → Walked q 0 a b [] y → Read q a (b ++ (record { production = q; token = place; children = y }) ∷ []) x (x ++ length b ∷ [])
  node_read q place a b x y m w =
      let n : Node = record { production = q; token = place; children = y } in
      record {
        keeps = record {
          extends = then a b (b ++ n ∷ []) w.keeps.extends (n ∷ [], refl);
          good = λ g. good_more b n (w.keeps.good g) (λ e. shape_on b (b ++ n ∷ []) y (n ∷ [], refl) (w.chosen (subst (λ (r : ℕ). contains choice_rows r ≡ true) (sym e) refl) refl refl));
          appends = (length b ∷ [], refl);
        };
        texts = λ c are. absurd (text_no_node q c m);
        other = λ c empty. absurd (other_no_node q c m);
        inner = λ c empty. absurd (inner_no_node q c m);
      }

  row_read : (q : ℕ) (a b : List Node) (x y : List ℕ) → Walked q 0 a b x y → Read q a b x y
  row_read q a b x y w = record {
    keeps = w.keeps;
    texts = w.texts;
    other = λ c empty. w.other c refl empty;
    inner = λ c empty. w.chosen (inner_choice q c) refl empty;
  }

  -- a production by whether it makes a node
  closing : (b : Bool) (q : ℕ) (s u o x : State) → makes_node q ≡ b → o.nodes ≡ s.nodes → o.children ≡ [] → (x.nodes ≡ u.nodes ++ (record { production = q; token = s.place; children = u.children }) ∷ []) → (x.children ≡ s.children ++ length u.nodes ∷ [])
      → Walked q 0 (cond b o s).nodes u.nodes (cond b o s).children u.children → Read q s.nodes (cond b x u).nodes s.children (cond b x u).children
  closing true q s u o x m en ec fn fc w =
      let w1 = subst (λ (l : List Node). Walked q 0 l u.nodes o.children u.children) en w in
      let w2 = subst (λ (l : List ℕ). Walked q 0 s.nodes u.nodes l u.children) ec w1 in
      let r = node_read q s.place s.nodes u.nodes s.children u.children m w2 in
      let r1 = subst (λ (l : List Node). Read q s.nodes l s.children (s.children ++ length u.nodes ∷ [])) (sym fn) r in
      subst (λ (l : List ℕ). Read q s.nodes x.nodes s.children l) (sym fc) r1
  closing false q s u o x m en ec fn fc w = row_read q s.nodes u.nodes s.children u.children w

  mutual
    walks_walked : (p at d : ℕ) (s : State) (r : Result State Fault) → Walks text tokens p at d s r → (t : State) → r ≡ Ok t → Walked p at s.nodes t.nodes s.children t.children
    walks_walked p at d s r (at_end h) t e = let f : s ≡ t = cc in subst (λ (x : State). Walked p at s.nodes x.nodes s.children x.children) f (end_walked p at s.nodes s.children h)
    walks_walked p at d s r (token {k = k} h g w) t e = token_walked p at s t.nodes t.children k h g (walks_walked p (at + 1) d _ r w t e)
    walks_walked p at d s r (no_token h k) t e = absurd (cc)
    walks_walked p at d s r (use_of {q = q} {t = u} h o w) t e =
        used_walked p at s.nodes u.nodes t.nodes s.children u.children t.children q h (opens_read q d s (Ok u) o u refl) (walks_walked p (at + 1) d u r w t e)
    walks_walked p at d s r (no_use h o) t e = absurd (cc)
    walks_walked p at d s r (choice {a = a} {b = b} {q = q} {t = u} h c o w) t e =
        chosen_walked p at s.nodes u.nodes t.nodes s.children u.children t.children a b q h (one_of a b (first text tokens s) (second text tokens s) s.notes q c) (opens_read q d s (Ok u) o u refl) (walks_walked p (at + 1) d u r w t e)
    walks_walked p at d s r (no_choice h c o) t e = absurd (cc)
    walks_walked p at d s r (no_alternative h c) t e = absurd (cc)
    walks_walked p at d s r (again {q = q} {t = u} h k o w) t e =
        again_walked p at s.nodes u.nodes t.nodes s.children u.children t.children q h (opens_read q d s (Ok u) o u refl) (walks_walked p at d u r w t e)
    walks_walked p at d s r (no_again h k o) t e = absurd (cc)
    walks_walked p at d s r (scope {n = n} h w) t e = scope_walked p at s.nodes t.nodes s.children t.children n h (walks_walked p (at + 1) d (scoped text tokens p n s) r w t e)
    walks_walked p at d s r (enough {q = q} h k w) t e = enough_walked p at s.nodes t.nodes s.children t.children q h (walks_walked p (at + 1) d s r w t e)

    opens_read : (q d : ℕ) (s : State) (r : Result State Fault) → Opens text tokens q d s r → (t : State) → r ≡ Ok t → Read q s.nodes t.nodes s.children t.children
    opens_read q d s r (deep h) t e = absurd (cc)
    opens_read q d s r (refused h k) t e = absurd (cc)
    opens_read q d s r (whole {t = u} h k w) t e =
        let f : closed q s u ≡ t = cc in
        subst (λ (x : State). Read q s.nodes x.nodes s.children x.children) f (closing (makes_node q) q s u _ _ refl refl refl refl refl (walks_walked q 0 _ (opened q s) (Ok u) w u refl))
    opens_read q d s r (broken h k w) t e = absurd (cc)

  -- all primaries of what a production reads
  pub opens_good : (q d : ℕ) (s : State) (t : State) → Opens text tokens q d s (Ok t) → AllGood s.nodes s.nodes → AllGood t.nodes t.nodes
  opens_good q d s t o g = (opens_read q d s (Ok t) o t refl).keeps.good g
