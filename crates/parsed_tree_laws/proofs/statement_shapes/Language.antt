-- The sequences of parts that a row may bring.
use Rattle.std.proofs.Common.{◌≡◌, ◌+◌, ℕ, zero, suc, Bool, true, false, cond, Result, Ok, List, [], ◌∷◌, ◌++◌, Some, None, length, slice_get, drop, refl, sym, ap, ◌∙◌, subst, append_assoc, append-nil, inl, inr}
use Rattle.c_lexer.specs.declared.Token.{Token}
use Rattle.c_lexer.specs.declared.TokenKind.{TokenKind}
use Rattle.c_grammar.specs.declared.rows.Item.{Item}
use Rattle.c_grammar.specs.declared.rows.Item.TheVariants as item
use Rattle.c_grammar.specs.Names.{Names}
use Rattle.c_grammar.specs.Table.{row, item_of}
use Rattle.c_grammar.specs.Terminals.{takes, terminal, terminal_of}
use Rattle.c_grammar.specs.Tree.{makes_node}
use Rattle.c_grammar.specs.Reads.{State, Fault, Node, leaf, first, second, taken, scoped, opened, closed, Walks, Opens, at_end, token, no_token, use_of, no_use, choice, no_choice, no_alternative, again, no_again, scope, enough, deep, refused, whole, broken}
use Rattle.parsed_tree_laws.proofs.counted_parts.Steps.{from_item, one_chosen, Extends, walks_extend}

abbrev pub Word : Type 0
Word = List Item

abbrev pub IsIn : List Word → Word → Type 0
IsIn words w = (k : ℕ) × (slice_get words k ≡ Some w)

-- each of some words before each of some others
abbrev pub put : Word → List Word → List Word
put v [] = []
put v (w ∷ words) = (v ++ w) ∷ put v words

abbrev pub cross : List Word → List Word → List Word
cross [] more = []
cross (v ∷ words) more = put v more ++ cross words more

-- the words of a row; what repeats, or is too deep, is left open
abbrev pub unknown : ℕ → List Word
unknown q = (item.Repeat q ∷ []) ∷ []

abbrev pub words_in : (ℕ → List Word) → List Item → List Word
words_in part [] = [] ∷ []
words_in part (item.Token k ∷ items) = put (item.Token k ∷ []) (words_in part items)
words_in part (item.Use q ∷ items) = cross (part q) (words_in part items)
words_in part (item.Choice a b ∷ items) = cross (part a ++ part b) (words_in part items)
words_in part (item.Repeat q ∷ items) = unknown q
words_in part (item.Scope n ∷ items) = words_in part items

abbrev pub part_words : ℕ → ℕ → List Word
part_words zero q = cond (makes_node q) ((item.Use q ∷ []) ∷ []) (unknown q)
part_words (suc depth) q = cond (makes_node q) ((item.Use q ∷ []) ∷ []) (words_in (part_words depth) (row q))

in_append_left : (a b : List Word) (w : Word) → IsIn a w → IsIn (a ++ b) w
in_append_left [] b w h = cc
in_append_left (x ∷ a) b w (zero, e) = (0, e)
in_append_left (x ∷ a) b w (suc k, e) = let more = in_append_left a b w (k, e) in (suc more.0, more.1)

in_append_right : (a b : List Word) (w : Word) → IsIn b w → IsIn (a ++ b) w
in_append_right [] b w h = h
in_append_right (x ∷ a) b w h = let more = in_append_right a b w h in (suc more.0, more.1)

in_put : (v : Word) (words : List Word) (w : Word) → IsIn words w → IsIn (put v words) (v ++ w)
in_put v [] w h = cc
in_put v (x ∷ words) w (zero, e) = let same : x ≡ w = cc in (0, ap (λ (y : Word). Some (v ++ y)) same)
in_put v (x ∷ words) w (suc k, e) = let more = in_put v words w (k, e) in (suc more.0, more.1)

in_cross : (a b : List Word) (v w : Word) → IsIn a v → IsIn b w → IsIn (cross a b) (v ++ w)
in_cross [] b v w h i = cc
in_cross (x ∷ a) b v w (zero, e) i = let same : x ≡ v = cc in subst (λ (y : Word). IsIn (put x b ++ cross a b) (y ++ w)) same (in_append_left (put x b) (cross a b) (x ++ w) (in_put x b w i))
in_cross (x ∷ a) b v w (suc k, e) i = in_append_right (put x b) (cross a b) (v ++ w) (in_cross a b v w (k, e) i)

module _ (text : List ℕ) (tokens : List Token) where
  -- a leaf that an item takes, and a node of a production
  abbrev pub IsTaken : TokenKind → List Node → ℕ → Type 0
  IsTaken k nodes c = (n : Node) × (slice_get nodes c ≡ Some n) × (n.production ≡ leaf) × ((p : ℕ) × (names : Names) × (takes p k (terminal_of text names (slice_get tokens n.token)) ≡ true))

  abbrev pub IsNode : ℕ → List Node → ℕ → Type 0
  IsNode q nodes c = (n : Node) × (slice_get nodes c ≡ Some n) × (n.production ≡ q)

  -- children that are of the parts of a word
  abbrev pub Matches : List Node → Word → List ℕ → Type 0
  Matches nodes [] [] = Unit {0}
  Matches nodes [] (c ∷ ks) = ⊥
  Matches nodes (item.Token k ∷ w) [] = ⊥
  Matches nodes (item.Token k ∷ w) (c ∷ ks) = IsTaken k nodes c × Matches nodes w ks
  Matches nodes (item.Use q ∷ w) [] = ⊥
  Matches nodes (item.Use q ∷ w) (c ∷ ks) = IsNode q nodes c × Matches nodes w ks
  Matches nodes (item.Repeat q ∷ w) ks = Unit {0}
  Matches nodes (item.Choice a b ∷ w) ks = Unit {0}
  Matches nodes (item.Scope n ∷ w) ks = Unit {0}

  get_more : (nodes more : List Node) (k : ℕ) (n : Node) → slice_get nodes k ≡ Some n → slice_get (nodes ++ more) k ≡ Some n
  get_more [] more k n e = cc
  get_more (m ∷ nodes) more zero n e = e
  get_more (m ∷ nodes) more (suc k) n e = get_more nodes more k n e

  get_on : (a b : List Node) (k : ℕ) (n : Node) → Extends a b → slice_get a k ≡ Some n → slice_get b k ≡ Some n
  get_on a b k n x e = subst (λ (l : List Node). slice_get l k ≡ Some n) (sym x.1) (get_more a x.0 k n e)

  matches_on : (a b : List Node) (w : Word) (ks : List ℕ) → Extends a b → Matches a w ks → Matches b w ks
  matches_on a b [] [] x h = tt
  matches_on a b [] (c ∷ ks) x h = absurd h
  matches_on a b (item.Token k ∷ w) [] x h = absurd h
  matches_on a b (item.Token k ∷ w) (c ∷ ks) x h = ((h.0.0, get_on a b c h.0.0 x h.0.1, h.0.2, h.0.3), matches_on a b w ks x h.1)
  matches_on a b (item.Use q ∷ w) [] x h = absurd h
  matches_on a b (item.Use q ∷ w) (c ∷ ks) x h = ((h.0.0, get_on a b c h.0.0 x h.0.1, h.0.2), matches_on a b w ks x h.1)
  matches_on a b (item.Repeat q ∷ w) ks x h = tt
  matches_on a b (item.Choice c d ∷ w) ks x h = tt
  matches_on a b (item.Scope n ∷ w) ks x h = tt

  matches_both : (nodes : List Node) (v w : Word) (xs ys : List ℕ) → Matches nodes v xs → Matches nodes w ys → Matches nodes (v ++ w) (xs ++ ys)
  matches_both nodes [] w [] ys h k = k
  matches_both nodes [] w (c ∷ xs) ys h k = absurd h
  matches_both nodes (item.Token t ∷ v) w [] ys h k = absurd h
  matches_both nodes (item.Token t ∷ v) w (c ∷ xs) ys h k = (h.0, matches_both nodes v w xs ys h.1 k)
  matches_both nodes (item.Use q ∷ v) w [] ys h k = absurd h
  matches_both nodes (item.Use q ∷ v) w (c ∷ xs) ys h k = (h.0, matches_both nodes v w xs ys h.1 k)
  matches_both nodes (item.Repeat q ∷ v) w xs ys h k = tt
  matches_both nodes (item.Choice a b ∷ v) w xs ys h k = tt
  matches_both nodes (item.Scope n ∷ v) w xs ys h k = tt

  at_last : (nodes : List Node) (n : Node) → slice_get (nodes ++ n ∷ []) (length nodes) ≡ Some n
  at_last [] n = refl
  at_last (m ∷ nodes) n = at_last nodes n

  -- some children are added, which match a word of a list
  pub record Adds (nodes : List Node) (x y : List ℕ) (words : List Word) : Type 0 where
    pub new : List ℕ
    pub are : y ≡ x ++ new
    pub word : Word
    pub listed : IsIn words word
    pub match : Matches nodes word new

  adds_then : (a b : List Node) (x y z : List ℕ) (u v w : List Word) → Extends a b → ((c d : Word) → IsIn u c → IsIn v d → IsIn w (c ++ d)) → Adds a x y u → Adds b y z v → Adds b x z w
  adds_then a b x y z u v w ext both k m = record {
    new = k.new ++ m.new;
    are = m.are ∙ (ap (λ (l : List ℕ). l ++ m.new) k.are ∙ append_assoc x k.new m.new);
    word = k.word ++ m.word;
    listed = both k.word m.word k.listed m.listed;
    match = matches_both b k.word m.word k.new m.new (matches_on a b k.word k.new ext k.match) m.match;
  }

  adds_unknown : (a b : List Node) (x y : List ℕ) (q : ℕ) → Adds a x y (unknown q) → Adds b x y (unknown q)
  adds_unknown a b x y q k = record { new = k.new; are = k.are; word = item.Repeat q ∷ []; listed = (0, refl); match = tt }

  -- whatever is added
  adds_any : (a b : List Node) (x y z : List ℕ) (u v : List Word) (q : ℕ) → Adds a x y u → Adds b y z v → Adds b x z (unknown q)
  adds_any a b x y z u v q k m = record { new = k.new ++ m.new; are = m.are ∙ (ap (λ (l : List ℕ). l ++ m.new) k.are ∙ append_assoc x k.new m.new); word = item.Repeat q ∷ []; listed = (0, refl); match = tt }

  adds_as : (a : List Node) (x y : List ℕ) (u : List Word) (q : ℕ) → Adds a x y u → Adds a x y (unknown q)
  adds_as a x y u q k = record { new = k.new; are = k.are; word = item.Repeat q ∷ []; listed = (0, refl); match = tt }

  when_true : {A : Type 0} (b : Bool) (x y : A) → b ≡ true → cond b x y ≡ x
  when_true true x y e = refl
  when_true false x y e = cc

  when_false : {A : Type 0} (b : Bool) (x y : A) → b ≡ false → cond b x y ≡ y
  when_false true x y e = cc
  when_false false x y e = refl

  closing : (b : Bool) (q depth : ℕ) (s u o x : State) → makes_node q ≡ b → (x.nodes ≡ u.nodes ++ (record { production = q; token = s.place; children = u.children }) ∷ []) → (x.children ≡ s.children ++ length u.nodes ∷ [])
      → ((d : ℕ) → Adds u.nodes (cond b o s).children u.children (words_in (part_words d) (row q))) → Adds (cond b x u).nodes s.children (cond b x u).children (part_words depth q)
  closing true q depth s u o x m fn fc k =
      let n : Node = record { production = q; token = s.place; children = u.children } in
      let words : part_words depth q ≡ (item.Use q ∷ []) ∷ [] = by depth in
      let there : slice_get x.nodes (length u.nodes) ≡ Some n = subst (λ (l : List Node). slice_get l (length u.nodes) ≡ Some n) (sym fn) (at_last u.nodes n) in
      record { new = length u.nodes ∷ []; are = fc; word = item.Use q ∷ []; listed = subst (λ (l : List Word). IsIn l (item.Use q ∷ [])) (sym words) (0, refl); match = ((n, there, refl), tt) }
    where
      by : (depth : ℕ) → part_words depth q ≡ (item.Use q ∷ []) ∷ []
      by zero = when_true (makes_node q) ((item.Use q ∷ []) ∷ []) (unknown q) m
      by (suc d) = when_true (makes_node q) ((item.Use q ∷ []) ∷ []) (words_in (part_words d) (row q)) m
  closing false q zero s u o x m fn fc k =
      subst (λ (l : List Word). Adds u.nodes s.children u.children l) (sym (when_false (makes_node q) ((item.Use q ∷ []) ∷ []) (unknown q) m)) (adds_as u.nodes s.children u.children (words_in (part_words 0) (row q)) q (k 0))
  closing false q (suc d) s u o x m fn fc k = subst (λ (l : List Word). Adds u.nodes s.children u.children l) (sym (when_false (makes_node q) ((item.Use q ∷ []) ∷ []) (words_in (part_words d) (row q)) m)) (k d)

  rest_words : (depth p at : ℕ) (i : Item) → item_of p at ≡ Some i → words_in (part_words depth) (drop at (row p)) ≡ words_in (part_words depth) (i ∷ drop (at + 1) (row p))
  rest_words depth p at i e = ap (λ (l : List Item). words_in (part_words depth) l) (from_item p at i e)

  done : (p at : ℕ) (depth : ℕ) → item_of p at ≡ None → IsIn (words_in (part_words depth) (drop at (row p))) []
  unfolding item_of
  done p at depth e = subst (λ (l : List Item). IsIn (words_in (part_words depth) l) []) (sym (nothing_left (row p) at e)) (0, refl)
    where
      nothing_left : (items : List Item) (at : ℕ) → slice_get items at ≡ None → drop at items ≡ []
      nothing_left [] zero e = refl
      nothing_left [] (suc at) e = refl
      nothing_left (x ∷ items) zero e = cc
      nothing_left (x ∷ items) (suc at) e = nothing_left items at e

  only : (kind : TokenKind) (c : Word) → IsIn ((item.Token kind ∷ []) ∷ []) c → item.Token kind ∷ [] ≡ c
  only kind c (zero, e) = cc
  only kind c (suc k, e) = cc

  seen : (p : ℕ) (k : TokenKind) (s : State) → takes p k (first text tokens s) ≡ true → takes p k (terminal_of text s.scopes (slice_get tokens s.place)) ≡ true
  unfolding terminal
  seen p k s h = h

  mutual
    walks_add : (p at d : ℕ) (s : State) (r : Result State Fault) → Walks text tokens p at d s r → (t : State) → r ≡ Ok t → (depth : ℕ) → Adds t.nodes s.children t.children (words_in (part_words depth) (drop at (row p)))
    walks_add p at d s r (at_end h) t e depth =
        let f : s ≡ t = cc in
        subst (λ (x : State). Adds x.nodes s.children x.children (words_in (part_words depth) (drop at (row p)))) f (record { new = []; are = sym (append-nil s.children); word = []; listed = done p at depth h; match = tt })
    walks_add p at d s r (token {k = kind} h k w) t e depth =
        let n : Node = record { production = leaf; token = s.place; children = [] } in
        let rest = drop (at + 1) (row p) in
        let own : Adds (s.nodes ++ n ∷ []) s.children (s.children ++ length s.nodes ∷ []) ((item.Token kind ∷ []) ∷ []) =
        record { new = length s.nodes ∷ []; are = refl; word = item.Token kind ∷ []; listed = (0, refl); match = ((n, at_last s.nodes n, refl, (p, s.scopes, seen p kind s k)), tt) } in
        let later = walks_add p (at + 1) d (taken text tokens p s) r w t e depth in
        subst (λ (l : List Word). Adds t.nodes s.children t.children l) (sym (rest_words depth p at (item.Token kind) h))
        (adds_then (s.nodes ++ n ∷ []) t.nodes s.children (s.children ++ length s.nodes ∷ []) t.children ((item.Token kind ∷ []) ∷ []) (words_in (part_words depth) rest) (put (item.Token kind ∷ []) (words_in (part_words depth) rest))
        (walks_extend text tokens p (at + 1) d (taken text tokens p s) t (subst (λ (x : Result State Fault). Walks text tokens p (at + 1) d (taken text tokens p s) x) e w))
        (λ c v hc hv. subst (λ (y : Word). IsIn (put (item.Token kind ∷ []) (words_in (part_words depth) rest)) (y ++ v)) (only kind c hc) (in_put (item.Token kind ∷ []) (words_in (part_words depth) rest) v hv)) own later)
    walks_add p at d s r (no_token h k) t e depth = absurd (cc)
    walks_add p at d s r (use_of {q = q} {t = u} h o w) t e depth =
        let rest = drop (at + 1) (row p) in
        subst (λ (l : List Word). Adds t.nodes s.children t.children l) (sym (rest_words depth p at (item.Use q) h))
        (adds_then u.nodes t.nodes s.children u.children t.children (part_words depth q) (words_in (part_words depth) rest) (cross (part_words depth q) (words_in (part_words depth) rest))
        (walks_extend text tokens p (at + 1) d u t (subst (λ (x : Result State Fault). Walks text tokens p (at + 1) d u x) e w)) (λ c v hc hv. in_cross (part_words depth q) (words_in (part_words depth) rest) c v hc hv) (opens_add q d s (Ok u) o u refl depth)
        (walks_add p (at + 1) d u r w t e depth))
    walks_add p at d s r (no_use h o) t e depth = absurd (cc)
    walks_add p at d s r (choice {a = a} {b = b} {q = q} {t = u} h ch o w) t e depth =
        let rest = drop (at + 1) (row p) in
        let both = part_words depth a ++ part_words depth b in
        let within : (c : Word) → IsIn (part_words depth q) c → IsIn both c = λ c hc. elim (one_chosen a b (first text tokens s) (second text tokens s) s.notes q ch) [
          | inl same ↦ in_append_left (part_words depth a) (part_words depth b) c (subst (λ (x : ℕ). IsIn (part_words depth x) c) (sym same) hc)
          | inr same ↦ in_append_right (part_words depth a) (part_words depth b) c (subst (λ (x : ℕ). IsIn (part_words depth x) c) (sym same) hc)
        ] in
        subst (λ (l : List Word). Adds t.nodes s.children t.children l) (sym (rest_words depth p at (item.Choice a b) h))
        (adds_then u.nodes t.nodes s.children u.children t.children (part_words depth q) (words_in (part_words depth) rest) (cross both (words_in (part_words depth) rest))
        (walks_extend text tokens p (at + 1) d u t (subst (λ (x : Result State Fault). Walks text tokens p (at + 1) d u x) e w)) (λ c v hc hv. in_cross both (words_in (part_words depth) rest) c v (within c hc) hv) (opens_add q d s (Ok u) o u refl depth)
        (walks_add p (at + 1) d u r w t e depth))
    walks_add p at d s r (no_choice h ch o) t e depth = absurd (cc)
    walks_add p at d s r (no_alternative h ch) t e depth = absurd (cc)
    walks_add p at d s r (again {q = q} {t = u} h k o w) t e depth =
        subst (λ (l : List Word). Adds t.nodes s.children t.children l) (sym (rest_words depth p at (item.Repeat q) h))
        (adds_any u.nodes t.nodes s.children u.children t.children (part_words depth q) (words_in (part_words depth) (drop at (row p))) q (opens_add q d s (Ok u) o u refl depth) (walks_add p at d u r w t e depth))
    walks_add p at d s r (no_again h k o) t e depth = absurd (cc)
    walks_add p at d s r (scope {n = n} h w) t e depth =
        subst (λ (l : List Word). Adds t.nodes s.children t.children l) (sym (rest_words depth p at (item.Scope n) h)) (walks_add p (at + 1) d (scoped text tokens p n s) r w t e depth)
    walks_add p at d s r (enough {q = q} h k w) t e depth =
        subst (λ (l : List Word). Adds t.nodes s.children t.children l) (sym (rest_words depth p at (item.Repeat q) h)) (adds_as t.nodes s.children t.children (words_in (part_words depth) (drop (at + 1) (row p))) q (walks_add p (at + 1) d s r w t e depth))

    opens_add : (q d : ℕ) (s : State) (r : Result State Fault) → Opens text tokens q d s r → (t : State) → r ≡ Ok t → (depth : ℕ) → Adds t.nodes s.children t.children (part_words depth q)
    opens_add q d s r (deep h) t e depth = absurd (cc)
    opens_add q d s r (refused h k) t e depth = absurd (cc)
    opens_add q d s r (whole {t = u} h k w) t e depth =
        let f : closed q s u ≡ t = cc in
        subst (λ (x : State). Adds x.nodes s.children x.children (part_words depth q)) f (closing (makes_node q) q depth s u _ _ refl refl refl (λ deeper. walks_add q 0 _ (opened q s) (Ok u) w u refl deeper))
    opens_add q d s r (broken h k w) t e depth = absurd (cc)

  -- ---- the nodes of one production

  module _ (p depth : ℕ) where
    abbrev pub Good : List Node → Node → Type 0
    Good nodes n = n.production ≡ p → (w : Word) × IsIn (words_in (part_words depth) (row p)) w × Matches nodes w n.children

    abbrev pub AllGood : List Node → List Node → Type 0
    AllGood nodes [] = Unit {0}
    AllGood nodes (n ∷ rest) = Good nodes n × AllGood nodes rest

    good_on : (a b : List Node) (n : Node) → Extends a b → Good a n → Good b n
    good_on a b n x g e = let own = g e in (own.0, own.1, matches_on a b own.0 n.children x own.2)

    all_good_on : (a b list : List Node) → Extends a b → AllGood a list → AllGood b list
    all_good_on a b [] x g = tt
    all_good_on a b (n ∷ list) x g = (good_on a b n x g.0, all_good_on a b list x g.1)

    all_more : (a list : List Node) (n : Node) → AllGood a list → Good a n → AllGood a (list ++ n ∷ [])
    all_more a [] n g h = (h, tt)
    all_more a (m ∷ list) n g h = (g.0, all_more a list n g.1 h)

    good_more : (nodes : List Node) (n : Node) → AllGood nodes nodes → Good nodes n → AllGood (nodes ++ n ∷ []) (nodes ++ n ∷ [])
    good_more nodes n g h = all_more (nodes ++ n ∷ []) nodes n (all_good_on nodes (nodes ++ n ∷ []) nodes (n ∷ [], refl) g) (good_on nodes (nodes ++ n ∷ []) n (n ∷ [], refl) h)

    own_good : (q place d : ℕ) (s u : State) → s.children ≡ [] → Walks text tokens q 0 d s (Ok u) → Good u.nodes (record { production = q; token = place; children = u.children })
    own_good q place d s u none w e =
        let k = walks_add q 0 d s (Ok u) w u refl depth in
        let same : u.children ≡ k.new = k.are ∙ ap (λ (l : List ℕ). l ++ k.new) none in
        (k.word, subst (λ (x : ℕ). IsIn (words_in (part_words depth) (row x)) k.word) e k.listed, subst (λ (l : List ℕ). Matches u.nodes k.word l) (sym same) k.match)

    good_closing : (b : Bool) (q d : ℕ) (s u o x : State) → o.nodes ≡ s.nodes → o.children ≡ [] → (x.nodes ≡ u.nodes ++ (record { production = q; token = s.place; children = u.children }) ∷ []) → Walks text tokens q 0 d (cond b o s) (Ok u)
        → (AllGood (cond b o s).nodes (cond b o s).nodes → AllGood u.nodes u.nodes) → AllGood s.nodes s.nodes → AllGood (cond b x u).nodes (cond b x u).nodes
    good_closing true q d s u o x en ec fn w k g =
        let n : Node = record { production = q; token = s.place; children = u.children } in
        let inside = k (subst (λ (l : List Node). AllGood l l) (sym en) g) in
        subst (λ (l : List Node). AllGood l l) (sym fn) (good_more u.nodes n inside (own_good q s.place d o u ec w))
    good_closing false q d s u o x en ec fn w k g = k g

    module _ (no_leaf : leaf ≡ p → ⊥) where
      mutual
        walks_good : (q at d : ℕ) (s : State) (r : Result State Fault) → Walks text tokens q at d s r → (t : State) → r ≡ Ok t → AllGood s.nodes s.nodes → AllGood t.nodes t.nodes
        walks_good q at d s r (at_end h) t e g = let f : s ≡ t = cc in subst (λ (x : State). AllGood x.nodes x.nodes) f g
        walks_good q at d s r (token h k w) t e g = walks_good q (at + 1) d (taken text tokens q s) r w t e (good_more s.nodes (record { production = leaf; token = s.place; children = [] }) g (λ is. absurd (no_leaf is)))
        walks_good q at d s r (no_token h k) t e g = absurd (cc)
        walks_good q at d s r (use_of {q = a} {t = u} h o w) t e g = walks_good q (at + 1) d u r w t e (opens_good a d s (Ok u) o u refl g)
        walks_good q at d s r (no_use h o) t e g = absurd (cc)
        walks_good q at d s r (choice {t = u} h c o w) t e g = walks_good q (at + 1) d u r w t e (opens_good _ d s (Ok u) o u refl g)
        walks_good q at d s r (no_choice h c o) t e g = absurd (cc)
        walks_good q at d s r (no_alternative h c) t e g = absurd (cc)
        walks_good q at d s r (again {q = a} {t = u} h k o w) t e g = walks_good q at d u r w t e (opens_good a d s (Ok u) o u refl g)
        walks_good q at d s r (no_again h k o) t e g = absurd (cc)
        walks_good q at d s r (scope {n = n} h w) t e g = walks_good q (at + 1) d (scoped text tokens q n s) r w t e g
        walks_good q at d s r (enough h k w) t e g = walks_good q (at + 1) d s r w t e g

        opens_good : (q d : ℕ) (s : State) (r : Result State Fault) → Opens text tokens q d s r → (t : State) → r ≡ Ok t → AllGood s.nodes s.nodes → AllGood t.nodes t.nodes
        opens_good q d s r (deep h) t e g = absurd (cc)
        opens_good q d s r (refused h k) t e g = absurd (cc)
        opens_good q d s r (whole {t = u} h k w) t e g =
            let f : closed q s u ≡ t = cc in
            subst (λ (x : State). AllGood x.nodes x.nodes) f (good_closing (makes_node q) q _ s u _ _ refl refl refl w (λ x. walks_good q 0 _ (opened q s) (Ok u) w u refl x) g)
        opens_good q d s r (broken h k w) t e g = absurd (cc)

      pub all_read : (q d : ℕ) (s t : State) → s.nodes ≡ [] → Opens text tokens q d s (Ok t) → AllGood t.nodes t.nodes
      all_read q d s t none o = opens_good q d s (Ok t) o t refl (subst (λ (l : List Node). AllGood l l) (sym none) tt)
