-- What reading brings.
use Rattle.std.proofs.Common.{◌≡◌, ℕ, zero, suc, ◌+◌, Bool, true, false, Result, Ok, List, [], ◌∷◌, ◌++◌, length, map, slice_get, refl, sym, ap, ◌∙◌, subst, append_assoc, append-nil}
use Rattle.std.specs.Prelude.{if◌then◌else◌}
use Rattle.c_lexer.specs.declared.Token.{Token}
use Rattle.c_grammar.specs.declared.trees.SyntaxNode.{SyntaxNode}
use Rattle.c_grammar.specs.Names.{no_names}
use Rattle.c_grammar.specs.Productions.{p_unit}
use Rattle.c_grammar.specs.Table.{table, row, item_of}
use Rattle.c_grammar.specs.Tree.{makes_node}
use Rattle.c_grammar.specs.Reads.{State, Fault, Node, node_of, leaf, first, second, taken, scoped, opened, closed, Walks, Opens, at_end, token, no_token, use_of, no_use, choice, no_choice, no_alternative, again, no_again, scope, enough, deep, refused, whole, broken}
use Rattle.c_parser.specs.Parse.{begin}
use Rattle.parsed_tree_laws.specs.placed_laws.PassedOn.{source_of}
use Rattle.parsed_tree_laws.specs.placed_laws.PassedOn.{production_of, children_of}
use Rattle.parsed_tree_laws.proofs.placed_laws.Once.{Extends}
use Rattle.parsed_tree_laws.proofs.placed_laws.Once as once
use Rattle.parsed_tree_laws.proofs.placed_laws.Rows.{one_chosen}
use Rattle.parsed_tree_laws.specs.grown_parts.Parts.{Brings, Part, UnitsBring}
use Rattle.parsed_tree_laws.specs.grown_parts.Parts as parts

-- the production of a node by its number
abbrev pub made_as : List Node → ℕ → ℕ
made_as [] k = leaf
made_as (n ∷ nodes) zero = n.production
made_as (n ∷ nodes) (suc k) = made_as nodes k

abbrev pub made_of : List Node → List ℕ → List ℕ
made_of nodes ks = map (made_as nodes) ks

made_last : (nodes : List Node) (n : Node) (more : List Node) → made_as ((nodes ++ n ∷ []) ++ more) (length nodes) ≡ n.production
made_last [] n more = refl
made_last (x ∷ nodes) n more = made_last nodes n more

last_is : (a b : List Node) (n : Node) → Extends (a ++ n ∷ []) b → made_as b (length a) ≡ n.production
last_is a b n x = ap (λ (l : List Node). made_as l (length a)) x.1 ∙ made_last a n x.0

map_append : (f : ℕ → ℕ) (xs ys : List ℕ) → map f (xs ++ ys) ≡ map f xs ++ map f ys
map_append f [] ys = refl
map_append f (x ∷ xs) ys = ap (λ (l : List ℕ). f x ∷ l) (map_append f xs ys)

-- the numbers that are added, and a fact of their productions in all that more nodes make
pub record Adds (P : List ℕ → Type 0) (s t : State) : Type 0 where
  pub new : List ℕ
  pub are : t.children ≡ s.children ++ new
  pub extends : Extends s.nodes t.nodes
  pub brings : (nodes : List Node) → Extends t.nodes nodes → P (made_of nodes new)

abbrev pub children_in : List Node → ℕ → List ℕ
children_in [] k = []
children_in (n ∷ nodes) zero = n.children
children_in (n ∷ nodes) (suc k) = children_in nodes k

joined : (P Q R : List ℕ → Type 0) (s u t : State) → ((xs ys : List ℕ) → P xs → Q ys → R (xs ++ ys)) → Adds P s u → Adds Q u t → Adds R s t
joined P Q R s u t both one rest = record {
  new = one.new ++ rest.new;
  are = rest.are ∙ (ap (λ (l : List ℕ). l ++ rest.new) one.are ∙ append_assoc s.children one.new rest.new);
  extends = once.then s.nodes u.nodes t.nodes one.extends rest.extends;
  brings = λ nodes x.
      subst R (sym (map_append (made_as nodes) one.new rest.new)) (both (made_of nodes one.new) (made_of nodes rest.new) (one.brings nodes (once.then u.nodes t.nodes nodes rest.extends x)) (rest.brings nodes x));
}

module _ (text : List ℕ) (tokens : List Token) where
  token_adds : (P Q : List ℕ → Type 0) (p : ℕ) (s t : State) → ((ys : List ℕ) → Q ys → P (leaf ∷ ys)) → Adds Q (taken text tokens p s) t → Adds P s t
  token_adds P Q p s t more rest = record {
    new = length s.nodes ∷ rest.new;
    are = rest.are ∙ append_assoc s.children (length s.nodes ∷ []) rest.new;
    extends = once.then s.nodes (taken text tokens p s).nodes t.nodes (record { production = leaf; token = s.place; children = [] } ∷ [], refl) rest.extends;
    brings = λ nodes x.
        subst P (ap (λ (k : ℕ). k ∷ made_of nodes rest.new) (sym (last_is s.nodes nodes (record { production = leaf; token = s.place; children = [] }) (once.then (taken text tokens p s).nodes t.nodes nodes rest.extends x))))
        (more (made_of nodes rest.new) (rest.brings nodes x));
  }

  closing : (b : Bool) (q : ℕ) (s o u x : State) → makes_node q ≡ b → o.nodes ≡ s.nodes → x.nodes ≡ u.nodes ++ (record { production = q; token = s.place; children = u.children }) ∷ [] → x.children ≡ s.children ++ length u.nodes ∷ []
      → Adds (Brings q 0) (if b then o else s) u → Adds (Part q) s (if b then x else u)
  closing true q s o u x m same made children one =
      let n : Node = record { production = q; token = s.place; children = u.children } in
      let up : Extends u.nodes x.nodes = (n ∷ [], made) in
      let from : Extends s.nodes u.nodes = subst (λ (l : List Node). Extends l u.nodes) same one.extends in
      record {
        new = length u.nodes ∷ [];
        are = children;
        extends = once.then s.nodes u.nodes x.nodes from up;
        brings = λ nodes y. parts.own_node m (ap (λ (k : ℕ). k ∷ []) (last_is u.nodes nodes n (subst (λ (l : List Node). Extends l nodes) made y)));
      }
  closing false q s o u x m same made children one = record { new = one.new; are = one.are; extends = one.extends; brings = λ nodes y. parts.own_row m (one.brings nodes y) }

  mutual
    walks_add : (p at d : ℕ) (s : State) (r : Result State Fault) → Walks text tokens p at d s r → (t : State) → r ≡ Ok t → Adds (Brings p at) s t
    walks_add p at d s r (at_end h) t e =
        let f : s ≡ t = cc in
        subst (λ (x : State). Adds (Brings p at) s x) f (record { new = []; are = sym (append-nil s.children); extends = once.same s.nodes; brings = λ nodes x. parts.ended h refl })
    walks_add p at d s r (token h k w) t e = token_adds (Brings p at) (Brings p (at + 1)) p s t (λ ys b. parts.token h refl b) (walks_add p (at + 1) d (taken text tokens p s) r w t e)
    walks_add p at d s r (no_token h k) t e = absurd (cc)
    walks_add p at d s r (use_of {q = q} {t = u} h o w) t e =
        joined (Part q) (Brings p (at + 1)) (Brings p at) s u t (λ xs ys x y. parts.use_of h refl x y) (opens_add q d s (Ok u) o u refl) (walks_add p (at + 1) d u r w t e)
    walks_add p at d s r (no_use h o) t e = absurd (cc)
    walks_add p at d s r (choice {a = a} {b = b} {q = q} {t = u} h c o w) t e =
        joined (Part q) (Brings p (at + 1)) (Brings p at) s u t (λ xs ys x y. parts.choice {q = q} h (one_chosen a b (first text tokens s) (second text tokens s) s.notes q c) refl x y) (opens_add q d s (Ok u) o u refl) (walks_add p (at + 1) d u r w t e)
    walks_add p at d s r (no_choice h c o) t e = absurd (cc)
    walks_add p at d s r (no_alternative h c) t e = absurd (cc)
    walks_add p at d s r (again {q = q} {t = u} h k o w) t e =
        joined (Part q) (Brings p at) (Brings p at) s u t (λ xs ys x y. parts.again h refl x y) (opens_add q d s (Ok u) o u refl) (walks_add p at d u r w t e)
    walks_add p at d s r (no_again h k o) t e = absurd (cc)
    walks_add p at d s r (scope {n = n} h w) t e =
        let rest = walks_add p (at + 1) d (scoped text tokens p n s) r w t e in record { new = rest.new; are = rest.are; extends = rest.extends; brings = λ nodes x. parts.scope h (rest.brings nodes x) }
    walks_add p at d s r (enough h k w) t e =
        let rest = walks_add p (at + 1) d s r w t e in record { new = rest.new; are = rest.are; extends = rest.extends; brings = λ nodes x. parts.enough h (rest.brings nodes x) }

    opens_add : (q d : ℕ) (s : State) (r : Result State Fault) → Opens text tokens q d s r → (t : State) → r ≡ Ok t → Adds (Part q) s t
    opens_add q d s r (deep h) t e = absurd (cc)
    opens_add q d s r (refused h k) t e = absurd (cc)
    opens_add q d s r (whole {t = u} h k w) t e =
        let f : closed q s u ≡ t = cc in
        subst (λ (x : State). Adds (Part q) s x) f (closing (makes_node q) q s _ u _ refl refl refl refl (walks_add q 0 _ (opened q s) (Ok u) w u refl))
    opens_add q d s r (broken h k w) t e = absurd (cc)

  -- each node has what its row brings, whatever nodes follow
  Good : Node → List Node → Type 0
  Good n nodes = (more : List Node) → Extends nodes more → Brings n.production 0 (made_of more n.children)

  AllGood : List Node → List Node → Type 0
  AllGood nodes [] = Unit {0}
  AllGood nodes (n ∷ rest) = Good n nodes × AllGood nodes rest

  all_on : (a b list : List Node) → Extends a b → AllGood a list → AllGood b list
  unfolding Good AllGood
  all_on a b [] x g = tt
  all_on a b (n ∷ list) x g = (λ more y. g.0 more (once.then a b more x y), all_on a b list x g.1)

  all_more : (a list : List Node) (n : Node) → AllGood a list → Good n a → AllGood a (list ++ n ∷ [])
  unfolding Good AllGood
  all_more a [] n g h = (h, tt)
  all_more a (m ∷ list) n g h = (g.0, all_more a list n g.1 h)

  good_more : (nodes : List Node) (n : Node) → AllGood nodes nodes → Good n nodes → AllGood (nodes ++ n ∷ []) (nodes ++ n ∷ [])
  unfolding Good
  good_more nodes n g h = all_more (nodes ++ n ∷ []) nodes n (all_on nodes (nodes ++ n ∷ []) nodes (n ∷ [], refl) g) (λ more x. h more (once.then nodes (nodes ++ n ∷ []) more (n ∷ [], refl) x))

  leaf_good : (place : ℕ) (nodes : List Node) → Good (record { production = leaf; token = place; children = [] }) nodes
  unfolding Good item_of row table
  leaf_good place nodes more x = parts.ended refl refl

  own_good : (q place d : ℕ) (s u : State) → s.children ≡ [] → Walks text tokens q 0 d s (Ok u) → Good (record { production = q; token = place; children = u.children }) u.nodes
  unfolding Good
  own_good q place d s u none w more x =
      let k = walks_add q 0 d s (Ok u) w u refl in
      subst (λ (l : List ℕ). Brings q 0 (made_of more l)) (sym (k.are ∙ ap (λ (l : List ℕ). l ++ k.new) none)) (k.brings more x)

  closing_good : (b : Bool) (q d : ℕ) (s u o x : State) → makes_node q ≡ b → o.nodes ≡ s.nodes → o.children ≡ [] → (x.nodes ≡ u.nodes ++ (record { production = q; token = s.place; children = u.children }) ∷ [])
      → Walks text tokens q 0 d (if b then o else s) (Ok u)
      → (AllGood (if b then o else s).nodes (if b then o else s).nodes → AllGood u.nodes u.nodes) → AllGood s.nodes s.nodes → AllGood (if b then x else u).nodes (if b then x else u).nodes
  closing_good true q d s u o x m en ec fn w k g =
      let n : Node = record { production = q; token = s.place; children = u.children } in
      let inside = k (subst (λ (l : List Node). AllGood l l) (sym en) g) in
      subst (λ (l : List Node). AllGood l l) (sym fn) (good_more u.nodes n inside (own_good q s.place d o u ec w))
  closing_good false q d s u o x m en ec fn w k g = k g

  mutual
    walks_good : (p at d : ℕ) (s : State) (r : Result State Fault) → Walks text tokens p at d s r → (t : State) → r ≡ Ok t → AllGood s.nodes s.nodes → AllGood t.nodes t.nodes
    walks_good p at d s r (at_end h) t e g = let f : s ≡ t = cc in subst (λ (x : State). AllGood x.nodes x.nodes) f g
    walks_good p at d s r (token h k w) t e g = walks_good p (at + 1) d (taken text tokens p s) r w t e (good_more s.nodes (record { production = leaf; token = s.place; children = [] }) g (leaf_good s.place s.nodes))
    walks_good p at d s r (no_token h k) t e g = absurd (cc)
    walks_good p at d s r (use_of {q = q} {t = u} h o w) t e g = walks_good p (at + 1) d u r w t e (opens_good q d s (Ok u) o u refl g)
    walks_good p at d s r (no_use h o) t e g = absurd (cc)
    walks_good p at d s r (choice {t = u} h c o w) t e g = walks_good p (at + 1) d u r w t e (opens_good _ d s (Ok u) o u refl g)
    walks_good p at d s r (no_choice h c o) t e g = absurd (cc)
    walks_good p at d s r (no_alternative h c) t e g = absurd (cc)
    walks_good p at d s r (again {q = q} {t = u} h k o w) t e g = walks_good p at d u r w t e (opens_good q d s (Ok u) o u refl g)
    walks_good p at d s r (no_again h k o) t e g = absurd (cc)
    walks_good p at d s r (scope {n = n} h w) t e g = walks_good p (at + 1) d (scoped text tokens p n s) r w t e g
    walks_good p at d s r (enough h k w) t e g = walks_good p (at + 1) d s r w t e g

    opens_good : (q d : ℕ) (s : State) (r : Result State Fault) → Opens text tokens q d s r → (t : State) → r ≡ Ok t → AllGood s.nodes s.nodes → AllGood t.nodes t.nodes
    opens_good q d s r (deep h) t e g = absurd (cc)
    opens_good q d s r (refused h k) t e g = absurd (cc)
    opens_good q d s r (whole {t = u} h k w) t e g =
        let f : closed q s u ≡ t = cc in
        subst (λ (x : State). AllGood x.nodes x.nodes) f (closing_good (makes_node q) q _ s u _ _ refl refl refl refl w (λ x. walks_good q 0 _ (opened q s) (Ok u) w u refl x) g)
    opens_good q d s r (broken h k w) t e g = absurd (cc)

  none_good : (nodes : List Node) → nodes ≡ [] → AllGood nodes nodes
  unfolding AllGood
  none_good nodes e = subst (λ (l : List Node). AllGood l l) (sym e) tt

  good_at : (all list : List Node) (k : ℕ) → AllGood all list → Brings (made_as list k) 0 (made_of all (children_in list k))
  unfolding Good AllGood item_of row table
  good_at all [] k g = parts.ended refl refl
  good_at all (n ∷ list) zero g = g.0 all (once.same all)
  good_at all (n ∷ list) (suc k) g = good_at all list k g.1

same_production : (items : List SyntaxNode) (k : ℕ) → made_as (map node_of items) k ≡ production_of (slice_get items k)
same_production [] k = refl
same_production (x ∷ items) zero = refl
same_production (x ∷ items) (suc k) = same_production items k

same_children : (items : List SyntaxNode) (k : ℕ) → children_in (map node_of items) k ≡ children_of (slice_get items k)
same_children [] k = refl
same_children (x ∷ items) zero = refl
same_children (x ∷ items) (suc k) = same_children items k

map_same : (f g : ℕ → ℕ) → ((k : ℕ) → f k ≡ g k) → (ks : List ℕ) → map f ks ≡ map g ks
map_same f g same [] = refl
map_same f g same (k ∷ ks) = ap (λ (x : ℕ). x ∷ map f ks) (same k) ∙ ap (λ (l : List ℕ). g k ∷ l) (map_same f g same ks)

brought : (items : List SyntaxNode) (i : ℕ) → Brings (made_as (map node_of items) i) 0 (made_of (map node_of items) (children_in (map node_of items) i))
    → Brings (production_of (slice_get items i)) 0 (map (λ k. production_of (slice_get items k)) (children_of (slice_get items i)))
brought items i b =
    subst (λ (l : List ℕ). Brings (production_of (slice_get items i)) 0 l) (map_same (made_as (map node_of items)) (λ k. production_of (slice_get items k)) (same_production items) (children_of (slice_get items i)))
    (subst (λ (l : List ℕ). Brings (production_of (slice_get items i)) 0 (made_of (map node_of items) l)) (same_children items i)
    (subst (λ (q : ℕ). Brings q 0 (made_of (map node_of items) (children_in (map node_of items) i))) (same_production items i) b))

pub units_bring : UnitsBring
unfolding source_of
units_bring tokens unit tree tag_number is i =
    let read = is.0 in
    let text : List ℕ = tokens.text.now in
    let list : List Token = tokens.list.items in
    let all = opens_good text list p_unit 0 (begin 0 no_names []) (Ok read.0) read.1 read.0 refl (none_good text list [] refl) in
    brought tree.nodes.items i (subst (λ (l : List Node). Brings (made_as l i) 0 (made_of l (children_in l i))) read.2 (good_at text list read.0.nodes read.0.nodes i all))
