-- The parts of each node that is read: a parameter stands in a list that begins with a parenthesis.
use Rattle.std.proofs.Common.{arith, ◌≡◌, ◌<◌, ◌+◌, nat_eq, ℕ, suc, Bool, true, false, Ok, List, [], ◌∷◌, ◌++◌, Some, length, slice_get, drop, refl, sym, ap, ◌∙◌, subst, ◌⊎◌, inl, inr}
use Rattle.std.proofs.lemmas.Bool.{eqb-true}
use Rattle.c_lexer.specs.declared.Token.{Token}
use Rattle.c_lexer.specs.declared.TokenKind.{TokenKind}
use Rattle.c_lexer.specs.declared.TokenKind.TheVariants.{Punctuator}
use Rattle.c_lexer.specs.Laws.{Stands}
use Rattle.c_grammar.specs.Table.{table, row, item_of}
use Rattle.c_grammar.specs.Terminals.{takes, terminal}
use Rattle.c_grammar.specs.Tree.{makes_node, nests}
use Rattle.c_grammar.specs.Reads.{State, Node, leaf, first, second, taken, opened, closed, Walks, Opens}
use Rattle.c_mentions.specs.Syntax as syntax
use Rattle.core_node_laws.proofs.count_laws.passed.parsed_tree_laws.placed_laws.Rows.{one_chosen, all_bring, rows_bring, row_brings}
use Rattle.core_node_laws.proofs.count_laws.passed.parsed_tree_laws.placed_laws.Adding.{All, all_on, row_adds, part_adds}
use Rattle.core_node_laws.proofs.count_laws.passed.parsed_tree_laws.placed_laws.Once.{Extends, walks_extend}
use Rattle.declaration_laws.proofs.definition_laws.linkage_laws.Every.{every}
use Rattle.declaration_laws.proofs.definition_laws.linkage_laws.Inverting.{tokened, chose, ended, read, plain_opened, plain_closed, node_opened, node_closed}
use Rattle.declaration_laws.proofs.definition_laws.function_definitions.Tokens.{sign_taken}
use Rattle.declaration_laws.proofs.definition_laws.function_definitions.Shapes.{IsSign, get_on}
use Rattle.declaration_laws.proofs.definition_laws.parameter_lists.Rows.{any_token, free, other_rows, other_row, own_row, node_below}

at_last : (nodes : List Node) (n : Node) → slice_get (nodes ++ n ∷ []) (length nodes) ≡ Some n
at_last [] n = refl
at_last (m ∷ nodes) n = at_last nodes n

abbrev pub no_parameter : Node → Bool
no_parameter n = free n.production

module _ (text : List ℕ) (tokens : List Token) (all_stand : (k : ℕ) (t : Token) → slice_get tokens k ≡ Some t → Stands text t) where
  -- parts of a suffix that begin with a parenthesis
  pub record Begins (nodes : List Node) (children : List ℕ) : Type 0 where
    pub first : ℕ
    pub more : List ℕ
    pub are : children ≡ first ∷ more
    pub sign : IsSign tokens nodes first 2

  -- the parts of a node have no parameter among them, or it is a suffix of that kind
  pub record Good (nodes : List Node) (n : Node) : Type 0 where
    pub parts : All no_parameter nodes n.children ⊎ ((n.production ≡ 22) × Begins nodes n.children)

  sign_on : (a b : List Node) (k g : ℕ) → Extends a b → IsSign tokens a k g → IsSign tokens b k g
  sign_on a b k g x h = record { node = h.node; there = get_on a b k h.node x h.there; leaf_is = h.leaf_is; kind = h.kind }

  good_on : (a b : List Node) (n : Node) → Extends a b → Good a n → Good b n
  good_on a b n x g = by g.parts
    where
      by : All no_parameter a n.children ⊎ ((n.production ≡ 22) × Begins a n.children) → Good b n
      by (inl h) = record { parts = inl (all_on no_parameter a b n.children x h) }
      by (inr (is, h)) = record { parts = inr (is, record { first = h.first; more = h.more; are = h.are; sign = sign_on a b h.first 2 x h.sign }) }

  leaf_good : (nodes : List Node) (place : ℕ) → Good nodes (record { production = leaf; token = place; children = [] })
  leaf_good nodes place = record { parts = inl tt }

  token_free : (p : ℕ) (k : TokenKind) (s : State) → any_token k ≡ true → takes p k (first text tokens s) ≡ true → no_parameter (record { production = leaf; token = s.place; children = [] }) ≡ true
  token_free p k s h t = refl

  node_free : (p place : ℕ) (children : List ℕ) → free p ≡ true → no_parameter (record { production = p; token = place; children = children }) ≡ true
  node_free p place children h = h

  plain_walk : (q d : ℕ) (s t : State) → makes_node q ≡ false → Opens text tokens q d s (Ok t) → Walks text tokens q 0 (d + nests q) s (Ok t)
  plain_walk q d s t plain o =
      let r = read text tokens q d s t o in
      let w = subst (λ (x : State). Walks text tokens q 0 (d + nests q) x (Ok r.inner)) (plain_opened q s plain) r.walks in
      subst (λ (x : State). Walks text tokens q 0 (d + nests q) s (Ok x)) (sym (r.is ∙ plain_closed q s r.inner plain)) w

  sign_leaf : (p g : ℕ) (s : State) → g < 48 → takes p (Punctuator g) (first text tokens s) ≡ true → IsSign tokens (taken text tokens p s).nodes (length s.nodes) g
  unfolding terminal
  sign_leaf p g s small h =
      let t = sign_taken text p g s.scopes (slice_get tokens s.place) (λ t e. all_stand s.place t e) small h in
      record { node = record { production = leaf; token = s.place; children = [] }; there = at_last s.nodes (record { production = leaf; token = s.place; children = [] }); leaf_is = refl; kind = ap syntax.kind_of t.1 ∙ t.2 }

  -- a production but for a suffix
  other_parts : (q d : ℕ) (s u : State) → makes_node q ≡ true → nat_eq q 22 ≡ false → s.children ≡ [] → Walks text tokens q 0 d s (Ok u) → All no_parameter u.nodes u.children
  other_parts q d s u node off none w =
      let k = row_adds text tokens no_parameter any_token free other_rows token_free node_free other_row q 0 d s u w (own_row q (node_below q node) off) in
      subst (λ (l : List ℕ). All no_parameter u.nodes l) (sym (k.are ∙ ap (λ (l : List ℕ). l ++ k.new) none)) k.all

  abbrev list_rows : List ℕ
  list_rows = 48 ∷ 126 ∷ 127 ∷ 128 ∷ []

  abbrev any_node : ℕ → Bool
  any_node q = true

  abbrev any : Node → Bool
  any n = true

  lists_bring : rows_bring any_token any_node list_rows list_rows ≡ true
  unfolding table row makes_node
  lists_bring = refl

  rest_brings : all_bring any_token any_node list_rows (drop 1 (row 125)) ≡ true
  unfolding table row makes_node
  rest_brings = refl

  list_read : (d : ℕ) (s t : State) → s.children ≡ [] → Opens text tokens 125 d s (Ok t) → Begins t.nodes t.children
  unfolding makes_node item_of row table
  list_read d s t none o =
      let depth = d + nests 125 in
      let k = tokened text tokens 125 0 depth _ s t refl (plain_walk 125 d s t refl o) in
      let a = row_adds text tokens any any_token any_node list_rows (λ p kind x h g. refl) (λ q place children h. refl) (λ q c. row_brings any_token any_node list_rows list_rows q lists_bring c) 125 1 depth (taken text tokens 125 s) t k.1 rest_brings in
      record {
        first = length s.nodes;
        more = a.new;
        are = a.are ∙ ap (λ (l : List ℕ). (l ++ length s.nodes ∷ []) ++ a.new) none;
        sign = sign_on (taken text tokens 125 s).nodes t.nodes (length s.nodes) 2 (walks_extend text tokens 125 1 depth (taken text tokens 125 s) t k.1) (sign_leaf 125 2 s (omega arith) k.0);
      }

  array_read : (d : ℕ) (s t : State) → s.children ≡ [] → Opens text tokens 121 d s (Ok t) → All no_parameter t.nodes t.children
  unfolding makes_node
  array_read d s t none o =
      let k = part_adds text tokens no_parameter any_token free other_rows token_free node_free other_row 121 d s t o refl in
      subst (λ (l : List ℕ). All no_parameter t.nodes l) (sym (k.are ∙ ap (λ (l : List ℕ). l ++ k.new) none)) k.all

  suffix_parts : (d : ℕ) (s u : State) → s.children ≡ [] → Walks text tokens 22 0 d s (Ok u) → All no_parameter u.nodes u.children ⊎ Begins u.nodes u.children
  unfolding makes_node item_of row table
  suffix_parts d s u none w =
      let c = chose text tokens 22 0 d 121 125 s u refl w in
      let end : c.between ≡ u = ended text tokens 22 1 d c.between u refl c.rest in
      subst (λ (x : State). All no_parameter x.nodes x.children ⊎ Begins x.nodes x.children) end (pick c.one c.between (one_chosen 121 125 (first text tokens s) (second text tokens s) s.notes c.one c.chosen) c.opens)
    where
      pick : (one : ℕ) (x : State) → (121 ≡ one) ⊎ (125 ≡ one) → Opens text tokens one d s (Ok x) → All no_parameter x.nodes x.children ⊎ Begins x.nodes x.children
      pick one x (inl e) o = inl (array_read d s x none (subst (λ (q : ℕ). Opens text tokens q d s (Ok x)) (sym e) o))
      pick one x (inr e) o = inr (list_read d s x none (subst (λ (q : ℕ). Opens text tokens q d s (Ok x)) (sym e) o))

  own_good : (q d : ℕ) (s u : State) → makes_node q ≡ true → Walks text tokens q 0 d (opened q s) (Ok u) → Good u.nodes (record { production = q; token = s.place; children = u.children })
  own_good q d s u node w = by (nat_eq q 22) refl
    where
      none : (opened q s).children ≡ []
      none = ap (λ (x : State). x.children) (node_opened q s node)

      suffix : q ≡ 22 → All no_parameter u.nodes u.children ⊎ Begins u.nodes u.children → Good u.nodes (record { production = q; token = s.place; children = u.children })
      suffix is (inl h) = record { parts = inl h }
      suffix is (inr h) = record { parts = inr (is, h) }

      by : (b : Bool) → nat_eq q 22 ≡ b → Good u.nodes (record { production = q; token = s.place; children = u.children })
      by true e =
          let is : q ≡ 22 = eqb-true q 22 e in
          suffix is (suffix_parts d (opened q s) u none (subst (λ (p : ℕ). Walks text tokens p 0 d (opened q s) (Ok u)) is w))
      by false e = record { parts = inl (other_parts q d (opened q s) u node e none w) }

  pub all_good : (q d : ℕ) (s t : State) → s.nodes ≡ [] → Opens text tokens q d s (Ok t) → (i : ℕ) (n : Node) → slice_get t.nodes i ≡ Some n → Good t.nodes n
  all_good q d s t none o i n e = every text tokens Good good_on leaf_good own_good q d s t none o i n e

  -- the last node is of the production that is read
  pub last_is : (q d : ℕ) (s t : State) → makes_node q ≡ true → Opens text tokens q d s (Ok t) → (k : ℕ) × (n : Node) × (length t.nodes ≡ suc k) × (slice_get t.nodes k ≡ Some n) × (n.production ≡ q)
  last_is q d s t node o = by (read text tokens q d s t o).inner (ap (λ (x : State). x.nodes) (read text tokens q d s t o).is)
    where
      longer : (l : List Node) (n : Node) → length (l ++ n ∷ []) ≡ suc (length l)
      longer [] n = refl
      longer (m ∷ l) n = ap suc (longer l n)

      closed_nodes : (u : State) → (closed q s u).nodes ≡ u.nodes ++ (record { production = q; token = s.place; children = u.children }) ∷ []
      closed_nodes u = ap (λ (x : State). x.nodes) (node_closed q s u node)

      by : (u : State) → t.nodes ≡ (closed q s u).nodes → (k : ℕ) × (n : Node) × (length t.nodes ≡ suc k) × (slice_get t.nodes k ≡ Some n) × (n.production ≡ q)
      by u e =
          let n : Node = record { production = q; token = s.place; children = u.children } in
          let are = e ∙ closed_nodes u in
          (length u.nodes, n, ap length are ∙ longer u.nodes n, ap (λ (l : List Node). slice_get l (length u.nodes)) are ∙ at_last u.nodes n, refl)
