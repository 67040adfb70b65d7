-- The declarator of a declaration stands second in it.
use Rattle.std.proofs.Common.{Some, slice_get, ◌≡◌, ◌+◌, ℕ, nat_eq, not, Bool, true, false, Ok, List, [], ◌∷◌, ◌++◌, length, drop, refl, sym, ap, ◌∙◌, subst, ◌⊎◌, inl, inr}
use Rattle.c_lexer.specs.declared.Token.{Token}
use Rattle.c_lexer.specs.declared.TokenKind.{TokenKind}
use Rattle.c_grammar.specs.declared.rows.Item.TheVariants as item
use Rattle.c_grammar.specs.Table.{table, row, item_of}
use Rattle.c_grammar.specs.Tree.{makes_node, nests}
use Rattle.c_grammar.specs.Reads.{State, Node, first, second, Walks, Opens}
use Rattle.core_node_laws.proofs.count_laws.passed.parsed_tree_laws.placed_laws.Rows.{one_chosen, all_bring, rows_bring, row_brings}
use Rattle.core_node_laws.proofs.count_laws.passed.parsed_tree_laws.placed_laws.Once.{Extends, opens_extend}
use Rattle.core_node_laws.proofs.count_laws.passed.parsed_tree_laws.placed_laws.Adding.{All, all_on, row_adds}
use Rattle.declaration_laws.proofs.definition_laws.linkage_laws.Inverting.{tokened, used, chose, ended, read, plain_opened, plain_closed, node_closed}

abbrev pub no_declarator : Node → Bool
no_declarator n = not (nat_eq n.production 19)

abbrev no_declarator_node : ℕ → Bool
no_declarator_node q = not (nat_eq q 19)

abbrev any_token : TokenKind → Bool
any_token kind = true

abbrev behind_rows : List ℕ
behind_rows = 48 ∷ 53 ∷ []

behind_bring : rows_bring any_token no_declarator_node behind_rows behind_rows ≡ true
unfolding table row makes_node
behind_bring = refl

external_bring : all_bring any_token no_declarator_node behind_rows (drop 1 (row 52)) ≡ true
unfolding table row makes_node
external_bring = refl

declaration_bring : all_bring any_token no_declarator_node behind_rows (drop 1 (row 57)) ≡ true
unfolding table row makes_node
declaration_bring = refl

-- but for the second part no declarator
abbrev pub OnlySecond : List Node → List ℕ → Type 0
OnlySecond nodes [] = Unit {0}
OnlySecond nodes (k ∷ []) = Unit {0}
OnlySecond nodes (k ∷ j ∷ ks) = All no_declarator nodes (k ∷ []) × All no_declarator nodes ks

pub second_on : (a b : List Node) (ks : List ℕ) → Extends a b → OnlySecond a ks → OnlySecond b ks
second_on a b [] x h = tt
second_on a b (k ∷ []) x h = tt
second_on a b (k ∷ j ∷ ks) x h = (all_on no_declarator a b (k ∷ []) x h.0, all_on no_declarator a b ks x h.1)

at_last : (nodes : List Node) (n : Node) → slice_get (nodes ++ n ∷ []) (length nodes) ≡ Some n
at_last [] n = refl
at_last (m ∷ nodes) n = at_last nodes n

module _ (text : List ℕ) (tokens : List Token) where
  record NodeRead (q : ℕ) (s t : State) : Type 0 where
    at : ℕ
    node : Node
    there : slice_get t.nodes at ≡ Some node
    is : node.production ≡ q
    children : t.children ≡ s.children ++ at ∷ []

  node_read : (q d : ℕ) (s t : State) → makes_node q ≡ true → Opens text tokens q d s (Ok t) → NodeRead q s t
  node_read q d s t made o =
      let r = read text tokens q d s t o in
      let c = r.is ∙ node_closed q s r.inner made in
      let n : Node = record { production = q; token = s.place; children = r.inner.children } in
      record { at = length r.inner.nodes; node = n; there = ap (λ (x : State). slice_get x.nodes (length r.inner.nodes)) c ∙ at_last r.inner.nodes n; is = refl; children = ap (λ (x : State). x.children) c }

  plain_walk : (q d : ℕ) (s t : State) → makes_node q ≡ false → Opens text tokens q d s (Ok t) → Walks text tokens q 0 (d + nests q) s (Ok t)
  plain_walk q d s t plain o =
      let r = read text tokens q d s t o in
      let w = subst (λ (x : State). Walks text tokens q 0 (d + nests q) x (Ok r.inner)) (plain_opened q s plain) r.walks in
      subst (λ (x : State). Walks text tokens q 0 (d + nests q) s (Ok x)) (sym (r.is ∙ plain_closed q s r.inner plain)) w

  first_part : (s : State) (n : Node) (at : ℕ) → slice_get s.nodes at ≡ Some n → n.production ≡ 6 → All no_declarator s.nodes (at ∷ [])
  first_part s n at e is = ((n, e, ap (λ (q : ℕ). not (nat_eq q 19)) is), tt)

  -- behind the specifiers: a declarator and its like, or a token
  behind : (p d k : ℕ) (s t : State) → s.children ≡ k ∷ [] → All no_declarator s.nodes (k ∷ []) → all_bring any_token no_declarator_node behind_rows (drop 1 (row p)) ≡ true → item_of p 0 ≡ Some (item.Use 19) → makes_node p ≡ false → Opens text tokens p d s (Ok t) → OnlySecond t.nodes t.children
  unfolding makes_node
  behind p d k s t one first bring uses plain o =
      let depth = d + nests p in
      let u = used text tokens p 0 depth 19 s t uses (plain_walk p d s t plain o) in
      let n = node_read 19 depth s u.between refl u.opens in
      let a = row_adds text tokens no_declarator any_token no_declarator_node behind_rows (λ q kind x h g. refl) (λ q place children h. h) (λ q c. row_brings any_token no_declarator_node behind_rows behind_rows q behind_bring c) p 1 depth u.between t u.rest bring in
      let children : t.children ≡ k ∷ n.at ∷ a.new = a.are ∙ (ap (λ (l : List ℕ). l ++ a.new) n.children ∙ ap (λ (l : List ℕ). (l ++ n.at ∷ []) ++ a.new) one) in
      subst (OnlySecond t.nodes) (sym children) (all_on no_declarator s.nodes t.nodes (k ∷ []) (opens_extend text tokens p d s t o) first, a.all)

  semicolon : (d k : ℕ) (s t : State) → s.children ≡ k ∷ [] → All no_declarator s.nodes (k ∷ []) → Opens text tokens 49 d s (Ok t) → OnlySecond t.nodes t.children
  unfolding makes_node item_of row table
  semicolon d k s t one first o =
      let w = tokened text tokens 49 0 (d + nests 49) _ s t refl (plain_walk 49 d s t refl o) in
      let end = ended text tokens 49 1 (d + nests 49) _ t refl w.1 in
      let children : t.children ≡ k ∷ length s.nodes ∷ [] = ap (λ (x : State). x.children) (sym end) ∙ ap (λ (l : List ℕ). l ++ length s.nodes ∷ []) one in
      subst (OnlySecond t.nodes) (sym children) (all_on no_declarator s.nodes t.nodes (k ∷ []) (opens_extend text tokens 49 d s t o) first, tt)

  pub external_second : (d : ℕ) (s t : State) → s.children ≡ [] → Walks text tokens 1 0 d s (Ok t) → OnlySecond t.nodes t.children
  unfolding makes_node item_of row table
  external_second d s t none w =
      let u = used text tokens 1 0 d 6 s t refl w in
      let n = node_read 6 d s u.between refl u.opens in
      let one = n.children ∙ ap (λ (l : List ℕ). l ++ n.at ∷ []) none in
      let c = chose text tokens 1 1 d 49 52 u.between t refl u.rest in
      let end : c.between ≡ t = ended text tokens 1 2 d c.between t refl c.rest in
      subst (λ (x : State). OnlySecond x.nodes x.children) end (by u.between n.at one (first_part u.between n.node n.at n.there n.is) c.one c.between (one_chosen 49 52 (first text tokens u.between) (second text tokens u.between) u.between.notes c.one c.chosen) c.opens)
    where
      by : (y : State) (k : ℕ) → y.children ≡ k ∷ [] → All no_declarator y.nodes (k ∷ []) → (x : ℕ) (z : State) → (49 ≡ x) ⊎ (52 ≡ x) → Opens text tokens x d y (Ok z) → OnlySecond z.nodes z.children
      by y k one first x z (inl e) o = semicolon d k y z one first (subst (λ (q : ℕ). Opens text tokens q d y (Ok z)) (sym e) o)
      by y k one first x z (inr e) o = behind 52 d k y z one first external_bring refl refl (subst (λ (q : ℕ). Opens text tokens q d y (Ok z)) (sym e) o)

  pub declaration_second : (d : ℕ) (s t : State) → s.children ≡ [] → Walks text tokens 3 0 d s (Ok t) → OnlySecond t.nodes t.children
  unfolding makes_node item_of row table
  declaration_second d s t none w =
      let c = chose text tokens 3 0 d 4 56 s t refl w in
      let end : c.between ≡ t = ended text tokens 3 1 d c.between t refl c.rest in
      subst (λ (x : State). OnlySecond x.nodes x.children) end (by c.one c.between (one_chosen 4 56 (first text tokens s) (second text tokens s) s.notes c.one c.chosen) c.opens)
    where
      pick : (depth : ℕ) (y : State) (k : ℕ) → y.children ≡ k ∷ [] → All no_declarator y.nodes (k ∷ []) → (x : ℕ) (z : State) → (49 ≡ x) ⊎ (57 ≡ x) → Opens text tokens x depth y (Ok z) → OnlySecond z.nodes z.children
      pick depth y k one first x z (inl e) o = semicolon depth k y z one first (subst (λ (q : ℕ). Opens text tokens q depth y (Ok z)) (sym e) o)
      pick depth y k one first x z (inr e) o = behind 57 depth k y z one first declaration_bring refl refl (subst (λ (q : ℕ). Opens text tokens q depth y (Ok z)) (sym e) o)

      by : (x : ℕ) (u : State) → (4 ≡ x) ⊎ (56 ≡ x) → Opens text tokens x d s (Ok u) → OnlySecond u.nodes u.children
      by x u (inl e) o =
          let n = node_read 4 d s u refl (subst (λ (q : ℕ). Opens text tokens q d s (Ok u)) (sym e) o) in
          subst (OnlySecond u.nodes) (sym (n.children ∙ ap (λ (l : List ℕ). l ++ n.at ∷ []) none)) tt
      by x u (inr e) o =
          let depth = d + nests 56 in
          let v = used text tokens 56 0 depth 6 s u refl (plain_walk 56 d s u refl (subst (λ (q : ℕ). Opens text tokens q d s (Ok u)) (sym e) o)) in
          let n = node_read 6 depth s v.between refl v.opens in
          let c = chose text tokens 56 1 depth 49 57 v.between u refl v.rest in
          let end : c.between ≡ u = ended text tokens 56 2 depth c.between u refl c.rest in
          subst (λ (y : State). OnlySecond y.nodes y.children) end (pick depth v.between n.at (n.children ∙ ap (λ (l : List ℕ). l ++ n.at ∷ []) none) (first_part v.between n.node n.at n.there n.is) c.one c.between (one_chosen 49 57 (first text tokens v.between) (second text tokens v.between) v.between.notes c.one c.chosen) c.opens)
