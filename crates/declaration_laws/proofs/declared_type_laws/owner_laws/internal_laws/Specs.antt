-- Specifiers stand first in a declaration.
use Rattle.std.proofs.Common.{◌≡◌, ◌+◌, ℕ, nat_eq, not, Bool, true, false, Ok, List, [], ◌∷◌, ◌++◌, length, drop, refl, sym, ap, ◌∙◌, subst, ◌⊎◌, inl, inr}
use Rattle.c_lexer.specs.declared.Token.{Token}
use Rattle.c_lexer.specs.declared.TokenKind.{TokenKind}
use Rattle.c_grammar.specs.Table.{table, row, item_of}
use Rattle.c_grammar.specs.Tree.{makes_node, nests}
use Rattle.c_grammar.specs.Reads.{State, Node, first, second, Walks, Opens}
use Rattle.core_node_laws.proofs.passed.parsed_tree_laws.placed_laws.Rows.{one_chosen, all_bring, rows_bring, row_brings}
use Rattle.core_node_laws.proofs.passed.parsed_tree_laws.placed_laws.Once.{Extends}
use Rattle.core_node_laws.proofs.passed.parsed_tree_laws.placed_laws.Adding.{All, all_on, row_adds}
use Rattle.declaration_laws.proofs.definition_laws.linkage_laws.Inverting.{used, chose, ended, read, plain_opened, plain_closed, node_closed}

abbrev pub no_specs : Node → Bool
no_specs n = not (nat_eq n.production 6)

abbrev no_specs_node : ℕ → Bool
no_specs_node q = not (nat_eq q 6)

abbrev any_token : TokenKind → Bool
any_token kind = true

abbrev behind_rows : List ℕ
behind_rows = 48 ∷ 49 ∷ 52 ∷ 53 ∷ 57 ∷ []

behind_bring : rows_bring any_token no_specs_node behind_rows behind_rows ≡ true
unfolding table row makes_node
behind_bring = refl

external_bring : all_bring any_token no_specs_node behind_rows (drop 1 (row 1)) ≡ true
unfolding table row makes_node
external_bring = refl

names_bring : all_bring any_token no_specs_node behind_rows (drop 1 (row 56)) ≡ true
unfolding table row makes_node
names_bring = refl

-- no specifiers stand behind the first part
abbrev pub SpecsFirst : List Node → List ℕ → Type 0
SpecsFirst nodes [] = Unit {0}
SpecsFirst nodes (k ∷ ks) = All no_specs nodes ks

pub first_on : (a b : List Node) (ks : List ℕ) → Extends a b → SpecsFirst a ks → SpecsFirst b ks
first_on a b [] x h = tt
first_on a b (k ∷ ks) x h = all_on no_specs a b ks x h

module _ (text : List ℕ) (tokens : List Token) where
  node_children : (q d : ℕ) (s t : State) → makes_node q ≡ true → Opens text tokens q d s (Ok t) → (k : ℕ) × (t.children ≡ s.children ++ k ∷ [])
  node_children q d s t node o = let r = read text tokens q d s t o in (length r.inner.nodes, ap (λ (x : State). x.children) (r.is ∙ node_closed q s r.inner node))

  plain_walk : (q d : ℕ) (s t : State) → makes_node q ≡ false → Opens text tokens q d s (Ok t) → Walks text tokens q 0 (d + nests q) s (Ok t)
  plain_walk q d s t plain o =
      let r = read text tokens q d s t o in
      let w = subst (λ (x : State). Walks text tokens q 0 (d + nests q) x (Ok r.inner)) (plain_opened q s plain) r.walks in
      subst (λ (x : State). Walks text tokens q 0 (d + nests q) s (Ok x)) (sym (r.is ∙ plain_closed q s r.inner plain)) w

  behind : (p d k : ℕ) (s t : State) → s.children ≡ k ∷ [] → all_bring any_token no_specs_node behind_rows (drop 1 (row p)) ≡ true → Walks text tokens p 1 d s (Ok t) → SpecsFirst t.nodes t.children
  behind p d k s t one bring w =
      let a = row_adds text tokens no_specs any_token no_specs_node behind_rows (λ q kind x h g. refl) (λ q place children h. h) (λ q c. row_brings any_token no_specs_node behind_rows behind_rows q behind_bring c) p 1 d s t w bring in
      subst (SpecsFirst t.nodes) (sym (a.are ∙ ap (λ (l : List ℕ). l ++ a.new) one)) a.all

  pub external_first : (d : ℕ) (s t : State) → s.children ≡ [] → Walks text tokens 1 0 d s (Ok t) → SpecsFirst t.nodes t.children
  unfolding makes_node item_of row table
  external_first d s t none w =
      let u = used text tokens 1 0 d 6 s t refl w in
      let c = node_children 6 d s u.between refl u.opens in
      behind 1 d c.0 u.between t (c.1 ∙ ap (λ (l : List ℕ). l ++ c.0 ∷ []) none) external_bring u.rest

  pub declaration_first : (d : ℕ) (s t : State) → s.children ≡ [] → Walks text tokens 3 0 d s (Ok t) → SpecsFirst t.nodes t.children
  unfolding makes_node item_of row table
  declaration_first d s t none w =
      let c = chose text tokens 3 0 d 4 56 s t refl w in
      let end : c.between ≡ t = ended text tokens 3 1 d c.between t refl c.rest in
      subst (λ (x : State). SpecsFirst x.nodes x.children) end (by c.one c.between (one_chosen 4 56 (first text tokens s) (second text tokens s) s.notes c.one c.chosen) c.opens)
    where
      by : (x : ℕ) (u : State) → (4 ≡ x) ⊎ (56 ≡ x) → Opens text tokens x d s (Ok u) → SpecsFirst u.nodes u.children
      by x u (inl e) o =
          let c = node_children 4 d s u refl (subst (λ (q : ℕ). Opens text tokens q d s (Ok u)) (sym e) o) in
          subst (SpecsFirst u.nodes) (sym (c.1 ∙ ap (λ (l : List ℕ). l ++ c.0 ∷ []) none)) tt
      by x u (inr e) o =
          let v = used text tokens 56 0 (d + nests 56) 6 s u refl (plain_walk 56 d s u refl (subst (λ (q : ℕ). Opens text tokens q d s (Ok u)) (sym e) o)) in
          let c = node_children 6 (d + nests 56) s v.between refl v.opens in
          behind 56 (d + nests 56) c.0 v.between u (c.1 ∙ ap (λ (l : List ℕ). l ++ c.0 ∷ []) none) names_bring v.rest
