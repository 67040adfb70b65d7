-- The parts of an external declaration with a block.
use Rattle.std.proofs.Common.{◌≡◌, ◌+◌, ℕ, zero, suc, nat_eq, not, Bool, true, false, Ok, List, [], ◌∷◌, ◌++◌, Some, length, slice_get, refl, sym, ap, ◌∙◌, subst, append_assoc, append-nil, ◌⊎◌, inl, inr}
use Rattle.c_lexer.specs.declared.Token.{Token}
use Rattle.c_lexer.specs.declared.TokenKind.{TokenKind}
use Rattle.c_grammar.specs.Table.{table, row, item_of}
use Rattle.c_grammar.specs.Terminals.{contains}
use Rattle.c_grammar.specs.Tree.{makes_node, nests}
use Rattle.c_grammar.specs.Reads.{State, Node, leaf, first, second, scoped, Walks, Opens}
use Rattle.parsed_tree_laws.proofs.placed_laws.Rows.{one_chosen, rows_bring, row_brings}
use Rattle.parsed_tree_laws.proofs.placed_laws.Once.{Extends, opens_extend}
use Rattle.parsed_tree_laws.proofs.placed_laws.Adding.{All, all_on, all_both, part_adds}
use Rattle.declaration_laws.proofs.definition_laws.linkage_laws.Inverting.{tokened, used, chose, stepped_on, ended, read, plain_opened, plain_closed, node_closed}

abbrev pub no_block : Node → Bool
no_block n = not (nat_eq n.production 29)

-- a part behind the declarator of a definition
abbrev pub body_part : Node → Bool
body_part n = contains (5 ∷ 29 ∷ []) n.production

abbrev body_node : ℕ → Bool
body_node q = contains (5 ∷ 29 ∷ []) q

abbrev no_token : TokenKind → Bool
no_token kind = false

abbrev body_rows : List ℕ
body_rows = 48 ∷ 53 ∷ []

bodies_bring : rows_bring no_token body_node body_rows body_rows ≡ true
unfolding table row makes_node
bodies_bring = refl

get_more : (nodes more : List Node) (k : ℕ) (n : Node) → slice_get nodes k ≡ Some n → slice_get (nodes ++ more) k ≡ Some n
get_more [] more k n e = cc
get_more (m ∷ nodes) more zero n e = e
get_more (m ∷ nodes) more (suc k) n e = get_more nodes more k n e

get_on : (a b : List Node) (k : ℕ) (n : Node) → Extends a b → slice_get a k ≡ Some n → slice_get b k ≡ Some n
get_on a b k n x e = subst (λ (l : List Node). slice_get l k ≡ Some n) (sym x.1) (get_more a x.0 k n e)

at_last : (nodes : List Node) (n : Node) → slice_get (nodes ++ n ∷ []) (length nodes) ≡ Some n
at_last [] n = refl
at_last (m ∷ nodes) n = at_last nodes n

extends_then : (a b c : List Node) → Extends a b → Extends b c → Extends a c
extends_then a b c x y = (x.0 ++ y.0, y.1 ∙ (ap (λ (l : List Node). l ++ y.0) x.1 ∙ append_assoc a x.0 y.0))

-- no block; or specifiers, a declarator, and what stands behind it
pub record Parts (nodes : List Node) (children : List ℕ) : Type 0 where
  pub specs : ℕ
  pub declarator : ℕ
  pub rest : List ℕ
  pub are : children ≡ specs ∷ declarator ∷ rest
  pub node : Node
  pub there : slice_get nodes specs ≡ Some node
  pub is : node.production ≡ 6
  pub behind : All body_part nodes rest

abbrev pub Heads : List Node → List ℕ → Type 0
Heads nodes children = All no_block nodes children ⊎ Parts nodes children

pub heads_on : (a b : List Node) (ks : List ℕ) → Extends a b → Heads a ks → Heads b ks
heads_on a b ks x (inl h) = inl (all_on no_block a b ks x h)
heads_on a b ks x (inr h) = inr (record { specs = h.specs; declarator = h.declarator; rest = h.rest; are = h.are; node = h.node; there = get_on a b h.specs h.node x h.there; is = h.is; behind = all_on body_part a b h.rest x h.behind })

module _ (text : List ℕ) (tokens : List Token) where
  record NodeRead (q : ℕ) (s t : State) : Type 0 where
    node : Node
    at : ℕ
    there : slice_get t.nodes at ≡ Some node
    is : node.production ≡ q
    children : t.children ≡ s.children ++ at ∷ []

  node_read : (q d : ℕ) (s t : State) → makes_node q ≡ true → Opens text tokens q d s (Ok t) → NodeRead q s t
  node_read q d s t made o =
      let r = read text tokens q d s t o in
      let c = r.is ∙ node_closed q s r.inner made in
      let n : Node = record { production = q; token = s.place; children = r.inner.children } in
      record { node = n; at = length r.inner.nodes; there = ap (λ (x : State). slice_get x.nodes (length r.inner.nodes)) c ∙ at_last r.inner.nodes n; is = refl; children = ap (λ (x : State). x.children) c }

  plain_walk : (q d : ℕ) (s t : State) → makes_node q ≡ false → Opens text tokens q d s (Ok t) → Walks text tokens q 0 (d + nests q) s (Ok t)
  plain_walk q d s t plain o =
      let r = read text tokens q d s t o in
      let w = subst (λ (x : State). Walks text tokens q 0 (d + nests q) x (Ok r.inner)) (plain_opened q s plain) r.walks in
      subst (λ (x : State). Walks text tokens q 0 (d + nests q) s (Ok x)) (sym (r.is ∙ plain_closed q s r.inner plain)) w

  one_part : (P : Node → Bool) (nodes : List Node) (k : ℕ) (n : Node) → slice_get nodes k ≡ Some n → P n ≡ true → All P nodes (k ∷ [])
  one_part P nodes k n e is = ((n, e, is), tt)

  -- what is behind a declarator: parts of bodies alone, or the rest of a declaration at the end
  names_read : (d : ℕ) (s t : State) (k : ℕ) (m : Node) → s.children ≡ k ∷ [] → slice_get s.nodes k ≡ Some m → m.production ≡ 6 → Opens text tokens 52 d s (Ok t) → Heads t.nodes t.children
  unfolding makes_node item_of row table
  names_read d s t k m one at is o =
      let depth = d + nests 52 in
      let u = used text tokens 52 0 depth 19 s t refl (plain_walk 52 d s t refl o) in
      let a = u.between in
      let n = node_read 19 depth s a refl u.opens in
      let b = scoped text tokens 52 2 a in
      let c = chose text tokens 52 2 depth 5 48 b t refl (stepped_on text tokens 52 1 depth 2 a t refl u.rest) in
      let v = c.between in
      let e = chose text tokens 52 3 depth 53 2 v t refl c.rest in
      let end : e.between ≡ t = ended text tokens 52 4 depth e.between t refl e.rest in
      let x1 : Extends s.nodes a.nodes = opens_extend text tokens 19 depth s a u.opens in
      let x2 : Extends a.nodes v.nodes = opens_extend text tokens c.one depth b v c.opens in
      let x3 : Extends v.nodes e.between.nodes = opens_extend text tokens e.one depth v e.between e.opens in
      let asm = asm_adds c.one depth b v (one_chosen 5 48 (first text tokens b) (second text tokens b) b.notes c.one c.chosen) c.opens in
      let children : v.children ≡ k ∷ n.at ∷ asm.0 = asm.1 ∙ (ap (λ (l : List ℕ). l ++ asm.0) n.children ∙ ap (λ (l : List ℕ). (l ++ n.at ∷ []) ++ asm.0) one) in
      subst (λ (y : State). Heads y.nodes y.children) end
      (by v e.between e.one n.at n.node asm.0 children (get_on s.nodes e.between.nodes k m (extends_then s.nodes a.nodes e.between.nodes x1 (extends_then a.nodes v.nodes e.between.nodes x2 x3)) at) (get_on a.nodes e.between.nodes n.at n.node (extends_then a.nodes v.nodes e.between.nodes x2 x3) n.there) n.is
      (all_on body_part v.nodes e.between.nodes asm.0 x3 asm.2.0) (all_on no_block v.nodes e.between.nodes asm.0 x3 asm.2.1) (one_chosen 53 2 (first text tokens v) (second text tokens v) v.notes e.one e.chosen) e.opens)
    where
      depth : ℕ
      depth = d + nests 52

      asm_adds : (x depth : ℕ) (p v : State) → (5 ≡ x) ⊎ (48 ≡ x) → Opens text tokens x depth p (Ok v) → (new : List ℕ) × (v.children ≡ p.children ++ new) × (All body_part v.nodes new × All no_block v.nodes new)
      asm_adds x depth p v (inl e) o =
          let n = node_read 5 depth p v refl (subst (λ (q : ℕ). Opens text tokens q depth p (Ok v)) (sym e) o) in
          (n.at ∷ [], n.children, (one_part body_part v.nodes n.at n.node n.there (ap (λ (q : ℕ). contains (5 ∷ 29 ∷ []) q) n.is), one_part no_block v.nodes n.at n.node n.there (ap (λ (q : ℕ). not (nat_eq q 29)) n.is)))
      asm_adds x depth p v (inr e) o =
          let same : p ≡ v = ended text tokens 48 0 (depth + nests 48) p v refl (plain_walk 48 depth p v refl (subst (λ (q : ℕ). Opens text tokens q depth p (Ok v)) (sym e) o)) in
          ([], ap (λ (y : State). y.children) (sym same) ∙ sym (append-nil p.children), (tt, tt))

      by : (v e : State) (one j : ℕ) (dn : Node) (extra : List ℕ) → v.children ≡ k ∷ j ∷ extra → slice_get e.nodes k ≡ Some m → slice_get e.nodes j ≡ Some dn → dn.production ≡ 19 → All body_part e.nodes extra → All no_block e.nodes extra
          → (53 ≡ one) ⊎ (2 ≡ one) → Opens text tokens one depth v (Ok e) → Heads e.nodes e.children
      by v e one j dn extra children there place dis parts free (inl p) o =
          let a = part_adds text tokens body_part no_token body_node body_rows (λ q kind x h g. absurd (let bad : false ≡ true = h in cc)) (λ q place2 kids h. h) (λ q c. row_brings no_token body_node body_rows body_rows q bodies_bring c) 53 depth v e (subst (λ (q : ℕ). Opens text tokens q depth v (Ok e)) (sym p) o) refl in
          inr (record { specs = k; declarator = j; rest = extra ++ a.new; are = a.are ∙ ap (λ (l : List ℕ). l ++ a.new) children; node = m; there = there; is = is; behind = all_both body_part e.nodes extra a.new parts a.all })
      by v e one j dn extra children there place dis parts free (inr p) o =
          let n = node_read 2 depth v e refl (subst (λ (q : ℕ). Opens text tokens q depth v (Ok e)) (sym p) o) in
          let two : All no_block e.nodes (k ∷ j ∷ []) = ((m, there, ap (λ (q : ℕ). not (nat_eq q 29)) is), ((dn, place, ap (λ (q : ℕ). not (nat_eq q 29)) dis), tt)) in
          let whole = all_both no_block e.nodes (k ∷ j ∷ []) extra two free in
          inl (subst (All no_block e.nodes) (sym (n.children ∙ ap (λ (l : List ℕ). l ++ n.at ∷ []) children)) (all_both no_block e.nodes (k ∷ j ∷ extra) (n.at ∷ []) whole (one_part no_block e.nodes n.at n.node n.there (ap (λ (q : ℕ). not (nat_eq q 29)) n.is))))

  pub external_read : (d : ℕ) (s t : State) → s.children ≡ [] → Walks text tokens 1 0 d s (Ok t) → Heads t.nodes t.children
  unfolding makes_node item_of row table
  external_read d s t none w =
      let u = used text tokens 1 0 d 6 s t refl w in
      let y = u.between in
      let n = node_read 6 d s y refl u.opens in
      let c = chose text tokens 1 1 d 49 52 y t refl u.rest in
      let end : c.between ≡ t = ended text tokens 1 2 d c.between t refl c.rest in
      subst (λ (x : State). Heads x.nodes x.children) end (by y n (n.children ∙ ap (λ (l : List ℕ). l ++ n.at ∷ []) none) c.one c.between (one_chosen 49 52 (first text tokens y) (second text tokens y) y.notes c.one c.chosen) c.opens)
    where
      by : (y : State) (n : NodeRead 6 s y) → y.children ≡ n.at ∷ [] → (one : ℕ) (z : State) → (49 ≡ one) ⊎ (52 ≡ one) → Opens text tokens one d y (Ok z) → Heads z.nodes z.children
      by y n children one z (inl e) o =
          let p = subst (λ (q : ℕ). Opens text tokens q d y (Ok z)) (sym e) o in
          let k = tokened text tokens 49 0 (d + nests 49) _ y z refl (plain_walk 49 d y z refl p) in
          let end = ended text tokens 49 1 (d + nests 49) _ z refl k.1 in
          let l : Node = record { production = leaf; token = y.place; children = [] } in
          let after = y.nodes ++ l ∷ [] in
          let whole : All no_block after (y.children ++ length y.nodes ∷ []) = all_both no_block after y.children (length y.nodes ∷ [])
          (subst (All no_block after) (sym children) (one_part no_block after n.at n.node (get_more y.nodes (l ∷ []) n.at n.node n.there) (ap (λ (q : ℕ). not (nat_eq q 29)) n.is))) (one_part no_block after (length y.nodes) l (at_last y.nodes l) refl) in
          subst (λ (x : State). Heads x.nodes x.children) end (inl whole)
      by y n children one z (inr e) o = names_read d y z n.at n.node children n.there n.is (subst (λ (q : ℕ). Opens text tokens q d y (Ok z)) (sym e) o)
