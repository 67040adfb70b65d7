-- Where a node stands is what its parent hands down.
use Rattle.std.proofs.Common.{arith, ◌≡◌, ◌+◌, ◌<◌, ℕ, zero, suc, Bool, true, false, List, [], ◌∷◌, Some, length, slice_get, refl, sym, ap, ◌∙◌, subst, ◌⊎◌, inl, inr}
use Rattle.std.specs.Prelude.{if◌then◌else◌}
use Rattle.c_lexer.specs.declared.Token.{Token}
use Rattle.c_grammar.specs.Reads.{Node}
use Rattle.c_grammar.specs.Terminals.{contains}
use Rattle.c_mentions.specs.Settings.{Standing, standings, standing, handed_down, outermost}

module _ (tokens : List Token) (nodes : List Node) where
  abbrev all : ℕ → List Node → List Standing
  all i ns = standings tokens nodes i ns

  -- what node `parent` behind node i hands down to it
  record Handed (i m : ℕ) (ns : List Node) (ss : List Standing) (st : Standing) : Type 0 where
    rank : ℕ
    node : Node
    there : slice_get ns rank ≡ Some node
    child : contains node.children i ≡ true
    above : Standing
    stands : slice_get ss rank ≡ Some above
    is : st ≡ handed_down tokens nodes (m + rank) above

  abbrev Childless : ℕ → List Node → Type 0
  Childless i ns = (k : ℕ) (n : Node) → slice_get ns k ≡ Some n → contains n.children i ≡ false

  from_behind : (i m : ℕ) (ns : List Node) (st : Standing) → standing tokens nodes i m ns (all m ns) ≡ st → ((st ≡ outermost (length nodes)) × Childless i ns) ⊎ Handed i m ns (all m ns) st
  from_behind i m [] st e = inl (sym e, λ k n f. cc)
  from_behind i m (n ∷ ns) st e = by (contains n.children i) refl e (λ f. from_behind i (m + 1) ns st f)
    where
      own : Standing
      own = standing tokens nodes m (m + 1) ns (all (m + 1) ns)

      by : (b : Bool) → contains n.children i ≡ b → (if b then handed_down tokens nodes m own else standing tokens nodes i (m + 1) ns (all (m + 1) ns)) ≡ st
          → (standing tokens nodes i (m + 1) ns (all (m + 1) ns) ≡ st → ((st ≡ outermost (length nodes)) × Childless i ns) ⊎ Handed i (m + 1) ns (all (m + 1) ns) st)
          → ((st ≡ outermost (length nodes)) × Childless i (n ∷ ns)) ⊎ Handed i m (n ∷ ns) (all m (n ∷ ns)) st
      by true has f later =
          let zero_more : m + 0 ≡ m = omega arith in
          inr (record { rank = 0; node = n; there = refl; child = has; above = own; stands = refl; is = sym f ∙ ap (λ (x : ℕ). handed_down tokens nodes x own) (sym zero_more) })
      by false has f later = next (later f)
        where
          none : Childless i ns → Childless i (n ∷ ns)
          none free zero x g = let same : n ≡ x = cc in subst (λ (y : Node). contains y.children i ≡ false) same has
          none free (suc k) x g = free k x g

          next : ((st ≡ outermost (length nodes)) × Childless i ns) ⊎ Handed i (m + 1) ns (all (m + 1) ns) st → ((st ≡ outermost (length nodes)) × Childless i (n ∷ ns)) ⊎ Handed i m (n ∷ ns) (all m (n ∷ ns)) st
          next (inl h) = inl (h.0, none h.1)
          next (inr h) =
              let more : m + 1 + h.rank ≡ m + suc h.rank = omega arith in
              inr (record { rank = suc h.rank; node = h.node; there = h.there; child = h.child; above = h.above; stands = h.stands; is = h.is ∙ ap (λ (x : ℕ). handed_down tokens nodes x h.above) more })

  -- node j of a list that begins with node a
  record Above (a j : ℕ) (ns : List Node) (st : Standing) : Type 0 where
    rank : ℕ
    behind : j < rank
    node : Node
    there : slice_get ns rank ≡ Some node
    child : contains node.children (a + j) ≡ true
    above : Standing
    stands : slice_get (all a ns) rank ≡ Some above
    is : st ≡ handed_down tokens nodes (a + rank) above

  abbrev NoneBehind : ℕ → ℕ → List Node → Type 0
  NoneBehind a j ns = (k : ℕ) (n : Node) → j < k → slice_get ns k ≡ Some n → contains n.children (a + j) ≡ false

  at_place : (a j : ℕ) (ns : List Node) (st : Standing) → slice_get (all a ns) j ≡ Some st → ((st ≡ outermost (length nodes)) × NoneBehind a j ns) ⊎ Above a j ns st
  at_place a j [] st e = cc
  at_place a zero (n ∷ ns) st e = by (from_behind a (a + 1) ns st (let same : standing tokens nodes a (a + 1) ns (all (a + 1) ns) ≡ st = cc in same))
    where
      plain : a + 0 ≡ a
      plain = omega arith

      by : ((st ≡ outermost (length nodes)) × Childless a ns) ⊎ Handed a (a + 1) ns (all (a + 1) ns) st → ((st ≡ outermost (length nodes)) × NoneBehind a 0 (n ∷ ns)) ⊎ Above a 0 (n ∷ ns) st
      by (inl h) = inl (h.0, none)
        where
          none : NoneBehind a 0 (n ∷ ns)
          none zero x lt f = absurd (omega (arith, lt))
          none (suc k) x lt f = subst (λ (y : ℕ). contains x.children y ≡ false) (sym plain) (h.1 k x f)
      by (inr h) =
          let more : a + 1 + h.rank ≡ a + suc h.rank = omega arith in
          inr (record { rank = suc h.rank; behind = omega arith; node = h.node; there = h.there; child = subst (λ (y : ℕ). contains h.node.children y ≡ true) (sym plain) h.child; above = h.above; stands = h.stands; is = h.is ∙ ap (λ (x : ℕ). handed_down tokens nodes x h.above) more })
  at_place a (suc j) (n ∷ ns) st e = by (at_place (a + 1) j ns st e)
    where
      more : (k : ℕ) → a + 1 + k ≡ a + suc k
      more k = omega arith

      by : ((st ≡ outermost (length nodes)) × NoneBehind (a + 1) j ns) ⊎ Above (a + 1) j ns st → ((st ≡ outermost (length nodes)) × NoneBehind a (suc j) (n ∷ ns)) ⊎ Above a (suc j) (n ∷ ns) st
      by (inl h) = inl (h.0, none)
        where
          none : NoneBehind a (suc j) (n ∷ ns)
          none zero x lt f = absurd (omega (arith, lt))
          none (suc k) x lt f = subst (λ (y : ℕ). contains x.children y ≡ false) (more j) (h.1 k x (omega (arith, lt)) f)
      by (inr h) =
          let lt : j < h.rank = h.behind in
          inr (record { rank = suc h.rank; behind = omega (arith, lt); node = h.node; there = h.there; child = subst (λ (y : ℕ). contains h.node.children y ≡ true) (more j) h.child; above = h.above; stands = h.stands; is = h.is ∙ ap (λ (x : ℕ). handed_down tokens nodes x h.above) (more h.rank) })

  -- the parent of a node, with where it stands
  pub record HasParent (i : ℕ) (st : Standing) : Type 0 where
    pub parent : ℕ
    pub node : Node
    pub there : slice_get nodes parent ≡ Some node
    pub child : contains node.children i ≡ true
    pub above : Standing
    pub stands : slice_get (standings tokens nodes 0 nodes) parent ≡ Some above
    pub is : st ≡ handed_down tokens nodes parent above

  -- it has one, or is a child of none behind it
  pub parents : (i : ℕ) (st : Standing) → slice_get (standings tokens nodes 0 nodes) i ≡ Some st
      → ((st ≡ outermost (length nodes)) × ((k : ℕ) (n : Node) → i < k → slice_get nodes k ≡ Some n → contains n.children i ≡ false)) ⊎ HasParent i st
  parents i st e = by (at_place 0 i nodes st e)
    where
      plain : (k : ℕ) → 0 + k ≡ k
      plain k = omega arith

      by : ((st ≡ outermost (length nodes)) × NoneBehind 0 i nodes) ⊎ Above 0 i nodes st → ((st ≡ outermost (length nodes)) × ((k : ℕ) (n : Node) → i < k → slice_get nodes k ≡ Some n → contains n.children i ≡ false)) ⊎ HasParent i st
      by (inl h) = inl (h.0, λ k n lt f. subst (λ (y : ℕ). contains n.children y ≡ false) (plain i) (h.1 k n lt f))
      by (inr h) = inr (record { parent = h.rank; node = h.node; there = h.there; child = subst (λ (y : ℕ). contains h.node.children y ≡ true) (plain i) h.child; above = h.above; stands = h.stands; is = h.is ∙ ap (λ (x : ℕ). handed_down tokens nodes x h.above) (plain h.rank) })
