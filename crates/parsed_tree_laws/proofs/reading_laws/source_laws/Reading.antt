-- Senses are determined node by node.
use Rattle.std.proofs.Common.{arith, ◌≡◌, ◌<◌, ◌≤◌, ◌+◌, ℕ, zero, suc, List, [], ◌∷◌, Some, length, get_or, take, slice_get, add-one, refl, sym, ap, ◌∙◌, subst}
use Rattle.std.proofs.lemmas.Option.{slice_get_within, slice_get-get_or, same_Some}
use Rattle.std.proofs.lemmas.List.{take_more_same, take_all}
use Rattle.pta_base.specs.declared.kind.Kind.{Kind}
use Rattle.core_tree.specs.declared.node.Unit.{Unit}
use Rattle.c_grammar.specs.declared.trees.SyntaxNode.{SyntaxNode}
use Rattle.c_senses.specs.Given.{Given, Fits, Refuses}
use Rattle.c_senses.specs.Tree.{Source}
use Rattle.c_senses.specs.Sense.{Sense, Nothing}
use Rattle.c_senses.specs.Rows.{row, AreSenses, RefusedAt}
use Rattle.c_senses.specs.Right.{Right}

-- the row of a node over the senses before it
Row : Source → ℕ → SyntaxNode → List Sense → Given Sense
Row s i n before = row s before i n

there_is : (nodes : List SyntaxNode) (i : ℕ) → i < length nodes → (n : SyntaxNode) × (slice_get nodes i ≡ Some n)
there_is [] i h = absurd (omega arith)
there_is (n ∷ rest) i h = let lt : i < length (n ∷ rest) = h in (get_or (n ∷ rest) i n, slice_get-get_or (n ∷ rest) i n lt)

fits_at : (s : Source) (xs : List Sense) → AreSenses s xs → (i : ℕ) (n : SyntaxNode) → slice_get s.nodes i ≡ Some n → i < length xs → Row s i n (take i xs) ≡ Fits (get_or xs i Nothing)
unfolding Row
fits_at s xs a i n stands lt = a.each i n (get_or xs i Nothing) stands (slice_get-get_or xs i Nothing lt)

same_fits : (x y : Sense) → Fits x ≡ Fits y → x ≡ y
same_fits x y e = cc

same_refusal : (kind other : Kind) (node there : ℕ) → ◌≡◌ {A = Given Sense} (Refuses kind node) (Refuses other there) → (kind ≡ other) × (node ≡ there)
same_refusal kind other node there e = (let a : kind ≡ other = cc in a, let b : node ≡ there = cc in b)

fits_refuses : (x : Sense) (kind : Kind) (node : ℕ) → Fits x ≡ Refuses kind node → ⊥
fits_refuses x kind node e = cc

module _ (s : Source) (xs ys : List Sense) (a : AreSenses s xs) (b : AreSenses s ys) where
  same_next : (i : ℕ) → i < length xs → i < length ys → take i xs ≡ take i ys → get_or xs i Nothing ≡ get_or ys i Nothing
  same_next i lx ly e =
      let n : (n : SyntaxNode) × (slice_get s.nodes i ≡ Some n) = there_is s.nodes i (omega (arith, a.within, lx)) in
      same_fits (get_or xs i Nothing) (get_or ys i Nothing)
      (sym (fits_at s xs a i n.0 n.1 lx) ∙ (ap (Row s i n.0) e ∙ fits_at s ys b i n.0 n.1 ly))

  pub same_take : (i : ℕ) → i ≤ length xs → i ≤ length ys → take i xs ≡ take i ys
  same_take zero lx ly = refl
  same_take (suc i) lx ly =
      let mx : i < length xs = omega arith in
      let my : i < length ys = omega arith in
      let before : take i xs ≡ take i ys = same_take i (omega arith) (omega arith) in
      let more : take (i + 1) xs ≡ take (i + 1) ys = take_more_same xs ys i Nothing mx my before (same_next i mx my before) in
      subst (λ (n : ℕ). take n xs ≡ take n ys) (add-one i) more

  pub same_begin : length xs ≤ length ys → take (length xs) ys ≡ xs
  same_begin h = sym (same_take (length xs) (omega arith) h) ∙ take_all (length xs) xs (omega arith)

-- a refusal behind senses, with the row of the node that refuses
refuses_there : (s : Source) (kind : Kind) (node : ℕ) (r : RefusedAt s kind node) → Row s (length r.senses) r.node r.senses ≡ Refuses kind node
unfolding Row
refuses_there s kind node r = r.refuses

-- no senses go beyond a refusal
pub not_beyond : (s : Source) (xs : List Sense) (kind : Kind) (node : ℕ) → AreSenses s xs → (r : RefusedAt s kind node) → length r.senses < length xs → ⊥
not_beyond s xs kind node a r lt =
    let i : ℕ = length r.senses in
    let same : take (length r.senses) xs ≡ r.senses = same_begin s r.senses xs r.before a (omega arith) in
    fits_refuses (get_or xs (length r.senses) Nothing) kind node
    (sym (fits_at s xs a (length r.senses) r.node r.stands lt) ∙ (ap (Row s (length r.senses) r.node) same ∙ refuses_there s kind node r))

pub not_whole : (s : Source) (xs : List Sense) (kind : Kind) (node : ℕ) → AreSenses s xs → length xs ≡ length s.nodes → RefusedAt s kind node → ⊥
not_whole s xs kind node a whole r =
    let within : length r.senses < length s.nodes = slice_get_within s.nodes (length r.senses) r.node r.stands in
    not_beyond s xs kind node a r (omega (arith, whole, within))

pub not_right : (s : Source) (name : List ℕ) (u : Unit) (kind : Kind) (node : ℕ) → Right s name u → RefusedAt s kind node → ⊥
not_right s name u kind node h r = not_whole s h.senses kind node h.are_senses h.whole r

-- two refusals
module _ (s : Source) (kind other : Kind) (node there : ℕ) (r : RefusedAt s kind node) (q : RefusedAt s other there) where
  same_long : length r.senses ≡ length q.senses
  same_long =
      let not_less : length r.senses < length q.senses → ⊥ = not_beyond s q.senses kind node q.before r in
      let not_more : length q.senses < length r.senses → ⊥ = not_beyond s r.senses other there r.before q in
      omega (arith, not_less, not_more)

  same_senses : r.senses ≡ q.senses
  same_senses =
      let e : length r.senses ≡ length q.senses = same_long in
      sym (same_begin s r.senses q.senses r.before q.before (omega (arith, e))) ∙ take_all (length r.senses) q.senses (omega (arith, e))

  same_node : r.node ≡ q.node
  same_node = same_Some r.node q.node (sym r.stands ∙ (ap (slice_get s.nodes) same_long ∙ q.stands))

  pub one_refusal : (kind ≡ other) × (node ≡ there)
  one_refusal =
      same_refusal kind other node there
      (sym (refuses_there s kind node r)
      ∙ (ap (λ (i : ℕ). Row s i r.node r.senses) same_long
      ∙ (ap (λ (n : SyntaxNode). Row s (length q.senses) n r.senses) same_node
      ∙ (ap (Row s (length q.senses) q.node) same_senses ∙ refuses_there s other there q))))
