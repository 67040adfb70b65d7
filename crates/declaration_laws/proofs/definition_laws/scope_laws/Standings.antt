-- A fact of where each node stands, from the root down.
use Rattle.std.proofs.Common.{arith, ◌≡◌, ◌<◌, ◌≤◌, nat_eq, nat_lt, ◌-◌, ℕ, zero, suc, ◌+◌, Bool, true, false, cond, List, [], ◌∷◌, Option, Some, length, slice_get, refl, sym, ap, ◌∙◌, subst}
use Rattle.std.specs.Prelude.{⊤}
use Rattle.std.proofs.lemmas.Bool.{eqb-true, eqb-false, ltb-true, ltb-false}
use Rattle.c_lexer.specs.declared.Token.{Token}
use Rattle.c_grammar.specs.Reads.{Node}
use Rattle.c_grammar.specs.Terminals.{contains}
use Rattle.c_mentions.specs.Settings.{Standing, outermost, handed_down, standing, standings}

length_is : (tokens : List Token) (nodes : List Node) (i : ℕ) (ns : List Node) → length (standings tokens nodes i ns) ≡ length ns
length_is tokens nodes i [] = refl
length_is tokens nodes i (n ∷ ns) = ap suc (length_is tokens nodes (i + 1) ns)

module _ (tokens : List Token) (nodes : List Node) (P : ℕ → Standing → Type 0) where
  -- a node that has this one as a part
  abbrev pub Holds : ℕ → ℕ → Type 0
  Holds m i = (n : Node) × (slice_get nodes m ≡ Some n) × (contains n.children i ≡ true)

  module _
      (top : (i : ℕ) → ((m : ℕ) → i < m → Holds m i → ⊥) → P i (outermost (length nodes)))
      (step : (m i : ℕ) (n : Node) (s : Standing) → slice_get nodes m ≡ Some n → contains n.children i ≡ true → P m s → P i (handed_down tokens nodes m s))
    where
      abbrev AllStand : ℕ → List Standing → Type 0
      AllStand i [] = ⊤
      AllStand i (s ∷ ss) = P i s × AllStand (i + 1) ss

      abbrev At : ℕ → List Node → Type 0
      At m ns = (k : ℕ) → slice_get nodes (m + k) ≡ slice_get ns k

      -- no node behind node i, up to node m, has it as a part
      abbrev NoneTo : ℕ → ℕ → Type 0
      NoneTo i m = (j : ℕ) → i < j → j < m → Holds j i → ⊥

      next : (m : ℕ) (n : Node) (ns : List Node) → At m (n ∷ ns) → At (m + 1) ns
      next m n ns at k = let e : (m + 1) + k ≡ m + suc k = omega arith in ap (λ (j : ℕ). slice_get nodes j) e ∙ at (suc k)

      here : (m : ℕ) (n : Node) (ns : List Node) → At m (n ∷ ns) → slice_get nodes m ≡ Some n
      here m n ns at = let e : m ≡ m + 0 = omega arith in ap (λ (j : ℕ). slice_get nodes j) e ∙ at 0

      no_such : (k : ℕ) (n : Node) → slice_get [] k ≡ Some n → ⊥
      no_such k n e = cc

      past : (m j i : ℕ) → At m [] → m ≤ j → Holds j i → ⊥
      past m j i at le (n, e, has) = let k : m + (j - m) ≡ j = omega (arith, le) in no_such (j - m) n (sym (at (j - m)) ∙ (ap (λ (x : ℕ). slice_get nodes x) k ∙ e))

      standing_is : (i m : ℕ) (ns : List Node) (ss : List Standing) → At m ns → length ss ≡ length ns → NoneTo i m → AllStand m ss → P i (standing tokens nodes i m ns ss)
      standing_is i m [] ss at long none all = top i (λ j lt holds. by (nat_lt j m) refl j lt holds)
        where
          by : {j : ℕ} (b : Bool) → nat_lt j m ≡ b → (x : ℕ) → i < j → Holds j i → ⊥
          by {j} true e x lt holds = none j lt (ltb-true j m e) holds
          by {j} false e x lt holds = past m j i at (ltb-false j m e) holds
      standing_is i m (n ∷ ns) [] at long none all = absurd (omega (arith, long))
      standing_is i m (n ∷ ns) (s ∷ ss) at long none all =
          by (contains n.children i) refl (λ off. standing_is i (m + 1) ns ss (next m n ns at) (omega (arith, long)) (more off) all.1)
        where
          more : contains n.children i ≡ false → NoneTo i (m + 1)
          more off j low high (x, e, has) = pick (nat_eq j m) refl
            where
              pick : (b : Bool) → nat_eq j m ≡ b → ⊥
              pick true same =
                  let one : ◌≡◌ {A = Option Node} (Some x) (Some n) = sym e ∙ (ap (λ (y : ℕ). slice_get nodes y) (eqb-true j m same) ∙ here m n ns at) in
                  let node : x ≡ n = cc in
                  let both : true ≡ false = sym has ∙ (ap (λ (y : Node). contains y.children i) node ∙ off) in
                  cc
              pick false other = let apart = eqb-false j m other in none j low (omega (arith, high, apart)) (x, e, has)

          by : (b : Bool) → contains n.children i ≡ b → (contains n.children i ≡ false → P i (standing tokens nodes i (m + 1) ns ss)) → P i (cond b (handed_down tokens nodes m s) (standing tokens nodes i (m + 1) ns ss))
          by true e later = step m i n s (here m n ns at) e all.0
          by false e later = later e

      all_stand : (i : ℕ) (ns : List Node) → At i ns → AllStand i (standings tokens nodes i ns)
      all_stand i [] at = tt
      all_stand i (n ∷ ns) at =
          let later = all_stand (i + 1) ns (next i n ns at) in
          (standing_is i (i + 1) ns (standings tokens nodes (i + 1) ns) (next i n ns at) (length_is tokens nodes (i + 1) ns) (λ j low high holds. absurd (omega (arith, low, high))) later, later)

      one_stands : (from : ℕ) (ss : List Standing) → AllStand from ss → (k : ℕ) (s : Standing) → slice_get ss k ≡ Some s → P (from + k) s
      one_stands from [] all k s e = cc
      one_stands from (x ∷ ss) all zero s e = let i : from ≡ from + 0 = omega arith in subst (λ (j : ℕ). P j s) i (subst (λ (y : Standing). P from y) (let same : x ≡ s = cc in same) all.0)
      one_stands from (x ∷ ss) all (suc k) s e = let i : (from + 1) + k ≡ from + suc k = omega arith in subst (λ (j : ℕ). P j s) i (one_stands (from + 1) ss all.1 k s e)

      pub each_stands : (i : ℕ) (s : Standing) → slice_get (standings tokens nodes 0 nodes) i ≡ Some s → P i s
      each_stands i s e =
          let zero_is : 0 + i ≡ i = omega arith in
          subst (λ (j : ℕ). P j s) zero_is (one_stands 0 (standings tokens nodes 0 nodes) (all_stand 0 nodes (λ k. let z : 0 + k ≡ k = omega arith in ap (λ (j : ℕ). slice_get nodes j) z)) i s e)
