-- Down the first operands of nodes.
use Rattle.std.proofs.Common.{arith, ◌≡◌, ℕ, zero, suc, ◌<◌, ◌≤◌, ◌+◌, ◌-◌, List, [], ◌∷◌, Option, Some, None, slice_get, refl, sym, ◌∙◌, subst, All}
use Rattle.std.proofs.lemmas.List.Elements.{All-head}
use Rattle.c_types.specs.Table.{Table, type_of}
use Rattle.core_tree.specs.declared.node.Node.{Node}
use Rattle.c_consts.specs.Core.{InOrder}
use Rattle.c_consts.specs.Answer.{Form, Written, Operated, Chosen, Converted, Formless, form_of}
use Rattle.c_consts.specs.Spine.{operand_of, first_in, first_operand, Leads}

operand_less : (form : Form) (children : List ℕ) (a n : ℕ) → All (λ c. c < n) children → operand_of form children ≡ Some a → a < n
operand_less (Written v) children a n all e = cc
operand_less Formless children a n all e = cc
operand_less (Operated op) [] a n all e = cc
operand_less Chosen [] a n all e = cc
operand_less Converted [] a n all e = cc
operand_less (Operated op) (b ∷ more) a n all e = let same : b ≡ a = cc in subst (λ (x : ℕ). x < n) same (All-head (λ x. x < n) b more all)
operand_less Chosen (b ∷ more) a n all e = let same : b ≡ a = cc in subst (λ (x : ℕ). x < n) same (All-head (λ x. x < n) b more all)
operand_less Converted (b ∷ more) a n all e = let same : b ≡ a = cc in subst (λ (x : ℕ). x < n) same (All-head (λ x. x < n) b more all)

module _ (types : Table) (nodes : List Node) where
  -- a first operand has a smaller number
  first_in_less : InOrder types nodes → (i a : ℕ) (o : Option Node) → slice_get nodes i ≡ o → first_in types o ≡ Some a → a < i
  first_in_less order i a None at e = cc
  first_in_less order i a (Some n) at e = operand_less (form_of n.kind (type_of types n.ty.0)) n.children a i (order.children i n at) e

  pub first_less : InOrder types nodes → (i a : ℕ) → first_operand types nodes i ≡ Some a → a < i
  first_less order i a e = first_in_less order i a (slice_get nodes i) refl e

  pub leads_below : InOrder types nodes → (k i j : ℕ) → Leads types nodes i k j → k + j ≤ i
  leads_below order zero i j e = omega arith
  leads_below order (suc k) i j (m, first, rest) =
      let less = first_less order i m first in
      let below = leads_below order k m j rest in
      omega arith

  pub leads_more : (k i j m : ℕ) → Leads types nodes i k j → first_operand types nodes j ≡ Some m → Leads types nodes i (suc k) m
  leads_more zero i j m e f = (m, rw e f, refl)
  leads_more (suc k) i j m (n, first, rest) f = (n, first, leads_more k n j m rest f)

  pub leads_once : (k i j l : ℕ) → Leads types nodes i k j → Leads types nodes i k l → j ≡ l
  leads_once zero i j l e f = sym e ∙ f
  leads_once (suc k) i j l (m, first, rest) (n, first', rest') =
      let same : m ≡ n = cc in
      leads_once k m j l rest (rw same rest')

  -- the rest of a longer way
  pub leads_rest : (k m i j l : ℕ) → Leads types nodes i k j → Leads types nodes i (k + m) l → Leads types nodes j m l
  leads_rest zero m i j l e f =
      let z : zero + m ≡ m = omega arith in
      subst (λ (q : ℕ). Leads types nodes q m l) e (subst (λ (q : ℕ). Leads types nodes i q l) z f)
  leads_rest (suc k) m i j l (n, first, rest) f =
      let z : suc k + m ≡ suc (k + m) = omega arith in
      let g : Leads types nodes i (suc (k + m)) l = subst (λ (q : ℕ). Leads types nodes i q l) z f in
      let (p, first', rest') = g in
      let same : p ≡ n = cc in
      leads_rest k m n j l rest (subst (λ (q : ℕ). Leads types nodes q (k + m) l) same rest')

  -- before the end of a way there is a first operand
  leads_on_by : (m k i j l : ℕ) → Leads types nodes i k j → Leads types nodes i (k + suc m) l → first_operand types nodes j ≡ None → ⊥
  leads_on_by m k i j l e f none = let (n, first, rest) = leads_rest k (suc m) i j l e f in cc

  pub leads_on : (k n i j l : ℕ) → k < n → Leads types nodes i k j → Leads types nodes i n l → first_operand types nodes j ≡ None → ⊥
  leads_on k n i j l lt e f none =
      let z : n ≡ k + suc (n - suc k) = omega arith in
      leads_on_by (n - suc k) k i j l e (subst (λ (q : ℕ). Leads types nodes i q l) z f) none

  pub leads_step : (k i j m : ℕ) → Leads types nodes i k j → first_operand types nodes j ≡ Some m → Leads types nodes i (k + 1) m
  leads_step k i j m e f =
      let z : suc k ≡ k + 1 = omega arith in
      subst (λ (q : ℕ). Leads types nodes i q m) z (leads_more k i j m e f)

  -- a longer way begins with a shorter one
  pub leads_front : (k m i l : ℕ) → Leads types nodes i (k + m) l → (j : ℕ) × Leads types nodes i k j
  leads_front zero m i l e = (i, refl)
  leads_front (suc k) m i l e =
      let z : suc k + m ≡ suc (k + m) = omega arith in
      let g : Leads types nodes i (suc (k + m)) l = subst (λ (q : ℕ). Leads types nodes i q l) z e in
      let (n, first, rest) = g in
      let (j, short) = leads_front k m n l rest in
      (j, (n, first, short))
