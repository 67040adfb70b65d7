-- The number of a call is how many calls stand at nodes before it.
use Rattle.std.proofs.Common.{arith, ◌≡◌, ◌∙◌, ℕ, zero, suc, ◌+◌, ◌<◌, Bool, true, false, cond, List, [], ◌∷◌, Option, Some, None, length, take, slice_get, refl, sym, ap, subst}
use Rattle.std.specs.Prelude.{sum_by}
use Rattle.std.specs.List.{cons_option, filter_map, range_with_len}
use Rattle.std.proofs.lemmas.List.Sums.{sum_by-cons}
use Rattle.core_tree.specs.declared.node.Node.{Node}
use Rattle.call_sites.specs.Calls.{is_call, call_if, calls_upto}
use Rattle.row_covers.specs.Targets.{is_call_node, is_call_in, call_unit, call_count, call_number}

some_one : {X : Type 0} → {x y : X} → ◌≡◌ {A = Option X} (Some x) (Some y) → x ≡ y
some_one h = cc

none_some : {X : Type 0} → {x : X} → ◌≡◌ {A = Option X} None (Some x) → ⊥
none_some h = cc

unit_of : (x : Node) (b : Bool) → is_call x.kind ≡ b → call_unit x ≡ cond b 1 0
unfolding is_call_node
unit_of x b is = ap (λ (c : Bool). cond c 1 0) is

unit_more : (x : Node) (b : Bool) (xs : List Node) → is_call x.kind ≡ b → sum_by call_unit (x ∷ xs) ≡ cond b 1 0 + sum_by call_unit xs
unit_more x b xs is = sum_by-cons call_unit x xs ∙ ap (λ (k : ℕ). k + sum_by call_unit xs) (unit_of x b is)

-- a call among the nodes from a on
record CallHere (xs : List Node) (a number n : ℕ) : Type 0 where
  at : ℕ
  node : Node
  place : n ≡ a + at
  there : slice_get xs at ≡ Some node
  call : is_call node.kind ≡ true
  before : number ≡ sum_by call_unit (take at xs)

module _ (nodes : List Node) where
  abbrev kept : ℕ → Option ℕ
  kept n = call_if n (slice_get nodes n)

  kept_here : (a : ℕ) (x : Node) (b : Bool) → slice_get nodes (a + 0) ≡ Some x → is_call x.kind ≡ b → kept a ≡ cond b (Some a) None
  kept_here a x b at is =
      let here : slice_get nodes a ≡ Some x = ap (slice_get nodes) (let e : a ≡ a + 0 = omega arith in e) ∙ at in
      ap (call_if a) here ∙ ap (λ (c : Bool). cond c (Some a) None) is

  behind : (xs : List Node) (x : Node) (a : ℕ) → ((j : ℕ) → slice_get nodes (a + j) ≡ slice_get (x ∷ xs) j) → (j : ℕ) → slice_get nodes ((a + 1) + j) ≡ slice_get xs j
  behind xs x a same j = ap (slice_get nodes) (let e : (a + 1) + j ≡ a + suc j = omega arith in e) ∙ same (suc j)

  calls_to : (xs : List Node) (a number n : ℕ) → ((j : ℕ) → slice_get nodes (a + j) ≡ slice_get xs j) → slice_get (filter_map kept (range_with_len a (length xs))) number ≡ Some n → CallHere xs a number n
  calls_to [] a number n same e = absurd (none_some e)
  calls_to (x ∷ xs) a number n same e =
      by (is_call x.kind) refl number
      (subst (λ (o : Option ℕ). slice_get (cons_option o (filter_map kept (range_with_len (a + 1) (length xs)))) number ≡ Some n) (kept_here a x (is_call x.kind) (same 0) refl) e)
      (λ k g. calls_to xs (a + 1) k n (behind xs x a same) g)
    where
      rest : List ℕ
      rest = filter_map kept (range_with_len (a + 1) (length xs))

      by : (b : Bool) → is_call x.kind ≡ b → (number : ℕ) → slice_get (cons_option (cond b (Some a) None) rest) number ≡ Some n → ((k : ℕ) → slice_get rest k ≡ Some n → CallHere xs (a + 1) k n) → CallHere (x ∷ xs) a number n
      by true is zero g next = record { at = 0; node = x; place = (let q = some_one g in omega arith); there = refl; call = is; before = refl }
      by true is (suc k) g next =
          let h = next k g in
          let p = h.place in
          let b = h.before in
          let c = unit_more x true (take h.at xs) is in
          record { at = suc h.at; node = h.node; place = omega arith; there = h.there; call = h.call; before = ap suc b ∙ (let q : suc (sum_by call_unit (take h.at xs)) ≡ 1 + sum_by call_unit (take h.at xs) = omega arith in q) ∙ sym c }
      by false is k g next =
          let h = next k g in
          let p = h.place in
          let b = h.before in
          let c = unit_more x false (take h.at xs) is in
          record { at = suc h.at; node = h.node; place = omega arith; there = h.there; call = h.call; before = b ∙ (let q : sum_by call_unit (take h.at xs) ≡ 0 + sum_by call_unit (take h.at xs) = omega arith in q) ∙ sym c }

  calls_from : (xs : List Node) (a j : ℕ) (x : Node) → ((i : ℕ) → slice_get nodes (a + i) ≡ slice_get xs i) → slice_get xs j ≡ Some x → is_call x.kind ≡ true
      → slice_get (filter_map kept (range_with_len a (length xs))) (sum_by call_unit (take j xs)) ≡ Some (a + j)
  calls_from [] a j x same e is = absurd (none_some e)
  calls_from (z ∷ xs) a zero x same e is =
      ap (λ (o : Option ℕ). slice_get (cons_option o (filter_map kept (range_with_len (a + 1) (length xs)))) 0) (kept_here a z true (same 0) (ap (λ (y : Node). is_call y.kind) (some_one e) ∙ is))
      ∙ ap (λ (m : ℕ). Some m) (let q : a ≡ a + 0 = omega arith in q)
  calls_from (z ∷ xs) a (suc j) x same e is = by (is_call z.kind) refl (calls_from xs (a + 1) j x (behind xs z a same) e is)
    where
      rest : List ℕ
      rest = filter_map kept (range_with_len (a + 1) (length xs))

      last : Some ((a + 1) + j) ≡ Some (a + suc j)
      last = ap (λ (m : ℕ). Some m) (let q : (a + 1) + j ≡ a + suc j = omega arith in q)

      by : (b : Bool) → is_call z.kind ≡ b → slice_get rest (sum_by call_unit (take j xs)) ≡ Some ((a + 1) + j) → slice_get (cons_option (kept a) rest) (sum_by call_unit (z ∷ take j xs)) ≡ Some (a + suc j)
      by true k i =
          ap (λ (o : Option ℕ). slice_get (cons_option o rest) (sum_by call_unit (z ∷ take j xs))) (kept_here a z true (same 0) k)
          ∙ (ap (slice_get (a ∷ rest)) (unit_more z true (take j xs) k ∙ (let q : 1 + sum_by call_unit (take j xs) ≡ suc (sum_by call_unit (take j xs)) = omega arith in q)) ∙ (i ∙ last))
      by false k i =
          ap (λ (o : Option ℕ). slice_get (cons_option o rest) (sum_by call_unit (z ∷ take j xs))) (kept_here a z false (same 0) k)
          ∙ (ap (slice_get rest) (unit_more z false (take j xs) k ∙ (let q : 0 + sum_by call_unit (take j xs) ≡ sum_by call_unit (take j xs) = omega arith in q)) ∙ (i ∙ last))

  -- the call of that number
  pub number_of_call : (number n : ℕ) → slice_get (calls_upto nodes (length nodes)) number ≡ Some n → call_number nodes n ≡ Some number
  unfolding is_call_node
  number_of_call number n e =
      let h = calls_to nodes 0 number n (λ j. ap (slice_get nodes) (let q : 0 + j ≡ j = omega arith in q)) e in
      let place : n ≡ h.at = (let p = h.place in omega arith) in
      let at : slice_get nodes n ≡ Some h.node = ap (slice_get nodes) place ∙ h.there in
      ap (λ (b : Bool). cond b (Some (call_count nodes n)) None) (ap is_call_in at ∙ h.call)
      ∙ ap (λ (m : ℕ). Some m) (ap (call_count nodes) place ∙ sym h.before)

  pub call_of_number : (number n : ℕ) → call_number nodes n ≡ Some number → slice_get (calls_upto nodes (length nodes)) number ≡ Some n
  unfolding is_call_node
  call_of_number number n is = by (slice_get nodes n) refl is
    where
      listed : (x : Node) → slice_get nodes n ≡ Some x → (b : Bool) → is_call x.kind ≡ b → cond b (Some (call_count nodes n)) None ≡ Some number → slice_get (calls_upto nodes (length nodes)) number ≡ Some n
      listed x e true k g =
          subst (λ (m : ℕ). slice_get (calls_upto nodes (length nodes)) m ≡ Some n) (some_one g)
          (calls_from nodes 0 n x (λ j. ap (slice_get nodes) (let q : 0 + j ≡ j = omega arith in q)) e k ∙ ap (λ (m : ℕ). Some m) (let q : 0 + n ≡ n = omega arith in q))
      listed x e false k g = absurd (none_some g)

      by : (o : Option Node) → slice_get nodes n ≡ o → cond (is_call_in o) (Some (call_count nodes n)) None ≡ Some number → slice_get (calls_upto nodes (length nodes)) number ≡ Some n
      by None e g = absurd (none_some g)
      by (Some x) e g = listed x e (is_call x.kind) refl g
