-- Nodes around a node.
use Rattle.std.proofs.Common.{arith, ◌≡◌, ◌∙◌, ℕ, zero, suc, ◌+◌, ◌-◌, ◌<◌, ◌≤◌, inl, inr, Bool, true, false, cond, List, [], ◌∷◌, ◌++◌, length, length-append, get_or, Option, Some, None, refl, sym, ap}
use Rattle.std.proofs.lemmas.Bool.Decides.{eqb_tells}
use Rattle.std.proofs.lemmas.List.{get_or_append_left, get_or_push}
use Rattle.std.specs.Prelude.{◌||◌, is_some}
use Rattle.c_grammar.specs.Productions.{p_block}
use Rattle.c_senses.specs.Tree.{Source, is_a, parent_of, above_within}
use Rattle.c_senses.specs.Keys.{is_parameter_list, is_inner}
use Rattle.c_senses.specs.Sense.{Sense}
use Rattle.unit_keys.specs.Placed.{ParentsBehind, AreInner}

either : {A : Type 0} (b : Bool) (x y z : A) → y ≡ z → cond b x y ≡ cond b x z
either true x y z e = refl
either false x y z e = e

-- Enough levels find the same.
module _ (s : Source) (behind : ParentsBehind s) where
  above_same : (test : ℕ → Bool) (n m i : ℕ) (o : Option ℕ) → parent_of s i ≡ o → length s.nodes ≤ n + i → length s.nodes ≤ m + i → above_within s test n o ≡ above_within s test m o
  above_same test zero zero i o e en em = refl
  above_same test zero (suc m) i None e en em = refl
  above_same test (suc n) zero i None e en em = refl
  above_same test (suc n) (suc m) i None e en em = refl
  above_same test zero (suc m) i (Some p) e en em = let b = behind i p e in absurd (omega (arith, b.0, b.1, en))
  above_same test (suc n) zero i (Some p) e en em = let b = behind i p e in absurd (omega (arith, b.0, b.1, em))
  above_same test (suc n) (suc m) i (Some p) e en em =
      let b = behind i p e in
      either (test p) (Some p) (above_within s test n (parent_of s p)) (above_within s test m (parent_of s p)) (above_same test n m p (parent_of s p) refl (omega (arith, b.0, en)) (omega (arith, b.0, em)))

  -- a node is inner where its parent is a boundary, or is inner itself
  by_bool : (b : Bool) (p : ℕ) (x : Option ℕ) → is_some (cond b (Some p) x) ≡ (b || is_some x)
  by_bool true p x = refl
  by_bool false p x = refl

  above_one : (test : ℕ → Bool) (n p : ℕ) → 0 < n → above_within s test n (Some p) ≡ cond (test p) (Some p) (above_within s test (n - 1) (parent_of s p))
  above_one test zero p lt = absurd (omega (arith, lt))
  above_one test (suc n) p lt = let e : n ≡ suc n - 1 = omega arith in either (test p) (Some p) (above_within s test n (parent_of s p)) (above_within s test (suc n - 1) (parent_of s p)) (ap (λ (k : ℕ). above_within s test k (parent_of s p)) e)

  pub inner_under : (sense : ℕ → Sense) (i p : ℕ) → parent_of s i ≡ Some p → is_inner s sense i ≡ ((is_a s p_block p || is_parameter_list s sense p) || is_inner s sense p)
  inner_under sense i p e =
      let b = behind i p e in
      let test : ℕ → Bool = λ q. is_a s p_block q || is_parameter_list s sense q in
      let n = length s.nodes in
      ap (λ (o : Option ℕ). is_some (above_within s test n o)) e
      ∙ (ap is_some (above_one test n p (omega (arith, b.1)))
      ∙ (by_bool (test p) p (above_within s test (n - 1) (parent_of s p))
      ∙ ap (λ (o : Option ℕ). test p || is_some o) (above_same test (n - 1) n p (parent_of s p) refl (omega (arith, b.0, b.1)) (omega (arith, b.0, b.1)))))

  above_none : (test : ℕ → Bool) (n : ℕ) → above_within s test n None ≡ None
  above_none test zero = refl
  above_none test (suc n) = refl

  pub inner_none : (sense : ℕ → Sense) (i : ℕ) → parent_of s i ≡ None → is_inner s sense i ≡ false
  inner_none sense i e =
      let test : ℕ → Bool = λ q. is_a s p_block q || is_parameter_list s sense q in
      ap (λ (o : Option ℕ). is_some (above_within s test (length s.nodes) o)) e ∙ ap is_some (above_none test (length s.nodes))

  -- one flag more
  pub inner_more : (sense : ℕ → Sense) (flags new : List Bool) (node : ℕ) (flag : Bool) → AreInner s sense flags (length flags) → node + length flags + 1 ≡ length s.nodes → flag ≡ is_inner s sense node → new ≡ flags ++ flag ∷ [] → AreInner s sense new (length new)
  inner_more sense flags new node flag are all e en =
      let long : length new ≡ length flags + 1 = ap length en ∙ length-append flags (flag ∷ []) in
      record {
        long = refl;
        each = λ j lt. elim (eqb_tells j (length flags)) [
          | inl p ↦
              let here : length s.nodes - 1 - j ≡ node = omega (arith, p.1, all) in
              ap (λ (l : List Bool). get_or l j false) en ∙ (get_or_push flags flag false j (sym p.1) ∙ (e ∙ ap (is_inner s sense) (sym here)))
          | inr p ↦
              let less : j < length flags = omega (arith, p.1, lt, long) in
              ap (λ (l : List Bool). get_or l j false) en ∙ (get_or_append_left flags (flag ∷ []) false j less ∙ are.each j less)
        ];
      }
