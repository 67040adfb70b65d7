-- The positions of members, one list after another.
use Rattle.std.proofs.Common.{arith, ◌≡◌, ◌∙◌, ℕ, zero, suc, ◌+◌, ◌<◌, ◌≤◌, inl, inr, Bool, true, false, cond, List, length, Option, Some, None, refl, sym, ap}
use Rattle.std.specs.Prelude.{◌==◌, option_map}
use Rattle.std.proofs.lemmas.Bool.Decides.{eqb_tells}
use Rattle.std.proofs.lemmas.Bool.{cases_lt}
use Rattle.std.proofs.lemmas.Option.{slice_get_past}
use Rattle.c_grammar.specs.Productions.{p_member}
use Rattle.c_grammar.specs.Terminals.{contains}
use Rattle.c_grammar.specs.declared.trees.SyntaxNode.{SyntaxNode}
use Rattle.c_senses.specs.Tree.{Source, is_a, is_number, production_of, children_at, parent_of, first_where, numbers_from}
use Rattle.c_senses.specs.Keys.{parts_before}
use Rattle.c_senses.specs.World.{or_else}
use Rattle.c_senses.specs.Sense.{Sense}
use Rattle.tree_reads.specs.leaf_maps.Numbers.{number_at}
use Rattle.unit_keys.specs.Placed.{position_below, ArePositions, AreNoted}

same_number : (p q : ℕ) → (p == q) ≡ true → p ≡ q
same_number p q e = elim (eqb_tells p q) [ inl h ↦ h.1 | inr h ↦ absurd (let f : true ≡ false = sym e ∙ h.0 in cc) ]

equal_self : (p : ℕ) → (p == p) ≡ true
equal_self p = elim (eqb_tells p p) [ inl h ↦ h.0 | inr h ↦ absurd (h.1 refl) ]

is_some_number : (o : Option ℕ) (p : ℕ) → is_number o p ≡ true → o ≡ Some p
is_some_number None p e = cc
is_some_number (Some q) p e = ap Some (same_number q p e)

-- what is found passes
found_by : (test : ℕ → Bool) (k p : ℕ) (b : Bool) (rest : Option ℕ) → test k ≡ b → (rest ≡ Some p → test p ≡ true) → cond b (Some k) rest ≡ Some p → test p ≡ true
found_by test k p true rest e h g = let same : k ≡ p = cc in ap test (sym same) ∙ e
found_by test k p false rest e h g = h g

found_from : (test : ℕ → Bool) (k n p : ℕ) → first_where test (numbers_from k n) ≡ Some p → test p ≡ true
found_from test k zero p h = cc
found_from test k (suc n) p h = found_by test k p (test k) (first_where test (numbers_from (suc k) n)) refl (λ g. found_from test (suc k) n p g) h

module _ (s : Source) (sense : ℕ → Sense) where
  -- the position of what stands in a list
  held_position : (c list : ℕ) → is_number (parent_of s c) list ≡ true → (contains (children_at s list) c ≡ true) × (position_below s sense (length s.nodes) c ≡ Some (parts_before s sense c (children_at s list)))
  held_position c list e =
      let parent = is_some_number (parent_of s c) list e in
      (found_from (λ p. contains (children_at s p) c) 0 (length s.nodes) list parent, ap (option_map (λ p. parts_before s sense c (children_at s p))) parent)

  kept_or_own : (o wanted : Option ℕ) (x : ℕ) (b : Bool) → b ≡ true → wanted ≡ Some x → ((y : ℕ) → o ≡ Some y → wanted ≡ Some y) → or_else o (cond b (Some x) None) ≡ wanted
  kept_or_own None wanted x b eb ew h = ap (λ (d : Bool). cond d (Some x) None) eb ∙ sym ew
  kept_or_own (Some y) wanted x b eb ew h = sym (h y refl)

  past : (c : ℕ) → length s.nodes ≤ c → is_a s p_member c ≡ false
  past c le = ap (λ (o : Option SyntaxNode). production_of o == p_member) (slice_get_past s.nodes c le)

  pub noted_none : (positions : List (ℕ × ℕ)) → ((q : ℕ) → number_at positions q ≡ None) → AreNoted s sense positions 0
  noted_none positions none = record {
    own = λ c x on e. absurd (let f : None ≡ Some x = sym (none c) ∙ e in cc);
    each = λ c lt on. absurd (omega (arith, lt));
  }

  -- one node more that has its position
  noted_here : (positions : List (ℕ × ℕ)) (n : ℕ) → (is_a s p_member n ≡ true → number_at positions n ≡ position_below s sense (length s.nodes) n) → AreNoted s sense positions n → AreNoted s sense positions (n + 1)
  noted_here positions n here are = record {
    own = are.own;
    each = λ c lt on. elim (eqb_tells c n) [
      | inl p ↦
          ap (number_at positions) p.1 ∙ (here (ap (is_a s p_member) (sym p.1) ∙ on) ∙ ap (position_below s sense (length s.nodes)) (sym p.1))
      | inr p ↦ are.each c (omega (arith, p.1, lt)) on
    ];
  }

  pub noted_skip : (positions : List (ℕ × ℕ)) (n : ℕ) → is_a s p_member n ≡ false → AreNoted s sense positions n → AreNoted s sense positions (n + 1)
  noted_skip positions n off are = noted_here positions n (λ on. absurd (let f : true ≡ false = sym on ∙ off in cc)) are

  pub noted_had : (positions : List (ℕ × ℕ)) (n x : ℕ) → number_at positions n ≡ Some x → AreNoted s sense positions n → AreNoted s sense positions (n + 1)
  noted_had positions n x had are = noted_here positions n (λ on. had ∙ sym (are.own n x on had)) are

  pub noted_alone : (positions : List (ℕ × ℕ)) (n : ℕ) → number_at positions n ≡ None → parent_of s n ≡ None → AreNoted s sense positions n → AreNoted s sense positions (n + 1)
  noted_alone positions n none alone are =
      noted_here positions n (λ on. none ∙ sym (ap (option_map (λ p. parts_before s sense n (children_at s p))) alone)) are

  -- one list more
  pub noted_list : (old new : List (ℕ × ℕ)) (n list : ℕ) → parent_of s n ≡ Some list
      → ((c : ℕ) → is_a s p_member c ≡ true → is_number (parent_of s c) list ≡ true → number_at new c ≡ or_else (number_at old c) (cond (contains (children_at s list) c) (Some (parts_before s sense c (children_at s list))) None))
      → ((c : ℕ) → is_number (parent_of s c) list ≡ false → number_at new c ≡ number_at old c) → AreNoted s sense old n → AreNoted s sense new (n + 1)
  noted_list old new n list parent held others are = record {
    own = λ c x on e. own_by c x (is_number (parent_of s c) list) refl on e;
    each = λ c lt on. each_by c (is_number (parent_of s c) list) refl lt on;
  }
    where
      has_own : (c : ℕ) → is_a s p_member c ≡ true → is_number (parent_of s c) list ≡ true → number_at new c ≡ position_below s sense (length s.nodes) c
      has_own c on e =
          let h = held_position c list e in
          held c on e
          ∙ kept_or_own (number_at old c) (position_below s sense (length s.nodes) c) (parts_before s sense c (children_at s list)) (contains (children_at s list) c) h.0 h.1 (λ y g. are.own c y on g)

      own_by : (c x : ℕ) (b : Bool) → is_number (parent_of s c) list ≡ b → is_a s p_member c ≡ true → number_at new c ≡ Some x → position_below s sense (length s.nodes) c ≡ Some x
      own_by c x true e on g = sym (has_own c on e) ∙ g
      own_by c x false e on g = are.own c x on (sym (others c e) ∙ g)

      each_by : (c : ℕ) (b : Bool) → is_number (parent_of s c) list ≡ b → c < n + 1 → is_a s p_member c ≡ true → number_at new c ≡ position_below s sense (length s.nodes) c
      each_by c true e lt on = has_own c on e
      each_by c false e lt on =
          elim (eqb_tells c n) [
            | inl p ↦
                absurd (let f : true ≡ false = sym (equal_self list) ∙ (ap (λ (o : Option ℕ). is_number o list) (sym parent) ∙ (ap (λ (k : ℕ). is_number (parent_of s k) list) (sym p.1) ∙ e)) in cc)
            | inr p ↦ others c e ∙ are.each c (omega (arith, p.1, lt)) on
          ]

  pub noted_all : (positions : List (ℕ × ℕ)) (n : ℕ) → n ≡ length s.nodes → AreNoted s sense positions n → ArePositions s sense positions (length s.nodes)
  noted_all positions n all are = λ c on. elim (cases_lt c (length s.nodes)) [
    | inl lt ↦ are.each c (omega (arith, lt, all)) on
    | inr le ↦ absurd (let f : true ≡ false = sym on ∙ past c le in cc)
  ]
