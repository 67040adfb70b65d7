-- A node and a scope around it stand below one external declaration.
use Rattle.std.proofs.Common.{◌≡◌, ℕ, List, Bool, true, false, sym, subst, inl, inr}
use Rattle.c_lexer.specs.declared.Token.{Token}
use Rattle.c_grammar.specs.Reads.{Node}
use Rattle.c_grammar.specs.Productions.{p_unit, p_external}
use Rattle.declaration_laws.specs.definition_laws.scope_laws.Beneath.{part, deeper}
use Rattle.declaration_laws.proofs.definition_laws.scope_laws.Tree.{further, compare, Order}
use Rattle.declaration_laws.proofs.definition_laws.scope_laws.Scopes.{Part, Below, IsOf, IsNot, IsOpened}

pub no_both : (b : Bool) → b ≡ true → b ≡ false → ⊥
no_both true e f = cc
no_both false e f = cc

module _
    (tokens : List Token) (nodes : List Node) (single : (i j c : ℕ) → Part tokens nodes i c → Part tokens nodes j c → i ≡ j)
    (externals : (i c : ℕ) → Part tokens nodes i c → IsOf tokens nodes p_external c → IsOf tokens nodes p_unit i) (units : (i c : ℕ) → Part tokens nodes i c → IsNot tokens nodes p_unit c)
  where
    no_unit : (a i : ℕ) → Below tokens nodes a i → IsNot tokens nodes p_unit i
    no_unit a i (part r) = units a i r
    no_unit a i (deeper {i = j} b r) = units j i r

    -- above an external declaration stands the unit alone
    pub above_external : (a p : ℕ) → Below tokens nodes a p → IsOf tokens nodes p_external p → IsOf tokens nodes p_unit a
    above_external a p (part r) is = externals a p r is
    above_external a p (deeper {i = i} b r) is = absurd (no_both _ (externals i p r is) (no_unit a i b))

    never_above : (a p : ℕ) → IsOf tokens nodes p_external p → IsNot tokens nodes p_unit a → Below tokens nodes a p → ⊥
    never_above a p is apart b = no_both _ (above_external a p b is) apart

    pub scope_below : (p n scope : ℕ) → IsOf tokens nodes p_external p → Below tokens nodes p n → IsOpened tokens nodes n scope → Below tokens nodes p scope
    scope_below p n scope is below (a, above, (no_unit_is, no_external, inl e)) = by (compare (Part tokens nodes) single p a n below above)
      where
        by : Order (Part tokens nodes) p a → Below tokens nodes p scope
        by (inl same) = absurd (no_both _ is (subst (λ (k : ℕ). IsNot tokens nodes p_external k) (sym same) no_external))
        by (inr (inl b)) = subst (λ (k : ℕ). Below tokens nodes p k) (sym e) b
        by (inr (inr b)) = absurd (never_above a p is no_unit_is b)
    scope_below p n scope is below (a, above, (no_unit_is, no_external, inr (q, b, list, apart))) = by (compare (Part tokens nodes) single p q n below (further (Part tokens nodes) q a n b above))
      where
        by : Order (Part tokens nodes) p q → Below tokens nodes p scope
        by (inl same) = subst (λ (k : ℕ). Below tokens nodes k scope) (sym same) list
        by (inr (inl c)) = further (Part tokens nodes) p q scope c list
        by (inr (inr c)) = absurd (never_above q p is apart c)

    pub below_scope : (p m scope : ℕ) → IsOf tokens nodes p_external p → Below tokens nodes p scope → IsOpened tokens nodes m scope → Below tokens nodes p m
    below_scope p m scope is below (a, above, (no_unit_is, no_external, inl e)) = further (Part tokens nodes) p a m (subst (λ (k : ℕ). Below tokens nodes p k) e below) above
    below_scope p m scope is below (a, above, (no_unit_is, no_external, inr (q, b, list, apart))) = by (compare (Part tokens nodes) single p q scope below list)
      where
        by : Order (Part tokens nodes) p q → Below tokens nodes p m
        by (inl same) = further (Part tokens nodes) p a m (subst (λ (k : ℕ). Below tokens nodes k a) (sym same) b) above
        by (inr (inl c)) = further (Part tokens nodes) p a m (further (Part tokens nodes) p q a c b) above
        by (inr (inr c)) = absurd (never_above q p is apart c)
