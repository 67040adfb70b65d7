-- The parts of a parameter: its specifiers and its declarator.
use Rattle.std.proofs.Common.{◌≡◌, ℕ, nat_eq, ◌||◌, Bool, true, false, List, [], ◌∷◌, ◌++◌, map, refl, sym, ap, ◌∙◌, subst, Some, None}
use Rattle.std.specs.Prelude.{if◌then◌else◌}
use Rattle.std.proofs.lemmas.Bool.{eqb-true, eq-eqb}
use Rattle.c_grammar.specs.Table.{table, row, item_of}
use Rattle.c_grammar.specs.Tree.{makes_node}
use Rattle.c_grammar.specs.Terminals.{contains}
use Rattle.c_grammar.specs.Productions.{p_specs, p_field, p_parameter, p_either}
use Rattle.c_senses.specs.Tree.{Source, production_at, children_at, is_a, child_of, first_where}
use Rattle.c_senses.specs.Declarators.{is_declarator}
use Rattle.parsed_tree_laws.specs.grown_parts.Parts.{Brings, IsBrought}
use Rattle.parsed_tree_laws.proofs.grown_parts.Rows.{of_end, of_use, of_scope, of_node}

parameter_list : (zs : List ℕ) → Brings 23 0 zs → zs ≡ 6 ∷ 21 ∷ []
unfolding makes_node item_of row table
parameter_list zs h =
    let first = of_use 23 0 6 zs h refl in
    let second = of_use 23 1 21 first.1 first.4 refl in
    let last : second.1 ≡ [] = of_end 23 3 second.1 (of_scope 23 2 2 second.1 second.4 refl) refl in
    let ends : first.1 ≡ 21 ∷ [] = second.2 ∙ (ap (λ (l : List ℕ). l ++ second.1) (of_node 21 second.0 second.3 refl) ∙ ap (λ (l : List ℕ). 21 ∷ l) last) in
    first.2 ∙ (ap (λ (l : List ℕ). l ++ first.1) (of_node 6 first.0 first.3 refl) ∙ ap (λ (l : List ℕ). 6 ∷ l) ends)

two_of : (f : ℕ → ℕ) (ks : List ℕ) (x y : ℕ) → map f ks ≡ x ∷ y ∷ [] → (a b : ℕ) × (ks ≡ a ∷ b ∷ []) × (f a ≡ x) × (f b ≡ y)
two_of f [] x y e = cc
two_of f (a ∷ []) x y e = cc
two_of f (a ∷ b ∷ []) x y e = (a, b, refl, cc, cc)
two_of f (a ∷ b ∷ c ∷ ks) x y e = cc

-- which child is which
pub record Parts (s : Source) (q : ℕ) : Type 0 where
  pub specs : ℕ
  pub declarator : ℕ
  pub are : children_at s q ≡ specs ∷ declarator ∷ []
  pub first : production_at s specs ≡ 6
  pub second : production_at s declarator ≡ 21

pub parts : (s : Source) (q : ℕ) → IsBrought s → is_a s p_parameter q ≡ true → Parts s q
parts s q brought is =
    let own : Brings 23 0 (map (production_at s) (children_at s q)) = subst (λ (x : ℕ). Brings x 0 (map (production_at s) (children_at s q))) (eqb-true (production_at s q) p_parameter is) (brought q) in
    let two = two_of (production_at s) (children_at s q) 6 21 (parameter_list _ own) in
    record { specs = two.0; declarator = two.1; are = two.2; first = two.3; second = two.4 }

module _ (s : Source) (q : ℕ) (h : Parts s q) where
  pub specs_found : child_of s p_specs q ≡ Some h.specs
  specs_found = ap (first_where (is_a s p_specs)) h.are ∙ ap (λ (b : Bool). if b then Some h.specs else first_where (is_a s p_specs) (h.declarator ∷ [])) (eq-eqb (production_at s h.specs) 6 h.first)

  pub declarator_found : child_of s p_either q ≡ Some h.declarator
  declarator_found =
      ap (first_where (is_a s p_either)) h.are
      ∙ (ap (λ (x : ℕ). if nat_eq x p_either then Some h.specs else first_where (is_a s p_either) (h.declarator ∷ [])) h.first ∙ ap (λ (b : Bool). if b then Some h.declarator else None) (eq-eqb (production_at s h.declarator) 21 h.second))

  member : (c : ℕ) (P : ℕ → Type 0) → P h.specs → P h.declarator → contains (children_at s q) c ≡ true → P c
  member c P one two at = by (nat_eq h.specs c) (nat_eq h.declarator c) refl refl (sym (ap (λ (l : List ℕ). contains l c) h.are) ∙ at)
    where
      by : (a b : Bool) → nat_eq h.specs c ≡ a → nat_eq h.declarator c ≡ b → (a || (b || false)) ≡ true → P c
      by true b e f k = subst P (eqb-true h.specs c e) one
      by false true e f k = subst P (eqb-true h.declarator c f) two
      by false false e f k = cc

  -- no field is one, and the declarator is the second
  pub no_field : (c : ℕ) → contains (children_at s q) c ≡ true → is_a s p_field c ≡ false
  no_field c at = member c (λ (x : ℕ). is_a s p_field x ≡ false) (ap (λ (x : ℕ). nat_eq x p_field) h.first) (ap (λ (x : ℕ). nat_eq x p_field) h.second) at

  pub declarator_is : (c : ℕ) → contains (children_at s q) c ≡ true → is_declarator s c ≡ true → c ≡ h.declarator
  declarator_is c at = member c (λ (x : ℕ). is_declarator s x ≡ true → x ≡ h.declarator) (λ form. never form) (λ form. refl) at
    where
      never : is_declarator s h.specs ≡ true → h.specs ≡ h.declarator
      never form = let no : false ≡ true = sym (ap (λ (x : ℕ). (nat_eq x 19 || nat_eq x 20) || nat_eq x 21) h.first) ∙ form in cc
