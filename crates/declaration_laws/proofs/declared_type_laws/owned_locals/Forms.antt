-- The parts of external declarations and of declarators.
use Rattle.std.proofs.Common.{◌≡◌, ◌==◌, ◌||◌, ℕ, nat_eq, Bool, true, false, List, [], ◌∷◌, map, refl, sym, ◌∙◌, subst}
use Rattle.std.proofs.lemmas.Bool.{eqb-true}
use Rattle.c_grammar.specs.Table.{table, row}
use Rattle.c_grammar.specs.Tree.{makes_node}
use Rattle.c_grammar.specs.Terminals.{contains}
use Rattle.c_grammar.specs.Reads.{leaf}
use Rattle.c_grammar.specs.Productions.{p_external, p_rest, p_declarator, p_abstract, p_either}
use Rattle.c_senses.specs.Tree.{Source, production_at, children_at, is_a}
use Rattle.c_senses.specs.Declarators.{is_declarator}
use Rattle.core_node_laws.specs.count_laws.passed.parsed_tree_laws.grown_parts.Parts.{IsBrought, Brings}
use Rattle.core_node_laws.proofs.count_laws.passed.parsed_tree_laws.grown_parts.Declaring.{AllIn, rest_parts, rest_list}
use Rattle.core_node_laws.proofs.count_laws.passed.parsed_tree_laws.grown_parts.Allowed.{rows_in, brings_in}

abbrev external_parts : List ℕ
external_parts = leaf ∷ 6 ∷ 19 ∷ 5 ∷ 2 ∷ 29 ∷ []

abbrev external_rows : List ℕ
external_rows = 48 ∷ 49 ∷ 52 ∷ 53 ∷ []

externals_in : rows_in external_parts external_rows external_rows ≡ true
unfolding table row makes_node
externals_in = refl

external_list : (zs : List ℕ) → Brings 1 0 zs → AllIn external_parts zs
unfolding table row makes_node
external_list zs b = brings_in external_parts external_rows refl externals_in 1 0 zs b refl

abbrev named_parts : List ℕ
named_parts = leaf ∷ 9 ∷ 19 ∷ 22 ∷ []

abbrev named_rows : List ℕ
named_rows = 48 ∷ 115 ∷ 116 ∷ 117 ∷ []

named_in : rows_in named_parts named_rows named_rows ≡ true
unfolding table row makes_node
named_in = refl

named_list : (zs : List ℕ) → Brings 19 0 zs → AllIn named_parts zs
unfolding table row makes_node
named_list zs b = brings_in named_parts named_rows refl named_in 19 0 zs b refl

-- one of some is so
one_in : (allowed : List ℕ) (f : ℕ → ℕ) (ks : List ℕ) (c : ℕ) → AllIn allowed (map f ks) → contains ks c ≡ true → contains allowed (f c) ≡ true
one_in allowed f [] c all h = cc
one_in allowed f (k ∷ ks) c all h = by (nat_eq k c) refl h (λ g. one_in allowed f ks c all.1 g)
  where
    by : (b : Bool) → nat_eq k c ≡ b → (b || contains ks c) ≡ true → (contains ks c ≡ true → contains allowed (f c) ≡ true) → contains allowed (f c) ≡ true
    by true e g later = subst (λ (x : ℕ). contains allowed (f x) ≡ true) (eqb-true k c e) all.0
    by false e g later = later g

-- a declarator among some productions of which no other is a declarator's
only_one : (allowed : List ℕ) (q : ℕ) → ((z : ℕ) → contains allowed z ≡ true → nat_eq z p_abstract ≡ false) → ((z : ℕ) → contains allowed z ≡ true → nat_eq z p_either ≡ false) → contains allowed q ≡ true
    → (q == p_declarator || q == p_abstract || q == p_either) ≡ true → (q == p_declarator) ≡ true
only_one allowed q abstract either h is = by (q == p_declarator) (q == p_abstract) (q == p_either) (abstract q h) (either q h) is
  where
    by : (a b c : Bool) → b ≡ false → c ≡ false → (a || b || c) ≡ true → a ≡ true
    by true b c e f g = refl
    by false true c e f g = cc
    by false false true e f g = cc
    by false false false e f g = cc

-- what is among some numbers is none that isn't
not_in : (allowed : List ℕ) (p : ℕ) → contains allowed p ≡ false → (z : ℕ) → contains allowed z ≡ true → nat_eq z p ≡ false
not_in allowed p none z h = by (nat_eq z p) refl
  where
    no_both : (b : Bool) → b ≡ true → b ≡ false → ⊥
    no_both b e f = let both : true ≡ false = sym e ∙ f in cc

    by : (b : Bool) → nat_eq z p ≡ b → b ≡ false
    by true e = absurd (no_both (contains allowed p) (subst (λ (x : ℕ). contains allowed x ≡ true) (eqb-true z p e) h) none)
    by false e = refl

module _ (s : Source) (brought : IsBrought s) where
  brings : (p i : ℕ) → is_a s p i ≡ true → Brings p 0 (map (production_at s) (children_at s i))
  brings p i h = subst (λ (q : ℕ). Brings q 0 (map (production_at s) (children_at s i))) (eqb-true (production_at s i) p h) (brought i)

  -- a declarator that is a part of an external declaration, of the rest of one, or of a declarator that has a name, has a name
  pub in_external : (i c : ℕ) → is_a s p_external i ≡ true → contains (children_at s i) c ≡ true → is_declarator s c ≡ true → is_a s p_declarator c ≡ true
  in_external i c h child is =
      only_one external_parts (production_at s c) (not_in external_parts p_abstract refl) (not_in external_parts p_either refl)
      (one_in external_parts (production_at s) (children_at s i) c (external_list (map (production_at s) (children_at s i)) (brings p_external i h)) child) is

  pub in_rest : (i c : ℕ) → is_a s p_rest i ≡ true → contains (children_at s i) c ≡ true → is_declarator s c ≡ true → is_a s p_declarator c ≡ true
  in_rest i c h child is =
      only_one rest_parts (production_at s c) (not_in rest_parts p_abstract refl) (not_in rest_parts p_either refl)
      (one_in rest_parts (production_at s) (children_at s i) c (rest_list (map (production_at s) (children_at s i)) (brings p_rest i h)) child) is

  pub in_declarator : (i c : ℕ) → is_a s p_declarator i ≡ true → contains (children_at s i) c ≡ true → is_declarator s c ≡ true → is_a s p_declarator c ≡ true
  in_declarator i c h child is =
      only_one named_parts (production_at s c) (not_in named_parts p_abstract refl) (not_in named_parts p_either refl)
      (one_in named_parts (production_at s) (children_at s i) c (named_list (map (production_at s) (children_at s i)) (brings p_declarator i h)) child) is

  -- an external declaration has no field
  pub no_field : (i c : ℕ) → is_a s p_external i ≡ true → contains (children_at s i) c ≡ true → (p : ℕ) → contains external_parts p ≡ false → is_a s p c ≡ false
  no_field i c h child p none =
      not_in external_parts p none (production_at s c) (one_in external_parts (production_at s) (children_at s i) c (external_list (map (production_at s) (children_at s i)) (brings p_external i h)) child)
