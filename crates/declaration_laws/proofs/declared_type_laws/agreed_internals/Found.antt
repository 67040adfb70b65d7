-- Where the initialiser of a declarator stands.
use Rattle.std.proofs.Common.{◌≡◌, ℕ, inl, inr, ◌||◌, Bool, true, false, List, [], ◌∷◌, map, slice_get, Option, Some, None, refl, sym, ap, ◌∙◌, subst}
use Rattle.std.specs.Prelude.{if◌then◌else◌}
use Rattle.std.proofs.lemmas.Bool.{eqb-true}
use Rattle.c_lexer.specs.declared.Token.{Token}
use Rattle.c_lexer.specs.declared.TokenKind.{TokenKind}
use Rattle.c_lexer.specs.Laws.{Stands}
use Rattle.c_grammar.specs.Productions.{p_external, p_rest, p_declaration, p_init}
use Rattle.c_grammar.specs.Terminals.{contains}
use Rattle.c_senses.specs.Tree.{Source, production_at, children_at, is_a}
use Rattle.c_senses.specs.Entities.{behind, without_asm, in_rest, initialiser_in, initialiser_of}
use Rattle.c_senses.specs.Sense.{Sense}
use Rattle.core_node_laws.specs.count_laws.passed.parsed_tree_laws.family_laws.Families.{Families}
use Rattle.core_node_laws.specs.count_laws.passed.parsed_tree_laws.nesting_laws.Nested.{Nested}
use Rattle.core_node_laws.proofs.count_laws.passed.parsed_tree_laws.placed_laws.Climbing.{Grown}
use Rattle.declaration_laws.proofs.declared_type_laws.owner_laws.passed.definition_laws.linkage_laws.Seen.{parent_is}
use Rattle.core_node_laws.specs.count_laws.passed.parsed_tree_laws.sign_parts.Parts.{Mark, mark_at, Brings, Takes, IsBrought}
use Rattle.declaration_laws.proofs.declared_type_laws.owner_laws.passed.definition_laws.earlier_initialisers.PassedOn.{IsRestList, Begins, rest_list}
use Rattle.declaration_laws.proofs.declared_type_laws.owner_laws.passed.definition_laws.earlier_initialisers.PassedOn.{apart, Reads}
use Rattle.declaration_laws.proofs.declared_type_laws.owner_laws.passed.definition_laws.earlier_initialisers.PassedOn.{parts}
use Rattle.declaration_laws.specs.declared_type_laws.owner_laws.passed.definition_laws.earlier_initialisers.Earlier.{StandsDeclaring}
use Rattle.declaration_laws.proofs.declared_type_laws.declared_once.PassedOn.{plain_list, rest_init}

module _ (s : Source) (tree : Grown s) (nested : Nested s) (families : Families s) (standing : (k : ℕ) (t : Token) → slice_get s.tokens k ≡ Some t → Stands s.text t) (brought : IsBrought s) (sense : ℕ → Sense) where
  abbrev T : ℕ → TokenKind → ℕ → Type 0
  T = Takes s.text s.tokens

  rest_is : (p : ℕ) → is_a s p_rest p ≡ true → IsRestList T (map (mark_at s) (children_at s p))
  rest_is p rest = rest_list T (map (mark_at s) (children_at s p)) (subst (λ (q : ℕ). Brings T q 0 (map (mark_at s) (children_at s p))) (eqb-true (production_at s p) p_rest rest) (brought p))

  read_of : (p : ℕ) → Reads s sense (children_at s p) (map (mark_at s) (children_at s p))
  read_of p = parts s tree nested families standing brought sense sense p (map (mark_at s) (children_at s p)) refl

  pub record StandsIn (i : ℕ) : Type 0 where
    pub rest : ℕ
    pub is_rest : is_a s p_rest rest ≡ true
    pub is : is_a s p_init i ≡ true
    pub inside : contains (children_at s rest) i ≡ true

  first_init : (c i : ℕ) (ms : List Mark) → IsRestList T ms → Reads s sense (children_at s c) ms → is_a s p_rest c ≡ true → initialiser_in s sense (children_at s c) ≡ Some i → StandsIn i
  first_init c i ms (Begins {init = xs} {more = ys} maybe next) r rest e =
      let found = plain_list s sense standing xs ys maybe next (children_at s c) i r e in record { rest = c; is_rest = rest; is = found.0; inside = found.1 }

  module _ (m i : ℕ) (stands : StandsDeclaring s m) (given : initialiser_of s sense m ≡ Some i) where
    abbrev from_parent : Option ℕ → Option ℕ
    from_parent o = elim o as (λ _. Option ℕ) [
      | None ↦ None
      | Some q ↦ if is_a s p_rest q then initialiser_in s sense (without_asm s sense (behind m (children_at s q))) else in_rest s sense (without_asm s sense (behind m (children_at s q)))
    ]

    abbrev chosen : Bool → Option ℕ
    chosen b = if b then initialiser_in s sense (without_asm s sense (behind m (children_at s stands.0))) else in_rest s sense (without_asm s sense (behind m (children_at s stands.0)))

    there : chosen (is_a s p_rest stands.0) ≡ Some i
    there = sym (ap from_parent (parent_is s tree stands.0 m stands.2)) ∙ given

    in_declaration : (list : List ℕ) → in_rest s sense list ≡ Some i → StandsIn i
    in_declaration [] e = absurd (cc)
    in_declaration (c ∷ more) e = by (is_a s p_rest c) refl e
      where
        by : (b : Bool) → is_a s p_rest c ≡ b → (if b then initialiser_in s sense (children_at s c) else None) ≡ Some i → StandsIn i
        by true rest f = first_init c i (map (mark_at s) (children_at s c)) (rest_is c rest) (read_of c) rest f
        by false rest f = absurd (cc)

    no_rest : (is_a s p_external stands.0 || is_a s p_declaration stands.0) ≡ true → is_a s p_rest stands.0 ≡ false
    no_rest two = by (is_a s p_external stands.0) (is_a s p_declaration stands.0) refl refl two
      where
        by : (x y : Bool) → is_a s p_external stands.0 ≡ x → is_a s p_declaration stands.0 ≡ y → (x || y) ≡ true → is_a s p_rest stands.0 ≡ false
        by true y e f k = apart s stands.0 p_external p_rest e refl
        by false true e f k = apart s stands.0 p_declaration p_rest f refl
        by false false e f k = cc

    pub stands_in : StandsIn i
    stands_in = elim stands.3 [
      | inl rest ↦
          let found = rest_init s sense standing m i stands.1 (map (mark_at s) (children_at s stands.0)) (rest_is stands.0 rest) (children_at s stands.0) (read_of stands.0) (sym (ap chosen rest) ∙ there) in
          record { rest = stands.0; is_rest = rest; is = found.0; inside = found.1 }
      | inr two ↦ in_declaration (without_asm s sense (behind m (children_at s stands.0))) (sym (ap chosen (no_rest two)) ∙ there)
    ]
