-- What the row of the declarator of a name with linkage asks.
use Rattle.std.proofs.Common.{◌≡◌, ◌<◌, ◌⊎◌, inl, inr, nat_eq, ℕ, Bool, true, false, ◌||◌, List, length, Option, Some, None, refl, sym, ap, ◌∙◌, subst}
use Rattle.std.specs.Prelude.{option_and_then, is_some, if◌then◌else◌}
use Rattle.std.proofs.lemmas.Bool.{eqb-true}
use Rattle.pta_base.specs.declared.kind.Kind.{Kind}
use Rattle.pta_base.specs.declared.kind.Kind.TheVariants.{Operand}
use Rattle.c_types.specs.Trees.{Ctype}
use Rattle.c_grammar.specs.Productions.{p_external, p_rest, p_declaration, p_field, p_parameter, p_declarator}
use Rattle.c_senses.specs.Tree.{Source, production_at, children_at, is_a}
use Rattle.c_senses.specs.Given.{Given, Fits, given_if}
use Rattle.c_senses.specs.World.{World}
use Rattle.c_senses.specs.Declarators.{is_outermost, specs_of, specified_at, base_type, derived, derivations, adjusted, name_in}
use Rattle.c_senses.specs.Entities.{specified, initialiser_of, is_defined, words_go, is_same_again, has_one_linkage, internal_fits, is_name_complete, parameter_named, named_row, by_place}
use Rattle.c_senses.specs.Sense.{Sense, IsSpecified, IsDeclarator, Specified, Derivation, sense_in}
use Rattle.c_senses.specs.Rows.{AreSenses, declarator_row}
use Rattle.parsed_tree_laws.proofs.placed_laws.Climbing.{Grown}
use Rattle.declaration_laws.proofs.function_laws.passed.definition_laws.linkage_laws.Seen.{parent_is}
use Rattle.declaration_laws.proofs.function_laws.passed.definition_laws.function_definitions.Whole as whole_of
use Rattle.declaration_laws.proofs.declared_type_laws.passed.built_unit_laws.run_laws.Times.{known_at, world_of, row_as}
use Rattle.declaration_laws.specs.declared_type_laws.declared_leaves.Leaves.{IsDeclaredBy}
use Rattle.declaration_laws.specs.declared_type_laws.agreed_internals.PassedOn.{StandsDeclaring}

some_one : {X : Type 0} → {x y : X} → ◌≡◌ {A = Option X} (Some x) (Some y) → x ≡ y
some_one h = cc

declarator_same : (x y : Option ℕ) (ds es : List Derivation) → IsDeclarator x ds ≡ IsDeclarator y es → (x ≡ y) × (ds ≡ es)
declarator_same x y ds es h = (cc, cc)

specified_there : (s : Source) (w : World) (f : ℕ → Sense) (o : Option ℕ) (z : Specified) → specified s f o ≡ Some z → specified_at w s f o ≡ Some z.type
specified_there s w f None z e = cc
specified_there s w f (Some i) z e = by (f i) e
  where
    by : (y : Sense) → (elim y as (λ _. Option Specified) [ IsSpecified x ↦ Some x | _ ↦ None ]) ≡ Some z → (elim y as (λ _. Option Ctype) [ IsSpecified x ↦ Some x.type | _ ↦ None ]) ≡ Some z.type
    by (IsSpecified x) h = ap (λ (u : Specified). Some u.type) (some_one h)
    by y h = cc

given_then : (b : Bool) (kind : Kind) (at : ℕ) (g : Given Sense) (y : Sense) → given_if b kind at g ≡ Fits y → (b ≡ true) × (g ≡ Fits y)
given_then true kind at g y e = (refl, e)
given_then false kind at g y e = cc

pub record IsAsked (w : World) (s : Source) (f : ℕ → Sense) (at leaf : ℕ) (t : Ctype) : Type 0 where
  pub words : words_go w s f (is_some (initialiser_of s f at)) leaf ≡ true
  pub linkage : has_one_linkage w s f leaf ≡ true
  pub complete : is_name_complete w s f (is_some (initialiser_of s f at)) t leaf ≡ true

named_asks : (w : World) (s : Source) (f : ℕ → Sense) (at leaf : ℕ) (t : Ctype) (g : Given Sense) (y : Sense) → named_row w s f at leaf t g ≡ Fits y → IsAsked w s f at leaf t
named_asks w s f at leaf t g y e =
    let a = given_then (words_go w s f (is_some (initialiser_of s f at)) leaf) Operand leaf _ y e in
    let b = given_then (is_same_again w s f t leaf) Operand leaf _ y a.1 in
    let c = given_then (has_one_linkage w s f leaf) Operand leaf _ y b.1 in
    let d = given_then (internal_fits w s f (is_some (initialiser_of s f at) || is_defined s f leaf) t leaf) Operand leaf _ y c.1 in
    let h = given_then (is_name_complete w s f (is_some (initialiser_of s f at)) t leaf) Operand leaf _ y d.1 in
    record { words = a.0; linkage = c.0; complete = h.0 }

module _ (s : Source) (tree : Grown s) (senses : List Sense) (are : AreSenses s senses) where
  abbrev F : ℕ → ℕ → Sense
  F n = known_at s senses n

  abbrev W : ℕ → World
  W n = world_of s senses n

  -- a declaration is neither a parameter nor a member's field
  plain : (a q : ℕ) → nat_eq p_rest q ≡ false → nat_eq p_external q ≡ false → nat_eq p_declaration q ≡ false → (is_a s p_rest a ≡ true) ⊎ ((is_a s p_external a || is_a s p_declaration a) ≡ true) → is_a s q a ≡ false
  plain a q x y z (inl rest) = ap (λ (p : ℕ). nat_eq p q) (eqb-true (production_at s a) p_rest rest) ∙ x
  plain a q x y z (inr two) = by (is_a s p_external a) (is_a s p_declaration a) refl refl two
    where
      by : (b c : Bool) → is_a s p_external a ≡ b → is_a s p_declaration a ≡ c → (b || c) ≡ true → is_a s q a ≡ false
      by true c e f h = ap (λ (p : ℕ). nat_eq p q) (eqb-true (production_at s a) p_external e) ∙ y
      by false true e f h = ap (λ (p : ℕ). nat_eq p q) (eqb-true (production_at s a) p_declaration f) ∙ z
      by false false e f h = cc

  module _ (m leaf : ℕ) (one : IsDeclaredBy s senses m leaf) where
    -- the type that its specifiers and its declarator give it
    abbrev T : Ctype
    T = derived one.derives one.words.type

    pub declarator_asked : m < length senses → StandsDeclaring s m → is_outermost s m ≡ true → IsAsked (W m) s (F m) m leaf (derived one.derives one.words.type)
    declarator_asked lt stands outer =
        let w : World = W m in
        let f : ℕ → Sense = F m in
        let x : Sense = sense_in senses m in
        let row : declarator_row w s f m (children_at s m) ≡ Fits x = row_as s senses are p_declarator m lt stands.1 in
        let parts = declarator_same (name_in w s f (children_at s m)) (Some leaf) (derivations w s f (children_at s m)) one.derives (whole_of.declarator_gives w s f m (children_at s m) x row ∙ one.is) in
        let asked = whole_of.declarator_asks w s f m leaf (children_at s m) x outer parts.0 row in
        let base : base_type w s f m ≡ Some one.words.type = specified_there s w f (specs_of s m) one.words (sym (ap (λ (o : Option ℕ). specified s f (option_and_then (specs_of s) o)) one.outermost) ∙ one.told) in
        let type : derived (derivations w s f (children_at s m)) asked.0 ≡ T = ap (λ (ds : List Derivation). derived ds asked.0) parts.1 ∙ ap (derived one.derives) (some_one (sym asked.1 ∙ base)) in
        let t : Ctype = derived (derivations w s f (children_at s m)) asked.0 in
        let g : Given Sense = Fits (IsDeclarator (Some leaf) (derivations w s f (children_at s m))) in
        subst (λ (u : Ctype). IsAsked w s f m leaf u) type (named_asks w s f m leaf t g x (placed w f t (adjusted t) g x asked.2))
      where
        placed : (w : World) (f : ℕ → Sense) (t u : Ctype) (g : Given Sense) (x : Sense) → by_place w s f m leaf t u g ≡ Fits x → named_row w s f m leaf t g ≡ Fits x
        placed w f t u g x e =
            pick (is_a s p_field stands.0) (is_a s p_parameter stands.0) (plain stands.0 p_field refl refl refl stands.3) (plain stands.0 p_parameter refl refl refl stands.3)
            (subst (λ (o : Option ℕ). (elim o as (λ _. Given Sense) [ None ↦ g | Some p ↦ if is_a s p_field p then g else (if is_a s p_parameter p then parameter_named w s f m leaf u g else named_row w s f m leaf t g) ]) ≡ Fits x) (parent_is s tree stands.0 m stands.2) e)
          where
            pick : (a b : Bool) → a ≡ false → b ≡ false → (if a then g else (if b then parameter_named w s f m leaf u g else named_row w s f m leaf t g)) ≡ Fits x → named_row w s f m leaf t g ≡ Fits x
            pick true b e h k = cc
            pick false true e h k = cc
            pick false false e h k = k
