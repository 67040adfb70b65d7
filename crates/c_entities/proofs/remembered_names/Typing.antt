-- The own type of a declaration by what it is made of.
use Rattle.std.proofs.Common.{◌≡◌, ℕ, true, false, Option, Some, None, List, option_map, option_and_then, refl, sym, ap, ◌∙◌}
use Rattle.c_types.specs.Trees.{Ctype}
use Rattle.core_nodes.specs.passed.c_senses.Tree.{Source}
use Rattle.core_nodes.specs.passed.c_senses.Sense.{Sense, Derivation, Parameter}
use Rattle.core_nodes.specs.passed.c_senses.Declarators.{derived, outermost_of, specs_of}
use Rattle.core_nodes.specs.passed.c_senses.Entities.{own_type, is_parameter, initialiser_for, parameter_type, declaration_of, length_given_by, with_length, derived_type, specified, specified_of}
use Rattle.c_results.specs.Parts.{specified_in, declarator_in, parameter_in}
use Rattle.c_entities.proofs.Reading.{chosen, other, type_seen, type_missing, param_seen}

-- the type that a declarator gives
abbrev pub stepped : Ctype → Option (Option ℕ × List Derivation) → Option Ctype
stepped t o = option_map (λ (p : Option ℕ × List Derivation). derived p.1 t) o

found_type : (s : Source) (F : ℕ → Sense) (leaf specifiers declarator : ℕ) (t : Ctype) → outermost_of s leaf ≡ Some declarator → specs_of s declarator ≡ Some specifiers → specified_in (F specifiers) ≡ Some t
    → (o : Option (Option ℕ × List Derivation)) → declarator_in (F declarator) ≡ o → derived_type s F (specified_of s F leaf) (outermost_of s leaf) ≡ stepped t o
found_type s F leaf specifiers declarator t out specs base o e =
    let at : specified_of s F leaf ≡ specified s F (Some specifiers) = ap (λ (x : Option ℕ). specified s F (option_and_then (specs_of s) x)) out ∙ ap (specified s F) specs in
    by at o e
  where
    by : specified_of s F leaf ≡ specified s F (Some specifiers) → (o : Option (Option ℕ × List Derivation)) → declarator_in (F declarator) ≡ o → derived_type s F (specified_of s F leaf) (outermost_of s leaf) ≡ stepped t o
    by at None e = sym (type_missing s F (specified_of s F leaf) (outermost_of s leaf) specifiers declarator t at out base e)
    by at (Some p) e = sym (type_seen s F (specified_of s F leaf) (outermost_of s leaf) specifiers declarator t at out base p.0 p.1 e)

-- of a name that is no parameter, without a length from an initialiser
pub own_stepped : (s : Source) (F : ℕ → Sense) (leaf specifiers declarator : ℕ) (t : Ctype) → is_parameter s F leaf ≡ false → length_given_by s F (initialiser_for s F leaf) ≡ None → outermost_of s leaf ≡ Some declarator
    → specs_of s declarator ≡ Some specifiers → specified_in (F specifiers) ≡ Some t → own_type s F leaf ≡ stepped t (declarator_in (F declarator))
own_stepped s F leaf specifiers declarator t none plain out specs base =
    sym (other (is_parameter s F leaf) (parameter_type s F (declaration_of s F leaf)) _ none)
    ∙ (ap (λ (n : Option ℕ). option_map (with_length n) (derived_type s F (specified_of s F leaf) (outermost_of s leaf))) plain
    ∙ (ap (λ (o : Option Ctype). option_map (with_length None) o) (found_type s F leaf specifiers declarator t out specs base (declarator_in (F declarator)) refl)
    ∙ without (declarator_in (F declarator))))
  where
    without : (o : Option (Option ℕ × List Derivation)) → option_map (with_length None) (stepped t o) ≡ stepped t o
    without None = refl
    without (Some p) = refl

-- of a parameter
pub own_parameter : (s : Source) (F : ℕ → Sense) (leaf declaration : ℕ) (p : Parameter) → is_parameter s F leaf ≡ true → declaration_of s F leaf ≡ Some declaration → parameter_in (F declaration) ≡ Some p → own_type s F leaf ≡ Some p.type
own_parameter s F leaf declaration p is at e =
    sym (chosen (is_parameter s F leaf) (parameter_type s F (declaration_of s F leaf)) _ is) ∙ (ap (parameter_type s F) at ∙ sym (param_seen (F declaration) p e))
