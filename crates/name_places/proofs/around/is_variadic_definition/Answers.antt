use Rattle.std.proofs.Common.{◌≡◌, ℕ, Bool, false, List, Option, Some, None, refl, ap, ◌∙◌}
use Rattle.c_senses.specs.Sense.{Sense, IsDeclarator, Derivation, sense_in}
use Rattle.c_senses.specs.Entities.{ends_further}
use Rattle.c_results.specs.Parts.{declarator_in}
use Rattle.c_results.specs.Standing.{senses_made}
use Rattle.name_places.proofs.around.is_variadic_definition.Goals as goal

steps_of : (x : Sense) (name : Option ℕ) (ds : List Derivation) → declarator_in x ≡ Some (name, ds) → ends_further ds ≡ elim x as (λ q. Bool) [ IsDeclarator n e ↦ ends_further e | _ ↦ false ]
steps_of (IsDeclarator n e) name ds h =
    let pair : ◌≡◌ {A = Option ℕ × List Derivation} (name, ds) (n, e) = cc in ap (λ (p : Option ℕ × List Derivation). ends_further p.1) pair
steps_of x name ds h = cc

none_of : (x : Sense) → declarator_in x ≡ None → false ≡ elim x as (λ q. Bool) [ IsDeclarator n e ↦ ends_further e | _ ↦ false ]
none_of (IsDeclarator n e) h = cc
none_of x h = refl

pub returns-in-Some-declarator_of : goal.returns-in-Some-declarator_of
returns-in-Some-declarator_of c = λ u.
    let sense = sense_in (senses_made u c.args.results.now) in
    c.ends_further.ensures u
    ∙ (steps_of (sense c.in-Some.node) _ _ (c.in-Some-declarator_of.ensures.seen u)
    ∙ ap (λ (o : Option ℕ). elim o as (λ q. Bool) [ None ↦ false | Some d ↦ elim (sense d) as (λ q. Bool) [ IsDeclarator n e ↦ ends_further e | _ ↦ false ] ]) c.in-Some.ensures)

pub returns-in-None : goal.returns-in-None
returns-in-None c = λ u.
    let sense = sense_in (senses_made u c.args.results.now) in
    none_of (sense c.in-Some.node) (c.in-None.ensures.seen u)
    ∙ ap (λ (o : Option ℕ). elim o as (λ q. Bool) [ None ↦ false | Some d ↦ elim (sense d) as (λ q. Bool) [ IsDeclarator n e ↦ ends_further e | _ ↦ false ] ]) c.in-Some.ensures
