use Rattle.std.proofs.Common.{◌≡◌, ℕ, List, ap, sym, subst}
use Rattle.c_types.specs.declared.term.TypeId.{TypeId}
use Rattle.c_results.specs.declared.derivation.Derivation.{Derivation}
use Rattle.c_meanings.specs.Thinned.{IsMade}
use Rattle.c_meanings.proofs.alike.made_alike.Goals as goal

number : ℕ → TypeId
number n = record { 0 = n }

id_is : (a b : TypeId) → a.0 ≡ b.0 → a ≡ b
unfolding number
id_is a b e = ap number e

pub returns-then-base-second : goal.returns-then-base-second
returns-then-base-second c = λ e.
    let results = c.args.results.now in
    let ty = c.in-Some.base in
    let steps = c.in-Some-declarator_at.steps.now in
    let same : steps ≡ c.in-Some-declarator_at-2.others.now = c.same_steps.ensures e in
    let one : c.in-Some-specified_at.second ≡ ty = sym (id_is ty c.in-Some-specified_at.second c.if-base-second.true) in
    let there : IsMade results c.args.other c.in-Some-specified_at.second c.in-Some-declarator_at-2.others.now =
    record { name = c.in-Some-declarator_at-2.field-0-0; specified = c.in-Some-specified_at.ensures.seen; declared = c.in-Some-declarator_at-2.ensures.seen } in
    record {
      ty = ty;
      steps = steps;
      first = record { name = c.in-Some-declarator_at.field-0-0; specified = c.in-Some.ensures.seen; declared = c.in-Some-declarator_at.ensures.seen };
      second = subst (λ (l : List Derivation). IsMade results c.args.other ty l) (sym same) (subst (λ (t : TypeId). IsMade results c.args.other t c.in-Some-declarator_at-2.others.now) one there);
    }
