use Rattle.std.proofs.Common.{arith, ◌∙◌, ℕ, ◌+◌, ap}
use Rattle.std.proofs.lemmas.List.Sorted.{IsPermutation-refl}
use Rattle.normal_form.proofs.whole.numbered.Goals as goal

pub sites-requires-clause-functions : goal.sites-requires-clause-functions
sites-requires-clause-functions c = rw c.requires.numbers.functions c.requires.numbers.few

pub returns : goal.returns
returns c = record {
  rows = ap (λ (n : ℕ). n + 1) (c.from.ensures ∙ c.requires.numbers.none);
  whole = λ few. record {
    owners = c.as_slice.result.now;
    around = rw c.as_slice.ensures.value c.in_ok-owners.ensures;
    assignments = rw c.in_ok-assignments.ensures (IsPermutation-refl _);
    calls = c.in_ok-calls.ensures;
  };
  no_assignments = λ far. absurd (omega (arith, far, c.requires.numbers.small));
  no_calls = λ far. absurd (omega (arith, far, c.requires.numbers.small));
}
