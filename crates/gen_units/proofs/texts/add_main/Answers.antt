use Rattle.std.proofs.Common.{◌≡◌, ◌++◌, ℕ, List, ap, ◌∙◌, append_assoc}
use Rattle.std.specs.Prelude.{codes}
use Rattle.gen_units.specs.Generated.{calls_of}
use Rattle.gen_units.proofs.texts.add_main.Goals as goal

-- three pieces, one behind the other
joined : (old a b c first second third : List ℕ)
    → first ≡ old ++ a → second ≡ first ++ b → third ≡ second ++ c
    → third ≡ old ++ (a ++ b ++ c)
joined old a b c first second third one two three =
    three ∙ ap (λ l. l ++ c) (two ∙ ap (λ l. l ++ b) one ∙ append_assoc old a b) ∙ append_assoc old (a ++ b) c

pub returns : goal.returns
returns c = joined _ (codes "int main(void){") (calls_of c.args.count) (codes "return 0;}\n") _ _ _
    c.in_ok-extend_from_slice.ensures.items c.in_ok-add_all_calls.ensures c.in_ok-extend_from_slice-2.ensures.items
