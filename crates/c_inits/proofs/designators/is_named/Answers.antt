use Rattle.std.proofs.Common.{◌∙◌, sym, ap, List, ℕ, Option}
use Rattle.std.specs.Str.{bytes_eq}
use Rattle.c_inits.specs.Initial.{has_name}
use Rattle.c_inits.proofs.Named.{same_bytes}
use Rattle.c_inits.proofs.designators.is_named.Goals as goal

pub returns-in-Some : goal.returns-in-Some
returns-in-Some c =
    c.eq.ensures ∙ ap (λ (x : List ℕ). bytes_eq x c.args.name.now) (c.as_bytes.ensures.value ∙ c.as_str.ensures) ∙ same_bytes c.in-Some.own c.args.name.now
    ∙ sym (ap (λ (o : Option (List ℕ)). has_name o c.args.name.now) c.in-Some.is)
