use Rattle.std.proofs.Common.{ℕ, ◌||◌, ◌∙◌, ap, List}
use Rattle.c_structures.specs.Named.{is_among, same_name}
use Rattle.c_structures.proofs.Naming.{updated}
use Rattle.c_structures.proofs.names.add_name.Goals as goal

pub returns : goal.returns
returns c = λ other.
    updated c.args.names.now c.insert.new.self c.in_ok-copy.copy c.in_ok-insert.ensures.updates other
    ∙ ap (λ (own : List ℕ). same_name own other || is_among c.args.names.now other) c.in_ok-copy.ensures.items
