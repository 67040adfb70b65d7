use Rattle.std.proofs.Common.{◌∙◌, ◌∷◌, [], ◌++◌, List, ap}
use Rattle.std.specs.Prelude.{◌==◌, if◌then◌else◌}
use Rattle.c_types.specs.declared.key.ObjectKey.{ObjectKey}
use Rattle.constraints.proofs.owned.Owned.push.Goals as goal

pub returns : goal.returns
returns c = λ other.
    let more = if c.args.f == other then c.args.key ∷ [] else [] in
    c.push_reserved.ensures other ∙ ap (λ (keys : List ObjectKey). keys ++ more) (c.reserve.ensures.same other)
