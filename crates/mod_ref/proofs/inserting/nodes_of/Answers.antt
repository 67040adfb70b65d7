use Rattle.std.proofs.Common.{sym, ap, Option}
use Rattle.std.specs.Option.{option_map_or}
use Rattle.std.proofs.lemmas.Option.{slice_get_past}
use Rattle.sol_model.specs.declared.system.TypeFact.{TypeFact}
use Rattle.mod_ref.proofs.Reaching.{nodes_there}
use Rattle.mod_ref.proofs.inserting.nodes_of.Goals as goal

pub returns-then-ty-types : goal.returns-then-ty-types
returns-then-ty-types c =
    sym (ap (λ (o : Option TypeFact). option_map_or (λ (f : TypeFact). f.nodes) o 0) (slice_get_past c.args.system.now.types c.args.ty (rw c.as_slice-types.ensures at c.if-ty-types.true)))

pub returns : goal.returns
returns c =
    rw c.as_slice-types.ensures (nodes_there c.args.system.now.types c.args.ty c.index-types-ty.result (rw c.as_slice-types.ensures at c.if-ty-types.false))
