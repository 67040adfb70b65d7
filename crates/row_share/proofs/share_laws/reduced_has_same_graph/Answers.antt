use Rattle.row_share.specs.share_laws.Renumbering.{new_row}
use Rattle.row_share.proofs.share_laws.Forward.{IsRenumbered}
use Rattle.row_share.proofs.share_laws.Graphs.{same_targets, same_graph}
use Rattle.row_share.proofs.share_laws.reduced_has_same_graph.Goals as goal

pub returns : goal.returns
returns c S T of row G valid reduced number target =
    let is : IsRenumbered S T (new_row row) = record {
      valid = valid;
      locations = reduced.locations;
      types = reduced.types;
      calls = reduced.calls;
      functions = reduced.functions;
      fixed = reduced.numbers.locations;
    } in
    (same_targets S T (new_row row) is G number target, same_graph S T (new_row row) is G number target)
