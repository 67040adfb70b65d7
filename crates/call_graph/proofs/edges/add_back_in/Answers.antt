use Rattle.std.proofs.Common.{sym}
use Rattle.sol_model.specs.Families.{members}
use Rattle.call_graph.proofs.Gaining.{back_held}
use Rattle.call_graph.proofs.edges.add_back_in.Goals as goal

pub returns : goal.returns
returns c =
    back_held c.args.system.now (members c.args.rows.now) c.args.call.now c.args.effect c.in-CallsBack.k c.in-CallsBack.passed c.args.library c.in-Some.row c.back_signature.result c.args.edges.now.items c.add_all_held.new.edges.items
    c.in-CallsBack.is (sym c.in-Some.ensures.value) c.back_signature.ensures c.in_ok-add_all_held.ensures
