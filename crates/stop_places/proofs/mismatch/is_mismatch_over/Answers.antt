use Rattle.std.proofs.Common.{◌↔◌, IfOk, IsTrue, sym, subst}
use Rattle.c_types.specs.Table.{type_of}
use Rattle.core_tree.specs.declared.node.NodeKind.{NodeKind}
use Rattle.stop_places.specs.Stops.{MismatchOver}
use Rattle.stop_places.specs.Sight.{solution_in}
use Rattle.stop_places.proofs.mismatch.is_mismatch_over.Goals as goal

pub returns-in-Fetch : goal.returns-in-Fetch
returns-in-Fetch c =
    let t = type_of c.args.sight.now.program.now.types c.args.node.now.ty.0 in
    subst (λ (kind : NodeKind). IfOk c.reads_badly.result (λ found. IsTrue found ↔ MismatchOver (solution_in c.args.sight.now) c.args.n kind t c.args.operand)) (sym c.in-Fetch.is)
    (c.reads_badly.ensures t c.number.ensures)

pub returns-in-Upcast : goal.returns-in-Upcast
returns-in-Upcast c =
    let t = type_of c.args.sight.now.program.now.types c.args.node.now.ty.0 in
    subst (λ (kind : NodeKind). IfOk c.leads_badly.result (λ found. IsTrue found ↔ MismatchOver (solution_in c.args.sight.now) c.args.n kind t c.args.operand)) (sym c.in-Upcast.is)
    c.leads_badly.ensures

pub returns-in-Update : goal.returns-in-Update
returns-in-Update c =
    let t = type_of c.args.sight.now.program.now.types c.args.node.now.ty.0 in
    subst (λ (kind : NodeKind). IfOk c.reads_badly-in-Update.result (λ found. IsTrue found ↔ MismatchOver (solution_in c.args.sight.now) c.args.n kind t c.args.operand)) (sym c.in-Update.is)
    (c.reads_badly-in-Update.ensures t c.number-in-Update.ensures)
