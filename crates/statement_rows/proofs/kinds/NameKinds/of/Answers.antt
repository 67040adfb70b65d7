use Rattle.std.proofs.Common.{arith, ◌<◌, ◌-◌, false, length, get_or, refl}
use Rattle.std.proofs.Math.ListN.{length-set}
use Rattle.c_scope.specs.declared.kinds.Declared.{Declared}
use Rattle.c_scope.specs.declared.kinds.Kind.TheVariants.{Linked}
use Rattle.statement_rows.proofs.Flagging.{flagged_more}
use Rattle.statement_rows.proofs.kinds.NameKinds.of.Goals as goal

pub loop-index-preserved : goal.loop-index-preserved
loop-index-preserved c =
    let none : Declared = record { node = 0; symbol = 0; scope = 0; kind = Linked; is_function = false } in
    let ds = c.args.declared.now in
    let i = c.loop-index.index in
    let more : i < length ds = omega arith in
    let here : length ds - 1 - i < length ds = omega arith in
    let d = get_or ds (length ds - 1 - i) none in
    let within : d.node < c.args.count = c.requires (length ds - 1 - i) none here in
    let lt : d.node < length c.loop-index.typedefs.items = omega (arith, c.loop-index.invariant.types, within) in
    let lf : d.node < length c.loop-index.functions.items = omega (arith, c.loop-index.invariant.names, within) in
    record {
      types = simp length-set c.loop-index.invariant.types;
      names = simp length-set c.loop-index.invariant.names;
      flags = flagged_more ds i none d c.loop-index.typedefs.items c.loop-index.functions.items c.names_type.result c.names_function.result more refl lt lf c.names_type.ensures c.names_function.ensures c.loop-index.invariant.flags;
    }
