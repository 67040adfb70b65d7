use Rattle.std.proofs.Common.{arith, ◌≡◌, ◌-◌, ℕ, suc, ap}
use Rattle.tree_reads.specs.Sources.{source_read}
use Rattle.c_senses.specs.Places as spec
use Rattle.c_statements.proofs.Own.{own_at, own_part}
use Rattle.c_statements.proofs.places.own_place.Goals as goal

pub loop-depth-init : goal.loop-depth-init
loop-depth-init c =
    let e : suc c.args.node - 0 ≡ suc c.args.node = omega arith in
    ap (λ (m : ℕ). spec.own_within (source_read c.args.syntax.now) m c.args.node) e

pub returns-in-At : goal.returns-in-At
returns-in-At c = own_at (source_read c.args.syntax.now) c.args.node c.loop-depth._depth c.loop-depth.here c.in-At.leaf c.args.node c.place_of-in-At.result c.loop-depth-test.true c.in-At.ensures c.place_of-in-At.ensures c.loop-depth.invariant

pub loop-depth-preserved : goal.loop-depth-preserved
loop-depth-preserved c = own_part (source_read c.args.syntax.now) c.args.node c.loop-depth._depth c.loop-depth.here c.in-OfPart.part c.args.node c.loop-depth-test.true c.in-OfPart.ensures c.loop-depth.invariant
