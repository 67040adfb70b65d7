use Rattle.std.proofs.Common.{arith, ◌≡◌, length}
use Rattle.call_sites.proofs.sites.sites.Goals as goal

pub returns : goal.returns
returns c =
    let end : c.loop-n.n ≡ length c.args.frame.now.program.now.nodes.items = omega (arith, c.len-n-end.ensures, c.args.frame.now.program.now.nodes.ok.0) in
    rw (← end) c.loop-n.invariant
