use Rattle.std.proofs.Common.{length}
use Rattle.unit_link.proofs.link_program.Counting.{both_on_ok}
use Rattle.unit_link.proofs.link_program.Readying.{added_ready}
use Rattle.unit_link.proofs.link_program.ready.add_ready.Goals as goal

pub returns-clause-added : goal.returns-clause-added
returns-clause-added c =
    both_on_ok c.add_one.result (λ grown added. added_ready c.add_signature.new.types c.add_one.new.types (length c.args.types.now.terms) c.in_ok-add_signature.ensures.added grown added)
    c.add_one.ensures.grown c.add_one.ensures.added
