use Rattle.std.proofs.Common.{ap, ◌∙◌, List}
use Rattle.core_tree.specs.declared.node.Node.{Node}
use Rattle.core_tree.specs.Typed.{trees_in}
use Rattle.call_sites.specs.Calls.{ids_of}
use Rattle.call_sites.proofs.SiteLemmas.{ids_known}
use Rattle.call_sites.proofs.sites.signature.Goals as goal

pub calling_signature-requires-clause-arguments : goal.calling_signature-requires-clause-arguments
calling_signature-requires-clause-arguments c =
    rw (c.as_slice-2.ensures.value ∙ (c.in_ok-ids.ensures ∙ ap (λ (nodes : List Node). ids_of nodes c.args.arguments.now) c.as_slice.ensures.value))
    (ids_known (trees_in c.args.frame.now.program.now) c.requires.frame.range c.args.arguments.now)
