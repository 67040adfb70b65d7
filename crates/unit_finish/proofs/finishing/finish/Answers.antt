use Rattle.std.proofs.Common.{◌≡◌, ◌∙◌, ◌++◌, List, ap, sym, subst}
use Rattle.std.specs.Prelude.{MatchResult}
use Rattle.core_nodes.specs.declared.fault.CheckFault.TheVariants.{OutOfMemory}
use Rattle.unit_finish.specs.declared.unit_parts.declared.Declared.{Declared}
use Rattle.unit_finish.specs.Complete.{Completes, AlwaysCompletes}
use Rattle.unit_finish.proofs.Results.{completes_so, right_result}
use Rattle.unit_finish.proofs.finishing.finish.Goals as goal

pub complete-requires : goal.complete-requires
complete-requires c =
    let h = c.args.heading in
    subst (λ (l : List Declared). AlwaysCompletes h.name h.unit c.args.types c.args.keys.items c.args.kept.nodes.items l) (sym c.in_ok-append.ensures.items) c.requires c.in_ok-planted.planted c.in_ok-planted.ensures.planted

pub returns-clause-completes : goal.returns-clause-completes
returns-clause-completes c =
    let h = c.args.heading in
    let nodes = c.args.kept.nodes.items in
    let done = completes_so h.name h.unit c.args.types c.args.keys.items nodes c.append.new.self.items c.in_ok-planted.planted c.in_ok-planted.ensures.planted c.complete.result c.complete.ensures in
    subst (λ (l : List Declared). MatchResult c.complete.result (λ u. Completes h.name h.unit c.args.types c.args.keys.items nodes l u) (λ fault. fault ≡ OutOfMemory)) c.in_ok-append.ensures.items done

pub returns-clause-right : goal.returns-clause-right
returns-clause-right c = λ s senses walked names ready te ue w k le.
    let h = c.args.heading in
    let list = c.append.new.self.items in
    let nodes = c.args.kept.nodes.items in
    let es = c.in_ok-append.ensures.items ∙ ap (λ (l : List Declared). c.args.kept.names.items ++ l) le in
    let done = completes_so h.name h.unit c.args.types c.args.keys.items nodes list c.in_ok-planted.planted c.in_ok-planted.ensures.planted c.complete.result c.complete.ensures in
    right_result s senses walked h.name h.unit c.args.types c.args.keys.items names c.args.kept list ready te ue w k es c.complete.result done
