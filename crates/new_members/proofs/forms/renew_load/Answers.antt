use Rattle.std.proofs.Common.{ℕ, get_or, arith}
use Rattle.std.proofs.lemmas.Option.{slice_get-get_or}
use Rattle.sol_model.specs.declared.system.Constraint.TheVariants.{Load}
use Rattle.sol_model.specs.Rules.{DemandsEdge}
use Rattle.edge_book.specs.Edges.{only}
use Rattle.new_members.proofs.Taking.{takes_pairs}
use Rattle.new_members.proofs.Through.{takes_start, takes_next, takes_all}
use Rattle.new_members.proofs.forms.renew_load.Goals as goal

pub loop-location-init : goal.loop-location-init
loop-location-init c p t y s at = takes_start c.args.new.now (λ location. DemandsEdge c.args.system.now (only p location) (Load p t y s)) c.args.book.now

pub loop-location-preserved : goal.loop-location-preserved
loop-location-preserved c p t y s at =
    let new = c.args.new.now in
    let i : ℕ = c.loop-location.location-index in
    let location : ℕ = get_or new i 0 in
    takes_next new (λ l. DemandsEdge c.args.system.now (only p l) (Load p t y s)) c.args.book.now c.loop-location.book c.edges_of_load.new.self i location (c.loop-location.invariant p t y s at) (slice_get-get_or new i 0 c.loop-location-test.true)
    (takes_pairs c.args.system.now (only p location) (Load p t y s) c.loop-location.book c.edges_of_load.new.self c.in_ok-edges_of_load.field-0 (c.in_ok-edges_of_load.ensures.ok p t y s at))

pub returns : goal.returns
returns c p t y s at = let n = c.loop-location-test.false in
    takes_all c.args.new.now (λ location. DemandsEdge c.args.system.now (only p location) (Load p t y s)) c.args.book.now c.loop-location.book c.loop-location.location-index (omega arith) (c.loop-location.invariant p t y s at)
