use Rattle.std.proofs.Common.{◌↔◌, ℕ, List, Contains, subst, sym, inl, inr}
use Rattle.sol_model.specs.Families.{Has, members}
use Rattle.call_graph.specs.Graph.{IsFrom, IsBackEdge, IsCallEdge}
use Rattle.call_graph.proofs.Gaining.{gains_then, held_all}
use Rattle.call_graph.proofs.edges.add_call.Goals as goal

pub add_all_to-requires-clause-held : goal.add_all_to-requires-clause-held
add_all_to-requires-clause-held c location there = c.requires.fits.no_others c.args.call.now.callee location ((c.in_ok-held.ensures.has location).0 (subst (λ (xs : List ℕ). Contains xs location) c.as_slice.ensures.value there))

pub add_backs-requires-clause-held : goal.add_backs-requires-clause-held
add_backs-requires-clause-held c =
    subst (λ (xs : List ℕ). (location : ℕ) → Contains xs location ↔ Has (members c.args.rows.now) c.args.call.now.callee location) (sym c.as_slice-2.ensures.value) c.in_ok-held.ensures.has

pub returns : goal.returns
returns c =
    let S = c.args.system.now in
    let F = members c.args.rows.now in
    let call = c.args.call.now in
    gains_then c.args.edges.now.items c.add_all_to.new.edges.items c.add_backs.new.edges.items
    (IsFrom S F call.callee call.signature call.caller)
    (λ a b. (target : ℕ) × IsBackEdge S F call target a b)
    (IsCallEdge S F call)
    (held_all S F call.callee call.signature call.caller c.as_slice.result.now c.args.edges.now.items c.add_all_to.new.edges.items
    (subst (λ (xs : List ℕ). (location : ℕ) → Contains xs location ↔ Has F call.callee location) (sym c.as_slice.ensures.value) c.in_ok-held.ensures.has) c.in_ok-add_all_to.ensures)
    c.in_ok-add_backs.ensures (λ a b h. inl h) (λ a b h. inr h) (λ a b h. h)
