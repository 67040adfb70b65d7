use Rattle.std.proofs.Common.{◌↔◌, ℕ, List, Contains, subst, sym}
use Rattle.sol_model.specs.Families.{Has, members}
use Rattle.call_graph.proofs.Gaining.{held_all}
use Rattle.call_graph.proofs.edges.add_all_held.Goals as goal

pub add_all_to-requires-clause-held : goal.add_all_to-requires-clause-held
add_all_to-requires-clause-held c location there = c.requires.fits.no_others c.args.row location ((c.in_ok-held.ensures.has location).0 (subst (λ (xs : List ℕ). Contains xs location) c.as_slice.ensures.value there))

pub returns : goal.returns
returns c =
    held_all c.args.system.now (members c.args.rows.now) c.args.row c.args.signature c.args.caller c.as_slice.result.now c.args.edges.now.items c.add_all_to.new.edges.items
    (subst (λ (xs : List ℕ). (location : ℕ) → Contains xs location ↔ Has (members c.args.rows.now) c.args.row location) (sym c.as_slice.ensures.value) c.in_ok-held.ensures.has) c.in_ok-add_all_to.ensures
