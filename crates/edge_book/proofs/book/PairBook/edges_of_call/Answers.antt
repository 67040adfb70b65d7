use Rattle.std.proofs.Common.{ℕ, List, take, ◌∙◌, ap, inr}
use Rattle.sol_model.specs.declared.system.Constraint.TheVariants.{Call}
use Rattle.edge_book.specs.Edges.{only, with_pairs, ArePairsOf, StaysOrTakesFirst}
use Rattle.edge_book.proofs.Alone.{ordered_pairs, on_err}
use Rattle.edge_book.proofs.book.PairBook.edges_of_call.Goals as goal

pub returns-in_err-new-clause-err : goal.returns-in_err-new-clause-err
returns-in_err-new-clause-err c site at =
    let F = only site.callee c.args.location in
    let listed = c.in_order.new.pairs.items in
    let demanded : ArePairsOf c.args.system.now F (Call c.args.call) listed = ordered_pairs c.args.system.now F (Call c.args.call) c.put_call.new.pairs.items listed c.no_pairs-pairs.result.items c.no_pairs-pairs.ensures (c.in_ok-put_call.ensures site at) c.in_order.ensures.same c.in_order.ensures.order in
    let taken = c.in_err-new.ensures.err in
    on_err c.from_residual-in_err-new.result (StaysOrTakesFirst c.args.system.now F (Call c.args.call) c.args.self.now c.add_all.new.self)
    (inr record { pairs = listed; demanded = demanded; count = taken.0; book = taken.1 ∙ ap (λ (xs : List (ℕ × ℕ)). with_pairs c.args.self.now (take taken.0 xs)) c.as_slice.ensures.value })

pub returns-clause-ok : goal.returns-clause-ok
returns-clause-ok c site at =
    let F = only site.callee c.args.location in
    let listed = c.in_order.new.pairs.items in
    record {
      pairs = listed;
      demanded = ordered_pairs c.args.system.now F (Call c.args.call) c.put_call.new.pairs.items listed c.no_pairs-pairs.result.items c.no_pairs-pairs.ensures (c.in_ok-put_call.ensures site at) c.in_order.ensures.same c.in_order.ensures.order;
      book = c.in_ok-new.ensures.ok.0 ∙ ap (λ (xs : List (ℕ × ℕ)). with_pairs c.args.self.now xs) c.as_slice.ensures.value;
      counted = c.in_ok-new.ensures.ok.1;
    }
