use Rattle.std.proofs.Common.{[], ◌∷◌, sym, ◌∙◌, arith}
use Rattle.std.proofs.lemmas.Option.{same_Some}
use Rattle.std.proofs.lemmas.List.{append-nil}
use Rattle.sol_model.specs.declared.system.Constraint.TheVariants.{Store}
use Rattle.edge_book.specs.Edges.{only, TakesFirst}
use Rattle.edge_book.proofs.Alone.{store_some, store_none, none_taken, on_err}
use Rattle.edge_book.proofs.book.PairBook.edges_of_store.Goals as goal

pub returns-in_err-new-in-Some-clause-err : goal.returns-in_err-new-in-Some-clause-err
returns-in_err-new-in-Some-clause-err c p t y s at =
    let in_it = c.in-Store in
    let demanded = store_some c.args.system.now p t y s in_it.pointer in_it.from in_it.ty in_it.sub c.args.location c.in-Some.node (same_Some _ _ (sym in_it.ensures.value ∙ at)) (sym c.in-Some.ensures.value) in
    on_err c.from_residual.result (TakesFirst c.args.system.now (only p c.args.location) (Store p t y s) c.args.self.now c.add_one.new.self)
    (none_taken c.args.system.now (only p c.args.location) (Store p t y s) c.args.self.now c.add_one.new.self _ demanded c.in_err-new-in-Some.ensures.err)

pub returns-in_ok-new-in-Some-clause-ok : goal.returns-in_ok-new-in-Some-clause-ok
returns-in_ok-new-in-Some-clause-ok c p t y s at =
    let in_it = c.in-Store in
    record {
      pairs = (c.in-Store.from, c.in-Some.node) ∷ [];
      demanded = store_some c.args.system.now p t y s in_it.pointer in_it.from in_it.ty in_it.sub c.args.location c.in-Some.node (same_Some _ _ (sym in_it.ensures.value ∙ at)) (sym c.in-Some.ensures.value);
      book = c.in_ok-new-in-Some.ensures.ok.0;
      counted = c.in_ok-new-in-Some.ensures.ok.1;
    }

pub returns-in-None-clause-ok : goal.returns-in-None-clause-ok
returns-in-None-clause-ok c p t y s at =
    let in_it = c.in-Store in
    record {
      pairs = [];
      demanded = store_none c.args.system.now p t y s in_it.pointer in_it.from in_it.ty in_it.sub c.args.location (same_Some _ _ (sym in_it.ensures.value ∙ at)) (sym c.in-None.ensures.value);
      book = sym (append-nil c.args.self.now);
      counted = omega arith;
    }
