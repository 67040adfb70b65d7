use Rattle.std.proofs.Common.{◌≡◌, ℕ, ◌+◌, take, rules}
use Rattle.std.proofs.lemmas.Option.{slice_get_within, get_or_from_slice_get}
use Rattle.edge_book.specs.Edges.{with_pairs}
use Rattle.edge_book.proofs.Taking.{took_next}
use Rattle.edge_book.proofs.Alone.{on_err}
use Rattle.edge_book.proofs.book.PairBook.add_all.Goals as goal

pub returns-in_err-new-clause-err : goal.returns-in_err-new-clause-err
returns-in_err-new-clause-err c =
    let pairs = c.args.pairs.now in
    let p = c.pair_at-from.result in
    let here : c.add_one.new.self ≡ with_pairs c.args.self.now (take (c.loop-i.i + 1) pairs) = took_next c.args.self.now c.loop-i.self c.add_one.new.self pairs c.loop-i.i p c.requires (slice_get_within pairs c.loop-i.i p c.pair_at-from.ensures) (get_or_from_slice_get pairs c.loop-i.i p p c.pair_at-from.ensures) c.loop-i.invariant.book c.in_ok-more.ensures.ok.0 in
    on_err _ ((count : ℕ) × (c.add_one.new.self ≡ with_pairs c.args.self.now (take count pairs))) (c.loop-i.i + 1, here)

pub loop-i-preserved : goal.loop-i-preserved
loop-i-preserved c =
    let pairs = c.args.pairs.now in
    let p = c.pair_at-from.result in
    record {
      book = took_next c.args.self.now c.loop-i.self c.add_one.new.self pairs c.loop-i.i p c.requires (slice_get_within pairs c.loop-i.i p c.pair_at-from.ensures) (get_or_from_slice_get pairs c.loop-i.i p p c.pair_at-from.ensures) c.loop-i.invariant.book c.in_ok-more.ensures.ok.0;
      counted = search rules;
    }
