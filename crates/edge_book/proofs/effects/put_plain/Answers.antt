use Rattle.std.proofs.Common.{ℕ, List, zip, Contains, subst₂}
use Rattle.edge_book.proofs.Gaining.{gains_both}
use Rattle.sol_model.specs.Rules.{AreJoined}
use Rattle.edge_book.specs.Edges.{Gains}
use Rattle.edge_book.proofs.effects.put_plain.Goals as goal

pub returns : goal.returns
returns c =
    let old = c.args.pairs.now.items in
    let mid = c.put_joined.new.pairs.items in
    let new = c.put_row_pairs.new.pairs.items in
    let call = c.args.call.now in
    let function = c.args.function.now in
    let joined : Gains old mid (AreJoined call.arguments function.parameters) = subst₂ (λ (xs ys : List (List ℕ)). Gains old mid (AreJoined xs ys)) c.as_slice.ensures c.as_slice-2.ensures c.in_ok-put_joined.ensures in
    let results : Gains mid new (λ a b. Contains (zip function.result call.result) (a, b)) = subst₂ (λ (xs ys : List ℕ). Gains mid new (λ a b. Contains (zip xs ys) (a, b))) c.as_slice-3.ensures c.as_slice-4.ensures c.in_ok-put_row_pairs.ensures in
    gains_both old mid new (AreJoined call.arguments function.parameters) (λ a b. Contains (zip function.result call.result) (a, b)) joined results
