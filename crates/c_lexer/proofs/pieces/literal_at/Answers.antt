use Rattle.std.proofs.Common.{◌+◌, sym, subst}
use Rattle.c_lexer.specs.Quotes.{Closed}
use Rattle.c_lexer.specs.Pieces.{literal, IsPiece}
use Rattle.c_lexer.proofs.Longest.{literal_is_piece}
use Rattle.c_lexer.proofs.pieces.literal_at.Goals as goal

pub returns-in-Some-inside_length : goal.returns-in-Some-inside_length
returns-in-Some-inside_length c =
    let text = c.args.text.now in
    let from = c.args.from in
    let o = c.in-Some.opening in
    let n = c.in-Some-inside_length.count in
    let p = literal_is_piece text from n o.prefix o.quote c.in-Some.ensures (subst (λ k. Closed text (from + k) n) c.prefix_length.ensures c.in-Some-inside_length.ensures) in
    subst (λ k. IsPiece text (record { kind = literal o.prefix o.quote; from = from; end = from + k + n + 2 })) (sym c.prefix_length.ensures) p
