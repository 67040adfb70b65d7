use Rattle.std.proofs.Common.{◌≡◌, ◌+◌, get_or, length, false, sym, subst}
use Rattle.c_lexer.specs.Bytes.{is_white, is_letter}
use Rattle.c_lexer.specs.Pieces.{IsPiece, sign}
use Rattle.c_lexer.proofs.Longest.{no_run, sign_is_piece, nothing_stands}
use Rattle.c_lexer.proofs.pieces.plain_piece_at.Goals as goal

pub returns-in-Some : goal.returns-in-Some
returns-in-Some c =
    let text = c.args.text.now in
    let from = c.args.from in
    let k = c.in-Some.sign in
    let w : is_white (get_or text from 0) ≡ false = cc in
    let l : is_letter (get_or text from 0) ≡ false = cc in
    let found = c.in-Some.ensures.found in
    let p = sign_is_piece text from k found.0 found.1 found.2 (no_run text from w l (c.begins_number.ensures.no c.if-begins_number.false) (c.begins_dropped.ensures.no c.if-begins_dropped.false)) c.requires.plain in
    subst (λ x. IsPiece text (record { kind = sign k; from = from; end = from + length x })) (sym c.word_of.ensures) p

pub returns-in-None : goal.returns-in-None
returns-in-None c =
    let text = c.args.text.now in
    let from = c.args.from in
    let w : is_white (get_or text from 0) ≡ false = cc in
    let l : is_letter (get_or text from 0) ≡ false = cc in
    (c.requires.within, nothing_stands text from c.in-None.ensures.none (no_run text from w l (c.begins_number.ensures.no c.if-begins_number.false) (c.begins_dropped.ensures.no c.if-begins_dropped.false)) c.requires.plain)
