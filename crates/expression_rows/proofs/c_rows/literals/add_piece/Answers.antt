use Rattle.std.proofs.Common.{◌∙◌, ap, sym, refl, ◌++◌, List, ℕ}
use Rattle.c_senses.specs.Literals.{bytes_of_string}
use Rattle.expression_rows.specs.c_rows.Literals.{are_bytes}
use Rattle.expression_rows.proofs.c_rows.Bytes.{bytes_is}
use Rattle.expression_rows.proofs.c_rows.literals.add_piece.Goals as goal

pub returns-then-not-is_narrow : goal.returns-then-not-is_narrow
returns-then-not-is_narrow c =
    let named = ap (λ (b : List ℕ). are_bytes (bytes_of_string b)) (sym c.spelling_of-bytes.ensures) in
    (refl, refl, named ∙ (bytes_is c.is_narrow.result (bytes_of_string c.spelling_of-bytes.result.now) c.is_narrow.ensures ∙ c.if-not-is_narrow.true))

pub returns : goal.returns
returns c =
    let named = ap (λ (b : List ℕ). are_bytes (bytes_of_string b)) (sym c.spelling_of-bytes.ensures) in
    let added = ap (λ (b : List ℕ). c.args.text.now.items ++ bytes_of_string b) c.spelling_of-bytes.ensures in
    (c.in_ok-push_string.ensures.ok ∙ added, named ∙ (bytes_is c.is_narrow.result (bytes_of_string c.spelling_of-bytes.result.now) c.is_narrow.ensures ∙ c.if-not-is_narrow.false))
