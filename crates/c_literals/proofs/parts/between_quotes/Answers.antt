use Rattle.std.proofs.Common.{◌≡◌, ◌+◌, ◌-◌, take, drop, length, ap, ◌∙◌}
use Rattle.std.proofs.lemmas.List.{drop-drop}
use Rattle.c_senses.specs.Literals.{prefix_length}
use Rattle.c_literals.proofs.parts.between_quotes.Goals as goal

pub returns : goal.returns
returns c =
    let literal = c.args.literal.now in
    let n = prefix_length c.args.quote literal in
    let behind = c.behind_first-behind.result.now in
    let same : behind ≡ drop (n + 1) literal =
    c.behind_first-behind.ensures ∙ (ap (λ xs. drop 1 xs) c.behind_first-from_quote.ensures ∙ (ap (λ k. drop 1 (drop k literal)) c.prefix_length.ensures ∙ drop-drop 1 n literal))
    in
    ap (λ k. take k behind) c.saturating_sub.ensures ∙ ap (λ xs. take (length xs - 1) xs) same
