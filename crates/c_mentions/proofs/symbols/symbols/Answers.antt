use Rattle.std.proofs.Common.{◌≡◌, ◌+◌, ◌<◌, ◌^◌, ◌∷◌, [], length, get_or, sym, ap, ◌∙◌, subst, arith, rules, length-append}
use Rattle.c_mentions.proofs.Numbering.{known_more, symbol_here, each_more}
use Rattle.c_mentions.proofs.Recalling.{none_yet}
use Rattle.c_mentions.specs.Symbols.{known, symbol_of}
use Rattle.c_mentions.specs.Recent.{Recent}
use Rattle.c_mentions.proofs.symbols.symbols.Goals as goal

pub loop-token-init : goal.loop-token-init
loop-token-init c =
    let text = c.args.text.now in
    let tokens = c.args.tokens.now in
    let few : length tokens < 2 ^ 32 = c.requires in
    let first = known c.new-firsts.result in (
      search rules,
      subst (λ l. Recent text tokens first l) (sym c.in_ok-recent.ensures) (none_yet text tokens first few),
      search rules,
      λ k l. absurd (omega arith),
    )

pub loop-token-preserved : goal.loop-token-preserved
loop-token-preserved c =
    let text = c.args.text.now in
    let tokens = c.args.tokens.now in
    let i = c.loop-token.token in
    let b = c.loop-token.invariant in
    let items = c.in_ok-push.ensures.items in
    let symbol = c.in_ok-number.number in (
      known_more text tokens (known c.loop-token.firsts) (known c.number_token.new.firsts) i _ c.loop-token-test.true b.0 c.in_ok-number.ensures.known,
      c.in_ok-number.ensures.recent,
      ap length items ∙ (length-append c.loop-token.symbols.items (symbol ∷ []) ∙ ap (λ n. n + 1) b.2),
      λ k l. subst (λ xs. get_or xs k 0 ≡ symbol_of text tokens k) (sym items)
          (each_more c.loop-token.symbols.items symbol i (symbol_of text tokens) b.2 b.3 (c.in_ok-number.ensures.symbol ∙ symbol_here text tokens (known c.loop-token.firsts) i _ c.loop-token-test.true b.0) k l),
    )

pub returns : goal.returns
returns c =
    let e : c.loop-token.token ≡ length c.args.tokens.now = omega arith in
    record { all = c.loop-token.invariant.2 ∙ e; each = λ token h. c.loop-token.invariant.3 token (omega arith) }
