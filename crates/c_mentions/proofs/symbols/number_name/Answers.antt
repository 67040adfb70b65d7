use Rattle.std.proofs.Common.{sym}
use Rattle.std.proofs.Math.ListN.{length-set}
use Rattle.std.proofs.lemmas.List.Elements.{All-set}
use Rattle.c_mentions.specs.Symbols.{known}
use Rattle.c_mentions.specs.Recent.{Recalled}
use Rattle.c_mentions.proofs.Recalling.{recalls_still, recalled_now}
use Rattle.c_mentions.proofs.symbols.number_name.Goals as goal

pub returns-in_ok-symbol-in-None-clause-recent : goal.returns-in_ok-symbol-in-None-clause-recent
returns-in_ok-symbol-in-None-clause-recent c =
    let text = c.args.text.now in
    let tokens = c.args.tokens.now in
    let old = known c.args.firsts.now in
    let new = known c.number.new.firsts in
    let name = c.spelled-name.result.now in
    let token = c.args.token in
    let symbol = c.in_ok-symbol-in-None.symbol in
    let more = c.in_ok-symbol-in-None.ensures.known in
    record {
      count = simp length-set c.requires.recent.count;
      recalls = All-set (Recalled text tokens new) c.args.recent.now.items c.place_of_name-place.result (token, symbol)
          (recalled_now old name token new text tokens more c.args.here symbol c.requires.here (sym c.spelled-name.ensures) c.in_ok-symbol-in-None.ensures.symbol)
          (recalls_still old name token new text tokens more c.args.recent.now.items c.requires.recent.recalls);
    }
