use Rattle.std.proofs.Common.{◌≡◌, Some, get_or, sym, ap, ◌∙◌}
use Rattle.std.proofs.lemmas.Option.{slice_get-get_or}
use Rattle.std.specs.List.{slice_get}
use Rattle.std.specs.Cmp.Lexicographic.{bytes_decides}
use Rattle.c_grammar.specs.Terminals.{spelled}
use Rattle.c_mentions.proofs.symbols.recalled.Goals as goal

pub returns-then-eq : goal.returns-then-eq
returns-then-eq c = λ firsts h.
    let entry = get_or c.args.recent.now c.args.place (0, 0) in
    let found : slice_get c.args.tokens.now entry.0 ≡ Some c.in-Some.here.now = slice_get-get_or c.args.tokens.now entry.0 c.in-Some.here.now c.in-Some.ensures.lookup.3.0 ∙ ap Some (sym c.in-Some.ensures.lookup.1) in
    let same : c.spelled.result.now ≡ c.args.name.now = (bytes_decides c.spelled.result.now c.args.name.now).0 (sym c.eq.ensures ∙ c.if-eq.true) in
    let name : spelled c.args.text.now c.in-Some.here.now ≡ c.args.name.now = sym c.spelled.ensures ∙ same in
    ap firsts (sym name) ∙ h c.args.place (0, 0) c.requires c.in-Some.here.now found
