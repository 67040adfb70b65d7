use Rattle.std.proofs.Common.{◌≡◌, ◌∙◌, ◌&&◌, get_or, sym, ap, lt-ltb}
use Rattle.c_grammar.specs.declared.firsts.TheConstants.{FIRSTS}
use Rattle.c_grammar.specs.First.{firsts}
use Rattle.c_grammar.specs.Terminals.{contains}
use Rattle.c_grammar.specs.Fits.{has, begins}
use Rattle.c_grammar.proofs.Begins.{firsts_are}
use Rattle.c_grammar.proofs.looks.begins.Goals as goal

pub returns-then-production-lt258 : goal.returns-then-production-lt258
unfolding begins
returns-then-production-lt258 c =
    let h : c.has.result ≡ has (get_or FIRSTS c.args.production 0) c.args.terminal = c.has.ensures in
    let e = firsts_are c.args.production c.args.terminal c.if-production-lt258.true in
    h ∙ (e ∙ ap (λ b. b && contains (firsts c.args.production) c.args.terminal) (sym (lt-ltb c.args.production 258 c.if-production-lt258.true)))
