use Rattle.std.proofs.Common.{sym, refl}
use Rattle.c_grammar.specs.Reads.{Opens, misfit}
use Rattle.c_parser.specs.Parse.{state}
use Rattle.c_parser.proofs.Steps.{faults_told}
use Rattle.c_parser.proofs.AtOnce.{as_advances}
use Rattle.c_parser.proofs.reader.advance.Goals as goal

pub returns-in-Some-clause-goes : goal.returns-in-Some-clause-goes
returns-in-Some-clause-goes c =
    let i = c.args.input in
    let p = c.args.progress.now in
    as_advances i.text.now i.tokens.now p c.read.new.progress c.args.scopes.now c.args.nodes.now.items c.read.new.nodes.items c.args.used c.in-Some.chosen c.args.on c.requires.sees c.in-Some.ensures c.read.result c.read.ensures.goes

pub returns-in-None-clause-goes : goal.returns-in-None-clause-goes
returns-in-None-clause-goes c = λ scopes nodes sees.
    let i = c.args.input in
    let p = c.args.progress.now in
    let s = state p.ahead.place scopes nodes p.own in
    let a = sees.0 in
    let m = rw a at c.misfit.ensures in
    faults_told (Opens i.text.now i.tokens.now c.args.used p.top.depth s) c.misfit.result (misfit i.text.now i.tokens.now s) m (c.in-None.ensures i.text.now i.tokens.now s (sym sees.0) (sym sees.1) refl)
