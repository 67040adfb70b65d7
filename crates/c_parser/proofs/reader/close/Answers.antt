use Rattle.std.proofs.Common.{◌≡◌, length, sym, ap, ◌∙◌, arith}
use Rattle.c_parser.specs.declared.reader.Progress.{Progress}
use Rattle.c_parser.specs.Parse.{state}
use Rattle.c_parser.specs.Leads.{kept, ended_by}
use Rattle.c_parser.proofs.Leads.{close_more, close_last, no_more}
use Rattle.c_parser.proofs.reader.close.Goals as goal

pub returns-in-Some-clause-turns : goal.returns-in-Some-clause-turns
returns-in-Some-clause-turns c = λ text tokens scopes sees none.
    let old = c.args.progress.now in
    let fin = c.in_ok-finish.ensures old.ahead.place scopes ∙ ap (λ o. ended_by old.top.production old.top.token (kept o) (state old.ahead.place scopes c.args.nodes.now.items old.own)) c.take-outer.ensures.value in
    let new : Progress = record { ahead = old.ahead; own = c.finish.new.own; top = c.in-Some.user; users = c.pop.new.self } in
    close_more text tokens old new scopes c.args.nodes.now.items c.finish.new.nodes.items (sym c.is_run.ensures ∙ c.if-is_run.false) none c.in-Some.ensures.items fin

pub returns-in-None-clause-turns : goal.returns-in-None-clause-turns
returns-in-None-clause-turns c = λ text tokens scopes sees none.
    let old = c.args.progress.now in
    let fin = c.in_ok-finish.ensures old.ahead.place scopes ∙ ap (λ o. ended_by old.top.production old.top.token (kept o) (state old.ahead.place scopes c.args.nodes.now.items old.own)) c.take-outer.ensures.value in
    let gone : length old.users.items ≡ 0 = omega (arith, c.in-None.ensures.cases.0, old.users.ok) in
    close_last text tokens old scopes c.args.nodes.now.items c.finish.new.nodes.items old.ahead.place c.finish.new.own (sym c.is_run.ensures ∙ c.if-is_run.false) none (no_more old.users.items gone) fin
