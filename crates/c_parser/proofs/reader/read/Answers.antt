use Rattle.std.proofs.Common.{◌≡◌, length, true, Ok, inl, inr, refl, sym, ap, ◌∙◌, subst, arith}
use Rattle.std.proofs.lemmas.Bool.{cases_lt}
use Rattle.c_grammar.specs.Reads.{State, Opens, first, second, taken}
use Rattle.c_parser.specs.declared.reader.Progress.{Progress}
use Rattle.c_parser.specs.Parse.{state}
use Rattle.c_parser.specs.Lone.{is_lone, lone_taken}
use Rattle.c_parser.proofs.Leads.{entered_advances, read_advances}
use Rattle.c_parser.proofs.Operands.{lone_parts, lone_opens, not_nothing}
use Rattle.c_parser.proofs.AtOnce.{word_opens, nothing_opens, word_real}
use Rattle.c_parser.proofs.Steps.{terminal_past}
use Rattle.c_parser.proofs.reader.read.Goals as goal

pub take_lone-requires-clause-from : goal.take_lone-requires-clause-from
take_lone-requires-clause-from c = let p = c.args.progress.now in (lone_parts c.args.used p.ahead.first p.ahead.second p.top.depth (sym c.is_lone.ensures ∙ c.if-is_lone.true)).0

pub take_lone-requires-clause-to : goal.take_lone-requires-clause-to
take_lone-requires-clause-to c = let p = c.args.progress.now in (lone_parts c.args.used p.ahead.first p.ahead.second p.top.depth (sym c.is_lone.ensures ∙ c.if-is_lone.true)).1

pub returns-in-Ok-clause-goes : goal.returns-in-Ok-clause-goes
returns-in-Ok-clause-goes c =
    let i = c.args.input in
    let p = c.args.progress.now in
    let new = c.take_lone.new.progress in
    let s = state p.ahead.place c.args.scopes.now c.args.nodes.now.items p.own in
    let a = c.requires.sees.0 in
    let b = c.requires.sees.1 in
    let e : is_lone c.args.used (first i.text.now i.tokens.now s) (second i.text.now i.tokens.now s) p.top.depth ≡ true = cc in
    let o = lone_opens i.text.now i.tokens.now c.args.used p.top.depth s e in
    let n : state new.ahead.place c.args.scopes.now c.take_lone.new.nodes.items new.own ≡ lone_taken c.args.used s =
    ap (λ place. state place c.args.scopes.now c.take_lone.new.nodes.items new.own) c.in-Ok.ensures.place ∙ c.in-Ok.ensures.takes in
    read_advances i.text.now i.tokens.now p new c.args.scopes.now c.args.nodes.now.items c.take_lone.new.nodes.items c.args.used c.args.on c.in-Ok.ensures.top c.in-Ok.ensures.users
    (subst (λ (t : State). Opens i.text.now i.tokens.now c.args.used p.top.depth s (Ok t)) (sym n) o)

pub returns-in-Ok-clause-within : goal.returns-in-Ok-clause-within
returns-in-Ok-clause-within c =
    let i = c.args.input in
    let p = c.args.progress.now in
    let parts = lone_parts c.args.used p.ahead.first p.ahead.second p.top.depth (sym c.is_lone.ensures ∙ c.if-is_lone.true) in
    let e = c.in-Ok.ensures.place in
    elim (cases_lt p.ahead.place (length i.tokens.now)) [
      | inl h ↦ omega (arith, e)
      | inr h ↦ absurd (not_nothing p.ahead.first parts.2 (c.requires.sees.0 ∙ terminal_past i.text.now i.tokens.now c.args.scopes.now p.ahead.place h))
    ]

pub returns-in-Ok-take_token-clause-goes : goal.returns-in-Ok-take_token-clause-goes
returns-in-Ok-take_token-clause-goes c =
    let i = c.args.input in
    let p = c.args.progress.now in
    let new = c.take_token.new.progress in
    let s = state p.ahead.place c.args.scopes.now c.args.nodes.now.items p.own in
    let w = c.is_word.ensures c.if-is_word.true in
    let o = word_opens i.text.now i.tokens.now c.args.used p.ahead.first p.ahead.second p.top.depth s (sym c.requires.sees.0) (sym c.requires.sees.1) w.0 w.1 in
    let n : state new.ahead.place c.args.scopes.now c.take_token.new.nodes.items new.own ≡ taken i.text.now i.tokens.now c.args.used s =
    ap (λ place. state place c.args.scopes.now c.take_token.new.nodes.items new.own) c.in-Ok-take_token.ensures.place ∙ c.in-Ok-take_token.ensures.takes in
    read_advances i.text.now i.tokens.now p new c.args.scopes.now c.args.nodes.now.items c.take_token.new.nodes.items c.args.used c.args.on c.in-Ok-take_token.ensures.top c.in-Ok-take_token.ensures.users
    (subst (λ (t : State). Opens i.text.now i.tokens.now c.args.used p.top.depth s (Ok t)) (sym n) o)

pub returns-in-Ok-take_token-clause-within : goal.returns-in-Ok-take_token-clause-within
returns-in-Ok-take_token-clause-within c =
    let i = c.args.input in
    let p = c.args.progress.now in
    let w = c.is_word.ensures c.if-is_word.true in
    let e = c.in-Ok-take_token.ensures.place in
    elim (cases_lt p.ahead.place (length i.tokens.now)) [
      | inl h ↦ omega (arith, e)
      | inr h ↦ absurd (word_real c.args.used p.ahead.first w.1 (c.requires.sees.0 ∙ terminal_past i.text.now i.tokens.now c.args.scopes.now p.ahead.place h))
    ]

pub returns-then-is_nothing-clause-goes : goal.returns-then-is_nothing-clause-goes
returns-then-is_nothing-clause-goes c =
    let i = c.args.input in
    let p = c.args.progress.now in
    let new : Progress = record p { top = record p.top { at = c.args.on } } in
    let s = state p.ahead.place c.args.scopes.now c.args.nodes.now.items p.own in
    let w = c.is_nothing.ensures c.if-is_nothing.true in
    let o = nothing_opens i.text.now i.tokens.now c.args.used p.ahead.first p.ahead.second p.top.depth s (sym c.requires.sees.0) (sym c.requires.sees.1) w.0 w.1 in
    read_advances i.text.now i.tokens.now p new c.args.scopes.now c.args.nodes.now.items c.args.nodes.now.items c.args.used c.args.on refl refl o

pub returns-clause-goes : goal.returns-clause-goes
returns-clause-goes c =
    let i = c.args.input in
    entered_advances i.text.now i.tokens.now c.args.progress.now c.enter.new.progress c.args.scopes.now c.args.nodes.now.items c.args.used c.args.on c.requires.sees c.enter.result c.enter.ensures
