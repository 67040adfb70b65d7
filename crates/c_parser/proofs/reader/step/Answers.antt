use Rattle.std.proofs.Common.{◌≡◌, ℕ, ◌+◌, length, true, false, Option, Some, None, refl, subst, ◌∙◌, arith, inl, inr}
use Rattle.std.proofs.lemmas.Bool.{cases_lt}
use Rattle.c_grammar.specs.Reads.{Walks, token, no_token, no_alternative, enough, scope, first, fits_at, chosen_at, misfit}
use Rattle.c_grammar.specs.Terminals.{takes}
use Rattle.c_parser.specs.declared.reader.Own.{Own}
use Rattle.c_parser.specs.declared.reader.Progress.{Progress}
use Rattle.c_parser.specs.Parse.{state}
use Rattle.c_parser.proofs.Leads.{faults_lead, through_use, through_choice, through_again, advanced_turns, leads_on}
use Rattle.c_parser.proofs.Steps.{terminal_past, faults_told, scoped_state}
use Rattle.c_parser.proofs.reader.step.Goals as goal

pub returns-then-not-takes-clause-steps : goal.returns-then-not-takes-clause-steps
returns-then-not-takes-clause-steps c =
    let i = c.args.input in
    let p = c.args.progress.now in
    let s = state p.ahead.place c.args.scopes.now c.args.nodes.now.items p.own in
    let a = c.requires.sees.0 in
    let b = c.requires.sees.1 in
    let e : takes p.top.production c.in-Token.kind (first i.text.now i.tokens.now s) ≡ false = cc in
    let m = rw a at c.misfit.ensures in
    faults_lead i.text.now i.tokens.now p c.args.scopes.now c.args.nodes.now.items c.misfit.result
    (faults_told (Walks i.text.now i.tokens.now p.top.production p.top.at p.top.depth s) c.misfit.result (misfit i.text.now i.tokens.now s) m (no_token {k = c.in-Token.kind} (cc) e))

pub returns-in-None-clause-steps : goal.returns-in-None-clause-steps
returns-in-None-clause-steps c =
    let i = c.args.input in
    let p = c.args.progress.now in
    let s = state p.ahead.place c.args.scopes.now c.args.nodes.now.items p.own in
    let a = c.requires.sees.0 in
    let b = c.requires.sees.1 in
    let e : ◌≡◌ {A = Option ℕ} (chosen_at i.text.now i.tokens.now c.in-Choice.one c.in-Choice.other s) None = cc in
    let m = rw a at c.misfit-in-None.ensures in
    faults_lead i.text.now i.tokens.now p c.args.scopes.now c.args.nodes.now.items c.misfit-in-None.result
    (faults_told (Walks i.text.now i.tokens.now p.top.production p.top.at p.top.depth s) c.misfit-in-None.result (misfit i.text.now i.tokens.now s) m (no_alternative {a = c.in-Choice.one} {b = c.in-Choice.other} (cc) e))

pub returns-then-fits-clause-steps : goal.returns-then-fits-clause-steps
returns-then-fits-clause-steps c =
    let i = c.args.input in
    let p = c.args.progress.now in
    let s = state p.ahead.place c.args.scopes.now c.args.nodes.now.items p.own in
    let a = c.requires.sees.0 in
    let b = c.requires.sees.1 in
    let e : fits_at i.text.now i.tokens.now c.in-Repeat.repeated s ≡ true = cc in
    advanced_turns i.text.now i.tokens.now p c.advance-then-fits.new.progress c.args.scopes.now c.args.nodes.now.items c.advance-then-fits.new.nodes.items c.in-Repeat.repeated p.top.at
    (through_again i.text.now i.tokens.now p s c.in-Repeat.repeated (cc) e) c.requires.sees c.advance-then-fits.result c.advance-then-fits.ensures.goes

pub returns-in-Use-clause-steps : goal.returns-in-Use-clause-steps
returns-in-Use-clause-steps c =
    let i = c.args.input in
    let p = c.args.progress.now in
    let s = state p.ahead.place c.args.scopes.now c.args.nodes.now.items p.own in
    advanced_turns i.text.now i.tokens.now p c.advance.new.progress c.args.scopes.now c.args.nodes.now.items c.advance.new.nodes.items c.in-Use.used (p.top.at + 1) (through_use i.text.now i.tokens.now p s c.in-Use.used (cc)) c.requires.sees c.advance.result c.advance.ensures.goes

pub returns-in-Some-clause-steps : goal.returns-in-Some-clause-steps
returns-in-Some-clause-steps c =
    let i = c.args.input in
    let p = c.args.progress.now in
    let s = state p.ahead.place c.args.scopes.now c.args.nodes.now.items p.own in
    let a = c.requires.sees.0 in
    let b = c.requires.sees.1 in
    let e : chosen_at i.text.now i.tokens.now c.in-Choice.one c.in-Choice.other s ≡ Some c.in-Some.used = cc in
    advanced_turns i.text.now i.tokens.now p c.advance-in-Some.new.progress c.args.scopes.now c.args.nodes.now.items c.advance-in-Some.new.nodes.items c.in-Some.used (p.top.at + 1)
    (through_choice i.text.now i.tokens.now p s c.in-Choice.one c.in-Choice.other c.in-Some.used (cc) e) c.requires.sees c.advance-in-Some.result c.advance-in-Some.ensures.goes

pub returns-in-Ok-clause-steps : goal.returns-in-Ok-clause-steps
returns-in-Ok-clause-steps c =
    let i = c.args.input in
    let p = c.args.progress.now in
    let s = state p.ahead.place c.args.scopes.now c.args.nodes.now.items p.own in
    let a = c.requires.sees.0 in
    let b = c.requires.sees.1 in
    let e : takes p.top.production c.in-Token.kind (first i.text.now i.tokens.now s) ≡ true = cc in
    leads_on i.text.now i.tokens.now p c.take_token.new.progress c.args.scopes.now c.args.scopes.now c.args.nodes.now.items c.take_token.new.nodes.items (p.top.at + 1) c.in-Ok.ensures.top c.in-Ok.ensures.users
    (λ y w. token {k = c.in-Token.kind} (cc) e (subst (λ x. Walks i.text.now i.tokens.now p.top.production (p.top.at + 1) p.top.depth x y) c.in-Ok.ensures.takes (rw c.in-Ok.ensures.place at w)))

pub returns-in-Ok-clause-within : goal.returns-in-Ok-clause-within
returns-in-Ok-clause-within c =
    let i = c.args.input in
    let a = c.requires.sees.0 in
    let p = c.in-Ok.ensures.place in
    elim (cases_lt c.args.progress.now.ahead.place (length i.tokens.now)) [
      | inl h ↦ omega (arith, p)
      | inr h ↦ absurd (c.takes.ensures.real c.if-not-takes.false (a ∙ terminal_past i.text.now i.tokens.now c.args.scopes.now c.args.progress.now.ahead.place h))
    ]

pub returns-else-fits-clause-steps : goal.returns-else-fits-clause-steps
returns-else-fits-clause-steps c =
    let i = c.args.input in
    let p = c.args.progress.now in
    let s = state p.ahead.place c.args.scopes.now c.args.nodes.now.items p.own in
    let a = c.requires.sees.0 in
    let b = c.requires.sees.1 in
    let e : fits_at i.text.now i.tokens.now c.in-Repeat.repeated s ≡ false = cc in
    leads_on i.text.now i.tokens.now p (record p { top = record p.top { at = p.top.at + 1 } }) c.args.scopes.now c.args.scopes.now c.args.nodes.now.items c.args.nodes.now.items (p.top.at + 1) refl refl (λ y w. enough {q = c.in-Repeat.repeated} (cc) e w)

pub returns-in-Ok-step_scopes-clause-steps : goal.returns-in-Ok-step_scopes-clause-steps
returns-in-Ok-step_scopes-clause-steps c =
    let i = c.args.input in
    let p = c.args.progress.now in
    let own : Own = record { children = p.own.children; notes = c.step_scopes.new.notes } in
    let new : Progress = record { ahead = c.look-progress.result; own = own; top = record p.top { at = p.top.at + 1 }; users = p.users } in
    let e = scoped_state i.text.now i.tokens.now p.top.production c.in-Scope.step p.ahead.place c.args.scopes.now c.step_scopes.new.scopes c.args.nodes.now.items p.own own c.in-Ok-step_scopes.ensures.scopes c.in-Ok-step_scopes.ensures.notes refl in
    leads_on i.text.now i.tokens.now p new c.args.scopes.now c.step_scopes.new.scopes c.args.nodes.now.items c.args.nodes.now.items (p.top.at + 1) refl refl
    (λ y w.
    let v = subst (λ x. Walks i.text.now i.tokens.now p.top.production (p.top.at + 1) p.top.depth (state x c.step_scopes.new.scopes c.args.nodes.now.items own) y) c.look-progress.ensures.place w in
    scope {n = c.in-Scope.step} (cc) (subst (λ x. Walks i.text.now i.tokens.now p.top.production (p.top.at + 1) p.top.depth x y) e v))
