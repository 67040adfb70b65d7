use Rattle.std.proofs.Common.{List, ℕ, subst}
use Rattle.alias_query.specs.Script.{lines_of}
use Rattle.alias_query.specs.Asked.{made_setting, AreAsked}
use Rattle.unit_report.proofs.SharedProgram.{known_shared}
use Rattle.unit_report.proofs.unit_answers.answering.asked_by.Goals as goal

pub returns-clause-asked : goal.returns-clause-asked
returns-clause-asked c =
    subst (λ (names : List (List ℕ)). AreAsked (made_setting c.args.space.now c.args.system names) (lines_of c.args.script.now) c.in-Ok.asked.items)
    c.as_slice.ensures.value c.in-Ok.ensures.asked

pub returns-clause-known : goal.returns-clause-known
returns-clause-known c =
    let S = c.args.system in
    let A : List (List ℕ) → Type 0 = λ names. AreAsked (made_setting c.args.space.now S names) (lines_of c.args.script.now) c.in-Ok.asked.items in
    known_shared c.args.program.now c.args.space.now S c.in_ok-reduced.reduced c.args.script.now c.in-Ok.asked.items c.requires.system c.in_ok-reduced.ensures.shared (subst A c.as_slice.ensures.value c.in-Ok.ensures.asked) c.in-Ok.ensures.known
