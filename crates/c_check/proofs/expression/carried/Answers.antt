use Rattle.std.proofs.Common.{◌≡◌, ◌∙◌, ℕ, inr, List, ◌++◌, refl, sym, ap, subst}
use Rattle.unit_walk.specs.Ground.{source_ground}
use Rattle.c_check.specs.declared.known_tags.known.Meaning.{Meaning}
use Rattle.c_check.specs.Expressed.{IsCarried}
use Rattle.c_check.specs.Reached.{Reaches, IsReached}
use Rattle.c_check.specs.Told.{NoneUnknown}
use Rattle.c_check.proofs.Answering.{no_tree}
use Rattle.c_check.proofs.Growing.{grows_self}
use Rattle.c_check.proofs.expression.carried.Goals as goal

pub returns-in_default-clause-grows : goal.returns-in_default-clause-grows
returns-in_default-clause-grows c = grows_self c.args.unit.now

pub returns-in_default-clause-answer : goal.returns-in_default-clause-answer
unfolding IsReached
returns-in_default-clause-answer c =
    let w = c.args.walked.now in
    let s = source_ground w.ground c.args.bound.now in
    let r : Reaches w c.args.bound.now c.args.node = c.requires.reached in
    inr (refl, no_tree s c.args.node w.unit w.results r.walked (c.in_default.ensures.seen w.unit))

pub carried_tree-requires-clause-core : goal.carried_tree-requires-clause-core
carried_tree-requires-clause-core c = c.in-Some.ensures.seen c.args.walked.now.unit

pub carried_tree-requires-clause-top : goal.carried_tree-requires-clause-top
unfolding IsReached
carried_tree-requires-clause-top c = let r : Reaches c.args.walked.now c.args.bound.now c.args.node = c.requires.reached in c.in-Some.ensures.within c.args.walked.now.unit r.stand.within

pub carried_tree-requires-clause-told : goal.carried_tree-requires-clause-told
carried_tree-requires-clause-told c =
    subst (λ (l : List (ℕ × Meaning)). NoneUnknown (source_ground c.args.walked.now.ground c.args.bound.now) c.args.node l c.args.unit.now) (sym c.as_slice.ensures.value) c.requires.told

pub returns-in_ok-append-in-Ok-clause-answer : goal.returns-in_ok-append-in-Ok-clause-answer
returns-in_ok-append-in-Ok-clause-answer c =
    let w = c.args.walked.now in
    let s = source_ground w.ground c.args.bound.now in
    let list = c.as_slice.result.now in
    let old = c.args.unit.now in
    let new = c.carried_tree.new.unit in
    let tree = c.in-Ok.tree in
    let before = c.as_slice.ensures.value in
    let all : list ++ tree.pairs.items ≡ c.append.new.list.items =
    ap (λ (l : List (ℕ × Meaning)). l ++ tree.pairs.items) before
    ∙ (sym (ap (λ (l : List (ℕ × Meaning)). c.args.list.now.items ++ l) c.as_slice-in-Ok.ensures.value) ∙ sym c.in_ok-append-in-Ok.ensures.ok) in
    let behind = subst (λ (l : List (ℕ × Meaning)). IsCarried s c.args.node list l c.args.owner old new tree.node) all c.in-Ok.ensures.answer in
    subst (λ (l : List (ℕ × Meaning)). IsCarried s c.args.node l c.append.new.list.items c.args.owner old new tree.node) before behind
