use Rattle.std.proofs.Common.{◌≡◌, ◌+◌, get_or, sym, ap, subst, arith, ◌∙◌, ◌++◌, ◌∷◌, []}
use Rattle.c_types.specs.declared.term.Term.{Term}
use Rattle.c_types.specs.Table.{Table, IsAfter, HasTag, type_of, types_of}
use Rattle.c_types.specs.Trees.{grow}
use Rattle.c_types.specs.Made.{IsSized, KeepsApart}
use Rattle.link_model.specs.link_types.Moved.{Keyed}
use Rattle.link_model.proofs.link_types.Moving.{after_moved, tag_moved, sized_moved, apart_moved, keyed_more, types_more}
use Rattle.link_model.proofs.link_types.join.add_moved.Goals as goal

pub moved_term-requires-clause-types : goal.moved_term-requires-clause-types
moved_term-requires-clause-types c = (c.args.id, c.term.ensures.types, let room = c.if-id-start.false in omega arith)

pub add-requires-clause-types : goal.add-requires-clause-types
add-requires-clause-types c =
    subst (λ n. IsAfter n c.in_ok-term.term) (sym c.requires.count)
    (subst (IsAfter (c.args.start + c.args.id)) (sym c.in_ok-term.ensures) (after_moved c.args.start (λ k. get_or c.args.tags.now k 0) c.args.id c.term.result.now c.term.ensures.types))

pub add-requires-clause-tags : goal.add-requires-clause-tags
add-requires-clause-tags c =
    subst (HasTag c.args.types.now.tags) (sym c.in_ok-term.ensures)
    (tag_moved c.args.start c.args.tags.now c.args.types.now.tags c.term.result.now (subst (λ n. HasTag n c.term.result.now) c.requires.tags c.term.ensures.tags) c.requires.known)

pub add-requires-clause-sized : goal.add-requires-clause-sized
add-requires-clause-sized c =
    subst IsSized (sym c.in_ok-term.ensures) (sized_moved c.args.start (λ k. get_or c.args.tags.now k 0) c.term.result.now (c.requires.sized.each c.args.id c.term.result.now c.term.ensures.value))

pub add-requires-clause-apart : goal.add-requires-clause-apart
add-requires-clause-apart c =
    let (keyword, all, own) = c.requires.keyed in
    subst (KeepsApart c.args.types.now.terms) (sym c.in_ok-term.ensures)
    (apart_moved c.args.start (λ k. get_or c.args.tags.now k 0) keyword c.args.types.now.terms c.args.unit.now.terms c.args.id c.term.result.now all own c.term.ensures.value)

pub returns-in-Ok-clause-added : goal.returns-in-Ok-clause-added
returns-in-Ok-clause-added c =
    let now = c.add.new.self in
    let place : c.in-Ok.field-0.0 ≡ c.args.start + c.args.id = c.in-Ok.ensures.id ∙ c.requires.count in
    types_more c.args.types.now now c.args.unit.now c.args.start (λ k. get_or c.args.tags.now k 0) c.args.id c.term.result.now c.requires.count c.requires.before c.term.ensures.types c.term.ensures.tree c.in-Ok.ensures.kept
    (ap (type_of now) (sym place) ∙ (c.in-Ok.ensures.tree ∙ ap (grow (types_of c.args.types.now)) c.in_ok-term.ensures))

pub returns-in-Ok-clause-keyed : goal.returns-in-Ok-clause-keyed
returns-in-Ok-clause-keyed c = λ keyword all own.
    subst (Keyed keyword) (sym (ap (λ (t : Table). t.terms) c.in-Ok.ensures.ok))
    (subst (λ (t : Term). Keyed keyword (c.args.types.now.terms ++ t ∷ [])) (sym c.in_ok-term.ensures)
    (keyed_more c.args.start (λ k. get_or c.args.tags.now k 0) keyword c.args.types.now.terms c.args.unit.now.terms c.args.id c.term.result.now c.term.ensures.value all own))
