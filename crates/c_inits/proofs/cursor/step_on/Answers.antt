use Rattle.std.proofs.Common.{◌≡◌, ◌∷◌, List, sym, subst}
use Rattle.c_inits.specs.declared.cursor.Frame.{Frame}
use Rattle.c_inits.specs.Shapes.{from, behind}
use Rattle.c_inits.specs.Tables.{type_shape}
use Rattle.c_inits.specs.Cursor.{Stands, IsAt, path_of, sub_object}
use Rattle.c_inits.proofs.Advance.{entered, entered_at, entered_stands, passed, onto}
use Rattle.c_inits.proofs.cursor.step_on.Goals as goal

pub returns-in_ok-push_frame-in-Some-clause-next : goal.returns-in_ok-push_frame-in-Some-clause-next
returns-in_ok-push_frame-in-Some-clause-next c =
    let root = type_shape c.args.types.now c.args.limit c.args.root.0 in
    let part = rw c.in-Some.is at c.in_ok-step.ensures in
    subst (λ (l : List Frame). from root (path_of c.args.frames.now.items) ≡ sub_object c.args.types.now c.args.limit (path_of c.args.frames.now.items) c.args.id.0 ∷ from root (path_of l)) (sym c.in_ok-push_frame-in-Some.ensures)
    (entered c.args.types.now c.args.limit root c.args.frames.now.items c.args.id c.requires.stands c.requires.at c.in-Some.step c.in-Some.next.0 part)

pub returns-in_ok-push_frame-in-Some-clause-at : goal.returns-in_ok-push_frame-in-Some-clause-at
returns-in_ok-push_frame-in-Some-clause-at c =
    let root = type_shape c.args.types.now c.args.limit c.args.root.0 in
    let part = rw c.in-Some.is at c.in_ok-step.ensures in
    subst (λ (l : List Frame). IsAt c.args.types.now c.args.limit root (path_of l) c.in-Some.next.0) (sym c.in_ok-push_frame-in-Some.ensures)
    (entered_at c.args.types.now c.args.limit root c.args.frames.now.items c.args.id c.requires.stands c.requires.at c.in-Some.step c.in-Some.next.0 part)

pub returns-in_ok-push_frame-in-Some-clause-stands : goal.returns-in_ok-push_frame-in-Some-clause-stands
returns-in_ok-push_frame-in-Some-clause-stands c =
    let root = type_shape c.args.types.now c.args.limit c.args.root.0 in
    let part = rw c.in-Some.is at c.in_ok-step.ensures in
    subst (λ (l : List Frame). Stands c.args.types.now c.args.limit root l) (sym c.in_ok-push_frame-in-Some.ensures)
    (entered_stands c.args.types.now c.args.limit root c.args.frames.now.items c.args.id c.requires.stands c.requires.at c.in-Some.step c.in-Some.next.0 part)

pub returns-in_ok-found-in-None-clause-next : goal.returns-in_ok-found-in-None-clause-next
returns-in_ok-found-in-None-clause-next c =
    let root = type_shape c.args.types.now c.args.limit c.args.root.0 in
    let none = rw c.in-None.is at c.in_ok-step.ensures in
    onto c.in_ok-found-in-None.found (from root (path_of c.args.frames.now.items)) (behind root (path_of c.args.frames.now.items)) (from root (path_of c.advance.new.frames.items))
    (sub_object c.args.types.now c.args.limit (path_of c.args.frames.now.items) c.args.id.0)
    (passed c.args.types.now c.args.limit root c.args.frames.now.items c.args.id c.requires.stands c.requires.at none)
    c.in_ok-found-in-None.ensures.next
