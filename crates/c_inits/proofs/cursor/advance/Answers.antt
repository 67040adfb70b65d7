use Rattle.std.proofs.Common.{arith, get_or, ◌≡◌, ℕ, suc, ◌-◌, ◌<◌, Some, length, take, slice_get, refl, sym, subst, ◌∙◌, List}
use Rattle.std.proofs.lemmas.Option.{slice_get_read}
use Rattle.c_inits.specs.declared.cursor.Frame.{Frame}
use Rattle.c_inits.specs.Shapes.{Shape, behind}
use Rattle.c_inits.specs.Tables.{type_shape}
use Rattle.c_inits.specs.Cursor.{Stands, IsFrame, path_of}
use Rattle.c_inits.proofs.Advance.{here, left, moved, moved_at, moved_stands}
use Rattle.c_inits.proofs.Filled.{some_is_there}
use Rattle.c_inits.proofs.cursor.advance.Goals as goal

-- the last frame, as it is read
read : (fs : List Frame) (count place : ℕ) (f : Frame) → count ≡ length fs → 0 < count → place ≡ count - 1 → f ≡ get_or fs place f → (length fs ≡ suc place) × (slice_get fs place ≡ Some f)
read fs count place f e lt p r = (omega (arith, e, lt, p), slice_get_read fs (length fs) place f refl (omega (arith, e, lt, p)) r)

abbrev whole : goal.After-next_step-arg-1 → Shape
whole c = type_shape c.args.types.now c.args.limit c.args.root.0

last_frame : (c : goal.After-next_step-arg-1) → (length c.loop-frames.frames.items ≡ suc (c.len-last.result - 1)) × (slice_get c.loop-frames.frames.items (c.len-last.result - 1) ≡ Some c.index-frame.result.now)
last_frame c =
    let long : c.len-last.result ≡ length c.loop-frames.frames.items = omega (arith, c.len-last.ensures, c.loop-frames.frames.ok) in
    let some : 0 < c.len-last.result = omega (arith, c.len-last.ensures, c.len.ensures, c.loop-frames-test.true) in
    read c.loop-frames.frames.items c.len-last.result (c.len-last.result - 1) c.index-frame.result.now long some refl c.index-frame.ensures

frame : (c : goal.After-next_step-arg-1) → IsFrame c.args.types.now c.args.limit (whole c) (path_of (take (c.len-last.result - 1) c.loop-frames.frames.items)) c.index-frame.result.now
frame c =
    let (n, at) = last_frame c in
    here c.args.types.now c.type_count-count.ensures.made c.args.limit (whole c) c.loop-frames.frames.items (c.len-last.result - 1) c.index-frame.result.now n at c.loop-frames.invariant.1

pub next_step-requires-clause-known : goal.next_step-requires-clause-known
next_step-requires-clause-known c = (frame c).known

pub next_step-requires-clause-shaped : goal.next_step-requires-clause-shaped
next_step-requires-clause-shaped c = (frame c).shaped

pub next_step-requires-clause-step : goal.next_step-requires-clause-step
next_step-requires-clause-step c = some_is_there _ (frame c).part (frame c).within

pub returns-in-Some-clause-next : goal.returns-in-Some-clause-next
returns-in-Some-clause-next c =
    let long : c.len-last.result ≡ length c.loop-frames.frames.items = omega (arith, c.len-last.ensures, c.loop-frames.frames.ok) in
    let some : 0 < c.len-last.result = omega (arith, c.len-last.ensures, c.len.ensures, c.loop-frames-test.true) in
    let (n, at) = read c.loop-frames.frames.items c.len-last.result (c.len-last.result - 1) c.index-frame.result.now long some refl c.index-frame.ensures in
    let h = rw c.in-Some.is at c.in_ok-step.ensures in
    c.loop-frames.invariant.0
    ∙ moved c.args.types.now c.type_count-count.ensures.made c.args.limit (type_shape c.args.types.now c.args.limit c.args.root.0) c.loop-frames.frames.items (c.len-last.result - 1) c.index-frame.result.now n at c.loop-frames.invariant.1 c.in-Some.step c.in-Some.id.0 h

pub returns-in-Some-clause-at : goal.returns-in-Some-clause-at
returns-in-Some-clause-at c =
    let long : c.len-last.result ≡ length c.loop-frames.frames.items = omega (arith, c.len-last.ensures, c.loop-frames.frames.ok) in
    let some : 0 < c.len-last.result = omega (arith, c.len-last.ensures, c.len.ensures, c.loop-frames-test.true) in
    let (n, at) = read c.loop-frames.frames.items c.len-last.result (c.len-last.result - 1) c.index-frame.result.now long some refl c.index-frame.ensures in
    let h = rw c.in-Some.is at c.in_ok-step.ensures in
    moved_at c.args.types.now c.type_count-count.ensures.made c.args.limit (type_shape c.args.types.now c.args.limit c.args.root.0) c.loop-frames.frames.items (c.len-last.result - 1) c.index-frame.result.now n at c.loop-frames.invariant.1 c.in-Some.step c.in-Some.id.0 h

pub returns-in-Some-clause-stands : goal.returns-in-Some-clause-stands
returns-in-Some-clause-stands c =
    let long : c.len-last.result ≡ length c.loop-frames.frames.items = omega (arith, c.len-last.ensures, c.loop-frames.frames.ok) in
    let some : 0 < c.len-last.result = omega (arith, c.len-last.ensures, c.len.ensures, c.loop-frames-test.true) in
    let (n, at) = read c.loop-frames.frames.items c.len-last.result (c.len-last.result - 1) c.index-frame.result.now long some refl c.index-frame.ensures in
    let h = rw c.in-Some.is at c.in_ok-step.ensures in
    moved_stands c.args.types.now c.type_count-count.ensures.made c.args.limit (type_shape c.args.types.now c.args.limit c.args.root.0) c.loop-frames.frames.items (c.len-last.result - 1) c.index-frame.result.now n at c.loop-frames.invariant.1 c.in-Some.step c.in-Some.id.0 h

pub loop-frames-preserved : goal.loop-frames-preserved
loop-frames-preserved c =
    let long : c.len-last.result ≡ length c.loop-frames.frames.items = omega (arith, c.len-last.ensures, c.loop-frames.frames.ok) in
    let some : 0 < c.len-last.result = omega (arith, c.len-last.ensures, c.len.ensures, c.loop-frames-test.true) in
    let (n, at) = read c.loop-frames.frames.items c.len-last.result (c.len-last.result - 1) c.index-frame.result.now long some refl c.index-frame.ensures in
    let h = rw c.in-None.is at c.in_ok-step.ensures in
    let root = type_shape c.args.types.now c.args.limit c.args.root.0 in
    let (same, stands) = left c.args.types.now c.type_count-count.ensures.made c.args.limit root c.loop-frames.frames.items (c.len-last.result - 1) c.index-frame.result.now n at c.loop-frames.invariant.1 h in
    subst (λ l. (behind root (path_of c.args.frames.now.items) ≡ behind root (path_of l)) × Stands c.args.types.now c.args.limit root l)
    (sym c.truncate.ensures.items) (c.loop-frames.invariant.0 ∙ same, stands)
