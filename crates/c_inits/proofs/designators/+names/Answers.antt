use Rattle.std.proofs.Common.{arith, ◌≡◌, ◌<◌, ◌+◌, ◌*◌, ◌∙◌, ◌++◌, ◌∷◌, [], sym, ap, subst, ℕ, length, Vec, Global, List, Option, None, MatchOption}
use Rattle.c_types.specs.declared.term.TypeId.{TypeId}
use Rattle.c_types.specs.declared.term.PathStep.{PathStep}
use Rattle.c_types.specs.declared.term.PathStep.TheVariants.{Member}
use Rattle.c_types.specs.Trees.{grow}
use Rattle.c_types.specs.Table.{types_of, HasTag}
use Rattle.c_inits.specs.declared.cursor.Frame.{Frame}
use Rattle.c_inits.specs.Shapes.{SubObject}
use Rattle.c_inits.specs.Initial.{named, own, in_unnamed, or_else}
use Rattle.c_inits.specs.Tables.{type_shape, fields_from, members_from}
use Rattle.c_inits.specs.Cursor.{Stands, IsAt, path_of}
use Rattle.c_inits.specs.Designated.{LeadsTo, HasFields}
use Rattle.c_inits.proofs.Advance.{into_at, into_stands, path_more, cut_back}
use Rattle.c_inits.proofs.Depth.{depth, part_depth}
use Rattle.c_inits.proofs.Named.{none_test, stands_at, leads_to_own, own_within, named_in, shape_of_member, pass_named, skip_unfilled, pass_searched, take_searched}
use Rattle.c_inits.proofs.Tags.{complete_members, structure_fields, union_fields}
use Rattle.c_inits.proofs.designators.+names.Goals as goal
use Rattle.c_inits.proofs.designators.+names.Goals.{find_in_unnamed-then-is_none+then-is_filled+in_ok-step+in_ok-push_frame+in_ok-next+in_default, find_in_unnamed-else-is_none, find_in_unnamed-else-is_none-via-then-is_none+else-is_filled, find_in_unnamed-else-is_none-via-else-is_none}
use Rattle.c_inits.proofs.Filled.{member_known, member_shaped}

pub find_in_tag-own_member-requires : goal.find_in_tag-own_member-requires
find_in_tag-own_member-requires t c = record { complete = complete_members c.args.types.now c.type_count-count.ensures.made c.args.tag c.in-Some.members.now c.in-Some.ensures.list }

pub find_in_tag-returns-in_ok-push_frame-in-Some-2-clause-place : goal.find_in_tag-returns-in_ok-push_frame-in-Some-2-clause-place
find_in_tag-returns-in_ok-push_frame-in-Some-2-clause-place t c =
    let table = c.args.types.now in
    let s = type_shape table c.args.limit c.args.id.0 in
    let fields = subst (λ o. HasFields s (members_from table 0 o)) c.in-Some.ensures.list c.requires.fields in
    let found = rw c.in-Some-2.is at c.in_ok-step.ensures in
    leads_to_own table c.args.limit s (fields_from table 0 c.in-Some.members.now) c.args.name.now c.in-Some-2.step c.in-Some-2.next.0 (path_of c.args.frames.now.items) (path_of c.push_frame.new.frames.items) fields found
    (ap path_of c.in_ok-push_frame-in-Some-2.ensures ∙ path_more c.args.frames.now.items (record { owner = c.args.id; step = c.in-Some-2.step }))

pub find_in_tag-returns-in_ok-push_frame-in-Some-2-clause-at : goal.find_in_tag-returns-in_ok-push_frame-in-Some-2-clause-at
find_in_tag-returns-in_ok-push_frame-in-Some-2-clause-at t c =
    let table = c.args.types.now in
    let root = type_shape table c.args.limit c.args.root.0 in
    let s = type_shape table c.args.limit c.args.id.0 in
    let fields = subst (λ o. HasFields s (members_from table 0 o)) c.in-Some.ensures.list c.requires.fields in
    let found = rw c.in-Some-2.is at c.in_ok-step.ensures in
    subst (λ (l : List Frame). IsAt table c.args.limit root (path_of l) c.in-Some-2.next.0) (sym c.in_ok-push_frame-in-Some-2.ensures)
    (into_at table c.args.limit root c.args.frames.now.items c.args.id c.requires.stands c.requires.at c.in-Some-2.step c.in-Some-2.next.0 found.known found.shaped
    (own_within table c.args.limit s (fields_from table 0 c.in-Some.members.now) (own (fields_from table 0 c.in-Some.members.now) c.args.name.now) c.in-Some-2.step c.in-Some-2.next.0 fields found))

pub find_in_tag-returns-in_ok-push_frame-in-Some-2-clause-stands : goal.find_in_tag-returns-in_ok-push_frame-in-Some-2-clause-stands
find_in_tag-returns-in_ok-push_frame-in-Some-2-clause-stands t c =
    let table = c.args.types.now in
    let root = type_shape table c.args.limit c.args.root.0 in
    let s = type_shape table c.args.limit c.args.id.0 in
    let fields = subst (λ o. HasFields s (members_from table 0 o)) c.in-Some.ensures.list c.requires.fields in
    let found = rw c.in-Some-2.is at c.in_ok-step.ensures in
    subst (λ (l : List Frame). Stands table c.args.limit root l) (sym c.in_ok-push_frame-in-Some-2.ensures)
    (into_stands table c.args.limit root c.args.frames.now.items c.args.id c.requires.stands c.requires.at c.in-Some-2.step c.in-Some-2.next.0 found.known found.shaped
    (own_within table c.args.limit s (fields_from table 0 c.in-Some.members.now) (own (fields_from table 0 c.in-Some.members.now) c.args.name.now) c.in-Some-2.step c.in-Some-2.next.0 fields found))

pub find_in_tag-returns-in_ok-found-in-None-clause-place : goal.find_in_tag-returns-in_ok-found-in-None-clause-place
find_in_tag-returns-in_ok-found-in-None-clause-place t c =
    let table = c.args.types.now in
    let s = type_shape table c.args.limit c.args.id.0 in
    let fs = fields_from table 0 c.in-Some.members.now in
    let fields = subst (λ o. HasFields s (members_from table 0 o)) c.in-Some.ensures.list c.requires.fields in
    let none = rw c.in-None.is at c.in_ok-step.ensures in
    let same : in_unnamed fs c.args.name.now ≡ named s c.args.name.now = sym (named_in s fs c.args.name.now fields ∙ ap (λ o. or_else o (in_unnamed fs c.args.name.now)) none) in
    subst
    (λ (o : Option SubObject). MatchOption c.in_ok-found-in-None.found ((o ≡ None) × (c.find_in_unnamed.new.frames.items ≡ c.args.frames.now.items))
    (λ (next : TypeId). LeadsTo table c.args.limit o (path_of c.args.frames.now.items) (path_of c.find_in_unnamed.new.frames.items) next.0))
    same c.in_ok-found-in-None.ensures.place

pub find_in_tag-find_in_unnamed-requires : goal.find_in_tag-find_in_unnamed-requires
find_in_tag-find_in_unnamed-requires t c =
    let table = c.args.types.now in
    let s = type_shape table c.args.limit c.args.id.0 in
    let falls : 3 * depth s < t = omega (arith, c.decreases) in
    (falls, (c.requires.stands, (c.requires.at, (complete_members table c.type_count-count.ensures.made c.args.tag c.in-Some.members.now c.in-Some.ensures.list, subst (λ o. HasFields s (members_from table 0 o)) c.in-Some.ensures.list c.requires.fields))))

pub find_member-find_in_tag-requires : goal.find_member-find_in_tag-requires
find_member-find_in_tag-requires t c =
    let table = c.args.types.now in
    let falls : 3 * depth (type_shape table c.args.limit c.args.id.0) + 1 < t = omega (arith, c.decreases) in
    (falls, (c.requires.stands, (c.requires.at, (subst (HasTag table.tags) c.in-Structure.is c.term.ensures.tags, structure_fields table c.type_count-count.ensures.made c.args.limit c.args.id.0 c.in-Structure.tag (c.term.ensures.tree ∙ ap (grow (types_of table)) c.in-Structure.is) c.requires.at.shaped))))

pub find_member-find_in_tag-requires-in-Union : goal.find_member-find_in_tag-requires-in-Union
find_member-find_in_tag-requires-in-Union t c =
    let table = c.args.types.now in
    let falls : 3 * depth (type_shape table c.args.limit c.args.id.0) + 1 < t = omega (arith, c.decreases) in
    (falls, (c.requires.stands, (c.requires.at, (subst (HasTag table.tags) c.in-Union.is c.term.ensures.tags, union_fields table c.type_count-count.ensures.made c.args.limit c.args.id.0 c.in-Union.tag (c.term.ensures.tree ∙ ap (grow (types_of table)) c.in-Union.is) c.requires.at.shaped))))

-- the frames behind one more step
abbrev with_step : List Frame → TypeId → PathStep → List Frame
with_step frames id step = frames ++ record { owner = id; step = step } ∷ []

stepped : (frames now new : List Frame) (id : TypeId) (step : PathStep) (k : ℕ) → now ≡ frames → step ≡ Member k → new ≡ with_step now id step → new ≡ with_step frames id (Member k)
stepped frames now new id step k e f h = h ∙ ap (λ l. with_step l id step) e ∙ ap (λ s. with_step frames id s) f

pub find_in_unnamed-find_member-requires : goal.find_in_unnamed-find_member-requires
find_in_unnamed-find_member-requires t c =
    let table = c.args.types.now in
    let limit = c.args.limit in
    let s = type_shape table limit c.args.id.0 in
    let root = type_shape table limit c.args.root.0 in
    let fs = fields_from table 0 c.args.members.now in
    let m = c.index-members-k.result in
    let k = c.loop-k.k in
    let inside = stands_at table limit k c.args.members.now m c.is_filled.result c.requires.complete c.loop-k-test.true c.index-members-k.is c.is_filled.ensures c.if-is_filled.true in
    let deeper : depth (type_shape table limit m.ty.0) < depth s = part_depth s (type_shape table limit m.ty.0) fs k c.requires.fields inside in
    let falls : 3 * depth (type_shape table limit m.ty.0) + 2 < t = omega (arith, c.decreases, deeper) in
    let known = member_known table limit k c.args.members.now m c.is_filled.result c.requires.complete c.loop-k-test.true c.index-members-k.is c.is_filled.ensures c.if-is_filled.true in
    let shaped = member_shaped table limit k c.args.members.now m c.is_filled.result c.requires.complete c.loop-k-test.true c.index-members-k.is c.is_filled.ensures c.if-is_filled.true in
    let within = shape_of_member s fs k c.requires.fields ∙ inside in
    let at = stepped c.args.frames.now.items c.loop-k.frames.items c.push_frame.new.frames.items c.args.id c.in_ok-step.step k c.loop-k.invariant.1 c.in_ok-step.ensures c.in_ok-push_frame.ensures in (
      falls,
      (
        subst (λ (l : List Frame). Stands table limit root l) (sym at) (into_stands table limit root c.args.frames.now.items c.args.id c.requires.stands c.requires.at (Member k) m.ty.0 known shaped within),
        subst (λ (l : List Frame). IsAt table limit root (path_of l) m.ty.0) (sym at) (into_at table limit root c.args.frames.now.items c.args.id c.requires.stands c.requires.at (Member k) m.ty.0 known shaped within),
      ),
    )

pub find_in_unnamed-returns-in-Some-clause-place : goal.find_in_unnamed-returns-in-Some-clause-place
find_in_unnamed-returns-in-Some-clause-place t c =
    let table = c.args.types.now in
    let limit = c.args.limit in
    let name = c.args.name.now in
    let m = c.index-members-k.result in
    let k = c.loop-k.k in
    let found = rw c.in-Some.is at c.in_ok-next.ensures.place in
    let at = stepped c.args.frames.now.items c.loop-k.frames.items c.push_frame.new.frames.items c.args.id c.in_ok-step.step k c.loop-k.invariant.1 c.in_ok-step.ensures c.in_ok-push_frame.ensures in
    subst (λ (o : Option SubObject). LeadsTo table limit o (path_of c.args.frames.now.items) (path_of c.find_member.new.frames.items) c.in-Some.next.0) (sym c.loop-k.invariant.0)
    (take_searched table limit k c.args.members.now m name c.is_none.result c.is_filled.result c.requires.complete c.loop-k-test.true c.index-members-k.is (none_test m.name c.is_none.result c.is_none.ensures) c.if-is_none.true c.is_filled.ensures c.if-is_filled.true
    (path_of c.args.frames.now.items) (path_of c.push_frame.new.frames.items) (path_of c.find_member.new.frames.items) c.in-Some.next.0
    (ap path_of at ∙ path_more c.args.frames.now.items (record { owner = c.args.id; step = Member k })) found)

pub find_in_unnamed-loop-k-preserved : goal.find_in_unnamed-loop-k-preserved
find_in_unnamed-loop-k-preserved t c =
    let table = c.args.types.now in
    let limit = c.args.limit in
    let name = c.args.name.now in
    let m = c.index-members-k.result in
    let k = c.loop-k.k in
    elim c.if-is_none.branch [
      | find_in_unnamed-then-is_none+then-is_filled+in_ok-step+in_ok-push_frame+in_ok-next+in_default w ↦
          let gone = rw w.in_default.is at w.in_ok-next.ensures.place in
          let at = stepped c.args.frames.now.items c.loop-k.frames.items w.push_frame.new.frames.items c.args.id w.in_ok-step.step k c.loop-k.invariant.1 w.in_ok-step.ensures w.in_ok-push_frame.ensures in
          let long : c.len-depth.result ≡ length c.args.frames.now.items = omega (arith, c.len-depth.ensures, c.args.frames.now.ok) in
          let back = cut_back c.args.frames.now.items (record { owner = c.args.id; step = Member k } ∷ []) w.find_member.new.frames.items c.len-depth.result long (gone.1 ∙ at) in (
            c.loop-k.invariant.0 ∙ pass_searched table limit k c.args.members.now m name c.is_none.result w.is_filled.result c.requires.complete c.loop-k-test.true c.index-members-k.is (none_test m.name c.is_none.result c.is_none.ensures) w.if-is_none.true w.is_filled.ensures w.if-is_filled.true gone.0,
            ap (λ (v : Vec Frame Global). v.items) w.frames-is ∙ w.truncate.ensures.items ∙ back,
          )
      | find_in_unnamed-else-is_none w ↦ (
        c.loop-k.invariant.0 ∙ elim w.else-is_none.branch [
          | find_in_unnamed-else-is_none-via-then-is_none+else-is_filled v ↦ skip_unfilled table k c.args.members.now m name v.is_filled.result c.loop-k-test.true c.index-members-k.is v.is_filled.ensures v.if-is_filled.false
          | find_in_unnamed-else-is_none-via-else-is_none v ↦ pass_named table k c.args.members.now m name c.is_none.result c.loop-k-test.true c.index-members-k.is (none_test m.name c.is_none.result c.is_none.ensures) v.if-is_none.false
        ],
        ap (λ (v : Vec Frame Global). v.items) w.frames-is ∙ c.loop-k.invariant.1,
      )
    ]
