use Rattle.std.proofs.Common.{◌≡◌, List, None, get_or, sym, subst, ◌∙◌, arith}
use Rattle.c_types.specs.declared.term.MemberTerm.{MemberTerm}
use Rattle.c_types.specs.Table.{members_in}
use Rattle.c_types.specs.Made.{AreMembers}
use Rattle.link_merge.specs.Complete.{IsCompleted}
use Rattle.link_merge.proofs.Completing.{stands_moved}
use Rattle.link_merge.proofs.Listing.{completed_one, completed_here, done_kept, done_more}
use Rattle.link_merge.proofs.Tagging.{has_members, completed_stands, completed_within, members_right, match_none, none_has}
use Rattle.link_merge.proofs.complete.complete_tag.Goals as goal

pub bounds-tags-tag : goal.bounds-tags-tag
bounds-tags-tag c =
    let w = completed_within c.args.unit.now c.args.position c.completed_tag-tag.result c.type_count-own.ensures.made c.type_count-own.ensures.named c.completed_tag-tag.ensures in
    let t = c.requires.tags in
    omega arith

pub members-requires : goal.members-requires
members-requires c =
    let w = completed_within c.args.unit.now c.args.position c.completed_tag-tag.result c.type_count-own.ensures.made c.type_count-own.ensures.named c.completed_tag-tag.ensures in
    let t = c.requires.tags in
    c.requires.known c.completed_tag-tag.result 0 (omega arith)

pub members-requires-2 : goal.members-requires-2
members-requires-2 c = completed_within c.args.unit.now c.args.position c.completed_tag-tag.result c.type_count-own.ensures.made c.type_count-own.ensures.named c.completed_tag-tag.ensures

pub unreachable-requires : goal.unreachable-requires
unreachable-requires c = none_has (members_in c.args.unit.now c.completed_tag-tag.result) c.in_default.ensures.list (has_members c.args.unit.now c.args.position c.completed_tag-tag.result c.completed_tag-tag.ensures)

pub complete-requires-clause-tag : goal.complete-requires-clause-tag
complete-requires-clause-tag c =
    let w = completed_within c.args.unit.now c.args.position c.completed_tag-tag.result c.type_count-own.ensures.made c.type_count-own.ensures.named c.completed_tag-tag.ensures in
    let t = c.requires.tags in
    c.requires.known c.completed_tag-tag.result 0 (omega arith)

pub complete-requires-clause-stands : goal.complete-requires-clause-stands
complete-requires-clause-stands c =
    stands_moved c.args.types.now c.args.unit.now c.args.start (λ k. get_or c.args.tags.now k 0) c.type_count-count.ensures.named c.type_count-own.ensures.named c.requires.within c.requires.shown c.completed_tag-tag.result
    (completed_stands c.args.unit.now c.args.position c.completed_tag-tag.result c.type_count-own.ensures.made c.completed_tag-tag.ensures)

pub complete-requires-clause-members : goal.complete-requires-clause-members
complete-requires-clause-members c =
    subst (λ (l : List MemberTerm). AreMembers c.args.types.now (get_or c.args.tags.now c.completed_tag-tag.result 0) l) (sym c.in_ok-moved.ensures)
    (members_right c.args.types.now c.args.unit.now c.args.start (λ k. get_or c.args.tags.now k 0) c.args.position c.completed_tag-tag.result c.in-Some.members.now c.type_count-count.ensures.made c.type_count-count.ensures.named
    c.type_count-own.ensures.made c.type_count-own.ensures.named c.requires.within c.requires.shown c.completed_tag-tag.ensures c.in-Some.ensures.list c.requires.before)

pub returns-in-Ok-clause-completed : goal.returns-in-Ok-clause-completed
returns-in-Ok-clause-completed c =
    completed_one c.args.types.now c.complete.new.self c.args.unit.now c.args.start (λ k. get_or c.args.tags.now k 0) c.completed_tag-tag.result c.in-Some.members.now c.in_ok-moved.moved.items c.in-Ok.ensures.ok c.in-Some.ensures.list c.in_ok-moved.ensures

pub returns-in-Ok-clause-done : goal.returns-in-Ok-clause-done
returns-in-Ok-clause-done c =
    let t = c.completed_tag-tag.result in
    let completed : IsCompleted c.args.types.now c.complete.new.self c.args.unit.now c.args.start (λ k. get_or c.args.tags.now k 0) = completed_one c.args.types.now c.complete.new.self c.args.unit.now c.args.start (λ k. get_or c.args.tags.now k 0) t c.in-Some.members.now c.in_ok-moved.moved.items c.in-Ok.ensures.ok c.in-Some.ensures.list c.in_ok-moved.ensures in
    let none : members_in c.args.types.now (get_or c.args.tags.now t 0) ≡ None = match_none c.members.result _ _ (sym c.is_some.ensures ∙ c.if-is_some.false) c.members.ensures.list in
    done_more c.complete.new.self c.args.unit.now (λ k. get_or c.args.tags.now k 0) c.args.position (record { tag = t; members = c.completed_tag-tag.ensures.0 }) c.completed_tag-tag.ensures.1
    (completed_here c.args.types.now c.complete.new.self (get_or c.args.tags.now t 0) c.in_ok-moved.moved.items c.in-Ok.ensures.ok none)
    (done_kept c.args.types.now c.complete.new.self c.args.unit.now c.args.start (λ k. get_or c.args.tags.now k 0) c.args.position completed c.requires.before)
