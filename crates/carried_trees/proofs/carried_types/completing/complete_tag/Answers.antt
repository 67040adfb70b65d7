use Rattle.std.proofs.Common.{rules, ◌≡◌, ◌∙◌, ℕ, Bool, true, false, List, None, Some, IsSome, get_or, map, sym, ap, subst}
use Rattle.c_types.specs.declared.term.MemberTerm.{MemberTerm}
use Rattle.c_types.specs.Table.{members_in}
use Rattle.c_types.specs.Made.{AreMembers}
use Rattle.c_inits.specs.Tables.{part_of}
use Rattle.carried_trees.specs.carried_types.Terms.{tag_type}
use Rattle.carried_trees.specs.carried_types.Members.{are_flagged, are_given_parts, moved_member, AreAdded}
use Rattle.carried_trees.proofs.carried_types.Membered.{has_members, completed_within, members_right}
use Rattle.carried_trees.proofs.carried_types.Adding.{none_has, match_none, numbered_by, one_number, added_one, completed_here, done_kept, done_more, parts_carried, flags_given}
use Rattle.carried_trees.proofs.carried_types.completing.complete_tag.Goals as goal

pub members-requires-2 : goal.members-requires-2
members-requires-2 c = completed_within c.args.walked.now c.args.position c.completed_tag-tag.result c.type_count-own.ensures.made c.type_count-own.ensures.named c.completed_tag-tag.ensures

pub unreachable-requires : goal.unreachable-requires
unreachable-requires c =
    none_has (members_in c.args.walked.now c.completed_tag-tag.result) c.in_default-members.ensures.list (has_members c.args.walked.now c.args.position c.completed_tag-tag.result c.completed_tag-tag.ensures)

pub returns-then-not-are_flagged-clause-lacks : goal.returns-then-not-are_flagged-clause-lacks
returns-then-not-are_flagged-clause-lacks c = λ e.
    let table = c.args.types.now in
    let tags = c.args.tags.now in
    let tag = tag_type table tags in
    let own = c.completed_tag-tag.result in
    let list = c.in-Some-members.members.now in
    let there : get_or tags own None ≡ Some c.in-Some.id = search rules in
    let flags : are_flagged c.args.carried.now.given.items list ≡ false =
    subst (λ (l : List Bool). are_flagged l list ≡ false) c.as_slice.ensures.value (sym c.are_flagged.ensures ∙ c.if-not-are_flagged.true) in
    record {
      own = own;
      number = c.in-Some-tag_as.number;
      is = numbered_by table tags own c.in-Some.id c.in-Some-tag_as.number there c.in-Some-tag_as.ensures.named;
      was_open = match_none c.members.result _ _ (sym c.is_some.ensures ∙ c.if-is_some.false) c.members.ensures.list;
      list = list;
      list_is = c.in-Some-members.ensures.list;
      lacks = sym (flags_given tag c.args.walked.now table c.args.carried.now.ids.items c.args.carried.now.given.items c.requires.carried list c.in-Some-members.ensures.types) ∙ flags;
    }

pub complete-requires-clause-members : goal.complete-requires-clause-members
complete-requires-clause-members c =
    let table = c.args.types.now in
    let from = c.args.walked.now in
    let tag = tag_type table c.args.tags.now in
    let ids = c.args.carried.now.ids.items in
    let given = c.args.carried.now.given.items in
    let list = c.in-Some-members.members.now in
    let flags : are_flagged given list ≡ true =
    subst (λ (l : List Bool). are_flagged l list ≡ true) c.as_slice.ensures.value (sym c.are_flagged.ensures ∙ c.if-not-are_flagged.false) in
    let all : are_given_parts tag (map (part_of from) list) ≡ true = sym (flags_given tag from table ids given c.requires.carried list c.in-Some-members.ensures.types) ∙ flags in
    let moved : c.in_ok-moved.moved.items ≡ map (moved_member ids) list = c.in_ok-moved.ensures ∙ ap (λ (l : List ℕ). map (moved_member l) list) c.as_slice-2.ensures.value in
    subst (λ (l : List MemberTerm). AreMembers table c.in-Some-tag_as.number l) (sym moved)
    (members_right table from tag ids given c.type_count-count.ensures.made c.type_count-own.ensures.made c.requires.carried c.requires.tagged c.args.position c.completed_tag-tag.result list c.completed_tag-tag.ensures c.in-Some-members.ensures.list
    c.requires.done c.in-Some.id c.in-Some-tag_as.number c.in-Some-tag_as.ensures.keyword all)

pub returns-in-Ok-clause-added : goal.returns-in-Ok-clause-added
returns-in-Ok-clause-added c =
    let table = c.args.types.now in
    let tags = c.args.tags.now in
    let from = c.args.walked.now in
    let tag = tag_type table tags in
    let ids = c.args.carried.now.ids.items in
    let own = c.completed_tag-tag.result in
    let list = c.in-Some-members.members.now in
    let there : get_or tags own None ≡ Some c.in-Some.id = search rules in
    let moved : c.in_ok-moved.moved.items ≡ map (moved_member ids) list = c.in_ok-moved.ensures ∙ ap (λ (l : List ℕ). map (moved_member l) list) c.as_slice-2.ensures.value in
    added_one tag from table c.complete.new.self own c.in-Some-tag_as.number list c.in_ok-moved.moved.items c.in-Ok.ensures.ok c.in-Ok.ensures.kept c.in-Some-members.ensures.list
    (numbered_by table tags own c.in-Some.id c.in-Some-tag_as.number there c.in-Some-tag_as.ensures.named)
    (ap (map (part_of table)) moved ∙ parts_carried tag from table ids c.args.carried.now.given.items c.requires.carried list c.in-Some-members.ensures.types)

pub returns-in-Ok-clause-done : goal.returns-in-Ok-clause-done
returns-in-Ok-clause-done c = λ e.
    let table = c.args.types.now in
    let new = c.complete.new.self in
    let tags = c.args.tags.now in
    let from = c.args.walked.now in
    let tag = tag_type table tags in
    let ids = c.args.carried.now.ids.items in
    let own = c.completed_tag-tag.result in
    let number = c.in-Some-tag_as.number in
    let list = c.in-Some-members.members.now in
    let there : get_or tags own None ≡ Some c.in-Some.id = search rules in
    let is = numbered_by table tags own c.in-Some.id number there c.in-Some-tag_as.ensures.named in
    let moved : c.in_ok-moved.moved.items ≡ map (moved_member ids) list = c.in_ok-moved.ensures ∙ ap (λ (l : List ℕ). map (moved_member l) list) c.as_slice-2.ensures.value in
    let added : AreAdded tag from table new = added_one tag from table new own number list c.in_ok-moved.moved.items c.in-Ok.ensures.ok c.in-Ok.ensures.kept c.in-Some-members.ensures.list is
    (ap (map (part_of table)) moved ∙ parts_carried tag from table ids c.args.carried.now.given.items c.requires.carried list c.in-Some-members.ensures.types) in
    let none : members_in table number ≡ None = match_none c.members.result _ _ (sym c.is_some.ensures ∙ c.if-is_some.false) c.members.ensures.list in
    let here = completed_here tag from table new number c.in_ok-moved.moved.items c.in-Ok.ensures.ok none in
    done_more tag from new c.args.position (record { tag = own; members = c.completed_tag-tag.ensures.0 }) c.completed_tag-tag.ensures.1
    (λ other is_other. subst (λ (n : ℕ). IsSome (members_in new n)) (one_number tag own number other is is_other) here)
    (done_kept tag from table new c.args.position added c.requires.done)
