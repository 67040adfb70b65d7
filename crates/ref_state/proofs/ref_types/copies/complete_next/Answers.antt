use Rattle.std.proofs.Common.{◌≡◌, ◌<◌, List, [], ◌∷◌, ◌++◌, Some, None, take, slice_get, ap, sym, ◌∙◌, subst}
use Rattle.c_types.specs.declared.term.MemberTerm.{MemberTerm}
use Rattle.c_types.specs.Table.{Table, TagMembers, members_in, members_among}
use Rattle.c_types.specs.Made.{AreMembers, earlier}
use Rattle.ref_state.proofs.ref_types.Copied.{take_next, members_first, tag_within, on_ok, some_is}
use Rattle.ref_state.proofs.ref_types.copies.complete_next.Goals as goal

pub members-requires : goal.members-requires
members-requires c = tag_within c.args.types.now c.requires.made c.requires.named c.args.position _ c.completed_tag-tag.ensures.1

pub members-requires-2 : goal.members-requires-2
members-requires-2 c =
    subst (λ (x : Table). c.completed_tag-tag.result < x.tags) (sym c.requires.so_far)
    (tag_within c.args.types.now c.requires.made c.requires.named c.args.position _ c.completed_tag-tag.ensures.1)

pub complete-requires-clause-tag : goal.complete-requires-clause-tag
complete-requires-clause-tag c =
    subst (λ (x : Table). c.completed_tag-tag.result < x.tags) (sym c.requires.so_far)
    (tag_within c.args.types.now c.requires.made c.requires.named c.args.position _ c.completed_tag-tag.ensures.1)

pub complete-requires-clause-members : goal.complete-requires-clause-members
complete-requires-clause-members c =
    let types = c.args.types.now in
    let tag = c.completed_tag-tag.result in
    let members = c.in_ok-members-in-Some-None.members.items in
    let found : TagMembers = record { tag = tag; members = c.completed_tag-tag.ensures.0 } in
    let there : slice_get types.completed c.args.position ≡ Some found = c.completed_tag-tag.ensures.1 in
    let none : members_among (take c.args.position types.completed) tag ≡ None =
    sym (ap (λ (x : Table). members_in x tag) c.requires.so_far) ∙ c.in-Some-None.ensures'.list in
    let first : members_in types tag ≡ Some found.members = members_first types.completed c.args.position found there none in
    let listed : members_in types tag ≡ Some c.in-Some-None.members.now = c.in-Some-None.ensures.list in
    let same : found.members ≡ members =
    some_is found.members c.in-Some-None.members.now (sym first ∙ listed) ∙ sym c.in_ok-members-in-Some-None.ensures in
    subst (λ (x : Table). AreMembers x tag members) (sym c.requires.so_far)
    (subst (λ (ms : List MemberTerm). AreMembers (earlier types c.args.position) tag ms) same
    (c.requires.made.ordered c.args.position found there))

pub returns-in_ok-members-in-Some-None : goal.returns-in_ok-members-in-Some-None
returns-in_ok-members-in-Some-None c =
    let types = c.args.types.now in
    let tag = c.completed_tag-tag.result in
    let members = c.in_ok-members-in-Some-None.members.items in
    let found : TagMembers = record { tag = tag; members = c.completed_tag-tag.ensures.0 } in
    let there : slice_get types.completed c.args.position ≡ Some found = c.completed_tag-tag.ensures.1 in
    let none : members_among (take c.args.position types.completed) tag ≡ None =
    sym (ap (λ (x : Table). members_in x tag) c.requires.so_far) ∙ c.in-Some-None.ensures'.list in
    let first : members_in types tag ≡ Some found.members = members_first types.completed c.args.position found there none in
    let listed : members_in types tag ≡ Some c.in-Some-None.members.now = c.in-Some-None.ensures.list in
    let same : found.members ≡ members =
    some_is found.members c.in-Some-None.members.now (sym first ∙ listed) ∙ sym c.in_ok-members-in-Some-None.ensures in
    let now : slice_get types.completed c.args.position ≡ Some (record { tag = tag; members = members }) =
    there ∙ ap (λ (ms : List MemberTerm). Some (record { tag = tag; members = ms })) same in
    let more = take_next types.completed c.args.position (record { tag = tag; members = members }) now in
    on_ok c.complete.result
    (λ e. e
    ∙ (ap (λ (x : Table). record x { completed = x.completed ++ record { tag = tag; members = members } ∷ [] }) c.requires.so_far
    ∙ ap (λ (cs : List TagMembers). record types { completed = cs }) (sym more)))
    c.complete.ensures.ok
