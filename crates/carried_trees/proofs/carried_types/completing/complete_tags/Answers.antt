use Rattle.std.proofs.Common.{arith, ◌≡◌, ℕ, ◌+◌, Option, length, sym, subst}
use Rattle.c_types.specs.Trees.{Ctype}
use Rattle.carried_trees.specs.carried_types.Terms.{tag_type}
use Rattle.carried_trees.specs.carried_types.Members.{AreTagged, AreAdded, AreDone, Lacks}
use Rattle.carried_trees.proofs.carried_types.Adding.{added_on, done_all, lacks_before, tags_same}
use Rattle.carried_trees.proofs.carried_types.completing.complete_tags.Goals as goal

pub complete_tag-requires-clause-tagged : goal.complete_tag-requires-clause-tagged
complete_tag-requires-clause-tagged c =
    subst AreTagged (sym (tags_same c.args.types.now c.loop-position.types c.args.tags.now c.loop-position.invariant.added.terms)) c.requires.tagged

pub returns-in_err-complete_tag-clause-added : goal.returns-in_err-complete_tag-clause-added
returns-in_err-complete_tag-clause-added c =
    let old = c.args.types.now in
    let mid = c.loop-position.types in
    let new = c.complete_tag.new.types in
    let from = c.args.walked.now in
    let inv = c.loop-position.invariant in
    added_on (tag_type old c.args.tags.now) from old mid new inv.added
    (subst (λ (f : ℕ → Option Ctype). AreAdded f from mid new) (tags_same old mid c.args.tags.now inv.added.terms) c.complete_tag.ensures.added)

pub returns-then-not-branch-clause-added : goal.returns-then-not-branch-clause-added
returns-then-not-branch-clause-added c =
    let old = c.args.types.now in
    let mid = c.loop-position.types in
    let new = c.complete_tag.new.types in
    let from = c.args.walked.now in
    let inv = c.loop-position.invariant in
    added_on (tag_type old c.args.tags.now) from old mid new inv.added
    (subst (λ (f : ℕ → Option Ctype). AreAdded f from mid new) (tags_same old mid c.args.tags.now inv.added.terms) c.complete_tag.ensures.added)

pub returns-then-not-branch-clause-lacks : goal.returns-then-not-branch-clause-lacks
returns-then-not-branch-clause-lacks c = λ e.
    let old = c.args.types.now in
    let mid = c.loop-position.types in
    let from = c.args.walked.now in
    let inv = c.loop-position.invariant in
    lacks_before (tag_type old c.args.tags.now) from old mid inv.added
    (subst (λ (f : ℕ → Option Ctype). Lacks f from mid) (tags_same old mid c.args.tags.now inv.added.terms) (c.in_ok-complete_tag.ensures.lacks c.if-not-branch.true))

pub loop-position-preserved : goal.loop-position-preserved
loop-position-preserved c =
    let old = c.args.types.now in
    let mid = c.loop-position.types in
    let new = c.complete_tag.new.types in
    let from = c.args.walked.now in
    let inv = c.loop-position.invariant in
    let same = tags_same old mid c.args.tags.now inv.added.terms in
    record {
      added = added_on (tag_type old c.args.tags.now) from old mid new inv.added (subst (λ (f : ℕ → Option Ctype). AreAdded f from mid new) same c.complete_tag.ensures.added);
      done = subst (λ (f : ℕ → Option Ctype). AreDone f from new (c.loop-position.position + 1)) same (c.in_ok-complete_tag.ensures.done c.if-not-branch.false);
    }

pub returns-clause-complete : goal.returns-clause-complete
returns-clause-complete c = λ e.
    let count = c.completed_count-position-end.ensures in
    let last : c.loop-position.position ≡ length c.args.walked.now.completed = omega arith in
    done_all (tag_type c.args.types.now c.args.tags.now) c.args.walked.now c.loop-position.types
    (subst (λ (n : ℕ). AreDone (tag_type c.args.types.now c.args.tags.now) c.args.walked.now c.loop-position.types n) last c.loop-position.invariant.done)
