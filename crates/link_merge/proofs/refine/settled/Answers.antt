use Rattle.std.proofs.Common.{◌≡◌, ℕ, List, length, sym, ap, subst, ◌∙◌, arith}
use Rattle.std.specs.Cmp.Lexicographic.{bytes_decides}
use Rattle.std.proofs.lemmas.Bool.{false≢true}
use Rattle.link_model.specs.link_types.Leaders.{AreLeaders}
use Rattle.unit_link.proofs.link_program.Leading.{alike_leaders}
use Rattle.link_merge.specs.Classes.{AreClasses, IsRound}
use Rattle.link_merge.specs.Kids.{IsTold}
use Rattle.link_merge.specs.Parted.{lists_of}
use Rattle.link_merge.proofs.Rounding.{settled_now, known_numbers}
use Rattle.link_merge.proofs.Settling.{round_rises, finer_falls}
use Rattle.link_merge.proofs.Spreading.{told_right}
use Rattle.link_merge.proofs.refine.settled.Goals as goal

pub round-requires : goal.round-requires
round-requires c = record {
  collected = c.requires.collected;
  classes = subst (λ (l : List ℕ). AreClasses c.args.units.now c.args.tag_starts.now l) (sym c.as_slice.ensures.value) c.loop-leaders.invariant.classes;
  many = ap (length {A = ℕ}) c.as_slice.ensures.value ∙ c.loop-leaders.invariant.many;
}

pub told-requires : goal.told-requires
told-requires c =
    let r = subst (λ (l : List ℕ). IsRound c.args.units.now c.args.type_starts.now c.args.tag_starts.now c.args.tags.now c.args.counted.now l c.in_ok-types.numbers.items c.in_ok-types.next.items c.in_ok-types.types) c.as_slice.ensures.value c.in_ok-types.ensures in
    let b = c.loop-leaders.invariant in
    let leaders = c.loop-leaders.leaders.items in
    let next = c.in_ok-types.next.items in
    let rises = round_rises c.args.units.now c.args.type_starts.now c.in_ok-types.types c.args.tags.now c.args.counted.now leaders next b.classes.lead r.refined in
    let many = b.many in
    let all = rises.all in
    let few = c.requires.collected.few in
    let before = ap (length {A = ℕ}) c.as_slice-before.ensures.value in
    let now = ap (length {A = ℕ}) c.as_slice-in-loop-leaders-4.ensures.value in
    record {
      same = omega arith;
      few = omega arith;
      lead = subst (λ (l : List ℕ). AreLeaders l) (sym c.as_slice-in-loop-leaders-4.ensures.value) (alike_leaders r.refined.keys next r.refined.alike);
    }

pub loop-leaders-preserved : goal.loop-leaders-preserved
loop-leaders-preserved c =
    let r = subst (λ (l : List ℕ). IsRound c.args.units.now c.args.type_starts.now c.args.tag_starts.now c.args.tags.now c.args.counted.now l c.in_ok-types.numbers.items c.in_ok-types.next.items c.in_ok-types.types) c.as_slice.ensures.value c.in_ok-types.ensures in
    let b = c.loop-leaders.invariant in
    let leaders = c.loop-leaders.leaders.items in
    let next = c.in_ok-types.next.items in
    let rises = round_rises c.args.units.now c.args.type_starts.now c.in_ok-types.types c.args.tags.now c.args.counted.now leaders next b.classes.lead r.refined in
    let kids = ap lists_of c.as_slice-in-loop-leaders-3.ensures.value ∙ c.in_ok-kids.ensures in
    let told = subst (λ (l : List ℕ). IsTold c.in_ok-types.types l (lists_of c.as_slice-in-loop-leaders-3.result.now) c.in_ok-now.now.items) c.as_slice-in-loop-leaders-4.ensures.value c.in_ok-now.ensures in
    let right = told_right c.args.units.now c.args.type_starts.now c.args.tag_starts.now leaders c.in_ok-types.numbers.items next c.in_ok-now.now.items c.args.tags.now c.args.counted.now c.in_ok-types.types (lists_of c.as_slice-in-loop-leaders-3.result.now) c.requires.collected b.classes b.many r kids told in
    record { classes = right.0; many = right.1.all ∙ (sym rises.all ∙ b.many) }

pub loop-leaders-smaller : goal.loop-leaders-smaller
loop-leaders-smaller c =
    let r = subst (λ (l : List ℕ). IsRound c.args.units.now c.args.type_starts.now c.args.tag_starts.now c.args.tags.now c.args.counted.now l c.in_ok-types.numbers.items c.in_ok-types.next.items c.in_ok-types.types) c.as_slice.ensures.value c.in_ok-types.ensures in
    let b = c.loop-leaders.invariant in
    let leaders = c.loop-leaders.leaders.items in
    let next = c.in_ok-types.next.items in
    let rises = round_rises c.args.units.now c.args.type_starts.now c.in_ok-types.types c.args.tags.now c.args.counted.now leaders next b.classes.lead r.refined in
    let kids = ap lists_of c.as_slice-in-loop-leaders-3.ensures.value ∙ c.in_ok-kids.ensures in
    let told = subst (λ (l : List ℕ). IsTold c.in_ok-types.types l (lists_of c.as_slice-in-loop-leaders-3.result.now) c.in_ok-now.now.items) c.as_slice-in-loop-leaders-4.ensures.value c.in_ok-now.ensures in
    let right = told_right c.args.units.now c.args.type_starts.now c.args.tag_starts.now leaders c.in_ok-types.numbers.items next c.in_ok-now.now.items c.args.tags.now c.args.counted.now c.in_ok-types.types (lists_of c.as_slice-in-loop-leaders-3.result.now) c.requires.collected b.classes b.many r kids told in
    finer_falls leaders next c.in_ok-now.now.items rises right.1 (λ same.
    let one = c.as_slice-in-loop-leaders.ensures.value ∙ (same ∙ sym c.as_slice-in-loop-leaders-2.ensures.value) in
    false≢true (sym (sym c.eq.ensures ∙ c.if-eq.false) ∙ (bytes_decides c.as_slice-in-loop-leaders.result.now c.as_slice-in-loop-leaders-2.result.now).1 one))

pub returns-then-eq : goal.returns-then-eq
returns-then-eq c =
    let r = subst (λ (l : List ℕ). IsRound c.args.units.now c.args.type_starts.now c.args.tag_starts.now c.args.tags.now c.args.counted.now l c.in_ok-types.numbers.items c.in_ok-types.next.items c.in_ok-types.types) c.as_slice.ensures.value c.in_ok-types.ensures in
    let b = c.loop-leaders.invariant in
    let leaders = c.loop-leaders.leaders.items in
    let next = c.in_ok-types.next.items in
    let one = (bytes_decides c.as_slice-in-loop-leaders.result.now c.as_slice-in-loop-leaders-2.result.now).0 (sym c.eq.ensures ∙ c.if-eq.true) in
    let same : next ≡ leaders = sym c.as_slice-in-loop-leaders.ensures.value ∙ (one ∙ c.as_slice-in-loop-leaders-2.ensures.value) in
    record {
      settled = settled_now c.args.units.now c.args.type_starts.now c.args.tag_starts.now leaders c.in_ok-types.numbers.items next c.args.tags.now c.args.counted.now c.in_ok-types.types c.requires.collected b.classes b.many r same;
      many = r.many ∙ b.many;
      known = known_numbers leaders c.in_ok-types.numbers.items c.in_ok-types.types.tags b.classes.lead r.numbered;
    }
