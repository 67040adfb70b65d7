use Rattle.std.proofs.Common.{◌<◌, ℕ, List, All, length, sym, subst, ◌∙◌, arith}
use Rattle.link_model.specs.link_types.Joined.{AreStarts, AreKeyed, AreJoined, tag_in}
use Rattle.link_model.specs.link_types.Leaders.{AreNumbers}
use Rattle.link_merge.proofs.Rounding.{of_tags, counted_within, starts_of_numbers, known_numbers, keyed_numbers, stand_shown}
use Rattle.link_merge.proofs.Settling.{joined_shown}
use Rattle.link_merge.proofs.refine.round.Goals as goal

pub joined-requires-clause-starts : goal.joined-requires-clause-starts
joined-requires-clause-starts c =
    let n = c.in_ok-numbers.numbers.items in
    subst (λ (l : List ℕ). AreStarts c.args.units.now c.args.tag_starts.now (length l)) (sym c.as_slice.ensures.value)
    (starts_of_numbers c.args.units.now c.args.type_starts.now c.args.tag_starts.now n c.args.tags.now c.args.counted.now c.requires.collected (c.in_ok-numbers.ensures.all ∙ c.requires.many))

pub joined-requires-clause-known : goal.joined-requires-clause-known
joined-requires-clause-known c =
    subst (λ (l : List ℕ). All (λ k. k < c.in_ok-numbers.count) l) (sym c.as_slice.ensures.value)
    (known_numbers c.args.leaders.now c.in_ok-numbers.numbers.items c.in_ok-numbers.count c.requires.classes.lead c.in_ok-numbers.ensures)

pub joined-requires-clause-keyed : goal.joined-requires-clause-keyed
joined-requires-clause-keyed c =
    subst (λ (l : List ℕ). AreKeyed c.args.units.now c.args.tag_starts.now l) (sym c.as_slice.ensures.value)
    (keyed_numbers c.args.units.now c.args.type_starts.now c.args.tag_starts.now c.args.leaders.now c.in_ok-numbers.numbers.items c.args.tags.now c.args.counted.now c.in_ok-numbers.count c.requires.collected c.requires.classes c.requires.many c.in_ok-numbers.ensures)

pub refined-requires : goal.refined-requires
refined-requires c =
    let many = c.requires.many in
    let counted = c.requires.collected.many in
    let few = c.requires.collected.few in
    let n = c.in_ok-numbers.numbers.items in
    let joined = subst (λ (l : List ℕ). AreJoined c.args.units.now c.args.tag_starts.now l c.in_ok-types.types (length c.args.units.now)) c.as_slice.ensures.value c.in_ok-types.ensures.joined in
    record {
      tags = of_tags c.args.units.now c.args.type_starts.now c.args.tag_starts.now c.args.tags.now c.args.counted.now c.requires.collected;
      counted = counted_within c.args.units.now c.args.type_starts.now c.args.tag_starts.now c.args.tags.now c.args.counted.now c.requires.collected;
      many = omega arith;
      few = omega arith;
      stand = stand_shown c.args.units.now c.args.type_starts.now (tag_in c.args.tag_starts.now n) c.in_ok-types.types (joined_shown c.args.units.now c.args.type_starts.now c.args.tag_starts.now n c.in_ok-types.types c.requires.collected.type_sums joined);
    }

pub returns : goal.returns
returns c =
    let n = c.in_ok-numbers.numbers.items in
    let joined = subst (λ (l : List ℕ). AreJoined c.args.units.now c.args.tag_starts.now l c.in_ok-types.types (length c.args.units.now)) c.as_slice.ensures.value c.in_ok-types.ensures.joined in
    record {
      many = c.in_ok-numbers.ensures.all;
      numbered = subst (λ k. AreNumbers c.args.leaders.now n k) (sym c.in_ok-types.ensures.tags) c.in_ok-numbers.ensures;
      shown = joined_shown c.args.units.now c.args.type_starts.now c.args.tag_starts.now n c.in_ok-types.types c.requires.collected.type_sums joined;
      completed = c.in_ok-types.ensures.completed;
      refined = c.in_ok-next.ensures;
    }
