use Rattle.std.proofs.Common.{arith, ◌∙◌, ◌-◌, ◌<◌, ◌≤◌, ap, refl, ℕ, [], length, get_or}
use Rattle.std.proofs.lemmas.List.Elements.{All-get_or}
use Rattle.std.proofs.lemmas.Option.{get_or_from_slice_get}
use Rattle.c_types.specs.declared.term.MemberTerm.{MemberTerm}
use Rattle.c_types.specs.Trees.{tree_at, grown}
use Rattle.c_types.specs.Inside.{terms_of, element_of}
use Rattle.c_types.proofs.Read.{entry_at}
use Rattle.c_types.proofs.Grow.{types_length}
use Rattle.c_types.proofs.parts.member_at.Goals as goal

pub returns : goal.returns
returns c =
    let entries = c.args.entries.now in
    let types = grown [] (terms_of entries) in
    let ms = c.args.members.now in
    let n = c.starts_up_to-member.result in
    let some : 0 < n = starts_some n (length c.args.positions.now) c.requires.some (λ z. c.starts_up_to-member.ensures.above 0 z c.requires.some) (omega (arith, c.requires.first)) in
    let k = n - 1 in
    let lt : k < length ms = omega arith in
    let m = c.index-members-member.result in
    let inside : (get_or ms k m).ty.0 < length entries = All-get_or (λ (x : MemberTerm). x.ty.0 < length entries) ms k m lt c.requires.members in
    let e = entry_at entries _ c.requires.entries.1 (get_or ms k m).ty.0 c.index-entries-members.result inside in (
      k,
      record {
        within = lt;
        before = omega (arith, e.element_before, types_length entries);
        element = λ x at. e.element ∙ ap (λ (y : MemberTerm). element_of (tree_at types y.ty.0)) (get_or_from_slice_get ms k x m at);
        begin = refl;
        up_to = λ j h. let below = c.starts_up_to-member.ensures.below j (omega arith) in omega arith;
        past = λ j h g. let above = c.starts_up_to-member.ensures.above j (omega arith) g in omega arith;
      },
    )
  where
    starts_some : (n len : ℕ) {a b : ℕ} → 0 < len → (n ≤ 0 → a < b) → b ≤ a → 0 < n
    starts_some n len some above first = grind (arith, above)
