use Rattle.std.proofs.Common.{◌≡◌, ℕ, get_or, slice_get, Some, Contains, refl, sym, ap, ◌∙◌, subst, inl, inr, arith}
use Rattle.std.proofs.lemmas.Bool.{cases_eq}
use Rattle.std.proofs.lemmas.Option.{slice_get-get_or, same_Some}
use Rattle.std.proofs.lemmas.List.Elements.{Contains-get_or}
use Rattle.edge_book.proofs.Gaining.{gains_same}
use Rattle.sol_model.specs.Families.{Has}
use Rattle.sol_model.proofs.Members.{at_Contains}
use Rattle.set_rows.specs.Views.{known}
use Rattle.set_rows.specs.Calls.{system_of, view}
use Rattle.set_rows.proofs.Adding.{added_twice, known_more, nothing_added}
use Rattle.new_members.proofs.Through.{OfAll, through_none, through_next, through_all}
use Rattle.round_pieces.proofs.Ending.{fact_more}
use Rattle.round_settling.proofs.settling.add_facts.Goals as goal

abbrev Same : ℕ × ℕ → ℕ → ℕ → Type 0
Same pair a b = (a ≡ pair.0) × (b ≡ pair.1)

pub loop-row-init : goal.loop-row-init
loop-row-init c = record {
  own = c.requires.own;
  more = nothing_added (view c.args.seat.now);
  sound = λ s. s;
  has = λ k row location lt. absurd (omega arith);
  had = c.requires.had;
  facts = through_none c.args.demanded.now Same c.args.facts.now;
  once = λ h. h;
  ors = omega arith;
}

pub add_once-requires-clause-known : goal.add_once-requires-clause-known
add_once-requires-clause-known c =
    let pair : ℕ × ℕ = get_or c.args.demanded.now c.loop-row.row-index (0, 0) in
    c.requires.known pair.0 pair.1 (Contains-get_or c.args.demanded.now c.loop-row.row-index (0, 0) c.loop-row-test.true)

pub add_once-requires-clause-demanded : goal.add_once-requires-clause-demanded
add_once-requires-clause-demanded c =
    let pair : ℕ × ℕ = get_or c.args.demanded.now c.loop-row.row-index (0, 0) in
    let v = view c.args.seat.now in
    let u = view c.loop-row.seat in
    fact_more (system_of c.args.table.now) (known v) (known u) pair.0 pair.1 (known_more v u c.loop-row.invariant.more)
    (c.requires.demanded pair.0 pair.1 (Contains-get_or c.args.demanded.now c.loop-row.row-index (0, 0) c.loop-row-test.true))

pub add_once-requires-clause-had : goal.add_once-requires-clause-had
add_once-requires-clause-had c h =
    let pair : ℕ × ℕ = get_or c.args.demanded.now c.loop-row.row-index (0, 0) in
    c.loop-row.invariant.had pair.0 pair.1 h

pub loop-row-preserved : goal.loop-row-preserved
loop-row-preserved c =
    let demanded = c.args.demanded.now in
    let i : ℕ = c.loop-row.row-index in
    let pair : ℕ × ℕ = get_or demanded i (0, 0) in
    let v = view c.args.seat.now in
    let u = view c.loop-row.seat in
    let w = view c.add_once.new.seat in
    let inv = c.loop-row.invariant in
    let ens = c.in_ok-add_once.ensures in
    let at : slice_get demanded i ≡ Some pair = slice_get-get_or demanded i (0, 0) c.loop-row-test.true in
    record {
      own = ens.own;
      more = added_twice v u w inv.more ens.view;
      sound = λ s. ens.sound (inv.sound s);
      has = λ k row location lt there. elim (cases_eq k i) [
        | inl e ↦ (let same : pair ≡ (row, location) = same_Some pair (row, location) (sym at ∙ ap (slice_get demanded) (sym e) ∙ there) in subst (λ (p : ℕ × ℕ). Has (known w) p.0 p.1) same ens.has)
        | inr ne ↦ known_more u w ens.view row location (inv.has k row location (omega arith) there)
      ];
      had = λ row location h. elim ((ens.facts row location).0 h) [
        | inl old ↦ known_more u w ens.view row location (inv.had row location old)
        | inr new ↦ subst (λ (p : ℕ × ℕ). Has (known w) p.0 p.1) (λ j. (sym new.0 j, sym new.1 j)) ens.has
      ];
      facts = through_next demanded Same c.args.facts.now c.loop-row.facts c.add_once.new.facts i pair inv.facts at ens.facts;
      once = λ h. ens.once;
      ors = (let a = inv.ors in let b = ens.ors in omega arith);
    }

pub returns-clause-has : goal.returns-clause-has
returns-clause-has c row location h =
    let at = at_Contains c.args.demanded.now (row, location) h in
    c.loop-row.invariant.has at.0 row location (let l = at.1 in let n = c.loop-row-test.false in omega arith) at.2

pub returns-clause-facts : goal.returns-clause-facts
returns-clause-facts c =
    let demanded = c.args.demanded.now in
    gains_same c.args.facts.now c.loop-row.facts (OfAll demanded Same) (λ a b. Contains demanded (a, b))
    (λ a b h. subst (Contains demanded) (λ i. (sym h.2.0 i, sym h.2.1 i)) h.1)
    (λ a b h. ((a, b), h, (refl, refl)))
    (through_all demanded Same c.args.facts.now c.loop-row.facts c.loop-row.row-index (let n = c.loop-row-test.false in omega arith) c.loop-row.invariant.facts)

pub returns-in_err-add_once-clause-sound : goal.returns-in_err-add_once-clause-sound
returns-in_err-add_once-clause-sound c s = c.in_err-add_once.ensures.sound (c.loop-row.invariant.sound s)
