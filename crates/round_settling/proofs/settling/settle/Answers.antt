use Rattle.std.proofs.Common.{◌≡◌, ℕ, ◌+◌, ◌≤◌, List, [], take, map, Contains, sym, ◌∙◌, subst, inl, inr, arith}
use Rattle.sol_model.specs.Families.{members}
use Rattle.sol_model.specs.declared.system.System.{System}
use Rattle.sol_model.specs.Systems.{IsRow, IsLocation, Fits, width_of}
use Rattle.set_rows.specs.Views.{known}
use Rattle.set_rows.specs.Calls.{view}
use Rattle.set_rows.proofs.Adding.{known_more}
use Rattle.round_pieces.specs.delta_prop.Deltas.{AllDemanded}
use Rattle.new_members.specs.News.{IsFact, words_at}
use Rattle.round_pieces.specs.Rounds.{IsTakenIn}
use Rattle.round_pieces.proofs.Ending.{turns_of, after_inside, facts_demanded, facts_known, more_demanded, first_carried, settled_again, fact_more, worked_known}
use Rattle.round_pieces.specs.Turns.{row_of}
use Rattle.round_pieces.specs.Balance.{spent}
use Rattle.round_pieces.specs.Work.{edge_work}
use Rattle.round_pieces.proofs.Sums.{apart_list}
use Rattle.round_settling.specs.Extents.{AreExtents}
use Rattle.round_settling.proofs.Working.{old_edges, round_paid, turns_pay}
use Rattle.round_settling.proofs.settling.settle.Goals as goal

pub take_in-requires-clause-turns : goal.take_in-requires-clause-turns
take_in-requires-clause-turns c =
    let S = c.args.ground.now.system.now in
    let round = c.requires.worked.1 in
    let v = c.requires.worked.0 in
    let w = view c.args.seat.now in
    let own : w.system ≡ S = c.requires.own.1 ∙ c.requires.system in
    let book = c.args.progress.now.book in
    let done = c.args.progress.now.done in
    let turns = c.args.turns.now in
    turns_of S v w book [] [] done done turns c.requires.valid own round

pub take_in-requires-clause-changes : goal.take_in-requires-clause-changes
take_in-requires-clause-changes c = c.requires.worked.1.changes

pub add_facts-requires-clause-known : goal.add_facts-requires-clause-known
add_facts-requires-clause-known c row location h =
    let S = c.args.ground.now.system.now in
    let round = c.requires.worked.1 in
    let v = c.requires.worked.0 in
    let w = view c.args.seat.now in
    let own : w.system ≡ S = c.requires.own.1 ∙ c.requires.system in
    let book = c.args.progress.now.book in
    let done = c.args.progress.now.done in
    let turns = c.args.turns.now in
    let more = c.take_in.new.book in
    let after = c.take_in.new.done in
    let news = c.take_in.new.facts.items in
    let taken : IsTakenIn S turns done after book more [] news = subst (λ (xs : List (ℕ × ℕ)). IsTakenIn S turns done after book more xs news) c.new-demanded.ensures.items c.in_ok-take_in.ensures.taken in
    let there : Contains news (row, location) = subst (λ (xs : List (ℕ × ℕ)). Contains xs (row, location)) c.as_slice.ensures.value h in
    subst (λ (T : System). IsRow T row × IsLocation T location) (sym c.requires.system) (facts_known S v w book more news done after turns c.requires.valid own round taken row location there)

pub add_facts-requires-clause-demanded : goal.add_facts-requires-clause-demanded
add_facts-requires-clause-demanded c row location h =
    let S = c.args.ground.now.system.now in
    let round = c.requires.worked.1 in
    let v = c.requires.worked.0 in
    let w = view c.args.seat.now in
    let own : w.system ≡ S = c.requires.own.1 ∙ c.requires.system in
    let book = c.args.progress.now.book in
    let done = c.args.progress.now.done in
    let turns = c.args.turns.now in
    let more = c.take_in.new.book in
    let after = c.take_in.new.done in
    let news = c.take_in.new.facts.items in
    let taken : IsTakenIn S turns done after book more [] news = subst (λ (xs : List (ℕ × ℕ)). IsTakenIn S turns done after book more xs news) c.new-demanded.ensures.items c.in_ok-take_in.ensures.taken in
    let there : Contains news (row, location) = subst (λ (xs : List (ℕ × ℕ)). Contains xs (row, location)) c.as_slice.ensures.value h in
    subst (λ (T : System). IsFact T (known w) row location) (sym c.requires.system) (facts_demanded S v w book more news done after turns c.requires.valid own round taken w (λ r l k. k) row location there)

pub carry_new-requires-clause-fits : goal.carry_new-requires-clause-fits
carry_new-requires-clause-fits c = subst (λ (T : System). Fits T c.take_in.new.done) (sym c.requires.system) c.in_ok-take_in.ensures.taken.fits

pub carry_new-requires-clause-inside : goal.carry_new-requires-clause-inside
carry_new-requires-clause-inside c row location h =
    let S = c.args.ground.now.system.now in
    let round = c.requires.worked.1 in
    let v = c.requires.worked.0 in
    let w = view c.args.seat.now in
    let own : w.system ≡ S = c.requires.own.1 ∙ c.requires.system in
    let book = c.args.progress.now.book in
    let done = c.args.progress.now.done in
    let turns = c.args.turns.now in
    let more = c.take_in.new.book in
    let after = c.take_in.new.done in
    let news = c.take_in.new.facts.items in
    let taken : IsTakenIn S turns done after book more [] news = subst (λ (xs : List (ℕ × ℕ)). IsTakenIn S turns done after book more xs news) c.new-demanded.ensures.items c.in_ok-take_in.ensures.taken in
    known_more w (view c.add_facts.new.seat) c.in_ok-add_facts.ensures.view row location (after_inside S v w book more news done after turns c.requires.valid own round taken row location h)

pub carry_new-requires-clause-demanded : goal.carry_new-requires-clause-demanded
carry_new-requires-clause-demanded c =
    let S = c.args.ground.now.system.now in
    let round = c.requires.worked.1 in
    let v = c.requires.worked.0 in
    let w = view c.args.seat.now in
    let own : w.system ≡ S = c.requires.own.1 ∙ c.requires.system in
    let book = c.args.progress.now.book in
    let done = c.args.progress.now.done in
    let turns = c.args.turns.now in
    let more = c.take_in.new.book in
    let after = c.take_in.new.done in
    let news = c.take_in.new.facts.items in
    let taken : IsTakenIn S turns done after book more [] news = subst (λ (xs : List (ℕ × ℕ)). IsTakenIn S turns done after book more xs news) c.new-demanded.ensures.items c.in_ok-take_in.ensures.taken in
    let x = view c.add_facts.new.seat in
    subst (λ (T : System). AllDemanded T (known x) more) (sym c.requires.system) (more_demanded S v w book more news done after turns c.requires.valid own round taken x (known_more w x c.in_ok-add_facts.ensures.view))

pub carry_new-requires-clause-carried : goal.carry_new-requires-clause-carried
carry_new-requires-clause-carried c =
    let S = c.args.ground.now.system.now in
    let round = c.requires.worked.1 in
    let v = c.requires.worked.0 in
    let w = view c.args.seat.now in
    let own : w.system ≡ S = c.requires.own.1 ∙ c.requires.system in
    let book = c.args.progress.now.book in
    let done = c.args.progress.now.done in
    let turns = c.args.turns.now in
    let more = c.take_in.new.book in
    let after = c.take_in.new.done in
    let news = c.take_in.new.facts.items in
    let taken : IsTakenIn S turns done after book more [] news = subst (λ (xs : List (ℕ × ℕ)). IsTakenIn S turns done after book more xs news) c.new-demanded.ensures.items c.in_ok-take_in.ensures.taken in
    let x = view c.add_facts.new.seat in
    first_carried S v w book more news done after turns c.requires.valid own round taken x c.len-first.result c.len-first.ensures.len c.in_ok-take_in.ensures.kept (known_more w x c.in_ok-add_facts.ensures.view)

pub carry_new-requires-clause-extents : goal.carry_new-requires-clause-extents
carry_new-requires-clause-extents c = subst (AreExtents c.take_in.new.done) (sym c.as_slice-2.ensures.value) c.in_ok-take_in.ensures.extents

pub returns-clause-extents : goal.returns-clause-extents
returns-clause-extents c = c.in_ok-take_in.ensures.extents

pub returns-in_err-carry_new-clause-sound : goal.returns-in_err-carry_new-clause-sound
returns-in_err-carry_new-clause-sound c s = c.in_err-carry_new.ensures.sound (c.in_ok-add_facts.ensures.sound s)

pub returns-clause-sound : goal.returns-clause-sound
returns-clause-sound c s = c.in_ok-carry_new.ensures.sound (c.in_ok-add_facts.ensures.sound s)

pub returns-clause-settled : goal.returns-clause-settled
returns-clause-settled c =
    let S = c.args.ground.now.system.now in
    let round = c.requires.worked.1 in
    let v = c.requires.worked.0 in
    let w = view c.args.seat.now in
    let own : w.system ≡ S = c.requires.own.1 ∙ c.requires.system in
    let book = c.args.progress.now.book in
    let done = c.args.progress.now.done in
    let turns = c.args.turns.now in
    let more = c.take_in.new.book in
    let after = c.take_in.new.done in
    let news = c.take_in.new.facts.items in
    let taken : IsTakenIn S turns done after book more [] news = subst (λ (xs : List (ℕ × ℕ)). IsTakenIn S turns done after book more xs news) c.new-demanded.ensures.items c.in_ok-take_in.ensures.taken in
    let x = view c.add_facts.new.seat in
    let y = view c.carry_new.new.seat in
    settled_again S v w book more news done after turns c.requires.valid own round taken x y (known_more w x c.in_ok-add_facts.ensures.view) (known_more x y c.in_ok-carry_new.ensures.view)
    (c.in_ok-carry_new.ensures.sound (c.in_ok-add_facts.ensures.sound (round.worked.sound round.before.sound)))
    (λ row location h. c.in_ok-add_facts.ensures.has row location (subst (λ (xs : List (ℕ × ℕ)). Contains xs (row, location)) (sym c.as_slice.ensures.value) h))
    c.in_ok-carry_new.ensures.carried

pub add_facts-requires-clause-had : goal.add_facts-requires-clause-had
add_facts-requires-clause-had c row location h =
    let round = c.requires.worked.1 in
    worked_known c.requires.worked.0 (view c.args.seat.now) round.worked row location (round.before.treated.facts row location (c.requires.booked.demanded row location h))

pub returns-clause-booked : goal.returns-clause-booked
returns-clause-booked c =
    let S = c.args.ground.now.system.now in
    let done = c.args.progress.now.done in
    let after = c.take_in.new.done in
    let news = c.take_in.new.facts.items in
    let taken : IsTakenIn S c.args.turns.now done after c.args.progress.now.book c.take_in.new.book [] news = subst (λ (xs : List (ℕ × ℕ)). IsTakenIn S c.args.turns.now done after c.args.progress.now.book c.take_in.new.book xs news) c.new-demanded.ensures.items c.in_ok-take_in.ensures.taken in
    record {
      edges = c.carry_new.ensures.once;
      facts_once = c.add_facts.ensures.once c.requires.booked.facts_once;
      demanded = λ row location h. elim ((c.in_ok-add_facts.ensures.facts row location).0 h) [
        | inl old ↦ fact_more S (members done) (members after) row location (λ r l d. (taken.has r l).1 (inl d)) (c.requires.booked.demanded row location old)
        | inr new ↦ elim (taken.facts.sound row location (subst (λ (xs : List (ℕ × ℕ)). Contains xs (row, location)) c.as_slice.ensures.value new)) [
          | inl none ↦ absurd (let l = none.1 in omega arith)
          | inr f ↦ f
        ]
      ];
    }

pub returns-clause-paid : goal.returns-clause-paid
returns-clause-paid c =
    let S = c.args.ground.now.system.now in
    let round = c.requires.worked.1 in
    let book = c.args.progress.now.book in
    let done = c.args.progress.now.done in
    let turns = c.args.turns.now in
    let more = c.take_in.new.book in
    let after = c.take_in.new.done in
    let news = c.take_in.new.facts.items in
    let taken : IsTakenIn S turns done after book more [] news = subst (λ (xs : List (ℕ × ℕ)). IsTakenIn S turns done after book more xs news) c.new-demanded.ensures.items c.in_ok-take_in.ensures.taken in
    let w = view c.args.seat.now in
    let x = view c.add_facts.new.seat in
    let y = view c.carry_new.new.seat in
    round_paid S w x y done after book more c.args.progress.now.facts c.add_facts.new.facts (spent (width_of S) book (words_at done) turns)
    (turns_pay S done after book more [] news turns round.before.ready.fits taken (apart_list (map row_of turns) round.once))
    c.in_ok-add_facts.ensures.ors
    (subst (λ (xs : List (ℕ × ℕ)). y.ors + edge_work S (members after) xs ≤ x.ors + edge_work S (members after) more) (old_edges book more c.len-first.result c.len-first.ensures.len c.in_ok-take_in.ensures.kept)
    (subst (λ (T : System). y.ors + edge_work T (members after) (take c.len-first.result more) ≤ x.ors + edge_work T (members after) more) c.requires.system c.in_ok-carry_new.ensures.ors))
