use Rattle.std.proofs.Common.{◌≡◌, ◌⊎◌, ◌↔◌, ℕ, OnOk, List, length, ap, ◌∙◌, subst, inl}
use Rattle.sol_model.specs.Families.{Has, members}
use Rattle.new_members.specs.News.{IsIn}
use Rattle.new_members.proofs.Answering.{on_ok}
use Rattle.new_members.proofs.Renewals.{extends_none}
use Rattle.new_members.proofs.Unread.{nothing_new}
use Rattle.round_settling.specs.Extents.{AreExtents}
use Rattle.round_settling.proofs.Extents.{extents_taken}
use Rattle.round_settling.proofs.settling.take_turn.Goals as goal

pub returns-then-is_idle-clause-has : goal.returns-then-is_idle-clause-has
returns-then-is_idle-clause-has c =
    let turn = c.args.turn.now in
    nothing_new (members c.args.done.now) turn.row turn.first turn.end turn.done.items (c.is_idle.ensures.idle c.if-is_idle.true) c.requires.change.among

pub returns-then-is_idle-clause-kept : goal.returns-then-is_idle-clause-kept
returns-then-is_idle-clause-kept c = extends_none c.args.book.now

pub returns-then-is_idle-clause-book : goal.returns-then-is_idle-clause-book
returns-then-is_idle-clause-book c = record { stays = λ a b h. h; sound = λ a b h. inl h; whole = λ a b h. inl h }

pub returns-then-is_idle-clause-facts : goal.returns-then-is_idle-clause-facts
returns-then-is_idle-clause-facts c = record { stays = λ a b h. h; sound = λ a b h. inl h; whole = λ a b h. inl h }

pub renew-requires-clause-sized : goal.renew-requires-clause-sized
renew-requires-clause-sized c = ap (λ (xs : List ℕ). length xs) c.as_slice.ensures.value ∙ c.requires.turn.sized (c.is_idle.ensures.busy c.if-is_idle.false)

pub renew-requires-clause-known : goal.renew-requires-clause-known
renew-requires-clause-known c location h = c.requires.turn.known location (subst (λ (xs : List ℕ). IsIn xs location) c.as_slice.ensures.value h)

pub renew-requires-clause-among : goal.renew-requires-clause-among
renew-requires-clause-among c location h out = c.requires.change.among location (subst (λ (xs : List ℕ). IsIn xs location) c.as_slice.ensures.value h) out

pub renew-requires-clause-range : goal.renew-requires-clause-range
renew-requires-clause-range c = c.requires.change.range

pub returns-clause-has : goal.returns-clause-has
returns-clause-has c =
    subst (λ (xs : List ℕ). OnOk c.renew.result ((row location : ℕ) → (Has (members c.renew.new.rows) row location ↔ (Has (members c.args.done.now) row location ⊎ ((row ≡ c.args.turn.now.row) × IsIn xs location)))))
    c.as_slice.ensures.value c.renew.ensures.has

pub returns-clause-extents : goal.returns-clause-extents
returns-clause-extents c =
    let turn = c.args.turn.now in
    let done = c.args.done.now in
    let after = c.renew.new.rows in
    let new = c.widen_extent.new.extents.items in
    let Gets : List ℕ → Type 0 = λ xs. (row location : ℕ) → (Has (members after) row location ↔ (Has (members done) row location ⊎ ((row ≡ turn.row) × IsIn xs location))) in
    on_ok c.renew.result (Gets turn.done.items) (AreExtents after new)
    (λ has. extents_taken done after c.args.extents.now.items new turn c.requires.extents c.widen_extent.ensures c.requires.change.among has)
    (subst (λ (xs : List ℕ). OnOk c.renew.result (Gets xs)) c.as_slice.ensures.value c.renew.ensures.has)
