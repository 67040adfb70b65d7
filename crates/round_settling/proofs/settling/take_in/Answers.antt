use Rattle.std.proofs.Common.{◌≡◌, ℕ, ◌+◌, List, [], ◌∷◌, ◌++◌, take, take_all, Contains, sym, ap, ◌∙◌, subst, inl, arith}
use Rattle.std.proofs.lemmas.List.{take_more}
use Rattle.std.proofs.lemmas.List.Elements.{Contains-get_or}
use Rattle.round_pieces.specs.declared.delta_prop.turn.Turn.{Turn}
use Rattle.new_members.proofs.Renewals.{extends_none}
use Rattle.new_members.proofs.Through.{kept_both}
use Rattle.round_pieces.specs.Rounds.{IsTakenIn}
use Rattle.round_settling.proofs.Steps.{taken_none, taken_next}
use Rattle.round_settling.proofs.settling.take_in.Goals as goal

pub loop-turn-init : goal.loop-turn-init
loop-turn-init c = record {
  kept = extends_none c.args.book.now;
  taken = taken_none c.args.system.now c.args.done.now c.args.book.now c.args.facts.now.items c.requires.fits;
  extents = c.requires.extents;
}

-- the turn of a number
pub take_turn-requires-clause-turn : goal.take_turn-requires-clause-turn
take_turn-requires-clause-turn c =
    let turns = c.args.turns.now in
    let turn : Turn = c.turn-item.result in
    c.requires.turns turn (subst (Contains turns) (sym c.turn-item.is) (Contains-get_or turns c.loop-turn.turn-index turn c.loop-turn-test.true))

pub take_turn-requires-clause-change : goal.take_turn-requires-clause-change
take_turn-requires-clause-change c =
    let turns = c.args.turns.now in
    let turn : Turn = c.turn-item.result in
    let listed : Contains turns turn = subst (Contains turns) (sym c.turn-item.is) (Contains-get_or turns c.loop-turn.turn-index turn c.loop-turn-test.true) in
    let change = c.requires.changes turn listed in
    record { among = λ location h out. (c.loop-turn.invariant.taken.has turn.row location).1 (inl (change.among location h out)); range = change.range }

pub loop-turn-preserved : goal.loop-turn-preserved
loop-turn-preserved c =
    let S = c.args.system.now in
    let turns = c.args.turns.now in
    let i : ℕ = c.loop-turn.turn-index in
    let turn : Turn = c.turn-item.result in
    let more : take (i + 1) turns ≡ take i turns ++ turn ∷ [] = take_more turns i turn c.loop-turn-test.true ∙ ap (λ (t : Turn). take i turns ++ t ∷ []) (sym c.turn-item.is) in
    let new = c.take_turn.new in
    let ens = c.in_ok-take_turn.ensures in record {
      kept = kept_both c.args.book.now c.loop-turn.book new.book c.loop-turn.invariant.kept ens.kept;
      taken = subst (λ (ts : List Turn). IsTakenIn S ts c.args.done.now new.done c.args.book.now new.book c.args.facts.now.items new.facts.items) (sym more)
          (taken_next S (take i turns) turn c.args.done.now c.loop-turn.done new.done c.args.book.now c.loop-turn.book new.book c.args.facts.now.items c.loop-turn.facts.items new.facts.items c.loop-turn.invariant.taken
          ens.fits ens.has ens.book ens.facts);
      extents = ens.extents;
    }

pub returns-clause-taken : goal.returns-clause-taken
returns-clause-taken c = subst (λ (ts : List Turn). IsTakenIn c.args.system.now ts c.args.done.now c.loop-turn.done c.args.book.now c.loop-turn.book c.args.facts.now.items c.loop-turn.facts.items)
    (take_all c.loop-turn.turn-index c.args.turns.now (let n = c.loop-turn-test.false in omega arith)) c.loop-turn.invariant.taken
