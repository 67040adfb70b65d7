use Rattle.std.proofs.Common.{◌≡◌, ℕ, ◌+◌, ◌*◌, ◌/◌, ◌%◌, ◌<◌, length, sym, ap, ◌∙◌, subst, arith}
use Rattle.sol_model.specs.Families.{Has}
use Rattle.set_rows.specs.declared.view.View.{View}
use Rattle.set_rows.specs.Views.{OnlyAdded, known, words_of}
use Rattle.set_rows.specs.Calls.{system_of, view}
use Rattle.set_rows.proofs.Adding.{add_only_adds}
use Rattle.round_pieces.specs.delta_prop.Deltas.{IsSound}
use Rattle.round_pieces.proofs.delta_prop.Sounding.{sound_add_by}
use Rattle.round_settling.proofs.Steps.{one_bit, fact_licence, fact_word, fact_added}
use Rattle.round_settling.proofs.settling.add_fact.Goals as goal

pub add-requires-clause-word : goal.add-requires-clause-word
add-requires-clause-word c = fact_word (system_of c.args.table.now) c.args.row c.args.location c.args.width c.requires.width c.requires.known.0 c.requires.known.1

pub add-requires-clause-licensed : goal.add-requires-clause-licensed
add-requires-clause-licensed c = fact_licence (system_of c.args.table.now) (known (view c.args.seat.now)) c.args.row c.args.location c.args.width c.requires.width c.requires.known.1 c.requires.demanded

pub returns-clause-view : goal.returns-clause-view
returns-clause-view c =
    let S = system_of c.args.table.now in
    let v = view c.args.seat.now in
    let word : ℕ = c.args.row * c.args.width + c.args.location / 64 in
    let lt : word < length v.seen = (let w = fact_word S c.args.row c.args.location c.args.width c.requires.width c.requires.known.0 c.requires.known.1 in let n : length v.seen ≡ words_of S = c.args.seat.now.sized ∙ ap words_of c.requires.own.1 in omega arith) in
    subst (OnlyAdded v) (sym c.add.ensures.view) (add_only_adds v word (one_bit (c.args.location % 64)) c.add.result lt c.add.ensures.seen)

pub returns-clause-sound : goal.returns-clause-sound
returns-clause-sound c sound =
    let S = system_of c.args.table.now in
    let v = view c.args.seat.now in
    let word : ℕ = c.args.row * c.args.width + c.args.location / 64 in
    let lt : word < length v.seen = (let w = fact_word S c.args.row c.args.location c.args.width c.requires.width c.requires.known.0 c.requires.known.1 in let n : length v.seen ≡ words_of S = c.args.seat.now.sized ∙ ap words_of c.requires.own.1 in omega arith) in
    subst IsSound (sym c.add.ensures.view) (sound_add_by S v word (one_bit (c.args.location % 64)) c.add.result c.requires.own.1 lt c.add.ensures.below
    (fact_licence S (known v) c.args.row c.args.location c.args.width c.requires.width c.requires.known.1 c.requires.demanded) sound)

pub returns-clause-has : goal.returns-clause-has
returns-clause-has c =
    let S = system_of c.args.table.now in
    let v = view c.args.seat.now in
    let word : ℕ = c.args.row * c.args.width + c.args.location / 64 in
    let lt : word < length v.seen = (let w = fact_word S c.args.row c.args.location c.args.width c.requires.width c.requires.known.0 c.requires.known.1 in let n : length v.seen ≡ words_of S = c.args.seat.now.sized ∙ ap words_of c.requires.own.1 in omega arith) in
    subst (λ (x : View). Has (known x) c.args.row c.args.location) (sym c.add.ensures.view) (fact_added S v c.args.row c.args.location c.args.width c.add.result c.requires.own.1 c.requires.width c.requires.known.1 lt)
