use Rattle.std.proofs.Common.{◌≡◌, ◌<◌, length, ap, sym, ◌∙◌, subst, arith}
use Rattle.sol_model.specs.declared.system.System.{System}
use Rattle.sol_model.specs.Families.{Has}
use Rattle.sol_model.specs.Systems.{location_count}
use Rattle.set_rows.specs.declared.view.View.{View}
use Rattle.set_rows.specs.Views.{known, words_of}
use Rattle.set_rows.specs.Calls.{system_of, view}
use Rattle.set_rows.proofs.Samples.{address_licensed, address_added, three_words}
use Rattle.solver_cases.proofs.row_cases.shared.add_address.Goals as goal

pub add-requires-clause-licensed : goal.add-requires-clause-licensed
add-requires-clause-licensed c row location at =
    address_licensed (system_of c.args.table.now) (known (view c.args.seat.now)) c.args.row row location c.requires.rows.1 c.requires.demanded at

pub returns-clause-has : goal.returns-clause-has
returns-clause-has c =
    let v : View = view c.args.seat.now in
    let S : System = system_of c.args.table.now in
    let long : length v.seen ≡ words_of S = c.args.seat.now.sized ∙ ap words_of c.requires.own.1 in
    let all : words_of S ≡ 3 = three_words S c.requires.rows.0 c.requires.rows.1 in
    let lt : c.args.row < length v.seen = omega arith in
    subst (λ (u : View). Has (known u) c.args.row 0) (sym c.add.ensures.view)
    (address_added v c.args.row c.add.result (ap location_count c.requires.own.1 ∙ c.requires.rows.1) lt)
