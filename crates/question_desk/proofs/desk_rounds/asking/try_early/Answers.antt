use Rattle.std.proofs.Common.{arith, ◌≡◌, ◌<◌, length}
use Rattle.std.proofs.lemmas.Option.{slice_get-get_or}
use Rattle.set_rows.specs.Calls.{view}
use Rattle.alias_query.proofs.ask_rounds.Keeping.{asked_again, held_more}
use Rattle.question_desk.proofs.desk_rounds.asking.try_early.Goals as goal

pub loop-preserved : goal.loop-preserved
loop-preserved c =
    let asked = asked_again (view c.args.seat.now) (view c.loop.seat) (view c.tried.new.seat) c.loop.invariant.1 c.tried.ensures.asked in
    let count : length c.loop.answers ≡ length c.args.questions.now = c.loop.invariant.2.count in
    let within : c.args.place < length c.loop.answers = omega (arith, count, c.requires.place) in (
      c.tried.ensures.own,
      asked,
      held_more c.args.queries.now.system.now c.args.questions.now c.loop.answers c.args.place _ c.tried.result (slice_get-get_or c.args.questions.now c.args.place _ c.requires.place) within c.tried.ensures.held c.loop.invariant.2,
    )
