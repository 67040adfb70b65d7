use Rattle.std.proofs.Common.{map, sym, subst}
use Rattle.std.proofs.lemmas.Result.{on_ok_weaker}
use Rattle.c_inits.specs.Tables.{part_of}
use Rattle.c_senses.specs.Given.{Given}
use Rattle.c_senses.specs.Sense.{Sense, sense_in}
use Rattle.c_results.specs.Standing.{senses_made, Rowed}
use Rattle.struct_rows.proofs.Building.{list_none, list_some, made_by}
use Rattle.struct_rows.proofs.rows.listed.Goals as goal

pub returns-in_default-clause-row : goal.returns-in_default-clause-row
returns-in_default-clause-row c = λ w s k.
    list_none w s (sense_in (senses_made c.args.unit.now c.args.results.now)) c.args.at c.args.number c.args.list c.args.is_union (c.in_default.ensures.seen c.args.unit.now)

pub returns-clause-completes : goal.returns-clause-completes
returns-clause-completes c =
    on_ok_weaker c.completed.result (λ done.
    made_by c.args.unit.now c.completed.new.unit c.args.number c.args.list (sense_in (senses_made c.args.unit.now c.args.results.now)) _ (map (part_of c.args.unit.now.types) c.in-Ok.members.items)
    (c.in-Some.ensures.seen c.args.unit.now) (λ w s. c.in-Ok.ensures.seen c.args.unit.now w s) done) c.completed.ensures.completes

pub returns-clause-row : goal.returns-clause-row
returns-clause-row c = λ w s k.
    let sense = sense_in (senses_made c.args.unit.now c.args.results.now) in
    subst (λ (g : Given Sense). Rowed c.completed.new.unit c.completed.result g)
    (sym (list_some w s sense c.args.at c.args.number c.args.list c.args.is_union _ (map (part_of c.args.unit.now.types) c.in-Ok.members.items) (c.in-Some.ensures.seen c.args.unit.now) (c.in-Ok.ensures.seen c.args.unit.now w s)))
    (c.completed.ensures.row w k)
