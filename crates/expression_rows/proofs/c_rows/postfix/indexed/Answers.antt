use Rattle.std.proofs.Common.{◌≡◌, List, subst, Ok, Err}
use Rattle.c_consts.specs.Core.{ctype_of}
use Rattle.c_senses.specs.Given.{◌>>=◌}
use Rattle.c_senses.specs.Sense.{Sense, sense_in, value_in}
use Rattle.c_senses.specs.Conversions.{operand_of}
use Rattle.c_senses.specs.Objects.{index_row}
use Rattle.core_nodes.specs.Standing.{core_at, Made}
use Rattle.core_nodes.specs.Sorts.{sort_seen}
use Rattle.core_nodes.proofs.Growing.{knows_on}
use Rattle.core_nodes.proofs.Failing.{fails, follows, made_same}
use Rattle.c_results.specs.Standing.{senses_made}
use Rattle.c_results.proofs.Keeping.{mades_kept}
use Rattle.expression_rows.proofs.c_rows.Steps.{index_same}
use Rattle.expression_rows.proofs.c_rows.postfix.indexed.Goals as goal

pub returns-in-Err-clause-made : goal.returns-in-Err-clause-made
returns-in-Err-clause-made c w k =
    let u1 = c.value_of.new.unit in
    let sense = sense_in (senses_made c.args.unit.now c.args.results.now) in
    fails u1 u1 c.in-Err.fault (value_in w c.args.at (sense c.args.left))
    (λ a. value_in w c.args.at (sense c.args.right) >>= (λ b. index_row w c.args.place c.args.at a b (operand_of (ctype_of a)) (operand_of (ctype_of b))))
    (c.in-Err.ensures.made w k)

pub returns-in-Err-value_of-clause-made : goal.returns-in-Err-value_of-clause-made
returns-in-Err-value_of-clause-made c w k =
    let u0 = c.args.unit.now in
    let u1 = c.value_of.new.unit in
    let u2 = c.value_of-2.new.unit in
    let sense = sense_in (senses_made u0 c.args.results.now) in
    let k1 = knows_on w u0 u1 c.in-Ok.ensures.builds k in
    let kept = mades_kept u0 u1 c.in-Ok.ensures.builds c.args.results.now c.requires.results in
    let second = subst (λ (l : List Sense). Made u2 (Err c.in-Err-value_of.fault) (value_in w c.args.at (sense_in l c.args.right))) kept (c.in-Err-value_of.ensures.made w k1) in
    follows u1 u2 c.in-Ok.node (Err c.in-Err-value_of.fault) (value_in w c.args.at (sense c.args.left))
    (λ a. value_in w c.args.at (sense c.args.right) >>= (λ b. index_row w c.args.place c.args.at a b (operand_of (ctype_of a)) (operand_of (ctype_of b))))
    (c.in-Ok.ensures.made w k)
    (fails u2 u2 c.in-Err-value_of.fault (value_in w c.args.at (sense c.args.right))
    (λ b. index_row w c.args.place c.args.at (core_at u1 c.in-Ok.node) b (operand_of (ctype_of (core_at u1 c.in-Ok.node))) (operand_of (ctype_of b))) second)

pub returns-clause-made : goal.returns-clause-made
returns-clause-made c w k =
    let u0 = c.args.unit.now in
    let u1 = c.value_of.new.unit in
    let u2 = c.value_of-2.new.unit in
    let u3 = c.index_row.new.unit in
    let sense = sense_in (senses_made u0 c.args.results.now) in
    let k1 = knows_on w u0 u1 c.in-Ok.ensures.builds k in
    let k2 = knows_on w u1 u2 c.in-Ok-value_of.ensures.builds k1 in
    let kept = mades_kept u0 u1 c.in-Ok.ensures.builds c.args.results.now c.requires.results in
    let second = subst (λ (l : List Sense). Made u2 (Ok c.in-Ok-value_of.node) (value_in w c.args.at (sense_in l c.args.right))) kept (c.in-Ok-value_of.ensures.made w k1) in
    let left : core_at u2 c.in-Ok.node ≡ core_at u1 c.in-Ok.node = c.in-Ok-value_of.ensures.builds.cores c.in-Ok.node c.in-Ok.ensures.within in
    let row = made_same u3 c.index_row.result _ _
    (index_same w c.args.place c.args.at (core_at u2 c.in-Ok.node) (core_at u1 c.in-Ok.node) (core_at u2 c.in-Ok-value_of.node) (sort_seen u2.types c.sort_of_node-x.result) (sort_seen u2.types c.sort_of_node-y.result) c.sort_of_node-x.ensures.sort c.sort_of_node-y.ensures.sort left)
    (c.index_row.ensures.made w k2) in
    follows u1 u3 c.in-Ok.node c.index_row.result (value_in w c.args.at (sense c.args.left))
    (λ a. value_in w c.args.at (sense c.args.right) >>= (λ b. index_row w c.args.place c.args.at a b (operand_of (ctype_of a)) (operand_of (ctype_of b))))
    (c.in-Ok.ensures.made w k)
    (follows u2 u3 c.in-Ok-value_of.node c.index_row.result (value_in w c.args.at (sense c.args.right))
    (λ b. index_row w c.args.place c.args.at (core_at u1 c.in-Ok.node) b (operand_of (ctype_of (core_at u1 c.in-Ok.node))) (operand_of (ctype_of b))) second row)
