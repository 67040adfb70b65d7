use Rattle.std.proofs.Common.{ℕ, map, sym, subst, List, Ok, Err}
use Rattle.pta_base.specs.declared.place.Place.{Place}
use Rattle.c_consts.specs.Core.{Core}
use Rattle.c_senses.specs.Given.{Given, ◌>>=◌}
use Rattle.c_senses.specs.Tree.{left_of, place_at}
use Rattle.c_senses.specs.Objects.{call_row}
use Rattle.c_senses.specs.Sense.{sense_in, core_of}
use Rattle.core_nodes.specs.Standing.{core_at, Made}
use Rattle.core_nodes.proofs.Failing.{fails, follows}
use Rattle.c_results.specs.Standing.{senses_made}
use Rattle.tree_reads.specs.Sources.{source_read}
use Rattle.expression_rows.specs.whole_rows.Calls.{argument_cores}
use Rattle.expression_rows.proofs.whole_rows.Arguments.{cores_fail}
use Rattle.expression_rows.proofs.whole_rows.calling.call_parts.Goals as goal

pub returns-in-Err-clause-made : goal.returns-in-Err-clause-made
returns-in-Err-clause-made c w k may =
    let u = c.args.unit.now in
    let s = source_read c.args.syntax.now in
    let S = sense_in (senses_made u c.args.results.now) in
    let at = c.args.at in
    let first = c.args.first in
    let left = subst (λ (l : ℕ). Made u (Err c.in-Err.fault) (core_of at (S l))) c.left_of-left.ensures c.in-Err.ensures.made in
    fails u u c.in-Err.fault (core_of at (S (left_of s first))) (λ f. argument_cores w s S at c.args.parts.now >>= call_row w (place_at s first) at f) left

pub returns-in-Ok-arguments_of-clause-made : goal.returns-in-Ok-arguments_of-clause-made
returns-in-Ok-arguments_of-clause-made c w k may =
    let u = c.args.unit.now in
    let u1 = c.call_row.new.unit in
    let s = source_read c.args.syntax.now in
    let S = sense_in (senses_made u c.args.results.now) in
    let at = c.args.at in
    let first = c.args.first in
    let f = c.in-Ok.node in
    let list = argument_cores w s S at c.args.parts.now in
    let left = subst (λ (l : ℕ). Made u (Ok f) (core_of at (S l))) c.left_of-left.ensures c.in-Ok.ensures.made in
    let call = subst (λ (l : List ℕ). Made u1 c.call_row.result (call_row w c.place_of-place.result at (core_at u f) (map (λ i. core_at u i) l))) c.as_slice.ensures (c.call_row.ensures.made w k may) in
    let placed = subst (λ (p : Place). Made u1 c.call_row.result (call_row w p at (core_at u f) (map (λ i. core_at u i) c.in-Ok-arguments_of.nodes))) c.place_of-place.ensures call in
    let row = subst (λ (g : Given (List Core)). Made u1 c.call_row.result (g >>= call_row w (place_at s first) at (core_at u f))) (sym (c.in-Ok-arguments_of.ensures.made w)) placed in
    follows u u1 f c.call_row.result (core_of at (S (left_of s first))) (λ x. list >>= call_row w (place_at s first) at x) left row

pub returns-in-Err-arguments_of-clause-made : goal.returns-in-Err-arguments_of-clause-made
returns-in-Err-arguments_of-clause-made c w k may =
    let u = c.args.unit.now in
    let s = source_read c.args.syntax.now in
    let S = sense_in (senses_made u c.args.results.now) in
    let at = c.args.at in
    let first = c.args.first in
    let f = c.in-Ok.node in
    let list = argument_cores w s S at c.args.parts.now in
    let left = subst (λ (l : ℕ). Made u (Ok f) (core_of at (S l))) c.left_of-left.ensures c.in-Ok.ensures.made in
    follows u u f (Err c.in-Err-arguments_of.fault) (core_of at (S (left_of s first))) (λ x. list >>= call_row w (place_at s first) at x) left
    (cores_fail u u c.in-Err-arguments_of.fault list (call_row w (place_at s first) at (core_at u f)) (c.in-Err-arguments_of.ensures.made w))
