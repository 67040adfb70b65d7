use Rattle.std.proofs.Common.{[], Err, length, sym, subst}
use Rattle.std.specs.Option.{option_copied}
use Rattle.core_nodes.proofs.Growing.{builds_on, knows_on}
use Rattle.c_results.specs.Standing.{senses_made, Rowed}
use Rattle.c_senses.specs.Given.{Given}
use Rattle.c_senses.specs.Sense.{Sense, sense_in}
use Rattle.c_senses.specs.Tree.{production_at, children_at}
use Rattle.c_senses.specs.Rows.{world_at}
use Rattle.expression_rows.specs.Built.{built_row}
use Rattle.expression_rows.specs.Fitting.{FitsAround}
use Rattle.expression_rows.proofs.Readable.{row_whole}
use Rattle.expression_rows.proofs.Keeping.{named_world, named_knows}
use Rattle.tree_reads.specs.Sources.{source_in}
use Rattle.expression_rows.proofs.whole_rows.Keeping.{sense_rows}
use Rattle.expression_rows.proofs.whole_rows.Prefixes.{made_rows}
use Rattle.name_uses.proofs.Passing.{whole_alone, built_alone, named_alone}
use Rattle.name_uses.specs.Built.{names_strangely}
use Rattle.name_uses.proofs.Giving.{part_named, named_made}
use Rattle.name_uses.proofs.Known.{names_are_usual}
use Rattle.name_uses.proofs.Looking.{row_refused, never_refused, built_kept, named_kept}
use Rattle.name_uses.proofs.Worlds.{world_is, around_named}
use Rattle.name_uses.proofs.expressions.expression.Goals as goal

pub returns-in-Some-clause-within : goal.returns-in-Some-clause-within
returns-in-Some-clause-within c = c.again.ensures.within c.args.unit.now c.requires.results

pub returns-in-Some-clause-rows : goal.returns-in-Some-clause-rows
returns-in-Some-clause-rows c =
    let u = c.args.unit.now in
    made_rows u c.again.result _ (c.again.ensures.row u) (sense_rows u c.args.results.now c.requires.rows c.in-Some.part)

pub returns-in-Some-clause-named : goal.returns-in-Some-clause-named
returns-in-Some-clause-named c =
    let u = c.args.unit.now in
    part_named u (length c.args.syntax.now.tree.now.nodes.items) c.args.results.now c.in-Some.part c.again.result c.requires.named (c.again.ensures.row u)

pub returns-in-Some-clause-row : goal.returns-in-Some-clause-row
returns-in-Some-clause-row c = λ uses pairs knows.
    let u = c.args.unit.now in
    let senses = senses_made u c.args.results.now in
    let s = source_in c.args.syntax.now uses in
    let at = c.args.at in
    subst (λ (g : Given Sense). Rowed u c.again.result g) (sym (named_alone (world_at s senses at) s (sense_in senses) at c.in-Some.part (c.in-Some.ensures uses))) (c.again.ensures.row u)

pub returns-in-Some-clause-built : goal.returns-in-Some-clause-built
returns-in-Some-clause-built c = λ uses pairs are knows.
    let u = c.args.unit.now in
    let senses = senses_made u c.args.results.now in
    let s = source_in c.args.syntax.now uses in
    let at = c.args.at in
    subst (λ (g : Given Sense). Rowed u c.again.result g) (sym (built_alone (world_at s senses at) s (sense_in senses) at c.in-Some.part (c.in-Some.ensures uses))) (c.again.ensures.row u)

pub returns-in-Some-clause-whole : goal.returns-in-Some-clause-whole
returns-in-Some-clause-whole c = λ uses pairs are readable knows.
    let u = c.args.unit.now in
    let senses = senses_made u c.args.results.now in
    let s = source_in c.args.syntax.now uses in
    let at = c.args.at in
    subst (λ (g : Given Sense). Rowed u c.again.result g) (sym (whole_alone (world_at s senses at) s (sense_in senses) at c.in-Some.part (c.in-Some.ensures uses))) (c.again.ensures.row u)

pub returns-in-Ok-clause-builds : goal.returns-in-Ok-clause-builds
returns-in-Ok-clause-builds c = builds_on c.args.unit.now c.around_of.new.unit c.row.new.unit c.in-Ok.ensures.builds c.row.ensures.builds

pub returns-in-Ok-clause-named : goal.returns-in-Ok-clause-named
returns-in-Ok-clause-named c =
    let mid = c.around_of.new.unit in
    let s = source_in c.args.syntax.now [] in
    let at = c.args.at in
    let p = production_at s at in
    let xs = children_at s at in
    let around = c.in-Ok.around in
    let own = option_copied around.own_name in
    let w = named_world mid around.first around.may_call own around.further in
    named_made w s mid c.row.new.unit (length c.args.syntax.now.tree.now.nodes.items) c.args.results.now p at xs c.row.result c.requires.named
    (c.row.ensures.built w [] (named_knows mid around.may_call own around.further around.first) (around_named mid s (sense_in (senses_made mid c.args.results.now)) p xs around))

pub returns-in-Ok-clause-row : goal.returns-in-Ok-clause-row
returns-in-Ok-clause-row c = λ uses pairs knows.
    let old = c.args.unit.now in
    let mid = c.around_of.new.unit in
    let rs = c.args.results.now in
    let s = source_in c.args.syntax.now uses in
    let at = c.args.at in
    let w = world_at s (senses_made old rs) at in
    let b = c.in-Ok.ensures.builds in
    let looked = c.in-Ok.ensures.looked w uses pairs (world_is s (senses_made old rs) at) in
    named_kept w s old mid c.row.new.unit rs b c.requires.results (production_at s at) at (children_at s at) c.row.result looked.1 (c.row.ensures.built w uses (knows_on w old mid b knows) looked.0)

pub returns-in-Ok-clause-built : goal.returns-in-Ok-clause-built
returns-in-Ok-clause-built c = λ uses pairs are knows.
    let old = c.args.unit.now in
    let mid = c.around_of.new.unit in
    let rs = c.args.results.now in
    let s = source_in c.args.syntax.now uses in
    let at = c.args.at in
    let w = world_at s (senses_made old rs) at in
    let b = c.in-Ok.ensures.builds in
    let looked = c.in-Ok.ensures.looked w uses pairs (world_is s (senses_made old rs) at) in
    built_kept w s old mid c.row.new.unit rs b c.requires.results (production_at s at) at (children_at s at) c.row.result (c.row.ensures.built w uses (knows_on w old mid b knows) looked.0)

pub returns-in-Err-clause-row : goal.returns-in-Err-clause-row
returns-in-Err-clause-row c = λ uses pairs knows.
    let old = c.args.unit.now in
    let new = c.around_of.new.unit in
    let senses = senses_made old c.args.results.now in
    let s = source_in c.args.syntax.now uses in
    let at = c.args.at in
    let w = world_at s senses at in
    let p = production_at s at in
    let xs = children_at s at in
    row_refused (FitsAround w new s (sense_in (senses_made new c.args.results.now)) p xs) new (names_strangely w s p xs) at c.in-Err.fault (built_row w s (sense_in senses) p at xs) (c.in-Err.ensures.looked w uses pairs (world_is s senses at))

pub returns-in-Err-clause-built : goal.returns-in-Err-clause-built
returns-in-Err-clause-built c = λ uses pairs are knows.
    let old = c.args.unit.now in
    let new = c.around_of.new.unit in
    let rs = c.args.results.now in
    let senses = senses_made old rs in
    let s = source_in c.args.syntax.now uses in
    let at = c.args.at in
    let w = world_at s senses at in
    let p = production_at s at in
    let xs = children_at s at in
    never_refused (FitsAround w new s (sense_in (senses_made new c.args.results.now)) p xs) new (names_strangely w s p xs) at c.in-Err.fault (built_row w s (sense_in senses) p at xs) (names_are_usual c.args.syntax.now old rs c.args.names.now uses at p xs c.requires.names pairs are)
    (c.in-Err.ensures.looked w uses pairs (world_is s senses at))

pub returns-in-Ok-clause-whole : goal.returns-in-Ok-clause-whole
returns-in-Ok-clause-whole c = λ uses pairs are readable knows.
    let senses = senses_made c.args.unit.now c.args.results.now in
    let s = source_in c.args.syntax.now uses in
    let at = c.args.at in
    let p = production_at s at in
    let xs = children_at s at in
    subst (λ (g : Given Sense). Rowed c.row.new.unit c.row.result g) (row_whole (world_at s senses at) s (sense_in senses) p at xs readable) (returns-in-Ok-clause-built c uses pairs are knows)

pub returns-in-Err-clause-whole : goal.returns-in-Err-clause-whole
returns-in-Err-clause-whole c = λ uses pairs are readable knows.
    let senses = senses_made c.args.unit.now c.args.results.now in
    let s = source_in c.args.syntax.now uses in
    let at = c.args.at in
    let p = production_at s at in
    let xs = children_at s at in
    subst (λ (g : Given Sense). Rowed c.around_of.new.unit (Err c.in-Err.fault) g) (row_whole (world_at s senses at) s (sense_in senses) p at xs readable) (returns-in-Err-clause-built c uses pairs are knows)
