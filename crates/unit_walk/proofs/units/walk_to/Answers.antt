use Rattle.std.proofs.Common.{ℕ, subst, sym}
use Rattle.c_senses.specs.Tree.{Source}
use Rattle.c_senses.specs.Names.{source_of, numbered}
use Rattle.tree_reads.specs.Sources.{number_in}
use Rattle.name_uses.specs.passed.expression_rows.Readable.{IsReadable}
use Rattle.parsed_tree_laws.specs.family_laws.Families.{Families}
use Rattle.limit_laws.specs.Limits.{AlwaysLimited}
use Rattle.unit_walk.proofs.Sources.{source_same}
use Rattle.unit_walk.proofs.Stopping.{refused_there, memory_refused}
use Rattle.unit_walk.proofs.units.walk_to.Goals as goal

pub walk_nodes-requires-clause-known : goal.walk_nodes-requires-clause-known
walk_nodes-requires-clause-known c = c.in-Ok.ensures.ground c.in-Ok-open_unit.unit

pub returns-in-Ok-walk_nodes-clause-ground : goal.returns-in-Ok-walk_nodes-clause-ground
returns-in-Ok-walk_nodes-clause-ground c = c.in-Ok.ensures.ground c.in-Ok-open_unit.unit

pub returns-in-Err-open_unit-clause-walked : goal.returns-in-Err-open_unit-clause-walked
returns-in-Err-open_unit-clause-walked c = memory_refused (source_of c.args.tokens.now c.args.tree.now) c.args.end c.in-Err-open_unit.fault c.in-Err-open_unit.ensures.memory

pub returns-in-Err-clause-walked : goal.returns-in-Err-clause-walked
returns-in-Err-clause-walked c = memory_refused (source_of c.args.tokens.now c.args.tree.now) c.args.end c.in-Err.fault c.in-Err.ensures.memory

pub returns-in-Ok-walk_nodes-clause-source : goal.returns-in-Ok-walk_nodes-clause-source
returns-in-Ok-walk_nodes-clause-source c =
    source_same c.in-Ok.ground.numbered.syntax c.args.tokens.now c.args.tree.now c.args.bound.now c.in-Ok.ensures.tokens c.in-Ok.ensures.tree c.requires.bound

pub returns-clause-walked : goal.returns-clause-walked
returns-clause-walked c =
    let n = c.in-Ok.ground.numbered in
    let ground = c.in-Ok.ensures.ground c.in-Ok-open_unit.unit in
    refused_there n.syntax c.args.tokens.now c.args.tree.now c.args.bound.now c.in-Ok.ensures.tokens c.in-Ok.ensures.tree c.requires.bound c.args.end n.tags c.in-Err-walk_nodes.fault ground.tags c.in-Ok.ensures.ordered c.in-Err-walk_nodes.ensures.walked

pub walk_nodes-requires-clause-readable : goal.walk_nodes-requires-clause-readable
walk_nodes-requires-clause-readable c =
    subst (λ (s : Source). (at : ℕ) → IsReadable s at)
    (sym (source_same c.in-Ok.ground.numbered.syntax c.args.tokens.now c.args.tree.now c.args.bound.now c.in-Ok.ensures.tokens c.in-Ok.ensures.tree c.requires.bound)) (λ at. c.requires.readable at)

pub walk_nodes-requires-clause-families : goal.walk_nodes-requires-clause-families
walk_nodes-requires-clause-families c =
    let f = c.requires.families in
    let plain : Families (numbered (number_in c.in-Ok.ground.numbered.syntax.tag_numbers) (source_of c.args.tokens.now c.args.tree.now)) = record { single = f.single; ascend = f.ascend; lists = f.lists; members = f.members; words = f.words; untagged = f.untagged } in
    subst Families
    (sym (source_same c.in-Ok.ground.numbered.syntax c.args.tokens.now c.args.tree.now c.args.bound.now c.in-Ok.ensures.tokens c.in-Ok.ensures.tree c.requires.bound)) plain

pub walk_nodes-requires-clause-limits : goal.walk_nodes-requires-clause-limits
walk_nodes-requires-clause-limits c =
    subst AlwaysLimited
    (sym (source_same c.in-Ok.ground.numbered.syntax c.args.tokens.now c.args.tree.now c.args.bound.now c.in-Ok.ensures.tokens c.in-Ok.ensures.tree c.requires.bound))
    (c.requires.limits (number_in c.in-Ok.ground.numbered.syntax.tag_numbers))
