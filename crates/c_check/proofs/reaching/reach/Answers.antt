use Rattle.std.proofs.Common.{arith, rules, ◌≡◌, ◌+◌, ◌<◌, ℕ, length, sym, subst}
use Rattle.parsed_tree_laws.specs.family_laws.Families.{Families}
use Rattle.parsed_tree_laws.proofs.family_laws.Reading.{units_families}
use Rattle.unit_walk.proofs.passed.limit_laws.Limited.{units_limited}
use Rattle.unit_walk.proofs.passed.limit_laws.literal_laws.Readable.{units_readable}
use Rattle.c_senses.specs.Names.{source_of}
use Rattle.unit_walk.specs.Ground.{source_ground}
use Rattle.unit_walk.specs.Stopping.{IsWalkedTo, RefusedEarly}
use Rattle.unit_walk.proofs.Sources.{bound_there, dense_of}
use Rattle.c_check.specs.Reached.{Reaches, IsReached}
use Rattle.c_check.proofs.reaching.reach.Goals as goal

pub walk_to-requires-clause-readable : goal.walk_to-requires-clause-readable
walk_to-requires-clause-readable c = λ at. units_readable c.args.tokens.now c.args.tree.now.unit c.args.tree.now (λ n. n) c.are_bytes.ensures c.requires.tokens c.requires.read at

pub walk_to-requires-clause-families : goal.walk_to-requires-clause-families
walk_to-requires-clause-families c =
    let f = units_families c.args.tokens.now c.args.tree.now.unit c.args.tree.now (λ n. n) c.requires.tokens c.requires.read in
    let plain : Families (source_of c.args.tokens.now c.args.tree.now) = record { single = f.single; ascend = f.ascend; lists = f.lists; members = f.members; words = f.words; untagged = f.untagged } in
    plain

pub walk_to-requires-clause-limits : goal.walk_to-requires-clause-limits
walk_to-requires-clause-limits c = λ tag_number. units_limited c.args.tokens.now c.args.tree.now.unit c.args.tree.now tag_number c.requires.tokens c.requires.read

pub walk_to-requires-clause-end : goal.walk_to-requires-clause-end
walk_to-requires-clause-end c =
    let last : c.in-Some.end ≡ c.args.node + 1 = search rules in
    omega (arith, last, c.requires.node)

pub returns-in-Ok-clause-reached : goal.returns-in-Ok-clause-reached
unfolding IsReached
returns-in-Ok-clause-reached c =
    let w = c.in-Ok.walked in
    let ok = c.in-Ok.ensures in
    let b = c.args.bound.now in
    let last : c.in-Some.end ≡ c.args.node + 1 = search rules in
    let reaches : Reaches w b c.args.node = record {
      bound_are = bound_there w.ground.numbered.syntax c.args.tokens.now c.args.tree.now b ok.tokens ok.tree c.requires.bound;
      ground = ok.ground;
      stand = ok.stand;
      inside = subst (λ t. c.args.node < length t.nodes.items) (sym ok.tree) c.requires.node;
      walked = subst (λ (n : ℕ). IsWalkedTo (source_ground w.ground b) n w.unit w.results) last ok.walked;
    } in
    reaches

pub returns-in-Ok-clause-source : goal.returns-in-Ok-clause-source
returns-in-Ok-clause-source c = c.in-Ok.ensures.source

pub returns-in-Ok-clause-dense : goal.returns-in-Ok-clause-dense
returns-in-Ok-clause-dense c =
    let w = c.in-Ok.walked in
    let n = w.ground.numbered in
    let ok = c.in-Ok.ensures in
    dense_of n.syntax c.args.tokens.now c.args.tree.now c.args.bound.now ok.tokens ok.tree c.requires.bound (source_ground w.ground c.args.bound.now) n.tags ok.ground.tags ok.ordered

pub returns-in-Err-clause-refused : goal.returns-in-Err-clause-refused
returns-in-Err-clause-refused c =
    let last : c.in-Some.end ≡ c.args.node + 1 = search rules in
    subst (λ (n : ℕ). RefusedEarly (source_of c.args.tokens.now c.args.tree.now) n c.in-Err.fault) last c.in-Err.ensures.walked
