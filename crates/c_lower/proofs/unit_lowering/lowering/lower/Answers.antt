use Rattle.std.proofs.Common.{◌≡◌, ◌∙◌, length, ap, sym, subst}
use Rattle.parsed_tree_laws.specs.family_laws.Families.{Families}
use Rattle.parsed_tree_laws.proofs.family_laws.Reading.{units_families}
use Rattle.unit_walk.proofs.passed.limit_laws.Limited.{units_limited}
use Rattle.unit_walk.proofs.passed.limit_laws.literal_laws.Readable.{units_readable}
use Rattle.c_senses.specs.Names.{source_of, numbered}
use Rattle.c_senses.specs.Tree.{Source}
use Rattle.c_senses.specs.Rows.{AreSenses}
use Rattle.c_results.specs.Standing.{senses_made}
use Rattle.valid_unit_laws.specs.passed.body_node_laws.own_initials.Own.{InitialisesOwn}
use Rattle.valid_unit_laws.proofs.passed.body_node_laws.own_initials.Own.{units_initialise_own}
use Rattle.tree_reads.specs.Sources.{number_in}
use Rattle.unit_walk.specs.Ground.{source_ground}
use Rattle.valid_unit_laws.specs.lowered_laws.Complete.{PartsComplete}
use Rattle.valid_unit_laws.proofs.lowered_laws.Complete.{texts_complete}
use Rattle.c_lower.proofs.unit_lowering.Ending.{lowered, whole_walked}
use Rattle.c_lower.proofs.unit_lowering.lowering.lower.Goals as goal

pub returns-in-Ok : goal.returns-in-Ok
returns-in-Ok c =
    let g = c.in-Ok.walked.ground in
    lowered (source_ground g c.args.bound.now) (source_of c.args.tokens.now c.args.tree.now) (number_in g.numbered.syntax.tag_numbers) g.numbered.tags c.args.name
    c.in-Ok.ensures.source c.in-Ok.ensures.ground.tags c.in-Ok.ensures.ordered c.completed.result c.completed.ensures

pub returns-in-Err : goal.returns-in-Err
returns-in-Err c = c.in-Err.ensures.walked

pub completed-requires-clause-completes : goal.completed-requires-clause-completes
completed-requires-clause-completes c =
    let tokens = c.args.tokens.now in
    let tree = c.args.tree.now in
    let f = number_in c.in-Ok.walked.ground.numbered.syntax.tag_numbers in
    subst (λ (s : Source). PartsComplete s c.args.name) (sym c.in-Ok.ensures.source)
    (texts_complete tokens tree.unit tree f c.args.name c.args.bound.now c.requires.tokens c.requires.read c.requires.bound)

pub walk-requires-clause-readable : goal.walk-requires-clause-readable
walk-requires-clause-readable c = λ at. units_readable c.args.tokens.now c.args.tree.now.unit c.args.tree.now (λ n. n) c.are_bytes.ensures c.requires.tokens c.requires.read at

pub walk-requires-clause-families : goal.walk-requires-clause-families
walk-requires-clause-families c =
    let f = units_families c.args.tokens.now c.args.tree.now.unit c.args.tree.now (λ n. n) c.requires.tokens c.requires.read in
    let plain : Families (source_of c.args.tokens.now c.args.tree.now) = record { single = f.single; ascend = f.ascend; lists = f.lists; members = f.members; words = f.words; untagged = f.untagged } in
    plain

pub walk-requires-clause-limits : goal.walk-requires-clause-limits
walk-requires-clause-limits c = λ tag_number. units_limited c.args.tokens.now c.args.tree.now.unit c.args.tree.now tag_number c.requires.tokens c.requires.read

pub completed-requires-clause-initials : goal.completed-requires-clause-initials
completed-requires-clause-initials c =
    let g = c.in-Ok.walked.ground in
    let u = c.in-Ok.walked.unit in
    let rs = c.in-Ok.walked.results in
    let s = source_ground g c.args.bound.now in
    let f = number_in g.numbered.syntax.tag_numbers in
    let plain : Source = numbered f (source_of c.args.tokens.now c.args.tree.now) in
    let same : s ≡ plain = c.in-Ok.ensures.source in
    let walked = c.in-Ok.ensures.walked in
    let senses = subst (λ (x : Source). AreSenses x (senses_made u rs)) same walked.made.senses in
    let whole : length (senses_made u rs) ≡ length plain.nodes = whole_walked s u rs walked ∙ ap (λ (x : Source). length x.nodes) same in
    subst (λ (x : Source). InitialisesOwn x (senses_made u rs)) (sym same)
    (units_initialise_own c.args.tokens.now c.args.tree.now.unit c.args.tree.now f (senses_made u rs) c.requires.tokens c.requires.read senses whole)
