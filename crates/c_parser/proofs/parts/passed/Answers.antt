use Rattle.std.proofs.Common.{◌≡◌, Some, None}
use Rattle.c_grammar.specs.Fits.{chosen}
use Rattle.c_grammar.specs.Notes.{noted}
use Rattle.c_parser.proofs.AtOnce.{reads_itself, reads_chosen, reads_none}
use Rattle.c_parser.proofs.parts.passed.Goals as goal

pub forks-init : goal.forks-init
forks-init c = reads_itself c.args.used c.args.first c.args.second c.args.depth (noted c.args.notes.now)

pub forks-preserved : goal.forks-preserved
forks-preserved c =
    let pair = c.in-Some.pair in
    let e : chosen pair.0 pair.1 c.args.first c.args.second (noted c.args.notes.now) ≡ Some c.in-Some-chosen.next = cc in
    reads_chosen c.args.used c.forks.production pair.0 pair.1 c.in-Some-chosen.next c.args.first c.args.second c.args.depth (noted c.args.notes.now) c.forks.invariant (c.is_part.ensures c.if-not-is_part.false) c.in-Some.ensures e

pub returns-in-None : goal.returns-in-None
returns-in-None c =
    let pair = c.in-Some.pair in
    let e : chosen pair.0 pair.1 c.args.first c.args.second (noted c.args.notes.now) ≡ None = cc in
    reads_none c.args.used c.forks.production pair.0 pair.1 c.args.first c.args.second c.args.depth (noted c.args.notes.now) c.forks.invariant (c.is_part.ensures c.if-not-is_part.false) c.in-Some.ensures e
