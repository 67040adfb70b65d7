use Rattle.std.proofs.Common.{ℕ, List, Bool, IfOk, MatchBool, subst}
use Rattle.c_senses.specs.Names.{source_of}
use Rattle.tree_reads.specs.Sources.{number_in}
use Rattle.unit_walk.specs.Ground.{source_ground}
use Rattle.c_check.specs.declared.known_tags.known.Meaning.{Meaning}
use Rattle.c_check.specs.Told.{IsTold, IsUntold}
use Rattle.c_check.proofs.ToldTrees.{told_when, early_when}
use Rattle.c_check.proofs.telling.is_told.Goals as goal

pub returns-in-Ok-clause-told : goal.returns-in-Ok-clause-told
returns-in-Ok-clause-told c =
    let w = c.in-Ok.walked in
    let n = w.ground.numbered in
    let s0 = source_of c.args.tokens.now c.args.tree.now in
    let s = source_ground w.ground c.args.bound.now in
    let ok = c.in-Ok.ensures in
    let old = c.args.unit.now in
    subst (λ (l : List (ℕ × Meaning)). IfOk c.tells.result (λ (told : Bool). MatchBool told (IsTold s0 c.args.node l old) (IsUntold s0 c.args.node l old))) c.as_slice.ensures.value
    (told_when s0 s (number_in n.syntax.tag_numbers) ok.source ok.dense c.args.node c.as_slice.result.now old c.tells.result c.tells.ensures.told)

pub returns-in-Err-clause-told : goal.returns-in-Err-clause-told
returns-in-Err-clause-told c =
    early_when (source_of c.args.tokens.now c.args.tree.now) c.args.node c.in-Err.fault c.in-Err.ensures.refused c.args.known.now.list.items c.args.unit.now c.without_row.result c.without_row.ensures.told c.without_row.ensures.row
