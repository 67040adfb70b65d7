use Rattle.std.proofs.Common.{◌≡◌, ◌∙◌, Bool, true, false, map, refl, sym, ap}
use Rattle.std.specs.Prelude.{◌||◌, ◌&&◌}
use Rattle.c_senses.specs.Tree.{Source, spelling_at}
use Rattle.c_senses.specs.Keys.{has_bytes}
use Rattle.tree_reads.specs.Sources.{source_in}
use Rattle.unit_keys.specs.Words.{has_word}
use Rattle.unit_keys.proofs.free.take_untagged.Goals as goal

or_false : (a : Bool) → (a || false) ≡ a
or_false true = refl
or_false false = refl

pub returns-then-not-is_untagged : goal.returns-then-not-is_untagged
returns-then-not-is_untagged c = λ uses sense name.
    let s : Source = source_in c.args.syntax.now uses in
    let had = has_word c.args.taken.now name in
    let more = has_bytes s sense name (map (spelling_at s) c.args.leaves.now) in
    sym (or_false had) ∙ ap (λ (b : Bool). had || (b && more)) (c.if-not-is_untagged.ensures uses sense)

pub returns : goal.returns
returns c = λ uses sense name.
    let s : Source = source_in c.args.syntax.now uses in
    let had = has_word c.args.taken.now name in
    let more = has_bytes s sense name (map (spelling_at s) c.args.leaves.now) in
    c.in_ok-take_names.ensures uses sense name ∙ ap (λ (b : Bool). had || (b && more)) (c.if-not-is_untagged.ensures uses sense)
