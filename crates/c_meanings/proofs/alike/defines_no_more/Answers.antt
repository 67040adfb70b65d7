use Rattle.std.proofs.Common.{◌≡◌, ◌||◌, not, Bool, true, false, refl, sym, ap, ◌∙◌}
use Rattle.c_senses.specs.Entities as spec
use Rattle.tree_reads.specs.Sources.{source_read}
use Rattle.c_meanings.proofs.alike.defines_no_more.Goals as goal

or_true : (a b : Bool) → a ≡ true → (a || b) ≡ a
or_true true b e = refl
or_true false b e = cc

or_false : (a b : Bool) → not b ≡ true → (a || b) ≡ a
or_false true b e = refl
or_false false true e = sym e
or_false false false e = refl

pub returns-then-defines : goal.returns-then-defines
returns-then-defines c = λ e w sense.
    let s = source_read c.args.syntax.now in
    or_true (spec.defines w s sense c.args.one) (spec.defines w s sense c.args.other) (sym (c.defines.ensures w sense) ∙ e)

pub returns-else-defines : goal.returns-else-defines
returns-else-defines c = λ e w sense.
    let s = source_read c.args.syntax.now in
    or_false (spec.defines w s sense c.args.one) (spec.defines w s sense c.args.other) (sym (ap not (c.defines-else-defines.ensures w sense)) ∙ e)
