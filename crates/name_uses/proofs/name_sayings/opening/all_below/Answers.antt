use Rattle.std.proofs.Common.{arith, ◌≡◌, ℕ, ◌<◌, length, take, ap, sym, ◌∙◌, false}
use Rattle.std.proofs.Math.Seq.{take-length}
use Rattle.std.proofs.lemmas.List.Elements.{All-more, All-same}
use Rattle.c_scope.specs.declared.kinds.Declared.{Declared}
use Rattle.c_scope.specs.declared.kinds.Kind.TheVariants.{Linked}
use Rattle.name_uses.proofs.name_sayings.opening.all_below.Goals as goal

abbrev none : Declared
none = record { node = 0; symbol = 0; scope = 0; kind = Linked; is_function = false }

pub loop-declared-preserved : goal.loop-declared-preserved
loop-declared-preserved c =
    All-more (λ (d : Declared). d.node < c.args.count) c.args.declarations.now c.loop-declared.declared-index none c.loop-declared-test.true c.loop-declared.invariant (omega arith)

pub returns-clause-all : goal.returns-clause-all
returns-clause-all c = λ e.
    let ds = c.args.declarations.now in
    let whole : c.loop-declared.declared-index ≡ length ds = omega arith in
    All-same (λ (d : Declared). d.node < c.args.count) ds (take c.loop-declared.declared-index ds) (sym (ap (λ (k : ℕ). take k ds) whole ∙ take-length ds)) c.loop-declared.invariant
