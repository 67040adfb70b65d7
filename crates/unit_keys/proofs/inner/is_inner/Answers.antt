use Rattle.std.proofs.Common.{arith, ◌≡◌, ◌∙◌, ◌-◌, ◌<◌, Bool, length, sym, ap}
use Rattle.std.specs.Prelude.{◌||◌}
use Rattle.c_senses.specs.Tree.{Source}
use Rattle.c_senses.specs.Keys.{is_inner}
use Rattle.tree_reads.specs.Sources.{source_in}
use Rattle.unit_keys.proofs.Around.{inner_under}
use Rattle.unit_keys.proofs.inner.is_inner.Goals as goal

pub returns-then-is_boundary_at : goal.returns-then-is_boundary_at
returns-then-is_boundary_at c = λ uses sense roles are.
    let s : Source = source_in c.args.syntax.now uses in
    let p = c.in-Some.parent in
    sym (inner_under s c.requires.behind sense c.args.node p (sym c.in-Some.ensures.parent) ∙ ap (λ (b : Bool). b || is_inner s sense p) (sym (c.if-is_boundary_at.ensures s roles)))

pub returns : goal.returns
returns c = λ uses sense roles are.
    let s : Source = source_in c.args.syntax.now uses in
    let p = c.in-Some.parent in
    let flags = c.args.flags.now in
    let k = c.len.result - 1 - p in
    let b = c.requires.behind c.args.node p (sym c.in-Some.ensures.parent) in
    let lt : k < length flags = omega (arith, b.0, b.1, c.len.ensures, c.requires.node) in
    let at : length s.nodes - 1 - k ≡ p = omega (arith, b.0, b.1, c.len.ensures) in
    (are.each k lt ∙ (ap (is_inner s sense) at ∙ sym (inner_under s c.requires.behind sense c.args.node p (sym c.in-Some.ensures.parent) ∙ ap (λ (b : Bool). b || is_inner s sense p) (sym (c.if-is_boundary_at.ensures s roles)))))
