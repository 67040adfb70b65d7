use Rattle.std.proofs.Common.{ℕ, ◌<◌, length, refl}
use Rattle.std.proofs.lemmas.List.Elements.{All-take, All-drop}
use Rattle.c_types.specs.Table.{types_of}
use Rattle.core_tree.specs.Seen.{core_of}
use Rattle.core_tree.proofs.Lists.{next_argument, lacks_argument}
use Rattle.core_tree.proofs.calls.arguments.Goals as goal

pub returns-in-empty : goal.returns-in-empty
returns-in-empty c = (
  λ h. absurd (let never : ⊥ = cc in never),
  λ h. absurd (lacks_argument (core_of c.args.trees.now) (types_of c.args.trees.now.types.now) c.args.parameters.now c.loop-ty.ty-index c.args.form c.loop-ty.more.now c.loop-ty-test.true c.in-empty.len_below (c.loop-ty.invariant.same.1 h)),
)

pub loop-ty-preserved : goal.loop-ty-preserved
loop-ty-preserved c =
    let told = c.if-not-is_argument.ensures.0 refl in
    let next = next_argument (core_of c.args.trees.now) (types_of c.args.trees.now.types.now) c.args.parameters.now c.loop-ty.ty-index _ c.args.form c.loop-ty.more.now _ c.loop-ty-test.true c.in-len1-up.len_at_least told in
    record {
      args = All-take (λ (a : ℕ). a < length c.args.trees.now.nodes.now) _ _ (All-drop (λ (a : ℕ). a < length c.args.trees.now.nodes.now) 1 c.loop-ty.more.now c.loop-ty.invariant.args);
      same = (λ h. c.loop-ty.invariant.same.0 (next.1 h), λ h. next.0 (c.loop-ty.invariant.same.1 h));
    }
