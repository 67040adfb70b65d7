use Rattle.std.proofs.Common.{Result, Ok, Err}
use Rattle.std.specs.Result.{IfOk}
use Rattle.c_scope.specs.Binding.{label_at}
use Rattle.c_scope.proofs.Going.{binder_taken}
use Rattle.c_scope.proofs.resolving.take_node.Goals as goal

if_ok : {T E : Type 0} (r : Result T E) (P Q : T → Type 0) → IfOk r P → ((x : T) → P x → Q x) → IfOk r Q
if_ok (Ok x) P Q h f = f x h
if_ok (Err e) P Q h f = tt

pub returns : goal.returns
returns c = if_ok c.take.result _ _ c.take.ensures (λ done f all h.
    binder_taken c.args.unit all h c.args.node c.at-setting.result (c.at-setting.ensures c.at-setting.result) c.requires c.args.binder.now c.take.new.binder (label_at c.args.labels.now) c.mention_of-mention.result c.mention_of-mention.ensures f)
