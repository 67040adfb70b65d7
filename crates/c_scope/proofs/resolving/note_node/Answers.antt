use Rattle.std.proofs.Common.{Result, Ok, Err, refl, ◌∙◌}
use Rattle.std.specs.Result.{IfOk}
use Rattle.c_scope.proofs.Going.{labels_noted}
use Rattle.c_scope.proofs.resolving.note_node.Goals as goal

if_ok : {T E : Type 0} (r : Result T E) (P Q : T → Type 0) → IfOk r P → ((x : T) → P x → Q x) → IfOk r Q
if_ok (Ok x) P Q h f = f x h
if_ok (Err e) P Q h f = tt

pub returns : goal.returns
returns c = if_ok c.note_label.result _ _ c.note_label.ensures (λ done f all h.
    labels_noted c.args.unit all h c.args.node c.at-setting.result (c.at-setting.ensures c.at-setting.result) c.requires c.args.labels.now c.note_label.new.labels _ refl
    (λ other sign. f other sign ∙ c.label_mention-mention.ensures c.args.labels.now c.at-setting.result.body other sign))
