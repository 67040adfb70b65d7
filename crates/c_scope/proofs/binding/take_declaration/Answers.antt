use Rattle.std.proofs.Common.{◌≡◌, Bool, true, [], ◌∷◌, ◌++◌, cond, sym, ap, ◌∙◌, subst}
use Rattle.std.specs.List.{list_any}
use Rattle.c_scope.specs.declared.kinds.NameFault.TheVariants.{Redeclared}
use Rattle.c_scope.specs.Known.{Known, clashes, those_at}
use Rattle.c_scope.specs.Places.{declared_at}
use Rattle.c_scope.specs.Binding.{Holds}
use Rattle.c_scope.proofs.binding.take_declaration.Goals as goal

pub returns-then-is_redeclared : goal.returns-then-is_redeclared
returns-then-is_redeclared c = λ k h.
    let entry = c.args.entry in
    let d = declared_at c.args.scope c.args.symbol entry in
    let mid : Known = record k { names = k.names ++ d ∷ [] } in
    let clash : list_any (clashes entry.kind) (those_at c.args.scope c.args.symbol k.names) ≡ true = sym (c.in_ok-is_redeclared.ensures.clash k.names h.names) ∙ c.if-is_redeclared.true in
    let declared = c.in_ok-push.ensures.items ∙ (ap (λ x. c.args.binder.now.declared.items ++ x ∷ []) c.declared_by.ensures ∙ ap (λ l. l ++ d ∷ []) h.declared) in
    let after = c.take_fault.ensures mid (record { names = c.in_ok-is_redeclared.ensures.says k.names h.names; tags = h.tags; declared = declared; tagged = h.tagged; functions = h.functions; uses = h.uses; labels = h.labels; fault = h.fault }) in
    subst (λ (b : Bool). Holds c.take_fault.new.binder (record k { names = k.names ++ d ∷ []; faults = cond b (k.faults ++ Redeclared entry.node ∷ []) k.faults })) (sym clash) after
