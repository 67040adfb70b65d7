use Rattle.std.proofs.Common.{List, sym, subst, ◌∙◌}
use Rattle.std.proofs.lemmas.Result.{IfOk-weaker}
use Rattle.c_mentions.specs.declared.settings.Scope.{Scope}
use Rattle.c_mentions.specs.Settings.{IsChain}
use Rattle.name_chains.specs.Seen.{scopes_of}
use Rattle.name_chains.proofs.Scoped.{scopes_there, no_scopes}
use Rattle.name_chains.proofs.scopes.scopes_at.Goals as goal

pub returns-in-Some : goal.returns-in-Some
returns-in-Some c =
    IfOk-weaker c.scopes_from.result _ _ (λ v h tokens nodes are.
    h (scopes_of tokens nodes c.args.leaf) (subst (λ (l : List Scope). IsChain l c.in-Some.setting.scope (scopes_of tokens nodes c.args.leaf)) (sym c.as_slice.ensures.value)
    (scopes_there tokens nodes c.args.settings.now c.args.leaf c.in-Some.setting are (sym c.in-Some.ensures)))) c.scopes_from.ensures

pub returns-in-None : goal.returns-in-None
returns-in-None c = λ tokens nodes are. c.new.ensures.items ∙ sym (no_scopes tokens nodes c.args.settings.now c.args.leaf are (sym c.in-None.ensures))
