use Rattle.std.proofs.Common.{[], ◌∷◌, ◌++◌, refl, ap, ◌∙◌}
use Rattle.c_parser.specs.declared.reader.Progress.{Progress}
use Rattle.c_parser.specs.declared.reader.Frame.{Frame}
use Rattle.c_parser.proofs.Leads.{enter_more}
use Rattle.c_parser.proofs.reader.enter.Goals as goal

pub returns-in-Ok-add_user : goal.returns-in-Ok-add_user
returns-in-Ok-add_user c =
    let old = c.args.progress.now in
    let new : Progress = record { ahead = old.ahead; own = c.begin.new.own; top = c.replace-user.new.dest; users = c.add_user.new.users } in
    let users = c.in-Ok-add_user.ensures ∙ ap (λ (f : Frame). old.users.items ++ (record f { at = c.args.on }) ∷ []) c.replace-user.ensures.value in (
      refl,
      λ scopes nodes sees. enter_more c.args.input.text.now c.args.input.tokens.now old new c.args.used c.args.on c.in-Ok.frame c.replace-user.ensures.after users scopes nodes (c.in-Ok.ensures scopes nodes sees),
    )
