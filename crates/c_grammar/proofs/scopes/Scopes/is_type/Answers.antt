use Rattle.std.proofs.Common.{sym, ap, ◌∙◌}
use Rattle.std.specs.Option.{unwrap_or}
use Rattle.std.specs.Prelude.{codes}
use Rattle.std.specs.Str.{bytes_eq}
use Rattle.c_grammar.specs.Names.{is_type}
use Rattle.c_grammar.proofs.Meanings.{is_type_kept}
use Rattle.c_grammar.proofs.scopes.Scopes.is_type.Goals as goal

pub returns-in-Some : goal.returns-in-Some
returns-in-Some c =
    let e = is_type_kept c.self.inside.enclosing.items c.self.inside.innermost.items c.self.inside.current c.args.name.now c.self.invariant in
    sym (ap (λ v. is_type v c.args.name.now) (sym c.self.view_is) ∙ (e ∙ ap (λ o. unwrap_or o (bytes_eq c.args.name.now (codes "__builtin_va_list"))) (sym c.meaning.ensures ∙ c.in-Some.is)))

pub returns-in-None : goal.returns-in-None
returns-in-None c =
    let e = is_type_kept c.self.inside.enclosing.items c.self.inside.innermost.items c.self.inside.current c.args.name.now c.self.invariant in
    c.eq.ensures ∙ (ap (λ l. bytes_eq c.args.name.now l) c.as_slice.ensures
    ∙ sym (ap (λ v. is_type v c.args.name.now) (sym c.self.view_is) ∙ (e ∙ ap (λ o. unwrap_or o (bytes_eq c.args.name.now (codes "__builtin_va_list"))) (sym c.meaning.ensures ∙ c.in-None.is))))
