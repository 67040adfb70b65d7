use Rattle.std.proofs.Common.{◌≡◌, Some, cond, sym, ap, ◌∙◌}
use Rattle.std.specs.Str.{bytes_eq}
use Rattle.c_grammar.specs.Current.{known}
use Rattle.c_grammar.specs.declared.scopes.Declared.{Declared}
use Rattle.c_grammar.proofs.Meanings.{kept_more}
use Rattle.c_grammar.proofs.scopes.Scopes.declare.Goals as goal

pub invariant_of-self-2 : goal.invariant_of-self-2
invariant_of-self-2 c =
    let name = c.args.name.now in
    let old = c.self.inside.current in
    let place = c.in_ok-place.place in
    let d : Declared = record { name = c.in_ok-kept.kept; is_type = c.args.is_type; before = c.meant-before.result } in
    let kept : c.in_ok-kept.kept.items ≡ name = c.in_ok-kept.ensures in
    kept_more c.self.inside.enclosing.items c.self.inside.innermost.items c.push.new.self.items d old c.set.new.current c.in_ok-push.ensures.items c.self.invariant
    (c.meant-before.ensures name c.in_ok-place.ensures.place ∙ (c.in_ok-place.ensures.known name ∙ ap (λ n. known old n) (sym kept)))
    (λ q. c.set.ensures.means name c.in_ok-place.ensures.place q ∙ (ap (λ o. cond (bytes_eq name q) (Some c.args.is_type) o) (c.in_ok-place.ensures.known q) ∙ ap (λ n. cond (bytes_eq n q) (Some c.args.is_type) (known old q)) (sym kept)))
    c.set.ensures.indexed
