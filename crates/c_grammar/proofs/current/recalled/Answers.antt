use Rattle.std.proofs.Common.{◌≡◌, Some, sym, ap, ◌∙◌, subst}
use Rattle.std.proofs.lemmas.Option.{slice_get-get_or}
use Rattle.std.specs.List.{slice_get}
use Rattle.std.specs.Cmp.Lexicographic.{bytes_decides}
use Rattle.c_grammar.specs.Current.{place_in}
use Rattle.c_grammar.proofs.current.recalled.Goals as goal

pub returns-then-eq : goal.returns-then-eq
returns-then-eq c =
    let current = c.args.current.now in
    let name = c.args.name.now in
    let place = c.in-Some.place.now in
    let s = c.in-Some-get.spelled.now in
    let found : slice_get c.deref-in-Some.result.now place ≡ Some s = slice_get-get_or c.deref-in-Some.result.now place s c.in-Some-get.ensures.lookup.3.0 ∙ ap Some (sym c.in-Some-get.ensures.lookup.1) in
    let same : c.as_slice.result.now ≡ name = (bytes_decides c.as_slice.result.now name).0 (sym c.eq.ensures ∙ c.if-eq.true) in
    ap (λ l. place_in current.places l) (sym same ∙ c.as_slice.ensures.value)
    ∙ c.requires.each place s (subst (λ l. slice_get l place ≡ Some s) c.deref-in-Some.ensures.value found)
