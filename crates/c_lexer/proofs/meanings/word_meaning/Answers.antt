use Rattle.std.proofs.Common.{◌≡◌, false, nat_eq, codes, Some, None, refl, sym, ap, ◌∙◌}
use Rattle.std.specs.Cmp.Lexicographic.{pointwise}
use Rattle.c_lexer.specs.Spellings.{keywords}
use Rattle.c_lexer.specs.Meanings.{lookup, word_meaning}
use Rattle.c_lexer.proofs.Tables.{keywords_are}
use Rattle.c_lexer.proofs.meanings.word_meaning.Goals as goal

pub returns-in-None : goal.returns-in-None
unfolding word_meaning
returns-in-None c =
    let w = c.args.word.now in
    let a : pointwise nat_eq (codes "__attribute__") w ≡ false = sym c.eq.ensures ∙ c.if-eq.false in
    let e : pointwise nat_eq (codes "__extension__") w ≡ false = sym c.eq-2.ensures ∙ c.if-eq-2.false in
    let l : lookup keywords w ≡ None = ap (λ t. lookup t w) (sym keywords_are) ∙ (sym c.lookup.ensures ∙ c.in-None.is) in
    rw (a, e, l) refl

pub returns-in-Some : goal.returns-in-Some
unfolding word_meaning
returns-in-Some c =
    let w = c.args.word.now in
    let a : pointwise nat_eq (codes "__attribute__") w ≡ false = sym c.eq.ensures ∙ c.if-eq.false in
    let e : pointwise nat_eq (codes "__extension__") w ≡ false = sym c.eq-2.ensures ∙ c.if-eq-2.false in
    let l : lookup keywords w ≡ Some c.in-Some.position = ap (λ t. lookup t w) (sym keywords_are) ∙ (sym c.lookup.ensures ∙ c.in-Some.is) in
    rw (a, e, l) refl
