use Rattle.std.proofs.Common.{ℕ, ◌+◌, ◌-◌, MatchOption, Bool, subst}
use Rattle.c_lexer.specs.declared.LexFault.{LexFault}
use Rattle.c_lexer.specs.Meanings.{LiteralFlaw}
use Rattle.c_lexer.specs.Quotes.{is_wide}
use Rattle.c_lexer.proofs.flaws.flaw.Goals as goal

pub returns-in-Literal : goal.returns-in-Literal
returns-in-Literal c =
    let text = c.args.text.now in
    let from = c.args.from in
    let end = c.args.found.end in
    let q = c.in-Literal.quote in
    let r = c.literal_flaw.result in
    let m = λ (w : Bool) (n : ℕ). MatchOption r ((f : LexFault) → LiteralFlaw w q text (from + n) (end - (from + n) - 2) f → ⊥) (λ f. LiteralFlaw w q text (from + n) (end - (from + n) - 2) f) in
    rw c.in-Literal.is (subst (λ n. m (is_wide c.in-Literal.prefix) n) c.prefix_length.ensures (subst (λ w. m w c.prefix_length.result) c.is_wide.ensures c.literal_flaw.ensures))
