use Rattle.std.proofs.Common.{◌≡◌, Some, None, ◌++◌, sym, ap, ◌∙◌, cond}
use Rattle.std.specs.Str.{bytes_eq}
use Rattle.c_grammar.proofs.Meanings.{updates_bytes}
use Rattle.c_mentions.specs.Symbols.{known, first_or}
use Rattle.c_mentions.proofs.symbols.number.Goals as goal

pub returns-in_ok-insert-in-None-clause-known : goal.returns-in_ok-insert-in-None-clause-known
returns-in_ok-insert-in-None-clause-known c = λ other.
    let name = c.args.name.now in
    let old = known c.args.firsts.now in
    let key : c.extend_from_slice.new.self.items ≡ name = c.in_ok-extend_from_slice-in-None.ensures.items ∙ ap (λ l. l ++ name) c.new-key.ensures.items in
    let none : old name ≡ None = sym c.in-None.ensures in
    updates_bytes c.extend_from_slice.new.self.items c.args.firsts.now c.insert.new.self (Some c.args.token) c.in_ok-insert-in-None.ensures.updates other
    ∙ (ap (λ n. cond (bytes_eq n other) (Some c.args.token) (old other)) key
    ∙ ap (λ o. cond (bytes_eq name other) (Some (first_or o c.args.token)) (old other)) (sym none))
