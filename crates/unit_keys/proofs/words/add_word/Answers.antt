use Rattle.std.proofs.Common.{◌≡◌, ℕ, Bool, true, false, cond, Option, Some, ◌++◌, refl, ap, ◌∙◌}
use Rattle.std.specs.Prelude.{◌||◌, is_some}
use Rattle.std.specs.Str.{bytes_eq}
use Rattle.c_grammar.proofs.Meanings.{updates_bytes}
use Rattle.unit_keys.specs.Words.{has_word}
use Rattle.unit_keys.proofs.words.add_word.Goals as goal

some_or : (b : Bool) (n : ℕ) (o : Option ℕ) → is_some (cond b (Some n) o) ≡ (b || is_some o)
some_or true n o = refl
some_or false n o = refl

pub returns : goal.returns
returns c = λ other.
    let word = c.args.word.now in
    let key : c.extend_from_slice.new.self.items ≡ word = c.in_ok-extend_from_slice.ensures.items ∙ ap (λ l. l ++ word) c.new-key.ensures.items in
    ap is_some (updates_bytes c.extend_from_slice.new.self.items c.args.words.now c.insert.new.self (Some c.args.node) c.in_ok-insert.ensures.updates other)
    ∙ (some_or (bytes_eq c.extend_from_slice.new.self.items other) c.args.node _
    ∙ ap (λ l. bytes_eq l other || has_word c.args.words.now other) key)
