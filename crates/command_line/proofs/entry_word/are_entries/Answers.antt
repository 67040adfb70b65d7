use Rattle.std.proofs.Common.{rules, true, ◌≡◌}
use Rattle.command_line.specs.Rules.{IsName}
use Rattle.command_line.proofs.Texts.{formed_words}
use Rattle.command_line.proofs.entry_word.are_entries.Goals as goal

pub returns-then-not-are_names : goal.returns-then-not-are_names
returns-then-not-are_names c = (
  λ auto. search rules,
  λ entries.
      let formed : c.are_names.result ≡ true = c.are_names.ensures.1 (formed_words IsName c.args.words.now entries.formed) in
      search rules,
)
