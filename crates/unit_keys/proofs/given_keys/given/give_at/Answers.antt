use Rattle.std.proofs.Common.{ℕ, set, ap}
use Rattle.std.specs.Option.{option_copied}
use Rattle.tree_reads.specs.Sources.{source_in}
use Rattle.unit_keys.proofs.given_keys.Giving.{given_more}
use Rattle.unit_keys.proofs.given_keys.given.give_at.Goals as goal

pub returns-then-number-len-clause-given : goal.returns-then-number-len-clause-given
returns-then-number-len-clause-given c = λ uses sense tag numbers keys are.
    given_more (source_in c.args.syntax.now uses) sense c.args.tag c.args.list.now.items _ c.args.given.now c.give.new.given (option_copied c.in_ok-own.own) c.in_ok-key.key tag numbers (c.in_ok-own.ensures uses sense keys) c.in_ok-key.ensures.key
    c.in_ok-key.ensures.given (ap (λ (k : ℕ). set c.args.list.now.items k c.in_ok-key.key) c.tag_number-number.ensures) are
