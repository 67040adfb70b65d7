use Rattle.std.proofs.Common.{sym, ◌∙◌}
use Rattle.c_tags.proofs.tag_numbers.Numbering.{seen_skip, seen_next}
use Rattle.c_tags.proofs.tag_numbers.seen.keep_seen.Goals as goal

pub returns-then-not-is_specifier_at : goal.returns-then-not-is_specifier_at
returns-then-not-is_specifier_at c = λ s roles are is.
    seen_skip s c.args.seen.now c.args.node are (sym (c.if-not-is_specifier_at.ensures s roles))

pub returns : goal.returns
returns c = λ s roles are is.
    seen_next s c.args.seen.now c.add_seen.new.seen c.args.tag c.args.node are c.in_ok-add_seen.ensures.here c.in_ok-add_seen.ensures.others c.in_ok-add_seen.ensures.fitting (is (sym (sym c.if-not-is_specifier_at.false ∙ c.is_specifier_at.ensures s roles)))
