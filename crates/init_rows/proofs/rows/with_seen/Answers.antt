use Rattle.std.proofs.Common.{ℕ, Option, ap, sym, ◌∙◌}
use Rattle.c_senses.specs.Sense.{IsInitial}
use Rattle.c_senses.specs.Initialised.{with_seen}
use Rattle.core_nodes.specs.Standing.{core_at}
use Rattle.c_results.specs.declared.made.Made.{Made}
use Rattle.c_results.specs.Standing.{sense_made}
use Rattle.init_rows.proofs.RowLaws.{seen_initial, seen_other}
use Rattle.init_rows.proofs.rows.with_seen.Goals as goal

pub returns-in-Initial-clause-sense : goal.returns-in-Initial-clause-sense
returns-in-Initial-clause-sense c = λ u.
    ap (λ (k : Option ℕ). IsInitial (core_at u c.in-Initial.node) k) c.known_length.ensures
    ∙ (seen_initial (core_at u c.in-Initial.node) c.args.seen c.in-Initial.length ∙ sym (ap (λ (m : Made). with_seen c.args.seen (sense_made u m)) c.in-Initial.is))

pub returns-in_default-clause-sense : goal.returns-in_default-clause-sense
returns-in_default-clause-sense c = λ u. seen_other u c.args.made c.args.seen c.in_default.not-Initial
