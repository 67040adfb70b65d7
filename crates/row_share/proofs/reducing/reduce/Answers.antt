use Rattle.std.proofs.Common.{rules}
use Rattle.row_share.proofs.share_laws.Valid.{reduced_valid}
use Rattle.row_share.proofs.share_laws.Leasts.{agree_at, gives_least}
use Rattle.row_share.proofs.reducing.reduce.Goals as goal

pub returns-clause-valid : goal.returns-clause-valid
returns-clause-valid c = reduced_valid c.args.system.now (record { rows = c.in_ok-numbers.numbers.rows; locations = c.in_ok-locations.locations; types = c.in_ok-types.types; constraints = c.add_twins.new.list; calls = c.in_ok-calls.calls; functions = c.in_ok-functions.functions }) c.args.share.now c.in_ok-numbers.numbers.row.items c.requires.valid c.requires.classes (record {
  numbers = search rules;
  rows = search rules;
  locations = search rules;
  types = search rules;
  constraints = search rules;
  calls = search rules;
  functions = search rules;
})

pub returns-clause-agree : goal.returns-clause-agree
returns-clause-agree c F G least least_T old location known = agree_at c.args.system.now (record { rows = c.in_ok-numbers.numbers.rows; locations = c.in_ok-locations.locations; types = c.in_ok-types.types; constraints = c.add_twins.new.list; calls = c.in_ok-calls.calls; functions = c.in_ok-functions.functions }) c.args.share.now c.in_ok-numbers.numbers.row.items c.requires.valid c.requires.classes (record {
  numbers = search rules;
  rows = search rules;
  locations = search rules;
  types = search rules;
  constraints = search rules;
  calls = search rules;
  functions = search rules;
}) G least_T F least old location known

pub returns-clause-least : goal.returns-clause-least
returns-clause-least c G least_T = gives_least c.args.system.now (record { rows = c.in_ok-numbers.numbers.rows; locations = c.in_ok-locations.locations; types = c.in_ok-types.types; constraints = c.add_twins.new.list; calls = c.in_ok-calls.calls; functions = c.in_ok-functions.functions }) c.args.share.now c.in_ok-numbers.numbers.row.items c.requires.valid c.requires.classes (record {
  numbers = search rules;
  rows = search rules;
  locations = search rules;
  types = search rules;
  constraints = search rules;
  calls = search rules;
  functions = search rules;
}) G least_T
