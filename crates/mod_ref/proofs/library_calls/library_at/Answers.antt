use Rattle.std.proofs.Common.{sym, ◌∙◌}
use Rattle.std.proofs.lemmas.Bool.{false≢true}
use Rattle.mod_ref.proofs.Reaching.{library_none, library_not, library_there, library_within}
use Rattle.mod_ref.proofs.library_calls.library_at.Goals as goal

pub returns-in_default : goal.returns-in_default
returns-in_default c = library_none c.args.system.now c.args.call.now c.args.location c.location_fact.result c.requires.valid c.location_fact.ensures.value (λ number is. c.in_default.not-Some number is)

pub is_library-requires-clause-number : goal.is_library-requires-clause-number
is_library-requires-clause-number c = library_within c.args.system.now c.args.call.now c.args.location c.location_fact.result c.requires.valid c.location_fact.ensures.value c.in-Some.number c.in-Some.is

pub returns-then-is_library : goal.returns-then-is_library
returns-then-is_library c =
    library_there c.args.system.now c.args.call.now c.args.location c.location_fact.result c.requires.valid c.location_fact.ensures.value c.in-Some.number c.in-Some.is (λ function at. (c.is_library.ensures function at).0 c.if-is_library.true)

pub returns-else-is_library : goal.returns-else-is_library
returns-else-is_library c =
    library_not c.args.system.now c.args.call.now c.args.location c.location_fact.result c.requires.valid c.location_fact.ensures.value c.in-Some.number c.in-Some.is
    (λ function at both. false≢true (sym c.if-is_library.false ∙ (c.is_library.ensures function at).1 both))
