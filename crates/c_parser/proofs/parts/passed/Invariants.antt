use Rattle.std.proofs.Common.{Some}
use Rattle.c_grammar.specs.Notes.{noted}
use Rattle.c_parser.specs.Parts.{IsReadAs}
use Rattle.c_parser.proofs.parts.passed.Given as goal

-- what the production gives, the one that is used gives
abbrev pub invariant-forks : goal.invariant-forks
invariant-forks l = IsReadAs l.used l.first l.second l.depth (noted l.notes) (Some l.production)
