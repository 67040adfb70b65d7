use Rattle.std.proofs.Common.{◌≡◌, ◌≤◌, length, Result}
use Rattle.c_grammar.specs.Reads.{Opens, State, Fault}
use Rattle.c_parser.specs.Parse.{begin, Sees}
use Rattle.c_parser.specs.Leads.{Leads}
use Rattle.c_parser.proofs.reader.read_production.Given as goal

-- whatever the open productions lead to, reading the production gives
abbrev pub invariant-turns : goal.invariant-turns
invariant-turns l = record {
  within : l.progress.ahead.place ≤ length l.input.tokens.now;
  sees : Sees l.input.text.now l.input.tokens.now l.scopes l.progress.ahead;
  leads : (r : Result State Fault) → Leads l.input.text.now l.input.tokens.now l.progress l.scopes l.tree.nodes.items r → Opens l.input.text.now l.input.tokens.now l.production l.depth (begin l.at l.fn.scopes l.fn.tree.nodes.items) r;
  unit : l.tree.unit ≡ l.fn.tree.unit;
  root : l.tree.root ≡ l.fn.tree.root;
}
