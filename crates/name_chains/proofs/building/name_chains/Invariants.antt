use Rattle.std.proofs.Common.{List, length, take}
use Rattle.c_lexer.specs.declared.Token.{Token}
use Rattle.c_grammar.specs.Reads.{Node}
use Rattle.c_mentions.specs.Settings.{AreSettings}
use Rattle.name_chains.specs.Links.{AreBackward}
use Rattle.name_chains.specs.Chains.{AreWithin}
use Rattle.name_chains.specs.Seen.{Stands, scopes_of}
use Rattle.name_chains.proofs.building.name_chains.Given as goal

-- the declarations so far are taken in
abbrev pub invariant-loop-declared : goal.invariant-loop-declared
invariant-loop-declared l = record {
  own : AreBackward l.chains.own.items;
  links : AreBackward l.chains.links.items;
  within : AreWithin l.chains.own.items l.chains.links.items l.places;
  stands : (tokens : List Token) (nodes : List Node) → AreSettings tokens nodes l.settings → Stands (length nodes) (scopes_of tokens nodes) (take l.declared-index l.names) l.chains l.places;
}
