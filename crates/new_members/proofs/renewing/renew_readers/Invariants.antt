use Rattle.sol_model.specs.Families.{members}
use Rattle.sol_model.specs.Rules.{DemandsEdge, DemandsFact}
use Rattle.new_members.specs.News.{Extends}
use Rattle.new_members.proofs.Renewals.{Renewing}
use Rattle.new_members.proofs.renewing.renew_readers.Given as goal

abbrev pub invariant-loop-number : goal.invariant-loop-number
invariant-loop-number l = record {
  kept : Extends l.initial.book l.book;
  edges : Renewing l.system (DemandsEdge l.system) (members l.rows) l.news.row l.news.new.now l.number-items l.number-index l.initial.book l.book;
  facts : Renewing l.system (DemandsFact l.system) (members l.rows) l.news.row l.news.new.now l.number-items l.number-index l.initial.facts.items l.facts.items;
}
