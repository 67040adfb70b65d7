use Rattle.std.proofs.Common.{ap, ◌∙◌}
use Rattle.c_results.specs.Placed.{listed}
use Rattle.c_results.proofs.Places.{listed_kept, listed_more}
use Rattle.c_results.proofs.results.Results.push.Goals as goal

pub returns-in_default : goal.returns-in_default
returns-in_default c = record {
  items = rw (← c.self.view_is) (listed_kept c.self.inside.made.items c.placed.new.list.items c.placed.ensures.kept c.self.inside.places.items c.self.invariant.each);
}

pub returns-in_default-push : goal.returns-in_default-push
returns-in_default-push c = record {
  items = rw (← c.self.view_is) (ap (listed c.placed.new.list.items) c.in_default-push.ensures.items ∙ listed_kept c.self.inside.made.items c.placed.new.list.items c.placed.ensures.kept c.self.inside.places.items c.self.invariant.each);
}

pub returns : goal.returns
returns c = record {
  items = rw (← c.self.view_is) (ap (listed c.placed.new.list.items) c.in-Ok-push.ensures.items ∙ listed_more c.self.inside.made.items c.placed.new.list.items c.placed.ensures.kept c.self.inside.places.items c.self.invariant.each c.in-Ok.place c.args.made c.in-Ok.ensures.there);
}
