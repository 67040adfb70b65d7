use Rattle.std.proofs.Common.{◌≡◌}
use Rattle.link_model.specs.link_types.Joined.{tag_in}
use Rattle.link_merge.specs.Complete.{AreListed}
use Rattle.link_merge.proofs.complete.complete_all.Given as goal

abbrev pub invariant-loop-u : goal.invariant-loop-u
invariant-loop-u l = record {
  terms : l.types.terms ≡ l.initial.types.terms;
  tags : l.types.tags ≡ l.initial.types.tags;
  listed : AreListed l.units l.type_starts (tag_in l.tag_starts l.numbers) l.types l.u;
}
