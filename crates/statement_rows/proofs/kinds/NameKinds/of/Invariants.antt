use Rattle.std.proofs.Common.{◌≡◌, ◌-◌, length, drop}
use Rattle.statement_rows.specs.Kinds.{Flagged}
use Rattle.statement_rows.proofs.kinds.NameKinds.of.Given as goal

-- the flags say what the last declarations say
abbrev pub invariant-loop-index : goal.invariant-loop-index
invariant-loop-index l = record {
  types : length l.typedefs.items ≡ l.count;
  names : length l.functions.items ≡ l.count;
  flags : Flagged (drop (length l.declared - l.index) l.declared) l.typedefs.items l.functions.items;
}
