use Rattle.std.proofs.Common.{◌≡◌, Some, slice_get}
use Rattle.sol_model.specs.declared.system.CallSite.{CallSite}
use Rattle.new_members.specs.News.{Takes, EnteredEdge}
use Rattle.new_members.proofs.Through.{Through}
use Rattle.new_members.proofs.calls.enter_plain.Given as goal

abbrev pub invariant-loop-location : goal.invariant-loop-location
invariant-loop-location l = (site : CallSite) → slice_get l.system.calls l.number ≡ Some site → Takes l.initial.book l.book (Through l.new (EnteredEdge l.system site l.number) l.location-index)
