use Rattle.std.proofs.Common.{◌≡◌, ◌↔◌, ℕ, ◌<◌, Some, IsTrue, slice_get}
use Rattle.sol_model.specs.declared.system.Function.{Function}
use Rattle.obj_space.specs.View.{view_of}
use Rattle.mod_ref.specs.Gains.{Gains, IsLibraryAt, IsMadeAt}
use Rattle.mod_ref.proofs.library_calls.add_made.Given as goal

-- what the library functions at the locations so far make was added, and whether there was one
abbrev pub invariant-loop-i : goal.invariant-loop-i
invariant-loop-i l = record {
  gains : Gains l.fn.touched l.touched (λ r node. (k : ℕ) × (k < l.i) × ((at : ℕ) × (slice_get l.held k ≡ Some at) × ((r ≡ l.row) × IsMadeAt (view_of l.ground.space.now) l.ground.system.now l.access l.call at node)));
  found : IsTrue l.found ↔ ((k : ℕ) × (k < l.i) × ((at : ℕ) × (slice_get l.held k ≡ Some at) × ((number : ℕ) × (function : Function) × IsLibraryAt l.ground.system.now l.call at number function)));
}
