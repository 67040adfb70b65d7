-- What a pending call performs leaves the memory as it was where it calls back or keeps a function.
use Rattle.std.proofs.Common.{ℕ, List, Option, Some, None}
use Rattle.c_types.specs.declared.term.TypeId.{TypeId}
use Rattle.ref_cells.specs.declared.cells.Value.{Value}
use Rattle.ref_cells.specs.declared.instance.Instance.{Instance}
use Rattle.row_numbers.specs.Objects.{library_id}
use Rattle.ref_frames.specs.Running.{Running, element_type}
use Rattle.covering_laws.specs.calm_effects.Calm.{LeavesCalm}
use Rattle.covering_laws.proofs.calm_effects.Calm.{effect_is_calm}
use Rattle.ref_calls.specs.Library.{performed, performed_as, result_in, term_in, object_of}

as_calm : (w : Running) (memory : List Instance) (n k : ℕ) (arguments : List Value) (word : ℕ) (o : Option TypeId)
    → LeavesCalm memory (performed_as w memory n k arguments word o)
as_calm w memory n k arguments word None = tt
as_calm w memory n k arguments word (Some result) =
    effect_is_calm w.trees.types memory k (object_of w.trees n k) (element_type w (object_of w.trees n k)) result arguments word

pub performed_calm : (w : Running) (memory : List Instance) (n k : ℕ) (arguments : List Value) (word : ℕ)
    → LeavesCalm memory (performed w memory n k arguments word)
unfolding performed
performed_calm w memory n k arguments word =
    as_calm w memory n k arguments word (result_in (term_in w.trees (library_id k w.trees.entities)))
