use Rattle.std.proofs.Common.{rules, ◌≡◌, ◌∙◌, true, false, Bool, if◌then◌else◌, ℕ, ◌+◌, List, [], ◌∷◌, Option, Some, Result, Ok, Err, slice_get, sym, ap}
use Rattle.std.proofs.lemmas.Option.{slice_get-get_or}
use Rattle.c_types.specs.declared.term.PathStep.TheVariants.{Index}
use Rattle.c_types.specs.Trees.{Ctype}
use Rattle.c_types.specs.Table.{type_of}
use Rattle.ref_cells.specs.declared.cells.Cell.{Cell}
use Rattle.ref_cells.specs.declared.cells.Cell.TheVariants.{Pointer}
use Rattle.ref_cells.specs.declared.cells.Reason.{Reason}
use Rattle.ref_cells.specs.declared.cells.Reason.TheVariants.{DeadUse}
use Rattle.ref_cells.specs.declared.cells.Value.{Value}
use Rattle.ref_cells.specs.declared.instance.Instance.{Instance}
use Rattle.ref_elements.specs.Runs.{◌>>=◌, live_at}
use Rattle.ref_state.specs.declared.frames.Frame.{Frame}
use Rattle.ref_frames.specs.Made.{seen}
use Rattle.ref_frames.specs.Running.{Running}
use Rattle.ref_calls.specs.declared.lists.Taken.{Taken}
use Rattle.ref_calls.specs.Lists.{argument_at, list_from, taken_by}
use Rattle.ref_calls.proofs.lists.taken_by.Goals as goal

module _ (w : Running) (memory : List Instance) (frames : List Frame) (place : Cell) (t : Ctype) (i k : ℕ) where
  abbrev with_list : Value → Value → Result Taken Reason
  with_list list value = Ok (record { place = place; list = list; value = value })

  abbrev of_value : Result Value Reason → Result Taken Reason
  of_value r = r >>= λ value. with_list (list_from i (k + 1)) value

  abbrev of_instance : Result Instance Reason → Result Taken Reason
  of_instance r = r >>= λ inst. of_value (argument_at w frames i k t inst)

  is_taken : (inst : Instance) (value list : Value) → slice_get memory i ≡ Some inst → inst.live ≡ true → argument_at w frames i k t inst ≡ Ok value
      → list ≡ list_from i (k + 1) → taken_by w memory frames place t (Pointer i (Index k ∷ []) false) ≡ with_list list value
  is_taken inst value list at live h made =
      ap (λ (o : Option Instance). of_instance (live_at o)) at
      ∙ (ap (λ (b : Bool). of_instance (if b then Ok inst else Err DeadUse)) live
      ∙ (ap of_value h
      ∙ ap (λ (l : Value). with_list l value) (sym made)))

pub returns : goal.returns
returns c =
    let w = seen c.args.running.now in
    let t = type_of c.args.running.now.trees.types.now c.args.ty.0 in
    let memory = c.args.memory.now in
    let i = c.in_ok-i.i in
    let k = c.in_ok-i.k in
    let inst = c.in-Some.inst.now in
    let at : slice_get memory i ≡ Some inst =
    ap (λ (xs : List Instance). slice_get xs i) (sym c.instances.ensures)
    ∙ (slice_get-get_or c.instances.result.now i inst c.in-Some.ensures.lookup.3.0
    ∙ ap (λ (x : Instance). Some x) (sym c.in-Some.ensures.lookup.1)) in
    let live : inst.live ≡ true = search rules in
    ap (taken_by w memory c.args.frames.now c.args.place t) c.in_ok-i.ensures
    ∙ is_taken w memory c.args.frames.now c.args.place t i k inst c.in_ok-value.value c.in_ok-list.list at live c.in_ok-value.ensures.value c.in_ok-list.ensures
