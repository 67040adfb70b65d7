-- A pending call of a library function, and a function that it calls back.
use Rattle.std.specs.Prelude.{ℕ, if◌then◌else◌, List, [], ◌∷◌, ◌++◌, Option, Some, None, Result, Ok, Err, length}
use Rattle.std.specs.Prelude.{slice_get}
use Rattle.c_types.specs.declared.key.ObjectKey.{ObjectKey}
use Rattle.c_types.specs.declared.key.ObjectKey.TheVariants.{Entity as EntityKey, Call as CallKey, Star}
use Rattle.c_types.specs.declared.key.ObjectKey.TheVariants.{Function as FunctionKey}
use Rattle.c_types.specs.declared.term.TypeId.{TypeId}
use Rattle.c_types.specs.declared.term.Term.{Term}
use Rattle.c_types.specs.declared.term.Term.TheVariants.{Function as FunctionTerm}
use Rattle.core_tree.specs.declared.node.Node.{Node}
use Rattle.core_tree.specs.Typed.{CoreTrees}
use Rattle.row_numbers.specs.Objects.{library_id}
use Rattle.call_sites.specs.Signatures.{comparison}
use Rattle.call_sites.specs.Calls.{named_library, is_named}
use Rattle.ref_cells.specs.declared.cells.Reason.{Reason}
use Rattle.ref_cells.specs.declared.cells.Reason.TheVariants.{NullUse, Mismatch, BadCall}
use Rattle.ref_cells.specs.declared.cells.Cell.{Cell}
use Rattle.ref_cells.specs.declared.cells.Cell.TheVariants.{Null, Function}
use Rattle.ref_cells.specs.declared.cells.Value.{Value}
use Rattle.ref_cells.specs.declared.instance.Instance.{Instance}
use Rattle.ref_elements.specs.declared.outcome.Next.{Next}
use Rattle.ref_elements.specs.declared.outcome.Next.TheVariants.{Done, Again, Calls, Keeps, Ends}
use Rattle.ref_elements.specs.Types.{same_type}
use Rattle.ref_elements.specs.Runs.{◌>>=◌}
use Rattle.ref_elements.specs.Outcomes.{Effect}
use Rattle.ref_lib.specs.Effects.{effect}
use Rattle.ref_state.specs.declared.items.Item.TheVariants.{Library}
use Rattle.ref_state.specs.declared.frames.Frame.{Frame}
use Rattle.ref_state.specs.declared.state.State.{State}
use Rattle.ref_state.specs.Items.{settled}
use Rattle.ref_frames.specs.Running.{Running, element_type}
use Rattle.ref_calls.specs.Calls.{signature_of}
use Rattle.ref_frames.specs.Frames.{entered, finished}
use Rattle.ref_frames.specs.OnTop.{on_top, only}

abbrev pub named_by : CoreTrees → Option Node → Option ℕ
named_by u None = None
named_by u (Some node) = named_library u node

-- the object that a call gets from a library function: its own where it names the function
abbrev pub object_of : CoreTrees → ℕ → ℕ → ObjectKey
object_of u n k = if is_named (named_by u (slice_get u.nodes n)) k then CallKey n else Star k

abbrev pub result_in : Option Term → Option TypeId
result_in (Some (FunctionTerm result parameters form)) = Some result
result_in term = None

abbrev pub term_in : CoreTrees → Option TypeId → Option Term
term_in u None = None
term_in u (Some id) = slice_get u.types.terms id.0

abbrev pub performed_as : Running → List Instance → ℕ → ℕ → List Value → ℕ → Option TypeId → Effect
performed_as w memory n k arguments word None = Err Mismatch
performed_as w memory n k arguments word (Some result) =
    effect w.trees.types memory k (object_of w.trees n k)
    (element_type w (object_of w.trees n k)) result arguments word

-- the effect of the library function k, called at node n
unfoldable pub performed : Running → List Instance → ℕ → ℕ → List Value → ℕ → Effect
performed w memory n k arguments word =
    performed_as w memory n k arguments word (result_in (term_in w.trees (library_id k w.trees.entities)))

-- a function that is called back is a comparison
abbrev pub comparison_of : CoreTrees → Cell → Result ObjectKey Reason
comparison_of u Null = Err NullUse
comparison_of u (Function key) = if same_type (signature_of u key) comparison then Ok key else Err BadCall
comparison_of u cell = Err BadCall

abbrev pub back_by : Running → State → Frame → List Frame → ℕ → ℕ → List Value → ObjectKey → Result State Reason
back_by w state f rest n by arguments (EntityKey e) =
    entered w (length state.memory) (record { function = e; call = None; by = Some by }) arguments >>= λ made.
    Ok (on_top state (f ∷ rest) (only made.stores) made)
back_by w state f rest n by arguments (FunctionKey k) =
    Ok (record state { frames = record f { items = Library n k arguments ∷ f.items } ∷ rest; notes = only [] })
back_by w state f rest n by arguments key = Err BadCall

abbrev pub kept_of : Cell → ℕ → List (ObjectKey × ℕ)
kept_of (Function key) n = (key, n) ∷ []
kept_of cell n = []

abbrev pub with_top : State → Frame → List Frame → List (Cell × Cell) → State
with_top state f rest stores = record state { frames = f ∷ rest; notes = only stores }

-- how the call goes on: it is done, wants another turn, calls back, keeps a function, or ends the program
abbrev pub goes_by : Running
    → State
    → Frame
    → List Frame
    → ℕ
    → ℕ
    → Value
    → List (Cell × Cell)
    → Next
    → Result State Reason
goes_by w state f rest n k value stores Done =
    Ok (with_top state (record f { items = settled n value f.items }) rest stores)
goes_by w state f rest n k value stores Again = Ok (with_top state f rest stores)
goes_by w state f rest n k value stores (Calls callee arguments) =
    comparison_of w.trees callee >>= λ key. back_by w state f rest n k arguments key
goes_by w state f rest n k value stores (Keeps cell) =
    Ok (with_top (record state { kept = state.kept ++ kept_of cell n })
    (record f { items = settled n value f.items }) rest stores)
goes_by w state f rest n k value stores (Ends status at_once) =
    Ok (record (finished (with_top state f rest stores) status at_once) { notes = only stores })

-- the pending call on top of frame f: its effect, and how it goes on
unfoldable pub library_row : Running → State → Frame → List Frame → ℕ → ℕ → List Value → ℕ → Result State Reason
library_row w state f rest n k arguments word =
    performed w state.memory n k arguments word >>= λ e.
    goes_by w (record state { memory = e.memory }) f rest n k e.outcome.value e.outcome.stores e.outcome.next
