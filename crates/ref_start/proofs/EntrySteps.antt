-- What an entry is given, by its parameters.
use Rattle.std.proofs.Common.{arith, ◌≡◌, ℕ, ◌+◌, ◌≤◌, false, List, [], length, map, Option, None, Result, Ok, Err, slice_get, ap, sym, ◌∙◌}
use Rattle.std.proofs.lemmas.List.{get_or_past}
use Rattle.c_types.specs.declared.key.ObjectKey.TheVariants.{Entity as EntityKey}
use Rattle.c_types.specs.Trees.{Ctype, VoidType, PointerTo}
use Rattle.c_types.specs.Table.{Table, type_of, types_of}
use Rattle.c_types.proofs.Grow.{grown_length}
use Rattle.core_tree.specs.declared.node.Entity.{Entity}
use Rattle.obj_space.specs.View.{view_of}
use Rattle.row_numbers.specs.Functions.{parameters_of}
use Rattle.ref_cells.specs.declared.cells.Reason.{Reason}
use Rattle.ref_cells.specs.declared.cells.Reason.TheVariants.{Mismatch}
use Rattle.ref_elements.specs.Runs.{◌>>=◌}
use Rattle.ref_elements.specs.Types.{same_type}
use Rattle.ref_state.specs.declared.state.State.{State}
use Rattle.ref_frames.specs.Running.{Running}
use Rattle.ref_frames.specs.Frames.{activation_of, entered}
use Rattle.ref_frames.specs.OnTop.{on_top, only}
use Rattle.ref_start.specs.Begin.{main_entry}
use Rattle.ref_start.specs.Entries.{Given, given_all, given_to, with_given, entered_given, enters_entry}

-- an id behind the table's is that of no pointer
pub none_past : (table : Table) (id : ℕ) (t to : Ctype) → length table.terms ≤ id → t ≡ PointerTo to → false ≡ same_type (type_of table id) t
none_past table id t to past is =
    let long = grown_length [] table.terms in
    let void : type_of table id ≡ VoidType = get_or_past (types_of table) id VoidType (omega (arith, long, past)) in
    sym (ap (λ (s : Ctype). same_type s t) void ∙ ap (same_type VoidType) is)

-- what isn't there isn't entered
pub not_entered : (w : Running) (st : State) (e h : ℕ) → slice_get w.trees.entities e ≡ None → enters_entry w st e h ≡ Err Mismatch
unfolding entered
not_entered w st e h none =
    let given : Given = given_to w st e h in
    ap (λ (o : Option Entity). activation_of w (length st.memory + length given.fresh) (main_entry e) given.arguments o >>= λ made.
    let r : Result State Reason = Ok (on_top (with_given st given) st.frames (only made.stores) made) in r) none

-- what an entry is given is by its list of parameters
pub given_listed : (w : Running) (st : State) (e h : ℕ) (list : List ℕ) (given : Given)
    → map EntityKey list ≡ parameters_of w.trees (view_of w.space) e
    → given ≡ given_all w.trees (length st.memory) h (record { fresh = []; handed = st.handed; arguments = [] }) (map EntityKey list)
    → entered_given w st e given ≡ enters_entry w st e h
given_listed w st e h list given are is =
    ap (entered_given w st e) (is ∙ ap (given_all w.trees (length st.memory) h (record { fresh = []; handed = st.handed; arguments = [] })) are)
