-- Instances of objects of the whole run are found where they were at the start.
use Rattle.std.proofs.Common.{◌≡◌, ℕ, suc, ◌+◌, Bool, true, false, cond, List, [], ◌∷◌, Option, Some, None, slice_get, Ok, IfSome, refl, ap, sym, subst, ◌∙◌}
use Rattle.std.specs.BTreeMap.{BTreeMap}
use Rattle.c_types.specs.declared.key.ObjectKey.{ObjectKey}
use Rattle.core_tree.specs.declared.node.Node.{Node}
use Rattle.core_tree.specs.declared.node.NodeKind.{NodeKind}
use Rattle.core_tree.specs.Typed.{CoreTrees}
use Rattle.obj_space.specs.Found.{same_object, kept_for}
use Rattle.ref_cells.specs.declared.cells.Cell.TheVariants.{Pointer}
use Rattle.ref_cells.specs.declared.cells.Value.{Value}
use Rattle.ref_cells.specs.declared.instance.Instance.{Instance}
use Rattle.ref_mem.specs.Reads.{one_cell}
use Rattle.ref_elements.specs.Outcomes.{gives}
use Rattle.ref_state.specs.declared.frames.Frame.{Frame}
use Rattle.ref_state.specs.declared.items.Item.{Item}
use Rattle.ref_state.specs.declared.state.State.{State}
use Rattle.ref_state.specs.Items.{settled}
use Rattle.ref_places.specs.Places.{own_instance, first_instance}
use Rattle.ref_values.specs.Values.{computed}
use Rattle.ref_statements.specs.Forms.{form_of}
use Rattle.ref_statements.specs.Rows.{Row, computes}
use Rattle.ref_statements.specs.Nodes.{begun_value, begun_by, do_in, do_row}
use Rattle.ref_start.specs.Standing.{Names, entity, text}
use Rattle.ref_start.proofs.FirstInstances.{named_computed, place_named}
use Rattle.ref_machine.specs.Standing.{key_in, KeysStay, AreStanding}
use Rattle.ref_machine.proofs.TopFrame.{top_is}

-- The first instance of an object stays, where all instances stay those of their objects.

key_same : (x y : Instance) → key_in (Some y) ≡ Some x.key → y.key ≡ x.key
key_same x y h = cc

one_or_other : (b : Bool) (k i : ℕ) (old new : Option ℕ) → (old ≡ Some i → new ≡ Some i) → cond b (Some k) old ≡ Some i → cond b (Some k) new ≡ Some i
one_or_other true k i old new h e = e
one_or_other false k i old new h e = h e

first_stays : (key : ObjectKey) (k i : ℕ) (old new : List Instance) → KeysStay old new → first_instance key k old ≡ Some i → first_instance key k new ≡ Some i
first_stays key k i [] new stay h = cc
first_stays key k i (x ∷ xs) [] stay h = let none : ◌≡◌ {A = Option ObjectKey} None (Some x.key) = stay 0 x refl in cc
first_stays key k i (x ∷ xs) (y ∷ ys) stay h =
    ap (λ (z : ObjectKey). cond (same_object z key) (Some k) (first_instance key (k + 1) ys)) (key_same x y (stay 0 x refl))
    ∙ one_or_other (same_object x.key key) k i (first_instance key (k + 1) xs) (first_instance key (k + 1) ys)
    (first_stays key (k + 1) i xs ys (λ j inst at. stay (suc j) inst at)) h

pub standing_stays : (standing : BTreeMap (ℕ × ℕ) ℕ) (old new : List Instance) → KeysStay old new → AreStanding standing old → AreStanding standing new
standing_stays standing old new stay h = λ key i at. first_stays key 0 i old new stay (h key i at)

-- A name is done as the place of its object's first instance, where the frame has none of its own.

done_named : (u : CoreTrees) (memory : List Instance) (f : Frame) (n word : ℕ) (node : Node) (key : ObjectKey) → slice_get u.nodes n ≡ Some node → Names u n node key
    → do_row u memory f n word ≡ computes f n (computed u memory f.instances n node [] word)
unfolding do_row
done_named u memory f n word node key there (entity e is none made) =
    ap (λ (o : Option Node). do_in u memory f n o word) there
    ∙ (ap (λ (k : NodeKind). begun_by u memory f n node (form_of k) word) is
    ∙ ap (λ (cs : List ℕ). begun_value u memory f n node cs word) none)
done_named u memory f n word node key there (text bytes is none made) =
    ap (λ (o : Option Node). do_in u memory f n o word) there
    ∙ (ap (λ (k : NodeKind). begun_by u memory f n node (form_of k) word) is
    ∙ ap (λ (cs : List ℕ). begun_value u memory f n node cs word) none)

pub standing_named : (u : CoreTrees) (memory : List Instance) (f : Frame) (n word : ℕ) (node : Node) (key : ObjectKey) (i : ℕ)
    → slice_get u.nodes n ≡ Some node
    → Names u n node key
    → own_instance memory key f.instances ≡ None
    → first_instance key 0 memory ≡ Some i
    → do_row u memory f n word ≡ computes f n (gives memory (one_cell (Pointer i [] false)))
standing_named u memory f n word node key i there names own first =
    done_named u memory f n word node key there names
    ∙ ap (computes f n) (named_computed u memory f.instances n word node key names ∙ place_named memory f.instances key i own first)

-- what is kept for a name that the top frame has no instance of
pub standing_found : (u : CoreTrees) (standing : BTreeMap (ℕ × ℕ) ℕ) (st : State) (n : ℕ) (node : Node) (key : ObjectKey) (frame : Frame)
    → slice_get u.nodes n ≡ Some node
    → Names u n node key
    → slice_get st.frames 0 ≡ Some frame
    → own_instance st.memory key frame.instances ≡ None
    → AreStanding standing st.memory
    → (o : Option ℕ) → o ≡ kept_for standing key
    → IfSome o (λ i. (f : Frame) (rest : List Frame) (word : ℕ) → st.frames ≡ f ∷ rest
    → do_row u st.memory f n word ≡ computes f n (gives st.memory (one_cell (Pointer i [] false))))
standing_found u standing st n node key frame there names top own are None e = tt
standing_found u standing st n node key frame there names top own are (Some i) e =
    λ f rest word frames.
    standing_named u st.memory f n word node key i there names
    (subst (λ (g : Frame). own_instance st.memory key g.instances ≡ None) (top_is st.frames frame f rest frames top) own)
    (are key i (sym e))

-- the place is settled
pub place_settled : (memory : List Instance) (frame : Frame) (n i : ℕ) (items : List Item) (value : Value)
    → items ≡ settled n value frame.items → value ≡ one_cell (Pointer i [] false)
    → computes frame n (gives memory (one_cell (Pointer i [] false))) ≡ Ok (record { memory = memory; frame = record frame { items = items }; stores = [] })
place_settled memory frame n i items value same is =
    sym (ap (λ (xs : List Item). let r : Row = Ok (record { memory = memory; frame = record frame { items = xs }; stores = [] }) in r)
    (same ∙ ap (λ (v : Value). settled n v frame.items) is))
