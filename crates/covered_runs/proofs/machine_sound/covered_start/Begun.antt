-- The step that enters main, or a function at which the program is entered, leaves the state covered.
use Rattle.std.proofs.Common.{arith, ◌≡◌, ◌∙◌, inl, inr, ℕ, zero, suc, ◌+◌, ◌<◌, ◌%◌, Bool, true, false, cond, pos, List, [], ◌∷◌, ◌++◌, append_assoc, set, length, replicate, Option, Some, None, Ok, slice_get, refl, sym, ap, subst}
use Rattle.std.specs.Option.{option_map}
use Rattle.std.proofs.lemmas.Bool.{cases_lt}
use Rattle.std.proofs.lemmas.List.{get_or_past}
use Rattle.c_types.specs.declared.key.ObjectKey.{ObjectKey}
use Rattle.c_types.specs.declared.key.ObjectKey.TheVariants.{Entity as EntityKey, Library as LibraryKey}
use Rattle.c_types.specs.declared.term.PathStep.TheVariants.{Index}
use Rattle.c_types.specs.Trees.{Ctype, PointerTo, VoidType}
use Rattle.c_types.specs.Table.{types_of, type_of}
use Rattle.c_types.proofs.Grow.{grown_length}
use Rattle.core_tree.specs.declared.node.Entity.{Entity}
use Rattle.core_tree.specs.declared.node.Program.{Program}
use Rattle.link_names.specs.Faults.{IsMainType}
use Rattle.sol_model.specs.declared.system.System.{System}
use Rattle.sol_model.specs.Families.{Family, Has}
use Rattle.obj_made.specs.declared.object.Content.{Content}
use Rattle.obj_made.specs.declared.object.Content.TheVariants.{Scalars}
use Rattle.obj_space.specs.declared.location.Location.{Location}
use Rattle.obj_space.specs.Objects.{has_parameters}
use Rattle.obj_space.specs.Space.{locations_in}
use Rattle.obj_space.specs.Spots.{reached, part_at, node_in}
use Rattle.obj_space.specs.View.{first_from}
use Rattle.obj_space.proofs.Preorder.{get_behind}
use Rattle.row_numbers.specs.Functions.{type_or_void, key_type, parameters_of}
use Rattle.row_numbers.specs.Setting.{takes_further}
use Rattle.ref_cells.specs.declared.cells.Cell.TheVariants.{Number}
use Rattle.ref_cells.specs.declared.cells.Value.{Value}
use Rattle.ref_cells.specs.declared.instance.Instance.{Instance}
use Rattle.ref_cells.specs.Cells.{CellList}
use Rattle.ref_cells.specs.Wholes.{whole_of}
use Rattle.ref_mem.specs.Reads.{one_cell}
use Rattle.ref_mem.specs.Writes.{changed}
use Rattle.ref_elements.specs.Objects.{is_object, object_from}
use Rattle.ref_elements.specs.Outcomes.{start_of}
use Rattle.ref_texts.specs.Writing.{text_of}
use Rattle.ref_state.specs.declared.state.State.{State}
use Rattle.ref_state.specs.ref_types.Types.{id}
use Rattle.ref_frames.specs.declared.entering.Activation.{Activation}
use Rattle.ref_frames.specs.Running.{Running}
use Rattle.ref_frames.specs.Frames.{parameter_object, parameter_objects, frame_over, activation, called_list, have_types, entered}
use Rattle.ref_frames.specs.OnTop.{only, on_top}
use Rattle.ref_start.specs.Objects.{cells_from, text_object}
use Rattle.ref_start.specs.Begin.{main_in, argument_pointers, main_entry, with_texts, main_made, begun, begins_at, begins_with, begins, begin}
use Rattle.ref_start.specs.Entries.{starts_by, starts}
use Rattle.covering_laws.specs.covered_memory.Spots.{spot_at, spot_from, room, IsInTree}
use Rattle.covering_laws.specs.covered_memory.Covered.{CellIn, pointer_row, ValueIn, HasShape, InstanceIn, MemoryIn, Leaves}
use Rattle.covering_laws.proofs.covered_memory.Stays.{cell_stays, same_memory}
use Rattle.covering_laws.specs.covered_state.World.{World, trees_of, view_in}
use Rattle.covering_laws.specs.covered_state.Items.{Each}
use Rattle.covering_laws.specs.covered_state.Awaited.{IsBare}
use Rattle.covering_laws.proofs.covered_state.Stays.{each_change, handed_stay}
use Rattle.covered_runs.proofs.covered_steps.covered_values.Operands.{ok_one, err_ok, went}
use Rattle.covered_runs.specs.covered_steps.Steps.{NoneBare}
use Rattle.covered_runs.proofs.covered_steps.Frames.{then_left}
use Rattle.covered_runs.proofs.covered_steps.Made.{made_so, parameters_covered}
use Rattle.covered_runs.specs.covered_steps.covered_calls.Activations.{IsParameterOf}
use Rattle.covering_laws.specs.covered_types.Calls.{type_from}
use Rattle.covered_runs.specs.covered_steps.covered_statements.Runnable.{IsRunnable, Steady}
use Rattle.covered_runs.specs.covered_steps.covered_statements.Rows.{running_in}
use Rattle.covered_runs.proofs.covered_steps.covered_statements.Calling.{IsEntered, entered_inv, plain_objects, parameters_met}
use Rattle.covered_runs.specs.machine_sound.covered_start.Objects.{machine_table, machine_sets, IsSolved}
use Rattle.covered_runs.specs.machine_sound.covered_start.Arguments.{AreTexts, with_list}
use Rattle.covered_runs.specs.machine_sound.covered_start.Start.{machine_world, StartsRight, BeginSteady}
use Rattle.covered_runs.proofs.machine_sound.covered_start.Types.{longer}
use Rattle.covered_runs.proofs.machine_sound.covered_start.Pointed.{IsHere, here, content_at}
use Rattle.covered_runs.proofs.machine_sound.covered_start.Arguments.{list_content, texts_covered, lists_covered}
use Rattle.covered_runs.proofs.machine_sound.covered_start.Filled.{bare_back, changed_back}
use Rattle.covered_runs.proofs.machine_sound.covered_start.Framed.{more_bare, none_bare, framed}
use Rattle.covered_runs.proofs.machine_sound.covered_start.Entered.{one_steady}
use Rattle.covered_runs.proofs.machine_sound.covered_start.Mains.{IsStarting, starting, main_plain, has_some, second_pointer, argument_first, list_given}

some_one : {X : Type 0} → {x y : X} → ◌≡◌ {A = Option X} (Some x) (Some y) → x ≡ y
some_one h = cc

none_some : {X : Type 0} → {x : X} → ◌≡◌ {A = Option X} None (Some x) → ⊥
none_some h = cc

-- Lists of like elements, and changes in the first of two lists.

each_like : {X : Type 0} (P : X → Type 0) (n : ℕ) (x : X) → P x → Each P (replicate n x)
each_like P zero x h = tt
each_like P (suc n) x h = (h, each_like P n x h)

like_at : {X : Type 0} (n k : ℕ) (x : X) → k < n → slice_get (replicate n x) k ≡ Some x
like_at zero k x lt = absurd (omega arith)
like_at (suc n) zero x lt = refl
like_at (suc n) (suc k) x lt = like_at n k x (omega arith)

get_front : (xs ys : List Instance) (i : ℕ) (a : Instance) → slice_get xs i ≡ Some a → slice_get (xs ++ ys) i ≡ Some a
get_front [] ys i a e = absurd (none_some e)
get_front (x ∷ xs) ys zero a e = e
get_front (x ∷ xs) ys (suc i) a e = get_front xs ys i a e

set_front : (xs ys : List Instance) (i : ℕ) (v a : Instance) → slice_get xs i ≡ Some a → set (xs ++ ys) i v ≡ set xs i v ++ ys
set_front [] ys i v a e = absurd (none_some e)
set_front (x ∷ xs) ys zero v a e = refl
set_front (x ∷ xs) ys (suc i) v a e = ap (λ (l : List Instance). x ∷ l) (set_front xs ys i v a e)

changed_front : (xs ys : List Instance) (i : ℕ) (change : Instance → Instance) (a : Instance) → slice_get xs i ≡ Some a → changed (xs ++ ys) i (slice_get (xs ++ ys) i) change ≡ changed xs i (slice_get xs i) change ++ ys
changed_front xs ys i change a e =
    ap (λ (o : Option Instance). changed (xs ++ ys) i o change) (get_front xs ys i a e)
    ∙ (set_front xs ys i (change a) a e ∙ ap (λ (o : Option Instance). changed xs i o change ++ ys) (sym e))

found_front : (position k : ℕ) (xs ys : List Instance) (i : ℕ) → object_from position k xs ≡ Some i → object_from position k (xs ++ ys) ≡ Some i
found_front position k [] ys i e = absurd (none_some e)
found_front position k (x ∷ xs) ys i e = by (is_object position x.key) e (found_front position (k + 1) xs ys i)
  where
    by : (b : Bool) → cond b (Some k) (object_from position (k + 1) xs) ≡ Some i → (object_from position (k + 1) xs ≡ Some i → object_from position (k + 1) (xs ++ ys) ≡ Some i) → cond b (Some k) (object_from position (k + 1) (xs ++ ys)) ≡ Some i
    by true f next = f
    by false f next = next f

-- a type of main's is the same in the machine's table
module _ (p : Program) (system : System) (family : Family) (s : IsSolved p system family) where
  own_type : (i : ℕ) → IsMainType (type_of p.types i) → type_of (machine_table p) i ≡ type_of p.types i
  own_type i h = elim (cases_lt i (length p.types.terms)) [
    | inl less ↦ (longer p s.made s.named).types i less
    | inr past ↦
        let long = grown_length [] p.types.terms in
        let void : type_of p.types i ≡ VoidType = get_or_past (types_of p.types) i VoidType (omega arith) in
        absurd (subst IsMainType void h)
  ]

  abbrev pub W : World
  W = machine_world p system family s

  -- `<argv>` is where it is pointed to, and its location is in that set
  list_in : (memory : List Instance) (argv row : ℕ) → (all : MemoryIn (machine_sets p family) memory) → (h : IsHere p system family s memory 9 argv) → Has family row h.inside.first → CellIn (machine_sets p family) memory (Some row) (start_of argv)
  list_in memory argv row all h has =
      let content = content_at p system family s 9 h.inside.first h.inside.location (Scalars 4) list_content h.first_is h.inside.location_is in
      let shape : HasShape (machine_table p) (Scalars 4) (whole_of (machine_table p) h.inst) = subst (λ (c : Content). HasShape (machine_table p) c (whole_of (machine_table p) h.inst)) content h.inside.shape in
      record {
        inst = h.inst;
        inst_is = h.there;
        in_tree = subst (λ (w : Option Ctype). IsInTree (machine_table p) w (room h.inst) (Index 0 ∷ [])) (sym shape.2) refl;
        lands = record {
          at = row;
          location = h.inside.first;
          row_is = refl;
          found_is = ap (λ (f : Option ℕ). spot_from (machine_table p) (locations_in p) f (Index 0 ∷ [])) h.inside.first_is
              ∙ (ap (λ (z : Option Location). spot_at (machine_table p) h.inside.first z (Index 0 ∷ [])) h.inside.location_is
              ∙ (ap (λ (c : Content). option_map (λ (n : ℕ). h.inside.first + n) (node_in (machine_table p) c (Index 0 ∷ []))) content ∙ ap (λ (n : ℕ). Some n) (let z : h.inside.first + 0 ≡ h.inside.first = omega arith in z)));
          has = has;
        };
      }

  module _ (runs : IsRunnable (machine_world p system family s)) (state : State) (steady : Steady (machine_world p system family s) state) (outside : state.frames ≡ []) (empty : p.entries.items ≡ []) where
    -- main's frame over a covered memory, behind which its objects are made
    module _ (memory fresh : List Instance) (left : Leaves (machine_sets p family) state.memory memory) (more : Leaves (machine_sets p family) memory (memory ++ fresh)) (none : NoneBare W (memory ++ fresh)) where
      on_main : (main count : ℕ) (arguments : List Value) (m : IsStarting p.entities.items main) (made : Activation) → (inv : IsEntered W count (main_entry main) arguments made)
          → Steady W (record state { memory = memory ++ fresh; frames = frame_over (main_entry main) count inv.body fresh ∷ state.frames; notes = only [] })
      on_main main count arguments m made inv =
          framed W runs state steady outside (memory ++ fresh) fresh state.handed [] more.covered none
          (handed_stay W memory (memory ++ fresh) more.extends state.handed (handed_stay W state.memory memory left.extends state.handed steady.covered.handed)) tt main count arguments made inv
          (ap (λ (x : Entity). x.storage) (some_one (sym inv.there ∙ m.there)) ∙ m.storage) (λ some. absurd (some empty))

    -- main has objects of its parameters alone, since nothing is passed past these
    own_objects : (main : ℕ) (m : IsStarting p.entities.items main) → IsMainType (type_of p.types m.entity.ty.0) → (count : ℕ) (arguments : List Value) (made : Activation) → (inv : IsEntered W count (main_entry main) arguments made)
        → activation (main_entry main) count inv.body (parameter_objects (trees_of W) (parameters_of (trees_of W) (view_in W) main) arguments) ≡ made
    own_objects main m right count arguments made inv =
        let plain : takes_further (key_type (trees_of W) (EntityKey main)) ≡ false =
        ap (λ (o : Option Entity). takes_further (type_or_void (machine_table p) (option_map (λ (x : Entity). x.ty) o))) m.there
        ∙ main_plain (type_of (machine_table p) m.entity.ty.0) (subst IsMainType (sym (own_type m.entity.ty.0 right)) right) in
        ap (activation (main_entry main) count inv.body) (sym (plain_objects W main arguments plain)) ∙ inv.made_is

    -- main without parameters has no objects of its own
    no_objects : (keys : List ObjectKey) → parameter_objects (trees_of W) keys [] ≡ []
    no_objects [] = refl
    no_objects (key ∷ rest) = refl

    begins_plain : (main : ℕ) → (m : IsStarting p.entities.items main) → IsMainType (type_of p.types m.entity.ty.0) → (made : Activation) → entered (running_in W (id (length p.types.terms))) (length state.memory) (main_entry main) [] ≡ Ok made → Steady W (on_top state state.frames (only []) made)
    begins_plain main m right made e =
        let inv = entered_inv W (id (length p.types.terms)) (length state.memory) (main_entry main) [] made e in
        let none = no_objects (parameters_of (trees_of W) (view_in W) main) in
        let fresh : List Instance = parameter_objects (trees_of W) (parameters_of (trees_of W) (view_in W) main) [] in
        subst (λ (a : Activation). Steady W (on_top state state.frames (only []) a)) (own_objects main m right (length state.memory) [] made inv)
        (on_main state.memory fresh (record { extends = same_memory (machine_sets p family) state.memory; covered = steady.covered.memory })
        (subst (λ (list : List Instance). Leaves (machine_sets p family) state.memory (state.memory ++ list)) (sym none) (made_so (machine_sets p family) state.memory [] steady.covered.memory tt))
        (subst (λ (list : List Instance). NoneBare W (state.memory ++ list)) (sym none) (more_bare W state.memory [] (none_bare W runs state steady outside) tt)) main (length state.memory) [] m made inv)

    -- the texts, the list of pointers to them, and main's parameters
    module _ (main : ℕ) (m : IsStarting p.entities.items main) (right : IsMainType (type_of p.types m.entity.ty.0)) (argv count word : ℕ) (found : object_from 9 0 state.memory ≡ Some argv) (takes : (l : ℕ) × (first_from 0 (locations_in p) (LibraryKey 10) ≡ Some l)) where
      abbrev text : Instance
      text = text_object (LibraryKey 10) (id (length p.types.terms + 1)) (text_of word)

      abbrev listed : List Instance
      listed = with_list (state.memory ++ replicate count text) argv (length state.memory) count

      texts_left : Leaves (machine_sets p family) state.memory (state.memory ++ replicate count text)
      texts_left =
          made_so (machine_sets p family) state.memory (replicate count text) steady.covered.memory
          (each_like (InstanceIn (machine_sets p family) state.memory) count text (texts_covered p system family state.memory (text_of word) takes.0 s takes.1))

      are_texts : AreTexts (state.memory ++ replicate count text) (length state.memory) count
      are_texts k lt = (text, get_behind state.memory (replicate count text) (length state.memory + k) k refl ∙ like_at count k text lt, refl)

      list_left : Leaves (machine_sets p family) (state.memory ++ replicate count text) listed
      list_left = lists_covered p system family (state.memory ++ replicate count text) argv (length state.memory) count s texts_left.covered (found_front 9 0 state.memory (replicate count text) argv found) are_texts

      before_left : Leaves (machine_sets p family) state.memory listed
      before_left = then_left (machine_sets p family) state.memory (state.memory ++ replicate count text) listed texts_left list_left

      listed_bare : NoneBare W listed
      listed_bare =
          bare_back W (state.memory ++ replicate count text) listed list_left.extends
          (changed_back (state.memory ++ replicate count text) argv (λ inst. record inst { cells = cells_from 0 (argument_pointers (length state.memory) count) }) (λ a. refl))
          (more_bare W state.memory (replicate count text) (none_bare W runs state steady outside) (each_like (λ (x : Instance). IsBare W x → ⊥) count text (λ bare. none_some (sym bare.untyped))))

      own : IsHere p system family s state.memory 9 argv
      own = here p system family s state.memory 9 argv steady.covered.memory found

      abbrev IsMade : Instance → Type 0
      IsMade inst = InstanceIn (machine_sets p family) listed inst × (inst.ty ≡ None → ⊥)

      -- a parameter's object with a value that is covered in it
      one_made : (key : ObjectKey) (t : Ctype) (value : Value) → (h : IsParameterOf W key t) → ValueIn (machine_sets p family) listed (λ i. h.place.first + i) (type_of (machine_table p) h.place.entity.ty.0) value → IsMade (parameter_object (trees_of W) key value)
      one_made key t value h cells =
          subst (λ (k : ObjectKey). IsMade (parameter_object (trees_of W) k value)) (sym h.key_is)
          (parameters_covered W listed h.e value h.place cells, λ none. none_some (sym none ∙ ap (λ (o : Option Entity). option_map (λ (x : Entity). x.ty) o) h.place.entity_is))

      counted : (key : ObjectKey) (t : Ctype) → IsParameterOf W key t → IsMade (parameter_object (trees_of W) key (one_cell (Number (pos count))))
      counted key t h = one_made key t (one_cell (Number (pos count))) h (tt, tt)

      pointed : (key : ObjectKey) (t : Ctype) → (h : IsParameterOf W key t) → (to : Ctype) → type_of (machine_table p) h.place.entity.ty.0 ≡ PointerTo to → Has family h.place.first own.inside.first → IsMade (parameter_object (trees_of W) key (one_cell (start_of argv)))
      pointed key t h to pointer has = one_made key t (one_cell (start_of argv)) h (cell, tt)
        where
          row_is : pointer_row (λ i. h.place.first + i) (part_at (machine_table p) (Some (reached (type_of (machine_table p) h.place.entity.ty.0) 0 false)) []) ≡ Some h.place.first
          row_is =
              ap (λ (x : Ctype). pointer_row (λ i. h.place.first + i) (part_at (machine_table p) (Some (reached x 0 false)) [])) pointer ∙ ap (λ (k : ℕ). Some k) (let z : h.place.first + 0 ≡ h.place.first = omega arith in z)

          cell : CellIn (machine_sets p family) listed (pointer_row (λ i. h.place.first + i) (part_at (machine_table p) (Some (reached (type_of (machine_table p) h.place.entity.ty.0) 0 false)) [])) (start_of argv)
          cell =
              subst (λ (o : Option ℕ). CellIn (machine_sets p family) listed o (start_of argv)) (sym row_is)
              (cell_stays (machine_sets p family) state.memory listed before_left.extends (Some h.place.first) (start_of argv) (list_in state.memory argv h.place.first steady.covered.memory own has))

      abbrev pub objects : List Instance
      objects = parameter_objects (trees_of W) (parameters_of (trees_of W) (view_in W) main) (one_cell (Number (pos count)) ∷ one_cell (start_of argv) ∷ [])

      both_made : (keys : List ObjectKey) → ((key : ObjectKey) → slice_get keys 0 ≡ Some key → IsMade (parameter_object (trees_of W) key (one_cell (Number (pos count))))) → ((key : ObjectKey) → slice_get keys 1 ≡ Some key → IsMade (parameter_object (trees_of W) key (one_cell (start_of argv))))
          → Each IsMade (parameter_objects (trees_of W) keys (one_cell (Number (pos count)) ∷ one_cell (start_of argv) ∷ []))
      both_made [] one two = tt
      both_made (x ∷ []) one two = (one x refl, tt)
      both_made (x ∷ y ∷ []) one two = (one x refl, (two y refl, tt))
      both_made (x ∷ y ∷ z ∷ rest) one two = (one x refl, (two y refl, tt))

      module _ (made : Activation) (inv : IsEntered W (length state.memory + count) (main_entry main) (one_cell (Number (pos count)) ∷ one_cell (start_of argv) ∷ []) made) where
        main_type : IsMainType (type_of (machine_table p) inv.entity.ty.0)
        main_type = subst (λ (x : Entity). IsMainType (type_of (machine_table p) x.ty.0)) (some_one (sym m.there ∙ inv.there)) (subst IsMainType (sym (own_type m.entity.ty.0 right)) right)

        parameter : (k : ℕ) (key : ObjectKey) → slice_get (parameters_of (trees_of W) (view_in W) main) k ≡ Some key → (t : Ctype) × (type_from (called_list (trees_of W) inv.entity) k ≡ Some t) × IsParameterOf W key t
        parameter = parameters_met W runs main (called_list (trees_of W) inv.entity) inv.types

        second_made : (key : ObjectKey) → slice_get (parameters_of (trees_of W) (view_in W) main) 1 ≡ Some key → IsMade (parameter_object (trees_of W) key (one_cell (start_of argv)))
        second_made key at =
            let h = parameter 1 key at in
            let to = second_pointer (type_of (machine_table p) inv.entity.ty.0) main_type h.0 h.1 in
            let entity : key_type (trees_of W) (EntityKey h.2.e) ≡ type_of (machine_table p) h.2.place.entity.ty.0 = ap (λ (o : Option Entity). type_or_void (machine_table p) (option_map (λ (x : Entity). x.ty) o)) h.2.place.entity_is in
            pointed key h.0 h.2 to.0 (sym entity ∙ (ap (key_type (trees_of W)) (sym h.2.key_is) ∙ (h.2.type ∙ to.1)))
            (list_given p system family s empty main m key h.2.place.first own.inside.first at (ap (first_from 0 (locations_in p)) h.2.key_is ∙ h.2.place.first_is) own.first_is)

        all_made : Each IsMade objects
        all_made = both_made (parameters_of (trees_of W) (view_in W) main) (λ key at. (let h = parameter 0 key at in counted key h.0 h.2)) second_made

        entered_steady : Steady W (record state { memory = listed ++ objects; frames = frame_over (main_entry main) (length state.memory + count) inv.body objects ∷ state.frames; notes = only [] })
        entered_steady =
            on_main listed objects before_left (made_so (machine_sets p family) listed objects list_left.covered (each_change IsMade (InstanceIn (machine_sets p family) listed) (λ x h. h.0) objects all_made))
            (more_bare W listed objects listed_bare (each_change IsMade (λ x. IsBare W x → ⊥) (λ x h bare. h.1 bare.untyped) objects all_made)) main (length state.memory + count)
            (one_cell (Number (pos count)) ∷ one_cell (start_of argv) ∷ []) m made inv

        memory_same : listed ++ objects ≡ changed state.memory argv (slice_get state.memory argv) (λ inst. record inst { cells = cells_from 0 (argument_pointers (length state.memory) count) }) ++ (replicate count text ++ objects)
        memory_same =
            ap (λ (memory : List Instance). memory ++ objects)
            (changed_front state.memory (replicate count text) argv (λ inst. record inst { cells = cells_from 0 (argument_pointers (length state.memory) count) }) own.inst own.there)
            ∙ append_assoc (changed state.memory argv (slice_get state.memory argv) (λ inst. record inst { cells = cells_from 0 (argument_pointers (length state.memory) count) })) (replicate count text) objects

        begins_listed : Steady W (begun state argv (with_texts (running_in W (id (length p.types.terms))) (length state.memory) count word made))
        begins_listed =
            subst (λ (a : Activation). Steady W (begun state argv (with_texts (running_in W (id (length p.types.terms))) (length state.memory) count word a)))
            (own_objects main m right (length state.memory + count) (one_cell (Number (pos count)) ∷ one_cell (start_of argv) ∷ []) made inv)
            (subst (λ (memory : List Instance). Steady W (record state { memory = memory; frames = frame_over (main_entry main) (length state.memory + count) inv.body objects ∷ state.frames; notes = only [] })) memory_same entered_steady)

    -- the step, by main's parameters
    module _ (word : ℕ) (next : State) (right : StartsRight p) where
      abbrev pub w : Running
      w = running_in W (id (length p.types.terms))

      module _ (main : ℕ) (is : main_in p.entities.items ≡ Some main) where
        abbrev pub m : IsStarting p.entities.items main
        m = starting p.entities.items main is

        main_right : IsMainType (type_of p.types m.entity.ty.0)
        main_right = right empty main m.entity is m.there

        -- where main has parameters, `<arg>` has a location
        taken : (key : ObjectKey) (rest : List ObjectKey) → parameters_of (trees_of W) (view_in W) main ≡ key ∷ rest → (count : ℕ) (arguments : List Value) (made : Activation) → IsEntered W count (main_entry main) arguments made
            → (l : ℕ) × (first_from 0 (locations_in p) (LibraryKey 10) ≡ Some l)
        taken key rest keys count arguments made inv = argument_first p empty main m (ap has_parameters (sym (own_type m.entity.ty.0 main_right)) ∙ has)
          where
            typed : have_types (trees_of W) (key ∷ rest) (called_list (trees_of W) m.entity) ≡ true
            typed =
                subst (λ (x : Entity). have_types (trees_of W) (key ∷ rest) (called_list (trees_of W) x) ≡ true) (some_one (sym inv.there ∙ m.there))
                (subst (λ (list : List ObjectKey). have_types (trees_of W) list (called_list (trees_of W) inv.entity) ≡ true) keys inv.types)

            has : has_parameters (type_of (machine_table p) m.entity.ty.0) ≡ true
            has = has_some (trees_of W) (type_of (machine_table p) m.entity.ty.0) (subst IsMainType (sym (own_type m.entity.ty.0 main_right)) main_right) key rest typed

        by_list : (key : ObjectKey) (rest : List ObjectKey) → parameters_of (trees_of W) (view_in W) main ≡ key ∷ rest → (o : Option ℕ) → object_from 9 0 state.memory ≡ o → begins_at w state main word o ≡ Ok next → Steady W next
        by_list key rest keys None found e = absurd (err_ok e)
        by_list key rest keys (Some argv) found e =
            let r = went (main_made w (length state.memory) argv main word) (λ made. Ok (begun state argv made)) next e in
            let q = went (entered w (length state.memory + (1 + word % 8)) (main_entry main) (one_cell (Number (pos (1 + word % 8))) ∷ one_cell (start_of argv) ∷ [])) (λ made. Ok (with_texts w (length state.memory) (1 + word % 8) word made)) r.0 r.1 in
            let inv = entered_inv W (id (length p.types.terms)) (length state.memory + (1 + word % 8)) (main_entry main) (one_cell (Number (pos (1 + word % 8))) ∷ one_cell (start_of argv) ∷ []) q.0 q.1 in
            subst (Steady W) (ok_one r.2)
            (subst (λ (made : CellList × Activation). Steady W (begun state argv made)) (ok_one q.2)
            (begins_listed main m main_right argv (1 + word % 8) word found (taken key rest keys (length state.memory + (1 + word % 8)) (one_cell (Number (pos (1 + word % 8))) ∷ one_cell (start_of argv) ∷ []) q.0 inv) q.0 inv))

        by_keys : (keys : List ObjectKey) → parameters_of (trees_of W) (view_in W) main ≡ keys → begins_with w state main word keys ≡ Ok next → Steady W next
        by_keys [] keys e =
            let r = went (entered w (length state.memory) (main_entry main) []) (λ made. Ok (on_top state state.frames (only []) made)) next e in
            subst (Steady W) (ok_one r.2) (begins_plain main m main_right r.0 r.1)
        by_keys (key ∷ rest) keys e = by_list key rest keys (object_from 9 0 state.memory) refl e

      by_main : (o : Option ℕ) → main_in p.entities.items ≡ o → begins w state word o ≡ Ok next → Steady W next
      by_main None is e = absurd (err_ok e)
      by_main (Some main) is e = by_keys main is (parameters_of (trees_of W) (view_in W) main) refl e

-- by the program's entries
by_entries : (p : Program) (system : System) (family : Family) (s : IsSolved p system family) (state next : State) (word : ℕ) → StartsRight p → IsRunnable (machine_world p system family s) → Steady (machine_world p system family s) state
    → state.frames ≡ [] → (entries : List ℕ) → p.entries.items ≡ entries → starts_by (running_in (machine_world p system family s) (id (length p.types.terms))) state word entries ≡ Ok next → Steady (machine_world p system family s) next
unfolding begin
by_entries p system family s state next word right runs steady outside [] is e = by_main p system family s runs state steady outside is word next right (main_in p.entities.items) refl e
by_entries p system family s state next word right runs steady outside (first ∷ rest) is e =
    one_steady (machine_world p system family s) runs state steady outside (id (length p.types.terms)) first rest is word next e

pub begin_steady : BeginSteady
unfolding starts
begin_steady p system family s state next word right runs steady outside e = by_entries p system family s state next word right runs steady outside p.entries.items refl e
