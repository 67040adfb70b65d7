-- What the effects of a library function demand of a call: what it gives, what it stores, and whom it calls back.
use Rattle.std.proofs.Common.{arith, ◌≡◌, ◌∙◌, inl, inr, ℕ, ℤ, zero, suc, ◌+◌, true, false, Bool, cond, eqb, List, [], ◌∷◌, ◌++◌, length, map, Option, Some, None, Ok, slice_get, unwrap_or, Contains, refl, sym, ap, subst}
use Rattle.std.specs.Option.{option_map, option_and_then}
use Rattle.std.proofs.lemmas.Bool.{false≢true}
use Rattle.std.proofs.lemmas.Option.{slice_get-map}
use Rattle.pta_base.specs.declared.effect.Effect.{Effect}
use Rattle.pta_base.specs.declared.effect.Effect.TheVariants.{GivesArgument, GivesNew, GivesObject, StoresInto, CallsBack}
use Rattle.c_types.specs.declared.key.ObjectKey.{ObjectKey}
use Rattle.c_types.specs.declared.key.ObjectKey.TheVariants.{Entity as EntityKey}
use Rattle.c_types.specs.declared.term.PathStep.{PathStep}
use Rattle.c_types.specs.declared.term.PathStep.TheVariants.{Index}
use Rattle.c_types.specs.Trees.{Ctype, PointerTo}
use Rattle.core_tree.specs.declared.node.Node.{Node}
use Rattle.core_tree.specs.declared.node.Program.{Program}
use Rattle.core_tree.specs.Typed.{CoreTrees, trees_in, type_at}
use Rattle.sol_model.specs.declared.system.System.{System}
use Rattle.sol_model.specs.declared.system.LocationFact.{LocationFact}
use Rattle.sol_model.specs.declared.system.CallSite.{CallSite}
use Rattle.sol_model.specs.declared.system.Function.{Function}
use Rattle.sol_model.specs.Families.{Family, Has, IsContained}
use Rattle.sol_model.specs.Places.{node_from, sub_of}
use Rattle.sol_model.specs.Rules.{IsTarget, TargetEdge, TargetFact, EffectEdge, EffectFact, IsCalledBack, back_signature, first_row, argument_row, parameter_row}
use Rattle.sol_model.specs.Solutions.{IsClosed}
use Rattle.obj_space.specs.declared.location.Location.{Location}
use Rattle.obj_space.specs.View.{SpaceView, first_from, view_of}
use Rattle.row_numbers.specs.Kept.{nodes_of, kept_at, row_list}
use Rattle.row_numbers.specs.Functions.{key_type, parameters_of}
use Rattle.row_numbers.specs.Numbers.{type_number}
use Rattle.row_numbers.specs.Setting.{Setting, row, none_row, value_rows}
use Rattle.ref_cells.specs.declared.cells.Cell.{Cell}
use Rattle.ref_cells.specs.declared.cells.Cell.TheVariants.{Number, Pointer, Function as FunctionCell}
use Rattle.ref_cells.specs.declared.instance.Instance.{Instance}
use Rattle.ref_cells.specs.Wholes.{whole_of}
use Rattle.ref_mem.specs.Reads.{one_cell}
use Rattle.ref_mem.specs.Writes.{write}
use Rattle.call_sites.specs.Calls.{head_of, rest_of, IsCallSite}
use Rattle.normal_form.specs.Assignments.{row_in}
use Rattle.normal_form.specs.Facts.{cell_list, parameter_rows, parameters_by}
use Rattle.normal_form.specs.SystemOf.{SystemOf}
use Rattle.covering_laws.specs.covered_memory.Spots.{spot, whole_part, room, IsInTree}
use Rattle.covering_laws.specs.covered_memory.Covered.{Sets, CellIn, CellsIn, ValueIn, object_row, MemoryIn, Leaves}
use Rattle.covering_laws.specs.covered_memory.Demands.{Grounds, Stores}
use Rattle.covering_laws.proofs.covered_memory.Access.{write_law}
use Rattle.covering_laws.proofs.covered_memory.Changes.{Begins, new_law}
use Rattle.covering_laws.proofs.covered_memory.Fields.{copied_law}
use Rattle.covering_laws.specs.covered_rows.Nodes.{IsArgument, HeldIn}
use Rattle.covering_laws.proofs.covered_rows.Calls.{row_there, cell_there, argument_there, parameter_there, call_says, call_gives}
use Rattle.covering_laws.proofs.covered_rows.Places.{start_spot, held_cell, cell_held}
use Rattle.covering_laws.proofs.covered_rows.Values.{sets, w'}

some_one : {X : Type 0} → {x y : X} → ◌≡◌ {A = Option X} (Some x) (Some y) → x ≡ y
some_one h = cc

none_some : {X : Type 0} → {x : X} → ◌≡◌ {A = Option X} None (Some x) → ⊥
none_some h = cc

pub get_more : {X : Type 0} (xs ys : List X) (b : X) → slice_get (xs ++ b ∷ ys) (length xs) ≡ Some b
get_more [] ys b = refl
get_more (x ∷ xs) ys b = get_more xs ys b

-- the first node of a location is that location
zero_from : (o : Option LocationFact) (l ty m : ℕ) → node_from o l ty 0 ≡ Some m → l ≡ m
zero_from None l ty m e = absurd (none_some e)
zero_from (Some fact) l ty m e = by fact.collapsed (eqb fact.ty ty) e
  where
    by : (c t : Bool) → cond c (Some l) (cond t (Some (l + 0)) None) ≡ Some m → l ≡ m
    by true t f = some_one f
    by false true f = (let z : l ≡ l + 0 = omega arith in z) ∙ some_one f
    by false false f = absurd (none_some f)

module _ (p : Program) (space : List Location) (system : System) (is : SystemOf p (view_of space) system) (F : Family) (closed : IsClosed system F) (grounds : Grounds p.types space system) where
  abbrev g : Sets
  g = sets p space system is F closed grounds

  abbrev w : Setting
  w = w' p space system is F closed grounds

  abbrev u : CoreTrees
  u = trees_in p

  abbrev s : SpaceView
  s = view_of space

  -- the first row of a pointer's rows is its own
  pointer_first : (n : ℕ) (to : Ctype) → type_at u n ≡ PointerTo to → first_row (value_rows u s n) ≡ Some (row_in w n)
  pointer_first n to ty =
      ap (λ (t : Ctype). slice_get (row_list (none_row u s) (row u s n) (nodes_of p.types t)) 0) ty
      ∙ (row_there (none_row u s) (row u s n) (nodes_of p.types (PointerTo to)) 0 refl ∙ ap (λ (k : ℕ). Some k) (let e : row u s n + 0 ≡ row u s n = omega arith in e))

  module _ (number n : ℕ) (node : Node) (site : CallSite) (at : slice_get system.calls number ≡ Some site) (of_call : IsCallSite w n node site)
      (target : ℕ) (function : Function) (is_target : IsTarget system F site target function) (library : ℕ) (is_library : function.library ≡ Some library) where
    -- the rule of an effect
    pub edge_says : (effect : Effect) (a b : ℕ) → Contains function.effects effect → EffectEdge system F site target effect a b → IsContained F a b
    edge_says effect a b listed e =
        call_says p space system is F closed grounds number site at target function is_target a b
        (subst (λ (o : Option ℕ). TargetEdge system F site target function o a b) (sym is_library) (effect, listed, e))

    pub fact_says : (effect : Effect) (a l : ℕ) → Contains function.effects effect → EffectFact site target effect a l → Has F a l
    fact_says effect a l listed e =
        call_gives p space system is F closed grounds number site at target function is_target a l
        (subst (λ (o : Option ℕ). TargetFact site target function o a l) (sym is_library) (effect, listed, e))

    pub argument_is : (k a : ℕ) (to : Ctype) → IsArgument (trees_in p) node k a → type_at u a ≡ PointerTo to → argument_row site (suc k) ≡ Some (row_in w a)
    argument_is k a to a_is ty =
        ap (option_and_then first_row) (ap (λ (rows : List (List ℕ)). slice_get rows k) of_call.arguments ∙ argument_there u s n (head_of node.children) k a (rest_of node.children) a_is.1 a_is.0) ∙ pointer_first a to ty

    result_is : (to : Ctype) → type_at u n ≡ PointerTo to → first_row site.result ≡ Some (row_in w n)
    result_is to ty = ap first_row of_call.result ∙ pointer_first n to ty

    -- No effect: a number is covered wherever it stands
    pub number_in : (t : Ctype) (memory : List Instance) (row : ℕ → ℕ) (k : ℤ) → ValueIn g memory row t (one_cell (Number k))
    number_in t memory row k = (tt, tt)

    -- The result has what an argument has, and a pointer that is moved in the argument's array.
    pub gives_argument_in : (k a : ℕ) (to from : Ctype) → Contains function.effects (GivesArgument (suc k)) → IsArgument (trees_in p) node k a → type_at u a ≡ PointerTo from → type_at u n ≡ PointerTo to
        → (memory : List Instance) (c : Cell) → HeldIn g w memory a (one_cell c) → HeldIn g w memory n (one_cell c)
    gives_argument_in k a to from listed a_is ta tn memory c h =
        cell_held p space system is F closed grounds n to memory c tn
        (copied_law g system grounds memory (row_in w a) (row_in w n) c
        (edge_says (GivesArgument (suc k)) (row_in w a) (row_in w n) listed (argument_is k a from a_is ta, result_is to tn))
        (held_cell p space system is F closed grounds a from memory c ta h))

    -- The result has the object of the call: a new instance of it leaves the memory covered, and a pointer to its first element is covered.
    pub gives_new_in : (to : Ctype) → Contains function.effects GivesNew → type_at u n ≡ PointerTo to → (memory : List Instance) (inst : Instance) → MemoryIn g memory → (b : Begins g inst)
        → CellsIn g memory (object_row b.location.content b.first) (whole_part (whole_of p.types inst)) inst.cells → Contains site.fresh (target, b.first)
        → IsInTree p.types (whole_of p.types inst) (room inst) (Index 0 ∷ []) → spot p.types space inst.key (Index 0 ∷ []) ≡ Some b.first
        → Leaves g memory (memory ++ inst ∷ []) × HeldIn g w (memory ++ inst ∷ []) n (one_cell (Pointer (length memory) (Index 0 ∷ []) false))
    gives_new_in to listed tn memory inst all b cells fresh in_tree there = (
      new_law g system grounds memory inst all b cells,
      cell_held p space system is F closed grounds n to (memory ++ inst ∷ []) (Pointer (length memory) (Index 0 ∷ []) false) tn
          (record {
            inst = inst;
            inst_is = get_more memory [] inst;
            in_tree = in_tree;
            lands = record { at = row_in w n; location = b.first; row_is = refl; found_is = there; has = fact_says GivesNew (row_in w n) b.first listed (result_is to tn, fresh) };
          }),
    )

    -- The result has a library object.
    pub gives_object_in : (to : Ctype) (object : ℕ) → Contains function.effects (GivesObject object) → type_at u n ≡ PointerTo to → (memory : List Instance) (i : ℕ) (inst : Instance) (path : List PathStep) (l : ℕ)
        → slice_get memory i ≡ Some inst → IsInTree p.types (whole_of p.types inst) (room inst) path → spot p.types space inst.key path ≡ Some l → Contains site.fresh (target, l) → HeldIn g w memory n (one_cell (Pointer i path false))
    gives_object_in to object listed tn memory i inst path l here in_tree there fresh =
        cell_held p space system is F closed grounds n to memory (Pointer i path false) tn
        (record {
          inst = inst;
          inst_is = here;
          in_tree = in_tree;
          lands = record { at = row_in w n; location = l; row_is = refl; found_is = there; has = fact_says (GivesObject object) (row_in w n) l listed (result_is to tn, fresh) };
        })

    -- A pointer that an argument holds is written through another one.
    pub stores_into_in : (i j a b : ℕ) (ta tb to : Ctype) → Contains function.effects (StoresInto (suc i) (suc j)) → IsArgument (trees_in p) node i a → IsArgument (trees_in p) node j b
        → type_at u a ≡ PointerTo ta → type_at u b ≡ PointerTo tb → (memory after : List Instance) (place c : Cell) → MemoryIn g memory → HeldIn g w memory a (one_cell place) → HeldIn g w memory b (one_cell c)
        → write p.types memory place (PointerTo to) (one_cell c) ≡ Ok after → Leaves g memory after
    stores_into_in i j a b ta tb to listed a_is b_is tya tyb memory after place c all hp hc e =
        write_law g system grounds memory (row_in w a) place (PointerTo to) (λ k. row_in w b) (one_cell c) after all
        (held_cell p space system is F closed grounds a ta memory place tya hp) (omega arith) stores (held_cell p space system is F closed grounds b tb memory c tyb hc, tt) e
      where
        zero_kept : (k : ℕ) → kept_at (slice_get (nodes_of p.types (PointerTo to)) k) ≡ true → k ≡ 0
        zero_kept zero h = refl
        zero_kept (suc k) h = absurd (false≢true h)

        stores : Stores p.types system F (row_in w a) (λ k. row_in w b) (PointerTo to)
        stores k kept l m has sub =
            let same : l ≡ m = zero_from (slice_get system.locations l) l (type_number (PointerTo to)) m (ap (λ (z : ℕ). sub_of system l (type_number (PointerTo to)) z) (sym (zero_kept k kept)) ∙ sub) in
            subst (λ (z : ℕ). IsContained F (row_in w b) z) same
            (edge_says (StoresInto (suc i) (suc j)) (row_in w b) l listed (row_in w a, argument_is i a ta a_is tya, has, argument_is j b tb b_is tyb))

    -- A function with a body that is called back with two arguments gets them into its parameters: each is covered there.
    pub back_in : (k i j back f x l : ℕ) (called : Function) (key : ObjectKey) (ty tx : Ctype) → Contains function.effects (CallsBack (suc k) (Some (suc i, suc j)))
        → IsCalledBack system F site (suc k) (Some (suc i, suc j)) back called → called.library ≡ None → called.parameters ≡ parameters_by u s (EntityKey f)
        → IsArgument (trees_in p) node i x → type_at u x ≡ PointerTo tx → slice_get (parameters_of u s f) 0 ≡ Some key → key_type u key ≡ PointerTo ty → first_from 0 space key ≡ Some l
        → (memory : List Instance) (c : Cell) → CellIn g memory (Some (row_in w x)) c → ValueIn g memory (λ z. l + z) (PointerTo ty) (one_cell c)
    back_in k i j back f x l called key ty tx listed is_back body parameters x_is tyx key_is key_ty first memory c h =
        let own : slice_get called.parameters 0 ≡ Some (parameter_rows u s key) = ap (λ (rows : List (List ℕ)). slice_get rows 0) parameters ∙ parameter_there u s f 0 key key_is in
        let to : parameter_row called 0 ≡ Some (l + 0) =
        ap (option_and_then first_row) own
        ∙ (ap (λ (o : Option ℕ). slice_get (cell_list (none_row u s) (unwrap_or o 0) (nodes_of p.types (key_type u key))) 0) first
        ∙ (ap (λ (t : Ctype). slice_get (cell_list (none_row u s) l (nodes_of p.types t)) 0) key_ty ∙ cell_there (none_row u s) l (nodes_of p.types (PointerTo ty)) 0 refl)) in (
          copied_law g system grounds memory (row_in w x) (l + 0) c
              (edge_says (CallsBack (suc k) (Some (suc i, suc j))) (row_in w x) (l + 0) listed (back, called, is_back, (body, inl (argument_is i x tx x_is tyx, to)))) h,
          tt,
        )

    -- The second argument of a call back, and the second parameter.
    pub back_second_in : (k i j back f x l : ℕ) (called : Function) (key : ObjectKey) (ty tx : Ctype) → Contains function.effects (CallsBack (suc k) (Some (suc i, suc j)))
        → IsCalledBack system F site (suc k) (Some (suc i, suc j)) back called → called.library ≡ None → called.parameters ≡ parameters_by u s (EntityKey f)
        → IsArgument (trees_in p) node j x → type_at u x ≡ PointerTo tx → slice_get (parameters_of u s f) 1 ≡ Some key → key_type u key ≡ PointerTo ty → first_from 0 space key ≡ Some l
        → (memory : List Instance) (c : Cell) → CellIn g memory (Some (row_in w x)) c → ValueIn g memory (λ z. l + z) (PointerTo ty) (one_cell c)
    back_second_in k i j back f x l called key ty tx listed is_back body parameters x_is tyx key_is key_ty first memory c h =
        let own : slice_get called.parameters 1 ≡ Some (parameter_rows u s key) = ap (λ (rows : List (List ℕ)). slice_get rows 1) parameters ∙ parameter_there u s f 1 key key_is in
        let to : parameter_row called 1 ≡ Some (l + 0) =
        ap (option_and_then first_row) own
        ∙ (ap (λ (o : Option ℕ). slice_get (cell_list (none_row u s) (unwrap_or o 0) (nodes_of p.types (key_type u key))) 0) first
        ∙ (ap (λ (t : Ctype). slice_get (cell_list (none_row u s) l (nodes_of p.types t)) 0) key_ty ∙ cell_there (none_row u s) l (nodes_of p.types (PointerTo ty)) 0 refl)) in (
          copied_law g system grounds memory (row_in w x) (l + 0) c
              (edge_says (CallsBack (suc k) (Some (suc i, suc j))) (row_in w x) (l + 0) listed (back, called, is_back, (body, inr (argument_is j x tx x_is tyx, to)))) h,
          tt,
        )

    -- A function that an argument holds, of the signature of the calls back, is one that is called back.
    pub called_back : (k a : ℕ) (ta : Ctype) → IsArgument (trees_in p) node k a → type_at u a ≡ PointerTo ta → (memory : List Instance) (key : ObjectKey) → HeldIn g w memory a (one_cell (FunctionCell key))
        → (back : ℕ) (called : Function) → slice_get system.functions back ≡ Some called → first_from 0 space key ≡ Some called.location → (passed : Option (ℕ × ℕ)) → called.signature ≡ back_signature passed
        → IsCalledBack system F site (suc k) passed back called
    called_back k a ta a_is tya memory key h back called known first passed agrees =
        let lands = held_cell p space system is F closed grounds a ta memory (FunctionCell key) tya h in
        let here : lands.location ≡ called.location = some_one (sym lands.found_is ∙ start_spot p.types space key called.location first) in
        record {
          known = known;
          reached = (row_in w a, argument_is k a ta a_is tya, subst (λ (l : ℕ). Has F (row_in w a) l) here (subst (λ (r : ℕ). Has F r lands.location) (sym (some_one lands.row_is)) lands.has));
          agrees = agrees;
        }
