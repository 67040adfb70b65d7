-- A library function that another one calls back does nothing to memory.
use Rattle.std.proofs.Common.{arith, ◌≡◌, ◌∙◌, ◌⊎◌, inl, inr, ℕ, zero, suc, ◌<◌, ◌&&◌, ◌||◌, not, ℤ, Bool, true, false, List, [], ◌∷◌, Option, Some, None, Ok, slice_get, refl, sym, ap, subst}
use Rattle.std.specs.Prelude.{codes}
use Rattle.std.specs.Str.{bytes_eq}
use Rattle.std.proofs.lemmas.Bool.{false≢true}
use Rattle.c_types.specs.declared.key.ObjectKey.{ObjectKey}
use Rattle.c_types.specs.declared.key.ObjectKey.TheVariants.{Function as FunctionKey}
use Rattle.c_types.specs.declared.term.Form.TheVariants.{Fixed}
use Rattle.c_types.specs.declared.term.TypeId.{TypeId}
use Rattle.c_types.specs.Trees.{Ctype, NoTypes, VoidType, PointerTo}
use Rattle.c_types.specs.Table.{Table, type_of}
use Rattle.type_rules.specs.Kinds.{int}
use Rattle.sol_model.specs.declared.system.Function.{Function}
use Rattle.sol_model.specs.Rules.{back_signature}
use Rattle.lib_summaries.specs.Table.{Row as Summary, rows as summaries}
use Rattle.link_names.specs.Shape.{IsLetter, FitsList, HasShape}
use Rattle.row_numbers.specs.Functions.{key_type}
use Rattle.row_numbers.specs.Objects.{library_id}
use Rattle.call_sites.specs.Signatures.{two_pointers, comparison, at_end, IsSignature, compares, ends, known, unknown, called_type}
use Rattle.ref_cells.specs.declared.cells.Cell.{Cell}
use Rattle.ref_cells.specs.declared.cells.Value.{Value}
use Rattle.ref_cells.specs.declared.instance.Instance.{Instance}
use Rattle.ref_elements.specs.declared.outcome.Next.{Next}
use Rattle.ref_elements.specs.declared.outcome.Next.TheVariants.{Done, Again, Calls, Keeps, Ends}
use Rattle.ref_elements.specs.Arguments.{argument}
use Rattle.ref_elements.specs.Outcomes.{Effected, gives, number_value}
use Rattle.ref_texts.specs.Reading.{compared_at}
use Rattle.ref_lib.specs.declared.rows.Texts.TheVariants.{Compare}
use Rattle.ref_lib.specs.declared.rows.Plain.TheVariants.{AnyNumber, Abort}
use Rattle.ref_lib.specs.declared.rows.Row.{Row}
use Rattle.ref_lib.specs.declared.rows.Row.TheVariants.{Writes, Answers}
use Rattle.ref_lib.specs.Effects.{rows, row_effect, effect}
use Rattle.ref_state.specs.declared.items.Item.{Item}
use Rattle.ref_state.specs.declared.items.Item.TheVariants.{Do, Wait, Library, Result as Returned}
use Rattle.ref_state.specs.declared.frames.Frame.{Frame}
use Rattle.ref_state.specs.declared.state.State.{State}
use Rattle.ref_state.specs.Items.{deliver, settled}
use Rattle.ref_frames.specs.Running.{element_type}
use Rattle.ref_frames.specs.Frames.{all_ended, finished}
use Rattle.ref_frames.specs.OnTop.{only}
use Rattle.ref_calls.specs.Library.{object_of, result_in, term_in, performed_as, performed, goes_by, with_top, library_row}
use Rattle.covering_laws.specs.covered_memory.Covered.{Leaves}
use Rattle.covering_laws.proofs.covered_memory.Stays.{same_memory}
use Rattle.covering_laws.proofs.covered_rows.Targets.{function_there}
use Rattle.covering_laws.specs.covered_state.World.{World, trees_of, view_in, sets_of}
use Rattle.covering_laws.specs.covered_state.Items.{Each, ItemIn, IsPendingBack}
use Rattle.covering_laws.specs.covered_state.State.{FrameIn, KeptIn, Covered}
use Rattle.covering_laws.proofs.covered_state.Stays.{handed_stay}
use Rattle.covered_runs.specs.covered_steps.covered_values.Values.{Stands}
use Rattle.covered_runs.proofs.covered_steps.covered_values.Operands.{went, ok_one, err_ok}
use Rattle.covered_runs.specs.covered_steps.Steps.{NoneBare}
use Rattle.covered_runs.proofs.covered_steps.Steps.{own_frames, own_items, none_bare}
use Rattle.covered_runs.proofs.covered_steps.covered_calls.Activations.{none_some, some_one}
use Rattle.covered_runs.specs.covered_steps.covered_effects.Served.{running_in, IsOfShape, IsServed}
use Rattle.covered_runs.specs.covered_steps.covered_effects.Steps.{IsKeptFound, StaysCovered, IsNoWait, StepsBacked}
use Rattle.covered_runs.proofs.covered_steps.covered_effects.Needs.{rows_below, called_listed, function_first}
use Rattle.covered_runs.proofs.covered_steps.covered_effects.Called.{none_after, kept_still, all_left, all_long, EffectGoes}

-- the rows that look at texts alone, or at nothing
abbrev pub quiet : Row → Bool
quiet (Writes Compare) = true
quiet (Answers AnyNumber) = true
quiet (Answers Abort) = true
quiet row = false

-- the shapes of functions that are called back
abbrev is_back : List ℕ → Bool
is_back shape = bytes_eq shape (codes "pp>i") || bytes_eq shape (codes ">v")

abbrev all_quiet : List Row → List Summary → Bool
all_quiet [] others = true
all_quiet (row ∷ rest) [] = true
all_quiet (row ∷ rest) (summary ∷ others) = (not (is_back summary.shape) || quiet row) && all_quiet rest others

quiet_rows : all_quiet rows summaries ≡ true
unfolding rows summaries
quiet_rows = refl

first_true : (a b : Bool) → (a && b) ≡ true → a ≡ true
first_true true b e = refl
first_true false b e = absurd (false≢true e)

second_true : (a b : Bool) → (a && b) ≡ true → b ≡ true
second_true true b e = e
second_true false b e = absurd (false≢true e)

then_quiet : (a b : Bool) → a ≡ true → (not a || b) ≡ true → b ≡ true
then_quiet true b is e = e
then_quiet false b is e = absurd (false≢true is)

quiet_at : (list : List Row) (others : List Summary) (k : ℕ) (row : Row) (s : Summary) → all_quiet list others ≡ true → slice_get list k ≡ Some row → slice_get others k ≡ Some s → is_back s.shape ≡ true → quiet row ≡ true
quiet_at [] others k row s h at there is = absurd (none_some at)
quiet_at (x ∷ rest) [] k row s h at there is = absurd (none_some there)
quiet_at (x ∷ rest) (y ∷ others) zero row s h at there is =
    ap quiet (sym (some_one at))
    ∙ then_quiet (is_back y.shape) (quiet x) (ap (λ (z : Summary). is_back z.shape) (some_one there) ∙ is) (first_true (not (is_back y.shape) || quiet x) (all_quiet rest others) h)
quiet_at (x ∷ rest) (y ∷ others) (suc k) row s h at there is = quiet_at rest others k row s (second_true (not (is_back y.shape) || quiet x) (all_quiet rest others) h) at there is

pointer_letter : (c : ℕ) → IsLetter c (PointerTo VoidType) → c ≡ 112
pointer_letter c h = elim h [ inl p ↦ p.0 | inr o ↦ elim o [ inl i ↦ absurd i.1 | inr q ↦ elim q [ inl f ↦ absurd f.1 | inr v ↦ absurd (let same : PointerTo VoidType ≡ VoidType = v.1 in let no : ⊥ = cc in no) ] ] ]

int_letter : (c : ℕ) → IsLetter c int → c ≡ 105
int_letter c h = elim h [ inl p ↦ absurd p.1 | inr o ↦ elim o [ inl i ↦ i.0 | inr q ↦ elim q [ inl f ↦ absurd f.1 | inr v ↦ absurd (let same : int ≡ VoidType = v.1 in let no : ⊥ = cc in no) ] ] ]

void_letter : (c : ℕ) → IsLetter c VoidType → c ≡ 118
void_letter c h = elim h [ inl p ↦ absurd p.1 | inr o ↦ elim o [ inl i ↦ absurd i.1 | inr q ↦ elim q [ inl f ↦ absurd f.1 | inr v ↦ v.0 ] ] ]

compared_shape : (shape : List ℕ) → FitsList two_pointers Fixed int shape → is_back shape ≡ true
compared_shape (a ∷ b ∷ to ∷ c ∷ []) h =
    let same : (a ∷ b ∷ to ∷ c ∷ []) ≡ codes "pp>i" =
    ap (λ (x : ℕ). x ∷ b ∷ to ∷ c ∷ []) (pointer_letter a h.0)
    ∙ (ap (λ (x : ℕ). 112 ∷ x ∷ to ∷ c ∷ []) (pointer_letter b h.1.0) ∙ (ap (λ (x : ℕ). 112 ∷ 112 ∷ x ∷ c ∷ []) h.1.1.0 ∙ ap (λ (x : ℕ). 112 ∷ 112 ∷ 62 ∷ x ∷ []) (int_letter c h.1.1.1))) in
    ap (λ (s : List ℕ). is_back s) same
compared_shape (a ∷ b ∷ to ∷ c ∷ d ∷ rest) h = absurd h.1.1
compared_shape (a ∷ b ∷ to ∷ []) h = absurd h.1.1
compared_shape (a ∷ b ∷ []) h = absurd h.1.1
compared_shape (a ∷ []) h = absurd h.1
compared_shape [] h = absurd h

ended_shape : (shape : List ℕ) → FitsList NoTypes Fixed VoidType shape → is_back shape ≡ true
ended_shape (to ∷ c ∷ []) h =
    let same : (to ∷ c ∷ []) ≡ codes ">v" = ap (λ (x : ℕ). x ∷ c ∷ []) h.0 ∙ ap (λ (x : ℕ). 62 ∷ x ∷ []) (void_letter c h.1) in
    ap (λ (s : List ℕ). is_back s) same
ended_shape (a ∷ b ∷ c ∷ rest) h = absurd h
ended_shape (a ∷ []) h = absurd h
ended_shape [] h = absurd h

-- the types by whose numbers functions are called back
back_type : (table : Table) (t : Ctype) (signature : ℕ) (passed : Option (ℕ × ℕ)) → IsSignature table t signature → signature ≡ back_signature passed → (t ≡ comparison) ⊎ (t ≡ at_end)
back_type table t signature passed (compares x i) e = inl x
back_type table t signature passed (ends x i) e = inr x
back_type table t signature None (known o f i) e = absurd (omega (arith, i, e))
back_type table t signature (Some p) (known o f i) e = absurd (omega (arith, i, e))
back_type table t signature None (unknown o f i) e = absurd (omega (arith, i, e))
back_type table t signature (Some p) (unknown o f i) e = absurd (omega (arith, i, e))

-- what such a row leaves
record IsStill (memory : List Instance) (e : Effected) : Type 0 where
  same : e.memory ≡ memory
  stores : e.outcome.stores ≡ []
  next : (e.outcome.next ≡ Done) ⊎ ((status : ℤ) × (at_once : Bool) × (e.outcome.next ≡ Ends status at_once))

still_given : (memory : List Instance) (v : Value) (e : Effected) → gives memory v ≡ Ok e → IsStill memory e
still_given memory v e is = subst (IsStill memory) (ok_one is) (record { same = refl; stores = refl; next = inl refl })

still : (table : Table) (memory : List Instance) (row : Row) (key : ObjectKey) (fixed : Option TypeId) (result : Ctype) (args : List Value) (word : ℕ) (e : Effected) → quiet row ≡ true
    → row_effect table memory (Some row) key fixed result args word ≡ Ok e → IsStill memory e
still table memory (Writes Compare) key fixed result args word e q is =
    (let r = went (compared_at table memory (argument args 0) (argument args 1)) (λ m. gives memory (number_value result m)) e is in still_given memory (number_value result r.0) e r.2)
still table memory (Answers AnyNumber) key fixed result args word e q is = still_given memory _ e is
still table memory (Answers Abort) key fixed result args word e q is = subst (IsStill memory) (ok_one is) (record { same = refl; stores = refl; next = inr (_, _, refl) })
still table memory row key fixed result args word e q is = absurd (false≢true q)

-- a value that is let go
let_go : (n : ℕ) (v : Value) (items : List Item) → IsNoWait items → deliver n v items ≡ items
let_go n v [] h = refl
let_go n v (Do m ∷ rest) h = refl
let_go n v (Library m k arguments ∷ rest) h = refl
let_go n v (Returned w ∷ rest) h = refl
let_go n v (Wait m left values ∷ rest) h = absurd h

module _ (world : World) (stands : Stands world) (characters : TypeId) (served : IsServed world stands characters) (state : State) (f : Frame) (rest : List Frame) (n k : ℕ) (arguments : List Value) (items : List Item) (word : ℕ)
    (stays : StaysCovered world state) (frames_are : state.frames ≡ f ∷ rest) (items_are : f.items ≡ Library n k arguments ∷ items) (pending : IsPendingBack world state.memory n k arguments) (below : IsNoWait items) where
  abbrev covered : Covered world state
  covered = stays.covered

  frames_in : Each (FrameIn world state.memory) (f ∷ rest)
  frames_in = own_frames world state f rest covered frames_are

  items_in : Each (ItemIn world state.memory f.function) (Library n k arguments ∷ items)
  items_in = own_items world state f rest covered frames_are (Library n k arguments) items items_are

  wait_library : (m : ℕ) (values : List (ℕ × Value)) → Library n k arguments ≡ Wait m [] values → ⊥
  wait_library m values h = cc

  none_before : NoneBare world state.memory
  none_before = none_bare world state f rest covered frames_are (Library n k arguments) items items_are (λ m values node same there kind. wait_library m values same)

  -- the type of the function that is called back
  type : (called_type (key_type (trees_of world) (FunctionKey k)) ≡ comparison) ⊎ (called_type (key_type (trees_of world) (FunctionKey k)) ≡ at_end)
  type =
      let own = function_there world.program world.space world.system world.is_system pending.back (FunctionKey k) pending.called.back_is in
      let back = pending.called.edge.9 in
      let same : own.0 ≡ pending.called.edge.2 = some_one (sym own.1 ∙ back.known) in
      back_type world.program.types (called_type (key_type (trees_of world) (FunctionKey k))) own.0.signature pending.called.edge.4 own.2.signature (ap (λ (x : Function). x.signature) same ∙ back.agrees)

  shape : k < 55 → IsOfShape (trees_of world) k
  shape lt = (let l = function_first (trees_of world) (view_in world) pending.back (FunctionKey k) pending.called.back_is in served.shapes k l.0 lt l.1)

  back_shape : (o : IsOfShape (trees_of world) k) → is_back o.row.shape ≡ true
  back_shape o = elim type [
    | inl is ↦ compared_shape o.row.shape (subst (λ (t : Ctype). HasShape t o.row.shape) (sym (called_listed (key_type (trees_of world) (FunctionKey k)) o.listed) ∙ is) o.shape)
    | inr is ↦ ended_shape o.row.shape (subst (λ (t : Ctype). HasShape t o.row.shape) (sym (called_listed (key_type (trees_of world) (FunctionKey k)) o.listed) ∙ is) o.shape)
  ]

  pub row_quiet : (row : Row) → slice_get rows k ≡ Some row → quiet row ≡ true
  row_quiet row at = (let o = shape (rows_below k row at) in quiet_at rows summaries k row o.row quiet_rows at o.row_is (back_shape o))

  module _ (e : Effected) (result : TypeId)
      (is : effect world.program.types state.memory k (object_of (trees_of world) n k) (element_type (running_in world characters) (object_of (trees_of world) n k)) result arguments word ≡ Ok e) where
    kept_still_so : IsStill state.memory e
    unfolding effect
    kept_still_so = by (slice_get rows k) refl is
      where
        by : (o : Option Row) → slice_get rows k ≡ o → row_effect world.program.types state.memory o (object_of (trees_of world) n k) (element_type (running_in world characters) (object_of (trees_of world) n k)) (type_of world.program.types result.0) arguments word ≡ Ok e → IsStill state.memory e
        by (Some row) at h = still world.program.types state.memory row (object_of (trees_of world) n k) (element_type (running_in world characters) (object_of (trees_of world) n k)) (type_of world.program.types result.0) arguments word e (row_quiet row at) h
        by None at h = absurd (err_ok h)

    -- the memory stays, and nothing is called back
    goes : EffectGoes world state.memory n e
    goes = record {
      leaves = subst (Leaves (sets_of world) state.memory) (sym kept_still_so.same) (record { extends = same_memory (sets_of world) state.memory; covered = covered.memory });
      back = λ callee given other next is_comparison. absurd (never callee given next kept_still_so.next);
    }
      where
        never : (callee : Cell) (given : List Value) → e.outcome.next ≡ Calls callee given → (e.outcome.next ≡ Done) ⊎ ((status : ℤ) × (at_once : Bool) × (e.outcome.next ≡ Ends status at_once)) → ⊥
        never callee given at (inl done) = (let bad : Calls callee given ≡ Done = sym at ∙ done in let no : ⊥ = cc in no)
        never callee given at (inr last) = (let bad : Calls callee given ≡ Ends last.0 last.1 = sym at ∙ last.2 in let no : ⊥ = cc in no)

    settled_is : settled n e.outcome.value f.items ≡ items
    settled_is = ap (settled n e.outcome.value) items_are ∙ let_go n e.outcome.value items below

    -- the memory and the frame as they were, but for the top item
    done_at : (memory : List Instance) → memory ≡ state.memory → (stores : List (Cell × Cell)) → stores ≡ [] → (list : List Item) → list ≡ items → StaysCovered world (with_top (record state { memory = memory }) (record f { items = list }) rest stores)
    done_at memory same stores none list is =
        subst (λ (m : List Instance). StaysCovered world (with_top (record state { memory = m }) (record f { items = list }) rest stores)) (sym same)
        (subst (λ (s : List (Cell × Cell)). StaysCovered world (with_top state (record f { items = list }) rest s)) (sym none)
        (subst (λ (l : List Item). StaysCovered world (with_top state (record f { items = l }) rest [])) (sym is)
        (record {
          covered = record {
            memory = covered.memory;
            frames = (record { called = frames_in.0.called; back = frames_in.0.back; items = items_in.1; entered = frames_in.0.entered }, frames_in.1);
            kept = covered.kept;
            notes = record { target = tt; stores = tt };
            awaited = record { each = λ i inst at bare. absurd (none_before i inst at bare) };
            handed = covered.handed;
          };
          found = record { each = stays.found.each };
        })))

    ends_at : (memory : List Instance) → memory ≡ state.memory → (stores : List (Cell × Cell)) → stores ≡ [] → (status : ℤ) (at_once : Bool)
        → StaysCovered world (record (finished (with_top (record state { memory = memory }) f rest stores) status at_once) { notes = only stores })
    ends_at memory same stores none status at_once =
        subst (λ (m : List Instance). StaysCovered world (record (finished (with_top (record state { memory = m }) f rest stores) status at_once) { notes = only stores })) (sym same)
        (subst (λ (s : List (Cell × Cell)). StaysCovered world (record (finished (with_top state f rest s) status at_once) { notes = only s })) (sym none)
        (record {
          covered = record {
            memory = ended.covered;
            frames = tt;
            kept = kept_still (λ entry. KeptIn world entry.0 entry.1) state.kept at_once covered.kept;
            notes = record { target = tt; stores = tt };
            awaited = record { each = λ i inst at bare. absurd (none_after world state.memory (all_ended state.memory (f ∷ rest)) ended.extends none_before (all_long (f ∷ rest) state.memory) i inst at bare) };
            handed = handed_stay world state.memory (all_ended state.memory (f ∷ rest)) ended.extends state.handed covered.handed;
          };
          found = record { each = kept_still (λ entry. IsKeptFound world entry.0) state.kept at_once stays.found.each };
        }))
      where
        ended : Leaves (sets_of world) state.memory (all_ended state.memory (f ∷ rest))
        ended = all_left world (f ∷ rest) state.memory stands covered.memory

    goes_so : (next : Next) → e.outcome.next ≡ next → (after : State)
        → goes_by (running_in world characters) (record state { memory = e.memory }) f rest n k e.outcome.value e.outcome.stores next ≡ Ok after → StaysCovered world after
    goes_so Done at after h = subst (StaysCovered world) (ok_one h) (done_at e.memory kept_still_so.same e.outcome.stores kept_still_so.stores (settled n e.outcome.value f.items) settled_is)
    goes_so (Ends status at_once) at after h = subst (StaysCovered world) (ok_one h) (ends_at e.memory kept_still_so.same e.outcome.stores kept_still_so.stores status at_once)
    goes_so Again at after h = absurd (never kept_still_so.next)
      where
        never : (e.outcome.next ≡ Done) ⊎ ((status : ℤ) × (at_once : Bool) × (e.outcome.next ≡ Ends status at_once)) → ⊥
        never (inl done) = (let bad : Again ≡ Done = sym at ∙ done in let no : ⊥ = cc in no)
        never (inr last) = (let bad : Again ≡ Ends last.0 last.1 = sym at ∙ last.2 in let no : ⊥ = cc in no)
    goes_so (Calls callee given) at after h = absurd (never kept_still_so.next)
      where
        never : (e.outcome.next ≡ Done) ⊎ ((status : ℤ) × (at_once : Bool) × (e.outcome.next ≡ Ends status at_once)) → ⊥
        never (inl done) = (let bad : Calls callee given ≡ Done = sym at ∙ done in let no : ⊥ = cc in no)
        never (inr last) = (let bad : Calls callee given ≡ Ends last.0 last.1 = sym at ∙ last.2 in let no : ⊥ = cc in no)
    goes_so (Keeps cell) at after h = absurd (never kept_still_so.next)
      where
        never : (e.outcome.next ≡ Done) ⊎ ((status : ℤ) × (at_once : Bool) × (e.outcome.next ≡ Ends status at_once)) → ⊥
        never (inl done) = (let bad : Keeps cell ≡ Done = sym at ∙ done in let no : ⊥ = cc in no)
        never (inr last) = (let bad : Keeps cell ≡ Ends last.0 last.1 = sym at ∙ last.2 in let no : ⊥ = cc in no)

  performed_so : (e : Effected) → performed (running_in world characters) state.memory n k arguments word ≡ Ok e
      → (result : TypeId) × (effect world.program.types state.memory k (object_of (trees_of world) n k) (element_type (running_in world characters) (object_of (trees_of world) n k)) result arguments word ≡ Ok e)
  unfolding performed
  performed_so e is = by (result_in (term_in (trees_of world) (library_id k (trees_of world).entities))) is
    where
      by : (o : Option TypeId) → performed_as (running_in world characters) state.memory n k arguments word o ≡ Ok e
          → (result : TypeId) × (effect world.program.types state.memory k (object_of (trees_of world) n k) (element_type (running_in world characters) (object_of (trees_of world) n k)) result arguments word ≡ Ok e)
      by (Some result) g = (result, g)
      by None g = absurd (err_ok g)

  -- what the effect leaves
  pub backed_goes : (e : Effected) → performed (running_in world characters) state.memory n k arguments word ≡ Ok e → EffectGoes world state.memory n e
  backed_goes e is = (let p = performed_so e is in goes e p.0 p.1)

  backed_so : (next : State) → library_row (running_in world characters) state f rest n k arguments word ≡ Ok next → StaysCovered world next
  unfolding library_row
  backed_so next is =
      let r =
      went (performed (running_in world characters) state.memory n k arguments word) (λ e. goes_by (running_in world characters) (record state { memory = e.memory }) f rest n k e.outcome.value e.outcome.stores e.outcome.next) next is in
      let p = performed_so r.0 r.1 in
      goes_so r.0 p.0 p.1 r.0.outcome.next refl next r.2

pub steps_backed : StepsBacked
steps_backed world stands characters served state f rest n k arguments items word next stays frames_are items_are pending below is =
    backed_so world stands characters served state f rest n k arguments items word stays frames_are items_are pending below next is
