-- What a new object with an old one's elements is.
use Rattle.std.proofs.Common.{◌≡◌, ℕ, Bool, true, false, cond, List, Option, Some, Ok, length, slice_get, sym, ◌∙◌, ap, Err}
use Rattle.c_types.specs.declared.key.ObjectKey.{ObjectKey}
use Rattle.c_types.specs.declared.term.TypeId.{TypeId}
use Rattle.c_types.specs.Table.{Table}
use Rattle.ref_cells.specs.declared.cells.Cell.{Cell}
use Rattle.ref_cells.specs.declared.cells.Reason.TheVariants.{Mismatch}
use Rattle.ref_cells.specs.declared.cells.Value.{Value}
use Rattle.ref_cells.specs.declared.instance.Instance.{Instance}
use Rattle.ref_cells.specs.Cells.{CellList}
use Rattle.ref_elements.specs.declared.outcome.LibOutcome.{LibOutcome}
use Rattle.ref_elements.specs.declared.outcome.Next.TheVariants.{Done}
use Rattle.ref_elements.specs.Outcomes.{Effect, pointers_in, start_value}
use Rattle.ref_elements.specs.Objects.{with_new}
use Rattle.ref_lib.specs.ref_alloc.Allocation.{ended, kept_elements, takes, regrown, regrown_in}

pub regrown_is : (table : Table) (memory m1 m2 : List Instance) (key : ObjectKey) (fixed : Option TypeId) (bytes i number : ℕ) (old : Instance) (cells : CellList) (stores : List (Cell × Cell)) (value : Value) (outcome : LibOutcome) →
    slice_get memory i ≡ Some old → takes table fixed old.ty ≡ true → cells ≡ kept_elements table old bytes old.ty → number ≡ length memory → stores ≡ pointers_in number cells → value ≡ start_value number →
    m1 ≡ with_new memory key old.ty bytes false cells → m2 ≡ ended m1 i → outcome ≡ record { value = value; stores = stores; next = Done } →
    regrown table memory key fixed bytes i (slice_get memory i) ≡ Ok (record { memory = m2; outcome = outcome })
regrown_is table memory m1 m2 key fixed bytes i number old cells stores value outcome found taken kept n s v made over all =
    let answer = λ (xs : CellList). regrown_in memory key i bytes old xs in
    let both : ended (with_new memory key old.ty bytes false cells) i ≡ m2 = ap (λ (m : List Instance). ended m i) (sym made) ∙ sym over in
    ap (regrown table memory key fixed bytes i) found
    ∙ ap (λ (b : Bool). cond b (answer (kept_elements table old bytes old.ty)) (Err Mismatch)) taken
    ∙ ap answer (sym kept)
    ∙ ap (λ (k : ℕ). let e : Effect = Ok (record { memory = ended (with_new memory key old.ty bytes false cells) i; outcome = record { value = start_value k; stores = pointers_in k cells; next = Done } }) in e) (sym n)
    ∙ ap (λ (m : List Instance). let e : Effect = Ok (record { memory = m; outcome = record { value = start_value number; stores = pointers_in number cells; next = Done } }) in e) both
    ∙ ap (λ (w : Value). let e : Effect = Ok (record { memory = m2; outcome = record { value = w; stores = pointers_in number cells; next = Done } }) in e) (sym v)
    ∙ ap (λ (t : List (Cell × Cell)). let e : Effect = Ok (record { memory = m2; outcome = record { value = value; stores = t; next = Done } }) in e) (sym s)
    ∙ ap (λ (o : LibOutcome). let e : Effect = Ok (record { memory = m2; outcome = o }) in e) (sym all)

pub refused_is : (table : Table) (memory : List Instance) (key : ObjectKey) (fixed : Option TypeId) (bytes i : ℕ) (old : Instance) →
    slice_get memory i ≡ Some old → takes table fixed old.ty ≡ false → regrown table memory key fixed bytes i (slice_get memory i) ≡ Err Mismatch
refused_is table memory key fixed bytes i old found refused =
    ap (regrown table memory key fixed bytes i) found ∙ ap (λ (b : Bool). cond b (regrown_in memory key i bytes old (kept_elements table old bytes old.ty)) (Err Mismatch)) refused
