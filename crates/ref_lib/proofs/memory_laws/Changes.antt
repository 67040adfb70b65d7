-- What the calls leave that set a type or a mark.
use Rattle.std.proofs.Common.{◌≡◌, ℕ, ◌<◌, true, false, List, [], Option, Some, None, refl}
use Rattle.std.specs.List.{slice_get}
use Rattle.c_types.specs.declared.term.TypeId.{TypeId}
use Rattle.c_types.specs.Table.{Table}
use Rattle.ref_cells.specs.declared.instance.Instance.{Instance}
use Rattle.ref_cells.specs.Places.{AreKnown}
use Rattle.ref_mem.specs.Writes.{changed, with_parts}
use Rattle.ref_elements.specs.Parts.{Parts}
use Rattle.ref_lib.specs.memory_laws.Kept.{Follows}
use Rattle.ref_lib.proofs.memory_laws.Follow.{later_same, same, with_set, with_change}

pub zero_follows : (types : ℕ) (memory : List Instance) (i : ℕ) → AreKnown types memory →
    Follows types None memory (changed memory i (slice_get memory i) (λ inst. record inst { zero = true }))
zero_follows types memory i known =
    with_change types None memory i (λ inst. record inst { zero = true }) known (λ j ne. refl)
    (λ a. record { key = refl; bytes = refl; typed = λ t e. e; live = (later_same false a refl).live }) (λ a h. h)

pub clear_follows : (types : ℕ) (memory : List Instance) (i : ℕ) → AreKnown types memory →
    Follows types None memory (changed memory i (slice_get memory i) (λ inst. record inst { zero = true; cells = [] }))
clear_follows types memory i known =
    with_change types None memory i (λ inst. record inst { zero = true; cells = [] }) known (λ j ne. refl)
    (λ a. record { key = refl; bytes = refl; typed = λ t e. e; live = (later_same false a refl).live }) (λ a h. h)

pub typed_follows : (types : ℕ) (memory : List Instance) (i : ℕ) (id : TypeId) → AreKnown types memory → id.0 < types →
    ((inst : Instance) → slice_get memory i ≡ Some inst → inst.ty ≡ None) →
    Follows types None memory (changed memory i (slice_get memory i) (λ inst. record inst { ty = Some id }))
typed_follows types memory i id known h untyped = at (slice_get memory i) refl
  where
    at : (o : Option Instance) → slice_get memory i ≡ o → Follows types None memory (changed memory i o (λ inst. record inst { ty = Some id }))
    at None e = same types memory known
    at (Some a) e =
        let none : a.ty ≡ None = untyped a e in
        with_set types None memory i a (record a { ty = Some id }) known e (λ j ne. refl)
        (record { key = refl; bytes = refl; typed = λ t q. cc; live = (later_same false a refl).live }) h

pub put_follows : (table : Table) (types : ℕ) (memory : List Instance) (i : ℕ) (parts : Parts) → AreKnown types memory →
    Follows types None memory (changed memory i (slice_get memory i) (with_parts table parts))
put_follows table types memory i parts known =
    with_change types None memory i (with_parts table parts) known (λ j ne. refl)
    (λ a. record { key = refl; bytes = refl; typed = λ t e. e; live = (later_same false a refl).live }) (λ a h. h)
