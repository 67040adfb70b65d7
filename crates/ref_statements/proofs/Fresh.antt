-- Leaving a block makes no object, and more items than there are can't go.
use Rattle.std.proofs.Common.{arith, ◌≡◌, ℕ, min, false, IfOk, Result, Ok, Err, List, [], ◌∷◌, ◌++◌, length, length-append, inl, inr, Option, Some, None, drop, slice_get, refl, ap, sym, ◌∙◌}
use Rattle.std.specs.Prelude.{filter}
use Rattle.std.proofs.Math.ListN.{length-set}
use Rattle.std.proofs.lemmas.Bool.{cases_lt}
use Rattle.std.proofs.lemmas.List.{drop_all, append-nil}
use Rattle.core_tree.specs.Typed.{CoreTrees}
use Rattle.ref_cells.specs.declared.instance.Instance.{Instance}
use Rattle.ref_mem.specs.Writes.{changed}
use Rattle.ref_state.specs.declared.doors.Doors.{Doors}
use Rattle.ref_state.specs.declared.items.Item.{Item}
use Rattle.ref_state.specs.Changes.{Blocks, ended_one, ended_all}
use Rattle.ref_blocks.specs.declared.block.Block.{Block}
use Rattle.ref_blocks.specs.Around.{objects_of}
use Rattle.ref_blocks.specs.Blocks.{is_of, left}
use Rattle.ref_blocks.specs.Plans.{blocks_by}

one_length : (memory : List Instance) (i : ℕ) → length (ended_one memory i) ≡ length memory
one_length memory i = at (slice_get memory i)
  where
    at : (o : Option Instance) → length (changed memory i o (λ inst. record inst { live = false })) ≡ length memory
    at None = refl
    at (Some inst) = length-set memory i (record inst { live = false })

ended_length : (memory : List Instance) (ended : List ℕ) → length (ended_all memory ended) ≡ length memory
ended_length memory [] = refl
ended_length memory (i ∷ rest) = ended_length (ended_one memory i) rest ∙ one_length memory i

none_there : {X : Type 0} (xs : List X) → length xs ≡ 0 → xs ≡ []
none_there [] e = refl
none_there (x ∷ xs) e = absurd (omega arith)

pub nothing_fresh : (u : CoreTrees) (b : Block) (memory : List Instance) (before after : Doors) → before.fresh ≡ []
    → blocks_by memory after ≡ left u b (blocks_by memory before) → after.fresh ≡ []
nothing_fresh u b memory before after none e =
    let s = blocks_by memory before in
    let ends = filter (λ i. is_of (objects_of u b) (slice_get s.memory i)) s.own in
    let same : length (ended_all (memory ++ after.fresh) after.ended) ≡ length (ended_all s.memory ends) = ap (λ (t : Blocks). length t.memory) e in
    let one = ended_length (memory ++ after.fresh) after.ended in
    let two = ended_length s.memory ends in
    let three : length s.memory ≡ length (memory ++ before.fresh) = ended_length (memory ++ before.fresh) before.ended in
    let four : length before.fresh ≡ 0 = ap length none in
    none_there after.fresh (omega (arith, same, one, two, three, four, length-append memory after.fresh, length-append memory before.fresh))

-- where nothing is made, the memory is as the instances that end leave it
pub without_fresh : (memory : List Instance) (doors : Doors) → doors.fresh ≡ [] → ended_all memory doors.ended ≡ (blocks_by memory doors).memory
without_fresh memory doors none =
    sym (ap (λ (m : List Instance). ended_all m doors.ended) (ap (λ (xs : List Instance). memory ++ xs) none ∙ append-nil memory))

pub drop_min : (off : ℕ) (items : List Item) → drop (min off (length items)) items ≡ drop off items
drop_min off items = elim (cases_lt off (length items)) [
  | inl less ↦ let e : min off (length items) ≡ off = omega arith in ap (λ (k : ℕ). drop k items) e
  | inr past ↦
      let e : min off (length items) ≡ length items = omega arith in
      ap (λ (k : ℕ). drop k items) e ∙ (drop_all (length items) items (omega arith) ∙ sym (drop_all off items past))
]

pub left_fresh : {E : Type 0} (u : CoreTrees) (b : Block) (memory : List Instance) (before : Doors) (result : Result Doors E) → before.fresh ≡ []
    → IfOk result (λ after. blocks_by memory after ≡ left u b (blocks_by memory before)) → IfOk result (λ after. after.fresh ≡ [])
left_fresh u b memory before (Ok after) none h = nothing_fresh u b memory before after none h
left_fresh u b memory before (Err x) none h = tt
