use Rattle.std.proofs.Common.{◌≡◌, ℕ, ◌%◌, Bool, false, cond, eqb, sym, ap, ◌∙◌, subst, rules}
use Rattle.ref_cells.specs.Answers.{Gives}
use Rattle.ref_cells.specs.declared.cells.Cell.{Cell}
use Rattle.ref_mem.specs.Reads.{one_cell}
use Rattle.ref_elements.specs.declared.outcome.LibOutcome.{LibOutcome}
use Rattle.ref_elements.specs.Arguments.{argument, count_of}
use Rattle.ref_elements.specs.Outcomes.{Effect, Effected, gives}
use Rattle.ref_copies.specs.Copies.{set_at, set_row}
use Rattle.ref_copies.proofs.sets.set_row.Goals as goal

pub returns-clause-value : goal.returns-clause-value
returns-clause-value c =
    let table = c.args.types.now in
    let memory = c.args.memory.now in
    let a0 = argument c.args.arguments.now 0 in
    let a1 = argument c.args.arguments.now 1 in
    let a2 = argument c.args.arguments.now 2 in
    let some : eqb c.count-bytes.result 0 ≡ false = search rules in
    let left : eqb (count_of a2) 0 ≡ false = ap (λ (n : ℕ). eqb n 0) (sym c.count-bytes.ensures) ∙ some in
    let whole : set_row table memory a0 a1 a2 ≡ set_at table memory a0 (count_of a1 % 256) (count_of a2) = ap (λ (b : Bool). cond b (gives memory (one_cell a0)) (set_at table memory a0 (count_of a1 % 256) (count_of a2))) left in
    let same : set_at table memory c.in_ok-place.place c.byte-byte.result c.count-bytes.result ≡ set_row table memory a0 a1 a2 =
    ap (λ (x : Cell). set_at table memory x c.byte-byte.result c.count-bytes.result) c.in_ok-place.ensures
    ∙ ap (λ (b : ℕ). set_at table memory a0 b c.count-bytes.result) c.byte-byte.ensures
    ∙ ap (λ (n : ℕ). set_at table memory a0 (count_of a1 % 256) n) c.count-bytes.ensures
    ∙ sym whole in
    subst (λ (e : Effect). Gives (λ (o : LibOutcome). let r : Effected = record { memory = c.set_at.new.memory; outcome = o } in r) c.set_at.result e) same c.set_at.ensures.value
