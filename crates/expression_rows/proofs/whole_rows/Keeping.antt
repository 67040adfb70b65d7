-- Results whose constants can be computed, as they are read and go on standing.
use Rattle.std.proofs.Common.{arith, ◌≡◌, ◌<◌, ℕ, zero, suc, List, [], ◌∷◌, All, Ok, Err, Result, IfOk, length, sym, subst}
use Rattle.std.proofs.lemmas.List.Elements.{All-head, All-tail, All-cons}
use Rattle.core_tree.specs.declared.node.Unit.{Unit}
use Rattle.c_consts.specs.Core.{Core}
use Rattle.c_senses.specs.Given.{Fits}
use Rattle.c_senses.specs.Sense.{Sense, IsCore, core_of, sense_in}
use Rattle.core_nodes.specs.Standing.{core_at, Builds, Made as CoreMade}
use Rattle.core_nodes.specs.declared.fault.CheckFault.{CheckFault}
use Rattle.c_conversions.specs.Constants.{HasRows}
use Rattle.c_results.specs.declared.made.Made.{Made}
use Rattle.c_results.specs.Standing.{sense_made, senses_made, IsWithin}
use Rattle.c_results.proofs.Keeping.{made_kept}
use Rattle.expression_rows.specs.whole_rows.Constants.{SenseHasRows, HaveRowsMade}

pub sense_rows : (u : Unit) (rs : List Made) → HaveRowsMade u rs → (i : ℕ) → SenseHasRows (sense_in (senses_made u rs) i)
sense_rows u [] all i = tt
sense_rows u (r ∷ rs) all zero = All-head (λ m. SenseHasRows (sense_made u m)) r rs all
sense_rows u (r ∷ rs) all (suc i) = sense_rows u rs (All-tail (λ m. SenseHasRows (sense_made u m)) r rs all) i

of_core : (at : ℕ) (x : Sense) (c : Core) → core_of at x ≡ Fits c → SenseHasRows x → HasRows c
of_core at (IsCore d) c e h = let same : d ≡ c = cc in subst HasRows same h
of_core at x c e h = cc

pub core_rows : (u : Unit) (at : ℕ) (r : Result ℕ CheckFault) (x : Sense) → CoreMade u r (core_of at x) → SenseHasRows x → IfOk r (λ i. HasRows (core_at u i))
core_rows u at (Ok i) x m h = of_core at x (core_at u i) m h
core_rows u at (Err fault) x m h = tt

-- while nodes are added
pub rows_on : (old new : Unit) → Builds old new → (rs : List Made) → All (IsWithin old) rs → HaveRowsMade old rs → HaveRowsMade new rs
rows_on old new b [] all h = λ k d lt. absurd (omega arith)
rows_on old new b (r ∷ rs) all h =
    All-cons (λ m. SenseHasRows (sense_made new m)) r rs
    (subst SenseHasRows (sym (made_kept old new b r (All-head (IsWithin old) r rs all))) (All-head (λ m. SenseHasRows (sense_made old m)) r rs h))
    (rows_on old new b rs (All-tail (IsWithin old) r rs all) (All-tail (λ m. SenseHasRows (sense_made old m)) r rs h))

pub core_rows_on : (old new : Unit) → Builds old new → (i : ℕ) → i < length old.nodes.items → HasRows (core_at old i) → HasRows (core_at new i)
core_rows_on old new b i lt h = subst HasRows (sym (b.cores i lt)) h
