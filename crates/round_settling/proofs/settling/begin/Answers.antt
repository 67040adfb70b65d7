use Rattle.std.proofs.Common.{◌≡◌, ℕ, List, [], Contains, refl, sym, subst, inl, inr, arith}
use Rattle.std.proofs.lemmas.List.Elements.{All-contains}
use Rattle.edge_book.specs.Edges.{AreApart, Gains}
use Rattle.sol_model.specs.declared.system.System.{System}
use Rattle.sol_model.specs.declared.system.Constraint.TheVariants.{Address, Copy}
use Rattle.sol_model.specs.Systems.{IsRow, IsLocation, IsConstraintValid}
use Rattle.set_rows.specs.Views.{known}
use Rattle.set_rows.specs.Calls.{view}
use Rattle.new_members.specs.News.{IsFact}
use Rattle.round_pieces.proofs.Ending.{begun}
use Rattle.round_settling.proofs.settling.begin.Goals as goal

pub add_facts-requires-clause-known : goal.add_facts-requires-clause-known
add_facts-requires-clause-known c row location h =
    let S = c.args.system.now in
    let listed : Contains S.constraints (Address row location) = (c.in_ok-demanded.ensures.facts row location).0 (subst (λ (xs : List (ℕ × ℕ)). Contains xs (row, location)) c.as_slice.ensures.value h) in
    subst (λ (T : System). IsRow T row × IsLocation T location) (sym c.requires.system) (All-contains (IsConstraintValid S) S.constraints (Address row location) c.requires.valid.constraints listed)

pub add_facts-requires-clause-demanded : goal.add_facts-requires-clause-demanded
add_facts-requires-clause-demanded c row location h =
    let S = c.args.system.now in
    let listed : Contains S.constraints (Address row location) = (c.in_ok-demanded.ensures.facts row location).0 (subst (λ (xs : List (ℕ × ℕ)). Contains xs (row, location)) c.as_slice.ensures.value h) in
    subst (λ (T : System). IsFact T (known (view c.args.seat.now)) row location) (sym c.requires.system) (Address row location, listed, (refl, refl))

pub returns-clause-settled : goal.returns-clause-settled
returns-clause-settled c done fits none =
    let S = c.args.system.now in
    let y = view c.add_facts.new.seat in
    begun S y c.start.new.book done c.requires.valid
    (subst (λ (xs : List (ℕ × ℕ)). Gains xs c.start.new.book (λ a b. Contains S.constraints (Copy a b))) c.requires.book c.in_ok-demanded.ensures.book)
    fits none
    (λ row location h. c.in_ok-add_facts.ensures.has row location (subst (λ (xs : List (ℕ × ℕ)). Contains xs (row, location)) (sym c.as_slice.ensures.value) ((c.in_ok-demanded.ensures.facts row location).1 h)))
    (c.in_ok-add_facts.ensures.sound (λ G closed row location h. absurd (c.requires.fresh row location h)))

-- a list without pairs
no_pair : (pairs : List (ℕ × ℕ)) (a b : ℕ) → pairs ≡ [] → Contains pairs (a, b) → ⊥
no_pair pairs a b e h = let none = subst (λ (xs : List (ℕ × ℕ)). Contains xs (a, b)) e h in let l = none.1 in omega arith

none_apart : (pairs : List (ℕ × ℕ)) → pairs ≡ [] → AreApart pairs
none_apart pairs e = subst AreApart (sym e) (λ i j d lt long. absurd (omega arith))

pub add_facts-requires-clause-had : goal.add_facts-requires-clause-had
add_facts-requires-clause-had c row location h = absurd (no_pair c.args.facts.now row location c.requires.facts h)

pub returns-clause-booked : goal.returns-clause-booked
returns-clause-booked c done =
    let S = c.args.system.now in record {
      edges = c.start.ensures.once (none_apart c.args.book.now c.requires.book);
      facts_once = c.add_facts.ensures.once (none_apart c.args.facts.now c.requires.facts);
      demanded = λ row location h. elim ((c.in_ok-add_facts.ensures.facts row location).0 h) [
        | inl none ↦ absurd (no_pair c.args.facts.now row location c.requires.facts none)
        | inr new ↦ (Address row location, (c.in_ok-demanded.ensures.facts row location).0 (subst (λ (xs : List (ℕ × ℕ)). Contains xs (row, location)) c.as_slice.ensures.value new), (refl, refl))
      ];
    }
