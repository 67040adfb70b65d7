-- Closed families by the facts that their rules demand, and by what is in range. Closed families are closed under
-- intersection, so the least one among those in range is the least of all.
use Rattle.std.proofs.Common.{ℕ, ◌&&◌, nat_lt, Bool, true, false, IsTrue, refl, sym, true≢false, inl, inr, arith}
use Rattle.std.proofs.lemmas.Bool.{and_parts}
use Rattle.std.proofs.lemmas.Bool.Decides.{nat_tests}
use Rattle.sol_model.specs.declared.system.System.{System}
use Rattle.sol_model.specs.Families.{Family, Has, IsInside}
use Rattle.sol_model.specs.Solutions.{IsClosed, IsLeast, IsGiven}
use Rattle.sol_model.specs.Systems.{IsValid, IsRow, IsLocation, location_count}
use Rattle.sol_model.specs.Words.{full}
use Rattle.sol_model.proofs.Monotone.{given_in_closed, more_edge, more_fact}
use Rattle.sol_model.proofs.InRange.{given_range}

-- what a family is given, a larger one is given
pub given_more : (S : System) (F G : Family) → IsInside F G → (row location : ℕ) → IsGiven S F row location → IsGiven S G row location
given_more S F G i row location g = (
  g.0,
  g.1,
  elim g.2 [
    | inl fact ↦ inl (more_fact S F G i g.0 row location fact)
    | inr edge ↦ inr (edge.0, more_edge S F G i g.0 edge.0 row edge.1, i edge.0 location edge.2)
  ],
)

pub closed_has : (S : System) (F : Family) → IsClosed S F → (row location : ℕ) → IsGiven S F row location → Has F row location
closed_has S F closed row location g = given_in_closed S F F (λ r l h. h) row location closed g

-- a family that has what it is given is closed
pub closed_from_given : (S : System) (F : Family) → ((row location : ℕ) → IsGiven S F row location → Has F row location) → IsClosed S F
closed_from_given S F all c there = record {
  edges = λ a b edge location has. all b location (c, there, inr (a, edge, has));
  facts = λ row location fact. all row location (c, there, inl fact);
}

-- a family with the same facts as a closed one is closed
pub closed_same : (S : System) (F G : Family) → IsInside F G → IsInside G F → IsClosed S F → IsClosed S G
closed_same S F G to from closed = closed_from_given S G (λ row location g. to row location (given_in_closed S G F from row location closed g))

pub least_same : (S : System) (F G : Family) → IsLeast S F → IsLeast S G → IsInside F G
least_same S F G f g = f.below G g.closed

pub full_has : (S : System) (row location : ℕ) → Has (full S) row location → IsRow S row × IsLocation S location
full_has S row location h = let t = and_parts (nat_lt row S.rows) (nat_lt location (location_count S)) h in (grind (arith, nat_tests), grind (arith, nat_tests))

pub has_full : (S : System) (row location : ℕ) → IsRow S row × IsLocation S location → Has (full S) row location
has_full S row location h = grind (arith, nat_tests)

-- every fact in range makes a closed family
pub full_closed : (S : System) → IsValid S → IsClosed S (full S)
full_closed S valid = closed_from_given S (full S) (λ row location g. has_full S row location (given_range S valid (full S) (full_has S) row location g))

-- what both of two families have
abbrev pub meet_of : Family → Family → Family
meet_of F G = λ row location. F row location && G row location

and_left : (a b : Bool) → IsTrue (a && b) → IsTrue a
and_left true b h = refl
and_left false b h = h

and_right : (a b : Bool) → IsTrue (a && b) → IsTrue b
and_right true b h = h
and_right false b h = absurd (true≢false (sym h))

and_both : (a b : Bool) → IsTrue a → IsTrue b → IsTrue (a && b)
and_both true b h k = k
and_both false b h k = h

pub closed_both : (S : System) (F G : Family) → IsClosed S F → IsClosed S G → IsClosed S (meet_of F G)
closed_both S F G f g c k =
    let l : IsInside (meet_of F G) F = λ row location h. and_left (F row location) (G row location) h in
    let r : IsInside (meet_of F G) G = λ row location h. and_right (F row location) (G row location) h in record {
      edges = λ a b e location h. and_both (F b location) (G b location)
          ((f c k).edges a b (more_edge S (meet_of F G) F l c a b e) location (l a location h))
          ((g c k).edges a b (more_edge S (meet_of F G) G r c a b e) location (r a location h));
      facts = λ row location d. and_both (F row location) (G row location)
          ((f c k).facts row location (more_fact S (meet_of F G) F l c row location d))
          ((g c k).facts row location (more_fact S (meet_of F G) G r c row location d));
    }

-- in a valid system: what is least among the closed families in range is least among all
pub least_in_range : (S : System) (F : Family) → IsValid S → IsClosed S F → IsInside F (full S)
    → ((G : Family) → IsClosed S G → IsInside G (full S) → IsInside F G) → IsLeast S F
least_in_range S F valid closed inside least = record {
  closed = closed;
  below = λ G g row location h. and_left (G row location) (full S row location)
      (least (meet_of G (full S)) (closed_both S G (full S) g (full_closed S valid)) (λ r l k. and_right (G r l) (full S r l) k) row location h);
}

-- and the least family is in range
pub least_is_in_range : (S : System) (F : Family) → IsValid S → IsLeast S F → IsInside F (full S)
least_is_in_range S F valid least = least.below (full S) (full_closed S valid)
