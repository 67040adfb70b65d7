-- A program that is linked where no entries are named.
use Rattle.std.proofs.Common.{arith, ◌≡◌, ℕ, true, List, [], ◌∷◌, length, eqb}
use Rattle.std.specs.Prelude.{Result, MatchResult}
use Rattle.std.proofs.lemmas.Bool.Decides.{nat_tests}
use Rattle.core_tree.specs.declared.node.Unit.{Unit}
use Rattle.core_tree.specs.declared.node.Program.{Program}
use Rattle.link_names.specs.declared.fault.LinkFault.{LinkFault}
use Rattle.link_names.specs.Said.{IsFaultUnless}
use Rattle.unit_link.specs.Linked.{Linked, LinkedAt, LinksBadly, LinksBadlyAt}

pub none_named : (names : List (List ℕ)) (units : List Unit) (result : Result Program LinkFault) → eqb (length names) 0 ≡ true → MatchResult result (Linked units) (λ fault. IsFaultUnless fault (LinksBadly units fault))
    → MatchResult result (LinkedAt names units) (λ fault. IsFaultUnless fault (LinksBadlyAt names units fault))
none_named [] units result none h = h
none_named (name ∷ names) units result none h =
    let long : length (name ∷ names) ≡ 0 = grind (arith, nat_tests, none) in
    absurd (omega (arith, long))
