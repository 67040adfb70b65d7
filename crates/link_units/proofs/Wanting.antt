-- Which want ends linking: of `main`, or of an entry.
use Rattle.std.proofs.Common.{arith, ◌≡◌, ◌≢◌, ℕ, ◌≤◌, List, [], ◌∷◌, ◌++◌, length, ap}
use Rattle.std.specs.Prelude.{Result, Ok, Err, IfErr, MatchResult}
use Rattle.core_tree.specs.declared.node.Unit.{Unit}
use Rattle.core_tree.specs.declared.node.Program.{Program}
use Rattle.link_names.specs.declared.fault.LinkFault.{LinkFault}
use Rattle.link_names.specs.declared.fault.LinkFault.TheVariants.{Conflict, Twice, Undefined, NoMain, NoEntry, OutOfMemory}
use Rattle.link_names.specs.Said.{IsFaultUnless}
use Rattle.unit_link.specs.Linked.{LinkedAt, LinksBadlyAt}

not_empty : (before : List (List ℕ)) (name : List ℕ) (after : List (List ℕ)) → [] ≡ before ++ name ∷ after → ⊥
not_empty [] name after h = cc
not_empty (n ∷ before) name after h = cc

-- where no entry is named none is wanted
pub no_entry : (units : List Unit) (f : LinkFault) → IsFaultUnless f (LinksBadlyAt [] units f) → (name : List ℕ) → f ≢ NoEntry name
no_entry units (Conflict n u) h name e = cc
no_entry units (Twice n u) h name e = cc
no_entry units (Undefined p n) h name e = cc
no_entry units NoMain h name e = cc
no_entry units (NoEntry n) h name e = let want = h.fault_is.2 in not_empty want.before n want.after want.split
no_entry units OutOfMemory h name e = cc

-- and where one is, `main` isn't
pub no_main : (names : List (List ℕ)) (units : List Unit) (f : LinkFault) → 1 ≤ length names → IsFaultUnless f (LinksBadlyAt names units f) → f ≢ NoMain
no_main names units (Conflict n u) some h e = cc
no_main names units (Twice n u) some h e = cc
no_main names units (Undefined p n) some h e = cc
no_main names units NoMain some h e = let none = ap length (h.fault_is.2) in absurd (omega arith)
no_main names units (NoEntry n) some h e = cc
no_main names units OutOfMemory some h e = cc

pub err_no_entry : (units : List Unit) (r : Result Program LinkFault) → MatchResult r (LinkedAt [] units) (λ (f : LinkFault). IsFaultUnless f (LinksBadlyAt [] units f)) → IfErr r (λ (f : LinkFault). (name : List ℕ) → f ≢ NoEntry name)
err_no_entry units (Ok p) h = tt
err_no_entry units (Err f) h = no_entry units f h

pub err_no_main : (names : List (List ℕ)) (units : List Unit) (r : Result Program LinkFault) → 1 ≤ length names → MatchResult r (LinkedAt names units) (λ (f : LinkFault). IsFaultUnless f (LinksBadlyAt names units f)) → IfErr r (λ (f : LinkFault). f ≢ NoMain)
err_no_main names units (Ok p) some h = tt
err_no_main names units (Err f) some h = no_main names units f some h
