-- Where a program begins, or the first name that isn't an entry's.
use Rattle.std.proofs.Common.{◌≡◌, ◌≢◌, ℕ, suc, ◌<◌, ◌==◌, Bool, false, List, [], ◌∷◌, ◌++◌, Some, All, length, take, drop, refl, sym, ap, subst, ◌∙◌}
use Rattle.std.specs.Prelude.{Result, Ok, Err, MatchResult}
use Rattle.std.proofs.Math.Seq.{split_at}
use Rattle.std.proofs.lemmas.Bool.{false≢true}
use Rattle.std.proofs.lemmas.Option.{get_or_from_slice_get, slice_get_within}
use Rattle.std.specs.List.{slice_get}
use Rattle.link_names.specs.declared.declared.Declared.{Declared}
use Rattle.link_names.specs.declared.fault.LinkFault.{LinkFault}
use Rattle.link_names.specs.declared.fault.LinkFault.TheVariants.{Conflict, Twice, Undefined, NoMain, NoEntry, OutOfMemory}
use Rattle.link_names.specs.Externals.{Joined}
use Rattle.link_names.specs.Faults.{HasMain, HasEntry, IsStarted, IsFirstWant, AreClean, AreDefined, IsFault}
use Rattle.link_names.specs.Said.{IsFaultUnless, IsWant}

one_name : {a b : List ℕ} → ◌≡◌ {A = LinkFault} (NoEntry a) (NoEntry b) → a ≡ b
one_name h = cc

-- the first name that isn't an entry's
first_want : (j : Joined) (ds : List Declared) (names : List (List ℕ)) (i : ℕ) (name : List ℕ) → slice_get names i ≡ Some name → All (HasEntry j ds) (take i names) → (HasEntry j ds name → ⊥) → IsFirstWant j ds names name
first_want j ds names i name at have wants = record {
  before = take i names;
  after = drop (suc i) names;
  split = split_at names i name (slice_get_within names i name at) ∙ ap (λ (x : List ℕ). take i names ++ x ∷ drop (suc i) names) (get_or_from_slice_get names i name name at);
  have = have;
  wants = wants;
}

pub want_fault : (j : Joined) (ds : List Declared) (names : List (List ℕ)) (i : ℕ) (name : List ℕ) (f : LinkFault) → slice_get names i ≡ Some name → All (HasEntry j ds) (take i names) → (HasEntry j ds name → ⊥)
    → IsFaultUnless f (f ≡ NoEntry name) → IsFaultUnless f (IsWant j ds names f)
want_fault j ds names i name (Conflict n u) at have wants h = cc
want_fault j ds names i name (Twice n u) at have wants h = cc
want_fault j ds names i name (Undefined p n) at have wants h = cc
want_fault j ds names i name NoMain at have wants h = cc
want_fault j ds names i name (NoEntry n) at have wants h = subst (IsFirstWant j ds names) (sym (one_name h)) (first_want j ds names i name at have wants)
want_fault j ds names i name OutOfMemory at have wants h = tt

-- the want is the fault of units that have no other one
pub start_fault : (j : Joined) (ds : List Declared) (names : List (List ℕ)) (count : ℕ) (f : LinkFault) → AreClean j ds count → AreDefined j ds → IsFaultUnless f (IsWant j ds names f) → IsFaultUnless f (IsFault j ds names count f)
start_fault j ds names count (Conflict n u) clean defined h = absurd h
start_fault j ds names count (Twice n u) clean defined h = absurd h
start_fault j ds names count (Undefined p n) clean defined h = absurd h
start_fault j ds names count NoMain clean defined h = (clean, defined, h.0, h.1)
start_fault j ds names count (NoEntry n) clean defined h = (clean, defined, h)
start_fault j ds names count OutOfMemory clean defined h = tt

-- the same by whether there are names
pub started_at : (j : Joined) (ds : List Declared) (names : List (List ℕ)) → names ≢ [] → All (HasEntry j ds) names → IsStarted j ds names
started_at j ds [] some h = absurd (some refl)
started_at j ds (name ∷ names) some h = h

pub started_main : (j : Joined) (ds : List Declared) (names : List (List ℕ)) → names ≡ [] → HasMain j ds → IsStarted j ds names
started_main j ds [] none h = h
started_main j ds (name ∷ names) none h = cc

pub not_empty : (names : List (List ℕ)) (b : Bool) → b ≡ (length names == 0) → b ≡ false → names ≢ []
not_empty [] b e h = absurd (false≢true (sym h ∙ e))
not_empty (name ∷ names) b e h = λ none. cons_nil none
  where
    cons_nil : {x : List ℕ} {xs : List (List ℕ)} → x ∷ xs ≡ [] → ⊥
    cons_nil none = cc

pub entered_then : {U : Type 0} (j : Joined) (ds : List Declared) (names : List (List ℕ)) (r : Result U LinkFault) → names ≢ [] → MatchResult r (λ (u : U). All (HasEntry j ds) names) (λ (f : LinkFault). IsFaultUnless f (IsWant j ds names f))
    → MatchResult r (λ (u : U). IsStarted j ds names) (λ (f : LinkFault). IsFaultUnless f (IsWant j ds names f))
entered_then j ds names (Ok u) some h = started_at j ds names some h
entered_then j ds names (Err f) some h = h
