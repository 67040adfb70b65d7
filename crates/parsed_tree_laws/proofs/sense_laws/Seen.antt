-- The length of an object's type behind its initialiser, where a length was seen of its name before.
use Rattle.std.proofs.Common.{◌≡◌, ℕ, Bool, true, false, List, Option, Some, None, refl, sym, ap}
use Rattle.std.specs.Prelude.{is_some, if◌then◌else◌}
use Rattle.std.proofs.lemmas.Bool.{false≢true}
use Rattle.c_types.specs.Trees.{Ctype, ArrayOf}
use Rattle.c_senses.specs.passed.c_consts.Core.{Core}
use Rattle.c_senses.specs.passed.c_inits.Initial.{Action, length_given}
use Rattle.c_senses.specs.Tree.{Source}
use Rattle.c_senses.specs.Given.{Given, Fits, Refuses, ◌>>=◌}
use Rattle.c_senses.specs.World.{World}
use Rattle.c_senses.specs.Limits.{lacks_a_length}
use Rattle.c_senses.specs.Entities.{with_length}
use Rattle.c_senses.specs.Sense.{Sense, IsInitial}
use Rattle.c_senses.specs.Initialised.{with_seen, new_length}
use Rattle.parsed_tree_laws.specs.sense_laws.Sound.{Gives}

-- what is so of an initialiser whatever its length is so behind the length that is seen
seen_keeps : (P : Sense → Type 0) → ((c : Core) (m k : Option ℕ) → P (IsInitial c m) → P (IsInitial c k)) → (n : Option ℕ) (x : Sense) → P x → P (with_seen n x)
seen_keeps P any n (IsInitial c None) h = any c None n h
seen_keeps P any n x h = h

pub seen_gives : (P : Sense → Type 0) → ((c : Core) (m k : Option ℕ) → P (IsInitial c m) → P (IsInitial c k)) → (n : Option ℕ) (g : Given Sense) → Gives P g → Gives P (g >>= (λ x. Fits (with_seen n x)))
seen_gives P any n (Fits x) h = seen_keeps P any n x h
seen_gives P any n (Refuses kind node) h = tt

-- the length of an initialiser's sense
abbrev pub initial_length : Sense → Option ℕ
initial_length x = elim x as (λ _. Option ℕ) [ IsInitial c m ↦ m | _ ↦ None ]

pub seen_is : (n m : Option ℕ) (c : Core) → with_seen n (IsInitial c m) ≡ IsInitial c (initial_length (with_seen n (IsInitial c m)))
seen_is n None c = refl
seen_is n (Some m) c = refl

-- it is a new one only where the type has none with the length that is seen
pub seen_length : (n m : Option ℕ) (t : Ctype) (c : Core) → (lacks_a_length (with_length n t) ≡ false → m ≡ None) → with_length (initial_length (with_seen n (IsInitial c m))) t ≡ with_length m (with_length n t)
seen_length None None t c h = refl
seen_length None (Some m) t c h = refl
seen_length (Some n) None t c h = refl
seen_length (Some n) (Some m) (ArrayOf of None) c h = absurd (false≢true (sym (ap is_some (h refl))))
seen_length (Some n) (Some m) t c h = refl

-- with the length of its initialiser, the seen one or a new one, a type is what its initialiser makes of it where it
-- has the length that is seen
pub seen_whole : (w : World) (s : Source) (f : ℕ → Sense) (n : Option ℕ) (t : Ctype) (actions : List Action) (c : Core)
    → with_length (initial_length (with_seen n (IsInitial c (new_length w s f (with_length n t) actions)))) t ≡ with_length (new_length w s f (with_length n t) actions) (with_length n t)
seen_whole w s f n t actions c =
    seen_length n (new_length w s f (with_length n t) actions) t c (λ e. ap (λ (lacks : Bool). if lacks then Some (length_given actions) else None) e)
