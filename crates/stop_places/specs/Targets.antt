-- What the calls of a program reach.
use Rattle.std.specs.Prelude.{◌≡◌, ℕ, List, [], ◌∷◌, Option, Some, codes, length, slice_get, Contains}
use Rattle.sol_model.specs.declared.system.System.{System}
use Rattle.sol_model.specs.declared.system.CallSite.{CallSite}
use Rattle.sol_model.specs.declared.system.Function.{Function}
use Rattle.sol_model.specs.Families.{Family, Has}
use Rattle.sol_model.specs.Rules.{IsTarget}
use Rattle.lib_summaries.specs.Table.{name_of}
use Rattle.call_sites.specs.Calls.{calls_upto}
use Rattle.call_graph.specs.Graph.{IsFunctionAt}
use Rattle.stop_places.specs.Fits.{Solution}

-- the call may call the library function of a number
abbrev pub ReachesLibrary : System → Family → CallSite → ℕ → Type 0
ReachesLibrary system F call k =
    (number : ℕ) × (function : Function) × IsTarget system F call number function × (function.library ≡ Some k)

abbrev pub ReachesSomeLibrary : System → Family → CallSite → Type 0
ReachesSomeLibrary system F call = (k : ℕ) × ReachesLibrary system F call k

-- the library function of a number has one of these names
abbrev pub IsAmong : List (List ℕ) → ℕ → Type 0
IsAmong names k = (name : List ℕ) × (name_of k ≡ Some name) × Contains names name

-- the call may call a library function of one of these names
abbrev pub ReachesNamed : System → Family → CallSite → List (List ℕ) → Type 0
ReachesNamed system F call names = (k : ℕ) × ReachesLibrary system F call k × IsAmong names k

-- the call's row of callees has a member that isn't a function of the call's signature
pub record HasStranger (system : System) (F : Family) (call : CallSite) : Type 0 where
  pub location : ℕ
  pub has : Has F call.callee location
  pub other : (number : ℕ) (function : Function)
      → IsFunctionAt system location call.signature number function
      → ⊥

-- the call at a node; calls stand in the order of their nodes
abbrev pub call_of : Solution → ℕ → Option CallSite
call_of x n = slice_get x.system.calls (length (calls_upto x.trees.nodes n))

-- the node's call, in the family, is so
abbrev pub CallAt : Solution → ℕ → (System → Family → CallSite → Type 0) → Type 0
CallAt x n Is = (call : CallSite) × (call_of x n ≡ Some call) × Is x.system x.family call

-- library functions that go through what their arguments point to by its type (C11 7.21, 7.22, 7.24)
unfoldable pub walkers : List (List ℕ)
walkers =
    codes "realloc"
    ∷ codes "memcpy"
    ∷ codes "memmove"
    ∷ codes "memset"
    ∷ codes "strcpy"
    ∷ codes "strcat"
    ∷ codes "strncpy"
    ∷ codes "strchr"
    ∷ codes "strrchr"
    ∷ codes "strstr"
    ∷ codes "memchr"
    ∷ codes "strtol"
    ∷ codes "qsort"
    ∷ codes "bsearch"
    ∷ codes "strlen"
    ∷ codes "strcmp"
    ∷ codes "strncmp"
    ∷ codes "strdup"
    ∷ codes "sprintf"
    ∷ codes "snprintf"
    ∷ codes "fgets"
    ∷ codes "fread"
    ∷ []

-- library functions that end an instance or call a function back (C11 7.22.3, 7.22.4.2, 7.22.5)
unfoldable pub enders : List (List ℕ)
enders = codes "free" ∷ codes "realloc" ∷ codes "qsort" ∷ codes "bsearch" ∷ codes "atexit" ∷ []

-- the call may call one of the first, or has a stranger or may call one of the second
abbrev pub ReachesWalker : System → Family → CallSite → Type 0
ReachesWalker system F call = ReachesNamed system F call walkers

abbrev pub ReachesEnder : System → Family → CallSite → Type 0
ReachesEnder system F call = ReachesNamed system F call enders
