-- Locations by name and by object.
use Rattle.std.specs.Prelude.{◌≡◌, ℕ, ◌<◌, ◌^◌, nat_eq, ◌&&◌, Bool, if◌then◌else◌, List, Option, Some, IsSome}
use Rattle.std.specs.Prelude.{slice_get, length, MatchOption}
use Rattle.std.specs.BTreeMap.{BTreeMap, get_by}
use Rattle.std.specs.Ordering.{nat_cmp, ordering_then}
use Rattle.c_types.specs.Index.{number_at}
use Rattle.c_types.specs.declared.key.ObjectKey.{ObjectKey}
use Rattle.c_types.specs.declared.key.ObjectKey.TheVariants.{Entity, Text, Call, Library, Star, Function, Varargs}
use Rattle.c_types.specs.declared.key.ObjectKey.TheVariants.{Outside}
use Rattle.obj_space.specs.declared.location.Location.{Location}
use Rattle.obj_space.specs.declared.space.Space.TheInside.{Inside}

-- a location has a name
abbrev pub HasName : List Location → ℕ → List ℕ → Type 0
HasName space l name = (location : Location) × (slice_get space l ≡ Some location) × (location.name ≡ name)

-- no location has a name
abbrev pub NotNamed : List Location → List ℕ → Type 0
NotNamed space name = (l : ℕ) → HasName space l name → ⊥

-- a location is one of that object
abbrev pub HasKey : List Location → ℕ → ObjectKey → Type 0
HasKey space l key = (location : Location) × (slice_get space l ≡ Some location) × (location.key ≡ key)

-- there is no such object
abbrev pub NoObject : List Location → ObjectKey → Type 0
NoObject space key = (l : ℕ) → HasKey space l key → ⊥

-- a location is the first one of that object
pub record IsFirst (space : List Location) (key : ObjectKey) (l : ℕ) : Type 0 where
  pub here : HasKey space l key
  pub before : (k : ℕ) → k < l → HasKey space k key → ⊥

-- an index has the names of the first so many locations
pub record AreNames (names : List (List ℕ × ℕ)) (space : List Location) (n : ℕ) : Type 0 where
  pub found : (q : List ℕ) (l : ℕ) → number_at names q ≡ Some l → HasName space l q
  pub each : (l : ℕ) (location : Location)
      → l < n
      → slice_get space l ≡ Some location
      → IsSome (number_at names location.name)

-- two numbers for each object
abbrev pub kind_of : ObjectKey → ℕ
kind_of (Entity e) = 0
kind_of (Text n) = 1
kind_of (Call n) = 2
kind_of (Library k) = 3
kind_of (Star k) = 4
kind_of (Function k) = 5
kind_of (Varargs e) = 6
kind_of Outside = 7

abbrev pub number_of : ObjectKey → ℕ
number_of (Entity e) = e
number_of (Text n) = n
number_of (Call n) = n
number_of (Library k) = k
number_of (Star k) = k
number_of (Function k) = k
number_of (Varargs e) = e
number_of Outside = 0

abbrev pub same_object : ObjectKey → ObjectKey → Bool
same_object a b = nat_eq (kind_of a) (kind_of b) && nat_eq (number_of a) (number_of b)

-- what is kept for another object behind a location of an object, which is kept where there is none
abbrev pub kept_with : Bool → Bool → ℕ → Option ℕ → Option ℕ
kept_with there same l before = if there then before else if same then Some l else before

-- the location that a map keeps for a kind and a number
abbrev pub kept_at : BTreeMap (ℕ × ℕ) ℕ → ℕ → ℕ → Option ℕ
kept_at firsts kind number = get_by (λ k. ordering_then (nat_cmp kind k.0) (nat_cmp number k.1)) firsts

-- the location that a map keeps for an object
abbrev pub kept_for : BTreeMap (ℕ × ℕ) ℕ → ObjectKey → Option ℕ
kept_for firsts key = kept_at firsts (kind_of key) (number_of key)

-- a map keeps the first location of each object among the first so many
abbrev pub KeepsFirst : BTreeMap (ℕ × ℕ) ℕ → List Location → ℕ → Type 0
KeepsFirst firsts space n =
    (key : ObjectKey)
    → MatchOption (kept_for firsts key) ((l : ℕ) → l < n → HasKey space l key → ⊥)
    (λ l. IsFirst space key l)

-- the indexes of a space are right
pub record IsSpace (s : Inside) : Type 0 where
  pub room : length s.locations.items < 2 ^ 32
  pub names : AreNames s.by_name s.locations.items (length s.locations.items)
  pub firsts : KeepsFirst s.by_object s.locations.items (length s.locations.items)
