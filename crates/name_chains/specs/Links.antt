-- Lists of declarations that share their beginnings.
use Rattle.std.specs.Prelude.{ℕ, ◌≡◌, ◌<◌, ⊤, List, [], ◌∷◌, ◌++◌, length, Option, Some, None, get_or, slice_get}
use Rattle.c_scope.specs.declared.kinds.Declared.{Declared}
use Rattle.name_chains.specs.declared.links.Link.{Link}

-- the list that ends with a link, by the lists of the links before it
abbrev pub list_of : List (List Declared) → Option ℕ → List Declared
list_of lists None = []
list_of lists (Some i) = get_or lists i []

abbrev pub with_link : List (List Declared) → Link → List (List Declared)
with_link lists l = lists ++ (list_of lists l.before ++ l.declared ∷ []) ∷ []

abbrev pub lists_from : List (List Declared) → List Link → List (List Declared)
lists_from lists [] = lists
lists_from lists (l ∷ rest) = lists_from (with_link lists l) rest

-- the list that ends with each of some links
unfoldable pub lists : List Link → List (List Declared)
lists links = lists_from [] links

-- the list that ends with a link
unfoldable pub listed : List Link → Option ℕ → List Declared
listed links last = list_of (lists links) last

-- a list's last link is one of the links
abbrev pub IsLinkOf : List Link → Option ℕ → Type 0
IsLinkOf links None = ⊤
IsLinkOf links (Some i) = i < length links

-- each link goes to one before it
abbrev pub BeforeIs : ℕ → Option ℕ → Type 0
BeforeIs i None = ⊤
BeforeIs i (Some j) = j < i

pub record AreBackward (links : List Link) : Type 0 where
  pub each : (i : ℕ) (l : Link) → slice_get links i ≡ Some l → BeforeIs i l.before

-- each declaration is one of so many nodes
pub record HaveLeaves (n : ℕ) (links : List Link) : Type 0 where
  pub each : (i : ℕ) (l : Link) → slice_get links i ≡ Some l → l.declared.node < n

-- more links, where the lists of those that were there stay
pub record Adds (old new : List Link) : Type 0 where
  pub backward : AreBackward new
  pub more : List Link
  pub is : new ≡ old ++ more

-- more links, whose declarations are those of other links
pub record Grows (own old new : List Link) : Type 0 where
  pub adds : Adds old new
  pub leaves : (n : ℕ) → HaveLeaves n own → HaveLeaves n old → HaveLeaves n new

-- a list is another with a declaration more
abbrev pub TypedBy : List Link → Declared → Option ℕ → Option ℕ → Type 0
TypedBy links d linked typing = listed links typing ≡ listed links linked ++ d ∷ []
