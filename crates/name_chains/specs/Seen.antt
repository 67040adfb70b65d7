-- What is seen where each ordinary name is declared, kept as links.
use Rattle.std.specs.Prelude.{ℕ, ◌≡◌, ◌==◌, ◌<◌, List, [], ◌∷◌, ◌++◌, map, take, length, get_or, slice_get, Option}
use Rattle.std.specs.Prelude.{Some, None, if◌then◌else◌}
use Rattle.std.specs.List.{position_from}
use Rattle.std.specs.BTreeMap.{BTreeMap}
use Rattle.c_lexer.specs.declared.Token.{Token}
use Rattle.c_grammar.specs.Reads.{Node}
use Rattle.c_mentions.specs.Settings.{standings}
use Rattle.c_scope.specs.declared.kinds.Declared.{Declared}
use Rattle.c_scope.specs.Known.{those_at}
use Rattle.c_senses.specs.Tree.{Source}
use Rattle.c_senses.specs.Names.{has_linkage, linked_along}
use Rattle.tree_reads.specs.leaf_maps.Numbers.{number_at}
use Rattle.name_chains.specs.declared.links.Link.{Link}
use Rattle.name_chains.specs.declared.chains.Chain.{Chain}
use Rattle.name_chains.specs.declared.building.Seen.{Seen}
use Rattle.name_chains.specs.declared.building.NameChains.{NameChains}
use Rattle.name_chains.specs.Links.{listed, IsLinkOf, AreBackward, HaveLeaves}
use Rattle.name_chains.specs.Chains.{Says}

-- the scopes around a node, the innermost first
abbrev pub scopes_of : List Token → List Node → ℕ → List ℕ
scopes_of tokens nodes leaf = get_or (map (λ s. s.scopes) (standings tokens nodes 0 nodes)) leaf []

-- the place of the first declaration of a leaf
abbrev pub place_of : ℕ → List Declared → Option ℕ
place_of leaf ds = position_from (λ d. d.node == leaf) 0 ds

-- those with linkage that are seen there and the declaration, or that alone
abbrev pub typed_with : List Declared → Declared → List Declared
typed_with linked d = if has_linkage d then linked ++ d ∷ [] else d ∷ []

abbrev pub base_of : Declared → Option ℕ → Option ℕ
base_of d linked = if has_linkage d then linked else None

-- what is kept of a declaration, in these scopes behind those before it
pub record IsSeen (around : List ℕ) (before : List Declared) (d : Declared) (own links : List Link)
    (x : Seen) : Type 0 where
  pub declared : x.declared ≡ d
  pub linked_is : IsLinkOf links x.linked
  pub linked : listed links x.linked ≡ linked_along around d.symbol before
  pub typing_is : IsLinkOf links x.typing
  pub typing : listed links x.typing ≡ typed_with (linked_along around d.symbol before) d
  pub in_scope_is : IsLinkOf own x.in_scope
  pub in_scope : listed own x.in_scope ≡ those_at d.scope d.symbol before

-- the declarations of a unit of so many nodes, by the scopes around each node
pub record AreChains (n : ℕ) (around : ℕ → List ℕ) (ds : List Declared) (c : NameChains) : Type 0 where
  pub own : AreBackward c.own.items
  pub links : AreBackward c.links.items
  pub own_leaves : HaveLeaves n c.own.items
  pub leaves : HaveLeaves n c.links.items
  pub nodes : (k : ℕ) (d : Declared) → slice_get ds k ≡ Some d → d.node < n
  pub count : length c.seen.items ≡ length ds
  pub places : (leaf : ℕ) → number_at c.positions leaf ≡ place_of leaf ds
  pub seen : (k : ℕ) (d : Declared) (x : Seen)
      → slice_get ds k ≡ Some d
      → slice_get c.seen.items k ≡ Some x
      → IsSeen (around d.node) (take k ds) d c.own.items c.links.items x

-- the same of a source
abbrev pub AreChainsOf : ℕ → Source → NameChains → Type 0
AreChainsOf n s c = AreChains n (λ leaf. get_or s.declared.scopes leaf []) s.declared.ordinary c

-- while they are taken in, with the chains of each name in each scope
pub record Stands (n : ℕ) (around : ℕ → List ℕ) (ds : List Declared) (c : NameChains)
    (places : BTreeMap (ℕ × ℕ) Chain) : Type 0 where
  pub chains : AreChains n around ds c
  pub says : Says c.own.items c.links.items places ds

-- what is kept of the first declaration of a leaf
abbrev pub seen_by : NameChains → Option ℕ → Option Seen
seen_by c None = None
seen_by c (Some k) = slice_get c.seen.items k

abbrev pub seen_at : NameChains → ℕ → Option Seen
seen_at c leaf = seen_by c (number_at c.positions leaf)
