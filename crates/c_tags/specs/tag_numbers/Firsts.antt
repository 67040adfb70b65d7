-- The first declaration of each tag in its scope, by the leaves that declare it.
use Rattle.std.specs.Prelude.{ℕ, ◌≡◌, ◌==◌, ◌&&◌, Option, Some, None, List, [], ◌∷◌, option_map, if◌then◌else◌}
use Rattle.std.specs.BTreeMap.{BTreeMap}
use Rattle.std.specs.Map.{lookup}
use Rattle.tree_reads.specs.leaf_maps.Numbers.{number_at}
use Rattle.c_scope.specs.declared.kinds.Declared.{Declared}
use Rattle.c_scope.specs.Known.{those_at}
use Rattle.c_senses.specs.Tree.{Source, paired}
use Rattle.c_senses.specs.Names.{entry_of, first_node}
use Rattle.c_tags.specs.declared.tag_numbers.declaring.Declaring.{Declaring}

-- the first node of some declarations
abbrev pub head_node : List Declared → Option ℕ
head_node [] = None
head_node (d ∷ rest) = Some d.node

-- what a map says of a symbol in a scope
abbrev pub node_at : BTreeMap (ℕ × ℕ) ℕ → ℕ → ℕ → Option ℕ
node_at places scope symbol = lookup (λ k. scope == k.0 && symbol == k.1) places.entries

-- a node at one place, where there is none yet
abbrev pub or_first : Option ℕ → Option ℕ → Option ℕ
or_first None other = other
or_first (Some n) other = Some n

abbrev pub node_put : BTreeMap (ℕ × ℕ) ℕ → Declared → ℕ → ℕ → Option ℕ
node_put before d scope symbol =
    if d.scope == scope && d.symbol == symbol then Some d.node else node_at before scope symbol

abbrev pub node_more : BTreeMap (ℕ × ℕ) ℕ → Declared → ℕ → ℕ → Option ℕ
node_more before d scope symbol =
    or_first (node_at before scope symbol) (if d.scope == scope && d.symbol == symbol then Some d.node else None)

-- a map says of each place which declaration is the first there
abbrev pub SaysFirst : BTreeMap (ℕ × ℕ) ℕ → List Declared → Type 0
SaysFirst places ds = (scope symbol : ℕ) → node_at places scope symbol ≡ head_node (those_at scope symbol ds)

-- the first declaration in the scope of the one that a leaf makes
abbrev pub first_for : List Declared → ℕ → Option ℕ
first_for ds leaf = option_map (λ d. first_node leaf (those_at d.scope d.symbol ds)) (entry_of ds leaf)

-- the maps say what each leaf of a tag means
pub record Declares (s : Source) (d : Declaring) : Type 0 where
  pub uses : (leaf : ℕ) → number_at d.uses leaf ≡ paired s.uses leaf
  pub firsts : (leaf : ℕ) → number_at d.firsts leaf ≡ first_for s.declared.tags leaf
