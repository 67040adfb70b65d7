-- The declarations of a name in a scope, kept as links.
use Rattle.std.specs.Prelude.{ℕ, ◌≡◌, ◌==◌, ◌&&◌, ⊤, true, false, List, [], ◌++◌, Option, Some, None}
use Rattle.std.specs.BTreeMap.{BTreeMap}
use Rattle.std.specs.Map.{lookup}
use Rattle.c_scope.specs.declared.kinds.Declared.{Declared}
use Rattle.c_scope.specs.Known.{those_at}
use Rattle.c_senses.specs.Names.{all_linked}
use Rattle.name_chains.specs.declared.links.Link.{Link}
use Rattle.name_chains.specs.declared.chains.Joined.{Joined}
use Rattle.name_chains.specs.declared.chains.Chain.{Chain}
use Rattle.name_chains.specs.Links.{listed, IsLinkOf}

-- what a map has for a scope and a symbol
abbrev pub chain_at : BTreeMap (ℕ × ℕ) Chain → ℕ → ℕ → Option Chain
chain_at chains scope symbol = lookup (λ k. (scope == k.0) && (symbol == k.1)) chains.entries

abbrev pub own_of : Option Chain → Option ℕ
own_of None = None
own_of (Some chain) = chain.own

-- the links of a list behind another are there
abbrev pub JoinedIs : List Link → Option Joined → Type 0
JoinedIs links None = ⊤
JoinedIs links (Some j) = IsLinkOf links j.base × IsLinkOf links j.last

-- some declarations with linkage stand behind a list
pub record IsJoined (links : List Link) (j : Joined) (those : List Declared) : Type 0 where
  pub linked : all_linked those ≡ true
  pub list : listed links j.last ≡ listed links j.base ++ those

abbrev pub JoinedSays : List Link → Option Joined → List Declared → Type 0
JoinedSays links None those = all_linked those ≡ false
JoinedSays links (Some j) those = IsJoined links j those

-- a chain has the declarations of one name in one scope
pub record Keeps (own links : List Link) (c : Chain) (those : List Declared) : Type 0 where
  pub list : listed own c.own ≡ those
  pub joined : JoinedSays links c.joined those

abbrev pub ChainSays : List Link → List Link → Option Chain → List Declared → Type 0
ChainSays own links None those = those ≡ []
ChainSays own links (Some c) those = Keeps own links c those

-- the links of a chain are there
abbrev pub ChainIs : List Link → List Link → Option Chain → Type 0
ChainIs own links None = ⊤
ChainIs own links (Some c) = IsLinkOf own c.own × JoinedIs links c.joined

pub record AreWithin (own links : List Link) (chains : BTreeMap (ℕ × ℕ) Chain) : Type 0 where
  pub each : (scope symbol : ℕ) → ChainIs own links (chain_at chains scope symbol)

-- the map has the declarations of each name in each scope
pub record Says (own links : List Link) (chains : BTreeMap (ℕ × ℕ) Chain) (ds : List Declared) : Type 0 where
  pub each : (scope symbol : ℕ) → ChainSays own links (chain_at chains scope symbol) (those_at scope symbol ds)
