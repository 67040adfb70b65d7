-- Where the nodes of a tree's values stand, and which leaves its compound literals have.
use Rattle.std.specs.Prelude.{ℕ, ◌≡◌, ⊤, ◌||◌, ◌++◌, true, is_some, List, [], ◌∷◌, Option, Some, None}
use Rattle.pta_base.specs.declared.place.Place.{Place}
use Rattle.core_tree.specs.declared.node.NodeKind.{NodeKind}
use Rattle.core_tree.specs.declared.node.NodeKind.TheVariants.{Literal}
use Rattle.c_grammar.specs.Productions.{p_cast, p_unary, p_type_name}
use Rattle.c_grammar.specs.Words.{sign_left_parenthesis}
use Rattle.c_consts.specs.Core.{Core, Cores, Of, NoCores, MoreCores}
use Rattle.c_inits.specs.Made.{Part}
use Rattle.c_senses.specs.Tree.{Source, is_name, spelling_at, is_a, has_sign, children_at, child_of, first_where, place_at}

-- the place of a node
abbrev pub IsAt : Source → Place → Type 0
IsAt s place = (i : ℕ) × (place ≡ place_at s i)

-- the parenthesis before the type of a compound literal
abbrev pub opening_of : Source → ℕ → ℕ
opening_of s p = elim (first_where (has_sign s sign_left_parenthesis) (children_at s p)) [ None ↦ p | Some leaf ↦ leaf ]

pub record IsOpening (s : Source) (d : ℕ) : Type 0 where
  pub node : ℕ
  pub kind : (is_a s p_cast node || is_a s p_unary node) ≡ true
  pub typed : is_some (child_of s p_type_name node) ≡ true
  pub opens : d ≡ opening_of s node

-- a node's place is that of a syntax node, and a literal is known by its parenthesis
abbrev pub Fine : Source → NodeKind → Place → Type 0
Fine s (Literal d) place = IsAt s place × IsOpening s d
Fine s kind place = IsAt s place

pub fine_at : (s : Source) (kind : NodeKind) (place : Place) → Fine s kind place → IsAt s place
fine_at s (Literal d) place h = h.0
fine_at s kind place h = h

abbrev mutual
  pub OfSource : Source → Core → Type 0
  OfSource s (Of kind place type under) = Fine s kind place × AllOfSource s under

  pub AllOfSource : Source → Cores → Type 0
  AllOfSource s NoCores = ⊤
  AllOfSource s (MoreCores c rest) = OfSource s c × AllOfSource s rest

-- ---- names of members

-- the leaf of a declarator's name
abbrev pub IsNameLeaf : Source → Option ℕ → Type 0
IsNameLeaf s None = ⊤
IsNameLeaf s (Some leaf) = is_name s leaf ≡ true

-- a member's name is spelled by such a leaf
abbrev pub IsSpelled : Source → Option (List ℕ) → Type 0
IsSpelled s None = ⊤
IsSpelled s (Some name) = (leaf : ℕ) × (is_name s leaf ≡ true) × (name ≡ spelling_at s leaf)

abbrev pub AreSpelled : Source → List Part → Type 0
AreSpelled s [] = ⊤
AreSpelled s (m ∷ rest) = IsSpelled s m.name × AreSpelled s rest

pub spelled_both : (s : Source) (a b : List Part) → AreSpelled s a → AreSpelled s b → AreSpelled s (a ++ b)
spelled_both s [] b h k = k
spelled_both s (m ∷ a) b h k = (h.0, spelled_both s a b h.1 k)
