-- What the declarations of a unit say of a declared name, as it is kept for the rows.
use Rattle.std.specs.Prelude.{ℕ, ◌≡◌, ◌<◌, true, List, All, Some, None}
use Rattle.c_types.specs.Trees.{Ctype}
use Rattle.c_senses.specs.Tree.{Source}
use Rattle.c_senses.specs.Names.{before_in_scope, ordinary_at}
use Rattle.c_senses.specs.World.{World}
use Rattle.c_senses.specs.Sense.{Sense}
use Rattle.c_senses.specs.Declarators.{name_in}
use Rattle.c_senses.specs.Entities.{is_typedef, is_linked, declares_function, is_internal, has_one_linkage}
use Rattle.c_senses.specs.Entities.{internal_before, all_same, all_together, types_of, some_such, defines}
use Rattle.c_senses.specs.Entities.{type_behind}
use Rattle.c_named.specs.declared.said.Said.{Said}
use Rattle.c_named.specs.Lists.{all_of, types_at, some_defines}

-- the kept declarations give what all those give of which the rows ask
pub record IsSaid (w : World) (s : Source) (sense : ℕ → Sense) (leaf : ℕ) (said : Said) : Type 0 where
  pub typedefs : said.is_typedef ≡ is_typedef s sense leaf
  pub linked : said.is_linked ≡ is_linked s sense leaf
  pub function : said.is_function ≡ declares_function s sense leaf
  pub internal : said.is_internal ≡ is_internal s sense leaf
  pub one_linkage : said.one_linkage ≡ has_one_linkage w s sense leaf
  pub in_scope :
      is_typedef s sense leaf ≡ true
      → (t : Ctype)
      → all_of s sense t said.in_scope.items ≡ all_same w s sense t (before_in_scope s (ordinary_at s leaf))
  pub types :
      is_internal s sense leaf ≡ true
      → all_together None (types_at s sense said.internal_before.items)
      ≡ all_together None (types_of s sense (internal_before w s sense leaf))
  pub defined :
      is_internal s sense leaf ≡ true
      → some_defines s sense said.internal_before.items
      ≡ some_such s sense (λ d. defines w s sense d.node) (internal_before w s sense leaf)
  pub typing :
      said.is_typed ≡ true → all_together None (types_at s sense said.typing.items) ≡ type_behind s sense leaf

-- the leaves are those of nodes, in a tree of so many
pub record IsSaidIn (count : ℕ) (said : Said) : Type 0 where
  pub in_scope : All (λ leaf. leaf < count) said.in_scope.items
  pub internal_before : All (λ leaf. leaf < count) said.internal_before.items
  pub typing : All (λ leaf. leaf < count) said.typing.items

-- it is said of the name of a declarator with those children
abbrev pub AreSaid : World → Source → (ℕ → Sense) → List ℕ → Said → Type 0
AreSaid w s sense children said = (leaf : ℕ) → name_in w s sense children ≡ Some leaf → IsSaid w s sense leaf said
