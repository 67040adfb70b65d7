-- Operations on variadic lists (C11 7.16.1).
use Rattle.std.specs.Prelude.{ℕ, ◌≡◌, ⊤, Bool, true, not, List, [], ◌∷◌, Option, Some, None}
use Rattle.pta_base.specs.declared.place.Place.{Place}
use Rattle.core_tree.specs.declared.node.NodeKind.{NodeKind}
use Rattle.core_tree.specs.declared.node.NodeKind.TheVariants.{Named}
use Rattle.c_consts.specs.Core.{Core, Of, NoCores}
use Rattle.c_senses.specs.Tree.{Source, is_leaf, all_where, last_or}
use Rattle.c_senses.specs.World.{World}
use Rattle.c_senses.specs.Given.{Given, ◌>>=◌}
use Rattle.c_senses.specs.Objects.{start_row, copy_row, next_row, end_row}
use Rattle.c_senses.specs.Sense.{Sense, IsCore, core_of, type_of_sense}
use Rattle.expression_rows.specs.declared.c_rows.lists.ListParts.{ListParts}
use Rattle.expression_rows.specs.declared.c_rows.lists.ListParts.TheVariants.{One, Two, Other}

-- the operations, over what their parts stand for
abbrev pub ended_core : World → Place → ℕ → Sense → Given Core
ended_core w place at a = core_of at a >>= end_row w place at

abbrev pub next_core : Place → ℕ → Sense → Sense → Given Core
next_core place at a t = core_of at a >>= (λ x. type_of_sense at t >>= next_row place at x)

abbrev pub copied_core : World → Place → ℕ → Sense → Sense → Given Core
copied_core w place at a b = core_of at a >>= (λ x. core_of at b >>= copy_row w place at x)

abbrev pub started_core : World → Place → ℕ → Sense → Sense → Given Core
started_core w place at a n = core_of at a >>= (λ x. core_of at n >>= start_row w place at x)

-- the ends of a list
abbrev pub first_in : List ℕ → Option ℕ
first_in [] = None
first_in (x ∷ xs) = Some x

abbrev pub last_in : List ℕ → Option ℕ
last_in [] = None
last_in (x ∷ xs) = last_or (last_in xs) (Some x)

-- the parts that are told apart: one, two, or another number
abbrev pub parts_seen : List ℕ → ListParts
parts_seen (a ∷ []) = One a
parts_seen (a ∷ b ∷ []) = Two a b
parts_seen parts = Other

-- the leaf of the name that a tree is
abbrev pub named_leaf : Core → Option ℕ
named_leaf (Of (Named leaf) place type NoCores) = Some leaf
named_leaf c = None

-- the same of a node's kind, where nothing stands under the node
abbrev pub lone_leaf : NodeKind → Bool → Option ℕ
lone_leaf (Named leaf) true = Some leaf
lone_leaf kind alone = None

-- the function whose last parameter is declared at a leaf, and the one whose last parameter an expression names
abbrev pub LeafFits : World → Option ℕ → Option ℕ → Type 0
LeafFits w None further = ⊤
LeafFits w (Some leaf) further = w.further leaf ≡ further

abbrev pub NamesLast : World → Sense → Option ℕ → Type 0
NamesLast w (IsCore c) further = LeafFits w (named_leaf c) further
NamesLast w x further = ⊤

abbrev pub SecondFits : World → (ℕ → Sense) → List ℕ → Option ℕ → Type 0
SecondFits w sense (a ∷ b ∷ []) further = NamesLast w (sense b) further
SecondFits w sense parts further = ⊤

-- what is looked up for an operation on lists, by the nodes behind its name: the function whose last parameter its
-- second part names
abbrev pub FurtherFits : World → Source → (ℕ → Sense) → List ℕ → Option ℕ → Type 0
FurtherFits w s sense rest further = SecondFits w sense (all_where (λ c. not (is_leaf s c)) rest) further
