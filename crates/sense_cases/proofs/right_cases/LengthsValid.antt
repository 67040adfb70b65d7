-- The unit with an array of a length that is seen is valid.
use Rattle.std.proofs.Common.{◌≡◌, ℕ, ◌<◌, [], ◌∷◌, Some, slice_get, inl, inr, refl, arith, All}
use Rattle.std.specs.Prelude.{pos, IfSome}
use Rattle.c_types.specs.Trees.{VoidType}
use Rattle.c_types.specs.Table.{types_of}
use Rattle.core_tree.specs.declared.node.Node.{Node}
use Rattle.core_tree.specs.declared.node.Entity.{Entity}
use Rattle.core_tree.specs.declared.node.NodeKind.TheVariants.{Number}
use Rattle.core_tree.specs.Typed.{CoreTrees, IsAggregate}
use Rattle.core_tree.specs.Valid.{Valid, InRange, InRow, InRows, IsOwned, Owned, HasBody, Bodied, IsInOwner, InOwner, IsLiteral, Literals, IsListed, AllListed, IsListable, ListsRight, HoldsFixed, FixedStatics, plain, IsNumber, IsFixed, MayStand, Standing, FitsFunctions, FitsFunction, InFunctions, CaseDiffers, DistinctCases, IsUsed, UsesRight, Measured, EntitySized, ResultSized, ValueSized, named_by, listed_by, IsUseOf}
use Rattle.sense_cases.specs.right_cases.Units.{node}
use Rattle.sense_cases.specs.right_cases.Lengths.{types, nodes, entities}
use Rattle.sense_cases.proofs.right_cases.Lists.{Each, each_of, all_of, at_each}
use Rattle.sense_cases.proofs.right_cases.Standing.{once, HavePlaces}

abbrev pub trees : CoreTrees
trees = record { types = types; nodes = nodes; entities = entities }

each_node : (P : ℕ → Node → Type 0) → Each P nodes → (i : ℕ) (x : Node) → slice_get nodes i ≡ Some x → P i x
each_node P all = each_of P nodes all

each_entity : (P : ℕ → Entity → Type 0) → Each P entities → (i : ℕ) (x : Entity) → slice_get entities i ≡ Some x → P i x
each_entity P all = each_of P entities all

in_range : InRange trees
in_range = record {
  types = each_node (λ i x. x.ty.0 < 3) (omega arith, (omega arith, (omega arith, tt)));
  children = each_node (λ i x. All (λ c. c < i) x.children) (all_of (λ c. c < 0) [] tt, (all_of (λ c. c < 1) [] tt, (all_of (λ c. c < 2) (0 ∷ 1 ∷ []) (omega arith, (omega arith, tt)), tt)));
  entities = each_node (λ i x. IfSome (named_by x.kind) (λ e. e < 2)) (tt, (tt, (omega arith, tt)));
  lists = each_node (λ i x. All (λ e. e < 2) (listed_by x.kind)) (let none : All (λ e. e < 2) [] = all_of (λ e. e < 2) [] tt in (none, (none, (none, tt))));
  entity_types = each_entity (λ i e. e.ty.0 < 3) (omega arith, (omega arith, tt));
  owners = each_entity (λ i e. IfSome e.owner (λ o. o < 2)) (tt, (tt, tt));
  bodies = each_entity (λ i e. IfSome e.body (λ b. b < 3)) (tt, (omega arith, tt));
}

rows : InRows trees
rows = each_node (λ i x. InRow trees x) ((omega arith, omega arith), ((omega arith, omega arith), ((refl, refl, (refl, refl, tt)), tt)))

owned : Owned trees
owned = each_entity (λ i e. IsOwned trees e.storage e.owner) (λ h. h, (λ h. h, tt))

bodied : Bodied trees
bodied = each_entity (λ i e. HasBody trees i e e.body) (
  λ h. cc,
  ((inr (record { object = λ h. h; storage = λ h. cc; initialises = refl }), each_entity (λ d e. e.body ≡ Some 2 → d ≡ 1) (λ h. cc, (λ h. refl, tt))), tt),
)

in_owner : InOwner trees
in_owner = each_node (λ i x. IsInOwner trees i x.kind) (tt, (tt, (tt, tt)))

literals : Literals trees
literals = each_node (λ i x. IsLiteral trees i x.kind) (tt, (tt, (tt, tt)))

listed : AllListed trees
listed = each_entity (λ i e. IsListed trees i e) (λ h g. tt, (λ h g. tt, tt))

lists : ListsRight trees
lists = each_node (λ i x. All (λ e. IsListable trees i e) (listed_by x.kind)) (
    let none : (i : ℕ) → All (λ e. IsListable trees i e) [] = λ i. all_of (λ e. IsListable trees i e) [] tt in (none 0, (none 1, (none 2, tt))))

-- both values are numbers
fixed_number : (i : ℕ) (x : Node) → slice_get nodes i ≡ Some x → IsNumber x.kind → IsFixed trees i
fixed_number i x at number = inl (plain at number)

fixed_values : All (λ c. IsFixed trees c) (0 ∷ 1 ∷ [])
fixed_values = all_of (λ c. IsFixed trees c) (0 ∷ 1 ∷ []) (fixed_number 0 (node (Number (pos 1)) 14 0 []) refl tt, (fixed_number 1 (node (Number (pos 2)) 16 0 []) refl tt, tt))

fixed : FixedStatics trees
fixed = each_node (λ i x. HoldsFixed trees x.kind x.children) (tt, (tt, (λ h. fixed_values, tt)))

standing : Standing trees
standing = each_node (λ i x. MayStand trees i x.kind) (tt, (tt, (tt, tt)))

functions : InFunctions trees
functions = each_node (λ i x. FitsFunctions trees i x) (any 0 _, (any 1 _, (any 2 _, tt)))
  where
    any : (i : ℕ) (x : Node) → FitsFunctions trees i x
    any i x = record { each = each_entity (λ e entity. FitsFunction trees i x entity) (record { fits = λ h. cc }, (record { fits = λ h. cc }, tt)) }

cases : DistinctCases trees
cases = each_node (λ i x. CaseDiffers trees i x.kind) (tt, (tt, (tt, tt)))

uses : UsesRight trees
uses = each_entity (λ i e. IsUsed trees i e.used) (
  each_node (λ i x. IsUseOf x.kind 0 → ⊥) (λ h. h, (λ h. h, (λ h. h, tt))),
  (each_node (λ i x. IsUseOf x.kind 1 → ⊥) (λ h. h, (λ h. h, (λ h. h, tt))), tt),
)

measured : Measured trees
measured = record {
  objects = each_entity (λ i e. EntitySized trees e) (
    inr (record { measured = inl (refl, refl); length = λ h. absurd h }),
    (inr (record { measured = inl (refl, refl); length = λ h. absurd h }), tt),
  );
  tags = λ id lt aggregate. absurd (at_each (λ t. IsAggregate t → ⊥) VoidType (types_of types) (λ h. h, (λ h. h, (λ h. h, tt))) (λ h. h) id aggregate);
  values = each_node (λ i x. ValueSized trees x) (λ h a. absurd a, (λ h a. absurd a, (λ h a. absurd a, tt)));
  results = each_entity (λ i e. ResultSized trees e) (λ h. cc, (λ h. cc, tt));
}

places : Each (HavePlaces (2 ∷ 2 ∷ []) (0 ∷ 1 ∷ [])) nodes
places = (tt, (tt, (((refl, refl), ((refl, refl), tt)), tt)))

pub valid : Valid trees
valid = record {
  in_range = in_range;
  child_once = once trees (2 ∷ 2 ∷ []) (0 ∷ 1 ∷ []) places;
  rows = rows;
  owned = owned;
  bodied = bodied;
  in_owner = in_owner;
  literals = literals;
  listed = listed;
  lists = lists;
  fixed = fixed;
  standing = standing;
  functions = functions;
  cases = cases;
  uses = uses;
  measured = measured;
}
