-- The unit with local objects is valid.
use Rattle.std.proofs.Common.{◌≡◌, ℕ, ◌<◌, [], ◌∷◌, Some, slice_get, inl, inr, refl, arith, All}
use Rattle.std.specs.Prelude.{IfSome}
use Rattle.c_types.specs.Trees.{VoidType}
use Rattle.c_types.specs.Table.{types_of}
use Rattle.core_tree.specs.declared.node.Node.{Node}
use Rattle.core_tree.specs.declared.node.Entity.{Entity}
use Rattle.core_tree.specs.Typed.{CoreTrees, IsAggregate, IsStatement}
use Rattle.core_tree.specs.Valid.{Valid, InRange, InRow, InRows, IsOwned, Owned, HasBody, Bodied, IsInOwner, InOwner, IsLiteral, Literals, IsListed, AllListed, IsListable, ListsRight, HoldsFixed, FixedStatics, MayStand, Standing, FitsFunctions, FitsFunction, FitsBody, InFunctions, CaseDiffers, DistinctCases, IsUsed, UsesRight, Measured, OnceHeld, HoldsOnce, OnlyHolder, OncePlaced, IsLister, NamesUnder, IsNamedOrMade, NoLiteral, IsLiteralOf, listed_in, EntitySized, ResultSized, ValueSized, Under, here, below, named_by, listed_by, Has, IsUseOf, PlaceAtMost}
use Rattle.sense_cases.specs.right_cases.Locals.{types, nodes, entities, f}
use Rattle.sense_cases.proofs.right_cases.Lists.{Each, each_of, all_of, at_each}
use Rattle.sense_cases.proofs.right_cases.Standing.{once, has_none, HavePlaces}
use Rattle.sense_cases.specs.Columns.{at}
use Rattle.core_tree.specs.declared.node.NodeKind.TheVariants.{Block}
use Rattle.type_rules.specs.Sizes.{IsObject, HasSize}
use Rattle.sense_cases.specs.right_cases.Units.{node}

abbrev pub trees : CoreTrees
trees = record { types = types; nodes = nodes; entities = entities }

each_node : (P : ℕ → Node → Type 0) → Each P nodes → (i : ℕ) (x : Node) → slice_get nodes i ≡ Some x → P i x
each_node P all = each_of P nodes all

each_entity : (P : ℕ → Entity → Type 0) → Each P entities → (i : ℕ) (x : Entity) → slice_get entities i ≡ Some x → P i x
each_entity P all = each_of P entities all

in_range : InRange trees
in_range = record {
  types = each_node (λ i x. x.ty.0 < 5) (omega arith, (omega arith, (omega arith, (omega arith, (omega arith, (omega arith, tt))))));
  children = each_node (λ i x. All (λ c. c < i) x.children) (all_of (λ c. c < 0) [] tt, (all_of (λ c. c < 1) (0 ∷ []) (omega arith, tt), (all_of (λ c. c < 2) (1 ∷ []) (omega arith, tt), (all_of (λ c. c < 3) [] tt, (all_of (λ c. c < 4) (3 ∷ []) (omega arith, tt), (all_of (λ c. c < 5) (2 ∷ 4 ∷ []) (omega arith, (omega arith, tt)), tt))))));
  entities = each_node (λ i x. IfSome (named_by x.kind) (λ e. e < 3)) (omega arith, (tt, (omega arith, (tt, (tt, (tt, tt))))));
  lists = each_node (λ i x. All (λ e. e < 3) (listed_by x.kind)) (
      let none : All (λ e. e < 3) [] = all_of (λ e. e < 3) [] tt in (none, (none, (none, (none, (none, (all_of (λ e. e < 3) (2 ∷ []) (omega arith, tt), tt)))))));
  entity_types = each_entity (λ i e. e.ty.0 < 5) (omega arith, (omega arith, (omega arith, tt)));
  owners = each_entity (λ i e. IfSome e.owner (λ o. o < 3)) (tt, (omega arith, (omega arith, tt)));
  bodies = each_entity (λ i e. IfSome e.body (λ b. b < 6)) (omega arith, (tt, (omega arith, tt)));
}

rows : InRows trees
rows = each_node (λ i x. InRow trees x) ((refl, λ h. h), ((refl, refl, refl), ((refl, refl, tt), ((omega arith, omega arith), (refl, (all_of (λ s. IsStatement trees s) (2 ∷ 4 ∷ []) (refl, (refl, tt)), tt))))))

owned : Owned trees
owned = each_entity (λ i e. IsOwned trees e.storage e.owner) (λ h. h, (tt, (tt, tt)))

-- the body of f is its block, and no other entity has it
nowhere : (i : ℕ) (x : Node) → slice_get nodes i ≡ Some x → Has x.children 5 → ⊥
nowhere = each_node (λ i x. Has x.children 5 → ⊥) (has_none [] 5 tt, (has_none (0 ∷ []) 5 (λ h. cc, tt), (has_none (1 ∷ []) 5 (λ h. cc, tt), (has_none [] 5 tt, (has_none (3 ∷ []) 5 (λ h. cc, tt), (has_none (2 ∷ 4 ∷ []) 5 (λ h. cc, (λ h. cc, tt)), tt))))))

bodied : Bodied trees
bodied = each_entity (λ i e. HasBody trees i e e.body) (
  (inl (record { function = tt; storage = refl; block = tt; top = nowhere }), each_entity (λ d e. e.body ≡ Some 5 → d ≡ 0) (λ h. refl, (λ h. cc, (λ h. cc, tt)))),
  (
    λ h. cc,
    ((inr (record { object = λ h. h; storage = λ h. cc; initialises = refl }), each_entity (λ d e. e.body ≡ Some 2 → d ≡ 2) (λ h. cc, (λ h. cc, (λ h. refl, tt)))), tt),
  ),
)

in_owner : InOwner trees
in_owner = each_node (λ i x. IsInOwner trees i x.kind) (λ h. absurd h, (tt, (tt, (tt, (tt, (tt, tt))))))

literals : Literals trees
literals = each_node (λ i x. IsLiteral trees i x.kind) (tt, (tt, (tt, (tt, (tt, (tt, tt))))))

-- v is listed by the block alone, under which its initialiser stands
initialiser_below : Under trees 5 2
initialiser_below = below here (0, refl)

no_literal : NoLiteral trees 2
no_literal = record { each = each_node (λ i x. IsLiteralOf x.kind 2 → ⊥) (λ h. h, (λ h. h, (λ h. h, (λ h. h, (λ h. h, (λ h. h, tt)))))) }

names_under : NamesUnder trees 2 5
names_under = record {
  each = each_node (λ i x. IsNamedOrMade x.kind 2 → Under trees 5 i) (
    λ h. cc,
    (λ h. absurd h, (λ h. initialiser_below, (λ h. absurd h, (λ h. absurd h, (λ h. absurd h, tt))))),
  );
}

is_lister : IsLister trees 2 0 5 (node (Block (2 ∷ [])) 15 4 (2 ∷ 4 ∷ []))
unfolding IsLister
is_lister = ((0, refl), (tt, here), names_under)

only_one : OncePlaced (2 ∷ []) 2
only_one i j g h =
    let a : i ≡ 0 = each_of (λ k x. k ≡ 0) (2 ∷ []) (refl, tt) i 2 g in
    let b : j ≡ 0 = each_of (λ k x. k ≡ 0) (2 ∷ []) (refl, tt) j 2 h in
    omega (arith, a, b)

without : (i : ℕ) (x : Node) → (Has (listed_in x) 2 → ⊥) → HoldsOnce trees listed_in 2 i x
without i x none = record { places = λ h. absurd (none h); others = λ h. absurd (none h) }

only_block : OnlyHolder trees listed_in 2 5
only_block = each_node (λ b other. Has (listed_in other) 2 → 5 ≡ b) (
    let none : (i : ℕ) → Has [] 2 → 5 ≡ i = λ i h. absurd (has_none [] 2 tt h) in (none 0, (none 1, (none 2, (none 3, (none 4, (λ h. refl, tt)))))))

once_listed : OnceHeld trees listed_in 2
once_listed = record {
  each = each_node (λ i x. HoldsOnce trees listed_in 2 i x) (
      let none : Has [] 2 → ⊥ = has_none [] 2 tt in
      (without 0 _ none, (without 1 _ none, (without 2 _ none, (without 3 _ none, (without 4 _ none, (record { places = λ h. only_one; others = λ h. only_block }, tt)))))));
}

listed : AllListed trees
listed = each_entity (λ i e. IsListed trees i e) (
  λ h g. tt,
  (
    λ h. cc,
    (λ h g. record { lister = record { some = (5, _, refl, is_lister) }; once = once_listed }, tt),
  ),
)

lists : ListsRight trees
lists = each_node (λ i x. All (λ e. IsListable trees i e) (listed_by x.kind)) (
    let none : (i : ℕ) → All (λ e. IsListable trees i e) [] = λ i. all_of (λ e. IsListable trees i e) [] tt in
    (none 0, (none 1, (none 2, (none 3, (none 4, (all_of (λ e. IsListable trees 5 e) (2 ∷ []) ((refl, no_literal, (tt, here)), tt), tt)))))))

fixed : FixedStatics trees
fixed = each_node (λ i x. HoldsFixed trees x.kind x.children) (tt, (tt, (λ h. cc, (tt, (tt, (tt, tt))))))

standing : Standing trees
standing = each_node (λ i x. MayStand trees i x.kind) (tt, (tt, (tt, (tt, (record { some = (0, f, refl, (refl, below here (1, refl))) }, (tt, tt))))))

functions : InFunctions trees
functions = each_node (λ i x. FitsFunctions trees i x) (any 0 _ tt, (any 1 _ tt, (any 2 _ tt, (any 3 _ tt, (any 4 _ refl, (any 5 _ tt, tt))))))
  where
    any : (i : ℕ) (x : Node) → FitsBody trees f 5 x.kind x.children → FitsFunctions trees i x
    any i x fits = record {
      each = each_entity (λ e entity. FitsFunction trees i x entity) (
        record { fits = λ h under. fits },
        (
          record { fits = λ h. cc },
          (record { fits = λ h. cc }, tt),
        ),
      );
    }

cases : DistinctCases trees
cases = each_node (λ i x. CaseDiffers trees i x.kind) (tt, (tt, (tt, (tt, (tt, (tt, tt))))))

uses : UsesRight trees
uses = each_entity (λ i e. IsUsed trees i e.used) (
  each_node (λ i x. IsUseOf x.kind 0 → ⊥) (λ h. cc, (λ h. h, (λ h. h, (λ h. h, (λ h. h, (λ h. h, tt)))))),
  (
    (
      record { some = (0, _, refl, (refl, refl)) },
      record {
        each = each_node (λ i x. IsUseOf x.kind 1 → PlaceAtMost (at 30) x.place) (
          λ h. inr (refl, inr (refl, omega arith)),
          (λ h. absurd h, (λ h. absurd h, (λ h. absurd h, (λ h. absurd h, (λ h. absurd h, tt))))),
        );
      },
    ),
    (each_node (λ i x. IsUseOf x.kind 2 → ⊥) (λ h. cc, (λ h. h, (λ h. h, (λ h. h, (λ h. h, (λ h. h, tt)))))), tt),
  ),
)

measured : Measured trees
measured = record {
  objects = each_entity (λ i e. EntitySized trees e) (
    inl tt,
    (
      inr (record { measured = inl (refl, refl); length = λ h. absurd h }),
      (inr (record { measured = inl (refl, refl); length = λ h. absurd h }), tt),
    ),
  );
  tags = λ id lt. at_each (λ t. IsAggregate t → IsObject types t → HasSize types t) VoidType (types_of types) (
    λ a. absurd a,
    (λ a. absurd a, (λ a h. (refl, refl), (λ a. absurd a, (λ a. absurd a, tt)))),
  ) (λ a. absurd a) id;
  values = each_node (λ i x. ValueSized trees x) (λ h a. absurd a, (λ h a. absurd a, (λ h a. absurd a, (λ h a. absurd a, (λ h a. absurd a, (λ h a. absurd a, tt))))));
  results = each_entity (λ i e. ResultSized trees e) (λ h. inr (refl, refl), (λ h. cc, (λ h. cc, tt)));
}

places : Each (HavePlaces (1 ∷ 2 ∷ 5 ∷ 4 ∷ 5 ∷ []) (0 ∷ 0 ∷ 0 ∷ 0 ∷ 1 ∷ [])) nodes
places = (tt, (((refl, refl), tt), (((refl, refl), tt), (tt, (((refl, refl), tt), (((refl, refl), ((refl, refl), tt)), tt))))))

pub valid : Valid trees
valid = record {
  in_range = in_range;
  child_once = once trees (1 ∷ 2 ∷ 5 ∷ 4 ∷ 5 ∷ []) (0 ∷ 0 ∷ 0 ∷ 0 ∷ 1 ∷ []) places;
  rows = rows;
  owned = owned;
  bodied = bodied;
  in_owner = in_owner;
  literals = literals;
  listed = listed;
  lists = lists;
  fixed = fixed;
  standing = standing;
  functions = functions;
  cases = cases;
  uses = uses;
  measured = measured;
}
