-- The unit with a pointer is valid.
use Rattle.std.proofs.Common.{◌≡◌, ℕ, ◌<◌, [], ◌∷◌, Some, slice_get, inl, inr, refl, arith, All}
use Rattle.std.specs.Prelude.{IfSome}
use Rattle.c_types.specs.Trees.{VoidType}
use Rattle.c_types.specs.Table.{types_of}
use Rattle.core_tree.specs.declared.node.Node.{Node}
use Rattle.core_tree.specs.declared.node.Entity.{Entity}
use Rattle.core_tree.specs.Typed.{CoreTrees, IsAggregate, IsStatement}
use Rattle.core_tree.specs.Valid.{Valid, InRange, InRow, InRows, IsOwned, Owned, HasBody, Bodied, IsInOwner, InOwner, IsLiteral, Literals, IsListed, AllListed, IsListable, ListsRight, HoldsFixed, FixedStatics, MayStand, Standing, FitsFunctions, FitsFunction, FitsBody, InFunctions, CaseDiffers, DistinctCases, IsUsed, UsesRight, Measured, EntitySized, ResultSized, ValueSized, OnlyBody, Under, here, below, named_by, listed_by, Has, IsUseOf, PlaceAtMost}
use Rattle.sense_cases.specs.right_cases.Pointed.{types, nodes, entities, main}
use Rattle.sense_cases.proofs.right_cases.Lists.{Each, each_of, all_of, at_each}
use Rattle.sense_cases.proofs.right_cases.Standing.{once, has_none, HavePlaces}
use Rattle.sense_cases.specs.Columns.{at}

abbrev pub trees : CoreTrees
trees = record { types = types; nodes = nodes; entities = entities }

each_node : (P : ℕ → Node → Type 0) → Each P nodes → (n : ℕ) (x : Node) → slice_get nodes n ≡ Some x → P n x
each_node P all = each_of P nodes all

each_entity : (P : ℕ → Entity → Type 0) → Each P entities → (n : ℕ) (x : Entity) → slice_get entities n ≡ Some x → P n x
each_entity P all = each_of P entities all

in_range : InRange trees
in_range = record {
  types = each_node (λ n x. x.ty.0 < 4) (omega arith, (omega arith, (omega arith, (omega arith, (omega arith, (omega arith, (omega arith, (omega arith, tt))))))));
  children = each_node (λ n x. All (λ c. c < n) x.children) (
    all_of (λ c. c < 0) [] tt,
    (
      all_of (λ c. c < 1) [] tt,
      (
        all_of (λ c. c < 2) (1 ∷ []) (omega arith, tt),
        (
          all_of (λ c. c < 3) (0 ∷ 2 ∷ []) (omega arith, (omega arith, tt)),
          (
            all_of (λ c. c < 4) (3 ∷ []) (omega arith, tt),
            (
              all_of (λ c. c < 5) [] tt,
              (
                all_of (λ c. c < 6) (5 ∷ []) (omega arith, tt),
                (all_of (λ c. c < 7) (4 ∷ 6 ∷ []) (omega arith, (omega arith, tt)), tt),
              ),
            ),
          ),
        ),
      ),
    ),
  );
  entities = each_node (λ n x. IfSome (named_by x.kind) (λ e. e < 3)) (omega arith, (omega arith, (tt, (tt, (tt, (tt, (tt, (tt, tt))))))));
  lists = each_node (λ n x. All (λ e. e < 3) (listed_by x.kind)) (
      let none : All (λ e. e < 3) [] = all_of (λ e. e < 3) [] tt in (none, (none, (none, (none, (none, (none, (none, (none, tt)))))))));
  entity_types = each_entity (λ n e. e.ty.0 < 4) (omega arith, (omega arith, (omega arith, tt)));
  owners = each_entity (λ n e. IfSome e.owner (λ f. f < 3)) (tt, (tt, (tt, tt)));
  bodies = each_entity (λ n e. IfSome e.body (λ b. b < 8)) (tt, (tt, (omega arith, tt)));
}

rows : InRows trees
rows = each_node (λ n x. InRow trees x) (
  (refl, λ h. h),
  (
    (refl, λ h. h),
    (
      (refl, refl, refl),
      (
        ((refl, refl), (refl, refl), inl (inr tt)),
        (
          refl,
          (
            (omega arith, omega arith),
            (
              refl,
              (all_of (λ s. IsStatement trees s) (4 ∷ 6 ∷ []) (refl, (refl, tt)), tt),
            ),
          ),
        ),
      ),
    ),
  ),
)

owned : Owned trees
owned = each_entity (λ n e. IsOwned trees e.storage e.owner) (λ h. h, (λ h. h, (λ h. h, tt)))

-- the body of main is its block, and no other entity has it
nowhere : (n : ℕ) (x : Node) → slice_get nodes n ≡ Some x → Has x.children 7 → ⊥
nowhere = each_node (λ n x. Has x.children 7 → ⊥) (
  has_none [] 7 tt,
  (
    has_none [] 7 tt,
    (
      has_none (1 ∷ []) 7 (λ h. cc, tt),
      (
        has_none (0 ∷ 2 ∷ []) 7 (λ h. cc, (λ h. cc, tt)),
        (
          has_none (3 ∷ []) 7 (λ h. cc, tt),
          (
            has_none [] 7 tt,
            (
              has_none (5 ∷ []) 7 (λ h. cc, tt),
              (has_none (4 ∷ 6 ∷ []) 7 (λ h. cc, (λ h. cc, tt)), tt),
            ),
          ),
        ),
      ),
    ),
  ),
)

only_body : OnlyBody trees 2 7
only_body = each_entity (λ d e. e.body ≡ Some 7 → d ≡ 2) (λ h. cc, (λ h. cc, (λ h. refl, tt)))

bodied : Bodied trees
bodied = each_entity (λ n e. HasBody trees n e e.body) (
  λ h. cc,
  (
    λ h. cc,
    ((inl (record { function = tt; storage = refl; block = tt; top = nowhere }), only_body), tt),
  ),
)

in_owner : InOwner trees
in_owner = each_node (λ n x. IsInOwner trees n x.kind) (λ h. absurd h, (λ h. absurd h, (tt, (tt, (tt, (tt, (tt, (tt, tt))))))))

literals : Literals trees
literals = each_node (λ n x. IsLiteral trees n x.kind) (tt, (tt, (tt, (tt, (tt, (tt, (tt, (tt, tt))))))))

listed : AllListed trees
listed = each_entity (λ n e. IsListed trees n e) (λ h g. tt, (λ h g. tt, (λ h g. tt, tt)))

lists : ListsRight trees
lists = each_node (λ n x. All (λ e. IsListable trees n e) (listed_by x.kind)) (
    let none : (n : ℕ) → All (λ e. IsListable trees n e) [] = λ n. all_of (λ e. IsListable trees n e) [] tt in
    (none 0, (none 1, (none 2, (none 3, (none 4, (none 5, (none 6, (none 7, tt)))))))))

fixed : FixedStatics trees
fixed = each_node (λ n x. HoldsFixed trees x.kind x.children) (tt, (tt, (tt, (tt, (tt, (tt, (tt, (tt, tt))))))))

return_below : Under trees 7 6
return_below = below here (1, refl)

standing : Standing trees
standing = each_node (λ n x. MayStand trees n x.kind) (
  tt,
  (tt, (tt, (tt, (tt, (tt, (record { some = (2, main, refl, (refl, return_below)) }, (tt, tt))))))),
)

functions : InFunctions trees
functions = each_node (λ n x. FitsFunctions trees n x) (
  any 0 _ tt,
  (any 1 _ tt, (any 2 _ tt, (any 3 _ tt, (any 4 _ tt, (any 5 _ tt, (any 6 _ refl, (any 7 _ tt, tt))))))),
)
  where
    any : (n : ℕ) (x : Node) → FitsBody trees main 7 x.kind x.children → FitsFunctions trees n x
    any n x fits = record {
      each = each_entity (λ e entity. FitsFunction trees n x entity) (
        record { fits = λ h. cc },
        (
          record { fits = λ h. cc },
          (record { fits = λ h under. fits }, tt),
        ),
      );
    }

cases : DistinctCases trees
cases = each_node (λ n x. CaseDiffers trees n x.kind) (tt, (tt, (tt, (tt, (tt, (tt, (tt, (tt, tt))))))))

-- a node that names no entity of that number is no use of it
uses : UsesRight trees
uses = each_entity (λ n e. IsUsed trees n e.used) (
  (
    record { some = (1, _, refl, (refl, refl)) },
    record {
      each = each_node (λ n x. IsUseOf x.kind 0 → PlaceAtMost (at 16) x.place) (
        λ h. cc,
        (λ h. inr (refl, inr (refl, omega arith)), (λ h. absurd h, (λ h. absurd h, (λ h. absurd h, (λ h. absurd h, (λ h. absurd h, (λ h. absurd h, tt))))))),
      );
    },
  ),
  (
    (
      record { some = (0, _, refl, (refl, refl)) },
      record {
        each = each_node (λ n x. IsUseOf x.kind 1 → PlaceAtMost (at 13) x.place) (
          λ h. inr (refl, inr (refl, omega arith)),
          (λ h. cc, (λ h. absurd h, (λ h. absurd h, (λ h. absurd h, (λ h. absurd h, (λ h. absurd h, (λ h. absurd h, tt))))))),
        );
      },
    ),
    (
      each_node (λ n x. IsUseOf x.kind 2 → ⊥) (
        λ h. cc,
        (λ h. cc, (λ h. h, (λ h. h, (λ h. h, (λ h. h, (λ h. h, (λ h. h, tt))))))),
      ),
      tt,
    ),
  ),
)

measured : Measured trees
measured = record {
  objects = each_entity (λ n e. EntitySized trees e) (
    inr (record { measured = inl (refl, refl); length = λ h. absurd h }),
    (
      inr (record { measured = inl (refl, refl); length = λ h. absurd h }),
      (inl tt, tt),
    ),
  );
  tags = λ id lt aggregate. absurd (at_each (λ t. IsAggregate t → ⊥) VoidType (types_of types) (λ h. h, (λ h. h, (λ h. h, (λ h. h, tt)))) (λ h. h) id aggregate);
  values = each_node (λ n x. ValueSized trees x) (
    λ h a. absurd a,
    (λ h a. absurd a, (λ h a. absurd a, (λ h a. absurd a, (λ h a. absurd a, (λ h a. absurd a, (λ h a. absurd a, (λ h a. absurd a, tt))))))),
  );
  results = each_entity (λ n e. ResultSized trees e) (λ h. cc, (λ h. cc, (λ h. inr (refl, refl), tt)));
}

places : Each (HavePlaces (3 ∷ 2 ∷ 3 ∷ 4 ∷ 7 ∷ 6 ∷ 7 ∷ []) (0 ∷ 0 ∷ 1 ∷ 0 ∷ 0 ∷ 0 ∷ 1 ∷ [])) nodes
places = (tt, (tt, (((refl, refl), tt), (((refl, refl), ((refl, refl), tt)), (((refl, refl), tt), (tt, (((refl, refl), tt), (((refl, refl), ((refl, refl), tt)), tt))))))))

pub valid : Valid trees
valid = record {
  in_range = in_range;
  child_once = once trees (3 ∷ 2 ∷ 3 ∷ 4 ∷ 7 ∷ 6 ∷ 7 ∷ []) (0 ∷ 0 ∷ 1 ∷ 0 ∷ 0 ∷ 0 ∷ 1 ∷ []) places;
  rows = rows;
  owned = owned;
  bodied = bodied;
  in_owner = in_owner;
  literals = literals;
  listed = listed;
  lists = lists;
  fixed = fixed;
  standing = standing;
  functions = functions;
  cases = cases;
  uses = uses;
  measured = measured;
}
