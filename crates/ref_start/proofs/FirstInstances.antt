-- Instances of objects of the whole run, looked at from the last one to the first.
use Rattle.std.proofs.Common.{arith, ◌≡◌, ℕ, zero, suc, ◌+◌, ◌<◌, Bool, true, false, nat_eq, cond, List, [], ◌∷◌, length, get_or, set, drop, Option, Some, None, IfSome, Err, slice_get, refl, ap, sym, ◌∙◌}
use Rattle.std.specs.BTreeMap.{BTreeMap, IsEmpty, is_at}
use Rattle.std.specs.Map.{lookup}
use Rattle.std.specs.Option.{option_and_then}
use Rattle.std.specs.Ordering.{nat_cmp, ordering_then}
use Rattle.std.proofs.Math.Bool.{and-false}
use Rattle.std.proofs.lemmas.Bool.{eqb-true}
use Rattle.std.proofs.lemmas.List.{drop_more, drop_all}
use Rattle.c_types.specs.declared.key.ObjectKey.{ObjectKey}
use Rattle.c_types.specs.declared.term.Term.{Term}
use Rattle.c_types.specs.Table.{type_of}
use Rattle.core_tree.specs.declared.node.Node.{Node}
use Rattle.core_tree.specs.declared.node.NodeKind.{NodeKind}
use Rattle.core_tree.specs.declared.node.NodeKind.TheVariants.{Named, Text}
use Rattle.core_tree.specs.Range.{InRange}
use Rattle.core_tree.specs.Typed.{CoreTrees}
use Rattle.obj_space.specs.Found.{kind_of, number_of, same_object, kept_for}
use Rattle.ref_cells.specs.declared.cells.Reason.TheVariants.{Unset}
use Rattle.ref_cells.specs.declared.cells.Cell.TheVariants.{Pointer}
use Rattle.ref_cells.specs.declared.cells.Value.{Value}
use Rattle.ref_cells.specs.declared.instance.Instance.{Instance}
use Rattle.ref_mem.specs.Reads.{one_cell}
use Rattle.ref_mem.specs.Writes.{changed}
use Rattle.ref_elements.specs.Outcomes.{Effect, gives}
use Rattle.ref_places.specs.Places.{own_instance, first_instance, either_instance, whole_place, named_row}
use Rattle.ref_values.specs.Values.{uses_all, cell_given, computed_by, computed}
use Rattle.ref_start.specs.declared.fixed.Way.TheVariants.{Computed}
use Rattle.ref_start.specs.Fixed.{way_of, all_fixed, value_of, value_over, fixed, value_at, PartsGiven}
use Rattle.ref_start.specs.Standing.{AreFirst, Names, entity, text, IsFirstNamed}
use Rattle.ref_start.proofs.FixedSteps.{is_by}

pub none_yet : (key : ObjectKey) (memory : List Instance) → None ≡ first_instance key (length memory) (drop (length memory) memory)
none_yet key memory = sym (ap (first_instance key (length memory)) (drop_all (length memory) memory (omega arith)))

pub one_before : (key : ObjectKey) (memory : List Instance) (i : ℕ) (d : Instance) (before : Option ℕ) → i < length memory
    → before ≡ first_instance key (i + 1) (drop (i + 1) memory)
    → cond (same_object (get_or memory i d).key key) (Some i) before ≡ first_instance key i (drop i memory)
one_before key memory i d before less h =
    ap (λ (o : Option ℕ). cond (same_object (get_or memory i d).key key) (Some i) o) h
    ∙ sym (ap (first_instance key i) (drop_more memory i d less))

-- a node that names an object
pub no_operands : (xs : List ℕ) (b : Bool) → b ≡ nat_eq (length xs) 0 → b ≡ true → xs ≡ []
no_operands [] b e h = refl
no_operands (x ∷ xs) b e h = let none : length (x ∷ xs) ≡ 0 = eqb-true (length (x ∷ xs)) 0 (sym e ∙ h) in absurd (omega arith)

-- it is computed as its object's place
module _ (u : CoreTrees) (memory : List Instance) (own : List ℕ) (n word : ℕ) (node : Node) where
  over : NodeKind → List ℕ → Effect
  over kind children = computed u memory own n (record node { kind = kind; children = children }) [] word

  all_there : (kind : NodeKind) → over kind [] ≡ computed_by u memory own n node.ty kind [] [] word
  unfolding over computed
  all_there kind =
      ap (λ (b : Bool). cond b (Err Unset) (computed_by u memory own n node.ty kind [] [] word))
      (and-false (uses_all (type_of u.types node.ty.0) kind))

  as_kind : (kind : NodeKind) → node.kind ≡ kind → node.children ≡ [] → computed u memory own n node [] word ≡ computed_by u memory own n node.ty kind [] [] word
  unfolding over
  as_kind kind is none = ap (λ (k : NodeKind). over k node.children) is ∙ (ap (over kind) none ∙ all_there kind)

  pub named_computed : (key : ObjectKey) → Names u n node key → computed u memory own n node [] word ≡ cell_given memory (named_row memory own key)
  named_computed key (entity e is none made) =
      as_kind (Named e) is none ∙ ap (λ (k : ObjectKey). cell_given memory (named_row memory own k)) (sym made)
  named_computed key (text bytes is none made) =
      as_kind (Text bytes) is none ∙ ap (λ (k : ObjectKey). cell_given memory (named_row memory own k)) (sym made)

-- the first instance of an object, where a frame has none of its own
pub place_named : (memory : List Instance) (own : List ℕ) (key : ObjectKey) (i : ℕ) → own_instance memory key own ≡ None → first_instance key 0 memory ≡ Some i
    → cell_given memory (named_row memory own key) ≡ gives memory (one_cell (Pointer i [] false))
unfolding named_row
place_named memory own key i none first =
    ap (λ (o : Option ℕ). cell_given memory (whole_place (either_instance o (first_instance key 0 memory)))) none
    ∙ ap (λ (o : Option ℕ). cell_given memory (whole_place o)) first

pub first_is : (u : CoreTrees) (standing : BTreeMap (ℕ × ℕ) ℕ) (n : ℕ) (node : Node) (key : ObjectKey) → slice_get u.nodes n ≡ Some node → Names u n node key
    → (o : Option ℕ) → o ≡ kept_for standing key → IfSome o (IsFirstNamed u standing n)
first_is u standing n node key there names None e = tt
first_is u standing n node key there names (Some i) e = record { node = node; there = there; key = key; names = names; kept = sym e }

-- what a name has as its way, and no operands
names_way : (u : CoreTrees) (n : ℕ) (node : Node) (key : ObjectKey) (ty : Option Term) → Names u n node key → way_of node.kind ty ≡ Computed
names_way u n node key ty (entity e is none made) = ap (λ (k : NodeKind). way_of k ty) is
names_way u n node key ty (text bytes is none made) = ap (λ (k : NodeKind). way_of k ty) is

names_none : (u : CoreTrees) (n : ℕ) (node : Node) (key : ObjectKey) → Names u n node key → node.children ≡ []
names_none u n node key (entity e is none made) = none
names_none u n node key (text bytes is none made) = none

-- the fixed value of a name
pub named_fixed : (u : CoreTrees) (memory : List Instance) → InRange u → (table : List (Option Value)) (standing : BTreeMap (ℕ × ℕ) ℕ) (n i : ℕ)
    → PartsGiven u memory table n → AreFirst standing memory → IsFirstNamed u standing n i → Some (one_cell (Pointer i [] false)) ≡ fixed u memory n
named_fixed u memory range table standing n i given first h =
    is_by u memory range table n h.node Computed (Some (one_cell (Pointer i [] false))) given h.there
    (names_way u n h.node h.key (slice_get u.types.terms h.node.ty.0) h.names)
    (ap (λ (cs : List ℕ). option_and_then (value_over u memory n h.node) (all_fixed (value_at table) cs)) (names_none u n h.node h.key h.names)
    ∙ ap value_of
    (named_computed u memory [] n 0 h.node h.key h.names
    ∙ place_named memory [] h.key i refl (sym (first h.key) ∙ h.kept)))

-- an object's first instance stays where one instance changes, but for its key

set_first : (key : ObjectKey) (k : ℕ) (memory : List Instance) (i : ℕ) (a b : Instance) → slice_get memory i ≡ Some a → b.key ≡ a.key
    → first_instance key k (set memory i b) ≡ first_instance key k memory
set_first key k [] i a b at e = refl
set_first key k (x ∷ xs) zero a b at e =
    let same : x ≡ a = cc in
    ap (λ (z : ObjectKey). cond (same_object z key) (Some k) (first_instance key (k + 1) xs)) (e ∙ ap (λ (y : Instance). y.key) (sym same))
set_first key k (x ∷ xs) (suc i) a b at e = ap (λ (o : Option ℕ). cond (same_object x.key key) (Some k) o) (set_first key (k + 1) xs i a b at e)

pub changed_first : (key : ObjectKey) (memory : List Instance) (i : ℕ) (change : Instance → Instance) → ((inst : Instance) → (change inst).key ≡ inst.key)
    → (o : Option Instance) → slice_get memory i ≡ o → first_instance key 0 (changed memory i o change) ≡ first_instance key 0 memory
changed_first key memory i change same None e = refl
changed_first key memory i change same (Some inst) e = set_first key 0 memory i inst (change inst) e (same inst)

pub kept_none : (standing : BTreeMap (ℕ × ℕ) ℕ) (key : ObjectKey) → IsEmpty standing → kept_for standing key ≡ None
kept_none standing key e = ap (λ (xs : List ((ℕ × ℕ) × ℕ)). lookup (is_at (λ (k : ℕ × ℕ). ordering_then (nat_cmp (kind_of key) k.0) (nat_cmp (number_of key) k.1))) xs) e
