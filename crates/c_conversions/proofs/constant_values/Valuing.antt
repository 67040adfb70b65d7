-- What is found of a constant, and where what is wrong with it stands.
use Rattle.std.proofs.Common.{arith, ◌≡◌, ℕ, zero, suc, ◌≤◌, ◌*◌, ◌^◌, lit≤, SFits, Bool, true, false, cond, List, [], ◌∷◌, Option, Some, None, Result, Ok, Err, slice_get, refl, sym, ap, ◌∙◌, subst}
use Rattle.std.specs.Prelude.{ℤ, pos, neg_ℤ, ◌<ℤ◌, ◌≤ℤ◌, nat_eq}
use Rattle.std.proofs.lemmas.Int.{ints}
use Rattle.std.specs.Int.{w128}
use Rattle.pta_base.specs.declared.kind.Kind.TheVariants.{Operand, Constant, ConstantRange, DivideByZero}
use Rattle.pta_base.specs.declared.kind.Kind.{Kind}
use Rattle.pta_base.specs.declared.place.Place.{Place}
use Rattle.c_types.specs.Trees.{Ctype, BoolType, IntegerType}
use Rattle.c_types.specs.Table.{Table}
use Rattle.core_tree.specs.declared.node.Node.{Node}
use Rattle.core_tree.specs.declared.node.NodeKind.TheVariants.{Fetch}
use Rattle.core_tree.specs.Typed.{Sort, NoNode, PlaceNode, ValueNode, StatementNode, Holds, half_of, decayed}
use Rattle.c_consts.specs.Core.{Core, Of, NoCores, MoreCores, Stands, number_at, part_at, place_of, ctype_of, core_sort}
use Rattle.c_consts.specs.declared.fault.ConstFault.{ConstFault}
use Rattle.c_consts.specs.Operators.{Wrong, NoForm, OutOfRange, ZeroDivisor, fault_at}
use Rattle.c_consts.specs.Answer.{Found, Value, Fails, answer, located}
use Rattle.c_consts.proofs.Faults.{fault_stands}
use Rattle.core_nodes.specs.passed.c_senses.Tree.{Source}
use Rattle.core_nodes.specs.passed.c_senses.Given.{Given, Fits, Refuses, given_if, ◌>>=◌}
use Rattle.core_nodes.specs.passed.c_senses.World.{World}
use Rattle.core_nodes.specs.passed.c_senses.Conversions.{fetched_or_decayed, value_of_sort}
use Rattle.core_nodes.specs.passed.c_senses.Constants.{leaf_of_place, place_of_part, valued, constant_in}
use Rattle.core_nodes.specs.passed.c_senses.Sense.{Sense, IsCore, sense_in}
use Rattle.core_nodes.specs.declared.fault.CheckFault.{CheckFault}
use Rattle.c_results.specs.Parts.{core_in}
use Rattle.c_conversions.specs.constant_values.Constants.{ConstantMade, SenseHasRows, HasConstants, has_value_by, has_value, place_in, refused}
use Rattle.c_conversions.specs.Constants.{HasRows}
use Rattle.core_tree.specs.declared.node.Unit.{Unit}
use Rattle.c_results.specs.declared.made.Made.{Made}
use Rattle.c_results.specs.Standing.{sense_made, senses_made}
use Rattle.std.proofs.Common.{All}
use Rattle.std.proofs.lemmas.List.Elements.{All-head, All-tail}

-- what is found of a constant
pub found_value : (nodes : List Node) (i : ℕ) (found : Found) (v : ℤ) → Ok v ≡ located nodes i found → found ≡ Value v
found_value nodes i (Value x) v e = let same : v ≡ x = cc in sym (ap Value same)
found_value nodes i (Fails wrong path) v e = cc

pub found_fault : (nodes : List Node) (i : ℕ) (found : Found) (f : ConstFault) → Err f ≡ located nodes i found → (wrong : Wrong) × (path : List ℕ) × (found ≡ Fails wrong path) × (f ≡ fault_at wrong (number_at nodes i path))
found_fault nodes i (Value x) f e = cc
found_fault nodes i (Fails wrong path) f e = (wrong, path, refl, cc)

-- the place of what is wrong
part_place : (c d : Core) (path : List ℕ) → part_at c path ≡ Some d → place_of_part c path ≡ place_of d
part_place c d path e = ap (λ (o : Option Core). elim o [ None ↦ place_of c | Some x ↦ place_of x ]) e

pub wrong_place : (t : Table) (nodes : List Node) (i : ℕ) (c : Core) (wrong : Wrong) (path : List ℕ) (p : Place) (j : ℕ) → Stands t nodes i c → answer c true ≡ Fails wrong path → j ≡ number_at nodes i path → p ≡ place_in (slice_get nodes j) → p ≡ place_of_part c path
wrong_place t nodes i c wrong path p j s e ej ep =
    let (d, part, there) = fault_stands t nodes i c true wrong path s e in
    ep ∙ (ap (λ (k : ℕ). place_in (slice_get nodes k)) ej ∙ (standing_place d there ∙ sym (part_place c d path part)))
  where
    standing_place : (d : Core) → Stands t nodes (number_at nodes i path) d → place_in (slice_get nodes (number_at nodes i path)) ≡ place_of d
    standing_place (Of kind place type under) (n, at, k, q, y, u) = ap place_in at ∙ q

module _ (s : Source) (at : ℕ) (t : Table) (nodes : List Node) (i : ℕ) (c : Core) (stands : Stands t nodes i c) where
  pub value_fits : (v : ℤ) → Ok v ≡ located nodes i (answer c true) → valued s at c (answer c true) ≡ Fits v
  value_fits v e = ap (valued s at c) (found_value nodes i (answer c true) v e)

  abbrev refusal : Kind → Place → Given ℤ
  refusal kind p = Refuses kind (leaf_of_place s at p)

  refused_by : (wrong : Wrong) (path : List ℕ) → answer c true ≡ Fails wrong path → ConstantMade (Err (refused s nodes at (fault_at wrong (number_at nodes i path)))) (valued s at c (Fails wrong path))
  refused_by NoForm path e = sym (ap (λ (p : Place). refusal Constant p) (wrong_place t nodes i c NoForm path _ _ stands e refl refl))
  refused_by OutOfRange path e = sym (ap (λ (p : Place). refusal ConstantRange p) (wrong_place t nodes i c OutOfRange path _ _ stands e refl refl))
  refused_by ZeroDivisor path e = sym (ap (λ (p : Place). refusal DivideByZero p) (wrong_place t nodes i c ZeroDivisor path _ _ stands e refl refl))

  pub fault_refused : (f : ConstFault) → Err f ≡ located nodes i (answer c true) → ConstantMade (Err (refused s nodes at f)) (valued s at c (answer c true))
  fault_refused f e =
      let (wrong, path, found, same) = found_fault nodes i (answer c true) f e in
      subst (λ (g : ConstFault). ConstantMade (Err (refused s nodes at g)) (valued s at c (answer c true))) (sym same)
      (subst (λ (x : Found). ConstantMade (Err (refused s nodes at (fault_at wrong (number_at nodes i path)))) (valued s at c x)) (sym found) (refused_by wrong path found))

-- numbers of a type are from -2^63 on, and below 2^64
half_small : (size : ℕ) → 2 * half_of size ≤ 2 ^ 64
half_small size = halves (nat_eq size 1) (nat_eq size 2) (nat_eq size 4)
  where
    halves : (a b d : Bool) → 2 * cond a 128 (cond b 32768 (cond d 2147483648 9223372036854775808)) ≤ 2 ^ 64
    halves true b d = lit≤ tt
    halves false true d = lit≤ tt
    halves false false true = lit≤ tt
    halves false false false = lit≤ tt

pub holds_below : (t : Ctype) (v : ℤ) → Holds t v → v <ℤ pos (2 ^ 64)
holds_below BoolType v h = omega (arith, ints)
holds_below (IntegerType size rank false) v h = let k = half_small size in omega (arith, ints, h.1)
holds_below (IntegerType size rank true) v h = let k = half_small size in omega (arith, ints, h.1)
holds_below t v h = absurd h

pub holds_above : (t : Ctype) (v : ℤ) → Holds t v → neg_ℤ (pos (2 ^ 63)) ≤ℤ v
holds_above BoolType v h = omega (arith, ints)
holds_above (IntegerType size rank false) v h = let k = half_small size in omega (arith, ints, h.0, h.1)
holds_above (IntegerType size rank true) v h = let k = half_small size in omega (arith, ints, h.0, h.1)
holds_above t v h = absurd h

pub holds_fits : (t : Ctype) (v : ℤ) → Holds t v → SFits w128 v
holds_fits BoolType v h = omega (arith, ints)
holds_fits (IntegerType size rank false) v h = let k = half_small size in omega (arith, ints, h.0, h.1)
holds_fits (IntegerType size rank true) v h = let k = half_small size in omega (arith, ints, h.0, h.1)
holds_fits t v h = absurd h

-- by the sort of what is read
module _ (w : World) (s : Source) (at : ℕ) where
  abbrev then_valued : Given Core → Given ℤ
  then_valued g = g >>= (λ c. valued s at c (answer c true))

  pub of_value : (c : Core) (r : Result ℤ CheckFault) → core_sort c ≡ ValueNode → ConstantMade r (valued s at c (answer c true)) → ConstantMade r (constant_in w s at (IsCore c))
  of_value c r e m = subst (λ (x : Sort). ConstantMade r (then_valued (value_of_sort w at c x))) (sym e) m

  place_by : (c : Core) (o : Option Ctype) → has_value_by w (ctype_of c) o ≡ true → then_valued (fetched_or_decayed w at c o) ≡ Refuses Constant (leaf_of_place s at (place_of c))
  place_by c (Some pointer) h = refl
  place_by c None h = ap (λ (b : Bool). then_valued (given_if b Operand at (Fits (Of Fetch (place_of c) (ctype_of c) (MoreCores c NoCores))))) h

  pub of_place : (c : Core) → core_sort c ≡ PlaceNode → has_value w (ctype_of c) ≡ true → constant_in w s at (IsCore c) ≡ Refuses Constant (leaf_of_place s at (place_of c))
  of_place c e h = ap (λ (x : Sort). then_valued (value_of_sort w at c x)) e ∙ place_by c (decayed (ctype_of c)) h

  none_by : (c : Core) (o : Option Ctype) → has_value_by w (ctype_of c) o ≡ false → then_valued (fetched_or_decayed w at c o) ≡ Refuses Operand at
  none_by c (Some pointer) h = cc
  none_by c None h = ap (λ (b : Bool). then_valued (given_if b Operand at (Fits (Of Fetch (place_of c) (ctype_of c) (MoreCores c NoCores))))) h

  pub of_no_value : (c : Core) → core_sort c ≡ PlaceNode → has_value w (ctype_of c) ≡ false → constant_in w s at (IsCore c) ≡ Refuses Operand at
  of_no_value c e h = ap (λ (x : Sort). then_valued (value_of_sort w at c x)) e ∙ none_by c (decayed (ctype_of c)) h

  pub of_other : (c : Core) → (core_sort c ≡ ValueNode → ⊥) → (core_sort c ≡ PlaceNode → ⊥) → constant_in w s at (IsCore c) ≡ Refuses Operand at
  of_other c v p = by_sort (core_sort c) v p
    where
      by_sort : (x : Sort) → (x ≡ ValueNode → ⊥) → (x ≡ PlaceNode → ⊥) → then_valued (value_of_sort w at c x) ≡ Refuses Operand at
      by_sort NoNode v p = refl
      by_sort PlaceNode v p = absurd (p refl)
      by_sort ValueNode v p = absurd (v refl)
      by_sort StatementNode v p = refl

  -- by what is read of a result
  pub in_sense : (x : Sense) (c : Core) (r : Result ℤ CheckFault) → core_in x ≡ Some c → ConstantMade r (constant_in w s at (IsCore c)) → ConstantMade r (constant_in w s at x)
  in_sense (IsCore d) c r e m = let same : d ≡ c = cc in subst (λ (k : Core). ConstantMade r (constant_in w s at (IsCore k))) (sym same) m
  in_sense x c r e m = cc

  pub in_nothing : (x : Sense) → core_in x ≡ None → constant_in w s at x ≡ Refuses Operand at
  in_nothing (IsCore d) e = cc
  in_nothing x e = refl

-- the rows of what is read of results
rows_sense : (x : Sense) (c : Core) → SenseHasRows x → core_in x ≡ Some c → HasRows c
rows_sense (IsCore d) c h e = let same : d ≡ c = cc in subst (λ (k : Core). HasRows k) same h
rows_sense x c h e = cc

pub rows_read : (u : Unit) (results : List Made) (i : ℕ) (c : Core) → All (HasConstants u) results → core_in (sense_in (senses_made u results) i) ≡ Some c → HasRows c
rows_read u [] i c all e = cc
rows_read u (m ∷ rest) zero c all e = rows_sense (sense_made u m) c (All-head (HasConstants u) m rest all) e
rows_read u (m ∷ rest) (suc i) c all e = rows_read u rest i c (All-tail (HasConstants u) m rest all) e
