-- Fixed values are those whose step is.
use Rattle.std.proofs.Common.{◌≡◌, ℕ, List, [], ◌∷◌, Option, Some, None, ◌↔◌, slice_get, get_or, refl, subst, All}
use Rattle.std.proofs.lemmas.Option.{slice_get_within, slice_get-get_or, get_or_from_slice_get}
use Rattle.c_types.specs.Trees.{Ctype}
use Rattle.c_types.specs.Table.{type_of}
use Rattle.core_tree.specs.declared.node.Node.{Node}
use Rattle.core_tree.specs.declared.node.NodeKind.{NodeKind}
use Rattle.core_tree.specs.declared.node.NodeKind.TheVariants.{Named, Text, Literal, FunctionName, Deref, Member, Number, NullValue, AddressOf, Decay, PointerAdd, Convert, Upcast, Choose, Arith}
use Rattle.core_tree.specs.Typed.{CoreTrees, IsInteger, IsPointer, type_at}
use Rattle.core_tree.specs.Range.{node_at}
use Rattle.core_tree.specs.Valid.{FixedNumber, plain, made, FixedPlace, text, function, object, literal, member, target, FixedPointer, null, address, decay, upcast, converted, moved, IsNumber, MakesNumber, KindIs}
use Rattle.core_conditions.specs.Fixed.{NumberStep, NumberStepAt, PlaceStep, PlaceStepAt, PointerStep, PointerStepAt}

-- a node of that kind over those children takes the step of that kind
place_here : (u : CoreTrees) (n : ℕ) (kind : NodeKind) (children : List ℕ) → KindIs u n kind children → PlaceStep u kind children → PlaceStepAt u (node_at u n)
place_here u n kind children (node, at, k, c) step = rw (at, k, c) step

pub place_step : (u : CoreTrees) (n : ℕ) → FixedPlace u n → PlaceStepAt u (node_at u n)
place_step u n (text {bytes = bytes} k) = place_here u n (Text bytes) [] k tt
place_step u n (function {e = e} k) = place_here u n (FunctionName e) [] k tt
place_step u n (object {e = e} k h) = place_here u n (Named e) [] k h
place_step u n (literal {e = e} {i = i} k h) = place_here u n (Literal e) (i ∷ []) k h
place_step u n (member {k = m} {p = p} k h) = place_here u n (Member m) (p ∷ []) k h
place_step u n (target {v = v} k h) = place_here u n Deref (v ∷ []) k h

place_back : (u : CoreTrees) (n : ℕ) (kind : NodeKind) (children : List ℕ) → KindIs u n kind children → PlaceStep u kind children → FixedPlace u n
place_back u n (Text bytes) [] k h = text k
place_back u n (FunctionName e) [] k h = function k
place_back u n (Named e) [] k h = object k h
place_back u n (Literal e) (i ∷ []) k h = literal k h
place_back u n (Member m) (p ∷ []) k h = member k h
place_back u n Deref (v ∷ []) k h = target k h
place_back u n kind children k h = absurd h

pub step_place : (u : CoreTrees) (n : ℕ) → PlaceStepAt u (node_at u n) → FixedPlace u n
step_place u n h = go (node_at u n) refl h
  where
    go : (o : Option Node) → node_at u n ≡ o → PlaceStepAt u o → FixedPlace u n
    go None at h = absurd h
    go (Some node) at h = place_back u n node.kind node.children (node, at, refl, refl) h

pointer_here : (u : CoreTrees) (n : ℕ) (kind : NodeKind) (children : List ℕ) → KindIs u n kind children → ((node : Node) → node_at u n ≡ Some node → PointerStep u (type_of u.types node.ty.0) kind children) → PointerStepAt u (node_at u n)
pointer_here u n kind children (node, at, k, c) step = rw (at, k, c) (step node at)

type_here : (u : CoreTrees) (n : ℕ) (node : Node) → node_at u n ≡ Some node → IsPointer (type_at u n) → IsPointer (type_of u.types node.ty.0)
type_here u n node at h = rw at at h

pub pointer_step : (u : CoreTrees) (n : ℕ) → FixedPointer u n → PointerStepAt u (node_at u n)
pointer_step u n (null k) = pointer_here u n NullValue [] k (λ node at. tt)
pointer_step u n (address {p = p} k h) = pointer_here u n AddressOf (p ∷ []) k (λ node at. h)
pointer_step u n (decay {p = p} k h) = pointer_here u n Decay (p ∷ []) k (λ node at. h)
pointer_step u n (upcast {v = v} k h) = pointer_here u n Upcast (v ∷ []) k (λ node at. h)
pointer_step u n (converted {v = v} k t h) = pointer_here u n Convert (v ∷ []) k (λ node at. (type_here u n node at t, h))
pointer_step u n (moved {v = v} {i = i} {minus = minus} k h g) = pointer_here u n (PointerAdd minus) (v ∷ i ∷ []) k (λ node at. (h, g))

pointer_back : (u : CoreTrees) (n : ℕ) (kind : NodeKind) (children : List ℕ) → KindIs u n kind children → PointerStep u (type_at u n) kind children → FixedPointer u n
pointer_back u n NullValue [] k h = null k
pointer_back u n AddressOf (p ∷ []) k h = address k h
pointer_back u n Decay (p ∷ []) k h = decay k h
pointer_back u n Upcast (v ∷ []) k h = upcast k h
pointer_back u n Convert (v ∷ []) k h = converted k h.0 h.1
pointer_back u n (PointerAdd minus) (v ∷ i ∷ []) k h = moved k h.0 h.1
pointer_back u n kind children k h = absurd h

pub step_pointer : (u : CoreTrees) (n : ℕ) → PointerStepAt u (node_at u n) → FixedPointer u n
step_pointer u n h = go (node_at u n) refl h
  where
    go : (o : Option Node) → node_at u n ≡ o → PointerStepAt u o → FixedPointer u n
    go None at h = absurd h
    go (Some node) at h = pointer_back u n node.kind node.children (node, at, refl, refl) (rw at h)

-- a fact of each entry, by places
each_of : (P : ℕ → Type 0) (list : List ℕ) → ((k c : ℕ) → slice_get list k ≡ Some c → P c) → All P list
each_of P list h k d lt = h k (get_or list k d) (slice_get-get_or list k d lt)

-- and back
entry : (P : ℕ → Type 0) (list : List ℕ) (k c : ℕ) → slice_get list k ≡ Some c → All P list → P c
entry P list k c at h = subst P (get_or_from_slice_get list k c c at) (h k c (slice_get_within list k c at))

number_here : (u : CoreTrees) (node : Node) (kind : NodeKind) → node.kind ≡ kind → MakesNumber kind → IsInteger (type_of u.types node.ty.0) → All (λ c. FixedNumber u c) node.children → NumberStep u (type_of u.types node.ty.0) kind node.children
number_here u node (Arith op) e m i h = (i, h)
number_here u node Choose e m i h = (i, h)
number_here u node Convert e m i h = (i, h)
number_here u node kind e m i h = absurd m

plain_here : (u : CoreTrees) (t : Ctype) (kind : NodeKind) (children : List ℕ) → IsNumber kind → NumberStep u t kind children
plain_here u t (Number x) children h = tt
plain_here u t kind children h = absurd h

pub number_step : (u : CoreTrees) (n : ℕ) → FixedNumber u n → NumberStepAt u (node_at u n)
number_step u n (plain {node = node} at h) = rw at (plain_here u (type_of u.types node.ty.0) node.kind node.children h)
number_step u n (made {node = node} at m i h) = rw at (number_here u node node.kind refl m i (each_of (λ c. FixedNumber u c) node.children h))

number_back : (u : CoreTrees) (n : ℕ) (node : Node) (kind : NodeKind) → node_at u n ≡ Some node → node.kind ≡ kind → NumberStep u (type_of u.types node.ty.0) kind node.children → FixedNumber u n
number_back u n node (Number x) at e h = plain at (rw e tt)
number_back u n node (Arith op) at e h = made at (rw e tt) h.0 (λ k c there. entry (λ c. FixedNumber u c) node.children k c there h.1)
number_back u n node Choose at e h = made at (rw e tt) h.0 (λ k c there. entry (λ c. FixedNumber u c) node.children k c there h.1)
number_back u n node Convert at e h = made at (rw e tt) h.0 (λ k c there. entry (λ c. FixedNumber u c) node.children k c there h.1)
number_back u n node kind at e h = absurd h

pub step_number : (u : CoreTrees) (n : ℕ) → NumberStepAt u (node_at u n) → FixedNumber u n
step_number u n h = go (node_at u n) refl h
  where
    go : (o : Option Node) → node_at u n ≡ o → NumberStepAt u o → FixedNumber u n
    go None at h = absurd h
    go (Some node) at h = number_back u n node node.kind at refl h

-- so what says the step says the whole
pub number_iff : (u : CoreTrees) (n : ℕ) (node : Node) → node_at u n ≡ Some node → (Q : Type 0) → (Q ↔ NumberStep u (type_of u.types node.ty.0) node.kind node.children) → Q ↔ FixedNumber u n
number_iff u n node at Q k =
    (λ t. step_number u n (rw at (k.0 t)), λ h. k.1 (rw at at (number_step u n h)))

pub place_iff : (u : CoreTrees) (n : ℕ) (node : Node) → node_at u n ≡ Some node → (Q : Type 0) → (Q ↔ PlaceStep u node.kind node.children) → Q ↔ FixedPlace u n
place_iff u n node at Q k =
    (λ t. step_place u n (rw at (k.0 t)), λ h. k.1 (rw at at (place_step u n h)))

pub pointer_iff : (u : CoreTrees) (n : ℕ) (node : Node) → node_at u n ≡ Some node → (Q : Type 0) → (Q ↔ PointerStep u (type_of u.types node.ty.0) node.kind node.children) → Q ↔ FixedPointer u n
pointer_iff u n node at Q k =
    (λ t. step_pointer u n (rw at (k.0 t)), λ h. k.1 (rw at at (pointer_step u n h)))
