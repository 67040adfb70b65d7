-- What a call allocates has the type of the conversion above the call.
use Rattle.std.proofs.Common.{arith, ◌≡◌, ◌∙◌, inl, inr, ℕ, zero, suc, ◌<◌, Bool, true, false, cond, nat_eq, is_some, List, [], ◌∷◌, ◌++◌, length, Option, Some, None, slice_get, refl, sym, ap, subst}
use Rattle.std.specs.Option.{option_and_then}
use Rattle.std.proofs.lemmas.Bool.{false≢true}
use Rattle.std.proofs.lemmas.Bool.Decides.{eqb_tells}
use Rattle.c_types.specs.declared.key.ObjectKey.{ObjectKey}
use Rattle.c_types.specs.declared.key.ObjectKey.TheVariants.{Call as CallKey}
use Rattle.c_types.specs.declared.term.Term.{Term}
use Rattle.c_types.specs.declared.term.Term.TheVariants.{Pointer as PointerTerm}
use Rattle.c_types.specs.declared.term.TypeId.{TypeId}
use Rattle.c_types.specs.Table.{type_of, extent_in}
use Rattle.c_types.specs.Made.{IsMade}
use Rattle.core_tree.specs.declared.node.Node.{Node}
use Rattle.core_tree.specs.declared.node.NodeKind.{NodeKind}
use Rattle.core_tree.specs.declared.node.NodeKind.TheVariants.{Convert}
use Rattle.core_tree.specs.declared.node.Program.{Program}
use Rattle.core_tree.specs.Typed.{trees_in}
use Rattle.core_tree.specs.Range.{child_in, child_at}
use Rattle.core_tree.specs.Valid.{ValidProgram}
use Rattle.obj_made.specs.declared.object.Content.TheVariants.{Blob, Scalars, Elements}
use Rattle.obj_made.specs.Made.{pointed_in, complete_in, converts_kind, converts, conversion_above, typed_by, elements_or_blob, allocated_content}
use Rattle.obj_made.specs.Uses.{is_number}
use Rattle.obj_space.specs.declared.location.Location.{Location}
use Rattle.obj_space.specs.Space.{locations_in}
use Rattle.ref_values.specs.Memory.{pointee}
use Rattle.covering_laws.specs.object_contents.Contents.{IsMadeOf, IsCallMade}
use Rattle.covering_laws.proofs.object_contents.Contents.{contents_known}
use Rattle.covered_runs.specs.covered_steps.covered_values.Met.{AboveMet}
use Rattle.covered_runs.proofs.covered_steps.covered_values.Types.{none_some, some_one}

-- what stands in the first of two lists
pub get_before : {X : Type 0} (xs ys : List X) (i : ℕ) → i < length xs → slice_get (xs ++ ys) i ≡ slice_get xs i
get_before [] ys i lt = absurd (omega arith)
get_before (x ∷ xs) ys zero lt = refl
get_before (x ∷ xs) ys (suc i) lt = get_before xs ys i (omega arith)

-- the one conversion of a value
number_is : (c : ℕ) (child : Option ℕ) → is_number c child ≡ true → child ≡ Some c
number_is c None e = absurd (false≢true e)
number_is c (Some n) e = elim (eqb_tells n c) [ inl same ↦ ap (λ (k : ℕ). Some k) same.1 | inr other ↦ absurd (false≢true (sym other.0 ∙ e)) ]

converts_inv : (kind : NodeKind) (child : Option ℕ) (c : ℕ) → converts_kind kind child c ≡ true → child ≡ Some c
converts_inv Convert child c e = number_is c child e
converts_inv kind child c e = absurd (false≢true e)

pub number_self : (c : ℕ) → nat_eq c c ≡ true
number_self c = elim (eqb_tells c c) [ inl same ↦ same.0 | inr other ↦ absurd (other.1 refl) ]

above_is : (c : ℕ) (xs : List Node) (m : ℕ) (node : Node) → slice_get xs m ≡ Some node → converts node c ≡ true → ((k : ℕ) (y : Node) → slice_get xs k ≡ Some y → converts y c ≡ true → k ≡ m) → conversion_above xs c ≡ Some node.ty
above_is c [] m node at is once = absurd (none_some at)
above_is c (y ∷ rest) zero node at is once =
    let same : y ≡ node = some_one at in
    ap (λ (b : Bool). cond b (Some y.ty) (conversion_above rest c)) (ap (λ (z : Node). converts z c) same ∙ is) ∙ ap (λ (z : Node). Some z.ty) same
above_is c (y ∷ rest) (suc m) node at is once = by (converts y c) refl (above_is c rest m node at is)
  where
    by : (b : Bool) → converts y c ≡ b → (((k : ℕ) (z : Node) → slice_get rest k ≡ Some z → converts z c ≡ true → k ≡ m) → conversion_above rest c ≡ Some node.ty)
        → cond b (Some y.ty) (conversion_above rest c) ≡ Some node.ty
    by true first next = absurd (let bad : 0 ≡ suc m = once 0 y refl first in omega arith)
    by false other next = next (λ k z e f. (let same : suc k ≡ suc m = once (suc k) z e f in omega arith))

pointed_same : (o : Option Term) → pointee o ≡ pointed_in o
pointed_same None = refl
pointed_same (Some (PointerTerm to)) = refl
pointed_same (Some t) = refl

elements_one : {a b : TypeId} → Elements a ≡ Elements b → a ≡ b
elements_one h = cc

elements_scalars : {a : TypeId} → {k : ℕ} → Elements a ≡ Scalars k → ⊥
elements_scalars h = cc

elements_blob : {a : TypeId} → Elements a ≡ Blob → ⊥
elements_blob h = cc

module _ (p : Program) (valid : ValidProgram p) (made : IsMade p.types) (l : ℕ) (x : Location) (c : ℕ) (other : TypeId) (n : ℕ) (node : Node) (at : slice_get (locations_in p) l ≡ Some x) (key : x.key ≡ CallKey c)
    (content : x.content ≡ Elements other) (there : slice_get p.nodes.items n ≡ Some node) (kind : node.kind ≡ Convert) (children : node.children ≡ c ∷ []) where
  call : IsCallMade p c x.content
  call = subst (λ (k : ObjectKey). IsMadeOf p k x.content) key (contents_known p l x made at).0

  own : converts node c ≡ true
  own = ap (λ (k : NodeKind). converts_kind k (slice_get node.children 0) c) kind ∙ (ap (λ (cs : List ℕ). is_number c (slice_get cs 0)) children ∙ number_self c)

  child_of : (k : ℕ) (y : Node) (m : ℕ) → slice_get p.nodes.items k ≡ Some y → slice_get y.children 0 ≡ Some m → child_at (trees_in p) k 0 ≡ Some m
  child_of k y m e f = ap (λ (o : Option Node). child_in o 0) e ∙ f

  once : (k : ℕ) (y : Node) → slice_get p.nodes.items k ≡ Some y → converts y c ≡ true → k ≡ n
  once k y e f = (valid.trees.child_once k n 0 0 c (child_of k y c e (converts_inv y.kind (slice_get y.children 0) c f)) (child_of n node c there (converts_inv node.kind (slice_get node.children 0) c own))).0

  content_is : Elements other ≡ allocated_content call.number (option_and_then (complete_in p.types) (pointed_in (slice_get p.types.terms node.ty.0)))
  content_is = sym content ∙ (call.content_is ∙ ap (λ (o : Option TypeId). allocated_content call.number (typed_by p.types o)) (above_is c p.nodes.items n node there own once))

  pub pointed_is : pointed_in (slice_get p.types.terms node.ty.0) ≡ Some other
  pointed_is = by (pointed_in (slice_get p.types.terms node.ty.0)) content_is
    where
      none : (text : Bool) → Elements other ≡ cond text (Scalars 0) Blob → ⊥
      none true e = elements_scalars e
      none false e = elements_blob e

      some : (id : TypeId) (text complete : Bool) → Elements other ≡ cond text (Scalars 0) (elements_or_blob (cond complete (Some id) None)) → Some id ≡ Some other
      some id true complete e = absurd (elements_scalars e)
      some id false true e = ap (λ (x : TypeId). Some x) (sym (elements_one e))
      some id false false e = absurd (elements_blob e)

      by : (o : Option TypeId) → Elements other ≡ allocated_content call.number (option_and_then (complete_in p.types) o) → o ≡ Some other
      by None e = absurd (none (nat_eq call.number 21) e)
      by (Some id) e = some id (nat_eq call.number 21) (is_some (extent_in p.types (type_of p.types id.0))) e

pub above_met : AboveMet
above_met p more world valid made over l x c other n node at key content there kind children =
    let own : slice_get p.nodes.items n ≡ Some node = subst (λ (q : Program). slice_get q.nodes.items n ≡ Some node) over.program there in
    let is = pointed_is p valid made l x c other n node (subst (λ (s : List Location). slice_get s l ≡ Some x) over.space at) key content own kind children in
    subst (λ (q : Program). pointee (slice_get q.types.terms node.ty.0) ≡ Some other) (sym over.program)
    (ap pointee (get_before p.types.terms more node.ty.0 (valid.trees.in_range.types n node own)) ∙ (pointed_same (slice_get p.types.terms node.ty.0) ∙ is))
