-- What a variadic function is passed past its parameters has an object among those of a program.
use Rattle.std.proofs.Common.{arith, ◌≡◌, ◌∙◌, ℕ, zero, suc, ◌+◌, ◌<◌, ◌&&◌, Bool, true, false, List, [], ◌∷◌, length, Option, Some, None, slice_get, refl, sym, ap, subst}
use Rattle.std.specs.Prelude.{if◌then◌else◌}
use Rattle.std.proofs.lemmas.Bool.{false≢true}
use Rattle.c_types.specs.declared.key.ObjectKey.{ObjectKey}
use Rattle.c_types.specs.declared.key.ObjectKey.TheVariants.{Varargs as VarargsKey}
use Rattle.c_types.specs.declared.term.Form.TheVariants.{Variadic}
use Rattle.c_types.specs.Trees.{Ctype, FunctionFrom}
use Rattle.c_types.specs.Table.{type_of}
use Rattle.c_types.specs.Made.{IsMade}
use Rattle.core_tree.specs.declared.node.Entity.{Entity}
use Rattle.core_tree.specs.declared.node.Program.{Program}
use Rattle.core_tree.specs.declared.node.Storage.{Storage}
use Rattle.core_tree.specs.declared.node.Storage.TheVariants.{FunctionBody}
use Rattle.obj_made.specs.declared.object.Content.TheVariants.{Blob}
use Rattle.obj_made.specs.declared.object.Object.{Object}
use Rattle.obj_made.specs.Made.{Made, in_order, made_at, is_variadic, has_body, has_varargs, varargs_object, varargs_spot, varargs_made, made_of_names, made_in_order}
use Rattle.obj_made.specs.Spelling.{varargs_name}
use Rattle.obj_made.proofs.Ordered.{in_order-append}
use Rattle.obj_space.specs.declared.location.Location.{Location}
use Rattle.obj_space.specs.Space.{locations_in}
use Rattle.row_numbers.specs.Setting.{takes_further}
use Rattle.covering_laws.specs.object_contents.Contents.{IsMadeOf}
use Rattle.covering_laws.proofs.object_contents.Contents.{contents_known}
use Rattle.covering_laws.proofs.object_contents.Made.{HasAt, put, keep_at, has_location, first_some}
use Rattle.covering_laws.proofs.covered_memory.Firsts.{is_first}
use Rattle.covered_runs.specs.covered_steps.Placed.{IsPlaced}

some_one : {X : Type 0} → {x y : X} → ◌≡◌ {A = Option X} (Some x) (Some y) → x ≡ y
some_one h = cc

none_some : {X : Type 0} → {x : X} → ◌≡◌ {A = Option X} None (Some x) → ⊥
none_some h = cc

module _ (p : Program) (e : ℕ) (own : Object) where
  abbrev place : ℕ
  place = length p.entities.items + length p.nodes.items + e

  further_after : (done : Made) (k : ℕ) (xs : List Entity) → e < k → HasAt place own done → HasAt place own (in_order done (varargs_made p k xs))
  further_after done k [] lt h = h
  further_after done k (x ∷ rest) lt h =
      subst (HasAt place own) (sym (in_order-append done (made_at (varargs_spot p k x) (varargs_object p k x)) (varargs_made p (k + 1) rest)))
      (further_after (in_order done (made_at (varargs_spot p k x) (varargs_object p k x))) (k + 1) rest (omega (arith, lt)) (keep_at place own (varargs_spot p k x) (varargs_object p k x) done (λ same. omega (arith, same, lt)) h))

  further_at : (done : Made) (k : ℕ) (xs : List Entity) (i : ℕ) (x : Entity) → slice_get xs i ≡ Some x → k + i ≡ e → varargs_object p e x ≡ Some own → HasAt place own (in_order done (varargs_made p k xs))
  further_at done k [] i x at is object = absurd (none_some at)
  further_at done k (y ∷ rest) zero x at is object =
      let number : k ≡ e = omega (arith, is) in
      let made : varargs_object p k y ≡ Some own = ap (λ (j : ℕ). varargs_object p j y) number ∙ (ap (varargs_object p e) (some_one at) ∙ object) in
      subst (HasAt place own) (sym (in_order-append done (made_at (varargs_spot p k y) (varargs_object p k y)) (varargs_made p (k + 1) rest)))
      (further_after (in_order done (made_at (varargs_spot p k y) (varargs_object p k y))) (k + 1) rest (omega (arith, is))
      (subst (λ (o : Option Object). HasAt place own (in_order done (made_at (varargs_spot p k y) o))) (sym made)
      (put place own (varargs_spot p k y) done (ap (λ (j : ℕ). length p.entities.items + length p.nodes.items + j) number))))
  further_at done k (y ∷ rest) (suc i) x at is object =
      subst (HasAt place own) (sym (in_order-append done (made_at (varargs_spot p k y) (varargs_object p k y)) (varargs_made p (k + 1) rest)))
      (further_at (in_order done (made_at (varargs_spot p k y) (varargs_object p k y))) (k + 1) rest i x at (omega (arith, is)) object)

  among : (x : Entity) → slice_get p.entities.items e ≡ Some x → varargs_object p e x ≡ Some own → HasAt place own (made_in_order p)
  among x at object = further_at (made_of_names p) 0 p.entities.items e x at (omega arith) object

variadic_is : (t : Ctype) → takes_further t ≡ true → is_variadic t ≡ true
variadic_is (FunctionFrom r ps Variadic) h = refl
variadic_is t h = absurd (false≢true h)

pub further_placed : (p : Program) (e : ℕ) (x : Entity) → IsMade p.types → slice_get p.entities.items e ≡ Some x → x.storage ≡ FunctionBody → takes_further (type_of p.types x.ty.0) ≡ true → IsPlaced p (VarargsKey e) Blob
further_placed p e x made at storage further =
    let own : Object = record { key = VarargsKey e; name = varargs_name p.names.items x; content = Blob } in
    let has : has_varargs p.types x ≡ true = ap (λ (s : Storage). has_body s && is_variadic (type_of p.types x.ty.0)) storage ∙ variadic_is (type_of p.types x.ty.0) further in
    let object : varargs_object p e x ≡ Some own = ap (λ (b : Bool). (let o : Option Object = if b then Some (record { key = VarargsKey e; name = varargs_name p.names.items x; content = Blob }) else None in o)) has in
    let found = has_location p made (length p.entities.items + length p.nodes.items + e) own (0, _, refl, refl) (among p e own x at object) in
    let first = first_some 0 found.0 (locations_in p) found.1 (VarargsKey e) found.2 found.3 in
    let here = (is_first (locations_in p) (VarargsKey e) first.0 first.1).here in
    record { first = first.0; location = here.0; first_is = first.1; location_is = here.1; content_is = content here.0 here.2 (contents_known p first.0 here.0 made here.1).0 }
  where
    content : (y : Location) → y.key ≡ VarargsKey e → IsMadeOf p y.key y.content → y.content ≡ Blob
    content y key h = (subst (λ (k : ObjectKey). IsMadeOf p k y.content) key h).2
