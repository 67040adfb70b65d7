-- The object of a function with a body, among all objects of a program.
use Rattle.std.proofs.Common.{arith, ◌≡◌, ◌∙◌, Bool, true, false, cond, ℕ, zero, suc, ◌+◌, ◌<◌, List, [], ◌∷◌, ◌++◌, length, Option, Some, None, slice_get, refl, sym, ap, subst}
use Rattle.std.specs.List.{flat_map}
use Rattle.std.specs.declared.cmp.Ordering.{Ordering}
use Rattle.std.specs.declared.cmp.Ordering.TheVariants.{Less, Equal, Greater}
use Rattle.std.specs.Ordering.{match_ordering, nat_cmp, ordering_then}
use Rattle.std.specs.BTreeMap.{insert_entry}
use Rattle.std.proofs.lemmas.Cmp.{ranked}
use Rattle.std.proofs.lemmas.Option.{slice_get_within}
use Rattle.core_tree.specs.declared.node.Program.{Program}
use Rattle.core_tree.specs.declared.node.Node.{Node}
use Rattle.core_tree.specs.declared.node.Entity.{Entity}
use Rattle.core_tree.specs.declared.node.Storage.{Storage}
use Rattle.core_tree.specs.declared.node.Storage.TheVariants.{FunctionBody}
use Rattle.obj_made.specs.declared.object.Content.{Content}
use Rattle.obj_made.specs.declared.object.Content.TheVariants.{Function}
use Rattle.obj_made.specs.declared.object.Object.{Object}
use Rattle.obj_made.specs.Made.{Spot, by_place, Made, in_order, entity_content, object_unless_declared, entity_object, made_at, entity_made, entities_made, node_object, node_made, nodes_made, spot_at, varargs_object, varargs_spot, varargs_made, made_of_names, made_in_order, objects_in}
use Rattle.obj_made.proofs.Ordered.{in_order-append}
use Rattle.obj_space.specs.Objects.{library_part}
use Rattle.c_types.specs.declared.key.ObjectKey.{ObjectKey}
use Rattle.c_types.specs.declared.key.ObjectKey.TheVariants.{Entity as EntityKey}
use Rattle.std.proofs.lemmas.Bool.{false≢true}
use Rattle.obj_space.specs.declared.location.Location.{Location}
use Rattle.obj_space.specs.Found.{same_object}
use Rattle.obj_space.specs.View.{first_from}
use Rattle.obj_space.proofs.Indexed.{same_self}
use Rattle.obj_space.specs.Space.{locations_by, locations_of, locations_in}

-- two ranks that are equal
ranks_equal : (a b : ℕ) (o : Ordering) → o ≡ nat_cmp a b → o ≡ Equal → a ≡ b
ranks_equal a b Less h e = cc
ranks_equal a b Equal h e = ranked a b Equal h
ranks_equal a b Greater h e = cc

then_equal : (o q : Ordering) → ordering_then o q ≡ Equal → q ≡ Equal
then_equal Less q e = cc
then_equal Equal q e = e
then_equal Greater q e = cc

place_equal : (a b : Spot) → by_place a b ≡ Equal → a.3 ≡ b.3
place_equal a b e =
    let one = then_equal (nat_cmp a.0 b.0) _ e in
    let two = then_equal (nat_cmp a.1 b.1) _ one in
    let three = then_equal (nat_cmp a.2 b.2) _ two in
    ranks_equal a.3 b.3 (nat_cmp a.3 b.3) refl three

-- the object of the function that the entity e is
abbrev pub IsOf : ℕ → Object → Type 0
IsOf e object = (object.content ≡ Function) × (object.key ≡ EntityKey e)

-- the function that the entity e makes stands among these
data HasFunction (e : ℕ) : Made → Type 0 where
  here : {spot : Spot} {object : Object} {rest : Made} → spot.3 ≡ e → IsOf e object → HasFunction e ((spot, object) ∷ rest)
  later : {m : Spot × Object} {rest : Made} → HasFunction e rest → HasFunction e (m ∷ rest)

put_by : (e : ℕ) (spot k : Spot) (object v : Object) (rest more : Made) (o : Ordering) → by_place spot k ≡ o → spot.3 ≡ e → IsOf e object → HasFunction e more
    → HasFunction e (match_ordering o ((spot, object) ∷ (k, v) ∷ rest) ((k, object) ∷ rest) ((k, v) ∷ more))
put_by e spot k object v rest more Less is at function h = here at function
put_by e spot k object v rest more Equal is at function h = here (sym (place_equal spot k is) ∙ at) function
put_by e spot k object v rest more Greater is at function h = later h

put : (e : ℕ) (spot : Spot) (object : Object) (made : Made) → spot.3 ≡ e → IsOf e object → HasFunction e (insert_entry by_place made spot object)
put e spot object [] at function = here at function
put e spot object ((k, v) ∷ rest) at function = put_by e spot k object v rest (insert_entry by_place rest spot object) (by_place spot k) refl at function (put e spot object rest at function)

keep_by : (e : ℕ) (spot k : Spot) (object v : Object) (rest more : Made) (o : Ordering) → by_place spot k ≡ o → (spot.3 ≡ e → ⊥) → HasFunction e ((k, v) ∷ rest) → (HasFunction e rest → HasFunction e more)
    → HasFunction e (match_ordering o ((spot, object) ∷ (k, v) ∷ rest) ((k, object) ∷ rest) ((k, v) ∷ more))
keep_by e spot k object v rest more Less is other h f = later h
keep_by e spot k object v rest more Equal is other (here at function) f = absurd (other (place_equal spot k is ∙ at))
keep_by e spot k object v rest more Equal is other (later h) f = later h
keep_by e spot k object v rest more Greater is other (here at function) f = here at function
keep_by e spot k object v rest more Greater is other (later h) f = later (f h)

keep : (e : ℕ) (spot : Spot) (object : Object) (made : Made) → (spot.3 ≡ e → ⊥) → HasFunction e made → HasFunction e (insert_entry by_place made spot object)
keep e spot object [] other h = later h
keep e spot object ((k, v) ∷ rest) other h = keep_by e spot k object v rest (insert_entry by_place rest spot object) (by_place spot k) refl other h (keep e spot object rest other)

keep_at : (e : ℕ) (spot : Spot) (o : Option Object) (done : Made) → (spot.3 ≡ e → ⊥) → HasFunction e done → HasFunction e (in_order done (made_at spot o))
keep_at e spot None done other h = h
keep_at e spot (Some object) done other h = keep e spot object done other h

module _ (p : Program) (e : ℕ) where
  entities_after : (done : Made) (k : ℕ) (xs : List Entity) → e < k → HasFunction e done → HasFunction e (in_order done (entities_made p k xs))
  entities_after done k [] lt h = h
  entities_after done k (x ∷ rest) lt h =
      subst (HasFunction e) (sym (in_order-append done (entity_made p k x) (entities_made p (k + 1) rest)))
      (entities_after (in_order done (entity_made p k x)) (k + 1) rest (omega arith) (keep_at e (spot_at x.place k) (entity_object p k x) done (λ same. omega arith) h))

  nodes_after : (done : Made) (n : ℕ) (xs : List Node) → e < length p.entities.items → HasFunction e done → HasFunction e (in_order done (nodes_made p n xs))
  nodes_after done n [] lt h = h
  nodes_after done n (x ∷ rest) lt h =
      subst (HasFunction e) (sym (in_order-append done (node_made p n x) (nodes_made p (n + 1) rest)))
      (nodes_after (in_order done (node_made p n x)) (n + 1) rest lt (keep_at e (spot_at x.place (length p.entities.items + n)) (node_object p n x) done (λ same. omega arith) h))

  further_after : (done : Made) (k : ℕ) (xs : List Entity) → e < length p.entities.items → HasFunction e done → HasFunction e (in_order done (varargs_made p k xs))
  further_after done k [] lt h = h
  further_after done k (x ∷ rest) lt h =
      subst (HasFunction e) (sym (in_order-append done (made_at (varargs_spot p k x) (varargs_object p k x)) (varargs_made p (k + 1) rest)))
      (further_after (in_order done (made_at (varargs_spot p k x) (varargs_object p k x))) (k + 1) rest lt (keep_at e (varargs_spot p k x) (varargs_object p k x) done (λ same. omega arith) h))

  put_entity : (done : Made) (x : Entity) (storage : Storage) (object : Object) → storage ≡ FunctionBody → object.content ≡ entity_content storage x.ty → object.key ≡ EntityKey e → HasFunction e (in_order done (made_at (spot_at x.place e) (object_unless_declared storage object)))
  put_entity done x storage object is content key =
      subst (λ (o : Option Object). HasFunction e (in_order done (made_at (spot_at x.place e) o))) (sym (ap (λ (st : Storage). object_unless_declared st object) is))
      (put e (spot_at x.place e) object done refl (content ∙ ap (λ (st : Storage). entity_content st x.ty) is, key))

  entities_at : (done : Made) (k : ℕ) (xs : List Entity) (i : ℕ) (x : Entity) → slice_get xs i ≡ Some x → k + i ≡ e → x.storage ≡ FunctionBody → HasFunction e (in_order done (entities_made p k xs))
  entities_at done k [] i x at is storage = cc
  entities_at done k (y ∷ rest) zero x at is storage =
      let same : y ≡ x = cc in
      let number : k ≡ e = omega arith in
      subst (HasFunction e) (sym (in_order-append done (entity_made p k y) (entities_made p (k + 1) rest)))
      (entities_after (in_order done (entity_made p k y)) (k + 1) rest (omega arith)
      (subst (λ (n : ℕ). HasFunction e (in_order done (entity_made p n y))) (sym number) (put_entity done y y.storage _ (ap (λ (z : Entity). z.storage) same ∙ storage) refl refl)))
  entities_at done k (y ∷ rest) (suc i) x at is storage =
      subst (HasFunction e) (sym (in_order-append done (entity_made p k y) (entities_made p (k + 1) rest)))
      (entities_at (in_order done (entity_made p k y)) (k + 1) rest i x at (omega arith) storage)

  whole : (x : Entity) → slice_get p.entities.items e ≡ Some x → x.storage ≡ FunctionBody → HasFunction e (made_in_order p)
  whole x at storage =
      let lt = slice_get_within p.entities.items e x at in
      further_after (made_of_names p) 0 p.entities.items lt (nodes_after (in_order [] (entities_made p 0 p.entities.items)) 0 p.nodes.items lt (entities_at [] 0 p.entities.items e x at (omega arith) storage))

  -- its location
  HasLocation : List Location → Type 0
  HasLocation space = (l : ℕ) × (y : Location) × (slice_get space l ≡ Some y) × (y.key ≡ EntityKey e)

  by_content : (object : Object) (more : List Location) (content : Content) → content ≡ Function → object.key ≡ EntityKey e → HasLocation (locations_by p.types object content ++ more)
  unfolding HasLocation
  by_content object more content is key =
      subst (λ (c : Content). HasLocation (locations_by p.types object c ++ more)) (sym is) (0, _, refl, key)

  behind : (xs ys : List Location) → HasLocation ys → HasLocation (xs ++ ys)
  unfolding HasLocation
  behind [] ys h = h
  behind (x ∷ xs) ys h = let r = behind xs ys h in (suc r.0, r.1, r.2, r.3)

  some_located : (made : Made) (more : List Object) → HasFunction e made → HasLocation (flat_map (locations_of p.types) (objects_in made ++ more))
  some_located [] more h = elim h [ ]
  some_located ((spot, object) ∷ rest) more (here at function) = by_content object (flat_map (locations_of p.types) (objects_in rest ++ more)) object.content function.0 function.1
  some_located ((spot, object) ∷ rest) more (later h) = behind (locations_of p.types object) (flat_map (locations_of p.types) (objects_in rest ++ more)) (some_located rest more h)

  pub has_location : (x : Entity) → slice_get p.entities.items e ≡ Some x → x.storage ≡ FunctionBody → (l : ℕ) × (y : Location) × (slice_get (locations_in p) l ≡ Some y) × (y.key ≡ EntityKey e)
  unfolding locations_in HasLocation
  has_location x at storage = some_located (made_in_order p) (library_part p) (whole x at storage)

pub body_located : (p : Program) (e : ℕ) (x : Entity) → slice_get p.entities.items e ≡ Some x → x.storage ≡ FunctionBody → 0 < length (locations_in p)
body_located p e x at storage =
    let r = has_location p e x at storage in
    let lt = slice_get_within (locations_in p) r.0 r.1 r.2 in
    omega arith

-- the first location of an object that has one
first_by : (n k : ℕ) (x y : Location) (rest : List Location) (key : ObjectKey) (b : Bool) → same_object x.key key ≡ b → slice_get (x ∷ rest) k ≡ Some y → y.key ≡ key
    → ((j : ℕ) → slice_get rest j ≡ Some y → (l : ℕ) × (first_from (n + 1) rest key ≡ Some l)) → (l : ℕ) × (cond b (Some n) (first_from (n + 1) rest key) ≡ Some l)
first_by n k x y rest key true is at own f = (n, refl)
first_by n zero x y rest key false is at own f = absurd (false≢true (sym is ∙ same_self x.key key (let e : x ≡ y = cc in ap (λ (z : Location). z.key) e ∙ own)))
first_by n (suc k) x y rest key false is at own f = f k at

first_some : (n k : ℕ) (space : List Location) (y : Location) (key : ObjectKey) → slice_get space k ≡ Some y → y.key ≡ key → (l : ℕ) × (first_from n space key ≡ Some l)
first_some n k [] y key at own = cc
first_some n k (x ∷ rest) y key at own = first_by n k x y rest key (same_object x.key key) refl at own (λ j e. first_some (n + 1) j rest y key e own)

pub body_begins : (p : Program) (e : ℕ) (x : Entity) → slice_get p.entities.items e ≡ Some x → x.storage ≡ FunctionBody → (l : ℕ) × (first_from 0 (locations_in p) (EntityKey e) ≡ Some l)
body_begins p e x at storage = let r = has_location p e x at storage in first_some 0 r.0 (locations_in p) r.1 (EntityKey e) r.2 r.3
