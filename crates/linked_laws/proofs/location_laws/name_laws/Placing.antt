-- What tokens make has different numbers.
use Rattle.std.proofs.Common.{arith, ◌≡◌, ◌∙◌, ℕ, suc, ◌+◌, ◌<◌, List, [], ◌∷◌, ◌++◌, length, Option, Some, None, refl, sym, ap, subst}
use Rattle.std.specs.List.{slice_get}
use Rattle.std.specs.declared.cmp.Ordering.{Ordering}
use Rattle.std.specs.declared.cmp.Ordering.TheVariants.{Less, Equal, Greater}
use Rattle.std.specs.Ordering.{match_ordering, nat_cmp, ordering_then}
use Rattle.std.specs.BTreeMap.{insert_entry}
use Rattle.std.proofs.lemmas.Cmp.{ranked}
use Rattle.pta_base.specs.declared.place.Place.{Place}
use Rattle.core_tree.specs.declared.node.Program.{Program}
use Rattle.core_tree.specs.declared.node.Node.{Node}
use Rattle.core_tree.specs.declared.node.Entity.{Entity}
use Rattle.obj_made.specs.declared.object.Object.{Object}
use Rattle.obj_made.specs.Made.{Spot, by_place, Made, in_order, entity_object, made_at, entity_made, entities_made, spot_at, node_object, node_made, nodes_made, last_place, varargs_object, varargs_spot, varargs_made, made_of_names, made_in_order, objects_in}
use Rattle.obj_made.proofs.Ordered.{in_order-append}
use Rattle.obj_space.specs.Objects.{library_part, objects_of}
use Rattle.linked_laws.specs.location_laws.name_laws.Named.{IsEntity, IsNode, HasNames}
use Rattle.linked_laws.proofs.location_laws.name_laws.Lists.{Every, Pairs, every_weaker, every_append, every_map, pairs_weaker, pairs_append, pairs_map}
use Rattle.linked_laws.proofs.location_laws.name_laws.Library.{IsObject, library_rank, rank, From, Below, Ascend, library_right}
use Rattle.linked_laws.proofs.location_laws.name_laws.Objects.{IsMadeBy, entity_made_by, node_made_by, varargs_made_by}

ranks_equal : (a b : ℕ) (o : Ordering) → o ≡ nat_cmp a b → o ≡ Equal → a ≡ b
ranks_equal a b Less h e = cc
ranks_equal a b Equal h e = ranked a b Equal h
ranks_equal a b Greater h e = cc

then_equal : (o q : Ordering) → ordering_then o q ≡ Equal → q ≡ Equal
then_equal Less q e = cc
then_equal Equal q e = e
then_equal Greater q e = cc

place_equal : (a b : Spot) → by_place a b ≡ Equal → a.3 ≡ b.3
place_equal a b e =
    let one = then_equal (nat_cmp a.0 b.0) _ e in
    let two = then_equal (nat_cmp a.1 b.1) _ one in
    let three = then_equal (nat_cmp a.2 b.2) _ two in
    ranks_equal a.3 b.3 (nat_cmp a.3 b.3) refl three

abbrev IsLess : ℕ → Spot × Object → Type 0
IsLess k m = m.0.3 < k

abbrev Apart : Spot × Object → Spot × Object → Type 0
Apart a b = a.0.3 ≡ b.0.3 → ⊥

module _ (spot : Spot) (o : Object) where
  put_every : (P : Spot × Object → Type 0) (done : Made) → P (spot, o) → Every (IsLess spot.3) done → Every P done → Every P (insert_entry by_place done spot o)
  put_every P [] h less e = (h, tt)
  put_every P ((k, v) ∷ rest) h (lt, less) (here, more) = by (by_place spot k) refl (put_every P rest h less more)
    where
      by : (q : Ordering) → by_place spot k ≡ q → Every P (insert_entry by_place rest spot o) → Every P (match_ordering q ((spot, o) ∷ (k, v) ∷ rest) ((k, o) ∷ rest) ((k, v) ∷ insert_entry by_place rest spot o))
      by Less is later = (h, (here, more))
      by Equal is later = (let same = place_equal spot k is in absurd (omega arith))
      by Greater is later = (here, later)

  put_pairs : (done : Made) → Every (IsLess spot.3) done → Pairs Apart done → Pairs Apart (insert_entry by_place done spot o)
  put_pairs [] less e = (tt, tt)
  put_pairs ((k, v) ∷ rest) (lt, less) (here, more) = by (by_place spot k) refl (put_pairs rest less more)
    where
      new_apart : Every (Apart (spot, o)) rest
      new_apart = every_weaker (IsLess spot.3) (Apart (spot, o)) rest (λ m l e. omega arith) less

      by : (q : Ordering) → by_place spot k ≡ q → Pairs Apart (insert_entry by_place rest spot o) → Pairs Apart (match_ordering q ((spot, o) ∷ (k, v) ∷ rest) ((k, o) ∷ rest) ((k, v) ∷ insert_entry by_place rest spot o))
      by Less is later = (((λ e. omega arith), new_apart), (here, more))
      by Equal is later = (let same = place_equal spot k is in absurd (omega arith))
      by Greater is later = (put_every (Apart (k, v)) rest (λ e. omega arith) less here, later)

module _ (p : Program) (h : HasNames p) where
  -- these have numbers below k, and are put in their places
  pub record AreMade (k : ℕ) (done : Made) : Type 0 where
    pub each : Every (IsMadeBy p h) done
    pub less : Every (IsLess k) done
    pub apart : Pairs Apart done

  made_more : (k : ℕ) (done : Made) → AreMade k done → AreMade (k + 1) done
  made_more k done a = record { each = a.each; less = every_weaker (IsLess k) (IsLess (k + 1)) done (λ m lt. omega arith) a.less; apart = a.apart }

  put_made : (place : Place) (k : ℕ) (o : Option Object) (done : Made) → Every (IsMadeBy p h) (made_at (spot_at place k) o) → AreMade k done → AreMade (k + 1) (in_order done (made_at (spot_at place k) o))
  put_made place k None done e a = made_more k done a
  put_made place k (Some o) done (one, rest) a = record {
    each = put_every (spot_at place k) o (IsMadeBy p h) done one a.less a.each;
    less = put_every (spot_at place k) o (IsLess (k + 1)) done (omega arith) a.less (every_weaker (IsLess k) (IsLess (k + 1)) done (λ m lt. omega arith) a.less);
    apart = put_pairs (spot_at place k) o done a.less a.apart;
  }

  entities_right : (k : ℕ) (xs : List Entity) (done : Made) → ((i : ℕ) (x : Entity) → slice_get xs i ≡ Some x → IsEntity p (k + i) x) → AreMade k done
      → AreMade (k + length xs) (in_order done (entities_made p k xs))
  entities_right k [] done f a = subst (λ n. AreMade n done) (omega arith) a
  entities_right k (x ∷ rest) done f a =
      let here : IsEntity p k x = subst (λ n. IsEntity p n x) (omega arith) (f 0 x refl) in
      let one = put_made x.place k (entity_object p k x) done (entity_made_by p h k x here) a in
      let all = entities_right (k + 1) rest (in_order done (entity_made p k x)) (λ i y at. subst (λ n. IsEntity p n y) (omega arith) (f (suc i) y at)) one in
      subst (λ n. AreMade n (in_order done (entity_made p k x ++ entities_made p (k + 1) rest))) (omega arith)
      (subst (AreMade (k + 1 + length rest)) (sym (in_order-append done (entity_made p k x) (entities_made p (k + 1) rest))) all)

  nodes_right : (n : ℕ) (xs : List Node) (done : Made) → ((i : ℕ) (x : Node) → slice_get xs i ≡ Some x → IsNode p (n + i) x) → AreMade (length p.entities.items + n) done
      → AreMade (length p.entities.items + (n + length xs)) (in_order done (nodes_made p n xs))
  nodes_right n [] done f a = subst (λ m. AreMade m done) (omega arith) a
  nodes_right n (x ∷ rest) done f a =
      let here : IsNode p n x = subst (λ m. IsNode p m x) (omega arith) (f 0 x refl) in
      let one = put_made x.place (length p.entities.items + n) (node_object p n x) done (node_made_by p h n x here) a in
      let all = nodes_right (n + 1) rest (in_order done (node_made p n x)) (λ i y at. subst (λ m. IsNode p m y) (omega arith) (f (suc i) y at))
      (subst (λ m. AreMade m (in_order done (node_made p n x))) (omega arith) one) in
      subst (λ m. AreMade m (in_order done (node_made p n x ++ nodes_made p (n + 1) rest))) (omega arith)
      (subst (AreMade (length p.entities.items + (n + 1 + length rest))) (sym (in_order-append done (node_made p n x) (nodes_made p (n + 1) rest))) all)

  further_right : (e : ℕ) (xs : List Entity) (done : Made) → ((i : ℕ) (x : Entity) → slice_get xs i ≡ Some x → IsEntity p (e + i) x) → AreMade (length p.entities.items + length p.nodes.items + e) done
      → AreMade (length p.entities.items + length p.nodes.items + (e + length xs)) (in_order done (varargs_made p e xs))
  further_right e [] done f a = subst (λ m. AreMade m done) (omega arith) a
  further_right e (x ∷ rest) done f a =
      let here : IsEntity p e x = subst (λ m. IsEntity p m x) (omega arith) (f 0 x refl) in
      let put : Made = made_at (varargs_spot p e x) (varargs_object p e x) in
      let one = put_made (last_place x.place e p.entities.items) (length p.entities.items + length p.nodes.items + e) (varargs_object p e x) done (varargs_made_by p h e x here) a in
      let all = further_right (e + 1) rest (in_order done put) (λ i y at. subst (λ m. IsEntity p m y) (omega arith) (f (suc i) y at))
      (subst (λ m. AreMade m (in_order done put)) (omega arith) one) in
      subst (λ m. AreMade m (in_order done (put ++ varargs_made p (e + 1) rest))) (omega arith)
      (subst (AreMade (length p.entities.items + length p.nodes.items + (e + 1 + length rest))) (sym (in_order-append done put (varargs_made p (e + 1) rest))) all)

  none_made : AreMade 0 []
  none_made = record { each = tt; less = tt; apart = tt }

  all_made : AreMade (library_rank p) (made_in_order p)
  all_made =
      let entities = entities_right 0 p.entities.items [] (λ i x at. subst (λ n. IsEntity p n x) (omega arith) at) none_made in
      let nodes = nodes_right 0 p.nodes.items (in_order [] (entities_made p 0 p.entities.items)) (λ i x at. subst (λ n. IsNode p n x) (omega arith) at)
      (subst (λ n. AreMade n (in_order [] (entities_made p 0 p.entities.items))) (omega arith) entities) in
      let further = further_right 0 p.entities.items (made_of_names p) (λ i x at. subst (λ n. IsEntity p n x) (omega arith) at) (subst (λ n. AreMade n (made_of_names p)) (omega arith) nodes) in
      subst (λ n. AreMade n (made_in_order p)) (omega arith) further

  -- ---- all objects
  abbrev pub KeysDiffer : Object → Object → Type 0
  KeysDiffer a b = a.key ≡ b.key → ⊥

  pub record AreObjects (objects : List Object) : Type 0 where
    pub each : Every (IsObject p) objects
    pub differ : Pairs KeysDiffer objects

  made_objects : AreObjects (objects_in (made_in_order p))
  made_objects =
      let all = all_made in
      record {
        each = every_map (IsObject p) (λ (m : Spot × Object). m.1) (made_in_order p) (every_weaker (IsMadeBy p h) (λ m. IsObject p m.1) (made_in_order p) (λ m b. b.object) all.each);
        differ = pairs_map KeysDiffer (λ (m : Spot × Object). m.1) (made_in_order p) (by (made_in_order p) all.each all.apart);
      }
    where
      one : (a : Spot × Object) (rest : Made) → IsMadeBy p h a → Every (IsMadeBy p h) rest → Every (Apart a) rest → Every (λ b. KeysDiffer a.1 b.1) rest
      one a [] x xs e = tt
      one a (b ∷ rest) x (y, ys) (apart, more) = ((λ same. apart (x.number ∙ (ap (rank p) same ∙ sym y.number))), one a rest x ys more)

      by : (made : Made) → Every (IsMadeBy p h) made → Pairs Apart made → Pairs (λ a b. KeysDiffer a.1 b.1) made
      by [] e a = tt
      by (m ∷ rest) (x, xs) (here, more) = (one m rest x xs here, by rest xs more)

  below_all : Every (Below p (library_rank p)) (objects_in (made_in_order p))
  below_all =
      let all = all_made in
      every_map (Below p (library_rank p)) (λ (m : Spot × Object). m.1) (made_in_order p) (by (made_in_order p) all.each all.less)
    where
      by : (made : Made) → Every (IsMadeBy p h) made → Every (IsLess (library_rank p)) made → Every (λ m. Below p (library_rank p) m.1) made
      by [] e l = tt
      by (m ∷ rest) (x, xs) (lt, less) = ((let number = x.number in omega arith), by rest xs less)

  far : (n : ℕ) (xs ys : List Object) → Every (Below p n) xs → Every (From p n) ys → Every (λ x. Every (KeysDiffer x) ys) xs
  far n [] ys b f = tt
  far n (x ∷ xs) ys (lt, more) f =
      (every_weaker (From p n) (KeysDiffer x) ys (λ y le same. (let ranks = ap (rank p) same in omega arith)) f, far n xs ys more f)

  pub all_objects : AreObjects (objects_of p)
  all_objects =
      let made = made_objects in
      let library = library_right p h in
      record {
        each = every_append (IsObject p) (objects_in (made_in_order p)) (library_part p) made.each library.each;
        differ = pairs_append KeysDiffer (objects_in (made_in_order p)) (library_part p) made.differ
            (pairs_weaker (Ascend p) KeysDiffer (library_part p) (λ a b lt same. (let ranks = ap (rank p) same in omega arith)) library.ascend)
            (far (library_rank p) (objects_in (made_in_order p)) (library_part p) below_all library.from);
      }
