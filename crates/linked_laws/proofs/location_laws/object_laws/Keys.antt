-- The objects of a program have different keys.
use Rattle.std.proofs.Common.{arith, ◌≡◌, ◌∙◌, ℕ, zero, suc, ◌+◌, ◌<◌, ◌≤◌, Bool, true, false, List, [], ◌∷◌, ◌++◌, length, Option, Some, None, refl, sym, ap, subst, inl, inr}
use Rattle.std.specs.Prelude.{if◌then◌else◌}
use Rattle.std.specs.List.{slice_get}
use Rattle.std.specs.declared.cmp.Ordering.{Ordering}
use Rattle.std.specs.declared.cmp.Ordering.TheVariants.{Less, Equal, Greater}
use Rattle.std.specs.Ordering.{match_ordering, nat_cmp, ordering_then}
use Rattle.std.specs.BTreeMap.{insert_entry}
use Rattle.std.proofs.lemmas.Bool.{cases_eq, cases_lt}
use Rattle.std.proofs.lemmas.Cmp.{ranked}
use Rattle.pta_base.specs.declared.place.Place.{Place}
use Rattle.c_types.specs.declared.key.ObjectKey.TheVariants.{Library as LibraryKey}
use Rattle.core_tree.specs.declared.node.Program.{Program}
use Rattle.core_tree.specs.declared.node.Node.{Node}
use Rattle.core_tree.specs.declared.node.NodeKind.{NodeKind}
use Rattle.core_tree.specs.declared.node.NodeKind.TheVariants.{Text, CallNode}
use Rattle.core_tree.specs.declared.node.Entity.{Entity}
use Rattle.core_tree.specs.declared.node.Storage.{Storage}
use Rattle.core_tree.specs.declared.node.Storage.TheVariants.{Static, Automatic, FunctionBody, Parameter, Declared}
use Rattle.obj_made.specs.declared.object.Content.{Content}
use Rattle.obj_made.specs.declared.object.Object.{Object}
use Rattle.obj_made.specs.Uses.{entity_number, is_allocator, is_named, is_starred}
use Rattle.obj_made.specs.Made.{Spot, by_place, Made, in_order, object_unless_declared, entity_object, made_at, entity_made, entities_made, spot_at, called_object, object_of_call, called_entity, object_of_kind, node_object, node_made, nodes_made, has_varargs, last_place, varargs_object, varargs_spot, varargs_made, made_of_names, made_in_order, objects_in}
use Rattle.obj_made.proofs.Ordered.{in_order-append}
use Rattle.obj_space.specs.Objects.{function_if, function_object, functions_below, LibraryRow, library_rows, is_needed, library_object, library_objects_from, library_objects, star_if, star_object, star_objects, outside_objects, takes_arguments, library_part, objects_of}
use Rattle.linked_laws.specs.location_laws.name_laws.Named.{IsEntity, IsNode}
use Rattle.linked_laws.proofs.location_laws.name_laws.Lists.{Every, Pairs, every_weaker, every_append, every_map, pairs_weaker, pairs_append, pairs_map, pairs_at}
use Rattle.linked_laws.proofs.location_laws.name_laws.Library.{library_rank, rank, Ascend, From, Below, across}

ranks_equal : (a b : ℕ) (o : Ordering) → o ≡ nat_cmp a b → o ≡ Equal → a ≡ b
ranks_equal a b Less h e = cc
ranks_equal a b Equal h e = ranked a b Equal h
ranks_equal a b Greater h e = cc

then_equal : (o q : Ordering) → ordering_then o q ≡ Equal → q ≡ Equal
then_equal Less q e = cc
then_equal Equal q e = e
then_equal Greater q e = cc

place_equal : (a b : Spot) → by_place a b ≡ Equal → a.3 ≡ b.3
place_equal a b e =
    let one = then_equal (nat_cmp a.0 b.0) _ e in
    let two = then_equal (nat_cmp a.1 b.1) _ one in
    let three = then_equal (nat_cmp a.2 b.2) _ two in
    ranks_equal a.3 b.3 (nat_cmp a.3 b.3) refl three

abbrev IsLess : ℕ → Spot × Object → Type 0
IsLess k m = m.0.3 < k

abbrev Apart : Spot × Object → Spot × Object → Type 0
Apart a b = a.0.3 ≡ b.0.3 → ⊥

module _ (spot : Spot) (o : Object) where
  put_every : (P : Spot × Object → Type 0) (done : Made) → P (spot, o) → Every (IsLess spot.3) done → Every P done → Every P (insert_entry by_place done spot o)
  put_every P [] h less e = (h, tt)
  put_every P ((k, v) ∷ rest) h (lt, less) (here, more) = by (by_place spot k) refl (put_every P rest h less more)
    where
      by : (q : Ordering) → by_place spot k ≡ q → Every P (insert_entry by_place rest spot o) → Every P (match_ordering q ((spot, o) ∷ (k, v) ∷ rest) ((k, o) ∷ rest) ((k, v) ∷ insert_entry by_place rest spot o))
      by Less is later = (h, (here, more))
      by Equal is later = (let same = place_equal spot k is in absurd (omega arith))
      by Greater is later = (here, later)

  put_pairs : (done : Made) → Every (IsLess spot.3) done → Pairs Apart done → Pairs Apart (insert_entry by_place done spot o)
  put_pairs [] less e = (tt, tt)
  put_pairs ((k, v) ∷ rest) (lt, less) (here, more) = by (by_place spot k) refl (put_pairs rest less more)
    where
      new_apart : Every (Apart (spot, o)) rest
      new_apart = every_weaker (IsLess spot.3) (Apart (spot, o)) rest (λ m l e. omega arith) less

      by : (q : Ordering) → by_place spot k ≡ q → Pairs Apart (insert_entry by_place rest spot o) → Pairs Apart (match_ordering q ((spot, o) ∷ (k, v) ∷ rest) ((k, o) ∷ rest) ((k, v) ∷ insert_entry by_place rest spot o))
      by Less is later = (((λ e. omega arith), new_apart), (here, more))
      by Equal is later = (let same = place_equal spot k is in absurd (omega arith))
      by Greater is later = (put_every (Apart (k, v)) rest (λ e. omega arith) less here, later)

module _ (p : Program) where
  -- an object with its number
  abbrev IsMadeBy : Spot × Object → Type 0
  IsMadeBy m = m.0.3 ≡ rank p m.1.key

  unless_declared : (place : Place) (e : ℕ) (storage : Storage) (o : Object) → rank p o.key ≡ e → Every IsMadeBy (made_at (spot_at place e) (object_unless_declared storage o))
  unless_declared place e Declared o is = tt
  unless_declared place e Static o is = (sym is, tt)
  unless_declared place e Automatic o is = (sym is, tt)
  unless_declared place e FunctionBody o is = (sym is, tt)
  unless_declared place e Parameter o is = (sym is, tt)

  module _ (n : ℕ) (node : Node) (spot : Spot) (number : spot.3 ≡ length p.entities.items + n) where
    allocated_by : (x : Entity) (k : ℕ) (b : Bool) (o : Object) → rank p o.key ≡ length p.entities.items + n → Every IsMadeBy (made_at spot (if b then Some o else None))
    allocated_by x k true o is = (number ∙ sym is, tt)
    allocated_by x k false o is = tt

    called_by : (x : Entity) (o : Option ℕ) → Every IsMadeBy (made_at spot (called_object p n node x o))
    called_by x None = tt
    called_by x (Some k) = allocated_by x k (is_allocator k) _ refl

    call_by : (o : Option Entity) → Every IsMadeBy (made_at spot (object_of_call p n node o))
    call_by None = tt
    call_by (Some x) = called_by x (entity_number x)

    kind_by : (kind : NodeKind) → Every IsMadeBy (made_at spot (object_of_kind p n node kind))
    kind_by (Text bytes) = (number, tt)
    kind_by CallNode = call_by (called_entity p.nodes.items p.entities.items node)
    kind_by kind = tt

  -- these have numbers below k, and are put in their places
  pub record AreMade (k : ℕ) (done : Made) : Type 0 where
    pub each : Every (IsMadeBy) done
    pub less : Every (IsLess k) done
    pub apart : Pairs Apart done

  made_more : (k : ℕ) (done : Made) → AreMade k done → AreMade (k + 1) done
  made_more k done a = record { each = a.each; less = every_weaker (IsLess k) (IsLess (k + 1)) done (λ m lt. omega arith) a.less; apart = a.apart }

  put_made : (place : Place) (k : ℕ) (o : Option Object) (done : Made) → Every (IsMadeBy) (made_at (spot_at place k) o) → AreMade k done → AreMade (k + 1) (in_order done (made_at (spot_at place k) o))
  put_made place k None done e a = made_more k done a
  put_made place k (Some o) done (one, rest) a = record {
    each = put_every (spot_at place k) o (IsMadeBy) done one a.less a.each;
    less = put_every (spot_at place k) o (IsLess (k + 1)) done (omega arith) a.less (every_weaker (IsLess k) (IsLess (k + 1)) done (λ m lt. omega arith) a.less);
    apart = put_pairs (spot_at place k) o done a.less a.apart;
  }

  entities_right : (k : ℕ) (xs : List Entity) (done : Made) → ((i : ℕ) (x : Entity) → slice_get xs i ≡ Some x → IsEntity p (k + i) x) → AreMade k done
      → AreMade (k + length xs) (in_order done (entities_made p k xs))
  entities_right k [] done f a = subst (λ n. AreMade n done) (omega arith) a
  entities_right k (x ∷ rest) done f a =
      let here : IsEntity p k x = subst (λ n. IsEntity p n x) (omega arith) (f 0 x refl) in
      let one = put_made x.place k (entity_object p k x) done (unless_declared x.place k x.storage _ refl) a in
      let all = entities_right (k + 1) rest (in_order done (entity_made p k x)) (λ i y at. subst (λ n. IsEntity p n y) (omega arith) (f (suc i) y at)) one in
      subst (λ n. AreMade n (in_order done (entity_made p k x ++ entities_made p (k + 1) rest))) (omega arith)
      (subst (AreMade (k + 1 + length rest)) (sym (in_order-append done (entity_made p k x) (entities_made p (k + 1) rest))) all)

  nodes_right : (n : ℕ) (xs : List Node) (done : Made) → ((i : ℕ) (x : Node) → slice_get xs i ≡ Some x → IsNode p (n + i) x) → AreMade (length p.entities.items + n) done
      → AreMade (length p.entities.items + (n + length xs)) (in_order done (nodes_made p n xs))
  nodes_right n [] done f a = subst (λ m. AreMade m done) (omega arith) a
  nodes_right n (x ∷ rest) done f a =
      let here : IsNode p n x = subst (λ m. IsNode p m x) (omega arith) (f 0 x refl) in
      let one = put_made x.place (length p.entities.items + n) (node_object p n x) done (kind_by n x (spot_at x.place (length p.entities.items + n)) refl x.kind) a in
      let all = nodes_right (n + 1) rest (in_order done (node_made p n x)) (λ i y at. subst (λ m. IsNode p m y) (omega arith) (f (suc i) y at))
      (subst (λ m. AreMade m (in_order done (node_made p n x))) (omega arith) one) in
      subst (λ m. AreMade m (in_order done (node_made p n x ++ nodes_made p (n + 1) rest))) (omega arith)
      (subst (AreMade (length p.entities.items + (n + 1 + length rest))) (sym (in_order-append done (node_made p n x) (nodes_made p (n + 1) rest))) all)

  further_by : (e : ℕ) (x : Entity) (b : Bool) (o : Object) → rank p o.key ≡ length p.entities.items + length p.nodes.items + e → Every IsMadeBy (made_at (varargs_spot p e x) (if b then Some o else None))
  further_by e x true o is = (sym is, tt)
  further_by e x false o is = tt

  further_right : (e : ℕ) (xs : List Entity) (done : Made) → AreMade (length p.entities.items + length p.nodes.items + e) done → AreMade (length p.entities.items + length p.nodes.items + (e + length xs)) (in_order done (varargs_made p e xs))
  further_right e [] done a = subst (λ m. AreMade m done) (omega arith) a
  further_right e (x ∷ rest) done a =
      let put : Made = made_at (varargs_spot p e x) (varargs_object p e x) in
      let one = put_made (last_place x.place e p.entities.items) (length p.entities.items + length p.nodes.items + e) (varargs_object p e x) done (further_by e x (has_varargs p.types x) _ refl) a in
      let all = further_right (e + 1) rest (in_order done put) (subst (λ m. AreMade m (in_order done put)) (omega arith) one) in
      subst (λ m. AreMade m (in_order done (put ++ varargs_made p (e + 1) rest))) (omega arith)
      (subst (AreMade (length p.entities.items + length p.nodes.items + (e + 1 + length rest))) (sym (in_order-append done put (varargs_made p (e + 1) rest))) all)

  none_made : AreMade 0 []
  none_made = record { each = tt; less = tt; apart = tt }

  all_made : AreMade (library_rank p) (made_in_order p)
  all_made =
      let entities = entities_right 0 p.entities.items [] (λ i x at. subst (λ n. IsEntity p n x) (omega arith) at) none_made in
      let nodes = nodes_right 0 p.nodes.items (in_order [] (entities_made p 0 p.entities.items)) (λ i x at. subst (λ n. IsNode p n x) (omega arith) at)
      (subst (λ n. AreMade n (in_order [] (entities_made p 0 p.entities.items))) (omega arith) entities) in
      let further = further_right 0 p.entities.items (made_of_names p) (subst (λ n. AreMade n (made_of_names p)) (omega arith) nodes) in
      subst (λ n. AreMade n (made_in_order p)) (omega arith) further

  -- ---- the library's objects
  record AreRanked (low high : ℕ) (objects : List Object) : Type 0 where
    from : Every (From p low) objects
    below : Every (Below p high) objects
    ascend : Pairs (Ascend p) objects

  none_ranked : (low high : ℕ) → AreRanked low high []
  none_ranked low high = record { from = tt; below = tt; ascend = tt }

  one_ranked : (low high : ℕ) (o : Object) → low ≤ rank p o.key → rank p o.key < high → AreRanked low high (o ∷ [])
  one_ranked low high o le lt = record { from = (le, tt); below = (lt, tt); ascend = (tt, tt) }

  both_ranked : (low between high : ℕ) (xs ys : List Object) → low ≤ between → between ≤ high → AreRanked low between xs → AreRanked between high ys → AreRanked low high (xs ++ ys)
  both_ranked low between high xs ys lb bh a b = record {
    from = every_append (From p low) xs ys a.from (every_weaker (From p between) (From p low) ys (λ y le. omega arith) b.from);
    below = every_append (Below p high) xs ys (every_weaker (Below p between) (Below p high) xs (λ x lt. omega arith) a.below) b.below;
    ascend = pairs_append (Ascend p) xs ys a.ascend b.ascend (across p between xs ys a.below b.from);
  }

  wider : (low high down up : ℕ) (xs : List Object) → down ≤ low → high ≤ up → AreRanked low high xs → AreRanked down up xs
  wider low high down up xs dl hu h = record {
    from = every_weaker (From p low) (From p down) xs (λ x le. omega arith) h.from;
    below = every_weaker (Below p high) (Below p up) xs (λ x lt. omega arith) h.below;
    ascend = h.ascend;
  }

  abbrev start : ℕ
  start = library_rank p

  function_ranked : (k : ℕ) (b : Bool) → AreRanked (start + k) (start + suc k) (function_if b k)
  function_ranked k true = one_ranked (start + k) (start + suc k) _ (omega arith) (omega arith)
  function_ranked k false = none_ranked (start + k) (start + suc k)

  functions_ranked : (n : ℕ) → AreRanked start (start + n) (functions_below p n)
  unfolding functions_below
  functions_ranked zero = none_ranked start (start + 0)
  functions_ranked (suc n) =
      both_ranked start (start + n) (start + suc n) (functions_below p n) (function_object p n) (omega arith) (omega arith) (functions_ranked n)
      (function_ranked n (is_named p.entities.items p.nodes.items n))

  row_ranked : (k : ℕ) (b : Bool) (name : List ℕ) (content : Content) → AreRanked (start + (100 + k)) (start + (100 + (k + 1))) (if b then record { key = LibraryKey k; name = name; content = content } ∷ [] else [])
  row_ranked k true name content = one_ranked (start + (100 + k)) (start + (100 + (k + 1))) _ (omega arith) (omega arith)
  row_ranked k false name content = none_ranked (start + (100 + k)) (start + (100 + (k + 1)))

  rows_ranked : (named : ℕ → Bool) (arguments : Bool) (k : ℕ) (table : List LibraryRow) → AreRanked (start + (100 + k)) (start + (100 + (k + length table))) (library_objects_from named arguments k table)
  rows_ranked named arguments k [] = none_ranked (start + (100 + k)) (start + (100 + (k + 0)))
  rows_ranked named arguments k (r ∷ rest) =
      both_ranked (start + (100 + k)) (start + (100 + (k + 1))) (start + (100 + (k + length (r ∷ rest)))) (library_object named arguments k r) (library_objects_from named arguments (k + 1) rest) (omega arith) (omega arith)
      (row_ranked k (is_needed named arguments r) r.name r.content)
      (subst (λ n. AreRanked (start + (100 + (k + 1))) (start + (100 + n)) (library_objects_from named arguments (k + 1) rest)) (omega arith) (rows_ranked named arguments (k + 1) rest))

  eleven : length library_rows ≡ 11
  unfolding library_rows
  eleven = refl

  objects_ranked : (named : ℕ → Bool) (arguments : Bool) → AreRanked (start + 100) (start + 200) (library_objects named arguments)
  unfolding library_objects
  objects_ranked named arguments =
      let rows = rows_ranked named arguments 0 library_rows in
      let count = eleven in
      wider (start + (100 + 0)) (start + (100 + (0 + length library_rows))) (start + 100) (start + 200) (library_objects_from named arguments 0 library_rows) (omega arith) (omega arith) rows

  star_by : (k : ℕ) (b : Bool) → AreRanked (start + (200 + k)) (start + (200 + suc k)) (star_if b k)
  star_by k true = one_ranked (start + (200 + k)) (start + (200 + suc k)) _ (omega arith) (omega arith)
  star_by k false = none_ranked (start + (200 + k)) (start + (200 + suc k))

  star_ranked : (k low high : ℕ) → low ≤ start + (200 + k) → start + (200 + suc k) ≤ high → AreRanked low high (star_object p k)
  star_ranked k low high le ge = wider (start + (200 + k)) (start + (200 + suc k)) low high (star_object p k) le ge (star_by k (is_starred p.entities.items p.nodes.items k))

  stars_ranked : AreRanked (start + 200) (start + 222) (star_objects p)
  stars_ranked =
      both_ranked (start + 200) (start + 201) (start + 222) (star_object p 0) (star_object p 1 ++ (star_object p 2 ++ star_object p 21)) (omega arith) (omega arith)
      (star_ranked 0 (start + 200) (start + 201) (omega arith) (omega arith))
      (both_ranked (start + 201) (start + 202) (start + 222) (star_object p 1) (star_object p 2 ++ star_object p 21) (omega arith) (omega arith)
      (star_ranked 1 (start + 201) (start + 202) (omega arith) (omega arith))
      (both_ranked (start + 202) (start + 203) (start + 222) (star_object p 2) (star_object p 21) (omega arith) (omega arith)
      (star_ranked 2 (start + 202) (start + 203) (omega arith) (omega arith))
      (star_ranked 21 (start + 203) (start + 222) (omega arith) (omega arith))))

  outside_ranked : (entries : List ℕ) → AreRanked (start + 222) (start + 223) (outside_objects entries)
  outside_ranked [] = none_ranked (start + 222) (start + 223)
  outside_ranked (e ∷ rest) = one_ranked (start + 222) (start + 223) _ (omega arith) (omega arith)

  library_ranked : AreRanked start (start + 223) (library_part p)
  library_ranked =
      let arguments = takes_arguments p in
      let named : ℕ → Bool = is_named p.entities.items p.nodes.items in
      let outside = outside_objects p.entries.items in
      both_ranked start (start + 100) (start + 223) (functions_below p 55) (library_objects named arguments ++ (star_objects p ++ outside)) (omega arith) (omega arith)
      (wider start (start + 55) start (start + 100) (functions_below p 55) (omega arith) (omega arith) (functions_ranked 55))
      (both_ranked (start + 100) (start + 200) (start + 223) (library_objects named arguments) (star_objects p ++ outside) (omega arith) (omega arith)
      (objects_ranked named arguments)
      (both_ranked (start + 200) (start + 222) (start + 223) (star_objects p) outside (omega arith) (omega arith) stars_ranked (outside_ranked p.entries.items)))

  -- ---- all objects
  abbrev KeysDiffer : Object → Object → Type 0
  KeysDiffer a b = a.key ≡ b.key → ⊥

  one_apart : (a : Spot × Object) (rest : Made) → IsMadeBy a → Every IsMadeBy rest → Every (Apart a) rest → Every (λ b. KeysDiffer a.1 b.1) rest
  one_apart a [] x xs e = tt
  one_apart a (b ∷ rest) x (y, ys) (apart, more) = ((λ same. apart (x ∙ (ap (rank p) same ∙ sym y))), one_apart a rest x ys more)

  all_apart : (made : Made) → Every IsMadeBy made → Pairs Apart made → Pairs (λ a b. KeysDiffer a.1 b.1) made
  all_apart [] e a = tt
  all_apart (m ∷ rest) (x, xs) (here, more) = (one_apart m rest x xs here, all_apart rest xs more)

  made_below : (made : Made) → Every IsMadeBy made → Every (IsLess start) made → Every (λ m. Below p start m.1) made
  made_below [] e l = tt
  made_below (m ∷ rest) (x, xs) (lt, less) = ((let number : m.0.3 ≡ rank p m.1.key = x in omega arith), made_below rest xs less)

  far : (n : ℕ) (xs ys : List Object) → Every (Below p n) xs → Every (From p n) ys → Every (λ x. Every (KeysDiffer x) ys) xs
  far n [] ys b f = tt
  far n (x ∷ xs) ys (lt, more) f =
      (every_weaker (From p n) (KeysDiffer x) ys (λ y le same. (let ranks = ap (rank p) same in omega arith)) f, far n xs ys more f)

  keys_differ : Pairs KeysDiffer (objects_of p)
  keys_differ =
      let all = all_made in
      let library = library_ranked in
      pairs_append KeysDiffer (objects_in (made_in_order p)) (library_part p)
      (pairs_map KeysDiffer (λ (m : Spot × Object). m.1) (made_in_order p) (all_apart (made_in_order p) all.each all.apart))
      (pairs_weaker (Ascend p) KeysDiffer (library_part p) (λ a b lt same. (let ranks = ap (rank p) same in omega arith)) library.ascend)
      (far start (objects_in (made_in_order p)) (library_part p)
      (every_map (Below p start) (λ (m : Spot × Object). m.1) (made_in_order p) (made_below (made_in_order p) all.each all.less)) library.from)

  pub once : (i j : ℕ) (a b : Object) → slice_get (objects_of p) i ≡ Some a → slice_get (objects_of p) j ≡ Some b → a.key ≡ b.key → i ≡ j
  once i j a b at there keys = elim (cases_eq i j) [
    | inl same ↦ same
    | inr ne ↦ elim (cases_lt i j) [
      | inl less ↦ absurd (pairs_at KeysDiffer (objects_of p) i j a b keys_differ less at there keys)
      | inr more ↦ absurd (pairs_at KeysDiffer (objects_of p) j i b a keys_differ (omega arith) there at (sym keys))
    ]
  ]
