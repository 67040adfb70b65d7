-- Programs that are one have as many locations.
use Rattle.std.proofs.Common.{arith, ◌≡◌, ◌∙◌, ◌+◌, ◌<◌, ◌≤◌, ℕ, zero, suc, Bool, true, false, List, [], ◌∷◌, ◌++◌, map, length, length-append, Option, Some, None, refl, sym, ap, subst}
use Rattle.std.specs.Prelude.{⊤, sum, if◌then◌else◌, nat_eq}
use Rattle.std.specs.List.{slice_get, flat_map}
use Rattle.std.specs.declared.cmp.Ordering.{Ordering}
use Rattle.std.specs.declared.cmp.Ordering.TheVariants.{Less, Equal, Greater}
use Rattle.std.specs.Ordering.{match_ordering, nat_cmp, ordering_then}
use Rattle.std.specs.BTreeMap.{insert_entry}
use Rattle.std.proofs.lemmas.Cmp.{ranked}
use Rattle.std.proofs.lemmas.List.{length-map}
use Rattle.std.proofs.lemmas.Option.{slice_get_within}
use Rattle.pta_base.specs.declared.place.Place.{Place}
use Rattle.c_types.specs.declared.key.ObjectKey.TheVariants.{Library as LibraryKey, Varargs as VarargsKey}
use Rattle.c_types.specs.declared.term.TypeId.{TypeId}
use Rattle.c_types.specs.Table.{Table, type_of}
use Rattle.core_tree.specs.declared.node.Node.{Node}
use Rattle.core_tree.specs.declared.node.Entity.{Entity}
use Rattle.core_tree.specs.declared.node.Storage.{Storage}
use Rattle.core_tree.specs.declared.node.Storage.TheVariants.{Static, Automatic, FunctionBody, Parameter, Declared}
use Rattle.core_tree.specs.declared.node.Program.{Program}
use Rattle.obj_made.specs.declared.object.Content.{Content}
use Rattle.obj_made.specs.declared.object.Content.TheVariants.{Function, Blob, Scalar, Scalars, Typed, Elements}
use Rattle.obj_made.specs.declared.object.Object.{Object}
use Rattle.obj_made.specs.Spelling.{varargs_name}
use Rattle.obj_made.specs.Uses.{is_named, is_starred}
use Rattle.obj_made.specs.Made.{Spot, spot_at, by_place, Made, in_order, entity_content, object_unless_declared, entity_object, made_at, entity_made, entities_made, node_object, node_made, nodes_made, last_place, has_varargs, varargs_object, varargs_spot, varargs_made, made_of_names, made_in_order, objects_in}
use Rattle.obj_made.proofs.Ordered.{in_order-append}
use Rattle.obj_space.specs.Parts.{parts_of}
use Rattle.obj_space.specs.Objects.{named_object, function_if, function_object, functions_below, LibraryRow, library_rows, is_needed, library_object, library_objects_from, library_objects, star_if, star_object, star_objects, takes_arguments, outside_objects, library_part, objects_of}
use Rattle.obj_space.specs.Space.{located, locations_by, locations_of, locations_in, IsKnown}
use Rattle.twin_report_laws.specs.outcome_laws.twin_programs.One.{Numbers, LeadsTo}
use Rattle.twin_report_laws.specs.outcome_laws.twin_words.Words.{IsSound}
use Rattle.twin_report_laws.proofs.outcome_laws.twin_words.Sums.{some_one, none_some, sum-cons, sum_same}
use Rattle.twin_report_laws.proofs.outcome_laws.twin_words.Calls.{content_size, object_size, node_size_same}
use Rattle.twin_report_laws.proofs.outcome_laws.twin_words.Tables.{parts_there}
use Rattle.twin_report_laws.proofs.outcome_laws.twin_words.Uses.{named_same, arguments_same, outside_same, starred_same}
use Rattle.twin_report_laws.proofs.outcome_laws.twin_locations.Further.{has_same}

-- how many locations objects have
total : Table → List Object → ℕ
total table [] = 0
total table (o ∷ rest) = content_size table o.content + total table rest

located_size : (table : Table) (o : Object) (content : Content) → length (locations_by table o content) ≡ content_size table content
located_size table o Function = refl
located_size table o Blob = refl
located_size table o (Scalar number) = refl
located_size table o (Scalars number) = refl
located_size table o (Typed id) = length-map (parts_of table (type_of table id.0)) (located o.key o.content o.name)
located_size table o (Elements id) = length-map (parts_of table (type_of table id.0)) (located o.key o.content o.name)

located_total : (table : Table) (os : List Object) → length (flat_map (locations_of table) os) ≡ total table os
unfolding total
located_total table [] = refl
located_total table (o ∷ rest) =
    let one = length-append (locations_of table o) (flat_map (locations_of table) rest) in
    let here : length (locations_of table o) ≡ content_size table o.content = located_size table o o.content in
    let more = located_total table rest in
    omega (arith, one, here, more)

total-append : (table : Table) (a b : List Object) → total table (a ++ b) ≡ total table a + total table b
unfolding total
total-append table [] b = omega arith
total-append table (o ∷ a) b = let more = total-append table a b in omega (arith, more)

-- the same of what is made
made_total : Table → Made → ℕ
made_total table [] = 0
made_total table (m ∷ rest) = content_size table m.1.content + made_total table rest

objects_total : (table : Table) (made : Made) → total table (objects_in made) ≡ made_total table made
unfolding total made_total
objects_total table [] = refl
objects_total table (m ∷ rest) = ap (λ n. content_size table m.1.content + n) (objects_total table rest)

-- ---- what is put in its place is added
ranks_equal : (a b : ℕ) (o : Ordering) → o ≡ nat_cmp a b → o ≡ Equal → a ≡ b
ranks_equal a b Less h e = absurd (cc)
ranks_equal a b Equal h e = ranked a b Equal h
ranks_equal a b Greater h e = absurd (cc)

then_equal : (o q : Ordering) → ordering_then o q ≡ Equal → q ≡ Equal
then_equal Less q e = absurd (cc)
then_equal Equal q e = e
then_equal Greater q e = absurd (cc)

place_equal : (a b : Spot) → by_place a b ≡ Equal → a.3 ≡ b.3
place_equal a b e =
    let one = then_equal (nat_cmp a.0 b.0) _ e in
    let two = then_equal (nat_cmp a.1 b.1) _ one in
    let three = then_equal (nat_cmp a.2 b.2) _ two in
    ranks_equal a.3 b.3 (nat_cmp a.3 b.3) refl three

-- the numbers of all that is made are below one
abbrev Below : ℕ → Made → Type 0
Below k [] = ⊤
Below k (m ∷ rest) = (m.0.3 < k) × Below k rest

below_more : (k n : ℕ) (made : Made) → k ≤ n → Below k made → Below n made
below_more k n [] le h = tt
below_more k n (m ∷ rest) le h = (let lt = h.0 in omega (arith, lt, le), below_more k n rest le h.1)

module _ (table : Table) (spot : Spot) (o : Object) where
  put_below : (k : ℕ) (done : Made) → spot.3 < k → Below k done → Below k (insert_entry by_place done spot o)
  put_below k [] lt h = (lt, tt)
  put_below k (m ∷ rest) lt h = by (by_place spot m.0) (put_below k rest lt h.1)
    where
      by : (q : Ordering) → Below k (insert_entry by_place rest spot o) → Below k (match_ordering q ((spot, o) ∷ m ∷ rest) ((m.0, o) ∷ rest) (m ∷ insert_entry by_place rest spot o))
      by Less later = (lt, h)
      by Equal later = h
      by Greater later = (h.0, later)

  put_total : (done : Made) → Below spot.3 done → made_total table (insert_entry by_place done spot o) ≡ content_size table o.content + made_total table done
  unfolding made_total
  put_total [] h = refl
  put_total (m ∷ rest) h = by (by_place spot m.0) refl (put_total rest h.1)
    where
      by : (q : Ordering) → by_place spot m.0 ≡ q → made_total table (insert_entry by_place rest spot o) ≡ content_size table o.content + made_total table rest
          → made_total table (match_ordering q ((spot, o) ∷ m ∷ rest) ((m.0, o) ∷ rest) (m ∷ insert_entry by_place rest spot o)) ≡ content_size table o.content + (content_size table m.1.content + made_total table rest)
      by Less is later = refl
      by Equal is later = (let same = place_equal spot m.0 is in let lt = h.0 in absurd (omega (arith, same, lt)))
      by Greater is later = omega (arith, later)

-- what is made at one place, behind what has smaller numbers
record Follows (table : Table) (k : ℕ) (done now : Made) (more : ℕ) : Type 0 where
  below : Below k now
  sum_is : made_total table now ≡ made_total table done + more

put_one : (table : Table) (place : Place) (k : ℕ) (o : Option Object) (done : Made) → Below k done → Follows table (k + 1) done (in_order done (made_at (spot_at place k) o)) (object_size table o)
put_one table place k None done h = record { below = below_more k (k + 1) done (omega arith) h; sum_is = omega arith }
put_one table place k (Some o) done h =
    let one = put_total table (spot_at place k) o done h in
    record { below = put_below table (spot_at place k) o (k + 1) done (omega arith) (below_more k (k + 1) done (omega arith) h); sum_is = omega (arith, one) }

-- ---- entities
entity_size : Table → Storage → TypeId → ℕ
entity_size table Declared ty = 0
entity_size table FunctionBody ty = 1
entity_size table storage ty = length (parts_of table (type_of table ty.0))

entity_sizes : Table → List Entity → List ℕ
entity_sizes table xs = map (λ (x : Entity). entity_size table x.storage x.ty) xs

unless_size : (table : Table) (storage : Storage) (ty : TypeId) (o : Object) → o.content ≡ entity_content storage ty → object_size table (object_unless_declared storage o) ≡ entity_size table storage ty
unfolding entity_size
unless_size table Declared ty o is = refl
unless_size table FunctionBody ty o is = ap (content_size table) is
unless_size table Static ty o is = ap (content_size table) is
unless_size table Automatic ty o is = ap (content_size table) is
unless_size table Parameter ty o is = ap (content_size table) is

entities_follow : (p : Program) (k : ℕ) (xs : List Entity) (done : Made) → Below k done → Follows p.types (k + length xs) done (in_order done (entities_made p k xs)) (sum (entity_sizes p.types xs))
unfolding entity_sizes
entities_follow p k [] done h = record { below = below_more k (k + 0) done (omega arith) h; sum_is = omega arith }
entities_follow p k (x ∷ rest) done h =
    let first = put_one p.types x.place k (entity_object p k x) done h in
    let now = in_order done (entity_made p k x) in
    let later = entities_follow p (k + 1) rest now first.below in
    let whole : in_order done (entities_made p k (x ∷ rest)) ≡ in_order now (entities_made p (k + 1) rest) = in_order-append done (entity_made p k x) (entities_made p (k + 1) rest) in
    let one : object_size p.types (entity_object p k x) ≡ entity_size p.types x.storage x.ty = unless_size p.types x.storage x.ty _ refl in
    let all = sum-cons (entity_size p.types x.storage x.ty) (map (λ (y : Entity). entity_size p.types y.storage y.ty) rest) in
    let a = first.sum_is in
    let b = later.sum_is in
    let same : made_total p.types (in_order done (entities_made p k (x ∷ rest))) ≡ made_total p.types (in_order now (entities_made p (k + 1) rest)) = ap (made_total p.types) whole in
    record {
      below = subst (λ (m : Made). Below (k + suc (length rest)) m) (sym whole) (below_more ((k + 1) + length rest) (k + suc (length rest)) (in_order now (entities_made p (k + 1) rest)) (omega arith) later.below);
      sum_is = omega (arith, same, one, all, a, b);
    }

-- ---- nodes
node_sizes : Program → ℕ → List Node → List ℕ
node_sizes p n [] = []
node_sizes p n (x ∷ rest) = object_size p.types (node_object p n x) ∷ node_sizes p (n + 1) rest

nodes_follow : (p : Program) (n : ℕ) (xs : List Node) (done : Made) → Below (length p.entities.items + n) done
    → Follows p.types (length p.entities.items + (n + length xs)) done (in_order done (nodes_made p n xs)) (sum (node_sizes p n xs))
unfolding node_sizes
nodes_follow p n [] done h = record { below = below_more (length p.entities.items + n) (length p.entities.items + (n + 0)) done (omega arith) h; sum_is = omega arith }
nodes_follow p n (x ∷ rest) done h =
    let first = put_one p.types x.place (length p.entities.items + n) (node_object p n x) done h in
    let now = in_order done (node_made p n x) in
    let later = nodes_follow p (n + 1) rest now (below_more ((length p.entities.items + n) + 1) (length p.entities.items + (n + 1)) now (omega arith) first.below) in
    let whole : in_order done (nodes_made p n (x ∷ rest)) ≡ in_order now (nodes_made p (n + 1) rest) = in_order-append done (node_made p n x) (nodes_made p (n + 1) rest) in
    let all = sum-cons (object_size p.types (node_object p n x)) (node_sizes p (n + 1) rest) in
    let a = first.sum_is in
    let b = later.sum_is in
    let same : made_total p.types (in_order done (nodes_made p n (x ∷ rest))) ≡ made_total p.types (in_order now (nodes_made p (n + 1) rest)) = ap (made_total p.types) whole in
    record {
      below = subst (λ (m : Made). Below (length p.entities.items + (n + suc (length rest))) m) (sym whole)
          (below_more (length p.entities.items + ((n + 1) + length rest)) (length p.entities.items + (n + suc (length rest))) (in_order now (nodes_made p (n + 1) rest)) (omega arith) later.below);
      sum_is = omega (arith, same, all, a, b);
    }

nothing : (table : Table) → made_total table [] ≡ 0
unfolding made_total
nothing table = refl

-- ---- what functions are passed past their parameters
abbrev one_if : Bool → ℕ
one_if has = if has then 1 else 0

further_sizes : Table → List Entity → List ℕ
further_sizes table xs = map (λ (x : Entity). one_if (has_varargs table x)) xs

further_size : (p : Program) (e : ℕ) (x : Entity) → object_size p.types (varargs_object p e x) ≡ one_if (has_varargs p.types x)
further_size p e x = by (has_varargs p.types x)
  where
    by : (b : Bool) → object_size p.types (if b then Some (record { key = VarargsKey e; name = varargs_name p.names.items x; content = Blob }) else None) ≡ one_if b
    by true = refl
    by false = refl

further_follow : (p : Program) (k : ℕ) (xs : List Entity) (done : Made) → Below (length p.entities.items + length p.nodes.items + k) done
    → Follows p.types (length p.entities.items + length p.nodes.items + (k + length xs)) done (in_order done (varargs_made p k xs)) (sum (further_sizes p.types xs))
unfolding further_sizes
further_follow p k [] done h = record { below = below_more (length p.entities.items + length p.nodes.items + k) (length p.entities.items + length p.nodes.items + (k + 0)) done (omega arith) h; sum_is = omega arith }
further_follow p k (x ∷ rest) done h =
    let start : ℕ = length p.entities.items + length p.nodes.items in
    let first = put_one p.types (last_place x.place k p.entities.items) (start + k) (varargs_object p k x) done h in
    let now = in_order done (made_at (varargs_spot p k x) (varargs_object p k x)) in
    let later = further_follow p (k + 1) rest now (below_more ((start + k) + 1) (start + (k + 1)) now (omega arith) first.below) in
    let whole : in_order done (varargs_made p k (x ∷ rest)) ≡ in_order now (varargs_made p (k + 1) rest) = in_order-append done (made_at (varargs_spot p k x) (varargs_object p k x)) (varargs_made p (k + 1) rest) in
    let one = further_size p k x in
    let all = sum-cons (one_if (has_varargs p.types x)) (map (λ (y : Entity). one_if (has_varargs p.types y)) rest) in
    let a = first.sum_is in
    let b = later.sum_is in
    let same : made_total p.types (in_order done (varargs_made p k (x ∷ rest))) ≡ made_total p.types (in_order now (varargs_made p (k + 1) rest)) = ap (made_total p.types) whole in
    record {
      below = subst (λ (m : Made). Below (start + (k + suc (length rest))) m) (sym whole) (below_more (start + ((k + 1) + length rest)) (start + (k + suc (length rest))) (in_order now (varargs_made p (k + 1) rest)) (omega arith) later.below);
      sum_is = omega (arith, same, one, all, a, b);
    }

-- all that tokens make
made_sum : (p : Program) → made_total p.types (made_in_order p) ≡ (sum (entity_sizes p.types p.entities.items) + sum (node_sizes p 0 p.nodes.items)) + sum (further_sizes p.types p.entities.items)
made_sum p =
    let first = entities_follow p 0 p.entities.items [] tt in
    let middle = in_order [] (entities_made p 0 p.entities.items) in
    let second = nodes_follow p 0 p.nodes.items middle (below_more (0 + length p.entities.items) (length p.entities.items + 0) middle (omega arith) first.below) in
    let named = made_of_names p in
    let third = further_follow p 0 p.entities.items named
    (below_more (length p.entities.items + (0 + length p.nodes.items)) (length p.entities.items + length p.nodes.items + 0) named (omega arith) second.below) in
    let a = first.sum_is in
    let b = second.sum_is in
    let c = third.sum_is in
    let none : made_total p.types [] ≡ 0 = nothing p.types in
    omega (arith, a, b, c, none)

-- ---- the library
-- objects that are made of no type of the table
abbrev pub AllKnown : List Object → Type 0
AllKnown [] = ⊤
AllKnown (o ∷ rest) = IsKnown o.content × AllKnown rest

known_append : (a b : List Object) → AllKnown a → AllKnown b → AllKnown (a ++ b)
known_append [] b h k = k
known_append (o ∷ a) b h k = (h.0, known_append a b h.1 k)

known_size : (table : Table) (c : Content) → IsKnown c → content_size table c ≡ 1
known_size table Function h = refl
known_size table Blob h = refl
known_size table (Scalar number) h = refl
known_size table (Scalars number) h = refl
known_size table (Typed id) h = absurd h
known_size table (Elements id) h = absurd h

known_total : (table : Table) (os : List Object) → AllKnown os → total table os ≡ length os
unfolding total
known_total table [] h = refl
known_total table (o ∷ rest) h =
    let one = known_size table o.content h.0 in
    let more = known_total table rest h.1 in
    omega (arith, one, more)

functions_known : (p : Program) (n : ℕ) → AllKnown (functions_below p n)
unfolding functions_below
functions_known p zero = tt
functions_known p (suc n) = known_append (functions_below p n) (function_object p n) (functions_known p n) (by (is_named p.entities.items p.nodes.items n))
  where
    by : (b : Bool) → AllKnown (function_if b n)
    by true = (tt, tt)
    by false = tt

abbrev RowsKnown : List LibraryRow → Type 0
RowsKnown [] = ⊤
RowsKnown (row ∷ rest) = IsKnown row.content × RowsKnown rest

library_known : (named : ℕ → Bool) (arguments : Bool) (k : ℕ) (rows : List LibraryRow) → RowsKnown rows → AllKnown (library_objects_from named arguments k rows)
library_known named arguments k [] h = tt
library_known named arguments k (row ∷ rest) h =
    known_append (library_object named arguments k row) (library_objects_from named arguments (k + 1) rest) (by (is_needed named arguments row)) (library_known named arguments (k + 1) rest h.1)
  where
    by : (b : Bool) → AllKnown (if b then named_object (LibraryKey k) row.name row.content ∷ [] else [])
    by true = (h.0, tt)
    by false = tt

rows_known : RowsKnown library_rows
unfolding library_rows
rows_known = (tt, (tt, (tt, (tt, (tt, (tt, (tt, (tt, (tt, (tt, (tt, tt)))))))))))

star_known : (b : Bool) (k : ℕ) → AllKnown (star_if b k)
star_known true k = (by (nat_eq k 21), tt)
  where
    by : (b : Bool) → IsKnown (if b then Scalars 0 else Blob)
    by true = tt
    by false = tt
star_known false k = tt

outside_known : (entries : List ℕ) → AllKnown (outside_objects entries)
outside_known [] = tt
outside_known (e ∷ rest) = (tt, tt)

pub library_part_known : (p : Program) → AllKnown (library_part p)
unfolding library_objects
library_part_known p =
    let named = is_named p.entities.items p.nodes.items in
    let starred = is_starred p.entities.items p.nodes.items in
    let last = outside_objects p.entries.items in
    known_append (functions_below p 55) (library_objects named (takes_arguments p) ++ (star_objects p ++ last)) (functions_known p 55)
    (known_append (library_objects named (takes_arguments p)) (star_objects p ++ last) (library_known named (takes_arguments p) 0 library_rows rows_known)
    (known_append (star_objects p) last
    (known_append (star_object p 0) (star_object p 1 ++ (star_object p 2 ++ star_object p 21)) (star_known (starred 0) 0)
    (known_append (star_object p 1) (star_object p 2 ++ star_object p 21) (star_known (starred 1) 1)
    (known_append (star_object p 2) (star_object p 21) (star_known (starred 2) 2) (star_known (starred 21) 21))))
    (outside_known p.entries.items)))

module _ (p q : Program) (to back : Numbers) (l : LeadsTo p q to back) (r : LeadsTo q p back to) where
  functions_same : (n : ℕ) → functions_below q n ≡ functions_below p n
  unfolding functions_below
  functions_same zero = refl
  functions_same (suc n) =
      ap (λ (os : List Object). os ++ function_object q n) (functions_same n) ∙ ap (λ (b : Bool). functions_below p n ++ function_if b n) (named_same p q to back l r n)

  names_same : ◌≡◌ {A = ℕ → Bool} (is_named q.entities.items q.nodes.items) (is_named p.entities.items p.nodes.items)
  names_same = λ i k. named_same p q to back l r k i

  pub library_same : library_part q ≡ library_part p
  library_same =
      let named = is_named p.entities.items p.nodes.items in
      let starred = is_starred p.entities.items p.nodes.items in
      let first : star_objects q ≡ star_objects p =
      ap (λ (b : Bool). star_if b 0 ++ (star_object q 1 ++ (star_object q 2 ++ star_object q 21))) (starred_same p q to back l r 0)
      ∙ (ap (λ (b : Bool). star_object p 0 ++ (star_if b 1 ++ (star_object q 2 ++ star_object q 21))) (starred_same p q to back l r 1)
      ∙ (ap (λ (b : Bool). star_object p 0 ++ (star_object p 1 ++ (star_if b 2 ++ star_object q 21))) (starred_same p q to back l r 2)
      ∙ ap (λ (b : Bool). star_object p 0 ++ (star_object p 1 ++ (star_object p 2 ++ star_if b 21))) (starred_same p q to back l r 21))) in
      let outside = outside_objects q.entries.items in
      ap (λ (os : List Object). os ++ (library_objects (is_named q.entities.items q.nodes.items) (takes_arguments q) ++ (star_objects q ++ outside))) (functions_same 55)
      ∙ (ap (λ (f : ℕ → Bool). functions_below p 55 ++ (library_objects f (takes_arguments q) ++ (star_objects q ++ outside))) names_same
      ∙ (ap (λ (b : Bool). functions_below p 55 ++ (library_objects named b ++ (star_objects q ++ outside))) (arguments_same p q to back l r)
      ∙ (ap (λ (os : List Object). functions_below p 55 ++ (library_objects named (takes_arguments p) ++ (os ++ outside))) first
      ∙ ap (λ (os : List Object). functions_below p 55 ++ (library_objects named (takes_arguments p) ++ (star_objects p ++ os))) (outside_same p q to back l r))))

-- ---- all objects
at_sizes : (table : Table) (xs : List Entity) (i a : ℕ) → slice_get (entity_sizes table xs) i ≡ Some a → (x : Entity) × (slice_get xs i ≡ Some x) × (entity_size table x.storage x.ty ≡ a)
unfolding entity_sizes
at_sizes table [] i a at = absurd (none_some at)
at_sizes table (x ∷ xs) zero a at = (x, refl, some_one at)
at_sizes table (x ∷ xs) (suc i) a at = at_sizes table xs i a at

sizes_at : (table : Table) (xs : List Entity) (i : ℕ) (x : Entity) → slice_get xs i ≡ Some x → slice_get (entity_sizes table xs) i ≡ Some (entity_size table x.storage x.ty)
unfolding entity_sizes
sizes_at table [] i x at = absurd (none_some at)
sizes_at table (y ∷ xs) zero x at = ap (λ (z : Entity). Some (entity_size table z.storage z.ty)) (some_one at)
sizes_at table (y ∷ xs) (suc i) x at = sizes_at table xs i x at

at_nodes : (p : Program) (n : ℕ) (xs : List Node) (i a : ℕ) → slice_get (node_sizes p n xs) i ≡ Some a → (x : Node) × (slice_get xs i ≡ Some x) × (object_size p.types (node_object p (n + i) x) ≡ a)
unfolding node_sizes
at_nodes p n [] i a at = absurd (none_some at)
at_nodes p n (x ∷ xs) zero a at = let e : n + 0 ≡ n = omega arith in (x, refl, ap (λ m. object_size p.types (node_object p m x)) e ∙ some_one at)
at_nodes p n (x ∷ xs) (suc i) a at =
    let (y, there, is) = at_nodes p (n + 1) xs i a at in
    let e : n + suc i ≡ (n + 1) + i = omega arith in
    (y, there, ap (λ m. object_size p.types (node_object p m y)) e ∙ is)

at_further : (table : Table) (xs : List Entity) (i a : ℕ) → slice_get (further_sizes table xs) i ≡ Some a → (x : Entity) × (slice_get xs i ≡ Some x) × (one_if (has_varargs table x) ≡ a)
unfolding further_sizes
at_further table [] i a at = absurd (none_some at)
at_further table (x ∷ xs) zero a at = (x, refl, some_one at)
at_further table (x ∷ xs) (suc i) a at = at_further table xs i a at

further_at : (table : Table) (xs : List Entity) (i : ℕ) (x : Entity) → slice_get xs i ≡ Some x → slice_get (further_sizes table xs) i ≡ Some (one_if (has_varargs table x))
unfolding further_sizes
further_at table [] i x at = absurd (none_some at)
further_at table (y ∷ xs) zero x at = ap (λ (z : Entity). Some (one_if (has_varargs table z))) (some_one at)
further_at table (y ∷ xs) (suc i) x at = further_at table xs i x at

nodes_at : (p : Program) (n : ℕ) (xs : List Node) (i : ℕ) (x : Node) → slice_get xs i ≡ Some x → slice_get (node_sizes p n xs) i ≡ Some (object_size p.types (node_object p (n + i) x))
unfolding node_sizes
nodes_at p n [] i x at = absurd (none_some at)
nodes_at p n (y ∷ xs) zero x at = let e : n ≡ n + 0 = omega arith in ap (λ (z : Node). Some (object_size p.types (node_object p n z))) (some_one at) ∙ ap (λ m. Some (object_size p.types (node_object p m x))) e
nodes_at p n (y ∷ xs) (suc i) x at = let e : (n + 1) + i ≡ n + suc i = omega arith in nodes_at p (n + 1) xs i x at ∙ ap (λ m. Some (object_size p.types (node_object p m x))) e

module _ (p q : Program) (to back : Numbers) (l : LeadsTo p q to back) (r : LeadsTo q p back to) (sound : IsSound p) (other_sound : IsSound q) where
  storage_size : (storage : Storage) (a b : TypeId) → length (parts_of q.types (type_of q.types b.0)) ≡ length (parts_of p.types (type_of p.types a.0)) → entity_size q.types storage b ≡ entity_size p.types storage a
  unfolding entity_size
  storage_size Declared a b h = refl
  storage_size FunctionBody a b h = refl
  storage_size Static a b h = h
  storage_size Automatic a b h = h
  storage_size Parameter a b h = h

  entity_there : (i a : ℕ) → slice_get (entity_sizes p.types p.entities.items) i ≡ Some a → slice_get (entity_sizes q.types q.entities.items) (to.entity i) ≡ Some a
  entity_there i a at =
      let (x, x_at, is) = at_sizes p.types p.entities.items i a at in
      let (y, there, same) = l.entities i x x_at in
      let size : entity_size q.types y.storage y.ty ≡ entity_size p.types x.storage x.ty =
      ap (λ (s : Storage). entity_size q.types s y.ty) same.storage ∙ storage_size x.storage x.ty y.ty (parts_there p q to back l r sound other_sound x.ty.0 y.ty.0 same.type) in
      sizes_at q.types q.entities.items (to.entity i) y there ∙ ap Some (size ∙ is)

  node_there : (i a : ℕ) → slice_get (node_sizes p 0 p.nodes.items) i ≡ Some a → slice_get (node_sizes q 0 q.nodes.items) (to.node i) ≡ Some a
  node_there i a at =
      let (x, x_at, is) = at_nodes p 0 p.nodes.items i a at in
      let (y, there, same) = l.nodes i x x_at in
      let zero_is : 0 + i ≡ i = omega arith in
      let other_zero : 0 + to.node i ≡ to.node i = omega arith in
      let round = l.node_back i (slice_get_within p.nodes.items i x x_at) in
      let size : object_size q.types (node_object q (0 + to.node i) y) ≡ object_size p.types (node_object p (0 + i) x) =
      ap (λ m. object_size q.types (node_object q m y)) other_zero
      ∙ (node_size_same p q to back l r sound other_sound i x y x_at there round same ∙ ap (λ m. object_size p.types (node_object p m x)) (sym zero_is)) in
      nodes_at q 0 q.nodes.items (to.node i) y there ∙ ap Some (size ∙ is)

  further_there : (i a : ℕ) → slice_get (further_sizes p.types p.entities.items) i ≡ Some a → slice_get (further_sizes q.types q.entities.items) (to.entity i) ≡ Some a
  further_there i a at =
      let (x, x_at, is) = at_further p.types p.entities.items i a at in
      let (y, there, same) = l.entities i x x_at in
      further_at q.types q.entities.items (to.entity i) y there ∙ ap Some (ap one_if (has_same p q to back l x y same) ∙ is)

  further_round : (i a : ℕ) → slice_get (further_sizes p.types p.entities.items) i ≡ Some a → back.entity (to.entity i) ≡ i
  further_round i a at = (let (x, x_at, is) = at_further p.types p.entities.items i a at in l.entity_back i (slice_get_within p.entities.items i x x_at))

  entity_round : (i a : ℕ) → slice_get (entity_sizes p.types p.entities.items) i ≡ Some a → back.entity (to.entity i) ≡ i
  entity_round i a at = (let (x, x_at, is) = at_sizes p.types p.entities.items i a at in l.entity_back i (slice_get_within p.entities.items i x x_at))

  node_round : (i a : ℕ) → slice_get (node_sizes p 0 p.nodes.items) i ≡ Some a → back.node (to.node i) ≡ i
  node_round i a at = (let (x, x_at, is) = at_nodes p 0 p.nodes.items i a at in l.node_back i (slice_get_within p.nodes.items i x x_at))

located_sum : (p : Program) → length (locations_in p) ≡ (sum (entity_sizes p.types p.entities.items) + sum (node_sizes p 0 p.nodes.items) + sum (further_sizes p.types p.entities.items)) + length (library_part p)
unfolding locations_in
located_sum p =
    let whole = located_total p.types (objects_of p) in
    let parts = total-append p.types (objects_in (made_in_order p)) (library_part p) in
    let made = objects_total p.types (made_in_order p) in
    let sums = made_sum p in
    let library = known_total p.types (library_part p) (library_part_known p) in
    omega (arith, whole, parts, made, sums, library)

pub as_many_locations : (p q : Program) (to back : Numbers) → LeadsTo p q to back → LeadsTo q p back to → IsSound p → IsSound q → length (locations_in p) ≡ length (locations_in q)
as_many_locations p q to back l r sound other_sound =
    let entities : sum (entity_sizes p.types p.entities.items) ≡ sum (entity_sizes q.types q.entities.items) =
    sum_same (entity_sizes p.types p.entities.items) (entity_sizes q.types q.entities.items) to.entity back.entity
    (entity_there p q to back l r sound other_sound) (entity_there q p back to r l other_sound sound) (entity_round p q to back l r sound other_sound) (entity_round q p back to r l other_sound sound) in
    let nodes : sum (node_sizes p 0 p.nodes.items) ≡ sum (node_sizes q 0 q.nodes.items) =
    sum_same (node_sizes p 0 p.nodes.items) (node_sizes q 0 q.nodes.items) to.node back.node
    (node_there p q to back l r sound other_sound) (node_there q p back to r l other_sound sound) (node_round p q to back l r sound other_sound) (node_round q p back to r l other_sound sound) in
    let further : sum (further_sizes p.types p.entities.items) ≡ sum (further_sizes q.types q.entities.items) =
    sum_same (further_sizes p.types p.entities.items) (further_sizes q.types q.entities.items) to.entity back.entity
    (further_there p q to back l r sound other_sound) (further_there q p back to r l other_sound sound) (further_round p q to back l r sound other_sound) (further_round q p back to r l other_sound sound) in
    let library : length (library_part q) ≡ length (library_part p) = ap (λ (os : List Object). length os) (library_same p q to back l r) in
    let one = located_sum p in
    let other = located_sum q in
    omega (arith, entities, nodes, further, library, one, other)
