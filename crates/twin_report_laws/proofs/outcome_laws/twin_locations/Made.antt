-- What the tokens of a program make.
use Rattle.std.proofs.Common.{arith, ◌≡◌, ◌∙◌, ◌+◌, ◌<◌, ◌≤◌, ◌⊎◌, ℕ, zero, suc, List, [], ◌∷◌, ◌++◌, length, Option, Some, None, refl, sym, ap, subst, inl, inr}
use Rattle.std.specs.Prelude.{⊤}
use Rattle.std.specs.List.{slice_get}
use Rattle.std.specs.declared.cmp.Ordering.{Ordering}
use Rattle.std.specs.declared.cmp.Ordering.TheVariants.{Less, Equal, Greater}
use Rattle.std.specs.Ordering.{match_ordering, nat_cmp, ordering_then}
use Rattle.std.specs.BTreeMap.{insert_entry}
use Rattle.std.proofs.lemmas.Cmp.{ranked}
use Rattle.pta_base.specs.declared.place.Place.{Place}
use Rattle.core_tree.specs.declared.node.Node.{Node}
use Rattle.core_tree.specs.declared.node.Entity.{Entity}
use Rattle.core_tree.specs.declared.node.Program.{Program}
use Rattle.obj_made.specs.declared.object.Object.{Object}
use Rattle.obj_made.specs.Made.{Spot, spot_at, by_place, Made, in_order, entity_object, made_at, entity_made, entities_made, node_object, node_made, nodes_made, last_place, varargs_object, varargs_spot, varargs_made, made_in_order, objects_in}
use Rattle.obj_made.proofs.Ordered.{in_order-append}
use Rattle.twin_report_laws.proofs.outcome_laws.twin_locations.Options.{some_one, none_some}
use Rattle.twin_report_laws.proofs.outcome_laws.twin_locations.Members.{Member, member_left, member_right, member_split, member_map, map_member}

ranks_equal : (a b : ℕ) (o : Ordering) → o ≡ nat_cmp a b → o ≡ Equal → a ≡ b
ranks_equal a b Less h e = absurd (cc)
ranks_equal a b Equal h e = ranked a b Equal h
ranks_equal a b Greater h e = absurd (cc)

then_equal : (o q : Ordering) → ordering_then o q ≡ Equal → q ≡ Equal
then_equal Less q e = absurd (cc)
then_equal Equal q e = e
then_equal Greater q e = absurd (cc)

place_equal : (a b : Spot) → by_place a b ≡ Equal → a.3 ≡ b.3
place_equal a b e =
    let one = then_equal (nat_cmp a.0 b.0) _ e in
    let two = then_equal (nat_cmp a.1 b.1) _ one in
    let three = then_equal (nat_cmp a.2 b.2) _ two in
    ranks_equal a.3 b.3 (nat_cmp a.3 b.3) refl three

-- the numbers of all that is made are below one
abbrev pub Below : ℕ → Made → Type 0
Below k [] = ⊤
Below k (m ∷ rest) = (m.0.3 < k) × Below k rest

pub below_more : (k n : ℕ) (made : Made) → k ≤ n → Below k made → Below n made
below_more k n [] le h = tt
below_more k n (m ∷ rest) le h = (let lt = h.0 in omega (arith, lt, le), below_more k n rest le h.1)

-- and these rise, from one on
abbrev pub Rise : ℕ → Made → Type 0
Rise k [] = ⊤
Rise k (m ∷ rest) = (k ≤ m.0.3) × Rise (m.0.3 + 1) rest

rise_less : (k n : ℕ) (made : Made) → k ≤ n → Rise n made → Rise k made
rise_less k n [] le h = tt
rise_less k n (m ∷ rest) le h = (let more = h.0 in omega (arith, more, le), h.1)

-- ---- what is put in its place
module _ (spot : Spot) (o : Object) where
  pub put_below : (k : ℕ) (done : Made) → spot.3 < k → Below k done → Below k (insert_entry by_place done spot o)
  put_below k [] lt h = (lt, tt)
  put_below k (m ∷ rest) lt h = by (by_place spot m.0) (put_below k rest lt h.1)
    where
      by : (q : Ordering) → Below k (insert_entry by_place rest spot o) → Below k (match_ordering q ((spot, o) ∷ m ∷ rest) ((m.0, o) ∷ rest) (m ∷ insert_entry by_place rest spot o))
      by Less later = (lt, h)
      by Equal later = (h.0, h.1)
      by Greater later = (h.0, later)

  put_there : (done : Made) → Below spot.3 done → Member (insert_entry by_place done spot o) (spot, o)
  put_there [] h = inl refl
  put_there (m ∷ rest) h = by (by_place spot m.0) refl (put_there rest h.1)
    where
      by : (q : Ordering) → by_place spot m.0 ≡ q → Member (insert_entry by_place rest spot o) (spot, o)
          → Member (match_ordering q ((spot, o) ∷ m ∷ rest) ((m.0, o) ∷ rest) (m ∷ insert_entry by_place rest spot o)) (spot, o)
      by Less is later = inl refl
      by Equal is later = (let same = place_equal spot m.0 is in let lt = h.0 in absurd (omega (arith, same, lt)))
      by Greater is later = inr later

  put_kept : (done : Made) (x : Spot × Object) → Below spot.3 done → Member done x → Member (insert_entry by_place done spot o) x
  put_kept [] x h there = absurd there
  put_kept (m ∷ rest) x h there = by (by_place spot m.0) refl there (λ later. put_kept rest x h.1 later)
    where
      by : (q : Ordering) → by_place spot m.0 ≡ q → Member (m ∷ rest) x → (Member rest x → Member (insert_entry by_place rest spot o) x)
          → Member (match_ordering q ((spot, o) ∷ m ∷ rest) ((m.0, o) ∷ rest) (m ∷ insert_entry by_place rest spot o)) x
      by Less is at later = inr at
      by Equal is at later = (let same = place_equal spot m.0 is in let lt = h.0 in absurd (omega (arith, same, lt)))
      by Greater is (inl here) later = inl here
      by Greater is (inr more) later = inr (later more)

  pub put_from : (done : Made) (x : Spot × Object) → Below spot.3 done → Member (insert_entry by_place done spot o) x → ((spot, o) ≡ x) ⊎ Member done x
  put_from [] x h (inl same) = inl same
  put_from [] x h (inr none) = absurd none
  put_from (m ∷ rest) x h there = by (by_place spot m.0) refl there (λ later. put_from rest x h.1 later)
    where
      by : (q : Ordering) → by_place spot m.0 ≡ q → Member (match_ordering q ((spot, o) ∷ m ∷ rest) ((m.0, o) ∷ rest) (m ∷ insert_entry by_place rest spot o)) x
          → (Member (insert_entry by_place rest spot o) x → ((spot, o) ≡ x) ⊎ Member rest x) → ((spot, o) ≡ x) ⊎ Member (m ∷ rest) x
      by Less is (inl same) later = inl same
      by Less is (inr more) later = inr more
      by Equal is at later = (let same = place_equal spot m.0 is in let lt = h.0 in absurd (omega (arith, same, lt)))
      by Greater is (inl here) later = inr (inl here)
      by Greater is (inr more) later = elim (later more) [ inl same ↦ inl same | inr kept ↦ inr (inr kept) ]

-- all that is put in its place is there, and nothing else
pub all_there : (k : ℕ) (done more : Made) (x : Spot × Object) → Below k done → Rise k more → Member done x ⊎ Member more x → Member (in_order done more) x
all_there k done [] x below rise (inl there) = there
all_there k done [] x below rise (inr none) = absurd none
all_there k done (m ∷ rest) x below rise there =
    let here : Below m.0.3 done = below_more k m.0.3 done rise.0 below in
    all_there (m.0.3 + 1) (insert_entry by_place done m.0 m.1) rest x
    (put_below m.0 m.1 (m.0.3 + 1) done (omega arith) (below_more m.0.3 (m.0.3 + 1) done (omega arith) here)) rise.1 (by here there)
  where
    by : Below m.0.3 done → Member done x ⊎ Member (m ∷ rest) x → Member (insert_entry by_place done m.0 m.1) x ⊎ Member rest x
    by here (inl kept) = inl (put_kept m.0 m.1 done x here kept)
    by here (inr (inl same)) = inl (subst (Member (insert_entry by_place done m.0 m.1)) same (put_there m.0 m.1 done here))
    by here (inr (inr later)) = inr later

pub nothing_else : (k : ℕ) (done more : Made) (x : Spot × Object) → Below k done → Rise k more → Member (in_order done more) x → Member done x ⊎ Member more x
nothing_else k done [] x below rise there = inl there
nothing_else k done (m ∷ rest) x below rise there =
    let here : Below m.0.3 done = below_more k m.0.3 done rise.0 below in
    by here
    (nothing_else (m.0.3 + 1) (insert_entry by_place done m.0 m.1) rest x
    (put_below m.0 m.1 (m.0.3 + 1) done (omega arith) (below_more m.0.3 (m.0.3 + 1) done (omega arith) here)) rise.1 there)
  where
    by : Below m.0.3 done → Member (insert_entry by_place done m.0 m.1) x ⊎ Member rest x → Member done x ⊎ Member (m ∷ rest) x
    by here (inl put) = elim (put_from m.0 m.1 done x here put) [ inl same ↦ inr (inl same) | inr kept ↦ inl kept ]
    by here (inr later) = inr (inr later)

-- ---- what a program makes
module _ (p : Program) where
  made_rises : (place : Place) (k : ℕ) (o : Option Object) (more : Made) → Rise (k + 1) more → Rise k (made_at (spot_at place k) o ++ more)
  made_rises place k None more h = rise_less k (k + 1) more (omega arith) h
  made_rises place k (Some o) more h = (omega arith, h)

  rise_append : (k : ℕ) (a b c : Made) → Rise k (a ++ (b ++ c)) → Rise k ((a ++ b) ++ c)
  rise_append k [] b c h = h
  rise_append k (m ∷ a) b c h = (h.0, rise_append (m.0.3 + 1) a b c h.1)

  entities_rise : (k : ℕ) (xs : List Entity) (more : Made) → Rise (k + length xs) more → Rise k (entities_made p k xs ++ more)
  entities_rise k [] more h = rise_less k (k + 0) more (omega arith) h
  entities_rise k (x ∷ rest) more h =
      let next : k + length (x ∷ rest) ≡ (k + 1) + length rest = omega arith in
      rise_append k (entity_made p k x) (entities_made p (k + 1) rest) more
      (made_rises x.place k (entity_object p k x) (entities_made p (k + 1) rest ++ more) (entities_rise (k + 1) rest more (subst (λ n. Rise n more) next h)))

  nodes_rise : (k n : ℕ) (xs : List Node) (more : Made) → k ≡ length p.entities.items + n → Rise (length p.entities.items + (n + length xs)) more → Rise k (nodes_made p n xs ++ more)
  nodes_rise k n [] more is h = rise_less k (length p.entities.items + (n + 0)) more (omega (arith, is)) h
  nodes_rise k n (x ∷ rest) more is h =
      let next : length p.entities.items + (n + length (x ∷ rest)) ≡ length p.entities.items + (n + 1 + length rest) = omega arith in
      rise_append k (node_made p n x) (nodes_made p (n + 1) rest) more
      (rise_less k (length p.entities.items + n) (node_made p n x ++ (nodes_made p (n + 1) rest ++ more)) (omega (arith, is))
      (made_rises x.place (length p.entities.items + n) (node_object p n x) (nodes_made p (n + 1) rest ++ more)
      (nodes_rise ((length p.entities.items + n) + 1) (n + 1) rest more (omega arith) (subst (λ j. Rise j more) next h))))

  further_rise : (k e : ℕ) (xs : List Entity) → k ≡ length p.entities.items + length p.nodes.items + e → Rise k (varargs_made p e xs)
  further_rise k e [] is = tt
  further_rise k e (x ∷ rest) is =
      let number = length p.entities.items + length p.nodes.items + e in
      rise_less k number (varargs_made p e (x ∷ rest)) (omega (arith, is))
      (made_rises (last_place x.place e p.entities.items) number (varargs_object p e x) (varargs_made p (e + 1) rest) (further_rise (number + 1) (e + 1) rest (omega arith)))

  at_made : (spot : Spot) (o : Option Object) (x : Spot × Object) → Member (made_at spot o) x → o ≡ Some x.1
  at_made spot None x h = absurd h
  at_made spot (Some o) x (inl same) = ap (λ (m : Spot × Object). Some m.1) same
  at_made spot (Some o) x (inr none) = absurd none

  made_there : (spot : Spot) (o : Option Object) (x : Object) → o ≡ Some x → Member (made_at spot o) (spot, x)
  made_there spot o x is = subst (λ (other : Option Object). Member (made_at spot other) (spot, x)) (sym is) (inl refl)

  entity_from : (k : ℕ) (xs : List Entity) (m : Spot × Object) → Member (entities_made p k xs) m → (i : ℕ) × (x : Entity) × (slice_get xs i ≡ Some x) × (entity_object p (k + i) x ≡ Some m.1)
  entity_from k [] m h = absurd h
  entity_from k (x ∷ rest) m h = elim (member_split (entity_made p k x) (entities_made p (k + 1) rest) m h) [
    | inl here ↦
        let same : k ≡ k + 0 = omega arith in
        (0, x, refl, sym (ap (λ n. entity_object p n x) same) ∙ at_made (spot_at x.place k) (entity_object p k x) m here)
    | inr later ↦
        let (i, y, at, is) = entity_from (k + 1) rest m later in
        let next : k + suc i ≡ (k + 1) + i = omega arith in
        (suc i, y, at, ap (λ n. entity_object p n y) next ∙ is)
  ]

  from_entity : (k : ℕ) (xs : List Entity) (i : ℕ) (x : Entity) (o : Object) → slice_get xs i ≡ Some x → entity_object p (k + i) x ≡ Some o → (spot : Spot) × Member (entities_made p k xs) (spot, o)
  from_entity k [] i x o at is = absurd (none_some at)
  from_entity k (y ∷ rest) zero x o at is =
      let same : k ≡ k + 0 = omega arith in
      let own : entity_object p k y ≡ Some o = ap (λ n. entity_object p n y) same ∙ (ap (entity_object p (k + 0)) (some_one at) ∙ is) in
      (spot_at y.place k, member_left (entity_made p k y) (entities_made p (k + 1) rest) (spot_at y.place k, o) (made_there (spot_at y.place k) (entity_object p k y) o own))
  from_entity k (y ∷ rest) (suc i) x o at is =
      let next : (k + 1) + i ≡ k + suc i = omega arith in
      let (spot, there) = from_entity (k + 1) rest i x o at (ap (λ n. entity_object p n x) next ∙ is) in
      (spot, member_right (entity_made p k y) (entities_made p (k + 1) rest) (spot, o) there)

  node_from : (n : ℕ) (xs : List Node) (m : Spot × Object) → Member (nodes_made p n xs) m → (i : ℕ) × (x : Node) × (slice_get xs i ≡ Some x) × (node_object p (n + i) x ≡ Some m.1)
  node_from n [] m h = absurd h
  node_from n (x ∷ rest) m h = elim (member_split (node_made p n x) (nodes_made p (n + 1) rest) m h) [
    | inl here ↦
        let same : n ≡ n + 0 = omega arith in
        (0, x, refl, sym (ap (λ k. node_object p k x) same) ∙ at_made (spot_at x.place (length p.entities.items + n)) (node_object p n x) m here)
    | inr later ↦
        let (i, y, at, is) = node_from (n + 1) rest m later in
        let next : n + suc i ≡ (n + 1) + i = omega arith in
        (suc i, y, at, ap (λ k. node_object p k y) next ∙ is)
  ]

  from_node : (n : ℕ) (xs : List Node) (i : ℕ) (x : Node) (o : Object) → slice_get xs i ≡ Some x → node_object p (n + i) x ≡ Some o → (spot : Spot) × Member (nodes_made p n xs) (spot, o)
  from_node n [] i x o at is = absurd (none_some at)
  from_node n (y ∷ rest) zero x o at is =
      let same : n ≡ n + 0 = omega arith in
      let own : node_object p n y ≡ Some o = ap (λ k. node_object p k y) same ∙ (ap (node_object p (n + 0)) (some_one at) ∙ is) in
      let spot = spot_at y.place (length p.entities.items + n) in
      (spot, member_left (node_made p n y) (nodes_made p (n + 1) rest) (spot, o) (made_there spot (node_object p n y) o own))
  from_node n (y ∷ rest) (suc i) x o at is =
      let next : (n + 1) + i ≡ n + suc i = omega arith in
      let (spot, there) = from_node (n + 1) rest i x o at (ap (λ k. node_object p k x) next ∙ is) in
      (spot, member_right (node_made p n y) (nodes_made p (n + 1) rest) (spot, o) there)

  further_from : (k : ℕ) (xs : List Entity) (m : Spot × Object) → Member (varargs_made p k xs) m → (i : ℕ) × (x : Entity) × (slice_get xs i ≡ Some x) × (varargs_object p (k + i) x ≡ Some m.1)
  further_from k [] m h = absurd h
  further_from k (x ∷ rest) m h = elim (member_split (made_at (varargs_spot p k x) (varargs_object p k x)) (varargs_made p (k + 1) rest) m h) [
    | inl here ↦
        let same : k ≡ k + 0 = omega arith in
        (0, x, refl, sym (ap (λ n. varargs_object p n x) same) ∙ at_made (varargs_spot p k x) (varargs_object p k x) m here)
    | inr later ↦
        let (i, y, at, is) = further_from (k + 1) rest m later in
        let next : k + suc i ≡ (k + 1) + i = omega arith in
        (suc i, y, at, ap (λ n. varargs_object p n y) next ∙ is)
  ]

  from_further : (k : ℕ) (xs : List Entity) (i : ℕ) (x : Entity) (o : Object) → slice_get xs i ≡ Some x → varargs_object p (k + i) x ≡ Some o → (spot : Spot) × Member (varargs_made p k xs) (spot, o)
  from_further k [] i x o at is = absurd (none_some at)
  from_further k (y ∷ rest) zero x o at is =
      let same : k ≡ k + 0 = omega arith in
      let own : varargs_object p k y ≡ Some o = ap (λ n. varargs_object p n y) same ∙ (ap (varargs_object p (k + 0)) (some_one at) ∙ is) in
      let spot = varargs_spot p k y in
      (spot, member_left (made_at spot (varargs_object p k y)) (varargs_made p (k + 1) rest) (spot, o) (made_there spot (varargs_object p k y) o own))
  from_further k (y ∷ rest) (suc i) x o at is =
      let next : (k + 1) + i ≡ k + suc i = omega arith in
      let (spot, there) = from_further (k + 1) rest i x o at (ap (λ n. varargs_object p n x) next ∙ is) in
      (spot, member_right (made_at (varargs_spot p k y) (varargs_object p k y)) (varargs_made p (k + 1) rest) (spot, o) there)

  -- an entity makes the object, or a node does; a variadic function makes a second one
  pub data IsMadeOf (o : Object) : Type 0 where
    by_entity : (e : ℕ) (x : Entity) → slice_get p.entities.items e ≡ Some x → entity_object p e x ≡ Some o → IsMadeOf o
    by_node : (n : ℕ) (x : Node) → slice_get p.nodes.items n ≡ Some x → node_object p n x ≡ Some o → IsMadeOf o
    by_further : (e : ℕ) (x : Entity) → slice_get p.entities.items e ≡ Some x → varargs_object p e x ≡ Some o → IsMadeOf o

  -- all that is made, in the order of its numbers
  abbrev pub all_made : Made
  all_made = (entities_made p 0 p.entities.items ++ nodes_made p 0 p.nodes.items) ++ varargs_made p 0 p.entities.items

  pub whole : made_in_order p ≡ in_order [] all_made
  whole =
      sym (in_order-append [] (entities_made p 0 p.entities.items ++ nodes_made p 0 p.nodes.items) (varargs_made p 0 p.entities.items)
      ∙ ap (λ (made : Made). in_order made (varargs_made p 0 p.entities.items)) (in_order-append [] (entities_made p 0 p.entities.items) (nodes_made p 0 p.nodes.items)))

  pub whole_rises : Rise 0 all_made
  whole_rises =
      rise_append 0 (entities_made p 0 p.entities.items) (nodes_made p 0 p.nodes.items) (varargs_made p 0 p.entities.items)
      (entities_rise 0 p.entities.items (nodes_made p 0 p.nodes.items ++ varargs_made p 0 p.entities.items)
      (nodes_rise (0 + length p.entities.items) 0 p.nodes.items (varargs_made p 0 p.entities.items) (omega arith)
      (further_rise (length p.entities.items + (0 + length p.nodes.items)) 0 p.entities.items (omega arith))))

  pub made_of : (o : Object) → Member (objects_in (made_in_order p)) o → IsMadeOf o
  made_of o there =
      let (m, at, is) = member_map (λ (m : Spot × Object). m.1) (made_in_order p) o there in
      let split = nothing_else 0 [] all_made m tt whole_rises (subst (λ (made : Made). Member made m) whole at) in
      subst IsMadeOf is (by m split)
    where
      of_names : (m : Spot × Object) → Member (entities_made p 0 p.entities.items ++ nodes_made p 0 p.nodes.items) m → IsMadeOf m.1
      of_names m some = elim (member_split (entities_made p 0 p.entities.items) (nodes_made p 0 p.nodes.items) m some) [
        | inl entity ↦
            let (i, x, x_at, made) = entity_from 0 p.entities.items m entity in
            let same : i ≡ 0 + i = omega arith in
            by_entity i x x_at (ap (λ n. entity_object p n x) same ∙ made)
        | inr node ↦
            let (i, x, x_at, made) = node_from 0 p.nodes.items m node in
            let same : i ≡ 0 + i = omega arith in
            by_node i x x_at (ap (λ n. node_object p n x) same ∙ made)
      ]

      by : (m : Spot × Object) → Member {X = Spot × Object} [] m ⊎ Member all_made m → IsMadeOf m.1
      by m (inl none) = absurd none
      by m (inr some) = elim (member_split (entities_made p 0 p.entities.items ++ nodes_made p 0 p.nodes.items) (varargs_made p 0 p.entities.items) m some) [
        | inl named ↦ of_names m named
        | inr further ↦
            let (i, x, x_at, made) = further_from 0 p.entities.items m further in
            let same : i ≡ 0 + i = omega arith in
            by_further i x x_at (ap (λ n. varargs_object p n x) same ∙ made)
      ]

  put_object : (spot : Spot) (o : Object) → Member all_made (spot, o) → Member (objects_in (made_in_order p)) o
  put_object spot o there =
      map_member (λ (m : Spot × Object). m.1) (made_in_order p) (spot, o)
      (subst (λ (made : Made). Member made (spot, o)) (sym whole) (all_there 0 [] all_made (spot, o) tt whole_rises (inr there)))

  pub of_made : (o : Object) → IsMadeOf o → Member (objects_in (made_in_order p)) o
  of_made o (by_entity e x at is) =
      let same : 0 + e ≡ e = omega arith in
      let (spot, there) = from_entity 0 p.entities.items e x o at (ap (λ n. entity_object p n x) same ∙ is) in
      put_object spot o
      (member_left (entities_made p 0 p.entities.items ++ nodes_made p 0 p.nodes.items) (varargs_made p 0 p.entities.items) (spot, o)
      (member_left (entities_made p 0 p.entities.items) (nodes_made p 0 p.nodes.items) (spot, o) there))
  of_made o (by_node n x at is) =
      let same : 0 + n ≡ n = omega arith in
      let (spot, there) = from_node 0 p.nodes.items n x o at (ap (λ k. node_object p k x) same ∙ is) in
      put_object spot o
      (member_left (entities_made p 0 p.entities.items ++ nodes_made p 0 p.nodes.items) (varargs_made p 0 p.entities.items) (spot, o)
      (member_right (entities_made p 0 p.entities.items) (nodes_made p 0 p.nodes.items) (spot, o) there))
  of_made o (by_further e x at is) =
      let same : 0 + e ≡ e = omega arith in
      let (spot, there) = from_further 0 p.entities.items e x o at (ap (λ n. varargs_object p n x) same ∙ is) in
      put_object spot o (member_right (entities_made p 0 p.entities.items ++ nodes_made p 0 p.nodes.items) (varargs_made p 0 p.entities.items) (spot, o) there)
