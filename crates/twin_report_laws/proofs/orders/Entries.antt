-- What tokens make, each with its place.
use Rattle.std.proofs.Common.{arith, ◌≡◌, ◌∙◌, ◌+◌, ◌<◌, ◌⊎◌, ℕ, zero, suc, Bool, true, false, List, [], ◌∷◌, ◌++◌, length, Option, Some, None, refl, sym, ap, subst, inl, inr}
use Rattle.std.specs.Prelude.{if◌then◌else◌, nat_lt, ◌&&◌, ◌≢◌}
use Rattle.std.specs.List.{slice_get}
use Rattle.std.proofs.lemmas.Bool.{lt-ltb, le-ltb}
use Rattle.std.proofs.lemmas.Option.{slice_get_within}
use Rattle.pta_base.specs.declared.place.Place.{Place}
use Rattle.c_types.specs.Table.{type_of}
use Rattle.core_tree.specs.declared.node.Node.{Node}
use Rattle.core_tree.specs.declared.node.NodeKind.{NodeKind}
use Rattle.core_tree.specs.declared.node.NodeKind.TheVariants.{Text, CallNode}
use Rattle.core_tree.specs.declared.node.Entity.{Entity}
use Rattle.core_tree.specs.declared.node.Storage.{Storage}
use Rattle.core_tree.specs.declared.node.Storage.TheVariants.{Static, Automatic, FunctionBody, Parameter, Declared}
use Rattle.core_tree.specs.declared.node.Program.{Program}
use Rattle.obj_made.specs.declared.object.Object.{Object}
use Rattle.obj_made.specs.Made.{Spot, spot_at, Made, object_unless_declared, entity_object, made_at, entity_made, entities_made, object_of_kind, node_object, node_made, nodes_made, last_place, has_body, is_variadic, has_varargs, varargs_object, varargs_spot, varargs_made, made_in_order}
use Rattle.twin_report_laws.proofs.outcome_laws.twin_locations.Options.{some_one, none_some}
use Rattle.twin_report_laws.proofs.outcome_laws.twin_locations.Members.{Member, member_left, member_right, member_split}
use Rattle.twin_report_laws.proofs.outcome_laws.twin_locations.Made.{all_there, nothing_else, all_made, whole, whole_rises}
use Rattle.twin_report_laws.proofs.outcome_laws.twin_locations.Further.{IsParameterAt, last_from}
use Rattle.twin_report_laws.specs.orders.Order.{MayMake, MadeApart}

abbrev pub Entry : Type 0
Entry = Spot × Object

-- how many entities and nodes there are
abbrev pub Counts : Type 0
Counts = ℕ × ℕ

abbrev pub counts : Program → Counts
counts p = (length p.entities.items, length p.nodes.items)

-- the rank of an entry: its place, and whether a node makes it, or it is what a function is passed past its parameters; so
-- many entities stand before the nodes, and so many nodes before these
abbrev pub kind_of : Counts → ℕ → ℕ
kind_of n number = if nat_lt number n.0 then 0 else (if nat_lt number (n.0 + n.1) then 1 else 2)

abbrev pub rank : Counts → Entry → List ℕ
rank n m = m.0.0 ∷ m.0.1 ∷ m.0.2 ∷ kind_of n m.0.3 ∷ []

at_spot : (spot : Spot) (o : Option Object) (m : Entry) → Member (made_at spot o) m → (m.0 ≡ spot) × (o ≡ Some m.1)
at_spot spot None m h = absurd h
at_spot spot (Some o) m (inl same) = (ap (λ (e : Entry). e.0) (sym same), ap (λ (e : Entry). Some e.1) same)
at_spot spot (Some o) m (inr none) = absurd none

spot_there : (spot : Spot) (o : Option Object) (d : Object) → o ≡ Some d → Member (made_at spot o) (spot, d)
spot_there spot o d is = subst (λ (other : Option Object). Member (made_at spot other) (spot, d)) (sym is) (inl refl)

module _ (p : Program) where
  entity_entry : (k : ℕ) (xs : List Entity) (m : Entry) → Member (entities_made p k xs) m
      → (i : ℕ) × (x : Entity) × (slice_get xs i ≡ Some x) × (m.0 ≡ spot_at x.place (k + i)) × (entity_object p (k + i) x ≡ Some m.1)
  entity_entry k [] m h = absurd h
  entity_entry k (x ∷ rest) m h = elim (member_split (entity_made p k x) (entities_made p (k + 1) rest) m h) [
    | inl here ↦
        let same : k ≡ k + 0 = omega arith in
        let own = at_spot (spot_at x.place k) (entity_object p k x) m here in
        (0, x, refl, own.0 ∙ ap (spot_at x.place) same, sym (ap (λ n. entity_object p n x) same) ∙ own.1)
    | inr later ↦
        let (i, y, at, spot, is) = entity_entry (k + 1) rest m later in
        let next : k + suc i ≡ (k + 1) + i = omega arith in
        (suc i, y, at, spot ∙ ap (spot_at y.place) (sym next), ap (λ n. entity_object p n y) next ∙ is)
  ]

  entry_entity : (k : ℕ) (xs : List Entity) (i : ℕ) (x : Entity) (o : Object) → slice_get xs i ≡ Some x → entity_object p (k + i) x ≡ Some o → Member (entities_made p k xs) (spot_at x.place (k + i), o)
  entry_entity k [] i x o at is = absurd (none_some at)
  entry_entity k (y ∷ rest) zero x o at is =
      let same : k ≡ k + 0 = omega arith in
      let own : entity_object p k y ≡ Some o = ap (λ n. entity_object p n y) same ∙ (ap (entity_object p (k + 0)) (some_one at) ∙ is) in
      let there = member_left (entity_made p k y) (entities_made p (k + 1) rest) (spot_at y.place k, o) (spot_there (spot_at y.place k) (entity_object p k y) o own) in
      subst (λ (z : Entity). Member (entities_made p k (y ∷ rest)) (spot_at z.place (k + 0), o)) (some_one at) (subst (λ (n : ℕ). Member (entities_made p k (y ∷ rest)) (spot_at y.place n, o)) same there)
  entry_entity k (y ∷ rest) (suc i) x o at is =
      let next : (k + 1) + i ≡ k + suc i = omega arith in
      let there = entry_entity (k + 1) rest i x o at (ap (λ n. entity_object p n x) next ∙ is) in
      member_right (entity_made p k y) (entities_made p (k + 1) rest) (spot_at x.place (k + suc i), o)
      (subst (λ (n : ℕ). Member (entities_made p (k + 1) rest) (spot_at x.place n, o)) next there)

  node_entry : (n : ℕ) (xs : List Node) (m : Entry) → Member (nodes_made p n xs) m
      → (i : ℕ) × (x : Node) × (slice_get xs i ≡ Some x) × (m.0 ≡ spot_at x.place (length p.entities.items + (n + i))) × (node_object p (n + i) x ≡ Some m.1)
  node_entry n [] m h = absurd h
  node_entry n (x ∷ rest) m h = elim (member_split (node_made p n x) (nodes_made p (n + 1) rest) m h) [
    | inl here ↦
        let same : n ≡ n + 0 = omega arith in
        let own = at_spot (spot_at x.place (length p.entities.items + n)) (node_object p n x) m here in
        (0, x, refl, own.0 ∙ ap (λ k. spot_at x.place (length p.entities.items + k)) same, sym (ap (λ k. node_object p k x) same) ∙ own.1)
    | inr later ↦
        let (i, y, at, spot, is) = node_entry (n + 1) rest m later in
        let next : n + suc i ≡ (n + 1) + i = omega arith in
        (suc i, y, at, spot ∙ ap (λ k. spot_at y.place (length p.entities.items + k)) (sym next), ap (λ k. node_object p k y) next ∙ is)
  ]

  entry_node : (n : ℕ) (xs : List Node) (i : ℕ) (x : Node) (o : Object) → slice_get xs i ≡ Some x → node_object p (n + i) x ≡ Some o
      → Member (nodes_made p n xs) (spot_at x.place (length p.entities.items + (n + i)), o)
  entry_node n [] i x o at is = absurd (none_some at)
  entry_node n (y ∷ rest) zero x o at is =
      let same : n ≡ n + 0 = omega arith in
      let own : node_object p n y ≡ Some o = ap (λ k. node_object p k y) same ∙ (ap (node_object p (n + 0)) (some_one at) ∙ is) in
      let spot = spot_at y.place (length p.entities.items + n) in
      let there = member_left (node_made p n y) (nodes_made p (n + 1) rest) (spot, o) (spot_there spot (node_object p n y) o own) in
      subst (λ (z : Node). Member (nodes_made p n (y ∷ rest)) (spot_at z.place (length p.entities.items + (n + 0)), o)) (some_one at)
      (subst (λ (k : ℕ). Member (nodes_made p n (y ∷ rest)) (spot_at y.place (length p.entities.items + k), o)) same there)
  entry_node n (y ∷ rest) (suc i) x o at is =
      let next : (n + 1) + i ≡ n + suc i = omega arith in
      let there = entry_node (n + 1) rest i x o at (ap (λ k. node_object p k x) next ∙ is) in
      member_right (node_made p n y) (nodes_made p (n + 1) rest) (spot_at x.place (length p.entities.items + (n + suc i)), o)
      (subst (λ (k : ℕ). Member (nodes_made p (n + 1) rest) (spot_at x.place (length p.entities.items + k), o)) next there)

  further_entry : (k : ℕ) (xs : List Entity) (m : Entry) → Member (varargs_made p k xs) m
      → (i : ℕ) × (x : Entity) × (slice_get xs i ≡ Some x) × (m.0 ≡ varargs_spot p (k + i) x) × (varargs_object p (k + i) x ≡ Some m.1)
  further_entry k [] m h = absurd h
  further_entry k (x ∷ rest) m h = elim (member_split (made_at (varargs_spot p k x) (varargs_object p k x)) (varargs_made p (k + 1) rest) m h) [
    | inl here ↦
        let same : k ≡ k + 0 = omega arith in
        let own = at_spot (varargs_spot p k x) (varargs_object p k x) m here in
        (0, x, refl, own.0 ∙ ap (λ n. varargs_spot p n x) same, sym (ap (λ n. varargs_object p n x) same) ∙ own.1)
    | inr later ↦
        let (i, y, at, spot, is) = further_entry (k + 1) rest m later in
        let next : k + suc i ≡ (k + 1) + i = omega arith in
        (suc i, y, at, spot ∙ ap (λ n. varargs_spot p n y) (sym next), ap (λ n. varargs_object p n y) next ∙ is)
  ]

  entry_further : (k : ℕ) (xs : List Entity) (i : ℕ) (x : Entity) (o : Object) → slice_get xs i ≡ Some x → varargs_object p (k + i) x ≡ Some o → Member (varargs_made p k xs) (varargs_spot p (k + i) x, o)
  entry_further k [] i x o at is = absurd (none_some at)
  entry_further k (y ∷ rest) zero x o at is =
      let same : k ≡ k + 0 = omega arith in
      let own : varargs_object p k y ≡ Some o = ap (λ n. varargs_object p n y) same ∙ (ap (varargs_object p (k + 0)) (some_one at) ∙ is) in
      let there = member_left (made_at (varargs_spot p k y) (varargs_object p k y)) (varargs_made p (k + 1) rest) (varargs_spot p k y, o) (spot_there (varargs_spot p k y) (varargs_object p k y) o own) in
      subst (λ (z : Entity). Member (varargs_made p k (y ∷ rest)) (varargs_spot p (k + 0) z, o)) (some_one at) (subst (λ (n : ℕ). Member (varargs_made p k (y ∷ rest)) (varargs_spot p n y, o)) same there)
  entry_further k (y ∷ rest) (suc i) x o at is =
      let next : (k + 1) + i ≡ k + suc i = omega arith in
      let there = entry_further (k + 1) rest i x o at (ap (λ n. varargs_object p n x) next ∙ is) in
      member_right (made_at (varargs_spot p k y) (varargs_object p k y)) (varargs_made p (k + 1) rest) (varargs_spot p (k + suc i) x, o)
      (subst (λ (n : ℕ). Member (varargs_made p (k + 1) rest) (varargs_spot p n x, o)) next there)

  -- an entity makes it at its place, or a node does, or a variadic function makes it behind its parameters
  pub data IsEntry (m : Entry) : Type 0 where
    by_entity : (e : ℕ) (x : Entity) → slice_get p.entities.items e ≡ Some x → m.0 ≡ spot_at x.place e → entity_object p e x ≡ Some m.1 → IsEntry m
    by_node : (n : ℕ) (x : Node) → slice_get p.nodes.items n ≡ Some x → m.0 ≡ spot_at x.place (length p.entities.items + n) → node_object p n x ≡ Some m.1 → IsEntry m
    by_further : (e : ℕ) (x : Entity) → slice_get p.entities.items e ≡ Some x → m.0 ≡ varargs_spot p e x → varargs_object p e x ≡ Some m.1 → IsEntry m

  named_entries : (m : Entry) → Member (entities_made p 0 p.entities.items ++ nodes_made p 0 p.nodes.items) m → IsEntry m
  named_entries m some = elim (member_split (entities_made p 0 p.entities.items) (nodes_made p 0 p.nodes.items) m some) [
    | inl entity ↦
        let (i, x, x_at, spot, made) = entity_entry 0 p.entities.items m entity in
        let same : 0 + i ≡ i = omega arith in
        by_entity i x x_at (spot ∙ ap (spot_at x.place) same) (ap (λ n. entity_object p n x) (sym same) ∙ made)
    | inr node ↦
        let (i, x, x_at, spot, made) = node_entry 0 p.nodes.items m node in
        let same : 0 + i ≡ i = omega arith in
        by_node i x x_at (spot ∙ ap (λ n. spot_at x.place (length p.entities.items + n)) same) (ap (λ n. node_object p n x) (sym same) ∙ made)
  ]

  pub all_entries : (m : Entry) → Member (all_made p) m → IsEntry m
  all_entries m some = elim (member_split (entities_made p 0 p.entities.items ++ nodes_made p 0 p.nodes.items) (varargs_made p 0 p.entities.items) m some) [
    | inl named ↦ named_entries m named
    | inr further ↦
        let (i, x, x_at, spot, made) = further_entry 0 p.entities.items m further in
        let same : 0 + i ≡ i = omega arith in
        by_further i x x_at (spot ∙ ap (λ n. varargs_spot p n x) same) (ap (λ n. varargs_object p n x) (sym same) ∙ made)
  ]

  pub entry_of : (m : Entry) → Member (made_in_order p) m → IsEntry m
  entry_of m there = by (nothing_else 0 [] (all_made p) m tt (whole_rises p) (subst (λ (made : Made). Member made m) (whole p) there))
    where
      by : Member {X = Entry} [] m ⊎ Member (all_made p) m → IsEntry m
      by (inl none) = absurd none
      by (inr some) = all_entries m some

  put : (m : Entry) → Member (all_made p) m → Member (made_in_order p) m
  put m there = subst (λ (made : Made). Member made m) (sym (whole p)) (all_there 0 [] (all_made p) m tt (whole_rises p) (inr there))

  put_named : (m : Entry) → Member (entities_made p 0 p.entities.items ++ nodes_made p 0 p.nodes.items) m → Member (made_in_order p) m
  put_named m there = put m (member_left (entities_made p 0 p.entities.items ++ nodes_made p 0 p.nodes.items) (varargs_made p 0 p.entities.items) m there)

  pub entity_there : (e : ℕ) (x : Entity) (o : Object) → slice_get p.entities.items e ≡ Some x → entity_object p e x ≡ Some o → Member (made_in_order p) (spot_at x.place e, o)
  entity_there e x o at is =
      let same : 0 + e ≡ e = omega arith in
      put_named (spot_at x.place e, o)
      (member_left (entities_made p 0 p.entities.items) (nodes_made p 0 p.nodes.items) (spot_at x.place e, o)
      (subst (λ (n : ℕ). Member (entities_made p 0 p.entities.items) (spot_at x.place n, o)) same (entry_entity 0 p.entities.items e x o at (ap (λ n. entity_object p n x) same ∙ is))))

  pub node_there : (n : ℕ) (x : Node) (o : Object) → slice_get p.nodes.items n ≡ Some x → node_object p n x ≡ Some o → Member (made_in_order p) (spot_at x.place (length p.entities.items + n), o)
  node_there n x o at is =
      let same : 0 + n ≡ n = omega arith in
      let spot = spot_at x.place (length p.entities.items + n) in
      put_named (spot, o)
      (member_right (entities_made p 0 p.entities.items) (nodes_made p 0 p.nodes.items) (spot, o)
      (subst (λ (k : ℕ). Member (nodes_made p 0 p.nodes.items) (spot_at x.place (length p.entities.items + k), o)) same (entry_node 0 p.nodes.items n x o at (ap (λ k. node_object p k x) same ∙ is))))

  pub further_there : (e : ℕ) (x : Entity) (o : Object) → slice_get p.entities.items e ≡ Some x → varargs_object p e x ≡ Some o → Member (made_in_order p) (varargs_spot p e x, o)
  further_there e x o at is =
      let same : 0 + e ≡ e = omega arith in
      put (varargs_spot p e x, o)
      (member_right (entities_made p 0 p.entities.items ++ nodes_made p 0 p.nodes.items) (varargs_made p 0 p.entities.items) (varargs_spot p e x, o)
      (subst (λ (n : ℕ). Member (varargs_made p 0 p.entities.items) (varargs_spot p n x, o)) same (entry_further 0 p.entities.items e x o at (ap (λ n. varargs_object p n x) same ∙ is))))

-- ---- one place, one maker
pub entity_kind : (n : Counts) (e : ℕ) → e < n.0 → kind_of n e ≡ 0
entity_kind n e lt = ap (λ b. if b then 0 else (if nat_lt e (n.0 + n.1) then 1 else 2)) (lt-ltb e n.0 lt)

pub node_kind : (n : Counts) (i : ℕ) → i < n.1 → kind_of n (n.0 + i) ≡ 1
node_kind n i lt =
    ap (λ b. if b then 0 else (if nat_lt (n.0 + i) (n.0 + n.1) then 1 else 2)) (le-ltb (n.0 + i) n.0 (omega arith))
    ∙ ap (λ b. if b then 1 else 2) (lt-ltb (n.0 + i) (n.0 + n.1) (omega arith))

pub further_kind : (n : Counts) (e : ℕ) → kind_of n (n.0 + n.1 + e) ≡ 2
further_kind n e =
    ap (λ b. if b then 0 else (if nat_lt (n.0 + n.1 + e) (n.0 + n.1) then 1 else 2)) (le-ltb (n.0 + n.1 + e) n.0 (omega arith))
    ∙ ap (λ b. if b then 1 else 2) (le-ltb (n.0 + n.1 + e) (n.0 + n.1) (omega arith))

not_declared : (storage : Storage) (o d : Object) → object_unless_declared storage o ≡ Some d → storage ≢ Declared
not_declared storage o d h is = none_some (sym (ap (λ s. object_unless_declared s o) is) ∙ h)

may_make : (p : Program) (n : ℕ) (x : Node) (kind : NodeKind) (o : Object) → object_of_kind p n x kind ≡ Some o → MayMake kind
may_make p n x (Text bytes) o h = tt
may_make p n x CallNode o h = tt
may_make p n x kind o h = absurd (none_some h)

record AreRanks (rs bs : List ℕ) (a b c d e f g h : ℕ) : Type 0 where
  first : a ≡ e
  second : b ≡ f
  third : c ≡ g
  last : d ≡ h

ranks : (a b c d e f g h : ℕ) → ◌≡◌ {A = List ℕ} (a ∷ b ∷ c ∷ d ∷ []) (e ∷ f ∷ g ∷ h ∷ []) → AreRanks [] [] a b c d e f g h
ranks a b c d e f g h same = record { first = cc; second = cc; third = cc; last = cc }

one_place : (a b : Place) → a.unit ≡ b.unit → a.line ≡ b.line → a.column ≡ b.column → a ≡ b
one_place a b unit line column = λ i. record { unit = unit i; line = line i; column = column i }

-- a function's object is that of a function with a body
body_is : (storage : Storage) → has_body storage ≡ true → storage ≡ FunctionBody
body_is FunctionBody e = refl
body_is Static e = absurd (cc)
body_is Automatic e = absurd (cc)
body_is Parameter e = absurd (cc)
body_is Declared e = absurd (cc)

body_of : (p : Program) (e : ℕ) (x : Entity) (o : Object) → varargs_object p e x ≡ Some o → x.storage ≡ FunctionBody
body_of p e x o h = by (has_varargs p.types x) _ refl h
  where
    first : (a b : Bool) → (a && b) ≡ true → a ≡ true
    first true b e = refl
    first false b e = absurd (cc)

    by : (b : Bool) (c : Object) → has_varargs p.types x ≡ b → (if b then Some c else None) ≡ Some o → x.storage ≡ FunctionBody
    by true c e g = body_is x.storage (first (has_body x.storage) (is_variadic (type_of p.types x.ty.0)) e)
    by false c e g = absurd (none_some g)

bodied : {storage : Storage} → storage ≡ FunctionBody → storage ≢ Declared
bodied is declared = (let bad : FunctionBody ≡ Declared = sym is ∙ declared in cc)

passed : {storage : Storage} → storage ≡ Parameter → storage ≢ Declared
passed is declared = (let bad : Parameter ≡ Declared = sym is ∙ declared in cc)

owners_one : (a b : ℕ) (o : Option ℕ) → o ≡ Some a → o ≡ Some b → a ≡ b
owners_one a b o x y = some_one (sym x ∙ y)

-- functions whose last parameters stand at one place are one
module _ (p : Program) (apart : MadeApart p) where
  one_function : (e f : ℕ) (x y : Entity) → slice_get p.entities.items e ≡ Some x → slice_get p.entities.items f ≡ Some y → x.storage ≡ FunctionBody → y.storage ≡ FunctionBody
      → last_place x.place e p.entities.items ≡ last_place y.place f p.entities.items → e ≡ f
  one_function e f x y at there bx by_body same = by (last_from x.place e p.entities.items) (last_from y.place f p.entities.items)
    where
      -- a parameter is no function
      never : (i : ℕ) (z : Entity) (g : ℕ) (w : Entity) → slice_get p.entities.items i ≡ Some z → slice_get p.entities.items g ≡ Some w → z.storage ≡ Parameter → w.storage ≡ FunctionBody → z.place ≡ w.place → ⊥
      never i z g w z_at w_at parameter body place =
          let one : i ≡ g = apart.entities i g z w z_at w_at (passed parameter) (bodied body) place in
          let the : z ≡ w = some_one (sym z_at ∙ (ap (slice_get p.entities.items) one ∙ w_at)) in
          let bad : Parameter ≡ FunctionBody = sym parameter ∙ (ap (λ (v : Entity). v.storage) the ∙ body) in
          cc

      by : (last_place x.place e p.entities.items ≡ x.place) ⊎ IsParameterAt e p.entities.items (last_place x.place e p.entities.items) → (last_place y.place f p.entities.items ≡ y.place) ⊎ IsParameterAt f p.entities.items (last_place y.place f p.entities.items) → e ≡ f
      by (inl a) (inl b) = apart.entities e f x y at there (bodied bx) (bodied by_body) (sym a ∙ (same ∙ b))
      by (inl a) (inr b) = absurd (never b.number b.entity e x b.there at b.storage bx (b.place_is ∙ (sym same ∙ a)))
      by (inr a) (inl b) = absurd (never a.number a.entity f y a.there there a.storage by_body (a.place_is ∙ (same ∙ b)))
      by (inr a) (inr b) =
          let one : a.number ≡ b.number = apart.entities a.number b.number a.entity b.entity a.there b.there (passed a.storage) (passed b.storage) (a.place_is ∙ (same ∙ sym b.place_is)) in
          let the : a.entity ≡ b.entity = some_one (sym a.there ∙ (ap (slice_get p.entities.items) one ∙ b.there)) in
          owners_one e f a.entity.owner a.owner (ap (λ (v : Entity). v.owner) the ∙ b.owner)

pub one_maker : (p : Program) → MadeApart p → (m k : Entry) → IsEntry p m → IsEntry p k → rank (counts p) m ≡ rank (counts p) k → m.0.3 ≡ k.0.3
one_maker p apart m k a b same = by a b
  where
    r : AreRanks [] [] m.0.0 m.0.1 m.0.2 (kind_of (counts p) m.0.3) k.0.0 k.0.1 k.0.2 (kind_of (counts p) k.0.3)
    r = ranks _ _ _ _ _ _ _ _ same

    places : (x y : Place) (i j : ℕ) → m.0 ≡ spot_at x i → k.0 ≡ spot_at y j → x ≡ y
    places x y i j s t =
        one_place x y (sym (ap (λ (z : Spot). z.0) s) ∙ (r.first ∙ ap (λ (z : Spot). z.0) t)) (sym (ap (λ (z : Spot). z.1) s) ∙ (r.second ∙ ap (λ (z : Spot). z.1) t))
        (sym (ap (λ (z : Spot). z.2) s) ∙ (r.third ∙ ap (λ (z : Spot). z.2) t))

    kinds : (x y : Place) (i j : ℕ) → m.0 ≡ spot_at x i → k.0 ≡ spot_at y j → kind_of (counts p) i ≡ kind_of (counts p) j
    kinds x y i j s t = sym (ap (λ (z : Spot). kind_of (counts p) z.3) s) ∙ (r.last ∙ ap (λ (z : Spot). kind_of (counts p) z.3) t)

    -- makers of different kinds
    differ : (x y : Place) (i j a b : ℕ) → m.0 ≡ spot_at x i → k.0 ≡ spot_at y j → kind_of (counts p) i ≡ a → kind_of (counts p) j ≡ b → (a ≡ b → ⊥) → m.0.3 ≡ k.0.3
    differ x y i j a b s t mine its other = absurd (other (sym mine ∙ (kinds x y i j s t ∙ its)))

    by : IsEntry p m → IsEntry p k → m.0.3 ≡ k.0.3
    by (by_entity e x x_at s is) (by_entity f y y_at t also) =
        let one : e ≡ f = apart.entities e f x y x_at y_at (not_declared x.storage _ m.1 is) (not_declared y.storage _ k.1 also) (places x.place y.place e f s t) in
        ap (λ (z : Spot). z.3) s ∙ (one ∙ sym (ap (λ (z : Spot). z.3) t))
    by (by_entity e x x_at s is) (by_node n y y_at t also) =
        differ x.place y.place e (length p.entities.items + n) 0 1 s t (entity_kind (counts p) e (slice_get_within p.entities.items e x x_at)) (node_kind (counts p) n (slice_get_within p.nodes.items n y y_at)) (λ h. omega arith)
    by (by_entity e x x_at s is) (by_further f y y_at t also) =
        differ x.place (last_place y.place f p.entities.items) e (length p.entities.items + length p.nodes.items + f) 0 2 s t (entity_kind (counts p) e (slice_get_within p.entities.items e x x_at)) (further_kind (counts p) f) (λ h. omega arith)
    by (by_node n x x_at s is) (by_entity e y y_at t also) =
        differ x.place y.place (length p.entities.items + n) e 1 0 s t (node_kind (counts p) n (slice_get_within p.nodes.items n x x_at)) (entity_kind (counts p) e (slice_get_within p.entities.items e y y_at)) (λ h. omega arith)
    by (by_node n x x_at s is) (by_node i y y_at t also) =
        let one : n ≡ i = apart.nodes n i x y x_at y_at (may_make p n x x.kind m.1 is) (may_make p i y y.kind k.1 also) (places x.place y.place (length p.entities.items + n) (length p.entities.items + i) s t) in
        ap (λ (z : Spot). z.3) s ∙ (ap (λ z. length p.entities.items + z) one ∙ sym (ap (λ (z : Spot). z.3) t))
    by (by_node n x x_at s is) (by_further f y y_at t also) =
        differ x.place (last_place y.place f p.entities.items) (length p.entities.items + n) (length p.entities.items + length p.nodes.items + f) 1 2 s t (node_kind (counts p) n (slice_get_within p.nodes.items n x x_at)) (further_kind (counts p) f)
        (λ h. omega arith)
    by (by_further e x x_at s is) (by_entity f y y_at t also) =
        differ (last_place x.place e p.entities.items) y.place (length p.entities.items + length p.nodes.items + e) f 2 0 s t (further_kind (counts p) e) (entity_kind (counts p) f (slice_get_within p.entities.items f y y_at)) (λ h. omega arith)
    by (by_further e x x_at s is) (by_node n y y_at t also) =
        differ (last_place x.place e p.entities.items) y.place (length p.entities.items + length p.nodes.items + e) (length p.entities.items + n) 2 1 s t (further_kind (counts p) e) (node_kind (counts p) n (slice_get_within p.nodes.items n y y_at))
        (λ h. omega arith)
    by (by_further e x x_at s is) (by_further f y y_at t also) =
        let one : e ≡ f =
        one_function p apart e f x y x_at y_at (body_of p e x m.1 is) (body_of p f y k.1 also)
        (places (last_place x.place e p.entities.items) (last_place y.place f p.entities.items) (length p.entities.items + length p.nodes.items + e) (length p.entities.items + length p.nodes.items + f) s t) in
        ap (λ (z : Spot). z.3) s ∙ (ap (λ z. length p.entities.items + length p.nodes.items + z) one ∙ sym (ap (λ (z : Spot). z.3) t))
