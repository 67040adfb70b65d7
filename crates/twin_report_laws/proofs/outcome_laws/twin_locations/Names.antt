-- Names of entities in programs that are one.
use Rattle.std.proofs.Common.{arith, ◌≡◌, ◌∙◌, ◌<◌, ◌≤◌, ℕ, zero, suc, Bool, true, false, cond, codes, List, [], ◌∷◌, ◌++◌, Option, Some, None, refl, sym, ap, subst}
use Rattle.std.specs.Prelude.{nat_lt}
use Rattle.std.specs.List.{slice_get, count_by}
use Rattle.std.specs.Option.{option_map}
use Rattle.std.specs.Cmp.Lexicographic.{bytes_decides}
use Rattle.std.proofs.lemmas.Bool.{false≢true}
use Rattle.std.proofs.lemmas.Bool.Decides.{nat_tests}
use Rattle.std.proofs.lemmas.List.Sums.{sum_by-cons}
use Rattle.std.proofs.lemmas.Option.{slice_get_within}
use Rattle.pta_base.specs.declared.place.Place.{Place}
use Rattle.core_tree.specs.declared.node.Node.{Node}
use Rattle.core_tree.specs.declared.node.NodeKind.{NodeKind}
use Rattle.core_tree.specs.declared.node.NodeKind.TheVariants.{Literal}
use Rattle.core_tree.specs.declared.node.Entity.{Entity}
use Rattle.core_tree.specs.declared.node.Linkage.{Linkage}
use Rattle.core_tree.specs.declared.node.Linkage.TheVariants.{External, Internal, Local}
use Rattle.core_tree.specs.declared.node.Program.{Program}
use Rattle.unit_link.specs.Places.{kind_renamed}
use Rattle.obj_made.specs.Spelling.{placed_name, linked_in, linked_name, function_named, owner_name, local_key_in, local_key, is_key, locals_of, twice_in, stands_twice, told_apart, local_name, declared_in, entity_name}
use Rattle.obj_made.specs.Uses.{is_number, literal_entity, is_literal}
use Rattle.twin_report_laws.specs.outcome_laws.twin_programs.One.{Numbers, SameEntity, LeadsTo}
use Rattle.twin_report_laws.proofs.outcome_laws.twin_locations.Options.{some_one, none_some, same_test, any_at, any_one, number_is, is_the_number}

-- ---- how many pass a test
module _ {X : Type 0} (test : X → Bool) where
  passes : (x : X) → test x ≡ true → ◌≡◌ {A = ℕ} (cond (test x) 1 0) 1
  passes x e = ap (λ (b : Bool). cond b 1 0) e

  fails : (x : X) → test x ≡ false → ◌≡◌ {A = ℕ} (cond (test x) 1 0) 0
  fails x e = ap (λ (b : Bool). cond b 1 0) e

  some_pass : (xs : List X) (i : ℕ) (x : X) → slice_get xs i ≡ Some x → test x ≡ true → 1 ≤ count_by test xs
  some_pass [] i x at e = absurd (none_some at)
  some_pass (y ∷ xs) zero x at e =
      let all = sum_by-cons (λ z. cond (test z) 1 0) y xs in
      let one = passes y (ap test (some_one at) ∙ e) in
      omega (arith, all, one)
  some_pass (y ∷ xs) (suc i) x at e =
      let all = sum_by-cons (λ z. cond (test z) 1 0) y xs in
      let more = some_pass xs i x at e in
      omega (arith, all, more)

  two_pass : (xs : List X) (i j : ℕ) (x y : X) → (i ≡ j → ⊥) → slice_get xs i ≡ Some x → slice_get xs j ≡ Some y → test x ≡ true → test y ≡ true → 2 ≤ count_by test xs
  two_pass [] i j x y other at there e f = absurd (none_some at)
  two_pass (z ∷ xs) zero zero x y other at there e f = absurd (other refl)
  two_pass (z ∷ xs) zero (suc j) x y other at there e f =
      let all = sum_by-cons (λ z. cond (test z) 1 0) z xs in
      let one = passes z (ap test (some_one at) ∙ e) in
      let more = some_pass xs j y there f in
      omega (arith, all, one, more)
  two_pass (z ∷ xs) (suc i) zero x y other at there e f =
      let all = sum_by-cons (λ z. cond (test z) 1 0) z xs in
      let one = passes z (ap test (some_one there) ∙ f) in
      let more = some_pass xs i x at e in
      omega (arith, all, one, more)
  two_pass (z ∷ xs) (suc i) (suc j) x y other at there e f =
      let all = sum_by-cons (λ z. cond (test z) 1 0) z xs in
      let more = two_pass xs i j x y (λ same. other (ap suc same)) at there e f in
      omega (arith, all, more)

  -- one that passes, and two
  record Passes (xs : List X) (i : ℕ) : Type 0 where
    at : X
    there : slice_get xs i ≡ Some at
    is : test at ≡ true

  pass_one : (xs : List X) → 1 ≤ count_by test xs → (i : ℕ) × Passes xs i
  pass_one [] h = absurd (omega (arith, h))
  pass_one (x ∷ xs) h = by (test x) refl (λ more. pass_one xs more)
    where
      by : (b : Bool) → test x ≡ b → (1 ≤ count_by test xs → (i : ℕ) × Passes xs i) → (i : ℕ) × Passes (x ∷ xs) i
      by true e later = (0, record { at = x; there = refl; is = e })
      by false e later =
          let all = sum_by-cons (λ z. cond (test z) 1 0) x xs in
          let none = fails x e in
          let (i, found) = later (omega (arith, h, all, none)) in
          (suc i, record { at = found.at; there = found.there; is = found.is })

  pass_two : (xs : List X) → 2 ≤ count_by test xs → (i : ℕ) × (j : ℕ) × (i < j) × Passes xs i × Passes xs j
  pass_two [] h = absurd (omega (arith, h))
  pass_two (x ∷ xs) h = by (test x) refl (λ more. pass_two xs more)
    where
      by : (b : Bool) → test x ≡ b → (2 ≤ count_by test xs → (i : ℕ) × (j : ℕ) × (i < j) × Passes xs i × Passes xs j) → (i : ℕ) × (j : ℕ) × (i < j) × Passes (x ∷ xs) i × Passes (x ∷ xs) j
      by true e later =
          let all = sum_by-cons (λ z. cond (test z) 1 0) x xs in
          let one = passes x e in
          let (j, found) = pass_one xs (omega (arith, h, all, one)) in
          (0, suc j, omega arith, record { at = x; there = refl; is = e }, record { at = found.at; there = found.there; is = found.is })
      by false e later =
          let all = sum_by-cons (λ z. cond (test z) 1 0) x xs in
          let none = fails x e in
          let (i, j, lt, found, other) = later (omega (arith, h, all, none)) in
          (suc i, suc j, omega (arith, lt), record { at = found.at; there = found.there; is = found.is }, record { at = other.at; there = other.there; is = other.is })

above_one : (n : ℕ) → 2 ≤ n → nat_lt 1 n ≡ true
above_one n h = grind (arith, nat_tests)

one_above : (n : ℕ) → nat_lt 1 n ≡ true → 2 ≤ n
one_above n h = grind (arith, nat_tests)

-- ---- the key of a local
key_some : (key : List ℕ) (o : Option (List ℕ)) → is_key key o ≡ true → o ≡ Some key
key_some key None h = absurd (false≢true h)
key_some key (Some other) h = ap Some ((bytes_decides other key).0 h)

some_key : (key : List ℕ) (o : Option (List ℕ)) → o ≡ Some key → is_key key o ≡ true
some_key key o e = ap (is_key key) e ∙ (bytes_decides key key).1 refl

-- a local of that function and name
record IsLocalOf (x : Entity) (f : ℕ) (name : List ℕ) : Type 0 where
  linkage : x.linkage ≡ Local
  owner : x.owner ≡ Some f
  named : x.name ≡ name

heads : (f g : ℕ) (a b : List ℕ) → f ∷ a ≡ g ∷ b → (f ≡ g) × (a ≡ b)
heads f g a b e = (cc, cc)

local_view : (x : Entity) (f : ℕ) (name : List ℕ) → local_key x ≡ Some (f ∷ name) → IsLocalOf x f name
local_view x f name h = by x.linkage refl x.owner refl h
  where
    by : (linkage : Linkage) → x.linkage ≡ linkage → (o : Option ℕ) → x.owner ≡ o → local_key_in linkage o x.name ≡ Some (f ∷ name) → IsLocalOf x f name
    by External e o n k = absurd (none_some k)
    by Internal e o n k = absurd (none_some k)
    by Local e None n k = absurd (none_some k)
    by Local e (Some g) n k = (let (same, names) = heads g f x.name name (some_one k) in record { linkage = e; owner = n ∙ ap Some same; named = names })

local_is : (x : Entity) (f : ℕ) (name : List ℕ) → IsLocalOf x f name → local_key x ≡ Some (f ∷ name)
local_is x f name h =
    ap (λ (k : Linkage). local_key_in k x.owner x.name) h.linkage
    ∙ (ap (λ (o : Option ℕ). local_key_in Local o x.name) h.owner ∙ ap (λ (n : List ℕ). Some (f ∷ n)) h.named)

literal_view : (kind : NodeKind) (e : ℕ) → literal_entity kind ≡ Some e → kind ≡ Literal e
literal_view (Literal d) e h = ap Literal (some_one h)
literal_view kind e h = absurd (none_some h)

module _ (p q : Program) (to back : Numbers) (l : LeadsTo p q to back) where
  literal_there : (e : ℕ) → is_literal p.nodes.items e ≡ true → is_literal q.nodes.items (to.entity e) ≡ true
  literal_there e h =
      let (i, x, at, is) = any_one (λ (node : Node). is_number e (literal_entity node.kind)) p.nodes.items h in
      let (y, there, same) = l.nodes i x at in
      let kind : y.kind ≡ Literal (to.entity e) = same.kind ∙ ap (kind_renamed to.entity) (literal_view x.kind e (number_is e (literal_entity x.kind) is)) in
      any_at (λ (node : Node). is_number (to.entity e) (literal_entity node.kind)) q.nodes.items (to.node i) y there
      (is_the_number (to.entity e) (literal_entity y.kind) (ap literal_entity kind))

  pub linked_same : (x y : Entity) → SameEntity p.types q.types to x y → linked_name q.names.items y ≡ linked_name p.names.items x
  linked_same x y s =
      ap (λ (names : List (List ℕ)). linked_in names y.linkage y.unit y.name) l.names
      ∙ (ap (λ (k : Linkage). linked_in p.names.items k y.unit y.name) s.linkage
      ∙ (ap (λ (u : ℕ). linked_in p.names.items x.linkage u y.name) s.unit_is ∙ ap (linked_in p.names.items x.linkage x.unit) s.name))

  -- the local of the function and name in the other program
  local_there : (x y : Entity) (f : ℕ) (name : List ℕ) → SameEntity p.types q.types to x y → IsLocalOf x f name → IsLocalOf y (to.entity f) name
  local_there x y f name s h = record { linkage = s.linkage ∙ h.linkage; owner = s.owner ∙ ap (option_map to.entity) h.owner; named = s.name ∙ h.named }

  twice_there : (f : ℕ) (name : List ℕ) → twice_in p.entities.items (Some (f ∷ name)) ≡ true → twice_in q.entities.items (Some (to.entity f ∷ name)) ≡ true
  twice_there f name h =
      let mine : Entity → Bool = λ (x : Entity). is_key (f ∷ name) (local_key x) in
      let its : Entity → Bool = λ (x : Entity). is_key (to.entity f ∷ name) (local_key x) in
      let (i, j, lt, one, two) = pass_two mine p.entities.items (one_above (locals_of p.entities.items (f ∷ name)) h) in
      let (x, x_there, x_same) = l.entities i one.at one.there in
      let (y, y_there, y_same) = l.entities j two.at two.there in
      let x_local = local_there one.at x f name x_same (local_view one.at f name (key_some (f ∷ name) (local_key one.at) one.is)) in
      let y_local = local_there two.at y f name y_same (local_view two.at f name (key_some (f ∷ name) (local_key two.at) two.is)) in
      let x_round = l.entity_back i (slice_get_within p.entities.items i one.at one.there) in
      let y_round = l.entity_back j (slice_get_within p.entities.items j two.at two.there) in
      let apart : to.entity i ≡ to.entity j → ⊥ = λ same. (let back_same = ap back.entity same in omega (arith, lt, back_same, x_round, y_round)) in
      above_one (locals_of q.entities.items (to.entity f ∷ name))
      (two_pass its q.entities.items (to.entity i) (to.entity j) x y apart x_there y_there
      (some_key (to.entity f ∷ name) (local_key x) (local_is x (to.entity f) name x_local))
      (some_key (to.entity f ∷ name) (local_key y) (local_is y (to.entity f) name y_local)))

module _ (p q : Program) (to back : Numbers) (l : LeadsTo p q to back) (r : LeadsTo q p back to) (e : ℕ) (x y : Entity)
    (at : slice_get p.entities.items e ≡ Some x) (there : slice_get q.entities.items (to.entity e) ≡ Some y) (same : SameEntity p.types q.types to x y) where
  entity_round : back.entity (to.entity e) ≡ e
  entity_round = l.entity_back e (slice_get_within p.entities.items e x at)

  -- the entity of the first program is that of its entity in the other one
  entity_back : SameEntity q.types p.types back y x
  entity_back =
      let (z, z_at, s) = r.entities (to.entity e) y there in
      subst (λ (w : Entity). SameEntity q.types p.types back y w) (some_one (sym z_at ∙ (ap (slice_get p.entities.items) entity_round ∙ at))) s

  literal_same : is_literal q.nodes.items (to.entity e) ≡ is_literal p.nodes.items e
  literal_same =
      same_test (is_literal p.nodes.items e) (is_literal q.nodes.items (to.entity e)) (literal_there p q to back l e)
      (λ h. sym (ap (is_literal p.nodes.items) entity_round) ∙ literal_there q p back to r (to.entity e) h)

  -- the number of an owner leads back
  owner_round : (f : ℕ) → x.owner ≡ Some f → back.entity (to.entity f) ≡ f
  owner_round f e =
      let other : y.owner ≡ Some (to.entity f) = same.owner ∙ ap (option_map to.entity) e in
      let again : x.owner ≡ Some (back.entity (to.entity f)) = entity_back.owner ∙ ap (option_map back.entity) other in
      some_one (sym again ∙ e)

  function_same : (f : ℕ) → x.owner ≡ Some f → function_named q.names.items (slice_get q.entities.items (to.entity f)) ≡ function_named p.names.items (slice_get p.entities.items f)
  function_same f owner = by (slice_get p.entities.items f) refl
    where
      nothing : (o : Option Entity) → slice_get q.entities.items (to.entity f) ≡ o → slice_get p.entities.items f ≡ None → slice_get q.entities.items (to.entity f) ≡ None
      nothing None n none = n
      nothing (Some z) n none = (let (w, w_at, s) = r.entities (to.entity f) z n in absurd (none_some (sym none ∙ (ap (slice_get p.entities.items) (sym (owner_round f owner)) ∙ w_at))))

      by : (o : Option Entity) → slice_get p.entities.items f ≡ o → function_named q.names.items (slice_get q.entities.items (to.entity f)) ≡ function_named p.names.items (slice_get p.entities.items f)
      by None n = ap (function_named q.names.items) (nothing (slice_get q.entities.items (to.entity f)) refl n) ∙ sym (ap (function_named p.names.items) n)
      by (Some g) n =
          let (h, h_at, s) = l.entities f g n in
          ap (function_named q.names.items) h_at ∙ (linked_same p q to back l g h s ∙ sym (ap (function_named p.names.items) n))

  owner_same : owner_name q.names.items q.entities.items y.owner ≡ owner_name p.names.items p.entities.items x.owner
  owner_same = by x.owner refl
    where
      by : (o : Option ℕ) → x.owner ≡ o → owner_name q.names.items q.entities.items y.owner ≡ owner_name p.names.items p.entities.items x.owner
      by None n = ap (owner_name q.names.items q.entities.items) (same.owner ∙ ap (option_map to.entity) n) ∙ sym (ap (owner_name p.names.items p.entities.items) n)
      by (Some f) n =
          ap (owner_name q.names.items q.entities.items) (same.owner ∙ ap (option_map to.entity) n)
          ∙ (function_same f n ∙ sym (ap (owner_name p.names.items p.entities.items) n))

  twice_both : (f : ℕ) (name : List ℕ) → x.owner ≡ Some f → twice_in q.entities.items (Some (to.entity f ∷ name)) ≡ twice_in p.entities.items (Some (f ∷ name))
  twice_both f name owner =
      same_test (twice_in p.entities.items (Some (f ∷ name))) (twice_in q.entities.items (Some (to.entity f ∷ name))) (twice_there p q to back l f name)
      (λ h. sym (ap (λ (g : ℕ). twice_in p.entities.items (Some (g ∷ name))) (owner_round f owner)) ∙ twice_there q p back to r (to.entity f) name h)

  stands_same : stands_twice q.entities.items y ≡ stands_twice p.entities.items x
  stands_same =
      ap (λ (k : Linkage). twice_in q.entities.items (local_key_in k y.owner y.name)) same.linkage
      ∙ (ap (λ (o : Option ℕ). twice_in q.entities.items (local_key_in x.linkage o y.name)) same.owner
      ∙ (ap (λ (n : List ℕ). twice_in q.entities.items (local_key_in x.linkage (option_map to.entity x.owner) n)) same.name ∙ by x.linkage x.owner refl))
    where
      by : (k : Linkage) (o : Option ℕ) → x.owner ≡ o → twice_in q.entities.items (local_key_in k (option_map to.entity o) x.name) ≡ twice_in p.entities.items (local_key_in k o x.name)
      by External o n = refl
      by Internal o n = refl
      by Local None n = refl
      by Local (Some f) n = twice_both f x.name n

  local_same : local_name q.names.items q.entities.items y ≡ local_name p.names.items p.entities.items x
  local_same =
      ap (λ (owner : List ℕ). owner ++ (codes "/" ++ (y.name ++ told_apart (stands_twice q.entities.items y) y.place))) owner_same
      ∙ (ap (λ (name : List ℕ). owner_name p.names.items p.entities.items x.owner ++ (codes "/" ++ (name ++ told_apart (stands_twice q.entities.items y) y.place))) same.name
      ∙ (ap (λ (b : Bool). owner_name p.names.items p.entities.items x.owner ++ (codes "/" ++ (x.name ++ told_apart b y.place))) stands_same
      ∙ ap (λ (place : Place). owner_name p.names.items p.entities.items x.owner ++ (codes "/" ++ (x.name ++ told_apart (stands_twice p.entities.items x) place))) same.place))

  declared_same : (k : Linkage) → x.linkage ≡ k → declared_in q.names.items q.entities.items y k ≡ declared_in p.names.items p.entities.items x k
  declared_same External n =
      sym (ap (λ (k : Linkage). linked_in q.names.items k y.unit y.name) (same.linkage ∙ n)) ∙ (linked_same p q to back l x y same ∙ ap (λ (k : Linkage). linked_in p.names.items k x.unit x.name) n)
  declared_same Internal n =
      sym (ap (λ (k : Linkage). linked_in q.names.items k y.unit y.name) (same.linkage ∙ n)) ∙ (linked_same p q to back l x y same ∙ ap (λ (k : Linkage). linked_in p.names.items k x.unit x.name) n)
  declared_same Local n = local_same

  placed_same : (kind : List ℕ) (a b : Place) → b ≡ a → placed_name q.names.items kind b ≡ placed_name p.names.items kind a
  placed_same kind a b h = ap (λ (names : List (List ℕ)). placed_name names kind b) l.names ∙ ap (placed_name p.names.items kind) h

  -- the name of an entity is that of its entity in the other program
  pub name_same : entity_name q.names.items q.entities.items (is_literal q.nodes.items (to.entity e)) y ≡ entity_name p.names.items p.entities.items (is_literal p.nodes.items e) x
  name_same = ap (λ (b : Bool). entity_name q.names.items q.entities.items b y) literal_same ∙ by (is_literal p.nodes.items e)
    where
      by : (b : Bool) → entity_name q.names.items q.entities.items b y ≡ entity_name p.names.items p.entities.items b x
      by true = placed_same (codes "lit") x.place y.place same.place
      by false = ap (declared_in q.names.items q.entities.items y) same.linkage ∙ declared_same x.linkage refl
