-- What rows ask of locations, in two programs with the same locations in the same order.
use Rattle.std.proofs.Common.{arith, ◌≡◌, ◌∙◌, ◌+◌, ◌&&◌, ℕ, zero, suc, Bool, true, false, List, [], ◌∷◌, map, length, Option, Some, None, refl, sym, ap, subst, inl, inr}
use Rattle.std.specs.Prelude.{if◌then◌else◌, ◌==◌, codes}
use Rattle.std.specs.List.{slice_get, filter_map, cons_option, enumerate_from, range_with_len, AllZip}
use Rattle.std.specs.Option.{option_map, option_map_or}
use Rattle.std.specs.Str.{bytes_eq}
use Rattle.std.proofs.lemmas.Bool.{eqb-true, eq-eqb, false≢true}
use Rattle.std.proofs.lemmas.List.{length-map}
use Rattle.std.proofs.lemmas.Option.{slice_get_within}
use Rattle.std.proofs.lemmas.Slice.Zip.{AllZip-long}
use Rattle.c_types.specs.declared.key.ObjectKey.{ObjectKey}
use Rattle.c_types.specs.declared.key.ObjectKey.TheVariants.{Entity as EntityKey, Function as FunctionKey}
use Rattle.core_tree.specs.declared.node.Entity.{Entity}
use Rattle.core_tree.specs.declared.node.Linkage.{Linkage}
use Rattle.core_tree.specs.declared.node.Storage.{Storage}
use Rattle.core_tree.specs.declared.node.Program.{Program}
use Rattle.core_tree.specs.Typed.{trees_in}
use Rattle.obj_space.specs.declared.location.Location.{Location}
use Rattle.obj_space.specs.Found.{same_object}
use Rattle.obj_space.specs.Space.{locations_in}
use Rattle.obj_space.specs.View.{SpaceView, first_from, collapsed_of, type_of_node, view_of}
use Rattle.obj_space.proofs.Indexed.{same_is, same_self}
use Rattle.row_numbers.specs.declared.functions.Role.{Role}
use Rattle.row_numbers.specs.declared.functions.Role.TheVariants.{Defined, Parameter as ParameterRole, Main}
use Rattle.row_numbers.specs.Functions.{has_body, is_parameter, is_external, plays, key_if, keys_in, begins_at, object_at, in_order, function_keys, functions_below, functions_of, number_at, number_of}
use Rattle.twin_report_laws.specs.outcome_laws.twin_programs.One.{Numbers}
use Rattle.twin_report_laws.specs.outcome_laws.twin_locations.Same.{key_moved, number_moved, SameLocation}
use Rattle.twin_report_laws.proofs.outcome_laws.twin_words.Sums.{some_one, none_some}
use Rattle.twin_report_laws.proofs.outcome_laws.twin_words.Options.{same_test}
use Rattle.twin_report_laws.proofs.outcome_laws.twin_words.Members.{Member, member_left, member_right, member_split, member_map, member_filter, filter_member, member_numbered, numbered_member, find_member, find_some}
use Rattle.twin_report_laws.proofs.outcome_laws.twin_words.Library.{one_object}
use Rattle.twin_report_laws.specs.rows.Paired.{ArePaired, flipped}

-- ---- lists of locations side by side
module _ (to back : Numbers) where
  first_zip : (xs ys : List Location) → AllZip (SameLocation to) xs ys → AllZip (SameLocation back) ys xs → (key : ObjectKey) → key_moved back (key_moved to key) ≡ key → (n : ℕ)
      → first_from n ys (key_moved to key) ≡ first_from n xs key
  first_zip [] [] h k key round n = refl
  first_zip [] (y ∷ ys) h k key round n = absurd h
  first_zip (x ∷ xs) [] h k key round n = absurd h
  first_zip (x ∷ xs) (y ∷ ys) h k key round n =
      ap (λ (b : Bool). if b then Some n else first_from (n + 1) ys (key_moved to key)) tests ∙ ap (λ (o : Option ℕ). if same_object x.key key then Some n else o) (first_zip xs ys h.1 k.1 key round (n + 1))
    where
      tests : same_object y.key (key_moved to key) ≡ same_object x.key key
      tests =
          same_test (same_object x.key key) (same_object y.key (key_moved to key))
          (λ its. same_self y.key (key_moved to key) (h.0.key ∙ ap (key_moved to) (same_is x.key key its)))
          (λ its. same_self x.key key (k.0.key ∙ (ap (key_moved back) (same_is y.key (key_moved to key) its) ∙ round)))

  collapsed_zip : (xs ys : List Location) → AllZip (SameLocation to) xs ys → (l : ℕ) → collapsed_of (slice_get ys l) ≡ collapsed_of (slice_get xs l)
  collapsed_zip [] [] h l = refl
  collapsed_zip [] (y ∷ ys) h l = absurd h
  collapsed_zip (x ∷ xs) [] h l = absurd h
  collapsed_zip (x ∷ xs) (y ∷ ys) h zero = h.0.collapsed
  collapsed_zip (x ∷ xs) (y ∷ ys) h (suc l) = collapsed_zip xs ys h.1 l

  type_zip : (xs ys : List Location) → AllZip (SameLocation to) xs ys → (l : ℕ) → type_of_node (slice_get ys l) ≡ number_moved to.tag (type_of_node (slice_get xs l))
  type_zip [] [] h l = refl
  type_zip [] (y ∷ ys) h l = absurd h
  type_zip (x ∷ xs) [] h l = absurd h
  type_zip (x ∷ xs) (y ∷ ys) h zero = h.0.ty
  type_zip (x ∷ xs) (y ∷ ys) h (suc l) = type_zip xs ys h.1 l

-- ---- what is found and moved
moved_by : (m : ObjectKey → ObjectKey) (o : Option ObjectKey) (ks : List ObjectKey) → cons_option (option_map m o) (map m ks) ≡ map m (cons_option o ks)
moved_by m None ks = refl
moved_by m (Some key) ks = refl

moved_list : (m : ObjectKey → ObjectKey) (f g : ℕ → Option ObjectKey) → ((n : ℕ) → g n ≡ option_map m (f n)) → (ns : List ℕ) → filter_map (λ found. found) (map g ns) ≡ map m (filter_map (λ found. found) (map f ns))
moved_list m f g same [] = refl
moved_list m f g same (n ∷ ns) =
    ap (λ (o : Option ObjectKey). cons_option o (filter_map (λ found. found) (map g ns))) (same n)
    ∙ (ap (cons_option (option_map m (f n))) (moved_list m f g same ns) ∙ moved_by m (f n) (filter_map (λ found. found) (map f ns)))

pub begins_view : (s : SpaceView) (n : ℕ) (key : ObjectKey) → begins_at s n key ≡ true → s.first key ≡ Some n
begins_view s n key h = by (s.first key) h
  where
    by : (o : Option ℕ) → option_map_or (λ first. first == n) o false ≡ true → o ≡ Some n
    by None e = absurd (false≢true e)
    by (Some m) e = ap Some (eqb-true m n e)

pub begins_is : (s : SpaceView) (n : ℕ) (key : ObjectKey) → s.first key ≡ Some n → begins_at s n key ≡ true
begins_is s n key h = ap (λ (o : Option ℕ). option_map_or (λ first. first == n) o false) h ∙ eq-eqb n n refl

-- keys that stand in both programs
pub record AreMoved (to back : Numbers) (one other : List ObjectKey) : Type 0 where
  pub there : (key : ObjectKey) → Member one key → Member other (key_moved to key)
  pub round : (key : ObjectKey) → Member one key → key_moved back (key_moved to key) ≡ key

-- ---- the keys in a role
pub record IsInRole (p : Program) (role : Role) (key : ObjectKey) : Type 0 where
  pub number : ℕ
  pub entity : Entity
  pub there : slice_get p.entities.items number ≡ Some entity
  pub plays : plays role entity ≡ true
  pub key_is : key ≡ EntityKey number

pub in_role : (p : Program) (role : Role) (key : ObjectKey) → Member (keys_in role p.entities.items) key → IsInRole p role key
in_role p role key m =
    let (entry, there, is) = member_filter (λ (entry : ℕ × Entity). key_if role entry.0 entry.1) (enumerate_from 0 p.entities.items) key m in
    let (e, at, number) = member_numbered 0 p.entities.items entry there in
    let e_is : e ≡ entry.0 = omega (arith, number) in
    by entry (ap (slice_get p.entities.items) (sym e_is) ∙ at) (plays role entry.1) refl is
  where
    by : (entry : ℕ × Entity) → slice_get p.entities.items entry.0 ≡ Some entry.1 → (b : Bool) → plays role entry.1 ≡ b → (if b then Some (EntityKey entry.0) else None) ≡ Some key → IsInRole p role key
    by entry at true e f = record { number = entry.0; entity = entry.1; there = at; plays = e; key_is = sym (some_one f) }
    by entry at false e f = absurd (none_some f)

pub role_in : (p : Program) (role : Role) (e : ℕ) (x : Entity) → slice_get p.entities.items e ≡ Some x → plays role x ≡ true → Member (keys_in role p.entities.items) (EntityKey e)
role_in p role e x at is =
    let zero_is : 0 + e ≡ e = omega arith in
    let there : Member (enumerate_from 0 p.entities.items) (e, x) = subst (λ (n : ℕ). Member (enumerate_from 0 p.entities.items) (n, x)) zero_is (numbered_member 0 p.entities.items e x at) in
    filter_member (λ (entry : ℕ × Entity). key_if role entry.0 entry.1) (enumerate_from 0 p.entities.items) (e, x) (EntityKey e) there (ap (λ (b : Bool). if b then Some (EntityKey e) else None) is)

plays_same : (role : Role) (x y : Entity) → y.storage ≡ x.storage → y.linkage ≡ x.linkage → y.name ≡ x.name → plays role y ≡ plays role x
plays_same Defined x y storage linkage name = ap has_body storage
plays_same ParameterRole x y storage linkage name = ap is_parameter storage
plays_same Main x y storage linkage name =
    ap (λ (s : Storage). has_body s && is_external y.linkage && bytes_eq y.name (codes "main")) storage
    ∙ (ap (λ (k : Linkage). has_body x.storage && is_external k && bytes_eq y.name (codes "main")) linkage
    ∙ ap (λ (n : List ℕ). has_body x.storage && is_external x.linkage && bytes_eq n (codes "main")) name)

module _ (p q : Program) (to back : Numbers) (h : ArePaired p q to back) where
  pub entity_round : (e : ℕ) (x : Entity) → slice_get p.entities.items e ≡ Some x → key_moved back (key_moved to (EntityKey e)) ≡ EntityKey e
  entity_round e x at = ap EntityKey (h.lead.entity_back e (slice_get_within p.entities.items e x at))

  pub role_moved : (role : Role) → AreMoved to back (keys_in role p.entities.items) (keys_in role q.entities.items)
  role_moved role = record {
    there = λ key m.
        let k = in_role p role key m in
        let (y, there, same) = h.lead.entities k.number k.entity k.there in
        subst (λ (z : ObjectKey). Member (keys_in role q.entities.items) (key_moved to z)) (sym k.key_is)
        (role_in q role (to.entity k.number) y there (plays_same role k.entity y same.storage same.linkage same.name ∙ k.plays));
    round = λ key m.
        let k = in_role p role key m in
        subst (λ (z : ObjectKey). key_moved back (key_moved to z) ≡ z) (sym k.key_is) (entity_round k.number k.entity k.there);
  }

  pub functions_moved : AreMoved to back (function_keys (trees_in p)) (function_keys (trees_in q))
  functions_moved = record { there = there; round = round }
    where
      library : (key : ObjectKey) → Member (map (λ k. FunctionKey k) (range_with_len 0 55)) key → key_moved to key ≡ key
      library key m = (let (k, at, is) = member_map (λ (k : ℕ). FunctionKey k) (range_with_len 0 55) key m in subst (λ (z : ObjectKey). key_moved to z ≡ z) is refl)

      library_back : (key : ObjectKey) → Member (map (λ k. FunctionKey k) (range_with_len 0 55)) key → key_moved back (key_moved to key) ≡ key
      library_back key m = (let (k, at, is) = member_map (λ (k : ℕ). FunctionKey k) (range_with_len 0 55) key m in subst (λ (z : ObjectKey). key_moved back (key_moved to z) ≡ z) is refl)

      there : (key : ObjectKey) → Member (function_keys (trees_in p)) key → Member (function_keys (trees_in q)) (key_moved to key)
      there key m = elim (member_split (keys_in Defined p.entities.items) (map (λ k. FunctionKey k) (range_with_len 0 55)) key m) [
        | inl mine ↦ member_left (keys_in Defined q.entities.items) (map (λ k. FunctionKey k) (range_with_len 0 55)) (key_moved to key) ((role_moved Defined).there key mine)
        | inr its ↦ member_right (keys_in Defined q.entities.items) (map (λ k. FunctionKey k) (range_with_len 0 55)) (key_moved to key)
            (subst (Member (map (λ k. FunctionKey k) (range_with_len 0 55))) (sym (library key its)) its)
      ]

      round : (key : ObjectKey) → Member (function_keys (trees_in p)) key → key_moved back (key_moved to key) ≡ key
      round key m = elim (member_split (keys_in Defined p.entities.items) (map (λ k. FunctionKey k) (range_with_len 0 55)) key m) [
        | inl mine ↦ (role_moved Defined).round key mine
        | inr its ↦ library_back key its
      ]

  -- ---- locations
  abbrev pub here : SpaceView
  here = view_of (locations_in p)

  abbrev pub over : SpaceView
  over = view_of (locations_in q)

  pub count_same : over.count ≡ here.count
  count_same = AllZip-long (SameLocation to) (locations_in p) (locations_in q) h.order

  pub first_same : (key : ObjectKey) → key_moved back (key_moved to key) ≡ key → over.first (key_moved to key) ≡ here.first key
  first_same key round = first_zip to back (locations_in p) (locations_in q) h.order h.order_back key round 0

  pub collapsed_same : (l : ℕ) → over.collapsed l ≡ here.collapsed l
  collapsed_same l = collapsed_zip to back (locations_in p) (locations_in q) h.order l

  pub type_same : (l : ℕ) → over.node_type l ≡ number_moved to.tag (here.node_type l)
  type_same l = type_zip to back (locations_in p) (locations_in q) h.order l

  -- what begins at a location begins there in the other program
  pub found_there : (one other : List ObjectKey) → AreMoved to back one other → (l : ℕ) (key : ObjectKey) → object_at here one l ≡ Some key → object_at over other l ≡ Some (key_moved to key)
  found_there one other moved l key is =
      let (m, begun) = find_member (begins_at here l) one key is in
      let first = begins_view here l key begun in
      let there : over.first (key_moved to key) ≡ Some l = first_same key (moved.round key m) ∙ first in
      let (w, found) = find_some (begins_at over l) other (key_moved to key) (moved.there key m) (begins_is over l (key_moved to key) there) in
      let (w_in, w_begun) = find_member (begins_at over l) other w found in
      found ∙ ap (λ (k : ObjectKey). Some k) (one_object (locations_in q) l w (key_moved to key) (begins_view over l w w_begun) there)

-- so the same begins at each location
module _ (p q : Program) (to back : Numbers) (h : ArePaired p q to back) (one other : List ObjectKey) (moved : AreMoved to back one other) (returned : AreMoved back to other one) where
  object_same : (l : ℕ) → object_at (over p q to back h) other l ≡ option_map (key_moved to) (object_at (here p q to back h) one l)
  object_same l = by (object_at (here p q to back h) one l) refl (object_at (over p q to back h) other l) refl
    where
      by : (o : Option ObjectKey) → object_at (here p q to back h) one l ≡ o → (w : Option ObjectKey) → object_at (over p q to back h) other l ≡ w → object_at (over p q to back h) other l ≡ option_map (key_moved to) o
      by (Some key) e w f = found_there p q to back h one other moved l key e
      by None e None f = f
      by None e (Some key) f = absurd (none_some (sym e ∙ found_there q p back to (flipped p q to back h) other one returned l key f))

  pub order_same : (n : ℕ) → in_order (over p q to back h) other n ≡ map (key_moved to) (in_order (here p q to back h) one n)
  order_same n = moved_list (key_moved to) (object_at (here p q to back h) one) (object_at (over p q to back h) other) object_same (range_with_len 0 n)

  pub object_moved : (l : ℕ) → object_at (over p q to back h) other l ≡ option_map (key_moved to) (object_at (here p q to back h) one l)
  object_moved = object_same

-- ---- functions and their numbers
module _ (p q : Program) (to back : Numbers) (h : ArePaired p q to back) where
  pub functions_same : (n : ℕ) → functions_below (trees_in q) (over p q to back h) n ≡ map (key_moved to) (functions_below (trees_in p) (here p q to back h) n)
  unfolding functions_below
  functions_same n =
      order_same p q to back h (function_keys (trees_in p)) (function_keys (trees_in q)) (functions_moved p q to back h) (functions_moved q p back to (flipped p q to back h)) n

  pub all_functions : functions_of (trees_in q) (over p q to back h) ≡ map (key_moved to) (functions_of (trees_in p) (here p q to back h))
  all_functions = ap (functions_below (trees_in q) (over p q to back h)) (count_same p q to back h) ∙ functions_same (length (locations_in p))

  pub before_same : (l : ℕ) → number_at (trees_in q) (over p q to back h) l ≡ number_at (trees_in p) (here p q to back h) l
  before_same l = ap (λ (ks : List ObjectKey). length ks) (functions_same l) ∙ length-map (functions_below (trees_in p) (here p q to back h) l) (key_moved to)

  pub number_same : (e : ℕ) (x : Entity) → slice_get p.entities.items e ≡ Some x → number_of (trees_in q) (over p q to back h) (to.entity e) ≡ number_of (trees_in p) (here p q to back h) e
  number_same e x at =
      ap (λ (o : Option ℕ). option_map_or (number_at (trees_in q) (over p q to back h)) o 0) (first_same p q to back h (EntityKey e) (entity_round p q to back h e x at))
      ∙ by (first_from 0 (locations_in p) (EntityKey e))
    where
      by : (o : Option ℕ) → option_map_or (number_at (trees_in q) (over p q to back h)) o 0 ≡ option_map_or (number_at (trees_in p) (here p q to back h)) o 0
      by None = refl
      by (Some l) = before_same l
