-- The nodes of operators on values, of names, members, assignments and calls.
use Rattle.std.proofs.Common.{arith, ℕ, ◌+◌, ◌≤◌, Bool, true, false, ◌&&◌, not, List, [], ◌∷◌, length, Option, Some, None, ◌||◌}
use Rattle.std.specs.Prelude.{is_some, is_none, if◌then◌else◌}
use Rattle.pta_base.specs.declared.kind.Kind.TheVariants.{Operand, ArrayOfValue, FlexibleMember}
use Rattle.pta_base.specs.declared.place.Place.{Place}
use Rattle.c_types.specs.declared.term.Form.{Form}
use Rattle.c_types.specs.Trees.{Ctype, Ctypes, NoTypes, MoreTypes, VoidType, PointerTo, FunctionFrom, VaListType}
use Rattle.c_types.specs.Table.{size_below}
use Rattle.core_tree.specs.declared.node.Op.{Op}
use Rattle.core_tree.specs.declared.node.Op.TheVariants.{Not}
use Rattle.core_tree.specs.declared.node.NodeKind.TheVariants.{Named, PointerAdd, Arith, Deref, AddressOf, CallNode, Text, Assign, NextArg}
use Rattle.core_tree.specs.Typed.{Sort, PlaceNode}
use Rattle.core_tree.specs.Rows.{int}
use Rattle.c_consts.specs.Core.{Core, Cores, Of, MoreCores, ctype_of, core_sort, leaf, over, over_two}
use Rattle.c_inits.specs.Made.{Part}
use Rattle.c_senses.specs.Given.{Given, Fits, Refuses, ◌>>=◌}
use Rattle.c_senses.specs.World.{World, Meaning, Object, Function, TypeName, Tag, Value, extent, has_size, same_type, members_of, way_to}
use Rattle.c_senses.specs.Nulls.{is_null}
use Rattle.c_senses.specs.Conversions.{OperandSort, Whole, Address, Aggregate, Other, operand_of, is_scalar, value_of, promotion, conversion, null_value, place_width, is_list}
use Rattle.c_senses.specs.Operators.{in_common, common_of, numeric_row, shift_row, moved, plus_row, difference, minus_row, compared, order_row, is_void, is_object, Both, joined, pointers_joined, equality_row, both_core, both_row, either_core, either_row, Between, Numeric, Shifting, Adding, Subtracting, Ordering, Equating, BothTrue, EitherTrue, Following, NoOperator, between, promoted_row, not_row, chosen, branches, choice_row}
use Rattle.c_senses.specs.Objects.{text_core, name_row, address_row, target_row, indirection_row, element_row, index_row, lacks_length, is_array, is_place_sort, member_node, member_step, part_at, along, member_row, arrow_row, is_assigned, assign_row, moves_pointer, updated, update_sorts, update_row, count_of, takes_so_many, further, one_more, arguments, is_returned, call_of, callee_row, call_row, cast_row, size_number, size_row, align_in, align_row, further_value, start_row, copy_row, next_row, end_row, start_named, started, dropped, copied, is_list_place, last_named}
use Rattle.core_node_laws.specs.count_laws.count_rows.Counts.{Count, count_in, count_under, count_all}
use Rattle.core_node_laws.proofs.count_laws.count_rows.Giving.{Gives, then_gives, if_given, some_given, if_holds}
use Rattle.core_node_laws.proofs.count_laws.count_rows.Values.{AtMost, value_kept, conversion_kept, typed_kept, converted_same, made_same, promotion_same}

-- so many in all parts
abbrev pub UnderMost : Count → ℕ → Cores → Type 0
UnderMost n k cs = count_under n cs ≤ k

module _ (n : Count) where
  -- what a tree counts
  abbrev C : Core → ℕ
  C c = count_in n c

  pub common_same : (w : World) (a b x : Core) → C (in_common w a b x) ≤ C x
  common_same w a b x = let p = made_same n (common_of w a b) (promotion w x) in let q = promotion_same n w x in omega (arith, p, q)

  pub value_less : (w : World) (at : ℕ) (c : Core) → Gives (AtMost n (C c)) (value_of w at c)
  value_less w at c = value_kept n (C c) w at c (omega arith)

  pub conversion_less : (w : World) (cast : Bool) (at : ℕ) (v : Core) (t : Ctype) → Gives (AtMost n (C v)) (conversion w cast at v t)
  conversion_less w cast at v t = conversion_kept n (C v) w cast at v t (omega arith)

-- over operands that have so many nodes together
module _ (n : Count) (m : ℕ) where
  abbrev pub Together : Core → Core → Type 0
  Together a b = count_in n a + count_in n b ≤ m

  common_two : (w : World) (a b : Core) → Together a b → Together (in_common w a b a) (in_common w a b b)
  common_two w a b h = let p = common_same n w a b a in let q = common_same n w a b b in omega (arith, p, q, h)

  numeric_kept : (w : World) (op : Op) (place : Place) (at : ℕ) (a b : Core) (x y : OperandSort) → Together a b → Gives (AtMost n m) (numeric_row w op place at a b x y)
  numeric_kept w op place at a b Whole Whole h = let two = common_two w a b h in omega (arith, two)
  numeric_kept w op place at a b x y h = tt

  shift_kept : (w : World) (op : Op) (place : Place) (at : ℕ) (a b : Core) (x y : OperandSort) → Together a b → Gives (AtMost n m) (shift_row w op place at a b x y)
  shift_kept w op place at a b Whole Whole h = let p = promotion_same n w a in let q = promotion_same n w b in omega (arith, p, q, h)
  shift_kept w op place at a b x y h = tt

  moved_kept : (w : World) (minus : Bool) (place : Place) (at : ℕ) (a b : Core) (to : Ctype) → Together a b → Gives (AtMost n m) (moved w minus place at a b to)
  moved_kept w minus place at a b to h = if_given (AtMost n m) (has_size w to) Operand at (Fits (over_two (PointerAdd minus) place (ctype_of a) a b)) (omega (arith, h))

  plus_kept : (w : World) (place : Place) (at : ℕ) (a b : Core) (x y : OperandSort) → Together a b → Gives (AtMost n m) (plus_row w place at a b x y)
  plus_kept w place at a b Whole Whole h = let two = common_two w a b h in omega (arith, two)
  plus_kept w place at a b (Address to) Whole h = moved_kept w false place at a b to h
  plus_kept w place at a b Whole (Address to) h = moved_kept w false place at b a to (omega (arith, h))
  plus_kept w place at a b x y h = tt

  minus_kept : (w : World) (place : Place) (at : ℕ) (a b : Core) (x y : OperandSort) → Together a b → Gives (AtMost n m) (minus_row w place at a b x y)
  minus_kept w place at a b Whole Whole h = let two = common_two w a b h in omega (arith, two)
  minus_kept w place at a b (Address to) Whole h = moved_kept w true place at a b to h
  minus_kept w place at a b (Address x) (Address y) h = if_given (AtMost n m) (same_type x y) Operand at (Fits (difference place a b)) (omega (arith, h))
  minus_kept w place at a b x y h = tt

  order_kept : (w : World) (op : Op) (place : Place) (at : ℕ) (a b : Core) (x y : OperandSort) → Together a b → Gives (AtMost n m) (order_row w op place at a b x y)
  order_kept w op place at a b Whole Whole h = let two = common_two w a b h in omega (arith, two)
  order_kept w op place at a b (Address x) (Address y) h = if_given (AtMost n m) (same_type x y) Operand at (Fits (compared op place a b)) (omega (arith, h))
  order_kept w op place at a b x y h = tt

  abbrev BothOf : Both → Type 0
  BothOf both = Together both.left both.right

  joined_kept : (at : ℕ) (a b : Core) (x y : Ctype) → Together a b → Gives BothOf (joined at a b x y)
  joined_kept at a b x y h =
      let p = converted_same n (ctype_of b) a in
      let q = converted_same n (ctype_of a) b in
      if_holds (Gives BothOf) (same_type x y) _ _ h
      (if_holds (Gives BothOf) (is_null b) _ _ (omega (arith, h))
      (if_holds (Gives BothOf) (is_null a) _ _ (omega (arith, h))
      (if_holds (Gives BothOf) (is_void y && is_object x) _ _ (omega (arith, h, p))
      (if_holds (Gives BothOf) (is_void x && is_object y) _ _ (omega (arith, h, q)) tt))))

  pointers_joined_kept : (at : ℕ) (a b : Core) (x y : OperandSort) → Together a b → Gives BothOf (pointers_joined at a b x y)
  pointers_joined_kept at a b (Address x) (Address y) h = joined_kept at a b x y h
  pointers_joined_kept at a b (Address x) Whole h = if_given BothOf (is_null b) Operand at (Fits (record { left = a; right = null_value (ctype_of a) b })) (omega (arith, h))
  pointers_joined_kept at a b Whole (Address y) h = if_given BothOf (is_null a) Operand at (Fits (record { left = null_value (ctype_of b) a; right = b })) (omega (arith, h))
  pointers_joined_kept at a b x y h = tt

  equal_kept : (op : Op) (place : Place) (at : ℕ) (a b : Core) (x y : OperandSort) → Together a b → Gives (AtMost n m) (pointers_joined at a b x y >>= (λ both. Fits (compared op place both.left both.right)))
  equal_kept op place at a b x y h = then_gives BothOf (AtMost n m) (pointers_joined at a b x y) (λ both. Fits (compared op place both.left both.right)) (pointers_joined_kept at a b x y h) (λ both l. omega (arith, l))

  equality_kept : (w : World) (op : Op) (place : Place) (at : ℕ) (a b : Core) (x y : OperandSort) → Together a b → Gives (AtMost n m) (equality_row w op place at a b x y)
  equality_kept w op place at a b Whole Whole h = let two = common_two w a b h in omega (arith, two)
  equality_kept w op place at a b x y h = equal_kept op place at a b x y h

  both_kept : (place : Place) (at : ℕ) (a b : Core) → Together a b → Gives (AtMost n m) (both_row place at a b)
  both_kept place at a b h = if_given (AtMost n m) (is_scalar (operand_of (ctype_of a)) && is_scalar (operand_of (ctype_of b))) Operand at (Fits (both_core place a b)) (omega (arith, h))

  either_kept : (place : Place) (at : ℕ) (a b : Core) → Together a b → Gives (AtMost n m) (either_row place at a b)
  either_kept place at a b h = if_given (AtMost n m) (is_scalar (operand_of (ctype_of a)) && is_scalar (operand_of (ctype_of b))) Operand at (Fits (either_core place a b)) (omega (arith, h))

  pub between_kept : (w : World) (o : Between) (place : Place) (at : ℕ) (a b : Core) → Together a b → Gives (AtMost n m) (between w o place at a b)
  between_kept w (Numeric op) place at a b h = numeric_kept w op place at a b (operand_of (ctype_of a)) (operand_of (ctype_of b)) h
  between_kept w (Shifting op) place at a b h = shift_kept w op place at a b (operand_of (ctype_of a)) (operand_of (ctype_of b)) h
  between_kept w Adding place at a b h = plus_kept w place at a b (operand_of (ctype_of a)) (operand_of (ctype_of b)) h
  between_kept w Subtracting place at a b h = minus_kept w place at a b (operand_of (ctype_of a)) (operand_of (ctype_of b)) h
  between_kept w (Ordering op) place at a b h = order_kept w op place at a b (operand_of (ctype_of a)) (operand_of (ctype_of b)) h
  between_kept w (Equating op) place at a b h = equality_kept w op place at a b (operand_of (ctype_of a)) (operand_of (ctype_of b)) h
  between_kept w BothTrue place at a b h = both_kept place at a b h
  between_kept w EitherTrue place at a b h = either_kept place at a b h
  between_kept w Following place at a b h = omega (arith, h)
  between_kept w NoOperator place at a b h = tt

  pub promoted_kept : (w : World) (op : Op) (place : Place) (at : ℕ) (v : Core) (x : OperandSort) → AtMost n m v → Gives (AtMost n m) (promoted_row w op place at v x)
  promoted_kept w op place at v Whole h = let p = promotion_same n w v in omega (arith, p, h)
  promoted_kept w op place at v x h = tt

  pub not_kept : (place : Place) (at : ℕ) (v : Core) → AtMost n m v → Gives (AtMost n m) (not_row place at v)
  not_kept place at v h = if_given (AtMost n m) (is_scalar (operand_of (ctype_of v))) Operand at (Fits (over (Arith Not) place int v)) (omega (arith, h))

  branches_kept : (w : World) (at : ℕ) (a b : Core) (x y : OperandSort) → Together a b → Gives BothOf (branches w at a b x y)
  branches_kept w at a b Whole Whole h = common_two w a b h
  branches_kept w at a b x y h = if_holds (Gives BothOf) (same_type (ctype_of a) (ctype_of b)) (Fits (record { left = a; right = b })) (pointers_joined at a b x y) h (pointers_joined_kept at a b x y h)

  -- names
  own_name_kept : (place : Place) (at : ℕ) (o : Option (List ℕ)) → ((bytes : List ℕ) → n.weight (Text bytes) place ≤ m) → Gives (AtMost n m) (elim o as (λ _. Given Core) [ None ↦ Refuses Operand at | Some name ↦ Fits (text_core place name) ])
  own_name_kept place at None p = tt
  own_name_kept place at (Some name) p = let h = p name in omega (arith, h)

  pub name_kept : (w : World) (place : Place) (at : ℕ) (o : Option Meaning) → ((bytes : List ℕ) → n.weight (Text bytes) place ≤ m) → Gives (AtMost n m) (name_row w place at o)
  name_kept w place at None p = own_name_kept place at w.own_name p
  name_kept w place at (Some (Object entity t)) p = typed_kept n m at t _ (if_given (AtMost n m) (w.may_name entity) Operand at (Fits (leaf (Named entity) place t)) (omega arith))
  name_kept w place at (Some (Function entity t)) p = omega arith
  name_kept w place at (Some (TypeName t)) p = tt
  name_kept w place at (Some (Tag tag)) p = tt
  name_kept w place at (Some (Value x)) p = omega arith

  pub address_kept : (w : World) (place : Place) (at : ℕ) (c : Core) (sort : Sort) → AtMost n m c → Gives (AtMost n m) (address_row w place at c sort)
  address_kept w place at c PlaceNode h = if_given (AtMost n m) (is_none (place_width w c)) Operand at (Fits (over AddressOf place (PointerTo (ctype_of c)) c)) (omega (arith, h))
  address_kept w place at c sort h = tt

  target_kept : (place : Place) (at : ℕ) (v : Core) (t : Ctype) → AtMost n m v → Gives (AtMost n m) (target_row place at v t)
  target_kept place at v VoidType h = tt
  target_kept place at v t h = typed_kept n m at t (Fits (over Deref place t v)) (omega (arith, h))

  pub indirection_kept : (place : Place) (at : ℕ) (v : Core) (x : OperandSort) → AtMost n m v → Gives (AtMost n m) (indirection_row place at v x)
  indirection_kept place at v (Address to) h = target_kept place at v to h
  indirection_kept place at v x h = tt

  element_kept : (w : World) (place : Place) (at : ℕ) (a b : Core) (to : Ctype) → Together a b → Gives (AtMost n m) (element_row w place at a b to)
  element_kept w place at a b to h = then_gives (AtMost n m) (AtMost n m) (moved w false place at a b to) (λ q. target_row place at q to) (moved_kept w false place at a b to h) (λ q l. target_kept place at q to l)

  pub index_kept : (w : World) (place : Place) (at : ℕ) (a b : Core) (x y : OperandSort) → Together a b → Gives (AtMost n m) (index_row w place at a b x y)
  index_kept w place at a b (Address to) Whole h = element_kept w place at a b to h
  index_kept w place at a b Whole (Address to) h = element_kept w place at b a to (omega (arith, h))
  index_kept w place at a b x y h = tt

  node_kept : (place : Place) (k : ℕ) (c : Core) (t : Ctype) (sort : Sort) → AtMost n m c → AtMost n m (member_node place k c t sort)
  node_kept place k c t PlaceNode h = omega (arith, h)
  node_kept place k c t sort h = omega (arith, h)

  step_kept : (place : Place) (at : ℕ) (c : Core) (k : ℕ) (p : Part) → AtMost n m c → Gives (AtMost n m) (member_step place at c k p)
  step_kept place at c k p h =
      if_holds (Gives (AtMost n m)) (lacks_length p.type) (Refuses FlexibleMember at) _ tt
      (if_holds (Gives (AtMost n m)) (is_array p.type && not (is_place_sort (core_sort c))) (Refuses ArrayOfValue at) _ tt
      (typed_kept n m at p.type (Fits (member_node place k c p.type (core_sort c))) (node_kept place k c p.type (core_sort c) h)))

  along_kept : (w : World) (place : Place) (at : ℕ) (way : List ℕ) (c : Core) → AtMost n m c → Gives (AtMost n m) (along w place at way c)
  along_kept w place at [] c h = h
  along_kept w place at (k ∷ way) c h =
      some_given (AtMost n m) (part_at (members_of w (ctype_of c)) k) Operand at _
      (λ p. then_gives (AtMost n m) (AtMost n m) (member_step place at c k p) (along w place at way) (step_kept place at c k p h) (λ x l. along_kept w place at way x l))

  pub member_kept : (w : World) (place : Place) (at : ℕ) (name : List ℕ) (c : Core) → AtMost n m c → Gives (AtMost n m) (member_row w place at name c)
  member_kept w place at name c h = some_given (AtMost n m) (way_to w name (ctype_of c)) Operand at (λ way. along w place at way c) (λ way. along_kept w place at way c h)

  pub arrow_kept : (w : World) (place : Place) (at : ℕ) (name : List ℕ) (v : Core) (x : OperandSort) → AtMost n m v → Gives (AtMost n m) (arrow_row w place at name v x)
  arrow_kept w place at name v (Address to) h = if_given (AtMost n m) (is_some (members_of w to)) Operand at (member_row w place at name (over Deref place to v)) (member_kept w place at name (over Deref place to v) (omega (arith, h)))
  arrow_kept w place at name v x h = tt

  -- assignments
  pub assign_kept : (w : World) (place : Place) (at : ℕ) (q v : Core) → Together q v → Gives (AtMost n m) (assign_row w place at q v)
  assign_kept w place at q v h =
      if_given (AtMost n m) (is_place_sort (core_sort q) && (is_assigned w (operand_of (ctype_of q)) || is_list (ctype_of q))) Operand at _
      (then_gives (AtMost n (count_in n v)) (AtMost n m) (conversion w false at v (ctype_of q)) _ (conversion_less n w false at v (ctype_of q)) (λ x l. omega (arith, h, l)))

  -- operations on variadic lists
  started_kept : (place : Place) (at : ℕ) (a : Core) (o : Option ℕ) → AtMost n m a → Gives (AtMost n m) (start_named place at a o)
  started_kept place at a None h = tt
  started_kept place at a (Some function) h = if_given (AtMost n m) (is_list_place a) Operand at (Fits (started place a function)) (omega (arith, h))

  pub start_kept : (w : World) (place : Place) (at : ℕ) (a b : Core) → AtMost n m a → Gives (AtMost n m) (start_row w place at a b)
  start_kept w place at a b h = started_kept place at a (last_named w b) h

  pub copy_kept : (w : World) (place : Place) (at : ℕ) (a b : Core) → Together a b → Gives (AtMost n m) (copy_row w place at a b)
  copy_kept w place at a b h =
      if_given (AtMost n m) (is_list_place a) Operand at (value_of w at b >>= copied place at a)
      (then_gives (AtMost n (count_in n b)) (AtMost n m) (value_of w at b) (copied place at a) (value_less n w at b)
      (λ v l. if_given (AtMost n m) (is_list (ctype_of v)) Operand at (Fits (dropped place (over_two Assign place VaListType a v))) (omega (arith, h, l))))

  pub next_kept : (place : Place) (at : ℕ) (a : Core) (t : Ctype) → AtMost n m a → Gives (AtMost n m) (next_row place at a t)
  next_kept place at a t h =
      typed_kept n m at t _ (if_given (AtMost n m) (is_list_place a && is_scalar (operand_of t)) Operand at (Fits (over NextArg place t a)) (omega (arith, h)))

  pub end_kept : (w : World) (place : Place) (at : ℕ) (a : Core) → AtMost n m a → Gives (AtMost n m) (end_row w place at a)
  end_kept w place at a h =
      if_given (AtMost n m) (is_list_place a) Operand at (address_row w place at a (core_sort a) >>= (λ x. Fits (dropped place x)))
      (then_gives (AtMost n m) (AtMost n m) (address_row w place at a (core_sort a)) (λ x. Fits (dropped place x)) (address_kept w place at a (core_sort a) h) (λ x k. omega (arith, k)))

  sorts_kept : (w : World) (op : Op) (post : Bool) (place : Place) (at : ℕ) (q v : Core) (x y : OperandSort) → Together q v → Gives (AtMost n m) (update_sorts w op post place at q v x y)
  sorts_kept w op post place at q v Whole Whole h = let p = promotion_same n w v in omega (arith, p, h)
  sorts_kept w op post place at q v (Address to) Whole h = let p = promotion_same n w v in if_given (AtMost n m) (moves_pointer op) Operand at (Fits (updated w op post place q (promotion w v))) (omega (arith, p, h))
  sorts_kept w op post place at q v x y h = tt

  pub update_kept : (w : World) (op : Op) (post : Bool) (place : Place) (at : ℕ) (q v : Core) → Together q v → Gives (AtMost n m) (update_row w op post place at q v)
  update_kept w op post place at q v h = if_given (AtMost n m) (is_place_sort (core_sort q)) Operand at _ (sorts_kept w op post place at q v (operand_of (ctype_of q)) (operand_of (ctype_of v)) h)

  pub cast_kept : (w : World) (at : ℕ) (x : Core) (t : Ctype) → AtMost n m x → Gives (AtMost n m) (cast_row w at x t)
  cast_kept w at x t h = typed_kept n m at t _ (then_gives (AtMost n m) (AtMost n m) (value_of w at x) (λ v. conversion w true at v t) (value_kept n m w at x h) (λ v k. conversion_kept n m w true at v t k))

  pub size_kept : (w : World) (place : Place) (at : ℕ) (t : Ctype) → Gives (AtMost n m) (size_row w place at t)
  size_kept w place at t = some_given (AtMost n m) (size_below (extent w t)) Operand at (λ x. Fits (size_number place x)) (λ x. omega arith)

  pub align_kept : (w : World) (place : Place) (at : ℕ) (t : Ctype) → Gives (AtMost n m) (align_row w place at t)
  align_kept w place at t = some_given (AtMost n m) (align_in (extent w t)) Operand at (λ x. Fits (size_number place x)) (λ x. omega arith)

  pub choice_kept : (w : World) (place : Place) (at : ℕ) (c a b : Core) (k : ℕ) → Together a b → (l : ℕ) → AtMost n k c → k + m ≤ l → Gives (AtMost n l) (choice_row w place at c a b)
  choice_kept w place at c a b k h l g sum =
      if_given (AtMost n l) (is_scalar (operand_of (ctype_of c))) Operand at _
      (then_gives BothOf (AtMost n l) (branches w at a b (operand_of (ctype_of a)) (operand_of (ctype_of b))) (λ both. Fits (chosen place c both)) (branches_kept w at a b (operand_of (ctype_of a)) (operand_of (ctype_of b)) h) (λ both p. omega (arith, g, p, sum)))

-- calls
module _ (n : Count) where
  further_kept : (w : World) (at : ℕ) (v : Core) (x : OperandSort) (k : ℕ) → AtMost n k v → Gives (AtMost n k) (further w at v x)
  further_kept w at v Whole k h = let p = promotion_same n w v in omega (arith, p, h)
  further_kept w at v (Address to) k h = h
  further_kept w at v (Aggregate tag) k h = h
  further_kept w at v Other k h = tt

  further_value_kept : (w : World) (at : ℕ) (v : Core) (k : ℕ) → AtMost n k v → Gives (AtMost n k) (further_value w at v)
  further_value_kept w at v k h = by (is_list (ctype_of v))
    where
      by : (b : Bool) → Gives (AtMost n k) (if b then Fits v else further w at v (operand_of (ctype_of v)))
      by true = h
      by false = further_kept w at v (operand_of (ctype_of v)) k h

  arguments_kept : (w : World) (at : ℕ) (ps : Ctypes) (args : List Core) → Gives (UnderMost n (count_all n args)) (arguments w at ps args)
  arguments_kept w at ps [] = omega arith
  arguments_kept w at NoTypes (a ∷ rest) =
      let all : ℕ = count_all n (a ∷ rest) in
      let one : ℕ = count_in n a in
      then_gives (AtMost n one) (UnderMost n all) (value_of w at a) _ (value_less n w at a)
      (λ v k.
      then_gives (AtMost n one) (UnderMost n all) (further_value w at v) _ (further_value_kept w at v one k)
      (λ x l. then_gives (UnderMost n (count_all n rest)) (UnderMost n all) (arguments w at NoTypes rest) (λ more. Fits (one_more x more)) (arguments_kept w at NoTypes rest) (λ more p. omega (arith, l, p))))
  arguments_kept w at (MoreTypes t ps) (a ∷ rest) =
      let all : ℕ = count_all n (a ∷ rest) in
      let one : ℕ = count_in n a in
      then_gives (AtMost n one) (UnderMost n all) (value_of w at a) _ (value_less n w at a)
      (λ v k.
      then_gives (AtMost n one) (UnderMost n all) (conversion w false at v t) _ (conversion_kept n one w false at v t k)
      (λ x l. then_gives (UnderMost n (count_all n rest)) (UnderMost n all) (arguments w at ps rest) (λ more. Fits (one_more x more)) (arguments_kept w at ps rest) (λ more p. omega (arith, l, p))))

  call_of_kept : (w : World) (place : Place) (at : ℕ) (c : Core) (r : Ctype) (ps : Ctypes) (form : Form) (args : List Core) (m : ℕ) → n.weight CallNode place + (count_in n c + count_all n args) ≤ m → Gives (AtMost n m) (call_of w place at c r ps form args)
  call_of_kept w place at c r ps form args m h =
      if_given (AtMost n m) (takes_so_many form (count_of ps) (length args)) Operand at _
      (then_gives (UnderMost n (count_all n args)) (AtMost n m) (arguments w at ps args) _ (arguments_kept w at ps args)
      (λ cores l. if_given (AtMost n m) (is_returned w r) Operand at (Fits (Of CallNode place r (MoreCores c cores))) (omega (arith, h, l))))

  callee_kept : (w : World) (place : Place) (at : ℕ) (c : Core) (args : List Core) (t : Ctype) (m : ℕ) → n.weight CallNode place + (count_in n c + count_all n args) ≤ m → Gives (AtMost n m) (callee_row w place at c args t)
  callee_kept w place at c args (PointerTo (FunctionFrom r ps form)) m h =
      typed_kept n m at r _ (if_given (AtMost n m) w.may_call Operand at (call_of w place at c r ps form args) (call_of_kept w place at c r ps form args m h))
  callee_kept w place at c args t m h = tt

  pub call_kept : (w : World) (place : Place) (at : ℕ) (f : Core) (args : List Core) (m : ℕ) → n.weight CallNode place + (count_in n f + count_all n args) ≤ m → Gives (AtMost n m) (call_row w place at f args)
  call_kept w place at f args m h = then_gives (AtMost n (count_in n f)) (AtMost n m) (value_of w at f) (λ c. callee_row w place at c args (ctype_of c)) (value_less n w at f) (λ c l. callee_kept w place at c args (ctype_of c) m (omega (arith, h, l)))
