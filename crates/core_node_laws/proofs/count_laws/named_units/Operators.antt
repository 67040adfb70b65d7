-- The places of operators on values, of names, members, assignments and calls.
use Rattle.std.proofs.Common.{ℕ, Bool, true, false, ◌&&◌, not, List, [], ◌∷◌, length, Option, Some, None, ◌||◌}
use Rattle.std.specs.Prelude.{⊤, is_some, is_none, if◌then◌else◌}
use Rattle.pta_base.specs.declared.kind.Kind.TheVariants.{Operand, ArrayOfValue, FlexibleMember}
use Rattle.pta_base.specs.declared.place.Place.{Place}
use Rattle.c_types.specs.declared.term.Form.{Form}
use Rattle.c_types.specs.Trees.{Ctype, Ctypes, NoTypes, MoreTypes, VoidType, PointerTo, FunctionFrom, VaListType}
use Rattle.c_types.specs.Table.{size_below}
use Rattle.core_tree.specs.declared.node.Op.{Op}
use Rattle.core_tree.specs.declared.node.Op.TheVariants.{Not}
use Rattle.core_tree.specs.declared.node.NodeKind.TheVariants.{Named, PointerAdd, Arith, Deref, AddressOf, CallNode, NextArg, Assign}
use Rattle.core_tree.specs.Typed.{Sort, PlaceNode}
use Rattle.core_tree.specs.Rows.{int}
use Rattle.c_consts.specs.Core.{Core, Of, MoreCores, ctype_of, core_sort, leaf, over, over_two}
use Rattle.c_inits.specs.Made.{Part}
use Rattle.c_senses.specs.Tree.{Source}
use Rattle.c_senses.specs.Given.{Given, Fits, Refuses, ◌>>=◌}
use Rattle.c_senses.specs.World.{World, Meaning, Object, Function, TypeName, Tag, Value, extent, has_size, same_type, members_of, way_to}
use Rattle.c_senses.specs.Nulls.{is_null}
use Rattle.c_senses.specs.Conversions.{OperandSort, Whole, Address, Aggregate, Other, operand_of, is_scalar, value_of, promotion, conversion, null_value, place_width, is_list}
use Rattle.c_senses.specs.Operators.{in_common, common_of, numeric_row, shift_row, moved, plus_row, difference, minus_row, compared, order_row, is_void, is_object, Both, joined, pointers_joined, equality_row, both_core, both_row, either_core, either_row, truth, Between, Numeric, Shifting, Adding, Subtracting, Ordering, Equating, BothTrue, EitherTrue, Following, NoOperator, between, promoted_row, not_row, chosen, branches, choice_row}
use Rattle.c_senses.specs.Objects.{text_core, object_name, name_row, address_row, target_row, indirection_row, element_row, index_row, lacks_length, is_array, is_place_sort, member_node, member_step, part_at, along, member_row, arrow_row, is_assigned, assign_row, moves_pointer, updated, update_sorts, update_row, count_of, takes_so_many, further, one_more, arguments, is_returned, call_of, callee_row, call_row, cast_row, size_number, size_row, align_in, align_row, further_value, start_row, copy_row, next_row, end_row, start_named, started, dropped, copied, is_list_place, last_named}
use Rattle.core_node_laws.proofs.count_laws.named_units.Standing.{IsAt, OfSource, AllOfSource}
use Rattle.core_node_laws.proofs.count_laws.named_units.Giving.{Gives, then_gives, if_given, some_given, if_holds}
use Rattle.core_node_laws.proofs.count_laws.named_units.Values.{value_kept, converted_kept, made_kept, promotion_kept, null_kept, conversion_kept, typed_kept}

module _ (source : Source) where
  common_kept : (w : World) (a b x : Core) → OfSource source x → OfSource source (in_common w a b x)
  common_kept w a b x h = made_kept source (common_of w a b) (promotion w x) (promotion_kept source w x h)

  numeric_kept : (w : World) (op : Op) (place : Place) (at : ℕ) (a b : Core) (x y : OperandSort) → IsAt source place → OfSource source a → OfSource source b → Gives (OfSource source) (numeric_row w op place at a b x y)
  numeric_kept w op place at a b Whole Whole p h k = (p, (common_kept w a b a h, (common_kept w a b b k, tt)))
  numeric_kept w op place at a b x y p h k = tt

  shift_kept : (w : World) (op : Op) (place : Place) (at : ℕ) (a b : Core) (x y : OperandSort) → IsAt source place → OfSource source a → OfSource source b → Gives (OfSource source) (shift_row w op place at a b x y)
  shift_kept w op place at a b Whole Whole p h k = (p, (promotion_kept source w a h, (promotion_kept source w b k, tt)))
  shift_kept w op place at a b x y p h k = tt

  moved_kept : (w : World) (minus : Bool) (place : Place) (at : ℕ) (a b : Core) (to : Ctype) → IsAt source place → OfSource source a → OfSource source b → Gives (OfSource source) (moved w minus place at a b to)
  moved_kept w minus place at a b to p h k = if_given (OfSource source) (has_size w to) Operand at (Fits (over_two (PointerAdd minus) place (ctype_of a) a b)) (p, (h, (k, tt)))

  plus_kept : (w : World) (place : Place) (at : ℕ) (a b : Core) (x y : OperandSort) → IsAt source place → OfSource source a → OfSource source b → Gives (OfSource source) (plus_row w place at a b x y)
  plus_kept w place at a b Whole Whole p h k = (p, (common_kept w a b a h, (common_kept w a b b k, tt)))
  plus_kept w place at a b (Address to) Whole p h k = moved_kept w false place at a b to p h k
  plus_kept w place at a b Whole (Address to) p h k = moved_kept w false place at b a to p k h
  plus_kept w place at a b x y p h k = tt

  minus_kept : (w : World) (place : Place) (at : ℕ) (a b : Core) (x y : OperandSort) → IsAt source place → OfSource source a → OfSource source b → Gives (OfSource source) (minus_row w place at a b x y)
  minus_kept w place at a b Whole Whole p h k = (p, (common_kept w a b a h, (common_kept w a b b k, tt)))
  minus_kept w place at a b (Address to) Whole p h k = moved_kept w true place at a b to p h k
  minus_kept w place at a b (Address x) (Address y) p h k = if_given (OfSource source) (same_type x y) Operand at (Fits (difference place a b)) (p, (h, (k, tt)))
  minus_kept w place at a b x y p h k = tt

  order_kept : (w : World) (op : Op) (place : Place) (at : ℕ) (a b : Core) (x y : OperandSort) → IsAt source place → OfSource source a → OfSource source b → Gives (OfSource source) (order_row w op place at a b x y)
  order_kept w op place at a b Whole Whole p h k = (p, (common_kept w a b a h, (common_kept w a b b k, tt)))
  order_kept w op place at a b (Address x) (Address y) p h k = if_given (OfSource source) (same_type x y) Operand at (Fits (compared op place a b)) (p, (h, (k, tt)))
  order_kept w op place at a b x y p h k = tt

  BothOf : Both → Type 0
  BothOf both = OfSource source both.left × OfSource source both.right

  joined_kept : (at : ℕ) (a b : Core) (x y : Ctype) → OfSource source a → OfSource source b → Gives BothOf (joined at a b x y)
  unfolding BothOf
  joined_kept at a b x y h k =
      if_holds (Gives BothOf) (same_type x y) _ _ (h, k)
      (if_holds (Gives BothOf) (is_null b) _ _ (h, null_kept source (ctype_of a) b k)
      (if_holds (Gives BothOf) (is_null a) _ _ (null_kept source (ctype_of b) a h, k)
      (if_holds (Gives BothOf) (is_void y && is_object x) _ _ (converted_kept source (ctype_of b) a h, k)
      (if_holds (Gives BothOf) (is_void x && is_object y) _ _ (h, converted_kept source (ctype_of a) b k) tt))))

  pointers_joined_kept : (at : ℕ) (a b : Core) (x y : OperandSort) → OfSource source a → OfSource source b → Gives BothOf (pointers_joined at a b x y)
  unfolding BothOf
  pointers_joined_kept at a b (Address x) (Address y) h k = joined_kept at a b x y h k
  pointers_joined_kept at a b (Address x) Whole h k = if_given BothOf (is_null b) Operand at (Fits (record { left = a; right = null_value (ctype_of a) b })) (h, null_kept source (ctype_of a) b k)
  pointers_joined_kept at a b Whole (Address y) h k = if_given BothOf (is_null a) Operand at (Fits (record { left = null_value (ctype_of b) a; right = b })) (null_kept source (ctype_of b) a h, k)
  pointers_joined_kept at a b x y h k = tt

  equal_kept : (op : Op) (place : Place) (at : ℕ) (a b : Core) (x y : OperandSort) → IsAt source place → OfSource source a → OfSource source b → Gives (OfSource source) (pointers_joined at a b x y >>= (λ both. Fits (compared op place both.left both.right)))
  unfolding BothOf
  equal_kept op place at a b x y p h k = then_gives BothOf (OfSource source) (pointers_joined at a b x y) (λ both. Fits (compared op place both.left both.right)) (pointers_joined_kept at a b x y h k) (λ both l. (p, (l.0, (l.1, tt))))

  equality_kept : (w : World) (op : Op) (place : Place) (at : ℕ) (a b : Core) (x y : OperandSort) → IsAt source place → OfSource source a → OfSource source b → Gives (OfSource source) (equality_row w op place at a b x y)
  equality_kept w op place at a b Whole Whole p h k = (p, (common_kept w a b a h, (common_kept w a b b k, tt)))
  equality_kept w op place at a b x y p h k = equal_kept op place at a b x y p h k

  truth_kept : (place : Place) (b : Core) → IsAt source place → OfSource source b → OfSource source (truth place b)
  truth_kept place b p h = (p, (h, ((p, tt), ((p, tt), tt))))

  both_kept : (place : Place) (at : ℕ) (a b : Core) → IsAt source place → OfSource source a → OfSource source b → Gives (OfSource source) (both_row place at a b)
  both_kept place at a b p h k = if_given (OfSource source) (is_scalar (operand_of (ctype_of a)) && is_scalar (operand_of (ctype_of b))) Operand at (Fits (both_core place a b)) (p, (h, (truth_kept place b p k, ((p, tt), tt))))

  either_kept : (place : Place) (at : ℕ) (a b : Core) → IsAt source place → OfSource source a → OfSource source b → Gives (OfSource source) (either_row place at a b)
  either_kept place at a b p h k = if_given (OfSource source) (is_scalar (operand_of (ctype_of a)) && is_scalar (operand_of (ctype_of b))) Operand at (Fits (either_core place a b)) (p, (h, ((p, tt), (truth_kept place b p k, tt))))

  pub between_kept : (w : World) (o : Between) (place : Place) (at : ℕ) (a b : Core) → IsAt source place → OfSource source a → OfSource source b → Gives (OfSource source) (between w o place at a b)
  between_kept w (Numeric op) place at a b p h k = numeric_kept w op place at a b (operand_of (ctype_of a)) (operand_of (ctype_of b)) p h k
  between_kept w (Shifting op) place at a b p h k = shift_kept w op place at a b (operand_of (ctype_of a)) (operand_of (ctype_of b)) p h k
  between_kept w Adding place at a b p h k = plus_kept w place at a b (operand_of (ctype_of a)) (operand_of (ctype_of b)) p h k
  between_kept w Subtracting place at a b p h k = minus_kept w place at a b (operand_of (ctype_of a)) (operand_of (ctype_of b)) p h k
  between_kept w (Ordering op) place at a b p h k = order_kept w op place at a b (operand_of (ctype_of a)) (operand_of (ctype_of b)) p h k
  between_kept w (Equating op) place at a b p h k = equality_kept w op place at a b (operand_of (ctype_of a)) (operand_of (ctype_of b)) p h k
  between_kept w BothTrue place at a b p h k = both_kept place at a b p h k
  between_kept w EitherTrue place at a b p h k = either_kept place at a b p h k
  between_kept w Following place at a b p h k = (p, (h, (k, tt)))
  between_kept w NoOperator place at a b p h k = tt

  pub promoted_kept : (w : World) (op : Op) (place : Place) (at : ℕ) (v : Core) (x : OperandSort) → IsAt source place → OfSource source v → Gives (OfSource source) (promoted_row w op place at v x)
  promoted_kept w op place at v Whole p h = (p, (promotion_kept source w v h, tt))
  promoted_kept w op place at v x p h = tt

  pub not_kept : (place : Place) (at : ℕ) (v : Core) → IsAt source place → OfSource source v → Gives (OfSource source) (not_row place at v)
  not_kept place at v p h = if_given (OfSource source) (is_scalar (operand_of (ctype_of v))) Operand at (Fits (over (Arith Not) place int v)) (p, (h, tt))

  branches_kept : (w : World) (at : ℕ) (a b : Core) (x y : OperandSort) → OfSource source a → OfSource source b → Gives BothOf (branches w at a b x y)
  unfolding BothOf
  branches_kept w at a b Whole Whole h k = (common_kept w a b a h, common_kept w a b b k)
  branches_kept w at a b x y h k = if_holds (Gives BothOf) (same_type (ctype_of a) (ctype_of b)) (Fits (record { left = a; right = b })) (pointers_joined at a b x y) (h, k) (pointers_joined_kept at a b x y h k)

  pub choice_kept : (w : World) (place : Place) (at : ℕ) (c a b : Core) → IsAt source place → OfSource source c → OfSource source a → OfSource source b → Gives (OfSource source) (choice_row w place at c a b)
  unfolding BothOf
  choice_kept w place at c a b p l h k =
      if_given (OfSource source) (is_scalar (operand_of (ctype_of c))) Operand at _
      (then_gives BothOf (OfSource source) (branches w at a b (operand_of (ctype_of a)) (operand_of (ctype_of b))) (λ both. Fits (chosen place c both)) (branches_kept w at a b (operand_of (ctype_of a)) (operand_of (ctype_of b)) h k) (λ both m. (p, (l, (m.0, (m.1, tt))))))

  -- names
  object_kept : (w : World) (place : Place) (at entity : ℕ) (t : Ctype) → IsAt source place → Gives (OfSource source) (object_name w place at entity t)
  object_kept w place at entity t p = typed_kept source at t _ (if_given (OfSource source) (w.may_name entity) Operand at (Fits (leaf (Named entity) place t)) (p, tt))

  own_name_kept : (place : Place) (at : ℕ) (o : Option (List ℕ)) → IsAt source place → Gives (OfSource source) (elim o as (λ _. Given Core) [ None ↦ Refuses Operand at | Some name ↦ Fits (text_core place name) ])
  own_name_kept place at None p = tt
  own_name_kept place at (Some name) p = (p, tt)

  pub name_kept : (w : World) (place : Place) (at : ℕ) (o : Option Meaning) → IsAt source place → Gives (OfSource source) (name_row w place at o)
  name_kept w place at None p = own_name_kept place at w.own_name p
  name_kept w place at (Some (Object entity t)) p = object_kept w place at entity t p
  name_kept w place at (Some (Function entity t)) p = (p, tt)
  name_kept w place at (Some (TypeName t)) p = tt
  name_kept w place at (Some (Tag tag)) p = tt
  name_kept w place at (Some (Value n)) p = (p, tt)

  pub address_kept : (w : World) (place : Place) (at : ℕ) (c : Core) (sort : Sort) → IsAt source place → OfSource source c → Gives (OfSource source) (address_row w place at c sort)
  address_kept w place at c PlaceNode p h = if_given (OfSource source) (is_none (place_width w c)) Operand at (Fits (over AddressOf place (PointerTo (ctype_of c)) c)) (p, (h, tt))
  address_kept w place at c sort p h = tt

  target_kept : (place : Place) (at : ℕ) (v : Core) (t : Ctype) → IsAt source place → OfSource source v → Gives (OfSource source) (target_row place at v t)
  target_kept place at v VoidType p h = tt
  target_kept place at v t p h = typed_kept source at t (Fits (over Deref place t v)) (p, (h, tt))

  pub indirection_kept : (place : Place) (at : ℕ) (v : Core) (x : OperandSort) → IsAt source place → OfSource source v → Gives (OfSource source) (indirection_row place at v x)
  indirection_kept place at v (Address to) p h = target_kept place at v to p h
  indirection_kept place at v x p h = tt

  element_kept : (w : World) (place : Place) (at : ℕ) (a b : Core) (to : Ctype) → IsAt source place → OfSource source a → OfSource source b → Gives (OfSource source) (element_row w place at a b to)
  element_kept w place at a b to p h k = then_gives (OfSource source) (OfSource source) (moved w false place at a b to) (λ q. target_row place at q to) (moved_kept w false place at a b to p h k) (λ q l. target_kept place at q to p l)

  pub index_kept : (w : World) (place : Place) (at : ℕ) (a b : Core) (x y : OperandSort) → IsAt source place → OfSource source a → OfSource source b → Gives (OfSource source) (index_row w place at a b x y)
  index_kept w place at a b (Address to) Whole p h k = element_kept w place at a b to p h k
  index_kept w place at a b Whole (Address to) p h k = element_kept w place at b a to p k h
  index_kept w place at a b x y p h k = tt

  node_kept : (place : Place) (k : ℕ) (c : Core) (t : Ctype) (sort : Sort) → IsAt source place → OfSource source c → OfSource source (member_node place k c t sort)
  node_kept place k c t PlaceNode p h = (p, (h, tt))
  node_kept place k c t sort p h = (p, (h, tt))

  step_kept : (place : Place) (at : ℕ) (c : Core) (k : ℕ) (m : Part) → IsAt source place → OfSource source c → Gives (OfSource source) (member_step place at c k m)
  step_kept place at c k m p h =
      if_holds (Gives (OfSource source)) (lacks_length m.type) (Refuses FlexibleMember at) _ tt
      (if_holds (Gives (OfSource source)) (is_array m.type && not (is_place_sort (core_sort c))) (Refuses ArrayOfValue at) _ tt
      (typed_kept source at m.type (Fits (member_node place k c m.type (core_sort c))) (node_kept place k c m.type (core_sort c) p h)))

  along_kept : (w : World) (place : Place) (at : ℕ) (way : List ℕ) (c : Core) → IsAt source place → OfSource source c → Gives (OfSource source) (along w place at way c)
  along_kept w place at [] c p h = h
  along_kept w place at (k ∷ way) c p h =
      some_given (OfSource source) (part_at (members_of w (ctype_of c)) k) Operand at _
      (λ m. then_gives (OfSource source) (OfSource source) (member_step place at c k m) (along w place at way) (step_kept place at c k m p h) (λ x l. along_kept w place at way x p l))

  pub member_kept : (w : World) (place : Place) (at : ℕ) (name : List ℕ) (c : Core) → IsAt source place → OfSource source c → Gives (OfSource source) (member_row w place at name c)
  member_kept w place at name c p h = some_given (OfSource source) (way_to w name (ctype_of c)) Operand at (λ way. along w place at way c) (λ way. along_kept w place at way c p h)

  pub arrow_kept : (w : World) (place : Place) (at : ℕ) (name : List ℕ) (v : Core) (x : OperandSort) → IsAt source place → OfSource source v → Gives (OfSource source) (arrow_row w place at name v x)
  arrow_kept w place at name v (Address to) p h = if_given (OfSource source) (is_some (members_of w to)) Operand at (member_row w place at name (over Deref place to v)) (member_kept w place at name (over Deref place to v) p (p, (h, tt)))
  arrow_kept w place at name v x p h = tt

  -- assignments
  pub assign_kept : (w : World) (place : Place) (at : ℕ) (q v : Core) → IsAt source place → OfSource source q → OfSource source v → Gives (OfSource source) (assign_row w place at q v)
  assign_kept w place at q v p h k =
      if_given (OfSource source) (is_place_sort (core_sort q) && (is_assigned w (operand_of (ctype_of q)) || is_list (ctype_of q))) Operand at _
      (then_gives (OfSource source) (OfSource source) (conversion w false at v (ctype_of q)) _ (conversion_kept source w false at v (ctype_of q) k) (λ x l. (p, (h, (l, tt)))))

  sorts_kept : (w : World) (op : Op) (post : Bool) (place : Place) (at : ℕ) (q v : Core) (x y : OperandSort) → IsAt source place → OfSource source q → OfSource source v → Gives (OfSource source) (update_sorts w op post place at q v x y)
  sorts_kept w op post place at q v Whole Whole p h k = (p, (h, (promotion_kept source w v k, tt)))
  sorts_kept w op post place at q v (Address to) Whole p h k = if_given (OfSource source) (moves_pointer op) Operand at (Fits (updated w op post place q (promotion w v))) (p, (h, (promotion_kept source w v k, tt)))
  sorts_kept w op post place at q v x y p h k = tt

  pub update_kept : (w : World) (op : Op) (post : Bool) (place : Place) (at : ℕ) (q v : Core) → IsAt source place → OfSource source q → OfSource source v → Gives (OfSource source) (update_row w op post place at q v)
  update_kept w op post place at q v p h k = if_given (OfSource source) (is_place_sort (core_sort q)) Operand at _ (sorts_kept w op post place at q v (operand_of (ctype_of q)) (operand_of (ctype_of v)) p h k)

  -- operations on variadic lists
  started_kept : (place : Place) (at : ℕ) (a : Core) (o : Option ℕ) → IsAt source place → OfSource source a → Gives (OfSource source) (start_named place at a o)
  started_kept place at a None p h = tt
  started_kept place at a (Some function) p h = if_given (OfSource source) (is_list_place a) Operand at (Fits (started place a function)) (p, ((p, (h, ((p, tt), tt))), tt))

  pub start_kept : (w : World) (place : Place) (at : ℕ) (a n : Core) → IsAt source place → OfSource source a → Gives (OfSource source) (start_row w place at a n)
  start_kept w place at a n p h = started_kept place at a (last_named w n) p h

  pub copy_kept : (w : World) → (place : Place) (at : ℕ) (a b : Core) → IsAt source place → OfSource source a → OfSource source b → Gives (OfSource source) (copy_row w place at a b)
  copy_kept w place at a b p h k =
      if_given (OfSource source) (is_list_place a) Operand at _
      (then_gives (OfSource source) (OfSource source) (value_of w at b) (copied place at a) (value_kept source w at b k)
      (λ v l. if_given (OfSource source) (is_list (ctype_of v)) Operand at (Fits (dropped place (over_two Assign place VaListType a v))) (p, ((p, (h, (l, tt))), tt))))

  pub next_kept : (place : Place) (at : ℕ) (a : Core) (t : Ctype) → IsAt source place → OfSource source a → Gives (OfSource source) (next_row place at a t)
  next_kept place at a t p h = typed_kept source at t _ (if_given (OfSource source) (is_list_place a && is_scalar (operand_of t)) Operand at (Fits (over NextArg place t a)) (p, (h, tt)))

  pub end_kept : (w : World) (place : Place) (at : ℕ) (a : Core) → IsAt source place → OfSource source a → Gives (OfSource source) (end_row w place at a)
  end_kept w place at a p h =
      if_given (OfSource source) (is_list_place a) Operand at (address_row w place at a (core_sort a) >>= (λ x. Fits (dropped place x)))
      (then_gives (OfSource source) (OfSource source) (address_row w place at a (core_sort a)) (λ x. Fits (dropped place x)) (address_kept w place at a (core_sort a) p h) (λ x k. (p, (k, tt))))

  -- calls
  abbrev pub AreOf : List Core → Type 0
  AreOf [] = ⊤
  AreOf (c ∷ rest) = OfSource source c × AreOf rest

  further_kept : (w : World) (at : ℕ) (v : Core) (x : OperandSort) → OfSource source v → Gives (OfSource source) (further w at v x)
  further_kept w at v Whole h = promotion_kept source w v h
  further_kept w at v (Address to) h = h
  further_kept w at v (Aggregate tag) h = h
  further_kept w at v Other h = tt

  further_value_kept : (w : World) (at : ℕ) (v : Core) → OfSource source v → Gives (OfSource source) (further_value w at v)
  further_value_kept w at v h = by (is_list (ctype_of v))
    where
      by : (b : Bool) → Gives (OfSource source) (if b then Fits v else further w at v (operand_of (ctype_of v)))
      by true = h
      by false = further_kept w at v (operand_of (ctype_of v)) h

  arguments_kept : (w : World) (at : ℕ) (ps : Ctypes) (args : List Core) → AreOf args → Gives (AllOfSource source) (arguments w at ps args)
  arguments_kept w at ps [] h = tt
  arguments_kept w at NoTypes (a ∷ rest) h =
      then_gives (OfSource source) (AllOfSource source) (value_of w at a) _ (value_kept source w at a h.0)
      (λ v k.
      then_gives (OfSource source) (AllOfSource source) (further_value w at v) _ (further_value_kept w at v k)
      (λ x l. then_gives (AllOfSource source) (AllOfSource source) (arguments w at NoTypes rest) (λ more. Fits (one_more x more)) (arguments_kept w at NoTypes rest h.1) (λ more m. (l, m))))
  arguments_kept w at (MoreTypes t ps) (a ∷ rest) h =
      then_gives (OfSource source) (AllOfSource source) (value_of w at a) _ (value_kept source w at a h.0)
      (λ v k.
      then_gives (OfSource source) (AllOfSource source) (conversion w false at v t) _ (conversion_kept source w false at v t k)
      (λ x l. then_gives (AllOfSource source) (AllOfSource source) (arguments w at ps rest) (λ more. Fits (one_more x more)) (arguments_kept w at ps rest h.1) (λ more m. (l, m))))

  call_of_kept : (w : World) (place : Place) (at : ℕ) (c : Core) (r : Ctype) (ps : Ctypes) (form : Form) (args : List Core) → IsAt source place → OfSource source c → AreOf args → Gives (OfSource source) (call_of w place at c r ps form args)
  call_of_kept w place at c r ps form args p h k =
      if_given (OfSource source) (takes_so_many form (count_of ps) (length args)) Operand at _
      (then_gives (AllOfSource source) (OfSource source) (arguments w at ps args) _ (arguments_kept w at ps args k)
      (λ cores l. if_given (OfSource source) (is_returned w r) Operand at (Fits (Of CallNode place r (MoreCores c cores))) (p, (h, l))))

  callee_kept : (w : World) (place : Place) (at : ℕ) (c : Core) (args : List Core) (t : Ctype) → IsAt source place → OfSource source c → AreOf args → Gives (OfSource source) (callee_row w place at c args t)
  callee_kept w place at c args (PointerTo (FunctionFrom r ps form)) p h k =
      typed_kept source at r _ (if_given (OfSource source) w.may_call Operand at (call_of w place at c r ps form args) (call_of_kept w place at c r ps form args p h k))
  callee_kept w place at c args t p h k = tt

  pub call_kept : (w : World) (place : Place) (at : ℕ) (f : Core) (args : List Core) → IsAt source place → OfSource source f → AreOf args → Gives (OfSource source) (call_row w place at f args)
  call_kept w place at f args p h k = then_gives (OfSource source) (OfSource source) (value_of w at f) (λ c. callee_row w place at c args (ctype_of c)) (value_kept source w at f h) (λ c l. callee_kept w place at c args (ctype_of c) p l k)

  pub cast_kept : (w : World) (at : ℕ) (x : Core) (t : Ctype) → OfSource source x → Gives (OfSource source) (cast_row w at x t)
  cast_kept w at x t h = typed_kept source at t _ (then_gives (OfSource source) (OfSource source) (value_of w at x) (λ v. conversion w true at v t) (value_kept source w at x h) (λ v k. conversion_kept source w true at v t k))

  pub size_kept : (w : World) (place : Place) (at : ℕ) (t : Ctype) → IsAt source place → Gives (OfSource source) (size_row w place at t)
  size_kept w place at t p = some_given (OfSource source) (size_below (extent w t)) Operand at (λ n. Fits (size_number place n)) (λ n. (p, tt))

  pub align_kept : (w : World) (place : Place) (at : ℕ) (t : Ctype) → IsAt source place → Gives (OfSource source) (align_row w place at t)
  align_kept w place at t p = some_given (OfSource source) (align_in (extent w t)) Operand at (λ n. Fits (size_number place n)) (λ n. (p, tt))
