-- Names, objects and their parts, assignments, calls, casts and sizes keep the rows of constants.
use Rattle.std.proofs.Common.{arith, ◌≡◌, ℕ, ◌<◌, Bool, true, false, ◌&&◌, not, List, [], ◌∷◌, length, Option, Some, None, refl, sym, ◌∙◌, ◌||◌}
use Rattle.std.specs.Prelude.{◌^◌, nat_lt, is_some, is_none, if◌then◌else◌}
use Rattle.std.specs.Int.Signed.{le_z_yes, lt_z_yes}
use Rattle.std.proofs.Math.Facts.{yes_ltb, yes_leb}
use Rattle.std.proofs.lemmas.Bool.{ltb-true}
use Rattle.pta_base.specs.declared.kind.Kind.TheVariants.{Operand, ArrayOfValue, FlexibleMember}
use Rattle.pta_base.specs.declared.place.Place.{Place}
use Rattle.c_types.specs.declared.term.Form.{Form}
use Rattle.c_types.specs.Trees.{Ctype, Ctypes, NoTypes, MoreTypes, VoidType, PointerTo, FunctionFrom, VaListType}
use Rattle.c_types.specs.Layout.{Extent}
use Rattle.c_types.specs.Table.{size_below}
use Rattle.c_conversions.specs.passed.core_tree.declared.node.Op.{Op}
use Rattle.c_conversions.specs.passed.core_tree.declared.node.NodeKind.TheVariants.{Named, Deref, AddressOf, Assign, CallNode, NextArg, VarArgs}
use Rattle.c_conversions.specs.passed.core_tree.Typed.{Sort, NoNode, PlaceNode, ValueNode, StatementNode, IsInteger}
use Rattle.c_senses.specs.passed.c_consts.Core.{Core, Of, MoreCores, ctype_of, core_sort, leaf, over, over_two}
use Rattle.c_senses.specs.passed.c_inits.Made.{Part}
use Rattle.c_senses.specs.Given.{Given, Fits, Refuses, ◌>>=◌, given_if}
use Rattle.c_senses.specs.World.{World, Meaning, Object, Function, TypeName, Tag, Value, extent, members_of, way_to}
use Rattle.c_senses.specs.Conversions.{OperandSort, Whole, Address, Aggregate, Other, operand_of, value_of, promotion, conversion, place_width, is_list, is_scalar}
use Rattle.c_senses.specs.Operators.{moved}
use Rattle.c_senses.specs.Objects.{text_core, name_row, address_row, target_row, indirection_row, element_row, index_row, lacks_length, is_array, is_place_sort, member_node, member_step, part_at, along, member_row, arrow_row, is_assigned, assign_row, moves_pointer, updated, update_sorts, update_row, count_of, takes_so_many, further, one_more, arguments, is_returned, call_of, callee_row, call_row, cast_row, size_number, size_row, named_width, sized_expression, further_value, start_row, copy_row, next_row, end_row, start_named, started, dropped, copied, is_list_place, last_named}
use Rattle.c_conversions.specs.Constants.{HasRows, HaveRows}
use Rattle.parsed_tree_laws.specs.sense_laws.Sound.{Gives}
use Rattle.parsed_tree_laws.proofs.sense_laws.Giving.{then_gives, if_given, some_given, if_holds}
use Rattle.parsed_tree_laws.proofs.sense_laws.Conversions.{whole_integer, address_pointer}
use Rattle.parsed_tree_laws.specs.sense_laws.row_trees.Trees.{RowsValue, RowsOf, AllHaveRows, ValuesFit}
use Rattle.parsed_tree_laws.proofs.sense_laws.row_trees.Conversions.{value_rows, conversion_rows, typed_rows, promotion_value}
use Rattle.parsed_tree_laws.proofs.sense_laws.row_trees.Operators.{moved_rows}

module _ (w : World) where
  -- names
  pub text_rows : (place : Place) (bytes : List ℕ) → HasRows (text_core place bytes)
  text_rows place bytes = (tt, tt)

  own_name_rows : (place : Place) (at : ℕ) (o : Option (List ℕ)) → Gives HasRows (elim o as (λ _. Given Core) [ None ↦ Refuses Operand at | Some name ↦ Fits (text_core place name) ])
  own_name_rows place at None = tt
  own_name_rows place at (Some name) = (tt, tt)

  pub name_rows : ValuesFit w → (place : Place) (at leaf : ℕ) (o : Option Meaning) → w.meaning leaf ≡ o → Gives HasRows (name_row w place at o)
  name_rows fit place at i None e = own_name_rows place at w.own_name
  name_rows fit place at i (Some (Object entity t)) e =
      typed_rows w HasRows at t (given_if (w.may_name entity) Operand at (Fits (leaf (Named entity) place t)))
      (if_given HasRows (w.may_name entity) Operand at (Fits (leaf (Named entity) place t)) (λ may. (tt, tt)))
  name_rows fit place at i (Some (Function entity t)) e = (tt, tt)
  name_rows fit place at i (Some (TypeName t)) e = tt
  name_rows fit place at i (Some (Tag tag)) e = tt
  name_rows fit place at i (Some (Value n)) e = (fit i n e, tt)

  -- addresses and what pointers point to
  pub address_rows : (place : Place) (at : ℕ) (c : Core) → HasRows c → (s : Sort) → Gives HasRows (address_row w place at c s)
  address_rows place at c h PlaceNode = if_given HasRows (is_none (place_width w c)) Operand at (Fits (over AddressOf place (PointerTo (ctype_of c)) c)) (λ none. (tt, (h, tt)))
  address_rows place at c h s = tt

  target_rows : (place : Place) (at : ℕ) (v : Core) (t : Ctype) → HasRows v → Gives HasRows (target_row place at v t)
  target_rows place at v VoidType h = tt
  target_rows place at v t h = typed_rows w HasRows at t (Fits (over Deref place t v)) (tt, (h, tt))

  pub indirection_rows : (place : Place) (at : ℕ) (v : Core) → HasRows v → (s : OperandSort) → Gives HasRows (indirection_row place at v s)
  indirection_rows place at v h (Address to) = target_rows place at v to h
  indirection_rows place at v h s = tt

  element_rows : (place : Place) (at : ℕ) (a b : Core) (to : Ctype) → RowsValue a → RowsValue b → ctype_of a ≡ PointerTo to → IsInteger (ctype_of b) → Gives HasRows (element_row w place at a b to)
  element_rows place at a b to h k e whole =
      then_gives (λ c. RowsOf (PointerTo to) c) HasRows (moved w false place at a b to) (λ p. target_row place at p to) (moved_rows w false place at a b to h k e whole)
      (λ p s. target_rows place at p to s.0)

  pub index_rows : (place : Place) (at : ℕ) (a b : Core) → RowsValue a → RowsValue b → (x y : OperandSort) → operand_of (ctype_of a) ≡ x → operand_of (ctype_of b) ≡ y → Gives HasRows (index_row w place at a b x y)
  index_rows place at a b h k (Address to) Whole e f = element_rows place at a b to h k (address_pointer (ctype_of a) to e) (whole_integer (ctype_of b) f)
  index_rows place at a b h k Whole (Address to) e f = element_rows place at b a to k h (address_pointer (ctype_of b) to f) (whole_integer (ctype_of a) e)
  index_rows place at a b h k x y e f = tt

  -- members
  member_node_rows : (place : Place) (k : ℕ) (c : Core) (t : Ctype) → HasRows c → (s : Sort) → HasRows (member_node place k c t s)
  member_node_rows place k c t h PlaceNode = (tt, (h, tt))
  member_node_rows place k c t h ValueNode = (tt, (h, tt))
  member_node_rows place k c t h StatementNode = (tt, (h, tt))
  member_node_rows place k c t h NoNode = (tt, (h, tt))

  member_step_rows : (place : Place) (at : ℕ) (c : Core) (k : ℕ) (m : Part) → HasRows c → Gives HasRows (member_step place at c k m)
  member_step_rows place at c k m h =
      if_holds (Gives HasRows) (lacks_length m.type) (Refuses FlexibleMember at) _ (λ lacks. tt)
      (λ full.
      if_holds (Gives HasRows) (is_array m.type && not (is_place_sort (core_sort c))) (Refuses ArrayOfValue at) _ (λ array. tt)
      (λ other. typed_rows w HasRows at m.type (Fits (member_node place k c m.type (core_sort c))) (member_node_rows place k c m.type h (core_sort c))))

  along_rows : (place : Place) (at : ℕ) (way : List ℕ) (c : Core) → HasRows c → Gives HasRows (along w place at way c)
  along_rows place at [] c h = h
  along_rows place at (k ∷ way) c h =
      some_given HasRows (part_at (members_of w (ctype_of c)) k) Operand at (λ m. member_step place at c k m >>= along w place at way)
      (λ m stands. then_gives HasRows HasRows (member_step place at c k m) (along w place at way) (member_step_rows place at c k m h) (λ x s. along_rows place at way x s))

  pub member_rows : (place : Place) (at : ℕ) (name : List ℕ) (c : Core) → HasRows c → Gives HasRows (member_row w place at name c)
  member_rows place at name c h = some_given HasRows (way_to w name (ctype_of c)) Operand at (λ way. along w place at way c) (λ way e. along_rows place at way c h)

  pub arrow_rows : (place : Place) (at : ℕ) (name : List ℕ) (v : Core) → HasRows v → (s : OperandSort) → Gives HasRows (arrow_row w place at name v s)
  arrow_rows place at name v h (Address to) =
      if_given HasRows (is_some (members_of w to)) Operand at (member_row w place at name (over Deref place to v)) (λ some. member_rows place at name (over Deref place to v) (tt, (h, tt)))
  arrow_rows place at name v h s = tt

  -- assignments
  pub assign_rows : (place : Place) (at : ℕ) (p v : Core) → HasRows p → RowsValue v → Gives RowsValue (assign_row w place at p v)
  assign_rows place at p v h k =
      if_given RowsValue (is_place_sort (core_sort p) && (is_assigned w (operand_of (ctype_of p)) || is_list (ctype_of p))) Operand at (conversion w false at v (ctype_of p) >>= (λ x. Fits (over_two Assign place (ctype_of p) p x)))
      (λ may.
      then_gives (RowsOf (ctype_of p)) RowsValue (conversion w false at v (ctype_of p)) (λ x. Fits (over_two Assign place (ctype_of p) p x)) (conversion_rows w v k false at (ctype_of p))
      (λ x s. ((tt, (h, (s.0, tt))), refl)))

  -- operations on variadic lists
  assigned_rows : (place : Place) (a v : Core) → HasRows a → HasRows v → core_sort v ≡ ValueNode → HasRows (dropped place (over_two Assign place VaListType a v))
  assigned_rows place a v h k is = ((refl, λ e. cc, tt), ((tt, (h, (k, tt))), tt))

  started_rows : (place : Place) (at : ℕ) (a : Core) (o : Option ℕ) → HasRows a → Gives HasRows (start_named place at a o)
  started_rows place at a None h = tt
  started_rows place at a (Some function) h =
      if_given HasRows (is_list_place a) Operand at (Fits (started place a function)) (λ may. assigned_rows place a (leaf (VarArgs function) place VaListType) h (tt, tt) refl)

  pub start_rows : (place : Place) (at : ℕ) (a n : Core) → HasRows a → Gives HasRows (start_row w place at a n)
  start_rows place at a n h = started_rows place at a (last_named w n) h

  pub copy_rows : (place : Place) (at : ℕ) (a b : Core) → HasRows a → HasRows b → Gives HasRows (copy_row w place at a b)
  copy_rows place at a b h k =
      if_given HasRows (is_list_place a) Operand at (value_of w at b >>= copied place at a)
      (λ may.
      then_gives RowsValue HasRows (value_of w at b) (copied place at a) (value_rows w at b k)
      (λ v l. if_given HasRows (is_list (ctype_of v)) Operand at (Fits (dropped place (over_two Assign place VaListType a v))) (λ list. assigned_rows place a v h l.0 l.1)))

  pub next_rows : (place : Place) (at : ℕ) (a : Core) (t : Ctype) → HasRows a → Gives HasRows (next_row place at a t)
  next_rows place at a t h =
      typed_rows w HasRows at t (given_if (is_list_place a && is_scalar (operand_of t)) Operand at (Fits (over NextArg place t a)))
      (if_given HasRows (is_list_place a && is_scalar (operand_of t)) Operand at (Fits (over NextArg place t a)) (λ may. (tt, (h, tt))))

  pointer_rows : (place : Place) (at : ℕ) (c : Core) → HasRows c → (s : Sort) → Gives (RowsOf (PointerTo (ctype_of c))) (address_row w place at c s)
  pointer_rows place at c h PlaceNode = if_given (RowsOf (PointerTo (ctype_of c))) (is_none (place_width w c)) Operand at (Fits (over AddressOf place (PointerTo (ctype_of c)) c)) (λ none. ((tt, (h, tt)), (refl, refl)))
  pointer_rows place at c h s = tt

  pub end_rows : (place : Place) (at : ℕ) (a : Core) → HasRows a → Gives HasRows (end_row w place at a)
  end_rows place at a h =
      if_given HasRows (is_list_place a) Operand at (address_row w place at a (core_sort a) >>= (λ x. Fits (dropped place x)))
      (λ may.
      then_gives (RowsOf (PointerTo (ctype_of a))) HasRows (address_row w place at a (core_sort a)) (λ x. Fits (dropped place x)) (pointer_rows place at a h (core_sort a))
      (λ x k. ((k.1.0, (λ e. let void : ◌≡◌ {A = Ctype} (PointerTo (ctype_of a)) VoidType = sym k.1.1 ∙ e in cc), tt), (k.0, tt))))

  update_sorts_rows : (op : Op) (post : Bool) (place : Place) (at : ℕ) (p v : Core) → HasRows p → RowsValue v → (x y : OperandSort) → operand_of (ctype_of v) ≡ y → Gives RowsValue (update_sorts w op post place at p v x y)
  update_sorts_rows op post place at p v h k Whole Whole f = let x = promotion_value w v k (whole_integer (ctype_of v) f) in ((tt, (h, (x.0, tt))), refl)
  update_sorts_rows op post place at p v h k (Address to) Whole f =
      let x = promotion_value w v k (whole_integer (ctype_of v) f) in
      if_given RowsValue (moves_pointer op) Operand at (Fits (updated w op post place p (promotion w v))) (λ move. ((tt, (h, (x.0, tt))), refl))
  update_sorts_rows op post place at p v h k x y f = tt

  pub update_rows : (op : Op) (post : Bool) (place : Place) (at : ℕ) (p v : Core) → HasRows p → RowsValue v → Gives RowsValue (update_row w op post place at p v)
  update_rows op post place at p v h k =
      if_given RowsValue (is_place_sort (core_sort p)) Operand at (update_sorts w op post place at p v (operand_of (ctype_of p)) (operand_of (ctype_of v)))
      (λ sort. update_sorts_rows op post place at p v h k (operand_of (ctype_of p)) (operand_of (ctype_of v)) refl)

  -- casts
  pub cast_rows : (at : ℕ) (x : Core) (t : Ctype) → HasRows x → Gives (RowsOf t) (cast_row w at x t)
  cast_rows at x t h =
      typed_rows w (RowsOf t) at t (value_of w at x >>= (λ v. conversion w true at v t))
      (then_gives RowsValue (RowsOf t) (value_of w at x) (λ v. conversion w true at v t) (value_rows w at x h) (λ v s. conversion_rows w v s true at t))

  -- sizes
  pub size_number_rows : (place : Place) (n : ℕ) → n < 18446744073709551616 → HasRows (size_number place n)
  size_number_rows place n lt = ((le_z_yes (yes_leb (omega arith)), lt_z_yes (yes_ltb lt)), tt)

  size_bound : (o : Option Extent) (n : ℕ) → size_below o ≡ Some n → n < 18446744073709551616
  size_bound None n h = cc
  size_bound (Some e) n h =
      if_holds (λ (x : Option ℕ). x ≡ Some n → n < 18446744073709551616) (nat_lt e.size (2 ^ 63)) (Some e.size) None (λ small same. let lt : e.size < 2 ^ 63 = ltb-true e.size (2 ^ 63) small in let is : e.size ≡ n = cc in omega arith) (λ large same. cc) h

  pub size_rows : (place : Place) (at : ℕ) (t : Ctype) → Gives HasRows (size_row w place at t)
  size_rows place at t = some_given HasRows (size_below (extent w t)) Operand at (λ n. Fits (size_number place n)) (λ n e. size_number_rows place n (size_bound (extent w t) n e))

  pub sized_rows : (place : Place) (at : ℕ) (c : Core) → Gives HasRows (sized_expression w place at c)
  sized_rows place at c = if_given HasRows (is_none (named_width w c)) Operand at (size_row w place at (ctype_of c)) (λ none. size_rows place at (ctype_of c))

  -- calls
  further_rows : (at : ℕ) (v : Core) → RowsValue v → (s : OperandSort) → operand_of (ctype_of v) ≡ s → Gives HasRows (further w at v s)
  further_rows at v h Whole e = (promotion_value w v h (whole_integer (ctype_of v) e)).0
  further_rows at v h (Address to) e = h.0
  further_rows at v h (Aggregate tag) e = h.0
  further_rows at v h Other e = tt

  further_value_rows : (at : ℕ) (v : Core) → RowsValue v → Gives HasRows (further_value w at v)
  further_value_rows at v h = by (is_list (ctype_of v)) refl
    where
      by : (b : Bool) → is_list (ctype_of v) ≡ b → Gives HasRows (if b then Fits v else further w at v (operand_of (ctype_of v)))
      by true e = h.0
      by false e = further_rows at v h (operand_of (ctype_of v)) refl

  arguments_rows : (at : ℕ) (ps : Ctypes) (args : List Core) → AllHaveRows args → Gives HaveRows (arguments w at ps args)
  arguments_rows at NoTypes [] h = tt
  arguments_rows at (MoreTypes t ps) [] h = tt
  arguments_rows at NoTypes (a ∷ rest) h =
      then_gives RowsValue HaveRows (value_of w at a) (λ v. further_value w at v >>= (λ x. arguments w at NoTypes rest >>= (λ more. Fits (one_more x more)))) (value_rows w at a h.0)
      (λ v s.
      then_gives HasRows HaveRows (further_value w at v) (λ x. arguments w at NoTypes rest >>= (λ more. Fits (one_more x more))) (further_value_rows at v s)
      (λ x y.
      then_gives HaveRows HaveRows (arguments w at NoTypes rest) (λ more. Fits (one_more x more)) (arguments_rows at NoTypes rest h.1) (λ cores z. (y, z))))
  arguments_rows at (MoreTypes t ps) (a ∷ rest) h =
      then_gives RowsValue HaveRows (value_of w at a) (λ v. conversion w false at v t >>= (λ x. arguments w at ps rest >>= (λ more. Fits (one_more x more)))) (value_rows w at a h.0)
      (λ v s.
      then_gives (RowsOf t) HaveRows (conversion w false at v t) (λ x. arguments w at ps rest >>= (λ more. Fits (one_more x more))) (conversion_rows w v s false at t)
      (λ x y.
      then_gives HaveRows HaveRows (arguments w at ps rest) (λ more. Fits (one_more x more)) (arguments_rows at ps rest h.1) (λ cores z. (y.0, z))))

  call_of_rows : (place : Place) (at : ℕ) (c : Core) (r : Ctype) (ps : Ctypes) (form : Form) (args : List Core) → HasRows c → AllHaveRows args → Gives HasRows (call_of w place at c r ps form args)
  call_of_rows place at c r ps form args h k =
      if_given HasRows (takes_so_many form (count_of ps) (length args)) Operand at (arguments w at ps args >>= (λ cores. given_if (is_returned w r) Operand at (Fits (Of CallNode place r (MoreCores c cores)))))
      (λ many.
      then_gives HaveRows HasRows (arguments w at ps args) (λ cores. given_if (is_returned w r) Operand at (Fits (Of CallNode place r (MoreCores c cores)))) (arguments_rows at ps args k)
      (λ cores s. if_given HasRows (is_returned w r) Operand at (Fits (Of CallNode place r (MoreCores c cores))) (λ returned. (tt, (h, s)))))

  callee_rows : (place : Place) (at : ℕ) (c : Core) (args : List Core) → HasRows c → AllHaveRows args → (t : Ctype) → Gives HasRows (callee_row w place at c args t)
  callee_rows place at c args h k (PointerTo (FunctionFrom r ps form)) =
      typed_rows w HasRows at r (given_if w.may_call Operand at (call_of w place at c r ps form args))
      (if_given HasRows w.may_call Operand at (call_of w place at c r ps form args) (λ may. call_of_rows place at c r ps form args h k))
  callee_rows place at c args h k t = tt

  pub call_rows : (place : Place) (at : ℕ) (f : Core) (args : List Core) → HasRows f → AllHaveRows args → Gives HasRows (call_row w place at f args)
  call_rows place at f args h k =
      then_gives RowsValue HasRows (value_of w at f) (λ c. callee_row w place at c args (ctype_of c)) (value_rows w at f h) (λ c s. callee_rows place at c args s.0 k (ctype_of c))
