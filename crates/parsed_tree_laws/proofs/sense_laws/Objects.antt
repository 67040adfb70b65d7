-- Names, objects and their parts, assignments, calls and casts of what is sound are sound.
use Rattle.std.proofs.Common.{arith, ◌≡◌, ◌≢◌, ℕ, suc, ◌<◌, Bool, true, false, ◌&&◌, ◌||◌, not, pos, List, [], ◌∷◌, length, slice_get, Option, Some, None, refl, sym, ◌∙◌, subst, inl, inr}
use Rattle.std.specs.Prelude.{◌^◌, nat_lt, is_some, is_none, if◌then◌else◌}
use Rattle.std.specs.Int.Signed.{le_z_yes, lt_z_yes}
use Rattle.std.proofs.Math.Facts.{yes_ltb, yes_leb}
use Rattle.std.proofs.lemmas.Bool.{eqb-true, eq-eqb, ltb-true, false≢true}
use Rattle.std.proofs.lemmas.List.Elements.{All-cons, All-nil}
use Rattle.pta_base.specs.declared.kind.Kind.TheVariants.{Operand, ArrayOfValue, FlexibleMember}
use Rattle.pta_base.specs.declared.place.Place.{Place}
use Rattle.c_types.specs.declared.term.Form.{Form}
use Rattle.c_types.specs.declared.term.Form.TheVariants.{Fixed, Variadic, Unspecified}
use Rattle.c_types.specs.Trees.{Ctype, Ctypes, NoTypes, MoreTypes, VoidType, BoolType, IntegerType, PointerTo, ArrayOf, FunctionFrom, StructureOf, UnionOf, VaListType}
use Rattle.c_types.specs.Layout.{Extent}
use Rattle.c_types.specs.Table.{size_below}
use Rattle.c_conversions.specs.passed.core_tree.declared.node.Op.{Op}
use Rattle.c_conversions.specs.passed.core_tree.declared.node.Op.TheVariants.{Plus, Minus}
use Rattle.c_conversions.specs.passed.core_tree.declared.node.NodeKind.{NodeKind}
use Rattle.c_conversions.specs.passed.core_tree.declared.node.NodeKind.TheVariants.{Named, Deref, AddressOf, Assign, CallNode, VarArgs, NextArg}
use Rattle.c_conversions.specs.passed.core_tree.Typed.{Sort, NoNode, PlaceNode, ValueNode, StatementNode, sort_of, IsInteger, IsScalar, IsStored, IsPromoted, IsPointer, IsPassed, LacksLength, Holds}
use Rattle.type_rules.specs.Kinds.{IsList}
use Rattle.c_senses.specs.Literals.{unsigned_long}
use Rattle.c_conversions.specs.passed.core_tree.Rows.{IsUpdate, IsMove, IsArray}
use Rattle.c_senses.specs.passed.c_consts.Core.{Core, Cores, Of, NoCores, MoreCores, ctype_of, core_sort, leaf, over, over_two}
use Rattle.c_senses.specs.passed.c_inits.Made.{Part}
use Rattle.c_senses.specs.Given.{Given, Fits, Refuses, ◌>>=◌, given_if}
use Rattle.c_senses.specs.World.{World, Meaning, Object, Function, TypeName, Tag, Value, extent, members_of, way_to}
use Rattle.c_senses.specs.Conversions.{OperandSort, Whole, Address, Aggregate, Other, operand_of, value_of, promotion, conversion, place_width, is_list, is_scalar}
use Rattle.c_senses.specs.Operators.{moved}
use Rattle.c_senses.specs.Objects.{text_core, name_row, address_row, target_row, indirection_row, element_row, index_row, lacks_length, is_array, is_place_sort, member_node, member_step, part_at, along, member_row, arrow_row, is_assigned, assign_row, moves_pointer, updated, update_sorts, update_row, count_of, takes_so_many, further, further_value, one_more, arguments, is_returned, call_of, callee_row, call_row, cast_row, size_number, size_row, align_in, align_row, named_width, sized_expression, start_row, copy_row, next_row, end_row, start_named, started, dropped, copied, is_list_place, last_named}
use Rattle.parsed_tree_laws.specs.sense_laws.Sound.{Sound, AllSound, AreSound, SoundValue, SoundOf, ProperMeaning, MeaningFits, ProperWorld, IsProper, AreProper, IsListOf, IsValueCore, IsFurtherCore, AreArguments, CallsWith, list_of, Gives, FurtherIsVariadic, IsVariadicOf}
use Rattle.parsed_tree_laws.proofs.sense_laws.Giving.{then_gives, gives_weaker, if_given, some_given, if_holds, and_left, and_right}
use Rattle.parsed_tree_laws.proofs.sense_laws.Conversions.{proper_of, whole_integer, address_pointer, value_sound, conversion_sound, typed_sound, promotion_value, promotion_promoted, promoted_integer}
use Rattle.parsed_tree_laws.proofs.sense_laws.Operators.{moved_sound}

none_of : {A : Type 0} (o : Option A) → is_none o ≡ true → o ≡ None
none_of None h = refl
none_of (Some x) h = cc

pub place_sort : (s : Sort) → is_place_sort s ≡ true → s ≡ PlaceNode
place_sort PlaceNode h = refl
place_sort s h = cc

pub some_sort : (kind : NodeKind) → sort_of kind ≡ NoNode → ⊥
some_sort Deref h = cc
some_sort kind h = cc

pub no_statement_type : (w : World) (entities : ℕ → Option Ctype) (c : Core) → Sound w entities c → core_sort c ≡ StatementNode → ctype_of c ≡ VoidType
no_statement_type w entities (Of kind place type under) h e = rw e at h.2

part_found : (o : Option (List Part)) (k : ℕ) (m : Part) → part_at o k ≡ Some m → (members : List Part) × (o ≡ Some members) × (slice_get members k ≡ Some m)
part_found None k m h = cc
part_found (Some members) k m h = (members, refl, h)

module _ (w : World) (entities : ℕ → Option Ctype) (world : ProperWorld w) where
  part_proper : (t : Ctype) (k : ℕ) (m : Part) → part_at (members_of w t) k ≡ Some m → IsProper m.type
  part_proper (StructureOf tag) k m h = let found = part_found (w.members tag) k m h in world.parts tag found.0 k m found.1 found.2
  part_proper (UnionOf tag) k m h = let found = part_found (w.members tag) k m h in world.parts tag found.0 k m found.1 found.2
  part_proper t k m h = cc

  -- names
  pub text_sound : (place : Place) (bytes : List ℕ) → Sound w entities (text_core place bytes)
  text_sound place bytes = (refl, tt, tt, tt)

  own_name_sound : (place : Place) (at : ℕ) (o : Option (List ℕ)) → Gives (Sound w entities) (elim o as (λ _. Given Core) [ None ↦ Refuses Operand at | Some name ↦ Fits (text_core place name) ])
  own_name_sound place at None = tt
  own_name_sound place at (Some name) = text_sound place name

  pub name_sound : (place : Place) (at leaf : ℕ) (o : Option Meaning) → w.meaning leaf ≡ o → ((m : Meaning) → w.meaning leaf ≡ Some m → MeaningFits entities m) → Gives (Sound w entities) (name_row w place at o)
  name_sound place at i None e fits = own_name_sound place at w.own_name
  name_sound place at i (Some (Object entity t)) e fits =
      let named : ProperMeaning (Object entity t) = world.names i (Object entity t) e in
      typed_sound w entities (Sound w entities) at t (given_if (w.may_name entity) Operand at (Fits (leaf (Named entity) place t)))
      (if_given (Sound w entities) (w.may_name entity) Operand at (Fits (leaf (Named entity) place t)) (λ may. ((fits (Object entity t) e, named.1), named.0, tt, tt)))
  name_sound place at i (Some (Function entity t)) e fits =
      let named : ProperMeaning (Function entity t) = world.names i (Function entity t) e in ((fits (Function entity t) e, named.1), named.0, tt, tt)
  name_sound place at i (Some (TypeName t)) e fits = tt
  name_sound place at i (Some (Tag tag)) e fits = tt
  name_sound place at i (Some (Value n)) e fits = (world.names i (Value n) e, tt, tt, tt)

  -- addresses and what pointers point to
  pointer_sound : (place : Place) (at : ℕ) (c : Core) → Sound w entities c → (s : Sort) → core_sort c ≡ s → Gives (SoundOf w entities (PointerTo (ctype_of c))) (address_row w place at c s)
  pointer_sound place at c h PlaceNode e =
      if_given (SoundOf w entities (PointerTo (ctype_of c))) (is_none (place_width w c)) Operand at (Fits (over AddressOf place (PointerTo (ctype_of c)) c))
      (λ none. (((e, refl, none_of (place_width w c) none), proper_of w entities c h, tt, (h, tt)), (refl, refl)))
  pointer_sound place at c h s e = tt

  pub address_sound : (place : Place) (at : ℕ) (c : Core) → Sound w entities c → (s : Sort) → core_sort c ≡ s → Gives (SoundValue w entities) (address_row w place at c s)
  address_sound place at c h s e =
      gives_weaker (SoundOf w entities (PointerTo (ctype_of c))) (SoundValue w entities) (address_row w place at c s) (λ x k. (k.0, k.1.0)) (pointer_sound place at c h s e)

  target_at : (place : Place) (v : Core) (t : Ctype) → SoundValue w entities v → ctype_of v ≡ PointerTo t → t ≢ VoidType → Sound w entities (over Deref place t v)
  target_at place v t h e ne = (((h.1, e), ne), subst IsProper e (proper_of w entities v h.0), tt, (h.0, tt))

  target_sound : (place : Place) (at : ℕ) (v : Core) (t : Ctype) → SoundValue w entities v → ctype_of v ≡ PointerTo t → Gives (Sound w entities) (target_row place at v t)
  target_sound place at v VoidType h e = tt
  target_sound place at v t h e = typed_sound w entities (Sound w entities) at t (Fits (over Deref place t v)) (target_at place v t h e (λ void. cc))

  pub indirection_sound : (place : Place) (at : ℕ) (v : Core) → SoundValue w entities v → (s : OperandSort) → operand_of (ctype_of v) ≡ s → Gives (Sound w entities) (indirection_row place at v s)
  indirection_sound place at v h (Address to) e = target_sound place at v to h (address_pointer (ctype_of v) to e)
  indirection_sound place at v h s e = tt

  element_sound : (place : Place) (at : ℕ) (a b : Core) (to : Ctype) → SoundValue w entities a → SoundValue w entities b → ctype_of a ≡ PointerTo to → IsInteger (ctype_of b) → Gives (Sound w entities) (element_row w place at a b to)
  element_sound place at a b to h k e whole =
      then_gives (λ c. SoundOf w entities (PointerTo to) c) (Sound w entities) (moved w false place at a b to) (λ p. target_row place at p to) (moved_sound w entities false place at a b to h k e whole)
      (λ p s. target_sound place at p to (s.0, s.1.0) s.1.1)

  pub index_sound : (place : Place) (at : ℕ) (a b : Core) → SoundValue w entities a → SoundValue w entities b → (x y : OperandSort) → operand_of (ctype_of a) ≡ x → operand_of (ctype_of b) ≡ y → Gives (Sound w entities) (index_row w place at a b x y)
  index_sound place at a b h k (Address to) Whole e f = element_sound place at a b to h k (address_pointer (ctype_of a) to e) (whole_integer (ctype_of b) f)
  index_sound place at a b h k Whole (Address to) e f = element_sound place at b a to k h (address_pointer (ctype_of b) to f) (whole_integer (ctype_of a) e)
  index_sound place at a b h k x y e f = tt

  -- members
  no_void_part : (c : Core) (k : ℕ) (m : Part) → Sound w entities c → part_at (members_of w (ctype_of c)) k ≡ Some m → core_sort c ≡ StatementNode → ⊥
  no_void_part c k m h stands e =
      let void : ctype_of c ≡ VoidType = no_statement_type w entities c h e in
      let none : part_at (members_of w VoidType) k ≡ Some m = subst (λ (t : Ctype). part_at (members_of w t) k ≡ Some m) void stands in
      cc

  no_length : (t : Ctype) → lacks_length t ≡ false → LacksLength t → ⊥
  no_length (ArrayOf of None) e h = cc
  no_length t e h = absurd h

  no_array : (t : Ctype) → is_array t ≡ false → IsArray t → ⊥
  no_array (ArrayOf of n) e h = cc
  no_array t e h = absurd h

  and_not_false : (a : Bool) → (a && true) ≡ false → a ≡ false
  and_not_false true h = h
  and_not_false false h = refl

  member_node_sound : (place : Place) (k : ℕ) (c : Core) (m : Part) → Sound w entities c → part_at (members_of w (ctype_of c)) k ≡ Some m → lacks_length m.type ≡ false → (s : Sort) → core_sort c ≡ s → (is_array m.type && not (is_place_sort s)) ≡ false → Sound w entities (member_node place k c m.type s)
  member_node_sound place k c m h stands full PlaceNode e array =
      ((e, record { part = m; stands = stands; type = refl }, no_length m.type full), part_proper (ctype_of c) k m stands, tt, (h, tt))
  member_node_sound place k c m h stands full ValueNode e array =
      ((e, record { part = m; stands = stands; type = refl }, no_array m.type (and_not_false (is_array m.type) array)), part_proper (ctype_of c) k m stands, tt, (h, tt))
  member_node_sound place k c m h stands full StatementNode e array = absurd (no_void_part c k m h stands e)
  member_node_sound place k (Of kind p type under) m h stands full NoNode e array = absurd (some_sort kind e)

  member_step_sound : (place : Place) (at : ℕ) (c : Core) (k : ℕ) (m : Part) → Sound w entities c → part_at (members_of w (ctype_of c)) k ≡ Some m → Gives (Sound w entities) (member_step place at c k m)
  member_step_sound place at c k m h stands =
      if_holds (Gives (Sound w entities)) (lacks_length m.type) (Refuses FlexibleMember at) _ (λ lacks. tt)
      (λ full.
      if_holds (Gives (Sound w entities)) (is_array m.type && not (is_place_sort (core_sort c))) (Refuses ArrayOfValue at) _ (λ array. tt)
      (λ other. typed_sound w entities (Sound w entities) at m.type (Fits (member_node place k c m.type (core_sort c))) (member_node_sound place k c m h stands full (core_sort c) refl other)))

  along_sound : (place : Place) (at : ℕ) (way : List ℕ) (c : Core) → Sound w entities c → Gives (Sound w entities) (along w place at way c)
  along_sound place at [] c h = h
  along_sound place at (k ∷ way) c h =
      some_given (Sound w entities) (part_at (members_of w (ctype_of c)) k) Operand at (λ m. member_step place at c k m >>= along w place at way)
      (λ m stands. then_gives (Sound w entities) (Sound w entities) (member_step place at c k m) (along w place at way) (member_step_sound place at c k m h stands) (λ x s. along_sound place at way x s))

  pub member_sound : (place : Place) (at : ℕ) (name : List ℕ) (c : Core) → Sound w entities c → Gives (Sound w entities) (member_row w place at name c)
  member_sound place at name c h = some_given (Sound w entities) (way_to w name (ctype_of c)) Operand at (λ way. along w place at way c) (λ way e. along_sound place at way c h)

  has_members : (t : Ctype) → is_some (members_of w t) ≡ true → t ≢ VoidType
  has_members t h e = let none : is_some (members_of w VoidType) ≡ true = subst (λ (q : Ctype). is_some (members_of w q) ≡ true) e h in false≢true none

  pub arrow_sound : (place : Place) (at : ℕ) (name : List ℕ) (v : Core) → SoundValue w entities v → (s : OperandSort) → operand_of (ctype_of v) ≡ s → Gives (Sound w entities) (arrow_row w place at name v s)
  arrow_sound place at name v h (Address to) e =
      if_given (Sound w entities) (is_some (members_of w to)) Operand at (member_row w place at name (over Deref place to v))
      (λ some. member_sound place at name (over Deref place to v) (target_at place v to h (address_pointer (ctype_of v) to e) (has_members to some)))
  arrow_sound place at name v h s e = tt

  -- assignments
  assigned_stored : (t : Ctype) → is_assigned w (operand_of t) || is_list t ≡ true → IsStored t
  assigned_stored BoolType h = inl (inl tt)
  assigned_stored (IntegerType size rank signed) h = inl (inl tt)
  assigned_stored (PointerTo to) h = inl (inr tt)
  assigned_stored (StructureOf tag) h = inr (inl tt)
  assigned_stored (UnionOf tag) h = inr (inl tt)
  assigned_stored VaListType h = inr (inr tt)
  assigned_stored t h = cc

  pub assign_sound : (place : Place) (at : ℕ) (p v : Core) → Sound w entities p → SoundValue w entities v → Gives (SoundValue w entities) (assign_row w place at p v)
  assign_sound place at p v h k =
      if_given (SoundValue w entities) (is_place_sort (core_sort p) && (is_assigned w (operand_of (ctype_of p)) || is_list (ctype_of p))) Operand at (conversion w false at v (ctype_of p) >>= (λ x. Fits (over_two Assign place (ctype_of p) p x)))
      (λ may.
      let sort : core_sort p ≡ PlaceNode = place_sort (core_sort p) (and_left (is_place_sort (core_sort p)) ((is_assigned w (operand_of (ctype_of p)) || is_list (ctype_of p))) may) in
      let stored : IsStored (ctype_of p) = assigned_stored (ctype_of p) (and_right (is_place_sort (core_sort p)) ((is_assigned w (operand_of (ctype_of p)) || is_list (ctype_of p))) may) in
      then_gives (SoundOf w entities (ctype_of p)) (SoundValue w entities) (conversion w false at v (ctype_of p)) (λ x. Fits (over_two Assign place (ctype_of p) p x)) (conversion_sound w entities v k world false at (ctype_of p) (proper_of w entities p h))
      (λ x s. ((((sort, refl), s.1, stored), proper_of w entities p h, tt, (h, (s.0, tt))), refl)))

  -- operations on variadic lists
  list_type : (t : Ctype) → is_list t ≡ true → t ≡ VaListType
  list_type VaListType h = refl
  list_type t h = cc

  place_of_list : (a : Core) → is_list_place a ≡ true → (core_sort a ≡ PlaceNode) × (ctype_of a ≡ VaListType)
  place_of_list a h =
      (place_sort (core_sort a) (and_left (is_place_sort (core_sort a)) (is_list (ctype_of a)) h), list_type (ctype_of a) (and_right (is_place_sort (core_sort a)) (is_list (ctype_of a)) h))

  assigned_list : (place : Place) (a v : Core) → Sound w entities a → is_list_place a ≡ true → Sound w entities v → (core_sort v ≡ ValueNode) × (ctype_of v ≡ VaListType) → Sound w entities (dropped place (over_two Assign place VaListType a v))
  assigned_list place a v h list k is = ((refl, λ e. cc, tt), tt, tt, (((place_of_list a list, is, inr (inr tt)), tt, tt, (h, (k, tt))), tt))

  named_further : FurtherIsVariadic w entities → (n : Core) (function : ℕ) → last_named w n ≡ Some function → IsVariadicOf (entities function)
  named_further variadic (Of (Named entity) place type NoCores) function e = variadic entity function e
  named_further variadic n function e = cc

  started_sound : (place : Place) (at : ℕ) (a : Core) (o : Option ℕ) → ((function : ℕ) → o ≡ Some function → IsVariadicOf (entities function)) → Sound w entities a → Gives (Sound w entities) (start_named place at a o)
  started_sound place at a None variadic h = tt
  started_sound place at a (Some function) variadic h =
      if_given (Sound w entities) (is_list_place a) Operand at (Fits (started place a function))
      (λ list. assigned_list place a (leaf (VarArgs function) place VaListType) h list ((tt, tt, variadic function refl), tt, tt, tt) (refl, refl))

  pub start_sound : FurtherIsVariadic w entities → (place : Place) (at : ℕ) (a n : Core) → Sound w entities a → Gives (Sound w entities) (start_row w place at a n)
  start_sound variadic place at a n h = started_sound place at a (last_named w n) (named_further variadic n) h

  pub copy_sound : (place : Place) (at : ℕ) (a b : Core) → Sound w entities a → Sound w entities b → Gives (Sound w entities) (copy_row w place at a b)
  copy_sound place at a b h k =
      if_given (Sound w entities) (is_list_place a) Operand at (value_of w at b >>= copied place at a)
      (λ list.
      then_gives (SoundValue w entities) (Sound w entities) (value_of w at b) (copied place at a) (value_sound w entities at b k)
      (λ v l.
      if_given (Sound w entities) (is_list (ctype_of v)) Operand at (Fits (dropped place (over_two Assign place VaListType a v)))
      (λ given. assigned_list place a v h list l.0 (l.1, list_type (ctype_of v) given))))

  scalar_of : (t : Ctype) → is_scalar (operand_of t) ≡ true → IsScalar t
  scalar_of BoolType h = inl tt
  scalar_of (IntegerType size rank signed) h = inl tt
  scalar_of (PointerTo to) h = inr tt
  scalar_of t h = cc

  is_a_list : (t : Ctype) → is_list t ≡ true → IsList t
  is_a_list VaListType h = tt
  is_a_list t h = cc

  pub next_sound : (place : Place) (at : ℕ) (a : Core) (t : Ctype) → Sound w entities a → IsProper t → Gives (Sound w entities) (next_row place at a t)
  next_sound place at a t h proper =
      typed_sound w entities (Sound w entities) at t (given_if (is_list_place a && is_scalar (operand_of t)) Operand at (Fits (over NextArg place t a)))
      (if_given (Sound w entities) (is_list_place a && is_scalar (operand_of t)) Operand at (Fits (over NextArg place t a))
      (λ may.
      let list : is_list_place a ≡ true = and_left (is_list_place a) (is_scalar (operand_of t)) may in
      let place_is = place_of_list a list in
      ((place_is.0, is_a_list (ctype_of a) (and_right (is_place_sort (core_sort a)) (is_list (ctype_of a)) list), scalar_of t (and_right (is_list_place a) (is_scalar (operand_of t)) may)), proper, tt, (h, tt))))

  pub end_sound : (place : Place) (at : ℕ) (a : Core) → Sound w entities a → Gives (Sound w entities) (end_row w place at a)
  end_sound place at a h =
      if_given (Sound w entities) (is_list_place a) Operand at (address_row w place at a (core_sort a) >>= (λ x. Fits (dropped place x)))
      (λ list.
      then_gives (SoundOf w entities (PointerTo (ctype_of a))) (Sound w entities) (address_row w place at a (core_sort a)) (λ x. Fits (dropped place x)) (pointer_sound place at a h (core_sort a) refl)
      (λ x k. ((k.1.0, (λ e. let void : ◌≡◌ {A = Ctype} (PointerTo (ctype_of a)) VoidType = sym k.1.1 ∙ e in cc), tt), tt, tt, (k.0, tt))))

  moves : (op : Op) → moves_pointer op ≡ true → IsMove op
  moves Plus h = tt
  moves Minus h = tt
  moves op h = cc

  numeral : (v : Core) → SoundValue w entities v → IsInteger (ctype_of v) → IsInteger (ctype_of (promotion w v))
  numeral v h whole = promoted_integer (ctype_of (promotion w v)) (promotion_promoted w entities v h whole)

  update_sorts_sound : (op : Op) (post : Bool) (place : Place) (at : ℕ) (p v : Core) → IsUpdate op → Sound w entities p → core_sort p ≡ PlaceNode → SoundValue w entities v → (x y : OperandSort) → operand_of (ctype_of p) ≡ x → operand_of (ctype_of v) ≡ y → Gives (SoundValue w entities) (update_sorts w op post place at p v x y)
  update_sorts_sound op post place at p v is h sort k Whole Whole e f =
      let whole : IsInteger (ctype_of v) = whole_integer (ctype_of v) f in
      let x = promotion_value w entities v k whole in
      ((((sort, refl), (x.1, numeral v k whole), inl (whole_integer (ctype_of p) e, is)), proper_of w entities p h, tt, (h, (x.0, tt))), refl)
  update_sorts_sound op post place at p v is h sort k (Address to) Whole e f =
      let whole : IsInteger (ctype_of v) = whole_integer (ctype_of v) f in
      let x = promotion_value w entities v k whole in
      if_given (SoundValue w entities) (moves_pointer op) Operand at (Fits (updated w op post place p (promotion w v)))
      (λ move. ((((sort, refl), (x.1, numeral v k whole), inr (subst IsPointer (sym (address_pointer (ctype_of p) to e)) tt, moves op move)), proper_of w entities p h, tt, (h, (x.0, tt))), refl))
  update_sorts_sound op post place at p v is h sort k x y e f = tt

  pub update_sound : (op : Op) (post : Bool) (place : Place) (at : ℕ) (p v : Core) → IsUpdate op → Sound w entities p → SoundValue w entities v → Gives (SoundValue w entities) (update_row w op post place at p v)
  update_sound op post place at p v is h k =
      if_given (SoundValue w entities) (is_place_sort (core_sort p)) Operand at (update_sorts w op post place at p v (operand_of (ctype_of p)) (operand_of (ctype_of v)))
      (λ sort. update_sorts_sound op post place at p v is h (place_sort (core_sort p) sort) k (operand_of (ctype_of p)) (operand_of (ctype_of v)) refl refl)

  -- casts
  pub cast_sound : (at : ℕ) (x : Core) (t : Ctype) → Sound w entities x → IsProper t → Gives (SoundOf w entities t) (cast_row w at x t)
  cast_sound at x t h proper =
      typed_sound w entities (SoundOf w entities t) at t (value_of w at x >>= (λ v. conversion w true at v t))
      (then_gives (SoundValue w entities) (SoundOf w entities t) (value_of w at x) (λ v. conversion w true at v t) (value_sound w entities at x h) (λ v s. conversion_sound w entities v s world true at t proper))

  -- sizes
  size_number_sound : (place : Place) (n : ℕ) → n < 18446744073709551616 → Sound w entities (size_number place n)
  size_number_sound place n lt = ((le_z_yes (yes_leb (omega arith)), lt_z_yes (yes_ltb lt)), tt, tt, tt)

  size_bound : (o : Option Extent) (n : ℕ) → size_below o ≡ Some n → n < 18446744073709551616
  size_bound None n h = cc
  size_bound (Some e) n h =
      if_holds (λ (x : Option ℕ). x ≡ Some n → n < 18446744073709551616) (nat_lt e.size (2 ^ 63)) (Some e.size) None (λ small same. let lt : e.size < 2 ^ 63 = ltb-true e.size (2 ^ 63) small in let is : e.size ≡ n = cc in omega arith) (λ large same. cc) h

  pub size_sound : (place : Place) (at : ℕ) (t : Ctype) → Gives (SoundValue w entities) (size_row w place at t)
  size_sound place at t = some_given (SoundValue w entities) (size_below (extent w t)) Operand at (λ n. Fits (size_number place n)) (λ n e. (size_number_sound place n (size_bound (extent w t) n e), refl))

  pub sized_sound : (place : Place) (at : ℕ) (c : Core) → Gives (SoundValue w entities) (sized_expression w place at c)
  sized_sound place at c = if_given (SoundValue w entities) (is_none (named_width w c)) Operand at (size_row w place at (ctype_of c)) (λ none. size_sound place at (ctype_of c))

  align_found : (o : Option Extent) (n : ℕ) → align_in o ≡ Some n → (e : Extent) × (o ≡ Some e) × (e.align ≡ n)
  align_found None n h = cc
  align_found (Some e) n h = (e, refl, cc)

  pub align_sound : (place : Place) (at : ℕ) (t : Ctype) → IsProper t → Gives (SoundValue w entities) (align_row w place at t)
  align_sound place at t proper =
      some_given (SoundValue w entities) (align_in (extent w t)) Operand at (λ n. Fits (size_number place n))
      (λ n e. let found = align_found (extent w t) n e in ((subst (λ (k : ℕ). Holds unsigned_long (pos k)) found.2 (world.aligns t found.0 proper found.1), tt, tt, tt), refl))

  -- calls
  passed_promoted : (t : Ctype) → IsPromoted t → IsPassed t
  passed_promoted (IntegerType size rank signed) h = h
  passed_promoted t h = absurd h

  passed_address : (t to : Ctype) → operand_of t ≡ Address to → IsPassed t
  passed_address (PointerTo a) to h = tt
  passed_address t to h = cc

  passed_aggregate : (t : Ctype) (tag : ℕ) → operand_of t ≡ Aggregate tag → IsPassed t
  passed_aggregate (StructureOf a) tag h = tt
  passed_aggregate (UnionOf a) tag h = tt
  passed_aggregate t tag h = cc

  further_sound : (at : ℕ) (v : Core) → SoundValue w entities v → (s : OperandSort) → operand_of (ctype_of v) ≡ s → Gives (λ c. Sound w entities c × IsFurtherCore c) (further w at v s)
  further_sound at v h Whole e =
      let whole : IsInteger (ctype_of v) = whole_integer (ctype_of v) e in
      let x = promotion_value w entities v h whole in
      (x.0, (x.1, passed_promoted (ctype_of (promotion w v)) (promotion_promoted w entities v h whole)))
  further_sound at v h (Address to) e = (h.0, (h.1, passed_address (ctype_of v) to e))
  further_sound at v h (Aggregate tag) e = (h.0, (h.1, passed_aggregate (ctype_of v) tag e))
  further_sound at v h Other e = tt

  passed_list : (t : Ctype) → is_list t ≡ true → IsPassed t
  passed_list VaListType h = tt
  passed_list t h = cc

  further_value_sound : (at : ℕ) (v : Core) → SoundValue w entities v → Gives (λ c. Sound w entities c × IsFurtherCore c) (further_value w at v)
  further_value_sound at v h = by (is_list (ctype_of v)) refl
    where
      by : (b : Bool) → is_list (ctype_of v) ≡ b → Gives (λ c. Sound w entities c × IsFurtherCore c) (if b then Fits v else further w at v (operand_of (ctype_of v)))
      by true e = (h.0, (h.1, passed_list (ctype_of v) e))
      by false e = further_sound at v h (operand_of (ctype_of v)) refl

  -- each parameter's argument, and what is past them
  module _ (at : ℕ) where
    no_more : (a : Core) (rest : List Core) → takes_so_many Fixed 0 (length (a ∷ rest)) ≡ true → ⊥
    no_more a rest h = let none : 0 ≡ length (a ∷ rest) = eqb-true 0 (length (a ∷ rest)) h in omega arith

    one_less : (form : Form) (m : ℕ) (a : Core) (rest : List Core) → takes_so_many form (suc m) (length (a ∷ rest)) ≡ true → takes_so_many form m (length rest) ≡ true
    one_less Fixed m a rest h = eq-eqb m (length rest) (let same : suc m ≡ length (a ∷ rest) = eqb-true (suc m) (length (a ∷ rest)) h in omega arith)
    one_less Variadic m a rest h = h
    one_less Unspecified m a rest h = refl

    some_wanted : (form : Form) (t : Ctype) (ps : Ctypes) → IsListOf form (MoreTypes t ps) → takes_so_many form (count_of (MoreTypes t ps)) 0 ≡ true → ⊥
    some_wanted Fixed t ps is h = let none : suc (count_of ps) ≡ 0 = eqb-true (suc (count_of ps)) 0 h in omega arith
    some_wanted Variadic t ps is h = false≢true h
    some_wanted Unspecified t ps is h = is

    list_rest : (form : Form) (t : Ctype) (ps : Ctypes) → IsListOf form (MoreTypes t ps) → IsListOf form ps
    list_rest Fixed t NoTypes is = tt
    list_rest Fixed t (MoreTypes q qs) is = tt
    list_rest Variadic t NoTypes is = tt
    list_rest Variadic t (MoreTypes q qs) is = tt
    list_rest Unspecified t ps is = absurd is

    none_left : (form : Form) → AreArguments NoTypes form []
    none_left Fixed = tt
    none_left Variadic = All-nil IsFurtherCore
    none_left Unspecified = All-nil IsFurtherCore

    one_further : (form : Form) (a : Core) (rest : List Core) → (form ≡ Fixed → ⊥) → IsFurtherCore a → AreArguments NoTypes form rest → AreArguments NoTypes form (a ∷ rest)
    one_further Fixed a rest ne h k = absurd (ne refl)
    one_further Variadic a rest ne h k = All-cons IsFurtherCore a rest h k
    one_further Unspecified a rest ne h k = All-cons IsFurtherCore a rest h k

    one_argument : (form : Form) (t : Ctype) (ps : Ctypes) (a : Core) (rest : List Core) → IsListOf form (MoreTypes t ps) → IsValueCore a t → AreArguments ps form rest → AreArguments (MoreTypes t ps) form (a ∷ rest)
    one_argument Fixed t ps a rest is h k = (h, k)
    one_argument Variadic t ps a rest is h k = (h, k)
    one_argument Unspecified t ps a rest is h k = absurd is

    so_many : (form : Form) (a : Core) (rest : List Core) → takes_so_many form 0 (length (a ∷ rest)) ≡ true → (takes_so_many form 0 (length rest) ≡ true) × (form ≡ Fixed → ⊥)
    so_many Fixed a rest h = absurd (no_more a rest h)
    so_many Variadic a rest h = (refl, λ e. cc)
    so_many Unspecified a rest h = (refl, λ e. cc)

    arguments_sound : (form : Form) (ps : Ctypes) (args : List Core) → AreProper ps → IsListOf form ps → takes_so_many form (count_of ps) (length args) ≡ true → AreSound w entities args → Gives (λ cores. AreArguments ps form (list_of cores) × AllSound w entities cores) (arguments w at ps args)
    arguments_sound form NoTypes [] proper is many h = (none_left form, tt)
    arguments_sound form (MoreTypes t ps) [] proper is many h = absurd (some_wanted form t ps is many)
    arguments_sound form NoTypes (a ∷ rest) proper is many h =
        let more = so_many form a rest many in
        let Q : Cores → Type 0 = λ cores. AreArguments NoTypes form (list_of cores) × AllSound w entities cores in
        then_gives (SoundValue w entities) Q (value_of w at a) (λ v. further_value w at v >>= (λ x. arguments w at NoTypes rest >>= (λ more. Fits (one_more x more)))) (value_sound w entities at a h.0)
        (λ v s.
        then_gives (λ c. Sound w entities c × IsFurtherCore c) Q (further_value w at v) (λ x. arguments w at NoTypes rest >>= (λ more. Fits (one_more x more))) (further_value_sound at v s)
        (λ x y.
        then_gives Q Q (arguments w at NoTypes rest) (λ more. Fits (one_more x more)) (arguments_sound form NoTypes rest proper is more.0 h.1)
        (λ cores z. (one_further form x (list_of cores) more.1 y.1 z.0, (y.0, z.1)))))
    arguments_sound form (MoreTypes t ps) (a ∷ rest) proper is many h =
        let P : Cores → Type 0 = λ cores. AreArguments ps form (list_of cores) × AllSound w entities cores in
        let Q : Cores → Type 0 = λ cores. AreArguments (MoreTypes t ps) form (list_of cores) × AllSound w entities cores in
        then_gives (SoundValue w entities) Q (value_of w at a) (λ v. conversion w false at v t >>= (λ x. arguments w at ps rest >>= (λ more. Fits (one_more x more)))) (value_sound w entities at a h.0)
        (λ v s.
        then_gives (SoundOf w entities t) Q (conversion w false at v t) (λ x. arguments w at ps rest >>= (λ more. Fits (one_more x more))) (conversion_sound w entities v s world false at t proper.0)
        (λ x y.
        then_gives P Q (arguments w at ps rest) (λ more. Fits (one_more x more)) (arguments_sound form ps rest proper.1 (list_rest form t ps is) (one_less form (count_of ps) a rest many) h.1)
        (λ cores z. (one_argument form t ps x (list_of cores) is y.1 z.0, (y.0, z.1)))))

    call_of_sound : (place : Place) (c : Core) (r : Ctype) (ps : Ctypes) (form : Form) (args : List Core) → SoundValue w entities c → ctype_of c ≡ PointerTo (FunctionFrom r ps form) → AreSound w entities args → Gives (SoundValue w entities) (call_of w place at c r ps form args)
    call_of_sound place c r ps form args h e sound =
        let proper : IsProper (PointerTo (FunctionFrom r ps form)) = subst IsProper e (proper_of w entities c h.0) in
        if_given (SoundValue w entities) (takes_so_many form (count_of ps) (length args)) Operand at (arguments w at ps args >>= (λ cores. given_if (is_returned w r) Operand at (Fits (Of CallNode place r (MoreCores c cores)))))
        (λ many.
        then_gives (λ cores. AreArguments ps form (list_of cores) × AllSound w entities cores) (SoundValue w entities) (arguments w at ps args) (λ cores. given_if (is_returned w r) Operand at (Fits (Of CallNode place r (MoreCores c cores))))
        (arguments_sound form ps args proper.1 proper.2 many sound)
        (λ cores s.
        if_given (SoundValue w entities) (is_returned w r) Operand at (Fits (Of CallNode place r (MoreCores c cores)))
        (λ returned. (((h.1, subst (λ (t : Ctype). CallsWith t r (list_of cores)) (sym e) (refl, s.0)), proper.0, tt, (h.0, s.1)), refl))))

    callee_sound : (place : Place) (c : Core) (args : List Core) → SoundValue w entities c → AreSound w entities args → (t : Ctype) → ctype_of c ≡ t → Gives (SoundValue w entities) (callee_row w place at c args t)
    callee_sound place c args h sound (PointerTo (FunctionFrom r ps form)) e =
        typed_sound w entities (SoundValue w entities) at r (given_if w.may_call Operand at (call_of w place at c r ps form args))
        (if_given (SoundValue w entities) w.may_call Operand at (call_of w place at c r ps form args) (λ may. call_of_sound place c r ps form args h e sound))
    callee_sound place c args h sound t e = tt

    pub call_sound : (place : Place) (f : Core) (args : List Core) → Sound w entities f → AreSound w entities args → Gives (SoundValue w entities) (call_row w place at f args)
    call_sound place f args h sound =
        then_gives (SoundValue w entities) (SoundValue w entities) (value_of w at f) (λ c. callee_row w place at c args (ctype_of c)) (value_sound w entities at f h) (λ c s. callee_sound place c args s sound (ctype_of c) refl)
