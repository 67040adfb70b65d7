-- What types with other tags are.
use Rattle.std.proofs.Common.{◌≡◌, ℕ, ℤ, true, false, Some, None, refl, ap, inl, inr}
use Rattle.std.specs.Option.{option_map}
use Rattle.c_types.specs.declared.term.Form.TheVariants.{Fixed, Variadic, Unspecified}
use Rattle.c_types.specs.Trees.{Ctype, VoidType, BoolType, IntegerType, FloatingType, VaListType, PointerTo, ArrayOf, FunctionFrom, StructureOf, UnionOf}
use Rattle.type_rules.specs.Kinds.{IsInteger, IsPointer, IsScalar, IsAggregate, IsArray, IsFunction, IsList, IsVariadic, IsStored, IsPromoted, IsPassed, IsComparable, LacksLength}
use Rattle.type_rules.specs.Conversions.{Agree, Converts, decayed}
use Rattle.type_rules.specs.Numbers.{Holds}
use Rattle.core_tree.specs.declared.node.Op.{Op}
use Rattle.core_tree.specs.declared.node.Op.TheVariants.{Plus, Minus, ShiftLeft, ShiftRight, Less, Greater, LessEqual, GreaterEqual, Equal, NotEqual, Complement, Not}
use Rattle.core_tree.specs.Rows.{Updates, Unary, Compares, Computes, Shifts, Subtracts, Binary}
use Rattle.link_model.specs.Renamed.{renamed}

module _ (f : ℕ → ℕ) where
  pub integer_to : (t : Ctype) → IsInteger t → IsInteger (renamed f t)
  integer_to BoolType h = tt
  integer_to (IntegerType size rank signed) h = tt
  integer_to t h = absurd h

  pub pointer_to : (t : Ctype) → IsPointer t → IsPointer (renamed f t)
  pointer_to (PointerTo to) h = tt
  pointer_to t h = absurd h

  pub scalar_to : (t : Ctype) → IsScalar t → IsScalar (renamed f t)
  scalar_to t (inl h) = inl (integer_to t h)
  scalar_to t (inr h) = inr (pointer_to t h)

  pub aggregate_to : (t : Ctype) → IsAggregate t → IsAggregate (renamed f t)
  aggregate_to (StructureOf tag) h = tt
  aggregate_to (UnionOf tag) h = tt
  aggregate_to t h = absurd h

  pub aggregate_back : (t : Ctype) → IsAggregate (renamed f t) → IsAggregate t
  aggregate_back (StructureOf tag) h = tt
  aggregate_back (UnionOf tag) h = tt
  aggregate_back t h = absurd h

  pub list_to : (t : Ctype) → IsList t → IsList (renamed f t)
  list_to VaListType h = tt
  list_to t h = absurd h

  pub variadic_to : (t : Ctype) → IsVariadic t → IsVariadic (renamed f t)
  variadic_to (FunctionFrom r ps Variadic) h = tt
  variadic_to t h = absurd h

  pub stored_to : (t : Ctype) → IsStored t → IsStored (renamed f t)
  stored_to t (inl h) = inl (scalar_to t h)
  stored_to t (inr (inl h)) = inr (inl (aggregate_to t h))
  stored_to t (inr (inr h)) = inr (inr (list_to t h))

  pub promoted_to : (t : Ctype) → IsPromoted t → IsPromoted (renamed f t)
  promoted_to (IntegerType size rank signed) h = h
  promoted_to t h = absurd h

  pub passed_to : (t : Ctype) → IsPassed t → IsPassed (renamed f t)
  passed_to (IntegerType size rank signed) h = h
  passed_to (PointerTo to) h = tt
  passed_to (StructureOf tag) h = tt
  passed_to (UnionOf tag) h = tt
  passed_to VaListType h = tt
  passed_to t h = absurd h

  comparable_to : (t : Ctype) → IsComparable t → IsComparable (renamed f t)
  comparable_to t (inl h) = inl (promoted_to t h)
  comparable_to t (inr h) = inr (pointer_to t h)

  pub function_to : (t : Ctype) → IsFunction t → IsFunction (renamed f t)
  function_to (FunctionFrom r ps form) h = tt
  function_to t h = absurd h

  pub function_back : (t : Ctype) → IsFunction (renamed f t) → IsFunction t
  function_back (FunctionFrom r ps form) h = tt
  function_back t h = absurd h

  pub array_back : (t : Ctype) → IsArray (renamed f t) → IsArray t
  array_back (ArrayOf of n) h = tt
  array_back t h = absurd h

  pub lacks_back : (t : Ctype) → LacksLength (renamed f t) → LacksLength t
  lacks_back (ArrayOf of None) h = tt
  lacks_back (ArrayOf of (Some n)) h = absurd h
  lacks_back t h = absurd h

  pub void_back : (t : Ctype) → renamed f t ≡ VoidType → t ≡ VoidType
  void_back VoidType h = refl
  void_back BoolType h = absurd (let bad : ⊥ = cc in bad)
  void_back (IntegerType size rank signed) h = absurd (let bad : ⊥ = cc in bad)
  void_back FloatingType h = absurd (let bad : ⊥ = cc in bad)
  void_back VaListType h = absurd (let bad : ⊥ = cc in bad)
  void_back (PointerTo to) h = absurd (let bad : ⊥ = cc in bad)
  void_back (ArrayOf of n) h = absurd (let bad : ⊥ = cc in bad)
  void_back (FunctionFrom r ps form) h = absurd (let bad : ⊥ = cc in bad)
  void_back (StructureOf tag) h = absurd (let bad : ⊥ = cc in bad)
  void_back (UnionOf tag) h = absurd (let bad : ⊥ = cc in bad)

  pub holds_to : (t : Ctype) (n : ℤ) → Holds t n → Holds (renamed f t) n
  holds_to BoolType n h = h
  holds_to (IntegerType size rank false) n h = h
  holds_to (IntegerType size rank true) n h = h
  holds_to t n h = absurd h

  pub decayed_to : (s t : Ctype) → decayed s ≡ Some t → decayed (renamed f s) ≡ Some (renamed f t)
  decayed_to (ArrayOf of n) t h = ap (option_map (renamed f)) h
  decayed_to (FunctionFrom r ps form) t h = ap (option_map (renamed f)) h
  decayed_to s t h = absurd (let bad : ⊥ = cc in bad)

  pub agree_to : (s t : Ctype) → Agree s t → Agree (renamed f s) (renamed f t)
  agree_to (FunctionFrom r ps Unspecified) (FunctionFrom q qs g) h = ap (renamed f) h
  agree_to (FunctionFrom r ps Fixed) (FunctionFrom q qs Unspecified) h = ap (renamed f) h
  agree_to (FunctionFrom r ps Variadic) (FunctionFrom q qs Unspecified) h = ap (renamed f) h
  agree_to (ArrayOf a None) (ArrayOf b n) h = ap (renamed f) h
  agree_to (ArrayOf a (Some m)) (ArrayOf b None) h = ap (renamed f) h
  agree_to (FunctionFrom r ps Fixed) (FunctionFrom q qs Fixed) h = ap (renamed f) h
  agree_to (FunctionFrom r ps Fixed) (FunctionFrom q qs Variadic) h = ap (renamed f) h
  agree_to (FunctionFrom r ps Variadic) (FunctionFrom q qs Fixed) h = ap (renamed f) h
  agree_to (FunctionFrom r ps Variadic) (FunctionFrom q qs Variadic) h = ap (renamed f) h
  agree_to (ArrayOf a (Some m)) (ArrayOf b (Some n)) h = ap (renamed f) h
  agree_to s t h = ap (renamed f) h

  pub converts_to : (s t : Ctype) → Converts s t → Converts (renamed f s) (renamed f t)
  converts_to s VoidType h = tt
  converts_to (PointerTo (FunctionFrom r ps a)) (PointerTo (FunctionFrom q qs b)) h = tt
  converts_to (PointerTo VoidType) (PointerTo (FunctionFrom q qs b)) h = absurd h
  converts_to (PointerTo (FunctionFrom r ps a)) (PointerTo VoidType) h = absurd h
  converts_to (PointerTo VoidType) (PointerTo b) h = tt
  converts_to (PointerTo a) (PointerTo VoidType) h = tt
  converts_to (PointerTo (IntegerType size rank signed)) (PointerTo (IntegerType other r g)) h = h
  converts_to (PointerTo BoolType) (PointerTo (IntegerType size rank signed)) h = h
  converts_to (PointerTo (IntegerType size rank signed)) (PointerTo BoolType) h = h
  converts_to (PointerTo (PointerTo a)) (PointerTo (PointerTo b)) h = tt
  converts_to (PointerTo a) BoolType h = tt
  converts_to (PointerTo a) (IntegerType size rank signed) h = tt
  converts_to (IntegerType s r g) (IntegerType t q k) h = tt
  converts_to (IntegerType s r g) BoolType h = tt
  converts_to BoolType (IntegerType t q k) h = tt
  converts_to s t h = absurd h

  -- operators
  pub updates_to : (op : Op) (t : Ctype) → Updates op t → Updates op (renamed f t)
  updates_to op t (inl h) = inl (integer_to t h.0, h.1)
  updates_to op t (inr h) = inr (pointer_to t h.0, h.1)

  pub unary_to : (op : Op) (a t : Ctype) → Unary op a t → Unary op (renamed f a) (renamed f t)
  unary_to Not a t h = (scalar_to a h.0, ap (renamed f) h.1)
  unary_to Plus a t h = (promoted_to a h.0, ap (renamed f) h.1)
  unary_to Minus a t h = (promoted_to a h.0, ap (renamed f) h.1)
  unary_to Complement a t h = (promoted_to a h.0, ap (renamed f) h.1)
  unary_to op a t h = absurd h

  compares_to : (a b t : Ctype) → Compares a b t → Compares (renamed f a) (renamed f b) (renamed f t)
  compares_to a b t h = (comparable_to a h.0, ap (renamed f) h.1, ap (renamed f) h.2)

  computes_to : (a b t : Ctype) → Computes a b t → Computes (renamed f a) (renamed f b) (renamed f t)
  computes_to a b t h = (promoted_to a h.0, ap (renamed f) h.1, ap (renamed f) h.2)

  shifts_to : (a b t : Ctype) → Shifts a b t → Shifts (renamed f a) (renamed f b) (renamed f t)
  shifts_to a b t h = (promoted_to a h.0, promoted_to b h.1, ap (renamed f) h.2)

  subtracts_to : (a b t : Ctype) → Subtracts a b t → Subtracts (renamed f a) (renamed f b) (renamed f t)
  subtracts_to (PointerTo a) b t h = (ap (renamed f) h.0, ap (renamed f) h.1)
  subtracts_to (IntegerType size rank signed) b t h = computes_to (IntegerType size rank signed) b t h
  subtracts_to a b t h = absurd h.0

  pub binary_to : (op : Op) (a b t : Ctype) → Binary op a b t → Binary op (renamed f a) (renamed f b) (renamed f t)
  binary_to Minus a b t h = subtracts_to a b t h
  binary_to Not a b t h = absurd h
  binary_to Complement a b t h = absurd h
  binary_to ShiftLeft a b t h = shifts_to a b t h
  binary_to ShiftRight a b t h = shifts_to a b t h
  binary_to Less a b t h = compares_to a b t h
  binary_to Greater a b t h = compares_to a b t h
  binary_to LessEqual a b t h = compares_to a b t h
  binary_to GreaterEqual a b t h = compares_to a b t h
  binary_to Equal a b t h = compares_to a b t h
  binary_to NotEqual a b t h = compares_to a b t h
  binary_to op a b t h = computes_to a b t h
