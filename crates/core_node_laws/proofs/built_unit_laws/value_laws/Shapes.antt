-- Which types aren't structures or unions, and which of those are complete.
use Rattle.std.proofs.Common.{◌≡◌, ℕ, ℤ, Bool, true, false, cond, eqb, List, [], ◌∷◌, ◌++◌, map, Option, Some, None, refl, sym, ap, subst}
use Rattle.std.specs.Prelude.{is_some}
use Rattle.c_types.specs.Trees.{Ctype, VoidType, BoolType, IntegerType, FloatingType, VaListType, PointerTo, ArrayOf, FunctionFrom, StructureOf, UnionOf}
use Rattle.c_types.specs.Layout.{Extent, Completed, of_members, structure_of, union_of, member_extent, looked_up, laid_out}
use Rattle.c_types.specs.Table.{Table, TagMembers, type_of, members_among, members_in, look_in, size_below}
use Rattle.type_rules.specs.Kinds.{IsAggregate, IsInteger, IsPointer, IsPromoted, int}
use Rattle.type_rules.specs.Numbers.{Holds}
use Rattle.type_rules.specs.Conversions.{Converts, IsFirstOf, decayed}
use Rattle.type_rules.specs.Sizes.{IsObject, PointsToObject}
use Rattle.core_tree.specs.declared.node.Op.{Op}
use Rattle.core_tree.specs.declared.node.Op.TheVariants.{Plus, Minus, ShiftLeft, ShiftRight, Less, Greater, LessEqual, GreaterEqual, Equal, NotEqual, Complement, Not}
use Rattle.core_tree.specs.Rows.{Unary, Binary, Subtracts}

-- ---- no structure or union

pub no_number : (t : Ctype) (n : ℤ) → IsAggregate t → Holds t n → ⊥
no_number (StructureOf tag) n g h = h
no_number (UnionOf tag) n g h = h
no_number t n g h = absurd g

pub no_integer : (t : Ctype) → IsAggregate t → IsInteger t → ⊥
no_integer (StructureOf tag) g h = h
no_integer (UnionOf tag) g h = h
no_integer t g h = absurd g

pub no_pointer : (t : Ctype) → IsAggregate t → IsPointer t → ⊥
no_pointer (StructureOf tag) g h = h
no_pointer (UnionOf tag) g h = h
no_pointer t g h = absurd g

pub no_promoted : (t : Ctype) → IsAggregate t → IsPromoted t → ⊥
no_promoted (StructureOf tag) g h = h
no_promoted (UnionOf tag) g h = h
no_promoted t g h = absurd g

pub not_to_object : (table : Table) (t : Ctype) → IsAggregate t → PointsToObject table t → ⊥
not_to_object table (StructureOf tag) g h = h
not_to_object table (UnionOf tag) g h = h
not_to_object table t g h = absurd g

pub not_decayed : (a t : Ctype) → decayed a ≡ Some t → IsAggregate t → ⊥
not_decayed (ArrayOf of n) t e g = let same : PointerTo of ≡ t = cc in subst IsAggregate (sym same) g
not_decayed (FunctionFrom r ps f) t e g = let same : PointerTo (FunctionFrom r ps f) ≡ t = cc in subst IsAggregate (sym same) g
not_decayed a t e g = cc

pub not_first : (table : Table) (a t : Ctype) → IsAggregate t → IsFirstOf table a t → ⊥
not_first table (PointerTo (StructureOf tag)) (StructureOf other) g h = h
not_first table (PointerTo (StructureOf tag)) (UnionOf other) g h = h
not_first table (PointerTo (StructureOf tag)) t g h = absurd g
not_first table a t g h = h

pub not_converted : (a t : Ctype) → IsAggregate t → Converts a t → ⊥
not_converted a VoidType g h = g
not_converted a BoolType g h = g
not_converted a (IntegerType size rank signed) g h = g
not_converted a FloatingType g h = g
not_converted a VaListType g h = g
not_converted a (PointerTo to) g h = g
not_converted a (ArrayOf of n) g h = g
not_converted a (FunctionFrom r ps f) g h = g
not_converted (PointerTo VoidType) (StructureOf tag) g h = h
not_converted (PointerTo BoolType) (StructureOf tag) g h = h
not_converted (PointerTo x) (StructureOf tag) g h = h
not_converted a (StructureOf tag) g h = h
not_converted (PointerTo x) (UnionOf tag) g h = h
not_converted a (UnionOf tag) g h = h

int_plain : (t : Ctype) → t ≡ int → IsAggregate t → ⊥
int_plain t e g = subst IsAggregate e g

same_plain : (a t : Ctype) → IsPromoted a → t ≡ a → IsAggregate t → ⊥
same_plain a t h e g = no_promoted a (subst IsAggregate e g) h

pub unary_plain : (op : Op) (a t : Ctype) → Unary op a t → IsAggregate t → ⊥
unary_plain Not a t h g = int_plain t h.1 g
unary_plain Plus a t h g = same_plain a t h.0 h.1 g
unary_plain Minus a t h g = same_plain a t h.0 h.1 g
unary_plain Complement a t h g = same_plain a t h.0 h.1 g
unary_plain op a t h g = absurd h

subtracts_plain : (a b t : Ctype) → Subtracts a b t → IsAggregate t → ⊥
subtracts_plain (PointerTo a) b t h g = subst IsAggregate h.1 g
subtracts_plain a b t h g = same_plain a t h.0 h.2 g

pub binary_plain : (op : Op) (a b t : Ctype) → Binary op a b t → IsAggregate t → ⊥
binary_plain Minus a b t h g = subtracts_plain a b t h g
binary_plain Not a b t h g = h
binary_plain Complement a b t h g = h
binary_plain ShiftLeft a b t h g = same_plain a t h.0 h.2 g
binary_plain ShiftRight a b t h g = same_plain a t h.0 h.2 g
binary_plain Less a b t h g = int_plain t h.2 g
binary_plain Greater a b t h g = int_plain t h.2 g
binary_plain LessEqual a b t h g = int_plain t h.2 g
binary_plain GreaterEqual a b t h g = int_plain t h.2 g
binary_plain Equal a b t h g = int_plain t h.2 g
binary_plain NotEqual a b t h g = int_plain t h.2 g
binary_plain op a b t h g = same_plain a t h.0 h.2 g

-- ---- complete ones

if_either : (b : Bool) (x : List Extent) (o p : Option (List Extent)) → (is_some o ≡ true → is_some p ≡ true) → is_some (cond b (Some x) o) ≡ true → is_some (cond b (Some x) p) ≡ true
if_either true x o p k h = refl
if_either false x o p k h = k h

if_last : (b : Bool) (x : List Extent) (p : Option (List Extent)) → is_some p ≡ true → is_some (cond b (Some x) p) ≡ true
if_last true x p h = refl
if_last false x p h = h

append_found : (done more : List (ℕ × List Extent)) (tag : ℕ) → is_some (looked_up done tag) ≡ true → is_some (looked_up (done ++ more) tag) ≡ true
append_found [] more tag h = cc
append_found (e ∷ done) more tag h = if_either (eqb e.0 tag) e.1 (looked_up done tag) (looked_up (done ++ more) tag) (append_found done more tag) h

last_found : (done : List (ℕ × List Extent)) (e : ℕ × List Extent) (tag : ℕ) → eqb e.0 tag ≡ true → is_some (looked_up (done ++ e ∷ []) tag) ≡ true
last_found [] e tag h = ap (λ (b : Bool). is_some (cond b (Some e.1) None)) h
last_found (d ∷ done) e tag h = if_last (eqb d.0 tag) d.1 (looked_up (done ++ e ∷ []) tag) (last_found done e tag h)

laid_found : (done : List (ℕ × List Extent)) (cs : List Completed) (tag : ℕ) → is_some (looked_up done tag) ≡ true → is_some (looked_up (laid_out done cs) tag) ≡ true
laid_found done [] tag h = h
laid_found done (c ∷ cs) tag h =
    laid_found (done ++ (c.tag, map (member_extent (looked_up done)) c.types) ∷ []) cs tag (append_found done ((c.tag, map (member_extent (looked_up done)) c.types) ∷ []) tag h)

abbrev entry : Table → TagMembers → Completed
entry table c = record { tag = c.tag; types = map (λ m. type_of table m.ty.0) c.members }

among_found : (table : Table) (cs : List TagMembers) (done : List (ℕ × List Extent)) (tag : ℕ) → is_some (members_among cs tag) ≡ true → is_some (looked_up (laid_out done (map (entry table) cs)) tag) ≡ true
among_found table [] done tag h = cc
among_found table (c ∷ cs) done tag h = by (eqb c.tag tag) refl (λ k. among_found table cs (done ++ one ∷ []) tag k) h
  where
    one : ℕ × List Extent
    one = (c.tag, map (member_extent (looked_up done)) (entry table c).types)

    by : (b : Bool) → eqb c.tag tag ≡ b → (is_some (members_among cs tag) ≡ true → is_some (looked_up (laid_out (done ++ one ∷ []) (map (entry table) cs)) tag) ≡ true) → is_some (cond b (Some c.members) (members_among cs tag)) ≡ true → is_some (looked_up (laid_out (done ++ one ∷ []) (map (entry table) cs)) tag) ≡ true
    by true e later k = laid_found (done ++ one ∷ []) (map (entry table) cs) tag (last_found done one tag e)
    by false e later k = later k

of_some : (f : List Extent → Extent) (o : Option (List Extent)) → is_some o ≡ true → is_some (of_members f o) ≡ true
of_some f (Some es) h = refl
of_some f None h = cc

-- with members a structure or union is complete
pub structure_complete : (table : Table) (tag : ℕ) → is_some (members_in table tag) ≡ true → IsObject table (StructureOf tag)
structure_complete table tag h = of_some (structure_of (StructureOf tag)) (look_in table tag) (among_found table table.completed [] tag h)

pub union_complete : (table : Table) (tag : ℕ) → is_some (members_in table tag) ≡ true → IsObject table (UnionOf tag)
union_complete table tag h = of_some (union_of (UnionOf tag)) (look_in table tag) (among_found table table.completed [] tag h)

-- what has a size is complete
pub size_some : (o : Option Extent) → is_some (size_below o) ≡ true → is_some o ≡ true
size_some None h = h
size_some (Some x) h = refl
