-- Paths from a whole, step by step.
use Rattle.std.proofs.Common.{arith, ◌≡◌, ℕ, zero, suc, ◌+◌, ◌-◌, ◌<◌, ◌≤◌, ◌^◌, Bool, true, false, List, [], ◌∷◌, Option, Some, None, length, get_or, min, slice_get, take, drop, refl, ap, sym, ◌∙◌, subst}
use Rattle.std.proofs.lemmas.Bool.{false≢true}
use Rattle.std.proofs.lemmas.Bool.Decides.{nat_tests}
use Rattle.std.proofs.lemmas.List.{at_drop_more, at_drop_all}
use Rattle.std.specs.Option.{option_and_then}
use Rattle.std.specs.Prelude.{nat_lt, unwrap_or}
use Rattle.c_types.specs.declared.term.PathStep.{PathStep}
use Rattle.c_types.specs.declared.term.PathStep.TheVariants.{Index, Member}
use Rattle.c_types.specs.Trees.{Ctype, VoidType, BoolType, IntegerType, FloatingType, VaListType, PointerTo, ArrayOf, FunctionFrom, StructureOf, UnionOf}
use Rattle.c_types.specs.declared.term.MemberTerm.{MemberTerm}
use Rattle.c_types.specs.declared.term.TypeId.{TypeId}
use Rattle.c_types.specs.Table.{Table, type_of, members_in, extents_in}
use Rattle.c_types.specs.Parts.{position, unless_flexible, member_node, field_in, within_32}
use Rattle.c_types.specs.Paths.{with_length, member_type, part_type}
use Rattle.obj_space.specs.Spots.{Reached, reached, member_reached, step_by, part_at}
use Rattle.obj_space.specs.Parts.{is_collapsed}
use Rattle.obj_space.proofs.Followed.{step_member, no_part}
use Rattle.row_covers.specs.declared.parts.Part.{Part}
use Rattle.row_covers.specs.declared.parts.End.{End}
use Rattle.row_covers.specs.Parts.{near, Follows, is_pointing, IsEnd}

none_some : {X : Type 0} → {x : X} → ◌≡◌ {A = Option X} None (Some x) → ⊥
none_some h = cc

-- a member that has a type has a node
sized : (t s : Ctype) (n : ℕ) → with_length t ≡ Some s → (p : ℕ) × (unless_flexible t n ≡ Some p)
sized (ArrayOf of None) s n e = absurd (none_some e)
sized (ArrayOf of (Some m)) s n e = (n, refl)
sized t s n e = (n, refl)

module _ (table : Table) (k : ℕ) (s : Ctype) where
  member_placed : (n : ℕ) (o : Option MemberTerm) → option_and_then (λ m. with_length (type_of table m.ty.0)) o ≡ Some s → (p : ℕ) × (option_and_then (λ m. unless_flexible (type_of table m.ty.0) n) o ≡ Some p)
  member_placed n None e = absurd (none_some e)
  member_placed n (Some m) e = sized (type_of table m.ty.0) s n e

  members_placed : (place : List MemberTerm → ℕ) (o : Option (List MemberTerm)) → member_type table o k ≡ Some s → (p : ℕ) × (member_node table place o k ≡ Some p)
  members_placed place None e = absurd (none_some e)
  members_placed place (Some ms) e = member_placed (place ms) (slice_get ms k) e

  field_placed : (t : Ctype) → part_type table t (Member k) ≡ Some s → (p : ℕ) × (field_in table t k ≡ Some p)
  field_placed (StructureOf tag) e = members_placed (λ members. position (extents_in table members) k) (members_in table tag) e
  field_placed (UnionOf tag) e = members_placed (λ members. 0) (members_in table tag) e
  field_placed (ArrayOf of None) e = absurd (none_some e)
  field_placed (ArrayOf of (Some m)) e = absurd (none_some e)
  field_placed t e = absurd (none_some e)

-- one step, into a member
pub no_step : (table : Table) (t : Ctype) (k n : ℕ) (inside : Bool) → None ≡ part_type table t (Member k) → step_by table t n inside (Member k) ≡ None
no_step table t k n inside e = step_member table t n inside k ∙ ap (λ (o : Option Ctype). member_reached t o (field_in table t k) n inside) (sym e)

inner : (table : Table) (t s : Ctype) (k n : ℕ) → Some s ≡ part_type table t (Member k) → step_by table t n true (Member k) ≡ Some (reached s n true)
inner table t s k n e = step_member table t n true k ∙ ap (λ (o : Option Ctype). member_reached t o (field_in table t k) n true) (sym e)

outer : (table : Table) (t s : Ctype) (k n p : ℕ) → Some s ≡ part_type table t (Member k) → field_in table t k ≡ Some p → step_by table t n false (Member k) ≡ Some (reached s (n + p) (is_collapsed t))
outer table t s k n p e f =
    step_member table t n false k
    ∙ (ap (λ (o : Option Ctype). member_reached t o (field_in table t k) n false) (sym e) ∙ ap (λ (o : Option ℕ). member_reached t (Some s) o n false) f)

pub inside_follows : (table : Table) (t : Ctype) (k n : ℕ) (part : Part) (ty : TypeId) → part.inside ≡ true → ty.0 < length table.terms → Some (type_of table ty.0) ≡ part_type table t (Member k) → part.node ≡ near n
    → Follows table (Some (record part { ty = ty })) (step_by table t n part.inside (Member k))
inside_follows table t k n part ty is known e at =
    subst (λ (b : Bool). Follows table (Some (record part { ty = ty })) (step_by table t n b (Member k))) (sym is)
    (reached (type_of table ty.0) n true, inner table t (type_of table ty.0) k n e, refl, at, sym is, known)

pub element_follows : (table : Table) (t of : Ctype) (l : Option ℕ) (n i : ℕ) (part : Part) → t ≡ ArrayOf of l → of ≡ type_of table part.ty.0 → part.node ≡ near n → part.ty.0 < length table.terms → Follows table (Some part) (step_by table t n part.inside (Index i))
element_follows table t of l n i part e same at known = (reached of n part.inside, ap (λ (x : Ctype). step_by table x n part.inside (Index i)) e, same, at, refl, known)

summed : (n p m q sum : ℕ) → m ≡ near n → q ≡ near p → sum ≡ min (m + q) 4294967295 → sum ≡ near (n + p)
summed n p m q sum a b c = omega arith

pub outside_follows : (table : Table) (t : Ctype) (k n m q : ℕ) (part : Part) → part.ty.0 < length table.terms → Some (type_of table part.ty.0) ≡ part_type table t (Member k)
    → m ≡ near n → ((p : ℕ) → field_in table t k ≡ Some p → q ≡ near p) → part.node ≡ min (m + q) 4294967295 → part.inside ≡ is_collapsed t → Follows table (Some part) (step_by table t n false (Member k))
outside_follows table t k n m q part known e at place sum collapsed =
    let f = field_placed table k (type_of table part.ty.0) t (sym e) in
    (reached (type_of table part.ty.0) (n + f.0) (is_collapsed t), outer table t (type_of table part.ty.0) k n f.0 e f.1, refl, summed n f.0 m q part.node at (place f.0 f.1) sum, sym collapsed, known)

-- the number of a member's node, as far as 32 bits hold it
pub placed_near : (o : Option ℕ) (found : Option ℕ) (q p : ℕ) → found ≡ within_32 o → q ≡ unwrap_or found 4294967295 → o ≡ Some p → q ≡ near p
placed_near o found q p is at here = by (nat_lt p (2 ^ 32)) refl
  where
    same : found ≡ within_32 (Some p)
    same = is ∙ ap within_32 here

    by : (b : Bool) → nat_lt p (2 ^ 32) ≡ b → q ≡ near p
    by b e = grind (arith, nat_tests)

-- the part so far along a path
pub record Along (table : Table) (part : Part) (left : List PathStep) (whole : Option Reached) : Type 0 where
  pub x : Reached
  pub rest : part_at table (Some x) left ≡ whole
  pub ty : x.ty ≡ type_of table part.ty.0
  pub node : part.node ≡ near x.node
  pub inside : x.inside ≡ part.inside

-- one step further, and one step out
step_here : (table : Table) (part : Part) (x : Reached) (step : PathStep) → x.ty ≡ type_of table part.ty.0 → x.inside ≡ part.inside → step_by table x.ty x.node x.inside step ≡ step_by table (type_of table part.ty.0) x.node part.inside step
step_here table part x step a b = ap (λ (t : Ctype). step_by table t x.node x.inside step) a ∙ ap (λ (i : Bool). step_by table (type_of table part.ty.0) x.node i step) b

pub further : (table : Table) (path : List PathStep) (i : ℕ) (d : PathStep) (part next : Part) (whole : Option Reached) → i < length path → (a : Along table part (drop i path) whole)
    → ((n : ℕ) → part.node ≡ near n → Follows table (Some next) (step_by table (type_of table part.ty.0) n part.inside (get_or path i d))) → Along table next (drop (i + 1) path) whole
further table path i d part next whole lt a steps =
    let f = steps a.x.node a.node in
    record {
      x = f.0;
      rest = ap (λ (r : Option Reached). part_at table r (drop (i + 1) path)) (sym (step_here table part a.x (get_or path i d) a.ty a.inside ∙ f.1)) ∙ (sym (at_drop_more (part_at table (Some a.x)) path i d lt) ∙ a.rest);
      ty = f.2;
      node = f.3;
      inside = f.4;
    }

pub out : (table : Table) (path : List PathStep) (i : ℕ) (d : PathStep) (part : Part) (whole : Option Reached) → i < length path → (a : Along table part (drop i path) whole)
    → ((n : ℕ) → part.node ≡ near n → Follows table None (step_by table (type_of table part.ty.0) n part.inside (get_or path i d))) → whole ≡ None
out table path i d part whole lt a steps =
    sym a.rest ∙ (at_drop_more (part_at table (Some a.x)) path i d lt
    ∙ (ap (λ (r : Option Reached). part_at table r (drop (i + 1) path)) (step_here table part a.x (get_or path i d) a.ty a.inside ∙ steps a.x.node a.node) ∙ no_part table (drop (i + 1) path)))

-- at the end of the path
pub arrived : (table : Table) (path : List PathStep) (i : ℕ) (part : Part) (pointer : Bool) (whole : Option Reached) → length path ≤ i → pointer ≡ is_pointing (type_of table part.ty.0)
    → Along table part (drop i path) whole → IsEnd whole (Some (record { node = part.node; pointer = pointer }))
arrived table path i part pointer whole h tells a =
    let here : Some a.x ≡ whole = sym (at_drop_all (part_at table (Some a.x)) path i h) ∙ a.rest in
    (a.x, sym here, a.node, tells ∙ ap is_pointing (sym a.ty))

-- an array has no members
pub no_member : (table : Table) (of : Ctype) (n : Option ℕ) (k : ℕ) (rest : List PathStep) → part_at table (Some (reached (ArrayOf of n) 0 false)) (Member k ∷ rest) ≡ None
no_member table of None k rest = no_part table rest
no_member table of (Some m) k rest = no_part table rest

-- an array itself, and what lies behind a first step
pub array_whole : (table : Table) (of : Ctype) (n : Option ℕ) (path : List PathStep) → length path < 1 → (x : Reached) × (part_at table (Some (reached (ArrayOf of n) 0 false)) path ≡ Some x) × (0 ≡ near x.node) × (false ≡ is_pointing x.ty)
array_whole table of n [] h = (reached (ArrayOf of n) 0 false, refl, refl, refl)
array_whole table of n (step ∷ rest) h = absurd (omega arith)

take_whole : (k : ℕ) (xs : List PathStep) → length xs ≤ k → take k xs ≡ xs
take_whole zero [] h = refl
take_whole (suc k) [] h = refl
take_whole zero (x ∷ xs) h = absurd (omega arith)
take_whole (suc k) (x ∷ xs) h = ap (λ (ys : List PathStep). x ∷ ys) (take_whole k xs (omega arith))

pub first_step : (P : List PathStep → Type 0) (path : List PathStep) (d : PathStep) → 1 ≤ length path → P (get_or path 0 d ∷ take (length path - 1) (drop 1 path)) → P path
first_step P [] d h x = absurd (omega arith)
first_step P (step ∷ rest) d h x = subst (λ (ys : List PathStep). P (step ∷ ys)) (take_whole (length (step ∷ rest) - 1) rest (omega arith)) x
