-- The search for a member by its name, step by step.
use Rattle.std.proofs.Common.{◌≡◌, ℕ, suc, ◌+◌, ◌-◌, ◌<◌, ◌≤◌, true, false, Option, Some, None, List, [], ◌∷◌, ◌++◌, map, length, drop, get_or, reverse, cond, refl, sym, ap, ◌∙◌, arith, add-one}
use Rattle.std.specs.Option.{is_some}
use Rattle.std.specs.List.{position, position_from}
use Rattle.std.proofs.lemmas.List.{drop_more, drop_all, reverse-append}
use Rattle.std.proofs.lemmas.Iterator.Adapters.{position_from-zero}
use Rattle.c_types.specs.declared.term.MemberTerm.{MemberTerm}
use Rattle.c_types.specs.Trees.{Ctype}
use Rattle.c_types.specs.Table.{Table, type_of}
use Rattle.c_senses.specs.World.{World, has_name, own_position, or_else, one_step, step_into, in_unnamed, in_members, way_within}
use Rattle.c_operators.specs.c_members.Worlds.{IsWorldOf, members_in_type, parts_in, part_of}
use Rattle.c_operators.proofs.c_members.Parts.{members_are}

-- the first member of a name, in a table and in its world
own_from : (name : List ℕ) (table : Table) (k : ℕ) (ms : List MemberTerm) → own_position name k (map (part_of table) ms) ≡ position_from (λ m. has_name name m.name) k ms
own_from name table k [] = refl
own_from name table k (m ∷ rest) =
    ap (λ o. cond (has_name name m.name) (Some k) o) (own_from name table (suc k) rest ∙ ap (λ j. position_from (λ (n : MemberTerm). has_name name n.name) j rest) (sym (add-one k)))

own_is : (name : List ℕ) (table : Table) (ms : List MemberTerm) → own_position name 0 (map (part_of table) ms) ≡ position (λ m. has_name name m.name) ms
own_is name table ms = own_from name table 0 ms ∙ sym (position_from-zero (λ (m : MemberTerm). has_name name m.name) ms)

-- a level of the search, in a list of members
level : (w : World) (table : Table) (name : List ℕ) (depth : ℕ) (t : Ctype) (ms : List MemberTerm) → IsWorldOf w table → members_in_type table t ≡ Some ms → way_within w (suc depth) name t ≡ or_else (one_step (position (λ m. has_name name m.name) ms)) (in_unnamed (way_within w depth name) 0 (map (part_of table) ms))
level w table name depth t ms h e =
    ap (in_members (way_within w depth name) name) (members_are w table t h ∙ ap (parts_in table) e)
    ∙ ap (λ o. or_else (one_step o) (in_unnamed (way_within w depth name) 0 (map (part_of table) ms))) (own_is name table ms)

pub level_own : (w : World) (table : Table) (name : List ℕ) (depth : ℕ) (t : Ctype) (ms : List MemberTerm) (k : ℕ) → IsWorldOf w table → 0 < depth → members_in_type table t ≡ Some ms → position (λ m. has_name name m.name) ms ≡ Some k → way_within w depth name t ≡ Some (k ∷ [])
level_own w table name depth t ms k h some e own =
    let less : depth ≡ suc (depth - 1) = omega arith in
    ap (λ n. way_within w n name t) less ∙ (level w table name (depth - 1) t ms h e ∙ ap (λ o. or_else (one_step o) (in_unnamed (way_within w (depth - 1) name) 0 (map (part_of table) ms))) own)

pub level_unnamed : (w : World) (table : Table) (name : List ℕ) (depth : ℕ) (t : Ctype) (ms : List MemberTerm) → IsWorldOf w table → 0 < depth → members_in_type table t ≡ Some ms → position (λ m. has_name name m.name) ms ≡ None → way_within w depth name t ≡ in_unnamed (way_within w (depth - 1) name) 0 (map (part_of table) ms)
level_unnamed w table name depth t ms h some e own =
    let less : depth ≡ suc (depth - 1) = omega arith in
    ap (λ n. way_within w n name t) less ∙ (level w table name (depth - 1) t ms h e ∙ ap (λ o. or_else (one_step o) (in_unnamed (way_within w (depth - 1) name) 0 (map (part_of table) ms))) own)

-- the next member of a list
next_is : (ms : List MemberTerm) (i : ℕ) (m : MemberTerm) → i < length ms → m ≡ get_or ms i m → drop i ms ≡ m ∷ drop (i + 1) ms
next_is ms i m h e = drop_more ms i m h ∙ ap (λ (x : MemberTerm). x ∷ drop (i + 1) ms) (sym e)

-- what a member gives to the search by its name, or by its type where it has none
by_name : (o : Option (List ℕ)) (a rest : Option (List ℕ)) → is_some o ≡ true → or_else (elim o as (λ x. Option (List ℕ)) [ None ↦ a | Some own ↦ None ]) rest ≡ rest
by_name None a rest e = cc
by_name (Some own) a rest e = refl

by_type : (o : Option (List ℕ)) (a rest : Option (List ℕ)) → is_some o ≡ false → or_else (elim o as (λ x. Option (List ℕ)) [ None ↦ a | Some own ↦ None ]) rest ≡ or_else a rest
by_type None a rest e = refl
by_type (Some own) a rest e = cc

module _ (search : Ctype → Option (List ℕ)) (table : Table) (ms : List MemberTerm) where
  -- the search from one member on
  abbrev pub from_on : ℕ → Option (List ℕ)
  from_on i = in_unnamed search i (map (part_of table) (drop i ms))

  abbrev rest_on : ℕ → Option (List ℕ)
  rest_on i = in_unnamed search (suc i) (map (part_of table) (drop (i + 1) ms))

  abbrev into : ℕ → MemberTerm → Option (List ℕ)
  into i m = step_into i (search (type_of table m.ty.0))

  at_member : (i : ℕ) (m : MemberTerm) → i < length ms → m ≡ get_or ms i m → from_on i ≡ in_unnamed search i (part_of table m ∷ map (part_of table) (drop (i + 1) ms))
  at_member i m h e = ap (λ xs. in_unnamed search i (map (part_of table) xs)) (next_is ms i m h e)

  on_is : (i : ℕ) → rest_on i ≡ from_on (i + 1)
  on_is i = ap (λ j. in_unnamed search j (map (part_of table) (drop (i + 1) ms))) (sym (add-one i))

  pub pass_named : (i : ℕ) (m : MemberTerm) → i < length ms → m ≡ get_or ms i m → is_some m.name ≡ true → from_on i ≡ from_on (i + 1)
  pass_named i m h e named = at_member i m h e ∙ (by_name m.name (into i m) (rest_on i) named ∙ on_is i)

  pub pass_unnamed : (i : ℕ) (m : MemberTerm) → i < length ms → m ≡ get_or ms i m → is_some m.name ≡ false → search (type_of table m.ty.0) ≡ None → from_on i ≡ from_on (i + 1)
  pass_unnamed i m h e unnamed none =
      at_member i m h e ∙ (by_type m.name (into i m) (rest_on i) unnamed ∙ (ap (λ o. or_else (step_into i o) (rest_on i)) none ∙ on_is i))

  pub take_unnamed : (i : ℕ) (m : MemberTerm) (way : List ℕ) → i < length ms → m ≡ get_or ms i m → is_some m.name ≡ false → search (type_of table m.ty.0) ≡ Some way → from_on i ≡ Some (i ∷ way)
  take_unnamed i m way h e unnamed found =
      at_member i m h e ∙ (by_type m.name (into i m) (rest_on i) unnamed ∙ ap (λ o. or_else (step_into i o) (rest_on i)) found)

  pub past_all : (i : ℕ) → length ms ≤ i → from_on i ≡ None
  past_all i h = ap (λ xs. in_unnamed search i (map (part_of table) xs)) (drop_all i ms h)

-- a way that grows behind, seen from its front
pub front : (i : ℕ) (back old : List ℕ) → back ≡ old ++ i ∷ [] → reverse back ≡ i ∷ reverse old
front i back old e = ap reverse e ∙ reverse-append old (i ∷ [])
