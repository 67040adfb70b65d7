-- What is untold of a tree, by what carrying it says.
use Rattle.std.proofs.Common.{arith, ◌≡◌, ◌∙◌, ℕ, suc, ◌<◌, Bool, true, false, ◌&&◌, inl, inr, List, [], ◌∷◌, All, map, length, get_or, slice_get, Option, Some, None, refl, sym, ap, MatchOption}
use Rattle.std.specs.Option.{is_some, option_map}
use Rattle.std.proofs.lemmas.List.Elements.{All-cons}
use Rattle.c_types.specs.declared.term.Term.TheVariants.{Structure, Union}
use Rattle.c_types.specs.declared.term.MemberTerm.{MemberTerm}
use Rattle.c_types.specs.Trees.{Ctype, Ctypes, VoidType, BoolType, IntegerType, FloatingType, VaListType, PointerTo, ArrayOf, FunctionFrom, StructureOf, UnionOf, NoTypes, MoreTypes}
use Rattle.c_types.specs.Table.{Table, type_of, members_in}
use Rattle.c_types.specs.Made.{IsMade, AreNamed}
use Rattle.c_inits.specs.Made.{Part}
use Rattle.c_inits.specs.Tables.{part_of}
use Rattle.core_tree.specs.declared.node.Unit.{Unit}
use Rattle.c_consts.specs.Core.{Core, Cores, Of, NoCores, MoreCores}
use Rattle.core_nodes.specs.Standing.{parts_in}
use Rattle.carried_trees.specs.carried_types.Types.{is_given_type, are_given_types}
use Rattle.carried_trees.specs.carried_types.Terms.{AreTypes, AreTagIds, IsIdIn}
use Rattle.carried_trees.specs.carried_types.Members.{are_given_parts, are_flagged}
use Rattle.carried_trees.specs.carried_types.Told.{IsMark, AreMarks, IsPartUntold}
use Rattle.carried_trees.specs.Carried.{is_given_kind, is_given_core, are_given_cores}
use Rattle.carried_trees.specs.Literals.{has_literal, IsTree}
use Rattle.carried_trees.specs.declared.carrying.WholeTree.{WholeTree}
use Rattle.carried_trees.specs.Told.{marked, LacksMark}
use Rattle.carried_trees.proofs.carried_types.Adding.{flags_given}

none_some : {X : Type 0} → {x : X} → ◌≡◌ {A = Option X} None (Some x) → ⊥
none_some h = cc

some_one : {X : Type 0} → {x y : X} → ◌≡◌ {A = Option X} (Some x) (Some y) → x ≡ y
some_one h = cc

-- what is given where some tags have types is given where the same tags do
module _ (a b : ℕ → Option Ctype) (same : (k : ℕ) → is_some (a k) ≡ is_some (b k)) where
  mutual
    type_same : (t : Ctype) → is_given_type a t ≡ is_given_type b t
    type_same VoidType = refl
    type_same BoolType = refl
    type_same (IntegerType size rank signed) = refl
    type_same FloatingType = refl
    type_same VaListType = refl
    type_same (PointerTo to) = type_same to
    type_same (ArrayOf element n) = type_same element
    type_same (FunctionFrom result parameters form) =
        ap (λ (x : Bool). x && are_given_types a parameters) (type_same result) ∙ ap (λ (x : Bool). is_given_type b result && x) (types_same parameters)
    type_same (StructureOf k) = same k
    type_same (UnionOf k) = same k

    types_same : (ts : Ctypes) → are_given_types a ts ≡ are_given_types b ts
    types_same NoTypes = refl
    types_same (MoreTypes t rest) = ap (λ (x : Bool). x && are_given_types a rest) (type_same t) ∙ ap (λ (x : Bool). is_given_type b t && x) (types_same rest)

  pub parts_same : (ps : List Part) → are_given_parts a ps ≡ are_given_parts b ps
  parts_same [] = refl
  parts_same (p ∷ ps) = ap (λ (x : Bool). x && are_given_parts a ps) (type_same p.type) ∙ ap (λ (x : Bool). is_given_type b p.type && x) (parts_same ps)

  module _ (entity : ℕ → Option ℕ) (own : ℕ → Bool) where
    mutual
      pub core_same : (c : Core) → is_given_core entity own a c ≡ is_given_core entity own b c
      core_same (Of kind place type under) =
          ap (λ (x : Bool). (is_given_kind entity own kind && x) && are_given_cores entity own a under) (type_same type)
          ∙ ap (λ (x : Bool). (is_given_kind entity own kind && is_given_type b type) && x) (cores_same under)

      cores_same : (cs : Cores) → are_given_cores entity own a cs ≡ are_given_cores entity own b cs
      cores_same NoCores = refl
      cores_same (MoreCores c rest) = ap (λ (x : Bool). x && are_given_cores entity own a rest) (core_same c) ∙ ap (λ (x : Bool). is_given_core entity own b c && x) (cores_same rest)

-- a tag with members is one of the table's
pub tag_within : (table : Table) → IsMade table → AreNamed table → (k : ℕ) (members : List MemberTerm) → members_in table k ≡ Some members → k < table.tags
tag_within table made named k members e = elim (made.stands k members e) [
  | inl s ↦ (let there = named s.0 (Structure k) s.1 in there.1)
  | inr s ↦ (let there = named s.0 (Union k) s.1 in there.1)
]

all_members : (n : ℕ) (ms : List MemberTerm) → ((k : ℕ) (m : MemberTerm) → slice_get ms k ≡ Some m → m.ty.0 < n) → All (λ m. m.ty.0 < n) ms
all_members n [] h = λ k d lt. absurd (omega arith)
all_members n (m ∷ ms) h = All-cons (λ (x : MemberTerm). x.ty.0 < n) m ms (h 0 m refl) (all_members n ms (λ k x at. h (suc k) x at))

-- marks are ids of a table that has a type
pub marks_within : (table : Table) (marks : List (Option ℕ)) → 0 < length table.terms → AreMarks marks → AreTagIds marks table
marks_within table marks one h k = by (get_or marks k None) (h k)
  where
    by : (o : Option ℕ) → IsMark o → IsIdIn table o
    by None m = tt
    by (Some id) m = omega (arith, m, one)

-- each mark has a type there
pub mark_here : (table : Table) (o : Option ℕ) → is_some (option_map (λ (id : ℕ). type_of table id) o) ≡ is_some (option_map (λ (id : ℕ). VoidType) o)
mark_here table None = refl
mark_here table (Some id) = refl

-- the members of incomplete tags, by the flags of types
module _ (from : Table) (made : IsMade from) (terms : AreNamed from) (type : ℕ → Option Ctype) (table : Table) (ids : List ℕ) (given incomplete : List Bool) (types : AreTypes type from (length from.terms) ids given table)
    (marks : List (Option ℕ)) (same : (k : ℕ) → is_some (type k) ≡ is_some (marked marks k)) where
  parts_flagged : (k : ℕ) (ms : List MemberTerm) → members_in from k ≡ Some ms → are_given_parts (marked marks) (map (part_of from) ms) ≡ are_flagged given ms
  parts_flagged k ms e =
      let all = all_members (length from.terms) ms (λ i m at. (made.members k ms e i m at).0) in
      sym (parts_same type (marked marks) same (map (part_of from) ms)) ∙ sym (flags_given type from table ids given types ms all)

  pub part_untold : IsPartUntold from given incomplete from.tags → LacksMark marks incomplete from
  part_untold h = record {
    own = h.own;
    flag = h.lacks.flag;
    list = map (part_of from) h.lacks.list;
    list_is = ap (parts_in from) h.lacks.list_is;
    lacks = parts_flagged h.own h.lacks.list h.lacks.list_is ∙ h.lacks.lacks;
  }

  pub untold_part : LacksMark marks incomplete from → IsPartUntold from given incomplete from.tags
  untold_part h = by (members_in from h.own) refl
    where
      by : (o : Option (List MemberTerm)) → members_in from h.own ≡ o → IsPartUntold from given incomplete from.tags
      by None e = absurd (none_some (sym (ap (parts_in from) e) ∙ h.list_is))
      by (Some ms) e =
          let list : map (part_of from) ms ≡ h.list = some_one (sym (ap (parts_in from) e) ∙ h.list_is) in
          let lacks : are_flagged given ms ≡ false = sym (parts_flagged h.own ms e) ∙ (ap (are_given_parts (marked marks)) list ∙ h.lacks) in
          record { own = h.own; few = tag_within from made terms h.own ms e; lacks = record { flag = h.flag; list = ms; list_is = e; lacks = lacks } }

-- a table with the same members lacks the same marks
pub lacking_there : (marks : List (Option ℕ)) (incomplete : List Bool) (a b : Table) → ((k : ℕ) → parts_in a (members_in a k) ≡ parts_in b (members_in b k)) → LacksMark marks incomplete a → LacksMark marks incomplete b
lacking_there marks incomplete a b same h = record { own = h.own; flag = h.flag; list = h.list; list_is = sym (same h.own) ∙ h.list_is; lacks = h.lacks }

-- what was found is given
pub found_given : (o : Option WholeTree) (P : Type 0) (entity : ℕ → Option ℕ) (tag : ℕ → Option Ctype) (core : Core) (old new : Unit) → is_some o ≡ true → MatchOption o P (λ (t : WholeTree). IsTree entity tag core old new t.node t.literals.items) → is_given_core entity (has_literal core) tag core ≡ true
found_given None P entity tag core old new is h = cc
found_given (Some t) P entity tag core old new is h = h.given

pub not_given : (o : Option WholeTree) (entity : ℕ → Option ℕ) (tag : ℕ → Option Ctype) (core : Core) (old new : Unit) → o ≡ None → MatchOption o (is_given_core entity (has_literal core) tag core ≡ false) (λ (t : WholeTree). IsTree entity tag core old new t.node t.literals.items)
    → is_given_core entity (has_literal core) tag core ≡ false
not_given None entity tag core old new is h = h
not_given (Some t) entity tag core old new is h = cc

pub both_ways : (b : Bool) → b ≡ true → b ≡ false → ⊥
both_ways true h k = cc
both_ways false h k = cc
