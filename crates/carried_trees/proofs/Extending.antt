-- Units that are extended, one step after another.
use Rattle.std.proofs.Common.{arith, ◌≡◌, ◌∙◌, ℕ, suc, ◌<◌, ◌≤◌, ◌⊎◌, inl, inr, List, [], ◌∷◌, map, length, slice_get, get_or, IsSome, Option, Some, None, Result, Ok, Err, IfOk, false, refl, sym, ap, subst}
use Rattle.std.proofs.Math.Path.{fun_ext}
use Rattle.std.specs.Prelude.{MatchOption}
use Rattle.std.specs.Option.{option_map, is_some}
use Rattle.c_types.specs.declared.term.MemberTerm.{MemberTerm}
use Rattle.c_types.specs.Made.{IsMade}
use Rattle.c_types.specs.declared.term.Term.{Term}
use Rattle.c_types.specs.Trees.{Ctype, tree_at, grown}
use Rattle.c_types.specs.Table.{Table, TagMembers, type_of, members_in, members_among}
use Rattle.c_inits.specs.Made.{Part}
use Rattle.core_tree.specs.declared.node.Unit.{Unit}
use Rattle.c_consts.specs.Core.{Core}
use Rattle.core_nodes.specs.declared.fault.CheckFault.{CheckFault}
use Rattle.core_nodes.specs.Standing.{parts_in, part_of, part_with, IsReady, Builds}
use Rattle.core_nodes.proofs.Growing.{core_retyped}
use Rattle.carried_trees.specs.carried_types.Wider.{IsWider}
use Rattle.carried_trees.specs.carried_types.Terms.{AreTagIds, IsIdIn, tag_type}
use Rattle.carried_trees.specs.declared.carrying.WholeTree.{WholeTree}
use Rattle.carried_trees.specs.Carried.{carried_core, is_given_core}
use Rattle.carried_trees.specs.Literals.{has_literal, literal_number, AreLiterals, IsTree}
use Rattle.carried_trees.specs.carried_types.Members.{AreAdded, AreComplete, Lacks}
use Rattle.carried_trees.specs.Extends.{parts_at, Extends, SameParts, PartsFrom, AreFilled, LacksPart, IsMissing, IsWhole}

some_of : {A : Type 0} (o : Option A) → IsSome o → (x : A) × (o ≡ Some x)
some_of None h = cc
some_of (Some x) h = (x, refl)

-- members keep their types
list_retyped : (old new : Table) → ((id : ℕ) → id < length old.terms → type_of new id ≡ type_of old id) → (ms : List MemberTerm) → ((k : ℕ) (m : MemberTerm) → slice_get ms k ≡ Some m → m.ty.0 < length old.terms) → map (part_of new) ms ≡ map (part_of old) ms
list_retyped old new kept [] within = refl
list_retyped old new kept (m ∷ ms) within =
    let first : part_of new m ≡ part_of old m = ap (λ (t : Ctype). part_with m t) (kept m.ty.0 (within 0 m refl)) in
    let rest = list_retyped old new kept ms (λ k n h. within (suc k) n h) in
    cc

module _ (old new : Unit) (is_made : IsMade old.types) (wider : IsWider old.types new.types) where
  parts_of : (tag : ℕ) (o : Option (List MemberTerm)) → members_in old.types tag ≡ o → (parts : List Part) → parts_in old.types o ≡ Some parts → parts_at new tag ≡ Some parts
  parts_of tag None e parts h = cc
  parts_of tag (Some ms) e parts h =
      ap (parts_in new.types) (wider.members tag ms e) ∙ (ap Some (list_retyped old.types new.types wider.types ms (λ k m here. (is_made.members tag ms e k m here).0)) ∙ h)

  pub wider_extends : IsReady old → new.nodes ≡ old.nodes → new.entities.items ≡ old.entities.items → Extends old new
  wider_extends ready nodes entities = record {
    more = let e : length new.nodes.items ≡ length old.nodes.items = ap (λ v. length v.items) nodes in omega arith;
    cores = λ i h. core_retyped old new ready nodes wider.types i;
    terms = wider.terms;
    types = wider.types;
    tags = wider.tags;
    parts = λ tag parts h. parts_of tag (members_in old.types tag) refl parts h;
    extents = wider.extents;
    entities = entities;
  }

  -- where no tag got members
  same_from : (tag : ℕ) (o : Option (List MemberTerm)) → members_in old.types tag ≡ o → parts_in new.types o ≡ parts_in old.types o
  same_from tag None e = refl
  same_from tag (Some ms) e = ap Some (list_retyped old.types new.types wider.types ms (λ k m here. (is_made.members tag ms e k m here).0))

  pub same_parts : new.types.completed ≡ old.types.completed → SameParts old new
  same_parts e tag = ap (λ (cs : List TagMembers). parts_in new.types (members_among cs tag)) e ∙ same_from tag (members_in old.types tag) refl

pub extends_self : (u : Unit) → Extends u u
extends_self u = record { more = omega arith; cores = λ i h. refl; terms = omega arith; types = λ id h. refl; tags = omega arith; parts = λ tag parts h. h; extents = λ t e h. h; entities = refl }

pub extends_on : (a b c : Unit) → Extends a b → Extends b c → Extends a c
extends_on a b c p q = record {
  more = omega (arith, p.more, q.more);
  cores = λ i h. q.cores i (omega (arith, p.more)) ∙ p.cores i h;
  terms = omega (arith, p.terms, q.terms);
  types = λ id h. q.types id (omega (arith, p.terms)) ∙ p.types id h;
  tags = omega (arith, p.tags, q.tags);
  parts = λ tag parts h. q.parts tag parts (p.parts tag parts h);
  extents = λ t e h. q.extents t e (p.extents t e h);
  entities = q.entities ∙ p.entities;
}

pub builds_extends : (a b : Unit) → Builds a b → Extends a b
builds_extends a b p = record {
  more = p.more;
  cores = p.cores;
  terms = p.terms;
  types = p.types;
  tags = let e = p.tags in omega arith;
  parts = λ tag parts h. p.parts tag ∙ h;
  extents = λ t e h. p.extents t ∙ h;
  entities = p.entities;
}

pub builds_same : (a b : Unit) → Builds a b → SameParts a b
builds_same a b p = p.parts

pub same_on : (a b c : Unit) → SameParts a b → SameParts b c → SameParts a c
same_on a b c p q tag = q tag ∙ p tag

-- what is filled between steps that give no tag members
pub filled_between : (tag : ℕ → Option Ctype) (members : ℕ → Option (List Part)) (a b c d : Unit) → SameParts a b → AreFilled tag members b c → SameParts c d → AreFilled tag members a d
filled_between tag members a b c d p h q = record {
  complete = λ k number is some. ap is_some (q number) ∙ h.complete k number is some;
  added = λ number parts at. elim (h.added number parts (sym (q number) ∙ at)) [ inl before ↦ inl (sym (p number) ∙ before) | inr from ↦ inr from ];
}

pub lacks_first : (tag : ℕ → Option Ctype) (members : ℕ → Option (List Part)) (a b : Unit) → SameParts a b → LacksPart tag members b → LacksPart tag members a
lacks_first tag members a b p h = record { own = h.own; number = h.number; is = h.is; was_open = sym (p h.number) ∙ h.was_open; list = h.list; list_is = h.list_is; lacks = h.lacks }

-- the members of a table
module _ (tag : ℕ → Option Ctype) (from : Table) (members : ℕ → Option (List Part)) (are : (k : ℕ) → members k ≡ parts_in from (members_in from k)) (old new : Unit) where
  some_parts : (t : Table) (o : Option (List MemberTerm)) → IsSome (parts_in t o) → IsSome o
  some_parts t None h = h
  some_parts t (Some ms) h = refl

  parts_some : (t : Table) (o : Option (List MemberTerm)) → IsSome o → IsSome (parts_in t o)
  parts_some t None h = h
  parts_some t (Some ms) h = refl

  pub table_filled : AreAdded tag from old.types new.types → AreComplete tag from new.types → AreFilled tag members old new
  table_filled added complete = record {
    complete = λ k number is some. parts_some new.types (members_in new.types number) (complete k number is (some_parts from (members_in from k) (ap is_some (sym (are k)) ∙ some)));
    added = λ number parts at. by number parts (members_in new.types number) refl at;
  }
    where
      kept : (number : ℕ) (ms : List MemberTerm) → parts_in new.types (Some ms) ≡ parts_in old.types (Some ms)
      kept number ms = ap Some (all ms)
        where
          all : (xs : List MemberTerm) → map (part_of new.types) xs ≡ map (part_of old.types) xs
          all [] = refl
          all (m ∷ rest) =
              let first : part_of new.types m ≡ part_of old.types m = ap (λ (ts : List Term). part_with m (tree_at (grown [] ts) m.ty.0)) added.terms in
              let others = all rest in
              cc

      by : (number : ℕ) (parts : List Part) (o : Option (List MemberTerm)) → members_in new.types number ≡ o → parts_in new.types o ≡ Some parts → (parts_at old number ≡ Some parts) ⊎ PartsFrom tag members number parts
      by number parts None e h = cc
      by number parts (Some ms) e h = elim (added.added number ms e) [
        | inl before ↦ inl (ap (parts_in old.types) before ∙ (sym (kept number ms) ∙ h))
        | inr f ↦ inr (record {
          own = f.own;
          is = f.is;
          list = map (part_of from) f.list;
          list_is = are f.own ∙ ap (parts_in from) f.list_is;
          carried = sym (some_one h) ∙ f.carried;
        })
      ]
        where
          some_one : {X : Type 0} → {x y : X} → ◌≡◌ {A = Option X} (Some x) (Some y) → x ≡ y
          some_one g = cc

  pub table_lacks : Lacks tag from old.types → LacksPart tag members old
  table_lacks h = record {
    own = h.own;
    number = h.number;
    is = h.is;
    was_open = ap (parts_in old.types) h.was_open;
    list = map (part_of from) h.list;
    list_is = are h.own ∙ ap (parts_in from) h.list_is;
    lacks = h.lacks;
  }

-- the types of tags in a table with more types
pub tags_grown : (old new : Table) (tags : List (Option ℕ)) → AreTagIds tags old → ((id : ℕ) → id < length old.terms → type_of new id ≡ type_of old id) → tag_type new tags ≡ tag_type old tags
tags_grown old new tags there kept = fun_ext (λ k. by (get_or tags k None) (there k))
  where
    by : (o : Option ℕ) → IsIdIn old o → option_map (λ (id : ℕ). type_of new id) o ≡ option_map (λ (id : ℕ). type_of old id) o
    by None h = refl
    by (Some id) h = ap Some (kept id h)

pub ids_grown : (old new : Table) (tags : List (Option ℕ)) → length old.terms ≤ length new.terms → AreTagIds tags old → AreTagIds tags new
ids_grown old new tags more there k = by (get_or tags k None) (there k)
  where
    by : (o : Option ℕ) → IsIdIn old o → IsIdIn new o
    by None h = tt
    by (Some id) h = omega (arith, h, more)

-- a tree stands behind the nodes and the entities of a unit, whatever its types
pub tree_on : (entity : ℕ → Option ℕ) (tag : ℕ → Option Ctype) (core : Core) (a b new : Unit) (i : ℕ) (list : List (ℕ × ℕ)) → a.nodes.items ≡ b.nodes.items → a.entities.items ≡ b.entities.items
    → IsTree entity tag core a new i list → IsTree entity tag core b new i list
tree_on entity tag core a b new i list nodes entities t = record {
  given = t.given;
  carried = t.carried ∙ ap (λ (n : ℕ). carried_core entity (literal_number n list) tag core) (ap length entities);
  literals = subst (λ (n : ℕ). AreLiterals core n (length b.entities.items) new list) (ap length nodes) (subst (λ (n : ℕ). AreLiterals core (length a.nodes.items) n new list) (ap length entities) t.literals);
}

-- the answer, by what the steps answer
pub whole_answer : (entity : ℕ → Option ℕ) (tag : ℕ → Option Ctype) (members : ℕ → Option (List Part)) (core : Core) (old full new : Unit) (r : Result (Option WholeTree) CheckFault) → AreFilled tag members old new
    → full.nodes.items ≡ old.nodes.items → full.entities.items ≡ old.entities.items
    → IfOk r (λ found. MatchOption found (is_given_core entity (has_literal core) tag core ≡ false) (λ w. IsTree entity tag core full new w.node w.literals.items))
    → IfOk r (λ found. MatchOption found (IsMissing entity tag members core old) (λ w. IsWhole entity tag members core old new w.node w.literals.items))
whole_answer entity tag members core old full new (Ok None) filled nodes entities tree = inl tree
whole_answer entity tag members core old full new (Ok (Some w)) filled nodes entities tree = record { tree = tree_on entity tag core full old new w.node w.literals.items nodes entities tree; filled = filled }
whole_answer entity tag members core old full new (Err e) filled nodes entities tree = tree
