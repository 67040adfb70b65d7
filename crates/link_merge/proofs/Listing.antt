-- Lists that are added to a table.
use Rattle.std.proofs.Common.{arith, ◌≡◌, ℕ, ◌+◌, ◌⊎◌, inl, inr, List, [], ◌∷◌, ◌++◌, length, map, get_or, refl, ap, sym, ◌∙◌, subst, Option, Some, None, IsSome, is_some, cond}
use Rattle.std.specs.List.{slice_get}
use Rattle.std.proofs.lemmas.Bool.{cases_lt}
use Rattle.std.proofs.lemmas.Bool.Decides.{eqb_tells}
use Rattle.std.proofs.lemmas.Option.{slice_get_within}
use Rattle.c_types.specs.declared.term.Term.{Term}
use Rattle.c_types.specs.declared.term.MemberTerm.{MemberTerm}
use Rattle.c_types.specs.Trees.{tree_at, grown}
use Rattle.c_types.specs.Table.{Table, TagMembers, members_in, members_among}
use Rattle.core_tree.specs.declared.node.Unit.{Unit}
use Rattle.link_model.specs.link_types.Moved.{HasTypes}
use Rattle.link_merge.specs.Complete.{moved_member, IsCompleted, AreDone, AreListed}
use Rattle.link_merge.specs.Classes.{AreShown}
use Rattle.link_merge.proofs.Completing.{among_first}

some_one : {X : Type 0} → {x y : X} → ◌≡◌ {A = Option X} (Some x) (Some y) → x ≡ y
some_one h = cc

none_some : {X : Type 0} → {x : X} → ◌≡◌ {A = Option X} None (Some x) → ⊥
none_some h = cc

some_of : {A : Type 0} (o : Option A) → IsSome o → (x : A) × (o ≡ Some x)
some_of None h = cc
some_of (Some x) h = (x, refl)

among_kept : (cs : List TagMembers) (c : TagMembers) (tag : ℕ) (list : List MemberTerm) → members_among cs tag ≡ Some list → members_among (cs ++ c ∷ []) tag ≡ Some list
among_kept [] c tag list h = absurd (none_some h)
among_kept (d ∷ cs) c tag list h = elim (eqb_tells d.tag tag) [
  | inl same ↦ ap (λ b. cond b (Some d.members) (members_among (cs ++ c ∷ []) tag)) same.0 ∙ (sym (ap (λ b. cond b (Some d.members) (members_among cs tag)) same.0) ∙ h)
  | inr other ↦ ap (λ b. cond b (Some d.members) (members_among (cs ++ c ∷ []) tag)) other.0 ∙ among_kept cs c tag list (sym (ap (λ b. cond b (Some d.members) (members_among cs tag)) other.0) ∙ h)
]

among_here : (cs : List TagMembers) (c : TagMembers) → members_among cs c.tag ≡ None → members_among (cs ++ c ∷ []) c.tag ≡ Some c.members
among_here [] c h = elim (eqb_tells c.tag c.tag) [
  | inl same ↦ ap (λ b. cond b (Some c.members) None) same.0
  | inr other ↦ absurd (other.1 refl)
]
among_here (d ∷ cs) c h = elim (eqb_tells d.tag c.tag) [
  | inl same ↦ absurd (none_some (sym h ∙ ap (λ b. cond b (Some d.members) (members_among cs c.tag)) same.0))
  | inr other ↦ ap (λ b. cond b (Some d.members) (members_among (cs ++ c ∷ []) c.tag)) other.0 ∙ among_here cs c (sym (ap (λ b. cond b (Some d.members) (members_among cs c.tag)) other.0) ∙ h)
]

among_which : (cs : List TagMembers) (c : TagMembers) (tag : ℕ) (list : List MemberTerm) → members_among (cs ++ c ∷ []) tag ≡ Some list → (members_among cs tag ≡ Some list) ⊎ ((c.tag ≡ tag) × (c.members ≡ list))
among_which [] c tag list h = elim (eqb_tells c.tag tag) [
  | inl same ↦ inr (same.1, some_one (sym (ap (λ b. cond b (Some c.members) None) same.0) ∙ h))
  | inr other ↦ absurd (none_some (sym (ap (λ b. cond b (Some c.members) None) other.0) ∙ h))
]
among_which (d ∷ cs) c tag list h = elim (eqb_tells d.tag tag) [
  | inl same ↦ inl (ap (λ b. cond b (Some d.members) (members_among cs tag)) same.0 ∙ (sym (ap (λ b. cond b (Some d.members) (members_among (cs ++ c ∷ []) tag)) same.0) ∙ h))
  | inr other ↦ elim (among_which cs c tag list (sym (ap (λ b. cond b (Some d.members) (members_among (cs ++ c ∷ []) tag)) other.0) ∙ h)) [
    | inl old ↦ inl (ap (λ b. cond b (Some d.members) (members_among cs tag)) other.0 ∙ old)
    | inr new ↦ inr new
  ]
]

pub completed_self : (table unit : Table) (start : ℕ) (f : ℕ → ℕ) → IsCompleted table table unit start f
completed_self table unit start f = record { terms = refl; tags = refl; kept = λ tag members h. h; added = λ tag members h. inl h }

pub completed_on : (old mid now unit : Table) (start : ℕ) (f : ℕ → ℕ) → IsCompleted old mid unit start f → IsCompleted mid now unit start f → IsCompleted old now unit start f
completed_on old mid now unit start f g h = record {
  terms = h.terms ∙ g.terms;
  tags = h.tags ∙ g.tags;
  kept = λ tag members at. h.kept tag members (g.kept tag members at);
  added = λ tag members at. elim (h.added tag members at) [ inl before ↦ g.added tag members before | inr own ↦ inr own ];
}

-- one list more
pub completed_one : (old now unit : Table) (start : ℕ) (f : ℕ → ℕ) (own : ℕ) (list members : List MemberTerm) → now ≡ record old { completed = old.completed ++ record { tag = f own; members = members } ∷ [] }
    → members_in unit own ≡ Some list → members ≡ map (moved_member start) list → IsCompleted old now unit start f
completed_one old now unit start f own list members is there moved = record {
  terms = ap (λ (t : Table). t.terms) is;
  tags = ap (λ (t : Table). t.tags) is;
  kept = λ tag found at. ap (λ (t : Table). members_in t tag) is ∙ among_kept old.completed (record { tag = f own; members = members }) tag found at;
  added = λ tag found at. elim (among_which old.completed (record { tag = f own; members = members }) tag found (sym (ap (λ (t : Table). members_in t tag) is) ∙ at)) [
    | inl before ↦ inl before
    | inr new ↦ inr (record { own = own; number = new.0; list = list; list_is = there; members_are = sym new.1 ∙ moved })
  ];
}

pub completed_here : (old now : Table) (tag : ℕ) (members : List MemberTerm) → now ≡ record old { completed = old.completed ++ record { tag = tag; members = members } ∷ [] } → members_in old tag ≡ None → IsSome (members_in now tag)
completed_here old now tag members is none = ap is_some (ap (λ (t : Table). members_in t tag) is ∙ among_here old.completed (record { tag = tag; members = members }) none)

pub done_none : (table unit : Table) (f : ℕ → ℕ) → AreDone table unit f 0
done_none table unit f = record { each = λ j c lt at. absurd (omega arith) }

pub done_kept : (old now unit : Table) (start : ℕ) (f : ℕ → ℕ) (upto : ℕ) → IsCompleted old now unit start f → AreDone old unit f upto → AreDone now unit f upto
done_kept old now unit start f upto g h = record {
  each = λ j c lt at. (let (members, is) = some_of (members_in old (f c.tag)) (h.each j c lt at) in ap is_some (g.kept (f c.tag) members is));
}

pub done_more : (table unit : Table) (f : ℕ → ℕ) (upto : ℕ) (c : TagMembers) → slice_get unit.completed upto ≡ Some c → IsSome (members_in table (f c.tag)) → AreDone table unit f upto → AreDone table unit f (upto + 1)
done_more table unit f upto c at here h = record {
  each = λ j d lt there. elim (cases_lt j upto) [
    | inl less ↦ h.each j d less there
    | inr ge ↦
        let same : j ≡ upto = omega arith in
        let one : d ≡ c = some_one (sym there ∙ (ap (slice_get unit.completed) same ∙ at)) in
        subst (λ (x : TagMembers). IsSome (members_in table (f x.tag))) (sym one) here
  ];
}

-- all that a unit completed
pub done_all : (table unit : Table) (f : ℕ → ℕ) → AreDone table unit f (length unit.completed) → (own : ℕ) → IsSome (members_in unit own) → IsSome (members_in table (f own))
done_all table unit f h own some =
    let (list, is) = some_of (members_in unit own) some in
    let a = among_first unit.completed own list is in
    h.each a.at (record { tag = own; members = list }) (slice_get_within unit.completed a.at (record { tag = own; members = list }) a.there) a.there

pub types_kept : (old now unit : Table) (start : ℕ) (f : ℕ → ℕ) (n : ℕ) → now.terms ≡ old.terms → HasTypes old unit start f n → HasTypes now unit start f n
types_kept old now unit start f n e h = record { each = λ i lt. ap (λ (ts : List Term). tree_at (grown [] ts) (start + i)) e ∙ h.each i lt }

-- all units
pub listed_none : (units : List Unit) (type_starts : List ℕ) (tag : ℕ → ℕ → ℕ) (table : Table) → table.completed ≡ [] → AreListed units type_starts tag table 0
listed_none units type_starts tag table e = record {
  added = λ k members at. absurd (none_some (sym (ap (λ (cs : List TagMembers). members_among cs k) e) ∙ at));
  done = λ u x own lt at some. absurd (omega arith);
}

pub listed_more : (units : List Unit) (type_starts : List ℕ) (tag : ℕ → ℕ → ℕ) (old now : Table) (u : ℕ) (x : Unit) → slice_get units u ≡ Some x → AreListed units type_starts tag old u → IsCompleted old now x.types (get_or type_starts u 0) (tag u)
    → ((own : ℕ) → IsSome (members_in x.types own) → IsSome (members_in now (tag u own))) → AreListed units type_starts tag now (u + 1)
listed_more units type_starts tag old now u x at h completed here = record {
  added = λ k members there. elim (completed.added k members there) [
    | inl before ↦ h.added k members before
    | inr own ↦ record { number = u; unit = x; unit_is = at; from = own }
  ];
  done = λ v y own lt there some. elim (cases_lt v u) [
    | inl less ↦ (let (members, is) = some_of (members_in old (tag v own)) (h.done v y own less there some) in ap is_some (completed.kept (tag v own) members is))
    | inr ge ↦
        let same : v ≡ u = omega arith in
        let one : y ≡ x = some_one (sym there ∙ (ap (slice_get units) same ∙ at)) in
        subst (λ w. IsSome (members_in now (tag w own))) (sym same) (here own (subst (λ (z : Unit). IsSome (members_in z.types own)) one some))
  ];
}

pub shown_kept : (units : List Unit) (type_starts : List ℕ) (tag : ℕ → ℕ → ℕ) (old now : Table) → now.terms ≡ old.terms → AreShown units type_starts tag old → AreShown units type_starts tag now
shown_kept units type_starts tag old now e h = record {
  enough = h.enough;
  within = λ u x at. (let long : length now.terms ≡ length old.terms = ap (length {A = Term}) e in let w = h.within u x at in omega arith);
  each = λ u x i at lt. ap (λ (ts : List Term). tree_at (grown [] ts) (get_or type_starts u 0 + i)) e ∙ h.each u x i at lt;
}
