-- Member lists of a linked program are those of its units.
use Rattle.std.proofs.Common.{arith, ◌≡◌, ◌∙◌, ℕ, zero, suc, ◌<◌, ◌^◌, ◌⊎◌, List, [], ◌∷◌, length, Option, Some, None, refl, sym, ap, subst, inl, inr}
use Rattle.std.specs.List.{slice_get, list_all}
use Rattle.std.proofs.lemmas.Bool.{cases_Bool, cases_eq, cases_lt, false≢true}
use Rattle.c_types.specs.declared.term.MemberTerm.{MemberTerm}
use Rattle.c_types.specs.Table.{Table, members_in}
use Rattle.c_types.specs.Made.{IsMade, AreNamed, StandsAsStructure, StandsAsUnion}
use Rattle.core_tree.specs.declared.node.Unit.{Unit}
use Rattle.core_tree.specs.declared.node.Program.{Program}
use Rattle.link_model.specs.declared.item.Item.{Item}
use Rattle.link_model.specs.Units.{types_if, list_at}
use Rattle.link_model.specs.Merged.{Numbering, AreMoved}
use Rattle.unit_link.specs.Linked.{LinkedAt}
use Rattle.linked_laws.specs.location_laws.name_shapes.Bytes.{is_letter}
use Rattle.linked_laws.specs.location_laws.name_laws.Named.{AreMembers}
use Rattle.linked_laws.specs.location_laws.named_laws.Units.{AreNamedUnits}

one_of : {A : Type 0} {a b : A} → Some a ≡ Some b → a ≡ b
one_of h = cc

none_some : {A : Type 0} {a : A} → ◌≡◌ {A = Option A} None (Some a) → ⊥
none_some h = cc

module _ (units : List Unit) (n : Numbering) (table : Table) (u : ℕ) where
  moved_long : (ms ks : List MemberTerm) → AreMoved units n table u ms ks → length ks ≡ length ms
  moved_long [] [] h = refl
  moved_long [] (k ∷ ks) h = absurd h
  moved_long (m ∷ ms) [] h = absurd h
  moved_long (m ∷ ms) (k ∷ ks) h = ap suc (moved_long ms ks h.3)

  moved_at : (ms ks : List MemberTerm) (i : ℕ) (k : MemberTerm) → AreMoved units n table u ms ks → slice_get ks i ≡ Some k → (m : MemberTerm) × (slice_get ms i ≡ Some m) × (k.name ≡ m.name)
  moved_at [] [] i k h at = absurd (none_some at)
  moved_at [] (x ∷ ks) i k h at = absurd h
  moved_at (m ∷ ms) [] i k h at = absurd h
  moved_at (m ∷ ms) (x ∷ ks) zero k h at = (m, refl, (ap (λ (q : MemberTerm). q.name) (sym (one_of at)) ∙ h.0))
  moved_at (m ∷ ms) (x ∷ ks) (suc i) k h at = moved_at ms ks i k h.3 at

  moved_members : (ms ks : List MemberTerm) → AreMoved units n table u ms ks → AreMembers ms → AreMembers ks
  moved_members ms ks h a = record {
    few = (let long = moved_long ms ks h in let few = a.few in omega arith);
    letters = λ i k name at named. (let (m, m_is, same) = moved_at ms ks i k h at in a.letters i m name m_is (sym same ∙ named));
    once = λ i j k l name at there first second.
        (let (m, m_is, same) = moved_at ms ks i k h at in
        let (q, q_is, equal) = moved_at ms ks j l h there in
        a.once i j m q name m_is q_is (sym same ∙ first) (sym equal ∙ second));
  }

-- what isn't false of members' names is true
stable : (members : List MemberTerm) → ((AreMembers members → ⊥) → ⊥) → AreMembers members
stable members h = record {
  few = elim (cases_lt (length members) (2 ^ 32)) [
    | inl less ↦ less
    | inr more ↦ absurd (h (λ a. (let few = a.few in omega arith)))
  ];
  letters = λ k m name at named. elim (cases_Bool (list_all is_letter name)) [
    | inl its ↦ its
    | inr isnt ↦ absurd (h (λ a. false≢true (sym isnt ∙ a.letters k m name at named)))
  ];
  once = λ i j m q name at there first second. elim (cases_eq i j) [
    | inl same ↦ same
    | inr ne ↦ absurd (h (λ a. ne (a.once i j m q name at there first second)))
  ];
}

module _ {entered : List (List ℕ)} (units : List Unit) (p : Program) (each : AreNamedUnits units) (h : LinkedAt entered units p) (made : IsMade p.types) (named : AreNamed p.types) where
  tag_below : (tag : ℕ) (members : List MemberTerm) → members_in p.types tag ≡ Some members → tag < p.types.tags
  tag_below tag members is = by (made.stands tag members is)
    where
      by : StandsAsStructure p.types.terms tag ⊎ StandsAsUnion p.types.terms tag → tag < p.types.tags
      by (inl s) = (named s.0 _ s.1).1
      by (inr s) = (named s.0 _ s.1).1

  -- a list of one of the units
  own_members : (b : Item) (list : List MemberTerm) → list_at units b ≡ Some list → AreMembers list
  own_members b list is = by (slice_get units b.unit) refl is
    where
      by : (o : Option Unit) → slice_get units b.unit ≡ o → members_in (types_if o) b.number ≡ Some list → AreMembers list
      by (Some x) at e = (each b.unit x at).members b.number list e
      by None at e = absurd (none_some e)

  pub members_right : (tag : ℕ) (members : List MemberTerm) → members_in p.types tag ≡ Some members → AreMembers members
  members_right tag members is =
      let (a, a_is, number) = h.types.only tag (tag_below tag members is) in
      stable members (λ no.
      none_some (sym (h.types.without a a_is (λ b list counts.
      (let l = h.types.lists a b list a_is counts in
      let same : l.members ≡ members = one_of (sym l.members_are ∙ (ap (members_in p.types) number ∙ is)) in
      no (subst AreMembers same (moved_members units h.numbers p.types b.unit list l.members l.moved (own_members b list counts.list_is))))))
      ∙ (ap (members_in p.types) number ∙ is)))
