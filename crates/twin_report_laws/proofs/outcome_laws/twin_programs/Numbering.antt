-- The tags of merged tables, and their members, by the tags' numbers in the other table.
use Rattle.std.proofs.Common.{◌≡◌, ◌∙◌, ◌<◌, ℕ, List, [], ◌∷◌, Option, Some, None, refl, sym, ap, subst}
use Rattle.std.specs.List.{slice_get}
use Rattle.c_types.specs.declared.term.MemberTerm.{MemberTerm}
use Rattle.c_types.specs.Trees.{Ctype}
use Rattle.c_types.specs.Table.{Table, type_of, members_in}
use Rattle.c_types.specs.Made.{AreNamed}
use Rattle.c_inits.specs.Made.{Part}
use Rattle.c_inits.specs.Tables.{part_of}
use Rattle.core_tree.specs.declared.node.Unit.{Unit}
use Rattle.link_model.specs.declared.item.Item.{Item}
use Rattle.link_model.specs.Units.{item, types_if, types_in, IsTag}
use Rattle.link_model.specs.Apart.{CountsAs}
use Rattle.link_model.specs.Matching.{member_type}
use Rattle.link_model.specs.Renamed.{renamed}
use Rattle.link_model.specs.Partition.{HasTags}
use Rattle.link_model.specs.Merged.{Numbering, moved, tag_of, AreMoved, IsMerged}
use Rattle.link_merge.proofs.Own.{type_tags}
use Rattle.twin_report_laws.specs.outcome_laws.fault_laws.Twins.{AreAllTwins}
use Rattle.twin_report_laws.specs.outcome_laws.twin_programs.One.{SameMembers}
use Rattle.twin_report_laws.proofs.outcome_laws.twin_programs.Lists.{some_one, none_some}
use Rattle.twin_report_laws.proofs.outcome_laws.twin_programs.Stable.{members}
use Rattle.twin_report_laws.proofs.outcome_laws.fault_laws.Images.{renamed_twice}
use Rattle.twin_report_laws.proofs.outcome_laws.fault_laws.Tags.{Carries, CountsThere, turned_tags, counts_there, parts}
use Rattle.twin_report_laws.proofs.outcome_laws.fault_laws.Twinned.{AreAt, at_unit, carries}
use Rattle.twin_report_laws.proofs.outcome_laws.fault_laws.Merging.{there, tag_there, there_tag}

module _ (us vs : List Unit) (n m : Numbering) (table other : Table) (all : AreAllTwins us vs) (one : IsMerged us n table) (two : IsMerged vs m other) where
  abbrev to : ℕ → ℕ
  to = there us vs n m table other all one two

  pub tag_round : (other_all : AreAllTwins vs us) (tag : ℕ) → tag < table.tags → (to tag < other.tags) × (there vs us m n other table other_all two one (to tag) ≡ tag)
  tag_round other_all tag lt =
      let (a, is, number) = one.only tag lt in
      let is_there : IsTag vs a = tag_there us vs n m table other all one two a is in
      let there_is : to tag ≡ tag_of m a = ap to (sym number) ∙ there_tag us vs n m table other all one two a is in
      (subst (λ (k : ℕ). k < other.tags) (sym there_is) (two.within a is_there), ap (there vs us m n other table other_all two one) there_is ∙ (there_tag vs us m n other table other_all two one a is_there ∙ number))

  -- a type of a unit in the other table
  pub type_carried : (k : ℕ) (u : Unit) (t : Ctype) → slice_get us k ≡ Some u → HasTags u.types.tags t → moved m k t ≡ renamed to (moved n k t)
  type_carried k u t at has =
      sym (renamed_twice to (n.tag k) (m.tag k) u.types.tags
      (λ tag less. there_tag us vs n m table other all one two (item k tag) (subst (λ (o : Option Unit). tag < (types_if o).tags) (sym at) less)) t has)

  -- lists of one tag in both tables
  same_lists : (w : ℕ) (u : Unit) → slice_get us w ≡ Some u → AreNamed u.types → (xs ys ms ks : List MemberTerm) → parts us w xs ≡ parts vs w ys → AreMoved us n table w xs ms → AreMoved vs m other w ys ks
      → SameMembers table other to ms ks
  same_lists w u at named [] [] [] [] e h k = tt
  same_lists w u at named [] [] [] (b ∷ ks) e h k = absurd k
  same_lists w u at named [] [] (a ∷ ms) ks e h k = absurd h
  same_lists w u at named [] (y ∷ ys) ms ks e h k = absurd (cc)
  same_lists w u at named (x ∷ xs) [] ms ks e h k = absurd (cc)
  same_lists w u at named (x ∷ xs) (y ∷ ys) [] ks e h k = absurd h
  same_lists w u at named (x ∷ xs) (y ∷ ys) (a ∷ ms) [] e h k = absurd k
  same_lists w u at named (x ∷ xs) (y ∷ ys) (a ∷ ms) (b ∷ ks) e h k =
      let part : part_of (types_in us w) x ≡ part_of (types_in vs w) y = first e in
      let type : member_type us w x ≡ member_type vs w y = ap (λ (p : Part). p.type) part in
      let own : types_in us w ≡ u.types = ap types_if at in
      let tags : HasTags u.types.tags (member_type us w x) = subst (λ (t : Table). HasTags u.types.tags (type_of t x.ty.0)) (sym own) (type_tags u.types x.ty.0 named) in (
        k.0 ∙ (ap (λ (p : Part). p.name) (sym part) ∙ sym h.0),
        k.1 ∙ (ap (λ (p : Part). p.bits) (sym part) ∙ sym h.1),
        k.2 ∙ (ap (moved m w) (sym type) ∙ (type_carried w u (member_type us w x) at tags ∙ ap (renamed to) (sym h.2))),
        same_lists w u at named xs ys ms ks (rest e) h.3 k.3,
      )
    where
      first : {p q : Part} {ps qs : List Part} → ◌≡◌ {A = List Part} (p ∷ ps) (q ∷ qs) → p ≡ q
      first e = cc

      rest : {p q : Part} {ps qs : List Part} → ◌≡◌ {A = List Part} (p ∷ ps) (q ∷ qs) → ps ≡ qs
      rest e = cc

  abbrev HasMembers : ℕ → List MemberTerm → Type 0
  HasMembers tag ms = (ks : List MemberTerm) × (members_in other (to tag) ≡ Some ks) × SameMembers table other to ms ks

  -- a list that counts
  counted : (a b : Item) (list ms : List MemberTerm) → IsTag us a → members_in table (tag_of n a) ≡ Some ms → CountsAs us a b list → HasMembers (tag_of n a) ms
  counted a b list ms is here counts =
      let c : Carries us vs = carries us vs all in
      let l = one.lists a b list is counts in
      let found : CountsThere us vs a b list = counts_there us vs c (turned_tags us vs c) a b list is counts in
      let r = two.lists a b found.list (tag_there us vs n m table other all one two a is) found.counts in
      let same : l.members ≡ ms = some_one (sym l.members_are ∙ here) in
      let number : to (tag_of n a) ≡ tag_of m a = there_tag us vs n m table other all one two a is in
      let (u, at) = unit_at (slice_get us b.unit) refl counts.list_is in
      let both : AreAt us vs b.unit = at_unit us vs all b.unit u at in
      let unit : both.unit ≡ u = some_one (sym both.first ∙ at) in
      let named : AreNamed u.types = subst (λ (w : Unit). AreNamed w.types) unit both.twins.named in
      (r.members, ap (members_in other) number ∙ r.members_are, subst (λ (xs : List MemberTerm). SameMembers table other to xs r.members) same (same_lists b.unit u at named list found.list l.members r.members found.same l.moved r.moved))
    where
      unit_at : (o : Option Unit) → slice_get us b.unit ≡ o → members_in (types_if o) b.number ≡ Some list → (u : Unit) × (o ≡ Some u)
      unit_at None e f = absurd (none_some f)
      unit_at (Some u) e f = (u, refl)

  pub members_there : (tag : ℕ) (ms : List MemberTerm) → tag < table.tags → members_in table tag ≡ Some ms → (ks : List MemberTerm) × (members_in other (to tag) ≡ Some ks) × SameMembers table other to ms ks
  members_there tag ms lt at = by (members_in other (to tag)) refl
    where
      found : (a : Item) × IsTag us a × (tag_of n a ≡ tag)
      found = one.only tag lt

      here : members_in table (tag_of n found.0) ≡ Some ms
      here = ap (members_in table) found.2 ∙ at

      from : (b : Item) (list : List MemberTerm) → CountsAs us found.0 b list → HasMembers tag ms
      from b list counts = subst (λ (t : ℕ). HasMembers t ms) found.2 (counted found.0 b list ms found.1 here counts)

      by : (o : Option (List MemberTerm)) → members_in other (to tag) ≡ o → (ks : List MemberTerm) × (members_in other (to tag) ≡ Some ks) × SameMembers table other to ms ks
      by None e = absurd (none_some (sym (one.without found.0 found.1 (λ b list counts. let r = from b list counts in none_some (sym e ∙ r.1))) ∙ here))
      by (Some ks) e = (
        ks,
        e,
        members table other to ms ks
            (λ no. none_some (sym (one.without found.0 found.1 (λ b list counts. let r = from b list counts in no (subst (λ (xs : List MemberTerm). SameMembers table other to ms xs) (some_one (sym r.1 ∙ e)) r.2))) ∙ here)),
      )
