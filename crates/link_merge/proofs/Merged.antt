-- The table of all units' types with the lists that count.
use Rattle.std.proofs.Common.{arith, ◌≡◌, ℕ, ◌+◌, ◌<◌, inl, inr, List, [], ◌∷◌, length, map, get_or, refl, ap, sym, ◌∙◌, subst, Option, Some, None, IsSome, is_some}
use Rattle.std.specs.List.{slice_get, slice_index_or}
use Rattle.std.proofs.lemmas.Option.{slice_get_within, slice_get_cases}
use Rattle.c_types.specs.declared.term.Term.{Term}
use Rattle.c_types.specs.declared.term.MemberTerm.{MemberTerm}
use Rattle.c_types.specs.Trees.{tree_at, grown}
use Rattle.c_types.specs.Table.{Table, type_of, members_in}
use Rattle.core_tree.specs.declared.node.Unit.{Unit}
use Rattle.link_model.specs.declared.item.Item.{Item}
use Rattle.link_model.specs.Units.{item, IsTag, IsType, types_if, list_at}
use Rattle.link_model.specs.Matching.{member_type}
use Rattle.link_model.specs.Apart.{CountsAs, MayBeOne}
use Rattle.link_model.specs.Renamed.{renamed}
use Rattle.link_model.specs.Partition.{number, Listed, listed}
use Rattle.link_model.specs.Merged.{tag_of, AreMoved, HasType, HasList, IsMerged}
use Rattle.link_model.proofs.Partition.{one_by_number}
use Rattle.link_model.specs.link_types.Joined.{AreStarts, tag_in}
use Rattle.link_model.specs.link_types.Leaders.{leaders_below}
use Rattle.unit_link.specs.link_program.Merging.{placed, AreMerged}
use Rattle.unit_link.proofs.link_program.Numbering.{led_by}
use Rattle.link_merge.specs.Tags.{AreMade, AreTags, place_in}
use Rattle.link_merge.specs.Classes.{CountsFor, AreCountedAs, lead_in, IsSettled}
use Rattle.link_merge.specs.Complete.{moved_member, AreListed}
use Rattle.link_merge.proofs.Own.{TypesIn, own_list, knows_tags}
use Rattle.link_merge.proofs.Completing.{stands_within}
use Rattle.link_merge.proofs.Numbers.{number_is, number_of_leader, number_less, joins_numbers, separates_numbers}
use Rattle.link_merge.proofs.Places.{tag_of_unit}

some_one : {X : Type 0} → {x y : X} → ◌≡◌ {A = Option X} (Some x) (Some y) → x ≡ y
some_one h = cc

none_some : {X : Type 0} → {x : X} → ◌≡◌ {A = Option X} None (Some x) → ⊥
none_some h = cc

some_of : {A : Type 0} (o : Option A) → IsSome o → (x : A) × (o ≡ Some x)
some_of None h = cc
some_of (Some x) h = (x, refl)

heads : (x y : Listed) (xs ys : List Listed) → x ∷ xs ≡ y ∷ ys → (x ≡ y) × (xs ≡ ys)
heads x y xs ys e = (cc, cc)

module _
    (units : List Unit)
    (type_starts starts numbers : List ℕ)
    (tags : List Item)
    (counted : List (Option ℕ))
    (table now : Table)
    (made : AreMade units)
    (are : AreTags units starts tags)
    (counts : AreCountedAs units starts counted)
    (begin : AreStarts units starts (length numbers))
    (settled : IsSettled units type_starts starts numbers table)
    (many : length settled.leaders ≡ length tags)
    (terms : now.terms ≡ table.terms)
    (now_tags : now.tags ≡ table.tags)
    (lists : AreListed units type_starts (tag_in starts numbers) now (length units)) where
  abbrev tag : ℕ → ℕ → ℕ
  tag = tag_in starts numbers

  same_type : (id : ℕ) → type_of now id ≡ type_of table id
  same_type id = ap (λ (ts : List Term). tree_at (grown [] ts) id) terms

  -- a tag with a list is a tag
  listed_tag : (b : Item) (list : List MemberTerm) → list_at units b ≡ Some list → IsTag units b
  listed_tag b list e =
      let own = own_list units b list made e in
      tag_of_unit units b own.unit own.unit_is (stands_within own.unit.types (made.named b.unit own.unit own.unit_is) b.number ((made.made b.unit own.unit own.unit_is).stands b.number list own.members_are))

  has_type : (a : Item) → IsType units a → HasType units (placed type_starts tag) now a
  has_type a lt = here (slice_get units a.unit) refl lt
    where
      here : (o : Option Unit) → slice_get units a.unit ≡ o → a.number < length (types_if o).terms → HasType units (placed type_starts tag) now a
      here None e less = absurd (omega arith)
      here (Some x) e less =
          let w = settled.shown.within a.unit x e in
          let long : length now.terms ≡ length table.terms = ap (length {A = Term}) terms in
          record {
            within = omega arith;
            type_is = same_type (get_or type_starts a.unit 0 + a.number) ∙ (settled.shown.each a.unit x a.number e less ∙ ap (λ (o : Option Unit). renamed (tag a.unit) (type_of (types_if o) a.number)) (sym e));
          }

  -- one list that is the same as another, moved
  moved_list : (u v : ℕ) (y : Unit) (k l : List MemberTerm) → slice_get units v ≡ Some y → TypesIn (length y.types.terms) l → listed units tag u k ≡ listed units tag v l → AreMoved units (placed type_starts tag) now u k (map (moved_member (get_or type_starts v 0)) l)
  moved_list u v y [] [] vy tl h = tt
  moved_list u v y [] (n ∷ ns) vy tl h = cc
  moved_list u v y (m ∷ ms) [] vy tl h = cc
  moved_list u v y (m ∷ ms) (n ∷ ns) vy tl h =
      let head = heads _ _ _ _ h in
      let shown : type_of table (get_or type_starts v 0 + n.ty.0) ≡ renamed (tag v) (member_type units v n) = settled.shown.each v y n.ty.0 vy tl.0 ∙ ap (λ (o : Option Unit). renamed (tag v) (type_of (types_if o) n.ty.0)) (sym vy) in (
        ap (λ (z : Listed). z.name) (sym head.0),
        ap (λ (z : Listed). z.bits) (sym head.0),
        same_type (get_or type_starts v 0 + n.ty.0) ∙ (shown ∙ ap (λ (z : Listed). z.type) (sym head.0)),
        moved_list u v y ms ns vy tl.1 head.1,
      )

  -- the tag of a unit from which a list of the table is
  record IsSource (k : ℕ) (members : List MemberTerm) : Type 0 where
    source : Item
    tag_is : IsTag units source
    number_is : tag source.unit source.number ≡ k
    unit : Unit
    unit_is : slice_get units source.unit ≡ Some unit
    list : List MemberTerm
    list_is : list_at units source ≡ Some list
    types : TypesIn (length unit.types.terms) list
    members_are : members ≡ map (moved_member (get_or type_starts source.unit 0)) list

  source_of : (k : ℕ) (members : List MemberTerm) → members_in now k ≡ Some members → IsSource k members
  source_of k members e =
      let f = lists.added k members e in
      let at : list_at units (item f.number f.from.own) ≡ Some f.from.list = ap (λ (o : Option Unit). members_in (types_if o) f.from.own) f.unit_is ∙ f.from.list_is in
      let own = own_list units (item f.number f.from.own) f.from.list made at in
      record {
        source = item f.number f.from.own;
        tag_is = listed_tag (item f.number f.from.own) f.from.list at;
        number_is = f.from.number;
        unit = own.unit;
        unit_is = own.unit_is;
        list = f.from.list;
        list_is = at;
        types = own.types;
        members_are = f.from.members_are;
      }

  has_list : (a b : Item) (list : List MemberTerm) → IsTag units a → CountsAs units a b list → HasList units (placed type_starts tag) now (tag a.unit a.number) b.unit list
  has_list a b list ta x =
      let tb = listed_tag b list x.list_is in
      let own = own_list units b list made x.list_is in
      let (members, is) = some_of (members_in now (tag b.unit b.number)) (lists.done b.unit own.unit b.number (slice_get_within units b.unit own.unit own.unit_is) own.unit_is (ap is_some own.members_are)) in
      let s = source_of (tag b.unit b.number) members is in
      let same = settled.stable.same b s.source b s.source list s.list tb s.tag_is (sym s.number_is) (record { list_is = x.list_is; which = inl refl }) (record { list_is = s.list_is; which = inl refl }) in
      let one : number tag a ≡ number tag b = number_of_leader units starts settled.leaders numbers tags table.tags are many settled.numbered begin a b ta tb (settled.classes.together a b list ta tb x) in
      record {
        members = members;
        members_are = ap (members_in now) one ∙ is;
        moved = subst (λ (ms : List MemberTerm). AreMoved units (placed type_starts tag) now b.unit list ms) (sym s.members_are) (moved_list b.unit s.source.unit s.unit list s.list s.unit_is s.types same);
      }

  no_list : (a : Item) → IsTag units a → ((b : Item) (list : List MemberTerm) → CountsAs units a b list → ⊥) → members_in now (tag a.unit a.number) ≡ None
  no_list a ta none = here (members_in now (tag a.unit a.number)) refl
    where
      counts_none : (c : Item) (list : List MemberTerm) → list_at units c ≡ Some list → MayBeOne units a c → (o : Option ℕ) → CountsFor units starts a o → ⊥
      counts_none c list e one None without = none_some (sym (without c one) ∙ e)
      counts_none c list e one (Some h) found = none found.tag found.list found.counts

      here : (o : Option (List MemberTerm)) → members_in now (tag a.unit a.number) ≡ o → members_in now (tag a.unit a.number) ≡ None
      here None e = e
      here (Some members) e =
          let s = source_of (tag a.unit a.number) members e in
          let one = (joins_numbers units starts settled.leaders numbers tags table.tags are many settled.numbered begin settled.classes).one a s.source ta s.tag_is (sym s.number_is) in
          absurd (counts_none s.source s.list s.list_is one (slice_index_or counted (place_in starts a) None) (counts.each a ta))

  only_tags : (k : ℕ) → k < now.tags → (a : Item) × IsTag units a × (tag_of (placed type_starts tag) a ≡ k)
  only_tags k lt =
      let leaders = settled.leaders in
      let below : k < leaders_below leaders (length leaders) = (let c = settled.numbered.count_is in let t = now_tags in omega arith) in
      let led = led_by leaders (length leaders) k below in
      elim (slice_get_cases tags led.at).1 [
        | inl p ↦
            let (ta, place) = are.each led.at p.0 p.2 in
            let lead : number (lead_in starts leaders) p.0 ≡ led.at = ap (λ g. get_or leaders g 0) place ∙ led.leads in
            (p.0, ta, number_is units starts leaders numbers tags table.tags are many settled.numbered begin p.0 ta ∙ (ap (leaders_below leaders) lead ∙ led.number))
        | inr past ↦ (let far = past.0 in let w = led.within in absurd (omega arith))
      ]

  pub merged : IsMerged units (placed type_starts tag) now
  merged = record {
    types = has_type;
    one = λ a b ta tb.
        one_by_number units tag (knows_tags units made) (joins_numbers units starts settled.leaders numbers tags table.tags are many settled.numbered begin settled.classes)
        (separates_numbers units starts settled.leaders numbers tags table.tags are many settled.numbered begin settled.classes) settled.stable a b ta tb;
    within = λ a ta. (let less = number_less units starts settled.leaders numbers tags table.tags are many settled.numbered begin settled.classes.lead a ta in let t = now_tags in omega arith);
    only = only_tags;
    lists = has_list;
    without = no_list;
  }

  pub are_merged : AreMerged units type_starts now
  are_merged = record { tag = tag; merged = merged; enough = settled.shown.enough }
