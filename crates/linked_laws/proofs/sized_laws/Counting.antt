-- A tag and the one whose list counts for it are one tag in the table (C11 6.2.7).
use Rattle.std.proofs.Common.{arith, ◌≡◌, ◌∙◌, ◌⊎◌, ℕ, ◌<◌, List, [], ◌∷◌, Option, Some, None, is_some, slice_get, refl, sym, ap, subst, inl, inr}
use Rattle.std.specs.Option.{option_map}
use Rattle.c_types.specs.declared.term.MemberTerm.{MemberTerm}
use Rattle.c_types.specs.Trees.{Ctype, Ctypes, NoTypes, MoreTypes, VoidType, BoolType, IntegerType, FloatingType, VaListType, PointerTo, ArrayOf, FunctionFrom, StructureOf, UnionOf}
use Rattle.c_types.specs.Table.{Table, members_in}
use Rattle.core_tree.specs.declared.node.Unit.{Unit}
use Rattle.link_model.specs.declared.item.Item.{Item}
use Rattle.link_model.specs.Units.{types_if, IsTag, list_at, keys_if, key_if, key_at, is_union, Label, label_at, SameKey}
use Rattle.link_model.specs.Matching.{Matches, AllMatch, Mentions, SomeMention, member_type, ListsMatch, ListsMention}
use Rattle.link_model.specs.Apart.{IsFirstOfKey, CountsAs, MayBeOne, Apart, differ, mention}
use Rattle.link_model.specs.Merged.{Numbering, tag_of, IsMerged}
use Rattle.linked_laws.specs.merged_laws.Merged.{AreTables}
use Rattle.linked_laws.proofs.merged_laws.Members.{stands_within}
use Rattle.linked_laws.specs.sized_laws.Sizes.{AreKeyed}

pub some_one : {X : Type 0} → {x y : X} → ◌≡◌ {A = Option X} (Some x) (Some y) → x ≡ y
some_one h = cc

pub none_some : {X : Type 0} → {x : X} → ◌≡◌ {A = Option X} None (Some x) → ⊥
none_some h = cc

same_item : (a b : Item) → a.unit ≡ b.unit → a.number ≡ b.number → a ≡ b
same_item a b units numbers = λ i. record { unit = units i; number = numbers i }

module _ (units : List Unit) where
  -- a type matches itself, and mentions nothing but itself there
  mutual
    matches_self : (u : ℕ) (t : Ctype) → Matches (MayBeOne units) u u t t
    matches_self u VoidType = refl
    matches_self u BoolType = refl
    matches_self u (IntegerType size rank signed) = refl
    matches_self u FloatingType = refl
    matches_self u VaListType = refl
    matches_self u (PointerTo to) = matches_self u to
    matches_self u (ArrayOf of length) = (matches_self u of, refl)
    matches_self u (FunctionFrom result parameters form) = (matches_self u result, all_match_self u parameters, refl)
    matches_self u (StructureOf tag) = inl refl
    matches_self u (UnionOf tag) = inl refl

    all_match_self : (u : ℕ) (ts : Ctypes) → AllMatch (MayBeOne units) u u ts ts
    all_match_self u NoTypes = tt
    all_match_self u (MoreTypes t ts) = (matches_self u t, all_match_self u ts)

  lists_self : (u : ℕ) (ms : List MemberTerm) → ListsMatch units (MayBeOne units) u u ms ms
  lists_self u [] = tt
  lists_self u (m ∷ ms) = (refl, refl, matches_self u (member_type units u m), lists_self u ms)

  mutual
    mentions_self : (u : ℕ) (c d : Item) (t : Ctype) → Mentions u u c d t t → c ≡ d
    mentions_self u c d (StructureOf tag) h = h.0 ∙ sym h.1
    mentions_self u c d (UnionOf tag) h = h.0 ∙ sym h.1
    mentions_self u c d (PointerTo to) h = mentions_self u c d to h
    mentions_self u c d (ArrayOf of length) h = mentions_self u c d of h
    mentions_self u c d (FunctionFrom result parameters form) (inl h) = mentions_self u c d result h
    mentions_self u c d (FunctionFrom result parameters form) (inr h) = some_mention_self u c d parameters h
    mentions_self u c d VoidType h = absurd h
    mentions_self u c d BoolType h = absurd h
    mentions_self u c d (IntegerType size rank signed) h = absurd h
    mentions_self u c d FloatingType h = absurd h
    mentions_self u c d VaListType h = absurd h

    some_mention_self : (u : ℕ) (c d : Item) (ts : Ctypes) → SomeMention u u c d ts ts → c ≡ d
    some_mention_self u c d NoTypes h = absurd h
    some_mention_self u c d (MoreTypes t ts) (inl h) = mentions_self u c d t h
    some_mention_self u c d (MoreTypes t ts) (inr h) = some_mention_self u c d ts h

  lists_mention_self : (u : ℕ) (c d : Item) (ms : List MemberTerm) → ListsMention units u u c d ms ms → c ≡ d
  lists_mention_self u c d [] h = absurd h
  lists_mention_self u c d (m ∷ ms) (inl h) = mentions_self u c d (member_type units u m) h
  lists_mention_self u c d (m ∷ ms) (inr h) = lists_mention_self u c d ms h

  -- ---- keys
  key_of_label : (a : Item) (o : Option (List ℕ)) (label : Label) → option_map (λ (key : List ℕ). record { union = is_union units a; key = key }) o ≡ Some label → o ≡ Some label.key
  key_of_label a None label e = absurd (none_some e)
  key_of_label a (Some key) label e = ap (λ (l : Label). Some l.key) (some_one e)

  key_is : (a : Item) (label : Label) → label_at units a ≡ Some label → key_at units a ≡ Some label.key
  key_is a label e = key_of_label a (key_at units a) label e

  key_stands : (o : Option (Option (List ℕ))) (key : List ℕ) → key_if o ≡ Some key → o ≡ Some (Some key)
  key_stands None key e = absurd (none_some e)
  key_stands (Some k) key e = ap (λ (z : Option (List ℕ)). Some z) e

  module _ (keyed : AreKeyed units) where
    same_number : (a b : Item) (key : List ℕ) → a.unit ≡ b.unit → key_at units a ≡ Some key → key_at units b ≡ Some key → a.number ≡ b.number
    same_number a b key one ka kb = by (slice_get units a.unit) refl (key_stands (slice_get (keys_if (slice_get units a.unit)) a.number) key ka)
        (key_stands (slice_get (keys_if (slice_get units a.unit)) b.number) key (ap (λ (u : ℕ). key_if (slice_get (keys_if (slice_get units u)) b.number)) one ∙ kb))
      where
        by : (o : Option Unit) → slice_get units a.unit ≡ o → slice_get (keys_if o) a.number ≡ Some (Some key) → slice_get (keys_if o) b.number ≡ Some (Some key) → a.number ≡ b.number
        by None is sa sb = absurd (none_some sa)
        by (Some x) is sa sb = ((keyed.each a.unit x is).once a.number (Some key) sa).each b.number (Some key) sb refl

    same_label : (a b : Item) (label : Label) → a.unit ≡ b.unit → label_at units a ≡ Some label → label_at units b ≡ Some label → a ≡ b
    same_label a b label one la lb = same_item a b one (same_number a b label.key one (key_is a label la) (key_is b label lb))

    pub same_key : (a b : Item) → a.unit ≡ b.unit → SameKey units a b → a ≡ b
    same_key a b one key = same_label a b key.0 one key.1 key.2

    -- one list counts for a tag
    counts_once : (a p q : Item) (k l : List MemberTerm) → CountsAs units a p k → CountsAs units a q l → p ≡ q
    counts_once a p q k l cp cq = by cp.which cq.which
      where
        by : (a ≡ p) ⊎ IsFirstOfKey units a p → (a ≡ q) ⊎ IsFirstOfKey units a q → p ≡ q
        by (inl x) (inl y) = sym x ∙ y
        by (inl x) (inr y) = absurd (none_some (sym y.without ∙ (ap (list_at units) x ∙ cp.list_is)))
        by (inr x) (inl y) = absurd (none_some (sym x.without ∙ (ap (list_at units) y ∙ cq.list_is)))
        by (inr x) (inr y) =
            let (one, a_one, p_is) = x.same_key in
            let (other, a_other, q_is) = y.same_key in
            let le = x.first q y.same_key (ap is_some cq.list_is) in
            let ge = y.first p x.same_key (ap is_some cp.list_is) in
            let labels : other ≡ one = some_one (sym a_other ∙ a_one) in
            same_label p q one (omega arith) p_is (q_is ∙ ap (λ (z : Label). Some z) labels)

    record HasCount (a : Item) : Type 0 where
      tag : Item
      list : List MemberTerm
      counts : CountsAs units a tag list

    count_of : {a b : Item} → Apart units a b → HasCount a
    count_of (differ {p = p} {k = k} same ca cb mismatch) = record { tag = p; list = k; counts = ca }
    count_of (mention {p = p} {k = k} same ca cb there sub) = record { tag = p; list = k; counts = ca }

    -- tags for which one list counts aren't apart
    not_apart : {a b : Item} → Apart units a b → (t : Item) (x y : List MemberTerm) → CountsAs units a t x → CountsAs units b t y → ⊥
    not_apart (differ {a = a} {b = b} {p = p} {q = q} {k = k} {l = l} same ca cb mismatch) t x y ta tb =
        let one : p ≡ q = counts_once a p t k x ca ta ∙ sym (counts_once b q t l y cb tb) in
        let lists : k ≡ l = some_one (sym ca.list_is ∙ (ap (list_at units) one ∙ cb.list_is)) in
        mismatch (subst (λ (z : Item). ListsMatch units (MayBeOne units) p.unit z.unit k l) one (subst (λ (z : List MemberTerm). ListsMatch units (MayBeOne units) p.unit p.unit k z) lists (lists_self p.unit k)))
    not_apart (mention {a = a} {b = b} {p = p} {q = q} {c = c} {d = d} {k = k} {l = l} same ca cb there sub) t x y ta tb =
        let one : p ≡ q = counts_once a p t k x ca ta ∙ sym (counts_once b q t l y cb tb) in
        let lists : k ≡ l = some_one (sym ca.list_is ∙ (ap (list_at units) one ∙ cb.list_is)) in
        let back = subst (λ (z : Item). ListsMention units p.unit z.unit c d k l) (sym one) there in
        let self = lists_mention_self p.unit c d k (subst (λ (z : List MemberTerm). ListsMention units p.unit p.unit c d k z) (sym lists) back) in
        let count = count_of sub in
        not_apart sub count.tag count.list count.list count.counts (subst (λ (z : Item). CountsAs units z count.tag count.list) self count.counts)

    -- what has a list is a tag
    listed_tag : AreTables units → (b : Item) (list : List MemberTerm) → list_at units b ≡ Some list → IsTag units b
    listed_tag tables b list e = by (slice_get units b.unit) refl e
      where
        by : (o : Option Unit) → slice_get units b.unit ≡ o → members_in (types_if o) b.number ≡ Some list → IsTag units b
        by None is h = absurd (none_some h)
        by (Some x) is h =
            subst (λ (o : Option Unit). b.number < (types_if o).tags) (sym is)
            (stands_within x.types (tables.named b.unit x is) b.number ((tables.made b.unit x is).stands b.number list h))

    pub one_tag : (n : Numbering) (table : Table) → AreTables units → IsMerged units n table → (a b : Item) (list : List MemberTerm) → IsTag units a → CountsAs units a b list → tag_of n a ≡ tag_of n b
    one_tag n table tables merged a b list is_tag counts = elim counts.which [
      | inl same ↦ ap (tag_of n) same
      | inr first ↦
          (merged.one a b is_tag (listed_tag tables b list counts.list_is)).1
          (inr (first.same_key, λ apart. not_apart apart b list list counts (record { list_is = counts.list_is; which = inl refl })))
    ]
