-- Which list counts for a tag.
use Rattle.std.proofs.Common.{arith, ◌≡◌, ℕ, ◌⊎◌, inl, inr, List, get_or, refl, ap, sym, ◌∙◌, subst, Option, Some, None, IsSome, is_some}
use Rattle.std.specs.List.{slice_get, slice_index_or}
use Rattle.std.specs.Option.{option_map}
use Rattle.std.proofs.lemmas.Option.{get_or_from_slice_get, slice_get_within}
use Rattle.c_types.specs.declared.term.MemberTerm.{MemberTerm}
use Rattle.core_tree.specs.declared.node.Unit.{Unit}
use Rattle.link_model.specs.declared.item.Item.{Item}
use Rattle.link_model.specs.Units.{item, IsTag, key_if, keys_if, is_union, Label, label_at, SameKey, list_at}
use Rattle.link_model.specs.Apart.{CountsAs, IsFirstOfKey, MayBeOne}
use Rattle.link_merge.specs.Tags.{AreKept, AreTags, place_in}
use Rattle.link_merge.specs.Codes.{members_code}
use Rattle.link_merge.specs.Keys.{list_code, own_code, tag_code}
use Rattle.link_merge.specs.Classes.{CountsFor, AreCountedAs}
use Rattle.link_merge.proofs.Places.{same_item, tag_of_unit}

some_one : {X : Type 0} → {x y : X} → ◌≡◌ {A = Option X} (Some x) (Some y) → x ≡ y
some_one h = cc

none_some : {X : Type 0} → {x : X} → ◌≡◌ {A = Option X} None (Some x) → ⊥
none_some h = cc

some_is : {X : Type 0} (o : Option X) (x : X) → o ≡ Some x → IsSome o
some_is o x e = ap is_some e

-- the key of a labelled tag
pub record HasKey (units : List Unit) (a : Item) (label : Label) : Type 0 where
  pub unit : Unit
  pub unit_is : slice_get units a.unit ≡ Some unit
  pub key : slice_get unit.tags.items a.number ≡ Some (Some label.key)
  pub union : is_union units a ≡ label.union

pub labelled_key : (units : List Unit) (a : Item) (label : Label) → label_at units a ≡ Some label → HasKey units a label
labelled_key units a label e = here (slice_get units a.unit) refl e
  where
    inner : (x : Unit) → slice_get units a.unit ≡ Some x → (o : Option (Option (List ℕ))) → slice_get x.tags.items a.number ≡ o → option_map (λ key. record { union = is_union units a; key = key }) (key_if o) ≡ Some label → HasKey units a label
    inner x at None key h = absurd (none_some h)
    inner x at (Some None) key h = absurd (none_some h)
    inner x at (Some (Some k)) key h =
        let one : ◌≡◌ {A = Label} (record { union = is_union units a; key = k }) label = some_one h in
        record { unit = x; unit_is = at; key = key ∙ ap (λ (l : Label). Some (Some l.key)) one; union = ap (λ (l : Label). l.union) one }

    here : (o : Option Unit) → slice_get units a.unit ≡ o → option_map (λ key. record { union = is_union units a; key = key }) (key_if (slice_get (keys_if o) a.number)) ≡ Some label → HasKey units a label
    here None at h = absurd (none_some h)
    here (Some x) at h = inner x at (slice_get x.tags.items a.number) refl h

-- a unit has no key twice
pub key_once : (units : List Unit) (a b : Item) → AreKept units → SameKey units a b → a.unit ≡ b.unit → a ≡ b
key_once units a b kept s e =
    let ka = labelled_key units a s.0 s.1 in
    let kb = labelled_key units b s.0 s.2 in
    let one : kb.unit ≡ ka.unit = some_one (sym kb.unit_is ∙ (ap (slice_get units) (sym e) ∙ ka.unit_is)) in
    let there : slice_get ka.unit.tags.items b.number ≡ Some (Some s.0.key) = ap (λ (x : Unit). slice_get x.tags.items b.number) (sym one) ∙ kb.key in
    same_item a b e (((kept.each a.unit ka.unit ka.unit_is).once a.number (Some s.0.key) ka.key).each b.number (Some s.0.key) there refl)

-- a labelled tag is a tag of its unit
pub labelled_tag : (units : List Unit) (a : Item) (label : Label) → AreKept units → label_at units a ≡ Some label → IsTag units a
labelled_tag units a label kept e =
    let k = labelled_key units a label e in
    let many = (kept.each a.unit k.unit k.unit_is).each in
    let lt = slice_get_within k.unit.tags.items a.number (Some label.key) k.key in
    tag_of_unit units a k.unit k.unit_is (omega arith)

key_turned : (units : List Unit) (a b c : Item) → SameKey units a b → SameKey units a c → SameKey units b c
key_turned units a b c s t =
    let one : s.0 ≡ t.0 = some_one (sym s.1 ∙ t.1) in
    (s.0, s.2, t.2 ∙ ap Some (sym one))

-- one list counts
pub counts_once : (units : List Unit) (a b c : Item) (k l : List MemberTerm) → AreKept units → CountsAs units a b k → CountsAs units a c l → b ≡ c
counts_once units a b c k l kept x y = here x.which y.which
  where
    here : (a ≡ b) ⊎ IsFirstOfKey units a b → (a ≡ c) ⊎ IsFirstOfKey units a c → b ≡ c
    here (inl e) (inl f) = sym e ∙ f
    here (inl e) (inr f) = absurd (none_some (sym f.without ∙ (ap (list_at units) e ∙ x.list_is)))
    here (inr e) (inl f) = absurd (none_some (sym e.without ∙ (ap (list_at units) f ∙ y.list_is)))
    here (inr e) (inr f) =
        let up = e.first c f.same_key (some_is (list_at units c) l y.list_is) in
        let down = f.first b e.same_key (some_is (list_at units b) k x.list_is) in
        key_once units b c kept (key_turned units a b c e.same_key f.same_key) (omega arith)

may_counts : (units : List Unit) (a b : Item) (k : List MemberTerm) → CountsAs units a b k → MayBeOne units a b
may_counts units a b k x = elim x.which [ inl e ↦ inl e | inr f ↦ inr f.same_key ]

-- the place that is kept for a tag is that of the one whose list counts
pub record IsKept (units : List Unit) (starts : List ℕ) (counted : List (Option ℕ)) (a b : Item) : Type 0 where
  pub tag : IsTag units b
  pub place : slice_index_or counted (place_in starts a) None ≡ Some (place_in starts b)

pub counted_is : (units : List Unit) (starts : List ℕ) (counted : List (Option ℕ)) (a b : Item) (k : List MemberTerm) → AreKept units → AreCountedAs units starts counted → IsTag units a → CountsAs units a b k → IsKept units starts counted a b
counted_is units starts counted a b k kept are tag x = here (slice_index_or counted (place_in starts a) None) refl (are.each a tag)
  where
    here : (o : Option ℕ) → slice_index_or counted (place_in starts a) None ≡ o → CountsFor units starts a o → IsKept units starts counted a b
    here None e none = absurd (none_some (sym (none b (may_counts units a b k x)) ∙ x.list_is))
    here (Some h) e c =
        let same : c.tag ≡ b = counts_once units a c.tag b c.list k kept c.counts x in
        record { tag = subst (IsTag units) same c.is_tag; place = e ∙ ap Some (sym c.place ∙ ap (place_in starts) same) }

-- the code of the list that counts
pub code_counted : (units : List Unit) (starts type_starts firsts : List ℕ) (tags : List Item) (counted : List (Option ℕ)) (a b : Item) (k : List MemberTerm) → AreKept units → AreTags units starts tags → AreCountedAs units starts counted → IsTag units a
    → CountsAs units a b k → tag_code units type_starts firsts tags (slice_index_or counted (place_in starts a) None) ≡ members_code firsts (get_or type_starts b.unit 0) k
code_counted units starts type_starts firsts tags counted a b k kept are counts tag x =
    let is = counted_is units starts counted a b k kept counts tag x in
    let there : slice_index_or tags (place_in starts b) (item 0 0) ≡ b = get_or_from_slice_get tags (place_in starts b) b (item 0 0) (are.place b is.tag) in
    ap (tag_code units type_starts firsts tags) is.place ∙ (ap (own_code units type_starts firsts) there ∙ ap (list_code firsts (get_or type_starts b.unit 0)) x.list_is)
