-- What a round has told apart, spread by kids: nodes that are told apart are tags that are apart, or types that don't match
-- or mention such.
use Rattle.std.proofs.Common.{arith, ◌≡◌, ◌≢◌, ℕ, zero, suc, ◌+◌, ◌<◌, ◌≤◌, inl, inr, List, [], ◌∷◌, ◌++◌, length, length-append, map, take, get_or, refl, ap, sym, ◌∙◌, subst, Option, Some, None}
use Rattle.std.specs.List.{slice_get, slice_index_or}
use Rattle.std.specs.Option.{option_map}
use Rattle.std.proofs.Math.ListN.{get_or-append}
use Rattle.std.proofs.lemmas.Bool.Decides.{eqb_tells}
use Rattle.std.proofs.lemmas.List.{length-map, length-take-le}
use Rattle.std.proofs.lemmas.List.Sums.{sum_by-cons}
use Rattle.std.proofs.lemmas.Option.{slice_get-map, slice_get_within, slice_get-get_or, get_or_from_slice_get}
use Rattle.c_types.specs.declared.term.Term.{Term}
use Rattle.c_types.specs.declared.term.MemberTerm.{MemberTerm}
use Rattle.c_types.specs.Trees.{Ctype, grow}
use Rattle.c_types.specs.Table.{Table, type_of, types_of, IsAfter, HasTag}
use Rattle.core_tree.specs.declared.node.Unit.{Unit}
use Rattle.link_model.specs.declared.item.Item.{Item}
use Rattle.link_model.specs.Units.{item, IsTag, SameKey, types_if, types_in, list_at}
use Rattle.link_model.specs.Matching.{Matches, Mentions, member_type, ListsMatch, ListsMention}
use Rattle.link_model.specs.Apart.{Apart, differ, mention, CountsAs, MayBeOne}
use Rattle.link_model.specs.Partition.{number, Listed, listed, HasTags, Joins, MembersHaveTags}
use Rattle.link_model.proofs.Partition.{matches_same, compared}
use Rattle.link_model.specs.link_types.Joined.{AreStarts, tag_in, types_before}
use Rattle.unit_link.proofs.link_program.Leading.{alike_leaders, one_if_alike, alike_if_one}
use Rattle.link_merge.specs.Codes.{AreFirstIds}
use Rattle.link_merge.specs.Kids.{term_kids, list_kids, own_kids, tag_kids, types_kids, all_kids, begun, IsSpread, IsTold, AreFiner}
use Rattle.link_merge.specs.Parted.{list_of, Distinct, begin, many, kid}
use Rattle.link_merge.specs.Tags.{place_in}
use Rattle.link_merge.specs.Classes.{CountsFor, IsCountedAs, lead_in, AreClasses, AreCollected, IsRound}
use Rattle.link_merge.proofs.Codes.{first_if_same}
use Rattle.link_merge.proofs.Counting.{counted_is}
use Rattle.link_merge.proofs.Numbers.{joins_numbers, separates_numbers}
use Rattle.link_merge.proofs.Own.{TypesIn, own_list, knows_tags, type_tags}
use Rattle.link_merge.proofs.Places.{tag_of_unit}
use Rattle.link_merge.proofs.Rounding.{classes_next, starts_of_numbers}
use Rattle.link_merge.proofs.Rounds.{round_listed}
use Rattle.link_merge.proofs.Settling.{type_start}
use Rattle.link_merge.proofs.Terms.{type_is, term_at}
use Rattle.link_merge.proofs.Termed.{kid_count, kid_case}

some_one : {X : Type 0} → {x y : X} → ◌≡◌ {A = Option X} (Some x) (Some y) → x ≡ y
some_one h = cc

none_some : {X : Type 0} → {x : X} → ◌≡◌ {A = Option X} None (Some x) → ⊥
none_some h = cc

-- a node is not distinct from itself
pub distinct_other : (first : List ℕ) (kids : List (List ℕ)) (x y : ℕ) → Distinct first kids x y → x ≡ y → ⊥
distinct_other first kids x y (begin ne) e = ne (ap (λ n. get_or first n 0) e)
distinct_other first kids x y (many ne) e = ne (ap (λ n. length (list_of kids n)) e)
distinct_other first kids x y (kid k c d at bt under) e = distinct_other first kids c d under (some_one (sym at ∙ (ap (λ n. slice_get (list_of kids n) k) e ∙ bt)))

-- a list behind another one
right : {X : Type 0} (xs ys : List X) (k : ℕ) (d : X) → get_or (xs ++ ys) (length xs + k) d ≡ get_or ys k d
right [] ys k d = (let none : 0 + k ≡ k = omega arith in ap (λ n. get_or ys n d) none)
right (x ∷ xs) ys k d =
    let next : length (x ∷ xs) + k ≡ suc (length xs + k) = omega arith in
    ap (λ n. get_or (x ∷ xs ++ ys) n d) next ∙ right xs ys k d

get_map : {X Y : Type 0} (f : X → Y) (xs : List X) (k : ℕ) (x : X) (d : Y) → slice_get xs k ≡ Some x → get_or (map f xs) k d ≡ f x
get_map f xs k x d at = get_or_from_slice_get (map f xs) k (f x) d (slice_get-map f xs k ∙ ap (option_map f) at)

get_mapped : (f : ℕ → ℕ) (xs : List ℕ) (k : ℕ) → k < length xs → get_or (map f xs) k 0 ≡ f (get_or xs k 0)
get_mapped f xs k lt = get_map f xs k (get_or xs k 0) 0 (slice_get-get_or xs k 0 lt)

-- the kids of a type of a unit among those of all units' types
types_at : (nodes tag_starts : List ℕ) (v : ℕ) (units : List Unit) (u : ℕ) (x : Unit) (i : ℕ) (t : Term) → slice_get units u ≡ Some x → slice_get x.types.terms i ≡ Some t
    → list_of (types_kids nodes tag_starts v units) (types_before units u + i) ≡ term_kids (get_or nodes (v + u) 0) (get_or tag_starts (v + u) 0) t
types_at nodes tag_starts v [] u x i t at ti = absurd (none_some at)
types_at nodes tag_starts v (y ∷ units) zero x i t at ti =
    let one : y ≡ x = some_one at in
    let terms : slice_get y.types.terms i ≡ Some t = ap (λ (z : Unit). slice_get z.types.terms i) one ∙ ti in
    let own = map (term_kids (get_or nodes v 0) (get_or tag_starts v 0)) y.types.terms in
    let long = length-map y.types.terms (term_kids (get_or nodes v 0) (get_or tag_starts v 0)) in
    let within = slice_get_within y.types.terms i t terms in
    let here : v ≡ v + zero = omega arith in
    let none : types_before (y ∷ units) zero ≡ 0 = refl in
    let place : types_before (y ∷ units) zero + i ≡ i = omega arith in
    ap (λ n. list_of (own ++ types_kids nodes tag_starts (v + 1) units) n) place
    ∙ (get_or-append own (types_kids nodes tag_starts (v + 1) units) [] i (omega arith)
    ∙ (get_map (term_kids (get_or nodes v 0) (get_or tag_starts v 0)) y.types.terms i t [] terms ∙ ap (λ n. term_kids (get_or nodes n 0) (get_or tag_starts n 0) t) here))
types_at nodes tag_starts v (y ∷ units) (suc u) x i t at ti =
    let own = map (term_kids (get_or nodes v 0) (get_or tag_starts v 0)) y.types.terms in
    let long = length-map y.types.terms (term_kids (get_or nodes v 0) (get_or tag_starts v 0)) in
    let split : types_before (y ∷ units) (suc u) ≡ length y.types.terms + types_before units u = sum_by-cons (λ (z : Unit). length z.types.terms) y (take u units) in
    let place : types_before (y ∷ units) (suc u) + i ≡ length own + (types_before units u + i) = omega arith in
    let next : (v + 1) + u ≡ v + suc u = omega arith in
    ap (λ n. list_of (own ++ types_kids nodes tag_starts (v + 1) units) n) place
    ∙ (right own (types_kids nodes tag_starts (v + 1) units) (types_before units u + i) []
    ∙ (types_at nodes tag_starts (v + 1) units u x i t at ti ∙ ap (λ n. term_kids (get_or nodes n 0) (get_or tag_starts n 0) t) next))

-- a place of lists that match
match_at : (units : List Unit) (R : Item → Item → Type 0) (u v : ℕ) (k l : List MemberTerm) (i : ℕ) (m n : MemberTerm) → ListsMatch units R u v k l → slice_get k i ≡ Some m → slice_get l i ≡ Some n
    → Matches R u v (member_type units u m) (member_type units v n)
match_at units R u v [] l i m n h at bt = absurd (none_some at)
match_at units R u v (x ∷ k) [] i m n h at bt = absurd (none_some bt)
match_at units R u v (x ∷ k) (y ∷ l) zero m n h at bt =
    subst (λ (z : MemberTerm). Matches R u v (member_type units u z) (member_type units v n)) (some_one at) (subst (λ (z : MemberTerm). Matches R u v (member_type units u x) (member_type units v z)) (some_one bt) h.2)
match_at units R u v (x ∷ k) (y ∷ l) (suc i) m n h at bt = match_at units R u v k l i m n h.3 at bt

mention_at : (units : List Unit) (u v : ℕ) (c d : Item) (k l : List MemberTerm) (i : ℕ) (m n : MemberTerm) → slice_get k i ≡ Some m → slice_get l i ≡ Some n → Mentions u v c d (member_type units u m) (member_type units v n)
    → ListsMention units u v c d k l
mention_at units u v c d [] l i m n at bt h = absurd (none_some at)
mention_at units u v c d (x ∷ k) [] i m n at bt h = absurd (none_some bt)
mention_at units u v c d (x ∷ k) (y ∷ l) zero m n at bt h =
    inl (subst (λ (z : MemberTerm). Mentions u v c d (member_type units u z) (member_type units v y)) (sym (some_one at)) (subst (λ (z : MemberTerm). Mentions u v c d (member_type units u m) (member_type units v z)) (sym (some_one bt)) h))
mention_at units u v c d (x ∷ k) (y ∷ l) (suc i) m n at bt h = inr (mention_at units u v c d k l i m n at bt h)

match_count : (units : List Unit) (R : Item → Item → Type 0) (u v : ℕ) (k l : List MemberTerm) → ListsMatch units R u v k l → length k ≡ length l
match_count units R u v [] [] h = refl
match_count units R u v [] (y ∷ l) h = absurd h
match_count units R u v (x ∷ k) [] h = absurd h
match_count units R u v (x ∷ k) (y ∷ l) h = ap suc (match_count units R u v k l h.3)

-- member lists that are the same under numbers match as far as keys go
lists_match : (units : List Unit) (tag : ℕ → ℕ → ℕ) (u v : ℕ) (k l : List MemberTerm) → Joins units tag → MembersHaveTags units u k → MembersHaveTags units v l → listed units tag u k ≡ listed units tag v l → ListsMatch units (MayBeOne units) u v k l
lists_match units tag u v [] [] j hk hl e = tt
lists_match units tag u v [] (n ∷ ns) j hk hl e = cc
lists_match units tag u v (m ∷ ms) [] j hk hl e = cc
lists_match units tag u v (m ∷ ms) (n ∷ ns) j hk hl e =
    let head = heads _ _ _ _ e in
    (ap (λ (x : Listed). x.name) head.0, ap (λ (x : Listed). x.bits) head.0, matches_same units tag j u v (member_type units u m) (member_type units v n) hk.0 hl.0 (ap (λ (x : Listed). x.type) head.0), lists_match units tag u v ms ns j hk.1 hl.1 head.1)
  where
    heads : (x y : Listed) (xs ys : List Listed) → x ∷ xs ≡ y ∷ ys → (x ≡ y) × (xs ≡ ys)
    heads x y xs ys e = (cc, cc)

-- a kid of a list
record IsKid (types : ℕ) (list : List MemberTerm) (k c : ℕ) : Type 0 where
  member : MemberTerm
  member_is : slice_get list k ≡ Some member
  kid_is : c ≡ types + member.ty.0

kid_at : (types : ℕ) (list : List MemberTerm) (k c : ℕ) → slice_get (map (λ m. types + m.ty.0) list) k ≡ Some c → IsKid types list k c
kid_at types [] k c e = absurd (none_some e)
kid_at types (m ∷ list) zero c e = record { member = m; member_is = refl; kid_is = sym (some_one e) }
kid_at types (m ∷ list) (suc k) c e = (let r = kid_at types list k c e in record { member = r.member; member_is = r.member_is; kid_is = r.kid_is })

types_in_at : (n : ℕ) (list : List MemberTerm) (k : ℕ) (m : MemberTerm) → TypesIn n list → slice_get list k ≡ Some m → m.ty.0 < n
types_in_at n [] k m h at = absurd (none_some at)
types_in_at n (x ∷ list) zero m h at = subst (λ (z : MemberTerm). z.ty.0 < n) (some_one at) h.0
types_in_at n (x ∷ list) (suc k) m h at = types_in_at n list k m h.1 at

taken : (n : ℕ) (xs : List ℕ) (k : ℕ) → k < n → slice_get (take n xs) k ≡ slice_get xs k
taken zero [] k lt = absurd (omega arith)
taken (suc n) [] k lt = refl
taken zero (x ∷ xs) k lt = absurd (omega arith)
taken (suc n) (x ∷ xs) zero lt = refl
taken (suc n) (x ∷ xs) (suc k) lt = taken n xs k (omega arith)

one_class : {c d : ℕ} {l : List ℕ} → ◌≡◌ {A = Option (Option (List ℕ))} (Some (Some (c ∷ []))) (Some (Some l)) → ◌≡◌ {A = Option (Option (List ℕ))} (Some (Some (d ∷ []))) (Some (Some l)) → c ≡ d
one_class e f = cc

module _
    (units : List Unit)
    (type_starts tag_starts leaders numbers next firsts now : List ℕ)
    (tags : List Item)
    (counted : List (Option ℕ))
    (table : Table)
    (h : AreCollected units type_starts tag_starts tags counted)
    (classes : AreClasses units tag_starts leaders)
    (many_leaders : length leaders ≡ length tags)
    (round : IsRound units type_starts tag_starts tags counted leaders numbers next table)
    (firsts_are : AreFirstIds table firsts)
    (spread : IsSpread next firsts (all_kids units (map (λ s. length next + s) type_starts) tag_starts tags counted) now) where
  abbrev nodes : List ℕ
  nodes = map (λ s. length next + s) type_starts

  abbrev kids : List (List ℕ)
  kids = all_kids units nodes tag_starts tags counted

  abbrev first : List ℕ
  first = begun next firsts

  abbrev keys : List (Option (List ℕ))
  keys = map (λ c. Some (c ∷ [])) (take (length next) spread.class)

  next_classes : AreClasses units tag_starts next
  next_classes = classes_next units type_starts tag_starts leaders numbers next tags counted table h classes many_leaders round

  starts_are : AreStarts units tag_starts (length numbers)
  starts_are = starts_of_numbers units type_starts tag_starts numbers tags counted h (round.many ∙ many_leaders)

  next_many : length next ≡ length tags
  next_many = (let a = round.refined.alike.all in let b = round.refined.keys_are.all in omega arith)

  place_lt : (a : Item) → IsTag units a → place_in tag_starts a < length next
  place_lt a ta = (let w = slice_get_within tags (place_in tag_starts a) a (h.tags_are.place a ta) in let m = next_many in omega arith)

  -- what nodes begin as
  first_at : (k : ℕ) → k < length next → get_or first k 0 ≡ get_or next k 0
  first_at k lt = get_or-append next (map (λ n. length next + n) firsts) 0 k lt

  node_is : (u : ℕ) (x : Unit) → slice_get units u ≡ Some x → get_or nodes u 0 ≡ length next + get_or type_starts u 0
  node_is u x ux = (let w = slice_get_within units u x ux in let m = round.shown.enough in get_mapped (λ s. length next + s) type_starts u (omega arith))

  type_lt : (u : ℕ) (x : Unit) (i : ℕ) → slice_get units u ≡ Some x → i < length x.types.terms → get_or type_starts u 0 + i < length table.terms
  type_lt u x i ux li = (let w = round.shown.within u x ux in omega arith)

  first_type : (u : ℕ) (x : Unit) (i : ℕ) → slice_get units u ≡ Some x → i < length x.types.terms → get_or first (get_or nodes u 0 + i) 0 ≡ length next + get_or firsts (get_or type_starts u 0 + i) 0
  first_type u x i ux li =
      let node = node_is u x ux in
      let lt = type_lt u x i ux li in
      let all = firsts_are.all in
      let place : get_or nodes u 0 + i ≡ length next + (get_or type_starts u 0 + i) = omega arith in
      ap (λ n. get_or first n 0) place ∙ (right next (map (λ n. length next + n) firsts) (get_or type_starts u 0 + i) 0 ∙ get_mapped (λ n. length next + n) firsts (get_or type_starts u 0 + i) (omega arith))

  -- the kids of nodes
  kids_tag : (a : Item) → IsTag units a → list_of kids (place_in tag_starts a) ≡ tag_kids units nodes tags (slice_index_or counted (place_in tag_starts a) None)
  kids_tag a ta =
      let lt = place_lt a ta in
      let m = next_many in
      let all = h.many in
      let long = length-map counted (tag_kids units nodes tags) in
      get_or-append (map (tag_kids units nodes tags) counted) (types_kids nodes tag_starts 0 units) [] (place_in tag_starts a) (omega arith)
      ∙ get_map (tag_kids units nodes tags) counted (place_in tag_starts a) (slice_index_or counted (place_in tag_starts a) None) [] (slice_get-get_or counted (place_in tag_starts a) None (omega arith))

  kids_type : (u : ℕ) (x : Unit) (i : ℕ) (t : Term) → slice_get units u ≡ Some x → slice_get x.types.terms i ≡ Some t → list_of kids (get_or nodes u 0 + i) ≡ term_kids (get_or nodes u 0) (get_or tag_starts u 0) t
  kids_type u x i t ux ti =
      let node = node_is u x ux in
      let m = next_many in
      let all = h.many in
      let long = length-map counted (tag_kids units nodes tags) in
      let w = slice_get_within units u x ux in
      let start = type_start units type_starts u h.type_sums (omega arith) in
      let place : get_or nodes u 0 + i ≡ length (map (tag_kids units nodes tags) counted) + (types_before units u + i) = omega arith in
      let zero_is : 0 + u ≡ u = omega arith in
      ap (list_of kids) place
      ∙ (right (map (tag_kids units nodes tags) counted) (types_kids nodes tag_starts 0 units) (types_before units u + i) []
      ∙ (types_at nodes tag_starts 0 units u x i t ux ti ∙ ap (λ n. term_kids (get_or nodes n 0) (get_or tag_starts n 0) t) zero_is))

  -- the kids of a tag by the list that counts for it
  kids_counted : (a : Item) (g : ℕ) → IsTag units a → slice_index_or counted (place_in tag_starts a) None ≡ Some g → (c : IsCountedAs units tag_starts a g) → list_of kids (place_in tag_starts a) ≡ map (λ m. get_or nodes c.tag.unit 0 + m.ty.0) c.list
  kids_counted a g ta e c =
      let there : slice_index_or tags g (item 0 0) ≡ c.tag = ap (λ n. slice_index_or tags n (item 0 0)) (sym c.place) ∙ get_or_from_slice_get tags (place_in tag_starts c.tag) c.tag (item 0 0) (h.tags_are.place c.tag c.is_tag) in
      kids_tag a ta ∙ (ap (tag_kids units nodes tags) e ∙ (ap (own_kids units nodes) there ∙ ap (list_kids (get_or nodes c.tag.unit 0)) c.counts.list_is))

  kids_none : (a : Item) → IsTag units a → slice_index_or counted (place_in tag_starts a) None ≡ None → list_of kids (place_in tag_starts a) ≡ []
  kids_none a ta e = kids_tag a ta ∙ ap (tag_kids units nodes tags) e

  -- tags at one place of two types that are apart
  record TellsApart (u v : ℕ) (s t : Ctype) : Type 0 where
    one : Item
    other : Item
    mentioned : Mentions u v one other s t
    apart : Apart units one other

  abbrev TypeApart : ℕ → ℕ → Ctype → Ctype → Type 0
  TypeApart u v s t = Matches (MayBeOne units) u v s t → TellsApart u v s t

  -- what it means that nodes are distinct
  abbrev TagsApart : ℕ → ℕ → Type 0
  TagsApart x y = (a b : Item) → IsTag units a → IsTag units b → place_in tag_starts a ≡ x → place_in tag_starts b ≡ y → SameKey units a b → Apart units a b

  abbrev TypesApart : ℕ → ℕ → Type 0
  TypesApart x y = (u v : ℕ) (p q : Unit) (i j : ℕ) → slice_get units u ≡ Some p → slice_get units v ≡ Some q → i < length p.types.terms → j < length q.types.terms → get_or nodes u 0 + i ≡ x → get_or nodes v 0 + j ≡ y
      → TypeApart u v (type_of p.types i) (type_of q.types j)

  tags_begin : (x y : ℕ) → get_or first x 0 ≢ get_or first y 0 → TagsApart x y
  tags_begin x y ne a b ta tb ax by key =
      next_classes.separates.apart a b ta tb key (λ e.
      ne (ap (λ n. get_or first n 0) (sym ax) ∙ (first_at (place_in tag_starts a) (place_lt a ta) ∙ (e ∙ (sym (first_at (place_in tag_starts b) (place_lt b tb)) ∙ ap (λ n. get_or first n 0) by)))))

  own_tags : (u : ℕ) (p : Unit) (i : ℕ) → slice_get units u ≡ Some p → HasTags (types_in units u).tags (type_of p.types i)
  own_tags u p i up = subst (λ (o : Option Unit). HasTags (types_if o).tags (type_of p.types i)) (sym up) (type_tags p.types i (h.made.named u p up))

  types_begin : (x y : ℕ) → get_or first x 0 ≢ get_or first y 0 → TypesApart x y
  types_begin x y ne u v p q i j up vq li lj ix jy match =
      elim (compared units (tag_in tag_starts numbers) u v (type_of p.types i) (type_of q.types j) (own_tags u p i up) (own_tags v q j vq)) [
        | inl same ↦
            let types : type_of table (get_or type_starts u 0 + i) ≡ type_of table (get_or type_starts v 0 + j) = round.shown.each u p i up li ∙ (same ∙ sym (round.shown.each v q j vq lj)) in
            let one = first_if_same table firsts firsts_are (get_or type_starts u 0 + i) (get_or type_starts v 0 + j) (type_lt u p i up li) (type_lt v q j vq lj) types in
            absurd (ne (ap (λ n. get_or first n 0) (sym ix) ∙ (first_type u p i up li ∙ (ap (λ n. length next + n) one ∙ (sym (first_type v q j vq lj) ∙ ap (λ n. get_or first n 0) jy)))))
        | inr rest ↦ elim rest [
          | inl none ↦ absurd (none match)
          | inr split ↦ record {
            one = split.first;
            other = split.second;
            mentioned = split.holds;
            apart = (separates_numbers units tag_starts leaders numbers tags table.tags h.tags_are many_leaders round.numbered starts_are classes).apart split.first split.second split.first_tag split.second_tag split.same_key split.differ;
          }
        ]
      ]

  counts_may : (a b : Item) (k : List MemberTerm) → CountsAs units a b k → MayBeOne units a b
  counts_may a b k x = elim x.which [ inl e ↦ inl e | inr f ↦ inr f.same_key ]

  may_through : (a b c : Item) → SameKey units a b → MayBeOne units b c → MayBeOne units a c
  may_through a b c s (inl e) = subst (MayBeOne units a) e (inr s)
  may_through a b c s (inr t) =
      let one : s.0 ≡ t.0 = some_one (sym s.2 ∙ t.1) in
      inr (s.0, s.1, t.2 ∙ ap Some (sym one))

  -- of two tags of one key a list counts for both or for neither
  not_one : (a b : Item) (g : ℕ) → SameKey units a b → ((c : Item) → MayBeOne units a c → list_at units c ≡ None) → IsCountedAs units tag_starts b g → ⊥
  not_one a b g key none c = none_some (sym (none c.tag (may_through a b c.tag key (counts_may b c.tag c.list c.counts))) ∙ c.counts.list_is)

  turned : (a b : Item) → SameKey units a b → SameKey units b a
  turned a b s = (s.0, s.2, s.1)

  tags_many : (x y : ℕ) → length (list_of kids x) ≢ length (list_of kids y) → TagsApart x y
  tags_many x y ne a b ta tb ax by key = here (slice_index_or counted (place_in tag_starts a) None) refl (h.counts.each a ta) (slice_index_or counted (place_in tag_starts b) None) refl (h.counts.each b tb)
    where
      here : (o : Option ℕ) → slice_index_or counted (place_in tag_starts a) None ≡ o → CountsFor units tag_starts a o → (r : Option ℕ) → slice_index_or counted (place_in tag_starts b) None ≡ r → CountsFor units tag_starts b r → Apart units a b
      here None ea na None eb nb = absurd (ne (ap (λ n. length (list_of kids n)) (sym ax) ∙ (ap length (kids_none a ta ea ∙ sym (kids_none b tb eb)) ∙ ap (λ n. length (list_of kids n)) by)))
      here None ea na (Some g) eb c = absurd (not_one a b g key na c)
      here (Some g) ea c None eb nb = absurd (not_one b a g (turned a b key) nb c)
      here (Some g) ea c (Some i) eb d =
          differ key c.counts d.counts (λ match.
          let left : length (list_of kids (place_in tag_starts a)) ≡ length c.list = ap length (kids_counted a g ta ea c) ∙ length-map c.list (λ m. get_or nodes c.tag.unit 0 + m.ty.0) in
          let right_is : length (list_of kids (place_in tag_starts b)) ≡ length d.list = ap length (kids_counted b i tb eb d) ∙ length-map d.list (λ m. get_or nodes d.tag.unit 0 + m.ty.0) in
          ne (ap (λ n. length (list_of kids n)) (sym ax) ∙ (left ∙ (match_count units (MayBeOne units) c.tag.unit d.tag.unit c.list d.list match ∙ (sym right_is ∙ ap (λ n. length (list_of kids n)) by)))))

  -- a type's term
  record HasTerm (own : Table) (i : ℕ) : Type 0 where
    term : Term
    term_is : slice_get own.terms i ≡ Some term
    tree : type_of own i ≡ grow (types_of own) term
    after : IsAfter i term
    tag : HasTag own.tags term

  match_grown : (u v : ℕ) (p q : Table) (i j : ℕ) (s : HasTerm p i) (t : HasTerm q j) → Matches (MayBeOne units) u v (type_of p i) (type_of q j) → Matches (MayBeOne units) u v (grow (types_of p) s.term) (grow (types_of q) t.term)
  match_grown u v p q i j s t m =
      subst (λ (z : Ctype). Matches (MayBeOne units) u v z (grow (types_of q) t.term)) s.tree (subst (λ (z : Ctype). Matches (MayBeOne units) u v (type_of p i) z) t.tree m)

  mention_back : (u v : ℕ) (p q : Table) (i j : ℕ) (s : HasTerm p i) (t : HasTerm q j) (e f : Item) → Mentions u v e f (grow (types_of p) s.term) (grow (types_of q) t.term) → Mentions u v e f (type_of p i) (type_of q j)
  mention_back u v p q i j s t e f m =
      subst (λ (z : Ctype). Mentions u v e f z (type_of q j)) (sym s.tree) (subst (λ (z : Ctype). Mentions u v e f (grow (types_of p) s.term) z) (sym t.tree) m)

  term_of : (u : ℕ) (p : Unit) (i : ℕ) → slice_get units u ≡ Some p → i < length p.types.terms → HasTerm p.types i
  term_of u p i up li =
      let (t, ti) = term_at p.types.terms i li in
      let named = h.made.named u p up in
      let both = named i t ti in
      record { term = t; term_is = ti; tree = type_is p.types i t named ti; after = both.0; tag = both.1 }

  types_many : (x y : ℕ) → length (list_of kids x) ≢ length (list_of kids y) → TypesApart x y
  types_many x y ne u v p q i j up vq li lj ix jy match =
      let s = term_of u p i up li in
      let t = term_of v q j vq lj in
      let grown = match_grown u v p.types q.types i j s t match in
      let count = kid_count (MayBeOne units) u v (types_of p.types) (types_of q.types) (get_or nodes u 0) (get_or tag_starts u 0) (get_or nodes v 0) (get_or tag_starts v 0) s.term t.term grown in
      absurd (ne (ap (λ n. length (list_of kids n)) (sym ix) ∙ (ap length (kids_type u p i s.term up s.term_is) ∙ (count ∙ (sym (ap length (kids_type v q j t.term vq t.term_is)) ∙ ap (λ n. length (list_of kids n)) jy)))))

  tags_kid : (x y k c d : ℕ) → slice_get (list_of kids x) k ≡ Some c → slice_get (list_of kids y) k ≡ Some d → TypesApart c d → TagsApart x y
  tags_kid x y k c d at bt under a b ta tb ax by key = elim (eqb_tells (number (lead_in tag_starts next) a) (number (lead_in tag_starts next) b)) [
    | inr other ↦ next_classes.separates.apart a b ta tb key other.1
    | inl same ↦ here same.1 (slice_index_or counted (place_in tag_starts a) None) refl (h.counts.each a ta) (slice_index_or counted (place_in tag_starts b) None) refl (h.counts.each b tb)
  ]
    where
      at_a : slice_get (list_of kids (place_in tag_starts a)) k ≡ Some c
      at_a = ap (λ n. slice_get (list_of kids n) k) ax ∙ at

      at_b : slice_get (list_of kids (place_in tag_starts b)) k ≡ Some d
      at_b = ap (λ n. slice_get (list_of kids n) k) by ∙ bt

      nothing : {X : Type 0} (xs : List ℕ) (e : ℕ) → xs ≡ [] → slice_get xs k ≡ Some e → X
      nothing xs e empty there = absurd (none_some (sym (ap (λ ys. slice_get ys k) empty) ∙ there))

      here : number (lead_in tag_starts next) a ≡ number (lead_in tag_starts next) b → (o : Option ℕ) → slice_index_or counted (place_in tag_starts a) None ≡ o → CountsFor units tag_starts a o → (r : Option ℕ) → slice_index_or counted (place_in tag_starts b) None ≡ r → CountsFor units tag_starts b r → Apart units a b
      here same None ea na r eb nb = nothing (list_of kids (place_in tag_starts a)) c (kids_none a ta ea) at_a
      here same (Some g) ea ca None eb nb = nothing (list_of kids (place_in tag_starts b)) d (kids_none b tb eb) at_b
      here same (Some g) ea ca (Some i) eb cb =
          let op = own_list units ca.tag ca.list h.made ca.counts.list_is in
          let oq = own_list units cb.tag cb.list h.made cb.counts.list_is in
          let ka = kid_at (get_or nodes ca.tag.unit 0) ca.list k c (ap (λ ks. slice_get ks k) (sym (kids_counted a g ta ea ca)) ∙ at_a) in
          let kb = kid_at (get_or nodes cb.tag.unit 0) cb.list k d (ap (λ ks. slice_get ks k) (sym (kids_counted b i tb eb cb)) ∙ at_b) in
          let alike = round_listed units tag_starts type_starts leaders numbers next tags counted table table.tags h.kept h.made h.tags_are h.counts classes many_leaders round.numbered starts_are round.shown round.refined a b ca.tag cb.tag ca.list cb.list ta tb same ca.counts cb.counts in
          let knows = knows_tags units h.made in
          let joins = joins_numbers units tag_starts leaders numbers tags table.tags h.tags_are many_leaders round.numbered starts_are classes in
          let match = lists_match units (tag_in tag_starts numbers) ca.tag.unit cb.tag.unit ca.list cb.list joins (knows.each ca.tag ca.list ca.counts.list_is) (knows.each cb.tag cb.list cb.counts.list_is) alike in
          let there = match_at units (MayBeOne units) ca.tag.unit cb.tag.unit ca.list cb.list k ka.member kb.member match ka.member_is kb.member_is in
          let type_a : member_type units ca.tag.unit ka.member ≡ type_of op.unit.types ka.member.ty.0 = ap (λ (o : Option Unit). type_of (types_if o) ka.member.ty.0) op.unit_is in
          let type_b : member_type units cb.tag.unit kb.member ≡ type_of oq.unit.types kb.member.ty.0 = ap (λ (o : Option Unit). type_of (types_if o) kb.member.ty.0) oq.unit_is in
          let moved = subst (λ (z : Ctype). Matches (MayBeOne units) ca.tag.unit cb.tag.unit z (type_of oq.unit.types kb.member.ty.0)) type_a (subst (λ (z : Ctype). Matches (MayBeOne units) ca.tag.unit cb.tag.unit (member_type units ca.tag.unit ka.member) z) type_b there) in
          let told = under ca.tag.unit cb.tag.unit op.unit oq.unit ka.member.ty.0 kb.member.ty.0 op.unit_is oq.unit_is (types_in_at (length op.unit.types.terms) ca.list k ka.member op.types ka.member_is) (types_in_at (length oq.unit.types.terms) cb.list k kb.member oq.types kb.member_is) (sym ka.kid_is) (sym kb.kid_is) moved in
          let back = subst (λ (z : Ctype). Mentions ca.tag.unit cb.tag.unit told.one told.other z (member_type units cb.tag.unit kb.member)) (sym type_a) (subst (λ (z : Ctype). Mentions ca.tag.unit cb.tag.unit told.one told.other (type_of op.unit.types ka.member.ty.0) z) (sym type_b) told.mentioned) in
          mention key ca.counts cb.counts (mention_at units ca.tag.unit cb.tag.unit told.one told.other ca.list cb.list k ka.member kb.member ka.member_is kb.member_is back) told.apart

  types_kid : (x y k c d : ℕ) → slice_get (list_of kids x) k ≡ Some c → slice_get (list_of kids y) k ≡ Some d → Distinct first kids c d → TagsApart c d → TypesApart c d → TypesApart x y
  types_kid x y k c d at bt distinct tags_under types_under u v p q i j up vq li lj ix jy match =
      let s = term_of u p i up li in
      let t = term_of v q j vq lj in
      let grown = match_grown u v p.types q.types i j s t match in
      let at_s : slice_get (term_kids (get_or nodes u 0) (get_or tag_starts u 0) s.term) k ≡ Some c = ap (λ ks. slice_get ks k) (sym (kids_type u p i s.term up s.term_is) ∙ ap (list_of kids) ix) ∙ at in
      let at_t : slice_get (term_kids (get_or nodes v 0) (get_or tag_starts v 0) t.term) k ≡ Some d = ap (λ ks. slice_get ks k) (sym (kids_type v q j t.term vq t.term_is) ∙ ap (list_of kids) jy) ∙ bt in
      elim (kid_case (MayBeOne units) u v (types_of p.types) (types_of q.types) (get_or nodes u 0) (get_or tag_starts u 0) (get_or nodes v 0) (get_or tag_starts v 0) s.term t.term k c d at_s at_t) [
        | inl r ↦
            let to_lt = r.first_below i s.after in
            let from_lt = r.second_below j t.after in
            let told = types_under u v p q r.to r.from up vq (omega arith) (omega arith) (sym r.first) (sym r.second) (r.match grown) in
            record { one = told.one; other = told.other; mentioned = mention_back u v p.types q.types i j s t told.one told.other (r.mention told.one told.other told.mentioned); apart = told.apart }
        | inr rest ↦ elim rest [
          | inr none ↦ absurd (none grown)
          | inl r ↦ elim (r.match grown) [
            | inl e ↦ absurd (distinct_other first kids c d distinct (r.first ∙ (ap (place_in tag_starts) e ∙ sym r.second)))
            | inr key ↦ record {
              one = item u r.own;
              other = item v r.other;
              mentioned = mention_back u v p.types q.types i j s t (item u r.own) (item v r.other) r.mention;
              apart = tags_under (item u r.own) (item v r.other) (tag_of_unit units (item u r.own) p up (r.first_known p.types.tags s.tag)) (tag_of_unit units (item v r.other) q vq (r.second_known q.types.tags t.tag)) (sym r.first) (sym r.second) key;
            }
          ]
        ]
      ]

  nodes_apart : (x y : ℕ) → Distinct first kids x y → TagsApart x y × TypesApart x y
  nodes_apart x y (begin ne) = (tags_begin x y ne, types_begin x y ne)
  nodes_apart x y (many ne) = (tags_many x y ne, types_many x y ne)
  nodes_apart x y (kid k c d at bt under) = (let ih = nodes_apart c d under in (tags_kid x y k c d at bt ih.1, types_kid x y k c d at bt under ih.0 ih.1))

  class_many : length next ≤ length spread.class
  class_many = (let a = spread.parted.all in let b = length-append next (map (λ k. length next + k) firsts) in omega arith)

  key_at : (g : ℕ) → g < length next → slice_get keys g ≡ Some (Some (get_or spread.class g 0 ∷ []))
  key_at g lt =
      let m = class_many in
      slice_get-map (λ c. Some (c ∷ [])) (take (length next) spread.class) g
      ∙ ap (option_map (λ c. Some (c ∷ []))) (taken (length next) spread.class g lt ∙ slice_get-get_or spread.class g 0 (omega arith))

  key_lt : (g : ℕ) → g < length next → g < length keys
  key_lt g lt = slice_get_within keys g (Some (get_or spread.class g 0 ∷ [])) (key_at g lt)

  class_same : (g i : ℕ) → g < length next → i < length next → get_or now g 0 ≡ get_or now i 0 → get_or spread.class g 0 ≡ get_or spread.class i 0
  class_same g i lg li e = elim (alike_if_one keys now spread.alike g i (key_lt g lg) (key_lt i li) e) [
    | inl same ↦ ap (λ n. get_or spread.class n 0) same
    | inr share ↦ one_class (sym (key_at g lg) ∙ share.first) (sym (key_at i li) ∙ share.second)
  ]

  now_same : (g i : ℕ) → g < length next → i < length next → get_or spread.class g 0 ≡ get_or spread.class i 0 → get_or now g 0 ≡ get_or now i 0
  now_same g i lg li e = one_if_alike keys now spread.alike g i (key_lt g lg) (key_lt i li) (inr (record { label = get_or spread.class g 0 ∷ []; first = key_at g lg; second = key_at i li ∙ ap (λ c. Some (Some (c ∷ []))) (sym e) }))

  first_lt : (g : ℕ) → g < length next → g < length first
  first_lt g lt = (let b = length-append next (map (λ k. length next + k) firsts) in omega arith)

  next_same : (g i : ℕ) → g < length next → i < length next → get_or spread.class g 0 ≡ get_or spread.class i 0 → get_or next g 0 ≡ get_or next i 0
  next_same g i lg li e = sym (first_at g lg) ∙ (sym (spread.parted.begun g (first_lt g lg)) ∙ (ap (λ n. get_or first n 0) e ∙ (spread.parted.begun i (first_lt i li) ∙ first_at i li)))

  kids_same : (a b : Item) (list : List MemberTerm) → IsTag units a → IsTag units b → CountsAs units a b list → list_of kids (place_in tag_starts a) ≡ list_of kids (place_in tag_starts b)
  kids_same a b list ta tb x =
      let ca = counted_is units tag_starts counted a b list h.kept h.counts ta x in
      let cb = counted_is units tag_starts counted b b list h.kept h.counts tb (record { list_is = x.list_is; which = inl refl }) in
      kids_tag a ta ∙ (ap (tag_kids units nodes tags) (ca.place ∙ sym cb.place) ∙ sym (kids_tag b tb))

  pub spread_classes : AreClasses units tag_starts now
  spread_classes = record {
    lead = alike_leaders keys now spread.alike;
    joins = record { one = λ a b ta tb e. next_classes.joins.one a b ta tb (next_same (place_in tag_starts a) (place_in tag_starts b) (place_lt a ta) (place_lt b tb) (class_same (place_in tag_starts a) (place_in tag_starts b) (place_lt a ta) (place_lt b tb) e)) };
    separates = record {
      apart = λ a b ta tb key ne.
          (nodes_apart (place_in tag_starts a) (place_in tag_starts b) (spread.parted.parts (place_in tag_starts a) (place_in tag_starts b) (first_lt (place_in tag_starts a) (place_lt a ta)) (first_lt (place_in tag_starts b) (place_lt b tb)) (λ e.
          ne (now_same (place_in tag_starts a) (place_in tag_starts b) (place_lt a ta) (place_lt b tb) e)))).0 a b ta tb refl refl key;
    };
    together = λ a b list ta tb x.
        let pa = place_in tag_starts a in
        let pb = place_in tag_starts b in
        let la = place_lt a ta in
        let lb = place_lt b tb in
        now_same pa pb la lb (spread.parted.alike pa pb (first_lt pa la) (first_lt pb lb) (first_at pa la ∙ (next_classes.together a b list ta tb x ∙ sym (first_at pb lb))) (kids_same a b list ta tb x));
  }

  pub spread_finer : AreFiner next now
  spread_finer = record {
    all = now_many;
    up = λ k lt.
        let leads = spread.alike.each k (key_lt k lt) in
        let below = leads.first k (inl refl) in
        let lg : get_or now k 0 < length next = omega arith in
        let same = next_same k (get_or now k 0) lt lg (class_same k (get_or now k 0) lt lg (sym ((alike_leaders keys now spread.alike).itself k (let m = now_many in omega arith)))) in
        let low = next_classes.lead.below (get_or now k 0) lg in
        omega arith;
    below = λ k lt.
        let m = now_many in
        let leads = spread.alike.each k (key_lt k (omega arith)) in
        let below = leads.first k (inl refl) in
        omega arith;
  }
    where
      now_many : length now ≡ length next
      now_many =
          let a = spread.alike.all in
          let b = length-map (take (length next) spread.class) (λ c. Some (c ∷ [])) in
          let c = length-take-le (length next) spread.class class_many in
          omega arith

-- The leaders that were spread are classes, none of them wider than before.
pub told_right : (units : List Unit) (type_starts tag_starts leaders numbers next now : List ℕ) (tags : List Item) (counted : List (Option ℕ)) (table : Table) (kids : List (List ℕ)) → AreCollected units type_starts tag_starts tags counted → AreClasses units tag_starts leaders
    → length leaders ≡ length tags → IsRound units type_starts tag_starts tags counted leaders numbers next table → kids ≡ all_kids units (map (λ s. length tags + s) type_starts) tag_starts tags counted → IsTold table next kids now
    → AreClasses units tag_starts now × AreFiner next now
told_right units type_starts tag_starts leaders numbers next now tags counted table kids h classes as_many round are told =
    let a = round.refined.alike.all in
    let b = round.refined.keys_are.all in
    let m : length next ≡ length tags = omega arith in
    let all : kids ≡ all_kids units (map (λ s. length next + s) type_starts) tag_starts tags counted = are ∙ ap (λ n. all_kids units (map (λ s. n + s) type_starts) tag_starts tags counted) (sym m) in
    let spread = subst (λ (ks : List (List ℕ)). IsSpread next told.firsts ks now) all told.spread in (
      spread_classes units type_starts tag_starts leaders numbers next told.firsts now tags counted table h classes as_many round told.firsts_are spread,
      spread_finer units type_starts tag_starts leaders numbers next told.firsts now tags counted table h classes as_many round told.firsts_are spread,
    )
