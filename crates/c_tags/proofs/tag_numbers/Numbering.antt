-- Numbers of tags, one specifier more at a time.
use Rattle.std.proofs.Common.{arith, ◌≡◌, ℕ, zero, suc, ◌+◌, ◌<◌, ◌≤◌, Bool, true, false, ◌&&◌, List, [], ◌∷◌, ◌++◌, Option, Some, None, cond, refl, sym, ap, ◌∙◌, ◌⊎◌, inl, inr, subst, length, length-append}
use Rattle.std.specs.Prelude.{◌==◌, slice_index, max, position, unwrap_or, nat_lt, is_none}
use Rattle.std.proofs.lemmas.Bool.Decides.{nat_tests, leb_tells}
use Rattle.std.proofs.lemmas.Bool.{eq-eqb, ne_eqb, lt-ltb}
use Rattle.std.proofs.lemmas.List.{get_or_append_left}
use Rattle.c_grammar.specs.Productions.{p_struct}
use Rattle.c_senses.specs.Tree.{Source, is_a, numbers_from}
use Rattle.c_senses.specs.Names.{numbered}
use Rattle.c_senses.specs.Tags.{is_tag_specifier, tag_declared, tag_of, tags_among, tags_below}
use Rattle.c_tags.specs.declared.specifiers.SeenTag.{SeenTag}
use Rattle.c_tags.specs.Seen.{IsSeen}
use Rattle.c_senses.specs.Right.{is_tag, TagsDiffer}
use Rattle.tree_reads.specs.leaf_maps.Numbers.{number_at}
use Rattle.c_tags.specs.declared.tag_numbers.seen.SeenTags.{SeenTags}
use Rattle.c_tags.specs.tag_numbers.Numbers.{AreNumbered, AreSeen, seen_in}
use Rattle.c_tags.specs.tag_numbers.Known.{AreTagNumbers}
use Rattle.c_tags.specs.tag_numbers.Ordered.{AreInOrder}
use Rattle.c_tags.proofs.tag_numbers.Listing.{any_here, any_found}
use Rattle.c_tags.proofs.tag_numbers.Ordering.{first_not, first_here, not_structure, not_again, is_new, place_is, no_place}

below_or_here : (j i : ℕ) → j < i + 1 → (j < i) ⊎ (j ≡ i)
below_or_here j i h = elim (leb_tells (suc j) i) [ inl less ↦ let lt = less.1 in inl (omega arith) | inr more ↦ let ge = more.1 in inr (omega arith) ]

same_or_not : (a b : ℕ) → (a ≡ b) ⊎ (a ≡ b → ⊥)
same_or_not a b = elim (leb_tells (suc a) b) [
  | inl less ↦ let lt = less.1 in inr (λ e. omega arith)
  | inr more ↦ let ge = more.1 in elim (leb_tells (suc b) a) [ inl l ↦ let lt = l.1 in inr (λ e. omega arith) | inr m ↦ let le = m.1 in inl (omega arith) ]
]

module _ (s : Source) (numbers : ℕ → Option ℕ) (firsts : List ℕ) (i : ℕ) (are : AreNumbered s numbers firsts i) where
  -- a node that is no specifier of a structure or union
  pub numbered_skip : is_a s p_struct i ≡ false → AreNumbered s numbers firsts (i + 1)
  numbered_skip not_one = record {
    each = λ j h t. elim (below_or_here j i h) [ inl less ↦ are.each j less t | inr same ↦ absurd (let u : is_a s p_struct i ≡ true = ap (is_a s p_struct) (sym same) ∙ t in cc) ];
    back = are.back;
    firsts_are = λ k h. (omega (arith, (are.firsts_are k h).0), (are.firsts_are k h).1);
    known = are.known;
    least = λ j k h t e. elim (below_or_here j i h) [ inl less ↦ are.least j k less t e | inr same ↦ absurd (let u : is_a s p_struct i ≡ true = ap (is_a s p_struct) (sym same) ∙ t in cc) ];
    within = are.within;
    all = are.all ∙ sym (first_not s i (not_structure s i not_one));
  }

  -- a specifier whose tag has a number
  pub numbered_again : (n : ℕ) → numbers (tag_declared s i) ≡ Some n → AreNumbered s numbers firsts (i + 1)
  numbered_again n known = record {
    each = λ j h t. elim (below_or_here j i h) [ inl less ↦ are.each j less t | inr same ↦ (n, ap (λ (x : ℕ). numbers (tag_declared s x)) same ∙ known) ];
    back = are.back;
    firsts_are = λ k h. (omega (arith, (are.firsts_are k h).0), (are.firsts_are k h).1);
    known = are.known;
    least = λ j k h t e. elim (below_or_here j i h) [
      | inl less ↦ are.least j k less t e
      | inr same ↦ omega (arith, (are.firsts_are k ((are.back (tag_declared s j) k e).0)).0)
    ];
    within = are.within;
    all =
        let b = are.back (tag_declared s i) n known in
        let f = are.firsts_are n b.0 in
        are.all ∙ sym (first_not s i (not_again s i (slice_index firsts n) f.0 f.1 b.1));
  }

index_left : (xs : List ℕ) (y k : ℕ) → k < length xs → slice_index (xs ++ y ∷ []) k ≡ slice_index xs k
index_left xs y k h = get_or_append_left xs (y ∷ []) 0 k h

index_last : (xs : List ℕ) (y : ℕ) → slice_index (xs ++ y ∷ []) (length xs) ≡ y
index_last [] y = refl
index_last (x ∷ xs) y = index_last xs y

module _ (s : Source) (numbers more : ℕ → Option ℕ) (firsts : List ℕ) (i : ℕ) (are : AreNumbered s numbers firsts i) (d : ℕ) (declared : tag_declared s i ≡ d) (no_number : numbers d ≡ None) (here : more d ≡ Some (length firsts)) (others : (q : ℕ) → (d ≡ q → ⊥) → more q ≡ numbers q) (structure : is_a s p_struct i ≡ true) (inside : d < length s.nodes) where
  long : length (firsts ++ i ∷ []) ≡ length firsts + 1
  long = omega (arith, length-append firsts (i ∷ []))

  kept : (q k : ℕ) → numbers q ≡ Some k → more q ≡ Some k
  kept q k e = elim (same_or_not d q) [ inl same ↦ absurd (let f : numbers q ≡ None = ap numbers (sym same) ∙ no_number in cc) | inr differ ↦ others q differ ∙ e ]

  was : (q k : ℕ) → more q ≡ Some k → ((numbers q ≡ Some k) × (k < length firsts)) ⊎ ((d ≡ q) × (k ≡ length firsts))
  was q k e = elim (same_or_not d q) [
    | inl same ↦ inr (same, let f : more q ≡ Some (length firsts) = ap more (sym same) ∙ here in cc)
    | inr differ ↦ let f : numbers q ≡ Some k = sym (others q differ) ∙ e in inl (f, (are.back q k f).0)
  ]

  -- a specifier whose tag gets the next number
  pub numbered_new : AreNumbered s more (firsts ++ i ∷ []) (i + 1)
  numbered_new = record {
    each = λ j h t. elim (below_or_here j i h) [
      | inl less ↦ let (k, e) = are.each j less t in (k, kept (tag_declared s j) k e)
      | inr same ↦ (length firsts, ap (λ (x : ℕ). more (tag_declared s x)) same ∙ (ap more declared ∙ here))
    ];
    back = λ q k e. elim (was q k e) [
      | inl old ↦ (omega (arith, long, old.1), ap (tag_declared s) (index_left firsts i k old.1) ∙ (are.back q k old.0).1)
      | inr new ↦ (omega (arith, long, new.1), ap (λ (x : ℕ). tag_declared s (slice_index (firsts ++ i ∷ []) x)) new.1 ∙ (ap (tag_declared s) (index_last firsts i) ∙ (declared ∙ new.0)))
    ];
    firsts_are = λ k h. elim (below_or_here k (length firsts) (omega (arith, long))) [
      | inl less ↦ let e = index_left firsts i k less in (omega (arith, e, (are.firsts_are k less).0), ap (is_a s p_struct) e ∙ (are.firsts_are k less).1)
      | inr same ↦ let e : slice_index (firsts ++ i ∷ []) k ≡ i = ap (λ (x : ℕ). slice_index (firsts ++ i ∷ []) x) same ∙ index_last firsts i in (omega (arith, e), ap (is_a s p_struct) e ∙ structure)
    ];
    known = λ k h. elim (below_or_here k (length firsts) (omega (arith, long))) [
      | inl less ↦ let e = index_left firsts i k less in ap (λ (x : ℕ). more (tag_declared s x)) e ∙ kept (tag_declared s (slice_index firsts k)) k (are.known k less)
      | inr same ↦ let e : slice_index (firsts ++ i ∷ []) k ≡ i = ap (λ (x : ℕ). slice_index (firsts ++ i ∷ []) x) same ∙ index_last firsts i in ap (λ (x : ℕ). more (tag_declared s x)) e ∙ (ap more declared ∙ (here ∙ ap Some (sym same)))
    ];
    least = λ j k h t e. elim (was (tag_declared s j) k e) [
      | inl old ↦ elim (below_or_here j i h) [
        | inl less ↦ omega (arith, index_left firsts i k old.1, are.least j k less t old.0)
        | inr same ↦ omega (arith, index_left firsts i k old.1, (are.firsts_are k old.1).0)
      ]
      | inr new ↦ elim (below_or_here j i h) [
        | inl less ↦ let (m, f) = are.each j less t in absurd (let g : numbers (tag_declared s j) ≡ None = ap numbers (sym new.0) ∙ no_number in cc)
        | inr same ↦ let f : slice_index (firsts ++ i ∷ []) k ≡ i = ap (λ (x : ℕ). slice_index (firsts ++ i ∷ []) x) new.1 ∙ index_last firsts i in omega (arith, f)
      ]
    ];
    within = λ k h. elim (below_or_here k (length firsts) (omega (arith, long))) [
      | inl less ↦ let e : tag_declared s (slice_index (firsts ++ i ∷ []) k) ≡ tag_declared s (slice_index firsts k) = ap (tag_declared s) (index_left firsts i k less) in omega (arith, e, are.within k less)
      | inr same ↦ let e : tag_declared s (slice_index (firsts ++ i ∷ []) k) ≡ d = ap (λ (x : ℕ). tag_declared s (slice_index (firsts ++ i ∷ []) x)) same ∙ (ap (tag_declared s) (index_last firsts i) ∙ declared) in omega (arith, e)
    ];
    all =
        ap (λ (list : List ℕ). list ++ i ∷ []) are.all
        ∙ sym (first_here s i (is_new s i structure (λ j lt t same.
        let (k, e) = are.each j lt t in
        let f : numbers (tag_declared s j) ≡ None = ap numbers (same ∙ declared) ∙ no_number in
        cc)));
  }

pub numbered_none : (s : Source) (numbers : ℕ → Option ℕ) → ((q : ℕ) → numbers q ≡ None) → AreNumbered s numbers [] 0
numbered_none s numbers none = record {
  each = λ j h t. absurd (omega arith);
  back = λ d k e. absurd (let f = none d in cc);
  firsts_are = λ k h. absurd (omega arith);
  known = λ k h. absurd (omega arith);
  least = λ j k h t e. absurd (omega arith);
  within = λ k h. absurd (omega arith);
  all = refl;
}

same_number : (n : ℕ) → (n == n) ≡ true
same_number n = grind (arith, nat_tests)

-- a number above those of all tags among some nodes
among_below : (s : Source) (c k n : ℕ) → ((i : ℕ) → k ≤ i → i < k + n → is_a s p_struct i ≡ true → tag_of s i < c) → tags_among s (numbers_from k n) ≤ c
among_below s c k zero h = omega arith
among_below s c k (suc n) h =
    let rest : tags_among s (numbers_from (suc k) n) ≤ c = among_below s c (suc k) n (λ i low high t. h i (omega arith) (omega arith) t) in
    elim (is_a s p_struct k) as (λ b. is_a s p_struct k ≡ b → cond b (max (suc (tag_of s k)) (tags_among s (numbers_from (suc k) n))) (tags_among s (numbers_from (suc k) n)) ≤ c) [
      | true ↦ λ t. omega (arith, h k (omega arith) (omega arith) t)
      | false ↦ λ t. rest
    ] refl

-- each number of a tag is below it
among_from_below : (s : Source) (k n i : ℕ) → k ≤ i → i < k + n → is_a s p_struct i ≡ true → tag_of s i < tags_among s (numbers_from k n)
among_from_below s k zero i low high t = absurd (omega arith)
among_from_below s k (suc n) i low high t =
    elim (same_or_not k i) [
      | inl same ↦
          let here : is_a s p_struct k ≡ true = ap (is_a s p_struct) same ∙ t in
          let e : tags_among s (numbers_from k (suc n)) ≡ max (suc (tag_of s k)) (tags_among s (numbers_from (suc k) n)) = ap (λ (b : Bool). cond b (max (suc (tag_of s k)) (tags_among s (numbers_from (suc k) n))) (tags_among s (numbers_from (suc k) n))) here in
          let f : tag_of s k ≡ tag_of s i = ap (tag_of s) same in
          omega (arith, e, f)
      | inr differ ↦
          let rest : tag_of s i < tags_among s (numbers_from (suc k) n) = among_from_below s (suc k) n i (omega arith) (omega arith) t in
          elim (is_a s p_struct k) as (λ b. tag_of s i < cond b (max (suc (tag_of s k)) (tags_among s (numbers_from (suc k) n))) (tags_among s (numbers_from (suc k) n))) [
            | true ↦ omega arith
            | false ↦ rest
          ]
    ]

-- what follows for the source with these numbers
module _ (s : Source) (numbers : ℕ → Option ℕ) (firsts : List ℕ) (number : ℕ → ℕ) (are : AreNumbered s numbers firsts (length s.nodes)) (number_of : (d : ℕ) → number d ≡ cond (nat_lt d (length s.nodes)) (unwrap_or (numbers d) 0) d) where
  abbrev with_numbers : Source
  with_numbers = numbered number s

  -- the number of a tag
  pub number_is : (d k : ℕ) → numbers d ≡ Some k → with_numbers.tag_number d ≡ k
  number_is d k e =
      let b = are.back d k e in
      let inside : d < length s.nodes = omega (arith, b.1, are.within k b.0) in
      number_of d
      ∙ (ap (λ (b : Bool). cond b (unwrap_or (numbers d) 0) d) (lt-ltb d (length s.nodes) inside) ∙ ap (λ (o : Option ℕ). unwrap_or o 0) e)

  -- a tag is known by a number
  tag_known : (d : ℕ) → is_tag with_numbers d ≡ true → (k : ℕ) × (numbers d ≡ Some k)
  tag_known d t =
      let (i, inside, both) = any_found (λ i. is_a s p_struct i && (tag_declared s i == d)) (length s.nodes) t in
      let same : tag_declared s i ≡ d = grind (arith, nat_tests, both) in
      let structure : is_a s p_struct i ≡ true = and_left (is_a s p_struct i) (tag_declared s i == d) both in
      let (k, e) = are.each i inside structure in
      (k, ap numbers (sym same) ∙ e)
    where
      and_left : (a b : Bool) → (a && b) ≡ true → a ≡ true
      and_left true b h = refl
      and_left false b h = h

  pub differ : TagsDiffer with_numbers
  differ c d tc td e =
      let (k, ek) = tag_known c tc in
      let (m, em) = tag_known d td in
      let same : k ≡ m = sym (number_is c k ek) ∙ (e ∙ number_is d m em) in
      let back : tag_declared s (slice_index firsts m) ≡ d = (are.back d m em).1 in
      sym (are.back c k ek).1 ∙ (ap (λ (x : ℕ). tag_declared s (slice_index firsts x)) same ∙ back)

  pub number_below : (d : ℕ) → is_tag with_numbers d ≡ true → with_numbers.tag_number d < length firsts
  number_below d t = let (k, e) = tag_known d t in let f = number_is d k e in omega (arith, f, (are.back d k e).0)

  pub onto : (n : ℕ) → n < length firsts → (d : ℕ) × (is_tag with_numbers d ≡ true) × (with_numbers.tag_number d ≡ n)
  onto n h =
      let i = slice_index firsts n in
      let f = are.firsts_are n h in
      let passes : (is_a s p_struct i && (tag_declared s i == tag_declared s i)) ≡ true = ap (λ (b : Bool). b && (tag_declared s i == tag_declared s i)) f.1 ∙ same_number (tag_declared s i) in
      (tag_declared s i, any_here (λ j. is_a s p_struct j && (tag_declared s j == tag_declared s i)) (length s.nodes) i f.0 passes, number_is (tag_declared s i) n (are.known n h))

  each_below : (i : ℕ) → i < length s.nodes → is_a s p_struct i ≡ true → tag_of with_numbers i < length firsts
  each_below i h t = let (k, e) = are.each i h t in let f = number_is (tag_declared s i) k e in omega (arith, f, (are.back (tag_declared s i) k e).0)

  count_to : (n : ℕ) → n ≤ length firsts → n ≤ tags_below with_numbers
  count_to zero h = omega arith
  count_to (suc n) h =
      let i = slice_index firsts n in
      let f = are.firsts_are n (omega arith) in
      let e : tag_of with_numbers i ≡ n = number_is (tag_declared s i) n (are.known n (omega arith)) in
      omega (arith, e, among_from_below with_numbers 0 (length s.nodes) i (omega arith) (omega (arith, f.0)) f.1)

  -- tags are the numbers below their count
  pub count : length firsts ≡ tags_below with_numbers
  count = omega (arith, count_to (length firsts) (omega arith), among_below with_numbers (length firsts) 0 (length s.nodes) (λ i low high t. each_below i (omega arith) t))

  -- the number of a tag is the place of its first specifier
  is_of : ℕ → ℕ → Bool
  is_of d i = tag_declared s i == d

  place_by : (d : ℕ) (o : Option ℕ) → numbers d ≡ o → position (is_of d) firsts ≡ o
  unfolding is_of
  place_by d None e = no_place (is_of d) firsts (λ j h. ne_eqb (tag_declared s (slice_index firsts j)) d (λ same. let f : numbers d ≡ Some j = ap numbers (sym same) ∙ are.known j h in cc))
  place_by d (Some k) e =
      let b = are.back d k e in
      place_is (is_of d) firsts k b.0 (eq-eqb (tag_declared s (slice_index firsts k)) d b.1)
      (λ j h. ne_eqb (tag_declared s (slice_index firsts j)) d (λ same.
      let f : numbers d ≡ Some j = ap numbers (sym same) ∙ are.known j (omega (arith, b.0)) in
      let g : j ≡ k = cc in
      omega (arith, g)))

  in_order : AreInOrder with_numbers
  unfolding is_of
  in_order = record {
    each = λ d.
        number_of d
        ∙ ap (λ (o : Option ℕ). cond (nat_lt d (length s.nodes)) (unwrap_or o 0) d) (sym (place_by d (numbers d) refl) ∙ ap (λ (xs : List ℕ). position (λ i. tag_declared s i == d) xs) are.all);
  }

  -- all that is known of the numbers
  pub tag_numbers : AreTagNumbers with_numbers firsts
  tag_numbers = record {
    count = count;
    differ = differ;
    below = number_below;
    onto = onto;
    firsts_are = λ n h. ((are.firsts_are n h).1, number_is (tag_declared s (slice_index firsts n)) n (are.known n h));
    least = λ i h t.
        let (k, e) = are.each i h t in
        let f : tag_of with_numbers i ≡ k = number_is (tag_declared s i) k e in
        let g : slice_index firsts (tag_of with_numbers i) ≡ slice_index firsts k = ap (slice_index firsts) f in
        omega (arith, g, are.least i k h t e);
    ordered = in_order;
  }

abbrev seen_by : Option ℕ → Option ℕ → SeenTag
seen_by number unfit = record { number = unwrap_or number 0; fits = is_none unfit }

pub seen_none : (s : Source) (seen : SeenTags) → ((q : ℕ) → number_at seen.numbers q ≡ None) → ((q : ℕ) → number_at seen.unfit q ≡ None) → AreSeen s seen 0
seen_none s seen numbers unfit = record { each = λ j h t. absurd (omega arith); later = λ j h. (numbers j, unfit j) }

-- what is known of one node's tag more
pub seen_skip : (s : Source) (seen : SeenTags) (i : ℕ) → AreSeen s seen i → is_tag_specifier s i ≡ false → AreSeen s seen (i + 1)
seen_skip s seen i are not_one = record {
  each = λ j h t. elim (below_or_here j i h) [
    | inl less ↦ are.each j less t
    | inr same ↦ absurd (let u : is_tag_specifier s i ≡ true = ap (is_tag_specifier s) (sym same) ∙ t in cc)
  ];
  later = λ j h. are.later j (omega arith);
}

pub seen_next : (s : Source) (old new : SeenTags) (tag : SeenTag) (i : ℕ) → AreSeen s old i → (number_at old.numbers i ≡ None → number_at old.unfit i ≡ None → seen_in new i ≡ tag) → ((q : ℕ) → (i ≡ q → ⊥) → number_at new.numbers q ≡ number_at old.numbers q) → ((q : ℕ) → (i ≡ q → ⊥) → number_at new.unfit q ≡ number_at old.unfit q) → IsSeen s i tag → AreSeen s new (i + 1)
seen_next s old new tag i are here others fitting is = record {
  each = λ j h t. elim (below_or_here j i h) [
    | inl less ↦
        let apart : i ≡ j → ⊥ = λ e. omega arith in
        let same : seen_in new j ≡ seen_in old j =
        ap (λ (o : Option ℕ). seen_by o (number_at new.unfit j)) (others j apart) ∙ ap (λ (o : Option ℕ). seen_by (number_at old.numbers j) o) (fitting j apart) in
        subst (λ (x : SeenTag). IsSeen s j x) (sym same) (are.each j less t)
    | inr same ↦
        let free = are.later i (omega arith) in
        let known : seen_in new i ≡ tag = here free.0 free.1 in
        subst (λ (k : ℕ). IsSeen s k (seen_in new k)) (sym same) (subst (λ (x : SeenTag). IsSeen s i x) (sym known) is)
  ];
  later = λ j h.
      let apart : i ≡ j → ⊥ = λ e. omega arith in
      let free = are.later j (omega arith) in
      (others j apart ∙ free.0, fitting j apart ∙ free.1);
}
