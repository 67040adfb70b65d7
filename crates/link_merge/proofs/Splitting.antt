-- Nodes of one list, told apart by their keys.
use Rattle.std.proofs.Common.{arith, ◌≡◌, ◌≢◌, ℕ, zero, suc, ◌+◌, ◌<◌, ◌⊎◌, inl, inr, List, [], ◌∷◌, ◌++◌, length, map, get_or, refl, ap, sym, ◌∙◌, subst, All, Some, None, Option, get_or-set_same, get_or-set_other}
use Rattle.std.specs.Global.{Vec}
use Rattle.std.specs.List.{slice_get, slice_set}
use Rattle.std.specs.Option.{option_map}
use Rattle.std.proofs.lemmas.Bool.{cases_lt}
use Rattle.std.proofs.lemmas.Bool.Decides.{eqb_tells}
use Rattle.std.proofs.lemmas.List.{length-map, get_or_past}
use Rattle.std.proofs.lemmas.Option.{slice_get-map, slice_get_within, slice_get_read, slice_get-get_or, get_or_from_slice_get}
use Rattle.c_types.proofs.Push.{slice_get_push, slice_get_left}
use Rattle.link_model.specs.link_types.Leaders.{AreLeaders}
use Rattle.unit_link.specs.link_program.Alike.{AreAlike}
use Rattle.unit_link.proofs.link_program.Leading.{one_if_alike}
use Rattle.link_merge.specs.Parted.{lists_of, list_of, Lists, Distinct, begin, many, kid, AreParted, MembersUpTo, AreNodes, node_key, IsRenumbered, IsSplit}

some_one : {X : Type 0} → {x y : X} → ◌≡◌ {A = Option X} (Some x) (Some y) → x ≡ y
some_one h = cc

none_some : {X : Type 0} → {x : X} → ◌≡◌ {A = Option X} None (Some x) → ⊥
none_some h = cc

-- the last of a list
at_end : (xs : List ℕ) (x : ℕ) → slice_get (xs ++ x ∷ []) (length xs) ≡ Some x
at_end [] x = refl
at_end (y ∷ ys) x = at_end ys x

length_set : {X : Type 0} (xs : List X) (i : ℕ) (x : X) → length (slice_set xs i x) ≡ length xs
length_set [] i x = refl
length_set (y ∷ ys) zero x = refl
length_set (y ∷ ys) (suc i) x = ap suc (length_set ys i x)

-- the lists of the first so many nodes, with one node more
pub members_more : (first : List ℕ) (lists : List (List ℕ)) (i l : ℕ) → MembersUpTo first lists i → get_or first i 0 ≡ l → l < length lists → MembersUpTo first (slice_set lists l (list_of lists l ++ i ∷ [])) (i + 1)
members_more first lists i l h first_is lt = record {
  many = length_set lists l (list_of lists l ++ i ∷ []) ∙ h.many;
  whole = λ x less. elim (cases_lt x i) [
    | inl before ↦ old x (h.whole x before)
    | inr ge ↦ (let same : x ≡ i = omega arith in last x same)
  ];
  own = λ k x at. elim (eqb_tells k l) [
    | inr other ↦
        let kept : list_of now k ≡ list_of lists k = get_or-set_other lists l k (list_of lists l ++ i ∷ []) [] other.1 in
        let before = h.own k x (at.0, ap (λ xs. slice_get xs at.0) (sym kept) ∙ at.1) in
        (omega (arith, before.0), before.1)
    | inl same ↦
        let here : list_of now k ≡ list_of lists l ++ i ∷ [] = ap (list_of now) same.1 ∙ get_or-set_same lists l (list_of lists l ++ i ∷ []) [] lt in
        elim (slice_get_push (list_of lists l) i at.0 x (ap (λ xs. slice_get xs at.0) (sym here) ∙ at.1)) [
          | inl there ↦ (let before = h.own l x (at.0, there.1) in (omega (arith, before.0), before.1 ∙ sym same.1))
          | inr new ↦ (let e : x ≡ i = new.1 in (omega arith, ap (λ n. get_or first n 0) e ∙ (first_is ∙ sym same.1)))
        ]
  ];
}
  where
    now : List (List ℕ)
    now = slice_set lists l (list_of lists l ++ i ∷ [])

    old : (x : ℕ) → Lists (list_of lists (get_or first x 0)) x → Lists (list_of now (get_or first x 0)) x
    old x at = elim (eqb_tells (get_or first x 0) l) [
      | inr other ↦ (at.0, ap (λ xs. slice_get xs at.0) (get_or-set_other lists l (get_or first x 0) (list_of lists l ++ i ∷ []) [] other.1) ∙ at.1)
      | inl same ↦ (
        at.0,
        ap (λ xs. slice_get xs at.0) (ap (list_of now) same.1 ∙ get_or-set_same lists l (list_of lists l ++ i ∷ []) [] lt)
            ∙ slice_get_left (list_of lists l) i at.0 x (ap (λ k. slice_get (list_of lists k) at.0) (sym same.1) ∙ at.1),
      )
    ]

    last : (x : ℕ) → x ≡ i → Lists (list_of now (get_or first x 0)) x
    last x same = (
      length (list_of lists l),
      ap (λ xs. slice_get xs (length (list_of lists l))) (ap (list_of now) (ap (λ n. get_or first n 0) same ∙ first_is) ∙ get_or-set_same lists l (list_of lists l ++ i ∷ []) [] lt)
          ∙ (at_end (list_of lists l) i ∙ ap Some (sym same)),
    )

pub renumbered_none : (old list leads : List ℕ) → IsRenumbered old old list leads 0
renumbered_none old list leads = record { many = refl; each = λ x. inl (refl, λ j lt at. absurd (omega arith)) }

-- one node more
pub renumbered_more : (old now list leads : List ℕ) (i n leader : ℕ) → IsRenumbered old now list leads i → slice_get list i ≡ Some n → n < length old → leader ≡ get_or list (get_or leads i 0) 0 → IsRenumbered old (slice_set now n leader) list leads (i + 1)
renumbered_more old now list leads i n leader h at lt is = record {
  many = length_set now n leader ∙ h.many;
  each = λ x. elim (eqb_tells x n) [
    | inl same ↦ inr (
      i,
      (omega arith),
      at ∙ ap Some (sym same.1),
      ap (λ k. get_or (slice_set now n leader) k 0) same.1 ∙ (get_or-set_same now n leader 0 (let m = h.many in omega arith) ∙ is),
    )
    | inr other ↦ elim (h.each x) [
      | inl kept ↦ inl (
        get_or-set_other now n x leader 0 other.1 ∙ kept.0,
        λ j less there. elim (cases_lt j i) [
          | inl before ↦ kept.1 j before there
          | inr ge ↦ (let same : j ≡ i = omega arith in other.1 (some_one (sym there ∙ (ap (slice_get list) same ∙ at))))
        ],
      )
      | inr given ↦ inr (given.0, (let l = given.1 in omega arith), given.2, get_or-set_other now n x leader 0 other.1 ∙ given.3)
    ]
  ];
}

-- nodes told apart by their keys
pub split_right : (old now : List ℕ) (kids : List (List ℕ)) (list leads : List ℕ) (keys : List (Option (List ℕ))) → keys ≡ map (λ x. Some (node_key old (list_of kids x) x)) list → AreAlike keys leads → AreLeaders leads → IsRenumbered old now list leads (length list)
    → IsSplit old now kids list
split_right old now kids list leads keys are alike lead h = record {
  many = h.many;
  others = λ x none. elim (h.each x) [
    | inl kept ↦ kept.0
    | inr given ↦ absurd (none (given.0, given.2))
  ];
  decided = λ x. elim (h.each x) [
    | inl kept ↦ inr (λ at. kept.1 at.0 (slice_get_within list at.0 x at.1) at.1)
    | inr given ↦ inl (given.0, given.2)
  ];
  within = λ x at. (let g = given_to x at in (get_or leads g.0 0, slice_get-get_or list (get_or leads g.0 0) 0 (lead_lt g.0 g.1) ∙ ap Some (sym g.3)));
  alike = λ x y at bt same.
      let g = given_to x at in
      let k = given_to y bt in
      let one = one_if_alike keys leads alike g.0 k.0 (key_lt g.0 g.1) (key_lt k.0 k.1) (inr (record {
        label = node_key old (list_of kids x) x;
        first = key_at g.0 x g.2;
        second = key_at k.0 y k.2 ∙ ap (λ z. Some (Some z)) (sym same);
      })) in
      g.3 ∙ (ap (λ n. get_or list n 0) one ∙ sym k.3);
}
  where
    given_to : (x : ℕ) → Lists list x → (j : ℕ) × (j < length list) × (slice_get list j ≡ Some x) × (get_or now x 0 ≡ get_or list (get_or leads j 0) 0)
    given_to x at = elim (h.each x) [
      | inl kept ↦ absurd (kept.1 at.0 (slice_get_within list at.0 x at.1) at.1)
      | inr given ↦ given
    ]

    many_keys : length keys ≡ length list
    many_keys = ap length are ∙ length-map list (λ x. Some (node_key old (list_of kids x) x))

    key_lt : (j : ℕ) → j < length list → j < length keys
    key_lt j lt = omega (arith, many_keys)

    lead_lt : (j : ℕ) → j < length list → get_or leads j 0 < length list
    lead_lt j lt = (let all = alike.all in let m = many_keys in let b = lead.below j (omega arith) in omega arith)

    key_at : (j x : ℕ) → slice_get list j ≡ Some x → slice_get keys j ≡ Some (Some (node_key old (list_of kids x) x))
    key_at j x at = ap (λ ks. slice_get ks j) are ∙ (slice_get-map (λ n. Some (node_key old (list_of kids n) n)) list j ∙ ap (option_map (λ n. Some (node_key old (list_of kids n) n))) at)

-- the classes begin
pub parted_begun : (first : List ℕ) (kids : List (List ℕ)) → ((x : ℕ) → x < length first → get_or first (get_or first x 0) 0 ≡ get_or first x 0) → AreParted first kids first
parted_begun first kids itself = record {
  all = refl;
  begun = itself;
  parts = λ x y lx ly ne. begin ne;
  alike = λ x y lx ly same kids. same;
}

-- Two lists of kids with classes: they are the same, or not as long, or differ at a place.
record Differ (class xs ys : List ℕ) : Type 0 where
  place : ℕ
  first : ℕ
  second : ℕ
  first_is : slice_get xs place ≡ Some first
  second_is : slice_get ys place ≡ Some second
  differ : get_or class first 0 ≢ get_or class second 0

kids_compared : (class xs ys : List ℕ) → (map (λ c. get_or class c 0) xs ≡ map (λ c. get_or class c 0) ys) ⊎ ((length xs ≢ length ys) ⊎ Differ class xs ys)
kids_compared class [] [] = inl refl
kids_compared class [] (y ∷ ys) = inr (inl (λ e. (absurd (omega arith))))
kids_compared class (x ∷ xs) [] = inr (inl (λ e. (absurd (omega arith))))
kids_compared class (x ∷ xs) (y ∷ ys) = elim (eqb_tells (get_or class x 0) (get_or class y 0)) [
  | inr other ↦ inr (inr (record { place = 0; first = x; second = y; first_is = refl; second_is = refl; differ = other.1 }))
  | inl same ↦ elim (kids_compared class xs ys) [
    | inl rest ↦ inl (ap (λ c. c ∷ map (λ n. get_or class n 0) xs) same.1 ∙ ap (λ cs. get_or class y 0 ∷ cs) rest)
    | inr rest ↦ elim rest [
      | inl long ↦ inr (inl (λ e. long (omega arith)))
      | inr d ↦ inr (inr (record { place = suc d.place; first = d.first; second = d.second; first_is = d.first_is; second_is = d.second_is; differ = d.differ }))
    ]
  ]
]

-- Nodes with different keys are distinct.
keys_distinct : (first : List ℕ) (kids : List (List ℕ)) (class : List ℕ) → AreParted first kids class → AreNodes kids (length first) → (x y : ℕ) → x < length first → y < length first
    → node_key class (list_of kids x) x ≢ node_key class (list_of kids y) y → Distinct first kids x y
keys_distinct first kids class h nodes x y lx ly ne = elim (eqb_tells (get_or class x 0) (get_or class y 0)) [
  | inr other ↦ h.parts x y lx ly other.1
  | inl same ↦ elim (kids_compared class (list_of kids x) (list_of kids y)) [
    | inl rest ↦ absurd (ne (ap (λ c. c ∷ map (λ n. get_or class n 0) (list_of kids x)) same.1 ∙ ap (λ cs. get_or class y 0 ∷ cs) rest))
    | inr rest ↦ elim rest [
      | inl long ↦ many long
      | inr d ↦ kid d.place d.first d.second d.first_is d.second_is (h.parts d.first d.second (nodes.each x d.first (d.place, d.first_is)) (nodes.each y d.second (d.place, d.second_is)) d.differ)
    ]
  ]
]

-- The nodes that begin in a class, told apart by their keys, keep what is known.
pub parted_next : (first : List ℕ) (kids lists : List (List ℕ)) (class now : List ℕ) (l : ℕ) → MembersUpTo first lists (length first) → AreNodes kids (length first) → AreParted first kids class → IsSplit class now kids (list_of lists l) → AreParted first kids now
parted_next first kids lists class now l members nodes h s = record {
  all = s.many ∙ h.all;
  begun = λ x lx. elim (s.decided x) [
    | inl at ↦ (members.own l (get_or now x 0) (s.within x at)).1 ∙ sym (members.own l x at).1
    | inr none ↦ ap (λ c. get_or first c 0) (s.others x none) ∙ h.begun x lx
  ];
  parts = λ x y lx ly ne. elim (s.decided x) [
    | inl at ↦ elim (s.decided y) [
      | inl bt ↦ keys_distinct first kids class h nodes x y lx ly (λ same. ne (s.alike x y at bt same))
      | inr none ↦ begin (λ e. none (listed x y ly at e))
    ]
    | inr without ↦ elim (s.decided y) [
      | inl bt ↦ begin (λ e. without (listed y x lx bt (sym e)))
      | inr none ↦ h.parts x y lx ly (λ e. ne (s.others x without ∙ (e ∙ sym (s.others y none))))
    ]
  ];
  alike = λ x y lx ly same one. elim (s.decided x) [
    | inl at ↦ s.alike x y at (listed x y ly at same) (key_same x y lx ly same one)
    | inr without ↦ elim (s.decided y) [
      | inl bt ↦ absurd (without (listed y x lx bt (sym same)))
      | inr none ↦ s.others x without ∙ (h.alike x y lx ly same one ∙ sym (s.others y none))
    ]
  ];
}
  where
    -- a node that begins with one of the list is there
    listed : (x y : ℕ) → y < length first → Lists (list_of lists l) x → get_or first x 0 ≡ get_or first y 0 → Lists (list_of lists l) y
    listed x y ly at e =
        let class_is : get_or first y 0 ≡ l = sym e ∙ (members.own l x at).1 in
        subst (λ k. Lists (list_of lists k) y) class_is (members.whole y ly)

    key_same : (x y : ℕ) → x < length first → y < length first → get_or first x 0 ≡ get_or first y 0 → list_of kids x ≡ list_of kids y → node_key class (list_of kids x) x ≡ node_key class (list_of kids y) y
    key_same x y lx ly same one =
        ap (λ c. c ∷ map (λ n. get_or class n 0) (list_of kids x)) (h.alike x y lx ly same one) ∙ ap (λ (ks : List ℕ). get_or class y 0 ∷ map (λ n. get_or class n 0) ks) one

pub map_set : {X Y : Type 0} (f : X → Y) (xs : List X) (i : ℕ) (x : X) → map f (slice_set xs i x) ≡ slice_set (map f xs) i (f x)
map_set f [] i x = refl
map_set f (y ∷ ys) zero x = refl
map_set f (y ∷ ys) (suc i) x = ap (λ zs. f y ∷ zs) (map_set f ys i x)

-- a list of lists, read at a place
pub list_read : (lists : List (Vec ℕ)) (at : ℕ) (v : Vec ℕ) → at < length lists → v ≡ get_or lists at v → list_of (lists_of lists) at ≡ v.items
list_read lists at v lt is =
    get_or_from_slice_get (lists_of lists) at v.items [] (slice_get-map (λ (w : Vec ℕ). w.items) lists at ∙ ap (option_map (λ (w : Vec ℕ). w.items)) (slice_get_read lists (length lists) at v refl lt is))

-- one of the lists changed
pub list_changed : (lists : List (Vec ℕ)) (at : ℕ) (v w : Vec ℕ) (node : ℕ) → at < length lists → v ≡ get_or lists at v → w.items ≡ v.items ++ node ∷ [] → lists_of (slice_set lists at w) ≡ slice_set (lists_of lists) at (list_of (lists_of lists) at ++ node ∷ [])
list_changed lists at v w node lt is more =
    map_set (λ (x : Vec ℕ). x.items) lists at w ∙ ap (λ xs. slice_set (lists_of lists) at xs) (more ∙ ap (λ xs. xs ++ node ∷ []) (sym (list_read lists at v lt is)))

-- the kids of a node are nodes
pub nodes_all : (kids : List (List ℕ)) (n x : ℕ) (xs : List ℕ) → AreNodes kids n → list_of kids x ≡ xs → All (λ c. c < n) xs
nodes_all kids n x xs h e k d lt = h.each x (get_or xs k d) (k, ap (λ ys. slice_get ys k) e ∙ slice_get-get_or xs k d lt)

-- the nodes of a class are nodes
pub members_all : (first : List ℕ) (lists : List (List ℕ)) (n l : ℕ) (xs : List ℕ) → MembersUpTo first lists n → list_of lists l ≡ xs → All (λ x. x < n) xs
members_all first lists n l xs h e k d lt = (h.own l (get_or xs k d) (k, ap (λ ys. slice_get ys k) e ∙ slice_get-get_or xs k d lt)).0

-- what was tested of all lists
pub nodes_right : (lists : List (Vec ℕ)) (n : ℕ) → ((x : ℕ) → x < length lists → All (λ c. c < n) (list_of (lists_of lists) x)) → AreNodes (lists_of lists) n
nodes_right lists n h = record {
  each = λ x c at. elim (cases_lt x (length lists)) [
    | inl lt ↦
        let place = slice_get_within (list_of (lists_of lists) x) at.0 c at.1 in
        subst (λ e. e < n) (get_or_from_slice_get (list_of (lists_of lists) x) at.0 c 0 at.1) (h x lt at.0 0 place)
    | inr ge ↦
        let long = length-map lists (λ (w : Vec ℕ). w.items) in
        absurd (none_some (sym (ap (λ ys. slice_get ys at.0) (get_or_past (lists_of lists) x [] (omega arith))) ∙ at.1))
  ];
}

-- the keys by classes that are the same
pub keys_given : (class seen : List ℕ) (kids : List (List ℕ)) (list : List ℕ) (keys : List (Option (List ℕ))) → seen ≡ class → keys ≡ map (λ x. Some (node_key seen (list_of kids x) x)) list → keys ≡ map (λ x. Some (node_key class (list_of kids x) x)) list
keys_given class seen kids list keys e h = subst (λ (c : List ℕ). keys ≡ map (λ x. Some (node_key c (list_of kids x) x)) list) e h
