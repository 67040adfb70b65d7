-- One thing more behind a list.
use Rattle.std.proofs.Common.{arith, ◌≡◌, ℕ, zero, suc, ◌+◌, ◌-◌, ◌<◌, inl, inr, Bool, false, List, [], ◌∷◌, ◌++◌, length, length-append, get_or, refl, sym, ap, ◌∙◌, subst, Option, Some, None}
use Rattle.std.specs.List.{slice_get, slice_index_or, list_any}
use Rattle.std.specs.Option.{option_map}
use Rattle.std.proofs.lemmas.Bool.{cases_lt}
use Rattle.core_tree.specs.declared.node.Unit.{Unit}
use Rattle.link_model.specs.declared.item.Item.{Item}
use Rattle.link_model.specs.Units.{IsTag, types_if, is_union, is_union_of, key_at, key_if, keys_if, label_at}
use Rattle.link_model.specs.link_types.Starts.{AreSums}
use Rattle.link_merge.specs.Keys.{label_code}
use Rattle.link_merge.specs.Tags.{tag_counts_of, place_in, AreKept, UnionsUpTo, AreUnions, label_with}
use Rattle.link_merge.proofs.Labelled.{starts_rise}
use Rattle.link_merge.proofs.Places.{tag_unit, starts_right, total}
use Rattle.std.proofs.lemmas.Option.{slice_get_within}

some_one : {X : Type 0} → {x y : X} → ◌≡◌ {A = Option X} (Some x) (Some y) → x ≡ y
some_one h = cc

at_left : {X : Type 0} (xs ys : List X) (k : ℕ) → k < length xs → slice_get (xs ++ ys) k ≡ slice_get xs k
at_left [] ys k lt = absurd (omega arith)
at_left (x ∷ xs) ys zero lt = refl
at_left (x ∷ xs) ys (suc k) lt = at_left xs ys k (omega arith)

at_end : {X : Type 0} (xs : List X) (x : X) (k : ℕ) → k ≡ length xs → slice_get (xs ++ x ∷ []) k ≡ Some x
at_end [] x zero e = refl
at_end [] x (suc k) e = absurd (omega arith)
at_end (y ∷ ys) x zero e = absurd (omega arith)
at_end (y ∷ ys) x (suc k) e = at_end ys x k (omega arith)

-- what is known of each unit, with one unit more
pub each_more : (P : Unit → Type 0) (units : List Unit) (i : ℕ) (x : Unit) → slice_get units i ≡ Some x → P x → ((u : ℕ) (y : Unit) → u < i → slice_get units u ≡ Some y → P y) → (u : ℕ) (y : Unit) → u < i + 1 → slice_get units u ≡ Some y → P y
each_more P units i x at here h u y lt there = elim (cases_lt u i) [
  | inl less ↦ h u y less there
  | inr ge ↦
      let same : u ≡ i = omega arith in
      subst P (some_one (sym at ∙ (ap (slice_get units) (sym same) ∙ there))) here
]

-- a list of what each place has, with one place more
pub pushed_more : {X : Type 0} (xs : List X) (x : X) (i : ℕ) (F : ℕ → X) → length xs ≡ i → ((g : ℕ) → g < i → slice_get xs g ≡ Some (F g)) → x ≡ F i → (g : ℕ) → g < i + 1 → slice_get (xs ++ x ∷ []) g ≡ Some (F g)
pushed_more xs x i F all h e g lt = elim (cases_lt g i) [
  | inl less ↦ at_left xs (x ∷ []) g (omega arith) ∙ h g less
  | inr ge ↦
      let same : g ≡ i = omega arith in
      at_end xs x g (omega arith) ∙ (ap Some e ∙ ap (λ n. Some (F n)) (sym same))
]

-- the same of things that stand in another list
pub pushed_of : {X A : Type 0} (things : List A) (xs : List X) (x : X) (i : ℕ) (a : A) (F : A → X) → length xs ≡ i → slice_get things i ≡ Some a → ((g : ℕ) (b : A) → g < i → slice_get things g ≡ Some b → slice_get xs g ≡ Some (F b)) → x ≡ F a
    → (g : ℕ) (b : A) → g < i + 1 → slice_get things g ≡ Some b → slice_get (xs ++ x ∷ []) g ≡ Some (F b)
pushed_of things xs x i a F all at h e g b lt there = elim (cases_lt g i) [
  | inl less ↦ at_left xs (x ∷ []) g (omega arith) ∙ h g b less there
  | inr ge ↦
      let same : g ≡ i = omega arith in
      let one : a ≡ b = some_one (sym at ∙ (ap (slice_get things) (sym same) ∙ there)) in
      at_end xs x g (omega arith) ∙ (ap Some e ∙ ap (λ c. Some (F c)) one)
]

-- the key that stands at a tag
pub key_is : (units : List Unit) (a : Item) (x : Unit) (key : Option (List ℕ)) → slice_get units a.unit ≡ Some x → slice_get x.tags.items a.number ≡ Some key → key ≡ key_at units a
key_is units a x key at there = sym (ap (λ (o : Option Unit). key_if (slice_get (keys_if o) a.number)) at ∙ ap key_if there)

pub key_within : (units : List Unit) (a : Item) (x : Unit) → AreKept units → IsTag units a → slice_get units a.unit ≡ Some x → a.number < length x.tags.items
key_within units a x kept tag at =
    let many = (kept.each a.unit x at).each in
    let lt = subst (λ (o : Option Unit). a.number < (types_if o).tags) at tag in
    omega arith

pub label_from_key : (units : List Unit) (a : Item) (key : Option (List ℕ)) (union : Bool) → union ≡ is_union units a → key ≡ key_at units a → label_with union key ≡ option_map label_code (label_at units a)
label_from_key units a key union e k =
    ap (λ u. label_with u key) e ∙ (by_key key ∙ ap (λ o. option_map label_code (option_map (λ l. record { union = is_union units a; key = l }) o)) k)
  where
    by_key : (k : Option (List ℕ)) → label_with (is_union units a) k ≡ option_map label_code (option_map (λ key. record { union = is_union units a; key = key }) k)
    by_key None = refl
    by_key (Some k) = refl

or_left : (xs ys : List Bool) (k : ℕ) → k < length xs → slice_index_or (xs ++ ys) k false ≡ slice_index_or xs k false
or_left [] ys k lt = absurd (omega arith)
or_left (x ∷ xs) ys zero lt = refl
or_left (x ∷ xs) ys (suc k) lt = or_left xs ys k (omega arith)

or_right : (xs ys : List Bool) (k n : ℕ) → n ≡ length xs + k → slice_index_or (xs ++ ys) n false ≡ slice_index_or ys k false
or_right [] ys k n e = (let same : n ≡ k = omega arith in ap (λ i. slice_index_or ys i false) same)
or_right (x ∷ xs) ys k zero e = absurd (omega arith)
or_right (x ∷ xs) ys k (suc n) e = or_right xs ys k n (omega arith)

pub unions_none : (units : List Unit) (starts : List ℕ) → AreSums (tag_counts_of units) starts → UnionsUpTo units starts 0 []
unions_none units starts h = record { many = (let z : get_or starts 0 0 ≡ 0 = h.each 0 (omega arith) in sym z); each = λ a tag lt. absurd (omega arith) }

pub unions_more : (units : List Unit) (starts : List ℕ) (u : ℕ) (x : Unit) (old own now : List Bool) → AreSums (tag_counts_of units) starts → slice_get units u ≡ Some x → UnionsUpTo units starts u old → now ≡ old ++ own → length own ≡ x.types.tags
    → ((tag : ℕ) → slice_index_or own tag false ≡ list_any (is_union_of tag) x.types.terms) → UnionsUpTo units starts (u + 1) now
unions_more units starts u x old own now sums at h is long each =
    let begin = starts_right units starts sums in
    let step = begin.each u x at in
    let more : length (old ++ own) ≡ length old + length own = length-append old own in
    let m = h.many in
    let lt = slice_get_within units u x at in
    record {
      many = ap (length {A = Bool}) is ∙ (omega arith);
      each = λ a tag less. elim (cases_lt a.unit u) [
        | inl before ↦
            let (y, there, within) = tag_unit units a tag in
            let next = begin.each a.unit y there in
            let n = u - (a.unit + 1) in
            let far : (a.unit + 1) + n ≡ u = omega arith in
            let rise = starts_rise units starts _ (a.unit + 1) n begin (omega arith) in
            let end : get_or starts ((a.unit + 1) + n) 0 ≡ get_or starts u 0 = ap (λ k. get_or starts k 0) far in
            ap (λ (bs : List Bool). slice_index_or bs (place_in starts a) false) is ∙ (or_left old own (place_in starts a) (omega arith) ∙ h.each a tag before)
        | inr ge ↦
            let here : a.unit ≡ u = omega arith in
            let start : get_or starts a.unit 0 ≡ get_or starts u 0 = ap (λ k. get_or starts k 0) here in
            ap (λ (bs : List Bool). slice_index_or bs (place_in starts a) false) is
            ∙ (or_right old own a.number (place_in starts a) (omega arith) ∙ (each a.number ∙ ap (λ (o : Option Unit). list_any (is_union_of a.number) (types_if o).terms) (sym (ap (slice_get units) here ∙ at))))
      ];
    }

pub unions_all : (units : List Unit) (starts : List ℕ) (unions : List Bool) → AreSums (tag_counts_of units) starts → UnionsUpTo units starts (length units) unions → AreUnions units starts unions
unions_all units starts unions sums h = record {
  many = h.many ∙ total units starts sums;
  each = λ a tag. h.each a tag (let (x, at, lt) = tag_unit units a tag in slice_get_within units a.unit x at);
}
