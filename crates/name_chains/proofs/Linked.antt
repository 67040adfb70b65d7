-- Lists of links, and more links behind them.
use Rattle.std.proofs.Common.{◌≡◌, ℕ, suc, ◌+◌, ◌<◌, Option, Some, None, List, [], ◌∷◌, ◌++◌, length, get_or, refl, sym, ap, subst, ◌∙◌, arith, inl, inr, take, drop, append-nil, reverse, false}
use Rattle.std.specs.List.{slice_get}
use Rattle.std.proofs.lemmas.List.{get_or_append_left, get_or_push, reverse-append}
use Rattle.std.proofs.Common.{length-append, append_assoc}
use Rattle.std.proofs.Math.Seq.{split_at}
use Rattle.std.proofs.lemmas.List.{length-take-le}
use Rattle.std.proofs.lemmas.Option.{slice_get_within, get_or_from_slice_get, slice_get-get_or}
use Rattle.c_types.proofs.Push.{slice_get_push}
use Rattle.c_scope.specs.declared.kinds.Declared.{Declared}
use Rattle.c_scope.specs.declared.kinds.Kind.TheVariants.{Linked as KindLinked}
use Rattle.name_chains.specs.declared.links.Link.{Link}
use Rattle.name_chains.specs.Links.{list_of, with_link, lists_from, lists, listed, IsLinkOf, AreBackward, BeforeIs, Adds, HaveLeaves}

-- what is read past the end of links
abbrev pub no_link : Link
no_link = record { before = None; declared = record { node = 0; symbol = 0; scope = 0; kind = KindLinked; is_function = false } }

-- how many links a list may still have
abbrev pub left : Option ℕ → ℕ
left None = 0
left (Some i) = i + 1

lists-append : (t : List (List Declared)) (xs ys : List Link) → lists_from t (xs ++ ys) ≡ lists_from (lists_from t xs) ys
lists-append t [] ys = refl
lists-append t (x ∷ xs) ys = lists-append (with_link t x) xs ys

length_with : (t : List (List Declared)) (l : Link) → length (with_link t l) ≡ length t + 1
length_with t l = length-append t ((list_of t l.before ++ l.declared ∷ []) ∷ [])

length-lists : (t : List (List Declared)) (xs : List Link) → length (lists_from t xs) ≡ length t + length xs
length-lists t [] = omega arith
length-lists t (x ∷ xs) = let e = length-lists (with_link t x) xs in let g = length_with t x in omega arith

kept-lists : (t : List (List Declared)) (xs : List Link) (i : ℕ) → i < length t → get_or (lists_from t xs) i [] ≡ get_or t i []
kept-lists t [] i h = refl
kept-lists t (x ∷ xs) i h =
    let g = length_with t x in
    let l : i < length (with_link t x) = omega arith in
    kept-lists (with_link t x) xs i l ∙ get_or_append_left t ((list_of t x.before ++ x.declared ∷ []) ∷ []) [] i h

count : (old : List Link) → length (lists_from [] old) ≡ length old
count old = let e = length-lists [] old in omega arith

-- a list stays where links are added
pub listed-more : (old more : List Link) (last : Option ℕ) → IsLinkOf old last → listed (old ++ more) last ≡ listed old last
unfolding listed lists
listed-more old more None h = refl
listed-more old more (Some i) h =
    let e = count old in
    let within : i < length (lists_from [] old) = omega arith in
    ap (λ (t : List (List Declared)). get_or t i []) (lists-append [] old more) ∙ kept-lists (lists_from [] old) more i within

pub link-more : (old more : List Link) (last : Option ℕ) → IsLinkOf old last → IsLinkOf (old ++ more) last
link-more old more None h = tt
link-more old more (Some i) h = let e = length-append old more in omega arith

-- the list of a link that is added
pub listed-push : (old : List Link) (l : Link) → listed (old ++ l ∷ []) (Some (length old)) ≡ listed old l.before ++ l.declared ∷ []
unfolding listed lists
listed-push old l =
    ap (λ (t : List (List Declared)). get_or t (length old) []) (lists-append [] old (l ∷ []))
    ∙ get_or_push (lists_from [] old) (list_of (lists_from [] old) l.before ++ l.declared ∷ []) [] (length old) (count old)

pub listed-none : (links : List Link) → listed links None ≡ []
unfolding listed lists
listed-none links = refl

pub link-push : (old : List Link) (l : Link) → IsLinkOf (old ++ l ∷ []) (Some (length old))
link-push old l = let e = length-append old (l ∷ []) in omega arith

before_is : (old : List Link) (last : Option ℕ) → IsLinkOf old last → BeforeIs (length old) last
before_is old None h = tt
before_is old (Some i) h = h

backward_at : (old : List Link) (l e : Link) (i : ℕ) → AreBackward old → IsLinkOf old l.before → slice_get (old ++ l ∷ []) i ≡ Some e → BeforeIs i e.before
backward_at old l e i back h at =
    elim (slice_get_push old l i e at) [
      | inl here ↦ back.each i e here.1
      | inr there ↦ subst (λ n. BeforeIs n e.before) (sym there.0) (subst (λ (x : Link). BeforeIs (length old) x.before) (sym there.1) (before_is old l.before h))
    ]

pub backward-push : (old : List Link) (l : Link) → AreBackward old → IsLinkOf old l.before → AreBackward (old ++ l ∷ [])
backward-push old l back h = record { each = λ i e at. backward_at old l e i back h at }

pub adds_one : (old : List Link) (l : Link) → AreBackward old → IsLinkOf old l.before → Adds old (old ++ l ∷ [])
adds_one old l back h = record { backward = backward-push old l back h; more = l ∷ []; is = refl }

pub adds_none : (old : List Link) → AreBackward old → Adds old old
adds_none old back = record { backward = back; more = []; is = sym append_nil }
  where
    append_nil : old ++ [] ≡ old
    append_nil = append-nil old

pub adds_on : (a b c : List Link) → Adds a b → Adds b c → Adds a c
adds_on a b c h k = record {
  backward = k.backward;
  more = h.more ++ k.more;
  is = k.is ∙ (ap (λ (t : List Link). t ++ k.more) h.is ∙ append_assoc a h.more k.more);
}

-- what was there stays
pub added_list : (old new : List Link) → Adds old new → (last : Option ℕ) → IsLinkOf old last → listed new last ≡ listed old last
added_list old new a last h = ap (λ (t : List Link). listed t last) a.is ∙ listed-more old a.more last h

pub added_link : (old new : List Link) → Adds old new → (last : Option ℕ) → IsLinkOf old last → IsLinkOf new last
added_link old new a last h = subst (λ (t : List Link). IsLinkOf t last) (sym a.is) (link-more old a.more last h)

pub leaves-push : (n : ℕ) (old : List Link) (l : Link) → HaveLeaves n old → l.declared.node < n → HaveLeaves n (old ++ l ∷ [])
leaves-push n old l h k = record {
  each = λ i e at. elim (slice_get_push old l i e at) [
    | inl here ↦ h.each i e here.1
    | inr there ↦ subst (λ (x : Link). x.declared.node < n) (sym there.1) k
  ];
}

-- a list ends with the declaration of its last link
link_before : (front : List Link) (i : ℕ) (last : Option ℕ) → length front ≡ i → BeforeIs i last → IsLinkOf front last
link_before front i None e h = tt
link_before front i (Some j) e h = omega arith

pub listed-step : (xs : List Link) (i : ℕ) (l : Link) → slice_get xs i ≡ Some l → AreBackward xs → listed xs (Some i) ≡ listed xs l.before ++ l.declared ∷ []
listed-step xs i l at back =
    let lt : i < length xs = slice_get_within xs i l at in
    let front = take i xs in
    let here : get_or xs i l ≡ l = get_or_from_slice_get xs i l l at in
    let cut : xs ≡ front ++ get_or xs i l ∷ drop (suc i) xs = split_at xs i l lt in
    let whole : xs ≡ (front ++ l ∷ []) ++ drop (suc i) xs = cut ∙ (ap (λ (x : Link). front ++ x ∷ drop (suc i) xs) here ∙ sym (append_assoc front (l ∷ []) (drop (suc i) xs))) in
    let long : length front ≡ i = length-take-le i xs (omega arith) in
    let first : IsLinkOf front l.before = link_before front i l.before long (back.each i l at) in
    let grown : length (front ++ l ∷ []) ≡ length front + 1 = length-append front (l ∷ []) in
    let one : listed xs (Some i) ≡ listed (front ++ l ∷ []) (Some i) =
    ap (λ (t : List Link). listed t (Some i)) whole ∙ listed-more (front ++ l ∷ []) (drop (suc i) xs) (Some i) (omega arith) in
    let two : listed (front ++ l ∷ []) (Some i) ≡ listed front l.before ++ l.declared ∷ [] =
    ap (λ (n : ℕ). listed (front ++ l ∷ []) (Some n)) (sym long) ∙ listed-push front l in
    let three : listed xs l.before ≡ listed front l.before =
    ap (λ (t : List Link). listed t l.before) cut ∙ listed-more front (get_or xs i l ∷ drop (suc i) xs) l.before first in
    one ∙ (two ∙ ap (λ (t : List Declared). t ++ l.declared ∷ []) (sym three))

-- one step back along a list
module _ (xs : List Link) (at : Option ℕ) (i : ℕ) (d : Link) (is : at ≡ Some i) (h : IsLinkOf xs at) (back : AreBackward xs) where
  here : i < length xs
  here = subst (IsLinkOf xs) is h

  found : slice_get xs i ≡ Some (get_or xs i d)
  found = slice_get-get_or xs i d here

  earlier : (last : Option ℕ) → BeforeIs i last → IsLinkOf xs last
  earlier None b = tt
  earlier (Some j) b = let lt = here in omega arith

  pub back_link : IsLinkOf xs (get_or xs i d).before
  back_link = earlier (get_or xs i d).before (back.each i (get_or xs i d) found)

  pub back_list : (whole taken : List Declared) → whole ≡ listed xs at ++ reverse taken
      → whole ≡ listed xs (get_or xs i d).before ++ reverse (taken ++ (get_or xs i d).declared ∷ [])
  back_list whole taken e =
      let l = get_or xs i d in
      e ∙ (ap (λ (o : Option ℕ). listed xs o ++ reverse taken) is
      ∙ (ap (λ (t : List Declared). t ++ reverse taken) (listed-step xs i l found back)
      ∙ (append_assoc (listed xs l.before) (l.declared ∷ []) (reverse taken)
      ∙ ap (λ (t : List Declared). listed xs l.before ++ t) (sym (reverse-append taken (l.declared ∷ []))))))

  pub back_leaf : (n : ℕ) → HaveLeaves n xs → (get_or xs i d).declared.node < n
  back_leaf n have = have.each i (get_or xs i d) found

  -- what comes behind the list is smaller
  pub back_less : left (get_or xs i d).before < left at
  back_less = rw is (less (get_or xs i d).before (back.each i (get_or xs i d) found))
    where
      less : (last : Option ℕ) → BeforeIs i last → left last < i + 1
      less None b = omega arith
      less (Some j) b = omega arith
