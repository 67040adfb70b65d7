-- The structures and unions of two lists of units that are alike are one type in both lists, or in neither.
use Rattle.std.proofs.Common.{◌≡◌, ◌∙◌, ◌⊎◌, ◌<◌, ℕ, List, [], ◌∷◌, Option, Some, None, map, refl, sym, ap, subst, inl, inr}
use Rattle.std.specs.Prelude.{⊤}
use Rattle.std.specs.Option.{IsSome}
use Rattle.c_types.specs.declared.term.MemberTerm.{MemberTerm}
use Rattle.c_types.specs.Trees.{Ctype, Ctypes, NoTypes, MoreTypes, VoidType, BoolType, IntegerType, FloatingType, VaListType, PointerTo, ArrayOf, FunctionFrom, StructureOf, UnionOf}
use Rattle.c_inits.specs.Made.{Part}
use Rattle.c_inits.specs.Tables.{part_of, parts_in}
use Rattle.core_tree.specs.declared.node.Unit.{Unit}
use Rattle.link_model.specs.declared.item.Item.{Item}
use Rattle.link_model.specs.Units.{item, IsTag, types_in, list_at, Label, label_at, SameKey}
use Rattle.link_model.specs.Matching.{Matches, AllMatch, Mentions, ListsMatch, ListsMention}
use Rattle.link_model.specs.Apart.{IsFirstOfKey, CountsAs, MayBeOne, Apart, differ, mention, One}

none_some : {X : Type 0} → {x : X} → ◌≡◌ {A = Option X} None (Some x) → ⊥
none_some h = cc

some_one : {X : Type 0} → {x y : X} → ◌≡◌ {A = Option X} (Some x) (Some y) → x ≡ y
some_one h = cc

module _ (R S : Item → Item → Type 0) (more : (a b : Item) → R a b → S a b) where
  mutual
    matches_more : (u v : ℕ) (s t : Ctype) → Matches R u v s t → Matches S u v s t
    matches_more u v VoidType t h = h
    matches_more u v BoolType t h = h
    matches_more u v (IntegerType size rank signed) t h = h
    matches_more u v FloatingType t h = h
    matches_more u v VaListType t h = h
    matches_more u v (PointerTo s) VoidType h = absurd h
    matches_more u v (PointerTo s) BoolType h = absurd h
    matches_more u v (PointerTo s) (IntegerType z k i) h = absurd h
    matches_more u v (PointerTo s) FloatingType h = absurd h
    matches_more u v (PointerTo s) VaListType h = absurd h
    matches_more u v (PointerTo s) (PointerTo t) h = matches_more u v s t h
    matches_more u v (PointerTo s) (ArrayOf t m) h = absurd h
    matches_more u v (PointerTo s) (FunctionFrom t qs g) h = absurd h
    matches_more u v (PointerTo s) (StructureOf b) h = absurd h
    matches_more u v (PointerTo s) (UnionOf b) h = absurd h
    matches_more u v (ArrayOf s n) VoidType h = absurd h
    matches_more u v (ArrayOf s n) BoolType h = absurd h
    matches_more u v (ArrayOf s n) (IntegerType z k i) h = absurd h
    matches_more u v (ArrayOf s n) FloatingType h = absurd h
    matches_more u v (ArrayOf s n) VaListType h = absurd h
    matches_more u v (ArrayOf s n) (PointerTo t) h = absurd h
    matches_more u v (ArrayOf s n) (ArrayOf t m) h = (matches_more u v s t h.0, h.1)
    matches_more u v (ArrayOf s n) (FunctionFrom t qs g) h = absurd h
    matches_more u v (ArrayOf s n) (StructureOf b) h = absurd h
    matches_more u v (ArrayOf s n) (UnionOf b) h = absurd h
    matches_more u v (FunctionFrom s ps f) VoidType h = absurd h
    matches_more u v (FunctionFrom s ps f) BoolType h = absurd h
    matches_more u v (FunctionFrom s ps f) (IntegerType z k i) h = absurd h
    matches_more u v (FunctionFrom s ps f) FloatingType h = absurd h
    matches_more u v (FunctionFrom s ps f) VaListType h = absurd h
    matches_more u v (FunctionFrom s ps f) (PointerTo t) h = absurd h
    matches_more u v (FunctionFrom s ps f) (ArrayOf t m) h = absurd h
    matches_more u v (FunctionFrom s ps f) (FunctionFrom t qs g) h = (matches_more u v s t h.0, all_more u v ps qs h.1, h.2)
    matches_more u v (FunctionFrom s ps f) (StructureOf b) h = absurd h
    matches_more u v (FunctionFrom s ps f) (UnionOf b) h = absurd h
    matches_more u v (StructureOf a) VoidType h = absurd h
    matches_more u v (StructureOf a) BoolType h = absurd h
    matches_more u v (StructureOf a) (IntegerType z k i) h = absurd h
    matches_more u v (StructureOf a) FloatingType h = absurd h
    matches_more u v (StructureOf a) VaListType h = absurd h
    matches_more u v (StructureOf a) (PointerTo t) h = absurd h
    matches_more u v (StructureOf a) (ArrayOf t m) h = absurd h
    matches_more u v (StructureOf a) (FunctionFrom t qs g) h = absurd h
    matches_more u v (StructureOf a) (StructureOf b) h = more (item u a) (item v b) h
    matches_more u v (StructureOf a) (UnionOf b) h = absurd h
    matches_more u v (UnionOf a) VoidType h = absurd h
    matches_more u v (UnionOf a) BoolType h = absurd h
    matches_more u v (UnionOf a) (IntegerType z k i) h = absurd h
    matches_more u v (UnionOf a) FloatingType h = absurd h
    matches_more u v (UnionOf a) VaListType h = absurd h
    matches_more u v (UnionOf a) (PointerTo t) h = absurd h
    matches_more u v (UnionOf a) (ArrayOf t m) h = absurd h
    matches_more u v (UnionOf a) (FunctionFrom t qs g) h = absurd h
    matches_more u v (UnionOf a) (StructureOf b) h = absurd h
    matches_more u v (UnionOf a) (UnionOf b) h = more (item u a) (item v b) h

    all_more : (u v : ℕ) (ss ts : Ctypes) → AllMatch R u v ss ts → AllMatch S u v ss ts
    all_more u v NoTypes NoTypes h = h
    all_more u v NoTypes (MoreTypes t ts) h = absurd h
    all_more u v (MoreTypes s ss) NoTypes h = absurd h
    all_more u v (MoreTypes s ss) (MoreTypes t ts) h = (matches_more u v s t h.0, all_more u v ss ts h.1)

-- members that are alike, and tags at one place, by the members' types
abbrev PartsMatch : (Item → Item → Type 0) → ℕ → ℕ → List Part → List Part → Type 0
PartsMatch R u v [] [] = ⊤
PartsMatch R u v (m ∷ ms) (n ∷ ns) = (m.name ≡ n.name) × (m.bits ≡ n.bits) × Matches R u v m.type n.type × PartsMatch R u v ms ns
PartsMatch R u v ms ns = ⊥

abbrev PartsMention : ℕ → ℕ → Item → Item → List Part → List Part → Type 0
PartsMention u v c d (m ∷ ms) (n ∷ ns) = Mentions u v c d m.type n.type ⊎ PartsMention u v c d ms ns
PartsMention u v c d ms ns = ⊥

parts_more : (R S : Item → Item → Type 0) → ((a b : Item) → R a b → S a b) → (u v : ℕ) (ms ns : List Part) → PartsMatch R u v ms ns → PartsMatch S u v ms ns
parts_more R S more u v [] [] h = h
parts_more R S more u v [] (n ∷ ns) h = absurd h
parts_more R S more u v (m ∷ ms) [] h = absurd h
parts_more R S more u v (m ∷ ms) (n ∷ ns) h = (h.0, h.1, matches_more R S more u v m.type n.type h.2, parts_more R S more u v ms ns h.3)

abbrev pub parts : List Unit → ℕ → List MemberTerm → List Part
parts units u list = map (part_of (types_in units u)) list

match_parts : (units : List Unit) (R : Item → Item → Type 0) (u v : ℕ) (ms ns : List MemberTerm) → ListsMatch units R u v ms ns → PartsMatch R u v (parts units u ms) (parts units v ns)
match_parts units R u v [] [] h = tt
match_parts units R u v [] (n ∷ ns) h = absurd h
match_parts units R u v (m ∷ ms) [] h = absurd h
match_parts units R u v (m ∷ ms) (n ∷ ns) h = (h.0, h.1, h.2, match_parts units R u v ms ns h.3)

parts_match : (units : List Unit) (R : Item → Item → Type 0) (u v : ℕ) (ms ns : List MemberTerm) → PartsMatch R u v (parts units u ms) (parts units v ns) → ListsMatch units R u v ms ns
parts_match units R u v [] [] h = tt
parts_match units R u v [] (n ∷ ns) h = absurd h
parts_match units R u v (m ∷ ms) [] h = absurd h
parts_match units R u v (m ∷ ms) (n ∷ ns) h = (h.0, h.1, h.2, parts_match units R u v ms ns h.3)

mention_parts : (units : List Unit) (u v : ℕ) (c d : Item) (ms ns : List MemberTerm) → ListsMention units u v c d ms ns → PartsMention u v c d (parts units u ms) (parts units v ns)
mention_parts units u v c d [] [] h = absurd h
mention_parts units u v c d [] (n ∷ ns) h = absurd h
mention_parts units u v c d (m ∷ ms) [] h = absurd h
mention_parts units u v c d (m ∷ ms) (n ∷ ns) (inl h) = inl h
mention_parts units u v c d (m ∷ ms) (n ∷ ns) (inr h) = inr (mention_parts units u v c d ms ns h)

parts_mention : (units : List Unit) (u v : ℕ) (c d : Item) (ms ns : List MemberTerm) → PartsMention u v c d (parts units u ms) (parts units v ns) → ListsMention units u v c d ms ns
parts_mention units u v c d [] [] h = absurd h
parts_mention units u v c d [] (n ∷ ns) h = absurd h
parts_mention units u v c d (m ∷ ms) [] h = absurd h
parts_mention units u v c d (m ∷ ms) (n ∷ ns) (inl h) = inl h
parts_mention units u v c d (m ∷ ms) (n ∷ ns) (inr h) = inr (parts_mention units u v c d ms ns h)

-- the tags of the first units are those of the second ones, with their labels and their members
pub record Carries (us vs : List Unit) : Type 0 where
  pub tags : (u : ℕ) → (types_in us u).tags ≡ (types_in vs u).tags
  pub labels : (a : Item) → label_at us a ≡ label_at vs a
  pub bounded : (a : Item) (label : Label) → label_at us a ≡ Some label → IsTag us a
  pub lists : (a : Item) → IsTag us a → parts_in (types_in us a.unit) (list_at us a) ≡ parts_in (types_in vs a.unit) (list_at vs a)

pub turned_tags : (us vs : List Unit) → Carries us vs → Carries vs us
turned_tags us vs c = record {
  tags = λ u. sym (c.tags u);
  labels = λ a. sym (c.labels a);
  bounded = λ a label h. subst (λ (n : ℕ). a.number < n) (c.tags a.unit) (c.bounded a label (c.labels a ∙ h));
  lists = λ a h. sym (c.lists a (subst (λ (n : ℕ). a.number < n) (sym (c.tags a.unit)) h));
}

-- the members that a tag has in the second units
record HasParts (us vs : List Unit) (a : Item) (k : List MemberTerm) : Type 0 where
  list : List MemberTerm
  list_is : list_at vs a ≡ Some list
  same : parts us a.unit k ≡ parts vs a.unit list

-- the list that counts for a tag in the second units
pub record CountsThere (us vs : List Unit) (a p : Item) (k : List MemberTerm) : Type 0 where
  pub list : List MemberTerm
  pub counts : CountsAs vs a p list
  pub same : parts us p.unit k ≡ parts vs p.unit list

module _ (us vs : List Unit) (c : Carries us vs) where
  key_there : (a b : Item) → SameKey us a b → SameKey vs a b
  key_there a b h = (h.0, sym (c.labels a) ∙ h.1, sym (c.labels b) ∙ h.2)

  parts_there : (a : Item) (k : List MemberTerm) → IsTag us a → list_at us a ≡ Some k → HasParts us vs a k
  parts_there a k is at = by (list_at vs a) refl (sym (ap (parts_in (types_in us a.unit)) at) ∙ c.lists a is)
    where
      by : (o : Option (List MemberTerm)) → list_at vs a ≡ o → ◌≡◌ {A = Option (List Part)} (Some (map (part_of (types_in us a.unit)) k)) (parts_in (types_in vs a.unit) o) → HasParts us vs a k
      by None e h = absurd (none_some (sym h))
      by (Some l) e h = record { list = l; list_is = e; same = some_one h }

  none_there : (a : Item) → IsTag us a → list_at us a ≡ None → list_at vs a ≡ None
  none_there a is at = by (list_at vs a) refl (sym (ap (parts_in (types_in us a.unit)) at) ∙ c.lists a is)
    where
      by : (o : Option (List MemberTerm)) → list_at vs a ≡ o → ◌≡◌ {A = Option (List Part)} None (parts_in (types_in vs a.unit) o) → list_at vs a ≡ None
      by None e h = e
      by (Some l) e h = absurd (none_some h)

  some_there : (a : Item) → IsTag us a → IsSome (list_at us a) → IsSome (list_at vs a)
  some_there a is some = by (list_at us a) refl some
    where
      by : (o : Option (List MemberTerm)) → list_at us a ≡ o → IsSome o → IsSome (list_at vs a)
      by None e h = cc
      by (Some l) e h = let there : HasParts us vs a l = parts_there a l is e in subst (λ (o : Option (List MemberTerm)). IsSome o) (sym there.list_is) refl

module _ (us vs : List Unit) (c : Carries us vs) (d : Carries vs us) where
  first_there : (a b : Item) → IsFirstOfKey us a b → IsFirstOfKey vs a b
  first_there a b h = record {
    without = none_there us vs c a (c.bounded a h.same_key.0 h.same_key.1) h.without;
    same_key = key_there us vs c a b h.same_key;
    first = λ x same some. let here : SameKey us a x = key_there vs us d a x same in h.first x here (some_there vs us d x (d.bounded x same.0 same.2) some);
  }

  tag_of_which : (a p : Item) → IsTag us a → (a ≡ p) ⊎ IsFirstOfKey us a p → IsTag us p
  tag_of_which a p is (inl same) = subst (IsTag us) same is
  tag_of_which a p is (inr first) = c.bounded p first.same_key.0 first.same_key.2

  which_there : (a p : Item) → (a ≡ p) ⊎ IsFirstOfKey us a p → (a ≡ p) ⊎ IsFirstOfKey vs a p
  which_there a p (inl same) = inl same
  which_there a p (inr first) = inr (first_there a p first)

  pub counts_there : (a p : Item) (k : List MemberTerm) → IsTag us a → CountsAs us a p k → CountsThere us vs a p k
  counts_there a p k is h =
      let there : HasParts us vs p k = parts_there us vs c p k (tag_of_which a p is h.which) h.list_is in
      record { list = there.list; counts = record { list_is = there.list_is; which = which_there a p h.which }; same = there.same }

  may_there : (a b : Item) → MayBeOne us a b → MayBeOne vs a b
  may_there a b (inl same) = inl same
  may_there a b (inr key) = inr (key_there us vs c a b key)

  -- lists with the same members are alike there too
  lists_there : (u v : ℕ) (k l ks ls : List MemberTerm) → parts us u k ≡ parts vs u ks → parts us v l ≡ parts vs v ls → ListsMatch us (MayBeOne us) u v k l → ListsMatch vs (MayBeOne vs) u v ks ls
  lists_there u v k l ks ls first second h =
      let here : PartsMatch (MayBeOne us) u v (parts us u k) (parts us v l) = match_parts us (MayBeOne us) u v k l h in
      let moved : PartsMatch (MayBeOne us) u v (parts vs u ks) (parts vs v ls) =
      subst (λ (ms : List Part). PartsMatch (MayBeOne us) u v ms (parts vs v ls)) first (subst (λ (ns : List Part). PartsMatch (MayBeOne us) u v (parts us u k) ns) second here) in
      parts_match vs (MayBeOne vs) u v ks ls (parts_more (MayBeOne us) (MayBeOne vs) may_there u v (parts vs u ks) (parts vs v ls) moved)

  mentions_there : (u v : ℕ) (x y : Item) (k l ks ls : List MemberTerm) → parts us u k ≡ parts vs u ks → parts us v l ≡ parts vs v ls → ListsMention us u v x y k l → ListsMention vs u v x y ks ls
  mentions_there u v x y k l ks ls first second h =
      let here : PartsMention u v x y (parts us u k) (parts us v l) = mention_parts us u v x y k l h in
      parts_mention vs u v x y ks ls
      (subst (λ (ms : List Part). PartsMention u v x y ms (parts vs v ls)) first (subst (λ (ns : List Part). PartsMention u v x y (parts us u k) ns) second here))

apart_there : (us vs : List Unit) (c : Carries us vs) (d : Carries vs us) (a b : Item) → Apart us a b → Apart vs a b
apart_there us vs c d a b (differ {p = p} {q = q} {k = k} {l = l} same first second apart) =
    let one : CountsThere us vs a p k = counts_there us vs c d a p k (c.bounded a same.0 same.1) first in
    let two : CountsThere us vs b q l = counts_there us vs c d b q l (c.bounded b same.0 same.2) second in
    differ (key_there us vs c a b same) one.counts two.counts (λ h. apart (lists_there vs us d c p.unit q.unit one.list two.list k l (sym one.same) (sym two.same) h))
apart_there us vs c d a b (mention {p = p} {q = q} {c = x} {d = y} {k = k} {l = l} same first second mentioned apart) =
    let one : CountsThere us vs a p k = counts_there us vs c d a p k (c.bounded a same.0 same.1) first in
    let two : CountsThere us vs b q l = counts_there us vs c d b q l (c.bounded b same.0 same.2) second in
    mention (key_there us vs c a b same) one.counts two.counts (mentions_there us vs c d p.unit q.unit x y k l one.list two.list one.same two.same mentioned) (apart_there us vs c d x y apart)

-- tags that are one type in the first units are one in the second
pub one_there : (us vs : List Unit) (c : Carries us vs) (d : Carries vs us) (a b : Item) → One us a b → One vs a b
one_there us vs c d a b (inl same) = inl same
one_there us vs c d a b (inr h) = inr (key_there us vs c a b h.0, λ apart. h.1 (apart_there vs us d c a b apart))
