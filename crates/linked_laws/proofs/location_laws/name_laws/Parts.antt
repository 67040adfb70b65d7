-- The nodes of a type have different names behind the name of the whole.
use Rattle.std.proofs.Common.{arith, ◌≡◌, ◌∙◌, ℕ, zero, suc, ◌+◌, ◌<◌, ◌≤◌, List, [], ◌∷◌, ◌++◌, map, Option, Some, None, refl, sym, ap}
use Rattle.std.specs.List.{slice_get, list_all}
use Rattle.std.specs.Fmt.{decimal}
use Rattle.std.proofs.lemmas.Bool.{false≢true}
use Rattle.std.proofs.lemmas.List.{append_cancel_left}
use Rattle.std.proofs.lemmas.Fmt.{decimal_injective}
use Rattle.std.proofs.lemmas.Option.{slice_get_within}
use Rattle.c_types.specs.declared.term.MemberTerm.{MemberTerm}
use Rattle.c_types.specs.Trees.{Ctype, VoidType, BoolType, IntegerType, FloatingType, VaListType, PointerTo, ArrayOf, FunctionFrom, StructureOf, UnionOf}
use Rattle.c_types.specs.Table.{Table, type_of, members_in, extent_in}
use Rattle.obj_space.specs.Parts.{Part, dotted, only, behind, members_parts, structure_parts, union_parts, tree_over, structures_within, node_count, parts_of}
use Rattle.linked_laws.specs.location_laws.name_shapes.Bytes.{is_head, is_base_byte, is_letter, IsMadeOf, Stops, Begins, IsSuffix}
use Rattle.linked_laws.proofs.location_laws.name_shapes.Cutting.{both, cut, weaker, append, base_head, letter_head, decimal_base}
use Rattle.linked_laws.specs.location_laws.name_laws.Named.{AreMembers}
use Rattle.linked_laws.proofs.location_laws.name_laws.Lists.{Every, Pairs, every_weaker, every_append, every_map, pairs_weaker, pairs_append, pairs_map}

abbrev pub Differ : Part → Part → Type 0
Differ a b = a.suffix ≡ b.suffix → ⊥

abbrev pub IsPart : Part → Type 0
IsPart part = IsSuffix part.suffix

-- the parts of one whole
pub record AreParts (parts : List Part) : Type 0 where
  pub each : Every IsPart parts
  pub differ : Pairs Differ parts

one_of : {A : Type 0} {a b : A} → Some a ≡ Some b → a ≡ b
one_of h = cc

suffix_letters : (s : List ℕ) → Begins s → Stops is_letter s
suffix_letters [] h = tt
suffix_letters (c ∷ rest) h = ap is_letter h

suffix_base : (s : List ℕ) → Begins s → Stops is_base_byte s
suffix_base [] h = tt
suffix_base (c ∷ rest) h = ap is_base_byte h

head_is : (x y : ℕ) (s t : List ℕ) → x ∷ s ≡ y ∷ t → x ≡ y
head_is x y s t e = cc

rest_is : (x y : ℕ) (s t : List ℕ) → x ∷ s ≡ y ∷ t → s ≡ t
rest_is x y s t e = cc

nothing : (x : ℕ) (s : List ℕ) → [] ≡ x ∷ s → ⊥
nothing x s e = cc

unequal : ◌≡◌ {A = ℕ} 46 35 → ⊥
unequal e = omega arith

-- no identifier begins with '#'
no_sign : (name s t : List ℕ) → IsMadeOf is_letter name → Begins s → name ++ s ≡ 35 ∷ t → ⊥
no_sign [] [] t h b e = nothing 35 t e
no_sign [] (c ∷ s) t h b e = unequal (sym b ∙ head_is c 35 s t e)
no_sign (c ∷ name) s t h b e =
    let here = (both (is_letter c) (list_all is_letter name) h).0 in
    false≢true (ap is_letter (sym (head_is c 35 (name ++ s) t e)) ∙ here)

module _ (all : List MemberTerm) (right : AreMembers all) where
  -- the texts behind two members
  dots_differ : (i j : ℕ) (m n : MemberTerm) (x y : Option (List ℕ)) (s t : List ℕ) → slice_get all i ≡ Some m → slice_get all j ≡ Some n → m.name ≡ x → n.name ≡ y
      → i < j → Begins s → Begins t → dotted i x ++ s ≡ dotted j y ++ t → ⊥
  dots_differ i j m n None None s t at there mx ny lt bs bt e =
      let few = right.few in
      let first = slice_get_within all i m at in
      let second = slice_get_within all j n there in
      let numbers : decimal i ++ s ≡ decimal j ++ t = rest_is 35 35 (decimal i ++ s) (decimal j ++ t) (rest_is 46 46 (35 ∷ (decimal i ++ s)) (35 ∷ (decimal j ++ t)) e) in
      let same = (cut is_base_byte (decimal i) (decimal j) s t (decimal_base i (omega arith)) (decimal_base j (omega arith)) (suffix_base s bs) (suffix_base t bt) numbers).0 in
      let is = decimal_injective i j (omega arith) (omega arith) same in
      omega arith
  dots_differ i j m n None (Some b) s t at there mx ny lt bs bt e =
      no_sign b t (decimal i ++ s) (right.letters j n b there ny) bt (sym (rest_is 46 46 (35 ∷ (decimal i ++ s)) (b ++ t) e))
  dots_differ i j m n (Some a) None s t at there mx ny lt bs bt e =
      no_sign a s (decimal j ++ t) (right.letters i m a at mx) bs (rest_is 46 46 (a ++ s) (35 ∷ (decimal j ++ t)) e)
  dots_differ i j m n (Some a) (Some b) s t at there mx ny lt bs bt e =
      let names = rest_is 46 46 (a ++ s) (b ++ t) e in
      let same = (cut is_letter a b s t (right.letters i m a at mx) (right.letters j n b there ny) (suffix_letters s bs) (suffix_letters t bt) names).0 in
      let is = right.once i j m n b at there (mx ∙ ap Some same) ny in
      omega arith

  dot_bytes : (k : ℕ) (m : MemberTerm) (x : Option (List ℕ)) → slice_get all k ≡ Some m → m.name ≡ x → IsMadeOf is_head (dotted k x)
  dot_bytes k m None at mx =
      let few = right.few in
      let lt = slice_get_within all k m at in
      weaker is_base_byte is_head (decimal k) base_head (decimal_base k (omega arith))
  dot_bytes k m (Some a) at mx = weaker is_letter is_head a letter_head (right.letters k m a at mx)

  dot_begins : (k : ℕ) (x : Option (List ℕ)) (s : List ℕ) → Begins (dotted k x ++ s)
  dot_begins k None s = refl
  dot_begins k (Some a) s = refl

  behind_part : (k : ℕ) (m : MemberTerm) (s : List ℕ) → slice_get all k ≡ Some m → IsSuffix s → IsSuffix (dotted k m.name ++ s)
  behind_part k m s at h = record {
    dot = dot_begins k m.name s;
    bytes = append is_head (dotted k m.name) s (dot_bytes k m m.name at refl) h.bytes;
  }

  -- a part under the member of a position from k on
  record IsUnder (k : ℕ) (part : Part) : Type 0 where
    position : ℕ
    from : k ≤ position
    member : MemberTerm
    at : slice_get all position ≡ Some member
    rest : List ℕ
    begins : Begins rest
    text : part.suffix ≡ dotted position member.name ++ rest

  under_more : (k : ℕ) (part : Part) → IsUnder (k + 1) part → IsUnder k part
  under_more k part h = let from = h.from in record { position = h.position; from = omega arith; member = h.member; at = h.at; rest = h.rest; begins = h.begins; text = h.text }

  under_differ : (k : ℕ) (m : MemberTerm) (a b : Part) → slice_get all k ≡ Some m → IsPart a → IsUnder (k + 1) b → Differ (behind (dotted k m.name) a) b
  under_differ k m a b at part h e =
      let from = h.from in
      dots_differ k h.position m h.member m.name h.member.name a.suffix h.rest at h.at refl refl (omega arith) part.dot h.begins (e ∙ h.text)

  behind_differ : (prefix : List ℕ) (a b : Part) → Differ a b → Differ (behind prefix a) (behind prefix b)
  behind_differ prefix a b h e = h (append_cancel_left prefix a.suffix b.suffix e)

  -- parts under a member and all parts under later ones
  across : (k : ℕ) (m : MemberTerm) (parts later : List Part) → slice_get all k ≡ Some m → Every IsPart parts → Every (IsUnder (k + 1)) later
      → Every (λ a. Every (Differ a) later) (map (behind (dotted k m.name)) parts)
  across k m [] later at h l = tt
  across k m (a ∷ parts) later at (here, more) l =
      (every_weaker (IsUnder (k + 1)) (Differ (behind (dotted k m.name) a)) later (λ b u. under_differ k m a b at here u) l, across k m parts later at more l)

  record AreUnder (k : ℕ) (parts : List Part) : Type 0 where
    each : Every IsPart parts
    under : Every (IsUnder k) parts
    differ : Pairs Differ parts

  module _ (tree : Ctype → List Part) (trees : (t : Ctype) → AreParts (tree t)) (table : Table) where
    one_member : (k : ℕ) (m : MemberTerm) (ty : Ctype) (later : List Part) → slice_get all k ≡ Some m → AreUnder (k + 1) later
        → AreUnder k (map (behind (dotted k m.name)) (tree ty) ++ later)
    one_member k m ty later at h =
        let own = trees ty in
        record {
          each = every_append IsPart (map (behind (dotted k m.name)) (tree ty)) later
              (every_map IsPart (behind (dotted k m.name)) (tree ty) (every_weaker IsPart (λ a. IsPart (behind (dotted k m.name) a)) (tree ty) (λ a part. behind_part k m a.suffix at part) own.each)) h.each;
          under = every_append (IsUnder k) (map (behind (dotted k m.name)) (tree ty)) later
              (every_map (IsUnder k) (behind (dotted k m.name)) (tree ty)
              (every_weaker IsPart (λ a. IsUnder k (behind (dotted k m.name) a)) (tree ty)
              (λ a part. record { position = k; from = omega arith; member = m; at = at; rest = a.suffix; begins = part.dot; text = refl }) own.each))
              (every_weaker (IsUnder (k + 1)) (IsUnder k) later (under_more k) h.under);
          differ = pairs_append Differ (map (behind (dotted k m.name)) (tree ty)) later
              (pairs_map Differ (behind (dotted k m.name)) (tree ty) (pairs_weaker Differ (λ a b. Differ (behind (dotted k m.name) a) (behind (dotted k m.name) b)) (tree ty) (behind_differ (dotted k m.name)) own.differ))
              h.differ (across k m (tree ty) later at own.each h.under);
        }

    members_right : (k : ℕ) (ms : List MemberTerm) → ((i : ℕ) → slice_get ms i ≡ slice_get all (k + i)) → AreUnder k (members_parts tree table k ms)
    members_right k [] h = record { each = tt; under = tt; differ = tt }
    members_right k (m ∷ rest) h =
        one_member k m (type_of table m.ty.0) (members_parts tree table (k + 1) rest)
        (ap (slice_get all) (omega arith) ∙ sym (h 0))
        (members_right (k + 1) rest (λ i. h (suc i) ∙ ap (slice_get all) (omega arith)))

-- a whole has no text behind it, and its parts have
whole_differs : (all : List MemberTerm) (right : AreMembers all) (k : ℕ) (parts : List Part) (t : Ctype) → Every (IsUnder all right k) parts → Every (Differ (record { suffix = []; ty = t })) parts
whole_differs all right k parts t h =
    every_weaker (IsUnder all right k) (Differ (record { suffix = []; ty = t })) parts (λ b u e. no_dot u.position u.member.name u.rest (e ∙ u.text)) h
  where
    no_dot : (i : ℕ) (x : Option (List ℕ)) (s : List ℕ) → [] ≡ dotted i x ++ s → ⊥
    no_dot i None s e = nothing 46 (35 ∷ (decimal i ++ s)) e
    no_dot i (Some a) s e = nothing 46 (a ++ s) e

empty_suffix : IsSuffix []
empty_suffix = record { dot = tt; bytes = refl }

one_part : (t : Ctype) → AreParts (only t)
one_part t = record { each = (empty_suffix, tt); differ = (tt, tt) }

no_parts : AreParts []
no_parts = record { each = tt; differ = tt }

union_right : (tag : ℕ) (members : Option (List MemberTerm)) → AreParts (union_parts tag members)
union_right tag None = no_parts
union_right tag (Some members) = one_part (UnionOf tag)

module _ (table : Table) (known : (tag : ℕ) (members : List MemberTerm) → members_in table tag ≡ Some members → AreMembers members) where
  structure_right : (tree : Ctype → List Part) → ((t : Ctype) → AreParts (tree t)) → (tag : ℕ) (members : Option (List MemberTerm)) → members_in table tag ≡ members
      → AreParts (structure_parts tree table tag members)
  structure_right tree trees tag None is = no_parts
  structure_right tree trees tag (Some members) is =
      let right = known tag members is in
      let under = members_right members right tree trees table 0 members (λ i. ap (slice_get members) (omega arith)) in
      record {
        each = (empty_suffix, under.each);
        differ = (whole_differs members right 0 (members_parts tree table 0 members) (StructureOf tag) under.under, under.differ);
      }

  tree_right : (structures : ℕ → List Part) → ((tag : ℕ) → AreParts (structures tag)) → (t : Ctype) → AreParts (tree_over structures table t)
  tree_right structures h VoidType = no_parts
  tree_right structures h BoolType = one_part BoolType
  tree_right structures h (IntegerType size rank signed) = one_part (IntegerType size rank signed)
  tree_right structures h FloatingType = one_part FloatingType
  tree_right structures h VaListType = one_part VaListType
  tree_right structures h (PointerTo to) = one_part (PointerTo to)
  tree_right structures h (ArrayOf of None) = no_parts
  tree_right structures h (ArrayOf of (Some n)) = tree_right structures h of
  tree_right structures h (FunctionFrom result parameters form) = no_parts
  tree_right structures h (StructureOf tag) = h tag
  tree_right structures h (UnionOf tag) = union_right tag (members_in table tag)

  within_right : (depth tag : ℕ) → AreParts (structures_within depth table tag)
  within_right zero tag = no_parts
  within_right (suc depth) tag = structure_right (tree_over (structures_within depth table) table) (tree_right (structures_within depth table) (within_right depth)) tag (members_in table tag) refl

  pub parts_right : (t : Ctype) → AreParts (parts_of table t)
  unfolding parts_of
  parts_right t = tree_right (structures_within (node_count (extent_in table t)) table) (within_right (node_count (extent_in table t))) t
