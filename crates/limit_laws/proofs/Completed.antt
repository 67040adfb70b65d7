-- Structures and unions that specifiers name are small: those without members have no size, and the others were asked for it where they
-- were completed (C11 6.7.2.1).
use Rattle.std.proofs.Common.{arith, ◌≡◌, ◌==◌, ◌<◌, ◌≤◌, ◌+◌, ℕ, zero, suc, Bool, true, false, eqb, ◌&&◌, ◌||◌, not, List, [], ◌∷◌, ◌++◌, map, append-nil, Option, Some, None, length, take, refl, sym, ap, ◌∙◌, subst}
use Rattle.std.specs.Prelude.{if◌then◌else◌}
use Rattle.std.proofs.lemmas.Bool.{eqb-true, eq-eqb}
use Rattle.c_types.specs.Trees.{StructureOf, UnionOf}
use Rattle.c_types.specs.Layout.{Extent, of_members, structure_of, union_of, member_extent}
use Rattle.c_grammar.specs.Productions.{p_struct, p_members}
use Rattle.c_grammar.specs.Words.{word_union}
use Rattle.c_inits.specs.Made.{Part, TagParts}
use Rattle.c_senses.specs.Given.{Fits}
use Rattle.c_senses.specs.Tree.{Source, is_a, is_number, word_at, child_of, any_where, numbers_from}
use Rattle.c_senses.specs.World.{World, extent, same_length}
use Rattle.c_senses.specs.Sense.{Sense, IsType, IsMembers, sense_in}
use Rattle.c_senses.specs.Tags.{is_union, tag_of, tag_fits, tag_declared, named_tag, keyword_of, has_list, is_listed_before, aggregate_type, laid, struct_type, struct_row, members_in_sense, completed_from, look_of, types_of_parts}
use Rattle.c_senses.specs.Limits.{is_small}
use Rattle.c_senses.specs.Right.{is_tag, TagsDiffer}
use Rattle.c_senses.specs.Rows.{world_at, AreSenses}
use Rattle.parsed_tree_laws.specs.sense_laws.Senses.{ChildrenFirst}
use Rattle.parsed_tree_laws.specs.family_laws.Families.{Families}
use Rattle.unit_worlds.specs.Growing.{completed_at}
use Rattle.unit_worlds.proofs.Entries.{completed_more}
use Rattle.unit_worlds.proofs.Completing.{after, entry_for, look_append}
use Rattle.limit_laws.proofs.Reading.{given_true, before, around, take_one, take_all, taken_length, row_there, production_is}

-- ---- one keyword for each tag

any_at : (test : ℕ → Bool) (k n j : ℕ) → k ≤ j → j < k + n → test j ≡ true → any_where test (numbers_from k n) ≡ true
any_at test k zero j low high h = absurd (omega arith)
any_at test k (suc n) j low high h = by (λ l. any_at test (suc k) n j l (omega (arith, high)) h) (test k) refl
  where
    differs : test k ≡ false → k ≡ j → ⊥
    differs e same = let f : test k ≡ true = ap test same ∙ h in cc

    by : (suc k ≤ j → any_where test (numbers_from (suc k) n) ≡ true) → (b : Bool) → test k ≡ b → (b || any_where test (numbers_from (suc k) n)) ≡ true
    by rest true e = refl
    by rest false e = let apart = differs e in rest (omega (arith, low, apart))

both : (a b : Bool) → a ≡ true → b ≡ true → (a && b) ≡ true
both a b e f = ap (λ (x : Bool). x && b) e ∙ f

tag_there : (s : Source) (i : ℕ) → i < length s.nodes → is_a s p_struct i ≡ true → is_tag s (tag_declared s i) ≡ true
tag_there s i inside struct =
    any_at (λ j. is_a s p_struct j && (tag_declared s j == tag_declared s i)) 0 (length s.nodes) i (omega arith) (omega (arith, inside))
    (both (is_a s p_struct i) (tag_declared s i == tag_declared s i) struct (eq-eqb (tag_declared s i) (tag_declared s i) refl))

same_lengths : (a b : Option ℕ) → same_length a b ≡ true → a ≡ b
same_lengths None None e = refl
same_lengths (Some a) (Some b) e = ap Some (eqb-true a b e)
same_lengths None (Some b) e = cc
same_lengths (Some a) None e = cc

word_agrees : (a b : Bool) → not (a || not b) ≡ true → b ≡ true
word_agrees true b e = cc
word_agrees false true e = refl
word_agrees false false e = cc

-- the keyword of a specifier whose tag fits is that of its tag
word_of : (s : Source) (i : ℕ) → tag_fits s i ≡ true → keyword_of s (tag_declared s i) ≡ word_at s i
word_of s i h = same_lengths (keyword_of s (tag_declared s i)) (word_at s i) (word_agrees (has_list s i && is_listed_before s i) (same_length (keyword_of s (tag_declared s i)) (word_at s i)) h)

module _ (s : Source) (senses : List Sense) (are : AreSenses s senses) (first : ChildrenFirst s) where
  struct_there : (i : ℕ) → i < length senses → is_a s p_struct i ≡ true → struct_row (around s senses i) s (before senses i) i ≡ Fits (sense_in senses i)
  struct_there i inside struct = row_there s senses are i p_struct inside (production_is s i p_struct struct)

  fits_there : (i : ℕ) → i < length senses → is_a s p_struct i ≡ true → tag_fits s i ≡ true
  fits_there i inside struct = (given_true (tag_fits s i) (named_tag s i) _ (sense_in senses i) (struct_there i inside struct)).0

  unions_same : Families s → TagsDiffer s → (i j : ℕ) → i < length senses → j < length senses → is_a s p_struct i ≡ true → is_a s p_struct j ≡ true → tag_of s i ≡ tag_of s j → is_union s i ≡ is_union s j
  unions_same families differ i j in_i in_j struct_i struct_j tag =
      let long = are.within in
      let declared : tag_declared s i ≡ tag_declared s j = differ (tag_declared s i) (tag_declared s j) (tag_there s i (omega (arith, in_i, long)) struct_i) (tag_there s j (omega (arith, in_j, long)) struct_j) tag in
      let words : word_at s i ≡ word_at s j = sym (word_of s i (fits_there i in_i struct_i)) ∙ (ap (keyword_of s) declared ∙ word_of s j (fits_there j in_j struct_j)) in
      families.words i struct_i ∙ (ap (λ (o : Option ℕ). is_number o word_union) words ∙ sym (families.words j struct_j))

  -- ---- what a tag takes was completed by a specifier

  abbrev done : ℕ → List TagParts
  done n = completed_from s (take n senses) (before senses n) 0

  record IsLaid (n tag : ℕ) (es : List Extent) : Type 0 where
    node : ℕ
    below : node < n
    struct : is_a s p_struct node ≡ true
    list : ℕ
    child : child_of s p_members node ≡ Some list
    parts : List Part
    made : before senses node list ≡ IsMembers parts
    tag_is : tag_of s node ≡ tag
    own : es ≡ map (member_extent (look_of (done node))) (types_of_parts parts)

  later : (n tag : ℕ) (es : List Extent) → IsLaid n tag es → IsLaid (suc n) tag es
  later n tag es l = record {
    node = l.node;
    below = (let below = l.below in omega (arith, below));
    struct = l.struct;
    list = l.list;
    child = l.child;
    parts = l.parts;
    made = l.made;
    tag_is = l.tag_is;
    own = l.own;
  }

  module _ (n tag : ℕ) (es : List Extent) (deeper : look_of (done n) tag ≡ Some es → IsLaid n tag es) where
    old : look_of (done n) tag ≡ Some es → IsLaid (suc n) tag es
    old h = later n tag es (deeper h)

    none : look_of (done n ++ []) tag ≡ Some es → IsLaid (suc n) tag es
    none h = old (subst (λ (l : List TagParts). look_of l tag ≡ Some es) (append-nil (done n)) h)

    here : is_a s p_struct n ≡ true → (list : ℕ) → child_of s p_members n ≡ Some list → (parts : List Part) → before senses n list ≡ IsMembers parts → (o : Option (List Extent)) → look_of (done n) tag ≡ o
        → after o (entry_for (look_of (done n)) (record { tag = tag_of s n; members = parts }) tag) ≡ Some es → IsLaid (suc n) tag es
    unfolding after entry_for
    here struct list child parts made (Some x) q h = old (q ∙ h)
    here struct list child parts made None q h = by (eqb (tag_of s n) tag) refl h
      where
        by : (b : Bool) → eqb (tag_of s n) tag ≡ b → (if b then Some (map (member_extent (look_of (done n))) (types_of_parts parts)) else None) ≡ Some es → IsLaid (suc n) tag es
        by true t e = record {
          node = n;
          below = omega arith;
          struct = struct;
          list = list;
          child = child;
          parts = parts;
          made = made;
          tag_is = eqb-true (tag_of s n) tag t;
          own = cc;
        }
        by false t e = cc

    by_sense : is_a s p_struct n ≡ true → (list : ℕ) → child_of s p_members n ≡ Some list → (y : Sense) → before senses n list ≡ y
        → look_of (done n ++ (elim y as (λ _. List TagParts) [ IsMembers parts ↦ record { tag = tag_of s n; members = parts } ∷ [] | _ ↦ [] ])) tag ≡ Some es → IsLaid (suc n) tag es
    by_sense struct list child (IsMembers parts) made h = here struct list child parts made (look_of (done n) tag) refl (sym (look_append (done n) (record { tag = tag_of s n; members = parts }) tag) ∙ h)
    by_sense struct list child y made h = none h

    by_node : (b : Bool) → is_a s p_struct n ≡ b → (o : Option ℕ) → child_of s p_members n ≡ o
        → look_of (done n ++ (elim (if b then o else None) as (λ _. List TagParts) [ None ↦ [] | Some list ↦ elim (before senses n list) as (λ _. List TagParts) [ IsMembers parts ↦ record { tag = tag_of s n; members = parts } ∷ [] | _ ↦ [] ] ])) tag ≡ Some es → IsLaid (suc n) tag es
    by_node false struct o child h = none h
    by_node true struct None child h = none h
    by_node true struct (Some list) child h = by_sense struct list child (before senses n list) refl h

    laid_more : look_of (done n ++ completed_at s (before senses n) n) tag ≡ Some es → IsLaid (suc n) tag es
    laid_more h = by_node (is_a s p_struct n) refl (child_of s p_members n) refl h

  laid_up : (n : ℕ) → n ≤ length senses → (tag : ℕ) (es : List Extent) → look_of (done n) tag ≡ Some es → IsLaid n tag es
  laid_up zero le tag es e = cc
  laid_up (suc n) le tag es e =
      let one = take_one senses n (omega (arith, le)) in
      let long : length (take n senses) ≡ n = taken_length senses n (omega (arith, le)) in
      let more = completed_more s first (take n senses) one.0 in
      let there : look_of (completed_from s (take n senses ++ one.0 ∷ []) (sense_in (take n senses ++ one.0 ∷ [])) 0) tag ≡ Some es
      = subst (λ (l : List Sense). look_of (completed_from s l (sense_in l) 0) tag ≡ Some es) one.1 e in
      let grown : look_of (done n ++ completed_at s (before senses n) (length (take n senses))) tag ≡ Some es = sym (ap (λ (l : List TagParts). look_of l tag) more) ∙ there in
      laid_more n tag es (λ h. laid_up n (omega (arith, le)) tag es h)
      (subst (λ (k : ℕ). look_of (done n ++ completed_at s (before senses n) k) tag ≡ Some es) long grown)

  -- ---- what specifiers name is small

  module _ (families : Families s) (differ : TagsDiffer s) (i : ℕ) (inside : i < length senses) (struct : is_a s p_struct i ≡ true) where
    abbrev w : World
    w = world_at s senses (length senses)

    open_small : w.look (tag_of s i) ≡ None → (b : Bool) → is_small (extent w (if b then UnionOf (tag_of s i) else StructureOf (tag_of s i))) ≡ true
    open_small e true = ap (λ (o : Option (List Extent)). is_small (of_members (union_of (UnionOf (tag_of s i))) o)) e
    open_small e false = ap (λ (o : Option (List Extent)). is_small (of_members (structure_of (StructureOf (tag_of s i))) o)) e

    module _ (es : List Extent) (e : w.look (tag_of s i) ≡ Some es) (c : IsLaid (length senses) (tag_of s i) es) where
      asked : is_small (Some (laid (around s senses c.node) (is_union s c.node) (aggregate_type s c.node) c.parts)) ≡ true
      asked =
          let v : World = around s senses c.node in
          let f : ℕ → Sense = before senses c.node in
          let x : Sense = sense_in senses c.node in
          let r = (given_true (tag_fits s c.node) (named_tag s c.node) _ x (struct_there c.node c.below c.struct)).1 in
          let q : struct_type v s f c.node (Some c.list) ≡ Fits x = subst (λ (o : Option ℕ). struct_type v s f c.node o ≡ Fits x) c.child r in
          let g = given_true (is_small (Some (laid v (is_union s c.node) (aggregate_type s c.node) (members_in_sense v s f (f c.list))))) c.node (Fits (IsType (aggregate_type s c.node))) x q in
          subst (λ (y : Sense). is_small (Some (laid v (is_union s c.node) (aggregate_type s c.node) (members_in_sense v s f y))) ≡ true) c.made g.0

      asked_here : is_small (Some (laid (around s senses c.node) (is_union s i) (aggregate_type s i) c.parts)) ≡ true
      asked_here =
          let v : World = around s senses c.node in
          let same = unions_same families differ c.node i c.below inside c.struct struct c.tag_is in
          let one : is_small (Some (laid v (is_union s i) (if is_union s i then UnionOf (tag_of s c.node) else StructureOf (tag_of s c.node)) c.parts)) ≡ true
          = subst (λ (b : Bool). is_small (Some (laid v b (if b then UnionOf (tag_of s c.node) else StructureOf (tag_of s c.node)) c.parts)) ≡ true) same asked in
          subst (λ (n : ℕ). is_small (Some (laid v (is_union s i) (if is_union s i then UnionOf n else StructureOf n) c.parts)) ≡ true) c.tag_is one

      by_union : (b : Bool) → is_small (Some (laid (around s senses c.node) b (if b then UnionOf (tag_of s i) else StructureOf (tag_of s i)) c.parts)) ≡ true
          → is_small (extent w (if b then UnionOf (tag_of s i) else StructureOf (tag_of s i))) ≡ true
      by_union true h = ap (λ (o : Option (List Extent)). is_small (of_members (union_of (UnionOf (tag_of s i))) o)) (e ∙ ap Some c.own) ∙ h
      by_union false h = ap (λ (o : Option (List Extent)). is_small (of_members (structure_of (StructureOf (tag_of s i))) o)) (e ∙ ap Some c.own) ∙ h

      laid_small : is_small (extent w (aggregate_type s i)) ≡ true
      laid_small = by_union (is_union s i) asked_here

    pub aggregate_small : is_small (extent w (aggregate_type s i)) ≡ true
    aggregate_small = by (w.look (tag_of s i)) refl
      where
        by : (o : Option (List Extent)) → w.look (tag_of s i) ≡ o → is_small (extent w (aggregate_type s i)) ≡ true
        by None e = open_small e (is_union s i)
        by (Some es) e =
            laid_small es e (laid_up (length senses) (omega arith) (tag_of s i) es
            (subst (λ (l : List Sense). look_of (completed_from s l (sense_in l) 0) (tag_of s i) ≡ Some es) (sym (take_all senses)) e))
