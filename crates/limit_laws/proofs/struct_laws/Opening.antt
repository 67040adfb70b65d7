-- A tag has no members before its first specifier with a list.
use Rattle.std.proofs.Common.{arith, ◌≡◌, ◌==◌, ◌<◌, ◌≤◌, ◌+◌, ℕ, zero, suc, Bool, true, false, ◌&&◌, ◌||◌, not, List, [], ◌∷◌, Option, Some, None, length, refl, ap, ◌∙◌}
use Rattle.std.specs.Prelude.{is_some, if◌then◌else◌}
use Rattle.std.proofs.lemmas.Bool.{eqb-true, eq-eqb}
use Rattle.c_grammar.specs.Productions.{p_struct, p_members, p_enum, p_enumerators}
use Rattle.c_inits.specs.Made.{Part, TagParts}
use Rattle.c_senses.specs.Tree.{Source, is_a, child_of, any_where, all_where, numbers_from}
use Rattle.c_senses.specs.Sense.{Sense, IsMembers, sense_in}
use Rattle.c_senses.specs.Tags.{is_tag_specifier, has_list, tag_declared, tag_of, tag_fits, is_listed_before, has_other_keyword, completed_from, members_under}
use Rattle.c_senses.specs.Right.{is_tag, TagsDiffer}
use Rattle.limit_laws.specs.struct_laws.Laws.{TagsStayOpen}

-- a specifier with a list, among some nodes, of a tag's number
record IsCompletedBy (s : Source) (low high n : ℕ) : Type 0 where
  node : ℕ
  above : low ≤ node
  below : node < high
  struct : is_a s p_struct node ≡ true
  list : ℕ
  child : child_of s p_members node ≡ Some list
  tag : tag_of s node ≡ n

later : (s : Source) (low high n : ℕ) → IsCompletedBy s (suc low) high n → IsCompletedBy s low high n
later s low high n c = record {
  node = c.node;
  above = (let above = c.above in omega (arith, above));
  below = c.below;
  struct = c.struct;
  list = c.list;
  child = c.child;
  tag = c.tag;
}

module _ (s : Source) (f : ℕ → Sense) (n : ℕ) (ps : List Part) (i high : ℕ) (inside : i < high) (more : List TagParts) (rest : members_under more n ≡ Some ps → IsCompletedBy s i high n) where
  by_tag : (struct : is_a s p_struct i ≡ true) (list : ℕ) (child : child_of s p_members i ≡ Some list) (parts : List Part) (b : Bool) → (tag_of s i == n) ≡ b → (if b then Some parts else members_under more n) ≡ Some ps → IsCompletedBy s i high n
  by_tag struct list child parts true h e = record {
    node = i;
    above = omega arith;
    below = inside;
    struct = struct;
    list = list;
    child = child;
    tag = eqb-true (tag_of s i) n h;
  }
  by_tag struct list child parts false h e = rest e

  by_sense : (struct : is_a s p_struct i ≡ true) (list : ℕ) (child : child_of s p_members i ≡ Some list) (x : Sense) → members_under (elim x as (λ _. List TagParts) [ IsMembers parts ↦ record { tag = tag_of s i; members = parts } ∷ more | _ ↦ more ]) n ≡ Some ps → IsCompletedBy s i high n
  by_sense struct list child (IsMembers parts) e = by_tag struct list child parts (tag_of s i == n) refl e
  by_sense struct list child x e = rest e

  by_node : (b : Bool) → is_a s p_struct i ≡ b → (o : Option ℕ) → child_of s p_members i ≡ o
      → members_under (elim (if b then o else None) as (λ _. List TagParts) [ None ↦ more | Some list ↦ elim (f list) as (λ _. List TagParts) [ IsMembers parts ↦ record { tag = tag_of s i; members = parts } ∷ more | _ ↦ more ] ]) n ≡ Some ps → IsCompletedBy s i high n
  by_node false struct o child e = rest e
  by_node true struct None child e = rest e
  by_node true struct (Some list) child e = by_sense struct list child (f list) e

completed_by : (s : Source) (f : ℕ → Sense) (n : ℕ) (ps : List Part) (xs : List Sense) (i high : ℕ) → i + length xs ≤ high → members_under (completed_from s xs f i) n ≡ Some ps → IsCompletedBy s i high n
completed_by s f n ps [] i high h e = cc
completed_by s f n ps (x ∷ xs) i high h e =
    by_node s f n ps i high (omega (arith, h)) (completed_from s xs f (suc i)) (λ g. later s i high n (completed_by s f n ps xs (suc i) high (omega (arith, h)) g)) (is_a s p_struct i) refl (child_of s p_members i) refl e

-- ---- what is among numbers

further : (k j : ℕ) → k ≤ j → (k ≡ j → ⊥) → suc k ≤ j
further k j h apart = omega (arith, h, apart)

differs : (test : ℕ → Bool) (k j : ℕ) → test k ≡ false → test j ≡ true → k ≡ j → ⊥
differs test k j e h same = let f : test k ≡ true = ap test same ∙ h in cc

any_at : (test : ℕ → Bool) (k n j : ℕ) → k ≤ j → j < k + n → test j ≡ true → any_where test (numbers_from k n) ≡ true
any_at test k zero j low high h = absurd (omega arith)
any_at test k (suc n) j low high h = by (λ l. any_at test (suc k) n j l (omega (arith, high)) h) (test k) refl
  where
    by : (suc k ≤ j → any_where test (numbers_from (suc k) n) ≡ true) → (b : Bool) → test k ≡ b → (b || any_where test (numbers_from (suc k) n)) ≡ true
    by rest true e = refl
    by rest false e = rest (further k j low (differs test k j e h))

any_among : (test pre : ℕ → Bool) (k n j : ℕ) → k ≤ j → j < k + n → pre j ≡ true → test j ≡ true → any_where test (all_where pre (numbers_from k n)) ≡ true
any_among test pre k zero j low high p h = absurd (omega arith)
any_among test pre k (suc n) j low high p h = by (λ l. any_among test pre (suc k) n j l (omega (arith, high)) p h) (pre k) refl
  where
    here : (suc k ≤ j → any_where test (all_where pre (numbers_from (suc k) n)) ≡ true) → (b : Bool) → test k ≡ b → (b || any_where test (all_where pre (numbers_from (suc k) n))) ≡ true
    here rest true e = refl
    here rest false e = rest (further k j low (differs test k j e h))

    by : (suc k ≤ j → any_where test (all_where pre (numbers_from (suc k) n)) ≡ true) → (b : Bool) → pre k ≡ b → any_where test (if b then k ∷ all_where pre (numbers_from (suc k) n) else all_where pre (numbers_from (suc k) n)) ≡ true
    by rest true e = here rest (test k) refl
    by rest false e = rest (further k j low (differs pre k j e p))

both : (a b : Bool) → a ≡ true → b ≡ true → (a && b) ≡ true
both a b e f = ap (λ (x : Bool). x && b) e ∙ f

same_number : (n : ℕ) → (n == n) ≡ true
same_number n = eq-eqb n n refl

module _ (s : Source) where
  pub tag_there : (i : ℕ) → i < length s.nodes → is_a s p_struct i ≡ true → is_tag s (tag_declared s i) ≡ true
  tag_there i inside struct =
      any_at (λ j. is_a s p_struct j && (tag_declared s j == tag_declared s i)) 0 (length s.nodes) i (omega arith) (omega (arith, inside))
      (both (is_a s p_struct i) (tag_declared s i == tag_declared s i) struct (same_number (tag_declared s i)))

  listed : (i list : ℕ) → child_of s p_members i ≡ Some list → has_list s i ≡ true
  listed i list child = ap (λ (o : Option ℕ). is_some o || is_some (child_of s p_enumerators i)) child

  -- two specifiers of a tag have no two lists
  twice : (at list : ℕ) → TagsDiffer s → at < length s.nodes → is_a s p_struct at ≡ true → child_of s p_members at ≡ Some list → tag_fits s at ≡ true → IsCompletedBy s 0 at (tag_of s at) → ⊥
  twice at list differ inside struct child fits c =
      let j = c.node in
      let below = c.below in
      let same : tag_declared s c.node ≡ tag_declared s at = differ (tag_declared s c.node) (tag_declared s at) (tag_there c.node (omega (arith, below, inside)) c.struct) (tag_there at inside struct) c.tag in
      let before : is_listed_before s at ≡ true
      = any_among (λ k. has_list s k && (tag_declared s k == tag_declared s at)) (is_tag_specifier s) 0 at c.node (omega arith) (omega (arith, below)) (ap (λ (b : Bool). b || is_a s p_enum c.node) c.struct)
      (both (has_list s c.node) (tag_declared s c.node == tag_declared s at) (listed c.node c.list c.child) (eq-eqb (tag_declared s c.node) (tag_declared s at) same)) in
      let never : tag_fits s at ≡ false
      = ap (λ (b : Bool). not ((b && is_listed_before s at) || has_other_keyword s at)) (listed at list child) ∙ ap (λ (b : Bool). not (b || has_other_keyword s at)) before in
      both_ways fits never
    where
      both_ways : {b : Bool} → b ≡ true → b ≡ false → ⊥
      both_ways e f = cc

pub tags_open : TagsStayOpen
tags_open s senses at list i differ short inside struct child fits = by (members_under (completed_from s senses (sense_in senses) 0) (tag_of s at)) refl
  where
    by : (o : Option (List Part)) → members_under (completed_from s senses (sense_in senses) 0) (tag_of s at) ≡ o → members_under (completed_from s senses (sense_in senses) 0) (tag_of s at) ≡ None
    by None e = e
    by (Some ps) e = absurd (twice s at list differ inside struct child fits (completed_by s (sense_in senses) (tag_of s at) ps senses 0 at (omega (arith, short)) e))
