-- A key by that of the structure around.
use Rattle.std.proofs.Common.{arith, ◌≡◌, ◌∙◌, ℕ, zero, suc, ◌+◌, ◌<◌, ◌≤◌, Bool, true, false, cond, List, [], ◌∷◌, length, Option, Some, None, refl, sym, ap}
use Rattle.std.specs.Prelude.{◌||◌, option_and_then, slice_get, ◌==◌}
use Rattle.std.proofs.lemmas.Bool.Decides.{nat_tests}
use Rattle.c_grammar.specs.Productions.{p_specs, p_member}
use Rattle.c_grammar.specs.Terminals.{contains}
use Rattle.c_senses.specs.Tree.{Source, is_a, parent_of, children_at, first_where, numbers_from}
use Rattle.c_senses.specs.Keys.{is_inner, first_free, names_with, specs_around, declaration_with, member_around, list_around, key_within, key_of}
use Rattle.c_senses.specs.Sense.{Sense}
use Rattle.parsed_tree_laws.specs.sense_laws.Senses.{ChildrenFirst}
use Rattle.unit_keys.specs.Placed.{ParentsBehind}
use Rattle.unit_keys.specs.given_keys.Keyed.{key_by}

-- what is found passes, and stands in the list
found_by : (test : ℕ → Bool) (k n p : ℕ) (b : Bool) (rest : Option ℕ) → test k ≡ b → (rest ≡ Some p → (p < suc k + n) × (test p ≡ true)) → cond b (Some k) rest ≡ Some p → (p < k + suc n) × (test p ≡ true)
found_by test k n p true rest e h g = let same : k ≡ p = cc in (omega (arith, same), ap test (sym same) ∙ e)
found_by test k n p false rest e h g = let f = h g in (omega (arith, f.0), f.1)

found_from : (test : ℕ → Bool) (k n p : ℕ) → first_where test (numbers_from k n) ≡ Some p → (p < k + n) × (test p ≡ true)
found_from test k zero p h = cc
found_from test k (suc n) p h = found_by test k n p (test k) (first_where test (numbers_from (suc k) n)) refl (λ g. found_from test (suc k) n p g) h

place_by : (y : ℕ) (ys : List ℕ) (x : ℕ) (b : Bool) → (y == x) ≡ b → (contains ys x ≡ true → (k : ℕ) × (slice_get ys k ≡ Some x)) → (b || contains ys x) ≡ true → (k : ℕ) × (slice_get (y ∷ ys) k ≡ Some x)
place_by y ys x true e h g = let same : y ≡ x = grind (arith, nat_tests, e) in (0, ap Some same)
place_by y ys x false e h g = let f = h g in (suc f.0, f.1)

has_place : (xs : List ℕ) (x : ℕ) → contains xs x ≡ true → (k : ℕ) × (slice_get xs k ≡ Some x)
has_place [] x h = cc
has_place (y ∷ ys) x h = place_by y ys x (y == x) refl (λ g. has_place ys x g) h

pub parents_behind : (s : Source) → ChildrenFirst s → ParentsBehind s
parents_behind s first i p h =
    let f = found_from (λ q. contains (children_at s q) i) 0 (length s.nodes) p h in
    let k = has_place (children_at s p) i f.1 in
    (first p k.0 i k.1, omega (arith, f.0))

module _ (s : Source) (behind : ParentsBehind s) where
  if_some : (b : Bool) (q p : ℕ) → cond b (Some q) None ≡ Some p → q ≡ p
  if_some true q p h = cc
  if_some false q p h = cc

  chain : (o : Option ℕ) (f : ℕ → Option ℕ) (p : ℕ) → option_and_then f o ≡ Some p → (q : ℕ) × (o ≡ Some q) × (f q ≡ Some p)
  chain None f p h = cc
  chain (Some q) f p h = (q, refl, h)

  specs_behind : (sense : ℕ → Sense) (i p : ℕ) → specs_around s sense i ≡ Some p → i < p
  specs_behind sense i p h =
      let t = chain (parent_of s i) _ p h in
      let q = chain (parent_of s t.0) _ p t.2 in
      let same = if_some (is_a s p_specs q.0) q.0 p q.2 in
      let a = behind i t.0 t.1 in
      let b = behind t.0 q.0 q.1 in omega (arith, a.0, b.0, same)

  pub around_behind : (sense : ℕ → Sense) (i p : ℕ) → option_and_then (parent_of s) (list_around s sense i) ≡ Some p → (i < p) × (p < length s.nodes)
  around_behind sense i p h =
      let list = chain (list_around s sense i) (parent_of s) p h in
      let member = chain (member_around s sense i) (parent_of s) list.0 list.1 in
      let with = chain (declaration_with s sense i) _ member.0 member.1 in
      let same = if_some (is_a s p_member with.0) with.0 member.0 with.2 in
      let specs = chain (specs_around s sense i) (parent_of s) with.0 with.1 in
      let a = specs_behind sense i specs.0 specs.1 in
      let b = behind specs.0 with.0 specs.2 in
      let c = behind member.0 list.0 member.2 in
      let d = behind list.0 p list.2 in
      (omega (arith, a, b.0, same, c.0, d.0), d.1)

  -- one level of a key, over what the levels below give of the structure around
  level : (ℕ → Sense) → (ℕ → Option (List ℕ)) → ℕ → Option (List ℕ)
  level sense below i =
      cond (is_inner s sense i) None (key_by s sense i (first_free s sense i (names_with s sense i)) (option_and_then below (option_and_then (parent_of s) (list_around s sense i))))

  level_is : (sense : ℕ → Sense) (n i : ℕ) → key_within s sense (suc n) i ≡ level sense (key_within s sense n) i
  unfolding level
  level_is sense n i = refl

  around_same : (sense : ℕ → Sense) (f g : ℕ → Option (List ℕ)) (o : Option ℕ) → ((p : ℕ) → o ≡ Some p → f p ≡ g p) → option_and_then f o ≡ option_and_then g o
  around_same sense f g None h = refl
  around_same sense f g (Some p) h = h p refl

  level_same : (sense : ℕ → Sense) (f g : ℕ → Option (List ℕ)) (i : ℕ) → ((p : ℕ) → i < p → p < length s.nodes → f p ≡ g p) → level sense f i ≡ level sense g i
  unfolding level
  level_same sense f g i h =
      ap (λ (o : Option (List ℕ)). cond (is_inner s sense i) None (key_by s sense i (first_free s sense i (names_with s sense i)) o))
      (around_same sense f g (option_and_then (parent_of s) (list_around s sense i)) (λ p e. (let b = around_behind sense i p e in h p b.0 b.1)))

  within_same : (sense : ℕ → Sense) (n m i : ℕ) → i < length s.nodes → length s.nodes ≤ n + i → length s.nodes ≤ m + i → key_within s sense n i ≡ key_within s sense m i
  within_same sense zero m i lt en em = absurd (omega (arith, lt, en))
  within_same sense (suc n) zero i lt en em = absurd (omega (arith, lt, em))
  within_same sense (suc n) (suc m) i lt en em =
      level_is sense n i
      ∙ (level_same sense (key_within s sense n) (key_within s sense m) i (λ p above few. within_same sense n m p few (omega (arith, above, en)) (omega (arith, above, em)))
      ∙ sym (level_is sense m i))

  -- a key by that of the structure around
  pub key_is : (sense : ℕ → Sense) (i : ℕ) → i < length s.nodes → key_of s sense i ≡ cond (is_inner s sense i) None (key_by s sense i (first_free s sense i (names_with s sense i)) (option_and_then (key_of s sense) (option_and_then (parent_of s) (list_around s sense i))))
  unfolding level
  key_is sense i lt = by_size (length s.nodes) refl
    where
      by_size : (n : ℕ) → n ≡ length s.nodes → key_of s sense i ≡ level sense (key_of s sense) i
      by_size zero e = absurd (omega (arith, lt, e))
      by_size (suc n) e =
          ap (λ (k : ℕ). key_within s sense k i) (sym e)
          ∙ (level_is sense n i ∙ level_same sense (key_within s sense n) (key_of s sense) i (λ p above few. within_same sense n (length s.nodes) p few (omega (arith, above, e)) (omega arith)))
