-- The forms of a key.
use Rattle.std.proofs.Common.{arith, ◌≡◌, ◌∙◌, ℕ, ◌+◌, ◌-◌, ◌<◌, Bool, true, false, cond, List, ◌++◌, length, get_or, Option, Some, None, inl, inr, refl, sym, ap}
use Rattle.std.specs.Prelude.{codes, decimal, option_map, option_and_then}
use Rattle.std.proofs.lemmas.Bool.Decides.{eqb_tells}
use Rattle.c_senses.specs.Tree.{Source, spelling_at, parent_of}
use Rattle.c_senses.specs.Tags.{tag_leaf}
use Rattle.c_senses.specs.Keys.{word_of_key, is_inner, first_free, names_with, has_members, position_in, key_of, list_around}
use Rattle.c_senses.specs.Sense.{Sense}
use Rattle.unit_keys.specs.Placed.{ParentsBehind, AreInner}
use Rattle.unit_keys.specs.Specifiers.{is_specifier}
use Rattle.unit_keys.specs.given_keys.Kept.{key_at, AreKeys}
use Rattle.unit_keys.specs.given_keys.Keyed.{inherited, key_around, key_without_tag, key_by}
use Rattle.unit_keys.proofs.given_keys.KeyIs.{key_is}

module _ (s : Source) (sense : ℕ → Sense) (i : ℕ) where
  -- the key from a structure around
  longer : List ℕ → List ℕ
  longer key = word_of_key s i ++ (key ++ (codes ":" ++ decimal (position_in s sense i)))

  pub no_members : (around : Option (List ℕ)) → has_members s sense i ≡ false → None ≡ inherited s sense i around
  unfolding longer
  no_members around e = sym (ap (λ (b : Bool). cond b (option_map longer around) None) e)

  either_none : (b : Bool) → None ≡ cond b (option_map longer None) None
  unfolding longer
  either_none true = refl
  either_none false = refl

  pub none_around : (around : Option (List ℕ)) → around ≡ None → None ≡ inherited s sense i around
  unfolding longer
  none_around around e = either_none (has_members s sense i) ∙ sym (ap (inherited s sense i) e)

  pub some_around : (around : Option (List ℕ)) (key text : List ℕ) (position : ℕ) → has_members s sense i ≡ true → around ≡ Some key → position ≡ position_in s sense i → text ≡ word_of_key s i ++ (key ++ (codes ":" ++ decimal position)) → Some text ≡ inherited s sense i around
  unfolding longer
  some_around around key text position em ea ep et =
      ap Some (et ∙ ap (λ (n : ℕ). word_of_key s i ++ (key ++ (codes ":" ++ decimal n))) ep)
      ∙ sym (ap (λ (b : Bool). cond b (option_map longer around) None) em ∙ ap (option_map longer) ea)

  pub by_tag : (free around : Option (List ℕ)) (leaf : ℕ) → tag_leaf s i ≡ Some leaf → key_by s sense i free around ≡ Some (word_of_key s i ++ spelling_at s leaf)
  by_tag free around leaf e =
      ap (λ (o : Option ℕ). elim o [ Some l ↦ Some (word_of_key s i ++ spelling_at s l) | None ↦ key_without_tag s sense i free around ]) e

  pub without_tag : (free around : Option (List ℕ)) → tag_leaf s i ≡ None → key_by s sense i free around ≡ key_without_tag s sense i free around
  without_tag free around e =
      ap (λ (o : Option ℕ). elim o [ Some l ↦ Some (word_of_key s i ++ spelling_at s l) | None ↦ key_without_tag s sense i free around ]) e

  pub by_name : (free around : Option (List ℕ)) (name : List ℕ) → tag_leaf s i ≡ None → free ≡ Some name → key_by s sense i free around ≡ Some (word_of_key s i ++ (codes ":" ++ name))
  by_name free around name e f = without_tag free around e ∙ ap (λ (o : Option (List ℕ)). key_without_tag s sense i o around) f

  pub by_members : (free around : Option (List ℕ)) → tag_leaf s i ≡ None → free ≡ None → key_by s sense i free around ≡ inherited s sense i around
  by_members free around e f = without_tag free around e ∙ ap (λ (o : Option (List ℕ)). key_without_tag s sense i o around) f

  pub inner_key : ParentsBehind s → i < length s.nodes → is_inner s sense i ≡ true → None ≡ key_of s sense i
  inner_key behind lt e =
      sym (key_is s behind sense i lt ∙ ap (λ (b : Bool). cond b None (key_by s sense i (first_free s sense i (names_with s sense i)) (key_around s sense i))) e)

  pub outer_key : ParentsBehind s → i < length s.nodes → is_inner s sense i ≡ false → key_by s sense i (first_free s sense i (names_with s sense i)) (key_around s sense i) ≡ key_of s sense i
  outer_key behind lt e =
      sym (key_is s behind sense i lt ∙ ap (λ (b : Bool). cond b None (key_by s sense i (first_free s sense i (names_with s sense i)) (key_around s sense i))) e)

off : (s : Source) (i : ℕ) → is_specifier s i ≡ true → is_specifier s i ≡ false → ⊥
off s i on e = let f : true ≡ false = sym on ∙ e in cc

-- a node that is no specifier, and a specifier more
pub keys_same : (s : Source) (sense : ℕ → Sense) (keys : List (ℕ × List ℕ)) (node : ℕ) → is_specifier s node ≡ false → AreKeys s sense keys (node + 1) → AreKeys s sense keys node
keys_same s sense keys node e are = record {
  each = λ i le lt on. elim (eqb_tells i node) [
    | inl p ↦ absurd (off s node (ap (is_specifier s) (sym p.1) ∙ on) e)
    | inr p ↦ are.each i (omega (arith, p.1, le)) lt on
  ];
  fresh = λ i lt. are.fresh i (omega (arith, lt));
}

pub keys_put : (s : Source) (sense : ℕ → Sense) (keys new : List (ℕ × List ℕ)) (node : ℕ) (key : Option (List ℕ)) → key ≡ key_of s sense node → key_at new node ≡ key → ((q : ℕ) → (node ≡ q → ⊥) → key_at new q ≡ key_at keys q) → AreKeys s sense keys (node + 1) → AreKeys s sense new node
keys_put s sense keys new node key e here others are = record {
  each = λ i le lt on. elim (eqb_tells i node) [
    | inl p ↦ ap (key_at new) p.1 ∙ (here ∙ (e ∙ ap (key_of s sense) (sym p.1)))
    | inr p ↦ others i (λ x. p.1 (sym x)) ∙ are.each i (omega (arith, p.1, le)) lt on
  ];
  fresh = λ i lt. others i (λ x. absurd (omega (arith, x, lt))) ∙ are.fresh i (omega (arith, lt));
}

pub keys_none : (s : Source) (sense : ℕ → Sense) (keys : List (ℕ × List ℕ)) (node : ℕ) (key : Option (List ℕ)) → key ≡ key_of s sense node → key ≡ None → AreKeys s sense keys (node + 1) → AreKeys s sense keys node
keys_none s sense keys node key e none are = keys_put s sense keys keys node key e (are.fresh node (omega arith) ∙ sym none) (λ q x. refl) are

-- the key around is that of the structure around
pub key_found : (s : Source) (sense : ℕ → Sense) (keys : List (ℕ × List ℕ)) (node structure : ℕ) (o : Option (List ℕ)) → AreKeys s sense keys (node + 1) → node < structure → structure < length s.nodes → is_specifier s structure ≡ true → option_and_then (parent_of s) (list_around s sense node) ≡ Some structure → key_at keys structure ≡ o
    → key_around s sense node ≡ o
key_found s sense keys node structure o are above few on es eo = ap (option_and_then (key_of s sense)) es ∙ (sym (are.each structure (omega (arith, above)) few on) ∙ eo)

-- the flag of a node among those of the last nodes
pub is_outer : (s : Source) (sense : ℕ → Sense) (flags : List Bool) (node k : ℕ) → AreInner s sense flags (length s.nodes) → node < length s.nodes → k ≡ length s.nodes - 1 - node → get_or flags k false ≡ false → is_inner s sense node ≡ false
is_outer s sense flags node k are few ek e =
    let lt : k < length s.nodes = omega (arith, few, ek) in
    let back : length s.nodes - 1 - k ≡ node = omega (arith, few, ek) in
    ap (is_inner s sense) (sym back) ∙ (sym (are.each k lt) ∙ e)
