-- Keys that are given are right.
use Rattle.std.proofs.Common.{arith, ◌≡◌, ◌∙◌, ℕ, zero, suc, ◌<◌, ◌≤◌, Bool, true, false, cond, List, [], ◌∷◌, length, get_or, Option, Some, None, inl, inr, refl, sym, ap}
use Rattle.std.specs.Prelude.{◌&&◌}
use Rattle.std.proofs.lemmas.Slice.Eq.{bytes_eq-Decides}
use Rattle.std.proofs.lemmas.Bool.Decides.{leb_tells}
use Rattle.c_senses.specs.Tree.{Source}
use Rattle.c_senses.specs.Right.{is_tag, key_of_tag, KeysRight}
use Rattle.c_senses.specs.Sense.{Sense}
use Rattle.unit_keys.proofs.Lists.{any_found, none_found}
use Rattle.unit_keys.specs.given_keys.Flags.{AreFlags}
use Rattle.unit_keys.specs.given_keys.Given.{is_key, is_given, untaken, own_key, GotKeys}

past : (flags : List Bool) (d : ℕ) → length flags ≤ d → get_or flags d false ≡ false
past [] d h = refl
past (x ∷ xs) zero h = absurd (omega arith)
past (x ∷ xs) (suc d) h = past xs d (omega (arith, h))

-- a tag is known by a node of the tree
pub tag_inside : (s : Source) (flags : List Bool) (d : ℕ) → AreFlags s flags → is_tag s d ≡ true → d < length s.nodes
tag_inside s flags d are tag = elim (leb_tells (suc d) (length s.nodes)) [
  | inl less ↦ less.1
  | inr more ↦
      let f = past flags d (omega (arith, are.long, more.1)) in
      let g : true ≡ false = sym tag ∙ (sym (are.each d) ∙ f) in absurd (cc)
]

and_left : (a b : Bool) → (a && b) ≡ true → a ≡ true
and_left true b h = refl
and_left false b h = h

and_right : (a b : Bool) → (a && b) ≡ true → b ≡ true
and_right true b h = h
and_right false b h = cc

module _ (s : Source) (sense : ℕ → Sense) where
  is_same : (o : Option (List ℕ)) (key : List ℕ) → is_key o key ≡ true → o ≡ Some key
  is_same None key h = cc
  is_same (Some other) key h = ap Some ((bytes_eq-Decides other key).0 h)

  same_is : (o : Option (List ℕ)) (key : List ℕ) → o ≡ Some key → is_key o key ≡ true
  same_is o key e = ap (λ (x : Option (List ℕ)). is_key x key) e ∙ (bytes_eq-Decides key key).1 refl

  own_none : (d : ℕ) → key_of_tag s sense d ≡ None → own_key s sense d ≡ None
  own_none d e = ap (untaken (is_given s sense d)) e

  own_some : (d : ℕ) (key : List ℕ) → key_of_tag s sense d ≡ Some key → own_key s sense d ≡ cond (is_given s sense d key) None (Some key)
  own_some d key e = ap (untaken (is_given s sense d)) e

  pub keys_right : (keys : List (Option (List ℕ))) → ((d : ℕ) → is_tag s d ≡ true → d < length s.nodes) → GotKeys s sense keys (length s.nodes) → KeysRight s sense keys
  keys_right keys inside got = record {
    none = λ d tag e. got d (inside d tag) tag ∙ ap Some (own_none d e);
    first = λ d key tag e others.
        let free : is_given s sense d key ≡ false =
        none_found (λ c. is_tag s c && is_key (key_of_tag s sense c) key) d
        (λ c lt on. others c lt (and_left (is_tag s c) (is_key (key_of_tag s sense c) key) on) (is_same (key_of_tag s sense c) key (and_right (is_tag s c) (is_key (key_of_tag s sense c) key) on))) in
        got d (inside d tag) tag ∙ ap Some (own_some d key e ∙ ap (λ (b : Bool). cond b None (Some key)) free);
    again = λ c d key tag e lt other f.
        let on : (is_tag s c && is_key (key_of_tag s sense c) key) ≡ true = ap (λ (b : Bool). b && is_key (key_of_tag s sense c) key) other ∙ same_is (key_of_tag s sense c) key f in
        let taken : is_given s sense d key ≡ true = any_found (λ b. is_tag s b && is_key (key_of_tag s sense b) key) d c lt on in
        got d (inside d tag) tag ∙ ap Some (own_some d key e ∙ ap (λ (b : Bool). cond b None (Some key)) taken);
  }
