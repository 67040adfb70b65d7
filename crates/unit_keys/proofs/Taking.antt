-- Names that are taken.
use Rattle.std.proofs.Common.{arith, ◌≡◌, ◌∙◌, ℕ, ◌+◌, ◌<◌, ◌≤◌, inl, inr, Bool, true, false, cond, List, [], ◌∷◌, length, get_or, map, drop, Option, Some, None, refl, sym, ap}
use Rattle.std.specs.Prelude.{◌||◌, ◌&&◌, option_map, is_none}
use Rattle.std.proofs.lemmas.Bool.Decides.{eqb_tells}
use Rattle.c_grammar.specs.Productions.{p_struct, p_enum}
use Rattle.c_senses.specs.Tree.{Source, is_a, spelling_at}
use Rattle.c_senses.specs.Tags.{tag_leaf}
use Rattle.c_senses.specs.Keys.{has_bytes, is_untagged, is_taken, first_free, names_with}
use Rattle.c_senses.specs.Sense.{Sense}
use Rattle.c_senses.specs.World.{or_else}
use Rattle.tree_reads.specs.leaf_maps.Numbers.{number_at}
use Rattle.unit_keys.specs.Specifiers.{is_specifier}
use Rattle.unit_keys.specs.Free.{first_untaken, AreFree, TakenBelow}
use Rattle.std.proofs.Math.ListN.{drop_of_length-le}
use Rattle.std.specs.Str.{bytes_eq}
use Rattle.unit_keys.proofs.Lists.{any_more, drop_step}

either : {A : Type 0} (b c : Bool) (x y z : A) → b ≡ c → x ≡ y → cond b x z ≡ cond c y z
either b c x y z eb ex = ap (λ (d : Bool). cond d x z) eb ∙ ap (λ w. cond c w z) ex

module _ (s : Source) (sense : ℕ → Sense) where
  or_false : (a : Bool) → (a || false) ≡ a
  or_false true = refl
  or_false false = refl

  pub free_is : (i : ℕ) (taken : List ℕ → Bool) → ((name : List ℕ) → taken name ≡ is_taken s sense name i) → (names : List (List ℕ)) → first_untaken taken names ≡ first_free s sense i names
  free_is i taken h [] = refl
  free_is i taken h (name ∷ rest) = either (taken name) (is_taken s sense name i) (first_untaken taken rest) (first_free s sense i rest) (Some name) (h name) (free_is i taken h rest)

  -- the names of one node more
  pub taken_more : (i : ℕ) (name : List ℕ) (before after : Bool) (names : List (List ℕ)) → before ≡ is_taken s sense name i → names ≡ names_with s sense i → after ≡ (before || (is_untagged s sense i && has_bytes s sense name names)) → after ≡ is_taken s sense name (i + 1)
  taken_more i name before after names eb en ea =
      let more : is_taken s sense name (i + 1) ≡ (is_taken s sense name i || (is_untagged s sense i && has_bytes s sense name (names_with s sense i))) = any_more _ i in
      ea
      ∙ (ap (λ (b : Bool). b || (is_untagged s sense i && has_bytes s sense name names)) eb
      ∙ (ap (λ (ns : List (List ℕ)). is_taken s sense name i || (is_untagged s sense i && has_bytes s sense name ns)) en ∙ sym more))

  turn_or : (a b h : Bool) → ((a || b) || h) ≡ (b || (a || h))
  turn_or true true h = refl
  turn_or true false h = refl
  turn_or false true h = refl
  turn_or false false h = refl

  -- one name more is taken
  pub name_more : (leaves : List ℕ) (i : ℕ) (name word : List ℕ) (old new : Bool) → i < length leaves → word ≡ spelling_at s (get_or leaves i 0) → new ≡ (bytes_eq word name || old) → (new || has_bytes s sense name (map (spelling_at s) (drop (i + 1) leaves))) ≡ (old || has_bytes s sense name (map (spelling_at s) (drop i leaves)))
  name_more leaves i name word old new lt ew e =
      let rest = has_bytes s sense name (map (spelling_at s) (drop (i + 1) leaves)) in
      ap (λ (b : Bool). b || rest) e
      ∙ (turn_or (bytes_eq word name) old rest
      ∙ (ap (λ (w : List ℕ). old || (bytes_eq w name || rest)) ew
      ∙ ap (λ (l : List ℕ). old || has_bytes s sense name (map (spelling_at s) l)) (sym (drop_step leaves i lt))))

  pub names_done : (leaves : List ℕ) (i : ℕ) (name : List ℕ) (new wanted : Bool) → length leaves ≤ i → (new || has_bytes s sense name (map (spelling_at s) (drop i leaves))) ≡ wanted → new ≡ wanted
  names_done leaves i name new wanted le h =
      sym (or_false new) ∙ (ap (λ (l : List ℕ). new || has_bytes s sense name (map (spelling_at s) l)) (sym (drop_of_length-le leaves le)) ∙ h)

  left_off : (a b : Bool) → (a || b) ≡ false → a ≡ false
  left_off true b e = cc
  left_off false b e = refl

  off : (i : ℕ) → is_specifier s i ≡ true → is_specifier s i ≡ false → ⊥
  off i on e = let f : true ≡ false = sym on ∙ e in cc

  -- a node that is no specifier takes no name
  pub taken_same : (i : ℕ) (taken : List ℕ → Bool) → is_specifier s i ≡ false → TakenBelow s sense taken i → TakenBelow s sense taken (i + 1)
  taken_same i taken e h = λ name.
      let more = has_bytes s sense name (names_with s sense i) in
      let none : is_untagged s sense i ≡ false = ap (λ (b : Bool). b && is_none (tag_leaf s i)) (left_off (is_a s p_struct i) (is_a s p_enum i) e) in
      taken_more i name (taken name) (taken name) (names_with s sense i) (h name) refl (sym (or_false (taken name)) ∙ ap (λ (b : Bool). taken name || (b && more)) (sym none))

  -- a node that is no specifier, and a specifier more
  pub free_same : (free : List (ℕ × ℕ)) (i : ℕ) → is_specifier s i ≡ false → AreFree s sense free i → AreFree s sense free (i + 1)
  free_same free i e are = record {
    each = λ j lt on. elim (eqb_tells j i) [
      | inl p ↦ absurd (off i (ap (is_specifier s) (sym p.1) ∙ on) e)
      | inr p ↦ are.each j (omega (arith, p.1, lt)) on
    ];
    fresh = λ j le. are.fresh j (omega (arith, le));
  }

  pub free_put : (free new : List (ℕ × ℕ)) (i : ℕ) (leaf : Option ℕ) → option_map (spelling_at s) leaf ≡ first_free s sense i (names_with s sense i) → number_at new i ≡ leaf → ((q : ℕ) → (i ≡ q → ⊥) → number_at new q ≡ number_at free q) → AreFree s sense free i → AreFree s sense new (i + 1)
  free_put free new i leaf e here others are = record {
    each = λ j lt on. elim (eqb_tells j i) [
      | inl p ↦
          ap (λ (k : ℕ). option_map (spelling_at s) (number_at new k)) p.1
          ∙ (ap (option_map (spelling_at s)) here ∙ (e ∙ ap (λ (k : ℕ). first_free s sense k (names_with s sense k)) (sym p.1)))
      | inr p ↦ ap (option_map (spelling_at s)) (others j (λ x. p.1 (sym x))) ∙ are.each j (omega (arith, p.1, lt)) on
    ];
    fresh = λ j le. others j (λ x. absurd (omega (arith, x, le))) ∙ are.fresh j (omega (arith, le));
  }

  pub free_none : (free : List (ℕ × ℕ)) (i : ℕ) (leaf : Option ℕ) → option_map (spelling_at s) leaf ≡ first_free s sense i (names_with s sense i) → leaf ≡ None → AreFree s sense free i → AreFree s sense free (i + 1)
  free_none free i leaf e none are = free_put free free i leaf e (are.fresh i (omega arith) ∙ sym none) (λ q x. refl) are

  pub free_some : (free new : List (ℕ × ℕ)) (i leaf : ℕ) (o : Option ℕ) → option_map (spelling_at s) o ≡ first_free s sense i (names_with s sense i) → o ≡ Some leaf → number_at new i ≡ or_else (number_at free i) (Some leaf) → ((q : ℕ) → (i ≡ q → ⊥) → number_at new q ≡ number_at free q) → AreFree s sense free i
      → AreFree s sense new (i + 1)
  free_some free new i leaf o e some here others are =
      free_put free new i o e (here ∙ (ap (λ (x : Option ℕ). or_else x (Some leaf)) (are.fresh i (omega arith)) ∙ sym some)) others are
