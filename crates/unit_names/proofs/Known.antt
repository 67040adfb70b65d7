-- By which declaration an internal name is known.
use Rattle.std.proofs.Common.{◌≡◌, ℕ, ◌==◌, ◌&&◌, ◌||◌, not, Bool, true, false, cond, eq-eqb, List, [], ◌∷◌, Option, Some, refl, sym, ap, subst, ◌∙◌}
use Rattle.std.specs.List.{find}
use Rattle.std.proofs.lemmas.Bool.{eqb-true}
use Rattle.std.specs.BTreeMap.{BTreeMap}
use Rattle.c_scope.specs.declared.kinds.Declared.{Declared}
use Rattle.c_results.specs.declared.made.Made.{Made}
use Rattle.c_senses.specs.Tree.{Source}
use Rattle.c_senses.specs.Names.{ordinary_at}
use Rattle.c_senses.specs.Sense.{Sense, sense_in}
use Rattle.c_senses.specs.Entities.{is_internal, is_internal_of, internal_among, is_typedef, entity_of, keep, first_of, some_such}
use Rattle.c_senses.specs.Right.{is_declaring, stands_in_declaration, declares_entity}
use Rattle.name_chains.specs.symbol_lists.Symbols.{kept_at}
use Rattle.tree_reads.specs.declared.syntax.Syntax.{Syntax}
use Rattle.unit_names.specs.Firsts.{IsKnownBy, AreFirsts, may_declare}

some_is : (x y : Declared) → Some x ≡ Some y → x ≡ y
some_is x y e = cc

-- the declaration that is found is one of them
found_one : (test : Declared → Bool) (leaf : ℕ) (ds : List Declared) (d : Declared) → find (λ x. x.node == leaf) ds ≡ Some d → test d ≡ true → (P : (Declared → Bool) → List Declared → Bool) → ((x : Declared) (rest : List Declared) → P test (x ∷ rest) ≡ (test x || P test rest)) → P test ds ≡ true
found_one test leaf [] d e t P step = cc
found_one test leaf (x ∷ rest) d e t P step = step x rest ∙ by (x.node == leaf) e (λ h. found_one test leaf rest d h t P step)
  where
    or_true : (b : Bool) → (b || true) ≡ true
    or_true true = refl
    or_true false = refl

    by : (b : Bool) → cond b (Some x) (find (λ y. y.node == leaf) rest) ≡ Some d → (find (λ y. y.node == leaf) rest ≡ Some d → P test rest ≡ true) → (test x || P test rest) ≡ true
    by true h later = ap (λ (y : Declared). test y || P test rest) (some_is x d h) ∙ ap (λ (b : Bool). b || P test rest) t
    by false h later = ap (λ (b : Bool). test x || b) (later h) ∙ or_true (test x)

found_node : (leaf : ℕ) (ds : List Declared) (d : Declared) → find (λ x. x.node == leaf) ds ≡ Some d → d.node ≡ leaf
found_node leaf [] d e = cc
found_node leaf (x ∷ rest) d e = by (x.node == leaf) refl e (λ h. found_node leaf rest d h)
  where
    by : (b : Bool) → (x.node == leaf) ≡ b → cond b (Some x) (find (λ y. y.node == leaf) rest) ≡ Some d → (find (λ y. y.node == leaf) rest ≡ Some d → d.node ≡ leaf) → d.node ≡ leaf
    by true is h later = ap (λ (y : Declared). y.node) (sym (some_is x d h)) ∙ eqb-true x.node leaf is
    by false is h later = later h

module _ (s : Source) (sense : ℕ → Sense) where
  -- of a list in which one is kept, the first that is kept is the same, whatever stands else
  first_any : (test : Declared → Bool) (a b : ℕ) (ds : List Declared) → some_such s sense test ds ≡ true → first_of s sense a (keep s sense test ds) ≡ first_of s sense b (keep s sense test ds)
  first_any test a b [] h = cc
  first_any test a b (x ∷ rest) h = by (test x) h (first_any test a b rest)
    where
      by : (y : Bool) → (y || some_such s sense test rest) ≡ true → (some_such s sense test rest ≡ true → first_of s sense a (keep s sense test rest) ≡ first_of s sense b (keep s sense test rest))
          → first_of s sense a (cond y (x ∷ keep s sense test rest) (keep s sense test rest)) ≡ first_of s sense b (cond y (x ∷ keep s sense test rest) (keep s sense test rest))
      by true h later = refl
      by false h later = later h

  entity_is : (leaf : ℕ) (d : Declared) → ordinary_at s leaf ≡ Some d → is_internal s sense leaf ≡ true → entity_of s sense leaf ≡ first_of s sense leaf (keep s sense (is_internal_of s sense d.symbol) s.declared.ordinary)
  entity_is leaf d e internal =
      ap (λ (b : Bool). cond b (first_of s sense leaf (internal_among s sense s.declared.ordinary (ordinary_at s leaf))) leaf) internal
      ∙ ap (λ (o : Option Declared). first_of s sense leaf (internal_among s sense s.declared.ordinary o)) e

  pub entity_same : (a b : ℕ) (d e : Declared) → ordinary_at s a ≡ Some d → ordinary_at s b ≡ Some e → e.symbol ≡ d.symbol → is_internal s sense a ≡ true → is_internal s sense b ≡ true → entity_of s sense a ≡ entity_of s sense b
  entity_same a b d e there other same internal more =
      let test : Declared → Bool = is_internal_of s sense d.symbol in
      let here : test d ≡ true =
      ap (λ (x : Bool). x && is_internal s sense d.node) (eq-eqb d.symbol d.symbol refl) ∙ (ap (is_internal s sense) (found_node a s.declared.ordinary d there) ∙ internal) in
      let some : some_such s sense test s.declared.ordinary ≡ true = found_one test a s.declared.ordinary d there here (some_such s sense) (λ x rest. refl) in
      entity_is a d there internal
      ∙ (first_any test a b s.declared.ordinary some
      ∙ (ap (λ (n : ℕ). first_of s sense b (keep s sense (is_internal_of s sense n) s.declared.ordinary)) (sym same) ∙ sym (entity_is b e other more)))

-- the leaf of one symbol more
module _ (syntax : Syntax) (results : List Made) (old new : BTreeMap ℕ ℕ) (symbol first : ℕ) (kept : (other : ℕ) → kept_at new other ≡ cond (symbol == other) (Some first) (kept_at old other)) where
  number_is : (a b : ℕ) → Some a ≡ Some b → a ≡ b
  number_is a b e = cc

  pub firsts_more : AreFirsts syntax results old → IsKnownBy syntax results symbol first → AreFirsts syntax results new
  firsts_more h own = record { each = λ other x e. by other x (symbol == other) refl (sym (kept other) ∙ e) }
    where
      by : (other x : ℕ) (b : Bool) → (symbol == other) ≡ b → cond b (Some first) (kept_at old other) ≡ Some x → IsKnownBy syntax results other x
      by other x true is e = subst (λ (n : ℕ). IsKnownBy syntax results n x) (eqb-true symbol other is) (subst (λ (n : ℕ). IsKnownBy syntax results symbol n) (number_is first x e) own)
      by other x false is e = h.each other x e

-- what a leaf declares, by what it may declare
module _ (s : Source) (senses : List Sense) (leaf : ℕ) where
  three : (a b c d : Bool) → ((a && (b && c)) && d) ≡ (a && (b && (c && d)))
  three true true c d = refl
  three true false c d = refl
  three false b c d = refl

  declares_is : (may_declare s senses leaf && (entity_of s (sense_in senses) leaf == leaf)) ≡ declares_entity s senses leaf
  declares_is = three (is_declaring s senses leaf) (stands_in_declaration s senses leaf) (not (is_typedef s (sense_in senses) leaf)) (entity_of s (sense_in senses) leaf == leaf)

  pub declares_none : false ≡ may_declare s senses leaf → declares_entity s senses leaf ≡ false
  declares_none e = sym declares_is ∙ ap (λ (b : Bool). b && (entity_of s (sense_in senses) leaf == leaf)) (sym e)

  pub declares_known : (known : Bool) → true ≡ may_declare s senses leaf → known ≡ (entity_of s (sense_in senses) leaf == leaf) → declares_entity s senses leaf ≡ known
  declares_known known e f = sym declares_is ∙ (ap (λ (b : Bool). b && (entity_of s (sense_in senses) leaf == leaf)) (sym e) ∙ sym f)
