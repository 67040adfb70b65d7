-- The names of objects and functions in the trees of a whole tree stand at the leaves of primaries that mean them.
use Rattle.std.proofs.Common.{arith, ◌≡◌, nat_eq, true, false, ℕ, zero, suc, ◌<◌, ◌||◌, Bool, List, [], ◌∷◌, take, length, Option, Some, None, slice_get, eq-eqb, refl, sym, ap, ◌∙◌, subst}
use Rattle.std.specs.Prelude.{is_some, option_and_then}
use Rattle.std.proofs.lemmas.Bool.{eqb-true}
use Rattle.std.proofs.lemmas.Option.{slice_get-get_or, slice_get_within}
use Rattle.pta_base.specs.declared.place.Place.{Place}
use Rattle.c_lexer.specs.declared.Token.{Token}
use Rattle.c_lexer.specs.declared.TokenKind.TheVariants.{Identifier}
use Rattle.c_grammar.specs.declared.trees.SyntaxNode.{SyntaxNode}
use Rattle.c_grammar.specs.Productions.{p_primary}
use Rattle.c_grammar.specs.Terminals.{contains}
use Rattle.c_senses.specs.Tree.{Source, production_of, production_at, children_of, children_at, is_a, token_at, place_at, kind_of_token, kind_at, paired}
use Rattle.c_senses.specs.Given.{Given}
use Rattle.c_senses.specs.World.{World, Meaning, Object, Function}
use Rattle.c_senses.specs.Entities.{meaning_of}
use Rattle.c_senses.specs.Sense.{Sense, Nothing, sense_in}
use Rattle.c_senses.specs.Rows.{AreSenses, world_at}
use Rattle.core_node_laws.specs.near_nodes.Holding.{OfSense, MeaningGives}
use Rattle.core_node_laws.proofs.near_nodes.Giving.{Gives}
use Rattle.twin_report_laws.specs.outcome_laws.used_names.Uses.{using, UsesStand}
use Rattle.twin_report_laws.proofs.outcome_laws.used_names.Primaries.{Placed, Anywhere, MeansAt, row_placed}

-- a number of a list is in it
list_in : (list : List ℕ) (k i : ℕ) → slice_get list k ≡ Some i → contains list i ≡ true
list_in [] k i h = cc
list_in (x ∷ list) zero i h = let same : x ≡ i = cc in ap (λ (b : Bool). b || contains list i) (eq-eqb x i same)
list_in (x ∷ list) (suc k) i h = by (nat_eq x i) (list_in list k i h)
  where
    by : (b : Bool) → contains list i ≡ true → (b || contains list i) ≡ true
    by true e = refl
    by false e = e

no_past : (xs : List SyntaxNode) (n : ℕ) → slice_get xs n ≡ None → n < length xs → ⊥
no_past [] n e lt = omega arith
no_past (x ∷ xs) zero e lt = cc
no_past (x ∷ xs) (suc n) e lt = no_past xs n e (omega arith)

-- a fact of senses, where it holds of none, of those before a node
before : (P : Sense → Type 0) → P Nothing → (xs : List Sense) (n : ℕ) → ((c : ℕ) → c < n → P (sense_in xs c)) → (c : ℕ) → P (sense_in (take n xs) c)
before P none xs zero h c = none
before P none [] (suc n) h c = none
before P none (x ∷ xs) (suc n) h zero = h zero (omega arith)
before P none (x ∷ xs) (suc n) h (suc c) = before P none xs n (λ d lt. h (suc d) (omega (arith, lt))) c

outside : (xs : List Sense) (n : ℕ) → slice_get xs n ≡ None → sense_in xs n ≡ Nothing
outside [] n e = refl
outside (x ∷ xs) zero e = cc
outside (x ∷ xs) (suc n) e = outside xs n e

-- the object or function that a name means
abbrev pub Means : Option Meaning → ℕ → Type 0
Means (Some (Object e t)) d = e ≡ d
Means (Some (Function e t)) d = e ≡ d
Means m d = ⊥

-- a primary that is a name at that place, which means that object or function
pub record IsNamedAt (s : Source) (senses : List Sense) (d : ℕ) (place : Place) : Type 0 where
  pub at : ℕ
  pub first : ℕ
  pub rest : List ℕ
  pub primary : is_a s p_primary at ≡ true
  pub children : children_at s at ≡ first ∷ rest
  pub token : is_some (token_at s first) ≡ true
  pub place_is : place ≡ place_at s first
  pub means : Means ((world_at s (take at senses) at).meaning first) d

module _ (s : Source) (senses : List Sense) (are : AreSenses s senses) (stand : UsesStand s) where
  abbrev Good : Sense → Type 0
  Good = OfSense s Anywhere (Placed (IsNamedAt s senses))

  abbrev W : ℕ → World
  W n = world_at s (take n senses) n

  has_token : (o : Option Token) → kind_of_token o ≡ Identifier → is_some o ≡ true
  has_token None e = cc
  has_token (Some t) e = refl

  -- a primary means what it means
  first_means : (n first : ℕ) (rest : List ℕ) → is_a s p_primary n ≡ true → children_at s n ≡ first ∷ rest → kind_at s first ≡ Identifier → MeansAt (IsNamedAt s senses) (place_at s first) ((W n).meaning first)
  first_means n first rest primary children named = by ((W n).meaning first) refl
    where
      made : (d : ℕ) → Means ((W n).meaning first) d → IsNamedAt s senses d (place_at s first)
      made d means = record { at = n; first = first; rest = rest; primary = primary; children = children; token = has_token (token_at s first) named; place_is = refl; means = means }

      by : (o : Option Meaning) → (W n).meaning first ≡ o → MeansAt (IsNamedAt s senses) (place_at s first) o
      by (Some (Object e t)) is = made e (subst (λ (m : Option Meaning). Means m e) (sym is) refl)
      by (Some (Function e t)) is = made e (subst (λ (m : Option Meaning). Means m e) (sym is) refl)
      by m is = tt

  -- what is no use means nothing
  no_name : (n c : ℕ) → contains using (production_at s n) ≡ false → contains (children_at s n) c ≡ true → MeaningGives (Placed (IsNamedAt s senses)) ((W n).meaning c)
  no_name n c other child = by (paired s.uses c) refl
    where
      by : (o : Option ℕ) → paired s.uses c ≡ o → MeaningGives (Placed (IsNamedAt s senses)) (option_and_then (meaning_of s (sense_in (take n senses))) o)
      by None pair = tt
      by (Some x) pair = absurd (let both : true ≡ false = sym (stand.each n c x child pair) ∙ other in cc)

  own : (n : ℕ) → n < length senses → ((c : ℕ) → c < n → Good (sense_in senses c)) → Good (sense_in senses n)
  own n lt earlier = by (slice_get s.nodes n) refl
    where
      lower : n < length s.nodes
      lower = let within = are.within in omega (arith, lt, within)

      each : (c : ℕ) → Good (sense_in (take n senses) c)
      each = before Good tt senses n earlier

      by : (o : Option SyntaxNode) → slice_get s.nodes n ≡ o → Good (sense_in senses n)
      by None e = absurd (no_past s.nodes n e lower)
      by (Some node) e =
          let production : node.production ≡ production_at s n = ap production_of (sym e) in
          let parts : children_at s n ≡ node.children.items = ap children_of e in
          subst (λ (g : Given Sense). Gives Good g) (are.each n node (sense_in senses n) e (slice_get-get_or senses n Nothing lt))
          (row_placed (IsNamedAt s senses) (W n) s (sense_in (take n senses)) each node.production n node.children.items production
          (λ is first rest children named. first_means n first rest (eq-eqb (production_at s n) p_primary (sym production ∙ sym (eqb-true p_primary node.production is))) (parts ∙ children) named)
          (λ other c has. no_name n c (subst (λ (p : ℕ). contains using p ≡ false) production other) (subst (λ (l : List ℕ). contains l c ≡ true) (sym parts) (list_in node.children.items has.0 c has.1))))

  up_to : (fuel n : ℕ) → n < fuel → n < length senses → Good (sense_in senses n)
  up_to zero n lt within = absurd (omega (arith, lt))
  up_to (suc fuel) n lt within = own n within (λ c less. up_to fuel c (omega (arith, lt, less)) (omega (arith, less, within)))

  -- the names in all trees stand so
  pub all_placed : (n : ℕ) → Good (sense_in senses n)
  all_placed n = by (slice_get senses n) refl
    where
      by : (o : Option Sense) → slice_get senses n ≡ o → Good (sense_in senses n)
      by None e = subst Good (sym (outside senses n e)) tt
      by (Some x) e = up_to (suc n) n (omega arith) (slice_get_within senses n x e)
