-- The leaf of a compound literal is its parenthesis.
use Rattle.std.proofs.Common.{◌≡◌, ◌∙◌, ◌==◌, ℕ, Bool, true, false, ◌&&◌, ◌||◌, cond, List, [], ◌∷◌, take, Option, Some, None, refl, ap, subst, inl, inr}
use Rattle.std.proofs.lemmas.Bool.{eqb-true, and_parts, or_cases}
use Rattle.c_lexer.specs.declared.TokenKind.{TokenKind}
use Rattle.c_lexer.specs.declared.TokenKind.TheVariants.{Identifier}
use Rattle.c_grammar.specs.Reads.{leaf}
use Rattle.c_grammar.specs.Productions.{p_cast, p_unary}
use Rattle.c_grammar.specs.Words.{sign_left_parenthesis}
use Rattle.core_nodes.specs.passed.c_senses.Tree.{Source, is_a, is_leaf, is_name, is_identifier, is_number, has_sign, sign_of_kind, kind_at, production_at, children_at, first_where}
use Rattle.core_nodes.specs.passed.c_senses.World.{World, Meaning, Object, Function, TypeName, Tag, Value}
use Rattle.core_nodes.specs.passed.c_senses.Initialised.{opening}
use Rattle.core_nodes.specs.passed.c_senses.Sense.{Sense, sense_in}
use Rattle.core_nodes.specs.passed.c_senses.Rows.{world_at}
use Rattle.core_node_laws.specs.literal_nodes.Holding.{MeaningGives, RowGives}
use Rattle.core_node_laws.specs.literal_nodes.Unnamed.{IsUnnamed, LiteralsUnnamed}
use Rattle.core_node_laws.proofs.literal_nodes.All.{all_kept}

-- what is found passes the test
found_passes : (test : ℕ → Bool) (list : List ℕ) (x : ℕ) → first_where test list ≡ Some x → test x ≡ true
found_passes test [] x h = cc
found_passes test (y ∷ list) x h = by (test y) refl h (λ e. found_passes test list x e)
  where
    by : (b : Bool) → test y ≡ b → cond b (Some y) (first_where test list) ≡ Some x → (first_where test list ≡ Some x → test x ≡ true) → test x ≡ true
    by true e f later = let same : y ≡ x = cc in subst (λ (z : ℕ). test z ≡ true) same e
    by false e f later = later f

no_identifier : (kind : TokenKind) (k : ℕ) → is_number (sign_of_kind kind) k ≡ true → is_identifier kind ≡ false
no_identifier Identifier k h = cc
no_identifier kind k h = refl

never : (a b : Bool) → b ≡ false → (a && b) ≡ false
never true b e = e
never false b e = refl

module _ (s : Source) where
  -- a sign is no name
  sign_unnamed : (i k : ℕ) → has_sign s k i ≡ true → is_name s i ≡ false
  sign_unnamed i k h = never (is_leaf s i) (is_identifier (kind_at s i)) (no_identifier (kind_at s i) k (and_parts (is_leaf s i) _ h).1)

  -- nor is a node of a production
  node_unnamed : (i p : ℕ) → (p == leaf) ≡ false → is_a s p i ≡ true → is_name s i ≡ false
  node_unnamed i p other h =
      let same : production_at s i ≡ p = eqb-true (production_at s i) p h in
      ap (λ (b : Bool). b && is_identifier (kind_at s i)) (ap (λ (q : ℕ). q == leaf) same ∙ other)

  over_unnamed : (p : ℕ) → (is_a s p_cast p || is_a s p_unary p) ≡ true → is_name s p ≡ false
  over_unnamed p over = elim (or_cases (is_a s p_cast p) (is_a s p_unary p) over) [
    | inl h ↦ node_unnamed p p_cast refl h
    | inr h ↦ node_unnamed p p_unary refl h
  ]

  module _ (w : World) (sense : ℕ → Sense) where
    opening_unnamed : (p : ℕ) → (is_a s p_cast p || is_a s p_unary p) ≡ true → is_name s (opening w s sense p) ≡ false
    opening_unnamed p over = by (first_where (has_sign s sign_left_parenthesis) (children_at s p)) refl
      where
        by : (o : Option ℕ) → first_where (has_sign s sign_left_parenthesis) (children_at s p) ≡ o → is_name s (elim o [ None ↦ p | Some leaf ↦ leaf ]) ≡ false
        by None e = over_unnamed p over
        by (Some leaf) e = sign_unnamed leaf sign_left_parenthesis (found_passes (has_sign s sign_left_parenthesis) (children_at s p) leaf e)

    meaning_gives : (o : Option Meaning) → MeaningGives (IsUnnamed s) o
    meaning_gives None = tt
    meaning_gives (Some (Object e t)) = λ place. tt
    meaning_gives (Some (Function e t)) = λ place. tt
    meaning_gives (Some (TypeName t)) = tt
    meaning_gives (Some (Tag tag)) = tt
    meaning_gives (Some (Value n)) = tt

    row_gives : RowGives (IsUnnamed s) w s sense
    row_gives = record {
      names = λ leaf. meaning_gives (w.meaning leaf);
      objects = λ leaf at paths values fixed. tt;
      initials = λ at p paths values over fixed. tt;
      literals = λ p type initial over. opening_unnamed p over;
    }

pub unnamed : LiteralsUnnamed
unnamed s senses are i = all_kept (IsUnnamed s) s senses are (λ n lt. row_gives s (world_at s (take n senses) n) (sense_in (take n senses))) i
