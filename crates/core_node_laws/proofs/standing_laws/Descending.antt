-- What holds of the statements of a tree whose statements have it by where they stand.
use Rattle.std.proofs.Common.{arith, ◌≡◌, ◌<◌, ℕ, zero, suc, ◌||◌, Bool, true, false, List, [], ◌∷◌, Option, Some, None, length, slice_get, take, refl, sym, subst}
use Rattle.std.specs.Prelude.{ℤ, pos, not}
use Rattle.std.specs.Ordering.{int_eq}
use Rattle.std.proofs.lemmas.Bool.{eqb-true}
use Rattle.std.proofs.lemmas.List.{get_or-take}
use Rattle.std.proofs.lemmas.Option.{slice_get-get_or}
use Rattle.pta_base.specs.declared.kind.Kind.TheVariants.{Operand}
use Rattle.core_tree.specs.declared.node.NodeKind.{NodeKind}
use Rattle.c_grammar.specs.declared.trees.SyntaxNode.{SyntaxNode}
use Rattle.c_grammar.specs.Productions.{p_block, p_statement, p_declaration, p_assert, p_conditional}
use Rattle.c_grammar.specs.Reads.{leaf}
use Rattle.c_consts.specs.Core.{Cores}
use Rattle.core_nodes.specs.passed.c_senses.Tree.{Source, production_of, production_at, children_of, children_at, is_a, is_leaf, child_of}
use Rattle.core_nodes.specs.passed.c_senses.Given.{Given, Fits, Refuses, ◌>>=◌, given_if, given_some}
use Rattle.core_nodes.specs.passed.c_senses.World.{World}
use Rattle.core_nodes.specs.passed.c_senses.Constants.{constant_in}
use Rattle.core_nodes.specs.passed.c_senses.Sense.{Sense, Nothing, IsCore, IsRun, sense_in}
use Rattle.core_nodes.specs.passed.c_senses.Rows.{AreSenses, row, row_of, world_at}
use Rattle.core_nodes.specs.passed.c_senses.Statements.{run_in, block_row, statement_row}
use Rattle.parsed_tree_laws.specs.family_laws.Families.{IsChild}
use Rattle.parsed_tree_laws.specs.passed.sense_laws.Sound.{Gives}
use Rattle.parsed_tree_laws.specs.passed.sense_laws.Senses.{is_block_part}
use Rattle.core_node_laws.specs.standing_laws.Standing.{IsGrown, RunsInitialise, RunsOf}
use Rattle.core_node_laws.proofs.standing_laws.Kept.{is_plain, is_part, RowGood, KeptSense, statement_kept, block_kept}
use Rattle.core_node_laws.proofs.standing_laws.Enclosing.{EnclosesSense, encloses_kept}

gives_is : {A : Type 0} (P : A → Type 0) (g : Given A) (x : A) → Gives P g → g ≡ Fits x → P x
gives_is P (Fits y) x h e = let same : y ≡ x = cc in subst P same h
gives_is P (Refuses kind node) x h e = cc

pub same_given : (x y : Sense) → ◌≡◌ {A = Given Sense} (Fits x) (Fits y) → x ≡ y
same_given x y e = cc

nodes_there : (nodes : List SyntaxNode) (i : ℕ) → i < length nodes → (n : SyntaxNode) × (slice_get nodes i ≡ Some n)
nodes_there [] i h = absurd (omega (arith, h))
nodes_there (n ∷ rest) zero h = (n, refl)
nodes_there (n ∷ rest) (suc i) h = nodes_there rest i (omega (arith, h))

module _ (s : Source) (senses : List Sense) (grown : IsGrown s) (are : AreSenses s senses) (whole : length senses ≡ length s.nodes) where
  abbrev pub f : ℕ → Sense
  f = sense_in senses

  abbrev pub F : ℕ → ℕ → Sense
  F i = sense_in (take i senses)

  abbrev pub W : ℕ → World
  W i = world_at s (take i senses) i

  pub row_there : (i q : ℕ) → i < length senses → is_a s q i ≡ true → row_of (W i) s (F i) q i (children_at s i) ≡ Fits (f i)
  row_there i q inside is =
      let n = nodes_there s.nodes i (omega (arith, inside, whole)) in
      let fits : row s (take i senses) i n.0 ≡ Fits (f i) = are.each i n.0 (f i) n.1 (slice_get-get_or senses i Nothing inside) in
      subst (λ (x : ℕ). row_of (W i) s (F i) x i (children_at s i) ≡ Fits (f i)) (eqb-true (production_at s i) q is)
      (subst (λ (o : Option SyntaxNode). row_of (W i) s (F i) (production_of o) i (children_of o) ≡ Fits (f i)) (sym n.1) fits)

  pub sense_before : (i c : ℕ) → c < i → F i c ≡ f c
  sense_before i c lt = get_or-take i senses c Nothing lt

  pub child_before : (i c : ℕ) → IsChild s i c → c < i
  child_before i c h = grown.first i h.0 c h.1

  module _
      (runs : RunsInitialise senses) (Good : NodeKind → Cores → Type 0) (stops : NodeKind → Bool) (plain : (kind : NodeKind) (under : Cores) → is_plain kind ≡ true → Good kind under) (Stands : ℕ → Type 0) (test : ℕ → Bool)
      (onward : (i c : ℕ) → Stands i → (is_a s p_statement i || is_a s p_block i) ≡ true → test i ≡ false → IsChild s i c → Stands c)
      (stopping : (i : ℕ) (w : World) (sense : ℕ → Sense) → test i ≡ true → Gives (EnclosesSense w s sense i stops) (statement_row w s sense i (children_at s i)))
      (blocks : (i : ℕ) → is_a s p_block i ≡ true → test i ≡ false)
      (good : (i : ℕ) → Stands i → RowGood Good stops (W i) s (F i) i)
    where
      abbrev S : Sense → Type 0
      S = KeptSense Good stops

      leaf_kept : (i : ℕ) → i < length senses → is_leaf s i ≡ true → S (f i)
      leaf_kept i inside is = let own : Fits Nothing ≡ Fits (f i) = row_there i leaf inside is in subst S (same_given Nothing (f i) own) tt

      declaration_kept : (i : ℕ) → i < length senses → is_a s p_declaration i ≡ true → S (f i)
      declaration_kept i inside is =
          let cores = run_in (W i) s (F i) (children_at s i) in
          let own : Fits (IsRun cores) ≡ Fits (f i) = row_there i p_declaration inside is in
          let same = same_given (IsRun cores) (f i) own in
          subst S same (subst RunsOf (sym same) (runs.each i))

      assert_kept : (i : ℕ) → i < length senses → is_a s p_assert i ≡ true → S (f i)
      assert_kept i inside is = by (child_of s p_conditional i) (row_there i p_assert inside is)
        where
          value : (g : Given ℤ) → (g >>= (λ n. given_if (not (int_eq n (pos 0))) Operand i (Fits Nothing))) ≡ Fits (f i) → S (f i)
          value (Refuses kind node) e = cc
          value (Fits n) e = holds (not (int_eq n (pos 0))) e
            where
              holds : (b : Bool) → given_if b Operand i (Fits Nothing) ≡ Fits (f i) → S (f i)
              holds true e = subst S (same_given Nothing (f i) e) tt
              holds false e = cc

          by : (o : Option ℕ) → (given_some o Operand i >>= (λ c. constant_in (W i) s i (F i c) >>= (λ n. given_if (not (int_eq n (pos 0))) Operand i (Fits Nothing)))) ≡ Fits (f i) → S (f i)
          by None e = cc
          by (Some c) e = value (constant_in (W i) s i (F i c)) e

      abbrev Claim : ℕ → Type 0
      Claim i = Stands i → is_part s i ≡ true → S (f i)

      module _ (i : ℕ) (inside : i < length senses) (lower : (c : ℕ) → c < i → Claim c) where
        child_kept : (c : ℕ) → Stands i → (is_a s p_statement i || is_a s p_block i) ≡ true → test i ≡ false → IsChild s i c → is_part s c ≡ true → S (F i c)
        child_kept c stands is off h p =
            let lt = child_before i c h in
            subst S (sym (sense_before i c lt)) (lower c lt (onward i c stands is off h) p)

        own_statement : Stands i → is_a s p_statement i ≡ true → S (f i)
        own_statement stands is = by (test i) refl
          where
            either : (a b : Bool) → a ≡ true → (a || b) ≡ true
            either true b e = refl
            either false b e = cc

            kept : (x : Sense) → EnclosesSense (W i) s (F i) i stops x → S x
            kept (IsCore c) h = λ e. encloses_kept Good stops plain c h.0 h.1
            kept x h = absurd h

            by : (b : Bool) → test i ≡ b → S (f i)
            by true e = kept (f i) (gives_is (EnclosesSense (W i) s (F i) i stops) (statement_row (W i) s (F i) i (children_at s i)) (f i) (stopping i (W i) (F i) e) (row_there i p_statement inside is))
            by false e =
                gives_is S (statement_row (W i) s (F i) i (children_at s i)) (f i)
                (statement_kept Good stops plain (W i) s (F i) i (good i stands) (children_at s i)
                (λ c h p. child_kept c stands (either (is_a s p_statement i) (is_a s p_block i) is) e h p)
                (λ first rest children no_leaf no_expression. grown.statements.begins i first rest is children no_leaf no_expression))
                (row_there i p_statement inside is)

        own_block : Stands i → is_a s p_block i ≡ true → S (f i)
        own_block stands is =
            gives_is S (block_row (W i) s (F i) i (children_at s i)) (f i) (block_kept Good stops plain (W i) s (F i) i (children_at s i) (λ c h. among c h (grown.statements.blocks i h.0 c is h.1)))
            (row_there i p_block inside is)
          where
            later : (a b : Bool) → b ≡ true → (a || b) ≡ true
            later true b e = refl
            later false b e = e

            own : (c : ℕ) → IsChild s i c → is_part s c ≡ true → S (F i c)
            own c h p = child_kept c stands (later (is_a s p_statement i) (is_a s p_block i) is) (blocks i is) h p

            among : (c : ℕ) → IsChild s i c → is_block_part s c ≡ true → S (F i c)
            among c h p = by (is_a s p_block c) (is_leaf s c) (is_a s p_declaration c) (is_a s p_assert c) (is_a s p_statement c) refl p (own c h)
              where
                lt : c < i
                lt = child_before i c h

                by : (x a b d e : Bool) → is_a s p_assert c ≡ d → (a || (b || (d || e))) ≡ true → ((x || (a || (b || e))) ≡ true → S (F i c)) → S (F i c)
                by true a b d e ed p own = own refl
                by false true b d e ed p own = own refl
                by false false true d e ed p own = own refl
                by false false false true e ed p own = subst S (sym (sense_before i c lt)) (assert_kept c (omega (arith, lt, inside)) ed)
                by false false false false true ed p own = own refl
                by false false false false false ed p own = cc

        claim : Claim i
        claim stands p = by (is_a s p_block i) (is_leaf s i) (is_a s p_declaration i) (is_a s p_statement i) refl refl refl refl p
          where
            by : (a b c d : Bool) → is_a s p_block i ≡ a → is_leaf s i ≡ b → is_a s p_declaration i ≡ c → is_a s p_statement i ≡ d → (a || (b || (c || d))) ≡ true → S (f i)
            by true b c d ea eb ec ed p = own_block stands ea
            by false true c d ea eb ec ed p = leaf_kept i inside eb
            by false false true d ea eb ec ed p = declaration_kept i inside ec
            by false false false true ea eb ec ed p = own_statement stands ed
            by false false false false ea eb ec ed p = cc

      up_to : (n i : ℕ) → i < n → i < length senses → Claim i
      up_to zero i lt inside = absurd (omega (arith, lt))
      up_to (suc n) i lt inside = claim i inside (λ c below. up_to n c (omega (arith, lt, below)) (omega (arith, below, inside)))

      -- each statement and block is kept that stands there
      pub each_kept : (i : ℕ) → i < length senses → Claim i
      each_kept i inside = up_to (suc i) i (omega arith) inside
