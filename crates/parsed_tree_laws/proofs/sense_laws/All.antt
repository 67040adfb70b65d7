-- All senses of a tree are sound, one after another.
use Rattle.std.proofs.Common.{arith, ◌≡◌, ◌==◌, ◌⊎◌, inl, inr, ◌∙◌, ◌||◌, Bool, true, false, ℕ, zero, suc, ◌<◌, ◌≤◌, List, [], ◌∷◌, ◌++◌, take, length, Option, Some, None, slice_get, refl, sym, ap, subst}
use Rattle.std.proofs.lemmas.Option.{slice_get-get_or}
use Rattle.c_types.specs.declared.term.PathStep.{PathStep}
use Rattle.c_types.specs.declared.term.PathStep.TheVariants.{Index, Member as MemberStep}
use Rattle.c_types.specs.Paths.{with_length as sized_type}
use Rattle.c_types.specs.Trees.{Ctype, VoidType, ArrayOf, StructureOf, UnionOf}
use Rattle.c_senses.specs.passed.c_inits.Made.{Part, shape_for}
use Rattle.c_senses.specs.passed.c_inits.Initial.{Placed, Outcome, Places, NoPlace, lasting}
use Rattle.c_senses.specs.passed.c_inits.View as view
use Rattle.c_grammar.specs.declared.trees.SyntaxNode.{SyntaxNode}
use Rattle.c_senses.specs.passed.c_consts.Core.{Core}
use Rattle.std.specs.Prelude.{⊤, nat_lt, option_and_then}
use Rattle.std.proofs.lemmas.Bool.Decides.{eqb_tells}
use Rattle.pta_base.specs.declared.kind.Kind.TheVariants.{Operand}
use Rattle.c_grammar.specs.Reads.{leaf}
use Rattle.c_grammar.specs.Productions.{p_statement, p_block, p_declaration, p_assert, p_conditional, p_enumerator}
use Rattle.c_senses.specs.Tree.{Source, production_of, children_of, production_at, children_at, child_of, is_a, is_leaf}
use Rattle.c_senses.specs.Constants.{constant_in}
use Rattle.c_senses.specs.Tags.{enumerator_row}
use Rattle.c_senses.specs.Statements.{assert_row, declaration_row, statement_row, block_row}
use Rattle.c_senses.specs.Given.{Given, Fits, Refuses}
use Rattle.c_senses.specs.World.{World, Meaning}
use Rattle.c_senses.specs.Declarators.{outermost_of, specs_of}
use Rattle.c_senses.specs.Entities.{with_length, length_seen, entity_of, specified_of}
use Rattle.c_senses.specs.Initialised.{new_length, most_elements, seen, outcome_of, opening, brace, braced}
use Rattle.c_senses.specs.Sense.{Sense, Nothing, IsCore, IsRun, IsInitial, sense_in}
use Rattle.c_senses.specs.Rows.{AreSenses, world_at, row_of}
use Rattle.parsed_tree_laws.specs.sense_laws.Sound.{ProperWorld, AreSound, IsProper, MeaningFits, type_of_part, step_type, type_down, Gives}
use Rattle.parsed_tree_laws.specs.sense_laws.Senses.{SoundSense, ChildrenFirst, ConstantsFit, StatementParts, StatementGrammar, IsStatementSense, IsIntSense, is_block_part, AllFit, OutcomeFits}
use Rattle.parsed_tree_laws.specs.sense_laws.Asked.{FirstFits, InitialFits, AllStand, OutcomeStands, AskedFit}
use Rattle.parsed_tree_laws.specs.sense_laws.Laws.{Grows, SensesFit}
use Rattle.parsed_tree_laws.proofs.sense_laws.Growing.{sound_grown}
use Rattle.parsed_tree_laws.proofs.sense_laws.Completing.{grown_by_one, parts_proper}
use Rattle.parsed_tree_laws.proofs.sense_laws.Rows.{row_sound}
use Rattle.parsed_tree_laws.proofs.sense_laws.Names.{SomeProper, meaning_proper, returned_proper, enumerator_int, derived_is_proper, specified_proper, length_proper}
use Rattle.parsed_tree_laws.proofs.sense_laws.Giving.{then_gives, gives_weaker, if_given, if_holds, some_given}
use Rattle.parsed_tree_laws.proofs.sense_laws.Types.{anything}
use Rattle.parsed_tree_laws.proofs.sense_laws.Statements.{statement_sound, block_sound}

cores_grown : (old new : World) (entities : ℕ → Option Ctype) → Grows old new → (cs : List Core) → AreSound old entities cs → AreSound new entities cs
cores_grown old new entities grows [] h = tt
cores_grown old new entities grows (c ∷ cs) h = (sound_grown old new entities grows c h.0, cores_grown old new entities grows cs h.1)

sense_grown : (old new : World) (entities : ℕ → Option Ctype) → Grows old new → (x : Sense) → SoundSense old entities x → SoundSense new entities x
sense_grown old new entities grows (IsCore c) h = sound_grown old new entities grows c h
sense_grown old new entities grows (IsRun cs) h = (cores_grown old new entities grows cs h.0, h.1)
sense_grown old new entities grows (IsInitial c n) h = (sound_grown old new entities grows c h.0, h.1)
sense_grown old new entities grows x h = h

-- a fact of each sense by its number, where one sense is added
one_more : (P : ℕ → Sense → Type 0) (xs : List Sense) (x : Sense) → ((i : ℕ) → P i (sense_in xs i)) → P (length xs) x → ((i : ℕ) → P i Nothing) → (i : ℕ) → P i (sense_in (xs ++ x ∷ []) i)
one_more P [] x each h n zero = h
one_more P [] x each h n (suc i) = n (suc i)
one_more P (y ∷ ys) x each h n zero = each 0
one_more P (y ∷ ys) x each h n (suc i) = one_more (λ k z. P (suc k) z) ys x (λ k. each (suc k)) h (λ k. n (suc k)) i

taken_length : (xs : List Sense) (n : ℕ) → n ≤ length xs → length (take n xs) ≡ n
taken_length xs zero le = refl
taken_length [] (suc n) le = absurd (omega (arith, le))
taken_length (x ∷ xs) (suc n) le = ap suc (taken_length xs n (omega (arith, le)))

take_one : (xs : List Sense) (n : ℕ) (x : Sense) → slice_get xs n ≡ Some x → take (suc n) xs ≡ take n xs ++ x ∷ []
take_one [] n x e = cc
take_one (y ∷ ys) zero x e = let same : y ≡ x = cc in ap (λ (z : Sense). z ∷ []) same
take_one (y ∷ ys) (suc n) x e = ap (λ (zs : List Sense). y ∷ zs) (take_one ys n x e)

no_past : (xs : List SyntaxNode) (n : ℕ) → slice_get xs n ≡ None → n < length xs → ⊥
no_past [] n e lt = omega arith
no_past (x ∷ xs) zero e lt = cc
no_past (x ∷ xs) (suc n) e lt = no_past xs n e (omega arith)

take_whole : (xs : List Sense) → take (length xs) xs ≡ xs
take_whole [] = refl
take_whole (x ∷ xs) = ap (λ (zs : List Sense). x ∷ zs) (take_whole xs)

-- what a node's row gives
given_is : (P : Sense → Type 0) (g : Given Sense) (x : Sense) → g ≡ Fits x → Gives P g → P x
given_is P g x e h = subst (λ (k : Given Sense). Gives P k) e h

either : (a b : Bool) → (a || b) ≡ true → (a ≡ true) ⊎ (b ≡ true)
either true b h = inl refl
either false b h = inr h

is_number : (a b : ℕ) → (a == b) ≡ true → a ≡ b
is_number a b h = elim (eqb_tells a b) [ inl q ↦ q.1 | inr q ↦ absurd (let f : (a == b) ≡ false = q.0 in cc) ]

abbrev is_item : Source → ℕ → Bool
is_item s i = is_block_part s i || is_a s p_block i

assert_gives : (w : World) (s : Source) (sense : ℕ → Sense) (at : ℕ) → Gives IsStatementSense (assert_row w s sense at)
assert_gives w s sense at =
    some_given IsStatementSense (child_of s p_conditional at) Operand at _
    (λ c e. then_gives (λ n. ⊤) IsStatementSense (constant_in w s at (sense c)) _ (anything (constant_in w s at (sense c))) (λ n k. if_given IsStatementSense _ Operand at (Fits Nothing) (λ e. tt)))

-- the types along a path are proper
some_proper : (w : World) → ProperWorld w → (o : Option (List Part)) (tag k : ℕ) → w.members tag ≡ o → SomeProper (type_of_part w o k)
some_proper w world None tag k e = tt
some_proper w world (Some parts) tag k e = by (slice_get parts k) refl
  where
    sized : (t : Ctype) → IsProper t → SomeProper (sized_type t)
    sized (ArrayOf of None) h = tt
    sized VoidType h = h
    sized t h = h

    by : (o : Option Part) → slice_get parts k ≡ o → SomeProper (option_and_then (λ m. sized_type m.type) o)
    by None at = tt
    by (Some m) at = sized m.type (world.parts tag parts k m e at)

step_proper : (w : World) → ProperWorld w → (t : Ctype) (step : PathStep) → IsProper t → SomeProper (step_type w t step)
step_proper w world (ArrayOf of (Some n)) (Index i) h = if_holds SomeProper (nat_lt i n) (Some of) None (λ e. h) (λ e. tt)
step_proper w world (StructureOf tag) (MemberStep k) h = some_proper w world (w.members tag) tag k refl
step_proper w world (UnionOf tag) (MemberStep k) h = some_proper w world (w.members tag) tag k refl
step_proper w world t step h = tt

down_proper : (w : World) → ProperWorld w → (path : List PathStep) (o : Option Ctype) → SomeProper o → SomeProper (type_down w o path)
down_proper w world [] o h = h
down_proper w world (step ∷ path) None h = down_proper w world path None tt
down_proper w world (step ∷ path) (Some t) h = down_proper w world path (step_type w t step) (step_proper w world t step h)

placed_proper : (w : World) → ProperWorld w → (t : Ctype) → IsProper t → (list : List Placed) → AllStand w t list → AllFit w t list
placed_proper w world t proper [] h = tt
placed_proper w world t proper (p ∷ rest) h = (
  λ type e. let one = h.0 type e in (one.0, subst SomeProper one.0 (down_proper w world p.path (Some t) proper), one.1),
  placed_proper w world t proper rest h.1,
)

outcome_proper : (w : World) (entities : ℕ → Option Ctype) → ProperWorld w → (s : Source) (sense : ℕ → Sense) (entity : ℕ) (t : Ctype) → IsProper t → (g : Given Outcome)
    → Gives (OutcomeStands w entities s sense entity t) g → Gives (OutcomeFits w entities s sense entity t) g
outcome_proper w entities world s sense entity t proper (Fits (NoPlace node)) h = tt
outcome_proper w entities world s sense entity t proper (Fits (Places actions)) h =
    let whole : Ctype = with_length (new_length w s sense t actions) t in (h.0, placed_proper w world whole (length_proper (new_length w s sense t actions) t proper) (lasting [] actions) h.1)
outcome_proper w entities world s sense entity t proper (Refuses kind node) h = tt

module _ (entities : ℕ → Option Ctype) (s : Source) (senses : List Sense) (are : AreSenses s senses) (first : ChildrenFirst s) (ints : ConstantsFit s) (grammar : StatementGrammar s) (fit : AskedFit entities s senses) where
  SoundBefore : ℕ → Type 0
  SoundBefore n = (i : ℕ) → SoundSense (world_at s (take n senses) n) entities (sense_in (take n senses) i)

  ItemsBefore : ℕ → Type 0
  ItemsBefore n = (i : ℕ) → is_item s i ≡ true → IsStatementSense (sense_in (take n senses) i)

  IntsBefore : ℕ → Type 0
  IntsBefore n = (i : ℕ) → is_a s p_enumerator i ≡ true → IsIntSense (sense_in (take n senses) i)

  world_sound : (n : ℕ) → n < length senses → SoundBefore n → IntsBefore n → ProperWorld (world_at s (take n senses) n)
  unfolding SoundBefore IntsBefore
  world_sound n lt before numbers = record {
    parts = parts_proper s (world_at s (take n senses) n) entities (sense_in (take n senses)) before (take n senses);
    names = λ leaf m e. meaning_proper (world_at s (take n senses) n) entities s (sense_in (take n senses)) before numbers leaf m e;
    aligns = fit.aligns n lt;
  }

  -- what is asked of initialisers, with proper types
  initial_fits : (n : ℕ) → n < length senses → SoundBefore n → IntsBefore n → InitialFits (world_at s (take n senses) n) entities s (sense_in (take n senses)) n
  unfolding SoundBefore
  initial_fits n lt before numbers =
      let w : World = world_at s (take n senses) n in
      let f : ℕ → Sense = sense_in (take n senses) in
      let world : ProperWorld w = world_sound n lt before numbers in
      let asked = fit.initials n lt in
      record {
        objects = λ p declarator leaf t is parent rest by name type.
            outcome_proper w entities world s f (entity_of s f leaf) (with_length (length_seen s f leaf) t)
            (length_proper (length_seen s f leaf) t (subst SomeProper type (derived_is_proper w entities s f before (specified_of s f leaf) (Some declarator) (specified_proper w entities s f before (option_and_then (specs_of s) (outermost_of s leaf))))))
            (outcome_of w s f n (shape_for w.fillable most_elements (with_length (length_seen s f leaf) t)) (view.init_at (seen w s f) s.nodes n)) (asked.objects p declarator leaf t is parent rest by name type);
        literals = λ p name t is parent over named type.
            outcome_proper w entities world s f (opening w s f p) t (subst (SoundSense w entities) type (before name))
            (outcome_of w s f (brace w s f p) (shape_for w.fillable most_elements t) (braced w s f (brace w s f p) (view.items_at (seen w s f) s.nodes n))) (asked.literals p name t is parent over named type);
      }

  item_of_block : (i : ℕ) → is_a s p_block i ≡ true → is_item s i ≡ true
  item_of_block i e = by (is_block_part s i) (is_a s p_block i) e
    where
      by : (a b : Bool) → b ≡ true → (a || b) ≡ true
      by true b h = refl
      by false b h = h

  item_of_part : (i : ℕ) → is_block_part s i ≡ true → is_item s i ≡ true
  item_of_part i e = by (is_block_part s i) (is_a s p_block i) e
    where
      by : (a b : Bool) → a ≡ true → (a || b) ≡ true
      by true b h = refl
      by false b h = cc

  part_of_statement : (i : ℕ) → is_a s p_statement i ≡ true → is_block_part s i ≡ true
  part_of_statement i e = by (is_leaf s i) (is_a s p_declaration i) (is_a s p_assert i) (is_a s p_statement i) e
    where
      by : (a b c d : Bool) → d ≡ true → (a || (b || (c || d))) ≡ true
      by true b c d h = refl
      by false true c d h = refl
      by false false true d h = refl
      by false false false d h = h

  parts_fit : (n : ℕ) → n < length senses → SoundBefore n → ItemsBefore n → StatementParts (world_at s (take n senses) n) s (sense_in (take n senses))
  unfolding SoundBefore ItemsBefore
  parts_fit n lt before items = record {
    statements = λ i e. items i (item_of_part i (part_of_statement i e));
    begins = λ i first rest e over not_leaf not_expression. items first (item_of_block first (grammar.begins i first rest e over not_leaf not_expression));
    blocks = λ i k c e at. items c (item_of_part c (grammar.blocks i k c e at));
    runs = fit.runs n lt;
    returns = returned_proper (world_at s (take n senses) n) entities s (sense_in (take n senses)) before;
  }

  row_here : (n : ℕ) (node : SyntaxNode) (x : Sense) → n < length senses → slice_get s.nodes n ≡ Some node → slice_get senses n ≡ Some x
      → SoundBefore n → ItemsBefore n → IntsBefore n → SoundSense (world_at s (take n senses) n) entities x
  unfolding SoundBefore
  row_here n node x lt at is before items numbers =
      subst (λ (g : Given Sense). Gives (SoundSense (world_at s (take n senses) n) entities) g) (are.each n node x at is)
      (row_sound (world_at s (take n senses) n) entities (world_sound n lt before numbers) s (sense_in (take n senses)) before n (initial_fits n lt before numbers) ints (parts_fit n lt before items) node.production node.children.items (ap production_of at) (ap children_of at)
      (λ primary. (subst (FirstFits (world_at s (take n senses) n) entities) (ap children_of at) (fit.names n lt primary), fit.further n lt primary)))

  -- the sense of a statement, a block or what may stand in a block is no value
  item_here : (n : ℕ) (node : SyntaxNode) (x : Sense) → n < length senses → slice_get s.nodes n ≡ Some node → slice_get senses n ≡ Some x
      → SoundBefore n → ItemsBefore n → IntsBefore n → is_item s n ≡ true → IsStatementSense x
  unfolding SoundBefore
  item_here n node x lt at is before items numbers e = elim (either (is_block_part s n) (is_a s p_block n) e) [
    | inr block ↦ by_block block
    | inl part ↦ elim (either (is_leaf s n) _ part) [
      | inl token ↦ given_is IsStatementSense (Fits Nothing) x (row_as leaf token) tt
      | inr more ↦ elim (either (is_a s p_declaration n) _ more) [
        | inl declaration ↦ given_is IsStatementSense (declaration_row w s f node.children.items) x (row_as p_declaration declaration) tt
        | inr most ↦ elim (either (is_a s p_assert n) _ most) [
          | inl assertion ↦ given_is IsStatementSense (assert_row w s f n) x (row_as p_assert assertion) (assert_gives w s f n)
          | inr statement ↦ given_is IsStatementSense (statement_row w s f n node.children.items) x (row_as p_statement statement)
              (gives_weaker (λ y. SoundSense w entities y × IsStatementSense y) IsStatementSense (statement_row w s f n node.children.items) (λ y h. h.1) (statement_sound w entities (world_sound n lt before numbers) s f before (parts_fit n lt before items) n node.children.items statement (ap children_of at)))
        ]
      ]
    ]
  ]
    where
      w : World
      w = world_at s (take n senses) n

      f : ℕ → Sense
      f = sense_in (take n senses)

      row_as : (p : ℕ) → is_a s p n ≡ true → row_of w s f p n node.children.items ≡ Fits x
      row_as p h = subst (λ (q : ℕ). row_of w s f q n node.children.items ≡ Fits x) (sym (ap production_of at) ∙ is_number (production_at s n) p h) (are.each n node x at is)

      by_block : is_a s p_block n ≡ true → IsStatementSense x
      by_block h =
          given_is IsStatementSense (block_row w s f n node.children.items) x (row_as p_block h)
          (subst (λ (c : List ℕ). Gives IsStatementSense (block_row w s f n c)) (ap children_of at)
          (gives_weaker (λ y. SoundSense w entities y × IsStatementSense y) IsStatementSense (block_row w s f n (children_at s n)) (λ y k. k.1) (block_sound w entities (world_sound n lt before numbers) s f before (parts_fit n lt before items) n h)))

  -- the value of an enumerator
  int_here : (n : ℕ) (node : SyntaxNode) (x : Sense) → slice_get s.nodes n ≡ Some node → slice_get senses n ≡ Some x → is_a s p_enumerator n ≡ true → IsIntSense x
  int_here n node x at is h =
      given_is IsIntSense (enumerator_row (world_at s (take n senses) n) s (sense_in (take n senses)) n node.children.items) x
      (subst (λ (q : ℕ). row_of (world_at s (take n senses) n) s (sense_in (take n senses)) q n node.children.items ≡ Fits x) (sym (ap production_of at) ∙ is_number (production_at s n) p_enumerator h) (are.each n node x at is))
      (enumerator_int (world_at s (take n senses) n) s (sense_in (take n senses)) n node.children.items)

  node_found : (o : Option SyntaxNode) (n : ℕ) → slice_get s.nodes n ≡ o → n < length s.nodes → (node : SyntaxNode) × (slice_get s.nodes n ≡ Some node)
  node_found (Some node) n e lt = (node, e)
  node_found None n e lt = absurd (no_past s.nodes n e lt)

  up_to : (n : ℕ) → n ≤ length senses → SoundBefore n × ItemsBefore n × IntsBefore n
  unfolding SoundBefore ItemsBefore IntsBefore
  up_to zero le = (λ i. tt, λ i e. tt, λ i e. tt)
  up_to (suc n) le =
      let lt : n < length senses = omega (arith, le) in
      let both : SoundBefore n × ItemsBefore n × IntsBefore n = up_to n (omega (arith, le)) in
      let x : Sense = sense_in senses n in
      let is : slice_get senses n ≡ Some x = slice_get-get_or senses n Nothing lt in
      let node = node_found (slice_get s.nodes n) n refl (omega (arith, are.within)) in
      let here : SoundSense (world_at s (take n senses) n) entities x = row_here n node.0 x lt node.1 is both.0 both.1 both.2 in
      let item : is_item s n ≡ true → IsStatementSense x = item_here n node.0 x lt node.1 is both.0 both.1 both.2 in
      let grows : Grows (world_at s (take n senses) n) (world_at s (take (suc n) senses) (suc n)) =
      subst (λ (xs : List Sense). Grows (world_at s (take n senses) n) (world_at s xs (suc n))) (sym (take_one senses n x is)) (grown_by_one s first (take n senses) x n (suc n)) in
      let grown : (y : Sense) → SoundSense (world_at s (take n senses) n) entities y → SoundSense (world_at s (take (suc n) senses) (suc n)) entities y = sense_grown (world_at s (take n senses) n) (world_at s (take (suc n) senses) (suc n)) entities grows in (
        λ i. subst (λ (xs : List Sense). SoundSense (world_at s (take (suc n) senses) (suc n)) entities (sense_in xs i)) (sym (take_one senses n x is))
            (one_more (λ j y. SoundSense (world_at s (take (suc n) senses) (suc n)) entities y) (take n senses) x (λ j. grown (sense_in (take n senses) j) (both.0 j)) (grown x here) (λ j. tt) i),
        λ i. subst (λ (xs : List Sense). is_item s i ≡ true → IsStatementSense (sense_in xs i)) (sym (take_one senses n x is))
            (one_more (λ j y. is_item s j ≡ true → IsStatementSense y) (take n senses) x both.1 (subst (λ (j : ℕ). is_item s j ≡ true → IsStatementSense x) (sym (taken_length senses n (omega (arith, le)))) item) (λ j e. tt) i),
        λ i. subst (λ (xs : List Sense). is_a s p_enumerator i ≡ true → IsIntSense (sense_in xs i)) (sym (take_one senses n x is))
            (one_more (λ j y. is_a s p_enumerator j ≡ true → IsIntSense y) (take n senses) x both.2 (subst (λ (j : ℕ). is_a s p_enumerator j ≡ true → IsIntSense x) (sym (taken_length senses n (omega (arith, le)))) (int_here n node.0 x node.1 is)) (λ j e. tt) i),
      )

  item_of : (i : ℕ) → (is_a s p_statement i || is_a s p_block i) ≡ true → is_item s i ≡ true
  item_of i e = elim (either (is_a s p_statement i) (is_a s p_block i) e) [ inl h ↦ item_of_part i (part_of_statement i h) | inr h ↦ item_of_block i h ]

  pub asked_sound : (i : ℕ) → SoundSense (world_at s senses (length senses)) entities (sense_in senses i) × ((is_a s p_statement i || is_a s p_block i) ≡ true → IsStatementSense (sense_in senses i))
  unfolding SoundBefore ItemsBefore IntsBefore
  asked_sound i =
      let whole = up_to (length senses) (omega arith) in (
        subst (λ (xs : List Sense). SoundSense (world_at s xs (length senses)) entities (sense_in xs i)) (take_whole senses) (whole.0 i),
        λ e. subst (λ (xs : List Sense). IsStatementSense (sense_in xs i)) (take_whole senses) (whole.1 i (item_of i e)),
      )

-- what fits everywhere fits where it is asked
weaker_placed : (w : World) (t : Ctype) (list : List Placed) → AllFit w t list → AllStand w t list
weaker_placed w t [] h = tt
weaker_placed w t (p ∷ rest) h = (λ type e. let one = h.0 type e in (one.0, one.2), weaker_placed w t rest h.1)

pub weaker_outcome : (w : World) (entities : ℕ → Option Ctype) (s : Source) (sense : ℕ → Sense) (entity : ℕ) (t : Ctype) (g : Given Outcome)
    → Gives (OutcomeFits w entities s sense entity t) g → Gives (OutcomeStands w entities s sense entity t) g
weaker_outcome w entities s sense entity t (Fits (NoPlace node)) h = tt
weaker_outcome w entities s sense entity t (Fits (Places actions)) h = (h.0, weaker_placed w (with_length (new_length w s sense t actions) t) (lasting [] actions) h.1)
weaker_outcome w entities s sense entity t (Refuses kind node) h = tt

pub first_fits : (w : World) (entities : ℕ → Option Ctype) → ((leaf : ℕ) (m : Meaning) → w.meaning leaf ≡ Some m → MeaningFits entities m) → (children : List ℕ) → FirstFits w entities children
first_fits w entities names [] = tt
first_fits w entities names (first ∷ rest) = names first

asked_of : (entities : ℕ → Option Ctype) (s : Source) (senses : List Sense) → SensesFit entities s senses → AskedFit entities s senses
asked_of entities s senses fit = record {
  names = λ i lt primary. first_fits (world_at s (take i senses) i) entities (fit.names i lt) (children_at s i);
  further = λ i lt primary. fit.further i lt;
  aligns = fit.aligns;
  runs = fit.runs;
  initials = λ i lt.
      let w : World = world_at s (take i senses) i in
      let f : ℕ → Sense = sense_in (take i senses) in
      record {
        objects = λ p declarator leaf t is parent rest by name type. weaker_outcome w entities s f (entity_of s f leaf) (with_length (length_seen s f leaf) t) _ ((fit.initials i lt).objects i declarator leaf t type);
        literals = λ p name t is parent over named type. weaker_outcome w entities s f (opening w s f p) t _ ((fit.initials i lt).literals i p t);
      };
}

pub senses_sound : (entities : ℕ → Option Ctype) (s : Source) (senses : List Sense) → AreSenses s senses → ChildrenFirst s → ConstantsFit s → StatementGrammar s → SensesFit entities s senses → (i : ℕ)
    → SoundSense (world_at s senses (length senses)) entities (sense_in senses i) × ((is_a s p_statement i || is_a s p_block i) ≡ true → IsStatementSense (sense_in senses i))
senses_sound entities s senses are first ints grammar fit i = asked_sound entities s senses are first ints grammar (asked_of entities s senses fit) i
