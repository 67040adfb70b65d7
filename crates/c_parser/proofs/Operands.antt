-- An operand that stands alone is read as the table says.
use Rattle.std.proofs.Common.{◌≡◌, ℕ, ◌+◌, ◌-◌, ◌<◌, ◌≤◌, Bool, true, false, eqb, ltb, leb, ◌&&◌, ◌||◌, T, List, [], ◌∷◌, ◌++◌, length, Some, None, Ok, refl, sym, ap, ◌∙◌, subst, arith}
use lib.Dec.{eqb→eq, ltb→lt, leb→le}
use lib.Ieee.Fits.{and_l, and_r}
use Rattle.c_lexer.specs.declared.Token.{Token}
use Rattle.c_lexer.specs.declared.TokenKind.{TokenKind}
use Rattle.c_lexer.specs.declared.TokenKind.TheVariants as kind
use Rattle.c_grammar.specs.Names.{Names}
use Rattle.c_grammar.specs.Notes.{Noted, notes_begin, notes_token}
use Rattle.c_grammar.specs.Table.{table, row}
use Rattle.c_grammar.specs.First.{firsts, firsts_within, can_be_empty}
use Rattle.c_grammar.specs.Fits.{begins, fits, chosen}
use Rattle.c_grammar.specs.Terminals.{terminal, takes, nothing, plain_name, integer, character, string}
use Rattle.c_grammar.specs.Refusals.{refusal}
use Rattle.c_grammar.specs.Tree.{nests}
use Rattle.c_grammar.specs.Reads.{Node, State, Walks, Opens, at_end, token, use_of, choice, enough, first, second, fits_at, chosen_at}
use Rattle.c_grammar.specs.Productions.{p_expression, p_assignment, p_conditional, p_logical_or, p_logical_and, p_inclusive_or, p_exclusive_or, p_and, p_equality, p_relational, p_shift, p_additive, p_multiplicative, p_cast, p_unary, p_post, p_primary, p_nothing, p_just_text, p_more_expressions, p_assigned, p_arms, p_more_logical_or, p_more_logical_and, p_more_inclusive_or, p_more_exclusive_or, p_more_and, p_more_equality, p_more_relational, p_more_shift, p_more_additive, p_more_multiplicative, p_typed_cast, p_prefixed, p_sized, p_aligned, p_postfixed, p_unary_1, p_unary_2, p_just_ident, p_list_call, p_named_primary, p_primary_1, p_primary_2, p_primary_3, p_just_integer, p_just_character, p_texts, p_enclosed}
use Rattle.c_parser.specs.Lone.{is_operand, level_of, is_lone, Grown, leaf_at, over, levels, lone_taken}
use Rattle.c_parser.proofs.Steps.{read_own, helper}
use Rattle.c_parser.proofs.Rows.{Stops, stops-post, stops-text, stops-multiplicative, stops-additive, stops-shift, stops-relational, stops-equality, stops-and, stops-exclusive_or, stops-inclusive_or, stops-logical_and, stops-logical_or, stops-conditional, stops-assignment, stops-expression, nothing_chosen, Ladder, Tailed, Forks, Takes, HasNode, HasNone, row-multiplicative, row-additive, row-shift, row-relational, row-equality, row-and, row-exclusive_or, row-inclusive_or, row-logical_and, row-logical_or, row-expression, row-conditional, row-assignment, row-postfixed, row-cast, row-unary, row-unary_1, row-unary_2, row-primary, row-named_primary, row-primary_1, row-primary_2, row-primary_3, row-just_ident, row-just_integer, row-just_character, row-texts, row-nothing, node-expression, node-assignment, node-conditional, node-logical_or, node-logical_and, node-inclusive_or, node-exclusive_or, node-and, node-equality, node-relational, node-shift, node-additive, node-multiplicative, node-cast, node-unary, node-primary, none-nothing, none-unary_1, none-unary_2, none-postfixed, none-just_ident, none-named_primary, none-primary_1, none-primary_2, none-primary_3, none-just_integer, none-just_character, none-texts, nests-expression, nests-assignment, nests-conditional, nests-logical_or, nests-logical_and, nests-inclusive_or, nests-exclusive_or, nests-and, nests-equality, nests-relational, nests-shift, nests-additive, nests-multiplicative, nests-cast, nests-unary, nests-primary, free-expression, free-assignment, free-conditional, free-logical_or, free-logical_and, free-inclusive_or, free-exclusive_or, free-and, free-equality, free-relational, free-shift, free-additive, free-multiplicative, free-unary, between}

-- Facts of the operands.
abbrev Chooses : ℕ → ℕ → ℕ → ℕ → Type 0
Chooses u v q a = (b : ℕ) (n : Noted) → chosen u v a b n ≡ Some q

-- how an operand comes to a primary expression
abbrev Descends : ℕ → Type 0
Descends a = ((b : ℕ) → refusal p_cast a b ≡ None) × ((b : ℕ) → refusal p_primary a b ≡ None) × Chooses p_typed_cast p_unary p_unary a × Chooses p_prefixed p_unary_1 p_unary_1 a × Chooses p_sized p_unary_2 p_unary_2 a × Chooses p_aligned p_postfixed p_postfixed a

descends-name : Descends plain_name
unfolding refusal chosen fits begins firsts firsts_within can_be_empty table row
descends-name = (λ b. refl, λ b. refl, λ b n. refl, λ b n. refl, λ b n. refl, λ b n. refl)

descends-integer : Descends integer
unfolding refusal chosen fits begins firsts firsts_within can_be_empty table row
descends-integer = (λ b. refl, λ b. refl, λ b n. refl, λ b n. refl, λ b n. refl, λ b n. refl)

descends-character : Descends character
unfolding refusal chosen fits begins firsts firsts_within can_be_empty table row
descends-character = (λ b. refl, λ b. refl, λ b n. refl, λ b n. refl, λ b n. refl, λ b n. refl)

descends-text : Descends string
unfolding refusal chosen fits begins firsts firsts_within can_be_empty table row
descends-text = (λ b. refl, λ b. refl, λ b n. refl, λ b n. refl, λ b n. refl, λ b n. refl)

chooses-name-named_primary : Chooses p_list_call p_named_primary p_named_primary plain_name
unfolding chosen fits begins firsts firsts_within can_be_empty table row
chooses-name-named_primary = λ b n. refl

chooses-integer-named_primary : Chooses p_list_call p_named_primary p_named_primary integer
unfolding chosen fits begins firsts firsts_within can_be_empty table row
chooses-integer-named_primary = λ b n. refl

chooses-character-named_primary : Chooses p_list_call p_named_primary p_named_primary character
unfolding chosen fits begins firsts firsts_within can_be_empty table row
chooses-character-named_primary = λ b n. refl

chooses-text-named_primary : Chooses p_list_call p_named_primary p_named_primary string
unfolding chosen fits begins firsts firsts_within can_be_empty table row
chooses-text-named_primary = λ b n. refl

chooses-name-just_ident : Chooses p_just_ident p_primary_1 p_just_ident plain_name
unfolding chosen fits begins firsts firsts_within can_be_empty table row
chooses-name-just_ident = λ b n. refl

chooses-integer-primary_1 : Chooses p_just_ident p_primary_1 p_primary_1 integer
unfolding chosen fits begins firsts firsts_within can_be_empty table row
chooses-integer-primary_1 = λ b n. refl

chooses-integer-just_integer : Chooses p_just_integer p_primary_2 p_just_integer integer
unfolding chosen fits begins firsts firsts_within can_be_empty table row
chooses-integer-just_integer = λ b n. refl

chooses-character-primary_1 : Chooses p_just_ident p_primary_1 p_primary_1 character
unfolding chosen fits begins firsts firsts_within can_be_empty table row
chooses-character-primary_1 = λ b n. refl

chooses-character-primary_2 : Chooses p_just_integer p_primary_2 p_primary_2 character
unfolding chosen fits begins firsts firsts_within can_be_empty table row
chooses-character-primary_2 = λ b n. refl

chooses-character-just_character : Chooses p_just_character p_primary_3 p_just_character character
unfolding chosen fits begins firsts firsts_within can_be_empty table row
chooses-character-just_character = λ b n. refl

chooses-text-primary_1 : Chooses p_just_ident p_primary_1 p_primary_1 string
unfolding chosen fits begins firsts firsts_within can_be_empty table row
chooses-text-primary_1 = λ b n. refl

chooses-text-primary_2 : Chooses p_just_integer p_primary_2 p_primary_2 string
unfolding chosen fits begins firsts firsts_within can_be_empty table row
chooses-text-primary_2 = λ b n. refl

chooses-text-primary_3 : Chooses p_just_character p_primary_3 p_primary_3 string
unfolding chosen fits begins firsts firsts_within can_be_empty table row
chooses-text-primary_3 = λ b n. refl

chooses-text-texts : Chooses p_texts p_enclosed p_texts string
unfolding chosen fits begins firsts firsts_within can_be_empty table row
chooses-text-texts = λ b n. refl

takes-name : takes p_just_ident kind.Identifier plain_name ≡ true
unfolding takes
takes-name = refl

takes-integer : takes p_just_integer kind.Integer integer ≡ true
unfolding takes
takes-integer = refl

takes-character : takes p_just_character kind.Character character ≡ true
unfolding takes
takes-character = refl

takes-text : takes p_texts kind.Text string ≡ true
unfolding takes
takes-text = refl

no_both : (b : Bool) → b ≡ true → b ≡ false → ⊥
no_both b e f = cc

-- what holds of each operand
operand : (P : ℕ → Type 0) → P plain_name → P integer → P character → P string → (a : ℕ) → is_operand a ≡ true → P a
operand P p q r s a h = cases (eqb a plain_name) (eqb a integer) (eqb a character) (eqb a string) refl refl refl refl h
  where
    equal_to : (x : ℕ) → eqb a x ≡ true → P x → P a
    equal_to x e z = subst P (sym (eqb→eq a x (subst T (sym e) tt))) z

    cases : (t u v w : Bool) → eqb a plain_name ≡ t → eqb a integer ≡ u → eqb a character ≡ v → eqb a string ≡ w → (t || u || v || w) ≡ true → P a
    cases true u v w e f g i k = equal_to plain_name e p
    cases false true v w e f g i k = equal_to integer f q
    cases false false true w e f g i k = equal_to character g r
    cases false false false true e f g i k = equal_to string i s
    cases false false false false e f g i k = absurd (no_both false k refl)

module _ (text : List ℕ) (tokens : List Token) (scopes : Names) (place : ℕ) where
  abbrev before : List Node → List ℕ → Noted → State
  before nodes children notes = record { place = place; scopes = scopes; nodes = nodes; children = children; notes = notes }

  abbrev behind : Grown → List ℕ → Noted → State
  behind g children notes = record { place = place + 1; scopes = scopes; nodes = g.0; children = children ++ g.1 ∷ []; notes = notes }

  -- a production, read within constructs that leave room for so many more, gives these nodes, and the last one is a child
  abbrev Gives : ℕ → ℕ → List Node → Grown → (Noted → Noted) → Type 0
  Gives q deep nodes g f = (d : ℕ) (children : List ℕ) (notes : Noted) → d + deep ≤ 256 → Opens text tokens q d (before nodes children notes) (Ok (behind g children (f notes)))

  -- its row does
  abbrev Row : ℕ → ℕ → List Node → Grown → (Noted → Noted) → Type 0
  Row p deep nodes g f = (d : ℕ) (children : List ℕ) (notes : Noted) → d + deep ≤ 256 → Walks text tokens p 0 d (before nodes children notes) (Ok (behind g children (f notes)))

  abbrev same : Noted → Noted
  same n = n

  abbrev leaf_on : List Node → Grown
  leaf_on nodes = (nodes ++ leaf_at place ∷ [], length nodes)

  opens_nothing : (d : ℕ) (t : State) → d ≤ 256 → Opens text tokens p_nothing d t (Ok t)
  opens_nothing d t h =
      let n : nests p_nothing ≡ 0 = none-nothing.1 in
      let deep : d + nests p_nothing ≤ 256 = omega arith in
      helper text tokens p_nothing d t deep (none-nothing.2 (first text tokens t) (second text tokens t)) (Ok t) none-nothing.0 (at_end row-nothing)

  -- an operand that a token is, at these two terminals
  module _ (a b : ℕ) (this : terminal text tokens scopes place ≡ a) (next : terminal text tokens scopes (place + 1) ≡ b) where
    free_here : (p : ℕ) → refusal p a b ≡ None → refusal p (terminal text tokens scopes place) (terminal text tokens scopes (place + 1)) ≡ None
    free_here p e = ap (λ x. refusal p x (terminal text tokens scopes (place + 1))) this ∙ (ap (λ y. refusal p a y) next ∙ e)

    gives_own : (p deep more : ℕ) (nodes : List Node) (g : Grown) (f : Noted → Noted) → HasNode p → nests p ≡ more → refusal p a b ≡ None → Row p deep nodes g f → Gives p (more + deep) nodes (over place p g) same
    gives_own p deep more nodes g f own e free w d children notes h =
        let s = before nodes children notes in
        let fits_in : d + nests p ≤ 256 = omega arith in
        let room : (d + nests p) + deep ≤ 256 = omega arith in
        let o = read_own text tokens p d s fits_in (free_here p free) (behind g [] (f (notes_begin p notes))) own.0 (w (d + nests p) [] (notes_begin p notes) room) in
        subst (λ n. Opens text tokens p d s (Ok (behind (over place p g) children n))) (own.1 (f (notes_begin p notes)) notes) o

    gives_none : (p deep : ℕ) (nodes : List Node) (g : Grown) (f : Noted → Noted) → HasNone p → Row p deep nodes g f → Gives p deep nodes g f
    gives_none p deep nodes g f none w d children notes h =
        let e : nests p ≡ 0 = none.1 in
        let fits_in : d + nests p ≤ 256 = omega arith in
        let room : (d + nests p) + deep ≤ 256 = omega arith in
        helper text tokens p d (before nodes children notes) fits_in (free_here p (none.2 a b)) (Ok (behind g children (f notes))) none.0 (w (d + nests p) children notes room)

    row_ladder : (p q m l deep : ℕ) (nodes : List Node) (g : Grown) (f : Noted → Noted) → Ladder p q m → Stops l m → level_of b < l → Gives q deep nodes g f → Row p deep nodes g f
    row_ladder p q m l deep nodes g f i stop below w d children notes h =
        let t = behind g children (f notes) in
        let e : fits_at text tokens m t ≡ false = ap (λ x. fits m x (second text tokens t) (f notes)) next ∙ stop b below (second text tokens t) (f notes) in
        use_of i.0 (w d children notes h) (enough i.1 e (at_end i.2))

    row_tailed : (p q m l deep : ℕ) (nodes : List Node) (g : Grown) (f : Noted → Noted) → Tailed p q m → Stops l m → level_of b < l → Gives q deep nodes g f → Row p deep nodes g f
    row_tailed p q m l deep nodes g f i stop below w d children notes h =
        let t = behind g children (f notes) in
        let e : chosen_at text tokens m p_nothing t ≡ Some p_nothing =
        ap (λ x. chosen m p_nothing x (second text tokens t) (f notes)) next ∙ nothing_chosen m b (second text tokens t) (f notes) (stop b below (second text tokens t) (f notes)) in
        use_of i.0 (w d children notes h) (choice i.1 e (opens_nothing d t (omega arith)) (at_end i.2))

    row_fork : (p u v q deep : ℕ) (nodes : List Node) (g : Grown) (f : Noted → Noted) → Forks p u v → Chooses u v q a → Gives q deep nodes g f → Row p deep nodes g f
    row_fork p u v q deep nodes g f i c w d children notes h =
        let s = before nodes children notes in
        let e : chosen_at text tokens u v s ≡ Some q = ap (λ x. chosen u v x (second text tokens s) notes) this ∙ c (second text tokens s) notes in
        choice i.0 e (w d children notes h) (at_end i.1)

    row_token : (p : ℕ) (k : TokenKind) (nodes : List Node) → Takes p k → takes p k a ≡ true → Row p 0 nodes (leaf_on nodes) (notes_token p place a)
    row_token p k nodes i t d children notes h =
        let s = before nodes children notes in
        let e : takes p k (first text tokens s) ≡ true = ap (λ x. takes p k x) this ∙ t in
        subst (λ x. Walks text tokens p 0 d s (Ok (behind (leaf_on nodes) children (notes_token p place x notes)))) this (token i.0 e (at_end i.1))

    row_texts : (nodes : List Node) → takes p_texts kind.Text a ≡ true → level_of b < p_post → Row p_texts 0 nodes (leaf_on nodes) (notes_token p_texts place a)
    row_texts nodes t below d children notes h =
        let s = before nodes children notes in
        let e : takes p_texts kind.Text (first text tokens s) ≡ true = ap (λ x. takes p_texts kind.Text x) this ∙ t in
        let after = behind (leaf_on nodes) children (notes_token p_texts place (first text tokens s) notes) in
        let n : fits_at text tokens p_just_text after ≡ false = ap (λ x. fits p_just_text x (second text tokens after) after.notes) next ∙ stops-text b below (second text tokens after) after.notes in
        subst (λ x. Walks text tokens p_texts 0 d s (Ok (behind (leaf_on nodes) children (notes_token p_texts place x notes)))) this (token row-texts.0 e (enough row-texts.1 n (at_end row-texts.2)))

  -- the row of a primary expression at an operand
  abbrev Primary : ℕ → Type 0
  Primary a = (b : ℕ) → terminal text tokens scopes place ≡ a → terminal text tokens scopes (place + 1) ≡ b → level_of b < p_post → (nodes : List Node) → (f : Noted → Noted) × Row p_primary 0 nodes (leaf_on nodes) f

  primary-name : Primary plain_name
  primary-name b this next below nodes =
      let f = notes_token p_just_ident place plain_name in
      let o = gives_none plain_name b this next p_just_ident 0 nodes (leaf_on nodes) f none-just_ident (row_token plain_name b this next p_just_ident kind.Identifier nodes row-just_ident takes-name) in
      let named = gives_none plain_name b this next p_named_primary 0 nodes (leaf_on nodes) f none-named_primary (row_fork plain_name b this next p_named_primary p_just_ident p_primary_1 p_just_ident 0 nodes (leaf_on nodes) f row-named_primary chooses-name-just_ident o) in
      (f, row_fork plain_name b this next p_primary p_list_call p_named_primary p_named_primary 0 nodes (leaf_on nodes) f row-primary chooses-name-named_primary named)

  primary-integer : Primary integer
  primary-integer b this next below nodes =
      let f = notes_token p_just_integer place integer in
      let o = gives_none integer b this next p_just_integer 0 nodes (leaf_on nodes) f none-just_integer (row_token integer b this next p_just_integer kind.Integer nodes row-just_integer takes-integer) in
      let r = gives_none integer b this next p_primary_1 0 nodes (leaf_on nodes) f none-primary_1 (row_fork integer b this next p_primary_1 p_just_integer p_primary_2 p_just_integer 0 nodes (leaf_on nodes) f row-primary_1 chooses-integer-just_integer o) in
      let named = gives_none integer b this next p_named_primary 0 nodes (leaf_on nodes) f none-named_primary (row_fork integer b this next p_named_primary p_just_ident p_primary_1 p_primary_1 0 nodes (leaf_on nodes) f row-named_primary chooses-integer-primary_1 r) in
      (f, row_fork integer b this next p_primary p_list_call p_named_primary p_named_primary 0 nodes (leaf_on nodes) f row-primary chooses-integer-named_primary named)

  primary-character : Primary character
  primary-character b this next below nodes =
      let f = notes_token p_just_character place character in
      let o = gives_none character b this next p_just_character 0 nodes (leaf_on nodes) f none-just_character (row_token character b this next p_just_character kind.Character nodes row-just_character takes-character) in
      let r = gives_none character b this next p_primary_2 0 nodes (leaf_on nodes) f none-primary_2 (row_fork character b this next p_primary_2 p_just_character p_primary_3 p_just_character 0 nodes (leaf_on nodes) f row-primary_2 chooses-character-just_character o) in
      let s = gives_none character b this next p_primary_1 0 nodes (leaf_on nodes) f none-primary_1 (row_fork character b this next p_primary_1 p_just_integer p_primary_2 p_primary_2 0 nodes (leaf_on nodes) f row-primary_1 chooses-character-primary_2 r) in
      let named = gives_none character b this next p_named_primary 0 nodes (leaf_on nodes) f none-named_primary (row_fork character b this next p_named_primary p_just_ident p_primary_1 p_primary_1 0 nodes (leaf_on nodes) f row-named_primary chooses-character-primary_1 s) in
      (f, row_fork character b this next p_primary p_list_call p_named_primary p_named_primary 0 nodes (leaf_on nodes) f row-primary chooses-character-named_primary named)

  primary-text : Primary string
  primary-text b this next below nodes =
      let f = notes_token p_texts place string in
      let o = gives_none string b this next p_texts 0 nodes (leaf_on nodes) f none-texts (row_texts string b this next nodes takes-text below) in
      let r = gives_none string b this next p_primary_3 0 nodes (leaf_on nodes) f none-primary_3 (row_fork string b this next p_primary_3 p_texts p_enclosed p_texts 0 nodes (leaf_on nodes) f row-primary_3 chooses-text-texts o) in
      let s = gives_none string b this next p_primary_2 0 nodes (leaf_on nodes) f none-primary_2 (row_fork string b this next p_primary_2 p_just_character p_primary_3 p_primary_3 0 nodes (leaf_on nodes) f row-primary_2 chooses-text-primary_3 r) in
      let t = gives_none string b this next p_primary_1 0 nodes (leaf_on nodes) f none-primary_1 (row_fork string b this next p_primary_1 p_just_integer p_primary_2 p_primary_2 0 nodes (leaf_on nodes) f row-primary_1 chooses-text-primary_2 s) in
      let named = gives_none string b this next p_named_primary 0 nodes (leaf_on nodes) f none-named_primary (row_fork string b this next p_named_primary p_just_ident p_primary_1 p_primary_1 0 nodes (leaf_on nodes) f row-named_primary chooses-text-primary_1 t) in
      (f, row_fork string b this next p_primary p_list_call p_named_primary p_named_primary 0 nodes (leaf_on nodes) f row-primary chooses-text-named_primary named)

  -- the levels from the innermost on, at an operand
  module _ (a b : ℕ) (this : terminal text tokens scopes place ≡ a) (next : terminal text tokens scopes (place + 1) ≡ b) (is : is_operand a ≡ true) (nodes : List Node) where
    descends : Descends a
    descends = operand Descends descends-name descends-integer descends-character descends-text a is

    reads-primary : level_of b < p_unary → Gives p_primary 0 nodes (levels 0 place nodes) same
    reads-primary below =
        let found = operand Primary primary-name primary-integer primary-character primary-text a is b this next (omega arith) nodes in
        gives_own a b this next p_primary 0 0 nodes (leaf_on nodes) found.0 node-primary nests-primary (descends.1 b) found.1

    reads-unary : level_of b < p_unary → Gives p_unary 0 nodes (levels 1 place nodes) same
    reads-unary below =
        let g = levels 0 place nodes in
        let x = gives_none a b this next p_postfixed 0 nodes g same none-postfixed (row_ladder a b this next p_postfixed p_primary p_post p_unary 0 nodes g same row-postfixed stops-post below (reads-primary below)) in
        let y = gives_none a b this next p_unary_2 0 nodes g same none-unary_2 (row_fork a b this next p_unary_2 p_aligned p_postfixed p_postfixed 0 nodes g same row-unary_2 descends.5 x) in
        let z = gives_none a b this next p_unary_1 0 nodes g same none-unary_1 (row_fork a b this next p_unary_1 p_sized p_unary_2 p_unary_2 0 nodes g same row-unary_1 descends.4 y) in
        gives_own a b this next p_unary 0 0 nodes g same node-unary nests-unary (free-unary a b) (row_fork a b this next p_unary p_prefixed p_unary_1 p_unary_1 0 nodes g same row-unary descends.3 z)

    reads-cast : level_of b < p_unary → Gives p_cast 1 nodes (levels 2 place nodes) same
    reads-cast below =
        gives_own a b this next p_cast 0 1 nodes (levels 1 place nodes) same node-cast nests-cast (descends.0 b) (row_fork a b this next p_cast p_typed_cast p_unary p_unary 0 nodes (levels 1 place nodes) same row-cast descends.2 (reads-unary below))

    reads-multiplicative : level_of b < p_multiplicative → Gives p_multiplicative 1 nodes (levels 3 place nodes) same
    reads-multiplicative below =
        gives_own a b this next p_multiplicative 1 0 nodes (levels 2 place nodes) same node-multiplicative nests-multiplicative (free-multiplicative a b)
        (row_ladder a b this next p_multiplicative p_cast p_more_multiplicative p_multiplicative 1 nodes (levels 2 place nodes) same row-multiplicative stops-multiplicative below (reads-cast (omega arith)))

    reads-additive : level_of b < p_additive → Gives p_additive 1 nodes (levels 4 place nodes) same
    reads-additive below =
        gives_own a b this next p_additive 1 0 nodes (levels 3 place nodes) same node-additive nests-additive (free-additive a b)
        (row_ladder a b this next p_additive p_multiplicative p_more_additive p_additive 1 nodes (levels 3 place nodes) same row-additive stops-additive below (reads-multiplicative (omega arith)))

    reads-shift : level_of b < p_shift → Gives p_shift 1 nodes (levels 5 place nodes) same
    reads-shift below =
        gives_own a b this next p_shift 1 0 nodes (levels 4 place nodes) same node-shift nests-shift (free-shift a b)
        (row_ladder a b this next p_shift p_additive p_more_shift p_shift 1 nodes (levels 4 place nodes) same row-shift stops-shift below (reads-additive (omega arith)))

    reads-relational : level_of b < p_relational → Gives p_relational 1 nodes (levels 6 place nodes) same
    reads-relational below =
        gives_own a b this next p_relational 1 0 nodes (levels 5 place nodes) same node-relational nests-relational (free-relational a b)
        (row_ladder a b this next p_relational p_shift p_more_relational p_relational 1 nodes (levels 5 place nodes) same row-relational stops-relational below (reads-shift (omega arith)))

    reads-equality : level_of b < p_equality → Gives p_equality 1 nodes (levels 7 place nodes) same
    reads-equality below =
        gives_own a b this next p_equality 1 0 nodes (levels 6 place nodes) same node-equality nests-equality (free-equality a b)
        (row_ladder a b this next p_equality p_relational p_more_equality p_equality 1 nodes (levels 6 place nodes) same row-equality stops-equality below (reads-relational (omega arith)))

    reads-and : level_of b < p_and → Gives p_and 1 nodes (levels 8 place nodes) same
    reads-and below =
        gives_own a b this next p_and 1 0 nodes (levels 7 place nodes) same node-and nests-and (free-and a b)
        (row_ladder a b this next p_and p_equality p_more_and p_and 1 nodes (levels 7 place nodes) same row-and stops-and below (reads-equality (omega arith)))

    reads-exclusive_or : level_of b < p_exclusive_or → Gives p_exclusive_or 1 nodes (levels 9 place nodes) same
    reads-exclusive_or below =
        gives_own a b this next p_exclusive_or 1 0 nodes (levels 8 place nodes) same node-exclusive_or nests-exclusive_or (free-exclusive_or a b)
        (row_ladder a b this next p_exclusive_or p_and p_more_exclusive_or p_exclusive_or 1 nodes (levels 8 place nodes) same row-exclusive_or stops-exclusive_or below (reads-and (omega arith)))

    reads-inclusive_or : level_of b < p_inclusive_or → Gives p_inclusive_or 1 nodes (levels 10 place nodes) same
    reads-inclusive_or below =
        gives_own a b this next p_inclusive_or 1 0 nodes (levels 9 place nodes) same node-inclusive_or nests-inclusive_or (free-inclusive_or a b)
        (row_ladder a b this next p_inclusive_or p_exclusive_or p_more_inclusive_or p_inclusive_or 1 nodes (levels 9 place nodes) same row-inclusive_or stops-inclusive_or below (reads-exclusive_or (omega arith)))

    reads-logical_and : level_of b < p_logical_and → Gives p_logical_and 1 nodes (levels 11 place nodes) same
    reads-logical_and below =
        gives_own a b this next p_logical_and 1 0 nodes (levels 10 place nodes) same node-logical_and nests-logical_and (free-logical_and a b)
        (row_ladder a b this next p_logical_and p_inclusive_or p_more_logical_and p_logical_and 1 nodes (levels 10 place nodes) same row-logical_and stops-logical_and below (reads-inclusive_or (omega arith)))

    reads-logical_or : level_of b < p_logical_or → Gives p_logical_or 1 nodes (levels 12 place nodes) same
    reads-logical_or below =
        gives_own a b this next p_logical_or 1 0 nodes (levels 11 place nodes) same node-logical_or nests-logical_or (free-logical_or a b)
        (row_ladder a b this next p_logical_or p_logical_and p_more_logical_or p_logical_or 1 nodes (levels 11 place nodes) same row-logical_or stops-logical_or below (reads-logical_and (omega arith)))

    reads-conditional : level_of b < p_conditional → Gives p_conditional 2 nodes (levels 13 place nodes) same
    reads-conditional below =
        gives_own a b this next p_conditional 1 1 nodes (levels 12 place nodes) same node-conditional nests-conditional (free-conditional a b)
        (row_tailed a b this next p_conditional p_logical_or p_arms p_conditional 1 nodes (levels 12 place nodes) same row-conditional stops-conditional below (reads-logical_or (omega arith)))

    reads-assignment : level_of b < p_assignment → Gives p_assignment 3 nodes (levels 14 place nodes) same
    reads-assignment below =
        gives_own a b this next p_assignment 2 1 nodes (levels 13 place nodes) same node-assignment nests-assignment (free-assignment a b)
        (row_tailed a b this next p_assignment p_conditional p_assigned p_assignment 2 nodes (levels 13 place nodes) same row-assignment stops-assignment below (reads-conditional (omega arith)))

    reads-expression : level_of b < p_expression → Gives p_expression 3 nodes (levels 15 place nodes) same
    reads-expression below =
        gives_own a b this next p_expression 3 0 nodes (levels 14 place nodes) same node-expression nests-expression (free-expression a b)
        (row_ladder a b this next p_expression p_assignment p_more_expressions p_expression 3 nodes (levels 14 place nodes) same row-expression stops-expression below (reads-assignment (omega arith)))

    abbrev Reads : ℕ → Type 0
    Reads q = level_of b < q → Gives q 3 nodes (levels (p_unary + 1 - q) place nodes) same

    wider : (q deep : ℕ) (g : Grown) → deep ≤ 3 → Gives q deep nodes g same → Gives q 3 nodes g same
    wider q deep g h w d children notes k = w d children notes (omega arith)

    reads : (q : ℕ) → p_expression ≤ q → q ≤ p_unary → Reads q
    reads q l h = between Reads p_expression 15 (λ below. wider p_expression 3 (levels 15 place nodes) (omega arith) (reads-expression below), (λ below. wider p_assignment 3 (levels 14 place nodes) (omega arith) (reads-assignment below), (λ below. wider p_conditional 2 (levels 13 place nodes) (omega arith) (reads-conditional below), (λ below. wider p_logical_or 1 (levels 12 place nodes) (omega arith) (reads-logical_or below), (λ below. wider p_logical_and 1 (levels 11 place nodes) (omega arith) (reads-logical_and below), (λ below. wider p_inclusive_or 1 (levels 10 place nodes) (omega arith) (reads-inclusive_or below), (λ below. wider p_exclusive_or 1 (levels 9 place nodes) (omega arith) (reads-exclusive_or below), (λ below. wider p_and 1 (levels 8 place nodes) (omega arith) (reads-and below), (λ below. wider p_equality 1 (levels 7 place nodes) (omega arith) (reads-equality below), (λ below. wider p_relational 1 (levels 6 place nodes) (omega arith) (reads-relational below), (λ below. wider p_shift 1 (levels 5 place nodes) (omega arith) (reads-shift below), (λ below. wider p_additive 1 (levels 4 place nodes) (omega arith) (reads-additive below), (λ below. wider p_multiplicative 1 (levels 3 place nodes) (omega arith) (reads-multiplicative below), (λ below. wider p_cast 1 (levels 2 place nodes) (omega arith) (reads-cast (omega arith)), (λ below. wider p_unary 0 (levels 1 place nodes) (omega arith) (reads-unary below), tt))))))))))))))) q l (omega arith)

-- the parts of the test
abbrev Parts : ℕ → ℕ → ℕ → ℕ → Type 0
Parts q a b d = (p_expression ≤ q) × (q ≤ p_unary) × (is_operand a ≡ true) × (level_of b < q) × (d ≤ 253)

true_is : (c : Bool) → T c → c ≡ true
true_is true h = refl
true_is false h = absurd h

pub lone_parts : (q a b d : ℕ) → is_lone q a b d ≡ true → Parts q a b d
unfolding is_lone
lone_parts q a b d e =
    let h : T ((leb p_expression q && leb q p_unary) && (is_operand a && ((ltb b 128 && ltb (level_of b) q) && leb d 253))) = subst T (sym e) tt in
    let l = and_l (leb p_expression q && leb q p_unary) _ h in
    let r = and_r (leb p_expression q && leb q p_unary) _ h in
    let s = and_r (is_operand a) _ r in
    let m = and_l (ltb b 128 && ltb (level_of b) q) _ s in
    (leb→le _ _ (and_l (leb p_expression q) _ l), leb→le _ _ (and_r (leb p_expression q) _ l), true_is (is_operand a) (and_l (is_operand a) _ r), ltb→lt _ _ (and_r (ltb b 128) _ m), leb→le _ _ (and_r (ltb b 128 && ltb (level_of b) q) _ s))

-- an operand is a token
pub not_nothing : (t : ℕ) → is_operand t ≡ true → t ≡ nothing → ⊥
not_nothing t e n = no_both (is_operand nothing) (subst (λ x. is_operand x ≡ true) n e) refl

-- a level of expressions that has an operand alone is read to these nodes
pub lone_opens : (text : List ℕ) (tokens : List Token) (q d : ℕ) (s : State) → is_lone q (first text tokens s) (second text tokens s) d ≡ true → Opens text tokens q d s (Ok (lone_taken q s))
lone_opens text tokens q d s e =
    let a = first text tokens s in
    let b = second text tokens s in
    let p = lone_parts q a b d e in
    reads text tokens s.scopes s.place a b refl refl p.2 s.nodes q p.0 p.1 p.3 d s.children s.notes (omega (arith, p.4))
