-- Facts of the rows of expressions (C11 6.5): where their levels go on, what they use, and what they note.
use Rattle.std.proofs.Common.{◌≡◌, ℕ, zero, suc, ◌+◌, ◌<◌, ◌≤◌, Bool, true, false, eqb, ltb, ◌&&◌, ◌||◌, T, List, [], ◌∷◌, Some, None, inl, inr, refl, sym, ap, ◌∙◌, subst, arith}
use Rattle.std.specs.Prelude.{if◌then◌else◌}
use Rattle.std.proofs.lemmas.Bool.{cases_lt}
use lib.Dec.{eqb→eq, ltb→lt}
use lib.Ieee.Fits.{and_l, and_r}
use Rattle.c_lexer.specs.declared.TokenKind.{TokenKind}
use Rattle.c_lexer.specs.declared.TokenKind.TheVariants as kind
use Rattle.c_grammar.specs.declared.rows.Item.TheVariants as item
use Rattle.c_grammar.specs.Notes.{Noted, notes_after}
use Rattle.c_grammar.specs.Table.{table, row, item_of}
use Rattle.c_grammar.specs.First.{firsts, firsts_within, can_be_empty}
use Rattle.c_grammar.specs.Fits.{begins, fits, chosen}
use Rattle.c_grammar.specs.Terminals.{contains}
use Rattle.c_grammar.specs.Refusals.{refusal}
use Rattle.c_grammar.specs.Tree.{makes_node, nests}
use Rattle.c_grammar.specs.Productions.{p_expression, p_assignment, p_conditional, p_logical_or, p_logical_and, p_inclusive_or, p_exclusive_or, p_and, p_equality, p_relational, p_shift, p_additive, p_multiplicative, p_cast, p_unary, p_post, p_primary, p_nothing, p_just_text, p_more_expressions, p_assigned, p_arms, p_more_logical_or, p_more_logical_and, p_more_inclusive_or, p_more_exclusive_or, p_more_and, p_more_equality, p_more_relational, p_more_shift, p_more_additive, p_more_multiplicative, p_typed_cast, p_prefixed, p_sized, p_aligned, p_postfixed, p_unary_1, p_unary_2, p_just_ident, p_list_call, p_named_primary, p_primary_1, p_primary_2, p_primary_3, p_just_integer, p_just_character, p_texts, p_enclosed}
use Rattle.c_parser.specs.Lone.{level_of}

-- The terminals that a level goes on with behind an operand.
abbrev pub at_least : (ℕ → ℕ) → ℕ → List ℕ → Bool
at_least f p [] = true
at_least f p (y ∷ ys) = ltb p (suc (f y)) && at_least f p ys

apart : (f : ℕ → ℕ) (p x y : ℕ) (c r : Bool) → eqb y x ≡ c → p < suc (f y) → f x < p → r ≡ false → (c || r) ≡ false
apart f p x y true r e h l n =
    let q : y ≡ x = eqb→eq y x (subst T (sym e) tt) in
    let g : f y ≡ f x = ap f q in
    absurd (omega arith)
apart f p x y false r e h l n = n

never : (f : ℕ → ℕ) (p x : ℕ) (ys : List ℕ) → T (at_least f p ys) → f x < p → contains ys x ≡ false
never f p x [] h l = refl
never f p x (y ∷ ys) h l = apart f p x y (eqb y x) (contains ys x) refl (ltb→lt _ _ (and_l _ _ h)) l (never f p x ys (and_r (ltb p (suc (f y))) _ h) l)

and_false : (b : Bool) → (b && false) ≡ false
and_false true = refl
and_false false = refl

-- a production whose test is whether it begins with the next token isn't taken
stops : (p m x : ℕ) → T (at_least level_of p (firsts m)) → ((y : ℕ) (n : Noted) → fits m x y n ≡ begins m x) → level_of x < p → (y : ℕ) (n : Noted) → fits m x y n ≡ false
unfolding begins
stops p m x h e l y n = e y n ∙ (ap (λ b. ltb m 258 && b) (never level_of p x (firsts m) h l) ∙ and_false (ltb m 258))

abbrev pub Stops : ℕ → ℕ → Type 0
Stops p m = (x : ℕ) → level_of x < p → (y : ℕ) (n : Noted) → fits m x y n ≡ false

goes_on-post : T (at_least level_of p_unary (firsts p_post))
unfolding level_of table row firsts firsts_within can_be_empty
goes_on-post = tt

pub stops-post : Stops p_unary p_post
unfolding fits
stops-post x l = stops p_unary p_post x goes_on-post (λ y n. refl) l

goes_on-text : T (at_least level_of p_post (firsts p_just_text))
unfolding level_of table row firsts firsts_within can_be_empty
goes_on-text = tt

pub stops-text : Stops p_post p_just_text
unfolding fits
stops-text x l = stops p_post p_just_text x goes_on-text (λ y n. refl) l

goes_on-multiplicative : T (at_least level_of p_multiplicative (firsts p_more_multiplicative))
unfolding level_of table row firsts firsts_within can_be_empty
goes_on-multiplicative = tt

pub stops-multiplicative : Stops p_multiplicative p_more_multiplicative
unfolding fits
stops-multiplicative x l = stops p_multiplicative p_more_multiplicative x goes_on-multiplicative (λ y n. refl) l

goes_on-additive : T (at_least level_of p_additive (firsts p_more_additive))
unfolding level_of table row firsts firsts_within can_be_empty
goes_on-additive = tt

pub stops-additive : Stops p_additive p_more_additive
unfolding fits
stops-additive x l = stops p_additive p_more_additive x goes_on-additive (λ y n. refl) l

goes_on-shift : T (at_least level_of p_shift (firsts p_more_shift))
unfolding level_of table row firsts firsts_within can_be_empty
goes_on-shift = tt

pub stops-shift : Stops p_shift p_more_shift
unfolding fits
stops-shift x l = stops p_shift p_more_shift x goes_on-shift (λ y n. refl) l

goes_on-relational : T (at_least level_of p_relational (firsts p_more_relational))
unfolding level_of table row firsts firsts_within can_be_empty
goes_on-relational = tt

pub stops-relational : Stops p_relational p_more_relational
unfolding fits
stops-relational x l = stops p_relational p_more_relational x goes_on-relational (λ y n. refl) l

goes_on-equality : T (at_least level_of p_equality (firsts p_more_equality))
unfolding level_of table row firsts firsts_within can_be_empty
goes_on-equality = tt

pub stops-equality : Stops p_equality p_more_equality
unfolding fits
stops-equality x l = stops p_equality p_more_equality x goes_on-equality (λ y n. refl) l

goes_on-and : T (at_least level_of p_and (firsts p_more_and))
unfolding level_of table row firsts firsts_within can_be_empty
goes_on-and = tt

pub stops-and : Stops p_and p_more_and
unfolding fits
stops-and x l = stops p_and p_more_and x goes_on-and (λ y n. refl) l

goes_on-exclusive_or : T (at_least level_of p_exclusive_or (firsts p_more_exclusive_or))
unfolding level_of table row firsts firsts_within can_be_empty
goes_on-exclusive_or = tt

pub stops-exclusive_or : Stops p_exclusive_or p_more_exclusive_or
unfolding fits
stops-exclusive_or x l = stops p_exclusive_or p_more_exclusive_or x goes_on-exclusive_or (λ y n. refl) l

goes_on-inclusive_or : T (at_least level_of p_inclusive_or (firsts p_more_inclusive_or))
unfolding level_of table row firsts firsts_within can_be_empty
goes_on-inclusive_or = tt

pub stops-inclusive_or : Stops p_inclusive_or p_more_inclusive_or
unfolding fits
stops-inclusive_or x l = stops p_inclusive_or p_more_inclusive_or x goes_on-inclusive_or (λ y n. refl) l

goes_on-logical_and : T (at_least level_of p_logical_and (firsts p_more_logical_and))
unfolding level_of table row firsts firsts_within can_be_empty
goes_on-logical_and = tt

pub stops-logical_and : Stops p_logical_and p_more_logical_and
unfolding fits
stops-logical_and x l = stops p_logical_and p_more_logical_and x goes_on-logical_and (λ y n. refl) l

goes_on-logical_or : T (at_least level_of p_logical_or (firsts p_more_logical_or))
unfolding level_of table row firsts firsts_within can_be_empty
goes_on-logical_or = tt

pub stops-logical_or : Stops p_logical_or p_more_logical_or
unfolding fits
stops-logical_or x l = stops p_logical_or p_more_logical_or x goes_on-logical_or (λ y n. refl) l

goes_on-conditional : T (at_least level_of p_conditional (firsts p_arms))
unfolding level_of table row firsts firsts_within can_be_empty
goes_on-conditional = tt

pub stops-conditional : Stops p_conditional p_arms
unfolding fits
stops-conditional x l = stops p_conditional p_arms x goes_on-conditional (λ y n. refl) l

goes_on-assignment : T (at_least level_of p_assignment (firsts p_assigned))
unfolding level_of table row firsts firsts_within can_be_empty
goes_on-assignment = tt

pub stops-assignment : Stops p_assignment p_assigned
unfolding fits
stops-assignment x l = stops p_assignment p_assigned x goes_on-assignment (λ y n. refl) l

goes_on-expression : T (at_least level_of p_expression (firsts p_more_expressions))
unfolding level_of table row firsts firsts_within can_be_empty
goes_on-expression = tt

pub stops-expression : Stops p_expression p_more_expressions
unfolding fits
stops-expression x l = stops p_expression p_more_expressions x goes_on-expression (λ y n. refl) l

or_true : (b c : Bool) → c ≡ true → (b || c) ≡ true
or_true true c e = refl
or_true false c e = e

other_of : (b c : Bool) (u v : ℕ) → b ≡ false → c ≡ true → (if b then Some u else if c then Some v else None) ≡ Some v
other_of b c u v e f = rw (e, f) refl

nothing_empty : can_be_empty p_nothing ≡ true
unfolding can_be_empty
nothing_empty = refl

pub nothing_chosen : (m x y : ℕ) (n : Noted) → fits m x y n ≡ false → chosen m p_nothing x y n ≡ Some p_nothing
unfolding chosen
nothing_chosen m x y n e = other_of (fits m x y n) (fits p_nothing x y n || can_be_empty p_nothing) m p_nothing e (or_true (fits p_nothing x y n) (can_be_empty p_nothing) nothing_empty)

-- Facts of the rows.
abbrev pub Ladder : ℕ → ℕ → ℕ → Type 0
Ladder p q m = (item_of p 0 ≡ Some (item.Use q)) × (item_of p 1 ≡ Some (item.Repeat m)) × (item_of p 2 ≡ None)

abbrev pub Tailed : ℕ → ℕ → ℕ → Type 0
Tailed p q m = (item_of p 0 ≡ Some (item.Use q)) × (item_of p 1 ≡ Some (item.Choice m p_nothing)) × (item_of p 2 ≡ None)

abbrev pub Forks : ℕ → ℕ → ℕ → Type 0
Forks p u v = (item_of p 0 ≡ Some (item.Choice u v)) × (item_of p 1 ≡ None)

abbrev pub Takes : ℕ → TokenKind → Type 0
Takes p k = (item_of p 0 ≡ Some (item.Token k)) × (item_of p 1 ≡ None)

-- a production with a node of its own, and one without
abbrev pub HasNode : ℕ → Type 0
HasNode p = (makes_node p ≡ true) × ((x y : Noted) → notes_after p x y ≡ y)

abbrev pub HasNone : ℕ → Type 0
HasNone p = (makes_node p ≡ false) × (nests p ≡ 0) × ((a b : ℕ) → refusal p a b ≡ None)

pub row-multiplicative : Ladder p_multiplicative p_cast p_more_multiplicative
unfolding item_of row table
row-multiplicative = (refl, refl, refl)

pub row-additive : Ladder p_additive p_multiplicative p_more_additive
unfolding item_of row table
row-additive = (refl, refl, refl)

pub row-shift : Ladder p_shift p_additive p_more_shift
unfolding item_of row table
row-shift = (refl, refl, refl)

pub row-relational : Ladder p_relational p_shift p_more_relational
unfolding item_of row table
row-relational = (refl, refl, refl)

pub row-equality : Ladder p_equality p_relational p_more_equality
unfolding item_of row table
row-equality = (refl, refl, refl)

pub row-and : Ladder p_and p_equality p_more_and
unfolding item_of row table
row-and = (refl, refl, refl)

pub row-exclusive_or : Ladder p_exclusive_or p_and p_more_exclusive_or
unfolding item_of row table
row-exclusive_or = (refl, refl, refl)

pub row-inclusive_or : Ladder p_inclusive_or p_exclusive_or p_more_inclusive_or
unfolding item_of row table
row-inclusive_or = (refl, refl, refl)

pub row-logical_and : Ladder p_logical_and p_inclusive_or p_more_logical_and
unfolding item_of row table
row-logical_and = (refl, refl, refl)

pub row-logical_or : Ladder p_logical_or p_logical_and p_more_logical_or
unfolding item_of row table
row-logical_or = (refl, refl, refl)

pub row-expression : Ladder p_expression p_assignment p_more_expressions
unfolding item_of row table
row-expression = (refl, refl, refl)

pub row-conditional : Tailed p_conditional p_logical_or p_arms
unfolding item_of row table
row-conditional = (refl, refl, refl)

pub row-assignment : Tailed p_assignment p_conditional p_assigned
unfolding item_of row table
row-assignment = (refl, refl, refl)

pub row-postfixed : Ladder p_postfixed p_primary p_post
unfolding item_of row table
row-postfixed = (refl, refl, refl)

pub row-cast : Forks p_cast p_typed_cast p_unary
unfolding item_of row table
row-cast = (refl, refl)

pub row-unary : Forks p_unary p_prefixed p_unary_1
unfolding item_of row table
row-unary = (refl, refl)

pub row-unary_1 : Forks p_unary_1 p_sized p_unary_2
unfolding item_of row table
row-unary_1 = (refl, refl)

pub row-unary_2 : Forks p_unary_2 p_aligned p_postfixed
unfolding item_of row table
row-unary_2 = (refl, refl)

pub row-primary : Forks p_primary p_list_call p_named_primary
unfolding item_of row table
row-primary = (refl, refl)

pub row-named_primary : Forks p_named_primary p_just_ident p_primary_1
unfolding item_of row table
row-named_primary = (refl, refl)

pub row-primary_1 : Forks p_primary_1 p_just_integer p_primary_2
unfolding item_of row table
row-primary_1 = (refl, refl)

pub row-primary_2 : Forks p_primary_2 p_just_character p_primary_3
unfolding item_of row table
row-primary_2 = (refl, refl)

pub row-primary_3 : Forks p_primary_3 p_texts p_enclosed
unfolding item_of row table
row-primary_3 = (refl, refl)

pub row-just_ident : Takes p_just_ident kind.Identifier
unfolding item_of row table
row-just_ident = (refl, refl)

pub row-just_integer : Takes p_just_integer kind.Integer
unfolding item_of row table
row-just_integer = (refl, refl)

pub row-just_character : Takes p_just_character kind.Character
unfolding item_of row table
row-just_character = (refl, refl)

pub row-texts : (item_of p_texts 0 ≡ Some (item.Token kind.Text)) × (item_of p_texts 1 ≡ Some (item.Repeat p_just_text)) × (item_of p_texts 2 ≡ None)
unfolding item_of row table
row-texts = (refl, refl, refl)

pub row-nothing : item_of p_nothing 0 ≡ None
unfolding item_of row table
row-nothing = refl

pub node-expression : HasNode p_expression
unfolding makes_node notes_after
node-expression = (refl, λ x y. refl)

pub node-assignment : HasNode p_assignment
unfolding makes_node notes_after
node-assignment = (refl, λ x y. refl)

pub node-conditional : HasNode p_conditional
unfolding makes_node notes_after
node-conditional = (refl, λ x y. refl)

pub node-logical_or : HasNode p_logical_or
unfolding makes_node notes_after
node-logical_or = (refl, λ x y. refl)

pub node-logical_and : HasNode p_logical_and
unfolding makes_node notes_after
node-logical_and = (refl, λ x y. refl)

pub node-inclusive_or : HasNode p_inclusive_or
unfolding makes_node notes_after
node-inclusive_or = (refl, λ x y. refl)

pub node-exclusive_or : HasNode p_exclusive_or
unfolding makes_node notes_after
node-exclusive_or = (refl, λ x y. refl)

pub node-and : HasNode p_and
unfolding makes_node notes_after
node-and = (refl, λ x y. refl)

pub node-equality : HasNode p_equality
unfolding makes_node notes_after
node-equality = (refl, λ x y. refl)

pub node-relational : HasNode p_relational
unfolding makes_node notes_after
node-relational = (refl, λ x y. refl)

pub node-shift : HasNode p_shift
unfolding makes_node notes_after
node-shift = (refl, λ x y. refl)

pub node-additive : HasNode p_additive
unfolding makes_node notes_after
node-additive = (refl, λ x y. refl)

pub node-multiplicative : HasNode p_multiplicative
unfolding makes_node notes_after
node-multiplicative = (refl, λ x y. refl)

pub node-cast : HasNode p_cast
unfolding makes_node notes_after
node-cast = (refl, λ x y. refl)

pub node-unary : HasNode p_unary
unfolding makes_node notes_after
node-unary = (refl, λ x y. refl)

pub node-primary : HasNode p_primary
unfolding makes_node notes_after
node-primary = (refl, λ x y. refl)

pub none-nothing : HasNone p_nothing
unfolding makes_node nests refusal
none-nothing = (refl, refl, λ a b. refl)

pub none-unary_1 : HasNone p_unary_1
unfolding makes_node nests refusal
none-unary_1 = (refl, refl, λ a b. refl)

pub none-unary_2 : HasNone p_unary_2
unfolding makes_node nests refusal
none-unary_2 = (refl, refl, λ a b. refl)

pub none-postfixed : HasNone p_postfixed
unfolding makes_node nests refusal
none-postfixed = (refl, refl, λ a b. refl)

pub none-just_ident : HasNone p_just_ident
unfolding makes_node nests refusal
none-just_ident = (refl, refl, λ a b. refl)

pub none-named_primary : HasNone p_named_primary
unfolding makes_node nests refusal
none-named_primary = (refl, refl, λ a b. refl)

pub none-primary_1 : HasNone p_primary_1
unfolding makes_node nests refusal
none-primary_1 = (refl, refl, λ a b. refl)

pub none-primary_2 : HasNone p_primary_2
unfolding makes_node nests refusal
none-primary_2 = (refl, refl, λ a b. refl)

pub none-primary_3 : HasNone p_primary_3
unfolding makes_node nests refusal
none-primary_3 = (refl, refl, λ a b. refl)

pub none-just_integer : HasNone p_just_integer
unfolding makes_node nests refusal
none-just_integer = (refl, refl, λ a b. refl)

pub none-just_character : HasNone p_just_character
unfolding makes_node nests refusal
none-just_character = (refl, refl, λ a b. refl)

pub none-texts : HasNone p_texts
unfolding makes_node nests refusal
none-texts = (refl, refl, λ a b. refl)

pub nests-expression : nests p_expression ≡ 0
unfolding nests
nests-expression = refl

pub nests-assignment : nests p_assignment ≡ 1
unfolding nests
nests-assignment = refl

pub nests-conditional : nests p_conditional ≡ 1
unfolding nests
nests-conditional = refl

pub nests-logical_or : nests p_logical_or ≡ 0
unfolding nests
nests-logical_or = refl

pub nests-logical_and : nests p_logical_and ≡ 0
unfolding nests
nests-logical_and = refl

pub nests-inclusive_or : nests p_inclusive_or ≡ 0
unfolding nests
nests-inclusive_or = refl

pub nests-exclusive_or : nests p_exclusive_or ≡ 0
unfolding nests
nests-exclusive_or = refl

pub nests-and : nests p_and ≡ 0
unfolding nests
nests-and = refl

pub nests-equality : nests p_equality ≡ 0
unfolding nests
nests-equality = refl

pub nests-relational : nests p_relational ≡ 0
unfolding nests
nests-relational = refl

pub nests-shift : nests p_shift ≡ 0
unfolding nests
nests-shift = refl

pub nests-additive : nests p_additive ≡ 0
unfolding nests
nests-additive = refl

pub nests-multiplicative : nests p_multiplicative ≡ 0
unfolding nests
nests-multiplicative = refl

pub nests-cast : nests p_cast ≡ 1
unfolding nests
nests-cast = refl

pub nests-unary : nests p_unary ≡ 0
unfolding nests
nests-unary = refl

pub nests-primary : nests p_primary ≡ 0
unfolding nests
nests-primary = refl

pub free-expression : (a b : ℕ) → refusal p_expression a b ≡ None
unfolding refusal
free-expression = λ a b. refl

pub free-assignment : (a b : ℕ) → refusal p_assignment a b ≡ None
unfolding refusal
free-assignment = λ a b. refl

pub free-conditional : (a b : ℕ) → refusal p_conditional a b ≡ None
unfolding refusal
free-conditional = λ a b. refl

pub free-logical_or : (a b : ℕ) → refusal p_logical_or a b ≡ None
unfolding refusal
free-logical_or = λ a b. refl

pub free-logical_and : (a b : ℕ) → refusal p_logical_and a b ≡ None
unfolding refusal
free-logical_and = λ a b. refl

pub free-inclusive_or : (a b : ℕ) → refusal p_inclusive_or a b ≡ None
unfolding refusal
free-inclusive_or = λ a b. refl

pub free-exclusive_or : (a b : ℕ) → refusal p_exclusive_or a b ≡ None
unfolding refusal
free-exclusive_or = λ a b. refl

pub free-and : (a b : ℕ) → refusal p_and a b ≡ None
unfolding refusal
free-and = λ a b. refl

pub free-equality : (a b : ℕ) → refusal p_equality a b ≡ None
unfolding refusal
free-equality = λ a b. refl

pub free-relational : (a b : ℕ) → refusal p_relational a b ≡ None
unfolding refusal
free-relational = λ a b. refl

pub free-shift : (a b : ℕ) → refusal p_shift a b ≡ None
unfolding refusal
free-shift = λ a b. refl

pub free-additive : (a b : ℕ) → refusal p_additive a b ≡ None
unfolding refusal
free-additive = λ a b. refl

pub free-multiplicative : (a b : ℕ) → refusal p_multiplicative a b ≡ None
unfolding refusal
free-multiplicative = λ a b. refl

pub free-unary : (a b : ℕ) → refusal p_unary a b ≡ None
unfolding refusal
free-unary = λ a b. refl

-- what holds of each production from one on, so many, holds of one among them
abbrev pub AllFrom : (ℕ → Type 0) → ℕ → ℕ → Type 0
AllFrom P n zero = Unit {0}
AllFrom P n (suc more) = P n × AllFrom P (suc n) more

pub between : (P : ℕ → Type 0) (n more : ℕ) → AllFrom P n more → (q : ℕ) → n ≤ q → q < n + more → P q
between P n zero h q l k = absurd (omega arith)
between P n (suc more) h q l k =
    elim (cases_lt n q) [
      | inl g ↦ between P (suc n) more h.1 q (omega arith) (omega arith)
      | inr g ↦ let e : n ≡ q = omega arith in subst P e h.0
    ]
