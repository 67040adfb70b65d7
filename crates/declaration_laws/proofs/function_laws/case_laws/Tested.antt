-- What the rows of cases and of switches have tested.
use Rattle.std.proofs.Common.{◌≡◌, ℕ, Bool, true, false, ◌||◌, ◌==◌, not, List, [], ◌∷◌, Option, Some, None, refl, sym, ap, ◌∙◌, subst}
use Rattle.std.specs.Prelude.{⊤, ℤ, is_some}
use Rattle.std.proofs.lemmas.Bool.{eqb-true}
use Rattle.pta_base.specs.declared.kind.Kind.{Kind}
use Rattle.pta_base.specs.declared.kind.Kind.TheVariants.{Operand}
use Rattle.c_types.specs.Trees.{Ctype}
use Rattle.core_tree.specs.declared.node.NodeKind.{NodeKind}
use Rattle.core_tree.specs.declared.node.NodeKind.TheVariants.{Expression, Fetch, Decay, Switch, Case, Default, Label, Break, Continue, Return}
use Rattle.core_tree.specs.Typed.{Sort, NoNode, PlaceNode, ValueNode, StatementNode, decayed}
use Rattle.c_grammar.specs.Productions.{p_conditional}
use Rattle.c_grammar.specs.Words.{word_case, word_default, word_if, word_switch, word_while, word_do, word_for, word_goto, word_continue, word_break, word_return, sign_semicolon}
use Rattle.c_consts.specs.Core.{Core, Of, NoCores, kind_of, ctype_of, core_sort, place_of, over}
use Rattle.c_consts.specs.Wrapped.{converted}
use Rattle.c_senses.specs.Tree.{Source, is_name, has_sign, word_at, place_at, spelling_at, children_at, first_where, any_where, child_of, nearest_above, numbers_from}
use Rattle.c_senses.specs.Given.{Given, Fits, Refuses, ◌>>=◌, given_if}
use Rattle.c_senses.specs.World.{World}
use Rattle.c_senses.specs.Conversions.{OperandSort, Whole, Address, Aggregate, Other, operand_of, value_of_sort, fetched_or_decayed, is_fetched, promotion, conversion, is_list}
use Rattle.c_senses.specs.Constants.{constant_in, is_whole}
use Rattle.c_senses.specs.Places.{own_place}
use Rattle.c_senses.specs.Sense.{Sense, IsCore, value_in}
use Rattle.c_senses.specs.Statements.{statement, one, two, condition_of, statements_among, body_of, other_body, expression_in, labelled, switch_around, switched, is_case_again, is_default_again, case_row, default_row, if_row, switch_row, while_row, do_row, expression_statement, ForParts, for_parts, for_first, for_condition, for_after, for_of, for_row, is_loop, is_statement_of, goto_row, returned_type, return_row, of_word, leaf_statement}
use Rattle.parsed_tree_laws.specs.sense_laws.Sound.{Gives}
use Rattle.parsed_tree_laws.proofs.sense_laws.Giving.{then_gives, if_given, some_given, if_holds}
use Rattle.declaration_laws.proofs.passed.core_node_laws.marked_trees.Marks.{first_or}

-- something is given
abbrev pub IsFit : {A : Type 0} → Given A → Type 0
IsFit (Fits x) = ⊤
IsFit (Refuses kind node) = ⊥

anything : {A : Type 0} (g : Given A) → Gives (λ n. ⊤) g
anything (Fits n) = tt
anything (Refuses kind node) = tt

fit_of : {A : Type 0} (g : Given A) (P : A → Type 0) → Gives P g → Gives (λ x. P x × IsFit g) g
fit_of (Fits x) P h = (h, tt)
fit_of (Refuses kind node) P h = tt

module _ (w : World) (s : Source) (sense : ℕ → Sense) (at : ℕ) where
  abbrev pub TestedCase : ℤ → Type 0
  TestedCase n = (switch : ℕ) → switch_around w s sense at ≡ Some switch → IsFit (switched w s sense switch (expression_in w s sense (children_at s switch))) → any_where (is_case_again w s sense switch n) (numbers_from 0 at) ≡ false

  abbrev pub TestedDefault : Type 0
  TestedDefault = (switch : ℕ) → switch_around w s sense at ≡ Some switch → any_where (is_default_again w s sense switch) (numbers_from 0 at) ≡ false

  -- what is known of a case, a default and a switch that some children make
  abbrev pub TellsKind : List ℕ → NodeKind → Type 0
  TellsKind children (Case n) = (word_at s (first_or children) ≡ Some word_case) × TestedCase n
  TellsKind children Default = (word_at s (first_or children) ≡ Some word_default) × TestedDefault
  TellsKind children Switch = (word_at s (first_or children) ≡ Some word_switch) × IsFit (switched w s sense at (expression_in w s sense children))
  TellsKind children kind = ⊤

  abbrev pub Tells : List ℕ → Core → Type 0
  Tells children (Of kind place type under) = TellsKind children kind

  module _ (children : List ℕ) where
    abbrev K : Core → Type 0
    K = Tells children

    label_tells : (name : ℕ) → Gives K (labelled w s sense at name children)
    label_tells name = then_gives (λ c. ⊤) K (body_of w s sense at (statements_among w s sense children)) (λ c. Fits (statement (Label (spelling_at s name)) (place_at s at) (one c))) (anything (body_of w s sense at (statements_among w s sense children))) (λ c h. tt)

    off : (b : Bool) → not b ≡ true → b ≡ false
    off true e = cc
    off false e = refl

    same_some : {A : Type 0} (x y : A) → ◌≡◌ {A = Option A} (Some x) (Some y) → x ≡ y
    same_some x y e = cc

    case_by : word_at s (first_or children) ≡ Some word_case → (switch : ℕ) → switch_around w s sense at ≡ Some switch → (body : Core) (n : ℤ) → (g : Given Core) → switched w s sense switch (expression_in w s sense (children_at s switch)) ≡ g
        → Gives K
        (elim g as (λ _. Given Core) [
          | Refuses kind node ↦ Fits (statement (Case n) (place_at s at) (one body))
          | Fits v ↦
              let m = converted (ctype_of v) n in
              given_if (not (any_where (is_case_again w s sense switch m) (numbers_from 0 at))) Operand at (Fits (statement (Case m) (place_at s at) (one body)))
        ])
    case_by word switch around body n (Refuses kind node) e = (word, λ other same fit. absurd (never other same fit))
      where
        never : (other : ℕ) → switch_around w s sense at ≡ Some other → IsFit (switched w s sense other (expression_in w s sense (children_at s other))) → ⊥
        never other same fit =
            let one : switch ≡ other = same_some switch other (sym around ∙ same) in
            let here : IsFit (switched w s sense switch (expression_in w s sense (children_at s switch))) = subst (λ (x : ℕ). IsFit (switched w s sense x (expression_in w s sense (children_at s x)))) (sym one) fit in
            subst (λ (g : Given Core). IsFit g) e here
    case_by word switch around body n (Fits v) e =
        if_given K (not (any_where (is_case_again w s sense switch (converted (ctype_of v) n)) (numbers_from 0 at))) Operand at (Fits (statement (Case (converted (ctype_of v) n)) (place_at s at) (one body)))
        (λ new. (word, λ other same fit. subst (λ (x : ℕ). any_where (is_case_again w s sense x (converted (ctype_of v) n)) (numbers_from 0 at) ≡ false) (same_some switch other (sym around ∙ same)) (off (any_where (is_case_again w s sense switch (converted (ctype_of v) n)) (numbers_from 0 at)) new)))

    case_tells : word_at s (first_or children) ≡ Some word_case → Gives K (case_row w s sense at children)
    case_tells word =
        some_given K (child_of s p_conditional at) Operand at _
        (λ c e.
        then_gives (λ n. ⊤) K (constant_in w s at (sense c)) _ (anything (constant_in w s at (sense c)))
        (λ n k.
        some_given K (switch_around w s sense at) Operand at _
        (λ switch around.
        then_gives (λ b. ⊤) K (body_of w s sense at (statements_among w s sense children)) _ (anything (body_of w s sense at (statements_among w s sense children)))
        (λ body h. case_by word switch around body n (switched w s sense switch (expression_in w s sense (children_at s switch))) refl))))

    default_tells : word_at s (first_or children) ≡ Some word_default → Gives K (default_row w s sense at children)
    default_tells word =
        some_given K (switch_around w s sense at) Operand at _
        (λ switch around.
        if_given K (not (any_where (is_default_again w s sense switch) (numbers_from 0 at))) Operand at (body_of w s sense at (statements_among w s sense children) >>= (λ b. Fits (statement Default (place_at s at) (one b))))
        (λ new.
        then_gives (λ b. ⊤) K (body_of w s sense at (statements_among w s sense children)) (λ b. Fits (statement Default (place_at s at) (one b))) (anything (body_of w s sense at (statements_among w s sense children)))
        (λ b h. (word, λ other same. subst (λ (x : ℕ). any_where (is_default_again w s sense x) (numbers_from 0 at) ≡ false) (same_some switch other (sym around ∙ same)) (off (any_where (is_default_again w s sense switch) (numbers_from 0 at)) new)))))

    if_tells : Gives K (if_row w s sense at children)
    if_tells =
        then_gives (λ c. ⊤) K (condition_of w s sense at (expression_in w s sense children)) _ (anything (condition_of w s sense at (expression_in w s sense children)))
        (λ c h.
        then_gives (λ c. ⊤) K (body_of w s sense at (statements_among w s sense children)) _ (anything (body_of w s sense at (statements_among w s sense children)))
        (λ b k. then_gives (λ o. ⊤) K (other_body w s sense at (statements_among w s sense children)) _ (anything (other_body w s sense at (statements_among w s sense children))) (λ other l. tt)))

    switch_tells : word_at s (first_or children) ≡ Some word_switch → Gives K (switch_row w s sense at children)
    switch_tells word =
        then_gives (λ c. ⊤ × IsFit (switched w s sense at (expression_in w s sense children))) K (switched w s sense at (expression_in w s sense children)) _
        (fit_of (switched w s sense at (expression_in w s sense children)) (λ c. ⊤) (anything (switched w s sense at (expression_in w s sense children))))
        (λ c h.
        then_gives (λ b. ⊤) K (body_of w s sense at (statements_among w s sense children)) (λ b. Fits (statement Switch (place_at s at) (two c b))) (anything (body_of w s sense at (statements_among w s sense children))) (λ b k. (word, h.1)))

    while_tells : Gives K (while_row w s sense at children)
    while_tells =
        then_gives (λ c. ⊤) K (condition_of w s sense at (expression_in w s sense children)) _ (anything (condition_of w s sense at (expression_in w s sense children)))
        (λ c h. then_gives (λ c. ⊤) K (body_of w s sense at (statements_among w s sense children)) _ (anything (body_of w s sense at (statements_among w s sense children))) (λ b k. tt))

    do_tells : Gives K (do_row w s sense at children)
    do_tells =
        then_gives (λ c. ⊤) K (condition_of w s sense at (expression_in w s sense children)) _ (anything (condition_of w s sense at (expression_in w s sense children)))
        (λ c h. then_gives (λ c. ⊤) K (body_of w s sense at (statements_among w s sense children)) _ (anything (body_of w s sense at (statements_among w s sense children))) (λ b k. tt))

    for_of_tells : (p : ForParts) (rest : List ℕ) → Gives K (for_of w s sense at p rest)
    for_of_tells p rest =
        then_gives (λ c. ⊤) K (for_first w s sense at p.first) _ (anything (for_first w s sense at p.first))
        (λ first a.
        then_gives (λ c. ⊤) K (for_condition w s sense at p.condition) _ (anything (for_condition w s sense at p.condition))
        (λ condition b.
        then_gives (λ c. ⊤) K (for_after w s sense at p.after) _ (anything (for_after w s sense at p.after))
        (λ after c. then_gives (λ c. ⊤) K (body_of w s sense at (statements_among w s sense rest)) _ (anything (body_of w s sense at (statements_among w s sense rest))) (λ body k. tt))))

    for_tells : (list : List ℕ) → Gives K (for_row w s sense at list)
    for_tells [] = tt
    for_tells (word ∷ []) = tt
    for_tells (word ∷ parenthesis ∷ rest) = for_of_tells (for_parts w s sense rest) rest

    goto_tells : Gives K (goto_row w s sense at children)
    goto_tells = some_given K (first_where (is_name s) children) Operand at _ (λ name e. tt)

    return_tells : (o : Option ℕ) → Gives K (return_row w s sense at o)
    return_tells None = tt
    return_tells (Some c) =
        some_given K (returned_type w s sense at) Operand at _
        (λ t e.
        then_gives (λ v. ⊤) K (value_in w at (sense c)) _ (anything (value_in w at (sense c))) (λ v k. then_gives (λ x. ⊤) K (conversion w false at v t) (λ x. Fits (statement Return (place_at s at) (one x))) (anything (conversion w false at v t)) (λ x i. tt)))

    named : (word x : ℕ) → word_at s (first_or children) ≡ Some word → (word == x) ≡ true → word_at s (first_or children) ≡ Some x
    named word x is e = is ∙ ap (λ (y : ℕ). Some y) (eqb-true word x e)

    word_tells : (o : Option ℕ) → word_at s (first_or children) ≡ o → Gives K (of_word w s sense at children o)
    word_tells None e = tt
    word_tells (Some word) is =
        if_holds (Gives K) (word == word_case) _ _ (λ e. case_tells (named word word_case is e))
        (λ e. if_holds (Gives K) (word == word_default) _ _ (λ e. default_tells (named word word_default is e))
        (λ e. if_holds (Gives K) (word == word_if) _ _ (λ e. if_tells)
        (λ e. if_holds (Gives K) (word == word_switch) _ _ (λ e. switch_tells (named word word_switch is e))
        (λ e. if_holds (Gives K) (word == word_while) _ _ (λ e. while_tells)
        (λ e. if_holds (Gives K) (word == word_do) _ _ (λ e. do_tells)
        (λ e. if_holds (Gives K) (word == word_for) _ _ (λ e. for_tells children)
        (λ e. if_holds (Gives K) (word == word_goto) _ _ (λ e. goto_tells)
        (λ e. if_holds (Gives K) (word == word_continue) _ _ (λ e. if_given K (is_some (nearest_above s (is_loop w s sense) at)) Operand at (Fits (statement Continue (place_at s at) NoCores)) (λ t. tt))
        (λ e. if_holds (Gives K) (word == word_break) _ _ (λ e. if_given K (is_some (nearest_above s (λ i. is_loop w s sense i || is_statement_of w s sense word_switch i) at)) Operand at (Fits (statement Break (place_at s at) NoCores)) (λ t. tt))
        (λ e. if_holds (Gives K) (word == word_return) _ (Refuses Operand at) (λ e. return_tells (expression_in w s sense children)) (λ e. tt)))))))))))

    pub leaf_tells : (first : ℕ) → first_or children ≡ first → Gives K (leaf_statement w s sense at first children)
    leaf_tells first same =
        if_holds (Gives K) (has_sign s sign_semicolon first) _ _ (λ t. tt) (λ f. if_holds (Gives K) (is_name s first) _ _ (λ t. label_tells first) (λ f. word_tells (word_at s first) (ap (λ (x : ℕ). word_at s x) same)))

-- an expression is none of these
abbrev pub is_telling : NodeKind → Bool
is_telling (Case n) = true
is_telling Default = true
is_telling Switch = true
is_telling kind = false

pub expression_quiet : (w : World) (s : Source) (sense : ℕ → Sense) (at c : ℕ) → Gives (λ x. is_telling (kind_of x) ≡ false) (expression_statement w s sense at c)
expression_quiet w s sense at c = then_gives (λ v. ⊤) (λ x. is_telling (kind_of x) ≡ false) (value_in w at (sense c)) (λ v. Fits (statement Expression (own_place s c) (one v))) (anything (value_in w at (sense c))) (λ v h. refl)

-- ---- the value of a switch fits in each world

given_fits : (b : Bool) (kind : Kind) (node : ℕ) (x : Core) → IsFit (given_if b kind node (Fits x)) → b ≡ true
given_fits true kind node x h = refl
given_fits false kind node x h = absurd h

fits_given : (b : Bool) (kind : Kind) (node : ℕ) (x : Core) → b ≡ true → IsFit (given_if b kind node (Fits x))
fits_given true kind node x e = tt
fits_given false kind node x e = cc

whole_fetched : (w : World) (o : OperandSort) → is_whole o ≡ true → is_fetched w o ≡ true
whole_fetched w Whole e = refl
whole_fetched w (Address to) e = cc
whole_fetched w (Aggregate tag) e = cc
whole_fetched w Other e = cc

abbrev promoted_in : World → ℕ → Given Core → Given Core
promoted_in w n g = g >>= (λ v. given_if (is_whole (operand_of (ctype_of v))) Operand n (Fits (promotion w v)))

sort_fits : (w v : World) (n : ℕ) (c : Core) (sort : Sort) → IsFit (promoted_in w n (value_of_sort w n c sort)) → IsFit (promoted_in v n (value_of_sort v n c sort))
sort_fits w v n c NoNode h = h
sort_fits w v n c StatementNode h = h
sort_fits w v n c ValueNode h = fits_given (is_whole (operand_of (ctype_of c))) Operand n (promotion v c) (given_fits (is_whole (operand_of (ctype_of c))) Operand n (promotion w c) h)
sort_fits w v n c PlaceNode h = by (decayed (ctype_of c)) h
  where
    by : (o : Option Ctype) → IsFit (promoted_in w n (fetched_or_decayed w n c o)) → IsFit (promoted_in v n (fetched_or_decayed v n c o))
    by (Some pointer) h = fits_given (is_whole (operand_of pointer)) Operand n (promotion v (over Decay (place_of c) pointer c)) (given_fits (is_whole (operand_of pointer)) Operand n (promotion w (over Decay (place_of c) pointer c)) h)
    by None h = fetched (is_fetched w (operand_of (ctype_of c)) || is_list (ctype_of c)) h
      where
        after : is_whole (operand_of (ctype_of c)) ≡ true → (b : Bool) → b ≡ true → IsFit (promoted_in v n (given_if b Operand n (Fits (over Fetch (place_of c) (ctype_of c) c))))
        after whole true e = fits_given (is_whole (operand_of (ctype_of c))) Operand n (promotion v (over Fetch (place_of c) (ctype_of c) c)) whole
        after whole false e = cc

        fetched : (b : Bool) → IsFit (promoted_in w n (given_if b Operand n (Fits (over Fetch (place_of c) (ctype_of c) c)))) → IsFit (promoted_in v n (given_if (is_fetched v (operand_of (ctype_of c)) || is_list (ctype_of c)) Operand n (Fits (over Fetch (place_of c) (ctype_of c) c))))
        fetched false h = absurd h
        fetched true h =
            let whole = given_fits (is_whole (operand_of (ctype_of c))) Operand n (promotion w (over Fetch (place_of c) (ctype_of c) c)) h in
            after whole (is_fetched v (operand_of (ctype_of c)) || is_list (ctype_of c)) (ap (λ (b : Bool). b || is_list (ctype_of c)) (whole_fetched v (operand_of (ctype_of c)) whole))

sense_fits : (w v : World) (n : ℕ) (x : Sense) → IsFit (promoted_in w n (value_in w n x)) → IsFit (promoted_in v n (value_in v n x))
sense_fits w v n (IsCore c) h = sort_fits w v n c (core_sort c) h
sense_fits w v n x h = absurd h

-- where it fits it fits again, where its expression has the same sense
pub switched_again : (w v : World) (s : Source) (f g : ℕ → Sense) (n : ℕ) (o : Option ℕ) → ((c : ℕ) → o ≡ Some c → f c ≡ g c) → IsFit (switched w s f n o) → IsFit (switched v s g n o)
switched_again w v s f g n None same h = absurd h
switched_again w v s f g n (Some c) same h =
    subst (λ (x : Sense). IsFit (promoted_in v n (value_in v n x))) (same c refl) (sense_fits w v n (f c) h)
