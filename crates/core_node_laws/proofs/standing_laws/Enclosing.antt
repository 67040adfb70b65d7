-- Which statements a word begins.
use Rattle.std.proofs.Common.{◌≡◌, ℕ, Bool, true, false, ◌&&◌, ◌||◌, not, cond, List, [], ◌∷◌, Option, Some, refl, sym, ap, ◌∙◌, subst}
use Rattle.std.specs.Prelude.{⊤, is_some}
use Rattle.std.proofs.lemmas.Bool.{eqb-true}
use Rattle.c_lexer.specs.declared.TokenKind.{TokenKind}
use Rattle.c_lexer.specs.declared.TokenKind.TheVariants.{Identifier, Keyword, Punctuator, Integer, Floating, Character, Text, End}
use Rattle.core_tree.specs.declared.node.NodeKind.{NodeKind}
use Rattle.core_tree.specs.declared.node.NodeKind.TheVariants.{While, DoWhile, For, Switch}
use Rattle.c_grammar.specs.Words.{word_switch, word_while, word_do, word_for, sign_semicolon}
use Rattle.c_grammar.specs.Productions.{p_statement}
use Rattle.c_consts.specs.Core.{Core, Cores, Of, kind_of}
use Rattle.core_nodes.specs.passed.c_senses.Tree.{Source, is_a, is_leaf, is_name, has_sign, has_word, is_number, is_identifier, kind_at, word_at, word_of_kind, sign_of_kind, children_at}
use Rattle.core_nodes.specs.passed.c_senses.Given.{Given, Fits, Refuses, ◌>>=◌}
use Rattle.core_nodes.specs.passed.c_senses.World.{World}
use Rattle.core_nodes.specs.passed.c_senses.Sense.{Sense, IsCore, fits}
use Rattle.core_nodes.specs.passed.c_senses.Statements.{ForParts, condition_of, switched, body_of, statements_among, expression_in, switch_row, while_row, do_row, for_first, for_condition, for_after, for_of, for_parts, for_row, is_statement_of, is_loop, of_word, leaf_statement, statement_row}
use Rattle.parsed_tree_laws.specs.passed.sense_laws.Sound.{Gives}
use Rattle.parsed_tree_laws.proofs.passed.sense_laws.Giving.{then_gives, and_left, and_right}
use Rattle.core_node_laws.proofs.standing_laws.Kept.{opens, is_plain, Kept}

anything : {A : Type 0} (g : Given A) → Gives (λ n. ⊤) g
anything (Fits n) = tt
anything (Refuses kind node) = tt

when_true : {A : Type 0} (b : Bool) (x y : A) → b ≡ true → cond b x y ≡ x
when_true true x y e = refl
when_true false x y e = cc

when_false : {A : Type 0} (b : Bool) (x y : A) → b ≡ false → cond b x y ≡ y
when_false true x y e = cc
when_false false x y e = refl

off : (b : Bool) → (b && false) ≡ false
off true = refl
off false = refl

keyword_is : (k : TokenKind) (word : ℕ) → is_number (word_of_kind k) word ≡ true → k ≡ Keyword word
keyword_is (Keyword x) word h = ap Keyword (eqb-true x word h)
keyword_is Identifier word h = cc
keyword_is (Punctuator p) word h = cc
keyword_is Integer word h = cc
keyword_is Floating word h = cc
keyword_is Character word h = cc
keyword_is Text word h = cc
keyword_is End word h = cc

module _ (w : World) (s : Source) (sense : ℕ → Sense) (at : ℕ) where
  abbrev Begins : ℕ → List ℕ → Bool
  Begins word children = elim children [ [] ↦ false | first ∷ rest ↦ has_word s word first ]

  -- a statement that a word begins has the row of that word
  word_row : (word first : ℕ) (rest : List ℕ) → has_word s word first ≡ true → statement_row w s sense at (first ∷ rest) ≡ (of_word w s sense at (first ∷ rest) (Some word) >>= fits)
  word_row word first rest h =
      let leaf = and_left (is_leaf s first) (is_number (word_at s first) word) h in
      let kind = keyword_is (kind_at s first) word (and_right (is_leaf s first) (is_number (word_at s first) word) h) in
      let sign : has_sign s sign_semicolon first ≡ false = ap (λ (k : TokenKind). is_leaf s first && is_number (sign_of_kind k) sign_semicolon) kind ∙ off (is_leaf s first) in
      let name : is_name s first ≡ false = ap (λ (k : TokenKind). is_leaf s first && is_identifier k) kind ∙ off (is_leaf s first) in
      let word_is : word_at s first ≡ Some word = ap word_of_kind kind in
      let own : leaf_statement w s sense at first (first ∷ rest) ≡ of_word w s sense at (first ∷ rest) (Some word) =
      when_false (has_sign s sign_semicolon first) _ _ sign ∙ (when_false (is_name s first) _ _ name ∙ ap (λ (o : Option ℕ). of_word w s sense at (first ∷ rest) o) word_is) in
      when_true (is_leaf s first) _ _ leaf ∙ ap (λ (g : Given Core). g >>= fits) own

  module _ (stops : NodeKind → Bool) where
    -- of a kind that stops, and of which nothing is asked
    abbrev pub Encloses : Core → Type 0
    Encloses c = (is_plain (kind_of c) ≡ true) × (stops (kind_of c) ≡ true)

    abbrev pub EnclosesSense : Sense → Type 0
    EnclosesSense (IsCore c) = Encloses c
    EnclosesSense x = ⊥

    while_encloses : stops While ≡ true → (children : List ℕ) → Gives Encloses (while_row w s sense at children)
    while_encloses st children =
        then_gives (λ c. ⊤) Encloses (condition_of w s sense at (expression_in w s sense children)) _ (anything (condition_of w s sense at (expression_in w s sense children)))
        (λ c h. then_gives (λ b. ⊤) Encloses (body_of w s sense at (statements_among w s sense children)) _ (anything (body_of w s sense at (statements_among w s sense children))) (λ b k. (refl, st)))

    do_encloses : stops DoWhile ≡ true → (children : List ℕ) → Gives Encloses (do_row w s sense at children)
    do_encloses st children =
        then_gives (λ c. ⊤) Encloses (condition_of w s sense at (expression_in w s sense children)) _ (anything (condition_of w s sense at (expression_in w s sense children)))
        (λ c h. then_gives (λ b. ⊤) Encloses (body_of w s sense at (statements_among w s sense children)) _ (anything (body_of w s sense at (statements_among w s sense children))) (λ b k. (refl, st)))

    switch_encloses : stops Switch ≡ true → (children : List ℕ) → Gives Encloses (switch_row w s sense at children)
    switch_encloses st children =
        then_gives (λ c. ⊤) Encloses (switched w s sense at (expression_in w s sense children)) _ (anything (switched w s sense at (expression_in w s sense children)))
        (λ c h. then_gives (λ b. ⊤) Encloses (body_of w s sense at (statements_among w s sense children)) _ (anything (body_of w s sense at (statements_among w s sense children))) (λ b k. (refl, st)))

    for_of_encloses : ((es : List ℕ) (a b : Bool) → stops (For es a b) ≡ true) → (p : ForParts) (rest : List ℕ) → Gives Encloses (for_of w s sense at p rest)
    for_of_encloses st p rest =
        then_gives (λ c. ⊤) Encloses (for_first w s sense at p.first) _ (anything (for_first w s sense at p.first))
        (λ first h.
        then_gives (λ c. ⊤) Encloses (for_condition w s sense at p.condition) _ (anything (for_condition w s sense at p.condition))
        (λ condition k.
        then_gives (λ c. ⊤) Encloses (for_after w s sense at p.after) _ (anything (for_after w s sense at p.after))
        (λ after l.
        then_gives (λ b. ⊤) Encloses (body_of w s sense at (statements_among w s sense rest)) _ (anything (body_of w s sense at (statements_among w s sense rest))) (λ b m. (refl, st _ (is_some condition) (is_some after))))))

    for_encloses : ((es : List ℕ) (a b : Bool) → stops (For es a b) ≡ true) → (children : List ℕ) → Gives Encloses (for_row w s sense at children)
    for_encloses st [] = tt
    for_encloses st (word ∷ []) = tt
    for_encloses st (word ∷ parenthesis ∷ rest) = for_of_encloses st (for_parts w s sense rest) rest

    begun : (word : ℕ) → ((children : List ℕ) → Gives Encloses (of_word w s sense at children (Some word))) → (children : List ℕ) → Begins word children ≡ true → Gives EnclosesSense (statement_row w s sense at children)
    begun word own [] h = cc
    begun word own (first ∷ rest) h =
        subst (λ (g : Given Sense). Gives EnclosesSense g) (sym (word_row word first rest h))
        (then_gives Encloses EnclosesSense (of_word w s sense at (first ∷ rest) (Some word)) fits (own (first ∷ rest)) (λ c k. k))

    pub whiles_stop : stops While ≡ true → is_statement_of w s sense word_while at ≡ true → Gives EnclosesSense (statement_row w s sense at (children_at s at))
    whiles_stop st h = begun word_while (λ children. while_encloses st children) (children_at s at) (and_right (is_a s p_statement at) (Begins word_while (children_at s at)) h)

    pub dos_stop : stops DoWhile ≡ true → is_statement_of w s sense word_do at ≡ true → Gives EnclosesSense (statement_row w s sense at (children_at s at))
    dos_stop st h = begun word_do (λ children. do_encloses st children) (children_at s at) (and_right (is_a s p_statement at) (Begins word_do (children_at s at)) h)

    pub fors_stop : ((es : List ℕ) (a b : Bool) → stops (For es a b) ≡ true) → is_statement_of w s sense word_for at ≡ true → Gives EnclosesSense (statement_row w s sense at (children_at s at))
    fors_stop st h = begun word_for (λ children. for_encloses st children) (children_at s at) (and_right (is_a s p_statement at) (Begins word_for (children_at s at)) h)

    pub switches_stop : stops Switch ≡ true → is_statement_of w s sense word_switch at ≡ true → Gives EnclosesSense (statement_row w s sense at (children_at s at))
    switches_stop st h = begun word_switch (λ children. switch_encloses st children) (children_at s at) (and_right (is_a s p_statement at) (Begins word_switch (children_at s at)) h)

    pub loops_stop : stops While ≡ true → stops DoWhile ≡ true → ((es : List ℕ) (a b : Bool) → stops (For es a b) ≡ true) → is_loop w s sense at ≡ true → Gives EnclosesSense (statement_row w s sense at (children_at s at))
    loops_stop a b c h = by (is_statement_of w s sense word_while at) (is_statement_of w s sense word_do at) (is_statement_of w s sense word_for at) refl refl refl h
      where
        by : (x y z : Bool) → is_statement_of w s sense word_while at ≡ x → is_statement_of w s sense word_do at ≡ y → is_statement_of w s sense word_for at ≡ z → (x || (y || z)) ≡ true → Gives EnclosesSense (statement_row w s sense at (children_at s at))
        by true y z ex ey ez h = whiles_stop a ex
        by false true z ex ey ez h = dos_stop b ey
        by false false true ex ey ez h = fors_stop c ez
        by false false false ex ey ez h = cc

module _ (Good : NodeKind → Cores → Type 0) (stops : NodeKind → Bool) (plain : (kind : NodeKind) (under : Cores) → is_plain kind ≡ true → Good kind under) where
  shut_by : (a b : Bool) → b ≡ true → (a && not b) ≡ true → ⊥
  shut_by true true e h = cc
  shut_by false true e h = cc
  shut_by a false e h = cc

  -- what stops is kept whatever is in it
  pub encloses_kept : (c : Core) → is_plain (kind_of c) ≡ true → stops (kind_of c) ≡ true → Kept Good stops c
  encloses_kept (Of kind place type under) p st = (plain kind under p, λ enter. absurd (shut_by (opens kind) (stops kind) st enter))
