-- What the row of a statement says of its parts: how many are statements, and how a label and a goto are named.
use Rattle.std.proofs.Common.{arith, ◌≡◌, ◌≤◌, ℕ, Bool, true, false, ◌||◌, ◌==◌, not, cond, List, [], ◌∷◌, Option, Some, None, refl, sym, ap, ◌∙◌, subst}
use Rattle.std.specs.Prelude.{⊤, ℤ, is_some, if◌then◌else◌}
use Rattle.std.proofs.lemmas.Bool.{eqb-true}
use Rattle.pta_base.specs.declared.kind.Kind.TheVariants.{Operand}
use Rattle.core_tree.specs.declared.node.NodeKind.{NodeKind}
use Rattle.core_tree.specs.declared.node.NodeKind.TheVariants.{Expression, Switch, Case, Default, Label, Goto, Break, Continue, Return, Skip}
use Rattle.c_grammar.specs.Productions.{p_expression, p_conditional}
use Rattle.c_grammar.specs.Words.{word_case, word_default, word_if, word_switch, word_while, word_do, word_for, word_goto, word_continue, word_break, word_return, sign_semicolon}
use Rattle.c_consts.specs.Core.{Core, NoCores, kind_of, ctype_of}
use Rattle.c_consts.specs.Wrapped.{converted}
use Rattle.c_senses.specs.Tree.{Source, is_a, is_leaf, is_name, has_sign, word_at, place_at, spelling_at, children_at, first_where, any_where, child_of, nearest_above, numbers_from}
use Rattle.c_senses.specs.Given.{Given, Fits, Refuses, ◌>>=◌, given_if}
use Rattle.c_senses.specs.World.{World}
use Rattle.c_senses.specs.Conversions.{conversion}
use Rattle.c_senses.specs.Constants.{constant_in}
use Rattle.c_senses.specs.Places.{own_place}
use Rattle.c_senses.specs.Sense.{Sense, value_in}
use Rattle.c_senses.specs.Statements.{statement, one, two, condition_of, statements_among, body_of, other_body, expression_in, labelled, switch_around, switched, is_case_again, is_default_again, case_row, default_row, if_row, switch_row, while_row, do_row, expression_statement, ForParts, for_parts, for_first, for_condition, for_after, for_of, for_row, is_loop, is_statement_of, goto_row, returned_type, return_row, of_word, leaf_statement}
use Rattle.parsed_tree_laws.specs.sense_laws.Sound.{Gives}
use Rattle.parsed_tree_laws.proofs.sense_laws.Giving.{then_gives, if_given, some_given, if_holds}
use Rattle.parsed_tree_laws.specs.statement_shapes.Shaped.{allowed}
use Rattle.parsed_tree_laws.specs.statement_shapes.Shaped as shaped
use Rattle.declaration_laws.proofs.passed.core_node_laws.standing_laws.Kept.{opens}
use Rattle.declaration_laws.proofs.passed.core_node_laws.marked_trees.Marks.{first_or, reach}

anything : {A : Type 0} (g : Given A) → Gives (λ n. ⊤) g
anything (Fits n) = tt
anything (Refuses kind node) = tt

-- how many statements a statement of a kind may have as parts
abbrev pub limit : NodeKind → ℕ
limit kind = cond (opens kind) (reach kind) 0

-- how a label and a goto are named
abbrev pub SaysOf : Source → List ℕ → NodeKind → Type 0
SaysOf s children (Label name) = (is_name s (first_or children) ≡ true) × (name ≡ spelling_at s (first_or children))
SaysOf s children (Goto name) = (is_name s (first_or children) ≡ false) × ((c : ℕ) × (first_where (is_name s) children ≡ Some c) × (name ≡ spelling_at s c))
SaysOf s children kind = ⊤

module _ (w : World) (s : Source) (sense : ℕ → Sense) (at : ℕ) (children : List ℕ) where
  abbrev first : ℕ
  first = first_or children

  abbrev pub Says : Core → Type 0
  Says c = (allowed s first ≤ limit (kind_of c)) × SaysOf s children (kind_of c)

  abbrev few : ℕ → Type 0
  few n = allowed s first ≤ n

  label_says : few 1 → is_name s first ≡ true → Gives Says (labelled w s sense at first children)
  label_says le named = then_gives (λ c. ⊤) Says (body_of w s sense at (statements_among w s sense children)) (λ c. Fits (statement (Label (spelling_at s first)) (place_at s at) (one c))) (anything (body_of w s sense at (statements_among w s sense children))) (λ c h. (le, (named, refl)))

  case_by : few 1 → (switch : ℕ) (body : Core) (n : ℤ) → (g : Given Core)
      → Gives Says
      (elim g as (λ _. Given Core) [
        | Refuses kind node ↦ Fits (statement (Case n) (place_at s at) (one body))
        | Fits v ↦
            let m = converted (ctype_of v) n in
            given_if (not (any_where (is_case_again w s sense switch m) (numbers_from 0 at))) Operand at (Fits (statement (Case m) (place_at s at) (one body)))
      ])
  case_by le switch body n (Refuses kind node) = (le, tt)
  case_by le switch body n (Fits v) =
      if_given Says (not (any_where (is_case_again w s sense switch (converted (ctype_of v) n)) (numbers_from 0 at))) Operand at (Fits (statement (Case (converted (ctype_of v) n)) (place_at s at) (one body))) (λ new. (le, tt))

  case_says : few 1 → Gives Says (case_row w s sense at children)
  case_says le =
      some_given Says (child_of s p_conditional at) Operand at _
      (λ c e.
      then_gives (λ n. ⊤) Says (constant_in w s at (sense c)) _ (anything (constant_in w s at (sense c)))
      (λ n k.
      some_given Says (switch_around w s sense at) Operand at _
      (λ switch around.
      then_gives (λ b. ⊤) Says (body_of w s sense at (statements_among w s sense children)) _ (anything (body_of w s sense at (statements_among w s sense children)))
      (λ body h. case_by le switch body n (switched w s sense switch (expression_in w s sense (children_at s switch)))))))

  default_says : few 1 → Gives Says (default_row w s sense at children)
  default_says le =
      some_given Says (switch_around w s sense at) Operand at _
      (λ switch around.
      if_given Says (not (any_where (is_default_again w s sense switch) (numbers_from 0 at))) Operand at (body_of w s sense at (statements_among w s sense children) >>= (λ b. Fits (statement Default (place_at s at) (one b))))
      (λ new.
      then_gives (λ b. ⊤) Says (body_of w s sense at (statements_among w s sense children)) (λ b. Fits (statement Default (place_at s at) (one b))) (anything (body_of w s sense at (statements_among w s sense children))) (λ b h. (le, tt))))

  if_says : few 2 → Gives Says (if_row w s sense at children)
  if_says le =
      then_gives (λ c. ⊤) Says (condition_of w s sense at (expression_in w s sense children)) _ (anything (condition_of w s sense at (expression_in w s sense children)))
      (λ c h.
      then_gives (λ c. ⊤) Says (body_of w s sense at (statements_among w s sense children)) _ (anything (body_of w s sense at (statements_among w s sense children)))
      (λ b k. then_gives (λ o. ⊤) Says (other_body w s sense at (statements_among w s sense children)) _ (anything (other_body w s sense at (statements_among w s sense children))) (λ other l. (le, tt))))

  switch_says : few 1 → Gives Says (switch_row w s sense at children)
  switch_says le =
      then_gives (λ c. ⊤) Says (switched w s sense at (expression_in w s sense children)) _ (anything (switched w s sense at (expression_in w s sense children)))
      (λ c h.
      then_gives (λ b. ⊤) Says (body_of w s sense at (statements_among w s sense children)) (λ b. Fits (statement Switch (place_at s at) (two c b))) (anything (body_of w s sense at (statements_among w s sense children))) (λ b k. (le, tt)))

  while_says : few 1 → Gives Says (while_row w s sense at children)
  while_says le =
      then_gives (λ c. ⊤) Says (condition_of w s sense at (expression_in w s sense children)) _ (anything (condition_of w s sense at (expression_in w s sense children)))
      (λ c h. then_gives (λ c. ⊤) Says (body_of w s sense at (statements_among w s sense children)) _ (anything (body_of w s sense at (statements_among w s sense children))) (λ b k. (le, tt)))

  do_says : few 1 → Gives Says (do_row w s sense at children)
  do_says le =
      then_gives (λ c. ⊤) Says (condition_of w s sense at (expression_in w s sense children)) _ (anything (condition_of w s sense at (expression_in w s sense children)))
      (λ c h. then_gives (λ c. ⊤) Says (body_of w s sense at (statements_among w s sense children)) _ (anything (body_of w s sense at (statements_among w s sense children))) (λ b k. (le, tt)))

  for_of_says : few 1 → (p : ForParts) (rest : List ℕ) → Gives Says (for_of w s sense at p rest)
  for_of_says le p rest =
      then_gives (λ c. ⊤) Says (for_first w s sense at p.first) _ (anything (for_first w s sense at p.first))
      (λ first a.
      then_gives (λ c. ⊤) Says (for_condition w s sense at p.condition) _ (anything (for_condition w s sense at p.condition))
      (λ condition b.
      then_gives (λ c. ⊤) Says (for_after w s sense at p.after) _ (anything (for_after w s sense at p.after))
      (λ after c. then_gives (λ c. ⊤) Says (body_of w s sense at (statements_among w s sense rest)) _ (anything (body_of w s sense at (statements_among w s sense rest))) (λ body k. (le, tt)))))

  for_says : few 1 → (list : List ℕ) → Gives Says (for_row w s sense at list)
  for_says le [] = tt
  for_says le (word ∷ []) = tt
  for_says le (word ∷ parenthesis ∷ rest) = for_of_says le (for_parts w s sense rest) rest

  goto_says : few 0 → is_name s first ≡ false → Gives Says (goto_row w s sense at children)
  goto_says le other = some_given Says (first_where (is_name s) children) Operand at _ (λ name e. (le, (other, (name, e, refl))))

  return_says : few 0 → (o : Option ℕ) → Gives Says (return_row w s sense at o)
  return_says le None = (le, tt)
  return_says le (Some c) =
      some_given Says (returned_type w s sense at) Operand at _
      (λ t e.
      then_gives (λ v. ⊤) Says (value_in w at (sense c)) _ (anything (value_in w at (sense c)))
      (λ v k. then_gives (λ x. ⊤) Says (conversion w false at v t) (λ x. Fits (statement Return (place_at s at) (one x))) (anything (conversion w false at v t)) (λ x i. (le, tt))))

  -- a word allows so many
  by_name : (word x : ℕ) → few (shaped.of_word (Some word)) → (word == x) ≡ true → few (shaped.of_word (Some x))
  by_name word x le e = subst (λ (y : ℕ). few (shaped.of_word (Some y))) (eqb-true word x e) le

  word_says : (o : Option ℕ) → is_name s first ≡ false → few (shaped.of_word o) → Gives Says (of_word w s sense at children o)
  word_says None other le = tt
  word_says (Some word) other le =
      if_holds (Gives Says) (word == word_case) _ _ (λ e. case_says (by_name word word_case le e))
      (λ e. if_holds (Gives Says) (word == word_default) _ _ (λ e. default_says (by_name word word_default le e))
      (λ e. if_holds (Gives Says) (word == word_if) _ _ (λ e. if_says (by_name word word_if le e))
      (λ e. if_holds (Gives Says) (word == word_switch) _ _ (λ e. switch_says (by_name word word_switch le e))
      (λ e. if_holds (Gives Says) (word == word_while) _ _ (λ e. while_says (by_name word word_while le e))
      (λ e. if_holds (Gives Says) (word == word_do) _ _ (λ e. do_says (by_name word word_do le e))
      (λ e. if_holds (Gives Says) (word == word_for) _ _ (λ e. for_says (by_name word word_for le e) children)
      (λ e. if_holds (Gives Says) (word == word_goto) _ _ (λ e. goto_says (by_name word word_goto le e) other)
      (λ e. if_holds (Gives Says) (word == word_continue) _ _ (λ e. let le2 : few 0 = by_name word word_continue le e in if_given Says (is_some (nearest_above s (is_loop w s sense) at)) Operand at (Fits (statement Continue (place_at s at) NoCores)) (λ t. (le2, tt)))
      (λ e. if_holds (Gives Says) (word == word_break) _ _ (λ e. let le2 : few 0 = by_name word word_break le e in if_given Says (is_some (nearest_above s (λ i. is_loop w s sense i || is_statement_of w s sense word_switch i) at)) Operand at (Fits (statement Break (place_at s at) NoCores)) (λ t. (le2, tt)))
      (λ e. if_holds (Gives Says) (word == word_return) _ (Refuses Operand at) (λ e. return_says (by_name word word_return le e) (expression_in w s sense children)) (λ e. tt)))))))))))

  -- 6.8: a statement that a leaf begins
  pub leaf_says : is_leaf s first ≡ true → Gives Says (leaf_statement w s sense at first children)
  leaf_says lf = by (has_sign s sign_semicolon first) (is_name s first) refl refl
    where
      value : (a b : Bool) → has_sign s sign_semicolon first ≡ a → is_name s first ≡ b → allowed s first ≡ (if a then 0 else if b then 1 else shaped.of_word (word_at s first))
      value a b ea eb =
          ap (λ (l : Bool). if l then (if has_sign s sign_semicolon first then 0 else if is_name s first then 1 else shaped.of_word (word_at s first)) else if is_a s p_expression first then 0 else 1) lf
          ∙ (ap (λ (x : Bool). if x then 0 else if is_name s first then 1 else shaped.of_word (word_at s first)) ea ∙ ap (λ (x : Bool). if a then 0 else if x then 1 else shaped.of_word (word_at s first)) eb)

      by : (a b : Bool) → has_sign s sign_semicolon first ≡ a → is_name s first ≡ b
          → Gives Says (if a then Fits (statement Skip (place_at s at) NoCores) else if b then labelled w s sense at first children else of_word w s sense at children (word_at s first))
      by true b ea eb = (let e = value true b ea eb in omega (arith, e), tt)
      by false true ea eb = label_says (let e = value false true ea eb in omega (arith, e)) eb
      by false false ea eb = word_says (word_at s first) eb (let e = value false false ea eb in omega (arith, e))

  when_true : {A : Type 0} (b : Bool) (x y : A) → b ≡ true → cond b x y ≡ x
  when_true true x y e = refl
  when_true false x y e = cc

  when_false : {A : Type 0} (b : Bool) (x y : A) → b ≡ false → cond b x y ≡ y
  when_false true x y e = cc
  when_false false x y e = refl

  -- what a name begins is a label
  pub label_core : (c : Core) → has_sign s sign_semicolon first ≡ false → is_name s first ≡ true → leaf_statement w s sense at first children ≡ Fits c → kind_of c ≡ Label (spelling_at s first)
  label_core c sign named e =
      by (body_of w s sense at (statements_among w s sense children))
      (sym (when_true (is_name s first) (labelled w s sense at first children) (of_word w s sense at children (word_at s first)) named)
      ∙ (sym (when_false (has_sign s sign_semicolon first) (Fits (statement Skip (place_at s at) NoCores)) (if is_name s first then labelled w s sense at first children else of_word w s sense at children (word_at s first)) sign) ∙ e))
    where
      same_fits : (x y : Core) → ◌≡◌ {A = Given Core} (Fits x) (Fits y) → x ≡ y
      same_fits x y e = cc

      by : (g : Given Core) → (g >>= (λ b. Fits (statement (Label (spelling_at s first)) (place_at s at) (one b)))) ≡ Fits c → kind_of c ≡ Label (spelling_at s first)
      by (Refuses kind node) e = cc
      by (Fits b) e = sym (ap kind_of (same_fits (statement (Label (spelling_at s first)) (place_at s at) (one b)) c e))

-- an expression is neither
abbrev pub is_jump : NodeKind → Bool
is_jump (Label name) = true
is_jump (Goto name) = true
is_jump kind = false

pub expression_quiet : (w : World) (s : Source) (sense : ℕ → Sense) (at c : ℕ) → Gives (λ x. is_jump (kind_of x) ≡ false) (expression_statement w s sense at c)
expression_quiet w s sense at c = then_gives (λ v. ⊤) (λ x. is_jump (kind_of x) ≡ false) (value_in w at (sense c)) (λ v. Fits (statement Expression (own_place s c) (one v))) (anything (value_in w at (sense c))) (λ v h. refl)
