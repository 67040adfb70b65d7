-- The nodes of statements.
use Rattle.std.proofs.Common.{◌≡◌, ◌==◌, ℕ, suc, refl, Bool, true, false, List, [], ◌∷◌, Option, Some, None}
use Rattle.std.specs.Prelude.{⊤, ℤ, is_some, not, if◌then◌else◌}
use Rattle.pta_base.specs.declared.kind.Kind.TheVariants.{Operand}
use Rattle.core_tree.specs.declared.node.NodeKind.TheVariants.{Block, For, Case, Default, Label, Break, Continue}
use Rattle.pta_base.specs.declared.place.Place.{Place}
use Rattle.c_types.specs.Trees.{VoidType}
use Rattle.core_tree.specs.Rows.{Has}
use Rattle.c_grammar.specs.Productions.{p_statement, p_declaration, p_expression, p_conditional}
use Rattle.c_grammar.specs.Words.{word_case, word_default, word_if, word_switch, word_while, word_do, word_for, word_goto, word_continue, word_break, word_return, sign_semicolon}
use Rattle.c_consts.specs.Core.{Core, Cores, Of, NoCores, MoreCores, ctype_of}
use Rattle.c_consts.specs.Wrapped.{converted}
use Rattle.core_nodes.specs.passed.c_senses.Tree.{Source, is_a, is_leaf, is_name, has_sign, place_at, spelling_at, word_at, children_at, first_where, any_where, numbers_from, child_of}
use Rattle.core_nodes.specs.passed.c_senses.Given.{Given, Fits, Refuses, ◌>>=◌, given_if}
use Rattle.core_nodes.specs.passed.c_senses.World.{World}
use Rattle.core_nodes.specs.passed.c_senses.Conversions.{operand_of, is_scalar, promotion, conversion}
use Rattle.core_nodes.specs.passed.c_senses.Constants.{constant_in, is_whole}
use Rattle.core_nodes.specs.passed.c_senses.Sense.{Sense, IsCore, IsRun, core_of, value_in}
use Rattle.core_nodes.specs.passed.c_senses.Statements.{statement, one, appended, with_some, ForParts, objects_in, objects_declared, for_objects, behind_semicolon, expression_before, cores_in, block_row, condition_of, statements_among, body_of, other_body, expression_in, labelled, switch_around, switched, case_in, case_row, is_case_again, default_row, if_row, switch_row, while_row, do_row, for_parts, expression_statement, for_first, for_condition, for_after, for_of, for_row, goto_row, returned_type, return_row, of_word, leaf_statement, statement_of, statement_row}
use Rattle.core_node_laws.specs.near_nodes.Holding.{AreOf, OfSense, Holds, AllHold}
use Rattle.core_node_laws.proofs.near_nodes.Nearness.{AllNear, IfNear, chosen_near, first_near}
use Rattle.core_node_laws.proofs.near_nodes.Giving.{Gives, then_gives, after, if_given, some_given, if_says, if_holds}
use Rattle.core_node_laws.proofs.near_nodes.Values.{SomeOf, promotion_kept, conversion_kept}
use Rattle.core_node_laws.proofs.near_nodes.Expressions.{at_unit, core_kept, value_in_kept, as_sense_kept}
use Rattle.core_node_laws.proofs.near_nodes.Initialised.{own_unit}

module _ (s : Source) (near : ℕ → Type 0) (asks : Core → Type 0) where
  appended_kept : (first : List Core) (more : Cores) → AreOf asks first → AllHold asks more → AllHold asks (appended first more)
  appended_kept [] more h k = k
  appended_kept (c ∷ first) more h k = (h.0, appended_kept first more h.1 k)

  with_kept : (o : Option Core) (more : Cores) → SomeOf asks o → AllHold asks more → AllHold asks (with_some o more)
  with_kept None more h k = k
  with_kept (Some c) more h k = (h, k)

  one_in : (x : Sense) (more : Cores) → OfSense s near asks x → AllHold asks more → AllHold asks (elim x as (λ _. Cores) [ IsCore c ↦ MoreCores c more | IsRun cores ↦ appended cores more | _ ↦ more ])
  one_in (IsCore c) more h m = (h, m)
  one_in (IsRun cores) more h m = appended_kept cores more h m
  one_in x more h m = m

  run_of : (x : Sense) → OfSense s near asks x → AreOf asks (elim x as (λ _. List Core) [ IsRun cores ↦ cores | _ ↦ [] ])
  run_of (IsRun cores) h = h
  run_of x h = tt

module _ (asks : Core → Type 0) (w : World) (s : Source) (sense : ℕ → Sense) (near : ℕ → Type 0) (each : (c : ℕ) → near c → OfSense s near asks (sense c)) where
  all_in : (list : List ℕ) → AllNear near list → AllHold asks (cores_in w s sense list)
  all_in [] n = tt
  all_in (c ∷ rest) n = one_in s near asks (sense c) (cores_in w s sense rest) (each c n.0) (all_in rest n.1)

  pub block_kept : (at : ℕ) (children : List ℕ) → AllNear near children → ((place : Place) (under : Cores) → asks (Of (Block (objects_in w s sense children)) place VoidType under)) → Gives (OfSense s near asks) (block_row w s sense at children)
  block_kept at children n own = (own (place_at s at) (cores_in w s sense children), all_in children n)

  condition_kept : (at : ℕ) (o : Option ℕ) → IfNear near o → Gives (Holds asks) (condition_of w s sense at o)
  condition_kept at None n = tt
  condition_kept at (Some c) n =
      then_gives (Holds asks) (Holds asks) (value_in w at (sense c)) (λ v. given_if (is_scalar (operand_of (ctype_of v))) Operand at (Fits v)) (value_in_kept s near asks w at (sense c) (each c n))
      (λ v h. if_given (Holds asks) (is_scalar (operand_of (ctype_of v))) Operand at (Fits v) h)

  body_kept : (at : ℕ) (list : List ℕ) → AllNear near list → Gives (Holds asks) (body_of w s sense at list)
  body_kept at [] n = tt
  body_kept at (c ∷ rest) n = core_kept s near asks w at (sense c) (each c n.0)

  other_kept : (at : ℕ) (list : List ℕ) → AllNear near list → Gives (SomeOf asks) (other_body w s sense at list)
  other_kept at (c ∷ d ∷ rest) n = then_gives (Holds asks) (SomeOf asks) (core_of at (sense d)) (λ x. Fits (Some x)) (core_kept s near asks w at (sense d) (each d n.1.0)) (λ x h. h)
  other_kept at [] n = tt
  other_kept at (c ∷ []) n = tt

  labelled_kept : (at name : ℕ) (children : List ℕ) → AllNear near children → Gives (Holds asks) (labelled w s sense at name children)
  labelled_kept at name children n =
      then_gives (Holds asks) (Holds asks) (body_of w s sense at (statements_among w s sense children)) (λ c. Fits (statement (Label (spelling_at s name)) (place_at s at) (one c))) (body_kept at (statements_among w s sense children) (chosen_near near (is_a s p_statement) children n))
      (λ c h. (at_unit s at, (h, tt)))

  switched_kept : (at : ℕ) (o : Option ℕ) → IfNear near o → Gives (Holds asks) (switched w s sense at o)
  switched_kept at None n = tt
  switched_kept at (Some c) n =
      then_gives (Holds asks) (Holds asks) (value_in w at (sense c)) (λ v. given_if (is_whole (operand_of (ctype_of v))) Operand at (Fits (promotion w v))) (value_in_kept s near asks w at (sense c) (each c n))
      (λ v h. if_given (Holds asks) (is_whole (operand_of (ctype_of v))) Operand at (Fits (promotion w v)) (promotion_kept asks w v h))

  case_by : (at switch : ℕ) (body : Core) (n : ℤ) → Holds asks body → (g : Given Core) → Gives (Holds asks)
      (elim g as (λ _. Given Core) [
        | Refuses kind node ↦ Fits (statement (Case n) (place_at s at) (one body))
        | Fits v ↦
            let m = converted (ctype_of v) n in
            given_if (not (any_where (is_case_again w s sense switch m) (numbers_from 0 at))) Operand at (Fits (statement (Case m) (place_at s at) (one body)))
      ])
  case_by at switch body n h (Refuses kind node) = (at_unit s at, (h, tt))
  case_by at switch body n h (Fits v) = if_given (Holds asks) _ Operand at (Fits (statement (Case (converted (ctype_of v) n)) (place_at s at) (one body))) (at_unit s at, (h, tt))

  case_in_kept : (at switch : ℕ) (body : Core) (n : ℤ) → Holds asks body → Gives (Holds asks) (case_in w s sense at switch body n)
  case_in_kept at switch body n h = case_by at switch body n h (switched w s sense switch (expression_in w s sense (children_at s switch)))

  case_kept : (at : ℕ) (children : List ℕ) → AllNear near children → Gives (Holds asks) (case_row w s sense at children)
  case_kept at children near_all =
      some_given (Holds asks) (child_of s p_conditional at) Operand at _
      (λ c.
      after (Holds asks) (constant_in w s at (sense c)) _
      (λ n.
      some_given (Holds asks) (switch_around w s sense at) Operand at _
      (λ switch. then_gives (Holds asks) (Holds asks) (body_of w s sense at (statements_among w s sense children)) _ (body_kept at (statements_among w s sense children) (chosen_near near (is_a s p_statement) children near_all)) (λ body h. case_in_kept at switch body n h))))

  default_kept : (at : ℕ) (children : List ℕ) → AllNear near children → Gives (Holds asks) (default_row w s sense at children)
  default_kept at children n =
      some_given (Holds asks) (switch_around w s sense at) Operand at _
      (λ switch.
      if_given (Holds asks) _ Operand at (body_of w s sense at (statements_among w s sense children) >>= (λ body. Fits (statement Default (place_at s at) (one body))))
      (then_gives (Holds asks) (Holds asks) (body_of w s sense at (statements_among w s sense children)) (λ body. Fits (statement Default (place_at s at) (one body))) (body_kept at (statements_among w s sense children) (chosen_near near (is_a s p_statement) children n))
      (λ body h. (at_unit s at, (h, tt)))))

  if_kept : (at : ℕ) (children : List ℕ) → AllNear near children → Gives (Holds asks) (if_row w s sense at children)
  if_kept at children n =
      then_gives (Holds asks) (Holds asks) (condition_of w s sense at (expression_in w s sense children)) _ (condition_kept at (expression_in w s sense children) (first_near near (is_a s p_expression) children n))
      (λ c h.
      then_gives (Holds asks) (Holds asks) (body_of w s sense at (statements_among w s sense children)) _ (body_kept at (statements_among w s sense children) (chosen_near near (is_a s p_statement) children n))
      (λ body k.
      then_gives (SomeOf asks) (Holds asks) (other_body w s sense at (statements_among w s sense children)) _ (other_kept at (statements_among w s sense children) (chosen_near near (is_a s p_statement) children n))
      (λ other l. (at_unit s at, (h, (k, with_kept s near asks other NoCores l tt))))))

  switch_kept : (at : ℕ) (children : List ℕ) → AllNear near children → Gives (Holds asks) (switch_row w s sense at children)
  switch_kept at children n =
      then_gives (Holds asks) (Holds asks) (switched w s sense at (expression_in w s sense children)) _ (switched_kept at (expression_in w s sense children) (first_near near (is_a s p_expression) children n))
      (λ c h. then_gives (Holds asks) (Holds asks) (body_of w s sense at (statements_among w s sense children)) _ (body_kept at (statements_among w s sense children) (chosen_near near (is_a s p_statement) children n)) (λ body k. (at_unit s at, (h, (k, tt)))))

  while_kept : (at : ℕ) (children : List ℕ) → AllNear near children → Gives (Holds asks) (while_row w s sense at children)
  while_kept at children n =
      then_gives (Holds asks) (Holds asks) (condition_of w s sense at (expression_in w s sense children)) _ (condition_kept at (expression_in w s sense children) (first_near near (is_a s p_expression) children n))
      (λ c h. then_gives (Holds asks) (Holds asks) (body_of w s sense at (statements_among w s sense children)) _ (body_kept at (statements_among w s sense children) (chosen_near near (is_a s p_statement) children n)) (λ body k. (at_unit s at, (h, (k, tt)))))

  do_kept : (at : ℕ) (children : List ℕ) → AllNear near children → Gives (Holds asks) (do_row w s sense at children)
  do_kept at children n =
      then_gives (Holds asks) (Holds asks) (condition_of w s sense at (expression_in w s sense children)) _ (condition_kept at (expression_in w s sense children) (first_near near (is_a s p_expression) children n))
      (λ c h. then_gives (Holds asks) (Holds asks) (body_of w s sense at (statements_among w s sense children)) _ (body_kept at (statements_among w s sense children) (chosen_near near (is_a s p_statement) children n)) (λ body k. (at_unit s at, (k, (h, tt)))))

  expression_kept : (at c : ℕ) → near c → Gives (Holds asks) (expression_statement w s sense at c)
  expression_kept at c n = then_gives (Holds asks) (Holds asks) (value_in w at (sense c)) _ (value_in_kept s near asks w at (sense c) (each c n)) (λ v h. (own_unit s c, (h, tt)))

  return_kept : (at : ℕ) (o : Option ℕ) → IfNear near o → Gives (Holds asks) (return_row w s sense at o)
  return_kept at None n = (at_unit s at, tt)
  return_kept at (Some c) n =
      some_given (Holds asks) (returned_type w s sense at) Operand at _
      (λ t.
      then_gives (Holds asks) (Holds asks) (value_in w at (sense c)) _ (value_in_kept s near asks w at (sense c) (each c n))
      (λ v h. then_gives (Holds asks) (Holds asks) (conversion w false at v t) _ (conversion_kept asks w false at v t h) (λ x k. (at_unit s at, (k, tt)))))

  -- a For
  first_in : (at c : ℕ) (b : Bool) → near c → Gives (AreOf asks) (if b then Fits (elim (sense c) as (λ _. List Core) [ IsRun cores ↦ cores | _ ↦ [] ]) else (expression_statement w s sense at c >>= (λ x. Fits (x ∷ []))))
  first_in at c true n = run_of s near asks (sense c) (each c n)
  first_in at c false n = then_gives (Holds asks) (AreOf asks) (expression_statement w s sense at c) (λ x. Fits (x ∷ [])) (expression_kept at c n) (λ x h. (h, tt))

  first_kept : (at : ℕ) (o : Option ℕ) → IfNear near o → Gives (AreOf asks) (for_first w s sense at o)
  first_kept at None n = tt
  first_kept at (Some c) n = first_in at c (is_a s p_declaration c) n

  for_condition_kept : (at : ℕ) (o : Option ℕ) → IfNear near o → Gives (SomeOf asks) (for_condition w s sense at o)
  for_condition_kept at None n = tt
  for_condition_kept at (Some c) n = then_gives (Holds asks) (SomeOf asks) (condition_of w s sense at (Some c)) (λ v. Fits (Some v)) (condition_kept at (Some c) n) (λ v h. h)

  for_after_kept : (at : ℕ) (o : Option ℕ) → IfNear near o → Gives (SomeOf asks) (for_after w s sense at o)
  for_after_kept at None n = tt
  for_after_kept at (Some c) n = then_gives (Holds asks) (SomeOf asks) (value_in w at (sense c)) (λ v. Fits (Some v)) (value_in_kept s near asks w at (sense c) (each c n)) (λ v h. h)

  for_of_kept : (at : ℕ) (parts : ForParts) (children : List ℕ) → IfNear near parts.first → IfNear near parts.condition → IfNear near parts.after → AllNear near children
      → ((c a : Bool) (place : Place) (under : Cores) → asks (Of (For (for_objects w s sense parts.first) c a) place VoidType under)) → Gives (Holds asks) (for_of w s sense at parts children)
  for_of_kept at parts children nf nc na n own =
      then_gives (AreOf asks) (Holds asks) (for_first w s sense at parts.first) _ (first_kept at parts.first nf)
      (λ first h.
      then_gives (SomeOf asks) (Holds asks) (for_condition w s sense at parts.condition) _ (for_condition_kept at parts.condition nc)
      (λ condition k.
      then_gives (SomeOf asks) (Holds asks) (for_after w s sense at parts.after) _ (for_after_kept at parts.after na)
      (λ next l.
      then_gives (Holds asks) (Holds asks) (body_of w s sense at (statements_among w s sense children)) _ (body_kept at (statements_among w s sense children) (chosen_near near (is_a s p_statement) children n))
      (λ body m. (own (is_some condition) (is_some next) (place_at s at) _, appended_kept s near asks first (with_some condition (with_some next (one body))) h (with_kept s near asks condition (with_some next (one body)) k (with_kept s near asks next (one body) l (m, tt))))))))

  -- the declaration that may begin a For
  abbrev IfDeclared : List ℕ → Option ℕ → Type 0
  IfDeclared children None = ⊤
  IfDeclared children (Some c) = is_a s p_declaration c ≡ true → Has children c

  abbrev pub Lists : List ℕ → Type 0
  Lists children = (o : Option ℕ) → IfDeclared children o → (c a : Bool) (place : Place) (under : Cores) → asks (Of (For (for_objects w s sense o) c a) place VoidType under)

  declared_on : (word parenthesis : ℕ) (rest : List ℕ) (o : Option ℕ) → IfDeclared rest o → IfDeclared (word ∷ parenthesis ∷ rest) o
  declared_on word parenthesis rest None h = tt
  declared_on word parenthesis rest (Some c) h = λ e. let k = h e in (suc (suc k.0), k.1)

  first_declared : (list : List ℕ) → IfDeclared list (for_parts w s sense list).first
  first_declared [] = tt
  first_declared (c ∷ rest) = if_holds (λ (p : ForParts). IfDeclared (c ∷ rest) p.first) (is_a s p_declaration c) _ _ (λ e. (0, refl)) (by (is_a s p_expression c))
    where
      by : (b : Bool) → IfDeclared (c ∷ rest) (if b then Some c else None)
      by true = λ e. (0, refl)
      by false = tt

  behind_near : (list : List ℕ) → AllNear near list → AllNear near (behind_semicolon w s sense list)
  behind_near [] n = tt
  behind_near (c ∷ rest) n = if_holds (AllNear near) (has_sign s sign_semicolon c) rest (behind_semicolon w s sense rest) n.1 (behind_near rest n.1)

  before_near : (list : List ℕ) → AllNear near list → IfNear near (expression_before w s sense list)
  before_near [] n = tt
  before_near (c ∷ rest) n = if_holds (IfNear near) (is_a s p_expression c) (Some c) None n.0 tt

  parts_near : (list : List ℕ) → AllNear near list → IfNear near (for_parts w s sense list).first × IfNear near (for_parts w s sense list).condition × IfNear near (for_parts w s sense list).after
  parts_near [] n = (tt, tt, tt)
  parts_near (c ∷ rest) n =
      let behind = behind_near (c ∷ rest) n in
      if_holds (λ (p : ForParts). IfNear near p.first × IfNear near p.condition × IfNear near p.after) (is_a s p_declaration c) _ _
      (n.0, before_near rest n.1, before_near (behind_semicolon w s sense rest) (behind_near rest n.1))
      (before_near (c ∷ rest) n, before_near (behind_semicolon w s sense (c ∷ rest)) behind, before_near (behind_semicolon w s sense (behind_semicolon w s sense (c ∷ rest))) (behind_near (behind_semicolon w s sense (c ∷ rest)) behind))

  for_kept : (at : ℕ) (children : List ℕ) → AllNear near children → Lists children → Gives (Holds asks) (for_row w s sense at children)
  for_kept at (word ∷ parenthesis ∷ rest) n own =
      let parts = parts_near rest n.1.1 in
      for_of_kept at (for_parts w s sense rest) rest parts.0 parts.1 parts.2 n.1.1 (own (for_parts w s sense rest).first (declared_on word parenthesis rest (for_parts w s sense rest).first (first_declared rest)))
  for_kept at [] n own = tt
  for_kept at (word ∷ []) n own = tt

  goto_kept : (at : ℕ) (children : List ℕ) → Gives (Holds asks) (goto_row w s sense at children)
  goto_kept at children = some_given (Holds asks) (first_where (is_name s) children) Operand at _ (λ name. (at_unit s at, tt))

  of_word_kept : (at : ℕ) (children : List ℕ) (o : Option ℕ) → AllNear near children → Lists children → Gives (Holds asks) (of_word w s sense at children o)
  of_word_kept at children None n own = tt
  of_word_kept at children (Some word) n own =
      if_holds (Gives (Holds asks)) (word == word_case) _ _ (case_kept at children n)
      (if_holds (Gives (Holds asks)) (word == word_default) _ _ (default_kept at children n)
      (if_holds (Gives (Holds asks)) (word == word_if) _ _ (if_kept at children n)
      (if_holds (Gives (Holds asks)) (word == word_switch) _ _ (switch_kept at children n)
      (if_holds (Gives (Holds asks)) (word == word_while) _ _ (while_kept at children n)
      (if_holds (Gives (Holds asks)) (word == word_do) _ _ (do_kept at children n)
      (if_holds (Gives (Holds asks)) (word == word_for) _ _ (for_kept at children n own)
      (if_holds (Gives (Holds asks)) (word == word_goto) _ _ (goto_kept at children)
      (if_holds (Gives (Holds asks)) (word == word_continue) _ _ (if_given (Holds asks) _ Operand at (Fits (statement Continue (place_at s at) NoCores)) (at_unit s at, tt))
      (if_holds (Gives (Holds asks)) (word == word_break) _ _ (if_given (Holds asks) _ Operand at (Fits (statement Break (place_at s at) NoCores)) (at_unit s at, tt))
      (if_holds (Gives (Holds asks)) (word == word_return) _ (Refuses Operand at) (return_kept at (expression_in w s sense children) (first_near near (is_a s p_expression) children n)) tt))))))))))

  leaf_kept : (at first : ℕ) (children : List ℕ) → AllNear near children → Lists children → Gives (Holds asks) (leaf_statement w s sense at first children)
  leaf_kept at first children n own =
      if_holds (Gives (Holds asks)) (has_sign s sign_semicolon first) _ _ (at_unit s at, tt)
      (if_holds (Gives (Holds asks)) (is_name s first) _ _ (labelled_kept at first children n) (of_word_kept at children (word_at s first) n own))

  statement_of_kept : (at first : ℕ) (children : List ℕ) → near first → AllNear near children → Lists children → Gives (OfSense s near asks) (statement_of w s sense at first children)
  statement_of_kept at first children m n own =
      if_holds (Gives (OfSense s near asks)) (is_leaf s first) _ _ (as_sense_kept s near asks w (leaf_statement w s sense at first children) (leaf_kept at first children n own))
      (if_holds (Gives (OfSense s near asks)) (is_a s p_expression first) _ _ (as_sense_kept s near asks w (expression_statement w s sense at first) (expression_kept at first m)) (each first m))

  listed : (children : List ℕ) → ((c a : Bool) (place : Place) (under : Cores) → asks (Of (For [] c a) place VoidType under))
      → ((d : ℕ) → Has children d → is_a s p_declaration d ≡ true → (c a : Bool) (place : Place) (under : Cores) → asks (Of (For (objects_declared w s sense d) c a) place VoidType under)) → Lists children
  listed children plains fors None h c a place under = plains c a place under
  listed children plains fors (Some d) h c a place under =
      if_says (λ (es : List ℕ). asks (Of (For es c a) place VoidType under)) (is_a s p_declaration d) (objects_declared w s sense d) [] (λ e. fors d (h e) e c a place under) (plains c a place under)

  pub statement_kept : (at : ℕ) (children : List ℕ) → AllNear near children → ((c a : Bool) (place : Place) (under : Cores) → asks (Of (For [] c a) place VoidType under))
      → ((d : ℕ) → Has children d → is_a s p_declaration d ≡ true → (c a : Bool) (place : Place) (under : Cores) → asks (Of (For (objects_declared w s sense d) c a) place VoidType under))
      → Gives (OfSense s near asks) (statement_row w s sense at children)
  statement_kept at [] n plains fors = tt
  statement_kept at (first ∷ rest) n plains fors = statement_of_kept at first (first ∷ rest) n.0 n (listed (first ∷ rest) plains fors)
