-- All rows.
use Rattle.std.proofs.Common.{◌≡◌, ◌==◌, ◌||◌, ◌&&◌, ℕ, Bool, true, false, cond, List, Option, refl, sym, ap, ◌∙◌, subst}
use Rattle.std.proofs.lemmas.Bool.{eqb-true}
use Rattle.c_grammar.specs.Productions.{p_rest, p_declaration, p_assert, p_specs, p_align, p_type, p_struct, p_members, p_member, p_field, p_enum, p_enumerator, p_declarator, p_abstract, p_either, p_suffix, p_parameter, p_type_name, p_init, p_items, p_designator, p_block, p_statement}
use Rattle.c_consts.specs.Core.{Core}
use Rattle.c_senses.specs.Tree.{Source}
use Rattle.c_senses.specs.Given.{Given, Fits, Refuses}
use Rattle.c_senses.specs.World.{World}
use Rattle.c_senses.specs.Sense.{Sense, Nothing, IsCore, IsDeclarator, IsInitial, Derivation}
use Rattle.c_senses.specs.Rows.{row_of, declaring_row, declarator_row}
use Rattle.c_senses.specs.Initialised.{init_row, items_row, designator_row}
use Rattle.c_senses.specs.Expressions.{expression_row}
use Rattle.c_senses.specs.Statements.{statement_row, block_row, rest_row, declaration_row}
use Rattle.name_places.specs.Named.{IsNamedSense}
use Rattle.parsed_tree_laws.specs.sense_laws.row_trees.Trees.{SenseHasRows}
use Rattle.statement_rows.specs.Kept.{RunHasRows, HasAllRows}
use Rattle.statement_rows.proofs.Stand.{statement_kept, block_kept, declaration_kept, rest_kept}
use Rattle.parsed_tree_laws.specs.sense_laws.Sound.{Gives}
use Rattle.parsed_tree_laws.proofs.sense_laws.Giving.{if_holds}
use Rattle.unit_walk.specs.row_shapes.Kept.{Keeps, RowsKeep, is_initial, is_declarator, is_expression}
use Rattle.unit_walk.proofs.row_shapes.Expressions.{expressions_give}
use Rattle.unit_walk.proofs.row_shapes.Named.{declarators_give, inits_give, items_give}
use Rattle.unit_walk.proofs.row_shapes.Declaring.{statements_give, assert_gives, align_gives, enumerator_gives, enum_gives, specs_gives, suffix_gives, parameter_gives, type_name_gives, type_gives, struct_gives, members_give, member_gives, field_gives, designator_gives}

abbrev Rest : ℕ → Sense → Type 0
Rest count x = RunHasRows x × IsNamedSense count x

both : (P Q : Sense → Type 0) (g : Given Sense) → Gives P g → Gives Q g → Gives (λ x. P x × Q x) g
both P Q (Fits x) p q = (p, q)
both P Q (Refuses kind node) p q = tt

three : (count : ℕ) (g : Given Sense) → Gives HasAllRows g → Gives (IsNamedSense count) g → Gives (Keeps count) g
three count (Fits x) p q = (p.0, (p.1, q))
three count (Refuses kind node) p q = tt

module _ (count : ℕ) (w : World) (s : Source) (sense : ℕ → Sense) (all : (i : ℕ) → Keeps count (sense i)) (at : ℕ) (xs : List ℕ) where
  abbrev K : Sense → Type 0
  K = Keeps count

  rows_there : (i : ℕ) → HasAllRows (sense i)
  rows_there i = ((all i).0, (all i).1.0)

  statement_gives : Gives K (statement_row w s sense at xs)
  statement_gives = three count (statement_row w s sense at xs) (statement_kept w s sense rows_there at xs) (statements_give (IsNamedSense count) (λ c. tt) w s sense (λ i. (all i).1.1) at xs)

  expression_gives : (p : ℕ) → Gives SenseHasRows (expression_row w s sense p at xs) → Gives K (expression_row w s sense p at xs)
  expression_gives p h = both SenseHasRows (Rest count) _ h (expressions_give (Rest count) (λ c. (tt, tt)) w s sense (λ i. (all i).1) p at xs)

  initial_gives : (P : Sense → Type 0) → P Nothing → ((c : Core) → P (IsCore c)) → ((c : Core) (n : Option ℕ) → P (IsInitial c n)) → (p : ℕ) → is_initial p ≡ true → Gives P (declaring_row w s sense p at xs)
  initial_gives P nothing core initial p e = by (p == p_init) refl e
    where
      by : (b : Bool) → (p == p_init) ≡ b → (b || (p == p_items)) ≡ true → Gives P (declaring_row w s sense p at xs)
      by true f g = subst (λ (q : ℕ). Gives P (declaring_row w s sense q at xs)) (sym (eqb-true p p_init f)) (inits_give P nothing core initial w s sense at)
      by false f g = subst (λ (q : ℕ). Gives P (declaring_row w s sense q at xs)) (sym (eqb-true p p_items g)) (items_give P nothing core initial w s sense at)

  named_gives : (P : Sense → Type 0) → ((name : Option ℕ) (ds : List Derivation) → P (IsDeclarator name ds)) → (p : ℕ) → is_declarator p ≡ true → Gives P (declaring_row w s sense p at xs)
  named_gives P each p e = by (p == p_declarator) (p == p_abstract) refl refl e
    where
      there : (k : ℕ) → Gives P (declaring_row w s sense k at xs) → (p == k) ≡ true → Gives P (declaring_row w s sense p at xs)
      there k h f = subst (λ (q : ℕ). Gives P (declaring_row w s sense q at xs)) (sym (eqb-true p k f)) h

      by : (a b : Bool) → (p == p_declarator) ≡ a → (p == p_abstract) ≡ b → (a || (b || (p == p_either))) ≡ true → Gives P (declaring_row w s sense p at xs)
      by true b f g h = there p_declarator (declarators_give P each w s sense at xs) f
      by false true f g h = there p_abstract (declarators_give P each w s sense at xs) g
      by false false f g h = there p_either (declarators_give P each w s sense at xs) h

  -- what is no declarator and no initialiser
  module _ (p : ℕ) (no_initial : is_initial p ≡ false) (no_declarator : is_declarator p ≡ false) where
    not_initial : (k : ℕ) → is_initial k ≡ true → (p == k) ≡ true → ⊥
    not_initial k own e = let mine : is_initial p ≡ true = ap is_initial (eqb-true p k e) ∙ own in cc

    last_gives : Gives K (cond ((p == p_declarator) || ((p == p_abstract) || (p == p_either))) (declarator_row w s sense at xs) (Fits Nothing))
    last_gives = if_holds (Gives K) ((p == p_declarator) || ((p == p_abstract) || (p == p_either))) _ (Fits Nothing) (λ e. absurd (cc)) (λ e. (tt, (tt, tt)))

    later_gives : Gives K (cond (p == p_init) (init_row w s sense at) (cond (p == p_items) (items_row w s sense at) (cond (p == p_designator) (designator_row w s sense at xs) (cond (p == p_block) (block_row w s sense at xs) (cond (p == p_statement) (statement_row w s sense at xs) (cond ((p == p_declarator) || ((p == p_abstract) || (p == p_either))) (declarator_row w s sense at xs) (Fits Nothing)))))))
    later_gives =
        if_holds (Gives K) (p == p_init) _ _ (λ e. absurd (not_initial p_init refl e))
        (λ e. if_holds (Gives K) (p == p_items) _ _ (λ e. absurd (not_initial p_items refl e))
        (λ e. if_holds (Gives K) (p == p_designator) _ _ (λ e. designator_gives count w s sense all at xs)
        (λ e. if_holds (Gives K) (p == p_block) _ _ (λ e. three count (block_row w s sense at xs) (block_kept w s sense rows_there at xs) tt)
        (λ e. if_holds (Gives K) (p == p_statement) _ _ (λ e. statement_gives) (λ e. last_gives)))))

    declaring_gives : Gives K (declaring_row w s sense p at xs)
    declaring_gives =
        if_holds (Gives K) (p == p_rest) _ _ (λ e. three count (rest_row w s sense xs) (rest_kept w s sense rows_there xs) tt)
        (λ e. if_holds (Gives K) (p == p_declaration) _ _ (λ e. three count (declaration_row w s sense xs) (declaration_kept w s sense rows_there xs) tt)
        (λ e. if_holds (Gives K) (p == p_assert) _ _ (λ e. assert_gives count w s sense all at)
        (λ e. if_holds (Gives K) (p == p_specs) _ _ (λ e. specs_gives count w s sense all at xs)
        (λ e. if_holds (Gives K) (p == p_align) _ _ (λ e. align_gives count w s sense all at xs)
        (λ e. if_holds (Gives K) (p == p_type) _ _ (λ e. type_gives count w s sense all at xs)
        (λ e. if_holds (Gives K) (p == p_struct) _ _ (λ e. struct_gives count w s sense all at)
        (λ e. if_holds (Gives K) (p == p_members) _ _ (λ e. members_give count w s sense all at xs)
        (λ e. if_holds (Gives K) (p == p_member) _ _ (λ e. member_gives count w s sense all at xs)
        (λ e. if_holds (Gives K) (p == p_field) _ _ (λ e. field_gives count w s sense all at)
        (λ e. if_holds (Gives K) (p == p_enum) _ _ (λ e. enum_gives count w s sense all at)
        (λ e. if_holds (Gives K) (p == p_enumerator) _ _ (λ e. enumerator_gives count w s sense all at xs)
        (λ e. if_holds (Gives K) (p == p_suffix) _ _ (λ e. suffix_gives count w s sense all at xs)
        (λ e. if_holds (Gives K) (p == p_parameter) _ _ (λ e. parameter_gives count w s sense all at)
        (λ e. if_holds (Gives K) (p == p_type_name) _ _ (λ e. type_name_gives count w s sense all at)
        (λ e. later_gives)))))))))))))))

  abbrev Row : ℕ → Given Sense
  Row p = row_of w s sense p at xs

  other_gives : (p : ℕ) → is_expression p ≡ false → (is_initial p ≡ true → Gives HasAllRows (Row p)) → (is_declarator p ≡ true → Gives (IsNamedSense count) (Row p)) → Gives K (declaring_row w s sense p at xs)
  other_gives p none initial named = by (is_initial p) (is_declarator p) refl refl
    where
      here : (P : Sense → Type 0) → Gives P (Row p) → Gives P (declaring_row w s sense p at xs)
      here P h = subst (λ (b : Bool). Gives P (cond b (expression_row w s sense p at xs) (declaring_row w s sense p at xs))) none h

      by : (a b : Bool) → is_initial p ≡ a → is_declarator p ≡ b → Gives K (declaring_row w s sense p at xs)
      by true b e f = three count (declaring_row w s sense p at xs) (here HasAllRows (initial e)) (initial_gives (IsNamedSense count) tt (λ c. tt) (λ c n. tt) p e)
      by false true e f = three count (declaring_row w s sense p at xs) (named_gives HasAllRows (λ name ds. (tt, tt)) p f) (here (IsNamedSense count) (named f))
      by false false e f = declaring_gives p e f

pub rows_keep : RowsKeep
rows_keep count w s sense all p at xs rows initial named = by (is_expression p) refl
  where
    by : (b : Bool) → is_expression p ≡ b → Gives (Keeps count) (cond b (expression_row w s sense p at xs) (declaring_row w s sense p at xs))
    by true e = expression_gives count w s sense all at xs p (subst (λ (b : Bool). Gives SenseHasRows (cond b (expression_row w s sense p at xs) (declaring_row w s sense p at xs))) e (rows e))
    by false e = other_gives count w s sense all at xs p e initial named
