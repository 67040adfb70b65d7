-- Statements stand where they may.
use Rattle.std.proofs.Common.{◌≡◌, ℕ, ◌||◌, ◌&&◌, nat_eq, Bool, true, false, List, [], ◌∷◌, Option, Some, None, slice_get, refl, sym, ap, ◌∙◌, subst, ◌⊎◌, inl, inr}
use Rattle.std.specs.Prelude.{⊤, IfSome, is_some}
use Rattle.std.proofs.lemmas.Bool.{eqb-true}
use Rattle.std.proofs.lemmas.Option.{slice_get_within}
use Rattle.c_grammar.specs.Productions.{p_unit, p_external, p_block, p_statement}
use Rattle.c_grammar.specs.Words.{word_switch, word_while, word_do, word_for}
use Rattle.core_tree.specs.declared.node.Unit.{Unit}
use Rattle.core_tree.specs.declared.node.Node.{Node}
use Rattle.core_tree.specs.declared.node.Storage.TheVariants.{FunctionBody}
use Rattle.core_tree.specs.declared.node.NodeKind.{NodeKind}
use Rattle.core_tree.specs.declared.node.NodeKind.TheVariants.{Named, FunctionName, Literal, Block, While, DoWhile, For, Switch, Case, Default, Label, Goto, Break, Continue, Return, Initialise}
use Rattle.core_tree.specs.Typed.{trees_of}
use Rattle.core_tree.specs.Rows.{Initialises, InitialisesIn, InitialisesEntity}
use Rattle.core_tree.specs.Range.{Under}
use Rattle.core_tree.specs.Valid.{InRows, InSomeBody, UnderBody, Within, IsLoop, IsSwitch}
use Rattle.c_consts.specs.Core.{Cores, Of}
use Rattle.core_nodes.specs.passed.c_senses.Tree.{Source, is_a, has_word, children_at, production_at, nearest_above}
use Rattle.core_nodes.specs.passed.c_senses.Given.{Given, Fits, Refuses}
use Rattle.core_nodes.specs.passed.c_senses.World.{World}
use Rattle.core_nodes.specs.passed.c_senses.Conversions.{conversion}
use Rattle.core_nodes.specs.passed.c_senses.Sense.{Sense}
use Rattle.core_nodes.specs.passed.c_senses.Statements.{statement_row}
use Rattle.core_nodes.specs.passed.c_senses.Right.{Numbering}
use Rattle.parsed_tree_laws.specs.passed.sense_laws.Sound.{Gives}
use Rattle.core_node_laws.specs.standing_laws.Standing.{IsGrown, IsMade, RunsInitialise, BodiesKnown, StatementStands, StatementsStand}
use Rattle.core_node_laws.proofs.standing_laws.Kept.{is_plain, block_part, RowGood, KeptSense}
use Rattle.core_node_laws.proofs.standing_laws.Enclosing.{EnclosesSense, loops_stop, switches_stop}
use Rattle.core_node_laws.proofs.standing_laws.Rows.{acts, acts_in}
use Rattle.core_node_laws.proofs.standing_laws.Climbing.{none_above, above_part}
use Rattle.core_node_laws.proofs.standing_laws.Descending.{W, F, each_kept}
use Rattle.core_node_laws.proofs.standing_laws.Bodies.{Above, above, FunctionBlock, function_block}
use Rattle.core_node_laws.proofs.standing_laws.Walking.{bare, Blind, same_test, Stopped, Held, walk, still_below}

-- ---- statements that a word begins

abbrev is_word : Source → ℕ → ℕ → Bool
is_word s word i = is_a s p_statement i && elim (children_at s i) [ [] ↦ false | first ∷ rest ↦ has_word s word first ]

abbrev is_loop_at : Source → ℕ → Bool
is_loop_at s i = is_word s word_while i || (is_word s word_do i || is_word s word_for i)

abbrev is_any_at : Source → ℕ → Bool
is_any_at s i = is_loop_at s i || is_word s word_switch i

both_off : (a b : Bool) → a ≡ false → b ≡ false → (a || b) ≡ false
both_off false false ea eb = refl
both_off true b ea eb = cc
both_off false true ea eb = cc

module _ (s : Source) where
  apart : (i p : ℕ) → is_a s p i ≡ true → nat_eq p p_statement ≡ false → is_a s p_statement i ≡ false
  apart i p h differ = ap (λ (q : ℕ). nat_eq q p_statement) (eqb-true (production_at s i) p h) ∙ differ

  word_off : (word i : ℕ) → is_a s p_statement i ≡ false → is_word s word i ≡ false
  word_off word i h = ap (λ (b : Bool). b && elim (children_at s i) as (λ _. Bool) [ [] ↦ false | first ∷ rest ↦ has_word s word first ]) h

  loop_off : (i : ℕ) → is_a s p_statement i ≡ false → is_loop_at s i ≡ false
  loop_off i h = both_off (is_word s word_while i) _ (word_off word_while i h) (both_off (is_word s word_do i) (is_word s word_for i) (word_off word_do i h) (word_off word_for i h))

  any_off : (i : ℕ) → is_a s p_statement i ≡ false → is_any_at s i ≡ false
  any_off i h = both_off (is_loop_at s i) (is_word s word_switch i) (loop_off i h) (word_off word_switch i h)

-- ---- what is asked for, and what stops

abbrev is_break : NodeKind → Bool
is_break Break = true
is_break kind = false

abbrev is_continue : NodeKind → Bool
is_continue Continue = true
is_continue kind = false

abbrev is_choice : NodeKind → Bool
is_choice (Case n) = true
is_choice Default = true
is_choice kind = false

abbrev stops_loop : NodeKind → Bool
stops_loop While = true
stops_loop DoWhile = true
stops_loop (For es c a) = true
stops_loop kind = false

abbrev stops_switch : NodeKind → Bool
stops_switch Switch = true
stops_switch kind = false

abbrev stops_any : NodeKind → Bool
stops_any kind = stops_loop kind || stops_switch kind

-- a test of kinds that looks at none that has a number of an entity
abbrev Plainly : (NodeKind → Bool) → Type 0
Plainly bad = (kind : NodeKind) → is_plain kind ≡ true → bad kind ≡ false

plain_break : Plainly is_break
plain_break Break e = cc
plain_break kind e = refl

plain_continue : Plainly is_continue
plain_continue Continue e = cc
plain_continue kind e = refl

plain_choice : Plainly is_choice
plain_choice (Case n) e = cc
plain_choice Default e = cc
plain_choice kind e = refl

blind_break : Blind is_break
blind_break (Named e) = refl
blind_break (FunctionName e) = refl
blind_break (Literal e) = refl
blind_break (Initialise e paths) = refl
blind_break (Block es) = refl
blind_break (For es c a) = refl
blind_break kind = refl

blind_continue : Blind is_continue
blind_continue (Named e) = refl
blind_continue (FunctionName e) = refl
blind_continue (Literal e) = refl
blind_continue (Initialise e paths) = refl
blind_continue (Block es) = refl
blind_continue (For es c a) = refl
blind_continue kind = refl

blind_choice : Blind is_choice
blind_choice (Named e) = refl
blind_choice (FunctionName e) = refl
blind_choice (Literal e) = refl
blind_choice (Initialise e paths) = refl
blind_choice (Block es) = refl
blind_choice (For es c a) = refl
blind_choice kind = refl

blind_loop : Blind stops_loop
blind_loop (Named e) = refl
blind_loop (FunctionName e) = refl
blind_loop (Literal e) = refl
blind_loop (Initialise e paths) = refl
blind_loop (Block es) = refl
blind_loop (For es c a) = refl
blind_loop kind = refl

blind_switch : Blind stops_switch
blind_switch (Named e) = refl
blind_switch (FunctionName e) = refl
blind_switch (Literal e) = refl
blind_switch (Initialise e paths) = refl
blind_switch (Block es) = refl
blind_switch (For es c a) = refl
blind_switch kind = refl

blind_any : Blind stops_any
blind_any kind = ap (λ (b : Bool). b || stops_switch kind) (blind_loop kind) ∙ ap (λ (b : Bool). stops_loop (bare kind) || b) (blind_switch kind)

loop_is : (kind : NodeKind) → stops_loop kind ≡ true → IsLoop kind
loop_is While e = tt
loop_is DoWhile e = tt
loop_is (For es c a) e = tt
loop_is kind e = cc

switch_is : (kind : NodeKind) → stops_switch kind ≡ true → IsSwitch kind
switch_is Switch e = tt
switch_is kind e = cc

all_give : {A : Type 0} (P : A → Type 0) (g : Given A) → ((x : A) → P x) → Gives P g
all_give P (Fits x) h = h x
all_give P (Refuses kind node) h = tt

never : {A : Type 0} (o : Option A) → o ≡ None → is_some o ≡ true → ⊥
never None e h = cc
never (Some x) e h = cc

never_some : {A : Type 0} (o : Option A) (x : A) → o ≡ None → o ≡ Some x → ⊥
never_some o x e h = let both : None ≡ Some x = sym e ∙ h in cc

module _ (s : Source) (senses : List Sense) (numbering : Numbering) (u : Unit) (grown : IsGrown s) (made : IsMade s senses numbering u) (runs : RunsInitialise senses) (rows : InRows (trees_of u)) (bodies : BodiesKnown (trees_of u)) where
  abbrev w : ℕ → World
  w i = W s senses grown made.are_senses made.whole i

  abbrev sense : ℕ → ℕ → Sense
  sense i = F s senses grown made.are_senses made.whole i

  -- a statement's node stands under the body of a function
  record InBlock (n : ℕ) : Type 0 where
    up : Above s senses numbering u grown made n
    storage : up.entity.storage ≡ FunctionBody
    block : FunctionBlock s senses numbering u grown made up.top

  initial_still : (b e : ℕ) → Initialises (trees_of u) b e → acts_in (slice_get u.nodes.items b) ≡ false
  initial_still b e h = by (slice_get u.nodes.items b) h
    where
      kinds : (kind : NodeKind) → InitialisesEntity kind e → acts kind ≡ false
      kinds (Initialise o paths) h = refl
      kinds kind h = absurd h

      by : (o : Option Node) → InitialisesIn o e → acts_in o ≡ false
      by None h = refl
      by (Some n) h = kinds n.kind h

  in_block : (n : ℕ) (node : Node) → slice_get u.nodes.items n ≡ Some node → acts node.kind ≡ true → InBlock n
  in_block n node at act =
      let up = above s senses numbering u grown made n (slice_get_within u.nodes.items n node at) in
      by up (subst (λ (o : Option ℕ). IfSome o (λ b. (up.entity.storage ≡ FunctionBody) ⊎ Initialises (trees_of u) b up.number)) up.body (bodies up.number up.entity up.stands))
    where
      by : (up : Above s senses numbering u grown made n) → (up.entity.storage ≡ FunctionBody) ⊎ Initialises (trees_of u) up.top up.number → InBlock n
      by up (inl storage) = record { up = up; storage = storage; block = function_block s senses numbering u grown made up.number up.entity up.top up.stands storage up.body }
      by up (inr init) =
          let still = still_below (λ kind under. ⊤) stops_any blind_any numbering u rows up.top n up.under (initial_still up.top up.number init) in
          let none : true ≡ false = sym act ∙ (sym (ap acts_in at) ∙ still) in
          cc

  some_body : (n : ℕ) → InBlock n → InSomeBody (trees_of u) n
  some_body n h = record { some = (h.up.number, h.up.entity, h.up.stands, (h.storage, subst (λ (o : Option ℕ). UnderBody (trees_of u) o n) (sym h.up.body) h.up.under)) }

  -- what is asked stands under what stops
  module _
      (bad stops : NodeKind → Bool) (test : ℕ → Bool) (plain : Plainly bad) (blind_bad : Blind bad) (blind : Blind stops) (quiet : (i : ℕ) → is_a s p_statement i ≡ false → test i ≡ false)
      (stopping : (i : ℕ) (v : World) (f : ℕ → Sense) → test i ≡ true → Gives (EnclosesSense v s f i stops) (statement_row v s f i (children_at s i)))
      (good : (i : ℕ) → nearest_above s test i ≡ None → RowGood (λ kind under. bad kind ≡ false) stops (w i) s (sense i) i)
    where
      abbrev Good : NodeKind → Cores → Type 0
      Good kind under = bad kind ≡ false

      not_acting : (kind : NodeKind) → bad kind ≡ true → bad kind ≡ false → ⊥
      not_acting kind a b = let both : true ≡ false = sym a ∙ b in cc

      block_held : (b : ℕ) → FunctionBlock s senses numbering u grown made b → Held Good stops blind numbering u rows b
      block_held b block =
          let above : nearest_above s test block.block ≡ None =
          above_part s grown test (λ i h. quiet i (apart s i p_external h refl)) (λ i h. quiet i (apart s i p_unit h refl)) block.external block.block block.is_external block.part in
          let kept = each_kept s senses grown made.are_senses made.whole runs Good stops (λ kind under p. plain kind p) (λ i. nearest_above s test i ≡ None) test (λ i c stands is off child. none_above s grown test i c child off stands) stopping
          (λ i h. quiet i (apart s i p_block h refl)) good block.block block.inside above (block_part s block.block block.is_block) in
          (block.core, block.stands, subst (λ (x : Sense). KeptSense Good stops x) block.sensed kept block.sorted)

      stopped : (n : ℕ) (node : Node) → slice_get u.nodes.items n ≡ Some node → acts node.kind ≡ true → bad node.kind ≡ true → (h : InBlock n) → Stopped Good stops blind numbering u rows h.up.top n
      stopped n node at act is h = by (walk Good stops blind numbering u rows h.up.top n h.up.under (inr (inr (block_held h.up.top h.block))))
        where
          by : Stopped Good stops blind numbering u rows h.up.top n ⊎ ((acts_in (slice_get u.nodes.items n) ≡ false) ⊎ Held Good stops blind numbering u rows n) → Stopped Good stops blind numbering u rows h.up.top n
          by (inl x) = x
          by (inr (inl still)) = let none : true ≡ false = sym act ∙ (sym (ap acts_in at) ∙ still) in cc
          by (inr (inr (Of kind place type under, own, kept))) =
              let same_node : ◌≡◌ {A = Option Node} (Some own.0) (Some node) = sym own.1 ∙ at in
              let same : bad kind ≡ bad own.0.kind = same_test bad blind_bad numbering kind own.0.kind own.2 in
              let one : own.0 ≡ node = cc in
              absurd (not_acting node.kind is (sym (ap (λ (x : Node). bad x.kind) one) ∙ (sym same ∙ kept.0)))

  any_stops : (i : ℕ) (v : World) (f : ℕ → Sense) → is_any_at s i ≡ true → Gives (EnclosesSense v s f i stops_any) (statement_row v s f i (children_at s i))
  any_stops i v f h = by (is_loop_at s i) (is_word s word_switch i) refl refl h
    where
      by : (a b : Bool) → is_loop_at s i ≡ a → is_word s word_switch i ≡ b → (a || b) ≡ true → Gives (EnclosesSense v s f i stops_any) (statement_row v s f i (children_at s i))
      by true b ea eb h = loops_stop v s f i stops_any refl refl (λ es a b. refl) ea
      by false true ea eb h = switches_stop v s f i stops_any refl eb
      by false false ea eb h = cc

  break_stopped : (n : ℕ) (node : Node) (at : slice_get u.nodes.items n ≡ Some node) → node.kind ≡ Break → (h : InBlock n) → (Within (trees_of u) false n) ⊎ (Within (trees_of u) true n)
  break_stopped n node at e h =
      by (stopped is_break stops_any (is_any_at s) plain_break blind_break blind_any (any_off s) any_stops
      (λ i none. record {
        breaks = λ found. absurd (never (nearest_above s (is_any_at s) i) none found);
        continues = λ found. refl;
        cases = λ switch e n under. refl;
        defaults = λ switch e under. refl;
        gotos = λ name. refl;
        empties = refl;
        returns = λ t v e. all_give (λ x. is_break Return ≡ false) (conversion (w i) false i v t) (λ x. refl);
      }) n node at (ap acts e) (ap is_break e) h)
    where
      either : (top : ℕ) (node : Node) → slice_get u.nodes.items top ≡ Some node → Under (trees_of u) top n → (a b : Bool) → stops_loop node.kind ≡ a → stops_switch node.kind ≡ b → (a || b) ≡ true → (Within (trees_of u) false n) ⊎ (Within (trees_of u) true n)
      either top node at under true b ea eb h = inl (record { some = (top, node, at, (loop_is node.kind ea, under)) })
      either top node at under false true ea eb h = inr (record { some = (top, node, at, (switch_is node.kind eb, under)) })
      either top node at under false false ea eb h = cc

      by : (top : ℕ) × (node : Node) × (slice_get u.nodes.items top ≡ Some node) × (stops_any node.kind ≡ true) × Under (trees_of u) h.up.top top × Under (trees_of u) top n → (Within (trees_of u) false n) ⊎ (Within (trees_of u) true n)
      by (top, node, at, stop, above, under) = either top node at under (stops_loop node.kind) (stops_switch node.kind) refl refl stop

  continue_stopped : (n : ℕ) (node : Node) (at : slice_get u.nodes.items n ≡ Some node) → node.kind ≡ Continue → (h : InBlock n) → Within (trees_of u) false n
  continue_stopped n node at e h =
      by (stopped is_continue stops_loop (is_loop_at s) plain_continue blind_continue blind_loop (loop_off s) (λ i v f h. loops_stop v s f i stops_loop refl refl (λ es a b. refl) h)
      (λ i none. record {
        breaks = λ found. refl;
        continues = λ found. absurd (never (nearest_above s (is_loop_at s) i) none found);
        cases = λ switch e n under. refl;
        defaults = λ switch e under. refl;
        gotos = λ name. refl;
        empties = refl;
        returns = λ t v e. all_give (λ x. is_continue Return ≡ false) (conversion (w i) false i v t) (λ x. refl);
      }) n node at (ap acts e) (ap is_continue e) h)
    where
      by : (top : ℕ) × (node : Node) × (slice_get u.nodes.items top ≡ Some node) × (stops_loop node.kind ≡ true) × Under (trees_of u) h.up.top top × Under (trees_of u) top n → Within (trees_of u) false n
      by (top, node, at, stop, above, under) = record { some = (top, node, at, (loop_is node.kind stop, under)) }

  choice_stopped : (n : ℕ) (node : Node) (at : slice_get u.nodes.items n ≡ Some node) → acts node.kind ≡ true → is_choice node.kind ≡ true → (h : InBlock n) → Within (trees_of u) true n
  choice_stopped n node at act is h =
      by (stopped is_choice stops_switch (is_word s word_switch) plain_choice blind_choice blind_switch (word_off s word_switch) (λ i v f h. switches_stop v s f i stops_switch refl h)
      (λ i none. record {
        breaks = λ found. refl;
        continues = λ found. refl;
        cases = λ switch e n under. absurd (never_some (nearest_above s (is_word s word_switch) i) switch none e);
        defaults = λ switch e under. absurd (never_some (nearest_above s (is_word s word_switch) i) switch none e);
        gotos = λ name. refl;
        empties = refl;
        returns = λ t v e. all_give (λ x. is_choice Return ≡ false) (conversion (w i) false i v t) (λ x. refl);
      }) n node at act is h)
    where
      by : (top : ℕ) × (node : Node) × (slice_get u.nodes.items top ≡ Some node) × (stops_switch node.kind ≡ true) × Under (trees_of u) h.up.top top × Under (trees_of u) top n → Within (trees_of u) true n
      by (top, node, at, stop, above, under) = record { some = (top, node, at, (switch_is node.kind stop, under)) }

  stands : (n : ℕ) (node : Node) → slice_get u.nodes.items n ≡ Some node → StatementStands (trees_of u) n node.kind
  stands n node at = by node.kind refl
    where
      inside : (kind : NodeKind) → node.kind ≡ kind → acts kind ≡ true → InBlock n
      inside kind e act = in_block n node at (ap acts e ∙ act)

      by : (kind : NodeKind) → node.kind ≡ kind → StatementStands (trees_of u) n kind
      by Return e = some_body n (inside Return e refl)
      by Break e = let h = inside Break e refl in (some_body n h, break_stopped n node at e h)
      by Continue e = let h = inside Continue e refl in (some_body n h, continue_stopped n node at e h)
      by (Case k) e = let h = inside (Case k) e refl in (some_body n h, choice_stopped n node at (ap acts e) (ap is_choice e) h)
      by Default e = let h = inside Default e refl in (some_body n h, choice_stopped n node at (ap acts e) (ap is_choice e) h)
      by (Goto name) e = some_body n (inside (Goto name) e refl)
      by (Label name) e = some_body n (inside (Label name) e refl)
      by kind e = tt

pub statements_stand : StatementsStand
statements_stand s senses numbering u grown made runs rows bodies n node at = stands s senses numbering u grown made runs rows bodies n node at
