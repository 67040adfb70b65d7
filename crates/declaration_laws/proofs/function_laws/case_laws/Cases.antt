-- The cases of a switch of a unit differ.
use Rattle.std.proofs.Common.{◌≡◌, ◌<◌, ℕ, Bool, true, false, ◌||◌, List, length, Option, Some, None, slice_get, refl, sym, ap, ◌∙◌, subst, ◌⊎◌, inl, inr}
use Rattle.std.specs.Prelude.{⊤, ℤ, IfSome}
use Rattle.std.specs.Ordering.{int_eq}
use Rattle.std.proofs.lemmas.Bool.Decides.{Decides-int_eq}
use Rattle.std.proofs.lemmas.Option.{slice_get_within}
use Rattle.c_lexer.specs.declared.Tokens.{Tokens}
use Rattle.c_lexer.specs.Cut.{IsTokens}
use Rattle.c_types.specs.Trees.{Ctype}
use Rattle.c_grammar.specs.declared.trees.Tree.{Tree}
use Rattle.c_grammar.specs.Productions.{p_block, p_statement}
use Rattle.c_parser.specs.c_units.Units.{IsUnit}
use Rattle.core_tree.specs.declared.node.Unit.{Unit}
use Rattle.core_tree.specs.declared.node.Node.{Node}
use Rattle.core_tree.specs.declared.node.Storage.TheVariants.{FunctionBody}
use Rattle.core_tree.specs.declared.node.NodeKind.{NodeKind}
use Rattle.core_tree.specs.declared.node.NodeKind.TheVariants.{Named, FunctionName, Literal, VarArgs, Block, For, Switch, Case, Default, Initialise}
use Rattle.core_tree.specs.Typed.{trees_of}
use Rattle.core_tree.specs.Rows.{Has, Initialises, InitialisesIn, InitialisesEntity}
use Rattle.core_tree.specs.Range.{here}
use Rattle.core_tree.specs.Valid.{InRows, IsSwitch, IsCase, IsCaseOf, DiffersIn, DiffersInAll, CaseDiffers, DistinctCases}
use Rattle.c_consts.specs.Core.{Core, Of}
use Rattle.c_senses.specs.Names.{source_of, numbered}
use Rattle.c_senses.specs.Tree.{Source, is_a}
use Rattle.c_senses.specs.World.{World}
use Rattle.c_senses.specs.Sense.{Sense, IsCore, IsRun, sense_in}
use Rattle.c_senses.specs.Right.{Numbering, StandsBy, AllStandBy}
use Rattle.parsed_tree_laws.specs.sense_laws.Senses.{SoundSense}
use Rattle.parsed_tree_laws.proofs.sense_laws.parsed_laws.InOrder.{children_first}
use Rattle.parsed_tree_laws.proofs.sense_laws.statement_laws.Grammar.{statements_parsed}
use Rattle.parsed_tree_laws.proofs.family_laws.Reading.{units_families}
use Rattle.parsed_tree_laws.proofs.nesting_laws.Nesting.{units_nest}
use Rattle.parsed_tree_laws.specs.counted_parts.Counted.{CountedParts}
use Rattle.parsed_tree_laws.proofs.counted_parts.Read.{parts_are_counted}
use Rattle.parsed_tree_laws.specs.ordered_parts.Ordered.{Follows}
use Rattle.parsed_tree_laws.proofs.ordered_parts.Read.{parts_follow}
use Rattle.parsed_tree_laws.specs.statement_shapes.Shaped.{ShapedStatements}
use Rattle.parsed_tree_laws.proofs.statement_shapes.Rows.{statements_shaped}
use Rattle.declaration_laws.specs.definition_laws.passed.built_unit_laws.built_units.Built.{IsBuilt}
use Rattle.declaration_laws.specs.passed.core_node_laws.standing_laws.Standing.{IsGrown, IsMade, RunsOf, RunsInitialise, BodiesKnown}
use Rattle.declaration_laws.proofs.passed.core_node_laws.standing_laws.Rows.{acts, acts_in}
use Rattle.declaration_laws.proofs.passed.core_node_laws.standing_laws.Bodies.{Above, above, FunctionBlock, function_block}
use Rattle.declaration_laws.proofs.passed.core_node_laws.standing_laws.Walking.{Blind, same_test, still_below}
use Rattle.declaration_laws.proofs.passed.core_node_laws.marked_trees.Marks.{marking, weight_of, marks, marks_all, marks_of}
use Rattle.declaration_laws.proofs.passed.core_node_laws.marked_trees.Trees.{no_marks}
use Rattle.declaration_laws.proofs.passed.core_node_laws.marked_trees.Nodes.{Way, every_way, first_ways, one_of_all, free_at}
use Rattle.declaration_laws.specs.function_laws.case_laws.Cases.{CasesDiffer}
use Rattle.declaration_laws.proofs.function_laws.case_laws.Switches.{is_switch, is_case, case_plain, heavy_none, none_heavy, switch_weight, switch_plain, sense_there, switch_begun, few_cases}

blind_switch : Blind is_switch
blind_switch (Named e) = refl
blind_switch (FunctionName e) = refl
blind_switch (Literal e) = refl
blind_switch (VarArgs e) = refl
blind_switch (Initialise e paths) = refl
blind_switch (Block es) = refl
blind_switch (For es c a) = refl
blind_switch kind = refl

blind_case : (x : Option ℤ) → Blind (is_case x)
blind_case None (Named e) = refl
blind_case None (FunctionName e) = refl
blind_case None (Literal e) = refl
blind_case None (VarArgs e) = refl
blind_case None (Initialise e paths) = refl
blind_case None (Block es) = refl
blind_case None (For es c a) = refl
blind_case None kind = refl
blind_case (Some n) (Named e) = refl
blind_case (Some n) (FunctionName e) = refl
blind_case (Some n) (Literal e) = refl
blind_case (Some n) (VarArgs e) = refl
blind_case (Some n) (Initialise e paths) = refl
blind_case (Some n) (Block es) = refl
blind_case (Some n) (For es c a) = refl
blind_case (Some n) kind = refl

abbrev never : NodeKind → Bool
never kind = false

blind_never : Blind never
blind_never kind = refl

switch_of : (kind : NodeKind) → IsSwitch kind → is_switch kind ≡ true
switch_of Switch h = refl
switch_of kind h = absurd h

of_switch : (kind : NodeKind) → is_switch kind ≡ true → IsSwitch kind
of_switch Switch h = tt
of_switch kind h = cc

switch_only : (kind : NodeKind) → is_switch kind ≡ true → kind ≡ Switch
switch_only Switch h = refl
switch_only kind h = cc

int_same : (n : ℤ) → int_eq n n ≡ true
int_same n = (Decides-int_eq n n).1 refl

-- what counts as a case of a number
case_of : (x : Option ℤ) (kind : NodeKind) → IsCase x kind → is_case x kind ≡ true
case_of (Some n) (Case m) h = subst (λ (y : ℤ). int_eq m y ≡ true) h (int_same m)
case_of None Default h = refl
case_of (Some n) kind h = absurd h
case_of None kind h = absurd h

case_no_switch : (x : Option ℤ) (kind : NodeKind) → is_case x kind ≡ true → is_switch kind ≡ false
case_no_switch x Switch h = by x h
  where
    by : (x : Option ℤ) → is_case x Switch ≡ true → is_switch Switch ≡ false
    by None h = cc
    by (Some n) h = cc
case_no_switch x kind h = refl

some_same : {A : Type 0} → {x y : A} → ◌≡◌ {A = Option A} (Some x) (Some y) → x ≡ y
some_same e = cc

module _
    (s : Source) (senses : List Sense) (numbering : Numbering) (u : Unit) (grown : IsGrown s) (made : IsMade s senses numbering u) (counted : CountedParts s) (runs : RunsInitialise senses) (follows : Follows s) (shaped : ShapedStatements s)
    (rows : InRows (trees_of u)) (bodies : BodiesKnown (trees_of u))
  where
    abbrev sense : ℕ → Sense
    sense i = sense_in senses i

    initial_still : (b e : ℕ) → Initialises (trees_of u) b e → acts_in (slice_get u.nodes.items b) ≡ false
    initial_still b e h = by (slice_get u.nodes.items b) h
      where
        kinds : (kind : NodeKind) → InitialisesEntity kind e → acts kind ≡ false
        kinds (Initialise o paths) h = refl
        kinds kind h = absurd h

        by : (o : Option Node) → InitialisesIn o e → acts_in o ≡ false
        by None h = refl
        by (Some n) h = kinds n.kind h

    -- what acts stands under the body of a function
    record InBlock (n : ℕ) : Type 0 where
      up : Above s senses numbering u grown made n
      block : FunctionBlock s senses numbering u grown made up.top

    in_block : (n : ℕ) → acts_in (slice_get u.nodes.items n) ≡ true → (node : Node) → slice_get u.nodes.items n ≡ Some node → InBlock n
    in_block n act node at =
        let up = above s senses numbering u grown made n (slice_get_within u.nodes.items n node at) in
        by up (subst (λ (o : Option ℕ). IfSome o (λ b. (up.entity.storage ≡ FunctionBody) ⊎ Initialises (trees_of u) b up.number)) up.body (bodies up.number up.entity up.stands))
      where
        by : (up : Above s senses numbering u grown made n) → (up.entity.storage ≡ FunctionBody) ⊎ Initialises (trees_of u) up.top up.number → InBlock n
        by up (inl storage) = record { up = up; block = function_block s senses numbering u grown made up.number up.entity up.top up.stands storage up.body }
        by up (inr init) =
            let still = still_below (λ kind under. ⊤) never blind_never numbering u rows up.top n up.under (initial_still up.top up.number init) in
            let none : true ≡ false = sym act ∙ still in
            cc

    module _ (x : Option ℤ) where
      -- no switch of the tree has two such cases
      free : (i : ℕ) (c : Core) → is_a s p_statement i ≡ true → sense i ≡ IsCore c → weight_of (switch_weight x) c ≡ 0
      free i (Of kind place type parts) is sensed = by (is_switch kind) refl
        where
          light : (kind : NodeKind) → is_switch kind ≡ false → switch_weight x kind parts ≡ 0
          light Switch e = cc
          light kind e = refl

          inside : i < length senses
          inside = sense_there s senses grown made.are_senses made.whole counted runs follows shaped i (Of kind place type parts) sensed

          by : (b : Bool) → is_switch kind ≡ b → switch_weight x kind parts ≡ 0
          by false e = light kind e
          by true e =
              let switching = switch_only kind e in
              let begun = switch_begun s senses grown made.are_senses made.whole counted runs follows shaped i (Of kind place type parts) inside is sensed switching in
              let few = few_cases s senses grown made.are_senses made.whole counted runs follows shaped x i inside begun (Of kind place type parts) sensed switching in
              subst (λ (k : NodeKind). switch_weight x k parts ≡ 0) (sym switching) (heavy_none (marks_all (marking (is_case x)) is_switch parts) few)

      -- the tree of a switch's node
      record SwitchTree (n : ℕ) : Type 0 where
        core : Core
        stands : StandsBy numbering u n core
        light : weight_of (switch_weight x) core ≡ 0

      switch_tree : (n : ℕ) (node : Node) → slice_get u.nodes.items n ≡ Some node → is_switch node.kind ≡ true → SwitchTree n
      switch_tree n node at is =
          let act : acts_in (slice_get u.nodes.items n) ≡ true = ap acts_in at ∙ ap acts (switch_only node.kind is) in
          let h = in_block n act node at in
          let none = no_marks s senses grown made.are_senses made.whole counted runs (switch_weight x) never (switch_plain x) free h.block.block h.block.inside (right_on (is_a s p_statement h.block.block) (is_a s p_block h.block.block) h.block.is_block) in
          let value : marks (switch_weight x) never h.block.core ≡ 0 = sym (ap (marks_of (switch_weight x) never) h.block.sensed) ∙ none in
          let got = free_at (switch_weight x) never blind_never numbering u rows h.block.core h.up.top n h.block.stands value (every_way u never (λ kind. refl) h.up.top n h.up.under) act in
          record { core = got.0; stands = got.1; light = got.2 }
        where
          right_on : (a b : Bool) → b ≡ true → (a || b) ≡ true
          right_on true b e = refl
          right_on false b e = e

      ways : (n a : ℕ) (node other : Node) → slice_get u.nodes.items n ≡ Some node → is_switch node.kind ≡ true → slice_get u.nodes.items a ≡ Some other → is_case x other.kind ≡ true → IsCaseOf (trees_of u) n a → (c : ℕ) × Has node.children c × Way u is_switch c a
      ways n a node other at is there mark h =
          by (first_ways u is_switch n a node at (λ m third third_at stop up down. (h.innermost.each m third third_at).same (of_switch third.kind stop) up down) a h.under here)
        where
          by : (a ≡ n) ⊎ ((c : ℕ) × Has node.children c × Way u is_switch c a) → (c : ℕ) × Has node.children c × Way u is_switch c a
          by (inr way) = way
          by (inl same) =
              let one : other ≡ node = some_same (sym there ∙ (ap (λ (k : ℕ). slice_get u.nodes.items k) same ∙ at)) in
              let never : true ≡ false = sym is ∙ (ap (λ (y : Node). is_switch y.kind) (sym one) ∙ case_no_switch x other.kind mark) in
              cc

      -- two such cases of a switch are one
      one_case : (n a b : ℕ) (node first second : Node) → slice_get u.nodes.items n ≡ Some node → IsSwitch node.kind → slice_get u.nodes.items a ≡ Some first → slice_get u.nodes.items b ≡ Some second → is_case x first.kind ≡ true → is_case x second.kind ≡ true
          → IsCaseOf (trees_of u) n a → IsCaseOf (trees_of u) n b → a ≡ b
      one_case n a b node first second at switch at_a at_b mark_a mark_b in_a in_b = by (switch_tree n node at (switch_of node.kind switch))
        where
          way_a : (c : ℕ) × Has node.children c × Way u is_switch c a
          way_a = ways n a node first at (switch_of node.kind switch) at_a mark_a in_a

          way_b : (c : ℕ) × Has node.children c × Way u is_switch c b
          way_b = ways n b node second at (switch_of node.kind switch) at_b mark_b in_b

          by : SwitchTree n → a ≡ b
          by tree = core tree.core tree.stands tree.light
            where
              core : (c : Core) → StandsBy numbering u n c → weight_of (switch_weight x) c ≡ 0 → a ≡ b
              core (Of kind place type parts) (own, own_at, same, place_is, type_is, under_are) light =
                  let one : own ≡ node = some_same (sym own_at ∙ at) in
                  let is : is_switch kind ≡ true = same_test is_switch blind_switch numbering kind own.kind same ∙ (ap (λ (y : Node). is_switch y.kind) one ∙ switch_of node.kind switch) in
                  let few = none_heavy (marks_all (marking (is_case x)) is_switch parts) (subst (λ (k : NodeKind). switch_weight x k parts ≡ 0) (switch_only kind is) light) in
                  let stand : AllStandBy numbering u node.children parts = subst (λ (y : Node). AllStandBy numbering u y.children parts) one under_are in
                  one_of_all (is_case x) is_switch (case_plain x) (blind_case x) blind_switch numbering u rows parts node.children way_a.0 way_b.0 a b stand few way_a.1.0 way_b.1.0 way_a.1.1 way_b.1.1 way_a.2 way_b.2 (first, at_a, mark_a) (second, at_b, mark_b)

      differs : (a : ℕ) (node : Node) → slice_get u.nodes.items a ≡ Some node → is_case x node.kind ≡ true → DiffersInAll (trees_of u) a x
      unfolding DiffersIn
      differs a node at mark = record {
        each = λ n top top_at switch in_a. record { each = λ b other other_at case in_b. one_case n a b top node other top_at switch at other_at mark (case_of x other.kind case) in_a in_b };
      }

    distinct : DistinctCases (trees_of u)
    distinct a node at = by node.kind refl
      where
        by : (kind : NodeKind) → node.kind ≡ kind → CaseDiffers (trees_of u) a kind
        by (Case n) e = differs (Some n) a node at (ap (is_case (Some n)) e ∙ int_same n)
        by Default e = differs None a node at (ap (is_case None) e)
        by kind e = tt

grown : (tokens : Tokens) (unit : ℕ) (tree : Tree) (tag_number : ℕ → ℕ) → IsTokens tokens.text.now tokens.list.items → IsUnit tokens unit tree → IsGrown (numbered tag_number (source_of tokens tree))
grown tokens unit tree tag_number cut is = record {
  first = children_first tokens unit tree tag_number is;
  families = units_families tokens unit tree tag_number cut is;
  statements = statements_parsed tokens unit tree tag_number is;
  nested = units_nest tokens unit tree tag_number is;
}

made : (s : Source) (name : List ℕ) (u : Unit) (built : IsBuilt s name u) → IsMade s built.senses built.numbering u
made s name u built = record {
  are_senses = built.are_senses;
  whole = built.whole;
  each_declared = built.each_declared;
  no_other_entity = built.no_other_entity;
  ready = built.ready;
  no_other_node = built.no_other_node;
}

runs_of : (w : World) (entities : ℕ → Option Ctype) (x : Sense) → SoundSense w entities x → RunsOf x
runs_of w entities (IsRun cores) h = h.1
runs_of w entities x h = tt

pub cases_differ : CasesDiffer
cases_differ tokens unit tree tag_number name u cut is built w entities sound rows bodies a node at =
    let s : Source = numbered tag_number (source_of tokens tree) in
    let runs : RunsInitialise built.senses = record { each = λ i. runs_of w entities (sense_in built.senses i) (sound i) } in
    distinct s built.senses built.numbering u (grown tokens unit tree tag_number cut is) (made s name u built) (parts_are_counted tokens unit tree tag_number is) runs (parts_follow tokens unit tree tag_number is) (statements_shaped tokens unit tree tag_number is) rows bodies a node at
