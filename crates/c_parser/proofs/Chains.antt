-- Levels of expressions are opened and ended at once as the table says.
use Rattle.std.proofs.Common.{◌≡◌, ℕ, zero, suc, ◌+◌, ◌-◌, ◌<◌, ◌≤◌, Bool, true, false, ltb, leb, ◌&&◌, T, List, [], ◌∷◌, ◌++◌, length, map, Some, None, Result, Ok, Err, inl, inr, refl, sym, ap, ◌∙◌, subst, arith}
use Rattle.std.proofs.lemmas.Bool.{cases_lt, le-leb}
use lib.Dec.{ltb→lt, leb→le}
use lib.Ieee.Fits.{and_l, and_r}
use Rattle.pta_base.specs.declared.kind.Kind.{Kind}
use Rattle.c_lexer.specs.declared.Token.{Token}
use Rattle.c_grammar.specs.declared.rows.Item.TheVariants as item
use Rattle.c_grammar.specs.declared.trees.SyntaxNode.{SyntaxNode}
use Rattle.c_grammar.specs.Names.{Names}
use Rattle.c_grammar.specs.Notes.{Noted, noted, no_notes, notes_begin}
use Rattle.c_grammar.specs.Table.{item_of}
use Rattle.c_grammar.specs.Terminals.{terminal}
use Rattle.c_grammar.specs.Refusals.{refusal}
use Rattle.c_grammar.specs.Tree.{nests}
use Rattle.c_grammar.specs.Reads.{Node, State, Fault, Walks, Opens, node_of, at_end, use_of, no_use, choice, enough, refused, unsupported, first, second, fits_at, chosen_at}
use Rattle.c_grammar.specs.Productions.{p_expression, p_assignment, p_conditional, p_logical_or, p_logical_and, p_inclusive_or, p_exclusive_or, p_and, p_equality, p_relational, p_shift, p_additive, p_multiplicative, p_cast, p_nothing, p_more_expressions, p_assigned, p_arms, p_more_logical_or, p_more_logical_and, p_more_inclusive_or, p_more_exclusive_or, p_more_and, p_more_equality, p_more_relational, p_more_shift, p_more_additive, p_more_multiplicative}
use Rattle.c_parser.specs.declared.levels.Part.{Part}
use Rattle.c_parser.specs.declared.reader.Own.{Own}
use Rattle.c_parser.specs.declared.reader.Frame.{Frame}
use Rattle.c_parser.specs.declared.reader.Progress.{Progress}
use Rattle.c_parser.specs.Parse.{state}
use Rattle.c_parser.specs.Lone.{level_of}
use Rattle.c_parser.specs.Levels.{is_run, outside, nested, is_chained, stays}
use Rattle.c_parser.specs.Leads.{Kept, kept, ended, ended_by, at_part, Rises, Ended, GoesOn, Ends, Leads, IsRaised}
use Rattle.c_parser.proofs.Steps.{own_begin, read_own, broken_own, helper}
use Rattle.c_parser.proofs.Leads.{rises_fault}
use Rattle.c_parser.proofs.Rows.{Stops, Ladder, Tailed, HasNode, between, none-nothing, row-nothing, nothing_chosen, row-expression, row-assignment, row-conditional, row-logical_or, row-logical_and, row-inclusive_or, row-exclusive_or, row-and, row-equality, row-relational, row-shift, row-additive, row-multiplicative, node-expression, node-assignment, node-conditional, node-logical_or, node-logical_and, node-inclusive_or, node-exclusive_or, node-and, node-equality, node-relational, node-shift, node-additive, node-multiplicative, node-cast, free-expression, free-assignment, free-conditional, free-logical_or, free-logical_and, free-inclusive_or, free-exclusive_or, free-and, free-equality, free-relational, free-shift, free-additive, free-multiplicative, stops-expression, stops-assignment, stops-conditional, stops-logical_or, stops-logical_and, stops-inclusive_or, stops-exclusive_or, stops-and, stops-equality, stops-relational, stops-shift, stops-additive, stops-multiplicative}

-- the parts of the tests
pub run_parts : (q p : ℕ) → is_run q p ≡ true → (p_expression ≤ q) × (q < p) × (p ≤ p_cast)
unfolding is_run
run_parts q p e =
    let h : T (leb p_expression q && (ltb q p && leb p p_cast)) = subst T (sym e) tt in
    let r = and_r (leb p_expression q) _ h in
    (leb→le _ _ (and_l (leb p_expression q) _ h), ltb→lt _ _ (and_l (ltb q p) _ r), leb→le _ _ (and_r (ltb q p) _ r))

run_true : (q p : ℕ) → p_expression ≤ q → q < p → p ≤ p_cast → is_run q p ≡ true
unfolding is_run
run_true q p l o h = rw (le-leb p_expression q l, le-leb (suc q) p o, le-leb p p_cast h) refl

pub chained_parts : (q d : ℕ) → is_chained q d ≡ true → (p_expression ≤ q) × (q < p_cast) × (d ≤ 253)
unfolding is_chained
chained_parts q d e =
    let h : T (leb p_expression q && (ltb q p_cast && leb d 253)) = subst T (sym e) tt in
    let r = and_r (leb p_expression q) _ h in
    (leb→le _ _ (and_l (leb p_expression q) _ h), ltb→lt _ _ (and_l (ltb q p_cast) _ r), leb→le _ _ (and_r (ltb q p_cast) _ r))

pub stays_parts : (l a d : ℕ) → stays l a d ≡ true → (level_of a < l) × (d ≤ 256)
unfolding stays
stays_parts l a d e =
    let h : T ((ltb a 128 && ltb (level_of a) l) && leb d 256) = subst T (sym e) tt in
    let m = and_l (ltb a 128 && ltb (level_of a) l) _ h in
    (ltb→lt _ _ (and_r (ltb a 128) _ m), leb→le _ _ (and_r (ltb a 128 && ltb (level_of a) l) _ h))

outside_run : (q p : ℕ) → is_run q p ≡ true → outside q p ≡ p - q
outside_run q p e = rw e refl

outside_self : (q l : ℕ) → q ≡ l → outside q l ≡ l - q
outside_self q l e = subst (λ x. outside q x ≡ x - q) e (self (is_run q q) refl)
  where
    self : (b : Bool) → is_run q q ≡ b → outside q q ≡ q - q
    self true h = let p = run_parts q q h in absurd (omega (arith, p.1))
    self false h = let z : q - q ≡ 0 = omega arith in rw h (sym z)

pub outside_is : (q l : ℕ) → p_expression ≤ q → q ≤ l → l ≤ p_cast → outside q l ≡ l - q
outside_is q l b o h =
    elim (cases_lt q l) [
      | inl g ↦ outside_run q l (run_true q l b g h)
      | inr g ↦ outside_self q l (omega arith)
    ]

-- how many constructs nest
pub nested_three : (q : ℕ) → p_expression ≤ q → q ≤ p_assignment → nested (p_cast - q) p_cast ≡ 3
unfolding nests
nested_three q l h = between (λ q. nested (p_cast - q) p_cast ≡ 3) p_expression 2 (refl, (refl, tt)) q l (omega arith)

pub nested_two : (q : ℕ) → p_assignment < q → q ≤ p_conditional → nested (p_cast - q) p_cast ≡ 2
unfolding nests
nested_two q l h = between (λ q. nested (p_cast - q) p_cast ≡ 2) p_conditional 1 (refl, tt) q (omega arith) (omega arith)

pub nested_one : (q : ℕ) → p_conditional < q → q ≤ p_cast → nested (p_cast - q) p_cast ≡ 1
unfolding nests
nested_one q l h = between (λ q. nested (p_cast - q) p_cast ≡ 1) p_logical_or 11 (refl, (refl, (refl, (refl, (refl, (refl, (refl, (refl, (refl, (refl, (refl, tt))))))))))) q (omega arith) (omega arith)

nested_few : (q : ℕ) → p_expression ≤ q → q ≤ p_cast → nested (p_cast - q) p_cast ≤ 3
nested_few q l h =
    elim (cases_lt p_conditional q) [
      | inl g ↦ let e = nested_one q g h in omega (arith, e)
      | inr g ↦
          elim (cases_lt p_assignment q) [
            | inl f ↦ let e = nested_two q f g in omega (arith, e)
            | inr f ↦ let e = nested_three q l f in omega (arith, e)
          ]
    ]

-- a chain of levels that is opened leaves room
pub chain_room : (q d : ℕ) → p_expression ≤ q → q < p_cast → d ≤ 253 → d + nested (p_cast - q) p_cast ≤ 256
chain_room q d l h room = let few = nested_few q l (omega arith) in omega (arith, few)

-- a state with nothing of its own
abbrev with_notes : State → Noted → State
with_notes s n = record s { children = []; notes = n }

abbrev pub clean : State → State
clean s = with_notes s no_notes

pub begins : (place : ℕ) (scopes : Names) (nodes : List SyntaxNode) (own new : Own) → new.children.items ≡ [] → noted new.notes ≡ no_notes → state place scopes nodes new ≡ clean (state place scopes nodes own)
begins place scopes nodes own new e f = cc

-- a level ends behind its first part
abbrev EndsBehind : ℕ → Type 0
EndsBehind m = (text : List ℕ) (tokens : List Token) (d : ℕ) (s : State) → d ≤ 256 → level_of (first text tokens s) < m → Walks text tokens m 1 d s (Ok s)

opens_nothing : (text : List ℕ) (tokens : List Token) (d : ℕ) (t : State) → d ≤ 256 → Opens text tokens p_nothing d t (Ok t)
opens_nothing text tokens d t h =
    let n : nests p_nothing ≡ 0 = none-nothing.1 in
    let deep : d + nests p_nothing ≤ 256 = omega arith in
    helper text tokens p_nothing d t deep (none-nothing.2 (first text tokens t) (second text tokens t)) (Ok t) none-nothing.0 (at_end row-nothing)

ladder : (p q m : ℕ) → Ladder p q m → Stops p m → EndsBehind p
ladder p q m i stop text tokens d s h below =
    let e : fits_at text tokens m s ≡ false = stop (first text tokens s) below (second text tokens s) s.notes in
    enough i.1 e (at_end i.2)

tailed : (p q m : ℕ) → Tailed p q m → Stops p m → EndsBehind p
tailed p q m i stop text tokens d s h below =
    let a = first text tokens s in
    let b = second text tokens s in
    let e : chosen_at text tokens m p_nothing s ≡ Some p_nothing = nothing_chosen m a b s.notes (stop a below b s.notes) in
    choice i.1 e (opens_nothing text tokens d s h) (at_end i.2)

-- what holds of each level outside of a cast, and of a cast too
abbrev Level : ℕ → Type 0
Level m = (item_of m 0 ≡ Some (item.Use (m + 1))) × ((a b : ℕ) → refusal m a b ≡ None) × EndsBehind m

level_is : (q : ℕ) → p_expression ≤ q → q < p_cast → Level q
level_is q l h = between Level p_expression 13 ((row-expression.0, free-expression, ladder p_expression p_assignment p_more_expressions row-expression stops-expression), ((row-assignment.0, free-assignment, tailed p_assignment p_conditional p_assigned row-assignment stops-assignment), ((row-conditional.0, free-conditional, tailed p_conditional p_logical_or p_arms row-conditional stops-conditional), ((row-logical_or.0, free-logical_or, ladder p_logical_or p_logical_and p_more_logical_or row-logical_or stops-logical_or), ((row-logical_and.0, free-logical_and, ladder p_logical_and p_inclusive_or p_more_logical_and row-logical_and stops-logical_and), ((row-inclusive_or.0, free-inclusive_or, ladder p_inclusive_or p_exclusive_or p_more_inclusive_or row-inclusive_or stops-inclusive_or), ((row-exclusive_or.0, free-exclusive_or, ladder p_exclusive_or p_and p_more_exclusive_or row-exclusive_or stops-exclusive_or), ((row-and.0, free-and, ladder p_and p_equality p_more_and row-and stops-and), ((row-equality.0, free-equality, ladder p_equality p_relational p_more_equality row-equality stops-equality), ((row-relational.0, free-relational, ladder p_relational p_shift p_more_relational row-relational stops-relational), ((row-shift.0, free-shift, ladder p_shift p_additive p_more_shift row-shift stops-shift), ((row-additive.0, free-additive, ladder p_additive p_multiplicative p_more_additive row-additive stops-additive), ((row-multiplicative.0, free-multiplicative, ladder p_multiplicative p_cast p_more_multiplicative row-multiplicative stops-multiplicative), tt))))))))))))) q l (omega arith)

node_is : (q : ℕ) → p_expression ≤ q → q ≤ p_cast → HasNode q
node_is q l h = between HasNode p_expression 14 (node-expression, (node-assignment, (node-conditional, (node-logical_or, (node-logical_and, (node-inclusive_or, (node-exclusive_or, (node-and, (node-equality, (node-relational, (node-shift, (node-additive, (node-multiplicative, (node-cast, tt)))))))))))))) q l (omega arith)

abbrev BeginsBare : ℕ → Type 0
BeginsBare q = (x : Noted) → notes_begin q x ≡ no_notes

begins_bare : (q : ℕ) → p_expression ≤ q → q ≤ p_cast → BeginsBare q
unfolding notes_begin
begins_bare q l h = between BeginsBare p_expression 14 ((λ x. refl), ((λ x. refl), ((λ x. refl), ((λ x. refl), ((λ x. refl), ((λ x. refl), ((λ x. refl), ((λ x. refl), ((λ x. refl), ((λ x. refl), ((λ x. refl), ((λ x. refl), ((λ x. refl), ((λ x. refl), tt)))))))))))))) q l (omega arith)

-- a level behind its first part, with notes
abbrev with_part : ℕ → Names → List Node → ℕ → Noted → State
with_part place scopes nodes part n = record { place = place; scopes = scopes; nodes = nodes; children = part ∷ []; notes = n }

module _ (text : List ℕ) (tokens : List Token) where
  opens_level : (q d : ℕ) (s : State) (y : Result State Fault) → p_expression ≤ q → q ≤ p_cast → d + nests q ≤ 256 → refusal q (first text tokens s) (second text tokens s) ≡ None
      → Walks text tokens q 0 (d + nests q) (clean s) y → Opens text tokens q d s (ended q s.place (Some (s.children, s.notes)) y)
  opens_level q d s (Ok t) l h room free w =
      let e : clean s ≡ own_begin q s = ap (λ (n : Noted). with_notes s n) (sym (begins_bare q l h s.notes)) in
      read_own text tokens q d s room free t (node_is q l h).0 (subst (λ x. Walks text tokens q 0 (d + nests q) x (Ok t)) e w)
  opens_level q d s (Err f) l h room free w =
      let e : clean s ≡ own_begin q s = ap (λ (n : Noted). with_notes s n) (sym (begins_bare q l h s.notes)) in
      broken_own text tokens q d s room free f (node_is q l h).0 (subst (λ x. Walks text tokens q 0 (d + nests q) x (Err f)) e w)

  abbrev OpensUp : ℕ → Type 0
  OpensUp n = (p d deep : ℕ) (s : State) (y z : Result State Fault) → p_expression + n ≤ p → p ≤ p_cast → deep ≡ d + nested n p → deep ≤ 256
      → refusal p (first text tokens s) (second text tokens s) ≡ None
      → Walks text tokens p 0 deep (clean s) y → Rises text tokens n p deep s.place (Some (s.children, s.notes)) y z → Opens text tokens (p - n) d s z

  -- a level is opened with those outside of it
  pub opens_up : (n : ℕ) → OpensUp n
  opens_up zero p d deep s y z l h e room free w r =
      let all : deep ≡ d + nests p = e in
      let fits : d + nests p ≤ 256 = omega (arith, all) in
      let o = opens_level p d s y (omega arith) h fits free (subst (λ k. Walks text tokens p 0 k (clean s) y) all w) in
      let q : p ≡ p - 0 = omega arith in
      subst (λ k. Opens text tokens k d s z) q (subst (λ x. Opens text tokens p d s x) (sym r) o)
  opens_up (suc n) p d deep s (Ok t) z l h e room free w (y, v, r) =
      let all : deep ≡ d + (nests p + nested n (p - 1)) = e in
      let up = deep - nests p in
      let back : deep ≡ up + nests p = omega (arith, all) in
      let fits : up + nests p ≤ 256 = omega (arith, all) in
      let o = opens_level p up (clean s) (Ok t) (omega arith) h fits free (subst (λ k. Walks text tokens p 0 k (clean s) (Ok t)) back w) in
      let is = level_is (p - 1) (omega arith) (omega arith) in
      let next : (p - 1) + 1 ≡ p = omega arith in
      let i : item_of (p - 1) 0 ≡ Some (item.Use p) = is.0 ∙ ap (λ k. Some (item.Use k)) next in
      let x = opens_up n (p - 1) d up s y z (omega arith) (omega arith) (omega (arith, all)) (omega (arith, room)) (is.1 (first text tokens s) (second text tokens s)) (use_of i o v) r in
      let q : (p - 1) - n ≡ p - suc n = omega arith in
      subst (λ k. Opens text tokens k d s z) q x
  opens_up (suc n) p d deep s (Err f) z l h e room free w r =
      let all : deep ≡ d + (nests p + nested n (p - 1)) = e in
      let up = deep - nests p in
      let back : deep ≡ up + nests p = omega (arith, all) in
      let fits : up + nests p ≤ 256 = omega (arith, all) in
      let o = opens_level p up (clean s) (Err f) (omega arith) h fits free (subst (λ k. Walks text tokens p 0 k (clean s) (Err f)) back w) in
      let is = level_is (p - 1) (omega arith) (omega arith) in
      let next : (p - 1) + 1 ≡ p = omega arith in
      let i : item_of (p - 1) 0 ≡ Some (item.Use p) = is.0 ∙ ap (λ k. Some (item.Use k)) next in
      let g = rises_fault text tokens n (p - 1) up s.place (Some (s.children, s.notes)) f in
      let x = opens_up n (p - 1) d up s (Err f) (Err f) (omega arith) (omega arith) (omega (arith, all)) (omega (arith, room)) (is.1 (first text tokens s) (second text tokens s)) (no_use i o) g in
      let q : (p - 1) - n ≡ p - suc n = omega arith in
      subst (λ k. Opens text tokens k d s z) q (subst (λ v. Opens text tokens ((p - 1) - n) d s v) (sym r) x)

  -- a cast is opened with the levels outside of it, from one on
  pub opens_chain : (q d deep : ℕ) (s : State) (y z : Result State Fault) → p_expression ≤ q → q < p_cast → deep ≡ d + nested (p_cast - q) p_cast → deep ≤ 256
      → refusal p_cast (first text tokens s) (second text tokens s) ≡ None
      → Walks text tokens p_cast 0 deep (clean s) y → Rises text tokens (p_cast - q) p_cast deep s.place (Some (s.children, s.notes)) y z → Opens text tokens q d s z
  opens_chain q d deep s y z l h e room free w r =
      let x = opens_up (p_cast - q) p_cast d deep s y z (omega arith) (omega arith) e room free w r in
      let back : p_cast - (p_cast - q) ≡ q = omega arith in
      subst (λ k. Opens text tokens k d s z) back x

  -- a cast that is refused where it begins
  pub chain_refused : (q d deep : ℕ) (s : State) (kind : Kind) → p_expression ≤ q → q < p_cast → deep ≡ d + nested (p_cast - q) p_cast → deep ≤ 256
      → refusal p_cast (first text tokens s) (second text tokens s) ≡ Some kind → Opens text tokens q d s (Err (unsupported kind s.place))
  chain_refused q d deep s kind l h e room is =
      let n = (p_cast - 1) - q in
      let count : p_cast - q ≡ suc n = omega arith in
      let all : deep ≡ d + (nests p_cast + nested n (p_cast - 1)) = e ∙ ap (λ k. d + nested k p_cast) count in
      let up = deep - nests p_cast in
      let fits : up + nests p_cast ≤ 256 = omega (arith, all) in
      let f : Fault = unsupported kind s.place in
      let o : Opens text tokens p_cast up (clean s) (Err f) = refused fits is in
      let outer = level_is (p_cast - 1) (omega arith) (omega arith) in
      let g = rises_fault text tokens n (p_cast - 1) up s.place (Some (s.children, s.notes)) f in
      let x = opens_up n (p_cast - 1) d up s (Err f) (Err f) (omega arith) (omega arith) (omega (arith, all)) (omega (arith, room)) (outer.1 (first text tokens s) (second text tokens s)) (no_use outer.0 o) g in
      let back : (p_cast - 1) - n ≡ q = omega arith in
      subst (λ k. Opens text tokens k d s (Err f)) back x

  -- a level that ends behind its first part
  level_raises : (outermost level depth token part place : ℕ) (scopes : Names) (nodes : List Node) (own : Kept) (z : Result State Fault)
      → p_expression ≤ outermost → outermost < level → level < p_cast → depth ≤ 256 → level_of (terminal text tokens scopes place) < level
      → GoesOn text tokens outermost (level - 1) (depth - nests level) token own (at_part place scopes (nodes ++ (record { production = level; token = token; children = part ∷ [] }) ∷ []) (length nodes)) z
      → GoesOn text tokens outermost level depth token own (at_part place scopes nodes part) z
  level_raises outermost level depth token part place scopes nodes own z l o h room below (y, w, r) =
      let s : State = at_part place scopes nodes part in
      let more : List Node = nodes ++ (record { production = level; token = token; children = part ∷ [] }) ∷ [] in
      let stay = (level_is level (omega arith) h).2 text tokens depth s room below in
      let up : ended_by level token (Some ([], no_notes)) s ≡ at_part place scopes more (length nodes) =
      ap (λ (n : Noted). with_part place scopes more (length nodes) n) ((node_is level (omega arith) (omega arith)).1 no_notes no_notes) in
      let v = subst (λ x. Walks text tokens (level - 1) 1 (depth - nests level) x y) (sym up) w in
      let count : suc ((level - 1) - outermost) ≡ level - outermost = omega arith in
      (Ok s, stay, subst (λ n. Rises text tokens n level depth token own (Ok s) z) count (y, v, r))

  goes_as : (outermost l l' d d' token place n n' : ℕ) (scopes : Names) (nodes nodes' : List Node) (own : Kept) (z : Result State Fault) → l ≡ l' → d ≡ d' → n ≡ n' → nodes ≡ nodes'
      → GoesOn text tokens outermost l d token own (at_part place scopes nodes n) z → GoesOn text tokens outermost l' d' token own (at_part place scopes nodes' n') z
  goes_as outermost l l' d d' token place n n' scopes nodes nodes' own z a b e f g =
      subst (λ x. GoesOn text tokens outermost l' d' token own (at_part place scopes x n') z) f
      (subst (λ x. GoesOn text tokens outermost l' d' token own (at_part place scopes nodes x) z) e
      (subst (λ x. GoesOn text tokens outermost l' x token own (at_part place scopes nodes n) z) b
      (subst (λ x. GoesOn text tokens outermost x d token own (at_part place scopes nodes n) z) a g)))

-- one level more has been ended
pub raised_more : (outermost token a : ℕ) (from to : Part) (start nodes nodes' : List Node) (now : Part) → p_expression ≤ outermost → outermost < now.level → now.level < p_cast → stays now.level a now.depth ≡ true
    → IsRaised outermost token a from start now nodes
    → to.level ≡ now.level - 1 → to.depth ≡ now.depth - nests now.level → to.number ≡ length nodes → nodes' ≡ nodes ++ (record { production = now.level; token = token; children = now.number ∷ [] }) ∷ []
    → IsRaised outermost token a from start to nodes'
raised_more outermost token a from to start nodes nodes' now l o h stay before e f g k = λ text tokens place scopes is own z goes.
    let p = stays_parts now.level a now.depth stay in
    let below : level_of (terminal text tokens scopes place) < now.level = subst (λ x. level_of x < now.level) (sym is) p.0 in
    let more : List Node = nodes ++ (record { production = now.level; token = token; children = now.number ∷ [] }) ∷ [] in
    let on = goes_as text tokens outermost to.level (now.level - 1) to.depth (now.depth - nests now.level) token place to.number (length nodes) scopes nodes' more own z e f g k goes in
    before text tokens place scopes is own z (level_raises text tokens outermost now.level now.depth token now.number place scopes nodes own z l o h p.1 below on)

-- the levels outside of a level that has been read
pub climbs : (text : List ℕ) (tokens : List Token) (old new : Progress) (scopes : Names) (nodes nodes' : List SyntaxNode) (made : List Node) (from to : Part) (a : ℕ)
    → is_run old.top.outermost old.top.production ≡ true → item_of old.top.production old.top.at ≡ None
    → from.level ≡ old.top.production - 1 → from.depth ≡ old.top.depth - nests old.top.production → from.number ≡ length (map node_of nodes)
    → made ≡ map node_of nodes ++ (record { production = old.top.production; token = old.top.token; children = old.own.children.items }) ∷ []
    → IsRaised old.top.outermost old.top.token a from made to (map node_of nodes') → terminal text tokens scopes old.ahead.place ≡ a
    → old.top.outermost ≤ to.level → to.level < p_cast
    → new.top ≡ record old.top { production = to.level; at = 1; depth = to.depth } → new.users ≡ old.users
    → state new.ahead.place scopes nodes' new.own ≡ at_part old.ahead.place scopes (map node_of nodes') to.number
    → (r : Result State Fault) → Leads text tokens new scopes nodes' r → Leads text tokens old scopes nodes r
climbs text tokens old new scopes nodes nodes' made from to a run none e f g k raised is low high top users behind r (y, w, (z, u, h)) =
    let p = old.top.production in
    let q = old.top.outermost in
    let own = kept old.top.outer in
    let parts = run_parts q p run in
    let v = subst (λ (f : Frame). Ended text tokens f y z) top u in
    let rises : Rises text tokens (to.level - q) to.level to.depth old.top.token own y z =
    subst (λ n. Rises text tokens n to.level to.depth old.top.token own y z) (outside_is q to.level parts.0 low (omega arith)) v in
    let walks = subst (λ x. Walks text tokens to.level 1 to.depth x y) behind (subst (λ (f : Frame). Walks text tokens f.production f.at f.depth (state new.ahead.place scopes nodes' new.own) y) top w) in
    let goes = raised text tokens old.ahead.place scopes is own z (y, walks, rises) in
    let more : List Node = map node_of nodes ++ (record { production = p; token = old.top.token; children = old.own.children.items }) ∷ [] in
    let on = goes_as text tokens q from.level (p - 1) from.depth (old.top.depth - nests p) old.top.token old.ahead.place from.number (length (map node_of nodes)) scopes made more own z e f g k goes in
    let t : State = state old.ahead.place scopes nodes old.own in
    let up : ended_by p old.top.token (Some ([], no_notes)) t ≡ at_part old.ahead.place scopes more (length (map node_of nodes)) =
    ap (λ (n : Noted). with_part old.ahead.place scopes more (length (map node_of nodes)) n) ((node_is p (omega (arith, parts.0, parts.1)) parts.2).1 t.notes no_notes) in
    let first_part = subst (λ x. Walks text tokens (p - 1) 1 (old.top.depth - nests p) x on.0) (sym up) on.1 in
    let count : suc ((p - 1) - q) ≡ outside q p = (let c : suc ((p - 1) - q) ≡ p - q = omega (arith, parts.1) in c ∙ sym (outside_run q p run)) in
    (Ok t, at_end none, (z, subst (λ n. Rises text tokens n p old.top.depth old.top.token own (Ok t) z) count (on.0, first_part, on.2), subst (λ us. Ends text tokens us.items z r) users h))
