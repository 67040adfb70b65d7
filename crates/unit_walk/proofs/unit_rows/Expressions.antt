-- Rows of expressions, and of nodes that stand for nothing.
use Rattle.std.proofs.Common.{arith, ◌≡◌, ◌==◌, ◌<◌, ◌≤◌, ℕ, Bool, true, false, ◌||◌, ◌&&◌, nat_lt, List, Result, All, refl, sym, ◌∙◌, subst, inl, inr}
use Rattle.std.specs.Prelude.{nat_le}
use Rattle.std.proofs.lemmas.Bool.{ltb-true, leb-true}
use Rattle.std.proofs.lemmas.Bool.Decides.{eqb_tells}
use Rattle.std.proofs.lemmas.List.Elements.{All-weaker}
use Rattle.c_grammar.specs.Terminals.{contains}
use Rattle.c_grammar.specs.Productions.{p_struct, p_init, p_items, p_declarator, p_abstract, p_either}
use Rattle.core_tree.specs.declared.node.Unit.{Unit}
use Rattle.core_nodes.specs.declared.fault.CheckFault.{CheckFault}
use Rattle.c_results.specs.declared.made.Made.{Made}
use Rattle.c_results.specs.declared.made.Made.TheVariants as made
use Rattle.c_results.specs.Standing.{sense_made, Rowed}
use Rattle.c_senses.specs.Tree.{Source, production_at, children_at}
use Rattle.c_senses.specs.World.{World}
use Rattle.c_senses.specs.Sense.{Sense}
use Rattle.c_senses.specs.Rows.{row_of}
use Rattle.name_uses.specs.PassedOn.{built_row}
use Rattle.name_uses.specs.PassedOn.{IsReadable}
use Rattle.name_uses.proofs.PassedOn.{built_whole}
use Rattle.name_places.specs.Named.{IsNamedSense, IsNamedIn}
use Rattle.parsed_tree_laws.specs.sense_laws.row_trees.Trees.{SenseHasRows}
use Rattle.unit_walk.specs.row_shapes.Kept.{Keeps}
use Rattle.unit_walk.specs.row_shapes.Kept as shapes
use Rattle.unit_walk.specs.unit_rows.Built.{lists, lists_others, is_expression}
use Rattle.unit_walk.specs.unit_rows.Standing.{AreKept}
use Rattle.unit_walk.proofs.unit_rows.Answers.{row_expression}
use Rattle.unit_walk.proofs.unit_rows.Cover.{one_of}

both_ways : (a b : Bool) → (a && b) ≡ true → a ≡ true
both_ways true b e = refl
both_ways false b e = cc

apart : (q k : ℕ) → 31 ≤ q → k < 31 → (q == k) ≡ false
apart q k h l = elim (eqb_tells q k) [ inl p ↦ absurd (omega (arith, h, l, p.1)) | inr p ↦ p.0 ]

none : (a b : Bool) → a ≡ false → b ≡ false → (a || b) ≡ false
none true b e f = cc
none false b e f = f

high : (q : ℕ) → is_expression q ≡ true → 31 ≤ q
high q e = leb-true 31 q (both_ways (nat_le 31 q) (nat_le q 47) e)

pub no_struct : (q : ℕ) → is_expression q ≡ true → (q == p_struct) ≡ false
no_struct q e = apart q p_struct (high q e) (omega arith)

pub no_initial : (q : ℕ) → is_expression q ≡ true → shapes.is_initial q ≡ false
no_initial q e = none (q == p_init) (q == p_items) (apart q p_init (high q e) (omega arith)) (apart q p_items (high q e) (omega arith))

pub no_declarator : (q : ℕ) → is_expression q ≡ true → shapes.is_declarator q ≡ false
no_declarator q e =
    none (q == p_declarator) ((q == p_abstract) || (q == p_either)) (apart q p_declarator (high q e) (omega arith))
    (none (q == p_abstract) (q == p_either) (apart q p_abstract (high q e) (omega arith)) (apart q p_either (high q e) (omega arith)))

-- the row of an expression whose constants and strings can be read
pub expression_there : (w : World) (s : Source) (sense : ℕ → Sense) (at : ℕ) (u : Unit) (r : Result Made CheckFault) → is_expression (production_at s at) ≡ true → IsReadable s at
    → Rowed u r (built_row w s sense (production_at s at) at (children_at s at)) → Rowed u r (row_of w s sense (production_at s at) at (children_at s at))
expression_there w s sense at u r e readable h =
    subst (Rowed u r) (built_whole w s sense at readable ∙ sym (row_expression w s sense (production_at s at) at (children_at s at) e)) h

-- what stands for nothing is no structure
pub lists_no_struct : (q : ℕ) → lists_others q ≡ true → (q == p_struct) ≡ false
lists_no_struct q e = by (contains lists q) (nat_lt 47 q) refl refl e
  where
    by : (a b : Bool) → contains lists q ≡ a → nat_lt 47 q ≡ b → (a || b) ≡ true → (q == p_struct) ≡ false
    by true b f g h = one_of (λ p. (p == p_struct) ≡ false) q lists (refl, (refl, (refl, (refl, (refl, (refl, (refl, (refl, tt)))))))) f
    by false true f g h = elim (eqb_tells q p_struct) [ inl p ↦ absurd (omega (arith, ltb-true 47 q g, p.1)) | inr p ↦ p.0 ]
    by false false f g h = cc

-- what is asked of the results before an expression
pub rows_made : (count : ℕ) (u : Unit) (rs : List Made) → AreKept count u rs → All (λ m. SenseHasRows (sense_made u m)) rs
rows_made count u rs h = All-weaker (λ (m : Made). Keeps count (sense_made u m)) (λ (m : Made). SenseHasRows (sense_made u m)) (λ m k. k.0) rs h

named_in : (count : ℕ) (u : Unit) (m : Made) → IsNamedSense count (sense_made u m) → IsNamedIn count m
named_in count u made.Nothing h = tt
named_in count u (made.Node i) h = tt
named_in count u (made.Typed t) h = tt
named_in count u (made.Specifiers storage functions ty) h = tt
named_in count u (made.Declarator name ds) h = h
named_in count u (made.Derived d) h = tt
named_in count u (made.Parameter name ty) h = tt
named_in count u (made.Members members) h = tt
named_in count u (made.Value n) h = tt
named_in count u (made.Run nodes) h = tt
named_in count u (made.Initial node n) h = tt

pub names_in : (count : ℕ) (u : Unit) (rs : List Made) → AreKept count u rs → All (IsNamedIn count) rs
names_in count u rs h = All-weaker (λ (m : Made). Keeps count (sense_made u m)) (IsNamedIn count) (λ m k. named_in count u m k.1.1) rs h
