-- What a row's answer shows.
use Rattle.std.proofs.Common.{◌≡◌, ◌==◌, ◌<◌, ℕ, zero, suc, length, All, ◌++◌, Bool, true, false, cond, ◌||◌, List, [], ◌∷◌, Result, Ok, Err, IfOk, refl, sym, ap, ◌∙◌, subst, ◌⊎◌, inl, inr}
use Rattle.std.proofs.lemmas.Bool.{eqb-true, eq-eqb}
use Rattle.std.proofs.lemmas.List.{length-map}
use Rattle.pta_base.specs.declared.kind.Kind.TheVariants.{NotBuilt}
use Rattle.core_tree.specs.declared.node.Unit.{Unit}
use Rattle.c_grammar.specs.Terminals.{contains}
use Rattle.c_grammar.specs.Productions.{p_struct, p_members, p_member, p_field, p_enum}
use Rattle.c_senses.specs.Tags.{is_tag_specifier, struct_row}
use Rattle.struct_rows.specs.Built.{built_struct}
use Rattle.struct_rows.proofs.Building.{struct_part}
use Rattle.limit_laws.proofs.struct_laws.Members.{never_unbuilt}
use Rattle.parsed_tree_laws.specs.family_laws.Families.{Families}
use Rattle.parsed_tree_laws.specs.sense_laws.Senses.{ChildrenFirst}
use Rattle.c_senses.specs.Right.{TagsDiffer}
use Rattle.c_conversions.specs.constant_values.Constants as constants
use Rattle.name_places.specs.Named.{IsNamedSense, IsNamedIn}
use Rattle.c_results.specs.declared.made.Made.TheVariants as made
use Rattle.statement_rows.specs.Kept.{HasAllRows}
use Rattle.c_inits.specs.Made.{TagParts}
use Rattle.c_structures.specs.Listed.{AreLists}
use Rattle.tree_reads.specs.declared.syntax.Syntax.{Syntax}
use Rattle.unit_worlds.specs.unit_limits.Unions.{AreUnions}
use Rattle.unit_worlds.proofs.unit_limits.Flags.{unions_built}
use Rattle.unit_walk.specs.declared.unit_rows.along.Along.{Along}
use Rattle.c_meanings.specs.declared.names.Names.{Names}
use Rattle.c_meanings.specs.declared.kept.Linkages.{Linkages}
use Rattle.c_meanings.specs.Linkages.{AreLinkages}
use Rattle.unit_walk.specs.unit_rows.Along.{AreAlong}
use Rattle.unit_walk.specs.unit_rows.Standing.{AreKept}
use Rattle.std.proofs.lemmas.List.Elements.{All-weaker, All-head, All-tail}
use Rattle.core_nodes.specs.declared.fault.CheckFault.{CheckFault}
use Rattle.core_nodes.specs.Standing.{Builds}
use Rattle.c_results.specs.declared.made.Made.{Made}
use Rattle.c_results.specs.Standing.{sense_made, senses_made, Rowed}
use Rattle.c_senses.specs.Given.{Given, Fits, Refuses}
use Rattle.c_senses.specs.Tree.{Source, production_at, children_at, is_a}
use Rattle.c_senses.specs.World.{World}
use Rattle.c_senses.specs.Sense.{Sense, Nothing, IsCore, IsType, IsSpecified, IsDeclarator, IsDerivation, IsParameter, IsMembers, IsValue, IsRun, IsInitial, sense_in}
use Rattle.c_senses.specs.Rows.{row_of, declaring_row, declarator_row, world_at, AreSenses}
use Rattle.c_senses.specs.Expressions.{expression_row}
use Rattle.parsed_tree_laws.specs.sense_laws.row_trees.Trees.{SenseHasRows}
use Rattle.unit_walk.specs.row_shapes.Kept.{Keeps}
use Rattle.unit_walk.specs.row_shapes.Kept as shapes
use Rattle.unit_walk.proofs.row_shapes.Rows.{rows_keep}
use Rattle.parsed_tree_laws.specs.sense_laws.Sound.{Gives}
use Rattle.statement_rows.specs.Told.{IsStatementPart}
use Rattle.unit_worlds.specs.Growing.{Grows, completed_at}
use Rattle.unit_worlds.proofs.Sensing.{none_at}
use Rattle.unit_walk.specs.unit_rows.Built.{is_part, is_derivation, is_statement, is_plain, is_limited, is_member, is_declarator, is_initial, is_expression}
use Rattle.unit_walk.proofs.unit_rows.Cover.{AllOf, one_of}

pub row_declaring : (w : World) (s : Source) (sense : ℕ → Sense) (p at : ℕ) (xs : List ℕ) → is_expression p ≡ false → row_of w s sense p at xs ≡ declaring_row w s sense p at xs
row_declaring w s sense p at xs e = ap (λ (b : Bool). cond b (expression_row w s sense p at xs) (declaring_row w s sense p at xs)) e

pub row_expression : (w : World) (s : Source) (sense : ℕ → Sense) (p at : ℕ) (xs : List ℕ) → is_expression p ≡ true → row_of w s sense p at xs ≡ expression_row w s sense p at xs
row_expression w s sense p at xs e = ap (λ (b : Bool). cond b (expression_row w s sense p at xs) (declaring_row w s sense p at xs)) e

-- statements, and what is no declarator and no structure
pub part_of_statement : (p : ℕ) → is_statement p ≡ true → IsStatementPart p
part_of_statement p e = one_of IsStatementPart p (2 ∷ 3 ∷ 29 ∷ 30 ∷ []) (refl, (refl, (refl, (refl, tt)))) e

abbrev Other : ℕ → Type 0
Other p = (shapes.is_initial p ≡ false) × ((shapes.is_declarator p ≡ false) × ((p == p_struct) ≡ false))

pub other_part : (p : ℕ) → is_part p ≡ true → Other p
other_part p e = one_of Other p (4 ∷ 6 ∷ 10 ∷ 11 ∷ 16 ∷ 18 ∷ []) ((refl, (refl, refl)), ((refl, (refl, refl)), ((refl, (refl, refl)), ((refl, (refl, refl)), ((refl, (refl, refl)), ((refl, (refl, refl)), tt)))))) e

pub other_derivation : (p : ℕ) → is_derivation p ≡ true → Other p
other_derivation p e = one_of Other p (22 ∷ 23 ∷ 24 ∷ []) ((refl, (refl, refl)), ((refl, (refl, refl)), ((refl, (refl, refl)), tt))) e

pub other_statement : (p : ℕ) → is_statement p ≡ true → Other p
other_statement p e = one_of Other p (2 ∷ 3 ∷ 29 ∷ 30 ∷ []) ((refl, (refl, refl)), ((refl, (refl, refl)), ((refl, (refl, refl)), ((refl, (refl, refl)), tt)))) e

-- where a row completes nothing
pub grows_so : (s : Source) (sense : ℕ → Sense) (at : ℕ) (u v : Unit) → is_a s p_struct at ≡ false → Builds u v → Grows u v (completed_at s sense at)
grows_so s sense at u v e b = subst (Grows u v) (sym (none_at s sense at e)) b

-- constants, in the words of the rows of tags
same_rows : (x : Sense) → SenseHasRows x → constants.SenseHasRows x
same_rows (IsCore c) h = h
same_rows Nothing h = tt
same_rows (IsType t) h = tt
same_rows (IsSpecified x) h = tt
same_rows (IsDeclarator name ds) h = tt
same_rows (IsDerivation d) h = tt
same_rows (IsParameter p) h = tt
same_rows (IsMembers ms) h = tt
same_rows (IsValue n) h = tt
same_rows (IsRun cs) h = tt
same_rows (IsInitial c n) h = tt

pub constants_of : (count : ℕ) (u : Unit) (rs : List Made) → AreKept count u rs → All (constants.HasConstants u) rs
constants_of count u rs h = All-weaker (λ (m : Made). Keeps count (sense_made u m)) (constants.HasConstants u) (λ m k. same_rows (sense_made u m) k.0) rs h

-- a specifier of an enumeration
pub specified_enum : (s : Source) (at : ℕ) → production_at s at ≡ p_enum → is_tag_specifier s at ≡ true
specified_enum s at e = ap (λ (p : ℕ). (p == p_struct) || (p == p_enum)) e

-- the last of some numbers
last_of : (p last : ℕ) (ks : List ℕ) → AllOf (λ k. p ≡ k → ⊥) ks → contains (ks ++ last ∷ []) p ≡ true → p ≡ last
last_of p last [] all e = by (last == p) refl e
  where
    by : (b : Bool) → (last == p) ≡ b → (b || false) ≡ true → p ≡ last
    by true f g = sym (eqb-true last p f)
    by false f g = cc
last_of p last (k ∷ ks) all e = by (last_of p last ks all.1) (k == p) refl e
  where
    by : (contains (ks ++ last ∷ []) p ≡ true → p ≡ last) → (b : Bool) → (k == p) ≡ b → (b || contains (ks ++ last ∷ []) p) ≡ true → p ≡ last
    by rest true f g = absurd (all.0 (sym (eqb-true k p f)))
    by rest false f g = rest g

pub last_part : (p : ℕ) → is_part p ≡ true → (p ≡ 4 → ⊥) → (p ≡ 6 → ⊥) → (p ≡ 10 → ⊥) → (p ≡ 11 → ⊥) → (p ≡ 16 → ⊥) → p ≡ 18
last_part p h a b c d e = last_of p 18 (4 ∷ 6 ∷ 10 ∷ 11 ∷ 16 ∷ []) (a, (b, (c, (d, (e, tt))))) h

pub last_derivation : (p : ℕ) → is_derivation p ≡ true → (p ≡ 22 → ⊥) → (p ≡ 23 → ⊥) → p ≡ 24
last_derivation p h a b = last_of p 24 (22 ∷ 23 ∷ []) (a, (b, tt)) h

-- what is kept of all results
pub kept_at : (count : ℕ) (u : Unit) (rs : List Made) → AreKept count u rs → (i : ℕ) → Keeps count (sense_in (senses_made u rs) i)
kept_at count u [] h i = (tt, (tt, tt))
kept_at count u (m ∷ rs) h zero = All-head (λ (r : Made). Keeps count (sense_made u r)) m rs h
kept_at count u (m ∷ rs) h (suc i) = kept_at count u rs (All-tail (λ (r : Made). Keeps count (sense_made u r)) m rs h) i

-- and of what a row gives
given_there : (u : Unit) (m : Made) (g : Given Sense) (P : Sense → Type 0) → g ≡ Fits (sense_made u m) → P (sense_made u m) → Gives P g
given_there u m g P e h = subst (Gives P) (sym e) h

pub keeps_there : (count : ℕ) (u v : Unit) (rs : List Made) (w : World) (s : Source) (p at : ℕ) (xs : List ℕ) (r : Result Made CheckFault) → AreKept count u rs
    → Rowed v r (row_of w s (sense_in (senses_made u rs)) p at xs)
    → IfOk r (λ m. is_expression p ≡ true → SenseHasRows (sense_made v m))
    → IfOk r (λ m. shapes.is_initial p ≡ true → HasAllRows (sense_made v m))
    → IfOk r (λ m. shapes.is_declarator p ≡ true → IsNamedSense count (sense_made v m))
    → IfOk r (λ m. Keeps count (sense_made v m))
keeps_there count u v rs w s p at xs (Err fault) kept row rows initial named = tt
keeps_there count u v rs w s p at xs (Ok m) kept row rows initial named =
    let g = row_of w s (sense_in (senses_made u rs)) p at xs in
    subst (Gives (Keeps count)) row
    (rows_keep count w s (sense_in (senses_made u rs)) (kept_at count u rs kept) p at xs
    (λ e. given_there v m g SenseHasRows row (rows e)) (λ e. given_there v m g HasAllRows row (initial e)) (λ e. given_there v m g (IsNamedSense count) row (named e)))

-- a structure or union, by its own row
pub structure_there : (s : Source) (v : Unit) (w : World) (sense : ℕ → Sense) (at : ℕ) (r : Result Made CheckFault) → production_at s at ≡ p_struct → Rowed v r (struct_row w s sense at) → Rowed v r (row_of w s sense (production_at s at) at (children_at s at))
structure_there s v w sense at r e h = subst (λ (p : ℕ). Rowed v r (row_of w s sense p at (children_at s at))) (sym e) h

pub length_made : (u : Unit) (rs : List Made) → length (senses_made u rs) ≡ length rs
length_made u rs = length-map rs (sense_made u)

-- its row is built, since each specifier's is behind the rows of the nodes before it
pub built_there : (s : Source) (senses : List Sense) (at : ℕ) → AreSenses s senses → ChildrenFirst s → TagsDiffer s → Families s → length senses ≡ at → at < length s.nodes → is_a s p_struct at ≡ true
    → built_struct (world_at s senses at) s (sense_in senses) at ≡ struct_row (world_at s senses at) s (sense_in senses) at
built_there s senses at are first differ families long inside struct = by (struct_part (world_at s senses at) s (sense_in senses) at)
  where
    by : (built_struct (world_at s senses at) s (sense_in senses) at ≡ struct_row (world_at s senses at) s (sense_in senses) at) ⊎ (built_struct (world_at s senses at) s (sense_in senses) at ≡ Refuses NotBuilt at)
        → built_struct (world_at s senses at) s (sense_in senses) at ≡ struct_row (world_at s senses at) s (sense_in senses) at
    by (inl same) = same
    by (inr none) = absurd (never_unbuilt s senses at are first differ families (sym long) inside struct none)

-- a specifier of a structure or union
pub specified_struct : (s : Source) (at : ℕ) → is_a s p_struct at ≡ true → is_tag_specifier s at ≡ true
specified_struct s at e = ap (λ (b : Bool). b || is_a s p_enum at) e

-- what is told of a production by its kind
plain_parts : (p : ℕ) → is_part p ≡ true → is_expression p ≡ false
plain_parts p e = one_of (λ q. is_expression q ≡ false) p (4 ∷ 6 ∷ 10 ∷ 11 ∷ 16 ∷ 18 ∷ []) (refl, (refl, (refl, (refl, (refl, (refl, tt)))))) e

plain_derivations : (p : ℕ) → is_derivation p ≡ true → is_expression p ≡ false
plain_derivations p e = one_of (λ q. is_expression q ≡ false) p (22 ∷ 23 ∷ 24 ∷ []) (refl, (refl, (refl, tt))) e

plain_statements : (p : ℕ) → is_statement p ≡ true → is_expression p ≡ false
plain_statements p e = one_of (λ q. is_expression q ≡ false) p (2 ∷ 3 ∷ 29 ∷ 30 ∷ []) (refl, (refl, (refl, (refl, tt)))) e

by_plain : (P : ℕ → Type 0) (p : ℕ) → (is_part p ≡ true → P p) → (is_derivation p ≡ true → P p) → (is_statement p ≡ true → P p) → is_plain p ≡ true → P p
by_plain P p f g h e = by (is_part p) (is_derivation p) refl refl e
  where
    by : (a b : Bool) → is_part p ≡ a → is_derivation p ≡ b → (a || (b || is_statement p)) ≡ true → P p
    by true b x y z = f x
    by false true x y z = g y
    by false false x y z = h z

pub plain_other : (p : ℕ) → is_plain p ≡ true → is_expression p ≡ false
plain_other p e = by_plain (λ q. is_expression q ≡ false) p (plain_parts p) (plain_derivations p) (plain_statements p) e

pub plain_own : (p : ℕ) → is_plain p ≡ true → Other p
plain_own p e = by_plain Other p (other_part p) (other_derivation p) (other_statement p) e

-- what asks for types within the limits
abbrev pub of_limited : List ℕ
of_limited = 12 ∷ 13 ∷ 14 ∷ 15 ∷ 19 ∷ 20 ∷ 21 ∷ 25 ∷ 26 ∷ 28 ∷ []

limited_in : (p : ℕ) → is_limited p ≡ true → contains of_limited p ≡ true
limited_in p e = orders (12 == p) (p == 12) (13 == p) (14 == p) (15 == p) (19 == p) (20 == p) (21 == p) (25 == p) (26 == p) (28 == p) (turned p 12) e
  where
    turned : (p k : ℕ) → (p == k) ≡ true → (k == p) ≡ true
    turned p k f = eq-eqb k p (sym (eqb-true p k f))

    orders : (x y a b c d e f g h i : Bool) → (y ≡ true → x ≡ true) → (y || ((a || (b || (c || false))) || ((d || (e || (f || false))) || (g || (h || (i || false)))))) ≡ true
        → (x || (a || (b || (c || (d || (e || (f || (g || (h || (i || false)))))))))) ≡ true
    orders true y a b c d e f g h i t z = refl
    orders false true a b c d e f g h i t z = absurd (let no : false ≡ true = t refl in cc)
    orders false false true b c d e f g h i t z = refl
    orders false false false true c d e f g h i t z = refl
    orders false false false false true d e f g h i t z = refl
    orders false false false false false true e f g h i t z = refl
    orders false false false false false false true f g h i t z = refl
    orders false false false false false false false true g h i t z = refl
    orders false false false false false false false false true h i t z = refl
    orders false false false false false false false false false true i t z = refl
    orders false false false false false false false false false false i t z = z

pub limited_so : (p : ℕ) → is_limited p ≡ true → is_expression p ≡ false
limited_so p e = one_of (λ q. is_expression q ≡ false) p of_limited (refl, (refl, (refl, (refl, (refl, (refl, (refl, (refl, (refl, (refl, tt)))))))))) (limited_in p e)

-- a row of a declaration, by the production and the children that were read
pub row_at : (w : World) (s : Source) (sense : ℕ → Sense) (p q at : ℕ) (xs ys : List ℕ) → p ≡ q → xs ≡ ys → is_expression q ≡ false → declaring_row w s sense p at xs ≡ row_of w s sense q at ys
row_at w s sense p q at xs ys e f h = ap (λ (r : ℕ). declaring_row w s sense r at xs) e ∙ (ap (declaring_row w s sense q at) f ∙ sym (row_declaring w s sense q at ys h))

-- what is kept beside a unit, once it is built on
pub along_on : (syntax : Syntax) (names : Names) (u v : Unit) (rs : List Made) (a : Along) (k : Linkages) → AreAlong syntax names u rs a → Builds u v → AreLinkages syntax rs names k
    → AreAlong syntax names v rs (record { lists = a.lists; unions = a.unions; linkages = k })
along_on syntax names u v rs a k h b l = record { lists = h.lists; unions = unions_built u v a.unions.items b h.unions; linkages = l }

pub along_by : (syntax : Syntax) (names : Names) (u : Unit) (rs : List Made) (a : Along) (r : Result Made CheckFault) → AreLists syntax rs a.lists → IfOk r (λ m. AreUnions u.types a.unions.items) → AreLinkages syntax rs names a.linkages
    → IfOk r (λ m. AreAlong syntax names u rs a)
along_by syntax names u rs a (Ok m) lists unions linkages = record { lists = lists; unions = unions; linkages = linkages }
along_by syntax names u rs a (Err fault) lists unions linkages = tt

-- a unit that grows has the tags that it had
pub tags_grown : (u v : Unit) (es : List TagParts) → Grows u v es → v.types.tags ≡ u.types.tags
tags_grown u v [] g = g.tags
tags_grown u v (e ∷ rest) g = g.tags

-- what is asked of nothing
pub unless : (b : Bool) → b ≡ false → (r : Result Made CheckFault) (P : Made → Type 0) → IfOk r (λ m. b ≡ true → P m)
unless b e (Ok m) P = λ t. let no : false ≡ true = sym e ∙ t in absurd (cc)
unless b e (Err fault) P = tt

pub given : (r : Result Made CheckFault) (P : Made → Type 0) (b : Bool) → IfOk r P → IfOk r (λ m. b ≡ true → P m)
given (Ok m) P b h = λ t. h
given (Err fault) P b h = tt

pub anyway : (r : Result Made CheckFault) (P : Type 0) → P → IfOk r (λ m. P)
anyway (Ok m) P h = h
anyway (Err fault) P h = tt

-- which of those that ask for types within the limits a production is
abbrev pub NoName : ℕ → Type 0
NoName p = (shapes.is_initial p ≡ false) × ((shapes.is_declarator p ≡ false) × ((p == p_struct) ≡ false))

pub of_member : (p : ℕ) → is_member p ≡ true → NoName p
of_member p e = one_of NoName p (13 ∷ 14 ∷ 15 ∷ []) ((refl, (refl, refl)), ((refl, (refl, refl)), ((refl, (refl, refl)), tt))) e

pub member_kind : (p : ℕ) → is_member p ≡ true → (p ≡ p_members) ⊎ ((p ≡ p_member) ⊎ (p ≡ p_field))
member_kind p e = one_of (λ q. (q ≡ p_members) ⊎ ((q ≡ p_member) ⊎ (q ≡ p_field))) p (13 ∷ 14 ∷ 15 ∷ []) (inl refl, (inr (inl refl), (inr (inr refl), tt))) e

pub of_declarator : (p : ℕ) → is_declarator p ≡ true → (shapes.is_initial p ≡ false) × ((p == p_struct) ≡ false)
of_declarator p e = one_of (λ q. (shapes.is_initial q ≡ false) × ((q == p_struct) ≡ false)) p (19 ∷ 20 ∷ 21 ∷ []) ((refl, refl), ((refl, refl), ((refl, refl), tt))) e

pub of_initial : (p : ℕ) → is_initial p ≡ true → (shapes.is_declarator p ≡ false) × ((p == p_struct) ≡ false)
of_initial p e = one_of (λ q. (shapes.is_declarator q ≡ false) × ((q == p_struct) ≡ false)) p (25 ∷ 26 ∷ 28 ∷ []) ((refl, refl), ((refl, refl), ((refl, refl), tt))) e

pub initial_there : (p : ℕ) → is_limited p ≡ true → (p ≡ 12 → ⊥) → is_member p ≡ false → is_declarator p ≡ false → is_initial p ≡ true
initial_there p e a b c = by (p == p_struct) (is_member p) (is_declarator p) refl b c e
  where
    by : (x y z : Bool) → (p == p_struct) ≡ x → y ≡ false → z ≡ false → (x || (y || (z || is_initial p))) ≡ true → is_initial p ≡ true
    by true y z f g h i = absurd (a (eqb-true p p_struct f))
    by false true z f g h i = cc
    by false false true f g h i = cc
    by false false false f g h i = i

pub declarator_there : (w : World) (s : Source) (sense : ℕ → Sense) (p q at : ℕ) (xs ys : List ℕ) → is_declarator q ≡ true → xs ≡ ys → is_expression q ≡ false → declarator_row w s sense at xs ≡ row_of w s sense q at ys
declarator_there w s sense p q at xs ys e f h =
    ap (declarator_row w s sense at) f
    ∙ (one_of (λ r. declarator_row w s sense at ys ≡ declaring_row w s sense r at ys) q (19 ∷ 20 ∷ 21 ∷ []) (refl, (refl, (refl, tt))) e
    ∙ sym (row_declaring w s sense q at ys h))

-- a name that is a node
named_one : (count : ℕ) (u : Unit) (m : Made) → IsNamedIn count m → IsNamedSense count (sense_made u m)
named_one count u made.Nothing h = tt
named_one count u (made.Node i) h = tt
named_one count u (made.Typed t) h = tt
named_one count u (made.Specifiers storage functions ty) h = tt
named_one count u (made.Declarator name ds) h = h
named_one count u (made.Derived d) h = tt
named_one count u (made.Parameter name ty) h = tt
named_one count u (made.Members members) h = tt
named_one count u (made.Value n) h = tt
named_one count u (made.Run nodes) h = tt
named_one count u (made.Initial node n) h = tt

pub named_sense : (count : ℕ) (u : Unit) (r : Result Made CheckFault) → IfOk r (IsNamedIn count) → IfOk r (λ m. IsNamedSense count (sense_made u m))
named_sense count u (Ok m) h = named_one count u m h
named_sense count u (Err fault) h = tt
