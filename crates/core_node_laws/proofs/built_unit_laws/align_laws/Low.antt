-- Alignments of proper types.
use Rattle.std.proofs.Common.{arith, ◌≡◌, ℕ, suc, ◌≤◌, ◌<◌, Bool, true, false, eqb, cond, max, List, [], ◌∷◌, ◌++◌, map, Option, Some, None, refl, subst, pos}
use Rattle.std.specs.Prelude.{⊤, nat_le, if◌then◌else◌}
use Rattle.std.specs.Int.Signed.{le_z_yes, lt_z_yes}
use native.Mathlib.Nat.{max-le}
use Rattle.std.proofs.Math.Facts.{yes_ltb, yes_leb}
use Rattle.std.proofs.lemmas.Bool.{leb-true}
use Rattle.c_types.specs.Trees.{Ctype, VoidType, BoolType, IntegerType, FloatingType, VaListType, PointerTo, ArrayOf, FunctionFrom, StructureOf, UnionOf}
use Rattle.c_types.specs.Layout.{Extent, Look, repeated, beside, placed, first_extent, structure_of, above, overlaid, union_of, of_members, extent_of, flexible, element_extent, or_flexible, member_extent, looked_up, laid_out}
use Rattle.core_tree.specs.Typed.{Holds}
use Rattle.c_grammar.specs.Productions.{p_struct, p_members}
use Rattle.c_inits.specs.Made.{Part, TagParts}
use Rattle.c_senses.specs.Tree.{Source, is_a, child_of}
use Rattle.c_senses.specs.Literals.{unsigned_long}
use Rattle.c_senses.specs.Tags.{tag_of, completed_from, completions_of, look_of, types_of_parts}
use Rattle.c_senses.specs.Sense.{Sense, IsMembers}
use Rattle.c_initialise.specs.passed.sense_laws.Sound.{IsProper, IsSmall}
use Rattle.c_initialise.specs.passed.sense_laws.Senses.{AreProperParts}

max_low : (a b n : ℕ) → a ≤ n → b ≤ n → max a b ≤ n
max_low a b n h k = max-le h k

abbrev Low : Extent → Type 0
Low e = e.align ≤ 16

abbrev SomeLow : Option Extent → Type 0
SomeLow None = ⊤
SomeLow (Some e) = Low e

abbrev AllLow : List Extent → Type 0
AllLow [] = ⊤
AllLow (e ∷ rest) = Low e × AllLow rest

abbrev ListLow : Option (List Extent) → Type 0
ListLow None = ⊤
ListLow (Some es) = AllLow es

placed_low : (e : Extent) (es : List Extent) → Low e → AllLow es → Low (placed e es)
placed_low e [] h k = h
placed_low e (m ∷ es) h k = placed_low (beside e m) es (max_low e.align m.align 16 h k.0) k.1

overlaid_low : (e : Extent) (es : List Extent) → Low e → AllLow es → Low (overlaid e es)
overlaid_low e [] h k = h
overlaid_low e (m ∷ es) h k = overlaid_low (above e m) es (max_low e.align m.align 16 h k.0) k.1

first_low : (t : Ctype) → Low (first_extent t)
first_low t = omega arith

structure_low : (t : Ctype) (o : Option (List Extent)) → ListLow o → SomeLow (of_members (structure_of t) o)
structure_low t None h = tt
structure_low t (Some es) h = placed_low (first_extent t) es (first_low t) h

union_low : (t : Ctype) (o : Option (List Extent)) → ListLow o → SomeLow (of_members (union_of t) o)
union_low t None h = tt
union_low t (Some es) h = overlaid_low (first_extent t) es (first_low t) h

repeated_low : (n : ℕ) (o : Option Extent) → SomeLow o → SomeLow (repeated n o)
repeated_low n None h = tt
repeated_low n (Some e) h = h

small_low : (size : ℕ) (b : Bool) → nat_le size 8 ≡ b → IsSmall b → size ≤ 16
small_low size true e h = let le = leb-true size 8 e in omega (arith, le)
small_low size false e h = absurd h

module _ (look : Look) (low : (tag : ℕ) → ListLow (look tag)) where
  pub extent_low : (t : Ctype) → IsProper t → SomeLow (extent_of look t)
  extent_low VoidType h = tt
  extent_low BoolType h = omega arith
  extent_low (IntegerType size rank signed) h = small_low size (nat_le size 8) refl h
  extent_low FloatingType h = omega arith
  extent_low VaListType h = omega arith
  extent_low (PointerTo to) h = omega arith
  extent_low (ArrayOf of None) h = tt
  extent_low (ArrayOf of (Some n)) h = repeated_low n (extent_of look of) (extent_low of h)
  extent_low (FunctionFrom r ps form) h = tt
  extent_low (StructureOf tag) h = structure_low (StructureOf tag) (look tag) (low tag)
  extent_low (UnionOf tag) h = union_low (UnionOf tag) (look tag) (low tag)

  element_low : (t : Ctype) → IsProper t → SomeLow (element_extent look t)
  element_low (ArrayOf of n) h = extent_low of h
  element_low t h = tt

  flexible_low : (o : Option Extent) → SomeLow o → Low (flexible o)
  flexible_low None h = omega arith
  flexible_low (Some e) h = h

  or_low : (o element : Option Extent) → SomeLow o → SomeLow element → Low (or_flexible o element)
  or_low None element h k = flexible_low element k
  or_low (Some e) element h k = h

  member_low : (t : Ctype) → IsProper t → Low (member_extent look t)
  member_low t h = or_low (extent_of look t) (element_extent look t) (extent_low t h) (element_low t h)

  members_low : (parts : List Part) → AreProperParts parts → AllLow (map (member_extent look) (types_of_parts parts))
  members_low [] h = tt
  members_low (m ∷ parts) h = (member_low m.type h.0, members_low parts h.1)

-- the tags that are laid out
abbrev DoneLow : List (ℕ × List Extent) → Type 0
DoneLow [] = ⊤
DoneLow (entry ∷ rest) = AllLow entry.1 × DoneLow rest

look_low : (done : List (ℕ × List Extent)) → DoneLow done → (tag : ℕ) → ListLow (looked_up done tag)
look_low [] h tag = tt
look_low (entry ∷ rest) h tag = by (eqb entry.0 tag) h.0 (look_low rest h.1 tag)
  where
    by : (b : Bool) → AllLow entry.1 → ListLow (looked_up rest tag) → ListLow (cond b (Some entry.1) (looked_up rest tag))
    by true own later = own
    by false own later = later

more_low : (done : List (ℕ × List Extent)) (entry : ℕ × List Extent) → DoneLow done → AllLow entry.1 → DoneLow (done ++ entry ∷ [])
more_low [] entry h k = (k, tt)
more_low (d ∷ done) entry h k = (h.0, more_low done entry h.1 k)

abbrev pub AreProperTags : List TagParts → Type 0
AreProperTags [] = ⊤
AreProperTags (c ∷ rest) = AreProperParts c.members × AreProperTags rest

laid_low : (done : List (ℕ × List Extent)) (tags : List TagParts) → DoneLow done → AreProperTags tags → DoneLow (laid_out done (completions_of tags))
laid_low done [] h k = h
laid_low done (c ∷ tags) h k =
    let entry : ℕ × List Extent = (c.tag, map (member_extent (looked_up done)) (types_of_parts c.members)) in
    laid_low (done ++ entry ∷ []) tags (more_low done entry h (members_low (looked_up done) (look_low done h) c.members k.0)) k.1

pub look_of_low : (tags : List TagParts) → AreProperTags tags → (tag : ℕ) → ListLow (look_of tags tag)
look_of_low tags h tag = look_low (laid_out [] (completions_of tags)) (laid_low [] tags tt h) tag

-- the structures and unions that are completed
abbrev pub HasProperParts : Sense → Type 0
HasProperParts (IsMembers parts) = AreProperParts parts
HasProperParts x = ⊤

module _ (s : Source) (f : ℕ → Sense) (proper : (i : ℕ) → HasProperParts (f i)) where
  by_sense : (i : ℕ) (x : Sense) (more : List TagParts) → HasProperParts x → AreProperTags more
      → AreProperTags (elim x as (λ _. List TagParts) [ IsMembers parts ↦ record { tag = tag_of s i; members = parts } ∷ more | _ ↦ more ])
  by_sense i (IsMembers parts) more h k = (h, k)
  by_sense i x more h k = k

  by_list : (i : ℕ) (o : Option ℕ) (more : List TagParts) → AreProperTags more
      → AreProperTags (elim o as (λ _. List TagParts) [ None ↦ more | Some list ↦ elim (f list) as (λ _. List TagParts) [ IsMembers parts ↦ record { tag = tag_of s i; members = parts } ∷ more | _ ↦ more ] ])
  by_list i None more k = k
  by_list i (Some list) more k = by_sense i (f list) more (proper list) k

  pub completed_proper : (xs : List Sense) (i : ℕ) → AreProperTags (completed_from s xs f i)
  completed_proper [] i = tt
  completed_proper (x ∷ xs) i = by_list i (if is_a s p_struct i then child_of s p_members i else None) (completed_from s xs f (suc i)) (completed_proper xs (suc i))

-- a low alignment is a number that the type of sizes holds
pub low_holds : (n : ℕ) → n ≤ 16 → Holds unsigned_long (pos n)
low_holds n le = let lt : n < 18446744073709551616 = omega (arith, le) in (le_z_yes (yes_leb (omega arith)), lt_z_yes (yes_ltb lt))

pub some_low : (o : Option Extent) (e : Extent) → o ≡ Some e → SomeLow o → e.align ≤ 16
some_low None e same h = cc
some_low (Some x) e same h = let one : x ≡ e = cc in subst Low one h
