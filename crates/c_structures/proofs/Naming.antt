-- Sets of names, and members one after another.
use Rattle.std.proofs.Common.{arith, ◌≡◌, ℕ, ◌+◌, Bool, true, false, ◌||◌, Option, Some, None, List, [], ◌∷◌, ◌++◌, length, refl, sym, ap, ◌∙◌, subst, map, take, get_or, ◌<◌, append_assoc, length-append}
use Rattle.std.specs.Prelude.{nat_lt}
use Rattle.std.specs.Global.{Vec}
use Rattle.std.specs.List.{list_any}
use Rattle.std.specs.BTreeSet.{BTreeSet, contains_by, UpdatesBy}
use Rattle.std.specs.Ordering.{nat_cmp}
use Rattle.std.specs.Set.{KeepsOthers}
use Rattle.std.specs.Map.{IsKeyTest, AreApart}
use Rattle.std.specs.Str.{bytes_eq}
use Rattle.std.specs.Cmp.Lexicographic.{slice_cmp, bytes_decides, nat_list_eq_equiv}
use Rattle.std.proofs.lemmas.Map.Text.{is_eq-slice_cmp}
use Rattle.std.proofs.lemmas.Bool.{cases_Bool}
use Rattle.std.proofs.lemmas.Bool.Decides.{nat_tests}
use Rattle.std.proofs.lemmas.List.{take_more}
use mathlib.Core.Logic.{⊎_elim}
use Rattle.c_types.specs.Table.{Table}
use Rattle.c_types.specs.declared.term.MemberTerm.{MemberTerm}
use Rattle.c_inits.specs.Made.{Part}
use Rattle.c_inits.specs.Tables.{part_of}
use Rattle.c_senses.specs.Tree.{Source}
use Rattle.c_senses.specs.World.{World, has_name}
use Rattle.c_senses.specs.Sense.{Sense}
use Rattle.c_senses.specs.Tags.{has_part_named}
use Rattle.c_structures.specs.declared.names.MemberNames.{MemberNames}
use Rattle.c_structures.specs.Named.{is_among, same_name, SaysNames}

pub tested : (set : BTreeSet (Vec ℕ)) (bs : List ℕ) → contains_by (λ k. slice_cmp nat_cmp bs k.items) set ≡ is_among set bs
tested set bs = ap (λ (test : Vec ℕ → Bool). list_any test set.keys) (λ i k. is_eq-slice_cmp bs k.items i)

apart : (bs cs ks : List ℕ) → bytes_eq bs cs ≡ false → bytes_eq bs ks ≡ true → bytes_eq cs ks ≡ false
apart bs cs ks n y = nat_list_eq_equiv.symm cs ks ∙ (sym (nat_list_eq_equiv.congr bs ks cs y) ∙ n)

module _ (eq : Vec ℕ → Vec ℕ → Bool) (test : Vec ℕ → Bool) where
  others : (old new : List (Vec ℕ)) → KeepsOthers eq test old new → (other : Vec ℕ → Bool) → IsKeyTest eq other → AreApart test other → list_any other new ≡ list_any other old
  unfolding KeepsOthers
  others old new h = h

by_bytes : (f g : List ℕ → Bool) (bs : List ℕ) → g bs ≡ true → ((cs : List ℕ) → bytes_eq bs cs ≡ false → g cs ≡ f cs) → (cs : List ℕ) → g cs ≡ (bytes_eq bs cs || f cs)
by_bytes f g bs here other cs =
    ⊎_elim
    (λ y. subst (λ l. g l ≡ true) ((bytes_decides bs cs).0 y) here ∙ sym (ap (λ (b : Bool). b || f cs) y))
    (λ n. other cs n ∙ sym (ap (λ (b : Bool). b || f cs) n))
    (cases_Bool (bytes_eq bs cs))

-- a set with one name more
pub updated : (old new : BTreeSet (Vec ℕ)) (key : Vec ℕ) → UpdatesBy (λ x y. slice_cmp nat_cmp x.items y.items) (λ y. slice_cmp nat_cmp key.items y.items) old new true → (name : List ℕ) →
    is_among new name ≡ (same_name key.items name || is_among old name)
updated old new key h name =
    by_bytes (is_among old) (is_among new) key.items (sym (tested new key.items) ∙ h.1)
    (λ cs e. others _ _ _ _ h.3 _ (λ x y l. nat_list_eq_equiv.congr cs x.items y.items l ∙ sym (is_eq-slice_cmp x.items y.items)) (λ k l. apart key.items cs k.items e (sym (is_eq-slice_cmp key.items k.items) ∙ l)))
    name

or_assoc : (a b c : Bool) → ((a || b) || c) ≡ (a || (b || c))
or_assoc true b c = refl
or_assoc false b c = refl

or_false : (a : Bool) → (a || false) ≡ a
or_false true = refl
or_false false = refl

or_swap : (a b : Bool) → (a || b) ≡ (b || a)
or_swap true true = refl
or_swap true false = refl
or_swap false true = refl
or_swap false false = refl

module _ (w : World) (s : Source) (sense : ℕ → Sense) where
  pub named_append : (name : List ℕ) (a b : List Part) → has_part_named w s sense name (a ++ b) ≡ (has_part_named w s sense name a || has_part_named w s sense name b)
  named_append name [] b = refl
  named_append name (m ∷ a) b = ap (λ (x : Bool). has_name name m.name || x) (named_append name a b) ∙ sym (or_assoc (has_name name m.name) (has_part_named w s sense name a) (has_part_named w s sense name b))

more_than_none : (a : List Part) (m : Part) → true ≡ nat_lt 0 (length (a ++ m ∷ []))
more_than_none a m = let more : 0 < length (a ++ m ∷ []) = omega (arith, length-append a (m ∷ [])) in grind (arith, nat_tests, more)

-- one member more, with a name or without
pub says_named : (old new : MemberNames) (parts : List Part) (m : Part) (own : List ℕ) → m.name ≡ Some own → new.any ≡ true → ((other : List ℕ) → is_among new.names other ≡ (same_name own other || is_among old.names other)) → SaysNames old parts → SaysNames new (parts ++ m ∷ [])
says_named old new parts m own name any added says = record {
  named = λ w s sense other.
      added other
      ∙ (or_swap (same_name own other) (is_among old.names other)
      ∙ (ap (λ (b : Bool). b || same_name own other) (says.named w s sense other)
      ∙ (sym (ap (λ (b : Bool). has_part_named w s sense other parts || b) (ap (λ (o : Option (List ℕ)). has_name other o || false) name ∙ or_false (same_name own other)))
      ∙ sym (named_append w s sense other parts (m ∷ [])))));
  any_are = any ∙ more_than_none parts m;
}

pub says_unnamed : (old new : MemberNames) (parts : List Part) (m : Part) → m.name ≡ None → new.any ≡ true → new.names ≡ old.names → SaysNames old parts → SaysNames new (parts ++ m ∷ [])
says_unnamed old new parts m name any same says = record {
  named = λ w s sense other.
      ap (λ (set : BTreeSet (Vec ℕ)). is_among set other) same
      ∙ (says.named w s sense other
      ∙ (sym (or_false (has_part_named w s sense other parts))
      ∙ (sym (ap (λ (b : Bool). has_part_named w s sense other parts || b) (ap (λ (o : Option (List ℕ)). has_name other o || false) name))
      ∙ sym (named_append w s sense other parts (m ∷ [])))));
  any_are = any ∙ more_than_none parts m;
}

map_append : {X Y : Type 0} (f : X → Y) (xs ys : List X) → map f (xs ++ ys) ≡ map f xs ++ map f ys
map_append f [] ys = refl
map_append f (x ∷ xs) ys = ap (λ (zs : List _). f x ∷ zs) (map_append f xs ys)

-- one more of some members
pub says_next : (table : Table) (ms : List MemberTerm) (i : ℕ) (m : MemberTerm) (names : MemberNames) (parts : List Part) → i < length ms → m ≡ get_or ms i m → SaysNames names ((parts ++ map (part_of table) (take i ms)) ++ part_of table m ∷ []) → SaysNames names (parts ++ map (part_of table) (take (i + 1) ms))
says_next table ms i m names parts h at says =
    let more : map (part_of table) (take (i + 1) ms) ≡ map (part_of table) (take i ms) ++ part_of table m ∷ [] = ap (map (part_of table)) (take_more ms i m h) ∙ (map_append (part_of table) (take i ms) (get_or ms i m ∷ []) ∙ ap (λ (x : MemberTerm). map (part_of table) (take i ms) ++ part_of table x ∷ []) (sym at)) in
    subst (λ (ps : List Part). SaysNames names ps) (append_assoc parts (map (part_of table) (take i ms)) (part_of table m ∷ []) ∙ ap (λ (ps : List Part). parts ++ ps) (sym more)) says
