-- Lists of declarations, from their ends and from their beginnings.
use Rattle.std.proofs.Common.{◌≡◌, ℕ, ◌<◌, ◌+◌, ◌||◌, ◌&&◌, Bool, true, false, Option, Some, None, List, [], ◌∷◌, ◌++◌, length, get_or, take, drop, suc, cond, refl, sym, ap, ◌∙◌, arith, add-one, append-nil, eqb, eq-eqb}
use Rattle.std.proofs.Math.Seq.{split_at, take-suc}
use Rattle.std.proofs.lemmas.Option.{slice_get_within, get_or_from_slice_get}
use Rattle.std.specs.List.{slice_get}
use Rattle.c_types.specs.Trees.{Ctype}
use Rattle.c_scope.specs.declared.kinds.Declared.{Declared}
use Rattle.c_senses.specs.Tree.{Source}
use Rattle.c_senses.specs.Sense.{Sense}
use Rattle.c_senses.specs.Entities.{some_such, keep, first_of, last_of, types_of, own_type, all_together, together, is_internal, is_internal_of, internal_among}
use Rattle.name_chains.specs.declared.links.Link.{Link}
use Rattle.c_senses.specs.Names.{ordinary_at}
use Rattle.name_chains.specs.Links.{listed, IsLinkOf, AreBackward, BeforeIs}
use Rattle.name_chains.specs.Symbols.{AreSymbols, of_symbol}
use Rattle.name_chains.proofs.Linked.{left, listed-step}
use Rattle.name_chains.proofs.Seeing.{IsAt}
use Rattle.c_meanings.specs.Internal.{first_internal}
use Rattle.c_meanings.specs.Joined.{with_own}

-- a list ends with the declaration of its last link
module _ (xs : List Link) (i : ℕ) (l : Link) (e : slice_get xs i ≡ Some l) (back : AreBackward xs) where
  pub ends : (at : Option ℕ) → at ≡ Some i → listed xs at ≡ listed xs l.before ++ l.declared ∷ []
  ends at is = ap (listed xs) is ∙ listed-step xs i l e back

  earlier : (last : Option ℕ) → BeforeIs i last → IsLinkOf xs last
  earlier None b = tt
  earlier (Some j) b = let lt = slice_get_within xs i l e in omega arith

  pub before_is : IsLinkOf xs l.before
  before_is = earlier l.before (back.each i l e)

  less : (last : Option ℕ) → BeforeIs i last → left last < i + 1
  less None b = omega arith
  less (Some j) b = omega arith

  pub before_less : (at : Option ℕ) → at ≡ Some i → left l.before < left at
  before_less at is = rw is (less l.before (back.each i l e))

keep_by : (b : Bool) (x : Declared) (xs ys all : List Declared) → all ≡ xs ++ ys → cond b (x ∷ all) all ≡ cond b (x ∷ xs) xs ++ ys
keep_by true x xs ys all e = ap (λ (l : List Declared). x ∷ l) e
keep_by false x xs ys all e = e

pub types_by : (o : Option Ctype) (ts us all : List Ctype) → all ≡ ts ++ us → (elim o as (λ p. List Ctype) [ None ↦ all | Some t ↦ t ∷ all ]) ≡ (elim o as (λ p. List Ctype) [ None ↦ ts | Some t ↦ t ∷ ts ]) ++ us
types_by None ts us all e = e
types_by (Some t) ts us all e = ap (λ (l : List Ctype). t ∷ l) e

symbol_by : (s : Source) (sense : ℕ → Sense) (b : Bool) (test : Declared → Bool) (x : Declared) (ds those all : List Declared) → all ≡ keep s sense test those
    → cond (b && test x) (x ∷ all) all ≡ keep s sense test (cond b (x ∷ those) those)
symbol_by s sense true test x ds those all e = ap (λ (l : List Declared). cond (test x) (x ∷ l) l) e
symbol_by s sense false test x ds those all e = e

module _ (s : Source) (sense : ℕ → Sense) where
  or-assoc : (a b c : Bool) → (a || (b || c)) ≡ ((a || b) || c)
  or-assoc true b c = refl
  or-assoc false b c = refl

  or-false : (a : Bool) → (a || false) ≡ a
  or-false true = refl
  or-false false = refl

  or-true : (a : Bool) → (a || true) ≡ true
  or-true true = refl
  or-true false = refl

  pub some-push : (test : Declared → Bool) (xs : List Declared) (d : Declared) → some_such s sense test (xs ++ d ∷ []) ≡ (some_such s sense test xs || test d)
  some-push test [] d = or-false (test d)
  some-push test (x ∷ xs) d = ap (λ (b : Bool). test x || b) (some-push test xs d) ∙ or-assoc (test x) (some_such s sense test xs) (test d)

  pub some_here : (test : Declared → Bool) (xs : List Declared) (d : Declared) → test d ≡ true → some_such s sense test (xs ++ d ∷ []) ≡ true
  some_here test xs d e = some-push test xs d ∙ (ap (λ (b : Bool). some_such s sense test xs || b) e ∙ or-true (some_such s sense test xs))

  pub some_earlier : (test : Declared → Bool) (xs : List Declared) (d : Declared) → test d ≡ false → some_such s sense test (xs ++ d ∷ []) ≡ some_such s sense test xs
  some_earlier test xs d e = some-push test xs d ∙ (ap (λ (b : Bool). some_such s sense test xs || b) e ∙ or-false (some_such s sense test xs))

  -- the first of those that are kept
  pub kept-append : (test : Declared → Bool) (xs ys : List Declared) → keep s sense test (xs ++ ys) ≡ keep s sense test xs ++ keep s sense test ys
  kept-append test [] ys = refl
  kept-append test (x ∷ xs) ys = keep_by (test x) x (keep s sense test xs) (keep s sense test ys) (keep s sense test (xs ++ ys)) (kept-append test xs ys)

  pub first_behind : (leaf : ℕ) (xs ys : List Declared) (d : Declared) → first_of s sense leaf (xs ++ d ∷ ys) ≡ first_of s sense d.node xs
  first_behind leaf [] ys d = refl
  first_behind leaf (x ∷ xs) ys d = refl

  first_with : (b : Bool) (leaf : ℕ) (xs : List Declared) (d : Declared) → first_of s sense leaf (xs ++ cond b (d ∷ []) []) ≡ first_of s sense (cond b d.node leaf) xs
  first_with true leaf xs d = first_behind leaf xs [] d
  first_with false leaf xs d = ap (first_of s sense leaf) (append-nil xs)

  -- the first that is kept, with one more at the end
  pub first-push : (test : Declared → Bool) (leaf : ℕ) (xs : List Declared) (d : Declared)
      → first_of s sense leaf (keep s sense test (xs ++ d ∷ [])) ≡ first_of s sense (cond (test d) d.node leaf) (keep s sense test xs)
  first-push test leaf xs d = ap (first_of s sense leaf) (kept-append test xs (d ∷ [])) ∙ first_with (test d) leaf (keep s sense test xs) d

  -- those behind one that is kept don't matter
  pub first_within : (test : Declared → Bool) (leaf : ℕ) (ds : List Declared) (k : ℕ) (d : Declared) → k < length ds → test (get_or ds k d) ≡ true
      → first_of s sense leaf (keep s sense test ds) ≡ first_of s sense leaf (keep s sense test (take (k + 1) ds))
  first_within test leaf ds k d lt e =
      let x = get_or ds k d in
      let front = keep s sense test (take k ds) in
      let rest = drop (suc k) ds in
      let here : keep s sense test (x ∷ rest) ≡ x ∷ keep s sense test rest = ap (λ (b : Bool). cond b (x ∷ keep s sense test rest) (keep s sense test rest)) e in
      let one : keep s sense test (x ∷ []) ≡ x ∷ [] = ap (λ (b : Bool). cond b (x ∷ []) []) e in
      let all : keep s sense test ds ≡ front ++ (x ∷ keep s sense test rest) =
      ap (keep s sense test) (split_at ds k d lt) ∙ (kept-append test (take k ds) (x ∷ rest) ∙ ap (λ (l : List Declared). front ++ l) here) in
      let some : keep s sense test (take (k + 1) ds) ≡ front ++ (x ∷ []) =
      ap (keep s sense test) (ap (λ (m : ℕ). take m ds) (add-one k) ∙ take-suc ds k d lt) ∙ (kept-append test (take k ds) (x ∷ []) ∙ ap (λ (l : List Declared). front ++ l) one) in
      ap (first_of s sense leaf) all
      ∙ (first_behind leaf front (keep s sense test rest) x ∙ (sym (first_behind leaf front [] x) ∙ sym (ap (first_of s sense leaf) some)))

  -- those of a symbol that are kept
  pub of-symbol : (symbol : ℕ) (test : Declared → Bool) (ds : List Declared)
      → keep s sense (λ d. eqb d.symbol symbol && test d) ds ≡ keep s sense test (of_symbol symbol ds)
  of-symbol symbol test [] = refl
  of-symbol symbol test (x ∷ ds) = symbol_by s sense (eqb x.symbol symbol) test x ds (of_symbol symbol ds) (keep s sense (λ d. eqb d.symbol symbol && test d) ds) (of-symbol symbol test ds)

  -- the last of a list
  pub last-push : (leaf : ℕ) (xs : List Declared) (d : Declared) → last_of s sense leaf (xs ++ d ∷ []) ≡ d.node
  last-push leaf [] d = refl
  last-push leaf (x ∷ xs) d = last-push x.node xs d

  -- the types that declarations give with one more
  types-push : (ds : List Declared) (d : Declared) → types_of s sense (ds ++ d ∷ []) ≡ types_of s sense ds ++ (elim (own_type s sense d.node) as (λ o. List Ctype) [ None ↦ [] | Some t ↦ t ∷ [] ])
  types-push [] d = refl
  types-push (x ∷ ds) d = types_by (own_type s sense x.node) (types_of s sense ds) _ (types_of s sense (ds ++ d ∷ [])) (types-push ds d)

  pub together-append : (o : Option Ctype) (ts us : List Ctype) → all_together o (ts ++ us) ≡ all_together (all_together o ts) us
  together-append None [] us = refl
  together-append (Some a) [] us = refl
  together-append None (t ∷ ts) us = together-append (Some t) ts us
  together-append (Some a) (t ∷ ts) us = together-append (Some (together a t)) ts us

  with_one : (o own : Option Ctype) → all_together o (elim own as (λ p. List Ctype) [ None ↦ [] | Some t ↦ t ∷ [] ]) ≡ with_own o own
  with_one None None = refl
  with_one (Some a) None = refl
  with_one None (Some t) = refl
  with_one (Some a) (Some t) = refl

  pub types_more : (o : Option Ctype) (ds : List Declared) (d : Declared) → all_together o (types_of s sense (ds ++ d ∷ [])) ≡ with_own (all_together o (types_of s sense ds)) (own_type s sense d.node)
  types_more o ds d = ap (all_together o) (types-push ds d) ∙ (together-append o (types_of s sense ds) _ ∙ with_one (all_together o (types_of s sense ds)) (own_type s sense d.node))

-- the first declaration of an internal name
pub first_of_symbol : (n : ℕ) (s : Source) (sense : ℕ → Sense) (links : List Link) (leaf k : ℕ) (d : Declared) → AreSymbols n s.declared.ordinary links → IsAt leaf s.declared.ordinary k d → is_internal s sense leaf ≡ true
    → first_internal s sense leaf (listed links (Some k)) ≡ first_of s sense leaf (internal_among s sense s.declared.ordinary (ordinary_at s leaf))
first_of_symbol n s sense links leaf k d h at e =
    let ds = s.declared.ordinary in
    let test : Declared → Bool = λ x. is_internal s sense x.node in
    let lt : k < length ds = slice_get_within ds k d at.at in
    let here : get_or ds k d ≡ d = get_or_from_slice_get ds k d d at.at in
    let passes : is_internal_of s sense d.symbol (get_or ds k d) ≡ true =
    ap (is_internal_of s sense d.symbol) here ∙ (ap (λ (b : Bool). b && is_internal s sense d.node) (eq-eqb d.symbol d.symbol refl) ∙ (ap (is_internal s sense) at.node ∙ e)) in
    ap (first_internal s sense leaf) (h.each k d at.at)
    ∙ (ap (first_of s sense leaf) (sym (of-symbol s sense d.symbol test (take (k + 1) ds)))
    ∙ (sym (first_within s sense (is_internal_of s sense d.symbol) leaf ds k d lt passes)
    ∙ ap (λ (o : Option Declared). first_of s sense leaf (internal_among s sense ds o)) (sym at.entry)))
