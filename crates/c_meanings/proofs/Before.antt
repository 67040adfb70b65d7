-- The declarations of a symbol before one of them.
use Rattle.std.proofs.Common.{◌≡◌, ◌+◌, ◌<◌, ℕ, Bool, true, cond, Option, Some, List, [], ◌∷◌, ◌++◌, length, get_or, take, eqb, eq-eqb, add-one, refl, sym, ap, ◌∙◌}
use Rattle.std.proofs.Math.Seq.{take-suc}
use Rattle.std.proofs.lemmas.List.{same_from_push}
use Rattle.std.proofs.lemmas.Option.{slice_get_within, get_or_from_slice_get}
use Rattle.std.specs.List.{slice_get}
use Rattle.c_scope.specs.declared.kinds.Declared.{Declared}
use Rattle.c_senses.specs.Tree.{Source}
use Rattle.c_senses.specs.Names.{made_before}
use Rattle.c_senses.specs.World.{World}
use Rattle.c_senses.specs.Sense.{Sense}
use Rattle.c_senses.specs.Entities.{keep, is_internal, internal_among, internal_before}
use Rattle.name_chains.specs.declared.links.Link.{Link}
use Rattle.name_chains.specs.Links.{listed}
use Rattle.name_chains.specs.Symbols.{AreSymbols, of_symbol}
use Rattle.name_chains.proofs.Chained.{filter-push}
use Rattle.name_chains.proofs.Linked.{listed-step}
use Rattle.name_chains.proofs.Seeing.{IsAt}
use Rattle.c_meanings.specs.Thinned.{those}
use Rattle.c_meanings.proofs.Lists.{of-symbol}

-- the list before a link is that of its symbol's declarations before it
symbol_front : (n : ℕ) (ds : List Declared) (links : List Link) (leaf k : ℕ) (d : Declared) (l : Link) → AreSymbols n ds links → IsAt leaf ds k d → slice_get links k ≡ Some l → listed links l.before ≡ of_symbol d.symbol (made_before leaf ds)
symbol_front n ds links leaf k d l h at e =
    let lt : k < length ds = slice_get_within ds k d at.at in
    let test : Declared → Bool = λ x. eqb x.symbol d.symbol in
    let here : get_or ds k d ≡ d = get_or_from_slice_get ds k d d at.at in
    let cut : take (k + 1) ds ≡ take k ds ++ d ∷ [] = ap (λ (m : ℕ). take m ds) (add-one k) ∙ (take-suc ds k d lt ∙ ap (λ (x : Declared). take k ds ++ x ∷ []) here) in
    let one : of_symbol d.symbol (take k ds ++ d ∷ []) ≡ of_symbol d.symbol (take k ds) ++ d ∷ [] =
    filter-push test (take k ds) d ∙ ap (λ (b : Bool). of_symbol d.symbol (take k ds) ++ cond b (d ∷ []) []) (eq-eqb d.symbol d.symbol refl) in
    let both : listed links l.before ++ l.declared ∷ [] ≡ of_symbol d.symbol (take k ds) ++ d ∷ [] =
    sym (listed-step links k l e h.backward) ∙ (h.each k d at.at ∙ (ap (of_symbol d.symbol) cut ∙ one)) in
    (same_from_push (listed links l.before) (of_symbol d.symbol (take k ds)) l.declared d both).0 ∙ ap (of_symbol d.symbol) (sym at.before)

pub symbol_internal : (n : ℕ) (w : World) (s : Source) (sense : ℕ → Sense) (links : List Link) (leaf k : ℕ) (d : Declared) (l : Link) → AreSymbols n s.declared.ordinary links → IsAt leaf s.declared.ordinary k d
    → slice_get links k ≡ Some l → those true s sense (listed links l.before) ≡ internal_before w s sense leaf
symbol_internal n w s sense links leaf k d l h at e =
    let ds = s.declared.ordinary in
    let test : Declared → Bool = λ x. is_internal s sense x.node in
    ap (keep s sense test) (symbol_front n ds links leaf k d l h at e)
    ∙ (sym (of-symbol s sense d.symbol test (made_before leaf ds))
    ∙ ap (λ (o : Option Declared). internal_among s sense (made_before leaf ds) o) (sym at.entry))
