-- Fronts of lists of declarations.
use Rattle.std.proofs.Common.{◌≡◌, ℕ, Bool, true, false, Option, List, [], ◌∷◌, ◌++◌, append_assoc, cond, sym, ap, ◌∙◌}
use Rattle.c_scope.specs.declared.kinds.Declared.{Declared}
use Rattle.c_senses.specs.Tree.{Source}
use Rattle.c_senses.specs.Sense.{Sense}
use Rattle.c_senses.specs.Entities.{keep, first_of, is_internal, is_static_at_file}
use Rattle.name_chains.specs.declared.links.Link.{Link}
use Rattle.name_chains.specs.Links.{listed, AreBackward}
use Rattle.name_chains.proofs.Linked.{listed-step}
use Rattle.c_meanings.specs.declared.statics.StaticSeen.{StaticSeen}
use Rattle.c_meanings.specs.Internal.{first_internal}
use Rattle.c_meanings.specs.Statics.{some_static, IsFront}
use Rattle.c_meanings.proofs.Tests.{or_none}
use Rattle.c_meanings.proofs.Lists.{kept-append, first_behind, some-push}

-- where none of a list is `static`, none of its front is
pub front_none : (links : List Link) (seen : StaticSeen) (last : Option ℕ) (s : Source) (sense : ℕ → Sense) → AreBackward links → IsFront links seen last
    → seen.is_static ≡ some_static s sense (listed links seen.last) → false ≡ some_static s sense (listed links last)
front_none links seen last s sense back f e =
    let test : Declared → Bool = λ d. is_static_at_file s sense d.node in
    let whole : listed links seen.last ≡ listed links last ++ f.link.declared ∷ [] =
    ap (listed links) f.known ∙ (listed-step links f.place f.link f.is back ∙ ap (λ (o : Option ℕ). listed links o ++ f.link.declared ∷ []) f.front) in
    or_none (some_static s sense (listed links last)) (test f.link.declared)
    (sym f.none ∙ (e ∙ (ap (some_static s sense) whole ∙ some-push s sense test (listed links last) f.link.declared)))

-- what stands behind an internal declaration doesn't matter to the first one
pub first_cut : (s : Source) (sense : ℕ → Sense) (leaf : ℕ) (xs more : List Declared) (d : Declared) → is_internal s sense d.node ≡ true
    → first_internal s sense leaf ((xs ++ d ∷ []) ++ more) ≡ first_internal s sense d.node xs
first_cut s sense leaf xs more d e =
    let test : Declared → Bool = λ x. is_internal s sense x.node in
    let here : keep s sense test (d ∷ more) ≡ d ∷ keep s sense test more = ap (λ (b : Bool). cond b (d ∷ keep s sense test more) (keep s sense test more)) e in
    ap (λ (l : List Declared). first_of s sense leaf (keep s sense test l)) (append_assoc xs (d ∷ []) more)
    ∙ (ap (first_of s sense leaf) (kept-append s sense test xs (d ∷ more) ∙ ap (λ (l : List Declared). keep s sense test xs ++ l) here)
    ∙ first_behind s sense leaf (keep s sense test xs) (keep s sense test more) d)
