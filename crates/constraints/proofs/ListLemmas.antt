-- Functions and constraints, one more.
use Rattle.std.proofs.Common.{arith, ◌≡◌, ℕ, ◌+◌, ◌<◌, ◌≤◌, List, [], ◌∷◌, ◌++◌, Some, length, take, get_or, ap, ◌∙◌}
use Rattle.std.specs.List.{All, AllZip, enumerate_from}
use Rattle.std.proofs.lemmas.List.{take_more, take_all}
use Rattle.std.proofs.lemmas.List.FromFn.{length-enumerate_from, get_or-enumerate_from}
use Rattle.std.proofs.lemmas.Option.{slice_get-get_or, get_or_from_slice_get}
use Rattle.std.specs.List.{slice_get}
use Rattle.c_types.specs.declared.key.ObjectKey.{ObjectKey}
use Rattle.core_tree.specs.Typed.{CoreTrees}
use Rattle.core_tree.specs.Range.{InRange}
use Rattle.sol_model.specs.declared.system.Function.{Function}
use Rattle.obj_space.specs.View.{SpaceView}
use Rattle.normal_form.specs.Facts.{IsFunctionFact}
use Rattle.call_sites.proofs.SiteLemmas.{zip_push}

pub types_all : (u : CoreTrees) → InRange u → All (λ entity. entity.ty.0 < length u.types.terms) u.entities
types_all u range k d lt = range.entity_types k (get_or u.entities k d) (slice_get-get_or u.entities k d lt)

abbrev pub FactAt : CoreTrees → SpaceView → ℕ × ObjectKey → Function → Type 0
FactAt u s entry function = IsFunctionFact u s entry.0 entry.1 function

pub fact_more : (u : CoreTrees) (s : SpaceView) (keys : List ObjectKey) (i : ℕ) (old new : List Function) (fact : Function) (key : ObjectKey) → i < length keys → slice_get keys i ≡ Some key → IsFunctionFact u s i key fact → new ≡ old ++ fact ∷ [] → AllZip (FactAt u s) (take i (enumerate_from 0 keys)) old → AllZip (FactAt u s) (take (i + 1) (enumerate_from 0 keys)) new
fact_more u s keys i old new fact key lt at is e h =
    let long : i < length (enumerate_from 0 keys) = omega (arith, length-enumerate_from 0 keys) in
    let here : get_or (enumerate_from 0 keys) i (0, key) ≡ (i, key) = get_or-enumerate_from 0 keys i (0, key) lt ∙ (ap (λ (n : ℕ). (n, get_or keys i key)) (omega arith) ∙ ap (λ (k : ObjectKey). (i, k)) (get_or_from_slice_get keys i key key at)) in
    rw (take_more (enumerate_from 0 keys) i (0, key) long, here, e) (zip_push (FactAt u s) (take i (enumerate_from 0 keys)) old (i, key) fact h is)

pub facts_end : (u : CoreTrees) (s : SpaceView) (keys : List ObjectKey) (i : ℕ) (facts : List Function) → length keys ≤ i → AllZip (FactAt u s) (take i (enumerate_from 0 keys)) facts → AllZip (FactAt u s) (enumerate_from 0 keys) facts
facts_end u s keys i facts le h = rw (take_all i (enumerate_from 0 keys) (omega (arith, length-enumerate_from 0 keys))) at h
