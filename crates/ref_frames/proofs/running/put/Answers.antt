use Rattle.std.proofs.Common.{rules, arith, ◌≡◌, ℕ, ◌<◌, ◌≤◌, List, [], ◌∷◌, ◌++◌, length, Option, Some, slice_get, slice_set, ap, sym, subst, ◌∙◌}
use Rattle.std.proofs.lemmas.Option.{slice_get-get_or}
use Rattle.c_types.specs.declared.key.ObjectKey.{ObjectKey}
use Rattle.c_types.specs.declared.key.ObjectKey.TheVariants.{Entity}
use Rattle.ref_frames.specs.Running.{owner_in}
use Rattle.ref_frames.specs.Made.{ArePutIn, entity_at}
use Rattle.ref_frames.proofs.Owned.{put_one, put_past, is_entity}
use Rattle.ref_frames.proofs.running.put.Goals as goal

pub returns-in_ok-push-clause-put : goal.returns-in_ok-push-clause-put
returns-in_ok-push-clause-put c =
    λ keys put.
    let lists = c.args.lists.now.items in
    let f = c.in-Some-owner_of.f in
    let old = c.index_mut.result.now in
    let is_key : c.args.key ≡ Entity c.in-Some.e = is_entity c.args.key c.in-Some.e c.in-Some.ensures in
    let within : f < length lists = first_of (omega arith, search rules) in
    let there : slice_get lists f ≡ Some old = slice_get-get_or lists f old within ∙ ap Some (sym c.index_mut.ensures.value) in
    let new : c.push.new.self ≡ old ++ c.in-Some.e ∷ [] = c.in_ok-push.ensures.ok in
    let owned = put_one c.args.entities.now keys c.in-Some.e lists f old (sym c.in-Some-owner_of.ensures) there put in
    subst (λ (xs : List ℕ). ArePutIn c.args.entities.now (keys ++ c.args.key ∷ []) (slice_set lists f xs)) (sym new)
    (subst (λ (k : ObjectKey). ArePutIn c.args.entities.now (keys ++ k ∷ []) (slice_set lists f (old ++ c.in-Some.e ∷ []))) (sym is_key) owned)

pub returns-else-f-len-clause-put : goal.returns-else-f-len-clause-put
returns-else-f-len-clause-put c =
    λ keys put.
    let past : length c.args.lists.now.items ≤ c.in-Some-owner_of.f = first_of (omega arith, search rules) in
    put_past c.args.entities.now keys c.args.key c.args.lists.now.items c.in-Some-owner_of.f
    (ap (λ (o : Option ℕ). owner_in (entity_at c.args.entities.now o)) (sym c.in-Some.ensures) ∙ sym c.in-Some-owner_of.ensures)
    past put
