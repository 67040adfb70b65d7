use Rattle.std.proofs.Common.{arith, ◌≡◌, ℕ, ◌<◌, ◌≤◌, List, [], length, take, map, filter, ap, sym, subst, ◌∙◌}
use Rattle.std.specs.List.{range_with_len}
use Rattle.std.proofs.lemmas.List.{take_more}
use Rattle.std.proofs.lemmas.List.FromFn.{length-map-range_with_len}
use Rattle.c_types.proofs.Members.{take_all}
use Rattle.c_types.specs.declared.key.ObjectKey.{ObjectKey}
use Rattle.core_tree.specs.Typed.{CoreTrees}
use Rattle.row_numbers.specs.Functions.{is_owned_by, all_parameters}
use Rattle.obj_space.specs.View.{view_of}
use Rattle.ref_frames.specs.Running.{entity_of}
use Rattle.ref_frames.specs.Made.{ArePutIn, entity_at}
use Rattle.ref_frames.proofs.Owned.{put_first, owned_same}
use Rattle.ref_frames.proofs.running.parameters_of.Goals as goal

pub loop-key-init : goal.loop-key-init
loop-key-init c =
    let entities = c.args.entities.now in
    let n = length entities in
    let made : c.in_ok-lists.lists.items ≡ map {B = List ℕ} (λ k. []) (range_with_len 0 n) = c.in_ok-lists.ensures in
    record {
      put = subst (λ (ls : List (List ℕ)). ArePutIn entities [] ls) (sym made) (put_first entities (range_with_len 0 n));
      many = ap length made ∙ length-map-range_with_len {X = List ℕ} (λ k. []) 0 n;
    }

pub loop-key-preserved : goal.loop-key-preserved
loop-key-preserved c =
    let keys = c.deref-key-items.result.now in
    let i = c.loop-key.key-index in
    let within : i < length keys = omega arith in
    record {
      put = subst (λ (ks : List ObjectKey). ArePutIn c.args.entities.now ks c.put.new.lists.items)
          (sym (take_more keys i _ within)) (c.in_ok-put.ensures.put (take i keys) c.loop-key.invariant.put);
      many = c.in_ok-put.ensures.many ∙ c.loop-key.invariant.many;
    }

pub returns : goal.returns
returns c =
    λ types nodes.
    let entities = c.args.entities.now in
    let u : CoreTrees = record { types = types; nodes = nodes; entities = entities } in
    let keys = c.deref-key-items.result.now in
    let past : length keys ≤ c.loop-key.key-index = omega arith in
    let all : take c.loop-key.key-index keys ≡ all_parameters u (view_of c.args.space.now) =
    take_all keys c.loop-key.key-index past ∙ (c.deref-key-items.ensures.value ∙ c.in_ok-all.ensures.keys) in
    record {
      each = λ f list at.
          c.loop-key.invariant.put f list at
          ∙ (ap (λ (ks : List ObjectKey). filter (λ key. is_owned_by f (entity_at entities (entity_of key))) ks) all
          ∙ owned_same u f (all_parameters u (view_of c.args.space.now)));
      many = c.loop-key.invariant.many;
      few = c.in_ok-all.ensures.few;
    }
