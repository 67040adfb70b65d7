use Rattle.std.proofs.Common.{◌≡◌, ◌↔◌, ℕ, Bool, false, IsTrue, List, length, Some, slice_get, refl, sym, subst, ap, ◌∙◌}
use Rattle.std.proofs.lemmas.Option.{slice_get_read}
use Rattle.stop_places.specs.Far.{IsFar, AreFar}
use Rattle.stop_places.proofs.Pushed.{each_pushed, length_pushed}
use Rattle.stop_places.proofs.far.far_places.Goals as goal

pub loop-n-preserved : goal.loop-n-preserved
loop-n-preserved c =
    let nodes = c.args.nodes.now in
    let n : ℕ = c.loop-n.n in
    let far : List Bool = c.loop-n.far.items in
    let node = c.index-nodes-n.result in
    let at : slice_get nodes n ≡ Some node = slice_get_read nodes (length nodes) n node refl c.loop-n-test.true c.index-nodes-n.is in
    let so_far = c.loop-n.invariant in
    let value : c.as_slice.result.now ≡ far = c.as_slice.ensures.value in
    let long : length c.as_slice.result.now ≡ n = ap length value ∙ so_far.each in
    let are : AreFar nodes (length c.as_slice.result.now) c.as_slice.result.now =
    subst (λ (xs : List Bool). AreFar nodes (length xs) xs) (sym value) (subst (λ (k : ℕ). AreFar nodes k far) (sym so_far.each) so_far)
    in
    let here : IsTrue c.is_far-is.result ↔ IsFar nodes n =
    subst (λ (k : ℕ). IsTrue c.is_far-is.result ↔ IsFar nodes k) long
    (c.is_far-is.ensures nodes (subst (λ (k : ℕ). slice_get nodes k ≡ Some node) (sym long) at) are)
    in
    record {
      each = length_pushed far c.push.new.self.items c.is_far-is.result n c.in_ok-push.ensures.items so_far.each;
      right = each_pushed (λ k b. IsTrue b ↔ IsFar nodes k) far c.push.new.self.items c.is_far-is.result false n c.in_ok-push.ensures.items so_far.each so_far.right here;
    }
