use Rattle.std.proofs.Common.{◌≡◌, ℕ, ◌+◌, ◌<◌, ◌∷◌, [], Some, length, length-append, get_or, refl, sym, ap, subst, ◌∙◌, arith}
use Rattle.std.specs.Option.{option_map}
use Rattle.std.proofs.lemmas.Option.{slice_get-map, slice_get_read}
use Rattle.std.proofs.lemmas.List.{length-map}
use Rattle.std.specs.List.{slice_get}
use Rattle.c_types.specs.Index.{number_at}
use Rattle.unit_link.specs.link_program.Alike.{AreAlike, IsLeader}
use Rattle.unit_link.proofs.link_program.Leading.{leader_next, knows_more, led_more, alike_leaders}
use Rattle.link_merge.specs.Keys.{key_of, keys_of}
use Rattle.link_merge.proofs.index.leaders_of_keys.Goals as goal

pub loop-here-preserved : goal.loop-here-preserved
loop-here-preserved c =
    let keys = c.args.keys.now in
    let labels = keys_of keys in
    let i = c.loop-here.here in
    let b = c.loop-here.invariant in
    let key = c.index-keys-here.result in
    let o = key_of key in
    let there = slice_get_read keys (length keys) i key refl c.loop-here-test.true c.index-keys-here.is in
    let at : slice_get labels i ≡ Some o = slice_get-map key_of keys i ∙ ap (option_map key_of) there in
    let x = c.in_ok-leader.leader in
    let items = c.in_ok-push.ensures.items in
    let leader = leader_next labels i (number_at c.loop-here.index) o x b.knows at c.in_ok-leader.ensures.first in
    record {
      knows = knows_more labels i (number_at c.loop-here.index) (number_at c.first_keyed.new.index) o b.knows at c.in_ok-leader.ensures.known;
      all = ap length items ∙ (length-append c.loop-here.list.items (x ∷ []) ∙ ap (λ n. n + 1) b.all);
      each = subst (λ xs. (k : ℕ) → k < i + 1 → IsLeader labels k (get_or xs k 0)) (sym items) (led_more labels c.loop-here.list.items x i b.all b.each leader);
    }

pub returns-clause-alike : goal.returns-clause-alike
returns-clause-alike c =
    let many : length (keys_of c.args.keys.now) ≡ length c.args.keys.now = length-map c.args.keys.now key_of in
    record { all = omega (arith, c.loop-here.invariant.all); each = λ k l. c.loop-here.invariant.each k (omega arith) }

pub returns-clause-leaders : goal.returns-clause-leaders
returns-clause-leaders c =
    let many : length (keys_of c.args.keys.now) ≡ length c.args.keys.now = length-map c.args.keys.now key_of in
    let alike : AreAlike (keys_of c.args.keys.now) c.loop-here.list.items = record { all = omega (arith, c.loop-here.invariant.all); each = λ k l. c.loop-here.invariant.each k (omega arith) } in
    alike_leaders (keys_of c.args.keys.now) c.loop-here.list.items alike
