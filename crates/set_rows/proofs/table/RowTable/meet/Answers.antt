use Rattle.std.proofs.Common.{◌≡◌, ◌<◌, true, [], length, sym, subst, ◌∙◌, arith}
use Rattle.atomic_table.specs.Table.{Me}
use Rattle.set_rows.specs.declared.view.View.{View}
use Rattle.set_rows.specs.Views.{words_of}
use Rattle.set_rows.proofs.Keeps.{meets, met_sized, met_part, met_told}
use Rattle.set_rows.proofs.table.RowTable.meet.Goals as goal

pub join_seat-requires : goal.join_seat-requires
join_seat-requires c = let t = c.args.self.now in (
  c.requires.0.0,
  c.requires.1.0,
  c.args.from.bare,
  (let e = t.sized in omega arith),
  meets t.table.shared.key c.args.into.now.seat.id c.args.into.now.seat.me.0 c.args.from.seat.id c.args.from.seat.me.0 c.args.into.now.live c.args.from.live,
)

pub invariant_of-into : goal.invariant_of-into
invariant_of-into c =
    let v = c.args.into.now in
    let w = c.args.from in
    subst (λ (m : Me (Unit {0}) View). record { live : m.0.live ≡ true; told : m.0.last ≡ 1 → m.0.knows ≡ true; sized : length m.0.seen ≡ words_of m.0.system; some_part : 0 < m.0.part; bare : m.1 ≡ [] }) (sym c.join_seat.ensures.2)
    record {
      live = v.live;
      told = met_told v.seat.me.0 w.seat.me.0 v.told;
      sized = met_sized v.seat.me.0 w.seat.me.0 v.sized w.sized (c.requires.1.1 ∙ sym c.requires.0.1);
      some_part = met_part v.seat.me.0 w.seat.me.0 v.some_part;
      bare = v.bare;
    }
