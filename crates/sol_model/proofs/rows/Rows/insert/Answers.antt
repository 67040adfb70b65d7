use Rattle.std.proofs.Common.{◌<◌, ◌^◌, get_or, ◌+◌, ◌*◌, ◌/◌}
use Rattle.sol_model.proofs.Shown.{Adds-with_bit, room_with_bit}
use Rattle.sol_model.proofs.rows.Rows.insert.Goals as goal

pub returns-clause-added : goal.returns-clause-added
returns-clause-added c =
    rw (c.set.ensures, c.word_at-word.ensures, c.as_slice.ensures)
    (Adds-with_bit c.args.self.now.width c.args.self.now.words c.args.row c.args.location c.requires.row c.requires.location)

pub returns-clause-less_room : goal.returns-clause-less_room
returns-clause-less_room c =
    let small : get_or c.args.self.now.words (c.args.row * c.args.self.now.width + c.args.location / 64) 0 < 2 ^ 64 =
    rw (c.word_at-word.ensures, c.as_slice.ensures) at c.word_at-word.type_inv in
    rw (c.set.ensures, c.word_at-word.ensures, c.as_slice.ensures)
    (room_with_bit c.args.self.now.width c.args.self.now.words c.args.row c.args.location c.requires.row c.requires.location c.requires.lacks small)
